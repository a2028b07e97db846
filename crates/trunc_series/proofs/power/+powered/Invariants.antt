use Rattle.trunc_series.proofs.power.+powered.Given as goal

abbrev pub decreases-powered : goal.decreases-powered
decreases-powered l = l.n
