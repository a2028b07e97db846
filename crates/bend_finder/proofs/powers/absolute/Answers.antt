use Rattle.bend_finder.proofs.PowerMajorants.{cut-majorant}
use Rattle.bend_finder.proofs.powers.absolute.Goals as goal

pub returns : goal.returns
returns c = cut-majorant c.args.w.now c.args.most c.in_ok-low.low c.in_ok-absolute.absolute c.requires c.in_ok-low.ensures c.in_ok-absolute.ensures
