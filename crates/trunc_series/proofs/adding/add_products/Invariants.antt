use Rattle.std.proofs.Common.{◌++◌, take, zip}
use Rattle.trunc_series.specs.Shown.{sum_of}
use Rattle.trunc_series.specs.Sums.{StandsFor}
use Rattle.trunc_series.proofs.TermLists.{products}
use Rattle.trunc_series.proofs.adding.add_products.Given as goal

abbrev pub invariant-loop-i : goal.invariant-loop-i
invariant-loop-i l = StandsFor l.rule (sum_of l.terms.items) (products l.t (take l.i (zip l.keys l.values)) ++ sum_of l.fn.terms.items)
