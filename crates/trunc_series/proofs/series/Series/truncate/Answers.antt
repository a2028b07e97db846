use Rattle.std.proofs.Common.{refl}
use Rattle.scattering.specs.Series.{cut}
use Rattle.trunc_series.specs.Shown.{sum_of}
use Rattle.trunc_series.proofs.Exact.{Made, made-cut, sum_of-filter}
use Rattle.trunc_series.proofs.series.Series.truncate.Goals as goal

made : (c : goal.After-result-1) → Made c.args.order (sum_of c.in_ok-terms.terms.items) (cut c.args.order (sum_of c.self.inside.terms.items))
made c =
    rw (c.in_ok-terms.ensures, c.as_slice.ensures.value, sum_of-filter c.args.order c.self.inside.terms.items)
    (made-cut c.args.order c.self.inside.order (sum_of c.self.inside.terms.items) c.self.invariant (rw (← c.self.view_is) at c.requires))

pub invariant_of-result : goal.invariant_of-result
invariant_of-result c = (made c).0

pub returns : goal.returns
returns c = rw (← c.self.view_is) record { order = refl; series = (made c).0.series; same = (made c).1 }
