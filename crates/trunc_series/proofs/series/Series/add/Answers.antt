use Rattle.std.proofs.Common.{refl, ◌++◌}
use Rattle.trunc_series.specs.Shown.{sum_of}
use Rattle.trunc_series.proofs.Exact.{Made, made-sum}
use Rattle.trunc_series.proofs.series.Series.add.Goals as goal

made : (c : goal.After-result-1) → Made c.self.inside.order (sum_of c.in_ok-terms.terms.items) (sum_of c.self.inside.terms.items ++ sum_of c.other.inside.terms.items)
made c =
    made-sum c.self.inside.order c.other.inside.order (sum_of c.self.inside.terms.items) (sum_of c.other.inside.terms.items) _ c.self.invariant c.other.invariant
    (rw (← c.self.view_is, ← c.other.view_is) at c.requires.order) (rw (← c.self.view_is, ← c.other.view_is) at c.requires.mass)
    (rw (c.as_slice-left.ensures.value, c.as_slice-right.ensures.value) at c.in_ok-terms.ensures)

pub invariant_of-result : goal.invariant_of-result
invariant_of-result c = (made c).0

pub returns : goal.returns
returns c = rw (← c.self.view_is, ← c.other.view_is) record { order = refl; series = (made c).0.series; same = (made c).1 }
