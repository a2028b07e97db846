use Rattle.std.proofs.Common.{refl}
use Rattle.scattering.specs.Series.{mul}
use Rattle.trunc_series.specs.Shown.{sum_of}
use Rattle.trunc_series.proofs.Exact.{Made}
use Rattle.trunc_series.proofs.Products.{made-product, valid-factor}
use Rattle.trunc_series.proofs.series.Series.mul.Goals as goal

pub multiplied-requires-clause-left : goal.multiplied-requires-clause-left
multiplied-requires-clause-left c = rw c.as_slice-left.ensures.value (valid-factor c.self.inside.order _ c.self.invariant (rw (← c.self.view_is) at c.requires.near))

pub multiplied-requires-clause-right : goal.multiplied-requires-clause-right
multiplied-requires-clause-right c = rw c.as_slice-right.ensures.value (valid-factor c.other.inside.order _ c.other.invariant (rw (← c.other.view_is) at c.requires.near_too))

made : (c : goal.After-result-1) → Made c.self.inside.order (sum_of c.in_ok-terms.terms.items) (mul c.self.inside.order (sum_of c.self.inside.terms.items) (sum_of c.other.inside.terms.items))
made c =
    made-product c.self.inside.order (sum_of c.self.inside.terms.items) (sum_of c.other.inside.terms.items) _ c.self.invariant.order
    (rw (← c.self.view_is, ← c.other.view_is) at c.requires.mass)
    (rw (c.as_slice-left.ensures.value, c.as_slice-right.ensures.value) at c.in_ok-terms.ensures)

pub invariant_of-result : goal.invariant_of-result
invariant_of-result c = (made c).0

pub returns : goal.returns
returns c = rw (← c.self.view_is, ← c.other.view_is) record { order = refl; series = (made c).0.series; same = (made c).1 }
