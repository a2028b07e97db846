use Rattle.std.proofs.Common.{refl, subst, ℕ, ◌++◌}
use Rattle.trunc_series.specs.Shown.{sum_of}
use Rattle.trunc_series.specs.Capped.{IsMajorant}
use Rattle.trunc_series.proofs.Majorants.{MadeMajorant, own-majorant, made-majorant}
use Rattle.trunc_series.proofs.majorant.Majorant.add.Goals as goal

made : (c : goal.After-result-1) → MadeMajorant c.self.inside.order (sum_of c.in_ok-terms.terms.items) (sum_of c.self.inside.terms.items ++ sum_of c.other.inside.terms.items)
made c = made-majorant c.self.inside.order _ (sum_of c.self.inside.terms.items ++ sum_of c.other.inside.terms.items) c.self.invariant.order
    ((rw (c.as_slice-left.ensures.value, c.as_slice-right.ensures.value) at c.in_ok-terms.ensures) c.self.inside.order _ _ (own-majorant c.self.inside.order _ c.self.invariant)
    (own-majorant c.self.inside.order _ (subst (λ (n : ℕ). IsMajorant n (sum_of c.other.inside.terms.items)) (rw (← c.self.view_is, ← c.other.view_is) at c.requires) c.other.invariant)))

pub invariant_of-result : goal.invariant_of-result
invariant_of-result c = (made c).0

pub returns : goal.returns
returns c = rw (← c.self.view_is, ← c.other.view_is) record { order = refl; series = (made c).0.series; capped = (made c).1 }
