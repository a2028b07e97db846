use Rattle.std.proofs.Common.{refl}
use Rattle.scattering.specs.Series.{mul}
use Rattle.trunc_series.specs.Shown.{sum_of}
use Rattle.trunc_series.proofs.Majorants.{MadeMajorant, made-majorant}
use Rattle.trunc_series.proofs.majorant.Majorant.mul.Goals as goal

made : (c : goal.After-result-1) → MadeMajorant c.self.inside.order (sum_of c.in_ok-terms.terms.items) (mul c.self.inside.order (sum_of c.self.inside.terms.items) (sum_of c.other.inside.terms.items))
made c = made-majorant c.self.inside.order _ (mul c.self.inside.order (sum_of c.self.inside.terms.items) (sum_of c.other.inside.terms.items)) c.self.invariant.order
    (rw (c.as_slice-left.ensures.value, c.as_slice-right.ensures.value) at c.in_ok-terms.ensures)

pub invariant_of-result : goal.invariant_of-result
invariant_of-result c = (made c).0

pub returns : goal.returns
returns c = rw (← c.self.view_is, ← c.other.view_is) record { order = refl; series = (made c).0.series; capped = (made c).1 }
