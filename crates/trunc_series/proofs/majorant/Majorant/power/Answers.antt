use Rattle.std.proofs.Common.{refl, inl, inr}
use Rattle.scattering.specs.Series.{pow}
use Rattle.trunc_series.specs.Shown.{sum_of, HasNearTerms}
use Rattle.trunc_series.proofs.Majorants.{MadeMajorant, own-majorant, made-majorant}
use Rattle.trunc_series.proofs.Products.{near-keys}
use Rattle.trunc_series.proofs.PowerLaws.{rest-tame}
use Rattle.trunc_series.proofs.PowersNear.{tame-powers, near-powers}
use Rattle.trunc_series.proofs.majorant.Majorant.power.Goals as goal

pub powered-requires-clause-reduced : goal.powered-requires-clause-reduced
powered-requires-clause-reduced c = rw c.as_slice.ensures.value (own-majorant c.self.inside.order (sum_of c.self.inside.terms.items) c.self.invariant)

pub powered-requires-clause-near : goal.powered-requires-clause-near
powered-requires-clause-near c = rw c.as_slice.ensures.value (near-keys (sum_of c.self.inside.terms.items) (rw (← c.self.view_is) at c.requires.near))

pub powered-requires-clause-powers : goal.powered-requires-clause-powers
powered-requires-clause-powers c =
    let near : HasNearTerms (sum_of c.self.inside.terms.items) = rw (← c.self.view_is) at c.requires.near in
    rw c.as_slice.ensures.value
    (elim (rw (← c.self.view_is) at c.requires.near_power) [
      | inl others ↦ tame-powers c.self.inside.order (sum_of c.self.inside.terms.items) c.args.n c.self.invariant.order (rest-tame (sum_of c.self.inside.terms.items) near others)
      | inr keys ↦ near-powers c.self.inside.order (sum_of c.self.inside.terms.items) c.args.n c.self.invariant.order c.self.invariant near keys
    ])

made : (c : goal.After-result-1) → MadeMajorant c.self.inside.order (sum_of c.in_ok-terms.terms.items) (pow c.self.inside.order (sum_of c.self.inside.terms.items) c.args.n)
made c = made-majorant c.self.inside.order _ (pow c.self.inside.order (sum_of c.self.inside.terms.items) c.args.n) c.self.invariant.order (rw c.as_slice.ensures.value at c.in_ok-terms.ensures)

pub invariant_of-result : goal.invariant_of-result
invariant_of-result c = (made c).0

pub returns : goal.returns
returns c = rw (← c.self.view_is) record { order = refl; series = (made c).0.series; capped = (made c).1 }
