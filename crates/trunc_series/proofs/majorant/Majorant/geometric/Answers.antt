use Rattle.std.proofs.Common.{refl}
use Rattle.std.specs.Prelude.{not}
use Rattle.scattering.specs.Series.{key_eq, unit, rest, geometric}
use Rattle.trunc_series.specs.Shown.{sum_of}
use Rattle.trunc_series.proofs.Majorants.{MadeMajorant, own-majorant, made-majorant}
use Rattle.trunc_series.proofs.Terms.{sum_of-where}
use Rattle.trunc_series.proofs.PowerLaws.{rest-tame}
use Rattle.trunc_series.proofs.Inverses.{majorant-rest, absolute-positive, tame-filter}
use Rattle.trunc_series.proofs.majorant.Majorant.geometric.Goals as goal

pub powers_summed-requires-clause-reduced : goal.powers_summed-requires-clause-reduced
powers_summed-requires-clause-reduced c =
    rw (c.as_slice-2.ensures.value, c.in_ok-others.ensures, c.as_slice.ensures.value, sum_of-where (λ t. not (key_eq t.0 unit)) c.self.inside.terms.items)
    (own-majorant c.self.inside.order (rest (sum_of c.self.inside.terms.items)) (majorant-rest c.self.inside.order (sum_of c.self.inside.terms.items) c.self.invariant))

pub powers_summed-requires-clause-tame : goal.powers_summed-requires-clause-tame
powers_summed-requires-clause-tame c =
    rw (c.as_slice-2.ensures.value, c.in_ok-others.ensures, c.as_slice.ensures.value, sum_of-where (λ t. not (key_eq t.0 unit)) c.self.inside.terms.items)
    (tame-filter (λ t. not (key_eq t.0 unit)) (sum_of c.self.inside.terms.items) (rest-tame (sum_of c.self.inside.terms.items) (rw (← c.self.view_is) at c.requires.near) (rw (← c.self.view_is) at c.requires.others)))

pub invariant_of-result : goal.invariant_of-result
invariant_of-result c =
    let made : MadeMajorant c.self.inside.order (sum_of c.in_ok-terms.terms.items) (geometric c.self.inside.order (sum_of c.self.inside.terms.items)) =
    made-majorant c.self.inside.order (sum_of c.in_ok-terms.terms.items) (geometric c.self.inside.order (sum_of c.self.inside.terms.items)) c.self.invariant.order
    (rw (absolute-positive (rest (sum_of c.self.inside.terms.items)) (majorant-rest c.self.inside.order (sum_of c.self.inside.terms.items) c.self.invariant).range)
    (rw (c.as_slice-2.ensures.value, c.in_ok-others.ensures, c.as_slice.ensures.value, sum_of-where (λ t. not (key_eq t.0 unit)) c.self.inside.terms.items) at c.in_ok-terms.ensures)) in
    made.0

pub returns : goal.returns
returns c =
    let made : MadeMajorant c.self.inside.order (sum_of c.in_ok-terms.terms.items) (geometric c.self.inside.order (sum_of c.self.inside.terms.items)) =
    made-majorant c.self.inside.order (sum_of c.in_ok-terms.terms.items) (geometric c.self.inside.order (sum_of c.self.inside.terms.items)) c.self.invariant.order
    (rw (absolute-positive (rest (sum_of c.self.inside.terms.items)) (majorant-rest c.self.inside.order (sum_of c.self.inside.terms.items) c.self.invariant).range)
    (rw (c.as_slice-2.ensures.value, c.in_ok-others.ensures, c.as_slice.ensures.value, sum_of-where (λ t. not (key_eq t.0 unit)) c.self.inside.terms.items) at c.in_ok-terms.ensures)) in
    rw (← c.self.view_is) record { order = refl; series = made.0.series; capped = made.1 }
