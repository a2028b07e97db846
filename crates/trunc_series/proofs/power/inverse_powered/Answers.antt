use Rattle.std.proofs.Common.{◌≡◌, refl}
use Rattle.std.specs.Prelude.{not}
use Rattle.std.proofs.lemmas.Result.{IfOk-weaker}
use Rattle.scattering.specs.Series.{key_eq, unit, rest, minus, inverse}
use Rattle.scattering.specs.Collections.{Every}
use Rattle.trunc_series.specs.declared.arithmetic.Arithmetic.TheVariants.{Wrapping}
use Rattle.trunc_series.specs.Shown.{sum_of}
use Rattle.trunc_series.specs.Reduced.{GrowsSlowly}
use Rattle.trunc_series.proofs.Terms.{sum_of-where}
use Rattle.trunc_series.proofs.PowerLaws.{rest-tame, powers-tame, reduced-keys}
use Rattle.trunc_series.proofs.PowersNear.{tame-near, tame-powers}
use Rattle.trunc_series.proofs.Inverses.{rest-small, minus-own, minus-tame, own-reduced, pow-reduced}
use Rattle.trunc_series.proofs.power.inverse_powered.Goals as goal

pub negated-requires : goal.negated-requires
negated-requires c = rw (c.as_slice.ensures.value, c.in_ok-others.ensures, sum_of-where (λ t. not (key_eq t.0 unit)) c.args.f.now) (rest-small c.args.order (sum_of c.args.f.now) c.requires.valid)

pub powers_summed-requires-clause-reduced : goal.powers_summed-requires-clause-reduced
powers_summed-requires-clause-reduced c =
    rw (c.as_slice-2.ensures.value, c.in_ok-others-2.ensures, c.as_slice.ensures.value, c.in_ok-others.ensures, sum_of-where (λ t. not (key_eq t.0 unit)) c.args.f.now)
    (minus-own c.args.order (sum_of c.args.f.now) c.requires.valid)

pub powers_summed-requires-clause-tame : goal.powers_summed-requires-clause-tame
powers_summed-requires-clause-tame c =
    rw (c.as_slice-2.ensures.value, c.in_ok-others-2.ensures, c.as_slice.ensures.value, c.in_ok-others.ensures, sum_of-where (λ t. not (key_eq t.0 unit)) c.args.f.now)
    (minus-tame (sum_of c.args.f.now) (rest-tame (sum_of c.args.f.now) c.requires.near c.requires.others))

pub powered-requires-clause-reduced : goal.powered-requires-clause-reduced
powered-requires-clause-reduced c = rw c.as_slice-3.ensures.value (own-reduced Wrapping c.args.order _ _ c.in_ok-inverse.ensures)

tame : (c : goal.After-as_slice-3) → Every (λ t. GrowsSlowly t.0) (sum_of c.in_ok-inverse.inverse.items)
tame c =
    let e : sum_of c.as_slice-2.result.now ≡ minus (rest (sum_of c.args.f.now)) =
    rw (c.as_slice-2.ensures.value, c.in_ok-others-2.ensures, c.as_slice.ensures.value, c.in_ok-others.ensures, sum_of-where (λ t. not (key_eq t.0 unit)) c.args.f.now) refl in
    reduced-keys Wrapping GrowsSlowly c.args.order (sum_of c.in_ok-inverse.inverse.items) (inverse c.args.order (sum_of c.args.f.now)) (rw e at c.in_ok-inverse.ensures)
    (powers-tame c.args.order (minus (rest (sum_of c.args.f.now))) c.args.order (minus-tame (sum_of c.args.f.now) (rest-tame (sum_of c.args.f.now) c.requires.near c.requires.others)))

pub powered-requires-clause-near : goal.powered-requires-clause-near
powered-requires-clause-near c = rw c.as_slice-3.ensures.value (tame-near c.args.order (sum_of c.in_ok-inverse.inverse.items) c.requires.valid.order (tame c) c.in_ok-inverse.ensures.series.low)

pub powered-requires-clause-powers : goal.powered-requires-clause-powers
powered-requires-clause-powers c = rw c.as_slice-3.ensures.value (tame-powers c.args.order (sum_of c.in_ok-inverse.inverse.items) c.args.n c.requires.valid.order (tame c))

pub returns : goal.returns
returns c =
    let e : sum_of c.as_slice-2.result.now ≡ minus (rest (sum_of c.args.f.now)) =
    rw (c.as_slice-2.ensures.value, c.in_ok-others-2.ensures, c.as_slice.ensures.value, c.in_ok-others.ensures, sum_of-where (λ t. not (key_eq t.0 unit)) c.args.f.now) refl in
    IfOk-weaker c.powered.result _ _ (λ r h. pow-reduced Wrapping c.args.order (sum_of c.in_ok-inverse.inverse.items) (inverse c.args.order (sum_of c.args.f.now)) (rw e at c.in_ok-inverse.ensures) c.args.n (sum_of r.items) (rw c.as_slice-3.ensures.value at h)) c.powered.ensures
