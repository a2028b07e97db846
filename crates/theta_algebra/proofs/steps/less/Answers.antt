use Rattle.std.proofs.Common.{sym, subst, ap, ◌∙◌, [], ◌∷◌, ◌++◌, ◌≤◌, arith}
use Rattle.std.specs.Prelude.{ℤ, pos, nat_abs, neg_ℤ}
use Rattle.std.proofs.lemmas.Int.{ints}
use Rattle.std.proofs.lemmas.Result.{IfOk-weaker}
use mir.Syntax.{w128}
use mir.Val.{to_z, of_z}
use Rattle.limits.specs.Limits.{largest_weight}
use Rattle.scattering.specs.Series.{mul, Sum}
use Rattle.trunc_series.specs.Shown.{sum_of}
use Rattle.trunc_series.specs.Reduced.{Terms, IsKeptAs}
use Rattle.trunc_series.specs.declared.arithmetic.Arithmetic.TheVariants.{Wrapping}
use Rattle.theta_algebra.specs.Steps.{taken_away, powers_with}
use Rattle.theta_algebra.proofs.LightTails.{as-is}
use Rattle.theta_algebra.proofs.steps.less.Goals as goal

small : (a : ℤ) → nat_abs a ≤ largest_weight → nat_abs (neg_ℤ a) ≤ largest_weight
small a h = omega (arith, ints, h)

pub returns : goal.returns
returns c =
    let items = c.as_slice.ensures.value ∙ c.in_ok-push.ensures.items ∙ ap (λ (ts : Terms). ts ++ (record { exp = record { a = pos 0; b = pos 0 }; powers = c.args.t.now.0.powers }, to_z w128 (of_z w128 c.opposite.result)) ∷ []) c.new-term.ensures.items in
    let negated = c.opposite.ensures ∙ ap neg_ℤ (as-is c.args.t.now.1 c.requires.small) in
    let value = as-is c.opposite.result (subst (λ (v : ℤ). nat_abs v ≤ largest_weight) (sym negated) (small c.args.t.now.1 c.requires.small)) ∙ negated in
    let term = ap sum_of items ∙ ap (λ (v : ℤ). powers_with c.args.t.now v) value in
    let product = subst (λ (f : Sum). IsKeptAs Wrapping c.args.limit (sum_of c.in_ok-product.product.items) (mul c.args.limit f (sum_of c.args.theta.now))) term c.in_ok-product.ensures in
    IfOk-weaker c.merged.result _ _ (λ r h f kept. h c.args.limit f (mul c.args.limit (taken_away c.args.t.now) (sum_of c.args.theta.now)) kept
    (subst (λ (ts : Terms). IsKeptAs Wrapping c.args.limit (sum_of ts) (mul c.args.limit (taken_away c.args.t.now) (sum_of c.args.theta.now))) (sym c.as_slice-2.ensures.value) product)) c.merged.ensures
