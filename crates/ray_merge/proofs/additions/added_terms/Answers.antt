use Rattle.std.proofs.Common.{◌≢◌, ◌+◌, [], ◌∷◌, ◌++◌, take, rules, refl, sym, ap, ◌∙◌, subst, to_z, of_z, FitsSigned}
use Rattle.std.specs.Int.{w128}
use Rattle.std.proofs.lemmas.Int.{to_z-of_z}
use Rattle.scattering.specs.Correction.{Lie}
use Rattle.std.specs.Prelude.{ℤ, nat_abs, ◌≤◌}
use Rattle.limits.specs.Limits.{largest_weight}
use Rattle.weight_theory.specs.Laws.{IsWholeValue}
use Rattle.ray_merge.specs.Additions.{AreAdded}
use Rattle.trunc_series.proofs.Terms.{sum_of-append}
use Rattle.std.proofs.lemmas.List.{take_all}
use Rattle.scattering.specs.Collections.{In}
use Rattle.scattering.specs.Series.{origin}
use Rattle.scattering.specs.Correction.{IsWhole}
use Rattle.scattering.proofs.Lists.{Every-at}
use Rattle.trunc_series.specs.Shown.{key_of, sum_of}
use Rattle.vertex_lie.specs.Shown.{coefficient_of, lie_of}
use Rattle.ray_merge.proofs.Values.{lie-in, lie-more, added-push, added-nonzero}
use Rattle.ray_merge.proofs.additions.added_terms.Goals as goal

pub added_value-requires-clause-exponent : goal.added_value-requires-clause-exponent
added_value-requires-clause-exponent c =
    Every-at (λ t. t.0.exp ≢ origin) c.args.h.now (coefficient_of c.t-item.result) c.terms-terms.ensures.element.exponents (subst (In (coefficient_of c.t-item.result)) c.terms-terms.ensures.terms (lie-in c.terms-terms.result.now c.loop-t.t-index c.t-item.result c.loop-t-test.true c.t-item.is))

pub added_value-requires-clause-whole : goal.added_value-requires-clause-whole
added_value-requires-clause-whole c =
    Every-at IsWhole c.args.h.now (coefficient_of c.t-item.result) c.requires.whole (subst (In (coefficient_of c.t-item.result)) c.terms-terms.ensures.terms (lie-in c.terms-terms.result.now c.loop-t.t-index c.t-item.result c.loop-t-test.true c.t-item.is))

pub added_value-requires-clause-small : goal.added_value-requires-clause-small
added_value-requires-clause-small c v x =
    let i = subst (In (coefficient_of c.t-item.result)) c.terms-terms.ensures.terms (lie-in c.terms-terms.result.now c.loop-t.t-index c.t-item.result c.loop-t-test.true c.t-item.is) in
    Every-at (λ t. (v : ℤ) → IsWholeValue t v → nat_abs v ≤ largest_weight) c.args.h.now (coefficient_of c.t-item.result) c.requires.light i v x

pub loop-t-preserved : goal.loop-t-preserved
loop-t-preserved c =
    let f : FitsSigned w128 c.added_value.result = search rules in
    subst (AreAdded (lie_of (take (c.loop-t.t-index + 1) c.terms-terms.result.now))) (sym (ap sum_of c.in_ok-push.ensures.items ∙ sum_of-append c.loop-t.out.items _))
    (subst (λ (h : Lie). AreAdded h (sum_of c.loop-t.out.items ++ (key_of c.t-item.result.0, to_z w128 (of_z w128 c.added_value.result)) ∷ [])) (sym (lie-more c.terms-terms.result.now c.loop-t.t-index c.t-item.result c.loop-t-test.true c.t-item.is))
    (added-push (lie_of (take c.loop-t.t-index c.terms-terms.result.now)) (sum_of c.loop-t.out.items) (coefficient_of c.t-item.result) (key_of c.t-item.result.0, to_z w128 (of_z w128 c.added_value.result)) c.loop-t.invariant refl
    (rw (to_z-of_z w128 c.added_value.result f) c.added_value.ensures)))

pub returns-clause-nonzero : goal.returns-clause-nonzero
returns-clause-nonzero c = added-nonzero c.args.h.now (sum_of c.loop-t.out.items) (subst (λ (h : Lie). AreAdded h (sum_of c.loop-t.out.items)) (ap lie_of (take_all c.loop-t.t-index c.terms-terms.result.now c.loop-t-test.false) ∙ c.terms-terms.ensures.terms) c.loop-t.invariant) c.terms-terms.ensures.element.exponents c.terms-terms.ensures.element.nonzero
