use Rattle.std.proofs.Common.{◌≡◌, ℕ, sym, subst, ap, refl, ◌∙◌, ◌-◌}
use Rattle.std.specs.Prelude.{◌==◌, filter}
use Rattle.std.proofs.lemmas.Result.{err_from_is_err_and}
use Rattle.scattering.specs.Series.{Sum, degree}
use Rattle.scattering.specs.ThetaProduct.{BeginsAt}
use Rattle.trunc_series.specs.Shown.{exp_of, key_of, sum_of}
use Rattle.trunc_series.specs.Reduced.{Terms, AddsUp}
use Rattle.trunc_series.specs.declared.arithmetic.Arithmetic.TheVariants.{Wrapping}
use Rattle.trunc_series.proofs.Terms.{at}
use Rattle.scatter_diagram.specs.Listed.{SeenDiagram}
use Rattle.broken_lines.specs.Traced.{IsTailsFault}
use Rattle.scattering.specs.Wall.{walls}
use Rattle.plane_geom.specs.Shown.{point_of}
use Rattle.theta_algebra.specs.KeptThetas.{AreKeptThetas}
use Rattle.theta_algebra.specs.Steps.{IsKnownDiagram, IsTermTaken}
use Rattle.theta_algebra.specs.declared.steps.Steps.{Steps}
use Rattle.theta_algebra.proofs.Stepping.{IsAdded, can-take, takes-none, takes-more, takes-all, heavy, fails}
use Rattle.theta_algebra.proofs.steps.step.Goals as goal

-- what was read and merged, seen by the list that the loop goes through
added : (d : ℕ) (before : Steps) (left family fresh new items b : Terms) → left ≡ before.left.items → family ≡ before.family.items → new ≡ filter (λ t. degree (key_of t.0) == d) left → fresh ≡ new → items ≡ new
    → AddsUp Wrapping family fresh b → IsAdded d before items b
added d before left family fresh new items b l f n i j adds = record {
  level = j ∙ n ∙ ap (λ (ts : Terms). filter (λ t. degree (key_of t.0) == d) ts) l;
  adds = subst (λ (ts : Terms). AddsUp Wrapping before.family.items ts b) (i ∙ sym j) (subst (λ (ts : Terms). AddsUp Wrapping ts fresh b) f adds);
}

pub take-requires-clause-given : goal.take-requires-clause-given
take-requires-clause-given c = subst (λ (e : SeenDiagram). IsKnownDiagram e c.args.limit) (sym c.loop-t.invariant.3) c.requires.given

pub take-requires-clause-kept : goal.take-requires-clause-kept
take-requires-clause-kept c =
    subst (λ (e : SeenDiagram). AreKeptThetas (walls e.diagram) (point_of c.args.at.now) c.loop-t.thetas) (sym c.loop-t.invariant.3) c.loop-t.invariant.2

pub take-requires-clause-term : goal.take-requires-clause-term
take-requires-clause-term c =
    let h = added c.args.d c.args.before c.as_slice.result.now c.as_slice-2.result.now c.as_slice-3.result.now c.in_ok-new.new.items c.as_slice-t-items.result.now c.in_ok-family.family.items
    c.as_slice.ensures.value c.as_slice-2.ensures.value c.in_ok-new.ensures c.as_slice-3.ensures.value c.as_slice-t-items.ensures.value c.in_ok-family.ensures in
    can-take c.args.tracers.now c.args.limit c.args.d c.args.at.now c.requires.given c.requires.degree c.args.before c.as_slice-t-items.result.now c.in_ok-family.family.items h
    c.requires.before.0 c.requires.before.1 c.requires.before.2 c.loop-t.t-index c.loop-t-test.true (sum_of c.loop-t.steps.family.items) c.loop-t.invariant.0

pub loop-t-init : goal.loop-t-init
loop-t-init c =
    let h = added c.args.d c.args.before c.as_slice.result.now c.as_slice-2.result.now c.as_slice-3.result.now c.in_ok-new.new.items c.as_slice-t-items.result.now c.in_ok-family.family.items
    c.as_slice.ensures.value c.as_slice-2.ensures.value c.in_ok-new.ensures c.as_slice-3.ensures.value c.as_slice-t-items.ensures.value c.in_ok-family.ensures in (
      refl,
      λ s first stage. takes-none c.args.tracers.now c.args.limit c.args.d c.args.at.now c.requires.given c.requires.degree c.args.before c.as_slice-t-items.result.now c.in_ok-family.family.items h
          s first stage record { family = c.in_ok-family.family; left = c.args.before.left; weight = c.args.before.weight } refl refl,
      c.requires.kept,
      refl,
    )

pub loop-t-preserved : goal.loop-t-preserved
loop-t-preserved c =
    let same = c.loop-t.invariant.3 in
    let taken = subst (λ (e : SeenDiagram). IsTermTaken (walls e.diagram) c.args.limit (point_of c.args.at.now) (at c.as_slice-t-items.result.now c.loop-t.t-index) c.loop-t.steps c.in_ok-steps.steps) same c.in_ok-steps.ensures.taken in
    let h = added c.args.d c.args.before c.as_slice.result.now c.as_slice-2.result.now c.as_slice-3.result.now c.in_ok-new.new.items c.as_slice-t-items.result.now c.in_ok-family.family.items
    c.as_slice.ensures.value c.as_slice-2.ensures.value c.in_ok-new.ensures c.as_slice-3.ensures.value c.as_slice-t-items.ensures.value c.in_ok-family.ensures in (
      taken.family ∙ c.loop-t.invariant.0,
      λ s first stage. takes-more c.args.tracers.now c.args.limit c.args.d c.args.at.now c.requires.given c.requires.degree c.args.before c.as_slice-t-items.result.now c.in_ok-family.family.items h
          s first stage c.loop-t.t-index c.loop-t-test.true c.loop-t.steps c.in_ok-steps.steps c.loop-t.invariant.0 (c.loop-t.invariant.1 s first stage) taken,
      subst (λ (e : SeenDiagram). AreKeptThetas (walls e.diagram) (point_of c.args.at.now) c.take.new.thetas) same c.in_ok-steps.ensures.kept,
      c.in_ok-steps.ensures.same ∙ same,
    )

pub returns-in_err-steps-clause-fault : goal.returns-in_err-steps-clause-fault
returns-in_err-steps-clause-fault c =
    let h = added c.args.d c.args.before c.as_slice.result.now c.as_slice-2.result.now c.as_slice-3.result.now c.in_ok-new.new.items c.as_slice-t-items.result.now c.in_ok-family.family.items
    c.as_slice.ensures.value c.as_slice-2.ensures.value c.in_ok-new.ensures c.as_slice-3.ensures.value c.as_slice-t-items.ensures.value c.in_ok-family.ensures in
    let p = err_from_is_err_and c.from_residual-in_err-steps.result c.from_residual-in_err-steps.ensures.1 in
    rw (p.1, p.2) (λ s first stage. fails c.args.tracers.now c.args.limit c.args.d c.args.at.now c.requires.given c.requires.degree c.args.before c.as_slice-t-items.result.now c.in_ok-family.family.items h
    s first stage c.loop-t.t-index c.loop-t-test.true c.loop-t.steps (c.loop-t.invariant.1 s first stage) c.in_err-steps.field-0.0
    (λ j begins. subst (λ (e : SeenDiagram). IsTailsFault (walls e.diagram) (c.args.limit - j) (exp_of (at c.as_slice-t-items.result.now c.loop-t.t-index).0.exp) (point_of c.args.at.now) c.in_err-steps.field-0.0) c.loop-t.invariant.3
    (c.in_err-steps.ensures.fault j (subst (λ (f : Sum). BeginsAt f (exp_of (at c.as_slice-t-items.result.now c.loop-t.t-index).0.exp) j) (sym c.loop-t.invariant.0) begins))))

pub returns-in_err-steps-clause-kept : goal.returns-in_err-steps-clause-kept
returns-in_err-steps-clause-kept c =
    subst (λ (e : SeenDiagram). AreKeptThetas (walls e.diagram) (point_of c.args.at.now) c.take.new.thetas) c.loop-t.invariant.3 c.in_err-steps.ensures.kept

pub returns-then-steps-gt-LARGEST_WEIGHT-clause-fault : goal.returns-then-steps-gt-LARGEST_WEIGHT-clause-fault
returns-then-steps-gt-LARGEST_WEIGHT-clause-fault c =
    let h = added c.args.d c.args.before c.as_slice.result.now c.as_slice-2.result.now c.as_slice-3.result.now c.in_ok-new.new.items c.as_slice-t-items.result.now c.in_ok-family.family.items
    c.as_slice.ensures.value c.as_slice-2.ensures.value c.in_ok-new.ensures c.as_slice-3.ensures.value c.as_slice-t-items.ensures.value c.in_ok-family.ensures in
    λ s first stage. heavy c.args.tracers.now c.args.limit c.args.d c.args.at.now c.requires.given c.requires.degree c.args.before c.as_slice-t-items.result.now c.in_ok-family.family.items h
    s first stage c.loop-t.t-index c.loop-t.steps c.loop-t-test.false (c.loop-t.invariant.1 s first stage) c.if-steps-gt-LARGEST_WEIGHT.true

pub returns-clause-after : goal.returns-clause-after
returns-clause-after c =
    let h = added c.args.d c.args.before c.as_slice.result.now c.as_slice-2.result.now c.as_slice-3.result.now c.in_ok-new.new.items c.as_slice-t-items.result.now c.in_ok-family.family.items
    c.as_slice.ensures.value c.as_slice-2.ensures.value c.in_ok-new.ensures c.as_slice-3.ensures.value c.as_slice-t-items.ensures.value c.in_ok-family.ensures in
    λ s first stage. takes-all c.args.tracers.now c.args.limit c.args.d c.args.at.now c.requires.given c.requires.degree c.args.before c.as_slice-t-items.result.now c.in_ok-family.family.items h
    s first stage c.loop-t.t-index c.loop-t.steps c.loop-t-test.false c.loop-t.invariant.0 (c.loop-t.invariant.1 s first stage) c.if-steps-gt-LARGEST_WEIGHT.false
