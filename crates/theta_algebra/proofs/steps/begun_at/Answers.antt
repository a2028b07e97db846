use Rattle.std.proofs.Common.{◌≡◌, ◌≢◌, take, ap, subst, sym, ◌∙◌, ℕ, true, false, ◌&&◌, arith, int_eq, ◌++◌, [], ◌∷◌, min}
use Rattle.std.proofs.lemmas.Int.{ints}
use Rattle.std.proofs.lemmas.List.{take_all}
use Rattle.scattering.specs.Series.{Exp, Sum}
use Rattle.scattering.proofs.Keys.{same-exp}
use Rattle.trunc_series.specs.Shown.{exp_of, sum_of, term_of}
use Rattle.trunc_series.specs.Reduced.{Terms}
use Rattle.trunc_series.specs.declared.key.Exp.{Exp as CodeExp}
use Rattle.trunc_series.proofs.Terms.{at}
use Rattle.theta_algebra.proofs.Stepping.{one-more}
use Rattle.theta_algebra.proofs.TakenThetas.{IsLeastTo, least-more, least-other, least-all}
use Rattle.theta_algebra.proofs.steps.begun_at.Goals as goal
use Rattle.theta_algebra.proofs.steps.begun_at.Goals.{then-eq, else-eq}

equal : (x y : CodeExp) → true ≡ (int_eq x.a y.a && int_eq x.b y.b) → exp_of x ≡ exp_of y
equal x y e = same-exp (exp_of x) (exp_of y) (grind (arith, ints)) (grind (arith, ints))

differ : (x y : CodeExp) → false ≡ (int_eq x.a y.a && int_eq x.b y.b) → exp_of x ≢ exp_of y
differ x y e f = let p : x.a ≡ y.a = ap (λ (z : Exp). z.a) f in let q : x.b ≡ y.b = ap (λ (z : Exp). z.b) f in grind (arith, ints)

pub loop-t-preserved : goal.loop-t-preserved
loop-t-preserved c = subst (λ (u : Sum). IsLeastTo u (exp_of c.args.r) c.args.limit c.if-eq.least) (sym (one-more c.args.family.now c.loop-t.t-index c.loop-t-test.true)) (elim c.if-eq.branch [
  | then-eq w ↦ least-more (sum_of (take c.loop-t.t-index c.args.family.now)) (exp_of c.args.r) c.args.limit c.loop-t.least c.if-eq.least (term_of (at c.args.family.now c.loop-t.t-index)) c.loop-t.invariant
      (equal (at c.args.family.now c.loop-t.t-index).0.exp c.args.r w.if-eq.ensures) (w.least-is ∙ w.min-least.ensures ∙ ap (λ (d : ℕ). min c.loop-t.least d) w.degree.ensures.value)
  | else-eq w ↦ subst (λ (d : ℕ). IsLeastTo (sum_of (take c.loop-t.t-index c.args.family.now) ++ term_of (at c.args.family.now c.loop-t.t-index) ∷ []) (exp_of c.args.r) c.args.limit d) (sym w.least-is)
      (least-other (sum_of (take c.loop-t.t-index c.args.family.now)) (exp_of c.args.r) c.args.limit c.loop-t.least (term_of (at c.args.family.now c.loop-t.t-index)) c.loop-t.invariant (differ (at c.args.family.now c.loop-t.t-index).0.exp c.args.r w.if-eq.ensures))
])

pub returns-clause-least : goal.returns-clause-least
returns-clause-least c i series begins =
    let all = subst (λ (u : Terms). IsLeastTo (sum_of u) (exp_of c.args.r) c.args.limit c.loop-t.least) (take_all c.loop-t.t-index c.args.family.now (omega (arith, c.loop-t-test.false))) c.loop-t.invariant in
    least-all (sum_of c.args.family.now) (exp_of c.args.r) c.args.limit c.loop-t.least all i series begins
