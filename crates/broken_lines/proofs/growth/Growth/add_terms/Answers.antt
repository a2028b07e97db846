use Rattle.std.specs.Prelude.{Vec}
use Rattle.std.specs.Global.{Global}
use Rattle.scattering.specs.Series.{Sum}
use Rattle.trunc_series.specs.declared.key.Exp.{Exp as CodeExp}
use Rattle.std.proofs.Common.{◌≡◌, ℕ, sym, ◌∙◌, take, List, [], subst, ◌+◌}
use Rattle.std.proofs.lemmas.Result.{err_from_is_err_and}
use Rattle.trunc_series.specs.Shown.{sum_of}
use Rattle.broken_lines.specs.declared.growth.Growth.{Growth}
use Rattle.broken_lines.specs.Growth.{Gains, AddsSteps, IsTermOf}
use Rattle.broken_lines.proofs.Growths.{gains-none, steps-none, term-more, term-steps, term-passed, term-steps_passed, term-fault, own-place}
use Rattle.broken_lines.proofs.growth.Growth.add_terms.Goals.{then-degree-self+in_ok-add_step, else-degree-self}
use Rattle.broken_lines.proofs.growth.Growth.add_terms.Goals as goal

moved : (n : ℕ) (f : Sum) (a b b' : Growth) (ss : List (CodeExp × ℕ)) (ts us : Vec (CodeExp × ℕ) Global) → b ≡ b' → ts ≡ us → AddsSteps (IsTermOf n f) a b ss ts.items → AddsSteps (IsTermOf n f) a b' ss us.items
moved n f a b b' ss ts us e q h = subst (λ (g : Growth). AddsSteps (IsTermOf n f) a g ss us.items) e (subst (λ (v : Vec (CodeExp × ℕ) Global). AddsSteps (IsTermOf n f) a b ss v.items) q h)

pub loop-t-init : goal.loop-t-init
loop-t-init c = record {
  gains = gains-none (IsTermOf c.args.self.now.degree []) c.args.self.now (λ x r. r.1);
  steps = steps-none (IsTermOf c.args.self.now.degree []) c.args.self.now c.args.steps.now.items;
}

pub loop-t-preserved : goal.loop-t-preserved
loop-t-preserved c =
    let ts = c.args.terms.now in
    let i = c.loop-t.t-index in
    let n = c.args.self.now.degree in
    let lt = c.loop-t-test.true in
    let same = c.loop-t.invariant.gains.degree in
    let d = c.degree.ensures.value in
    elim c.if-degree-self.branch [
      | then-degree-self+in_ok-add_step w ↦ record {
        gains = subst (λ (g : Growth). Gains (IsTermOf n (sum_of (take (i + 1) ts))) c.args.self.now g) (sym w.self-is) (term-more n ts i _ c.args.self.now c.loop-t.self w.add_step.new.self lt (own-place ts i _ lt) (sym d ∙ w.if-degree-self.true ∙ same) c.loop-t.invariant.gains w.in_ok-add_step.ensures.gains);
        steps = moved n (sum_of (take (i + 1) ts)) c.args.self.now w.add_step.new.self c.if-degree-self.self c.args.steps.now.items w.add_step.new.steps c.if-degree-self.steps (sym w.self-is) (sym w.steps-is)
            (term-steps n ts i _ c.args.self.now c.loop-t.self w.add_step.new.self c.args.steps.now.items c.loop-t.steps.items w.add_step.new.steps.items lt (own-place ts i _ lt) (sym d ∙ w.if-degree-self.true ∙ same) same c.loop-t.invariant.steps w.in_ok-add_step.ensures.steps);
      }
      | else-degree-self w ↦ record {
        gains = subst (λ (g : Growth). Gains (IsTermOf n (sum_of (take (i + 1) ts))) c.args.self.now g) (sym w.self-is) (term-passed n ts i _ c.args.self.now c.loop-t.self lt (own-place ts i _ lt) (λ e. w.if-degree-self.false (d ∙ e ∙ sym same)) c.loop-t.invariant.gains);
        steps = moved n (sum_of (take (i + 1) ts)) c.args.self.now c.loop-t.self c.if-degree-self.self c.args.steps.now.items c.loop-t.steps c.if-degree-self.steps (sym w.self-is) (sym w.steps-is)
            (term-steps_passed n ts i _ c.args.self.now c.loop-t.self c.args.steps.now.items c.loop-t.steps.items lt (own-place ts i _ lt) (λ e. w.if-degree-self.false (d ∙ e ∙ sym same)) c.loop-t.invariant.steps);
      }
    ]

pub returns-in_err-add_step-clause-fault : goal.returns-in_err-add_step-clause-fault
returns-in_err-add_step-clause-fault c =
    let p = err_from_is_err_and c.from_residual.result c.from_residual.ensures.1 in
    let lt = c.loop-t-test.true in
    let ts = c.args.terms.now in
    let i = c.loop-t.t-index in
    let same = c.loop-t.invariant.gains.degree in
    let test = c.if-degree-self.true in
    let d = c.degree.ensures.value in
    rw (p.1, p.2) (term-fault c.args.self.now.degree ts i _ c.args.self.now c.loop-t.self _ lt (own-place ts i _ lt) (sym d ∙ test ∙ same) c.loop-t.invariant.gains c.in_err-add_step.ensures.fault)
