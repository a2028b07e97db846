use Rattle.std.proofs.Common.{ℕ, arith, ap, ◌∙◌, take, get_or, List, [], subst}
use Rattle.std.proofs.lemmas.Result.{err_from_is_err_and}
use Rattle.std.specs.Prelude.{pos}
use Rattle.trunc_series.specs.declared.key.Exp.{Exp as CodeExp}
use Rattle.joint_finder.proofs.Lists.{In-get, In-take}
use Rattle.broken_lines.specs.Growth.{Gains, IsStepped, IsShifted}
use Rattle.broken_lines.proofs.Growths.{gains-none, stepped-more, too-many-later, own-place}
use Rattle.broken_lines.proofs.growth.Growth.add_steps.Goals as goal

abbrev none : CodeExp × ℕ
none = (record { a = pos 0; b = pos 0 }, 0)

pub loop-step-init : goal.loop-step-init
loop-step-init c = gains-none (IsStepped [] c.args.levels.now c.args.self.now.degree) c.args.self.now (λ x r. r.2)

pub loop-step-preserved : goal.loop-step-preserved
loop-step-preserved c =
    let lt = c.loop-step-test.true in
    let steps = c.args.steps.now in
    let i = c.loop-step.step-index in
    let k = c.requires.steps i none lt in
    let low = k.1 in
    let high = k.2 in
    let all = c.requires.levels in
    let same = c.loop-step.invariant.degree in
    stepped-more steps c.args.levels.now c.args.self.now.degree i (get_or steps i none) c.index-levels-left.result c.args.self.now c.loop-step.self c.add_shifted.new.self lt (own-place steps i none lt) (omega (arith, low, high, all)) (c.index-levels-left.is ∙ ap (λ (n : ℕ). get_or c.args.levels.now n c.index-levels-left.result) (omega (arith, same))) c.loop-step.invariant (subst (λ (xs : List CodeExp). Gains (IsShifted (get_or steps i none).0 xs) c.loop-step.self c.add_shifted.new.self) c.as_slice.ensures.value c.in_ok-add_shifted.ensures.gains)

pub returns-in_err-add_shifted-clause-fault : goal.returns-in_err-add_shifted-clause-fault
returns-in_err-add_shifted-clause-fault c =
    let p = err_from_is_err_and c.from_residual.result c.from_residual.ensures.1 in
    let lt = c.loop-step-test.true in
    let steps = c.args.steps.now in
    let i = c.loop-step.step-index in
    rw (p.1, p.2)
    (too-many-later (IsStepped (take i steps) c.args.levels.now c.args.self.now.degree) _ (IsStepped steps c.args.levels.now c.args.self.now.degree) c.args.self.now c.loop-step.self _
    (λ z r. (r.0, r.1, In-take steps i r.0 r.2, r.3, r.4)) (λ z r. (get_or steps i none, c.index-levels-left.result, In-get steps i (get_or steps i none) lt (own-place steps i none lt), c.index-levels-left.is ∙ ap (λ (n : ℕ). get_or c.args.levels.now n c.index-levels-left.result) (let same = c.loop-step.invariant.degree in omega (arith, same)), subst (λ (xs : List CodeExp). IsShifted (get_or steps i none).0 xs z) c.as_slice.ensures.value r)) c.loop-step.invariant c.in_err-add_shifted.ensures.fault)
