use Rattle.std.proofs.Common.{◌≡◌, refl, sym, ◌++◌, ◌∷◌, [], subst, ap, ◌∙◌, ℕ}
use Rattle.broken_lines.specs.Growth.{AddsSteps}
use Rattle.broken_lines.proofs.Growths.{steps-one, steps-same, not-new}
use Rattle.broken_lines.proofs.growth.Growth.add_step.Goals as goal

pub returns-in_ok-push-clause-steps : goal.returns-in_ok-push-clause-steps
returns-in_ok-push-clause-steps c =
    let g = c.in_ok-add.ensures.gains in
    subst (AddsSteps (λ y. y ≡ c.args.x) c.args.self.now c.add.new.self c.args.steps.now.items) (sym (c.in_ok-push.ensures.items ∙ ap (λ (n : ℕ). c.args.steps.now.items ++ (c.args.x, n) ∷ []) g.degree))
    (steps-one (λ y. y ≡ c.args.x) c.args.self.now c.add.new.self c.args.steps.now.items c.args.x refl g)

pub returns-else-branch-clause-steps : goal.returns-else-branch-clause-steps
returns-else-branch-clause-steps c =
    steps-same (λ y. y ≡ c.args.x) c.args.self.now c.add.new.self c.args.steps.now.items
    (not-new c.args.self.now c.add.new.self c.args.x c.in_ok-add.ensures.gains (λ n. let t = c.in_ok-add.ensures.new.1 n in let f = c.if-branch.false in cc))
