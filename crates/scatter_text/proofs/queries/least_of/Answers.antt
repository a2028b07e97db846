-- An order that is given is a small number.
use Rattle.std.proofs.Common.{rules, arith, ◌∙◌, ◌≡◌, ◌≤◌, ap, sym, subst, Some, Option, ℕ, ℤ}
use Rattle.std.specs.Prelude.{nat_abs, pos, ◌≤ℤ◌}
use Rattle.std.proofs.lemmas.Int.{ints, to_z-of_z}
use mir.Syntax.{w64}
use Rattle.scatter_text.specs.GivenQueries.{IsLeastOf}
use Rattle.scatter_text.proofs.queries.least_of.Goals as goal

pub overflow_cast-result : goal.overflow_cast-result
overflow_cast-result c =
    let e = c.unsigned_abs.ensures.value ∙ ap nat_abs (to_z-of_z w64 c.in-Some.order (search rules)) in
    let h : nat_abs c.in-Some.order ≤ 24 = c.requires.small c.in-Some.order c.in-Some.is in
    omega (arith, e, h)

pub returns-in-Some : goal.returns-in-Some
returns-in-Some c =
    let e = c.unsigned_abs.ensures.value ∙ ap nat_abs (to_z-of_z w64 c.in-Some.order (search rules)) in
    let h : pos 0 ≤ℤ c.in-Some.order = c.requires.given c.in-Some.order c.in-Some.is in
    let same : c.in-Some.order ≡ pos (nat_abs c.in-Some.order) = omega (arith, ints, h) in
    subst (λ (o : Option ℤ). IsLeastOf o (Some c.unsigned_abs.result)) (sym c.in-Some.is) (same ∙ ap (λ (n : ℕ). pos n) (sym e))
