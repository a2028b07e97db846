use Rattle.std.proofs.Common.{◌≡◌, ◌≤◌, ℕ, ℤ, pos, sym, subst, ap, ◌∙◌, arith, to_z, of_z}
use Rattle.std.specs.Prelude.{nat_abs, neg_ℤ, ◌-ℤ◌}
use Rattle.std.specs.Int.{IsGcd}
use Rattle.std.proofs.lemmas.Int.{ints}
use mir.Syntax.{w32}
use Rattle.plane_geom.proofs.Casts.{back32}
use Rattle.crossing_theory.proofs.LocalRuns.{size-turned}
use Rattle.scatter_diagram.proofs.wall.opposite.Goals as goal

-- a number of a direction, turned round
turned : (a : ℤ) → nat_abs a ≤ 4096 → to_z w32 (of_z w32 (pos 0 -ℤ to_z w32 (of_z w32 a))) ≡ neg_ℤ a
turned a h = ap (λ z. to_z w32 (of_z w32 (pos 0 -ℤ z))) (back32 a h) ∙ ap (λ z. to_z w32 (of_z w32 z)) (minus a) ∙ back32 (neg_ℤ a) (rw (size-turned a) h)
  where
    minus : (a : ℤ) → pos 0 -ℤ a ≡ neg_ℤ a
    minus a = omega (arith, ints)

size : (a : ℤ) → nat_abs a ≤ 4096 → nat_abs (to_z w32 (of_z w32 (pos 0 -ℤ to_z w32 (of_z w32 a)))) ≡ nat_abs a
size a h = ap nat_abs (turned a h) ∙ size-turned a

pub invariant_of-result : goal.invariant_of-result
invariant_of-result c =
    let x = size c.args.d.now.a c.args.d.now.small.0 in
    let y = size c.args.d.now.b c.args.d.now.small.1 in
    record {
      primitive = subst (λ (m : ℕ). IsGcd m (nat_abs (to_z w32 (of_z w32 (pos 0 -ℤ to_z w32 (of_z w32 c.args.d.now.b))))) 1) (sym x) (subst (λ (m : ℕ). IsGcd (nat_abs c.args.d.now.a) m 1) (sym y) c.args.d.now.primitive);
      small = (rw x c.args.d.now.small.0, rw y c.args.d.now.small.1);
    }

pub returns : goal.returns
returns c = let x = turned c.args.d.now.a c.args.d.now.small.0 in let y = turned c.args.d.now.b c.args.d.now.small.1 in λ i. record { a = x i; b = y i }
