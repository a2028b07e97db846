use Rattle.std.proofs.Common.{refl, sym}
use Rattle.std.specs.Int.{w32}
use Rattle.std.proofs.lemmas.Int.{to_z-of_z}
use Rattle.plane_geom.proofs.Made.{direction-along}
use Rattle.plane_geom.proofs.Direction.new.Goals as goal

pub returns-then-is_direction-clause-direction : goal.returns-then-is_direction-clause-direction
returns-then-is_direction-clause-direction c =
    (λ _. direction-along _ _ c.args.a c.args.b (to_z-of_z w32 c.args.a c.ranges.a) (to_z-of_z w32 c.args.b c.ranges.b) (c.if-is_direction.ensures.0 refl), λ _. refl)

pub returns-else-is_direction-clause-direction : goal.returns-else-is_direction-clause-direction
returns-else-is_direction-clause-direction c =
    (λ h. absurd (cc), λ h. c.if-is_direction.ensures.1 (direction-along c.args.a c.args.b _ _ (sym (to_z-of_z w32 c.args.a c.ranges.a)) (sym (to_z-of_z w32 c.args.b c.ranges.b)) h))
