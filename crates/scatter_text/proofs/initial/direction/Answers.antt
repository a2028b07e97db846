-- The numbers are cast without loss.
use Rattle.std.proofs.Common.{◌≡◌, ◌≤◌, arith, to_z, of_z, ℤ, nat_abs}
use mir.Syntax.{w32, w64}
use Rattle.std.proofs.lemmas.Int.{ints}
use Rattle.scatter_text.proofs.initial.direction.Goals as goal

cast : (z : ℤ) → nat_abs z ≤ 64 → to_z w32 (of_z w32 (to_z w64 (of_z w64 z))) ≡ z
cast z h = omega (arith, ints, h)

pub invariant_of-result : goal.invariant_of-result
invariant_of-result c =
    let a = cast c.args.line.now.dx c.requires.x in
    let b = cast c.args.line.now.dy c.requires.y in
    let x = c.requires.x in let y = c.requires.y in
    record {
      primitive = rw (a, b) c.requires.primitive;
      small = rw (a, b) (omega (arith, x), omega (arith, y));
    }
