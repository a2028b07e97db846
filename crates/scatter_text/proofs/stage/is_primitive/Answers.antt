use Rattle.std.proofs.lemmas.Int.{to_z-of_z}
use Rattle.std.proofs.Common.{nat_abs}
use Rattle.scatter_text.proofs.Divisors.{coprime-decided}
use Rattle.scatter_text.proofs.stage.is_primitive.Goals as goal

pub returns : goal.returns
returns c =
    let dx = c.ranges.dx in
    let dy = c.ranges.dy in
    coprime-decided (nat_abs c.args.dx) (nat_abs c.args.dy) _ _ c.gcd.result (simp to_z-of_z at c.unsigned_abs.ensures.value) (simp to_z-of_z at c.unsigned_abs-2.ensures.value) c.gcd.ensures
