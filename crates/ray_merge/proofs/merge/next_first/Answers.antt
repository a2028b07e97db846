use Rattle.std.proofs.Common.{arith}
use Rattle.ray_merge.proofs.RayLists.{after-first}
use Rattle.ray_merge.proofs.merge.next_first.Goals as goal

pub returns-in_default : goal.returns-in_default
returns-in_default c = record { rays = after-first c.args.place c.in_default.not-Greater c.args.i; bound = omega arith }
