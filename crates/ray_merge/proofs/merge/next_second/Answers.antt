use Rattle.std.proofs.Common.{arith}
use Rattle.ray_merge.proofs.RayLists.{after-second}
use Rattle.ray_merge.proofs.merge.next_second.Goals as goal

pub returns-in_default : goal.returns-in_default
returns-in_default c = record { rays = after-second c.args.place c.in_default.not-Less c.args.i; bound = omega arith }
