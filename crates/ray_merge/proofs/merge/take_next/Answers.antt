use Rattle.std.proofs.Common.{sym, ◌∙◌}
use Rattle.scatter_diagram.specs.Shown.{wall_of}
use Rattle.ray_merge.proofs.RayLists.{front-order, one-direction, joinable-first}
use Rattle.ray_merge.proofs.merge.take_next.Goals as goal

pub joined-requires-clause-dir : goal.joined-requires-clause-dir
joined-requires-clause-dir c =
    let o = front-order c.args.place (wall_of c.args.ray.now) c.args.added.now.items c.take_first.result c.requires.front (_, c.take_first.ensures) in
    one-direction c.args.ray.now c.take_first.result (sym o ∙ c.in-Equal.is)

pub joined-requires-clause-joinable : goal.joined-requires-clause-joinable
joined-requires-clause-joinable c =
    let o = front-order c.args.place (wall_of c.args.ray.now) c.args.added.now.items c.take_first.result c.requires.front (_, c.take_first.ensures) in
    joinable-first c.args.order c.args.ray.now c.args.added.now.items c.take_first.result (_, c.take_first.ensures) c.requires.joinable (sym o ∙ c.in-Equal.is)
