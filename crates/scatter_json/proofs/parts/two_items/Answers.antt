use Rattle.std.proofs.Common.{[], ◌∷◌}
use Rattle.serde_json.specs.View.{view}
use Rattle.scatter_json.proofs.OneReading.{as-long}
use Rattle.scatter_json.proofs.parts.two_items.Goals as goal

pub returns-else-list-eq2 : goal.returns-else-list-eq2
returns-else-list-eq2 c = λ a b h. c.if-list-eq2.false (as-long (view c.args.value.now) c.in_ok-list.list.now (a ∷ b ∷ []) c.in_ok-list.ensures h)
