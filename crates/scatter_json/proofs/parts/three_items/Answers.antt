use Rattle.std.proofs.Common.{[], ◌∷◌}
use Rattle.serde_json.specs.View.{view}
use Rattle.scatter_json.proofs.OneReading.{as-long}
use Rattle.scatter_json.proofs.parts.three_items.Goals as goal

pub returns-else-list-eq3 : goal.returns-else-list-eq3
returns-else-list-eq3 c = λ a b e h. c.if-list-eq3.false (as-long (view c.args.value.now) c.in_ok-list.list.now (a ∷ b ∷ e ∷ []) c.in_ok-list.ensures h)
