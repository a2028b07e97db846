-- The powers so far.
use Rattle.std.proofs.Common.{◌≡◌, take, map}
use Rattle.serde_json.specs.View.{view}
use Rattle.scatter_json.specs.JsonText.{natural}
use Rattle.scatter_json.proofs.values.power_values.Given as goal

abbrev pub invariant-loop-power : goal.invariant-loop-power
invariant-loop-power l = map view l.values.items ≡ map natural (take l.power-index l.powers)
