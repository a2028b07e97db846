-- The rays so far.
use Rattle.std.proofs.Common.{take, map}
use Rattle.std.specs.List.{AllZip}
use Rattle.serde_json.specs.View.{view}
use Rattle.scatter_json.specs.JsonText.{IsWallValue}
use Rattle.scatter_json.proofs.values.ray_values.Given as goal

abbrev pub invariant-loop-i : goal.invariant-loop-i
invariant-loop-i l = AllZip (IsWallValue l.vars) (take l.i l.e.diagram.rays) (map view l.values.items)
