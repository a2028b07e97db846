-- The rows so far.
use Rattle.std.proofs.Common.{◌≡◌, take, map}
use Rattle.serde_json.specs.View.{view}
use Rattle.scatter_text.specs.PrintedRows.{row_of}
use Rattle.scatter_json.specs.JsonText.{row_value}
use Rattle.scatter_json.proofs.values.row_values.Given as goal

abbrev pub invariant-loop-row : goal.invariant-loop-row
invariant-loop-row l = map view l.values.items ≡ map (row_value l.vars) (map row_of (take l.row-index l.rows))
