-- The rows so far.
use Rattle.std.proofs.Common.{◌≡◌, ◌++◌, take, map}
use Rattle.std.specs.Prelude.{string_bytes, flat_map}
use Rattle.scatter_text.specs.DiagramText.{row_text}
use Rattle.scatter_text.specs.PrintedRows.{row_of}
use Rattle.scatter_text.proofs.printing.push_rows.Given as goal

abbrev pub invariant-loop-row : goal.invariant-loop-row
invariant-loop-row l = string_bytes l.text ≡ string_bytes l.initial.text ++ flat_map (row_text l.vars) (map row_of (take l.row-index l.rows))
