-- One row more.
use Rattle.std.specs.Prelude.{string_bytes}
use Rattle.scatter_text.specs.DiagramText.{row_text}
use Rattle.scatter_text.specs.PrintedRows.{row_of}
use Rattle.scatter_text.proofs.TokenLines.{one_more}
use Rattle.scatter_text.proofs.printing.push_rows.Goals as goal

pub loop-row-preserved : goal.loop-row-preserved
loop-row-preserved c =
    one_more (row_text c.args.vars) row_of c.args.rows.now c.loop-row.row-index _ (string_bytes c.args.text.now) (string_bytes c.loop-row.text) (string_bytes c.push_row.new.text) c.loop-row-test.true c.loop-row.invariant c.in_ok-push_row.ensures
