use Rattle.std.proofs.Common.{◌∙◌, ap, Err}
use Rattle.scatter_text.specs.Grammar.{place_after}
use Rattle.scatter_text.specs.Stages.{rows_of}
use Rattle.scatter_text.proofs.RowShapes.{with-asks}
use Rattle.scatter_text.proofs.RowTexts.{good_line, passed_on}
use Rattle.scatter_text.proofs.reading.next.Goals as goal

pub with-requires : goal.with-requires
with-requires c = record {
  allowed = with-asks c.args.mode (place_after (rows_of c.args.stage)) c.in_ok-row.row.keyword c.in_ok-row.ensures.row.allowed;
  fills = c.in_ok-row.ensures.row.fills;
  values = c.in_ok-row.ensures.values;
}

pub returns-in_err-row-clause-bad : goal.returns-in_err-row-clause-bad
returns-in_err-row-clause-bad c = λ kind is. c.allowed_row.ensures.bad kind (c.in_err-row.was ∙ ap Err (passed_on c.from_residual.result _ kind c.from_residual.ensures.1 is))

pub returns-clause-ok : goal.returns-clause-ok
returns-clause-ok c = record {
  last = c.in_ok-row.row;
  good = good_line c.args.mode (rows_of c.args.stage) c.args.line.now c.in_ok-row.row c.in_ok-row.ensures.row c.in_ok-row.ensures.values;
  is = c.in_ok-with.ensures;
}
