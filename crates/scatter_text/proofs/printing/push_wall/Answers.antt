-- The heading and the rows are the wall's text.
use Rattle.std.proofs.Common.{◌∙◌, ◌++◌, ap, List, ℕ, map, append_assoc}
use Rattle.std.specs.Prelude.{string_bytes, flat_map}
use Rattle.std.proofs.lemmas.Result.{on_ok_weaker}
use Rattle.scatter_diagram.specs.Shown.{wall_of}
use Rattle.scatter_text.specs.DiagramText.{Row, row_text}
use Rattle.scatter_text.specs.PrintedRows.{row_of}
use Rattle.scatter_text.specs.declared.along.PrintedRow.{PrintedRow}
use Rattle.scatter_text.proofs.PrintedWalls.{wall-text}
use Rattle.scatter_text.proofs.printing.push_wall.Goals as goal

pub returns : goal.returns
returns c =
    let h = c.in_ok-push_heading.ensures in
    let rows : List Row = map row_of c.in_ok-rows.rows.items in
    on_ok_weaker c.push_rows.result
    (λ e. (
      h.0 ++ flat_map (row_text c.args.vars) rows,
      wall-text c.args.word.now c.args.vars (wall_of c.args.wall.now) h.0 rows h.1 c.in_ok-rows.ensures,
      e ∙ ap (λ (rs : List PrintedRow). string_bytes c.push_heading.new.text ++ flat_map (row_text c.args.vars) (map row_of rs)) c.as_slice.ensures.value ∙ ap (λ (t : List ℕ). t ++ flat_map (row_text c.args.vars) rows) h.2 ∙ append_assoc (string_bytes c.args.text.now) h.0 (flat_map (row_text c.args.vars) rows),
    ))
    c.push_rows.ensures
