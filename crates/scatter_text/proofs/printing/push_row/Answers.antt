-- The pieces make up the line of the term.
use Rattle.std.proofs.Common.{rules, [], ◌∷◌}
use Rattle.std.specs.Prelude.{string_bytes}
use mir.Syntax.{w128}
use Rattle.std.proofs.lemmas.Int.{to_z-of_z}
use Rattle.scatter_text.proofs.TokenLines.{row_written, ends}
use Rattle.scatter_text.proofs.printing.push_row.Goals as goal

pub returns : goal.returns
returns c =
    ends _ (string_bytes c.push_powers.new.text) _ (10 ∷ []) _ c.push_str-2.ensures.bytes
    (row_written _ _ _ _ _ _ _ _ _ _ (search rules) (to_z-of_z w128 c.args.row.now.c (search rules))
    c.in_ok-push_str.ensures.bytes c.in_ok-push_signed.ensures c.in_ok-push_unsigned.ensures c.in_ok-push_powers.ensures)
