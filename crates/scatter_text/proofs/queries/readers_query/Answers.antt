-- A reader is a small number.
use Rattle.std.proofs.Common.{rules, arith, ◌∙◌, ◌≤◌, ap, sym, ℕ}
use Rattle.std.specs.Prelude.{nat_abs, pos}
use mir.Syntax.{w64}
use Rattle.std.proofs.lemmas.Int.{to_z-of_z}
use Rattle.scatter_text.proofs.AskQueries.{reader-same}
use Rattle.scatter_text.proofs.queries.readers_query.Goals as goal

pub overflow_cast-result : goal.overflow_cast-result
overflow_cast-result c =
    let e = c.unsigned_abs.ensures.value ∙ ap nat_abs (to_z-of_z w64 c.args.ask.now.reader (search rules)) in
    let h : nat_abs c.args.ask.now.reader ≤ 8 = c.requires.reader in
    omega (arith, e, h)

pub returns : goal.returns
returns c =
    let e = c.unsigned_abs.ensures.value ∙ ap nat_abs (to_z-of_z w64 c.args.ask.now.reader (search rules)) in
    (reader-same c.args.ask.now c.requires ∙ ap (λ (n : ℕ). pos n) (sym e), c.query_of.ensures)
