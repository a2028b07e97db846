-- A word that prints a number is read as that number.
use Rattle.std.proofs.Common.{◌≡◌, ◌∙◌, ap, sym, Some, None, arith}
use Rattle.std.specs.Prelude.{decimal}
use Rattle.std.specs.Result.{result_ok}
use Rattle.std.specs.Cmp.Lexicographic.{other_text}
use Rattle.std.proofs.lemmas.Fmt.{parse-decimal}
use Rattle.scatter_run.proofs.WordLists.{if-none}
use Rattle.scatter_run.proofs.words.printed_number.Goals as goal

pub returns-in_err-n-clause-none : goal.returns-in_err-n-clause-none
returns-in_err-n-clause-none c = if-none c.from_residual.result _ (λ n l e.
    let p = parse-decimal 32 n c.args.word.now c.parse.result l (omega (arith, l)) e c.parse.ensures.value.0 in
    let q : None ≡ Some n = c.in_err-n.ensures.value ∙ ap result_ok p in
    cc)

pub returns-else-eq-clause-none : goal.returns-else-eq-clause-none
returns-else-eq-clause-none c n l e =
    let p = parse-decimal 32 n c.args.word.now c.parse.result l (omega (arith, l)) e c.parse.ensures.value.0 in
    let q : Some c.in_ok-n.n ≡ Some n = c.in_ok-n.ensures.value ∙ ap result_ok p in
    let same : c.in_ok-n.n ≡ n = cc in
    let printed = c.format.ensures.text ∙ ap decimal same ∙ sym e in
    other_text c.format.result.now c.args.word.now (sym c.if-eq.false ∙ c.eq.ensures) printed
