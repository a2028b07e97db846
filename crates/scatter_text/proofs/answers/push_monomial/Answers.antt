-- The pieces make up the line of the term.
use Rattle.std.proofs.Common.{rules, [], ◌∷◌, ◌∙◌}
use Rattle.std.specs.Prelude.{string_bytes}
use mir.Syntax.{w32, w128}
use Rattle.std.proofs.lemmas.Int.{to_z-of_z}
use Rattle.scattering.specs.Series.{Term}
use Rattle.trunc_series.specs.Shown.{key_of}
use Rattle.scatter_text.proofs.TokenLines.{ends}
use Rattle.scatter_text.proofs.AnswerLines.{monomial_written}
use Rattle.scatter_text.proofs.answers.push_monomial.Goals as goal

pub returns : goal.returns
returns c =
    let t : Term = (key_of c.args.key.now, c.args.c) in
    let a = to_z-of_z w128 c.from.result (search rules) ∙ c.from.ensures ∙ to_z-of_z w32 t.0.exp.a (search rules) in
    let b = to_z-of_z w128 c.from-2.result (search rules) ∙ c.from-2.ensures ∙ to_z-of_z w32 t.0.exp.b (search rules) in
    ends _ (string_bytes c.push_first_powers.new.text) _ (10 ∷ []) _ c.push_str-2.ensures.bytes
    (monomial_written _ _ _ _ _ _ _ _ _ _ t (to_z-of_z w128 t.1 (search rules)) a b
    c.in_ok-push_str.ensures.bytes c.in_ok-push_signed.ensures c.in_ok-push_signed-2.ensures c.in_ok-push_signed-3.ensures c.in_ok-push_first_powers.ensures)
