-- One term more.
use Rattle.std.proofs.Common.{rules, ◌∙◌, ◌++◌, ap, ℤ}
use mir.Syntax.{w128}
use Rattle.std.proofs.lemmas.Int.{to_z-of_z}
use Rattle.std.specs.Prelude.{string_bytes}
use Rattle.trunc_series.specs.Shown.{key_of, term_of}
use Rattle.trunc_series.proofs.Terms.{at}
use Rattle.scatter_text.specs.AnswersText.{powers_text}
use Rattle.scatter_text.proofs.TokenLines.{one_more}
use Rattle.scatter_text.proofs.answers.push_coefficients.Goals as goal

pub loop-term-preserved : goal.loop-term-preserved
loop-term-preserved c =
    let t = at c.args.terms.now c.loop-term.term-index in
    one_more (powers_text c.args.vars) term_of c.args.terms.now c.loop-term.term-index _ (string_bytes c.args.text.now) (string_bytes c.loop-term.text) (string_bytes c.push_coefficient.new.text) c.loop-term-test.true c.loop-term.invariant
    (c.in_ok-push_coefficient.ensures ∙ ap (λ (z : ℤ). string_bytes c.loop-term.text ++ powers_text c.args.vars (key_of t.0, z)) (to_z-of_z w128 t.1 (search rules)))
