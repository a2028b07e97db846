-- The line of the exponent, and the terms.
use Rattle.std.proofs.Common.{rules, ◌∙◌, ◌++◌, [], ◌∷◌, ap, List, ℕ, append_assoc}
use Rattle.std.specs.Prelude.{string_bytes, flat_map, codes}
use Rattle.std.specs.Fmt.{signed_decimal}
use Rattle.std.proofs.lemmas.Int.{to_z-of_z}
use Rattle.std.proofs.lemmas.Result.{on_ok_weaker}
use mir.Syntax.{w32, w128}
use Rattle.scattering.specs.Series.{Sum}
use Rattle.scatter_text.specs.DiagramText.{line_of}
use Rattle.scatter_text.specs.AnswersText.{powers_text}
use Rattle.scatter_text.proofs.AnswerLines.{theta_written}
use Rattle.scatter_text.proofs.answers.push_theta.Goals as goal

pub returns : goal.returns
returns c =
    let r = c.args.theta.now.0 in
    let f = c.args.theta.now.1.terms in
    let a = to_z-of_z w128 c.from.result (search rules) ∙ c.from.ensures ∙ to_z-of_z w32 r.a (search rules) in
    let b = to_z-of_z w128 c.from-2.result (search rules) ∙ c.from-2.ensures ∙ to_z-of_z w32 r.b (search rules) in
    let line : List ℕ = line_of (codes "theta" ∷ signed_decimal r.a ∷ signed_decimal r.b ∷ []) in
    let terms : List ℕ = flat_map (powers_text c.args.vars) f in
    let head = c.in_ok-push_str-2.ensures.bytes ∙ theta_written _ _ _ _ _ _ r a b c.in_ok-push_str.ensures.bytes c.in_ok-push_signed.ensures c.in_ok-push_signed-2.ensures in
    on_ok_weaker c.push_coefficients.result
    (λ e. e ∙ ap (λ (g : Sum). string_bytes c.push_str-2.new.self ++ flat_map (powers_text c.args.vars) g) c.terms.ensures.terms
    ∙ ap (λ (t : List ℕ). t ++ terms) head ∙ append_assoc (string_bytes c.args.text.now) line terms)
    c.push_coefficients.ensures
