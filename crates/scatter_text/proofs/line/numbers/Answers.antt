use Rattle.std.proofs.Common.{rules, FitsSigned, ◌≡◌, [], ◌∷◌, ◌++◌, ◌∙◌}
use Rattle.std.specs.Int.{w64}
use Rattle.std.proofs.lemmas.Int.{to_z-of_z}
use Rattle.std.proofs.lemmas.List.{map_more}
use Rattle.scatter_text.specs.Grammar.{IsNumberText}
use Rattle.scatter_text.proofs.Tokens.{All-unmap, more_numbers}
use Rattle.scatter_text.proofs.line.numbers.Goals as goal

pub returns-in-None : goal.returns-in-None
returns-in-None c = λ all. c.in-None.ensures (All-unmap IsNumberText (λ t. t.now) c.args.tokens.now all c.loop-token.token-index _ c.loop-token-test.true)

pub loop-token-preserved : goal.loop-token-preserved
loop-token-preserved c =
    let fits : FitsSigned w64 c.in-Some.n = search rules in
    let grown : c.push.new.self.items ≡ c.loop-token.values.items ++ c.in-Some.n ∷ [] = simp to_z-of_z at c.in_ok-push-in-Some.ensures.items in
    let more = more_numbers _ _ c.loop-token.values.items c.push.new.self.items c.in-Some.n grown c.loop-token.invariant.short c.loop-token.invariant.text c.in-Some.ensures.0 c.in-Some.ensures.1 in
    record { short = more.0; text = map_more (λ t. t.now) c.args.tokens.now c.loop-token.token-index _ c.loop-token-test.true ∙ more.1 }
