use Rattle.std.proofs.Common.{arith, refl}
use Rattle.std.proofs.lemmas.List.Elements.{All-map}
use Rattle.scatter_text.specs.Grammar.{IsInPlace}
use Rattle.scatter_text.proofs.Tokens.{All-unmap, not-true}
use Rattle.scatter_text.proofs.line.are_in_place.Goals as goal

pub returns-then-not-is_in_place : goal.returns-then-not-is_in_place
returns-then-not-is_in_place c = (
  λ never. cc,
  λ all. absurd (not-true c.is_in_place.result c.if-not-is_in_place.true (c.is_in_place.ensures.1 (All-unmap (IsInPlace c.args.slot) (λ t. t.now) c.args.tokens.now all c.loop-token.token-index _ c.loop-token-test.true))),
)

pub returns : goal.returns
returns c = (λ _. All-map (IsInPlace c.args.slot) (λ t. t.now) c.args.tokens.now (λ k d within. c.loop-token.invariant k d (omega arith) (omega arith)), λ _. refl)
