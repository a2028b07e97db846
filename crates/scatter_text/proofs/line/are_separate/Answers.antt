use Rattle.std.proofs.Common.{arith, ◌≢◌, [], List, ℕ, refl}
use Rattle.std.proofs.lemmas.List.Elements.{All-map}
use Rattle.scatter_text.proofs.Tokens.{All-unmap, empty_from_test}
use Rattle.scatter_text.proofs.line.are_separate.Goals as goal

pub returns-then-is_empty : goal.returns-then-is_empty
returns-then-is_empty c = (
  λ never. cc,
  λ all. absurd (All-unmap (λ (token : List ℕ). token ≢ []) (λ t. t.now) c.args.tokens.now all c.loop-token.token-index _ c.loop-token-test.true (empty_from_test _ c.is_empty.result c.if-is_empty.true c.is_empty.ensures)),
)

pub returns : goal.returns
returns c =
    (λ _. All-map (λ (token : List ℕ). token ≢ []) (λ t. t.now) c.args.tokens.now (λ k d within. c.loop-token.invariant k d (omega arith) (omega arith)), λ _. refl)
