use Rattle.std.proofs.Common.{◌≢◌, []}
use Rattle.std.specs.List.{AllWithin}
use Rattle.scatter_text.proofs.line.are_separate.Given as goal

abbrev pub invariant-loop-token : goal.invariant-loop-token
invariant-loop-token l = AllWithin (λ token. token.now ≢ []) l.tokens 0 l.token-index
