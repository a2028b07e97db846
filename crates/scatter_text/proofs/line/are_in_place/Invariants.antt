use Rattle.std.specs.List.{AllWithin}
use Rattle.scatter_text.specs.Grammar.{IsInPlace}
use Rattle.scatter_text.proofs.line.are_in_place.Given as goal

abbrev pub invariant-loop-token : goal.invariant-loop-token
invariant-loop-token l = AllWithin (λ token. IsInPlace l.slot token.now) l.tokens 0 l.token-index
