use Rattle.std.proofs.Common.{◌≢◌}
use Rattle.std.specs.List.{AllWithin}
use Rattle.scatter_text.specs.Grammar.{word_of}
use Rattle.scatter_text.proofs.grammar.TextMode.keyword.Given as goal

abbrev pub invariant-loop-k : goal.invariant-loop-k
invariant-loop-k l = AllWithin (λ k. l.token ≢ word_of k) l.words 0 l.k-index
