use Rattle.std.proofs.Common.{◌≡◌, All, map, take}
use Rattle.std.specs.Fmt.{signed_decimal}
use Rattle.scatter_text.specs.Grammar.{IsShort}
use Rattle.scatter_text.proofs.line.numbers.Given as goal

abbrev pub invariant-loop-token : goal.invariant-loop-token
invariant-loop-token l = record {
  short : All IsShort l.values.items;
  text : map (λ t. t.now) (take l.token-index l.tokens) ≡ map signed_decimal l.values.items;
}
