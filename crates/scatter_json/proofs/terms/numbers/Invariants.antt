-- The numbers so far.
use Rattle.std.proofs.Common.{take}
use Rattle.scatter_json.specs.JsonForm.{SaysWhole}
use Rattle.scatter_json.specs.Parts.{SayEach}
use Rattle.scatter_json.proofs.terms.numbers.Given as goal

abbrev pub invariant-loop-value : goal.invariant-loop-value
invariant-loop-value l = SayEach SaysWhole (take l.value-index l.values) l.numbers.items
