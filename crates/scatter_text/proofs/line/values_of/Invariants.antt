-- What is left has its form, and is spelled if all is; the values so far are what stands before it.
use Rattle.std.proofs.Common.{◌≤◌, map, drop, length}
use Rattle.scatter_text.specs.Grammar.{HasForm, AreSpelled}
use Rattle.scatter_text.proofs.Slots.{AreValuesFrom}
use Rattle.scatter_text.proofs.line.values_of.Given as goal

abbrev pub invariant-loop-slot : goal.invariant-loop-slot
invariant-loop-slot l = record {
  within : l.start ≤ length l.tokens;
  form : HasForm l.variables (drop l.slot-index l.slots) (drop l.start (map (λ t. t.now) l.tokens));
  spelled : AreSpelled l.variables l.slots (map (λ t. t.now) l.tokens) → AreSpelled l.variables (drop l.slot-index l.slots) (drop l.start (map (λ t. t.now) l.tokens));
  said : AreValuesFrom l.variables l.slots (map (λ t. t.now) l.tokens) l.values.items (drop l.slot-index l.slots) (drop l.start (map (λ t. t.now) l.tokens));
}
