-- What is left decides.
use Rattle.std.proofs.Common.{◌↔◌, ◌≤◌, map, drop, length}
use Rattle.scatter_text.specs.Grammar.{HasForm}
use Rattle.scatter_text.proofs.line.has_form.Given as goal

abbrev pub invariant-loop-slot : goal.invariant-loop-slot
invariant-loop-slot l = record {
  within : l.start ≤ length l.tokens;
  decides : HasForm l.variables l.slots (map (λ t. t.now) l.tokens) ↔ HasForm l.variables (drop l.slot-index l.slots) (drop l.start (map (λ t. t.now) l.tokens));
}
