-- The terms so far.
use Rattle.std.proofs.Common.{take}
use Rattle.scatter_json.specs.Parts.{AddsTerms}
use Rattle.scatter_json.proofs.terms.with_terms.Given as goal

abbrev pub invariant-loop-value : goal.invariant-loop-value
invariant-loop-value l = AddsTerms l.vars l.initial.line.row (take l.value-index l.values) l.line.row
