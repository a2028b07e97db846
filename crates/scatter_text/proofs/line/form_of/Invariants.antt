-- None of the forms so far.
use Rattle.std.proofs.Common.{map}
use Rattle.std.specs.List.{AllWithin}
use Rattle.scatter_text.specs.Grammar.{slots_of, HasForm}
use Rattle.scatter_text.proofs.line.form_of.Given as goal

abbrev pub invariant-loop-form : goal.invariant-loop-form
invariant-loop-form l = AllWithin (λ f. ¬ HasForm l.variables (slots_of f) (map (λ t. t.now) l.tokens)) l.forms 0 l.form-index
