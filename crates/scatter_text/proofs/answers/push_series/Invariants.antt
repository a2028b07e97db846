-- The terms so far.
use Rattle.std.proofs.Common.{◌≡◌, ◌++◌, take, map}
use Rattle.std.specs.Prelude.{string_bytes, flat_map}
use Rattle.trunc_series.specs.Shown.{term_of}
use Rattle.scatter_text.specs.AnswersText.{monomial_text}
use Rattle.scatter_text.proofs.answers.push_series.Given as goal

abbrev pub invariant-loop-term : goal.invariant-loop-term
invariant-loop-term l = string_bytes l.text ≡ string_bytes l.initial.text ++ flat_map (monomial_text l.vars) (map term_of (take l.term-index l.terms))
