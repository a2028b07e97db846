-- The thetas so far.
use Rattle.std.proofs.Common.{◌≡◌, ◌++◌, take}
use Rattle.std.specs.Prelude.{string_bytes, flat_map}
use Rattle.scatter_text.specs.AnswersText.{theta_text}
use Rattle.scatter_text.proofs.answers.push_family.Given as goal

abbrev pub invariant-loop-theta : goal.invariant-loop-theta
invariant-loop-theta l = string_bytes l.text ≡ string_bytes l.initial.text ++ flat_map (theta_text l.vars) (take l.theta-index l.family)
