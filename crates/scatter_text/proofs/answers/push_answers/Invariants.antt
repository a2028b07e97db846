-- The answers so far.
use Rattle.std.proofs.Common.{take}
use Rattle.std.specs.Prelude.{string_bytes}
use Rattle.scatter_text.proofs.AnswerTexts.{AreAnswersWritten}
use Rattle.scatter_text.proofs.answers.push_answers.Given as goal

abbrev pub invariant-loop-i : goal.invariant-loop-i
invariant-loop-i l = AreAnswersWritten l.vars (take l.i l.answers) (string_bytes l.initial.text) (string_bytes l.text)
