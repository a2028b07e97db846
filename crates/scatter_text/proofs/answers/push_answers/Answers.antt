-- One more of the answers.
use Rattle.std.proofs.Common.{arith}
use Rattle.std.specs.Prelude.{string_bytes}
use Rattle.scatter_text.proofs.AnswerTexts.{answers_written-more, all-answers_written}
use Rattle.scatter_text.proofs.answers.push_answers.Goals as goal

pub loop-i-preserved : goal.loop-i-preserved
loop-i-preserved c =
    answers_written-more c.args.vars c.args.answers.now c.loop-i.i c.index-answers-i.result (string_bytes c.args.text.now) (string_bytes c.loop-i.text) (string_bytes c.push_answer.new.text)
    (omega (arith, c.loop-i-test.true, c.loop-i.auto.i-end)) c.index-answers-i.is c.loop-i.invariant c.in_ok-push_answer.ensures

pub returns : goal.returns
returns c = all-answers_written c.args.vars c.args.answers.now c.loop-i.i (string_bytes c.args.text.now) (string_bytes c.loop-i.text) (omega (arith, c.loop-i-test.false, c.loop-i.auto.i-end)) c.loop-i.invariant
