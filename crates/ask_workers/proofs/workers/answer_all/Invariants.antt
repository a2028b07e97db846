use Rattle.std.specs.List.{AllWithin}
use Rattle.scattering.specs.Wall.{walls}
use Rattle.theta_algebra.specs.Answering.{IsToldAnswer}
use Rattle.ask_workers.specs.Answered.{AreAnswers}
use Rattle.ask_workers.proofs.workers.answer_all.Given as goal

abbrev pub invariant-loop-i : goal.invariant-loop-i
invariant-loop-i g l = record {
  answers : AreAnswers (walls l.e.diagram) l.e.order l.asks l.answers.items;
  told : AllWithin IsToldAnswer l.answers.items 0 l.i;
}
