use Rattle.std.proofs.Common.{refl}
use Rattle.diagram_reader.proofs.Asked.{among}
use Rattle.session_readers.proofs.gathering.answer_by.Goals as goal

pub returns-clause-answer : goal.returns-clause-answer
returns-clause-answer c =
    let last = c.args.last.now in
    among last c.diagram.result.now last.initial c.args.query.now c.answer-again.result c.diagram.ensures.completed refl c.diagram.ensures.value c.answer-again.ensures
