use Rattle.scatter_text.proofs.OneDiagramText.{walls-one, text-one}
use Rattle.scatter_text.proofs.AnswerTexts.{answers_text-one}
use Rattle.scatter_text.proofs.laws.one_text.Goals as goal

pub returns : goal.returns
returns c = record { walls = walls-one; text = text-one; answers = answers_text-one }
