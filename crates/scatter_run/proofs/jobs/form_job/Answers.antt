-- What was read is answered, and the answer given; or a fault was counted.
use Rattle.std.proofs.Common.{ap, ◌∙◌}
use Rattle.std.specs.Prelude.{Err}
use Rattle.scatter_run.specs.Completed.{IsCompletedText}
use Rattle.scatter_run.proofs.Promises.{answered_kept, completed-stops, fault_kept}
use Rattle.scatter_run.proofs.jobs.form_job.Goals as goal

pub returns-in-Ok-clause-promise : goal.returns-in-Ok-clause-promise
returns-in-Ok-clause-promise g c =
    answered_kept c.args.form c.args.order 1 (IsCompletedText c.args.form c.args.order) (completed-stops c.args.form c.args.order) (g.S.Source.left c.args.source.now) _ _ _ _ _ _ _ c.give_answer.result c.requires.sink
    c.in-Ok.bytes.items _ c.answer_to-answered.result c.in-Ok.ensures.kept c.in-Ok.ensures.whole c.as_slice-bytes.ensures.value c.answer_to-answered.ensures c.give_answer.ensures

pub returns-in-Err-clause-promise : goal.returns-in-Err-clause-promise
returns-in-Err-clause-promise g c =
    fault_kept c.args.form c.args.order 1 (IsCompletedText c.args.form c.args.order) (completed-stops c.args.form c.args.order) (g.S.Source.left c.args.source.now) _ _ _ _ _ _ _ c.give_fault.result c.requires.sink
    c.in-Err.fault c.requires.source (λ e. c.read_input.ensures.failed (c.in-Err.is ∙ ap Err e)) (λ e. c.read_input.ensures.long (c.in-Err.is ∙ ap Err e))
    (λ e. c.read_input.ensures.memory (c.in-Err.is ∙ ap Err e)) c.give_fault.ensures
