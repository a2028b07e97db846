-- The counts are given.
use Rattle.scatter_run.proofs.Promises.{generate_kept}
use Rattle.scatter_run.proofs.jobs.generate_job.Goals as goal

pub returns-clause-promise : goal.returns-clause-promise
returns-clause-promise g c =
    generate_kept c.args.number (g.K.Sink.held c.args.sink.now) (g.K.Sink.held c.give_answer.new.sink) (g.K.Sink.faults c.args.sink.now) (g.K.Sink.faults c.give_answer.new.sink)
    c.generate.result c.give_answer.result c.requires c.generate.ensures c.give_answer.ensures
