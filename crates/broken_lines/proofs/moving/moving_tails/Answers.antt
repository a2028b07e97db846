use Rattle.std.proofs.Common.{sym, subst, ◌∙◌}
use Rattle.std.proofs.lemmas.Result.{err_from_is_err_and}
use Rattle.broken_lines.specs.Growth.{AreSummable}
use Rattle.broken_lines.specs.Tracing.{seen_tracing}
use Rattle.broken_lines.proofs.TracedRoots.{keys-summable}
use Rattle.broken_lines.proofs.TracedAnswers.{roots-answer, run-start, run-answer, tails-answer, free-answer, fault-answer}
use Rattle.broken_lines.proofs.moving.moving_tails.Goals as goal

pub push_roots-requires-clause-reached : goal.push_roots-requires-clause-reached
push_roots-requires-clause-reached c =
    let listed = c.as_slice.ensures.value ∙ c.in_ok-reached.ensures.items in
    subst AreSummable (sym listed) (keys-summable c.args.stretches.now.walls c.args.ask.now c.requires.ready c.in_ok-reached.ensures.ordered)

pub returns-in_err-push_roots-clause-fault : goal.returns-in_err-push_roots-clause-fault
returns-in_err-push_roots-clause-fault c =
    let listed = c.as_slice.ensures.value ∙ c.in_ok-reached.ensures.items in
    let p = err_from_is_err_and c.from_residual-in_err-push_roots.result c.from_residual-in_err-push_roots.ensures.1 in
    rw (p.1, p.2) (roots-answer c.args.stretches.now.walls c.args.ask.now c.requires.ready c.in_ok-reached.ensures.ordered c.requires.free c.requires.moves
    c.in_err-push_roots.field-0.0 (seen_tracing c.new-tracing.result) c.as_slice.result.now c.new-tracing.ensures listed c.in_err-push_roots.ensures.fault)

pub run-requires-clause-traces : goal.run-requires-clause-traces
run-requires-clause-traces c =
    let listed = c.as_slice.ensures.value ∙ c.in_ok-reached.ensures.items in
    run-start c.args.stretches.now.walls c.args.ask.now c.requires.ready c.in_ok-reached.ensures.ordered c.requires.free c.requires.moves
    (seen_tracing c.new-tracing.result) (seen_tracing c.push_roots.new.self) c.as_slice.result.now c.new-tracing.ensures listed c.in_ok-push_roots.ensures.pushed

pub returns-in_err-run-clause-fault : goal.returns-in_err-run-clause-fault
returns-in_err-run-clause-fault c =
    let p = err_from_is_err_and c.from_residual-in_err-run.result c.from_residual-in_err-run.ensures.1 in
    rw (p.1, p.2) (run-answer c.args.stretches.now.walls c.args.ask.now c.requires.ready c.in_ok-reached.ensures.ordered c.requires.free c.requires.moves
    c.in_err-run.field-0.0 c.in_err-run.ensures.fault)

pub returns-clause-tails : goal.returns-clause-tails
returns-clause-tails c =
    tails-answer c.args.stretches.now.walls c.args.ask.now c.requires.ready c.in_ok-reached.ensures.ordered c.requires.free c.requires.moves
    c.run.new.self c.in_ok-run.ensures.traces c.in_ok-run.ensures.done c.verdict.result c.verdict.ensures.tails c.verdict.ensures.weight

pub returns-clause-free : goal.returns-clause-free
returns-clause-free c =
    free-answer c.args.stretches.now.walls c.args.ask.now c.requires.ready c.in_ok-reached.ensures.ordered c.requires.free c.requires.moves
    c.run.new.self c.in_ok-run.ensures.traces c.in_ok-run.ensures.done c.in_ok-run.ensures.few c.verdict.result c.verdict.ensures.weight c.verdict.ensures.free

pub returns-clause-fault : goal.returns-clause-fault
returns-clause-fault c =
    fault-answer c.args.stretches.now.walls c.args.ask.now c.requires.ready c.in_ok-reached.ensures.ordered c.requires.free c.requires.moves
    c.run.new.self c.in_ok-run.ensures.traces c.in_ok-run.ensures.done c.in_ok-run.ensures.few c.verdict.result c.verdict.ensures.fault
