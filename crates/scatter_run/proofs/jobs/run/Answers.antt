-- The job's promises are those of its words.
use Rattle.std.proofs.Common.{subst, ℕ}
use Rattle.scatter_run.specs.Words.{AreWordsOf, word_bytes}
use Rattle.scatter_run.specs.declared.words.Job.TheVariants.{Complete, Session, Generate}
use Rattle.scatter_run.specs.Outcome.{IsGenerateOutcome, IsUnstopped}
use Rattle.scatter_run.proofs.WordLists.{same-number}
use Rattle.scatter_run.proofs.Promises.{IsKeptUnread, any_source_kept, job_kept, words_kept}
use Rattle.scatter_run.proofs.OneOutcome.{written-one}
use Rattle.scatter_run.proofs.jobs.run.Goals as goal

pub returns-in-Ok-Some-Complete-clause-promise : goal.returns-in-Ok-Some-Complete-clause-promise
returns-in-Ok-Some-Complete-clause-promise g c =
    let h = c.in-Ok-Some-Complete in
    job_kept (word_bytes c.args.words.now) (Complete h.form h.order h.workers) _ _ _ _ _ _ _ _ c.form_job.result
    (subst (AreWordsOf (word_bytes c.args.words.now)) h.field-0-0-is (rw h.field-0-is at h.ensures.job)) c.form_job.ensures.promise

pub returns-in-Ok-Some-Complete-clause-one : goal.returns-in-Ok-Some-Complete-clause-one
returns-in-Ok-Some-Complete-clause-one g c =
    let h = c.in-Ok-Some-Complete in
    written-one (word_bytes c.args.words.now) (g.S.Source.left c.args.source.now) _ _ c.form_job.result
    (job_kept (word_bytes c.args.words.now) (Complete h.form h.order h.workers) _ _ _ _ _ _ _ _ c.form_job.result
    (subst (AreWordsOf (word_bytes c.args.words.now)) h.field-0-0-is (rw h.field-0-is at h.ensures.job)) c.form_job.ensures.promise).outcome

pub returns-in-Ok-Some-Session-clause-promise : goal.returns-in-Ok-Some-Session-clause-promise
returns-in-Ok-Some-Session-clause-promise g c =
    let h = c.in-Ok-Some-Session in
    job_kept (word_bytes c.args.words.now) (Session h.order h.workers h.readers) _ _ _ _ _ _ _ _ c.session_job.result
    (subst (AreWordsOf (word_bytes c.args.words.now)) h.field-0-0-is (rw h.field-0-is at h.ensures.job)) c.session_job.ensures.promise

pub returns-in-Ok-Some-Session-clause-one : goal.returns-in-Ok-Some-Session-clause-one
returns-in-Ok-Some-Session-clause-one g c =
    let h = c.in-Ok-Some-Session in
    written-one (word_bytes c.args.words.now) (g.S.Source.left c.args.source.now) _ _ c.session_job.result
    (job_kept (word_bytes c.args.words.now) (Session h.order h.workers h.readers) _ _ _ _ _ _ _ _ c.session_job.result
    (subst (AreWordsOf (word_bytes c.args.words.now)) h.field-0-0-is (rw h.field-0-is at h.ensures.job)) c.session_job.ensures.promise).outcome

pub returns-in-Ok-Some-Generate-clause-promise : goal.returns-in-Ok-Some-Generate-clause-promise
returns-in-Ok-Some-Generate-clause-promise g c =
    let h = c.in-Ok-Some-Generate in
    let left = g.S.Source.left c.args.source.now in
    let faults = g.S.Source.faults c.args.source.now in
    job_kept (word_bytes c.args.words.now) (Generate h.number) left left faults faults _ _ _ _ c.generate_job.result
    (subst (AreWordsOf (word_bytes c.args.words.now)) h.field-0-0-is (rw h.field-0-is at h.ensures.job))
    (any_source_kept (IsGenerateOutcome h.number) (IsUnstopped h.number) left faults _ _ _ _ c.generate_job.result c.generate_job.ensures.promise)

pub returns-in-Ok-Some-Generate-clause-one : goal.returns-in-Ok-Some-Generate-clause-one
returns-in-Ok-Some-Generate-clause-one g c =
    let h = c.in-Ok-Some-Generate in
    let left = g.S.Source.left c.args.source.now in
    let faults = g.S.Source.faults c.args.source.now in
    written-one (word_bytes c.args.words.now) left _ _ c.generate_job.result
    (job_kept (word_bytes c.args.words.now) (Generate h.number) left left faults faults _ _ _ _ c.generate_job.result
    (subst (AreWordsOf (word_bytes c.args.words.now)) h.field-0-0-is (rw h.field-0-is at h.ensures.job))
    (any_source_kept (IsGenerateOutcome h.number) (IsUnstopped h.number) left faults _ _ _ _ c.generate_job.result c.generate_job.ensures.promise)).outcome

pub returns-in-Ok-Some-Generate-clause-generate : goal.returns-in-Ok-Some-Generate-clause-generate
returns-in-Ok-Some-Generate-clause-generate g c number a =
    let h = c.in-Ok-Some-Generate in
    subst (λ (n : ℕ). IsKeptUnread (IsGenerateOutcome n) (IsUnstopped n) (g.K.Sink.held c.args.sink.now) (g.K.Sink.held c.generate_job.new.sink) (g.K.Sink.faults c.args.sink.now) (g.K.Sink.faults c.generate_job.new.sink) c.generate_job.result)
    (same-number (word_bytes c.args.words.now) h.number number (subst (AreWordsOf (word_bytes c.args.words.now)) h.field-0-0-is (rw h.field-0-is at h.ensures.job)) a)
    c.generate_job.ensures.promise

pub returns-in-Ok-None-clause-promise : goal.returns-in-Ok-None-clause-promise
returns-in-Ok-None-clause-promise g c = words_kept (word_bytes c.args.words.now) _ _ _ _ _ _ c.give.result c.requires.sink (rw c.in-Ok-None.field-0-is at c.in-Ok-None.ensures.none) c.give.ensures.given

pub returns-in-Ok-None-clause-one : goal.returns-in-Ok-None-clause-one
returns-in-Ok-None-clause-one g c =
    written-one (word_bytes c.args.words.now) (g.S.Source.left c.args.source.now) _ _ c.give.result
    (words_kept (word_bytes c.args.words.now) (g.S.Source.left c.args.source.now) (g.S.Source.faults c.args.source.now) (g.K.Sink.held c.args.sink.now)
    (g.K.Sink.held c.give.new.sink) (g.K.Sink.faults c.args.sink.now) (g.K.Sink.faults c.give.new.sink) c.give.result c.requires.sink (rw c.in-Ok-None.field-0-is at c.in-Ok-None.ensures.none) c.give.ensures.given).outcome

pub returns-in-Ok-None-clause-generate : goal.returns-in-Ok-None-clause-generate
returns-in-Ok-None-clause-generate g c number a = absurd ((rw c.in-Ok-None.field-0-is at c.in-Ok-None.ensures.none) (Generate number) a)
