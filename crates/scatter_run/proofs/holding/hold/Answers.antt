-- What the session gives is what it may print, with the status of its first stop.
use Rattle.std.proofs.Common.{ℕ, sym, subst, List, All}
use Rattle.std.proofs.lemmas.Slice.Zip.{AllZip-long}
use Rattle.scatter_diagram.specs.Stopped.{stop_of}
use Rattle.theta_algebra.specs.declared.query.Answer.{Answer}
use Rattle.theta_algebra.specs.Answering.{Ask, IsToldAnswer}
use Rattle.session_readers.specs.Session.{IsSession}
use Rattle.scatter_text.specs.GivenQueries.{IsReadersQueryOf}
use Rattle.scatter_text.specs.AnswersText.{IsAnswersText}
use Rattle.scatter_text.proofs.AskQueries.{asks-within-first-limit, few-within-first-limit, queries-small}
use Rattle.scatter_run.specs.declared.status.Status.{Status}
use Rattle.scatter_run.specs.Held.{IsSessionText}
use Rattle.scatter_run.specs.Outcome.{IsEnded}
use Rattle.scatter_run.proofs.CompletedText.{ended-by}
use Rattle.scatter_run.proofs.HeldText.{numbers-within, session-told, session-text}
use Rattle.scatter_run.proofs.holding.hold.Goals as goal

pub queries_of-requires : goal.queries_of-requires
queries_of-requires g c = asks-within-first-limit c.args.file.now c.args.order c.args.readers c.requires.few_readers c.requires.within

pub hold_session-requires-clause-queries : goal.hold_session-requires-clause-queries
hold_session-requires-clause-queries g c κs within =
    rw c.as_slice-asks.ensures.value
    (queries-small c.args.file.now c.in_ok-asks.asks.items (asks-within-first-limit c.args.file.now c.args.order c.args.readers c.requires.few_readers c.requires.within) c.in_ok-asks.ensures)

pub hold_session-requires-clause-numbers : goal.hold_session-requires-clause-numbers
hold_session-requires-clause-numbers g c κs within =
    rw c.as_slice-asks.ensures.value (numbers-within c.args.file.now c.args.order c.args.readers c.in_ok-asks.asks.items c.requires.within c.in_ok-asks.ensures)

pub hold_session-requires-clause-few_asks : goal.hold_session-requires-clause-few_asks
hold_session-requires-clause-few_asks g c κs within =
    let same = AllZip-long IsReadersQueryOf c.args.file.now.asks c.in_ok-asks.asks.items c.in_ok-asks.ensures in
    let few = few-within-first-limit c.args.file.now c.args.order c.args.readers c.requires.within in
    rw c.as_slice-asks.ensures.value (rw same few)

pub hold_session-requires-clause-settle : goal.hold_session-requires-clause-settle
hold_session-requires-clause-settle g c κs within n is =
    let same = AllZip-long IsReadersQueryOf c.args.file.now.asks c.in_ok-asks.asks.items c.in_ok-asks.ensures in
    let settled = c.args.file.now.settled n is in
    rw c.as_slice-asks.ensures.value (rw same settled)

pub write_answers-requires-clause-told : goal.write_answers-requires-clause-told
write_answers-requires-clause-told g c =
    subst (λ (xs : List Answer). All IsToldAnswer xs) (sym c.as_slice-answers.ensures.value)
    (session-told _ c.args.order c.as_slice-asks.result.now c.args.file.now.settle c.in_ok-session.session c.in_ok-session.ensures)

pub returns : goal.returns
returns g c =
    let session = c.in_ok-session.session in
    let stop = stop_of session.stop in
    let file = c.args.file.now in
    let order = c.args.order in
    let text = c.in_ok-text.text.items in
    let printed : IsAnswersText c.in_ok-initial.initial.vars session.published stop session.answers.items text =
    subst (λ (n : ℕ). IsAnswersText n session.published stop session.answers.items text) c.vars-vars.ensures.value
    (subst (λ (xs : List Answer). IsAnswersText c.vars-vars.result session.published stop xs text) c.as_slice-answers.ensures.value c.in_ok-text.ensures) in
    let held : IsSession c.in_ok-initial.initial order c.in_ok-asks.asks.items file.settle session =
    subst (λ (xs : List Ask). IsSession c.in_ok-initial.initial order xs file.settle session) c.as_slice-asks.ensures.value c.in_ok-session.ensures in
    subst (λ (s : Status). IsEnded (IsSessionText order file) s text) c.status_of.ensures
    (ended-by (IsSessionText order file) session.stop text
    (session-text file order c.in_ok-initial.initial c.in_ok-asks.asks.items session text c.requires.order c.in_ok-initial.ensures c.in_ok-asks.ensures held printed))
