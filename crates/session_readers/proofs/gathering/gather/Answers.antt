use Rattle.std.proofs.Common.{◌≡◌, ◌-◌, ◌≤◌, ℕ, refl, sym, subst, ◌∙◌, length, arith, Some, slice_get}
use Rattle.std.specs.Prelude.{vec_len}
use Rattle.std.proofs.lemmas.Option.{slice_get_read}
use Rattle.theta_algebra.specs.Answering.{Ask}
use Rattle.session_readers.specs.Gathered.{AreGathered}
use Rattle.session_readers.proofs.Places.{all-at}
use Rattle.session_readers.proofs.Taken.{IsTaken, taken-from, full-places, never-none, same-more, gathered-more}
use Rattle.session_readers.proofs.gathering.gather.Goals as goal

pub take_answer-requires-clause-place : goal.take_answer-requires-clause-place
take_answer-requires-clause-place c =
    full-places c.args.last.now.initial c.args.asks.now _ c.args.seats.items c.loop-i.seats.items c.loop-i.i c.requires.seats c.loop-i.invariant.same c.loop-i-test.true

pub unreachable-requires : goal.unreachable-requires
unreachable-requires c =
    let asks = c.args.asks.now in
    let i = c.loop-i.i in
    let ask = c.index-asks-i.result in
    let here = slice_get_read asks (length asks) i ask refl c.loop-i-test.true c.index-asks-i.is in
    let t = taken-from c.args.last.now.initial asks _ c.args.seats.items c.loop-i.seats.items i ask c.take_answer.result c.requires.seats c.loop-i.invariant.same here c.requires.numbers c.take_answer.ensures.place in
    absurd (never-none c.args.last.now.initial c.args.seats.items i (ask.0 - 1) ask (subst (IsTaken c.args.last.now.initial c.args.seats.items i (ask.0 - 1) ask) c.in_default.is t))

pub answer_by-requires-clause-answer : goal.answer_by-requires-clause-answer
answer_by-requires-clause-answer c =
    let asks = c.args.asks.now in
    let i = c.loop-i.i in
    let ask = c.index-asks-i.result in
    let here = slice_get_read asks (length asks) i ask refl c.loop-i-test.true c.index-asks-i.is in
    let t = taken-from c.args.last.now.initial asks _ c.args.seats.items c.loop-i.seats.items i ask c.take_answer.result c.requires.seats c.loop-i.invariant.same here c.requires.numbers c.take_answer.ensures.place in
    (subst (IsTaken c.args.last.now.initial c.args.seats.items i (ask.0 - 1) ask) c.in-Some.is t).own.0

pub answer_by-requires-clause-told : goal.answer_by-requires-clause-told
answer_by-requires-clause-told c =
    let asks = c.args.asks.now in
    let i = c.loop-i.i in
    let ask = c.index-asks-i.result in
    let here = slice_get_read asks (length asks) i ask refl c.loop-i-test.true c.index-asks-i.is in
    let t = taken-from c.args.last.now.initial asks _ c.args.seats.items c.loop-i.seats.items i ask c.take_answer.result c.requires.seats c.loop-i.invariant.same here c.requires.numbers c.take_answer.ensures.place in
    (subst (IsTaken c.args.last.now.initial c.args.seats.items i (ask.0 - 1) ask) c.in-Some.is t).own.1

pub loop-i-preserved : goal.loop-i-preserved
loop-i-preserved c =
    let lines = c.args.last.now.initial in
    let k = c.args.last.now.order in
    let n = vec_len c.args.seats in
    let asks = c.args.asks.now in
    let ss = c.args.seats.items in
    let i = c.loop-i.i in
    let ask = c.index-asks-i.result in
    let before = c.loop-i.invariant in
    let answers = c.loop-i.answers in
    let new = c.in_ok-answer_by in
    let here = slice_get_read asks (length asks) i ask refl c.loop-i-test.true c.index-asks-i.is in
    let t = taken-from lines asks n ss c.loop-i.seats.items i ask c.take_answer.result c.requires.seats before.same here c.requires.numbers c.take_answer.ensures.place in
    let u = subst (IsTaken lines ss i (ask.0 - 1) ask) c.in-Some.is t in
    let e : i ≡ length answers.items = sym before.length ∙ answers.ok.0 in
    let some = (all-at (λ (a : Ask). (1 ≤ a.0) × (a.0 ≤ n)) asks i ask c.requires.numbers here).0 in record {
      same = same-more i ss c.loop-i.seats.items c.take_answer.new.seats.items before.same c.take_answer.ensures.others;
      length = let l = before.length in omega (arith, l, c.in_ok-push.ensures.len);
      answers = subst (AreGathered lines k ss asks) (sym c.in_ok-push.ensures.items)
          (gathered-more lines k ss asks answers.items (ask.0 - 1) ask c.in-Some.found new.field-0 before.answers (subst (λ (m : ℕ). slice_get asks m ≡ Some ask) e here) (omega (arith, some))
          (subst (λ (m : ℕ). IsTaken lines ss m (ask.0 - 1) ask (Some c.in-Some.found)) e u) new.ensures.order new.ensures.answer new.ensures.told);
    }
