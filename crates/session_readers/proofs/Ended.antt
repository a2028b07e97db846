-- What a session has answered once its readers have ended.
use Rattle.std.proofs.Common.{◌≡◌, ℕ, ◌≤◌, refl, sym, ap, subst, ◌∙◌, le_refl, List, length, replicate, arith, Option, Some, None, slice_get}
use Rattle.std.proofs.lemmas.List.{length-replicate}
use Rattle.std.specs.Prelude.{unwrap_or}
use Rattle.std.specs.List.{AllZip, All}
use Rattle.std.specs.Option.{ForSome}
use Rattle.std.proofs.lemmas.Option.{slice_get_within}
use Rattle.std.proofs.lemmas.Slice.Zip.{AllZip-long}
use Rattle.scatter_diagram.specs.Listed.{SeenInitial}
use Rattle.order_epochs.specs.Seen.{SeenEpoch, epoch_of}
use Rattle.scatter_step.specs.Completed.{SeenCompleted}
use Rattle.scatter_step.specs.Orders.{IsOutcome}
use Rattle.scatter_step.specs.declared.complete.Outcome.{Outcome}
use Rattle.theta_algebra.specs.declared.query.Answer.{Answer}
use Rattle.session_readers.specs.Session.{IsPublishedAnswer, NeverOlder, IsSettled, IsSession}
use Rattle.session_readers.specs.Seats.{IsNewSeat, AreNewSeats, IsContinued, IsSettledSeat, IsFullSeat, AreFullSeats, AreLater}
use Rattle.session_readers.specs.Gathered.{AreGathered}
use Rattle.session_readers.specs.declared.seat.Seat.{Seat}
use Rattle.session_readers.specs.declared.session.Session.{Session}
use Rattle.session_readers.proofs.Begun.{beside-lines}
use Rattle.session_readers.proofs.Places.{one-place, replicated, zip-right, zip-built}
use Rattle.theta_algebra.specs.Answering.{Ask}

-- ---- the seats

module _ (e : SeenEpoch) (n : ℕ) (asks : List Ask) (to k : ℕ) (ss ts vs : List Seat)
    (new : AreNewSeats (replicate n e) ss) (beside : AllZip (IsContinued asks to) ss ts) (after : AllZip (IsSettledSeat asks k) ts vs) where
  long : length ss ≡ n
  long = new.0 ∙ length-replicate n e

  first : (i : ℕ) (s : Seat) → slice_get ss i ≡ Some s → IsNewSeat i e s
  first i s at = let w = slice_get_within ss i s at in let l = long in new.1 i e s (replicated n e i (omega (arith, w, l))) at

  full : (i : ℕ) (v : Seat) → slice_get vs i ≡ Some v → IsFullSeat e.lines asks i v
  full i v at =
      let (t, there, b) = zip-right (IsSettledSeat asks k) ts vs after i v at in
      let (s, here, a) = zip-right (IsContinued asks to) ss ts beside i t there in
      let f = first i s here in record {
        number = b.number ∙ (a.number ∙ f.number);
        lines = b.lines ∙ (a.lines ∙ ap (λ r. r.lines) f.reader);
        length = b.length;
        seat = b.seat;
      }

  pub full-seats : AreFullSeats e.lines asks n vs
  full-seats = (AllZip-long (IsSettledSeat asks k) ts vs after ∙ (AllZip-long (IsContinued asks to) ss ts beside ∙ long), full)

  pub later-seats : AreLater to k vs
  later-seats i j v a at l here =
      let (t, there, b) = zip-right (IsSettledSeat asks k) ts vs after i v at in
      let (s, before, m) = zip-right (IsContinued asks to) ss ts beside i t there in
      b.later j a (let n = m.length in omega (arith, n, l)) here

-- ---- from the first order to the last: the lines of the store are those of the first, and e has the last in it

module _ (n to k : ℕ) (asks : List Ask) (first copy : SeenCompleted) (e : SeenEpoch) (o : Outcome) (ss ts : List Seat)
    (same : copy ≡ first) (new : AreNewSeats (replicate n (epoch_of copy)) ss) (beside : AllZip (IsContinued asks to) ss ts)
    (out : IsOutcome first.initial k o) (store : e ≡ epoch_of o.last) where
  own : copy.initial ≡ o.last.initial
  own = ap (λ (c : SeenCompleted). c.initial) same ∙ sym out.initial

  pub last-lines : All (λ t. t.reader.lines ≡ e.lines) ts
  last-lines =
      subst (λ (l : SeenInitial). All (λ (t : Seat). t.reader.lines ≡ l) ts) (own ∙ sym (ap (λ (x : SeenEpoch). x.lines) store))
      (beside-lines asks to ss ts beside (epoch_of copy) n new)

  module _ (vs : List Seat) (after : AllZip (IsSettledSeat asks e.order) ts vs) where
    pub last-seats : AreFullSeats o.last.initial asks n vs
    last-seats = subst (λ (l : SeenInitial). AreFullSeats l asks n vs) own (full-seats (epoch_of copy) n asks to e.order ss ts vs new beside after)

    pub last-later : AreLater to o.last.order vs
    last-later = subst (λ (m : ℕ). AreLater to m vs) (ap (λ (x : SeenEpoch). x.order) store) (later-seats (epoch_of copy) n asks to e.order ss ts vs new beside after)

-- ---- the answers

module _ (i : SeenInitial) (k n from last : ℕ) (asks : List Ask) (vs : List Seat) (answers : List Answer)
    (full : AreFullSeats i asks n vs) (later : AreLater from last vs) (long : length answers ≡ length asks) (all : AreGathered i last vs asks answers) where
  each : AllZip (IsPublishedAnswer i last) asks answers
  each = zip-built (IsPublishedAnswer i last) asks answers long (λ j ask a p q. let g = all j ask a p q in record {
    published = let o = g.order in omega (arith, o);
    answer = g.answer;
    told = g.told;
  })

  rising : NeverOlder asks answers
  rising x y p q a b l same ap' aq aa ab =
      let g = all x p a ap' aa in
      let h = all y q b aq ab in
      let r = g.reader in
      let t = h.reader in
      let e : g.index ≡ h.index = omega (arith, r, t, same) in
      let s : g.seat ≡ h.seat = one-place vs h.index g.seat h.seat (subst (λ m. slice_get vs m ≡ Some g.seat) e g.at) h.at in
      let f = full.1 h.index h.seat h.at in
      let u = f.seat.rising x y g.found h.found l (subst (λ (z : Seat). slice_get z.answers.items x ≡ Some (Some g.found)) s g.place) h.place in
      let v = g.order in
      let w = h.order in
      omega (arith, u, v, w)

  settled : (j : ℕ) (a : Answer) → from ≤ j → slice_get answers j ≡ Some a → a.order ≡ last
  settled j a l at =
      let (ask, here, p) = zip-right (IsPublishedAnswer i last) asks answers each j a at in
      let g = all j ask a here at in
      let u = later g.index j g.seat g.found g.at l g.place in
      let v = g.order in
      omega (arith, u, v)

pub settle-within : (settle : Option ℕ) (m : ℕ) → ForSome settle (λ n. n ≤ m) → unwrap_or settle m ≤ m
settle-within None m h = le_refl m
settle-within (Some n) m h = h n refl

settled-after : (settle : Option ℕ) (m last : ℕ) (answers : List Answer)
    → ((j : ℕ) (a : Answer) → unwrap_or settle m ≤ j → slice_get answers j ≡ Some a → a.order ≡ last) → IsSettled settle last answers
settled-after settle m last answers h n e j a l at = h j a (subst (λ o. unwrap_or o m ≤ j) (sym e) l) at

pub session-ended : (i : SeenInitial) (k n : ℕ) (asks : List Ask) (settle : Option ℕ) (o : Outcome) (vs : List Seat) (s : Session)
    → IsOutcome i k o → s.stop ≡ o.stop → s.published ≡ o.last.order
    → AreFullSeats i asks n vs → AreLater (unwrap_or settle (length asks)) o.last.order vs
    → length s.answers.items ≡ length asks → AreGathered i o.last.order vs asks s.answers.items → IsSession i k asks settle s
session-ended i k n asks settle o vs s h stop last full later long all =
    let from = unwrap_or settle (length asks) in record {
      stop = rw stop h.stop;
      published = rw (last, stop) h.order;
      each = rw last (each i k n from o.last.order asks vs s.answers.items full later long all);
      rising = rising i k n from o.last.order asks vs s.answers.items full later long all;
      settled = rw last (settled-after settle (length asks) o.last.order s.answers.items (settled i k n from o.last.order asks vs s.answers.items full later long all));
    }
