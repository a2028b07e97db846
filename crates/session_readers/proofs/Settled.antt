-- Readers that learned of the last order.
use Rattle.std.proofs.Common.{ℕ, ◌≤◌, ap, ◌∙◌, List, arith, vec_len}
use Rattle.std.specs.List.{AllZip, All}
use Rattle.session_readers.specs.Seats.{IsReadersSeat, IsFinished, IsInformed, IsSettledSeat}
use Rattle.session_readers.specs.declared.seat.Seat.{Seat}
use Rattle.session_readers.proofs.Places.{zip-kept, zip-then}
use Rattle.session_readers.proofs.Continued.{informed-seat}
use Rattle.theta_algebra.specs.Answering.{Ask}

module _ (asks : List Ask) (k : ℕ) (ss ts : List Seat) (h : AllZip (IsInformed k) ss ts) where
  pub informed-places : (to : ℕ) → All (λ s. vec_len s.answers ≤ to) ss → All (λ t. vec_len t.answers ≤ to) ts
  informed-places to =
      zip-kept (IsInformed k) (λ (s : Seat). vec_len s.answers ≤ to) (λ (t : Seat). vec_len t.answers ≤ to)
      (λ s t p m. let e = ap (λ v. vec_len v) m.answers in omega (arith, p, e)) ss ts h

  pub informed-seats : All (IsReadersSeat asks) ss → All (IsReadersSeat asks) ts
  informed-seats = zip-kept (IsInformed k) (IsReadersSeat asks) (IsReadersSeat asks) (λ s t p m. informed-seat asks k s t m p) ss ts h

  pub settled-seats : (vs : List Seat) → AllZip (IsFinished asks) ts vs → AllZip (IsSettledSeat asks k) ss vs
  settled-seats vs =
      zip-then (IsInformed k) (IsFinished asks) (IsSettledSeat asks k)
      (λ s t v m n. record {
        number = n.0.number ∙ m.number;
        lines = n.0.lines ∙ ap (λ r. r.lines) m.reader;
        length = n.1;
        seat = n.0.seat;
        later = λ i a l at.
            let e = ap (λ v. vec_len v) m.answers in
            let o = ap (λ r. r.order) m.reader in
            let p = n.0.later i a (omega (arith, l, e)) at in
            omega (arith, o, p);
      })
      ss ts vs h
