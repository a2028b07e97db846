-- Seats before the first ask, and what their readers have answered beside the writer.
use Rattle.std.proofs.Common.{◌≡◌, ℕ, ◌≤◌, inl, inr, sym, ap, subst, ◌∙◌, List, [], ◌∷◌, ◌++◌, length, length-append, replicate, arith, Option, Some, slice_get, vec_len}
use Rattle.std.proofs.lemmas.List.{length-replicate}
use Rattle.std.specs.List.{AllZip, All}
use Rattle.std.proofs.lemmas.Option.{none-some, slice_get_within}
use Rattle.order_epochs.specs.Seen.{SeenEpoch}
use Rattle.theta_algebra.specs.declared.query.Answer.{Answer}
use Rattle.theta_algebra.specs.Answering.{Ask}
use Rattle.session_readers.specs.Seats.{IsReadersSeat, IsNewSeat, AreNewSeats, IsContinued}
use Rattle.session_readers.specs.declared.seat.Seat.{Seat}
use Rattle.session_readers.proofs.Places.{pushed, item, all-from, replicated, zip-right}

-- ---- one reader after another takes its seat

pub new-more : (es : List SeenEpoch) (ss : List Seat) (e : SeenEpoch) (s : Seat) → AreNewSeats es ss → IsNewSeat (length es) e s → AreNewSeats (es ++ e ∷ []) (ss ++ s ∷ [])
new-more es ss e s h one = (long, at)
  where
    long : length (ss ++ s ∷ []) ≡ length (es ++ e ∷ [])
    long = let l = h.0 in omega (arith, l, length-append ss (s ∷ []), length-append es (e ∷ []))

    at : (i : ℕ) (d : SeenEpoch) (t : Seat) → slice_get (es ++ e ∷ []) i ≡ Some d → slice_get (ss ++ s ∷ []) i ≡ Some t → IsNewSeat i d t
    at i d t p q = elim (pushed es e i d p) [
      | inl x ↦ elim (pushed ss s i t q) [
        | inl y ↦ h.1 i d t x y
        | inr y ↦ let w = slice_get_within es i d x in let l = h.0 in let z = y.0 in absurd (omega (arith, w, l, z))
      ]
      | inr x ↦ elim (pushed ss s i t q) [
        | inl y ↦ let w = slice_get_within ss i t y in let l = h.0 in let z = x.0 in absurd (omega (arith, w, l, z))
        | inr y ↦ subst (λ n. IsNewSeat n d t) (sym x.0) (subst (λ u. IsNewSeat (length es) u t) x.1 (subst (IsNewSeat (length es) e) y.1 one))
      ]
    ]

-- ---- they have answered nothing

module _ (es : List SeenEpoch) (ss : List Seat) (h : AreNewSeats es ss) where
  none-yet : (i : ℕ) (s : Seat) → slice_get ss i ≡ Some s → s.answers.items ≡ []
  none-yet i s at =
      let (e, there) = item es i (let w = slice_get_within ss i s at in let l = h.0 in omega (arith, w, l)) in
      (h.1 i e s there at).answers

  pub new-places : (to : ℕ) → All (λ s. vec_len s.answers ≤ to) ss
  new-places to = all-from (λ (s : Seat). vec_len s.answers ≤ to) ss (λ i s at.
      let l = s.answers.ok.0 in
      let e = ap length (none-yet i s at) in
      omega (arith, l, e))

  pub new-seats : (asks : List Ask) → All (IsReadersSeat asks) ss
  new-seats asks = all-from (IsReadersSeat asks) ss (λ i s at.
      let never = λ (j : ℕ) (place : Option Answer) (p : slice_get s.answers.items j ≡ Some place). none-some place (subst (λ xs. slice_get xs j ≡ Some place) (none-yet i s at) p) in record {
        own = λ j ask place a p. absurd (never j place p);
        rising = λ j k a b l p q. absurd (never j (Some a) p);
        seen = λ j a p. absurd (never j (Some a) p);
      })

-- ---- beside the writer

module _ (asks : List Ask) (to : ℕ) (ss ts : List Seat) (h : AllZip (IsContinued asks to) ss ts) where
  pub beside-lines : (e : SeenEpoch) (n : ℕ) → AreNewSeats (replicate n e) ss → All (λ t. t.reader.lines ≡ e.lines) ts
  beside-lines e n new = all-from (λ (t : Seat). t.reader.lines ≡ e.lines) ts (λ i t at.
      let (s, here, m) = zip-right (IsContinued asks to) ss ts h i t at in
      let w = slice_get_within ss i s here in
      let l = new.0 ∙ length-replicate n e in
      m.lines ∙ ap (λ r. r.lines) (new.1 i e s (replicated n e i (omega (arith, w, l))) here).reader)

  pub beside-places : (top : ℕ) → to ≤ top → All (λ t. vec_len t.answers ≤ top) ts
  beside-places top l = all-from (λ (t : Seat). vec_len t.answers ≤ top) ts (λ i t at.
      let (s, here, m) = zip-right (IsContinued asks to) ss ts h i t at in
      let n = m.length in omega (arith, n, l))

  pub beside-seats : All (IsReadersSeat asks) ts
  beside-seats = all-from (IsReadersSeat asks) ts (λ i t at.
      let (s, here, m) = zip-right (IsContinued asks to) ss ts h i t at in
      m.seat)
