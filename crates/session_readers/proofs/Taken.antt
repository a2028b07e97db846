-- The answers taken out of their places, ask by ask.
use Rattle.std.proofs.Common.{◌≡◌, ℕ, ◌+◌, ◌-◌, ◌<◌, ◌≤◌, min, inl, inr, refl, sym, subst, ◌∙◌, List, [], ◌∷◌, ◌++◌, length, get_or, arith, Option, Some, None, slice_get, vec_len}
use Rattle.std.specs.List.{All}
use Rattle.std.proofs.lemmas.Option.{slice_get_within, slice_get-get_or}
use Rattle.scatter_diagram.specs.Listed.{SeenInitial}
use Rattle.theta_algebra.specs.declared.query.Answer.{Answer}
use Rattle.theta_algebra.specs.Answering.{Ask, IsToldAnswer}
use Rattle.diagram_reader.specs.Asked.{IsAnswerAmong}
use Rattle.session_readers.specs.Seats.{IsOwnAnswer, AreFullSeats}
use Rattle.session_readers.specs.Gathered.{AreSameFrom, IsGathered, AreGathered}
use Rattle.session_readers.specs.declared.seat.Seat.{Seat}
use Rattle.session_readers.proofs.Places.{pushed, one-place, item, all-at, all-from}

-- ---- places that stay

-- a seat that stands at a place of a list as long
pub beside : (ss ts : List Seat) (i : ℕ) (s : Seat) → length ts ≡ length ss → slice_get ss i ≡ Some s → (t : Seat) × (slice_get ts i ≡ Some t)
beside ss ts i s long at = (get_or ts i s, slice_get-get_or ts i s (let w = slice_get_within ss i s at in omega (arith, w, long)))

pub same-more : (n : ℕ) (ss ts us : List Seat) → AreSameFrom n ss ts → AreSameFrom (n + 1) ts us → AreSameFrom (n + 1) ss us
same-more n ss ts us a b = (
  b.0 ∙ a.0,
  λ i s u p q.
      let (t, here) = beside ss ts i s a.0 p in
      let x = a.1 i s t p here in
      let y = b.1 i t u here q in record {
        length = y.length ∙ x.length;
        places = λ k l. y.places k l ∙ x.places k (omega (arith, l));
      },
)

-- ---- one answer

-- the place of the ask's reader, before anything was taken
pub record IsTaken (lines : SeenInitial) (ss : List Seat) (i index : ℕ) (ask : Ask) (place : Option Answer) : Type 0 where
  pub seat : Seat
  pub at : slice_get ss index ≡ Some seat
  pub there : slice_get seat.answers.items i ≡ Some place
  pub own : IsOwnAnswer lines ask.0 ask place

pub taken : (lines : SeenInitial) (asks : List Ask) (n : ℕ) (ss ts : List Seat) (i index : ℕ) (ask : Ask) (place : Option Answer)
    → AreFullSeats lines asks n ss → AreSameFrom i ss ts → slice_get asks i ≡ Some ask → index + 1 ≡ ask.0 → index < n
    → ((t : Seat) → slice_get ts index ≡ Some t → slice_get t.answers.items i ≡ Some place) → IsTaken lines ss i index ask place
taken lines asks n ss ts i index ask place full same at is low found =
    let (s, here) = item ss index (let e = full.0 in omega (arith, e, low)) in
    let (t, there) = beside ss ts index s same.0 here in
    let f = full.1 index s here in
    let stands : slice_get s.answers.items i ≡ Some place = sym ((same.1 index s t here there).places i (omega arith)) ∙ found t there in record {
      seat = s;
      at = here;
      there = stands;
      own = subst (λ l. IsOwnAnswer l ask.0 ask place) f.lines (subst (λ m. IsOwnAnswer s.reader.lines m ask place) (f.number ∙ is) (f.seat.own i ask place at stands));
    }

-- readers are counted from 1
pub taken-from : (lines : SeenInitial) (asks : List Ask) (n : ℕ) (ss ts : List Seat) (i : ℕ) (ask : Ask) (place : Option Answer)
    → AreFullSeats lines asks n ss → AreSameFrom i ss ts → slice_get asks i ≡ Some ask → All (λ a. (1 ≤ a.0) × (a.0 ≤ n)) asks
    → ((t : Seat) → slice_get ts (ask.0 - 1) ≡ Some t → slice_get t.answers.items i ≡ Some place) → IsTaken lines ss i (ask.0 - 1) ask place
taken-from lines asks n ss ts i ask place full same at numbers found =
    let (some, few) = all-at (λ (a : Ask). (1 ≤ a.0) × (a.0 ≤ n)) asks i ask numbers at in
    taken lines asks n ss ts i (ask.0 - 1) ask place full same at (omega (arith, some)) (omega (arith, some, few)) found

-- a reader's place for its own ask has an answer
pub never-none : (lines : SeenInitial) (ss : List Seat) (i index : ℕ) (ask : Ask) → IsTaken lines ss i index ask None → ⊥
never-none lines ss i index ask t = t.own refl

-- each reader has a place for each ask
pub full-places : (lines : SeenInitial) (asks : List Ask) (n : ℕ) (ss ts : List Seat) (i : ℕ) → AreFullSeats lines asks n ss → AreSameFrom i ss ts → i < length asks
    → All (λ t. i < vec_len t.answers) ts
full-places lines asks n ss ts i full same l = all-from (λ (t : Seat). i < vec_len t.answers) ts (λ k t at.
    let (s, here) = beside ts ss k t (sym same.0) at in
    let e = (same.1 k s t here at).length in
    let f = (full.1 k s here).length in
    omega (arith, e, f, l))

-- ---- all answers so far

pub gathered-more : (lines : SeenInitial) (k : ℕ) (ss : List Seat) (asks : List Ask) (answers : List Answer) (index : ℕ) (ask : Ask) (found a : Answer)
    → AreGathered lines k ss asks answers → slice_get asks (length answers) ≡ Some ask → index + 1 ≡ ask.0
    → IsTaken lines ss (length answers) index ask (Some found) → a.order ≡ min found.order k → IsAnswerAmong lines ask.1 a → IsToldAnswer a
    → AreGathered lines k ss asks (answers ++ a ∷ [])
gathered-more lines k ss asks answers index ask found a all here is t order among told j p b at bt =
    elim (pushed answers a j b bt) [
      | inl q ↦ all j p b at q
      | inr q ↦
          let e : ask ≡ p = one-place asks j ask p (subst (λ m. slice_get asks m ≡ Some ask) (sym q.0) here) at in
          subst (IsGathered lines k ss j p) q.1 (subst (λ m. IsGathered lines k ss m p a) (sym q.0) (subst (λ x. IsGathered lines k ss (length answers) x a) e (record {
            index = index;
            seat = t.seat;
            found = found;
            reader = is;
            at = t.at;
            place = t.there;
            order = order;
            answer = among;
            told = told;
          })))
    ]
