-- The answers of all readers, put together in the order of the asks.
--     AreSameFrom n ss ts               the seats ts have the places of ss from the n-th on
--     IsGathered lines k ss i ask a     a is what the ask's reader answered to it, the i-th; or where that is in a later order than k,
--                                       what it answers in order k
use Rattle.std.specs.Prelude.{◌≡◌, ℕ, ◌+◌, ◌≤◌, min, List, length, Some, vec_len, slice_get}
use Rattle.scatter_diagram.specs.Listed.{SeenInitial}
use Rattle.theta_algebra.specs.declared.query.Answer.{Answer}
use Rattle.theta_algebra.specs.Answering.{Ask, IsToldAnswer}
use Rattle.diagram_reader.specs.Asked.{IsAnswerAmong}
use Rattle.session_readers.specs.declared.seat.Seat.{Seat}

pub record IsSameFrom (n : ℕ) (s t : Seat) : Type 0 where
  pub length : vec_len t.answers ≡ vec_len s.answers
  pub places : (k : ℕ) → n ≤ k → slice_get t.answers.items k ≡ slice_get s.answers.items k

abbrev pub AreSameFrom : ℕ → List Seat → List Seat → Type 0
AreSameFrom n ss ts = (length ts ≡ length ss)
    × ((i : ℕ) (s t : Seat) → slice_get ss i ≡ Some s → slice_get ts i ≡ Some t → IsSameFrom n s t)

pub record IsGathered (lines : SeenInitial) (k : ℕ) (seats : List Seat) (i : ℕ) (ask : Ask) (a : Answer) : Type 0 where
  pub index : ℕ
  pub seat : Seat
  pub found : Answer
  pub reader : index + 1 ≡ ask.0
  pub at : slice_get seats index ≡ Some seat
  pub place : slice_get seat.answers.items i ≡ Some (Some found)
  pub order : a.order ≡ min found.order k
  pub answer : IsAnswerAmong lines ask.1 a
  pub told : IsToldAnswer a

abbrev pub AreGathered : SeenInitial → ℕ → List Seat → List Ask → List Answer → Type 0
AreGathered lines k seats asks answers = (i : ℕ) (ask : Ask) (a : Answer) → slice_get asks i ≡ Some ask → slice_get answers i ≡ Some a
    → IsGathered lines k seats i ask a
