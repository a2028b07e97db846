-- What the readers of a session have answered so far.
--     IsOwnAnswer lines n ask place    place has the answer of reader n to the ask, or none where the ask is another reader's
--     IsReadersSeat asks s                    the answers of s are its reader's own to the first asks, and their orders rise
--     IsPlaced place s t               t is s with that at its next place
--     HasAsked q s t a                  t is s once its reader answered a to the query q
--     IsOneMore ask s t                t is s once one ask more has its place
--     IsUnanswered s t                 t is s once an ask found too little memory
--     IsContinued asks to s t          t is s with places for further asks, up to the first `to`; the answers that are new have no
--                                      lower order than its reader had seen
--     IsFinished asks s t              and with places for all
--     IsInformed k s t                 t is s once its reader learned of order k
--     AreNewSeats, AreFullSeats        the seats of all readers, before the first ask and after the last
use Rattle.std.specs.Prelude.{◌≡◌, ◌≢◌, ℕ, ◌+◌, ◌<◌, ◌≤◌, List, [], ◌∷◌, ◌++◌, length, Option, Some, None, IfSome, vec_len, slice_get}
use Rattle.scatter_diagram.specs.Listed.{SeenInitial}
use Rattle.order_epochs.specs.Seen.{SeenEpoch, learned}
use Rattle.theta_algebra.specs.declared.query.Query.{Query}
use Rattle.theta_algebra.specs.declared.query.Answer.{Answer}
use Rattle.theta_algebra.specs.Answering.{Ask, IsToldAnswer}
use Rattle.diagram_reader.specs.Asked.{IsAnswerAmong, IsReplyTo}
use Rattle.session_readers.specs.declared.seat.Seat.{Seat}

abbrev pub IsOwnAnswer : SeenInitial → ℕ → Ask → Option Answer → Type 0
IsOwnAnswer lines n ask None = ask.0 ≢ n
IsOwnAnswer lines n ask (Some a) = IsAnswerAmong lines ask.1 a × IsToldAnswer a

pub record IsReadersSeat (asks : List Ask) (s : Seat) : Type 0 where
  pub own : (i : ℕ) (ask : Ask) (place : Option Answer) → slice_get asks i ≡ Some ask → slice_get s.answers.items i ≡ Some place
      → IsOwnAnswer s.reader.lines s.number ask place
  pub rising : (i j : ℕ) (a b : Answer) → i < j → slice_get s.answers.items i ≡ Some (Some a)
      → slice_get s.answers.items j ≡ Some (Some b) → a.order ≤ b.order
  pub seen : (i : ℕ) (a : Answer) → slice_get s.answers.items i ≡ Some (Some a) → a.order ≤ s.reader.order

-- ---- steps

pub record IsPlaced (place : Option Answer) (s t : Seat) : Type 0 where
  pub number : t.number ≡ s.number
  pub reader : t.reader ≡ s.reader
  pub answers : t.answers.items ≡ s.answers.items ++ place ∷ []

pub record HasAsked (q : Query) (s t : Seat) (a : Answer) : Type 0 where
  pub number : t.number ≡ s.number
  pub answers : t.answers ≡ s.answers
  pub lines : t.reader.lines ≡ s.reader.lines
  pub seen : t.reader.order ≡ a.order
  pub order : s.reader.order ≤ a.order
  pub reply : IsReplyTo s.reader q a

pub record IsOneMore (ask : Ask) (s t : Seat) : Type 0 where
  pub number : t.number ≡ s.number
  pub lines : t.reader.lines ≡ s.reader.lines
  pub seen : s.reader.order ≤ t.reader.order
  pub place : Option Answer
  pub answers : t.answers.items ≡ s.answers.items ++ place ∷ []
  pub own : IsOwnAnswer s.reader.lines s.number ask place
  pub order : IfSome place (λ a. (s.reader.order ≤ a.order) × (a.order ≤ t.reader.order))

pub record IsUnanswered (s t : Seat) : Type 0 where
  pub number : t.number ≡ s.number
  pub lines : t.reader.lines ≡ s.reader.lines
  pub seen : s.reader.order ≤ t.reader.order
  pub answers : t.answers.items ≡ s.answers.items

pub record IsContinued (asks : List Ask) (to : ℕ) (s t : Seat) : Type 0 where
  pub number : t.number ≡ s.number
  pub lines : t.reader.lines ≡ s.reader.lines
  pub seen : s.reader.order ≤ t.reader.order
  pub longer : vec_len s.answers ≤ vec_len t.answers
  pub length : vec_len t.answers ≤ to
  pub kept : (i : ℕ) → i < vec_len s.answers → slice_get t.answers.items i ≡ slice_get s.answers.items i
  pub later : (i : ℕ) (a : Answer) → vec_len s.answers ≤ i → slice_get t.answers.items i ≡ Some (Some a) → s.reader.order ≤ a.order
  pub seat : IsReadersSeat asks t

abbrev pub IsFinished : List Ask → Seat → Seat → Type 0
IsFinished asks s t = IsContinued asks (length asks) s t × (vec_len t.answers ≡ length asks)

pub record IsInformed (k : ℕ) (s t : Seat) : Type 0 where
  pub number : t.number ≡ s.number
  pub reader : t.reader ≡ learned s.reader k
  pub answers : t.answers ≡ s.answers

-- the last order is k; asks after those that had their places are answered in no lower one
pub record IsSettledSeat (asks : List Ask) (k : ℕ) (s t : Seat) : Type 0 where
  pub number : t.number ≡ s.number
  pub lines : t.reader.lines ≡ s.reader.lines
  pub length : vec_len t.answers ≡ length asks
  pub seat : IsReadersSeat asks t
  pub later : (i : ℕ) (a : Answer) → vec_len s.answers ≤ i → slice_get t.answers.items i ≡ Some (Some a) → k ≤ a.order

-- ---- all readers

-- the readers are counted from 1, and have answered nothing
pub record IsNewSeat (i : ℕ) (e : SeenEpoch) (s : Seat) : Type 0 where
  pub number : s.number ≡ i + 1
  pub reader : s.reader ≡ e
  pub answers : s.answers.items ≡ []

abbrev pub AreNewSeats : List SeenEpoch → List Seat → Type 0
AreNewSeats readers seats = (length seats ≡ length readers)
    × ((i : ℕ) (e : SeenEpoch) (s : Seat) → slice_get readers i ≡ Some e → slice_get seats i ≡ Some s → IsNewSeat i e s)

-- they have answered all asks
pub record IsFullSeat (given : SeenInitial) (asks : List Ask) (i : ℕ) (s : Seat) : Type 0 where
  pub number : s.number ≡ i + 1
  pub lines : s.reader.lines ≡ given
  pub length : vec_len s.answers ≡ length asks
  pub seat : IsReadersSeat asks s

abbrev pub AreFullSeats : SeenInitial → List Ask → ℕ → List Seat → Type 0
AreFullSeats lines asks readers seats = (length seats ≡ readers)
    × ((i : ℕ) (s : Seat) → slice_get seats i ≡ Some s → IsFullSeat lines asks i s)

-- and the answers after so many are in no lower order than k
abbrev pub AreLater : ℕ → ℕ → List Seat → Type 0
AreLater from k seats = (i j : ℕ) (s : Seat) (a : Answer) → slice_get seats i ≡ Some s → from ≤ j
    → slice_get s.answers.items j ≡ Some (Some a) → k ≤ a.order
