-- What holds of every interleaving: of every list of events, lawful where that is said.
--     OrdersFollow            the published orders are 1, 2, .. without a gap
--     NumbersFollow           while a board is up the drawn numbers are 0, 1, .., below the number of its tasks
--     AllAreFinished          where the next order may be published, each task was finished by one worker, once
--     PinsNeverFall           of two orders that a reader pins the later one isn't lower
--     PinsAreSeen             what a reader pins is at least all that it learnt and pinned before
--     AnswersArePinned        an answer names the order that the reader pinned last, which is high enough
--     NoneIsAboveNewest       what a reader was told, has learnt or pinned isn't above the newest order
--     NewestIsWithinGoal      the newest order isn't above the goal
use Rattle.std.specs.Prelude.{◌≡◌, ◌≤◌, ℕ, min, nat_eq, nat_lt, true, cond, List, [], ◌∷◌, ◌++◌, Some}
use Rattle.std.specs.List.{count_by, range_with_len, sum_by}
use Rattle.order_machine.specs.declared.event.Event.{Event}
use Rattle.order_machine.specs.declared.event.Event.TheVariants.{Begin, Publish, Pin, Ask}
use Rattle.order_machine.specs.declared.event.Reply.{Reply}
use Rattle.order_machine.specs.declared.event.Reply.TheVariants as reply
use Rattle.order_machine.specs.Events.{is_turn}
use Rattle.order_machine.specs.History.{newest_of, board_of, next_of, finished_by, told_to, seen_by, pinned_by, is_enabled, reply_to, replies_to, IsLawful}

-- ---- orders

abbrev pub published : List Reply → List ℕ
published [] = []
published (reply.Published n ∷ rs) = n ∷ published rs
published (_ ∷ rs) = published rs

abbrev pub OrdersFollow : Type 0
OrdersFollow = (h : List Event) → published (replies_to [] h) ≡ range_with_len 1 (newest_of h)

-- ---- tasks

abbrev pub numbers_drawn : List Reply → List ℕ
numbers_drawn [] = []
numbers_drawn (reply.Drawn n ∷ rs) = n ∷ numbers_drawn rs
numbers_drawn (_ ∷ rs) = numbers_drawn rs

-- b are events after a board of n tasks was put up, while it is up
abbrev pub NumbersFollow : Type 0
NumbersFollow = (g b : List Event) (n : ℕ) → count_by is_turn b ≡ 0
    → numbers_drawn (replies_to (g ++ Begin n ∷ []) b) ≡ range_with_len 0 (min (next_of b) n)

-- how often x stands in a list
abbrev pub times : ℕ → List ℕ → ℕ
times x xs = count_by (nat_eq x) xs

abbrev pub times_finished : ℕ → ℕ → ℕ → List Event → ℕ
times_finished x workers n b = sum_by (λ w. times x (finished_by w n b)) (range_with_len 0 workers)

abbrev pub AllAreFinished : Type 0
AllAreFinished = (goal workers readers n : ℕ) (h b : List Event) → IsLawful goal workers readers h
    → board_of h ≡ Some (n, b) → is_enabled goal workers h Publish ≡ true
    → (x : ℕ) → times_finished x workers n b ≡ cond (nat_lt x n) 1 0

-- ---- readers

abbrev pub PinsNeverFall : Type 0
PinsNeverFall = (r m n : ℕ) (g h : List Event) → reply_to g (Pin r) ≡ reply.Pinned m
    → reply_to (g ++ h) (Pin r) ≡ reply.Pinned n → m ≤ n

abbrev pub PinsAreSeen : Type 0
PinsAreSeen = (r n : ℕ) (h : List Event) → reply_to h (Pin r) ≡ reply.Pinned n → seen_by r h ≤ n

abbrev pub AnswersArePinned : Type 0
AnswersArePinned = (goal workers r least n : ℕ) (h : List Event)
    → is_enabled goal workers h (Ask r least) ≡ true
    → reply_to h (Ask r least) ≡ reply.Answered n → (pinned_by r h ≡ Some n) × (least ≤ n)

-- ---- bounds

pub record IsBelowNewest (r : ℕ) (h : List Event) : Type 0 where
  pub told : told_to r h ≤ newest_of h
  pub seen : seen_by r h ≤ newest_of h
  pub pinned : (n : ℕ) → pinned_by r h ≡ Some n → n ≤ newest_of h

abbrev pub NoneIsAboveNewest : Type 0
NoneIsAboveNewest = (r : ℕ) (h : List Event) → IsBelowNewest r h

abbrev pub NewestIsWithinGoal : Type 0
NewestIsWithinGoal = (goal workers readers : ℕ) (h : List Event) → IsLawful goal workers readers h
    → newest_of h ≤ goal
