-- What contracts see of a board, its seats and their results.
--     new_seats b            the seats of a board that has begun, in the order of their numbers
--     with_draw s n         a seat that drew the number n besides
--     IsDrawn s n t          it drew n, which is above each number that it had drawn, and is t now
--     draws_left s           a number that falls with each draw of the seat: a loop over its draws ends
--     tasks_drawn s          the numbers that it drew and that are tasks
--     AreInOrder n rs ts     ts has the results of the tasks 0, 1, .. below n in this order, each of the numbered results rs
--                            that has its number, and rs has one of each number
use Rattle.std.specs.Prelude.{◌≡◌, ◌<◌, ℕ, ◌+◌, ◌-◌, max, nat_eq, nat_lt, not, cond, Bool, false, List, [], ◌∷◌, ◌++◌, All, Contains, count_by, filter, flat_map, length, map, slice_get, Some}
use Rattle.std.specs.List.{range_with_len}
use Rattle.atomic_table.specs.Seated.{TableId}

-- ---- boards and seats

-- a board: which table it is, the tasks of its order, and its seats
pub record ShownBoard : Type 0 where
  pub table : TableId
  pub tasks : ℕ
  pub workers : ℕ

-- a seat: its board, its number, the numbers that it drew, and whether one of them is no task
pub record SeenSeat : Type 0 where
  pub board : ShownBoard
  pub number : ℕ
  pub drawn : List ℕ
  pub done : Bool

abbrev pub new_seat : ShownBoard → ℕ → SeenSeat
new_seat b k = record { board = b; number = k; drawn = []; done = false }

abbrev pub new_seats : ShownBoard → List SeenSeat
new_seats b = map (new_seat b) (range_with_len 0 b.workers)

abbrev pub with_draw : SeenSeat → ℕ → SeenSeat
with_draw s n = record {
  board = s.board;
  number = s.number;
  drawn = s.drawn ++ n ∷ [];
  done = not (nat_lt n s.board.tasks);
}

pub record IsDrawn (s : SeenSeat) (n : ℕ) (t : SeenSeat) : Type 0 where
  pub above : All (λ x. x < n) s.drawn
  pub seat : t ≡ with_draw s n

-- the least number above all of the list
abbrev pub past : List ℕ → ℕ
past [] = 0
past (x ∷ xs) = max (x + 1) (past xs)

abbrev pub draws_left : SeenSeat → ℕ
draws_left s = cond s.done 0 (1 + (s.board.tasks - past s.drawn))

-- ---- results

-- a seat, and the numbered results of its tasks
pub record SeenKept (T : Type 0) : Type 0 where
  pub seat : SeenSeat
  pub results : List (ℕ × T)

abbrev pub tasks_drawn : SeenSeat → List ℕ
tasks_drawn s = filter (λ x. nat_lt x s.board.tasks) s.drawn

module _ {T : Type 0} where
  abbrev pub numbers_of : List (ℕ × T) → List ℕ
  numbers_of results = map (λ r. r.0) results

  abbrev pub kept_of : SeenSeat → List (ℕ × T) → SeenKept T
  kept_of seat results = record { seat = seat; results = results }

  abbrev pub results_of : List (SeenKept T) → List (ℕ × T)
  results_of kept = flat_map (λ k. k.results) kept

  abbrev pub seat_numbers : List (SeenKept T) → List ℕ
  seat_numbers kept = map (λ k. k.seat.number) kept

  abbrev pub IsResultAt : List (ℕ × T) → List T → ℕ → T → Type 0
  IsResultAt kept results x t = Contains kept (x, t) × (slice_get results x ≡ Some t)

pub record AreInOrder {T : Type 0} (tasks : ℕ) (kept : List (ℕ × T)) (results : List T) : Type 0 where
  pub all : length results ≡ tasks
  pub each : (x : ℕ) → x < tasks → (t : T) × IsResultAt kept results x t
  pub once : (x : ℕ) → x < tasks → count_by (nat_eq x) (numbers_of kept) ≡ 1
