-- How what the workers kept comes together.
--     placed rs slots        the slots, once each result was put into the slot of its number, in turn
--     drawn_of ks            what the seats drew, one behind the other
--     IsWhole k              the seat is done, and has the results of the tasks that it drew
--     AreSeatsFrom b n ks    all seats of the board from the number n on
--     HasJoined b n v        the first seat, into which those below n were joined
use Rattle.std.specs.Prelude.{◌≡◌, ◌<◌, ◌-◌, ℕ, true, All, List, [], ◌∷◌, flat_map, Option, Some, slice_set}
use Rattle.std.specs.List.{range_with_len}
use Rattle.joint_board.specs.declared.view.View.{View}
use Rattle.joint_board.specs.Seen.{ShownBoard, SeenKept, numbers_of, seat_numbers, tasks_drawn}
use Rattle.joint_board.specs.Rule.{has_late, times_in}

module _ {T : Type 0} where
  abbrev pub placed : List (ℕ × T) → List (Option T) → List (Option T)
  placed [] slots = slots
  placed (r ∷ rs) slots = placed rs (slice_set slots r.0 (Some r.1))

  abbrev pub drawn_of : List (SeenKept T) → List ℕ
  drawn_of kept = flat_map (λ k. k.seat.drawn) kept

  pub record IsWhole (k : SeenKept T) : Type 0 where
    pub late : has_late k.seat.board.tasks k.seat.drawn ≡ true
    pub numbers : numbers_of k.results ≡ tasks_drawn k.seat

  pub record AreSeatsFrom (b : ShownBoard) (n : ℕ) (kept : List (SeenKept T)) : Type 0 where
    pub board : All (λ k. k.seat.board ≡ b) kept
    pub numbers : seat_numbers kept ≡ range_with_len n (b.workers - n)

pub record HasJoined (b : ShownBoard) (n : ℕ) (v : View) : Type 0 where
  pub number : v.number ≡ 0
  pub done : v.done ≡ true
  pub tasks_are : v.tasks ≡ b.tasks
  pub made_is : v.made ≡ b.workers
  pub joined_are : (k : ℕ) → 0 < k → k < n → 0 < times_in k v.joined
