-- One more seat is joined into the first one.
use Rattle.std.proofs.Common.{◌≡◌, ℕ, ◌+◌, ◌<◌, ◌≤◌, true, List, ◌∷◌, All, sym, ap, ◌∙◌, subst, arith}
use Rattle.std.proofs.lemmas.List.Elements.{All-head, All-tail, All-same}
use mathlib.Core.Logic.{dite}
use native.Mathlib.Decide.{ℕ_discrete}
use Rattle.atomic_table.specs.Table.{Me}
use Rattle.atomic_table.specs.Seated.{TableId}
use Rattle.joint_board.specs.declared.view.View.{View}
use Rattle.joint_board.specs.Seen.{ShownBoard, SeenSeat, SeenKept, numbers_of, seat_numbers, tasks_drawn}
use Rattle.joint_board.specs.Rule.{has_late, times_in, both_views, seen_seat, IsSeat}
use Rattle.joint_board.specs.Gathering.{IsWhole, AreSeatsFrom, HasJoined}
use Rattle.joint_board.proofs.Numbers.{filter_below, range_rest}
use Rattle.joint_board.proofs.Sums.{times_here, times_there}

pub late_seat : {S : Type 0} (table : TableId) (me : Me S View) (s : SeenSeat) → IsSeat me
    → seen_seat table me.0 ≡ s → s.done ≡ has_late s.board.tasks s.drawn
late_seat table me s i e = subst (λ t. t.done ≡ has_late t.board.tasks t.drawn) e i.late

pub joins_first : {S : Type 0} (b : ShownBoard) (table : TableId) (me : Me S View) (s : SeenSeat) → IsSeat me
    → seen_seat table me.0 ≡ s → s.board ≡ b → s.number ≡ 0 → s.done ≡ true → HasJoined b 1 me.0
joins_first b table me s i e board none done =
    let number = ap (λ t. t.number) e ∙ none in record {
      number = number;
      done = ap (λ t. t.done) e ∙ done;
      tasks_are = ap (λ t. t.board.tasks) e ∙ ap (λ c. c.tasks) board;
      made_is = i.first number ∙ (ap (λ t. t.board.workers) e ∙ ap (λ c. c.workers) board);
      joined_are = λ k p l. absurd (omega arith);
    }

pub joins_next : (b : ShownBoard) (n : ℕ) (v w : View) → HasJoined b n v → w.number ≡ n
    → HasJoined b (n + 1) (both_views v w)
joins_next b n v w h e = record {
  number = h.number;
  done = h.done;
  tasks_are = h.tasks_are;
  made_is = h.made_is;
  joined_are = λ k p l. dite (ℕ_discrete k w.number)
      (λ (q : k ≡ w.number). subst (λ j. 0 < times_in j (w.number ∷ v.joined)) (sym q) (times_here w.number v.joined))
      (λ ne. times_there k w.number v.joined (h.joined_are k p (omega (arith, ne))));
}

pub joined_all : (b : ShownBoard) (n : ℕ) (v : View) → HasJoined b n v → b.workers ≤ n → HasJoined b b.workers v
joined_all b n v h le = record {
  number = h.number;
  done = h.done;
  tasks_are = h.tasks_are;
  made_is = h.made_is;
  joined_are = λ k p l. h.joined_are k p (omega arith);
}

module _ {T : Type 0} where
  pub first_seat : (b : ShownBoard) (n : ℕ) (k : SeenKept T) (ks all : List (SeenKept T)) → all ≡ k ∷ ks
      → AreSeatsFrom b n all → (k.seat.board ≡ b) × (k.seat.number ≡ n) × AreSeatsFrom b (n + 1) ks
  first_seat b n k ks all e a =
      let P : SeenKept T → Type 0 = λ j. j.seat.board ≡ b in
      let boards = All-same P (k ∷ ks) all (sym e) a.board in
      let numbers = range_rest b.workers n k.seat.number (seat_numbers ks) (sym (ap seat_numbers e) ∙ a.numbers) in (
        All-head P k ks boards,
        numbers.0,
        record { board = All-tail P k ks boards; numbers = numbers.1 },
      )

  pub whole_seat : (k : SeenKept T) → k.seat.done ≡ has_late k.seat.board.tasks k.seat.drawn → k.seat.done ≡ true
      → numbers_of k.results ≡ tasks_drawn k.seat → IsWhole k
  whole_seat k late done numbers = record { late = sym late ∙ done; numbers = numbers }

  pub kept_within : (n : ℕ) (k : SeenKept T) (rs : List (ℕ × T)) → rs ≡ k.results
      → numbers_of k.results ≡ tasks_drawn k.seat → k.seat.board.tasks ≡ n → All (λ x. x < n) (numbers_of rs)
  kept_within n k rs e numbers t =
      let P : ℕ → Type 0 = λ x. x < k.seat.board.tasks in
      let below = filter_below k.seat.board.tasks k.seat.drawn in
      subst (λ m. All (λ x. x < m) (numbers_of rs)) t
      (All-same P (numbers_of rs) (tasks_drawn k.seat) (ap numbers_of e ∙ numbers) below)
