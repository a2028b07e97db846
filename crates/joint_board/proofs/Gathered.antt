-- What the seats' lists are together, once each task was drawn once.
use Rattle.std.proofs.Common.{◌≡◌, ℕ, zero, suc, ◌+◌, ◌<◌, nat_eq, nat_lt, Bool, true, false, cond, List, [], ◌∷◌, length, filter, sum_by, All, Some, refl, sym, ap, ◌∙◌, arith}
use Rattle.std.proofs.lemmas.Bool.Decides.{nat_tests}
use Rattle.std.proofs.lemmas.List.{length-append, length-map, map-append}
use Rattle.std.proofs.lemmas.List.Elements.{All-head, All-tail, filter-append}
use Rattle.std.proofs.lemmas.List.Sums.{sum_by-cons}
use Rattle.std.specs.List.{list_all, range_with_len}
use Rattle.order_machine.specs.declared.event.Event.{Event}
use Rattle.order_machine.specs.History.{finished_by, is_done, may_publish}
use Rattle.order_machine.proofs.Workers.{same_number}
use Rattle.joint_board.specs.Seen.{ShownBoard, SeenKept, numbers_of, results_of, seat_numbers}
use Rattle.joint_board.specs.Machine.{DrewAs, AllDrewAs}
use Rattle.joint_board.specs.Rule.{has_late, times_in}
use Rattle.joint_board.specs.Gathering.{drawn_of, IsWhole}
use Rattle.joint_board.proofs.Machine.{finished_tasks}
use Rattle.joint_board.proofs.Sums.{times-cons}

-- ---- numbers below n, each of which stands once in a list

other_number : (n x y : ℕ) → x < n → nat_lt y n ≡ false → ◌≡◌ {A = ℕ} (cond (nat_eq x y) 1 0) 0
other_number n x y l e = grind (arith, nat_tests)

times-below : (n x : ℕ) (xs : List ℕ) → x < n → times_in x (filter (λ y. nat_lt y n) xs) ≡ times_in x xs
times-below n x [] l = refl
times-below n x (y ∷ ys) l =
    let rest = filter (λ z. nat_lt z n) ys in
    let h = times-below n x ys l in
    elim (nat_lt y n) as (λ b. nat_lt y n ≡ b → times_in x (cond b (y ∷ rest) rest) ≡ times_in x (y ∷ ys)) [
      | true ↦ λ e. omega (arith, times-cons x y rest, times-cons x y ys, h)
      | false ↦ λ e. omega (arith, other_number n x y l e, times-cons x y ys, h)
    ] refl

-- how often the numbers below n stand in it
abbrev tally : ℕ → List ℕ → ℕ
tally zero xs = 0
tally (suc n) xs = times_in n xs + tally n xs

tally_nil : (n : ℕ) → tally n [] ≡ 0
tally_nil zero = refl
tally_nil (suc n) = omega (arith, tally_nil n)

one_less : (n y : ℕ) → ◌≡◌ {A = ℕ} (cond (nat_eq n y) 1 0 + cond (nat_lt y n) 1 0) (cond (nat_lt y (suc n)) 1 0)
one_less n y = grind (arith, nat_tests)

tally-cons : (n y : ℕ) (ys : List ℕ) → tally n (y ∷ ys) ≡ cond (nat_lt y n) 1 0 + tally n ys
tally-cons zero y ys = grind (arith, nat_tests)
tally-cons (suc n) y ys = omega (arith, times-cons n y ys, tally-cons n y ys, one_less n y)

length-filter-cons : (b : Bool) (y : ℕ) (ys : List ℕ) → length (cond b (y ∷ ys) ys) ≡ cond b 1 0 + length ys
length-filter-cons true y ys = omega arith
length-filter-cons false y ys = omega arith

tally_length : (n : ℕ) (xs : List ℕ) → tally n xs ≡ length (filter (λ x. nat_lt x n) xs)
tally_length n [] = tally_nil n
tally_length n (y ∷ ys) =
    let rest = filter (λ z. nat_lt z n) ys in
    omega (arith, tally-cons n y ys, tally_length n ys, length-filter-cons (nat_lt y n) y rest)

tally_once : (n : ℕ) (xs : List ℕ) → ((x : ℕ) → x < n → times_in x xs ≡ 1) → tally n xs ≡ n
tally_once zero xs h = refl
tally_once (suc n) xs h =
    omega (arith, h n (omega arith), tally_once n xs (λ x l. h x (omega arith)))

module _ {T : Type 0} where
  -- ---- the numbers of all results

  pub all_numbers : (b : ShownBoard) (ks : List (SeenKept T)) → All (λ k. k.seat.board ≡ b) ks → All IsWhole ks
      → numbers_of (results_of ks) ≡ filter (λ x. nat_lt x b.tasks) (drawn_of ks)
  all_numbers b [] boards whole = refl
  all_numbers b (k ∷ ks) boards whole =
      let p : ℕ → Bool = λ x. nat_lt x b.tasks in
      let board : k.seat.board ≡ b = All-head (λ j. j.seat.board ≡ b) k ks boards in
      let mine = (All-head IsWhole k ks whole).numbers
      ∙ ap (λ (c : ShownBoard). filter (λ x. nat_lt x c.tasks) k.seat.drawn) board in
      let rest = all_numbers b ks (All-tail (λ j. j.seat.board ≡ b) k ks boards) (All-tail IsWhole k ks whole) in
      rw (map-append (λ (r : ℕ × T). r.0) k.results (results_of ks), filter-append p k.seat.drawn (drawn_of ks), mine, rest) refl

  pub result_count : (n : ℕ) (rs : List (ℕ × T)) (xs : List ℕ) → numbers_of rs ≡ filter (λ x. nat_lt x n) xs
      → ((x : ℕ) → x < n → times_in x xs ≡ 1) → length rs ≡ n
  result_count n rs xs e once =
      omega (arith, length-map rs (λ (r : ℕ × T). r.0), ap length e, tally_length n xs, tally_once n xs once)

  pub result_once : (n : ℕ) (rs : List (ℕ × T)) (xs : List ℕ) → numbers_of rs ≡ filter (λ x. nat_lt x n) xs
      → ((x : ℕ) → x < n → times_in x xs ≡ 1) → (x : ℕ) → x < n → times_in x (numbers_of rs) ≡ 1
  result_once n rs xs e once x l = ap (times_in x) e ∙ (times-below n x xs l ∙ once x l)

  -- ---- the machine may publish

  all_done : (b : ShownBoard) (h : List Event) (ks : List (SeenKept T)) → All (λ k. k.seat.board ≡ b) ks → All IsWhole ks
      → AllDrewAs ks h → list_all (λ w. is_done w b.tasks h) (seat_numbers ks) ≡ true
  all_done b h [] boards whole drew = refl
  all_done b h (k ∷ ks) boards whole drew =
      let board : k.seat.board ≡ b = All-head (λ j. j.seat.board ≡ b) k ks boards in
      let d = All-head (λ j. DrewAs j.seat j.seat.number h) k ks drew in
      let late = (All-head IsWhole k ks whole).late in
      let mine : is_done k.seat.number b.tasks h ≡ true =
      ap (has_late b.tasks) d.drawn ∙ (ap (λ (c : ShownBoard). has_late c.tasks k.seat.drawn) (sym board) ∙ late) in
      let rest = all_done b h ks (All-tail (λ j. j.seat.board ≡ b) k ks boards) (All-tail IsWhole k ks whole)
      (All-tail (λ j. DrewAs j.seat j.seat.number h) k ks drew) in
      rw (mine, rest) refl

  all_finished : (b : ShownBoard) (h : List Event) (ks : List (SeenKept T)) → All (λ k. k.seat.board ≡ b) ks → All IsWhole ks
      → AllDrewAs ks h → sum_by (λ w. length (finished_by w b.tasks h)) (seat_numbers ks) ≡ length (results_of ks)
  all_finished b h [] boards whole drew = refl
  all_finished b h (k ∷ ks) boards whole drew =
      let f : ℕ → ℕ = λ w. length (finished_by w b.tasks h) in
      let board : k.seat.board ≡ b = All-head (λ j. j.seat.board ≡ b) k ks boards in
      let d = All-head (λ j. DrewAs j.seat j.seat.number h) k ks drew in
      let numbers = (All-head IsWhole k ks whole).numbers in
      let mine : finished_by k.seat.number b.tasks h ≡ numbers_of k.results =
      ap (λ (c : ShownBoard). finished_by k.seat.number c.tasks h) (sym board)
      ∙ (finished_tasks k.seat k.seat.number h d ∙ sym numbers) in
      let rest = all_finished b h ks (All-tail (λ j. j.seat.board ≡ b) k ks boards) (All-tail IsWhole k ks whole)
      (All-tail (λ j. DrewAs j.seat j.seat.number h) k ks drew) in
      omega (
        arith,
        sum_by-cons f k.seat.number (seat_numbers ks),
        ap length mine,
        length-map k.results (λ (r : ℕ × T). r.0),
        length-append k.results (results_of ks),
        rest,
      )

  pub publishes : (b : ShownBoard) (h : List Event) (ks : List (SeenKept T)) → seat_numbers ks ≡ range_with_len 0 b.workers
      → All (λ k. k.seat.board ≡ b) ks → All IsWhole ks → AllDrewAs ks h → length (results_of ks) ≡ b.tasks
      → may_publish b.workers (Some (b.tasks, h)) ≡ true
  publishes b h ks numbers boards whole drew count =
      let done = all_done b h ks boards whole drew in
      let finished = all_finished b h ks boards whole drew ∙ count in
      rw (← numbers, done, finished) (same_number b.tasks)
