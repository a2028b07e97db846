-- What a draw does to a seat, and to the results of its tasks.
use Rattle.std.proofs.Common.{◌≡◌, ℕ, ◌+◌, ◌-◌, ◌<◌, ◌≤◌, not, nat_lt, Bool, true, false, cond, List, [], ◌∷◌, ◌++◌, append-nil, All, filter, refl, sym, arith}
use Rattle.std.proofs.lemmas.Bool.Decides.{nat_tests}
use Rattle.std.proofs.lemmas.List.{map-append}
use Rattle.std.proofs.lemmas.List.Elements.{All-head, All-tail, filter-append}
use Rattle.std.proofs.lemmas.Bool.{ltb-true}
use Rattle.joint_board.specs.Seen.{SeenSeat, IsDrawn, draws_left, numbers_of, past, tasks_drawn}

-- ---- draws end

past-le : (n : ℕ) (xs : List ℕ) → All (λ x. x < n) xs → past xs ≤ n
past-le n [] h = omega arith
past-le n (x ∷ xs) h =
    let l = All-head (λ y. y < n) x xs h in
    omega (arith, l, past-le n xs (All-tail (λ y. y < n) x xs h))

last-lt-past : (n : ℕ) (xs : List ℕ) → n < past (xs ++ n ∷ [])
last-lt-past n [] = omega arith
last-lt-past n (x ∷ xs) = omega (arith, last-lt-past n xs)

left_less : (b : Bool) (n tasks old new : ℕ) → nat_lt n tasks ≡ b → old ≤ n → n < new
    → cond (not b) 0 (1 + (tasks - new)) < 1 + (tasks - old)
left_less true n tasks old new e le lt = let l = ltb-true n tasks e in omega arith
left_less false n tasks old new e le lt = omega arith

pub draws_fall : (s t : SeenSeat) (n : ℕ) → s.done ≡ false → IsDrawn s n t → draws_left t < draws_left s
draws_fall s t n idle d =
    rw (d.seat, idle) (left_less (nat_lt n s.board.tasks) n s.board.tasks (past s.drawn) (past (s.drawn ++ n ∷ []))
    refl (past-le n s.drawn d.above) (last-lt-past n s.drawn))

-- ---- results

one_in : (p : ℕ → Bool) (n : ℕ) → p n ≡ true → filter p (n ∷ []) ≡ n ∷ []
one_in p n e = rw e refl

one_out : (p : ℕ → Bool) (n : ℕ) → p n ≡ false → filter p (n ∷ []) ≡ []
one_out p n e = rw e refl

less_true : (n m : ℕ) → n < m → nat_lt n m ≡ true
less_true n m h = grind (arith, nat_tests)

less_false : (n m : ℕ) → m ≤ n → nat_lt n m ≡ false
less_false n m h = grind (arith, nat_tests)

module _ {T : Type 0} where
  -- a task was drawn, and r is its result
  pub drawn_task : (s t : SeenSeat) (n : ℕ) (results : List (ℕ × T)) (r : T) → IsDrawn s n t → n < s.board.tasks
      → numbers_of results ≡ tasks_drawn s → numbers_of (results ++ (n, r) ∷ []) ≡ tasks_drawn t
  drawn_task s t n results r d less h =
      let p : ℕ → Bool = λ x. nat_lt x s.board.tasks in
      let one = one_in p n (less_true n s.board.tasks less) in
      rw (d.seat, map-append (λ (q : ℕ × T). q.0) results ((n, r) ∷ []), h, filter-append p s.drawn (n ∷ []), one) refl

  -- no task was drawn
  pub drawn_none : (s t : SeenSeat) (n : ℕ) (results : List (ℕ × T)) → IsDrawn s n t → s.board.tasks ≤ n
      → numbers_of results ≡ tasks_drawn s → numbers_of results ≡ tasks_drawn t
  drawn_none s t n results d more h =
      let p : ℕ → Bool = λ x. nat_lt x s.board.tasks in
      let none = one_out p n (less_false n s.board.tasks more) in
      rw (d.seat, h, filter-append p s.drawn (n ∷ []), none) (sym (append-nil (tasks_drawn s)))
