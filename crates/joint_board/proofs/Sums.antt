-- Sums over views, how often a number stands in a list, and whether some number of it is no task.
use Rattle.std.proofs.Common.{◌≡◌, ◌≢◌, ℕ, zero, suc, ◌+◌, ◌<◌, ◌≤◌, nat_eq, nat_lt, Bool, true, false, true≢false, cond, not, ◌||◌, List, [], ◌∷◌, ◌++◌, length, set, refl, sym, ap, ◌∙◌, ⊎_elim, ◌⊎◌, inl, inr, arith, sum_by}
use Rattle.std.proofs.lemmas.Bool.Decides.{nat_tests}
use Rattle.std.proofs.lemmas.List.Folds.{list_any-append}
use Rattle.std.proofs.lemmas.List.Sums.{sum_by-append, sum_by-cons}
use mathlib.Core.Option.{some, some-injective, some-ne-none}
use mathlib.Core.Logic.{dite}
use native.Mathlib.Decide.{ℕ_discrete}
use lib.ListN.{get_elem?}
use Rattle.std.proofs.lemmas.Bool.{or_left, ltb-false}
use Rattle.joint_board.specs.declared.view.View.{View}
use Rattle.joint_board.specs.Rule.{times_in, once_below, has_late, ended}

-- ---- sums

pub sum_set : (f : View → ℕ) (views : List View) (i : ℕ) (v w : View) → get_elem? views i ≡ some v
    → sum_by f (set views i w) + f v ≡ sum_by f views + f w
sum_set f [] i v w e = absurd (some-ne-none v (sym e))
sum_set f (u ∷ us) zero v w e =
    let q : f u ≡ f v = ap f (some-injective u v e) in
    omega (arith, sum_by-cons f u us, sum_by-cons f w us)
sum_set f (u ∷ us) (suc i) v w e =
    omega (arith, sum_set f us i v w e, sum_by-cons f u us, sum_by-cons f u (set us i w))

pub sum_snoc : (f : View → ℕ) (views : List View) (w : View)
    → sum_by f (views ++ w ∷ []) ≡ sum_by f views + f w
sum_snoc f views w = omega (arith, sum_by-append f views (w ∷ []), sum_by-cons f w [])

pub part_of_sum : (f : View → ℕ) (views : List View) (i : ℕ) (v : View) → get_elem? views i ≡ some v
    → f v ≤ sum_by f views
part_of_sum f [] i v e = absurd (some-ne-none v (sym e))
part_of_sum f (u ∷ us) zero v e =
    let q : f u ≡ f v = ap f (some-injective u v e) in omega (arith, sum_by-cons f u us)
part_of_sum f (u ∷ us) (suc i) v e = omega (arith, part_of_sum f us i v e, sum_by-cons f u us)

one_or_none : (b : Bool) → cond b 1 0 ≤ 1
one_or_none true = omega arith
one_or_none false = omega arith

pub sum_ended : (views : List View) → sum_by ended views ≤ length views
sum_ended [] = omega arith
sum_ended (u ∷ us) = omega (arith, sum_ended us, one_or_none u.done, sum_by-cons ended u us)

sum_none : (f : View → ℕ) (views : List View)
    → ((j : ℕ) (u : View) → get_elem? views j ≡ some u → f u ≡ 0) → sum_by f views ≡ 0
sum_none f [] h = refl
sum_none f (u ∷ us) h =
    omega (arith, h 0 u refl, sum_none f us (λ j x e. h (suc j) x e), sum_by-cons f u us)

-- where f is nothing of the views that stand elsewhere
pub sum_alone : (f : View → ℕ) (v : View) (views : List View) → get_elem? views 0 ≡ some v
    → ((j : ℕ) (u : View) → 0 < j → get_elem? views j ≡ some u → f u ≡ 0) → sum_by f views ≡ f v
sum_alone f v [] e h = absurd (some-ne-none v (sym e))
sum_alone f v (u ∷ us) e h =
    let q : f u ≡ f v = ap f (some-injective u v e) in
    let r = sum_none f us (λ j x a. h (suc j) x (omega arith) a) in
    omega (arith, sum_by-cons f u us)

-- ---- how often a number stands in a list

pub times-cons : (x y : ℕ) (ys : List ℕ) → times_in x (y ∷ ys) ≡ cond (nat_eq x y) 1 0 + times_in x ys
times-cons x y ys = sum_by-cons (λ z. cond (nat_eq x z) 1 0) y ys

pub times-append : (x : ℕ) (xs ys : List ℕ) → times_in x (xs ++ ys) ≡ times_in x xs + times_in x ys
times-append x xs ys = sum_by-append (λ z. cond (nat_eq x z) 1 0) xs ys

pub times_here : (x : ℕ) (xs : List ℕ) → 0 < times_in x (x ∷ xs)
times_here x xs = grind (arith, nat_tests, times-cons x x xs)

pub times_there : (x y : ℕ) (ys : List ℕ) → 0 < times_in x ys → 0 < times_in x (y ∷ ys)
times_there x y ys h = omega (arith, times-cons x y ys)

pub times_else : (k m : ℕ) (rest : List ℕ) → k ≢ m → times_in k rest ≡ 0 → times_in k (m ∷ rest) ≡ 0
times_else k m rest apart none = grind (arith, nat_tests, times-cons k m rest)

pub here_or_there : (k m : ℕ) (rest : List ℕ) → 0 < times_in k (m ∷ rest) → (k ≡ m) ⊎ (0 < times_in k rest)
here_or_there k m rest h =
    dite (ℕ_discrete k m) (λ e. inl e) (λ ne. inr (grind (arith, nat_tests, times-cons k m rest)))

pub once_suc : (x n : ℕ) → once_below x (n + 1) ≡ once_below x n + cond (nat_eq x n) 1 0
once_suc x n = grind (arith, nat_tests)

pub once_zero : (x : ℕ) → once_below x 0 ≡ 0
once_zero x = grind (arith, nat_tests)

pub once_here : (x n : ℕ) → x < n → once_below x n ≡ 1
once_here x n h = grind (arith, nat_tests)

pub below_of_once : (x n : ℕ) → 0 < once_below x n → x < n
below_of_once x n h = grind (arith, nat_tests)

-- ---- numbers that are no tasks

late_one : (b c : Bool) → b ≡ false → (b || (c || false)) ≡ c
late_one b true e = rw e refl
late_one b false e = rw e refl

pub late_snoc : (n : ℕ) (xs : List ℕ) (x : ℕ) → has_late n xs ≡ false
    → has_late n (xs ++ x ∷ []) ≡ not (nat_lt x n)
late_snoc n xs x h =
    list_any-append (λ y. not (nat_lt y n)) xs (x ∷ []) ∙ late_one (has_late n xs) (not (nat_lt x n)) h

pub late_append : (n : ℕ) (xs ys : List ℕ) → has_late n xs ≡ true → has_late n (xs ++ ys) ≡ true
late_append n xs ys h =
    list_any-append (λ y. not (nat_lt y n)) xs ys ∙ or_left (has_late n xs) (has_late n ys) h

late_here : (b l : Bool) → (not b || l) ≡ true → (b ≡ false) ⊎ (l ≡ true)
late_here true l h = inr h
late_here false l h = inl refl

-- some number of the list that is late
pub late_one_of : (n : ℕ) (xs : List ℕ) → has_late n xs ≡ true → (x : ℕ) × (n ≤ x) × (0 < times_in x xs)
late_one_of n [] h = absurd (true≢false (sym h))
late_one_of n (x ∷ xs) h = ⊎_elim
    (λ (e : nat_lt x n ≡ false). (x, ltb-false x n e, times_here x xs))
    (λ (e : has_late n xs ≡ true).
    let r = late_one_of n xs e in (r.0, r.1, times_there r.0 x xs r.2))
    (late_here (nat_lt x n) (has_late n xs) h)
