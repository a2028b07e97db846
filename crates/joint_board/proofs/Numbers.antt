-- Numbers in lists, for the results that carry them.
use Rattle.std.proofs.Common.{◌≡◌, ℕ, zero, suc, ◌+◌, ◌-◌, ◌<◌, ◌≤◌, nat_lt, true, false, cond, List, [], ◌∷◌, length, get_or, drop, All, filter, refl, ap, arith}
use Rattle.std.proofs.lemmas.Bool.Decides.{nat_tests}
use Rattle.std.proofs.lemmas.List.Elements.{All-cons, All-nil}
use Rattle.std.proofs.lemmas.List.FromFn.{length-range_with_len}
use Rattle.std.specs.List.{range_with_len}
use Rattle.std.proofs.lemmas.Bool.{ltb-true}
use Rattle.joint_board.specs.Rule.{times_in, IsAbove}
use Rattle.joint_board.proofs.Sums.{times_here, times_there}

times_at : (xs : List ℕ) (k d : ℕ) → k < length xs → 0 < times_in (get_or xs k d) xs
times_at [] k d l = absurd (omega arith)
times_at (x ∷ xs) zero d l = times_here x xs
times_at (x ∷ xs) (suc k) d l = times_there (get_or xs k d) x xs (times_at xs k d (omega arith))

pub all_above : (xs : List ℕ) (n : ℕ) → IsAbove xs n → All (λ x. x < n) xs
all_above xs n h k d l = h (get_or xs k d) (times_at xs k d l)

pub filter_below : (n : ℕ) (xs : List ℕ) → All (λ x. x < n) (filter (λ x. nat_lt x n) xs)
filter_below n [] = All-nil (λ x. x < n)
filter_below n (x ∷ xs) =
    let P : ℕ → Type 0 = λ y. y < n in
    let rest = filter (λ y. nat_lt y n) xs in
    elim (nat_lt x n) as (λ b. nat_lt x n ≡ b → All P (cond b (x ∷ rest) rest)) [
      | true ↦ λ e. All-cons P x rest (ltb-true x n e) (filter_below n xs)
      | false ↦ λ e. filter_below n xs
    ] refl

-- the numbers from n on, up to a number
pub range_rest : (w n x : ℕ) (xs : List ℕ) → x ∷ xs ≡ range_with_len n (w - n)
    → (x ≡ n) × (xs ≡ range_with_len (n + 1) (w - (n + 1)))
range_rest w n x xs e = range_rest_at (w - n) w n x xs refl e
  where
    range_rest_at : (m w n x : ℕ) (xs : List ℕ) → w - n ≡ m → x ∷ xs ≡ range_with_len n m
        → (x ≡ n) × (xs ≡ range_with_len (n + 1) (w - (n + 1)))
    range_rest_at zero w n x xs d e = let l = ap length e in absurd (omega arith)
    range_rest_at (suc m) w n x xs d e =
        let f : w - (n + 1) ≡ m = omega arith in
        (ap (λ (l : List ℕ). get_or l 0 0) e, rw f (ap (drop 1) e))

pub range_ended : (w n : ℕ) (xs : List ℕ) → length xs ≡ 0 → xs ≡ range_with_len n (w - n) → w ≤ n
range_ended w n xs none e = let l = ap length e in omega (arith, length-range_with_len n (w - n))
