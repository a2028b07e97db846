-- Rows of numbers that bound others: one number set, and what that adds.
use Rattle.std.proofs.Common.{◌≡◌, ◌≢◌, ℕ, zero, suc, refl, sym, subst, ap, ◌+◌, ◌*◌, ◌/◌, ◌<◌, ◌≤◌, ◌^◌, Bool, true, false, List, [], ◌∷◌, length, replicate, slice_index, slice_index_or, slice_set, ◌++◌, get_or-set_same, get_or-set_other, rules, arith}
use Rattle.std.specs.Ordering.{ord_max, nat_cmp}
use Rattle.std.specs.Prelude.{◌==◌, nat_lt, nat_le}
use Rattle.std.proofs.lemmas.Bool.Decides.{nat_tests}
use Rattle.std.proofs.lemmas.Nat.{le-div}
use Rattle.std.proofs.Math.Nat.{mul-le-mul_left}
use Rattle.weight_bounds.specs.Masses.{IsBound}
use Rattle.weight_bounds.specs.Rows.{AddsTimes, IsSlow}
use Rattle.weight_bounds.specs.Bounds.{IsFarthest}

pub bound-less : (x v w : ℕ) → w ≤ v → IsBound x v → IsBound x w
bound-less x v w l h q = let a = h q in omega (arith, a, l)

pub bound-of : (x y v : ℕ) → x ≡ y → IsBound y v → IsBound x v
bound-of x y v e h = rw e h

pub zero-bound : (v : ℕ) → IsBound 0 v → v ≡ 0
zero-bound v h = let a : v ≤ 0 = h (omega arith) in omega (arith, a)

pub bound-zero : (x : ℕ) → IsBound x 0
bound-zero x q = omega arith

-- a number of a row after one was set
pub set-at : (xs : List ℕ) (i j x : ℕ) → i < length xs → (j ≡ i → slice_index (slice_set xs i x) j ≡ x) × (j ≢ i → slice_index (slice_set xs i x) j ≡ slice_index xs j)
set-at xs i j x l = (λ e. rw e (get_or-set_same xs i x 0 l), λ o. get_or-set_other xs i j x 0 o)

-- a fact of the new number, and of the others
pub set-cases : (P : ℕ → ℕ → Type 0) (xs : List ℕ) (i x j : ℕ) → i < length xs → (j ≡ i → P j x) → (j ≢ i → P j (slice_index xs j)) → P j (slice_index (slice_set xs i x) j)
set-cases P xs i x j l h o = go (j == i) refl
  where
    go : (b : Bool) → (j == i) ≡ b → P j (slice_index (slice_set xs i x) j)
    go true q = let e : j ≡ i = grind (arith, nat_tests) in subst (P j) (sym ((set-at xs i j x l).0 e)) (h e)
    go false q = let n : j ≢ i = (λ e. unlike e q) in subst (P j) (sym ((set-at xs i j x l).1 n)) (o n)
      where
        unlike : j ≡ i → (j == i) ≡ false → ⊥
        unlike e r = grind (arith, nat_tests)

pub below-last : (j i : ℕ) → j < i + 1 → j ≢ i → j < i
below-last j i q n = go (nat_lt j i) refl
  where
    go : (b : Bool) → nat_lt j i ≡ b → j < i
    go true e = grind (arith, nat_tests)
    go false e = absurd (n (grind (arith, nat_tests)))

-- c times one more number of the row
pub adds-more : (by from i x c : ℕ) (old now row : List ℕ) → by + i < length now → from ≤ i → AddsTimes by from i old now c row
    → ((j : ℕ) → by + i ≤ j → slice_index now j ≡ slice_index old j)
    → ((v m w : ℕ) → IsBound (slice_index now (by + i)) v → IsBound c m → IsBound (slice_index row i) w → IsBound x (v + m * w))
    → AddsTimes by from (i + 1) old (slice_set now (by + i) x) c row
adds-more by from i x c old now row l low h above step = record {
  added = λ j p q v m w b d e.
      set-cases (λ n y. n ≡ by + j → IsBound y (v + m * w)) now (by + i) x (by + j) l
      (λ n k. let k' : j ≡ i = omega (arith, n) in step v m w (bound-of _ _ v (above (by + i) (omega arith)) (subst (λ (y : ℕ). IsBound (slice_index old (by + y)) v) k' b)) d
      (subst (λ (y : ℕ). IsBound (slice_index row y) w) k' e))
      (λ n k. h.added j p (less j q n) v m w b d e)
      refl;
  below = λ j q.
      set-cases (λ n y. n < by + from → y ≡ slice_index old n) now (by + i) x j l
      (λ n k. absurd (omega (arith, n, k, low))) (λ n k. h.below j k) q;
}
  where
    less : (j : ℕ) → j < i + 1 → by + j ≢ by + i → j < i
    less j q n = below-last j i q (λ k. n (ap (λ (y : ℕ). by + y) k))

pub adds-above : (by i x : ℕ) (old now : List ℕ) → by + i < length now
    → ((j : ℕ) → by + i ≤ j → slice_index now j ≡ slice_index old j) → (j : ℕ) → by + (i + 1) ≤ j → slice_index (slice_set now (by + i) x) j ≡ slice_index old j
adds-above by i x old now l above j q =
    set-cases (λ n y. by + (i + 1) ≤ n → y ≡ slice_index old n) now (by + i) x j l (λ n k. absurd (omega (arith, n, k))) (λ n k. above j (omega (arith, k))) q

-- the multiset coefficient after m
pub next-bound : (p n r m m' : ℕ) → suc r * m' ≡ (n + r) * m → m * (n + r) ≤ p → m' ≤ p / (r + 1)
next-bound p n r m m' e l = le-div m' p (r + 1) (omega arith) (turned m' r (n + r) m e l)
  where
    turned : (x r a m : ℕ) → suc r * x ≡ a * m → m * a ≤ p → x * (r + 1) ≤ p
    turned x r a m e l = omega (arith, e, l)

pub zeros : (n i : ℕ) → slice_index (replicate n 0) i ≡ 0
zeros zero i = refl
zeros (suc n) zero = refl
zeros (suc n) (suc i) = zeros n i

-- one more row, and what comes after all rows
pub row-more : {X : Type 0} (rows : List X) (row d : X) (r : ℕ) (P : ℕ → X → Type 0) → ((i : ℕ) → i < length rows → P i (slice_index_or rows i d)) → P (length rows) row → r < length rows + 1 → P r
    (slice_index_or (rows ++ row ∷ []) r d)
row-more [] row d zero P h o l = o
row-more [] row d (suc r) P h o l = absurd (omega (arith, l))
row-more (x ∷ rows) row d zero P h o l = h 0 (omega arith)
row-more (x ∷ rows) row d (suc r) P h o l = row-more rows row d r (λ i. P (suc i)) (λ i q. h (suc i) (omega (arith, q))) o (omega (arith, l))

-- the first degree of the power after the n-th, and of the next
pub next-from : (from n least : ℕ) → from ≡ (n + 1) * least → from + least ≡ (n + 1 + 1) * least
next-from from n least e = omega (arith, e)

-- a degree below the first of the power after the n-th is below that of each after it
pub far : (k from n r i least : ℕ) → from ≡ (n + 1) * least → k < from → i ≤ k → n ≤ r → i < suc r * least
far k from n r i least e l p q = let m : (n + 1) * least ≤ suc r * least = more n r least q in omega (arith, e, l, p, m)
  where
    more : (n r l : ℕ) → n ≤ r → (n + 1) * l ≤ suc r * l
    more n r l q = let h : l * (n + 1) ≤ l * suc r = mul-le-mul_left l (omega (arith, q)) in omega (arith, h)

-- ---- exponents of products

pub slow-more : (reach : List ℕ) (e m : ℕ) → e < length reach → IsSlow reach → m ≤ 2 ^ 31 * e → IsSlow (slice_set reach e m)
slow-more reach e m l h q i = set-cases (λ n y. y ≤ 2 ^ 31 * n) reach e m i l (λ k. rw k q) (λ k. h i)

pub least-more : (old reach : List ℕ) (e m : ℕ) → e < length reach → ((j : ℕ) → slice_index old j ≤ slice_index reach j) → slice_index reach e ≤ m → (j : ℕ) → slice_index old j ≤ slice_index (slice_set reach e m) j
least-more old reach e m l h q j = set-cases (λ n y. slice_index old n ≤ y) reach e m j l (λ k. rw k (let a = h e in omega (arith, a, q))) (λ k. h j)

-- products of degree e reach m
pub closed-more : (reach : List ℕ) (e m : ℕ) → 1 ≤ e → e < length reach → IsSlow reach → IsFarthest reach e m
    → ((i j : ℕ) → i + j < e → slice_index reach i + slice_index reach j ≤ slice_index reach (i + j))
    → (i j : ℕ) → i + j < e + 1 → slice_index (slice_set reach e m) i + slice_index (slice_set reach e m) j ≤ slice_index (slice_set reach e m) (i + j)
closed-more reach e m p l slow far h i j q = go (nat_lt (i + j) e) refl
  where
    other : (n : ℕ) → n < e → slice_index (slice_set reach e m) n ≡ slice_index reach n
    other n k = (set-at reach e n m l).1 (λ r. unlike n r k)
      where
        unlike : (n : ℕ) → n ≡ e → n < e → ⊥
        unlike n r k = omega (arith, r, k)

    here : slice_index (slice_set reach e m) e ≡ m
    here = (set-at reach e e m l).0 refl

    none : slice_index (slice_set reach e m) 0 ≡ 0
    none = let a = other 0 (omega (arith, p)) in let b = slow 0 in omega (arith, a, b)

    -- one of the two has degree 0, or both have lower degrees
    ends : i + j ≡ e → (b : Bool) → nat_le 1 i ≡ b → (d : Bool) → nat_le 1 j ≡ d → slice_index (slice_set reach e m) i + slice_index (slice_set reach e m) j ≤ slice_index (slice_set reach e m) (i + j)
    ends s true u true v =
        let i' : 1 ≤ i = grind (arith, nat_tests) in
        let j' : 1 ≤ j = grind (arith, nat_tests) in
        let a = other i (omega (arith, s, j')) in
        let b = other j (omega (arith, s, i')) in
        let f = far.sums i j i' j' s in
        rw (s, here) (omega (arith, a, b, f))
    ends s false u d v =
        let z : i ≡ 0 = grind (arith, nat_tests) in
        let k : j ≡ e = omega (arith, s, z) in
        rw (s, z, none, k) (omega arith)
    ends s true u false v =
        let z : j ≡ 0 = grind (arith, nat_tests) in
        let k : i ≡ e = omega (arith, s, z) in
        rw (s, z, none, k) (omega arith)

    go : (b : Bool) → nat_lt (i + j) e ≡ b → slice_index (slice_set reach e m) i + slice_index (slice_set reach e m) j ≤ slice_index (slice_set reach e m) (i + j)
    go true u =
        let s : i + j < e = grind (arith, nat_tests) in
        let a = other i (omega (arith, s)) in
        let b = other j (omega (arith, s)) in
        let c = other (i + j) s in
        let r = h i j s in
        omega (arith, a, b, c, r)
    go false u = let s : i + j ≡ e = grind (arith, nat_tests) in ends s (nat_le 1 i) refl (nat_le 1 j) refl

-- ---- the larger of two numbers

pub max-left : (x y : ℕ) → x ≤ ord_max nat_cmp x y
max-left x y = search rules

pub max-right : (x y : ℕ) → y ≤ ord_max nat_cmp x y
max-right x y = search rules

pub max-within : (x y z : ℕ) → x ≤ z → y ≤ z → ord_max nat_cmp x y ≤ z
max-within x y z p q = search rules
