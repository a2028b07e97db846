-- Powers of 1 + u and of 1/(1 - v) by binomial coefficients, in any commutative ring with the integers in it.
use Rattle.std.specs.Prelude.{◌≡◌, refl, ℕ, [], ◌∷◌}
use Rattle.std.proofs.Common.{sym, subst, ◌∙◌, ap, zero, suc, arith}
use Rattle.std.proofs.lemmas.Int.{ints}
use lib.IntN.{ℤ, pos, negsuc, suc_ℤ, pred_ℤ, ◌+ℤ◌, ◌-ℤ◌, ◌*ℤ◌, +ℤ_comm, +ℤ_idl, suc_ℤ-+ℤ, suc-pred}
use Rattle.sum_algebra.proofs.Integers.{ℤ-induction}
use Rattle.sum_algebra.proofs.Ring.{CommRing, var, minus, nought, unit, ring}
use Rattle.sum_algebra.proofs.IntegerRing.{ints_ring, ◌:+◌, ◌:*◌, ◌:-◌, X, Y, Z, W}
use Rattle.sum_algebra.proofs.Powers.{power, int_power, int_power-suc, int_power-pred}
use Rattle.degree_theory.specs.Parts.{choose, multichoose}

pub choose-zero : (n : ℤ) → choose n 0 ≡ pos 1
choose-zero (pos zero) = refl
choose-zero (pos (suc i)) = refl
choose-zero (negsuc zero) = refl
choose-zero (negsuc (suc i)) = refl

pub pascal : (n : ℤ) (r : ℕ) → choose (suc_ℤ n) (suc r) ≡ choose n (suc r) +ℤ choose n r
pascal (pos zero) r = omega (arith, ints)
pascal (pos (suc i)) r = omega (arith, ints)
pascal (negsuc zero) r = omega (arith, ints)
pascal (negsuc (suc i)) r = omega (arith, ints)

-- ---- from each number of a row to the next

abbrev IsRow : ℤ → Type 0
IsRow n = (r : ℕ) → pos (suc r) *ℤ choose n (suc r) ≡ (n -ℤ pos r) *ℤ choose n r

row-up : (n q c0 c1 c2 d1 d2 : ℤ) → d1 ≡ c1 +ℤ c0 → d2 ≡ c2 +ℤ c1 → (q +ℤ pos 1) *ℤ c1 ≡ (n -ℤ q) *ℤ c0 → (q +ℤ pos 1 +ℤ pos 1) *ℤ c2 ≡ (n -ℤ (q +ℤ pos 1)) *ℤ c1
    → (q +ℤ pos 1 +ℤ pos 1) *ℤ d2 ≡ (n +ℤ pos 1 -ℤ (q +ℤ pos 1)) *ℤ d1
row-up n q c0 c1 c2 d1 d2 e f g h =
    ap (λ d. (q +ℤ pos 1 +ℤ pos 1) *ℤ d) f ∙ ring ints_ring (q ∷ c1 ∷ c2 ∷ []) ((X :+ unit :+ unit) :* (Z :+ Y)) ((X :+ unit :+ unit) :* Z :+ (X :+ unit :+ unit) :* Y) refl
    ∙ ap (λ d. d +ℤ (q +ℤ pos 1 +ℤ pos 1) *ℤ c1) h
    ∙ ring ints_ring (n ∷ q ∷ c1 ∷ []) ((X :- (Y :+ unit)) :* Z :+ (Y :+ unit :+ unit) :* Z) ((X :- Y) :* Z :+ (Y :+ unit) :* Z) refl
    ∙ ap (λ d. (n -ℤ q) *ℤ c1 +ℤ d) g
    ∙ ring ints_ring (n ∷ q ∷ c0 ∷ c1 ∷ []) ((X :- Y) :* W :+ (X :- Y) :* Z) ((X :+ unit :- (Y :+ unit)) :* (W :+ Z)) refl
    ∙ ap (λ d. (n +ℤ pos 1 -ℤ (q +ℤ pos 1)) *ℤ d) (sym e)

row-down : (m q c0 c1 c2 d1 d2 : ℤ) → d1 ≡ c1 +ℤ c0 → d2 ≡ c2 +ℤ c1 → (q +ℤ pos 1) *ℤ c1 ≡ (m -ℤ q) *ℤ c0 → (q +ℤ pos 1 +ℤ pos 1) *ℤ d2 ≡ (m +ℤ pos 1 -ℤ (q +ℤ pos 1)) *ℤ d1
    → (q +ℤ pos 1 +ℤ pos 1) *ℤ c2 ≡ (m -ℤ (q +ℤ pos 1)) *ℤ c1
row-down m q c0 c1 c2 d1 d2 e f g h =
    ring ints_ring (q ∷ c1 ∷ c2 ∷ []) ((X :+ unit :+ unit) :* Z) ((X :+ unit :+ unit) :* (Z :+ Y) :- (X :+ unit :+ unit) :* Y) refl
    ∙ ap (λ d. (q +ℤ pos 1 +ℤ pos 1) *ℤ d -ℤ (q +ℤ pos 1 +ℤ pos 1) *ℤ c1) (sym f) ∙ ap (λ d. d -ℤ (q +ℤ pos 1 +ℤ pos 1) *ℤ c1) (h ∙ ap (λ d. (m +ℤ pos 1 -ℤ (q +ℤ pos 1)) *ℤ d) e)
    ∙ ring ints_ring (m ∷ q ∷ c0 ∷ c1 ∷ []) ((X :+ unit :- (Y :+ unit)) :* (W :+ Z) :- (Y :+ unit :+ unit) :* W) ((X :- Y) :* Z :+ ((X :- Y) :* W :- (Y :+ unit :+ unit) :* W)) refl
    ∙ ap (λ d. d +ℤ ((m -ℤ q) *ℤ c1 -ℤ (q +ℤ pos 1 +ℤ pos 1) *ℤ c1)) (sym g)
    ∙ ring ints_ring (m ∷ q ∷ c1 ∷ []) ((Y :+ unit) :* Z :+ ((X :- Y) :* Z :- (Y :+ unit :+ unit) :* Z)) ((X :- (Y :+ unit)) :* Z) refl

next : (r : ℕ) → pos (suc r) ≡ pos r +ℤ pos 1
next r = omega (arith, ints)

-- the numbers as in the two lemmas
to_step : (n c d : ℤ) (r : ℕ) → pos (suc (suc r)) *ℤ d ≡ (n -ℤ pos (suc r)) *ℤ c → (pos r +ℤ pos 1 +ℤ pos 1) *ℤ d ≡ (n -ℤ (pos r +ℤ pos 1)) *ℤ c
to_step n c d r h = ap (λ a. (a +ℤ pos 1) *ℤ d) (sym (next r)) ∙ ap (λ a. a *ℤ d) (sym (next (suc r))) ∙ h ∙ ap (λ a. (n -ℤ a) *ℤ c) (next r)

from_step : (n c d : ℤ) (r : ℕ) → (pos r +ℤ pos 1 +ℤ pos 1) *ℤ d ≡ (n -ℤ (pos r +ℤ pos 1)) *ℤ c → pos (suc (suc r)) *ℤ d ≡ (n -ℤ pos (suc r)) *ℤ c
from_step n c d r h = ap (λ a. a *ℤ d) (next (suc r)) ∙ ap (λ a. (a +ℤ pos 1) *ℤ d) (next r) ∙ h ∙ ap (λ a. (n -ℤ a) *ℤ c) (sym (next r))

pub suc-is : (n : ℤ) → suc_ℤ n ≡ n +ℤ pos 1
suc-is n = sym (+ℤ_comm n (pos 1) ∙ suc_ℤ-+ℤ (pos 0) n ∙ ap suc_ℤ (+ℤ_idl n))

-- the first two numbers
first-two : (n : ℤ) → IsRow n → choose n 1 ≡ n
first-two n h = ring ints_ring (choose n 1 ∷ []) X (unit :* X) refl ∙ h 0 ∙ ap (λ c. (n -ℤ pos 0) *ℤ c) (choose-zero n) ∙ ring ints_ring (n ∷ []) ((X :- nought) :* unit) X refl

by-two : (n : ℤ) → choose n 1 ≡ n → pos 1 *ℤ choose n 1 ≡ (n -ℤ pos 0) *ℤ choose n 0
by-two n e = ring ints_ring (choose n 1 ∷ []) (unit :* X) X refl ∙ e ∙ sym (ap (λ c. (n -ℤ pos 0) *ℤ c) (choose-zero n) ∙ ring ints_ring (n ∷ []) ((X :- nought) :* unit) X refl)

up-row : (n : ℤ) → IsRow n → IsRow (suc_ℤ n)
up-row n h zero = by-two (suc_ℤ n) (pascal n 0 ∙ ap (λ c. c +ℤ choose n 0) (first-two n h) ∙ ap (λ c. n +ℤ c) (choose-zero n) ∙ sym (suc-is n))
up-row n h (suc r) =
    from_step (suc_ℤ n) (choose (suc_ℤ n) (suc r)) (choose (suc_ℤ n) (suc (suc r))) r
    (row-up n (pos r) (choose n r) (choose n (suc r)) (choose n (suc (suc r))) (choose (suc_ℤ n) (suc r)) (choose (suc_ℤ n) (suc (suc r))) (pascal n r) (pascal n (suc r))
    (ap (λ a. a *ℤ choose n (suc r)) (sym (next r)) ∙ h r) (to_step n (choose n (suc r)) (choose n (suc (suc r))) r (h (suc r)))
    ∙ ap (λ a. (a -ℤ (pos r +ℤ pos 1)) *ℤ choose (suc_ℤ n) (suc r)) (sym (suc-is n)))

down-row : (m : ℤ) → IsRow (suc_ℤ m) → IsRow m
down-row m h zero = by-two m (cancelled (choose m 1) m (sym (ap (λ c. choose m 1 +ℤ c) (choose-zero m)) ∙ sym (pascal m 0) ∙ first-two (suc_ℤ m) h ∙ suc-is m))
  where
    cancelled : (a b : ℤ) → a +ℤ pos 1 ≡ b +ℤ pos 1 → a ≡ b
    cancelled a b e = omega (arith, ints, e)
down-row m h (suc r) =
    from_step m (choose m (suc r)) (choose m (suc (suc r))) r
    (row-down m (pos r) (choose m r) (choose m (suc r)) (choose m (suc (suc r))) (choose (suc_ℤ m) (suc r)) (choose (suc_ℤ m) (suc (suc r))) (pascal m r) (pascal m (suc r))
    (ap (λ a. a *ℤ choose m (suc r)) (sym (next r)) ∙ down-row m h r)
    (to_step (suc_ℤ m) (choose (suc_ℤ m) (suc r)) (choose (suc_ℤ m) (suc (suc r))) r (h (suc r)) ∙ ap (λ a. (a -ℤ (pos r +ℤ pos 1)) *ℤ choose (suc_ℤ m) (suc r)) (suc-is m)))

pub row-is-products : (n : ℤ) (r : ℕ) → pos (suc r) *ℤ choose n (suc r) ≡ (n -ℤ pos r) *ℤ choose n r
row-is-products n =
    ℤ-induction IsRow zero-row up-row (λ a h. down-row (pred_ℤ a) (subst IsRow (sym (suc-pred a)) h)) n
  where
    zero-row : (r : ℕ) → pos (suc r) *ℤ choose (pos 0) (suc r) ≡ (pos 0 -ℤ pos r) *ℤ choose (pos 0) r
    zero-row zero = refl
    zero-row (suc r) = ring ints_ring (pos (suc (suc r)) ∷ pos (suc r) ∷ []) (X :* nought) ((nought :- Y) :* nought) refl

module _ {R : Type 0} (𝓡 : CommRing R) (ι : ℤ → R) (ι-zero : ι (pos 0) ≡ 𝓡.𝟘) (ι-one : ι (pos 1) ≡ 𝓡.𝟙) (ι-add : (a b : ℤ) → ι (a +ℤ b) ≡ 𝓡.◌⊕◌ (ι a) (ι b)) where
  open 𝓡 use {◌⊕◌, ◌⊗◌, ⊖◌, 𝟘, 𝟙, mul_assoc}

  infixl 6 ◌⊕◌
  infixl 7 ◌⊗◌
  -- the sum of c r scaled the r-th power of u, for r from 0 to n
  abbrev pub polynomial : (ℕ → ℤ) → R → ℕ → R
  polynomial c u zero = ι (c 0) ⊗ 𝟙
  polynomial c u (suc n) = polynomial c u n ⊕ ι (c (suc n)) ⊗ power 𝓡 u (suc n)

  module _ (w u : R) where
    -- numbers that 1 + w·u turns into others
    shifted : (a b : ℕ → ℤ) → b 0 ≡ a 0 → ((r : ℕ) → ι (b (suc r)) ≡ ι (a (suc r)) ⊕ w ⊗ ι (a r)) → (n : ℕ)
        → (𝟙 ⊕ w ⊗ u) ⊗ polynomial a u n ≡ polynomial b u n ⊕ w ⊗ ι (a n) ⊗ power 𝓡 u (suc n)
    shifted a b z s zero =
        ring 𝓡 (w ∷ u ∷ ι (a 0) ∷ []) ((unit :+ X :* Y) :* (Z :* unit)) (Z :* unit :+ X :* Z :* (Y :* unit)) refl
        ∙ ap (λ c. ι c ⊗ 𝟙 ⊕ w ⊗ ι (a 0) ⊗ (u ⊗ 𝟙)) (sym z)
    shifted a b z s (suc n) =
        ring 𝓡 (w ∷ u ∷ polynomial a u n ∷ ι (a (suc n)) ∷ power 𝓡 u (suc n) ∷ [])
        ((unit :+ X :* Y) :* (Z :+ W :* var 4)) ((unit :+ X :* Y) :* Z :+ (W :* var 4 :+ X :* W :* (Y :* var 4))) refl
        ∙ ap (λ y. y ⊕ (ι (a (suc n)) ⊗ power 𝓡 u (suc n) ⊕ w ⊗ ι (a (suc n)) ⊗ (u ⊗ power 𝓡 u (suc n)))) (shifted a b z s n)
        ∙ ring 𝓡 (polynomial b u n ∷ (w ⊗ ι (a n)) ∷ power 𝓡 u (suc n) ∷ ι (a (suc n)) ∷ (w ⊗ ι (a (suc n)) ⊗ (u ⊗ power 𝓡 u (suc n))) ∷ [])
        (X :+ Y :* Z :+ (W :* Z :+ var 4)) (X :+ (W :+ Y) :* Z :+ var 4) refl
        ∙ ap (λ y. polynomial b u n ⊕ y ⊗ power 𝓡 u (suc n) ⊕ w ⊗ ι (a (suc n)) ⊗ (u ⊗ power 𝓡 u (suc n))) (sym (s n))

    turned : (a b : ℕ → ℤ) → b 0 ≡ a 0 → ((r : ℕ) → ι (b (suc r)) ≡ ι (a (suc r)) ⊕ w ⊗ ι (a r)) → (n : ℕ) → power 𝓡 u (suc n) ≡ 𝟘 → (𝟙 ⊕ w ⊗ u) ⊗ polynomial a u n ≡ polynomial b u n
    turned a b z s n p = shifted a b z s n ∙ rw p (ring 𝓡 (polynomial b u n ∷ (w ⊗ ι (a n)) ∷ []) (X :+ Y :* nought) X refl)

  -- 1, as a polynomial
  polynomial-one : (c : ℕ → ℤ) → c 0 ≡ pos 1 → ((r : ℕ) → c (suc r) ≡ pos 0) → (u : R) (n : ℕ) → polynomial c u n ≡ 𝟙
  polynomial-one c z s u zero = ap (λ a. ι a ⊗ 𝟙) z ∙ ap (λ y. y ⊗ 𝟙) ι-one ∙ ring 𝓡 [] (unit :* unit) unit refl
  polynomial-one c z s u (suc n) =
      ap (λ y. y ⊕ ι (c (suc n)) ⊗ power 𝓡 u (suc n)) (polynomial-one c z s u n) ∙ ap (λ y. 𝟙 ⊕ y ⊗ power 𝓡 u (suc n)) (ap ι (s n) ∙ ι-zero)
      ∙ ring 𝓡 (power 𝓡 u (suc n) ∷ []) (unit :+ nought :* X) unit refl

  -- a power of f = 1 + u, where g is its inverse and a power of u is 0
  module _ (f g u : R) (inv : f ⊗ g ≡ 𝟙) (is : f ≡ 𝟙 ⊕ 𝟙 ⊗ u) (n : ℕ) (vanishes : power 𝓡 u (suc n) ≡ 𝟘) where
    up : (a : ℤ) → f ⊗ polynomial (choose a) u n ≡ polynomial (choose (suc_ℤ a)) u n
    up a =
        ap (λ y. y ⊗ polynomial (choose a) u n) is
        ∙ turned 𝟙 u (choose a) (choose (suc_ℤ a)) (choose-zero (suc_ℤ a) ∙ sym (choose-zero a))
        (λ r. ap ι (pascal a r) ∙ ι-add (choose a (suc r)) (choose a r) ∙ ring 𝓡 (ι (choose a (suc r)) ∷ ι (choose a r) ∷ []) (X :+ Y) (X :+ unit :* Y) refl) n vanishes

    down : (a : ℤ) → g ⊗ polynomial (choose a) u n ≡ polynomial (choose (pred_ℤ a)) u n
    down a =
        ap (λ (b : ℤ). g ⊗ polynomial (choose b) u n) (sym (suc-pred a)) ∙ ap (λ y. g ⊗ y) (sym (up (pred_ℤ a)))
        ∙ ring 𝓡 (f ∷ g ∷ polynomial (choose (pred_ℤ a)) u n ∷ []) (Y :* (X :* Z)) (X :* Y :* Z) refl
        ∙ rw inv (ring 𝓡 (polynomial (choose (pred_ℤ a)) u n ∷ []) (unit :* X) X refl)

    pub power-binomial : (a : ℤ) → int_power 𝓡 f g a ≡ polynomial (choose a) u n
    power-binomial a =
        ℤ-induction (λ a. int_power 𝓡 f g a ≡ polynomial (choose a) u n)
        (sym (polynomial-one (choose (pos 0)) refl (λ r. refl) u n))
        (λ a i. int_power-suc 𝓡 f g inv a ∙ ap (λ y. f ⊗ y) i ∙ up a)
        (λ a i. int_power-pred 𝓡 f g inv a ∙ ap (λ y. g ⊗ y) i ∙ down a) a

  -- a power of g = 1/(1 - v), where a power of v is 0
  module _ (g v : R) (inv : (𝟙 ⊕ ⊖◌ v) ⊗ g ≡ 𝟙) (n : ℕ) (vanishes : power 𝓡 v (suc n) ≡ 𝟘) where
    abbrev numbers : ℕ → ℕ → ℤ
    numbers i r = pos (multichoose i r)

    numbers-zero : (i : ℕ) → pos (multichoose i 0) ≡ pos 1
    numbers-zero zero = refl
    numbers-zero (suc i) = refl

    less : (i r : ℕ) → ι (pos (multichoose i (suc r))) ≡ ι (pos (multichoose (suc i) (suc r))) ⊕ ⊖◌ 𝟙 ⊗ ι (pos (multichoose (suc i) r))
    less i r =
        let s : pos (multichoose i (suc r)) +ℤ pos (multichoose (suc i) r) ≡ pos (multichoose (suc i) (suc r)) = omega (arith, ints) in
        ring 𝓡 (ι (pos (multichoose i (suc r))) ∷ ι (pos (multichoose (suc i) r)) ∷ []) X ((X :+ Y) :+ minus unit :* Y) refl
        ∙ ap (λ y. y ⊕ ⊖◌ 𝟙 ⊗ ι (pos (multichoose (suc i) r))) (sym (ι-add (pos (multichoose i (suc r))) (pos (multichoose (suc i) r))) ∙ ap ι s)

    pub power-repeated : (i : ℕ) → power 𝓡 g i ≡ polynomial (numbers i) v n
    power-repeated zero = sym (polynomial-one (numbers 0) refl (λ r. refl) v n)
    power-repeated (suc i) =
        ap (λ y. g ⊗ y) (power-repeated i ∙ sym (turned (⊖◌ 𝟙) v (numbers (suc i)) (numbers i) (numbers-zero i ∙ sym (numbers-zero (suc i))) (less i) n vanishes))
        ∙ ring 𝓡 (g ∷ v ∷ polynomial (numbers (suc i)) v n ∷ []) (X :* ((unit :+ minus unit :* Y) :* Z)) (((unit :- Y) :* X) :* Z) refl
        ∙ rw inv (ring 𝓡 (polynomial (numbers (suc i)) v n ∷ []) (unit :* X) X refl)
