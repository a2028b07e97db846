-- A sum in which each key is replaced by a product is convolution, degree by degree, of the parts of both.
use Rattle.std.proofs.Common.{◌≡◌, ℕ, zero, suc, refl, sym, ap, ◌∙◌, ◌+◌, ◌-◌, ◌<◌, ◌≤◌, Bool, true, false, cond, [], ◌∷◌, ◌++◌, map, arith}
use Rattle.std.specs.Prelude.{ℤ, pos, ◌+ℤ◌, ◌*ℤ◌, ◌==◌, ◌&&◌, nat_le, nat_lt}
use Rattle.std.proofs.lemmas.Int.{ints}
use native.Mathlib.Decide.{dec_le}
use Rattle.std.proofs.lemmas.Bool.Decides.{nat_tests}
use Rattle.sum_algebra.proofs.Ring.{nought, unit, ring}
use Rattle.sum_algebra.proofs.IntegerRing.{ints_ring, ◌:+◌, ◌:*◌, X}
use Rattle.sum_algebra.proofs.Sums.{pair, pair-append, pair-zero, pair-ext, pair-plus}
use Rattle.scattering.specs.Series.{Key, Sum, degree, key_mul, term_mul, one, Same}
use Rattle.scattering.specs.ThetaProduct.{of_degree}
use Rattle.scattering.proofs.ShiftedSums.{degree-mul}
use Rattle.crossing_theory.proofs.Keys.{keys}
use Rattle.crossing_theory.proofs.Translation.{Eq, pair-term}
use Rattle.degree_theory.specs.Parts.{substituted, partial_convolution, convolution}
use Rattle.degree_theory.proofs.Parts.{All, to_All, seen, pair-part, seen-high}

pub pair-substituted : (E : Key → Sum) (g : Sum) (φ : Key → ℤ) → pair φ (substituted E g) ≡ pair (λ x. pair (λ y. φ (key_mul x y)) (E x)) g
pair-substituted E [] φ = refl
pair-substituted E (t ∷ g) φ =
    pair-append φ (map (term_mul t) (E t.0)) (substituted E g)
    ∙ rw (pair-term φ t (E t.0), pair-substituted E g φ) refl

step : (a b e l n : ℕ) (v : ℤ) → l + n ≤ e
    → cond ((a + b == e) && (nat_le l b && nat_lt b (l + suc n))) v (pos 0) ≡ cond ((a + b == e) && (nat_le l b && nat_lt b (l + n))) v (pos 0) +ℤ cond (a == e - (l + n)) (cond (b == l + n) v (pos 0)) (pos 0)
step a b e l n v le = grind (arith, ints, nat_tests)

none : (a b e l : ℕ) (v : ℤ) → cond ((a + b == e) && (nat_le l b && nat_lt b (l + 0))) v (pos 0) ≡ pos 0
none a b e l v = grind (arith, ints, nat_tests)

-- the pairs of terms whose degrees sum to e, where the second is one of n numbers from l up
abbrev both : ℕ → ℕ → ℕ → (Key → ℤ) → Key → Key → ℤ
both e l n φ x y = cond ((degree x + degree y == e) && (nat_le l (degree y) && nat_lt (degree y) (l + n))) (φ (key_mul x y)) (pos 0)

pub cond-pair : (b : Bool) (φ : Key → ℤ) (s : Sum) → cond b (pair φ s) (pos 0) ≡ pair (λ y. cond b (φ y) (pos 0)) s
cond-pair true φ s = refl
cond-pair false φ s = sym (pair-zero s)

module _ (P : Key → Sum) (g : Sum) (factors : ℕ → Key → Sum) (parts : ℕ → Sum) (l e : ℕ)
    (of_factors : (i : ℕ) → l ≤ i → i ≤ e → (x : Key) → Same (factors i x) (of_degree i (P x)))
    (of_parts : (i : ℕ) → i + l ≤ e → Same (parts i) (of_degree i g)) where
  one-row : (i : ℕ) → l ≤ i → i ≤ e → (φ : Key → ℤ) → pair φ (substituted (factors i) (parts (e - i))) ≡ pair (λ x. pair (λ y. cond (degree x == e - i) (cond (degree y == i) (φ (key_mul x y)) (pos 0)) (pos 0)) (P x)) g
  one-row i low high φ =
      pair-substituted (factors i) (parts (e - i)) φ
      ∙ to_All (parts (e - i)) (of_degree (e - i) g) (of_parts (e - i) (omega (arith, low, high))) (λ x. pair (λ y. φ (key_mul x y)) (factors i x))
      ∙ pair-part (e - i) (λ x. pair (λ y. φ (key_mul x y)) (factors i x)) g
      ∙ pair-ext _ _ g (λ x.
      ap (λ c. cond (degree x == e - i) c (pos 0)) (to_All (factors i x) (of_degree i (P x)) (of_factors i low high x) (λ y. φ (key_mul x y)) ∙ pair-part i (λ y. φ (key_mul x y)) (P x))
      ∙ cond-pair (degree x == e - i) (seen i (λ y. φ (key_mul x y))) (P x))

  pair-partial_convolution : (n : ℕ) → n ≤ suc e - l → (φ : Key → ℤ) → pair φ (partial_convolution factors parts e l n) ≡ pair (λ x. pair (both e l n φ x) (P x)) g
  pair-partial_convolution zero le φ =
      sym (pair-ext _ _ g (λ x. pair-ext _ _ (P x) (λ y. none (degree x) (degree y) e l (φ (key_mul x y))) ∙ pair-zero (P x)) ∙ pair-zero g)
  pair-partial_convolution (suc n) le φ =
      pair-append φ (partial_convolution factors parts e l n) (substituted (factors (l + n)) (parts (e - (l + n))))
      ∙ ap (λ c. c +ℤ pair φ (substituted (factors (l + n)) (parts (e - (l + n))))) (pair-partial_convolution n (omega (arith, le)) φ)
      ∙ ap (λ c. pair (λ x. pair (both e l n φ x) (P x)) g +ℤ c) (one-row (l + n) (omega arith) (omega (arith, le)) φ)
      ∙ sym (pair-ext _ _ g (λ x.
      pair-ext _ _ (P x) (λ y. step (degree x) (degree y) e l n (φ (key_mul x y)) (omega (arith, le)))
      ∙ pair-plus (both e l n φ x) (λ y. cond (degree x == e - (l + n)) (cond (degree y == l + n) (φ (key_mul x y)) (pos 0)) (pos 0)) (P x))
      ∙ pair-plus (λ x. pair (both e l n φ x) (P x)) (λ x. pair (λ y. cond (degree x == e - (l + n)) (cond (degree y == l + n) (φ (key_mul x y)) (pos 0)) (pos 0)) (P x)) g)

  pub pair-convolution : (φ : Key → ℤ) → pair φ (convolution factors parts l e) ≡ pair (λ x. pair (both e l (suc e - l) φ x) (P x)) g
  pair-convolution φ = pair-partial_convolution (suc e - l) (omega arith) φ

-- f is read as g with each key x replaced by x·P x
abbrev pub IsReplaced : ℕ → (Key → Sum) → Sum → Sum → Type 0
IsReplaced k P g f = (φ : Key → ℤ) → ((x : Key) → k < degree x → φ x ≡ pos 0) → pair φ f ≡ pair (λ x. pair (λ y. φ (key_mul x y)) (P x)) g

-- the pairs whose second degree is below l, and those from l up
two-parts : (c a b e l : ℕ) (v : ℤ) → c ≡ a + b → cond (c == e) v (pos 0) ≡ cond (nat_lt b l) (cond (c == e) v (pos 0)) (pos 0) +ℤ cond ((a + b == e) && (nat_le l b && nat_lt b (l + (suc e - l)))) v (pos 0)
two-parts c a b e l v q = grind (arith, ints, nat_tests)

unseen : (d e l : ℕ) (v : ℤ) → l ≤ d → cond (nat_lt d l) v (pos 0) ≡ pos 0
unseen d e l v le = grind (arith, ints, nat_tests)

module _ (k : ℕ) (P : Key → Sum) (g f : Sum) (factors : ℕ → Key → Sum) (parts : ℕ → Sum) (l e : ℕ) (is : IsReplaced k P g f) (le : e ≤ k)
    (of_factors : (i : ℕ) → l ≤ i → i ≤ e → (x : Key) → Same (factors i x) (of_degree i (P x)))
    (of_parts : (i : ℕ) → i + l ≤ e → Same (parts i) (of_degree i g)) where
  -- what is left of a test of a product, where the factor's degree is below l
  abbrev low : (Key → ℤ) → Key → Key → ℤ
  low φ x y = cond (nat_lt (degree y) l) (seen e φ (key_mul x y)) (pos 0)

  split : (φ : Key → ℤ) → pair φ (of_degree e f) ≡ pair (λ x. pair (low φ x) (P x)) g +ℤ pair φ (convolution factors parts l e)
  split φ =
      pair-part e φ f ∙ is (seen e φ) (seen-high k e φ le)
      ∙ pair-ext _ _ g (λ x. pair-ext _ _ (P x) (λ y. two-parts (degree (key_mul x y)) (degree x) (degree y) e l (φ (key_mul x y)) (degree-mul x y)) ∙ pair-plus (low φ x) (both e l (suc e - l) φ x) (P x))
      ∙ pair-plus (λ x. pair (low φ x) (P x)) (λ x. pair (both e l (suc e - l) φ x) (P x)) g
      ∙ ap (λ c. pair (λ x. pair (low φ x) (P x)) g +ℤ c) (sym (pair-convolution P g factors parts l e of_factors of_parts φ))

  -- where each factor is 1 and terms of degree at least l
  pub convolution-after : 1 ≤ l → ((c : ℕ) → c < l → c ≤ k → (x : Key) → Eq c (P x) one) → All (of_degree e f) (of_degree e g ++ convolution factors parts l e)
  convolution-after positive near = elim (dec_le l (suc e)) [
    | yes q ↦ by_degree (l - 1) (below (l - 1) (omega (arith, positive))) (near (l - 1) (omega (arith, positive)) (omega (arith, q, le)))
    | no q ↦ by_degree e above (near e (omega (arith, q)) le)
  ]
    where
      -- tests of low factors see no degree above c
      Unseen : ℕ → Type 0
      Unseen c = (d s : ℕ) (v : ℤ) → c < d → d ≤ s → cond (nat_lt d l) (cond (s == e) v (pos 0)) (pos 0) ≡ pos 0

      below : (c : ℕ) → l ≤ suc c → Unseen c
      below c h d s v p q = grind (arith, ints, nat_tests)

      above : Unseen e
      above d s v p q = grind (arith, ints, nat_tests)

      first : (b : Bool) → nat_lt 0 l ≡ b → b ≡ true
      first true q = refl
      first false q = grind (arith, nat_tests)

      at_unit : (φ : Key → ℤ) (x : Key) → pair (low φ x) one ≡ seen e φ x
      at_unit φ x = ap (λ (b : Bool). pos 1 *ℤ cond b (seen e φ (key_mul x keys.e)) (pos 0) +ℤ pos 0) (first (nat_lt 0 l) refl) ∙ (ap (λ (y : Key). pos 1 *ℤ seen e φ y +ℤ pos 0) (keys.comm x keys.e ∙ keys.unit_left x) ∙ ring ints_ring (seen e φ x ∷ []) (unit :* X :+ nought) X refl)

      by_degree : (c : ℕ) → Unseen c → ((x : Key) → Eq c (P x) one) → All (of_degree e f) (of_degree e g ++ convolution factors parts l e)
      by_degree c hidden one_to φ =
          split φ
          ∙ ap (λ c. c +ℤ pair φ (convolution factors parts l e))
          (pair-ext _ _ g (λ x. (one_to x).at (low φ x) (λ y d. hidden (degree y) (degree (key_mul x y)) (φ (key_mul x y)) d (let m = degree-mul x y in omega (arith, m))) ∙ at_unit φ x) ∙ sym (pair-part e φ g))
          ∙ sym (pair-append φ (of_degree e g) (convolution factors parts l e))

  -- where no factor has a term of degree below l
  pub convolution-from : ((x : Key) (φ : Key → ℤ) → ((y : Key) → l ≤ degree y → φ y ≡ pos 0) → pair φ (P x) ≡ pos 0) → All (of_degree e f) (convolution factors parts l e)
  convolution-from high φ =
      split φ
      ∙ ap (λ c. c +ℤ pair φ (convolution factors parts l e)) (pair-ext _ _ g (λ x. high x (low φ x) (λ y d. unseen (degree y) e l (seen e φ (key_mul x y)) d)) ∙ pair-zero g)
      ∙ ring ints_ring (pair φ (convolution factors parts l e) ∷ []) (nought :+ X) X refl
