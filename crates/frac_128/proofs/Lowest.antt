-- Quotients in lowest terms: how they come about, and that there is one for each number.
use Rattle.std.proofs.Common.{◌≡◌, ℕ, zero, suc, refl, sym, ap, subst, ◌∙◌, ◌*◌, ◌≤◌, [], ◌∷◌, arith}
use Rattle.std.specs.Prelude.{ℤ, pos, negsuc, ◌*ℤ◌, ◌≤ℤ◌, nat_abs, FitsSigned}
use Rattle.std.specs.Int.{◌∣◌, IsGcd, w128}
use Rattle.std.proofs.Math.Nat.{dvd-mul_left, eq_of_mul-eq-mul_right}
use Rattle.std.proofs.lemmas.Int.{ints, unsigned_abs-mul}
use Rattle.std.proofs.lemmas.Nat.Gcd.{dvd_antisymm}
use Rattle.sum_algebra.proofs.Ring.{var, ring}
use Rattle.sum_algebra.proofs.IntegerRing.{ints_ring, ◌:*◌}
use Rattle.sum_algebra.proofs.Integers.{positive-mul}
use Rattle.frac_128.specs.Quotient.{IsLowest, AreEqual, AreReduced, LowestFits}
use Rattle.frac_128.proofs.Coprime.{dvd_other_factor, coprime-swap, coprime-divisors, coprime-mul, coprime-quotients}

size-times : (a p : ℤ) (g : ℕ) → a ≡ p *ℤ pos g → nat_abs a ≡ g * nat_abs p
size-times a p g e = ap nat_abs e ∙ unsigned_abs-mul p (pos g) ∙ (let s : nat_abs p * g ≡ g * nat_abs p = omega arith in s)

pub nonzero : (b q : ℤ) (g : ℕ) → pos 1 ≤ℤ b → b ≡ q *ℤ pos g → 1 ≤ g
nonzero b q zero h e = absurd (let z : q *ℤ pos 0 ≡ pos 0 = omega (arith, ints) in omega (arith, ints, h, e, z))
nonzero b q (suc g) h e = omega arith

pub above : (b q : ℤ) (g : ℕ) → pos 1 ≤ℤ b → b ≡ q *ℤ pos g → pos 1 ≤ℤ q
above b (pos zero) g h e = absurd (let z : pos 0 *ℤ pos g ≡ pos 0 = omega (arith, ints) in omega (arith, ints, h, e, z))
above b (pos (suc q)) g h e = omega (arith, ints)
above b (negsuc q) zero h e = absurd (omega (arith, ints, h, e))
above b (negsuc q) (suc g) h e = absurd (omega (arith, ints, h, e))

pub reduced-lowest : (a b p q : ℤ) → pos 1 ≤ℤ b → AreReduced a b p q → IsLowest p q
reduced-lowest a b p q h r = record {
  positive = above b q r.g h r.second;
  coprime = coprime-quotients (nat_abs a) (nat_abs b) r.g (nat_abs p) (nat_abs q) (nonzero b q r.g h r.second) r.gcd (size-times a p r.g r.first) (size-times b q r.g r.second);
}

spread : (p q g : ℤ) → p *ℤ (q *ℤ g) ≡ (p *ℤ g) *ℤ q
spread p q g = ring ints_ring (p ∷ q ∷ g ∷ []) (var 0 :* (var 1 :* var 2)) ((var 0 :* var 2) :* var 1) refl

pub reduced-equal : (a b p q : ℤ) → AreReduced a b p q → AreEqual p q a b
reduced-equal a b p q r = ap (λ z. p *ℤ z) r.second ∙ spread p q (pos r.g) ∙ ap (λ z. z *ℤ q) (sym r.first)

-- ---- a number has one quotient in lowest terms
one-way : (p q p' q' : ℕ) → IsGcd p q 1 → p * q' ≡ p' * q → q ∣ q'
one-way p q p' q' h e = dvd_other_factor q p q' (coprime-swap p q h) (subst (λ (n : ℕ). q ∣ n) (sym e) (dvd-mul_left q p'))

sizes : (p q p' q' : ℤ) → AreEqual p q p' q' → nat_abs p * nat_abs q' ≡ nat_abs p' * nat_abs q
sizes p q p' q' e = sym (unsigned_abs-mul p q') ∙ ap nat_abs e ∙ unsigned_abs-mul p' q

same-positive : (a b : ℤ) → pos 1 ≤ℤ a → pos 1 ≤ℤ b → nat_abs a ≡ nat_abs b → a ≡ b
same-positive a b h k e = omega (arith, ints, h, k, e)

pub cancel : (x y z : ℤ) → pos 1 ≤ℤ z → x *ℤ z ≡ y *ℤ z → x ≡ y
cancel (pos x) (pos y) (pos (suc z)) h e = ap pos (eq_of_mul-eq-mul_right (suc z) (omega arith) x y (omega (arith, ints, e)))
cancel (negsuc x) (negsuc y) (pos (suc z)) h e = let f = eq_of_mul-eq-mul_right (suc z) (omega arith) (suc x) (suc y) (omega (arith, ints, e)) in omega (arith, ints, f)
cancel (pos x) (negsuc y) (pos (suc z)) h e = absurd (omega (arith, ints, e))
cancel (negsuc x) (pos y) (pos (suc z)) h e = absurd (omega (arith, ints, e))
cancel x y (pos zero) h e = absurd (omega (arith, ints, h))
cancel x y (negsuc z) h e = absurd (omega (arith, ints, h))

pub record SameNumbers (p q p' q' : ℤ) : Type 0 where
  pub num : p ≡ p'
  pub den : q ≡ q'

pub lowest-unique : (p q p' q' : ℤ) → IsLowest p q → IsLowest p' q' → AreEqual p q p' q' → SameNumbers p q p' q'
lowest-unique p q p' q' h k e =
    let s = sizes p q p' q' e in
    let d = dvd_antisymm (one-way (nat_abs p) (nat_abs q) (nat_abs p') (nat_abs q') h.coprime s) (one-way (nat_abs p') (nat_abs q') (nat_abs p) (nat_abs q) k.coprime (sym s)) in
    let den = same-positive q q' h.positive k.positive d in
    record { num = cancel p p' q' k.positive (e ∙ ap (λ z. p' *ℤ z) den); den = den }

-- two quotients that equal a third are equal
pub across : (p q p' q' a b : ℤ) → pos 1 ≤ℤ b → AreEqual p q a b → AreEqual p' q' a b → AreEqual p q p' q'
across p q p' q' a b l h k = cancel (p *ℤ q') (p' *ℤ q) b l (turn p q' b ∙ ap (λ z. z *ℤ q') h ∙ turn a q q' ∙ ap (λ z. z *ℤ q) (sym k) ∙ turn p' b q)
  where
    turn : (x y z : ℤ) → (x *ℤ y) *ℤ z ≡ (x *ℤ z) *ℤ y
    turn x y z = ring ints_ring (x ∷ y ∷ z ∷ []) ((var 0 :* var 1) :* var 2) ((var 0 :* var 2) :* var 1) refl

-- ---- products
divides : (a p : ℤ) (g : ℕ) → a ≡ p *ℤ pos g → nat_abs p ∣ nat_abs a
divides a p g e = subst (λ (n : ℕ). nat_abs p ∣ n) (sym (size-times a p g e)) (dvd-mul_left (nat_abs p) g)

module _ (a b c d a' b' c' d' : ℤ) (h : IsLowest a b) (k : IsLowest c d) (r : AreReduced a d a' d') (s : AreReduced c b c' b') where
  low : IsLowest a' d'
  low = reduced-lowest a d a' d' k.positive r

  low' : IsLowest c' b'
  low' = reduced-lowest c b c' b' h.positive s

  own : IsGcd (nat_abs a') (nat_abs b') 1
  own = coprime-divisors (nat_abs a) (nat_abs b) (nat_abs a') (nat_abs b') (divides a a' r.g r.first) (divides b b' s.g s.second) h.coprime

  own' : IsGcd (nat_abs c') (nat_abs d') 1
  own' = coprime-divisors (nat_abs c) (nat_abs d) (nat_abs c') (nat_abs d') (divides c c' s.g s.first) (divides d d' r.g r.second) k.coprime

  against : (x : ℕ) → IsGcd x (nat_abs b') 1 → IsGcd x (nat_abs d') 1 → IsGcd x (nat_abs b' * nat_abs d') 1
  against x u v = coprime-swap (nat_abs b' * nat_abs d') x (coprime-mul (nat_abs b') (nat_abs d') x (coprime-swap x (nat_abs b') u) (coprime-swap x (nat_abs d') v))

  coprime : IsGcd (nat_abs a' * nat_abs c') (nat_abs b' * nat_abs d') 1
  coprime = coprime-mul (nat_abs a') (nat_abs c') (nat_abs b' * nat_abs d') (against (nat_abs a') own low.coprime) (against (nat_abs c') low'.coprime own')

  pub product-lowest : IsLowest (a' *ℤ c') (b' *ℤ d')
  product-lowest = record {
    positive = positive-mul b' d' low'.positive low.positive;
    coprime = subst (λ (n : ℕ). IsGcd n (nat_abs (b' *ℤ d')) 1) (sym (unsigned_abs-mul a' c')) (subst (λ (n : ℕ). IsGcd (nat_abs a' * nat_abs c') n 1) (sym (unsigned_abs-mul b' d')) coprime);
  }

  factors : (x y z w g m : ℤ) → (x *ℤ z) *ℤ ((y *ℤ m) *ℤ (w *ℤ g)) ≡ ((x *ℤ g) *ℤ (z *ℤ m)) *ℤ (y *ℤ w)
  factors x y z w g m =
      ring ints_ring (x ∷ y ∷ z ∷ w ∷ g ∷ m ∷ [])
      ((var 0 :* var 2) :* ((var 1 :* var 5) :* (var 3 :* var 4))) (((var 0 :* var 4) :* (var 2 :* var 5)) :* (var 1 :* var 3)) refl

  pub product-equal : AreEqual (a' *ℤ c') (b' *ℤ d') (a *ℤ c) (b *ℤ d)
  product-equal =
      ap (λ z. (a' *ℤ c') *ℤ (z *ℤ d)) s.second ∙ ap (λ z. (a' *ℤ c') *ℤ ((b' *ℤ pos s.g) *ℤ z)) r.second
      ∙ factors a' b' c' d' (pos r.g) (pos s.g)
      ∙ ap (λ z. (z *ℤ (c' *ℤ pos s.g)) *ℤ (b' *ℤ d')) (sym r.first) ∙ ap (λ z. (a *ℤ z) *ℤ (b' *ℤ d')) (sym s.first)

  denominators : pos 1 ≤ℤ (b *ℤ d)
  denominators = positive-mul b d h.positive k.positive

  pub product-needs : LowestFits (a *ℤ c) (b *ℤ d) → FitsSigned w128 (a' *ℤ c') × FitsSigned w128 (b' *ℤ d')
  product-needs f = f (a' *ℤ c') (b' *ℤ d') product-lowest product-equal

  pub product-suffices : FitsSigned w128 (a' *ℤ c') → FitsSigned w128 (b' *ℤ d') → LowestFits (a *ℤ c) (b *ℤ d)
  product-suffices u v num den l e =
      let s = lowest-unique num den (a' *ℤ c') (b' *ℤ d') l product-lowest (across num den (a' *ℤ c') (b' *ℤ d') (a *ℤ c) (b *ℤ d) denominators e product-equal) in
      (subst (λ (z : ℤ). FitsSigned w128 z) (sym s.num) u, subst (λ (z : ℤ). FitsSigned w128 z) (sym s.den) v)
