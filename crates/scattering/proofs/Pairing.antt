-- What is read of a sum term by term depends on its coefficients alone.
use Rattle.std.proofs.Common.{◌≡◌, ℕ, zero, suc, refl, sym, ap, ◌∙◌, ◌≤◌, Bool, true, false, cond, not, [], ◌∷◌, ◌++◌, length, arith}
use Rattle.std.specs.Prelude.{ℤ, pos, ◌+ℤ◌, ◌*ℤ◌, neg_ℤ, filter}
use Rattle.std.proofs.lemmas.Int.{ints}
use Rattle.scattering.specs.Series.{Key, Sum, key_eq, coef, minus, SameTo, degree}
use native.Mathlib.Decide.{dec_le}
use Rattle.scattering.proofs.Ring.{dif-up, dif-pos, dif-add, dif-neg, dif-mul, dif-same}
use Rattle.scattering.proofs.Keys.{key_eq-same, key_eq-refl}
use Rattle.sum_algebra.proofs.Integers.{neg-mul}
use Rattle.sum_algebra.proofs.Sums.{pair}

-- the sum of c·φ(key) over the terms
abbrev pub pairing : (Key → ℤ) → Sum → ℤ
pairing φ [] = pos 0
pairing φ (t ∷ f) = t.1 *ℤ φ t.0 +ℤ pairing φ f

-- it is that of sums of any keys
pub pairing-is_pair : (φ : Key → ℤ) (f : Sum) → pairing φ f ≡ pair φ f
pairing-is_pair φ [] = refl
pairing-is_pair φ (t ∷ f) = ap (λ r. t.1 *ℤ φ t.0 +ℤ r) (pairing-is_pair φ f)

abbrev pub without : Key → Sum → Sum
without x f = filter (λ t. not (key_eq t.0 x)) f

gather : (c d p r : ℤ) → c *ℤ p +ℤ (d *ℤ p +ℤ r) ≡ (c +ℤ d) *ℤ p +ℤ r
gather c d p r = rw (dif-up c, dif-up d, dif-up p, dif-up r) (simp (dif-mul, dif-add, dif-neg) (dif-same _ _ _ _ (omega arith)))

skip : (d p r s : ℤ) → s +ℤ (d *ℤ p +ℤ r) ≡ (pos 0 +ℤ d) *ℤ p +ℤ (s +ℤ r)
skip d p r s = rw (dif-up s, dif-up d, dif-up p, dif-up r) (simp (dif-mul, dif-add, dif-neg, dif-pos) (dif-same _ _ _ _ (omega arith)))

-- the terms of one key can be taken out
pub pairing-split : (φ : Key → ℤ) (x : Key) (f : Sum) → pairing φ f ≡ coef f x *ℤ φ x +ℤ pairing φ (without x f)
pairing-split φ x [] = let e : pos 0 ≡ pos 0 *ℤ φ x +ℤ pos 0 = omega (arith, ints) in e
pairing-split φ x (t ∷ f) = go (key_eq t.0 x) refl (pairing-split φ x f)
  where
    go : (b : Bool) → key_eq t.0 x ≡ b → pairing φ f ≡ coef f x *ℤ φ x +ℤ pairing φ (without x f) → pairing φ (t ∷ f) ≡ coef (t ∷ f) x *ℤ φ x +ℤ pairing φ (without x (t ∷ f))
    go true e h = rw e (rw (key_eq-same t.0 x e, h) (gather t.1 (coef f x) (φ x) (pairing φ (without x f))))
    go false e h = rw e (ap (λ r. t.1 *ℤ φ t.0 +ℤ r) h ∙ skip (coef f x) (φ x) (pairing φ (without x f)) (t.1 *ℤ φ t.0))

-- and what is left has the other coefficients
pub skip-zero : (d : ℤ) → pos 0 +ℤ d ≡ d
skip-zero d = omega (arith, ints)

pub coef-without : (x y : Key) (f : Sum) → coef (without x f) y ≡ cond (key_eq x y) (pos 0) (coef f y)
coef-without x y [] = go (key_eq x y)
  where
    go : (b : Bool) → pos 0 ≡ cond b (pos 0) (pos 0)
    go true = refl
    go false = refl
coef-without x y (t ∷ f) = go (key_eq t.0 x) (key_eq x y) (key_eq t.0 y) refl refl refl (coef-without x y f)
  where
    go : (a b c : Bool) → key_eq t.0 x ≡ a → key_eq x y ≡ b → key_eq t.0 y ≡ c → coef (without x f) y ≡ cond (key_eq x y) (pos 0) (coef f y) → coef (without x (t ∷ f)) y ≡ cond (key_eq x y) (pos 0) (coef (t ∷ f) y)
    go true true c e p q h = rw (e, p) (h ∙ rw p refl)
    go true false true e p q h = let r : key_eq x y ≡ true = rw (key_eq-same t.0 x e) at q in absurd (cc)
    go true false false e p q h = rw (e, p, q) (h ∙ rw p (sym (skip-zero (coef f y))))
    go false true true e p q h = let r : key_eq t.0 x ≡ true = rw (← key_eq-same x y p) at q in absurd (cc)
    go false true false e p q h = rw (e, p) (rw q (rw (h, p) refl))
    go false false c e p q h = rw (e, p) (rw (h, p) refl)

pub length-without : (x : Key) (f : Sum) → length (without x f) ≤ length f
length-without x [] = omega arith
length-without x (t ∷ f) = go (key_eq t.0 x) refl (length-without x f)
  where
    go : (b : Bool) → key_eq t.0 x ≡ b → length (without x f) ≤ length f → length (without x (t ∷ f)) ≤ length (t ∷ f)
    go true e h = rw e (omega (arith, h))
    go false e h = rw e (omega (arith, h))

pair-zero : (c p r : ℤ) → c *ℤ p ≡ pos 0 → c *ℤ p +ℤ r ≡ r
pair-zero c p r e = rw e (skip-zero r)

-- a sum whose coefficients count for nothing is read as 0
pub pairing-zero : (φ : Key → ℤ) (n : ℕ) (f : Sum) → length f ≤ n → ((x : Key) → coef f x *ℤ φ x ≡ pos 0) → pairing φ f ≡ pos 0
pairing-zero φ n [] le h = refl
pairing-zero φ zero (t ∷ f) le h = absurd (omega arith)
pairing-zero φ (suc n) (t ∷ f) le h =
    pairing-split φ t.0 (t ∷ f) ∙ pair-zero (coef (t ∷ f) t.0) (φ t.0) (pairing φ (without t.0 (t ∷ f))) (h t.0)
    ∙ rw key_eq-refl (pairing-zero φ n (without t.0 f) (let l = length-without t.0 f in omega arith) left)
  where
    left : (x : Key) → coef (without t.0 f) x *ℤ φ x ≡ pos 0
    left x = go (key_eq t.0 x) refl (h x)
      where
        go : (b : Bool) → key_eq t.0 x ≡ b → coef (t ∷ f) x *ℤ φ x ≡ pos 0 → coef (without t.0 f) x *ℤ φ x ≡ pos 0
        go true e h = rw (coef-without t.0 x f, e) (let r : pos 0 *ℤ φ x ≡ pos 0 = omega (arith, ints) in r)
        go false e h = rw (coef-without t.0 x f, e) ((rw (e, skip-zero (coef f x)) at h))

pub pairing-append : (φ : Key → ℤ) (f g : Sum) → pairing φ (f ++ g) ≡ pairing φ f +ℤ pairing φ g
pairing-append φ [] g = sym (skip-zero (pairing φ g))
pairing-append φ (t ∷ f) g = rw (pairing-append φ f g) (omega (arith, ints))

pub coef-append : (f g : Sum) (x : Key) → coef (f ++ g) x ≡ coef f x +ℤ coef g x
coef-append [] g x = sym (skip-zero (coef g x))
coef-append (t ∷ f) g x = rw (coef-append f g x) (omega (arith, ints))

neg-sum : (c d : ℤ) → neg_ℤ c +ℤ neg_ℤ d ≡ neg_ℤ (c +ℤ d)
neg-sum c d = omega (arith, ints)

pub pairing-minus : (φ : Key → ℤ) (f : Sum) → pairing φ (minus f) ≡ neg_ℤ (pairing φ f)
pairing-minus φ [] = refl
pairing-minus φ (t ∷ f) = rw (pairing-minus φ f, neg-mul t.1 (φ t.0)) (omega (arith, ints))

pub coef-minus : (f : Sum) (x : Key) → coef (minus f) x ≡ neg_ℤ (coef f x)
coef-minus [] x = refl
coef-minus (t ∷ f) x = go (key_eq t.0 x) refl (coef-minus f x)
  where
    go : (b : Bool) → key_eq t.0 x ≡ b → coef (minus f) x ≡ neg_ℤ (coef f x) → coef (minus (t ∷ f)) x ≡ neg_ℤ (coef (t ∷ f) x)
    go true e h = rw (e, h) (neg-sum t.1 (coef f x))
    go false e h = rw (e, h) (neg-sum (pos 0) (coef f x))

same-difference : (a b p : ℤ) → a ≡ b → (a +ℤ neg_ℤ b) *ℤ p ≡ pos 0
same-difference a b p e = rw (e, dif-up b, dif-up p) (simp (dif-mul, dif-add, dif-neg, dif-pos) (dif-same _ _ _ _ (omega arith)))

-- what is read of sums that are the same to degree k is the same, where keys above k are read as 0
pub pairing-same : (φ : Key → ℤ) (k : ℕ) (f g : Sum) → SameTo k f g → ((x : Key) → suc k ≤ degree x → φ x ≡ pos 0) → pairing φ f ≡ pairing φ g
pairing-same φ k f g same high =
    let zero-sum : pairing φ (f ++ minus g) ≡ pos 0 = pairing-zero φ (length (f ++ minus g)) (f ++ minus g) (omega arith) each in
    let parts = pairing-append φ f (minus g) in
    let neg = pairing-minus φ g in
    omega (arith, ints, zero-sum, parts, neg)
  where
    each : (x : Key) → coef (f ++ minus g) x *ℤ φ x ≡ pos 0
    each x = elim (dec_le (degree x) k) [
      | yes low ↦ rw (coef-append f (minus g) x, coef-minus g x) (same-difference (coef f x) (coef g x) (φ x) (same x low))
      | no above ↦ rw (high x (omega (arith, above))) (let r : coef (f ++ minus g) x *ℤ pos 0 ≡ pos 0 = omega (arith, ints) in r)
    ]
