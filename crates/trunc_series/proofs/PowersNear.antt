-- The exponents of the powers of a sum, as far as they are formed on the way to the highest.
--     tame-powers            where no exponent grows faster than the degree
--     near-powers            where coefficients are at least 0, and the highest power has small exponents. A term of
--                            degree 0 has its own highest power there, so its exponent is small by as much.
use Rattle.std.proofs.Common.{◌≡◌, ◌≢◌, ℕ, zero, suc, ◌+◌, ◌*◌, ◌/◌, ◌≤◌, ◌^◌, refl, sym, subst, ap, ◌∙◌, Bool, true, false, cond, [], ◌∷◌, ◌⊎◌, inl, inr, arith}
use Rattle.std.specs.Prelude.{ℤ, pos, negsuc, neg_ℤ, ◌+ℤ◌, ◌*ℤ◌, ◌≤ℤ◌, nat_le, nat_abs}
use Rattle.std.proofs.Math.Nat.{le_trans, mul_comm, zero-mul, mul-div-le, mul-le-mul_right}
use Rattle.std.proofs.lemmas.Nat.{le-div}
use Rattle.std.proofs.lemmas.Int.{ints}
use Rattle.std.proofs.lemmas.Bool.{le-leb}
use Rattle.scattering.proofs.Lists.{Every-filter}
use Rattle.scattering.specs.Collections.{Every}
use Rattle.scattering.specs.Series.{Key, Term, Sum, degree, key_eq, key_mul, coef, coef_at, cut, term_mul, mul, pow, unit}
use Rattle.scattering.proofs.Keys.{key_eq-same, key_eq-refl}
use Rattle.trunc_series.specs.declared.arithmetic.Arithmetic.TheVariants.{Saturating}
use Rattle.trunc_series.specs.Shown.{HasNearTerms, HasNearKeys}
use Rattle.trunc_series.specs.Capped.{IsMajorant}
use Rattle.trunc_series.specs.Reduced.{IsNearKey, GrowsSlowly, ArePowersNear}
use Rattle.trunc_series.proofs.Coefficients.{abs-add, keepable-at, keepable-coef}
use Rattle.trunc_series.proofs.Kept.{keepable-mul}
use Rattle.trunc_series.proofs.Majorants.{majorant-keepable}
use Rattle.trunc_series.proofs.Merging.{Keepable}
use Rattle.trunc_series.proofs.Rows.{row_sum, sum-keepable, mul-keepable}
use Rattle.scattering.proofs.DistinctKeys.{rising-own}
use Rattle.scattering.proofs.Pairing.{coef-append}
use Rattle.scattering.proofs.ShiftedSums.{degree-mul}
use Rattle.trunc_series.proofs.PowerLaws.{pow-low, pow-tame, pow-keepable, mul-every}
use Rattle.sum_algebra.proofs.Integers.{positive-mul}

-- ---- exponents that grow no faster than the degree

pub tame-near : (n : ℕ) (f : Sum) → n ≤ 24 → Every (λ t. GrowsSlowly t.0) f → Every (λ t. degree t.0 ≤ n) f → Every (λ t. IsNearKey t.0) f
tame-near n [] o h l = tt
tame-near n (t ∷ f) o h l = let p = h.0.0 in let q = h.0.1 in let d = l.0 in ((omega (arith, p, d), omega (arith, q, d)), tame-near n f o h.1 l.1)

pub tame-powers : (n : ℕ) (f : Sum) (m : ℕ) → n ≤ 24 → Every (λ t. GrowsSlowly t.0) f → ArePowersNear n f m
tame-powers n f m o h i l = tame-near n (pow n f i) o (pow-tame n f i h) (pow-low n f i)

-- ---- a term of degree 0 and its powers

-- the i-th power of a key
abbrev key_pow : ℕ → Key → Key
key_pow zero k = unit
key_pow (suc i) k = key_mul k (key_pow i k)

degree-pow : (i : ℕ) (k : Key) → degree k ≡ 0 → degree (key_pow i k) ≡ 0
degree-pow zero k e = refl
degree-pow (suc i) k e = degree-mul k (key_pow i k) ∙ rw (e, degree-pow i k e) refl

at-own : (t : Term) (k : Key) → key_eq t.0 k ≡ true → coef_at k t ≡ t.1
at-own t k e = rw e refl

-- one of the two is positive
which : (b : Bool) (c x : ℤ) → pos 0 ≤ℤ c → pos 0 ≤ℤ x → pos 1 ≤ℤ (cond b c (pos 0) +ℤ x) → ((b ≡ true) × (pos 1 ≤ℤ c)) ⊎ (pos 1 ≤ℤ x)
which true (pos (suc c)) x p q h = inl (refl, omega (arith, ints))
which true (pos zero) x p q h = inr (omega (arith, ints))
which true (negsuc c) x p q h = absurd (below c p)
  where
    below : (c : ℕ) → pos 0 ≤ℤ negsuc c → ⊥
    below c p = omega (arith, ints)
which false c x p q h = inr (omega (arith, ints))

-- the sum of the coefficients at a key is that of one term at least
more-left : (x y : ℤ) → pos 1 ≤ℤ x → pos 0 ≤ℤ y → pos 1 ≤ℤ (x +ℤ y)
more-left x y h k = omega (arith, ints)

more-right : (x y : ℤ) → pos 0 ≤ℤ x → pos 1 ≤ℤ y → pos 1 ≤ℤ (x +ℤ y)
more-right x y h k = omega (arith, ints)

row-keepable : (n : ℕ) (t : Term) (g : Sum) (k : Key) → pos 0 ≤ℤ t.1 → Keepable Saturating g → pos 0 ≤ℤ coef (cut n (row_sum t g)) k
row-keepable n t g k h i = keepable-coef Saturating (cut n (row_sum t g)) k (Every-filter (λ u. pos 0 ≤ℤ u.1) (λ u. nat_le (degree u.0) n) (row_sum t g) (sum-keepable Saturating t g h i))

row-has : (n : ℕ) (t : Term) (g : Sum) (l : Key) → pos 1 ≤ℤ t.1 → Keepable Saturating g → degree t.0 + degree l ≤ n → pos 1 ≤ℤ coef g l → pos 1 ≤ℤ coef (cut n (row_sum t g)) (key_mul t.0 l)
row-has n t [] l p h d k = let q : pos 1 ≤ℤ pos 0 = k in omega (arith, ints)
row-has n t (u ∷ g) l p h d k = go (which (key_eq u.0 l) u.1 (coef g l) h.0 (keepable-coef Saturating g l h.1) k) (row-has n t g l p h.1 d)
  where
    zero-row : pos 0 ≤ℤ coef (cut n (row_sum t g)) (key_mul t.0 l)
    zero-row = row-keepable n t g (key_mul t.0 l) (omega (arith, ints, p)) h.1

    later : (b : Bool) → pos 1 ≤ℤ coef (cut n (row_sum t g)) (key_mul t.0 l) → pos 1 ≤ℤ coef (cond b (term_mul t u ∷ cut n (row_sum t g)) (cut n (row_sum t g))) (key_mul t.0 l)
    later true i = more-right _ _ (keepable-at Saturating (key_mul t.0 l) (term_mul t u) (keepable-mul Saturating t.1 u.1 (omega (arith, ints, p)) h.0)) i
    later false i = i

    go : ((key_eq u.0 l ≡ true) × (pos 1 ≤ℤ u.1)) ⊎ (pos 1 ≤ℤ coef g l) → (pos 1 ≤ℤ coef g l → pos 1 ≤ℤ coef (cut n (row_sum t g)) (key_mul t.0 l)) → pos 1 ≤ℤ coef (cut n (row_sum t (u ∷ g))) (key_mul t.0 l)
    go (inl e) r =
        let same = key_eq-same u.0 l e.0 in
        let low : nat_le (degree (key_mul t.0 u.0)) n ≡ true = le-leb _ n (omega (arith, degree-mul t.0 u.0, ap degree same, d)) in
        let own : key_eq (key_mul t.0 u.0) (key_mul t.0 l) ≡ true = subst (λ (v : Key). key_eq (key_mul t.0 u.0) (key_mul t.0 v) ≡ true) same (key_eq-refl (key_mul t.0 u.0)) in
        rw (low, own) (more-left (t.1 *ℤ u.1) _ (positive-mul t.1 u.1 p e.1) zero-row)
    go (inr i) r = later (nat_le (degree (key_mul t.0 u.0)) n) (r i)

mul-has : (n : ℕ) (f g : Sum) (k l : Key) → Keepable Saturating f → Keepable Saturating g → degree k + degree l ≤ n → pos 1 ≤ℤ coef f k → pos 1 ≤ℤ coef g l → pos 1 ≤ℤ coef (mul n f g) (key_mul k l)
mul-has n [] g k l h i d p q = let r : pos 1 ≤ℤ pos 0 = p in omega (arith, ints)
mul-has n (t ∷ f) g k l h i d p q = rw (coef-append (cut n (row_sum t g)) (mul n f g) (key_mul k l)) (go (which (key_eq t.0 k) t.1 (coef f k) h.0 (keepable-coef Saturating f k h.1) p) (λ j. mul-has n f g k l h.1 i d j q))
  where
    go : ((key_eq t.0 k ≡ true) × (pos 1 ≤ℤ t.1)) ⊎ (pos 1 ≤ℤ coef f k) → (pos 1 ≤ℤ coef f k → pos 1 ≤ℤ coef (mul n f g) (key_mul k l)) → pos 1 ≤ℤ (coef (cut n (row_sum t g)) (key_mul k l) +ℤ coef (mul n f g) (key_mul k l))
    go (inl e) r =
        let same = key_eq-same t.0 k e.0 in
        let row = row-has n t g l e.1 i (omega (arith, ap degree same, d)) q in
        more-left _ _ (subst (λ (v : Key). pos 1 ≤ℤ coef (cut n (row_sum t g)) (key_mul v l)) same row) (keepable-coef Saturating (mul n f g) (key_mul k l) (mul-keepable Saturating n f g h.1 i))
    go (inr j) r = more-right _ _ (row-keepable n t g (key_mul k l) h.0 i) (r j)

pow-has : (n : ℕ) (f : Sum) (k : Key) → Keepable Saturating f → degree k ≡ 0 → pos 1 ≤ℤ coef f k → (i : ℕ) → pos 1 ≤ℤ coef (pow n f i) (key_pow i k)
pow-has n f k h e p zero = omega (arith, ints)
pow-has n f k h e p (suc i) = mul-has n f (pow n f i) k (key_pow i k) h (pow-keepable Saturating n f h i) (rw (e, degree-pow i k e) (omega arith)) p (pow-has n f k h e p i)

-- ---- the exponent of a key's power

abbrev times : ℕ → ℤ → ℤ
times zero x = pos 0
times (suc i) x = x +ℤ times i x

mul-suc : (i a : ℕ) → suc i * a ≡ a + i * a
mul-suc i a = grind arith

times-pos : (i a : ℕ) → times i (pos a) ≡ pos (i * a)
times-pos zero a = sym (ap pos (zero-mul a))
times-pos (suc i) a = rw (times-pos i a, mul-suc i a) refl

times-neg : (i a : ℕ) → times i (neg_ℤ (pos a)) ≡ neg_ℤ (pos (i * a))
times-neg zero a = sym (ap (λ x. neg_ℤ (pos x)) (zero-mul a))
times-neg (suc i) a = rw (times-neg i a, mul-suc i a) (add-neg a (i * a))
  where
    add-neg : (x y : ℕ) → neg_ℤ (pos x) +ℤ neg_ℤ (pos y) ≡ neg_ℤ (pos (x + y))
    add-neg x y = omega (arith, ints)

abs-times : (i : ℕ) (x : ℤ) → nat_abs (times i x) ≡ i * nat_abs x
abs-times i (pos a) = ap nat_abs (times-pos i a)
abs-times i (negsuc a) = ap nat_abs (times-neg i (suc a)) ∙ abs-neg (i * suc a)
  where
    abs-neg : (y : ℕ) → nat_abs (neg_ℤ (pos y)) ≡ y
    abs-neg y = omega (arith, ints)

pow-exp_a : (i : ℕ) (k : Key) → (key_pow i k).exp.a ≡ times i k.exp.a
pow-exp_a zero k = refl
pow-exp_a (suc i) k = ap (λ x. k.exp.a +ℤ x) (pow-exp_a i k)

pow-exp_b : (i : ℕ) (k : Key) → (key_pow i k).exp.b ≡ times i k.exp.b
pow-exp_b zero k = refl
pow-exp_b (suc i) k = ap (λ x. k.exp.b +ℤ x) (pow-exp_b i k)

-- ---- the powers on the way to the highest

-- an exponent within 2^16 for each degree, and c
abbrev IsWithin : ℕ → Key → Type 0
IsWithin c k = (nat_abs k.exp.a ≤ degree k * 2 ^ 16 + c) × (nat_abs k.exp.b ≤ degree k * 2 ^ 16 + c)

within-mul : (c d : ℕ) (k l : Key) → IsWithin c k → IsWithin d l → IsWithin (c + d) (key_mul k l)
within-mul c d k l h i =
    let p = h.0 in let q = h.1 in let r = i.0 in let s = i.1 in
    let e = degree-mul k l in
    let a = abs-add k.exp.a l.exp.a in
    let b = abs-add k.exp.b l.exp.b in
    (rw e (omega (arith, a)), rw e (omega (arith, b)))

module _ (n : ℕ) (f : Sum) (c : ℕ) (h : Every (λ t. IsWithin c t.0) f) where
  pow-within : (i : ℕ) → Every (λ t. IsWithin (i * c) t.0) (pow n f i)
  pow-within zero = ((omega arith, omega arith), tt)
  pow-within (suc i) = rw (mul-suc i c) (mul-every (IsWithin c) (IsWithin (i * c)) (IsWithin (c + i * c)) (within-mul c (i * c)) n f (pow n f i) h (pow-within i))

within-near : (n c : ℕ) (f : Sum) → n ≤ 24 → c ≤ 2 ^ 16 → Every (λ t. IsWithin c t.0) f → Every (λ t. degree t.0 ≤ n) f → Every (λ t. IsNearKey t.0) f
within-near n c [] o b h l = tt
within-near n c (t ∷ f) o b h l = let p = h.0.0 in let q = h.0.1 in let d = l.0 in ((omega (arith, p, d), omega (arith, q, d)), within-near n c f o b h.1 l.1)

module _ (n : ℕ) (f : Sum) (m : ℕ) (o : n ≤ 24) (s : IsMajorant n f) (w : HasNearTerms f) (r : HasNearKeys (pow n f (suc m))) where
  -- the largest exponent that the highest power has room for
  abbrev room : ℕ
  room = 2 ^ 16 / suc m

  times-room : (i : ℕ) → i ≤ suc m → i * room ≤ 2 ^ 16
  times-room i l = le_trans (mul-le-mul_right room l) (mul-div-le (2 ^ 16) (suc m))

  room-for : (x : ℤ) → nat_abs (times (suc m) x) ≤ 2 ^ 16 → nat_abs x ≤ room
  room-for x h = le-div (nat_abs x) (2 ^ 16) (suc m) (omega arith) (subst (λ (y : ℕ). y ≤ 2 ^ 16) (abs-times (suc m) x ∙ mul_comm (suc m) (nat_abs x)) h)

  constant-within : (k : Key) → degree k ≡ 0 → pos 1 ≤ℤ coef f k → IsWithin room k
  constant-within k e p =
      let has : pos 1 ≤ℤ coef (pow n f (suc m)) (key_pow (suc m) k) = pow-has n f k (majorant-keepable n f s) e p (suc m) in
      let near = r (key_pow (suc m) k) (not-zero _ has) in
      let a = room-for k.exp.a (subst (λ (y : ℤ). nat_abs y ≤ 2 ^ 16) (pow-exp_a (suc m) k) near.0) in
      let b = room-for k.exp.b (subst (λ (y : ℤ). nat_abs y ≤ 2 ^ 16) (pow-exp_b (suc m) k) near.1) in
      (omega (arith, a), omega (arith, b))
    where
      not-zero : (x : ℤ) → pos 1 ≤ℤ x → x ≢ pos 0
      not-zero x h e = omega (arith, ints)

  term-within : (t : Term) → (nat_abs t.0.exp.a ≤ 2 ^ 16) × (nat_abs t.0.exp.b ≤ 2 ^ 16) → coef f t.0 ≡ t.1 → t.1 ≢ pos 0 → pos 0 ≤ℤ t.1 → IsWithin room t.0
  term-within t near own nonzero positive = go (degree t.0) refl
    where
      go : (d : ℕ) → degree t.0 ≡ d → IsWithin room t.0
      go zero e = constant-within t.0 e (rw own (omega (arith, ints)))
      go (suc d) e = let a = near.0 in let b = near.1 in (rw e (omega (arith, a)), rw e (omega (arith, b)))

  all-within : (g : Sum) → HasNearTerms g → Every (λ t. coef f t.0 ≡ t.1) g → Every (λ t. t.1 ≢ pos 0) g → Keepable Saturating g → Every (λ t. IsWithin room t.0) g
  all-within [] a b c d = tt
  all-within (t ∷ g) a b c d = (term-within t a.0 b.0 c.0 d.0, all-within g a.1 b.1 c.1 d.1)

  some-powers : ArePowersNear n f (suc m)
  some-powers i l =
      within-near n (i * room) (pow n f i) o (times-room i l)
      (pow-within n f room (all-within f w (rising-own f s.series.rises) s.series.nonzero (majorant-keepable n f s)) i) (pow-low n f i)

pub near-powers : (n : ℕ) (f : Sum) (m : ℕ) → n ≤ 24 → IsMajorant n f → HasNearTerms f → HasNearKeys (pow n f m) → ArePowersNear n f m
near-powers n f zero o s w r zero l = ((omega arith, omega arith), tt)
near-powers n f zero o s w r (suc i) l = absurd (no i l)
  where
    no : (i : ℕ) → suc i ≤ 0 → ⊥
    no i l = omega arith
near-powers n f (suc m) o s w r i l = some-powers n f m o s w r i l
