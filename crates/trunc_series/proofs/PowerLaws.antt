-- Powers add up; their keys, and those of reduced lists.
use Rattle.std.proofs.Common.{◌≡◌, ◌≢◌, ℕ, zero, suc, ◌+◌, ◌<◌, ◌≤◌, refl, sym, subst, ap, ◌∙◌, Bool, true, false, cond, not, [], ◌∷◌, ◌++◌, arith, zero-add, add-one}
use Rattle.std.specs.Prelude.{ℤ, pos, ◌*ℤ◌, nat_le}
use Rattle.std.proofs.lemmas.Int.{ints}
use Rattle.std.proofs.lemmas.List.{append-nil}
use Rattle.scattering.specs.Collections.{Every}
use Rattle.scattering.specs.Series.{Key, Term, Sum, Same, SameTo, degree, key_eq, key_mul, coef, cut, mul, pow, powers_to, one, unit, rest}
use Rattle.scattering.proofs.Keys.{key_eq-same, unit-mul}
use Rattle.scattering.proofs.DistinctKeys.{rising-own}
use Rattle.scattering.proofs.Pairing.{pairing-same}
use Rattle.scattering.proofs.Lists.{Every-append, Every-filter}
use Rattle.scattering.proofs.Coefficients.{cut-low}
use Rattle.scattering.proofs.ShiftedSums.{degree-mul}
use Rattle.trunc_series.specs.declared.arithmetic.Arithmetic.{Arithmetic}
use Rattle.trunc_series.specs.Arithmetic.{kept, IsKeepable}
use Rattle.trunc_series.specs.Shown.{HasNearTerms}
use Rattle.trunc_series.specs.Reduced.{IsKeptAs, IsFactor, IsNearKey, GrowsSlowly}
use Rattle.trunc_series.proofs.Kept.{kept-zero, kept-one, keepable-one}
use Rattle.trunc_series.proofs.Coefficients.{abs-add}
use Rattle.trunc_series.proofs.Merging.{whole}
use Rattle.trunc_series.proofs.Rows.{row_sum, reduced-same, mul-keepable}
use Rattle.trunc_series.proofs.Products.{low-mul}
use Rattle.trunc_series.proofs.Congruence.{weight, mul-weight, mul-comm, product-reduced}
use Rattle.trunc_series.proofs.Associate.{mul-assoc}

-- ---- factors with the same coefficients

pub row-above : (n : ℕ) (t : Term) (g : Sum) → n < degree t.0 → cut n (row_sum t g) ≡ []
row-above n t [] h = refl
row-above n t (u ∷ g) h =
    let e : nat_le (degree (key_mul t.0 u.0)) n ≡ false = high (degree (key_mul t.0 u.0)) (omega (arith, degree-mul t.0 u.0, h)) in
    rw e (row-above n t g h)
  where
    high : (d : ℕ) → n < d → nat_le d n ≡ false
    high d l = grind arith

-- a product depends on its factors up to the degree that is kept
pub mul-same_to : (n : ℕ) (f f' g : Sum) → SameTo n f f' → Same (mul n f g) (mul n f' g)
mul-same_to n f f' g s k =
    mul-weight n f g k ∙ pairing-same (weight n g k) n f f' s (λ x l. ap (λ r. coef r k) (row-above n (x, pos 1) g (omega (arith, l)))) ∙ sym (mul-weight n f' g k)

pub mul-same_left : (n : ℕ) (f f' g : Sum) → Same f f' → Same (mul n f g) (mul n f' g)
mul-same_left n f f' g s = mul-same_to n f f' g (λ k l. s k)

pub mul-same_right : (n : ℕ) (f g g' : Sum) → Same g g' → Same (mul n f g) (mul n f g')
mul-same_right n f g g' s k = mul-comm n f g k ∙ mul-same_left n g g' f s k ∙ mul-comm n g' f k

-- ---- 1

one-mul : (c : ℤ) → pos 1 *ℤ c ≡ c
one-mul c = omega (arith, ints)

unit-row : (g : Sum) → row_sum (unit, pos 1) g ≡ g
unit-row [] = refl
unit-row (u ∷ g) = let e = unit-mul u.0 in let c = one-mul u.1 in let r = unit-row g in λ i. (e i, c i) ∷ r i

pub one-mul_cut : (n : ℕ) (g : Sum) → mul n one g ≡ cut n g
one-mul_cut n g = append-nil (cut n (row_sum (unit, pos 1) g)) ∙ ap (cut n) (unit-row g)

pub mul-one : (n : ℕ) (g : Sum) → Every (λ t. degree t.0 ≤ n) g → mul n one g ≡ g
mul-one n g h = one-mul_cut n g ∙ cut-low n g h

-- ---- powers

pub pow-low : (n : ℕ) (f : Sum) (i : ℕ) → Every (λ t. degree t.0 ≤ n) (pow n f i)
pow-low n f zero = (omega arith, tt)
pow-low n f (suc i) = low-mul n f (pow n f i)

pub pow-add : (n : ℕ) (f : Sum) (i j : ℕ) → Same (mul n (pow n f i) (pow n f j)) (pow n f (i + j))
pow-add n f zero j k = ap (λ r. coef r k) (mul-one n (pow n f j) (pow-low n f j)) ∙ ap (λ (l : ℕ). coef (pow n f l) k) (sym (zero-add j))
pow-add n f (suc i) j k =
    let e : suc i + j ≡ suc (i + j) = omega arith in
    mul-assoc n f (pow n f i) (pow n f j) k ∙ mul-same_right n f (mul n (pow n f i) (pow n f j)) (pow n f (i + j)) (pow-add n f i j) k
    ∙ ap (λ (l : ℕ). coef (pow n f l) k) (sym e)

-- ---- keys

pub mul-every : (P Q R : Key → Type 0) → ((k l : Key) → P k → Q l → R (key_mul k l)) → (n : ℕ) (f g : Sum) → Every (λ t. P t.0) f → Every (λ t. Q t.0) g → Every (λ t. R t.0) (mul n f g)
mul-every P Q R c n [] g h k = tt
mul-every P Q R c n (t ∷ f) g h k = Every-append (λ u. R u.0) (cut n (row_sum t g)) (mul n f g) (Every-filter (λ u. R u.0) (λ u. nat_le (degree u.0) n) (row_sum t g) (row g k)) (mul-every P Q R c n f g h.1 k)
  where
    row : (g : Sum) → Every (λ u. Q u.0) g → Every (λ u. R u.0) (row_sum t g)
    row [] e = tt
    row (u ∷ g) e = (c t.0 u.0 h.0 e.0, row g e.1)

pub tame-mul : (k l : Key) → GrowsSlowly k → GrowsSlowly l → GrowsSlowly (key_mul k l)
tame-mul k l h i =
    let p = h.0 in let q = h.1 in let r = i.0 in let s = i.1 in
    let d = degree-mul k l in
    let a = abs-add k.exp.a l.exp.a in
    let b = abs-add k.exp.b l.exp.b in
    (rw d (omega (arith, a)), rw d (omega (arith, b)))

pub pow-tame : (n : ℕ) (f : Sum) (i : ℕ) → Every (λ t. GrowsSlowly t.0) f → Every (λ t. GrowsSlowly t.0) (pow n f i)
pow-tame n f zero h = ((omega arith, omega arith), tt)
pow-tame n f (suc i) h = mul-every GrowsSlowly GrowsSlowly GrowsSlowly tame-mul n f (pow n f i) h (pow-tame n f i h)

pub rest-tame : (f : Sum) → HasNearTerms f → Every (λ t. 1 ≤ degree t.0) (rest f) → Every (λ t. GrowsSlowly t.0) f
rest-tame [] h r = tt
rest-tame (t ∷ f) h r = go (key_eq t.0 unit) refl r (rest-tame f h.1)
  where
    go : (b : Bool) → key_eq t.0 unit ≡ b → Every (λ t. 1 ≤ degree t.0) (cond (not b) (t ∷ rest f) (rest f)) → (Every (λ t. 1 ≤ degree t.0) (rest f) → Every (λ t. GrowsSlowly t.0) f) → Every (λ t. GrowsSlowly t.0) (t ∷ f)
    go true e s i = (subst GrowsSlowly (sym (key_eq-same t.0 unit e)) (omega arith, omega arith), i s)
    go false e s i = let d = s.0 in let p = h.0.0 in let q = h.0.1 in ((omega (arith, d), omega (arith, d)), i s.1)

pub key-from : (P : Key → Type 0) (f : Sum) (k : Key) → Every (λ t. P t.0) f → coef f k ≢ pos 0 → P k
key-from P [] k h n = absurd (n refl)
key-from P (t ∷ f) k h n = go (key_eq t.0 k) refl (key-from P f k h.1)
  where
    go : (b : Bool) → key_eq t.0 k ≡ b → (coef f k ≢ pos 0 → P k) → P k
    go true e i = subst P (key_eq-same t.0 k e) h.0
    go false e i = i (λ z. n (rw (e, z) refl))

-- a reduced list has only keys of the sum
pub reduced-keys : (rule : Arithmetic) (P : Key → Type 0) (n : ℕ) (r f : Sum) → IsKeptAs rule n r f → Every (λ t. P t.0) f → Every (λ t. P t.0) r
reduced-keys rule P n r f h e = go r (rising-own r h.series.rises) h.series.nonzero h.keeps
  where
    go : (g : Sum) → Every (λ t. coef r t.0 ≡ t.1) g → Every (λ t. t.1 ≢ pos 0) g → Every (λ t. (kept rule t.1 ≡ t.1) × IsKeepable rule t.1) g → Every (λ t. P t.0) g
    go [] o z k = tt
    go (t ∷ g) o z k = (key-from P f t.0 e (λ q. z.0 (sym k.0.0 ∙ ap (kept rule) (sym o.0) ∙ h.same t.0 ∙ ap (kept rule) q ∙ kept-zero rule)), go g o.1 z.1 k.1)

pub near-factor : (rule : Arithmetic) (n : ℕ) (r f : Sum) → IsKeptAs rule n r f → Every (λ t. IsNearKey t.0) f → IsFactor rule r
near-factor rule n r f h e = record {
  rises = h.series.rises;
  keepable = whole rule r h.keeps;
  near = reduced-keys rule IsNearKey n r f h e;
}

-- ---- the steps of a power

module _ (rule : Arithmetic) (n : ℕ) (f : Sum) (hf : Every (λ t. IsKeepable rule t.1) f) where
  pub pow-keepable : (i : ℕ) → Every (λ t. IsKeepable rule t.1) (pow n f i)
  pow-keepable zero = (keepable-one rule, tt)
  pow-keepable (suc i) = mul-keepable rule n f (pow n f i) hf (pow-keepable i)

  pub pow-square : (i : ℕ) (r s : Sum) → IsKeptAs rule n r (pow n f i) → IsKeptAs rule n s (mul n r r) → IsKeptAs rule n s (pow n f (i + i))
  pow-square i r s h k = reduced-same rule n s _ (pow n f (i + i)) (product-reduced rule n s r r (pow n f i) (pow n f i) h h k) (pow-keepable (i + i)) (pow-add n f i i)

  pub pow-more : (i : ℕ) (a r s : Sum) → IsKeptAs rule n a f → IsKeptAs rule n r (pow n f i) → IsKeptAs rule n s (mul n a r) → IsKeptAs rule n s (pow n f (i + 1))
  pow-more i a r s h k l = rw add-one (product-reduced rule n s a r f (pow n f i) h k l)

  pub sum-more : (i : ℕ) (r s p : Sum) → IsKeptAs rule n r (powers_to n f i) → IsKeptAs rule n s (pow n f (i + 1))
      → ((m : ℕ) (u v : Sum) → IsKeptAs rule m r u → IsKeptAs rule m s v → IsKeptAs rule m p (u ++ v)) → IsKeptAs rule n p (powers_to n f (i + 1))
  sum-more i r s p h k m = rw add-one (m n (powers_to n f i) (pow n f (suc i)) h (rw add-one at k))

pub powers-tame : (n : ℕ) (f : Sum) (i : ℕ) → Every (λ t. GrowsSlowly t.0) f → Every (λ t. GrowsSlowly t.0) (powers_to n f i)
powers-tame n f zero h = ((omega arith, omega arith), tt)
powers-tame n f (suc i) h = Every-append (λ t. GrowsSlowly t.0) (powers_to n f i) (pow n f (suc i)) (powers-tame n f i h) (pow-tame n f (suc i) h)

pub one-reduced : (rule : Arithmetic) (n : ℕ) → IsKeptAs rule n one one
one-reduced rule n = record {
  series = record { rises = (tt, tt); nonzero = (λ e. cc, tt); low = (omega arith, tt) };
  keeps = ((kept-one rule, keepable-one rule), tt);
  keepable = (keepable-one rule, tt);
  same = λ k. refl;
}
