-- What is kept of a product's coefficients depends on what is kept of its factors' alone.
use Rattle.std.proofs.Common.{◌≡◌, ℕ, zero, suc, ◌+◌, ◌≤◌, refl, sym, ap, ◌∙◌, Bool, true, false, cond, not, [], ◌∷◌, length, arith, add_comm}
use Rattle.std.specs.Prelude.{ℤ, pos, ◌+ℤ◌, ◌*ℤ◌, nat_le}
use Rattle.std.proofs.lemmas.Int.{ints}
use lib.IntN.{*ℤ_comm, +ℤ_comm}
use Rattle.sum_algebra.proofs.Ring.{ring, nought, unit as one_of}
use Rattle.sum_algebra.proofs.IntegerRing.{ints_ring, ◌:+◌, ◌:*◌, X, Y, Z}
use Rattle.scattering.proofs.Lists.{Every-filter}
use Rattle.scattering.specs.Series.{Key, Term, Sum, degree, key_eq, key_mul, term_mul, coef, coef_at, cut, mul}
use Rattle.scattering.proofs.Keys.{key_eq-refl}
use Rattle.scattering.proofs.Pairing.{pairing, pairing-split, without, coef-without, length-without, coef-append, skip-zero}
use Rattle.trunc_series.specs.declared.arithmetic.Arithmetic.{Arithmetic}
use Rattle.trunc_series.specs.Arithmetic.{kept, IsKeepable}
use Rattle.trunc_series.specs.Reduced.{IsKeptAs}
use Rattle.trunc_series.proofs.Kept.{keepable-zero, keepable-one, keepable-add, keepable-mul, kept-same_left, kept-same_right, kept-same_mul}
use Rattle.trunc_series.proofs.Coefficients.{add-zero, keepable-coef}
use Rattle.trunc_series.proofs.Merging.{Keepable, whole}
use Rattle.trunc_series.proofs.Rows.{row_sum, sum-keepable, mul-keepable}

-- ---- a product's coefficient is read of its first factor, term by term

abbrev pub weight : ℕ → Sum → Key → Key → ℤ
weight n g k x = coef (cut n (row_sum (x, pos 1) g)) k

row-weight : (n : ℕ) (t : Term) (g : Sum) (k : Key) → coef (cut n (row_sum t g)) k ≡ t.1 *ℤ weight n g k t.0
row-weight n t [] k = ring ints_ring (t.1 ∷ []) nought (X :* nought) refl
row-weight n t (u ∷ g) k = go (nat_le (degree (key_mul t.0 u.0)) n) (key_eq (key_mul t.0 u.0) k) (row-weight n t g k)
  where
    go : (b c : Bool) → coef (cut n (row_sum t g)) k ≡ t.1 *ℤ weight n g k t.0
        → coef (cond b (term_mul t u ∷ cut n (row_sum t g)) (cut n (row_sum t g))) k ≡ t.1 *ℤ coef (cond b (term_mul (t.0, pos 1) u ∷ cut n (row_sum (t.0, pos 1) g)) (cut n (row_sum (t.0, pos 1) g))) k
    go false c e = e
    go true c e = rw e (one (key_eq (key_mul t.0 u.0) k))
      where
        one : (d : Bool) → cond d (t.1 *ℤ u.1) (pos 0) +ℤ t.1 *ℤ weight n g k t.0 ≡ t.1 *ℤ (cond d (pos 1 *ℤ u.1) (pos 0) +ℤ weight n g k t.0)
        one true = ring ints_ring (t.1 ∷ u.1 ∷ weight n g k t.0 ∷ []) (X :* Y :+ X :* Z) (X :* (one_of :* Y :+ Z)) refl
        one false = ring ints_ring (t.1 ∷ weight n g k t.0 ∷ []) (nought :+ X :* Y) (X :* (nought :+ Y)) refl

pub mul-weight : (n : ℕ) (f g : Sum) (k : Key) → coef (mul n f g) k ≡ pairing (weight n g k) f
mul-weight n [] g k = refl
mul-weight n (t ∷ f) g k = coef-append (cut n (row_sum t g)) (mul n f g) k ∙ rw (row-weight n t g k, mul-weight n f g k) refl

-- ---- what is kept of such a reading

module _ (rule : Arithmetic) (φ : Key → ℤ) (h : (x : Key) → IsKeepable rule (φ x)) where
  keepable-pairing : (f : Sum) → Keepable rule f → IsKeepable rule (pairing φ f)
  keepable-pairing [] k = keepable-zero rule
  keepable-pairing (t ∷ f) k = keepable-add rule (t.1 *ℤ φ t.0) (pairing φ f) (keepable-mul rule t.1 (φ t.0) k.0 (h t.0)) (keepable-pairing f k.1)

  SameKept : Sum → Sum → Type 0
  SameKept f r = (k : Key) → kept rule (coef f k) ≡ kept rule (coef r k)

  abbrev keep-without : (x : Key) (f : Sum) → Keepable rule f → Keepable rule (without x f)
  keep-without x f k = Every-filter (λ t. IsKeepable rule t.1) (λ t. not (key_eq t.0 x)) f k

  split-step : (x : Key) (f r : Sum) → Keepable rule f → Keepable rule r → ((k : Key) → kept rule (coef f k) ≡ kept rule (coef r k)) → kept rule (pairing φ (without x f)) ≡ kept rule (pairing φ (without x r)) → kept rule (pairing φ f) ≡ kept rule (pairing φ r)
  split-step x f r kf kr s e =
      let c : IsKeepable rule (coef f x) = keepable-coef rule f x kf in
      let d : IsKeepable rule (coef r x) = keepable-coef rule r x kr in
      let p : IsKeepable rule (pairing φ (without x f)) = keepable-pairing (without x f) (keep-without x f kf) in
      let q : IsKeepable rule (pairing φ (without x r)) = keepable-pairing (without x r) (keep-without x r kr) in
      ap (kept rule) (pairing-split φ x f)
      ∙ kept-same_left rule (coef f x *ℤ φ x) (coef r x *ℤ φ x) (pairing φ (without x f)) (keepable-mul rule _ _ c (h x)) (keepable-mul rule _ _ d (h x)) p (kept-same_mul rule (coef f x) (coef r x) (φ x) c d (h x) (s x))
      ∙ kept-same_right rule (coef r x *ℤ φ x) (pairing φ (without x f)) (pairing φ (without x r)) (keepable-mul rule _ _ d (h x)) p q e
      ∙ ap (kept rule) (sym (pairing-split φ x r))

  without-same : (x : Key) (f r : Sum) → ((k : Key) → kept rule (coef f k) ≡ kept rule (coef r k)) → (k : Key) → kept rule (coef (without x f) k) ≡ kept rule (coef (without x r) k)
  without-same x f r s k = rw (coef-without x k f, coef-without x k r) (go (key_eq x k))
    where
      go : (b : Bool) → kept rule (cond b (pos 0) (coef f k)) ≡ kept rule (cond b (pos 0) (coef r k))
      go true = refl
      go false = s k

  shorter : (t : Term) (f : Sum) → length (without t.0 (t ∷ f)) ≤ length f
  shorter t f = rw key_eq-refl (length-without t.0 f)

  pub pairing-kept : (m : ℕ) (f r : Sum) → length f + length r ≤ m → Keepable rule f → Keepable rule r → ((k : Key) → kept rule (coef f k) ≡ kept rule (coef r k)) → kept rule (pairing φ f) ≡ kept rule (pairing φ r)
  pairing-kept m [] [] l kf kr s = refl
  pairing-kept zero [] (u ∷ r) l kf kr s = absurd (omega arith)
  pairing-kept zero (t ∷ f) r l kf kr s = absurd (omega arith)
  pairing-kept (suc m) [] (u ∷ r) l kf kr s =
      split-step u.0 [] (u ∷ r) kf kr s (pairing-kept m [] (without u.0 (u ∷ r)) (omega (arith, shorter u r)) tt (keep-without u.0 (u ∷ r) kr) (without-same u.0 [] (u ∷ r) s))
  pairing-kept (suc m) (t ∷ f) r l kf kr s =
      split-step t.0 (t ∷ f) r kf kr s (pairing-kept m (without t.0 (t ∷ f)) (without t.0 r) (omega (arith, shorter t f, length-without t.0 r)) (keep-without t.0 (t ∷ f) kf) (keep-without t.0 r kr) (without-same t.0 (t ∷ f) r s))

-- ---- the order of the factors doesn't count

key_mul-comm : (k l : Key) → key_mul k l ≡ key_mul l k
key_mul-comm k l = λ i. record {
  powers = record { t1 = add_comm k.powers.t1 l.powers.t1 i; t2 = add_comm k.powers.t2 l.powers.t2 i; t3 = add_comm k.powers.t3 l.powers.t3 i; t4 = add_comm k.powers.t4 l.powers.t4 i; t5 = add_comm k.powers.t5 l.powers.t5 i; t6 = add_comm k.powers.t6 l.powers.t6 i; t7 = add_comm k.powers.t7 l.powers.t7 i; t8 = add_comm k.powers.t8 l.powers.t8 i };
  exp = record { a = +ℤ_comm k.exp.a l.exp.a i; b = +ℤ_comm k.exp.b l.exp.b i };
}

term_mul-comm : (t u : Term) → term_mul t u ≡ term_mul u t
term_mul-comm t u = λ i. (key_mul-comm t.0 u.0 i, *ℤ_comm t.1 u.1 i)

-- the part of a term at k, if its degree is at most n
abbrev part : ℕ → Key → Term → ℤ
part n k t = coef (cut n (t ∷ [])) k

part-cons : (n : ℕ) (k : Key) (t : Term) (f : Sum) → coef (cut n (t ∷ f)) k ≡ part n k t +ℤ coef (cut n f) k
part-cons n k t f = go (nat_le (degree t.0) n)
  where
    go : (b : Bool) → coef (cond b (t ∷ cut n f) (cut n f)) k ≡ coef (cond b (t ∷ []) []) k +ℤ coef (cut n f) k
    go true = ap (λ c. c +ℤ coef (cut n f) k) (sym (add-zero (coef_at k t)))
    go false = sym (skip-zero (coef (cut n f) k))

regroup : (a b c d : ℤ) → (a +ℤ b) +ℤ (c +ℤ d) ≡ (a +ℤ c) +ℤ (b +ℤ d)
regroup a b c d = omega (arith, ints)

column : (n : ℕ) (f : Sum) (u : Term) (g : Sum) (k : Key) → coef (mul n f (u ∷ g)) k ≡ coef (cut n (row_sum u f)) k +ℤ coef (mul n f g) k
column n [] u g k = refl
column n (t ∷ f) u g k =
    coef-append (cut n (row_sum t (u ∷ g))) (mul n f (u ∷ g)) k
    ∙ rw (part-cons n k (term_mul t u) (row_sum t g), column n f u g k, part-cons n k (term_mul u t) (row_sum u f), coef-append (cut n (row_sum t g)) (mul n f g) k)
    (regroup (part n k (term_mul t u)) (coef (cut n (row_sum t g)) k) (coef (cut n (row_sum u f)) k) (coef (mul n f g) k)
    ∙ ap (λ c. (c +ℤ coef (cut n (row_sum u f)) k) +ℤ (coef (cut n (row_sum t g)) k +ℤ coef (mul n f g) k)) (ap (part n k) (term_mul-comm t u)))

pub mul-comm : (n : ℕ) (f g : Sum) (k : Key) → coef (mul n f g) k ≡ coef (mul n g f) k
mul-comm n [] g k = go g
  where
    go : (g : Sum) → pos 0 ≡ coef (mul n g []) k
    go [] = refl
    go (u ∷ g) = go g
mul-comm n (t ∷ f) g k = coef-append (cut n (row_sum t g)) (mul n f g) k ∙ ap (λ c. coef (cut n (row_sum t g)) k +ℤ c) (mul-comm n f g k) ∙ sym (column n g t f k)

-- ---- so a product of reduced lists stands for the product

module _ (rule : Arithmetic) (n : ℕ) where
  keepable-weight : (g : Sum) (k x : Key) → Keepable rule g → IsKeepable rule (weight n g k x)
  keepable-weight g k x h = keepable-coef rule (cut n (row_sum (x, pos 1) g)) k (Every-filter (λ u. IsKeepable rule u.1) (λ u. nat_le (degree u.0) n) (row_sum (x, pos 1) g) (sum-keepable rule (x, pos 1) g (keepable-one rule) h))

  pub left-kept : (r f g : Sum) (k : Key) → Keepable rule r → Keepable rule f → Keepable rule g → ((l : Key) → kept rule (coef r l) ≡ kept rule (coef f l)) → kept rule (coef (mul n r g) k) ≡ kept rule (coef (mul n f g) k)
  left-kept r f g k hr hf hg s =
      ap (kept rule) (mul-weight n r g k)
      ∙ pairing-kept rule (weight n g k) (λ x. keepable-weight g k x hg) (length r + length f) r f (omega arith) hr hf s
      ∙ ap (kept rule) (sym (mul-weight n f g k))

  pub product-reduced : (p r s f g : Sum) → IsKeptAs rule n r f → IsKeptAs rule n s g → IsKeptAs rule n p (mul n r s) → IsKeptAs rule n p (mul n f g)
  product-reduced p r s f g hr hs hp = record {
    series = hp.series;
    keeps = hp.keeps;
    keepable = mul-keepable rule n f g hr.keepable hs.keepable;
    same = λ k.
        hp.same k
        ∙ left-kept r f s k (whole rule r hr.keeps) hr.keepable (whole rule s hs.keeps) hr.same
        ∙ ap (kept rule) (mul-comm n f s k)
        ∙ left-kept s g f k (whole rule s hs.keeps) hs.keepable hr.keepable hs.same
        ∙ ap (kept rule) (mul-comm n g f k);
  }
