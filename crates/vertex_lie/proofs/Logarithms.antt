-- Sums of multiples of powers: their coefficients and bounds.
use Rattle.std.proofs.Common.{◌≡◌, ◌≢◌, ℕ, zero, suc, ◌+◌, ◌*◌, ◌/◌, ◌%◌, ◌≤◌, ◌<◌, ◌^◌, refl, sym, subst, ap, ◌∙◌, Bool, true, false, cond, [], ◌∷◌, ◌++◌, arith}
use Rattle.std.specs.Prelude.{ℤ, pos, ◌+ℤ◌, ◌*ℤ◌, ◌≤ℤ◌, negsuc, neg_ℤ, ◌==◌, nat_abs, nat_le, map}
use Rattle.std.proofs.lemmas.Int.{ints, unsigned_abs-mul}
use Rattle.std.proofs.Math.Nat.{mul-le-mul_left}
use Rattle.std.specs.Int.{IsGcd}
use Rattle.std.proofs.lemmas.Nat.{div-mul-add}
use Rattle.std.proofs.lemmas.Nat.Gcd.{same_from_IsGcd, IsGcd-from_zero}
use Rattle.plane_theory.proofs.WholeNumbers.{zero_of}
use Rattle.scattering.specs.Plane.{IsDirection}
use Rattle.sum_algebra.proofs.Ring.{nought, ring}
use Rattle.sum_algebra.proofs.IntegerRing.{ints_ring, ◌:+◌, ◌:*◌, X, Y, Z}
use Rattle.sum_algebra.proofs.Integers.{abs-positive}
use Rattle.scattering.specs.Collections.{Every}
use Rattle.scattering.specs.Series.{Exp, Key, Term, Sum, IsMultiple, scale, exp_add, origin, int_eq, key_mul, key_eq, unit, degree, coef, cut, mul, pow, powers_to, geometric, absolute, rest, term_mul, mass_to}
use Rattle.scattering.proofs.Keys.{int_eq-same, unit-mul}
use Rattle.trunc_series.specs.declared.arithmetic.Arithmetic.TheVariants.{Wrapping, Saturating}
use Rattle.trunc_series.specs.Reduced.{IsKeptAs, IsFactor}
use Rattle.std.proofs.Common.{min, leb, leb-true, le-leb, add-one}
use Rattle.std.specs.Prelude.{IsTrue}
use Rattle.scattering.specs.Series.{Same}
use Rattle.scattering.specs.Correction.{IsRatio, Lie, ratio_at}
use Rattle.scattering.proofs.Lists.{Every-implies, Every-append}
use Rattle.scattering.proofs.Pairing.{coef-append}
use Rattle.scattering.proofs.Tests.{nat_le-is}
use Rattle.trunc_series.specs.Arithmetic.{IsKeepable}
use Rattle.trunc_series.specs.Shown.{Seen}
use Rattle.trunc_series.specs.Capped.{IsMajorantOf}
use Rattle.trunc_series.proofs.MajorantLaws.{majorant-mass, absolute-positive}
use Rattle.vertex_lie.specs.Shown.{IsElement}
use Rattle.vertex_lie.specs.Leading.{AreQuotients}
use Rattle.vertex_lie.proofs.Divided.{quotients-keys, quotients-rise, quotients-nonzero, quotients-ratio}
use Rattle.trunc_series.proofs.Coefficients.{abs-coef, abs-add, has-coef, apart-rising}
use Rattle.trunc_series.proofs.Products.{mass-append}
use Rattle.trunc_series.proofs.Congruence.{product-reduced}
use Rattle.trunc_series.proofs.PowerLaws.{pow-low, pow-keepable, mul-every, reduced-keys}
use Rattle.trunc_series.proofs.Inverses.{mass-pow}
use Rattle.trunc_series.proofs.Exact.{own, exact-same}
use Rattle.vertex_lie.specs.Logarithm.{common_multiple, log_factor, scaled_log_at, LogFits, scaled_log, multiple_of, log_divisor, IsLogarithm}

-- ---- a constant times a sum

constant-row : (n : ℕ) (c : ℤ) (f : Sum) (x : Key) → Every (λ t. degree t.0 ≤ n) f → coef (cut n (map (term_mul (unit, c)) f)) x ≡ c *ℤ coef f x
constant-row n c [] x l = ring ints_ring (c ∷ []) nought (X :* nought) refl
constant-row n c (t ∷ f) x l =
    subst (λ (k : Key). coef (cond (nat_le (degree k) n) ((k, c *ℤ t.1) ∷ cut n (map (term_mul (unit, c)) f)) (cut n (map (term_mul (unit, c)) f))) x ≡ c *ℤ coef (t ∷ f) x) (sym (unit-mul t.0))
    (ap (λ (b : Bool). coef (cond b ((t.0, c *ℤ t.1) ∷ cut n (map (term_mul (unit, c)) f)) (cut n (map (term_mul (unit, c)) f))) x) (nat_le-is (degree t.0) n l.0) ∙ go (key_eq t.0 x) (constant-row n c f x l.1))
  where
    go : (b : Bool) → coef (cut n (map (term_mul (unit, c)) f)) x ≡ c *ℤ coef f x → cond b (c *ℤ t.1) (pos 0) +ℤ coef (cut n (map (term_mul (unit, c)) f)) x ≡ c *ℤ (cond b t.1 (pos 0) +ℤ coef f x)
    go true i = ap (λ y. c *ℤ t.1 +ℤ y) i ∙ ring ints_ring (c ∷ t.1 ∷ coef f x ∷ []) (X :* Y :+ X :* Z) (X :* (Y :+ Z)) refl
    go false i = ap (λ y. pos 0 +ℤ y) i ∙ ring ints_ring (c ∷ coef f x ∷ []) (nought :+ X :* Y) (X :* (nought :+ Y)) refl

constant-coef : (n : ℕ) (c : ℤ) (f : Sum) (x : Key) → Every (λ t. degree t.0 ≤ n) f → coef (mul n ((unit, c) ∷ []) f) x ≡ c *ℤ coef f x
constant-coef n c f x l = coef-append (cut n (map (term_mul (unit, c)) f)) [] x ∙ ap (λ y. y +ℤ pos 0) (constant-row n c f x l) ∙ ring ints_ring (c ∷ coef f x ∷ []) (X :* Y :+ nought) (X :* Y) refl

pub log-coef : (n : ℕ) (f : Sum) (x : Key) (i : ℕ) → coef (scaled_log n (rest f) i) x ≡ scaled_log_at n f x i
log-coef n f x zero = refl
log-coef n f x (suc i) =
    coef-append (scaled_log n (rest f) i) (mul n ((unit, log_factor (suc i)) ∷ []) (pow n (rest f) (suc i))) x
    ∙ ap (λ y. y +ℤ coef (mul n ((unit, log_factor (suc i)) ∷ []) (pow n (rest f) (suc i))) x) (log-coef n f x i)
    ∙ ap (λ y. scaled_log_at n f x i +ℤ y) (constant-coef n (log_factor (suc i)) (pow n (rest f) (suc i)) x (pow-low n (rest f) (suc i)))

-- ---- its bound

pub factor-small : (i : ℕ) → nat_abs (log_factor (suc i)) ≤ common_multiple
factor-small i = go (suc i % 2 == 0)
  where
    small : common_multiple / suc i ≤ common_multiple
    small = omega arith

    go : (b : Bool) → nat_abs (cond b (neg_ℤ (pos (common_multiple / suc i))) (pos (common_multiple / suc i))) ≤ common_multiple
    go true = omega (arith, ints, small)
    go false = omega (arith, ints, small)

times-le : (a b c d : ℕ) → a ≤ c → b ≤ d → a * b ≤ c * d
times-le a b c d h k = let x : a * b ≤ a * d = mul-le-mul_left a k in let y : d * a ≤ d * c = mul-le-mul_left d h in let z : a * d ≡ d * a = omega arith in let w : c * d ≡ d * c = omega arith in omega (arith, x, y, z, w)

shared : (a b l : ℕ) → l * (a + b) ≡ l * a + l * b
shared a b l = omega arith

log-bound : (n : ℕ) (f : Sum) (x : Key) (i : ℕ) → nat_abs (scaled_log_at n f x i) + common_multiple ≤ common_multiple * mass_to n (powers_to n (absolute (rest f)) i)
log-bound n f x zero = rw (nat_le-is 0 n (omega arith)) (omega arith)
log-bound n f x (suc i) =
    let a = log-bound n f x i in
    let y : ℤ = coef (pow n (rest f) (suc i)) x in
    let m : ℕ = mass_to n (pow n (absolute (rest f)) (suc i)) in
    let b : nat_abs (coef (pow n (rest f) (suc i)) x) ≤ mass_to n (pow n (absolute (rest f)) (suc i)) = let p = abs-coef n (pow n (rest f) (suc i)) x (pow-low n (rest f) (suc i)) in let q = mass-pow n (rest f) (suc i) in omega (arith, p, q) in
    let c = times-le (nat_abs (log_factor (suc i))) (nat_abs (coef (pow n (rest f) (suc i)) x)) common_multiple (mass_to n (pow n (absolute (rest f)) (suc i))) (factor-small i) b in
    let d = unsigned_abs-mul (log_factor (suc i)) (coef (pow n (rest f) (suc i)) x) in
    let e = abs-add (scaled_log_at n f x i) (log_factor (suc i) *ℤ coef (pow n (rest f) (suc i)) x) in
    let g = mass-append n (powers_to n (absolute (rest f)) i) (pow n (absolute (rest f)) (suc i)) in
    rw g (final (nat_abs (scaled_log_at n f x i)) _ _ _ _ a c d e)
  where
    final : (s p y t m : ℕ) → s + common_multiple ≤ common_multiple * m → y ≤ common_multiple * t → p ≡ y → {r : ℕ} → r ≤ s + p → r + common_multiple ≤ common_multiple * (m + t)
    final s p y t m a c d e = omega (arith, a, c, d, e, shared m t common_multiple)

pub log-small : (n : ℕ) (f : Sum) → LogFits n f → (x : Key) → nat_abs (scaled_log_at n f x n) ≤ 2 ^ 126
log-small n f h x = let a = log-bound n f x n in omega (arith, a, h)

-- ---- its exponents

gcd-nonzero : IsGcd 0 0 1 → ⊥
gcd-nonzero h = let e : 1 ≡ 0 = same_from_IsGcd 0 0 1 0 h (IsGcd-from_zero 0 0 refl) in absurd (omega (arith, e))

not-both : (d : Exp) → IsDirection d → d.a ≡ pos 0 → d.b ≡ pos 0 → ⊥
not-both d h a b = gcd-nonzero (subst (λ (y : ℤ). IsGcd 0 (nat_abs y) 1) b (subst (λ (x : ℤ). IsGcd (nat_abs x) (nat_abs d.b) 1) a h))

pub second-size : (d : Exp) → IsDirection d → d.a ≡ pos 0 → 1 ≤ nat_abs d.b
second-size d h a = abs-positive d.b (λ b. not-both d h a b)

divided-back : (j a : ℕ) → 1 ≤ a → (j * a) / a ≡ j
divided-back j (suc a) h = ap (λ m. m / suc a) (let e : j * suc a ≡ j * suc a + 0 = omega arith in e) ∙ div-mul-add j (suc a) 0 (omega arith)
divided-back j zero h = absurd (omega (arith, h))

along : (j x y : ℤ) → pos 1 ≤ℤ j → y ≡ j *ℤ x → x ≢ pos 0 → pos (nat_abs y / nat_abs x) ≡ j
along (negsuc j) x y p e n = absurd (omega (arith, ints, p))
along (pos j) x y p e n = ap pos (ap (λ (z : ℤ). nat_abs z / nat_abs x) e ∙ ap (λ m. m / nat_abs x) (unsigned_abs-mul (pos j) x) ∙ divided-back j (nat_abs x) (abs-positive x n))

pub first-positive : (d e : Exp) → IsMultiple d e → d.a ≢ pos 0 → 1 ≤ nat_abs e.a / nat_abs d.a
first-positive d e m n =
    let q = along m.0 d.a e.a m.1 (ap (λ (x : Exp). x.a) m.2) n in let p = m.1 in
    let r : pos 1 ≤ℤ pos (nat_abs e.a / nat_abs d.a) = rw q p in omega (arith, ints, r)

pub second-positive : (d e : Exp) → IsDirection d → IsMultiple d e → d.a ≡ pos 0 → 1 ≤ nat_abs e.b / nat_abs d.b
second-positive d e h m z =
    let q = along m.0 d.b e.b m.1 (ap (λ (x : Exp). x.b) m.2) (λ b. not-both d h z b) in let p = m.1 in
    let r : pos 1 ≤ℤ pos (nat_abs e.b / nat_abs d.b) = rw q p in omega (arith, ints, r)

pub multiple-is : (d e : Exp) → IsDirection d → (j : ℤ) → pos 1 ≤ℤ j → e ≡ scale j d → pos (multiple_of d e) ≡ j
multiple-is d e h j p q = go (int_eq d.a (pos 0)) refl
  where
    go : (b : Bool) → int_eq d.a (pos 0) ≡ b → pos (cond b (nat_abs e.b / nat_abs d.b) (nat_abs e.a / nat_abs d.a)) ≡ j
    go true f = along j d.b e.b p (ap (λ (x : Exp). x.b) q) (λ b. not-both d h (int_eq-same d.a (pos 0) f) b)
    go false f = along j d.a e.a p (ap (λ (x : Exp). x.a) q) (λ a. let g : int_eq d.a (pos 0) ≡ true = subst (λ (x : ℤ). int_eq x (pos 0) ≡ true) (sym a) refl in absurd (cc))

pub multiple-moves : (d e : Exp) → IsDirection d → IsMultiple d e → e ≢ origin
multiple-moves d e h m o =
    not-both d h
    (zero_of m.0 d.a m.1 (sym (ap (λ (x : Exp). x.a) m.2) ∙ ap (λ (x : Exp). x.a) o))
    (zero_of m.0 d.b m.1 (sym (ap (λ (x : Exp). x.b) m.2) ∙ ap (λ (x : Exp). x.b) o))

abbrev IsAtLeastZero : Exp → Key → Type 0
IsAtLeastZero d k = (j : ℤ) × (pos 0 ≤ℤ j) × (k.exp ≡ scale j d)

unit-multiple : (d : Exp) → unit.exp ≡ scale (pos 0) d
unit-multiple d = let a : pos 0 ≡ pos 0 *ℤ d.a = omega (arith, ints) in let b : pos 0 ≡ pos 0 *ℤ d.b = omega (arith, ints) in λ i. record { a = a i; b = b i }

sum-multiple : (d : Exp) (i j : ℤ) (u v : Exp) → u ≡ scale i d → v ≡ scale j d → exp_add u v ≡ scale (i +ℤ j) d
sum-multiple d i j u v p q =
    let a : u.a +ℤ v.a ≡ (i +ℤ j) *ℤ d.a = ap (λ (x : Exp). x.a +ℤ v.a) p ∙ ap (λ (x : Exp). i *ℤ d.a +ℤ x.a) q ∙ ring ints_ring (i ∷ j ∷ d.a ∷ []) (X :* Z :+ Y :* Z) ((X :+ Y) :* Z) refl in
    let b : u.b +ℤ v.b ≡ (i +ℤ j) *ℤ d.b = ap (λ (x : Exp). x.b +ℤ v.b) p ∙ ap (λ (x : Exp). i *ℤ d.b +ℤ x.b) q ∙ ring ints_ring (i ∷ j ∷ d.b ∷ []) (X :* Z :+ Y :* Z) ((X :+ Y) :* Z) refl in
    λ k. record { a = a k; b = b k }

module _ (d : Exp) where
  times-positive : (k l : Key) → IsMultiple d k.exp → IsAtLeastZero d l → IsMultiple d (key_mul k l).exp
  times-positive k l p q = (p.0 +ℤ q.0, (let a = p.1 in let b = q.1 in omega (arith, ints, a, b)), sum-multiple d p.0 q.0 k.exp l.exp p.2 q.2)

  times-later : (k l : Key) → IsAtLeastZero d k → IsMultiple d l.exp → IsMultiple d (key_mul k l).exp
  times-later k l p q = (p.0 +ℤ q.0, (let a = p.1 in let b = q.1 in omega (arith, ints, a, b)), sum-multiple d p.0 q.0 k.exp l.exp p.2 q.2)

  at-least-zero : (k : Key) → IsMultiple d k.exp → IsAtLeastZero d k
  at-least-zero k p = (p.0, (let a = p.1 in omega (arith, ints, a)), p.2)

  unit-at_least : IsAtLeastZero d unit
  unit-at_least = (pos 0, omega (arith, ints), unit-multiple d)

  module _ (n : ℕ) (g : Sum) (h : Every (λ t. IsMultiple d t.0.exp) g) where
    pow-at_least : (i : ℕ) → Every (λ t. IsAtLeastZero d t.0) (pow n g i)
    pow-at_least zero = (unit-at_least, tt)
    pow-at_least (suc i) = mul-every (λ k. IsMultiple d k.exp) (IsAtLeastZero d) (IsAtLeastZero d) (λ k l p q. at-least-zero (key_mul k l) (times-positive k l p q)) n g (pow n g i) h (pow-at_least i)

    pow-multiples : (i : ℕ) → Every (λ t. IsMultiple d t.0.exp) (pow n g (suc i))
    pow-multiples i = mul-every (λ k. IsMultiple d k.exp) (IsAtLeastZero d) (λ k. IsMultiple d k.exp) times-positive n g (pow n g i) h (pow-at_least i)

    pub log-multiples : (m : ℕ) → Every (λ t. IsMultiple d t.0.exp) (scaled_log n g m)
    log-multiples zero = tt
    log-multiples (suc m) =
        Every-append (λ t. IsMultiple d t.0.exp) (scaled_log n g m) (mul n ((unit, log_factor (suc m)) ∷ []) (pow n g (suc m))) (log-multiples m)
        (mul-every (IsAtLeastZero d) (λ k. IsMultiple d k.exp) (λ k. IsMultiple d k.exp) times-later n ((unit, log_factor (suc m)) ∷ []) (pow n g (suc m)) (unit-at_least, tt) (pow-multiples m))

-- ---- its terms

pub constant-reduced : (n : ℕ) (c : ℤ) → c ≢ pos 0 → nat_abs c < 2 ^ 127 → IsKeptAs Wrapping n ((unit, c) ∷ []) ((unit, c) ∷ [])
constant-reduced n c z s = own n ((unit, c) ∷ []) (record { rises = (tt, tt); nonzero = (z, tt); low = (omega arith, tt) }) (s, tt)

pub constant-factor : (c : ℤ) → IsFactor Wrapping ((unit, c) ∷ [])
constant-factor c = record { rises = (tt, tt); keepable = (tt, tt); near = ((omega arith, omega arith), tt) }

-- ---- its masses

powers-low : (n : ℕ) (f : Sum) (i : ℕ) → Every (λ t. degree t.0 ≤ n) (powers_to n f i)
powers-low n f zero = (omega arith, tt)
powers-low n f (suc i) = Every-append (λ t. degree t.0 ≤ n) (powers_to n f i) (pow n f (suc i)) (powers-low n f i) (pow-low n f (suc i))

powers-keepable : (n : ℕ) (f : Sum) (i : ℕ) → Every (λ t. IsKeepable Saturating t.1) f → Every (λ t. IsKeepable Saturating t.1) (powers_to n f i)
powers-keepable n f zero k = (omega (arith, ints), tt)
powers-keepable n f (suc i) k = Every-append (λ t. IsKeepable Saturating t.1) (powers_to n f i) (pow n f (suc i)) (powers-keepable n f i k) (pow-keepable Saturating n f k (suc i))

pub mass-decides : (n : ℕ) (f : Sum) (m : Seen) (mass : ℕ) → IsMajorantOf m n (geometric n f) → mass ≡ min (mass_to m.order m.terms) (2 ^ 126 + 1) → (IsTrue (leb mass 15888486210965754580488470239) → LogFits n f) × (LogFits n f → IsTrue (leb mass 15888486210965754580488470239))
mass-decides n f m mass h e =
    let q : mass ≡ min (mass_to n (geometric n f)) (2 ^ 126 + 1) = e ∙ ap (λ o. min (mass_to o m.terms) (2 ^ 126 + 1)) h.order ∙ majorant-mass n m (geometric n f) h (powers-keepable n (absolute (rest f)) n (absolute-positive (rest f))) (powers-low n (absolute (rest f)) n) in
    (λ t. let l = leb-true mass 15888486210965754580488470239 t in omega (arith, l, q), λ l. le-leb mass 15888486210965754580488470239 (omega (arith, l, q)))

-- ---- all of it

module _ (n : ℕ) (d : Exp) (f r : Sum) (h : Lie) (dir : IsDirection d) (others : Every (λ t. (1 ≤ degree t.0) × IsMultiple d t.0.exp) (rest f)) (fits : LogFits n f) (red : IsKeptAs Wrapping n r (scaled_log n (rest f) n)) where
  small : (x : Key) → nat_abs (coef (scaled_log n (rest f) n) x) < 2 ^ 127
  small x = let a = log-small n f fits x in let e = log-coef n f x n in rw e (omega (arith, a))

  same : Same r (scaled_log n (rest f) n)
  same = exact-same n r (scaled_log n (rest f) n) red small

  pub log-keys : Every (λ t. IsMultiple d t.0.exp) r
  log-keys = reduced-keys Wrapping (λ k. IsMultiple d k.exp) n r (scaled_log n (rest f) n) red (log-multiples d n (rest f) (Every-implies (λ (t : Term). (1 ≤ degree t.0) × IsMultiple d t.0.exp) (λ t. IsMultiple d t.0.exp) (rest f) (λ t i. i.1) others) n)

  pub log-smalls : Every (λ t. nat_abs t.1 < 2 ^ 127) r
  log-smalls = has-coef (λ c. nat_abs c < 2 ^ 127) r (omega arith) (apart-rising r red.series.rises) (λ x. rw (same x) (small x))

  module _ (q : AreQuotients (log_divisor d) r h) (ratios : Every (λ t. IsRatio t.1) h) where
    pub log-element : IsElement h
    log-element = record {
      rises = quotients-rise (log_divisor d) r h q red.series.rises;
      exponents = quotients-keys (log_divisor d) (λ k. k.exp ≢ origin) r h q (Every-implies (λ (t : Term). IsMultiple d t.0.exp) (λ t. t.0.exp ≢ origin) r (λ t m. multiple-moves d t.0.exp dir m) log-keys);
      nonzero = quotients-nonzero (log_divisor d) r h q ratios red.series.nonzero;
      ratios = ratios;
    }

    pub log-of : IsLogarithm n d f h
    log-of = record {
      element = log-element;
      along = quotients-keys (log_divisor d) (λ k. IsMultiple d k.exp) r h q log-keys;
      same = λ x j p e.
          ap (λ y. (ratio_at h x).num *ℤ (y *ℤ pos common_multiple)) (sym (multiple-is d x.exp dir j p e))
          ∙ quotients-ratio (log_divisor d) r h q (apart-rising r red.series.rises) x
          ∙ ap (λ y. y *ℤ (ratio_at h x).den) (same x ∙ log-coef n f x n);
    }

-- ---- a step of the sum

pub log-more : (n : ℕ) (g : Sum) (i : ℕ) (c : ℤ) (total power part r : Sum) → c ≡ log_factor (i + 1) → c ≢ pos 0 → nat_abs c < 2 ^ 127 → IsKeptAs Wrapping n total (scaled_log n g i) → IsKeptAs Wrapping n power (pow n g (i + 1))
    → IsKeptAs Wrapping n part (mul n ((unit, c) ∷ []) power)
    → ((m : ℕ) (u v : Sum) → IsKeptAs Wrapping m total u → IsKeptAs Wrapping m part v → IsKeptAs Wrapping m r (u ++ v)) → IsKeptAs Wrapping n r (scaled_log n g (i + 1))
log-more n g i c total power part r e z s ht hp hq m =
    rw add-one
    (m n (scaled_log n g i) (mul n ((unit, log_factor (suc i)) ∷ []) (pow n g (suc i))) ht
    (subst (λ (x : ℤ). IsKeptAs Wrapping n part (mul n ((unit, x) ∷ []) (pow n g (suc i)))) (e ∙ ap log_factor (add-one i))
    (subst (λ (j : ℕ). IsKeptAs Wrapping n part (mul n ((unit, c) ∷ []) (pow n g j))) (add-one i)
    (product-reduced Wrapping n part ((unit, c) ∷ []) power ((unit, c) ∷ []) (pow n g (i + 1)) (constant-reduced n c z s) hp hq))))

-- ---- degrees alone

pub degrees-of : (d : Exp) (f : Sum) → Every (λ t. (1 ≤ degree t.0) × IsMultiple d t.0.exp) f → Every (λ t. 1 ≤ degree t.0) f
degrees-of d f h = Every-implies (λ (t : Term). (1 ≤ degree t.0) × IsMultiple d t.0.exp) (λ t. 1 ≤ degree t.0) f (λ t i. i.0) h
