-- Exponents of images: where those of functions are within 64 times the degree, those of the image of z^m are within that of m.
use Rattle.std.proofs.Common.{◌≡◌, ◌≢◌, ℕ, zero, suc, ◌*◌, ◌+◌, ◌≤◌, ◌^◌, sym, ◌∙◌, List, [], ◌∷◌, arith}
use Rattle.std.specs.Prelude.{ℤ, pos, negsuc, ◌+ℤ◌, ◌-ℤ◌, ◌*ℤ◌, neg_ℤ, nat_abs, not}
use Rattle.std.proofs.lemmas.Int.{ints}
use Rattle.scattering.specs.Collections.{Every}
use Rattle.scattering.specs.Series.{Exp, Key, Sum, degree, det, key_eq, key_mul, origin, unit, z, rest, minus, absolute, coef, mul, pow, powers_to, inverse, power, monomial, IsSeries}
use Rattle.scattering.specs.LocalProduct.{Half, cross, carry}
use Rattle.scattering.proofs.DistinctKeys.{own-coefficients, series-distinct}
use Rattle.scattering.proofs.Lists.{Every-append, Every-filter}
use Rattle.scattering.proofs.ShiftedSums.{degree-mul}
use Rattle.trunc_series.specs.Shown.{Seen, IsSeriesOf, HasNearTerms}
use Rattle.local_product.specs.Shown.{IsUnit}
use Rattle.trunc_series.proofs.PowerLaws.{mul-every, key-from}

-- an exponent is within 64 times the degree of m
abbrev pub Around : Exp → Key → Type 0
Around m x = (nat_abs (x.exp.a -ℤ m.a) ≤ 64 * degree x) × (nat_abs (x.exp.b -ℤ m.b) ≤ 64 * degree x)

abbrev pub AreAround : Exp → Sum → Type 0
AreAround m f = Every (λ t. Around m t.0) f

within : (x y m : ℤ) (c d e : ℕ) → e ≡ c + d → nat_abs (x -ℤ m) ≤ 64 * c → nat_abs (y -ℤ pos 0) ≤ 64 * d → nat_abs ((x +ℤ y) -ℤ m) ≤ 64 * e
within x y m c d e q h k = omega (arith, ints, q, h, k)

around-mul : (m : Exp) (k l : Key) → Around m k → Around origin l → Around m (key_mul k l)
around-mul m k l h i = (within k.exp.a l.exp.a m.a (degree k) (degree l) _ (degree-mul k l) h.0 i.0, within k.exp.b l.exp.b m.b (degree k) (degree l) _ (degree-mul k l) h.1 i.1)

itself : (x : ℤ) (d : ℕ) → nat_abs (x -ℤ x) ≤ 64 * d
itself x d = omega (arith, ints)

own : (m : Exp) → Around m (z m)
own m = (itself m.a (degree (z m)), itself m.b (degree (z m)))

-- ---- powers

pow-around : (k : ℕ) (f : Sum) (i : ℕ) → AreAround origin f → AreAround origin (pow k f i)
pow-around k f zero h = (own origin, tt)
pow-around k f (suc i) h = mul-every (Around origin) (Around origin) (Around origin) (around-mul origin) k f (pow k f i) h (pow-around k f i h)

powers_to-around : (k : ℕ) (f : Sum) (i : ℕ) → AreAround origin f → AreAround origin (powers_to k f i)
powers_to-around k f zero h = (own origin, tt)
powers_to-around k f (suc i) h = Every-append (λ t. Around origin t.0) (powers_to k f i) (pow k f (suc i)) (powers_to-around k f i h) (pow-around k f (suc i) h)

minus-around : (f : Sum) → AreAround origin f → AreAround origin (minus f)
minus-around [] h = tt
minus-around (t ∷ f) h = (h.0, minus-around f h.1)

inverse-around : (k : ℕ) (f : Sum) → AreAround origin f → AreAround origin (inverse k f)
inverse-around k f h = powers_to-around k (minus (rest f)) k (minus-around (rest f) (Every-filter (λ t. Around origin t.0) (λ t. not (key_eq t.0 unit)) f h))

power-around : (k : ℕ) (f : Sum) (n : ℤ) → AreAround origin f → AreAround origin (power k f n)
power-around k f (pos i) h = pow-around k f i h
power-around k f (negsuc i) h = pow-around k (inverse k f) (suc i) (inverse-around k f h)

-- ---- crossings

pub cross-around : (k : ℕ) (d : Exp) (f : Sum) (s : ℤ) (m : Exp) (g : Sum) → AreAround origin f → AreAround m g → AreAround m (cross k d f s g)
cross-around k d f s m [] h i = tt
cross-around k d f s m (t ∷ g) h i =
    Every-append (λ t. Around m t.0) (mul k (t ∷ []) (power k f (s *ℤ det d t.0.exp))) (cross k d f s g)
    (mul-every (Around m) (Around origin) (Around m) (around-mul m) k (t ∷ []) (power k f (s *ℤ det d t.0.exp)) (i.0, tt) (power-around k f (s *ℤ det d t.0.exp) h))
    (cross-around k d f s m g h i.1)

pub carry-around : (k : ℕ) (hs : List Half) (m : Exp) (g : Sum) → Every (λ h. AreAround origin h.wall.function) hs → AreAround m g → AreAround m (carry k hs g)
carry-around k [] m g h i = i
carry-around k (c ∷ hs) m g h i = carry-around k hs m _ h.1 (cross-around k c.wall.dir c.wall.function (neg_ℤ c.side) m g h.0 i)

pub monomial-around : (m : Exp) → AreAround m (monomial (z m))
monomial-around m = (own m, tt)

-- ---- absolute values

pub absolute-around : (f : Sum) → AreAround origin f → AreAround origin (absolute f)
absolute-around [] h = tt
absolute-around (t ∷ f) h = (h.0, absolute-around f h.1)

-- ---- series

module _ (P : Key → Type 0) (f g : Sum) (series : (n : ℕ) × IsSeries n f) (none : (x : Key) → coef g x ≡ pos 0 → coef f x ≡ pos 0) (all : Every (λ t. P t.0) g) where
  of-keys : (h : Sum) → Every (λ t. coef f t.0 ≡ t.1) h → Every (λ t. t.1 ≢ pos 0) h → Every (λ t. P t.0) h
  of-keys [] o z = tt
  of-keys (t ∷ h) o z = (key-from P g t.0 all (λ e. z.0 (sym o.0 ∙ none t.0 e)), of-keys h o.1 z.1)

  -- a series has only keys of a sum that is 0 nowhere else
  pub keys-from : Every (λ t. P t.0) f
  keys-from = of-keys f (own-coefficients f (series-distinct series.0 f series.1)) series.1.nonzero

pub series-around : (k : ℕ) (m : Exp) (s : Seen) (f : Sum) → IsSeriesOf s k f → AreAround m f → AreAround m s.terms
series-around k m s f h a = keys-from (Around m) s.terms f (k, h.series) (λ x e. h.same x ∙ e) a

close : (x m : ℤ) (d : ℕ) → nat_abs m ≤ 1 → d ≤ 24 → nat_abs (x -ℤ m) ≤ 64 * d → nat_abs x ≤ 2 ^ 16
close x m d u l h = omega (arith, ints, u, l, h)

pub around-near : (n : ℕ) (m : Exp) (f : Sum) → n ≤ 24 → IsUnit m → AreAround m f → Every (λ t. degree t.0 ≤ n) f → HasNearTerms f
around-near n m [] l u a d = tt
around-near n m (t ∷ f) l u a d = let p = d.0 in ((close t.0.exp.a m.a (degree t.0) u.0 (omega (arith, p, l)) a.0.0, close t.0.exp.b m.b (degree t.0) u.1 (omega (arith, p, l)) a.0.1), around-near n m f l u a.1 d.1)
