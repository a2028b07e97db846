-- Masses as readings: a majorant's mass bounds that of each list with what it bounds, where no key stands twice.
use Rattle.std.proofs.Common.{◌≡◌, ℕ, ◌+◌, ◌<◌, ◌≤◌, refl, subst, ap, Bool, true, false, cond, [], ◌∷◌, arith}
use Rattle.std.specs.Prelude.{ℤ, pos, negsuc, ◌+ℤ◌, ◌*ℤ◌, ◌≤ℤ◌, nat_abs, nat_le}
use Rattle.std.proofs.lemmas.Int.{ints}
use Rattle.sum_algebra.proofs.Sums.{pair}
use Rattle.scattering.specs.Collections.{Every}
use Rattle.scattering.specs.Series.{Key, Sum, degree, key_eq, coef, mass_to, absolute}
use Rattle.scattering.proofs.Keys.{key_eq-same}
use Rattle.scattering.specs.LocalProduct.{cross, cross_majorant}
use Rattle.scattering.proofs.DistinctKeys.{absent}
pub use Rattle.scattering.proofs.DistinctKeys.{HasDistinctKeys, own-coefficients, series-distinct}
use Rattle.weight_theory.specs.Laws.{IsNonnegative, MassIsBelow, SeriesMassIsBelow, CoefficientIsBelow, CrossingIsLight, SeriesAbsoluteIsBelow, MajorantMassIsMonotone}
use Rattle.weight_theory.proofs.Readings.{Covers, Bounds, to_Bounds}
use Rattle.weight_theory.proofs.Crossings.{bounds-majorant, majorant-stays-nonnegative, crossing-is-below, absolute-is-above}

-- 1 at each key that counts
abbrev pub counts : ℕ → Key → ℤ
counts k x = cond (nat_le (degree x) k) (pos 1) (pos 0)

sign : ℤ → ℤ
sign (pos n) = pos 1
sign (negsuc n) = negsuc 0

times-sign : (c : ℤ) → c *ℤ sign c ≡ pos (nat_abs c)
unfolding sign
times-sign (pos n) = omega (arith, ints)
times-sign (negsuc n) = omega (arith, ints)

abs-sign : (c : ℤ) → pos (nat_abs (sign c)) ≤ℤ pos 1
unfolding sign
abs-sign (pos n) = omega (arith, ints)
abs-sign (negsuc n) = omega (arith, ints)

-- the sign of the coefficient at each key that counts
abbrev signs : ℕ → Sum → Key → ℤ
signs k s x = cond (nat_le (degree x) k) (sign (coef s x)) (pos 0)

counts-high : (k : ℕ) (x : Key) → k < degree x → counts k x ≡ pos 0
counts-high k x l = let e : nat_le (degree x) k ≡ false = high (degree x) l in rw e refl
  where
    high : (d : ℕ) → k < d → nat_le d k ≡ false
    high d q = grind arith

pub counts-covered : (k : ℕ) → Covers k (counts k) (counts k)
counts-covered k = record { each = λ x. each (nat_le (degree x) k); high = counts-high k }
  where
    each : (b : Bool) → pos (nat_abs (cond b (pos 1) (pos 0))) ≤ℤ cond b (pos 1) (pos 0)
    each true = omega (arith, ints)
    each false = omega (arith, ints)

signs-covered : (k : ℕ) (s : Sum) → Covers k (signs k s) (counts k)
signs-covered k s = record { each = λ x. each x (nat_le (degree x) k); high = counts-high k }
  where
    each : (x : Key) (b : Bool) → pos (nat_abs (cond b (sign (coef s x)) (pos 0))) ≤ℤ cond b (pos 1) (pos 0)
    each x true = abs-sign (coef s x)
    each x false = omega (arith, ints)

-- ---- the mass and what is counted

abbrev part : Bool → ℤ → ℕ
part b c = elim b [ true ↦ nat_abs c | false ↦ 0 ]

pub counted-below : (k : ℕ) (F : Sum) → pair (counts k) F ≤ℤ pos (mass_to k F)
counted-below k [] = omega (arith, ints)
counted-below k (t ∷ F) = go (nat_le (degree t.0) k) (counted-below k F)
  where
    go : (b : Bool) → pair (counts k) F ≤ℤ pos (mass_to k F) → (t.1 *ℤ cond b (pos 1) (pos 0) +ℤ pair (counts k) F) ≤ℤ pos (part b t.1 + mass_to k F)
    go true h = omega (arith, ints, h)
    go false h = omega (arith, ints, h)

pub counted-exactly : (k : ℕ) (F : Sum) → IsNonnegative F → pair (counts k) F ≡ pos (mass_to k F)
counted-exactly k [] p = refl
counted-exactly k (t ∷ F) p = let q : pos 0 ≤ℤ t.1 = p.0 in go (nat_le (degree t.0) k) q (counted-exactly k F p.1)
  where
    go : (b : Bool) → pos 0 ≤ℤ t.1 → pair (counts k) F ≡ pos (mass_to k F) → t.1 *ℤ cond b (pos 1) (pos 0) +ℤ pair (counts k) F ≡ pos (part b t.1 + mass_to k F)
    go true q h = omega (arith, ints, q, h)
    go false q h = omega (arith, ints, q, h)

-- where each coefficient is that of its own term, the signs read the mass
signs-read : (k : ℕ) (s g : Sum) → Every (λ t. coef s t.0 ≡ t.1) g → pair (signs k s) g ≡ pos (mass_to k g)
signs-read k s [] o = refl
signs-read k s (t ∷ g) o = rw o.0 (go (nat_le (degree t.0) k) (signs-read k s g o.1))
  where
    go : (b : Bool) → pair (signs k s) g ≡ pos (mass_to k g) → t.1 *ℤ cond b (sign t.1) (pos 0) +ℤ pair (signs k s) g ≡ pos (part b t.1 + mass_to k g)
    go true h = rw (times-sign t.1, h) refl
    go false h = omega (arith, ints, h)

-- ---- masses

least : (m : ℕ) (a b : ℤ) → a ≡ pos m → pos (nat_abs a) ≤ℤ b → pos m ≤ℤ b
least m a b e p = omega (arith, ints, e, p)

pub mass-counted : (k : ℕ) (s H : Sum) → HasDistinctKeys s → Bounds k s H → pos (mass_to k s) ≤ℤ pair (counts k) H
mass-counted k s H d h = least (mass_to k s) (pair (signs k s) s) (pair (counts k) H) (signs-read k s s (own-coefficients s d)) (h.at (signs k s) (counts k) (signs-covered k s))

between : (m n : ℕ) (a : ℤ) → pos m ≤ℤ a → a ≤ℤ pos n → m ≤ n
between m n a p q = omega (arith, ints, p, q)

pub mass-bounded : (k : ℕ) (s H : Sum) → HasDistinctKeys s → Bounds k s H → mass_to k s ≤ mass_to k H
mass-bounded k s H d h = between (mass_to k s) (mass_to k H) (pair (counts k) H) (mass-counted k s H d h) (counted-below k H)

-- of any list without coefficients below 0
pub mass-bounded_list : (k : ℕ) (F G : Sum) → IsNonnegative F → Bounds k F G → mass_to k F ≤ mass_to k G
mass-bounded_list k F G p h =
    between (mass_to k F) (mass_to k G) (pair (counts k) G)
    (least (mass_to k F) (pair (counts k) F) (pair (counts k) G) (counted-exactly k F p) (h.at (counts k) (counts k) (counts-covered k))) (counted-below k G)

-- ---- the laws

pub mass-is-below : MassIsBelow
mass-is-below k s h H d e b = mass-bounded k s H d (to_Bounds k s H (λ x l. rw (e x l) (b x l)))

pub series-mass-is-below : SeriesMassIsBelow
series-mass-is-below k m s h H v e b = mass-is-below k s h H (series-distinct m s v) e b

coefficient-within : (k : ℕ) (H : Sum) (x : Key) → degree x ≤ k → nat_abs (coef H x) ≤ mass_to k H
coefficient-within k [] x l = omega arith
coefficient-within k (t ∷ H) x l = go (key_eq t.0 x) refl (nat_le (degree t.0) k) refl (coefficient-within k H x l)
  where
    low : (d : ℕ) → nat_le d k ≡ false → k < d
    low d e = grind arith

    go : (b : Bool) → key_eq t.0 x ≡ b → (c : Bool) → nat_le (degree t.0) k ≡ c → nat_abs (coef H x) ≤ mass_to k H → nat_abs (cond b t.1 (pos 0) +ℤ coef H x) ≤ part c t.1 + mass_to k H
    go true e true f h = omega (arith, ints, h)
    go true e false f h = absurd (omega (arith, ap degree (key_eq-same t.0 x e), low (degree t.0) f, l))
    go false e true f h = omega (arith, ints, h)
    go false e false f h = omega (arith, ints, h)

pub coefficient-is-below : CoefficientIsBelow
coefficient-is-below k h H x l b = let p = b x l in let q = coefficient-within k H x l in omega (arith, ints, p, q)

pub coef-absolute : (s : Sum) → HasDistinctKeys s → (y : Key) → coef (absolute s) y ≡ pos (nat_abs (coef s y))
coef-absolute [] d y = refl
coef-absolute (t ∷ s) d y = go (key_eq t.0 y) refl (coef-absolute s d.1 y)
  where
    go : (b : Bool) → key_eq t.0 y ≡ b → coef (absolute s) y ≡ pos (nat_abs (coef s y)) → coef (absolute (t ∷ s)) y ≡ pos (nat_abs (coef (t ∷ s) y))
    go true e h = let a : coef s y ≡ pos 0 = subst (λ (x : Key). coef s x ≡ pos 0) (key_eq-same t.0 y e) (absent s t.0 d.0) in rw (e, h, a) (omega (arith, ints))
    go false e h = rw (e, h) (omega (arith, ints))

pub series-absolute-is-below : SeriesAbsoluteIsBelow
series-absolute-is-below k m s h H v e b y l = rw (coef-absolute s (series-distinct m s v) y) (within (coef s y) (coef h y) (coef H y) (e y l) (b y l))
  where
    within : (a c d : ℤ) → a ≡ c → pos (nat_abs c) ≤ℤ d → pos (nat_abs (pos (nat_abs a))) ≤ℤ d
    within a c d p q = rw p q

pub crossing-is-light : CrossingIsLight
crossing-is-light k m n d f s g x w e v q =
    series-mass-is-below k n x (cross k d f s g) (cross_majorant k d f (absolute g)) v q
    (crossing-is-below k m d f s g (absolute g) w e (absolute-is-above k g))

pub majorant-mass-is-monotone : MajorantMassIsMonotone
majorant-mass-is-monotone k d f F G p h = mass-bounded_list k _ _ (majorant-stays-nonnegative k d f F p) (bounds-majorant k d f F G (to_Bounds k F G h))
