-- The values that a correction adds: at its keys, none 0, no heavier than its whole values.
use Rattle.std.proofs.Common.{◌≡◌, ◌≢◌, ℕ, zero, suc, ◌+◌, ◌≤◌, ◌<◌, refl, sym, subst, ap, ◌∙◌, Bool, true, false, List, [], ◌∷◌, ◌++◌, map, length, get_or, take, arith, inl, inr}
use Rattle.std.specs.Prelude.{ℤ, pos, neg_ℤ, ◌*ℤ◌, ◌≤ℤ◌, nat_abs, nat_le}
use Rattle.std.specs.Int.{IsGcd}
use Rattle.std.specs.List.{sum_by}
use Rattle.std.proofs.lemmas.Int.{ints}
use Rattle.std.proofs.lemmas.Nat.Gcd.{same_from_IsGcd}
use Rattle.std.proofs.lemmas.List.{take_more}
use Rattle.std.proofs.lemmas.List.Sums.{sum_by-cons}
use Rattle.sum_algebra.proofs.Ring.{minus, nought, ring}
use Rattle.sum_algebra.proofs.Ring as E
use Rattle.sum_algebra.proofs.IntegerRing.{ints_ring, ◌:+◌, ◌:*◌, X, Y}
use Rattle.limits.specs.Limits.{largest_weight}
use Rattle.scattering.specs.Collections.{In, Every, EveryPair}
use Rattle.scattering.specs.Series.{Key, Term, Sum, degree, coef, key_eq, origin, mass_to}
use Rattle.scattering.specs.Correction.{Ratio, Lie, ratio_at}
use Rattle.scattering.proofs.Lists.{Every-implies, map-append}
use Rattle.scattering.proofs.Keys.{key_eq-same}
use Rattle.scattering.proofs.Coefficients.{coef-none}
use Rattle.plane_theory.proofs.Directions.{as_multiple, zero-factor, positive-not}
use Rattle.frac_128.specs.declared.Fraction.{Fraction}
use Rattle.trunc_series.specs.declared.key.Key.{Key as CodeKey}
use Rattle.vertex_lie.specs.Shown.{coefficient_of, lie_of}
use Rattle.weight_theory.specs.Laws.{IsWholeValue, AreWhole}
use Rattle.ray_merge.specs.Additions.{IsAddedValue, AreAdded, IsRayTerm, IsAddable, IsTameElement, IsTameKey, IsLight}

-- ---- one term after another

pub lie-in : (ts : List (CodeKey × Fraction)) (i : ℕ) (t : CodeKey × Fraction) → i < length ts → t ≡ get_or ts i t → In (coefficient_of t) (lie_of ts)
lie-in [] i t l e = absurd (omega (arith, l))
lie-in (u ∷ ts) zero t l e = inl (ap coefficient_of e)
lie-in (u ∷ ts) (suc i) t l e = inr (lie-in ts i t (omega (arith, l)) e)

pub lie-more : (ts : List (CodeKey × Fraction)) (i : ℕ) (t : CodeKey × Fraction) → i < length ts → t ≡ get_or ts i t → lie_of (take (i + 1) ts) ≡ lie_of (take i ts) ++ coefficient_of t ∷ []
lie-more ts i t l e = ap lie_of (take_more ts i t l ∙ ap (λ (u : CodeKey × Fraction). take i ts ++ u ∷ []) (sym e)) ∙ map-append coefficient_of (take i ts) (t ∷ [])

pub added-push : (h : Lie) (f : Sum) (t : Key × Ratio) (u : Term) → AreAdded h f → u.0 ≡ t.0 → IsAddedValue t u.1 → AreAdded (h ++ t ∷ []) (f ++ u ∷ [])
added-push [] [] t u a e v = (e, v, tt)
added-push [] (x ∷ f) t u a e v = absurd a
added-push (s ∷ h) [] t u a e v = absurd a
added-push (s ∷ h) (x ∷ f) t u a e v = (a.0, a.1, added-push h f t u a.2 e v)

-- ---- all of them

pub added-nonzero : (h : Lie) (f : Sum) → AreAdded h f → Every (λ t. t.0.exp ≢ origin) h → Every (λ t. t.1.num ≢ pos 0) h → Every (λ u. u.1 ≢ pos 0) f
added-nonzero [] [] a o n = tt
added-nonzero [] (u ∷ f) a o n = absurd a
added-nonzero (t ∷ h) [] a o n = absurd a
added-nonzero (t ∷ h) (u ∷ f) a o n = (one t u.1 a.1 o.0 n.0, added-nonzero h f a.2 o.1 n.1)
  where
    one : (t : Key × Ratio) (v : ℤ) → IsAddedValue t v → t.0.exp ≢ origin → t.1.num ≢ pos 0 → v ≢ pos 0
    one t v a o n z =
        let m = as_multiple t.0.exp o in
        let g = above t.0 o a.0 a.1 in
        let p : pos a.0 *ℤ t.1.num ≡ pos 0 = ring ints_ring (pos a.0 ∷ t.1.num ∷ []) (X :* Y) (minus (minus (X :* Y))) refl ∙ ap neg_ℤ (sym a.2 ∙ ap (λ x. x *ℤ t.1.den) z ∙ ring ints_ring (t.1.den ∷ []) (nought :* X) nought refl) in
        n (zero-factor (pos a.0) t.1.num (positive-not (pos a.0) g) p)
      where
        above : (k : Key) → k.exp ≢ origin → (g : ℕ) → IsGcd (nat_abs k.exp.a) (nat_abs k.exp.b) g → pos 1 ≤ℤ pos g
        above k o g h = let m = as_multiple k.exp o in let e = same_from_IsGcd (nat_abs k.exp.a) (nat_abs k.exp.b) m.g g m.gcd h in subst (λ (x : ℕ). pos 1 ≤ℤ pos x) e m.positive

-- what each key of the correction has, those of its values have
pub added-keys : (P : Key → Type 0) (h : Lie) (f : Sum) → AreAdded h f → Every (λ t. P t.0) h → Every (λ u. P u.0) f
added-keys P [] [] a p = tt
added-keys P [] (u ∷ f) a p = absurd a
added-keys P (t ∷ h) [] a p = absurd a
added-keys P (t ∷ h) (u ∷ f) a p = (subst P (sym a.0) p.0, added-keys P h f a.2 p.1)

pub added-distinct : (h : Lie) (f : Sum) → AreAdded h f → EveryPair (λ t u. t.0 ≢ u.0) h → EveryPair (λ t u. t.0 ≢ u.0) f
added-distinct [] [] a d = tt
added-distinct [] (u ∷ f) a d = absurd a
added-distinct (t ∷ h) [] a d = absurd a
added-distinct (t ∷ h) (u ∷ f) a d = (added-keys (λ k. u.0 ≢ k) h f a.2 (subst (λ (x : Key). Every (λ s. x ≢ s.0) h) (sym a.0) d.0), added-distinct h f a.2 d.1)

-- the whole values are the values with their signs turned
turned-value : (t : Key × Ratio) (v : ℤ) → IsAddedValue t v → IsWholeValue t (neg_ℤ v)
turned-value t v a = (
  a.0,
  a.1,
  ring ints_ring (v ∷ t.1.den ∷ []) (minus X :* Y) (minus (X :* Y)) refl ∙ ap neg_ℤ a.2 ∙ ring ints_ring (pos a.0 ∷ t.1.num ∷ []) (minus (minus (X :* Y))) (Y :* X) refl,
)

pub turned-whole : (h : Lie) (f : Sum) → AreAdded h f → AreWhole h (map (λ u. neg_ℤ u.1) f)
turned-whole [] [] a = tt
turned-whole [] (u ∷ f) a = absurd a
turned-whole (t ∷ h) [] a = absurd a
turned-whole (t ∷ h) (u ∷ f) a = (turned-value t u.1 a.1, turned-whole h f a.2)

pub mass-turned : (n : ℕ) (f : Sum) → Every (λ t. degree t.0 ≡ n) f → mass_to n f ≡ sum_by nat_abs (map (λ u. neg_ℤ u.1) f)
mass-turned n [] d = refl
mass-turned n (u ∷ f) d =
    let s = sum_by-cons nat_abs (neg_ℤ u.1) (map (λ (u : Term). neg_ℤ u.1) f) in
    let r = mass-turned n f d.1 in
    rw (low (degree u.0) n d.0) (let e = absolute u.1 in omega (arith, s, r, e))
  where
    low : (d n : ℕ) → d ≡ n → nat_le d n ≡ true
    low d n e = grind arith

    absolute : (x : ℤ) → nat_abs (neg_ℤ x) ≡ nat_abs x
    absolute x = omega (arith, ints)

-- what bounds the sum of the whole values bounds the mass of what is added
pub added-mass : (n m : ℕ) (h : Lie) (f : Sum) → AreAdded h f → Every (λ t. degree t.0 ≡ n) f → ((vs : List ℤ) → AreWhole h vs → sum_by nat_abs vs ≤ m) → mass_to n f ≤ m
added-mass n m h f a d l = let e = mass-turned n f d in let b = l (map (λ (u : Term). neg_ℤ u.1) f) (turned-whole h f a) in omega (arith, e, b)

pub added-small : (h : Lie) (f : Sum) → AreAdded h f → IsLight h → Every (λ u. nat_abs u.1 ≤ largest_weight) f
added-small [] [] a l = tt
added-small [] (u ∷ f) a l = absurd a
added-small (t ∷ h) [] a l = absurd a
added-small (t ∷ h) (u ∷ f) a l = ((let s = l.0 (neg_ℤ u.1) (turned-value t u.1 a.1) in omega (arith, ints, s)), added-small h f a.2 l.1)

pub added-each : (n : ℕ) (h : Lie) (f : Sum) → AreAdded h f → IsAddable n h → IsTameElement n h → Every (λ u. u.1 ≢ pos 0) f → IsLight h → Every (IsRayTerm n) f
added-each n h f a ad t z l = each f z (added-small h f a l) (added-keys (λ k. degree k ≡ n) h f a (Every-implies _ _ h (λ t q. q.0) ad.degrees)) (added-keys (λ k. k.exp ≢ origin) h f a (Every-implies _ _ h (λ t q. q.1) ad.degrees)) (added-keys (IsTameKey n) h f a t)
  where
    each : (f : Sum) → Every (λ u. u.1 ≢ pos 0) f → Every (λ u. nat_abs u.1 ≤ largest_weight) f → Every (λ u. degree u.0 ≡ n) f → Every (λ u. u.0.exp ≢ origin) f → Every (λ u. IsTameKey n u.0) f → Every (IsRayTerm n) f
    each [] z s d o t = tt
    each (u ∷ f) z s d o t = (record { nonzero = z.0; small = s.0; degree = d.0; exponent = o.0; tame = t.0 }, each f z.1 s.1 d.1 o.1 t.1)

-- the coefficient at a key is the value there
pub added-values : (h : Lie) (f : Sum) → AreAdded h f → EveryPair (λ t u. t.0 ≢ u.0) h → (k : Key) → k.exp ≢ origin
    → (g : ℕ) × IsGcd (nat_abs k.exp.a) (nat_abs k.exp.b) g × (coef f k *ℤ (ratio_at h k).den ≡ neg_ℤ (pos g *ℤ (ratio_at h k).num))
added-values [] [] a d k o = let m = as_multiple k.exp o in (m.g, m.gcd, ring ints_ring (pos m.g ∷ []) (nought :* E.unit) (minus (X :* nought)) refl)
added-values [] (u ∷ f) a d k o = absurd a
added-values (t ∷ h) [] a d k o = absurd a
added-values (t ∷ h) (u ∷ f) a d k o = go (key_eq t.0 k) refl (added-values h f a.2 d.1 k o)
  where
    unlike : (x y : Key) → x ≢ y → key_eq y x ≡ false
    unlike x y h = case (key_eq y x) refl
      where
        case : (b : Bool) → key_eq y x ≡ b → key_eq y x ≡ false
        case true e = absurd (h (sym (key_eq-same y x e)))
        case false e = e

    go : (b : Bool) → key_eq t.0 k ≡ b → ((g : ℕ) × IsGcd (nat_abs k.exp.a) (nat_abs k.exp.b) g × (coef f k *ℤ (ratio_at h k).den ≡ neg_ℤ (pos g *ℤ (ratio_at h k).num)))
        → (g : ℕ) × IsGcd (nat_abs k.exp.a) (nat_abs k.exp.b) g × (coef (u ∷ f) k *ℤ (ratio_at (t ∷ h) k).den ≡ neg_ℤ (pos g *ℤ (ratio_at (t ∷ h) k).num))
    go true e r =
        let s : t.0 ≡ k = key_eq-same t.0 k e in
        let x : key_eq u.0 k ≡ true = subst (λ (y : Key). key_eq y k ≡ true) (sym a.0) e in
        let none : coef f k ≡ pos 0 = subst (λ (x : Key). coef f x ≡ pos 0) s (coef-none f t.0 (added-keys (λ x. key_eq x t.0 ≡ false) h f a.2 (Every-implies _ _ h (λ v q. unlike t.0 v.0 q) d.0))) in (
          a.1.0,
          subst (λ (x : Key). IsGcd (nat_abs x.exp.a) (nat_abs x.exp.b) a.1.0) s a.1.1,
          rw (e, x, none) (ap (λ c. c *ℤ t.1.den) (ring ints_ring (u.1 ∷ []) (X :+ nought) X refl) ∙ a.1.2),
        )
    go false e r =
        let x : key_eq u.0 k ≡ false = subst (λ (y : Key). key_eq y k ≡ false) (sym a.0) e in
        (r.0, r.1, rw (e, x) (ap (λ c. c *ℤ (ratio_at h k).den) (ring ints_ring (coef f k ∷ []) (nought :+ X) X refl) ∙ r.2))
