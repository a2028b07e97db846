-- The sums of the products of pairs are the bracket.
use Rattle.std.proofs.Common.{◌≡◌, ◌≢◌, ℕ, refl, sym, subst, ap, ◌∙◌, Bool, true, false, cond, List, [], ◌∷◌, arith}
use Rattle.std.specs.Prelude.{ℤ, pos, ◌*ℤ◌, IsTrue, map, filter, not}
use Rattle.std.proofs.lemmas.Int.{ints}
use Rattle.sum_algebra.proofs.Ring.{nought, unit, ring}
use Rattle.sum_algebra.proofs.IntegerRing.{ints_ring, ◌:*◌, X}
use Rattle.sum_algebra.proofs.Integers.{positive-mul}
use Rattle.scattering.specs.Collections.{Every, EveryPair}
use Rattle.scattering.specs.Series.{Key, origin, int_eq, key_eq, key_before}
use Rattle.scattering.specs.Correction.{Ratio, IsRatio, Lie, ratio_at}
use Rattle.scattering.proofs.Keys.{key_eq-same, int_eq-same}
use Rattle.scattering.proofs.Lists.{Every-implies, Every-append}
use Rattle.scattering.proofs.StrictOrders.{apart}
use Rattle.completion_theory.proofs.UniqueCorrection.{ratio-is}
use Rattle.vertex_lie.specs.Shown.{of_key, coefficient_of, lie_of, IsArranged}
use Rattle.vertex_lie.specs.RationalBracket.{AreSame, term_product, is_kept, row, products, RowProductsFit, zero_ratio, sum_from, SumsFit, values_at, AreValues, IsSummed, IsBracketOf, BracketFits}
use Rattle.vertex_lie.proofs.OfKey.{Every-same}
use Rattle.vertex_lie.proofs.Arranged.{Item}
use Rattle.vertex_lie.proofs.EqualRatios.{Positive, AllPositive, AllSame, same-trans, sum-same, sum-positive, sums-same}
use Rattle.vertex_lie.proofs.RunningSums.{positive-values, values-positive, ratio_at-absent}
use Rattle.vertex_lie.proofs.PairProducts.{products-move, row-every}

abbrev Coefficient : Type 0
Coefficient = Key × Ratio

-- ---- products have the same values in lowest terms

values-same : (f h : Lie) → AreValues f h → (k : Key) → AllSame (values_at k f) (values_at k h)
values-same [] [] v k = tt
values-same [] (u ∷ h) v k = absurd v
values-same (t ∷ f) [] v k = absurd v
values-same (t ∷ f) (u ∷ h) v k = go (key_eq t.0 k) (key_eq u.0 k) (ap (λ (l : Key). key_eq l k) v.0) (values-same f h v.2 k)
  where
    go : (b c : Bool) → b ≡ c → AllSame (values_at k f) (values_at k h) → AllSame (map (λ t. t.1) (cond b (t ∷ of_key k f) (of_key k f))) (map (λ t. t.1) (cond c (u ∷ of_key k h) (of_key k h)))
    go true true e i = (sym v.1, i)
    go true false e i = absurd (cc)
    go false true e i = absurd (cc)
    go false false e i = i

all-flip : (rs ss : List Ratio) → AllSame rs ss → AllSame ss rs
all-flip [] [] a = tt
all-flip [] (s ∷ ss) a = absurd a
all-flip (r ∷ rs) [] a = absurd a
all-flip (r ∷ rs) (s ∷ ss) a = (sym a.0, all-flip rs ss a.1)

values-keys : (P : Key → Type 0) (f h : Lie) → AreValues f h → Every (λ t. P t.0) f → Every (λ t. P t.0) h
values-keys P [] [] v e = tt
values-keys P [] (u ∷ h) v e = absurd v
values-keys P (t ∷ f) [] v e = absurd v
values-keys P (t ∷ f) (u ∷ h) v e = (subst P v.0 e.0, values-keys P f h v.2 e.1)

pub products-positive : (n : ℕ) (f g : Lie) → Every (λ t. IsRatio t.1) f → Every (λ t. IsRatio t.1) g → Every (λ t. Positive t.1) (products n f g)
products-positive n [] g r s = tt
products-positive n (t ∷ f) g r s =
    Every-append (λ t. Positive t.1) (row n t g) (products n f g)
    (row-every (λ t. Positive t.1) n t g (Every-implies (λ (u : Coefficient). IsRatio u.1) (λ u. is_kept n t.0 u.0 ≡ true → Positive (term_product t u).1) g (λ u i k. positive-mul t.1.den u.1.den r.0.below i.below) s))
    (products-positive n f g r.1 s)

-- ---- without terms that are 0

abbrev pub is_nonzero : Coefficient → Bool
is_nonzero t = not (int_eq t.1.num (pos 0))

every-kept : (P : Coefficient → Type 0) (h : Lie) → Every P h → Every P (filter is_nonzero h)
every-kept P [] e = tt
every-kept P (t ∷ h) e = go (is_nonzero t) (every-kept P h e.1)
  where
    go : (b : Bool) → Every P (filter is_nonzero h) → Every P (cond b (t ∷ filter is_nonzero h) (filter is_nonzero h))
    go true i = (e.0, i)
    go false i = i

rises-kept : (h : Lie) → EveryPair (λ t u. IsTrue (key_before t.0 u.0)) h → EveryPair (λ t u. IsTrue (key_before t.0 u.0)) (filter is_nonzero h)
rises-kept [] r = tt
rises-kept (t ∷ h) r = go (is_nonzero t) (rises-kept h r.1)
  where
    go : (b : Bool) → EveryPair (λ t u. IsTrue (key_before t.0 u.0)) (filter is_nonzero h) → EveryPair (λ t u. IsTrue (key_before t.0 u.0)) (cond b (t ∷ filter is_nonzero h) (filter is_nonzero h))
    go true i = (every-kept (λ u. IsTrue (key_before t.0 u.0)) h r.0, i)
    go false i = i

nonzero-kept : (h : Lie) → Every (λ t. t.1.num ≢ pos 0) (filter is_nonzero h)
nonzero-kept [] = tt
nonzero-kept (t ∷ h) = go (is_nonzero t) refl (nonzero-kept h)
  where
    go : (b : Bool) → is_nonzero t ≡ b → Every (λ t. t.1.num ≢ pos 0) (filter is_nonzero h) → Every (λ t. t.1.num ≢ pos 0) (cond b (t ∷ filter is_nonzero h) (filter is_nonzero h))
    go true e i = ((λ z. let f : not (int_eq (pos 0) (pos 0)) ≡ true = subst (λ (x : ℤ). not (int_eq x (pos 0)) ≡ true) z e in absurd (cc)), i)
    go false e i = i

zero-same : (r : Ratio) → r.num ≡ pos 0 → AreSame zero_ratio r
zero-same r z = ring ints_ring (r.den ∷ []) (nought :* X) (nought :* unit) refl ∙ ap (λ x. x *ℤ pos 1) (sym z)

was-zero : (x : ℤ) → not (int_eq x (pos 0)) ≡ false → x ≡ pos 0
was-zero x e = int_eq-same x (pos 0) (back (int_eq x (pos 0)) e)
  where
    back : (b : Bool) → not b ≡ false → b ≡ true
    back true f = refl
    back false f = absurd (cc)

ratio-kept : (h : Lie) → EveryPair (λ t u. IsTrue (key_before t.0 u.0)) h → (k : Key) → AreSame (ratio_at (filter is_nonzero h) k) (ratio_at h k)
ratio-kept [] r k = refl
ratio-kept (t ∷ h) r k = go (is_nonzero t) (key_eq t.0 k) refl refl (ratio-kept h r.1 k)
  where
    others : key_eq t.0 k ≡ true → Every (λ u. key_eq u.0 k ≡ false) (filter is_nonzero h)
    others e = every-kept (λ u. key_eq u.0 k ≡ false) h (Every-implies (λ (u : Coefficient). IsTrue (key_before t.0 u.0)) (λ u. key_eq u.0 k ≡ false) h (λ u b. apart k u.0 (subst (λ (l : Key). key_before l u.0 ≡ true) (key_eq-same t.0 k e) b)) r.0)

    go : (b c : Bool) → is_nonzero t ≡ b → key_eq t.0 k ≡ c → AreSame (ratio_at (filter is_nonzero h) k) (ratio_at h k) → AreSame (ratio_at (cond b (t ∷ filter is_nonzero h) (filter is_nonzero h)) k) (cond c t.1 (ratio_at h k))
    go true true e f i = rw f refl
    go true false e f i = rw f i
    go false true e f i = rw (ratio_at-absent (filter is_nonzero h) k (others f)) (zero-same t.1 (was-zero t.1.num e))
    go false false e f i = i

pub lie_of-kept : (xs : List Item) → lie_of (filter (λ t. not (int_eq t.1.num (pos 0))) xs) ≡ filter is_nonzero (lie_of xs)
lie_of-kept [] = refl
lie_of-kept (t ∷ xs) = go (not (int_eq t.1.num (pos 0))) (lie_of-kept xs)
  where
    go : (b : Bool) → lie_of (filter (λ t. not (int_eq t.1.num (pos 0))) xs) ≡ filter is_nonzero (lie_of xs)
        → lie_of (cond b (t ∷ filter (λ t. not (int_eq t.1.num (pos 0))) xs) (filter (λ t. not (int_eq t.1.num (pos 0))) xs)) ≡ cond b (coefficient_of t ∷ filter is_nonzero (lie_of xs)) (filter is_nonzero (lie_of xs))
    go true i = ap (λ h. coefficient_of t ∷ h) i
    go false i = i

-- ---- all of it

module _ (n : ℕ) (f g made sorted : Lie) (rf : Every (λ t. IsRatio t.1) f) (rg : Every (λ t. IsRatio t.1) g) (rs : Every (λ t. IsRatio t.1) sorted) (v : AreValues (products n f g) made) (a : IsArranged sorted made) where
  alike : (k : Key) → AllSame (values_at k (products n f g)) (values_at k sorted)
  alike k = subst (λ (h : Lie). AllSame (values_at k (products n f g)) (map (λ t. t.1) h)) (sym (a.stable k)) (values-same (products n f g) made v k)

  one-positive : Positive zero_ratio
  one-positive = omega (arith, ints)

  products-at : (k : Key) → AllPositive (values_at k (products n f g))
  products-at = positive-values (products n f g) (products-positive n f g rf rg)

  -- where the bracket's numbers fit, so do the sums
  pub sums-fit : BracketFits n f g → (k : Key) → SumsFit zero_ratio (values_at k sorted)
  sums-fit b k = sums-same zero_ratio zero_ratio (values_at k (products n f g)) (values_at k sorted) one-positive (values-positive sorted rs k) refl (alike k) (b.sums k)

  module _ (h : Lie) (rh : Every (λ t. IsRatio t.1) h) (s : IsSummed sorted h) where
    pub bracket-fits : Every (λ t. RowProductsFit n t g) f → BracketFits n f g
    bracket-fits p = record { pairs = p; sums = λ k. sums-same zero_ratio zero_ratio (values_at k sorted) (values_at k (products n f g)) one-positive (products-at k) refl (all-flip _ _ (alike k)) (s.fits k) }

    moves : Every (λ t. t.0.exp ≢ origin) h
    moves = s.exponents (Every-same (λ t. t.0.exp ≢ origin) made sorted a.stable (values-keys (λ k. k.exp ≢ origin) (products n f g) made v (products-move n f g)))

    pub bracket-of : IsBracketOf n f g (filter is_nonzero h)
    bracket-of = record {
      element = record { rises = rises-kept h s.rises; exponents = every-kept (λ t. t.0.exp ≢ origin) h moves; nonzero = nonzero-kept h; ratios = every-kept (λ t. IsRatio t.1) h rh };
      same = λ k.
          same-trans _ (ratio_at h k) _ (ratio-is h rh k).below (ratio-kept h s.rises k)
          (same-trans (ratio_at h k) (sum_from zero_ratio (values_at k sorted)) _ (sum-positive zero_ratio (values_at k sorted) one-positive (values-positive sorted rs k)) (s.same k)
          (sum-same zero_ratio zero_ratio (values_at k sorted) (values_at k (products n f g)) refl (all-flip _ _ (alike k))));
    }
