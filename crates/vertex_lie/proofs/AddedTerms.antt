-- A step of the sums, over terms of the program.
use Rattle.std.proofs.Common.{◌≡◌, ◌≢◌, sym, subst, ap, ◌∙◌, ℕ, zero, suc, ◌+◌, ◌<◌, List, [], ◌∷◌, ◌++◌, length, get_or, drop, arith, add-one, Bool, true, false, FitsSigned}
use Rattle.std.specs.Prelude.{pos, ◌==◌, ◌+ℤ◌, ◌*ℤ◌}
use Rattle.std.specs.Int.{w128}
use Rattle.scattering.specs.Collections.{Every}
use Rattle.scattering.specs.Series.{Key, origin, key_before}
use Rattle.scattering.specs.Correction.{Ratio, IsRatio, Lie, ratio_at}
use Rattle.frac_128.specs.declared.Fraction.{Fraction}
use Rattle.frac_128.specs.Quotient.{AreEqual, SumFits}
use Rattle.trunc_series.specs.Shown.{key_of}
use Rattle.vertex_lie.specs.Shown.{ratio_of, coefficient_of, lie_of, Ascends}
use Rattle.vertex_lie.specs.RationalBracket.{IsSumWith, AddFits, SumsFit, values_at, zero_ratio}
use Rattle.std.specs.Ordering.{is_lt}
use Rattle.std.specs.declared.cmp.Ordering.{Ordering}
use Rattle.trunc_series.specs.Reduced.{key_order}
use Rattle.vertex_lie.proofs.Arranged.{Item, less-is, ratios-lowest}
use Rattle.vertex_lie.proofs.EqualRatios.{add-from, add-gives, add-zero, zero-lowest}
use Rattle.completion_theory.proofs.UniqueCorrection.{same-ratio}
use Rattle.scattering.proofs.KeyOrder.{key_before-irrefl}
use Rattle.trunc_series.specs.declared.key.Key.{Key as CodeKey}
use Rattle.vertex_lie.proofs.RunningSums.{IsRunning, begins-at_zero, runs, onward-first, Rises, none-yet, added-after, last-is, added-to_last}
use Rattle.vertex_lie.proofs.PairProducts.{lie_of-append, lie_of-drop}

-- the answer of a test of two keys
pub tested : (k l : Key) (o : Ordering) (r b : Bool) → o ≡ key_order k l → r ≡ is_lt o → r ≡ b → key_before k l ≡ b
tested k l o r b e f g = sym (less-is k l) ∙ ap is_lt (sym e) ∙ sym f ∙ g

pub fraction-ratio : (f : Fraction) → IsRatio (ratio_of f)
fraction-ratio f = record { below = f.lowest.positive; lowest = f.lowest.coprime }

module _ (out : List Item) (s t : Item) (r : Rises (lie_of (out ++ s ∷ []))) where
  split : lie_of (out ++ s ∷ []) ≡ lie_of out ++ coefficient_of s ∷ []
  split = lie_of-append out (s ∷ [])

  rises : Rises (lie_of out ++ coefficient_of s ∷ [])
  rises = subst Rises (lie_of-append out (s ∷ [])) r

  module _ (b : key_before (key_of s.0) (key_of t.0) ≡ true) where
    pub step-after : IsSumWith (coefficient_of t) (lie_of (out ++ s ∷ [])) (lie_of ((out ++ s ∷ []) ++ t ∷ []))
    step-after =
        subst (λ (h : Lie). IsSumWith (coefficient_of t) (lie_of (out ++ s ∷ [])) h) (sym (lie_of-append (out ++ s ∷ []) (t ∷ [])))
        (subst (λ (h : Lie). IsSumWith (coefficient_of t) h (h ++ coefficient_of t ∷ [])) (sym split) (added-after (lie_of out) (coefficient_of s) (coefficient_of t) rises b))

    pub fits-after : FitsSigned w128 t.1.num → FitsSigned w128 t.1.den → FitsSigned w128 (pos 0) → AddFits (ratio_at (lie_of (out ++ s ∷ [])) (key_of t.0)) (ratio_of t.1)
    fits-after f g h =
        subst (λ (x : Ratio). AddFits x (ratio_of t.1)) (sym (ap (λ (l : Lie). ratio_at l (key_of t.0)) split ∙ none-yet (lie_of out) (coefficient_of s) (coefficient_of t) rises b))
        (add-zero (ratio_of t.1) (fraction-ratio t.1) f g h)

  module _ (e : key_of s.0 ≡ key_of t.0) where
    pub step-onto : (total : Fraction) → AreEqual total.num total.den (s.1.num *ℤ t.1.den +ℤ t.1.num *ℤ s.1.den) (s.1.den *ℤ t.1.den) → IsSumWith (coefficient_of t) (lie_of (out ++ s ∷ [])) (lie_of (out ++ (s.0, total) ∷ []))
    step-onto total a =
        subst (λ (h : Lie). IsSumWith (coefficient_of t) (lie_of (out ++ s ∷ [])) h) (sym (lie_of-append out ((s.0, total) ∷ [])))
        (subst (λ (h : Lie). IsSumWith (coefficient_of t) h (lie_of out ++ coefficient_of (s.0, total) ∷ [])) (sym split) (added-to_last (lie_of out) (coefficient_of s) (coefficient_of t) rises e (ratio_of total) a))

    own : ratio_at (lie_of (out ++ s ∷ [])) (key_of t.0) ≡ ratio_of s.1
    own = ap (λ (l : Lie). ratio_at l (key_of t.0)) split ∙ last-is (lie_of out) (coefficient_of s) (coefficient_of t) rises e

    pub fits-onto : SumFits s.1.num s.1.den t.1.num t.1.den → AddFits (ratio_at (lie_of (out ++ s ∷ [])) (key_of t.0)) (ratio_of t.1)
    fits-onto h = subst (λ (x : Ratio). AddFits x (ratio_of t.1)) (sym own) (add-from (ratio_of s.1) (ratio_of t.1) (fraction-ratio s.1) (fraction-ratio t.1) h)

    pub needs-onto : AddFits (ratio_at (lie_of (out ++ s ∷ [])) (key_of t.0)) (ratio_of t.1) → SumFits s.1.num s.1.den t.1.num t.1.den
    needs-onto h = add-gives (ratio_of s.1) (ratio_of t.1) (fraction-ratio s.1) (fraction-ratio t.1) (subst (λ (x : Ratio). AddFits x (ratio_of t.1)) own h)

-- ---- along the list

pub begun-at_zero : (k : CodeKey) (nought : Fraction) (all : Lie) → (Every (λ t. t.0.exp ≢ origin) all → (key_of k).exp ≢ origin) → AreEqual nought.num nought.den (pos 0) (pos 1) → IsRunning (lie_of ([] ++ (k, nought) ∷ [])) all all
begun-at_zero k nought all m e = begins-at_zero (key_of k) (ratio_of nought) all m (same-ratio (ratio_of nought) zero_ratio (fraction-ratio nought) zero-lowest e)

module _ (a out out' : List Item) (s s' d : Item) (i : ℕ) (l : i < length a) (r : IsRunning (lie_of (out ++ s ∷ [])) (lie_of (drop i a)) (lie_of a)) where
  here : IsRunning (lie_of (out ++ s ∷ [])) (coefficient_of (get_or a i d) ∷ lie_of (drop (i + 1) a)) (lie_of a)
  here = subst (λ (h : Lie). IsRunning (lie_of (out ++ s ∷ [])) h (lie_of a)) (lie_of-drop d a i l) r

  left : Every (λ t. IsRatio t.1) (coefficient_of (get_or a i d) ∷ lie_of (drop (i + 1) a))
  left = subst (Every (λ t. IsRatio t.1)) (lie_of-drop d a i l) (ratios-lowest (drop i a))

  pub next-running : IsSumWith (coefficient_of (get_or a i d)) (lie_of (out ++ s ∷ [])) (lie_of (out' ++ s' ∷ [])) → AddFits (ratio_at (lie_of (out ++ s ∷ [])) (key_of (get_or a i d).0)) (ratio_of (get_or a i d).1)
      → IsRunning (lie_of (out' ++ s' ∷ [])) (lie_of (drop (i + 1) a)) (lie_of a)
  next-running n f = runs (lie_of (out ++ s ∷ [])) (lie_of (out' ++ s' ∷ [])) (lie_of (drop (i + 1) a)) (lie_of a) (coefficient_of (get_or a i d)) (ratios-lowest (out ++ s ∷ [])) (ratios-lowest (out' ++ s' ∷ [])) left here n f

  -- where all sums fit, this one does
  pub onward-here : ((k : Key) → SumsFit zero_ratio (values_at k (lie_of a))) → AddFits (ratio_at (lie_of (out ++ s ∷ [])) (key_of (get_or a i d).0)) (ratio_of (get_or a i d).1)
  onward-here f = onward-first (lie_of (out ++ s ∷ [])) (lie_of (out ++ s ∷ [])) (lie_of (drop (i + 1) a)) (lie_of a) (coefficient_of (get_or a i d)) (ratios-lowest (out ++ s ∷ [])) (ratios-lowest (out ++ s ∷ [])) left here f

-- a term as it was read
pub read-added : (out out' : List Item) (s s' t u : Item) → t ≡ u → IsSumWith (coefficient_of t) (lie_of (out ++ s ∷ [])) (lie_of (out' ++ s' ∷ [])) → IsSumWith (coefficient_of u) (lie_of (out ++ s ∷ [])) (lie_of (out' ++ s' ∷ []))
read-added out out' s s' t u e h = subst (λ (x : Item). IsSumWith (coefficient_of x) (lie_of (out ++ s ∷ [])) (lie_of (out' ++ s' ∷ []))) e h

pub read-fits : (out : List Item) (s t u : Item) → t ≡ u → AddFits (ratio_at (lie_of (out ++ s ∷ [])) (key_of t.0)) (ratio_of t.1) → AddFits (ratio_at (lie_of (out ++ s ∷ [])) (key_of u.0)) (ratio_of u.1)
read-fits out s t u e h = subst (λ (x : Item). AddFits (ratio_at (lie_of (out ++ s ∷ [])) (key_of x.0)) (ratio_of x.1)) e h

pub read-later : (s t u : Item) → t ≡ u → key_before (key_of u.0) (key_of s.0) ≡ false → key_before (key_of t.0) (key_of s.0) ≡ false
read-later s t u e h = ap (λ (x : Item). key_before (key_of x.0) (key_of s.0)) e ∙ h

pub some-length : (n : ℕ) → false ≡ (n == 0) → 0 < n
some-length n e = grind arith

pub first-later : (k l : Key) → k ≡ l → key_before k l ≡ false
first-later k l e = subst (λ (m : Key). key_before k m ≡ false) e (key_before-irrefl k)

ascends-at : (d e : Item) (a : List Item) (i : ℕ) → suc i < length a → Ascends (lie_of a) → key_before (key_of (get_or a (suc i) d).0) (key_of (get_or a i e).0) ≡ false
ascends-at d e [] i l h = absurd (omega (arith, l))
ascends-at d e (t ∷ []) i l h = absurd (omega (arith, l))
ascends-at d e (t ∷ u ∷ a) zero l h = h.0
ascends-at d e (t ∷ u ∷ a) (suc i) l h = ascends-at d e (u ∷ a) i (omega (arith, l)) h.1

pub later-next : (d e : Item) (a : List Item) (i : ℕ) → i + 1 < length a → (k : Key) → k ≡ key_of (get_or a i e).0 → Ascends (lie_of a) → key_before (key_of (get_or a (i + 1) d).0) k ≡ false
later-next d e a i l k q h =
    subst (λ (m : Key). key_before (key_of (get_or a (i + 1) d).0) m ≡ false) (sym q)
    (subst (λ (j : ℕ). key_before (key_of (get_or a j d).0) (key_of (get_or a i e).0) ≡ false) (sym (add-one i)) (ascends-at d e a i (omega (arith, l)) h))
