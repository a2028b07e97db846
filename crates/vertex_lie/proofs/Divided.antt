-- Coefficients divided by determinants.
use Rattle.std.proofs.Common.{◌≡◌, ◌≢◌, ℕ, ◌+◌, ◌≤◌, ◌<◌, refl, sym, subst, ap, ◌∙◌, Bool, true, false, List, [], ◌∷◌, ◌++◌, length, drop, arith}
use Rattle.std.specs.Prelude.{ℤ, pos, ◌*ℤ◌, neg_ℤ, ◌≤ℤ◌, IsTrue}
use Rattle.std.proofs.lemmas.Int.{ints}
use Rattle.std.proofs.lemmas.List.{drop_all, append-nil}
use Rattle.sum_algebra.proofs.Ring.{minus, nought, unit, ring}
use Rattle.sum_algebra.proofs.IntegerRing.{ints_ring, ◌:*◌, X, Y}
use Rattle.scattering.specs.Collections.{Every, EveryPair}
use Rattle.scattering.specs.Series.{Exp, Key, Sum, key_eq, key_before, origin, int_eq, coef}
use Rattle.scattering.specs.Correction.{IsRatio, Lie, ratio_at}
use Rattle.scattering.proofs.Keys.{key_eq-same}
use Rattle.scattering.proofs.Pairing.{skip-zero}
use Rattle.plane_theory.proofs.Directions.{cancel, positive-not}
use Rattle.frac_128.specs.declared.Fraction.{Fraction}
use Rattle.frac_128.specs.Quotient.{AreEqual}
use Rattle.trunc_series.specs.declared.key.Key.{Key as CodeKey}
use Rattle.trunc_series.specs.Shown.{key_of, sum_of}
use Rattle.trunc_series.proofs.Coefficients.{Apart, coef-none_at, add-zero}
use Rattle.trunc_series.proofs.Terms.{at, sum_of-drop}
use Rattle.vertex_lie.specs.Shown.{coefficient_of, lie_of}
use Rattle.vertex_lie.specs.declared.leading_part.Axis.{Axis}
use Rattle.vertex_lie.specs.declared.leading_part.Axis.TheVariants as axis
use Rattle.vertex_lie.specs.Leading.{turn, AreQuotients}

pub zero-left : (x y d : ℤ) → pos 1 ≤ℤ d → pos 0 *ℤ x ≡ y *ℤ d → y ≡ pos 0
zero-left x y d p e =
    cancel d y (pos 0) (positive-not d p)
    (ring ints_ring (d ∷ y ∷ []) (X :* Y) (Y :* X) refl ∙ sym e ∙ ring ints_ring (x ∷ d ∷ []) (nought :* X) (Y :* nought) refl)

-- ---- what the quotients have of the terms

module _ (D : Exp → ℤ) where
  quotients-every : (P : Key → Type 0) (f : Sum) (h : Lie) → AreQuotients D f h → Every (λ t. P t.0) f → Every (λ t. P t.0) h
  quotients-every P [] [] q e = tt
  quotients-every P [] (u ∷ h) q e = absurd q
  quotients-every P (t ∷ f) [] q e = absurd q
  quotients-every P (t ∷ f) (u ∷ h) q e = (subst P q.0 e.0, quotients-every P f h q.2 e.1)

  pub quotients-keys : (P : Key → Type 0) (f : Sum) (h : Lie) → AreQuotients D f h → Every (λ t. P t.0) f → Every (λ t. P t.0) h
  quotients-keys P f h q e = quotients-every P f h q e

  pub quotients-rise : (f : Sum) (h : Lie) → AreQuotients D f h → EveryPair (λ t u. IsTrue (key_before t.0 u.0)) f → EveryPair (λ t u. IsTrue (key_before t.0 u.0)) h
  quotients-rise [] [] q r = tt
  quotients-rise [] (u ∷ h) q r = absurd q
  quotients-rise (t ∷ f) [] q r = absurd q
  quotients-rise (t ∷ f) (u ∷ h) q r = (subst (λ (k : Key). Every (λ v. IsTrue (key_before k v.0)) h) q.0 (quotients-every (λ k. IsTrue (key_before t.0 k)) f h q.2 r.0), quotients-rise f h q.2 r.1)

  pub quotients-nonzero : (f : Sum) (h : Lie) → AreQuotients D f h → Every (λ t. IsRatio t.1) h → Every (λ t. t.1 ≢ pos 0) f → Every (λ t. t.1.num ≢ pos 0) h
  quotients-nonzero [] [] q r n = tt
  quotients-nonzero [] (u ∷ h) q r n = absurd q
  quotients-nonzero (t ∷ f) [] q r n = absurd q
  quotients-nonzero (t ∷ f) (u ∷ h) q r n =
      ((λ z. n.0 (zero-left (D t.0.exp) t.1 u.1.den r.0.below (ap (λ x. x *ℤ D t.0.exp) (sym z) ∙ q.1))), quotients-nonzero f h q.2 r.1 n.1)

  pub quotients-ratio : (f : Sum) (h : Lie) → AreQuotients D f h → Apart f → (k : Key) → (ratio_at h k).num *ℤ D k.exp ≡ coef f k *ℤ (ratio_at h k).den
  quotients-ratio [] [] q a k = ring ints_ring (D k.exp ∷ []) (nought :* X) (nought :* unit) refl
  quotients-ratio [] (u ∷ h) q a k = absurd q
  quotients-ratio (t ∷ f) [] q a k = absurd q
  quotients-ratio (t ∷ f) (u ∷ h) q a k = go (key_eq u.0 k) refl (quotients-ratio f h q.2 a.1 k)
    where
      go : (b : Bool) → key_eq u.0 k ≡ b → (ratio_at h k).num *ℤ D k.exp ≡ coef f k *ℤ (ratio_at h k).den → (ratio_at (u ∷ h) k).num *ℤ D k.exp ≡ coef (t ∷ f) k *ℤ (ratio_at (u ∷ h) k).den
      go true e i =
          let s : t.0 ≡ k = q.0 ∙ key_eq-same u.0 k e in
          let c : key_eq t.0 k ≡ true = subst (λ (l : Key). key_eq l k ≡ true) (sym q.0) e in
          rw (e, c, coef-none_at t f k s a.0, add-zero t.1) (ap (λ (l : Key). u.1.num *ℤ D l.exp) (sym s) ∙ q.1)
      go false e i =
          let c : key_eq t.0 k ≡ false = subst (λ (l : Key). key_eq l k ≡ false) (sym q.0) e in
          rw (e, c, skip-zero (coef f k)) i

-- ---- the division

pub opposite-quotient : (c d num den : ℤ) → AreEqual num den (neg_ℤ c) (neg_ℤ d) → AreEqual num den c d
opposite-quotient c d num den e =
    ring ints_ring (num ∷ d ∷ []) (X :* Y) (minus (X :* minus Y)) refl ∙ ap neg_ℤ e ∙ ring ints_ring (c ∷ den ∷ []) (minus (minus X :* Y)) (X :* Y) refl

pub read-quotient : (num den c d e : ℤ) → d ≡ e → AreEqual num den c d → AreEqual num den c e
read-quotient num den c d e s h = subst (λ (x : ℤ). AreEqual num den c x) s h

-- ---- the steps of the loop

module _ (D : Exp → ℤ) where
  abbrev pub IsBegun : List (CodeKey × ℤ) → List (CodeKey × Fraction) → ℕ → Type 0
  IsBegun a out i = (rest : Lie) → AreQuotients D (sum_of (drop i a)) rest → AreQuotients D (sum_of a) (lie_of out ++ rest)

  lie_of-push : (out : List (CodeKey × Fraction)) (u : CodeKey × Fraction) (rest : Lie) → lie_of (out ++ u ∷ []) ++ rest ≡ lie_of out ++ coefficient_of u ∷ rest
  lie_of-push [] u rest = refl
  lie_of-push (v ∷ out) u rest = ap (λ r. coefficient_of v ∷ r) (lie_of-push out u rest)

  pub begun-more : (a : List (CodeKey × ℤ)) (out : List (CodeKey × Fraction)) (i : ℕ) → i < length a → (c : Fraction) → AreEqual c.num c.den (at a i).1 (D (key_of (at a i).0).exp)
      → IsBegun a out i → IsBegun a (out ++ ((at a i).0, c) ∷ []) (i + 1)
  begun-more a out i l c e h rest q =
      subst (AreQuotients D (sum_of a)) (sym (lie_of-push out ((at a i).0, c) rest))
      (h (coefficient_of ((at a i).0, c) ∷ rest) (subst (λ (f : Sum). AreQuotients D f (coefficient_of ((at a i).0, c) ∷ rest)) (sym (sum_of-drop a i l)) (refl, e, q)))

  pub begun-all : (a : List (CodeKey × ℤ)) (out : List (CodeKey × Fraction)) (i : ℕ) → length a ≤ i → IsBegun a out i → AreQuotients D (sum_of a) (lie_of out)
  begun-all a out i l h = subst (AreQuotients D (sum_of a)) (append-nil (lie_of out)) (h [] (subst (λ (x : List (CodeKey × ℤ)). AreQuotients D (sum_of x) []) (sym (drop_all i a l)) tt))

-- where the exponent isn't (0, 0), the determinant isn't 0
pub turn-nonzero : (axis : Axis) (e : Exp) → e ≢ origin → turn axis e ≢ pos 0
turn-nonzero axis.X e n t = go (int_eq e.b (pos 0)) refl
  where
    go : (b : Bool) → int_eq e.b (pos 0) ≡ b → ⊥
    go true q = let s : e.a ≡ pos 0 = rw q at t in let r : e.b ≡ pos 0 = grind (arith, ints) in n (λ i. record { a = s i; b = r i })
    go false q = let s : neg_ℤ e.b ≡ pos 0 = rw q at t in absurd (grind (arith, ints))
turn-nonzero axis.Y e n t = go (int_eq e.a (pos 0)) refl
  where
    go : (b : Bool) → int_eq e.a (pos 0) ≡ b → ⊥
    go true q = let s : neg_ℤ e.b ≡ pos 0 = rw q at t in let r : e.a ≡ pos 0 = grind (arith, ints) in let v : e.b ≡ pos 0 = omega (arith, ints, s) in n (λ i. record { a = r i; b = v i })
    go false q = let s : e.a ≡ pos 0 = rw q at t in absurd (grind (arith, ints))
