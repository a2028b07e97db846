-- Where all live walls at a point turn to one side of u, the image of z^u alone tells the correction.
use Rattle.std.proofs.Common.{◌≡◌, ◌≢◌, ℕ, zero, suc, refl, sym, subst, ap, ◌∙◌, ◌≤◌, ◌⊎◌, inl, inr, Bool, true, false, cond, List, [], ◌∷◌, add-one, arith}
use Rattle.std.specs.Prelude.{ℤ, pos, negsuc, ◌+ℤ◌, ◌-ℤ◌, ◌*ℤ◌, neg_ℤ, nat_abs}
use lib.IntN.{suc_ℤ, pred_ℤ, zero-*ℤ, suc_ℤ-*ℤ, pred_ℤ-*ℤ}
use Rattle.std.proofs.lemmas.Int.{ints}
use mathlib.Core.Quot.{mk, sound}
use Rattle.sum_algebra.proofs.Integers.{ℤ-induction}
use Rattle.sum_algebra.proofs.Ring.{var, minus, nought, unit, ring}
use Rattle.sum_algebra.proofs.IntegerRing.{ints_ring, ◌:+◌, ◌:*◌, ◌:-◌, X, Y, Z, W}
use Rattle.sum_algebra.proofs.Sums as S
use Rattle.sum_algebra.proofs.Sums.{pair, pair-ext}
use Rattle.sum_algebra.proofs.Quotient.{modulo_ring, exact}
use Rattle.sum_algebra.proofs.SmallCrossings.{Same-lower}
use Rattle.sum_algebra.proofs.Coefficients.{indicator}
use Rattle.scattering.specs.Collections.{In, Every}
use Rattle.scattering.specs.Series.{Exp, Key, Powers, Sum, degree, det, coef, key_eq, key_mul, exp_add, powers_add, int_eq, scale, origin, monomial, z, SameTo}
use Rattle.scattering.specs.Series as D
use Rattle.scattering.specs.Plane.{Point}
use Rattle.scattering.specs.Wall.{Wall}
use Rattle.scattering.specs.LocalProduct.{Half, carry, half_walls, image, axis_x, axis_y, IsConsistentAt}
use Rattle.scattering.specs.Correction.{Ratio, Lie, ratio_at, IsCorrection, IsWhole}
use Rattle.scattering.proofs.Lists.{Every-implies, Every-from_In, Every-at}
use Rattle.scattering.proofs.Keys.{int_eq-same, key_eq-same, key_eq-apart}
use Rattle.scattering.proofs.Ratios.{ratio-own}
use Rattle.scattering.proofs.Tests.{nat_case}
use Rattle.plane_theory.proofs.Directions.{zero-factor, cancel}
use Rattle.crossing_theory.proofs.Keys.{keys}
use Rattle.crossing_theory.proofs.Translation.{Eq, Eq-trans, key_test, coef-is, to_Eq}
use Rattle.crossing_theory.proofs.HalfWalls.{Proper}
use Rattle.crossing_theory.proofs.CutFunctions.{above}
use Rattle.crossing_theory.proofs.OtherFunctions.{of_halves}
use Rattle.crossing_theory.proofs.LocalProductLaws.{mul, IsAutomorphism, Eq-mul, carry-automorphism}
use Rattle.correction_theory.proofs.RayGains.{less}
use Rattle.correction_theory.proofs.LeadingDegree.{two-parts, weighted, weighted-right, coef-high, indicator-vanishes}
use Rattle.completion_theory.proofs.CorrectionExists.{correction, whole-at}
use Rattle.completion_theory.proofs.UniqueCorrection.{same-ratio, ratio-is}
use Rattle.weight_theory.specs.Laws.{HasFunction, HaveFunctions}
use Rattle.degree_theory.specs.Images.{AgreesTo, ends, keeps}
use Rattle.degree_theory.specs.OneSide.{IsOneSided, IsReadOf}
use Rattle.degree_theory.specs.Laws.{CorrectionLeavesEdge, OneImageIsEnough}
use Rattle.degree_theory.proofs.Parts.{proper-wall}
use Rattle.degree_theory.proofs.OneSide.{image-keeps-edge}
use Rattle.degree_theory.proofs.PartLaws.{image-keeps-low_degrees}

-- ---- the correction has no terms along u

none-at : (n : ℕ) (k : Key) (m : Exp) → 1 ≤ degree k → coef (monomial (z m)) (key_mul k (z m)) ≡ pos 0
none-at n k m l = go (key_eq (z m) (key_mul k (z m))) (key_eq-apart (z m, pos 1) (key_mul k (z m)) (λ e. let d = keys.deg_mul k (z m) in let f : 0 ≡ degree (key_mul k (z m)) = e in omega (arith, d, f, l)))
  where
    go : (b : Bool) → b ≡ false → cond b (pos 1) (pos 0) +ℤ pos 0 ≡ pos 0
    go true e = absurd (cc)
    go false e = refl

pub correction-leaves-edge : CorrectionLeavesEdge
correction-leaves-edge ws p n σ u h functions not_origin unit_side sided positive c =
    Every-from_In (λ t. det u t.0.exp ≢ pos 0) h (λ t i e. off t i e)
  where
    off : (t : Key × Ratio) → In t h → det u t.0.exp ≡ pos 0 → ⊥
    off t i e = (Every-at (λ t. (degree t.0 ≡ n) × (t.0.exp ≢ origin)) h t c.degrees i).1 (λ j. record { a = at_a j; b = at_b j })
      where
        deg : degree t.0 ≡ n
        deg = (Every-at (λ t. (degree t.0 ≡ n) × (t.0.exp ≢ origin)) h t c.degrees i).0

        along : (m : Exp) → det u (key_mul t.0 (z m)).exp ≡ det u m
        along m = ring ints_ring (u.a ∷ u.b ∷ t.0.exp.a ∷ t.0.exp.b ∷ m.a ∷ m.b ∷ []) (X :* (W :+ var 5) :- Y :* (Z :+ var 4)) ((X :* W :- Y :* Z) :+ (X :* var 5 :- Y :* var 4)) refl ∙ ap (λ d. d +ℤ det u m) e ∙ ring ints_ring (det u m ∷ []) (nought :+ X) X refl

        nothing : (m : Exp) → In m (axis_x ∷ axis_y ∷ []) → t.1.num *ℤ det t.0.exp m ≡ pos 0
        nothing m j =
            ap (λ (r : Ratio). r.num *ℤ det t.0.exp m) (sym (ratio-own h c.distinct t i)) ∙ sym (c.bracket m t.0 j deg)
            ∙ ap (λ a. a *ℤ (ratio_at h t.0).den)
            (image-keeps-edge ws p n σ u m (key_mul t.0 (z m)) functions not_origin unit_side sided (let d = keys.deg_mul t.0 (z m) in omega (arith, d, deg)) (along m)
            ∙ none-at n t.0 m (omega (arith, deg, positive)))
            ∙ ring ints_ring ((ratio_at h t.0).den ∷ []) (nought :* X) nought refl

        num : t.1.num ≢ pos 0
        num = Every-at (λ t. t.1.num ≢ pos 0) h t c.nonzero i

        at_a : t.0.exp.a ≡ pos 0
        at_a = ring ints_ring (t.0.exp.a ∷ t.0.exp.b ∷ []) X (X :* unit :- Y :* nought) refl ∙ zero-factor t.1.num (det t.0.exp axis_y) num (nothing axis_y (inr (inl refl)))

        at_b : t.0.exp.b ≡ pos 0
        at_b = ring ints_ring (t.0.exp.a ∷ t.0.exp.b ∷ []) Y (minus (X :* nought :- Y :* unit)) refl ∙ ap neg_ℤ (zero-factor t.1.num (det t.0.exp axis_x) num (nothing axis_x (inl refl)))

-- ---- a local product on all z^m, from what it does to both axes

module _ (n : ℕ) (θ : Sum → Sum) (auto : IsAutomorphism (suc n) θ) (ix : Eq n (θ (monomial (z axis_x))) (monomial (z axis_x))) (iy : Eq n (θ (monomial (z axis_y))) (monomial (z axis_y))) where
  abbrev Fixed : Exp → Type 0
  Fixed m = Eq n (θ (monomial (z m))) (monomial (z m))

  joined : (m l : Exp) → Eq (suc n) (θ (monomial (z (exp_add m l)))) (mul (θ (monomial (z m))) (θ (monomial (z l))))
  joined m l =
      Eq-trans (suc n) _ (θ (mul (monomial (z m)) (monomial (z l)))) _
      (auto.respects _ _ (record { at = λ φ v. refl }))
      (auto.products (monomial (z m)) (monomial (z l)))

  fixed-sum : (m l : Exp) → Fixed m → Fixed l → Fixed (exp_add m l)
  fixed-sum m l a b = Eq-trans n _ _ _ (Same-lower keys n (suc n) _ _ (omega arith) (joined m l)) (Eq-trans n _ (mul (monomial (z m)) (monomial (z l))) _ (Eq-mul n _ _ _ _ a b) (record { at = λ φ v. refl }))

  -- m, where m + l and l are fixed
  fixed-difference : (m l : Exp) → Fixed (exp_add m l) → Fixed l → Fixed m
  fixed-difference m l s b =
      exact keys n _ _
      (ring (modulo_ring keys n) (mk (θ (monomial (z m))) ∷ []) X (X :* unit) refl
      ∙ ap (λ y. (modulo_ring keys n).◌⊗◌ (mk (θ (monomial (z m)))) y) (sym inverse)
      ∙ ring (modulo_ring keys n) (mk (θ (monomial (z m))) ∷ mk (monomial (z l)) ∷ mk back ∷ []) (X :* (Y :* Z)) ((X :* Y) :* Z) refl
      ∙ ap (λ y. (modulo_ring keys n).◌⊗◌ y (mk back))
      (ap (λ y. (modulo_ring keys n).◌⊗◌ (mk (θ (monomial (z m)))) y) (sym (sound b)) ∙ sym (sound (Same-lower keys n (suc n) _ _ (omega arith) (joined m l))) ∙ sound s ∙ two-keys)
      ∙ ring (modulo_ring keys n) (mk (monomial (z m)) ∷ mk (monomial (z l)) ∷ mk back ∷ []) ((X :* Y) :* Z) (X :* (Y :* Z)) refl
      ∙ ap (λ y. (modulo_ring keys n).◌⊗◌ (mk (monomial (z m))) y) inverse
      ∙ ring (modulo_ring keys n) (mk (monomial (z m)) ∷ []) (X :* unit) X refl)
    where
      back : Sum
      back = monomial (z (record { a = neg_ℤ l.a; b = neg_ℤ l.b }))

      unit-key : key_mul (z l) (z (record { a = neg_ℤ l.a; b = neg_ℤ l.b })) ≡ D.unit
      unit-key =
          let a : l.a +ℤ neg_ℤ l.a ≡ pos 0 = omega (arith, ints) in
          let b : l.b +ℤ neg_ℤ l.b ≡ pos 0 = omega (arith, ints) in
          λ i. record { powers = D.no_powers; exp = record { a = a i; b = b i } }

      two-keys : mk (monomial (z (exp_add m l))) ≡ (modulo_ring keys n).◌⊗◌ (mk (monomial (z m))) (mk (monomial (z l)))
      two-keys = sound (record { at = λ φ v. refl })

      inverse : (modulo_ring keys n).◌⊗◌ (mk (monomial (z l))) (mk (monomial (z (record { a = neg_ℤ l.a; b = neg_ℤ l.b })))) ≡ (modulo_ring keys n).𝟙
      inverse = sound (record { at = λ φ v. ap (λ (x : Key). pos 1 *ℤ φ x +ℤ pos 0) unit-key })

  next-multiple : (e : Exp) (a : ℤ) → exp_add (scale a e) e ≡ scale (suc_ℤ a) e
  next-multiple e a =
      let p : a *ℤ e.a +ℤ e.a ≡ suc_ℤ a *ℤ e.a = sym (suc_ℤ-*ℤ a e.a) in
      let q : a *ℤ e.b +ℤ e.b ≡ suc_ℤ a *ℤ e.b = sym (suc_ℤ-*ℤ a e.b) in
      λ i. record { a = p i; b = q i }

  after-pred : (e : Exp) (a : ℤ) → exp_add (scale (pred_ℤ a) e) e ≡ scale a e
  after-pred e a = next-multiple e (pred_ℤ a) ∙ ap (λ (b : ℤ). scale b e) (back a)
    where
      back : (a : ℤ) → suc_ℤ (pred_ℤ a) ≡ a
      back (pos zero) = refl
      back (pos (suc n)) = refl
      back (negsuc n) = refl

  none-more : (e : Exp) → exp_add (scale (pos 0) e) e ≡ e
  none-more e =
      let p : pos 0 *ℤ e.a +ℤ e.a ≡ e.a = ring ints_ring (e.a ∷ []) (nought :* X :+ X) X refl in
      let q : pos 0 *ℤ e.b +ℤ e.b ≡ e.b = ring ints_ring (e.b ∷ []) (nought :* X :+ X) X refl in
      λ i. record { a = p i; b = q i }

  fixed-multiple : (e : Exp) → Fixed e → (a : ℤ) → Fixed (scale a e)
  fixed-multiple e h a =
      ℤ-induction (λ a. Fixed (scale a e))
      (fixed-difference (scale (pos 0) e) e (subst Fixed (sym (none-more e)) h) h)
      (λ a i. subst Fixed (next-multiple e a) (fixed-sum (scale a e) e i h))
      (λ a i. fixed-difference (scale (pred_ℤ a) e) e (subst Fixed (sym (after-pred e a)) i) h) a

  by-axes : (u : Exp) → exp_add (scale u.a axis_x) (scale u.b axis_y) ≡ u
  by-axes u =
      let p : u.a *ℤ pos 1 +ℤ u.b *ℤ pos 0 ≡ u.a = ring ints_ring (u.a ∷ u.b ∷ []) (X :* unit :+ Y :* nought) X refl in
      let q : u.a *ℤ pos 0 +ℤ u.b *ℤ pos 1 ≡ u.b = ring ints_ring (u.a ∷ u.b ∷ []) (X :* nought :+ Y :* unit) Y refl in
      λ i. record { a = p i; b = q i }

  -- ---- at a key of degree n + 1

  module _ (k : Key) (deg : degree k ≡ suc n) where
    abbrev at : Exp → ℤ
    at m = coef (θ (monomial (z m))) (key_mul k (z m))

    less-one : (m l : Exp) → less (key_mul k (z (exp_add m l))) m ≡ key_mul k (z l)
    less-one m l =
        let a : k.exp.a +ℤ (m.a +ℤ l.a) -ℤ m.a ≡ k.exp.a +ℤ l.a = ring ints_ring (k.exp.a ∷ m.a ∷ l.a ∷ []) (X :+ (Y :+ Z) :- Y) (X :+ Z) refl in
        let b : k.exp.b +ℤ (m.b +ℤ l.b) -ℤ m.b ≡ k.exp.b +ℤ l.b = ring ints_ring (k.exp.b ∷ m.b ∷ l.b ∷ []) (X :+ (Y :+ Z) :- Y) (X :+ Z) refl in
        λ i. record { powers = powers_add k.powers D.no_powers; exp = record { a = a i; b = b i } }

    less-other : (m l : Exp) → less (key_mul k (z (exp_add m l))) l ≡ key_mul k (z m)
    less-other m l =
        let a : k.exp.a +ℤ (m.a +ℤ l.a) -ℤ l.a ≡ k.exp.a +ℤ m.a = ring ints_ring (k.exp.a ∷ m.a ∷ l.a ∷ []) (X :+ (Y :+ Z) :- Z) (X :+ Y) refl in
        let b : k.exp.b +ℤ (m.b +ℤ l.b) -ℤ l.b ≡ k.exp.b +ℤ m.b = ring ints_ring (k.exp.b ∷ m.b ∷ l.b ∷ []) (X :+ (Y :+ Z) :- Z) (X :+ Y) refl in
        λ i. record { powers = powers_add k.powers D.no_powers; exp = record { a = a i; b = b i } }

    sum-at : (m l : Exp) → Fixed m → Fixed l → at (exp_add m l) ≡ at m +ℤ at l
    sum-at m l a b =
        let q : Key = key_mul k (z (exp_add m l)) in
        let g : Sum = θ (monomial (z m)) in
        let h : Sum = θ (monomial (z l)) in
        let dq : degree q ≡ suc n = (let d = keys.deg_mul k (z (exp_add m l)) in omega (arith, d, deg)) in
        let van = indicator-vanishes (suc n) q (omega (arith, dq)) in
        coef-is (θ (monomial (z (exp_add m l)))) q ∙ (joined m l).at (indicator key_test q) van
        ∙ S.pair-mul keys (indicator key_test q) g h
        ∙ pair-ext _ _ g (λ u. pair-ext _ _ h (λ w. ring ints_ring (indicator key_test q (key_mul u w) ∷ []) X (unit :* X) refl))
        ∙ two-parts n (z m) (z l) (omega arith) (omega arith) g h a b (λ _ _. pos 1) (indicator key_test q) van (omega arith)
        ∙ ap (λ c. pos 1 *ℤ indicator key_test q (key_mul (z m) (z l)) +ℤ c +ℤ pair (λ u. pos 1 *ℤ indicator key_test q (key_mul u (z l))) (above n g))
        (weighted (λ _. pos 1) m q (above n h) ∙ ap (λ c. pos 1 *ℤ c) (coef-high n h (less q m) (omega (arith, dq)) ∙ ap (coef h) (less-one m l)))
        ∙ ap (λ c. pos 1 *ℤ indicator key_test q (key_mul (z m) (z l)) +ℤ pos 1 *ℤ at l +ℤ c)
        (weighted-right (λ _. pos 1) l q (above n g) ∙ ap (λ c. pos 1 *ℤ c) (coef-high n g (less q l) (omega (arith, dq)) ∙ ap (coef g) (less-other m l)))
        ∙ ap (λ c. pos 1 *ℤ c +ℤ pos 1 *ℤ at l +ℤ pos 1 *ℤ at m) (unseen q dq)
        ∙ ring ints_ring (at m ∷ at l ∷ []) (unit :* nought :+ unit :* Y :+ unit :* X) (X :+ Y) refl
      where
        unseen : (q : Key) → degree q ≡ suc n → indicator key_test q (key_mul (z m) (z l)) ≡ pos 0
        unseen q d = ap (λ b. cond b (pos 1) (pos 0)) (key_eq-apart (key_mul (z m) (z l), pos 1) q (λ e. let f : 0 ≡ degree q = e in omega (arith, d, f)))

    multiple-at : (e : Exp) → Fixed e → (a : ℤ) → at (scale a e) ≡ a *ℤ at e
    multiple-at e h a =
        ℤ-induction (λ a. at (scale a e) ≡ a *ℤ at e)
        (let s = sum-at (scale (pos 0) e) e (fixed-multiple e h (pos 0)) h in let t = ap at (none-more e) in
        nothing (at (scale (pos 0) e)) (at e) (sym s ∙ t))
        (λ a i. sym (ap at (next-multiple e a)) ∙ sum-at (scale a e) e (fixed-multiple e h a) h ∙ ap (λ c. c +ℤ at e) i ∙ sym (suc_ℤ-*ℤ a (at e)))
        (λ a i.
        let s = sum-at (scale (pred_ℤ a) e) e (fixed-multiple e h (pred_ℤ a)) h in
        before-last (at (scale (pred_ℤ a) e)) (at e) (a *ℤ at e) (sym s ∙ ap at (after-pred e a) ∙ i) ∙ sym (pred_ℤ-*ℤ a (at e))) a
      where
        nothing : (x y : ℤ) → x +ℤ y ≡ y → x ≡ pos 0 *ℤ y
        nothing x y q = let r : x ≡ pos 0 = omega (arith, ints, q) in r ∙ sym (zero-*ℤ y)

        before-last : (x y s : ℤ) → x +ℤ y ≡ s → x ≡ s -ℤ y
        before-last x y s q = omega (arith, ints, q)

    -- z^u, by both axes
    pub any-at : (u : Exp) → at u ≡ u.a *ℤ at axis_x +ℤ u.b *ℤ at axis_y
    any-at u =
        sym (ap at (by-axes u)) ∙ sum-at (scale u.a axis_x) (scale u.b axis_y) (fixed-multiple axis_x ix u.a) (fixed-multiple axis_y iy u.b)
        ∙ ap (λ c. c +ℤ at (scale u.b axis_y)) (multiple-at axis_x ix u.a) ∙ ap (λ c. u.a *ℤ at axis_x +ℤ c) (multiple-at axis_y iy u.b)

    pub told-at : (num den : ℤ) → at axis_x *ℤ den ≡ num *ℤ det k.exp axis_x → at axis_y *ℤ den ≡ num *ℤ det k.exp axis_y → (u : Exp) → at u *ℤ den ≡ num *ℤ det k.exp u
    told-at num den x y u =
        ap (λ c. c *ℤ den) (any-at u)
        ∙ ring ints_ring (u.a ∷ u.b ∷ at axis_x ∷ at axis_y ∷ den ∷ []) ((X :* Z :+ Y :* W) :* var 4) (X :* (Z :* var 4) :+ Y :* (W :* var 4)) refl
        ∙ ap (λ c. u.a *ℤ c +ℤ u.b *ℤ (at axis_y *ℤ den)) x ∙ ap (λ c. u.a *ℤ (num *ℤ det k.exp axis_x) +ℤ u.b *ℤ c) y
        ∙ ring ints_ring (u.a ∷ u.b ∷ k.exp.a ∷ k.exp.b ∷ num ∷ []) (X :* (var 4 :* (Z :* nought :- W :* unit)) :+ Y :* (var 4 :* (Z :* unit :- W :* nought))) (var 4 :* (Z :* Y :- W :* X)) refl

-- ---- one image is enough

-- a key with a property that no term has
ratio-without : (P : Key → Type 0) (h : Lie) → Every (λ t. P t.0) h → (k : Key) → (P k → ⊥) → ratio_at h k ≡ record { num = pos 0; den = pos 1 }
ratio-without P [] d k off = refl
ratio-without P (t ∷ h) d k off = go (key_eq t.0 k) refl (ratio-without P h d.1 k off)
  where
    go : (b : Bool) → key_eq t.0 k ≡ b → ratio_at h k ≡ record { num = pos 0; den = pos 1 } → ratio_at (t ∷ h) k ≡ record { num = pos 0; den = pos 1 }
    go true e f = absurd (off (subst P (key_eq-same t.0 k e) d.0))
    go false e f = rw e f

same-halves : (e : ℕ) (hs : List Half) → AgreesTo e hs hs
same-halves e [] = ends
same-halves e (h ∷ hs) = keeps h h refl refl (λ x l. refl) (same-halves e hs)

module _ (ws : List Wall) (p : Point) (n : ℕ) (σ : ℤ) (u : Exp) (h : Lie) (functions : HaveFunctions ws) (not_origin : u ≢ origin) (unit_side : nat_abs σ ≡ 1) (sided : IsOneSided ws p σ u)
    (consistent : IsConsistentAt ws n p) (c : IsReadOf ws p (suc n) u h) where
  pr : Every Proper ws
  pr = Every-implies HasFunction Proper ws proper-wall functions

  halves-have : Every (λ h. HasFunction h.wall) (half_walls ws p)
  halves-have = of_halves HasFunction p ws functions

  low : (m : Exp) → SameTo n (image ws p n m) (monomial (z m)) → Eq n (image ws p (suc n) m) (monomial (z m))
  low m s =
      Eq-trans n _ (image ws p n m) _
      (to_Eq n _ _ (image-keeps-low_degrees (suc n) n n (half_walls ws p) (half_walls ws p) (monomial (z m)) (monomial (z m)) halves-have halves-have (omega arith) (omega arith) (same-halves n (half_walls ws p)) (λ x l. refl)))
      (to_Eq n _ _ s)

  ix : Eq n (image ws p (suc n) axis_x) (monomial (z axis_x))
  ix = low axis_x consistent.x

  iy : Eq n (image ws p (suc n) axis_y) (monomial (z axis_y))
  iy = low axis_y consistent.y

  known : (h' : Lie) × IsCorrection ws p (suc n) h' × Every IsWhole h'
  known = correction n ws p pr ix iy

  told : (h' : Lie) → IsCorrection ws p (suc n) h' → (k : Key) → degree k ≡ suc n → coef (image ws p (suc n) u) (key_mul k (z u)) *ℤ (ratio_at h' k).den ≡ (ratio_at h' k).num *ℤ det k.exp u
  told h' d k deg =
      told-at n (carry (suc n) (half_walls ws p)) (carry-automorphism (suc n) (half_walls ws p) (of_halves Proper p ws pr)) ix iy k deg (ratio_at h' k).num (ratio_at h' k).den
      (d.bracket axis_x k (inl refl) deg) (d.bracket axis_y k (inr (inl refl)) deg) u

  balanced : (a rn rd sn sd t : ℤ) → t ≢ pos 0 → a *ℤ rd ≡ rn *ℤ t → a *ℤ sd ≡ sn *ℤ t → rn *ℤ sd ≡ sn *ℤ rd
  balanced a rn rd sn sd t o e f =
      cancel t (rn *ℤ sd) (sn *ℤ rd) o
      (ring ints_ring (t ∷ rn ∷ sd ∷ []) (X :* (Y :* Z)) ((Y :* X) :* Z) refl ∙ ap (λ x. x *ℤ sd) (sym e)
      ∙ ring ints_ring (a ∷ rd ∷ sd ∷ []) ((X :* Y) :* Z) ((X :* Z) :* Y) refl ∙ ap (λ x. x *ℤ rd) f
      ∙ ring ints_ring (t ∷ sn ∷ rd ∷ []) ((Y :* X) :* Z) (X :* (Y :* Z)) refl)

  det-swap : (d e : Exp) → det d e ≡ neg_ℤ (det e d)
  det-swap d e = ring ints_ring (d.a ∷ d.b ∷ e.a ∷ e.b ∷ []) (X :* W :- Y :* Z) (minus (Z :* Y :- W :* X)) refl

  same-ratios : (h' : Lie) → IsCorrection ws p (suc n) h' → (k : Key) → ratio_at h' k ≡ ratio_at h k
  same-ratios h' d k = go (nat_case (degree k) (suc n)) (int_eq (det u k.exp) (pos 0)) refl
    where
      off : (g : Lie) → Every (λ t. (degree t.0 ≡ suc n) × (det u t.0.exp ≢ pos 0)) g → ((degree k ≡ suc n) × (det u k.exp ≢ pos 0) → ⊥) → ratio_at g k ≡ record { num = pos 0; den = pos 1 }
      off g a o = ratio-without (λ x. (degree x ≡ suc n) × (det u x.exp ≢ pos 0)) g a k o

      terms' : Every (λ t. (degree t.0 ≡ suc n) × (det u t.0.exp ≢ pos 0)) h'
      terms' = Every-from_In _ h' (λ t i. (
        (Every-at (λ t. (degree t.0 ≡ suc n) × (t.0.exp ≢ origin)) h' t d.degrees i).0,
        Every-at (λ t. det u t.0.exp ≢ pos 0) h' t (correction-leaves-edge ws p (suc n) σ u h' functions not_origin unit_side sided (omega arith) d) i,
      ))

      go : (degree k ≡ suc n) ⊎ (degree k ≢ suc n) → (b : Bool) → int_eq (det u k.exp) (pos 0) ≡ b → ratio_at h' k ≡ ratio_at h k
      go (inr o) b e = off h' terms' (λ q. o q.0) ∙ sym (off h c.degrees (λ q. o q.0))
      go (inl deg) true e = off h' terms' (λ q. q.1 (int_eq-same (det u k.exp) (pos 0) e)) ∙ sym (off h c.degrees (λ q. q.1 (int_eq-same (det u k.exp) (pos 0) e)))
      go (inl deg) false e =
          same-ratio (ratio_at h' k) (ratio_at h k) (ratio-is h' d.ratios k) (ratio-is h c.ratios k)
          (balanced (coef (image ws p (suc n) u) (key_mul k (z u))) (ratio_at h' k).num (ratio_at h' k).den (ratio_at h k).num (ratio_at h k).den (det k.exp u) apart (told h' d k deg) (c.bracket k deg))
        where
          apart : det k.exp u ≢ pos 0
          apart q =
              let z : det u k.exp ≡ pos 0 = det-swap u k.exp ∙ ap neg_ℤ q in
              let y : int_eq (det u k.exp) (pos 0) ≡ true = subst (λ (x : ℤ). int_eq x (pos 0) ≡ true) (sym z) refl in absurd (cc)

  pub enough : IsCorrection ws p (suc n) h × Every IsWhole h
  enough =
      let d = known.1 in (
        record {
          ratios = c.ratios;
          nonzero = c.nonzero;
          distinct = c.distinct;
          degrees = Every-implies (λ t. (degree t.0 ≡ suc n) × (det u t.0.exp ≢ pos 0)) (λ t. (degree t.0 ≡ suc n) × (t.0.exp ≢ origin)) h
              (λ t q. (q.0, λ o. q.1 (ap (λ (e : Exp). det u e) o ∙ ring ints_ring (u.a ∷ u.b ∷ []) (X :* nought :- Y :* nought) nought refl))) c.degrees;
          bracket = λ m k i deg. subst (λ (r : Ratio). coef (image ws p (suc n) m) (key_mul k (z m)) *ℤ r.den ≡ r.num *ℤ det k.exp m) (same-ratios known.0 d k) (d.bracket m k i deg);
        },
        Every-from_In IsWhole h (λ t i. subst (λ (r : Ratio). IsWhole (t.0, r)) (same-ratios known.0 d t.0 ∙ ratio-own h c.distinct t i) (whole-at known.0 known.2 t.0)),
      )

pub one-image-is-enough : OneImageIsEnough
one-image-is-enough ws p n σ u h functions not_origin unit_side sided consistent =
    subst (λ j. IsReadOf ws p j u h → IsCorrection ws p j h × Every IsWhole h) (sym (add-one n)) (enough ws p n σ u h functions not_origin unit_side sided consistent)
