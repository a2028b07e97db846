-- The laws of one crossing and of two, in the words of the definitions.
use Rattle.std.proofs.Common.{◌≡◌, ℕ, refl, subst, sym, ◌∙◌, ap, [], ◌∷◌, Bool, true, false, ◌<◌, ◌+◌, arith, cond, not}
use Rattle.std.specs.Prelude.{◌&&◌, ℤ, pos, neg_ℤ, nat_le}
use Rattle.std.specs.List.{list_any}
use Rattle.sum_algebra.proofs.Ring.{minus, ring}
use Rattle.sum_algebra.proofs.IntegerRing.{ints_ring, X}
use Rattle.scattering.specs.Series.{Exp, Key, Term, Sum, det, degree, rest, int_eq, key_eq, IsWallFunction, SameTo}
use Rattle.scattering.specs.Wall.{Line, Wall, are_parallel, crosses_to}
use Rattle.scattering.specs.LocalProduct.{Half, cross, cross_half}
use Rattle.scattering.proofs.Lists.{any-false}
use Rattle.scattering.proofs.Keys.{key_eq-same}
use Rattle.crossing_theory.specs.Laws.{CrossingKeepsProducts, CrossingKeepsBrackets, CrossingKeepsCenter, CrossingIsUndone, ParallelCrossingsCommute, HighCrossingsCommute}
use Rattle.crossing_theory.proofs.Keys.{crossing-back}
use Rattle.crossing_theory.proofs.Translation.{Eq, Eq-trans, Eq-sym, from_Eq, mul-same, coef-is, key_test}
use Rattle.crossing_theory.proofs.HalfWalls.{Proper, proper-by, half, twice}
use Rattle.crossing_theory.proofs.PassivePoints.{crosses-commute}
use Rattle.crossing_theory.proofs.LocalProductLaws.{IsAutomorphism, half-automorphism, mul, brace, Vanishes, Central}
use Rattle.crossing_theory.proofs.BracketLaws.{bracket-same}
use Rattle.sum_algebra.proofs.Coefficients.{indicator}

-- a crossing of d and f with the sign s is that of a half-wall
abbrev wall_of : Exp → Sum → Wall
wall_of d f = record { kind = Line; at = record { x = pos 0; y = pos 0; w = pos 1 }; dir = d; function = f }

abbrev half_of : Exp → Sum → ℤ → Half
half_of d f s = half (wall_of d f) (neg_ℤ s)

pub twice-negated : (s : ℤ) → neg_ℤ (neg_ℤ s) ≡ s
twice-negated s = ring ints_ring (s ∷ []) (minus (minus X)) X refl

module _ (k m : ℕ) (d : Exp) (f : Sum) (s : ℤ) (w : IsWallFunction m d f) where
  proper-of : Proper (wall_of d f)
  proper-of = proper-by (wall_of d f) w.constant w.others

  at-half : (g : Sum) → cross_half k (half_of d f s) g ≡ cross k d f s g
  at-half g = ap (λ t. cross k d f t g) (twice-negated s)

  auto : IsAutomorphism k (λ g. cross k d f s g)
  auto = subst (λ t. IsAutomorphism k (λ g. cross k d f t g)) (twice-negated s) (half-automorphism k (half_of d f s) proper-of)

pub keeps-products : CrossingKeepsProducts
keeps-products k m d f s w g h =
    let a = auto k m d f s w in
    from_Eq k _ _
    (Eq-trans k _ (cross k d f s (mul g h)) _ (a.respects _ _ (mul-same k g h))
    (Eq-trans k _ (mul (cross k d f s g) (cross k d f s h)) _ (a.products g h) (Eq-sym k _ _ (mul-same k (cross k d f s g) (cross k d f s h)))))

pub keeps-brackets : CrossingKeepsBrackets
keeps-brackets k m d f s w g h =
    let a = auto k m d f s w in
    from_Eq k _ _
    (Eq-trans k _ (cross k d f s (brace g h)) _ (a.respects _ _ (bracket-same k g h))
    (Eq-trans k _ (brace (cross k d f s g) (cross k d f s h)) _ (a.brackets g h) (Eq-sym k _ _ (bracket-same k (cross k d f s g) (cross k d f s h)))))

pub keeps-center : CrossingKeepsCenter
keeps-center k m d f s w g x le o = coef-is (cross k d f s g) x ∙ (auto k m d f s w).center (indicator key_test x) high central g ∙ sym (coef-is g x)
  where
    high : Vanishes k (indicator key_test x)
    high y d = go (key_eq y x) refl
      where
        go : (b : Bool) → key_eq y x ≡ b → cond (key_eq y x) (pos 1) (pos 0) ≡ pos 0
        go true e = let q : degree y ≡ degree x = ap degree (key_eq-same y x e) in absurd (omega (arith, q, d, le))
        go false e = rw e refl

    central : Central (indicator key_test x)
    central y n = go (key_eq y x) refl
      where
        go : (b : Bool) → key_eq y x ≡ b → cond (key_eq y x) (pos 1) (pos 0) ≡ pos 0
        go true e = absurd (n (ap (λ (z : Key). z.exp) (key_eq-same y x e) ∙ o))
        go false e = rw e refl

pub is-undone : CrossingIsUndone
is-undone k m d f s w g =
    let p = proper-of k m d f s w in
    from_Eq k _ _
    (subst (λ t. Eq k (cross k d f (neg_ℤ s) (cross k d f t g)) g) (twice-negated s)
    (subst (λ t. Eq k (cross k d f t (cross k d f (neg_ℤ (neg_ℤ s)) g)) g) (twice-negated (neg_ℤ s))
    (Eq-trans k _ _ _ (twice k (half_of d f (neg_ℤ s)) p (half_of d f s) p g) (crossing-back d (neg_ℤ (neg_ℤ s)) k f p.along g))))

commute-by : (k m n : ℕ) (d e : Exp) (f h : Sum) (s t : ℤ) → IsWallFunction m d f → IsWallFunction n e h → crosses_to k (wall_of d f) (wall_of e h) ≡ false
    → (g : Sum) → SameTo k (cross k d f s (cross k e h t g)) (cross k e h t (cross k d f s g))
commute-by k m n d e f h s t w v c g =
    from_Eq k _ _
    (subst (λ s. Eq k (cross k d f s (cross k e h t g)) (cross k e h t (cross k d f s g))) (twice-negated s)
    (subst (λ t. Eq k (cross k d f (neg_ℤ (neg_ℤ s)) (cross k e h t g)) (cross k e h t (cross k d f (neg_ℤ (neg_ℤ s)) g))) (twice-negated t)
    (crosses-commute k (half_of d f s) (half_of e h t) (proper-of k m d f s w) (proper-of k n e h t v) c g)))

pub parallel-commute : ParallelCrossingsCommute
parallel-commute k m n d e f h s t w v p = commute-by k m n d e f h s t w v (ap (λ (b : Bool). not b && list_any (λ (x : Term). list_any (λ (y : Term). nat_le (degree x.0 + degree y.0) k) (rest h)) (rest f)) parallel)
  where
    parallel : int_eq (det d e) (pos 0) ≡ true
    parallel = subst (λ (c : ℤ). int_eq c (pos 0) ≡ true) (sym p) refl

pub high-commute : HighCrossingsCommute
high-commute k m n d e f h s t w v high = commute-by k m n d e f h s t w v (none (not (are_parallel (wall_of d f) (wall_of e h))))
  where
    above : (x k : ℕ) → k < x → nat_le x k ≡ false
    above x k l = grind arith

    none : (b : Bool) → (b && list_any (λ (x : Term). list_any (λ (y : Term). nat_le (degree x.0 + degree y.0) k) (rest h)) (rest f)) ≡ false
    none true = any-false _ (rest f) (λ x i. any-false _ (rest h) (λ y j. above (degree x.0 + degree y.0) k (high x y i j)))
    none false = refl
