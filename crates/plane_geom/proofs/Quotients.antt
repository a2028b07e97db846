-- Points as quotients of whole numbers over one denominator.
use Rattle.std.proofs.Common.{◌≡◌, ◌≢◌, subst, arith, Option, Some, None}
use Rattle.std.specs.Prelude.{ℤ, pos, ◌+ℤ◌, ◌-ℤ◌, ◌*ℤ◌, neg_ℤ, ◌≤ℤ◌, IfSome, MatchOption}
use Rattle.scattering.proofs.Ring.{dif-up, dif-pos, dif-add, dif-neg, dif-mul, dif-same}
use Rattle.scattering.specs.Series.{Exp}
use Rattle.scattering.specs.Plane.{Point, IsNear}
use Rattle.plane_theory.proofs.WholeNumbers.{follows, zero_of, dif-below}
use Rattle.plane_geom.specs.declared.Point.{Point as CodePoint}
use Rattle.plane_geom.specs.Shown.{point_of, IsQuotient, IsCommon}
use Rattle.sum_algebra.proofs.Integers.{positive-mul}

pub quotient-along : (x y w x' y' w' : ℤ) (q : Point) → x ≡ x' → y ≡ y' → w ≡ w' → IsQuotient x y w q → IsQuotient x' y' w' q
quotient-along x y w x' y' w' q e f g h = subst (λ (z : ℤ). IsQuotient z y' w' q) e (subst (λ (z : ℤ). IsQuotient x z w' q) f (subst (λ (z : ℤ). IsQuotient x y z q) g h))

turned : (a w x v : ℤ) → a *ℤ (pos 0 -ℤ w) ≡ (pos 0 -ℤ x) *ℤ v → a *ℤ w ≡ x *ℤ v
turned a w x v h =
    follows (a *ℤ w) (x *ℤ v) (neg_ℤ (pos 1)) (a *ℤ (pos 0 -ℤ w)) ((pos 0 -ℤ x) *ℤ v) h
    (rw (dif-up a, dif-up w, dif-up x, dif-up v) (simp (dif-mul, dif-add, dif-neg, dif-pos, dif-below) (dif-same _ _ _ _ (omega arith))))

turned' : (a w x v : ℤ) → a *ℤ w ≡ x *ℤ v → a *ℤ (pos 0 -ℤ w) ≡ (pos 0 -ℤ x) *ℤ v
turned' a w x v h =
    follows (a *ℤ (pos 0 -ℤ w)) ((pos 0 -ℤ x) *ℤ v) (neg_ℤ (pos 1)) (a *ℤ w) (x *ℤ v) h
    (rw (dif-up a, dif-up w, dif-up x, dif-up v) (simp (dif-mul, dif-add, dif-neg, dif-pos, dif-below) (dif-same _ _ _ _ (omega arith))))

-- both signs turned
pub quotient-turned : (x y w : ℤ) (q : Point) → IsQuotient (pos 0 -ℤ x) (pos 0 -ℤ y) (pos 0 -ℤ w) q → IsQuotient x y w q
quotient-turned x y w q h = (h.0, turned q.x w x q.w h.1, turned q.y w y q.w h.2)

pub quotient-back : (x y w : ℤ) (q : Point) → IsQuotient x y w q → IsQuotient (pos 0 -ℤ x) (pos 0 -ℤ y) (pos 0 -ℤ w) q
quotient-back x y w q h = (h.0, turned' q.x w x q.w h.1, turned' q.y w y q.w h.2)

-- the answer of `Point::new` for the numbers x, y, w
pub Answer : ℤ → ℤ → ℤ → Option CodePoint → Type 0
Answer x y w o = MatchOption o ((q : Point) → IsQuotient x y w q → IsNear q → ⊥) (λ q. IsQuotient x y w (point_of q))

pub answered : (x y w : ℤ) (o : Option CodePoint) → IfSome o (λ p. IsQuotient x y w (point_of p)) → MatchOption o ((q : Point) → IsQuotient x y w q → IsNear q → ⊥) (λ p. IsNear (point_of p)) → Answer x y w o
unfolding Answer
answered x y w (Some p) h k = h
answered x y w None h k = k

pub answer-along : (x y w x' y' w' : ℤ) (o : Option CodePoint) → x ≡ x' → y ≡ y' → w ≡ w' → Answer x y w o → Answer x' y' w' o
answer-along x y w x' y' w' o e f g h = subst (λ (z : ℤ). Answer z y' w' o) e (subst (λ (z : ℤ). Answer x z w' o) f (subst (λ (z : ℤ). Answer x y z o) g h))

pub answer-turned : (x y w : ℤ) (o : Option CodePoint) → Answer (pos 0 -ℤ x) (pos 0 -ℤ y) (pos 0 -ℤ w) o → Answer x y w o
unfolding Answer
answer-turned x y w (Some p) h = quotient-turned x y w (point_of p) h
answer-turned x y w None h = λ q i n. h q (quotient-back x y w q i) n

pub common : (p : Point) (d : Exp) (r : Point) (n t : ℤ) (o : Option CodePoint) → Answer (p.x *ℤ r.w *ℤ t +ℤ n *ℤ d.a) (p.y *ℤ r.w *ℤ t +ℤ n *ℤ d.b) (p.w *ℤ r.w *ℤ t) o → IsCommon p d r n t o
unfolding Answer
common p d r n t o h = h

-- the denominator isn't 0
pub not-zero : (a b t : ℤ) → pos 1 ≤ℤ a → pos 1 ≤ℤ b → t ≢ pos 0 → a *ℤ b *ℤ t ≢ pos 0
not-zero a b t h k n e = n (zero_of (a *ℤ b) t (positive-mul a b h k) e)
