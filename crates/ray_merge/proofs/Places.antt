-- The order of rays, by their starts or by their directions.
use Rattle.std.proofs.Common.{◌≡◌, refl, sym, subst, ◌∙◌, Bool, true, false, cond}
use Rattle.std.specs.declared.cmp.Ordering.{Ordering}
use Rattle.std.specs.declared.cmp.Ordering.TheVariants.{Less, Equal, Greater}
use Rattle.scattering.specs.Series.{Exp}
use Rattle.scattering.specs.Plane.{Point, point_eq, point_before}
use Rattle.scattering.proofs.Keys.{point_eq-same, point_eq-refl}
use Rattle.plane_theory.proofs.PointOrder.{before-irrefl}
use Rattle.plane_theory.proofs.TotalOrder.{place_before}
use Rattle.plane_geom.specs.Shown.{point_order}
use Rattle.scatter_diagram.specs.Ordered.{exp_order}

abbrev place_order : Point → Exp → Point → Exp → Ordering
place_order p d q e = cond (place_before (p, d) (q, e)) Less (cond (place_before (q, e) (p, d)) Greater Equal)

not-itself : (p : Point) → point_before p p ≡ false
not-itself p = go (point_before p p) refl
  where
    go : (b : Bool) → point_before p p ≡ b → point_before p p ≡ false
    go true e = absurd (before-irrefl p e)
    go false e = e

pub by-directions : (p q : Point) (d e : Exp) → p ≡ q → exp_order d e ≡ place_order p d q e
by-directions p q d e s = subst (λ (x : Point). exp_order d e ≡ place_order p d x e) s (rw (not-itself p, point_eq-refl p) refl)

apart : (p q : Point) → point_before q p ≡ true → point_eq p q ≡ false
apart p q h = go (point_eq p q) refl
  where
    go : (b : Bool) → point_eq p q ≡ b → point_eq p q ≡ false
    go true e = absurd (before-irrefl p (subst (λ (x : Point). point_before x p ≡ true) (sym (point_eq-same p q e)) h))
    go false e = e

pub by-starts : (p q : Point) (d e : Exp) (o : Ordering) → o ≡ point_order p q → (o ≡ Equal → ⊥) → o ≡ place_order p d q e
by-starts p q d e o h n = go (point_before p q) refl (point_before q p) refl
  where
    go : (a : Bool) → point_before p q ≡ a → (b : Bool) → point_before q p ≡ b → o ≡ place_order p d q e
    go true x b y = h ∙ rw x refl
    go false x true y = h ∙ rw (x, y) (rw (apart p q y) refl)
    go false x false y = absurd (n (h ∙ rw (x, y) refl))
