-- The terms along a direction, and their masses.
use Rattle.std.proofs.Common.{◌≡◌, ℕ, ◌+◌, ◌≤◌, refl, sym, subst, ap, ◌∙◌, Bool, true, false, [], ◌∷◌, ◌++◌, arith}
use Rattle.std.specs.Prelude.{ℤ, pos, negsuc, ◌+ℤ◌, ◌*ℤ◌, ◌-ℤ◌, ◌≤ℤ◌, int_le}
use Rattle.std.proofs.lemmas.Int.{ints}
use Rattle.std.proofs.lemmas.List.Elements.{filter-append}
use Rattle.sum_algebra.proofs.Ring.{nought, ring}
use Rattle.sum_algebra.proofs.Integers.{positive-mul}
use Rattle.sum_algebra.proofs.IntegerRing.{ints_ring, ◌:+◌, ◌:*◌, ◌:-◌, X, Y, Z}
use Rattle.scattering.specs.Collections.{Every}
use Rattle.scattering.specs.Series.{Exp, Term, Sum, mass_to, IsMultiple}
use Rattle.scattering.specs.Plane.{IsDirection}
use Rattle.plane_theory.proofs.Directions.{direction-not_origin}
use Rattle.plane_theory.proofs.Points.{norm-positive}
use Rattle.trunc_series.proofs.Products.{mass-append}
use Rattle.ray_merge.specs.Additions.{is_along, terms_along, IsLightAlong}
use Rattle.ray_merge.specs.Rays.{mass_along}
use Rattle.ray_merge.proofs.Functions.{mass-one}

turned : (j a b : ℤ) → a *ℤ (j *ℤ b) -ℤ b *ℤ (j *ℤ a) ≡ pos 0
turned j a b = ring ints_ring (j ∷ a ∷ b ∷ []) (Y :* (X :* Z) :- Z :* (X :* Y)) nought refl

ahead : (j a b : ℤ) → a *ℤ (j *ℤ a) +ℤ b *ℤ (j *ℤ b) ≡ j *ℤ (a *ℤ a +ℤ b *ℤ b)
ahead j a b = ring ints_ring (j ∷ a ∷ b ∷ []) (Y :* (X :* Y) :+ Z :* (X :* Z)) (X :* (Y :* Y :+ Z :* Z)) refl

le-test : (x : ℤ) → pos 1 ≤ℤ x → int_le (pos 1) x ≡ true
le-test (pos n) h = grind (arith, ints)
le-test (negsuc n) h = absurd (omega (arith, ints, h))

pub multiple-along : (d e : Exp) → IsDirection d → IsMultiple d e → is_along d e ≡ true
multiple-along d e h m =
    subst (λ (x : Exp). is_along d x ≡ true) (sym m.2)
    (rw (turned m.0 d.a d.b, ahead m.0 d.a d.b) (le-test (m.0 *ℤ (d.a *ℤ d.a +ℤ d.b *ℤ d.b)) (positive-mul m.0 (d.a *ℤ d.a +ℤ d.b *ℤ d.b) m.1 (norm-positive d (direction-not_origin d h)))))

pub mass_along-append : (n : ℕ) (f g : Sum) (d : Exp) → mass_along n (f ++ g) d ≡ mass_along n f d + mass_along n g d
mass_along-append n f g d = ap (mass_to n) (filter-append (λ (t : Term). is_along d t.0.exp) f g) ∙ mass-append n (terms_along d f) (terms_along d g)

-- light where another sum is
pub light-as : (n : ℕ) (f g : Sum) → ((d : Exp) → mass_along n g d ≡ mass_along n f d) → IsLightAlong n f → IsLightAlong n g
light-as n f g e l d id = let a = mass-one n (terms_along d f) in let b = mass-one n (terms_along d g) in let c = l d id in let q = e d in omega (arith, a, b, c, q)

pub mass_along-low : (n : ℕ) (f : Sum) (d : Exp) → mass_along n f d ≤ mass_to n f
mass_along-low n [] d = omega arith
mass_along-low n (t ∷ f) d = go (is_along d t.0.exp) refl (mass_along-low n f d)
  where
    go : (b : Bool) → is_along d t.0.exp ≡ b → mass_along n f d ≤ mass_to n f → mass_along n (t ∷ f) d ≤ mass_to n (t ∷ f)
    go true e h = rw e (omega (arith, h))
    go false e h = rw e (omega (arith, h))

-- terms along d alone
pub mass_along-all : (n : ℕ) (f : Sum) (d : Exp) → IsDirection d → Every (λ t. IsMultiple d t.0.exp) f → mass_along n f d ≡ mass_to n f
mass_along-all n [] d h m = refl
mass_along-all n (t ∷ f) d h m =
    let one : mass_along n (t ∷ []) d ≡ mass_to n (t ∷ []) = rw (multiple-along d t.0.exp h m.0) refl in
    mass_along-append n (t ∷ []) f d ∙ ap (λ x. x + mass_along n f d) one ∙ ap (λ x. mass_to n (t ∷ []) + x) (mass_along-all n f d h m.1) ∙ sym (mass-append n (t ∷ []) f)
