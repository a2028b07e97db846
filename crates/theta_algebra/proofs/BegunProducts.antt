-- The stage before the first step: the product of two thetas, of which nothing is taken away.
use Rattle.std.proofs.Common.{◌≡◌, ℕ, refl, sym, ◌∙◌, ◌+◌, ◌*◌, ◌≤◌, arith, List, [], ◌∷◌, ◌++◌, map}
use Rattle.std.specs.Prelude.{ℤ, pos, ◌+ℤ◌, ◌-ℤ◌, nat_abs, None}
use Rattle.std.proofs.lemmas.Int.{ints}
use Rattle.limits.specs.Limits.{exponent_per_degree, largest_weight}
use Rattle.scattering.specs.Collections.{Every}
use Rattle.scattering.specs.Series.{Exp, Term, Sum, key_mul, term_mul, degree, coef, mul, cut, minus, z}
use Rattle.scattering.specs.Plane.{Point, IsPoint}
use Rattle.scattering.specs.Wall.{Wall, IsWall}
use Rattle.scattering.specs.Theta.{IsAskFault, IsTheta}
use Rattle.scattering.specs.ThetaProduct.{IsThetaWeight, combined, begins}
use Rattle.scattering.proofs.Lists.{Every-flat_map, Every-filter, Every-implies}
use Rattle.scattering.proofs.Pairing.{coef-append}
use Rattle.scattering.proofs.ShiftedSums.{degree-mul}
use Rattle.trunc_series.specs.Reduced.{IsKeptAs}
use Rattle.trunc_series.specs.declared.arithmetic.Arithmetic.TheVariants.{Wrapping}
use Rattle.broken_line_theory.proofs.ThetaMasses.{product-light}
use Rattle.broken_line_theory.proofs.ThetaWithin.{IsNearby}
use Rattle.theta_algebra.specs.Families.{largest_factor}
use Rattle.theta_algebra.specs.Stages.{GrowsFrom, GrowsFromFactors, IsStage}
use Rattle.theta_algebra.proofs.StepLaws.{kept-same, kept-keys}

-- the exponents of one factor's theta
factor-grows : (r : Exp) (f : Sum) → (nat_abs r.a ≤ largest_factor) × (nat_abs r.b ≤ largest_factor) → Every (λ t. IsNearby exponent_per_degree r t.0.exp (degree t.0)) f → Every (λ t. GrowsFrom largest_factor t.0) f
factor-grows r f small h = Every-implies (λ (t : Term). IsNearby exponent_per_degree r t.0.exp (degree t.0)) (λ t. GrowsFrom largest_factor t.0) f (λ t n. (near t.0.exp.a r.a (degree t.0) n.0 small.0, near t.0.exp.b r.b (degree t.0) n.1 small.1)) h
  where
    near : (a r : ℤ) (d : ℕ) → nat_abs (a -ℤ r) ≤ exponent_per_degree * d → nat_abs r ≤ largest_factor → nat_abs a ≤ largest_factor + exponent_per_degree * d
    near a r d h s = omega (arith, ints, h, s)

pub factor-within : (r : Exp) → (nat_abs r.a ≤ largest_factor) × (nat_abs r.b ≤ largest_factor) → GrowsFrom (2 * largest_factor) (z r)
factor-within r s = (small (nat_abs r.a) s.0, small (nat_abs r.b) s.1)
  where
    small : (n : ℕ) → n ≤ largest_factor → n ≤ 2 * largest_factor + exponent_per_degree * 0
    small n l = omega (arith, l)

product-within : (k : ℕ) (f g : Sum) → Every (λ t. GrowsFrom largest_factor t.0) f → Every (λ t. GrowsFrom largest_factor t.0) g → Every GrowsFromFactors (mul k f g)
product-within k f g h i =
    Every-flat_map (λ (t : Term). GrowsFrom largest_factor t.0) GrowsFromFactors (λ t. cut k (map (term_mul t) g)) f (λ t x. Every-filter GrowsFromFactors _ (map (term_mul t) g) (each t x g i)) h
  where
    both : (a b : ℤ) (d e o : ℕ) → nat_abs a ≤ largest_factor + exponent_per_degree * d → nat_abs b ≤ largest_factor + exponent_per_degree * e → o ≡ d + e → nat_abs (a +ℤ b) ≤ 2 * largest_factor + exponent_per_degree * o
    both a b d e o h g s = omega (arith, ints, h, g, s)

    each : (t : Term) → GrowsFrom largest_factor t.0 → (g : Sum) → Every (λ t. GrowsFrom largest_factor t.0) g → Every GrowsFromFactors (map (term_mul t) g)
    each t x [] i = tt
    each t x (u ∷ g) i =
        let d = degree-mul t.0 u.0 in
        ((both t.0.exp.a u.0.exp.a (degree t.0) (degree u.0) (degree (key_mul t.0 u.0)) x.0 i.0.0 d, both t.0.exp.b u.0.exp.b (degree t.0) (degree u.0) (degree (key_mul t.0 u.0)) x.1 i.0.1 d), each t x g i.1)

module _ (ws : List Wall) (k j : ℕ) (q : Point) (walls : Every (IsWall j) ws) (point : IsPoint q) where
  pub begun-stage : (l r : Exp) (f g left : Sum) (x y : ℕ) → (nat_abs l.a ≤ largest_factor) × (nat_abs l.b ≤ largest_factor) → (nat_abs r.a ≤ largest_factor) × (nat_abs r.b ≤ largest_factor)
      → IsAskFault ws k l q None → IsAskFault ws k r q None → IsTheta ws k l q f → IsTheta ws k r q g → IsThetaWeight ws k l q x → IsThetaWeight ws k r q y
      → Every (λ t. IsNearby exponent_per_degree l t.0.exp (degree t.0)) f → Every (λ t. IsNearby exponent_per_degree r t.0.exp (degree t.0)) g
      → x * y ≤ largest_weight → IsKeptAs Wrapping k left (mul k f g) → IsStage ws k q (mul k f g) (x * y) 0 [] left (x * y)
  begun-stage l r f g left x y small small' free free' theta theta' weight weight' near near' light kept = record {
    runs = begins;
    light = light;
    left = λ thetas are. kept-same k left (mul k f g) (mul k f g ++ minus (combined k thetas [])) kept (λ y. sym (coef-append (mul k f g) [] y ∙ plus (coef (mul k f g) y)));
    small = tt;
    within = tt;
    near = kept-keys (λ x. GrowsFromFactors (x, pos 0)) k left (mul k f g) kept (product-within k f g (factor-grows l f small near) (factor-grows r g small' near'));
    product = product-light ws k j q walls point l r x y (mul k f g) free free' weight weight' (f, g, theta, theta', λ y low. refl);
  }
    where
      plus : (c : ℤ) → c +ℤ pos 0 ≡ c
      plus c = omega (arith, ints)
