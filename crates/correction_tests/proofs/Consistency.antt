-- A test of consistency that computes, for the worked examples, says what it should.
use Rattle.std.proofs.Common.{◌≡◌, ◌≢◌, ℕ, ◌+◌, ◌<◌, refl, sym, subst, ap, ◌∙◌, Bool, true, false, List, ◌++◌, ◌⊎◌, inl, inr, ◌||◌, arith}
use Rattle.std.specs.Prelude.{pos, nat_lt}
use Rattle.std.specs.List.{list_all}
use Rattle.std.proofs.lemmas.Int.{ints}
use Rattle.scattering.specs.Collections.{In, Every}
use Rattle.scattering.specs.Series.{Term, Sum, SameTo, coef, degree, int_eq, monomial, z}
use Rattle.scattering.specs.Plane.{Point}
use Rattle.scattering.specs.Wall.{Line, Wall, crosses_to}
use Rattle.scattering.specs.LocalProduct.{image, axis_x, axis_y, IsConsistentAt}
use Rattle.scattering.proofs.ExampleWalls.{same_to, is_consistent}
use Rattle.scattering.proofs.Keys.{int_eq-same}
use Rattle.scattering.proofs.Lists.{and-left, and-right, or-out, In-left, In-right, Every-at, all-every}
use Rattle.scattering.proofs.Determined.{coef-find}
use Rattle.crossing_theory.proofs.Translation.{from_Eq}
use Rattle.crossing_theory.proofs.HalfWalls.{proper-by}
use Rattle.crossing_theory.proofs.Carrying.{Passes}
use Rattle.crossing_theory.proofs.PassivePoints.{Quiet, passive}
use Rattle.plane_geom.specs.Places.{point}
use Rattle.correction_tests.specs.LocalWalls.{key, middle, wall, steep_lines, steep_point}
use Rattle.sum_algebra.proofs.Integers.{zero-or-not}

all-at : {A : Type 0} (b : A → Bool) (xs : List A) → list_all b xs ≡ true → (x : A) → In x xs → b x ≡ true
all-at b xs h x i = Every-at (λ y. b y ≡ true) xs x (all-every b (λ y. b y ≡ true) xs (λ y e. e) h) i

same-from : (n : ℕ) (f g : Sum) → same_to n f g ≡ true → SameTo n f g
same-from n f g h k l = go (zero-or-not (coef f k)) (zero-or-not (coef g k))
  where
    below : (d : ℕ) → nat_lt n d ≡ true → n < d
    below d e = grind arith

    tested : (t : Term) → In t (f ++ g) → t.0 ≡ k → coef f k ≡ coef g k
    tested t i e = ap (coef f) (sym e) ∙ out (or-out (nat_lt n (degree t.0)) (int_eq (coef f t.0) (coef g t.0)) (all-at (λ (t : Term). nat_lt n (degree t.0) || int_eq (coef f t.0) (coef g t.0)) (f ++ g) h t i)) ∙ ap (coef g) e
      where
        out : (nat_lt n (degree t.0) ≡ true) ⊎ (int_eq (coef f t.0) (coef g t.0) ≡ true) → coef f t.0 ≡ coef g t.0
        out (inl q) = absurd (omega (arith, below (degree t.0) q, ap degree e, l))
        out (inr q) = int_eq-same (coef f t.0) (coef g t.0) q

    go : (coef f k ≡ pos 0) ⊎ (coef f k ≢ pos 0) → (coef g k ≡ pos 0) ⊎ (coef g k ≢ pos 0) → coef f k ≡ coef g k
    go (inl p) (inl q) = p ∙ sym q
    go (inr p) q = let u = coef-find f k p in tested u.0 (In-left f g u.0 u.1) u.2
    go (inl p) (inr q) = let u = coef-find g k q in tested u.0 (In-right f g u.0 u.1) u.2

pub consistent-from : (ws : List Wall) (p : Point) (n : ℕ) → is_consistent ws p n ≡ true → IsConsistentAt ws n p
consistent-from ws p n h = record {
  x = same-from n (image ws p n axis_x) (monomial (z axis_x)) (and-left _ _ h);
  y = same-from n (image ws p n axis_y) (monomial (z axis_y)) (and-left _ _ (and-right (same_to n (image ws p n axis_x) (monomial (z axis_x))) _ h));
}

-- at the order before k, for walls and a point that are these
pub consistent-before : (ws : List Wall) (p : Point) (m : ℕ) → IsConsistentAt ws m p → (us : List Wall) → us ≡ ws → (q : Point) → q ≡ p → (k : ℕ) → k ≡ m + 1 → (n : ℕ) → n + 1 ≡ k → IsConsistentAt us n q
consistent-before ws p m h us e q f k g n i =
    let same : m ≡ n = omega (arith, g, i) in
    subst (λ (l : ℕ). IsConsistentAt us l q) same (subst (λ (vs : List Wall). IsConsistentAt vs m q) (sym e) (subst (IsConsistentAt ws m) (sym f) h))

-- ---- the steep lines, of which the powers are too long to be computed

steep-passes : Every (Passes 1 steep_point) steep_lines
steep-passes = (
  (proper-by up refl ((omega arith, (pos 64, omega (arith, ints), refl)), tt), λ e. absurd (cc)),
  ((proper-by flat refl ((omega arith, (pos 1, omega (arith, ints), refl)), tt), λ e. absurd (cc)), tt),
)
  where
    up : Wall
    up = wall Line middle (pos 0) (pos 1) (key 1 0 (pos 0) (pos 64), pos 1)

    flat : Wall
    flat = wall Line (point (pos 9) (pos 0) (pos 1)) (pos 64) (pos 1) (key 1 0 (pos 64) (pos 1), pos 2147483647)

steep-quiet : Quiet 1 steep_lines steep_point
steep-quiet = record { quiet = λ u v i j e f. go u v i j }
  where
    go : (u v : Wall) → In u steep_lines → In v steep_lines → crosses_to 1 u v ≡ false
    go u v (inl p) (inl q) = λ k. crosses_to 1 (p k) (q k)
    go u v (inl p) (inr (inl q)) = λ k. crosses_to 1 (p k) (q k)
    go u v (inr (inl p)) (inl q) = λ k. crosses_to 1 (p k) (q k)
    go u v (inr (inl p)) (inr (inl q)) = λ k. crosses_to 1 (p k) (q k)
    go u v (inr (inr f)) j = absurd f
    go u v (inl p) (inr (inr f)) = absurd f
    go u v (inr (inl p)) (inr (inr f)) = absurd f

pub steep-consistent : IsConsistentAt steep_lines 1 steep_point
steep-consistent = record { x = from_Eq 1 _ _ (passive 1 steep_lines steep_point steep-passes steep-quiet axis_x); y = from_Eq 1 _ _ (passive 1 steep_lines steep_point steep-passes steep-quiet axis_y) }
