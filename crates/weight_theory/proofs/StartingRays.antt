-- The function of a ray that starts at a point is no heavier than the point: its half-wall is crossed on the way to both images.
use Rattle.std.proofs.Common.{◌≡◌, ℕ, zero, suc, ◌≤◌, refl, sym, subst, ◌∙◌, List, [], ◌∷◌, Bool, true, false, inl, inr, le_trans, arith}
use Rattle.std.specs.Prelude.{ℤ, pos, negsuc, ◌+ℤ◌, ◌*ℤ◌, ◌≤ℤ◌, nat_abs, nat_le, filter, flat_map, not, ◌&&◌, ◌||◌}
use Rattle.std.proofs.lemmas.Int.{ints}
use Rattle.sum_algebra.proofs.Sums.{pair, pair-ext}
use Rattle.scattering.specs.Collections.{In}
use Rattle.scattering.specs.Series.{Exp, Key, Sum, degree, det, key_mul, mul, cut, pow, one, geometric, monomial, z, mass_to, IsWallFunction}
use Rattle.scattering.specs.Plane.{Point}
use Rattle.scattering.specs.Wall.{WallKind, Line, Incoming, Outgoing, Wall, is_line, is_on, starts_at, allows}
use Rattle.scattering.specs.LocalProduct.{Half, halves, half_walls, cross_majorant, carry_majorant, axis_x, axis_y, weight}
use Rattle.scattering.proofs.DistinctKeys.{series-distinct}
use Rattle.scattering.proofs.Lists.{In-mapped, In-flat_map, In-in_order, Every-at, filter-keeps, and-left}
use Rattle.crossing_theory.proofs.HalfWalls.{half}
use Rattle.crossing_theory.proofs.AddedTerms.{start_side, starts-on}
use Rattle.crossing_theory.proofs.OtherFunctions.{before}
use Rattle.weight_theory.specs.Laws.{IsNonnegative, HasFunction, StartingRayIsLight, StartingCutRayIsLight}
use Rattle.weight_theory.proofs.Readings.{Bounds}
use Rattle.weight_theory.proofs.Bounds.{bounds-trans, bounds-same, bounds-itself, bounds-monomial, bounds-mul, substitute, pair-substitute, bounds-substitute}
use Rattle.weight_theory.proofs.Crossings.{mul-one, geometric-nonnegative, function-below, turned, turned-nonnegative, majorant-stays-nonnegative}
use Rattle.weight_theory.proofs.Masses.{counts, counts-covered, counted-below, mass-counted, mass-bounded_list}
use Rattle.weight_theory.proofs.Stages.{one-below_pow, majorant-grows, carry-grows, monomial-nonnegative}

-- ---- the half-wall of the ray

start-half : (ws : List Wall) (p : Point) (r : Wall) → In r ws → starts_at r p ≡ true → In (half r (start_side r.kind)) (half_walls ws p)
start-half ws p r i s =
    In-in_order before (flat_map (halves p) ws) (half r (start_side r.kind))
    (In-flat_map (halves p) ws r (half r (start_side r.kind)) i
    (In-mapped (λ (s : ℤ). half r s) (filter (λ s. is_on r p && (not (starts_at r p) || allows r.kind s)) (pos 1 ∷ negsuc 0 ∷ [])) (start_side r.kind)
    (filter-keeps (λ s. is_on r p && (not (starts_at r p) || allows r.kind s)) (pos 1 ∷ negsuc 0 ∷ []) (start_side r.kind) (a_side r.kind (and-left _ _ s)) (rw (starts-on r p s, s) (allowed r.kind)))))
  where
    a_side : (k : WallKind) → not (is_line k) ≡ true → In (start_side k) (pos 1 ∷ negsuc 0 ∷ [])
    a_side Line e = absurd (cc)
    a_side Incoming e = inl refl
    a_side Outgoing e = inr (inl refl)

    allowed : (k : WallKind) → allows k (start_side k) ≡ true
    allowed Line = refl
    allowed Incoming = refl
    allowed Outgoing = refl

-- ---- the crossing of the ray

power-above : (k : ℕ) (f : Sum) (j : ℕ) → Bounds k (geometric k f) (pow k (geometric k f) (suc j))
power-above k f j =
    bounds-same k (geometric k f) (mul k (geometric k f) one) (pow k (geometric k f) (suc j)) (mul-one k (geometric k f))
    (bounds-mul k (geometric k f) (geometric k f) one (pow k (geometric k f) j) (bounds-itself k (geometric k f) (geometric-nonnegative k f)) (one-below_pow k f j))

module _ (k m : ℕ) (r : Wall) (w : IsWallFunction m r.dir r.function) (o : Exp) (j : ℕ) (e : nat_abs (det r.dir o) ≡ suc j) where
  -- what a key is multiplied by
  abbrev P : Key → Sum
  P x = turned k r.dir r.function x

  abbrev factor : Sum
  factor = P (z o)

  function-below_factor : Bounds k r.function factor
  function-below_factor = subst (λ (i : ℕ). Bounds k r.function (pow k (geometric k r.function) i)) (sym e) (bounds-trans k r.function (geometric k r.function) _ (function-below k m r.dir r.function w) (power-above k r.function j))

  crossed : (g : Sum) → Bounds k (monomial (z o)) g → mass_to k r.function ≤ mass_to k (cross_majorant k r.dir r.function g)
  crossed g b =
      weighed (mass_to k r.function) (pair (counts k) factor) (pair (counts k) (substitute k P (monomial (z o)))) (pair (counts k) (cross_majorant k r.dir r.function g)) (mass_to k (cross_majorant k r.dir r.function g))
      (mass-counted k r.function factor (series-distinct m r.function w.series) function-below_factor)
      (pair-substitute k P (monomial (z o)) (counts k) (counts-covered k).high ∙ single (pair (λ y. counts k (key_mul (z o) y)) factor) ∙ pair-ext (λ y. counts k (key_mul (z o) y)) (counts k) factor same-degree)
      ((bounds-substitute k P P (monomial (z o)) g (λ x. bounds-itself k (P x) (turned-nonnegative k r.dir r.function x)) b).at (counts k) (counts k) (counts-covered k))
      (counted-below k (cross_majorant k r.dir r.function g))
    where
      same-degree : (y : Key) → counts k (key_mul (z o) y) ≡ counts k y
      same-degree y = let q : degree (key_mul (z o) y) ≡ degree y = omega arith in rw q refl

      single : (a : ℤ) → pos 1 *ℤ a +ℤ pos 0 ≡ a
      single a = omega (arith, ints)

      weighed : (m : ℕ) (b c d : ℤ) (n : ℕ) → pos m ≤ℤ b → c ≡ b → pos (nat_abs c) ≤ℤ d → d ≤ℤ pos n → m ≤ n
      weighed m b c d n q r s t = omega (arith, ints, q, r, s, t)

  -- it stays as heavy afterwards
  passed : (hs : List Half) (s : ℤ) → In (half r s) hs → (g : Sum) → IsNonnegative g → Bounds k (monomial (z o)) g → mass_to k r.function ≤ mass_to k (carry_majorant k hs g)
  passed [] s i g p b = absurd i
  passed (h ∷ hs) s (inl q) g p b =
      let g' : Sum = cross_majorant k h.wall.dir h.wall.function g in
      le_trans (subst (λ (c : Half). mass_to k r.function ≤ mass_to k (cross_majorant k c.wall.dir c.wall.function g)) q (crossed g b))
      (mass-bounded_list k g' (carry_majorant k hs g') (majorant-stays-nonnegative k h.wall.dir h.wall.function g p) (carry-grows k hs g' (majorant-stays-nonnegative k h.wall.dir h.wall.function g p)))
  passed (h ∷ hs) s (inr i) g p b =
      passed hs s i (cross_majorant k h.wall.dir h.wall.function g) (majorant-stays-nonnegative k h.wall.dir h.wall.function g p)
      (bounds-trans k (monomial (z o)) g _ b (majorant-grows k h.wall.dir h.wall.function g p))

pub starting-ray-is-light : StartingRayIsLight
starting-ray-is-light ws p k r f i s n = go (nat_abs r.dir.a) refl (nat_abs r.dir.b) refl
  where
    w : HasFunction r
    w = Every-at HasFunction ws r f i

    at-axis : (o : Exp) (j : ℕ) → nat_abs (det r.dir o) ≡ suc j → mass_to k r.function ≤ mass_to k (carry_majorant k (half_walls ws p) (monomial (z o)))
    at-axis o j e = passed k w.0 r w.1 o j e (half_walls ws p) (start_side r.kind) (start-half ws p r i s) (monomial (z o)) (monomial-nonnegative (z o)) (bounds-monomial k (z o))

    on-y : (d : Exp) → nat_abs (det d axis_y) ≡ nat_abs d.a
    on-y d = omega (arith, ints)

    on-x : (d : Exp) → nat_abs (det d axis_x) ≡ nat_abs d.b
    on-x d = omega (arith, ints)

    none : (x : ℤ) → nat_abs x ≡ 0 → x ≡ pos 0
    none x e = omega (arith, ints, e)

    go : (a : ℕ) → nat_abs r.dir.a ≡ a → (b : ℕ) → nat_abs r.dir.b ≡ b → mass_to k r.function ≤ weight ws p k
    go (suc j) e b d = let l = at-axis axis_y j (on-y r.dir ∙ e) in omega (arith, l)
    go zero e (suc j) d = let l = at-axis axis_x j (on-x r.dir ∙ d) in omega (arith, l)
    go zero e zero d = absurd (n (let a = none r.dir.a e in let b = none r.dir.b d in λ i. record { a = a i; b = b i }))

mass-cut : (k j : ℕ) (f : Sum) → mass_to k (cut j f) ≤ mass_to k f
mass-cut k j [] = omega arith
mass-cut k j (t ∷ f) = go (nat_le (degree t.0) j) refl (mass-cut k j f)
  where
    go : (b : Bool) → nat_le (degree t.0) j ≡ b → mass_to k (cut j f) ≤ mass_to k f → mass_to k (cut j (t ∷ f)) ≤ mass_to k (t ∷ f)
    go true e h = rw e (omega (arith, h))
    go false e h = rw e (omega (arith, h))

pub starting-cut-ray-is-light : StartingCutRayIsLight
starting-cut-ray-is-light ws p k j r f i s n = le_trans (mass-cut k j r.function) (starting-ray-is-light ws p k r f i s n)
