-- The correction at a point where the order before is consistent: it is the leading part of the images, whole and small.
use Rattle.std.proofs.Common.{◌≡◌, ◌≢◌, ℕ, zero, suc, ◌+◌, ◌*◌, ◌<◌, ◌≤◌, ◌^◌, refl, sym, subst, ap, ◌∙◌, List, [], ◌∷◌, inl, inr, ◌⊎◌, le_trans, add-one, arith}
use Rattle.std.specs.Prelude.{ℤ, pos, ◌+ℤ◌, ◌-ℤ◌, ◌*ℤ◌, nat_abs, IsTrue, ◌==◌, Bool, true, false}
use Rattle.std.specs.Bool.{MatchBool}
use Rattle.std.proofs.lemmas.Int.{ints}
use Rattle.scattering.specs.Collections.{In, Every}
use Rattle.scattering.specs.Series.{Exp, Key, Term, Sum, origin, degree, det, coef, exp_add, key_mul, monomial, z, mass_to, SameTo}
use Rattle.scattering.specs.Plane.{Point}
use Rattle.scattering.specs.Wall.{Wall, IsWall, starts_at, cut_walls}
use Rattle.scattering.specs.LocalProduct.{Half, half_walls, carry, image, axis_x, axis_y, weight, IsConsistentAt}
use Rattle.scattering.specs.Correction.{Lie, Ratio, ratio_at, IsCorrection, IsWhole}
use Rattle.scattering.specs.ThetaProduct.{of_degree}
use Rattle.scattering.proofs.Keys.{same-exp}
use Rattle.degree_theory.proofs.PartLaws.{part-is-read}
use Rattle.scattering.proofs.Lists.{Every-filter, Every-at, Every-from_In, Every-implies}
use Rattle.scattering.proofs.Ratios.{ratio-own}
use Rattle.plane_theory.proofs.Directions.{direction-not_origin, zero-factor}
use Rattle.crossing_theory.proofs.Translation.{Eq, Eq-sym, Eq-trans, to_Eq}
use Rattle.crossing_theory.proofs.HalfWalls.{Proper, proper}
use Rattle.crossing_theory.proofs.OtherFunctions.{of_halves}
use Rattle.completion_theory.proofs.LowerOrders.{image-cut}
use Rattle.completion_theory.proofs.CorrectionExists.{correction, whole-at}
use Rattle.completion_theory.proofs.UniqueCompletion.{on_axis}
use Rattle.completion_theory.proofs.UniqueCorrection.{correction_is_unique}
use Rattle.trunc_series.specs.Shown.{Seen, IsSeriesOf, HasNearTerms}
use Rattle.trunc_series.proofs.PowerLaws.{key-from}
use Rattle.weight_theory.specs.Laws.{HaveFunctions}
use Rattle.weight_theory.proofs.CorrectionMasses.{correction-is-light}
use Rattle.weight_theory.proofs.StartingRays.{starting-ray-is-light}
use Rattle.scatter_diagram.specs.Proper.{IsTame}
use Rattle.vertex_lie.specs.Leading.{IsLeading, IsLeadingPart, IsLeadingAlong, HasNothingAlong, axis_of}
use Rattle.vertex_lie.specs.declared.leading_part.Axis.{Axis}
use Rattle.vertex_lie.specs.declared.leading_part.Axis.TheVariants.{X, Y}
use Rattle.degree_theory.specs.OneSide.{IsOneSided, IsReadOf}
use Rattle.degree_theory.proofs.OneSide.{image-keeps-edge}
use Rattle.degree_theory.proofs.OneImage.{one-image-is-enough}
use Rattle.scattering.proofs.Coefficients.{coef-above}
use Rattle.local_product.specs.Obstruction.{AreWithin, IsObstruction}
use Rattle.local_product.specs.declared.half_walls.HalfWall.{HalfWall}
use Rattle.local_product.specs.Shown.{IsUnit, halves_of, carried, majorants_mass}
use Rattle.local_product.proofs.Exponents.{Around, AreAround, carry-around, monomial-around, series-around, around-near}
use Rattle.local_product.proofs.WallFunctions.{tame-around}
use Rattle.sum_algebra.proofs.Integers.{zero-or-not}

-- ---- exponents

abbrev pub AreTame : List Wall → Type 0
AreTame ws = Every (λ w. Every IsTame w.function) ws

image-around : (ws : List Wall) (p : Point) (n : ℕ) → AreTame ws → (m : Exp) → AreAround m (image ws p n m)
image-around ws p n tame m =
    carry-around n (half_walls ws p) m (monomial (z m)) (of_halves (λ w. AreAround origin w.function) p ws (Every-implies (λ w. Every IsTame w.function) (λ w. AreAround origin w.function) ws (λ w t. tame-around w.function t) tame)) (monomial-around m)

-- the terms of one degree of an image
abbrev pub top : List Wall → Point → ℕ → Exp → Sum
top ws p n m = of_degree n (image ws p n m)

pub top-near : (ws : List Wall) (p : Point) (n : ℕ) → n ≤ 24 → AreTame ws → (m : Exp) → IsUnit m → (s : Seen) → IsSeriesOf s n (top ws p n m) → HasNearTerms s.terms
top-near ws p n l tame m u s is =
    around-near n m s.terms l u (series-around n m s (top ws p n m) is (Every-filter (λ (t : Term). Around m t.0) (λ t. degree t.0 == n) (image ws p n m) (image-around ws p n tame m))) is.series.low

module _ (ws : List Wall) (p : Point) (n : ℕ) (h : Lie) (tame : AreTame ws) (c : IsCorrection ws p n h) where
  -- a term of h comes from a term of the image of an axis that its exponent isn't along
  from-axis : (t : Key × Ratio) → In t h → (m : Exp) → In m (axis_x ∷ axis_y ∷ []) → det t.0.exp m ≢ pos 0 → Around m (key_mul t.0 (z m))
  from-axis t i m j turned = key-from (Around m) (image ws p n m) (key_mul t.0 (z m)) (image-around ws p n tame m) (λ e. turned (zero-factor t.1.num (det t.0.exp m) nonzero_num (sym (read e))))
    where
      nonzero_num : t.1.num ≢ pos 0
      nonzero_num = Every-at (λ (t : Key × Ratio). t.1.num ≢ pos 0) h t c.nonzero i

      zero-times : (d : ℤ) → pos 0 *ℤ d ≡ pos 0
      zero-times d = omega (arith, ints)

      read : coef (image ws p n m) (key_mul t.0 (z m)) ≡ pos 0 → pos 0 ≡ t.1.num *ℤ det t.0.exp m
      read e =
          let b : coef (image ws p n m) (key_mul t.0 (z m)) *ℤ t.1.den ≡ t.1.num *ℤ det t.0.exp m = subst (λ (r : Ratio). coef (image ws p n m) (key_mul t.0 (z m)) *ℤ r.den ≡ r.num *ℤ det t.0.exp m) (ratio-own h c.distinct t i) (c.bracket m t.0 j (Every-at (λ (t : Key × Ratio). (degree t.0 ≡ n) × (t.0.exp ≢ origin)) h t c.degrees i).0) in
          sym (ap (λ x. x *ℤ t.1.den) e ∙ zero-times t.1.den) ∙ b

  abbrev Within : Exp → Type 0
  Within e = (nat_abs e.a ≤ 64 * n) × (nat_abs e.b ≤ 64 * n)

  back : (t : Key × Ratio) → degree t.0 ≡ n → (m : Exp) → Around m (key_mul t.0 (z m)) → Within t.0.exp
  back t d m a =
      let e : degree (key_mul t.0 (z m)) ≡ n = same-degree d in
      (less t.0.exp.a m.a (degree (key_mul t.0 (z m))) e a.0, less t.0.exp.b m.b (degree (key_mul t.0 (z m))) e a.1)
    where
      same-degree : degree t.0 ≡ n → degree (key_mul t.0 (z m)) ≡ n
      same-degree q = omega (arith, q)

      less : (x y : ℤ) (d : ℕ) → d ≡ n → nat_abs ((x +ℤ y) -ℤ y) ≤ 64 * d → nat_abs x ≤ 64 * n
      less x y d q l = omega (arith, ints, q, l)

  pub correction-within : AreWithin n h
  correction-within = Every-from_In (λ t. (nat_abs t.0.exp.a ≤ 64 * n) × (nat_abs t.0.exp.b ≤ 64 * n)) h each
    where
      each : (t : Key × Ratio) → In t h → Within t.0.exp
      each t i = go (zero-or-not t.0.exp.b) (zero-or-not t.0.exp.a)
        where
          facts : (degree t.0 ≡ n) × (t.0.exp ≢ origin)
          facts = Every-at (λ (t : Key × Ratio). (degree t.0 ≡ n) × (t.0.exp ≢ origin)) h t c.degrees i

          turn-x : (a b : ℤ) → a *ℤ pos 0 -ℤ b *ℤ pos 1 ≡ pos 0 → b ≡ pos 0
          turn-x a b e = omega (arith, ints, e)

          turn-y : (a b : ℤ) → a *ℤ pos 1 -ℤ b *ℤ pos 0 ≡ pos 0 → a ≡ pos 0
          turn-y a b e = omega (arith, ints, e)

          go : (t.0.exp.b ≡ pos 0) ⊎ (t.0.exp.b ≢ pos 0) → (t.0.exp.a ≡ pos 0) ⊎ (t.0.exp.a ≢ pos 0) → Within t.0.exp
          go (inr q) r = back t facts.0 axis_x (from-axis t i axis_x (inl refl) (λ e. q (turn-x t.0.exp.a t.0.exp.b e)))
          go (inl q) (inr r) = back t facts.0 axis_y (from-axis t i axis_y (inr (inl refl)) (λ e. r (turn-y t.0.exp.a t.0.exp.b e)))
          go (inl q) (inl r) = absurd (facts.1 (same-exp t.0.exp origin r q))

-- what the program makes of the half-walls there
pub as-top : (ws : List Wall) (p : Point) (n o : ℕ) (hs : List HalfWall) (e m : Exp) (s : Seen) → o ≡ n → halves_of hs ≡ half_walls ws p → e ≡ m → IsSeriesOf s o (of_degree o (carried o hs e)) → IsSeriesOf s n (top ws p n m)
as-top ws p n o hs e m s q h i is =
    subst (λ (j : ℕ). IsSeriesOf s j (top ws p j m)) q
    (subst (λ (u : Exp). IsSeriesOf s o (top ws p o u)) i (subst (λ (gs : List Half). IsSeriesOf s o (of_degree o (carry o gs (monomial (z e))))) h is))

-- the test of the weight
pub light-told : (ws : List Wall) (p : Point) (n o : ℕ) (hs gs : List HalfWall) (b : Bool) → o ≡ n → hs ≡ gs → halves_of gs ≡ half_walls ws p → b ≡ true
    → MatchBool b (majorants_mass o (halves_of hs) ≤ 2 ^ 126) (2 ^ 126 < majorants_mass o (halves_of hs)) → weight ws p n ≤ 2 ^ 126
light-told ws p n o hs gs true q v h e l =
    subst (λ (j : ℕ). majorants_mass j (half_walls ws p) ≤ 2 ^ 126) q (subst (λ (us : List Half). majorants_mass o us ≤ 2 ^ 126) (ap halves_of v ∙ h) l)
light-told ws p n o hs gs false q v h e l = absurd (cc)

pub axis-unit : (axis : Axis) → IsUnit (axis_of axis)
axis-unit X = (omega arith, omega arith)
axis-unit Y = (omega arith, omega arith)

-- a monomial of degree 0 leaves the degree
over-monomial : (k : Key) (m : Exp) (n : ℕ) → degree k ≡ n → degree (key_mul k (z m)) ≡ n
over-monomial k m n q = omega (arith, q)

-- ---- the leading part of the images, which reads their terms of one degree alone

-- the terms of degree n of an image, read of a series of them
pub top-read : (ws : List Wall) (p : Point) (n : ℕ) (s : Seen) (m : Exp) → IsSeriesOf s n (top ws p n m) → (k : Key) → degree k ≡ n → coef s.terms (key_mul k (z m)) ≡ coef (image ws p n m) (key_mul k (z m))
top-read ws p n s m is k d = is.same (key_mul k (z m)) ∙ (part-is-read n (image ws p n m) (key_mul k (z m))).0 (over-monomial k m n d)

module _ (ws : List Wall) (p : Point) (n : ℕ) (x y : Seen) (at_x : IsSeriesOf x n (top ws p n axis_x)) (at_y : IsSeriesOf y n (top ws p n axis_y)) (h : Lie) where
  abbrev Reads : Sum → Exp → Key → Type 0
  Reads f m k = coef f (key_mul k (z m)) *ℤ (ratio_at h k).den ≡ (ratio_at h k).num *ℤ det k.exp m

  same : (f g : Sum) (m : Exp) (k : Key) → coef f (key_mul k (z m)) ≡ coef g (key_mul k (z m)) → Reads g m k → Reads f m k
  same f g m k e r = ap (λ c. c *ℤ (ratio_at h k).den) e ∙ r

  pub to-leading : IsCorrection ws p n h → IsLeading x.terms y.terms n h
  to-leading c = record {
    ratios = c.ratios;
    nonzero = c.nonzero;
    distinct = c.distinct;
    degrees = c.degrees;
    at_x = λ k d. same x.terms (image ws p n axis_x) axis_x k (top-read ws p n x axis_x at_x k d) (c.bracket axis_x k (inl refl) d);
    at_y = λ k d. same y.terms (image ws p n axis_y) axis_y k (top-read ws p n y axis_y at_y k d) (c.bracket axis_y k (inr (inl refl)) d);
  }

  pub from-leading : IsLeading x.terms y.terms n h → IsCorrection ws p n h
  from-leading c = record {
    ratios = c.ratios;
    nonzero = c.nonzero;
    distinct = c.distinct;
    degrees = c.degrees;
    bracket = λ m k i d.
        on_axis (λ m. Reads (image ws p n m) m k)
        (same (image ws p n axis_x) x.terms axis_x k (sym (top-read ws p n x axis_x at_x k d)) (c.at_x k d))
        (same (image ws p n axis_y) y.terms axis_y k (sym (top-read ws p n y axis_y at_y k d)) (c.at_y k d)) m i;
  }

-- ---- the correction at a point that is consistent at the order before

abbrev ConsistentBefore : List Wall → Point → ℕ → Type 0
ConsistentBefore ws p k = (n : ℕ) → n + 1 ≡ k → IsConsistentAt ws n p

module _ (ws : List Wall) (p : Point) (proper-walls : Every Proper ws) where
  below-degree : (n : ℕ) (m : Exp) → SameTo n (image ws p n m) (monomial (z m)) → Eq n (image ws p (suc n) m) (monomial (z m))
  below-degree n m h =
      Eq-trans n _ (image (cut_walls n ws) p n m) _ (image-cut n (suc n) (omega arith) ws p m proper-walls)
      (Eq-trans n _ (image ws p n m) _ (Eq-sym n _ _ (image-cut n n (omega arith) ws p m proper-walls)) (to_Eq n _ _ h))

  pub exists : (k : ℕ) → 1 ≤ k → ConsistentBefore ws p k → (h : Lie) × IsCorrection ws p k h × Every IsWhole h
  exists zero l c = absurd (omega (arith, l))
  exists (suc n) l c = let i = c n (add-one n) in correction n ws p proper-walls (below-degree n axis_x i.x) (below-degree n axis_y i.y)

  pub correction-whole : (k : ℕ) → 1 ≤ k → ConsistentBefore ws p k → (h : Lie) → IsCorrection ws p k h → Every IsWhole h
  correction-whole k l c h is =
      let r = exists k l c in
      Every-from_In IsWhole h (λ t i. subst (λ (x : Ratio). IsWhole (t.0, x)) (correction_is_unique ws p k r.0 h r.1 is t.0 ∙ ratio-own h is.distinct t i) (whole-at r.0 r.2 t.0))

-- ---- walls of one order

module _ (m : ℕ) (ws : List Wall) (walls : Every (IsWall m) ws) where
  abbrev proper-walls : Every Proper ws
  proper-walls = Every-implies (IsWall m) Proper ws (λ w h. proper m w h) walls

  functions : HaveFunctions ws
  functions = Every-implies (IsWall m) _ ws (λ w h. (m, h.function)) walls

  pub leading-exists : (p : Point) (k : ℕ) → 1 ≤ k → ConsistentBefore ws p k → (x y : Seen) → IsSeriesOf x k (top ws p k axis_x) → IsSeriesOf y k (top ws p k axis_y)
      → (h : Lie) × IsLeading x.terms y.terms k h
  leading-exists p k l c x y a b = let e = exists ws p proper-walls k l c in (e.0, to-leading ws p k x y a b e.0 e.1)

  -- a correction that is whole, at a light point
  as-obstruction : (p : Point) (k : ℕ) → AreTame ws → weight ws p k ≤ 2 ^ 126 → (h : Lie) → IsCorrection ws p k h → Every IsWhole h → IsObstruction ws p k h
  as-obstruction p k tame light h is whole = record {
    correction = is;
    whole = whole;
    within = correction-within ws p k h tame is;
    values = λ vs v. le_trans (correction-is-light ws p k h vs functions is v) light;
  }

  pub obstructed : (p : Point) (k : ℕ) → 1 ≤ k → ConsistentBefore ws p k → AreTame ws → weight ws p k ≤ 2 ^ 126
      → (x y : Seen) → IsSeriesOf x k (top ws p k axis_x) → IsSeriesOf y k (top ws p k axis_y) → (h : Lie) → IsLeadingPart x.terms y.terms k h → IsObstruction ws p k h
  obstructed p k l c tame light x y a b h i =
      let is = from-leading ws p k x y a b h i.leading in as-obstruction p k tame light h is (correction-whole ws p proper-walls k l c h is)

  -- ---- from the image of one axis, to one side of which all walls turn

  module _ (p : Point) (k : ℕ) (l : 1 ≤ k) (axis : Axis) (σ : ℤ) (unit : nat_abs σ ≡ 1) (side : IsOneSided ws p σ (axis_of axis)) (x : Seen) (a : IsSeriesOf x k (top ws p k (axis_of axis))) where
    not-origin : (axis : Axis) → axis_of axis ≢ origin
    not-origin X e = absurd (apart (ap (λ (m : Exp). m.a) e))
      where
        apart : pos 1 ≡ pos 0 → ⊥
        apart q = omega (arith, ints, q)
    not-origin Y e = absurd (apart (ap (λ (m : Exp). m.b) e))
      where
        apart : pos 1 ≡ pos 0 → ⊥
        apart q = omega (arith, ints, q)

    along : (axis : Axis) (e : Exp) → det e (axis_of axis) ≡ pos 0 → det (axis_of axis) (exp_add e (axis_of axis)) ≡ det (axis_of axis) (axis_of axis)
    along X e q = turned e.a e.b q
      where
        turned : (a b : ℤ) → a *ℤ pos 0 -ℤ b *ℤ pos 1 ≡ pos 0 → pos 1 *ℤ (b +ℤ pos 0) -ℤ pos 0 *ℤ (a +ℤ pos 1) ≡ pos 1 *ℤ pos 0 -ℤ pos 0 *ℤ pos 1
        turned a b q = omega (arith, ints, q)
    along Y e q = turned e.a e.b q
      where
        turned : (a b : ℤ) → a *ℤ pos 1 -ℤ b *ℤ pos 0 ≡ pos 0 → pos 0 *ℤ (b +ℤ pos 1) -ℤ pos 1 *ℤ (a +ℤ pos 0) ≡ pos 0 *ℤ pos 1 -ℤ pos 1 *ℤ pos 0
        turned a b q = omega (arith, ints, q)

    pub nothing-along : HasNothingAlong x.terms k (axis_of axis)
    nothing-along j d q =
        let u = axis_of axis in
        let e = over-monomial j u k d in
        top-read ws p k x u a j d
        ∙ image-keeps-edge ws p k σ u u (key_mul j (z u)) functions (not-origin axis) unit side (omega (arith, e)) (along axis j.exp q)
        ∙ coef-above 0 (monomial (z u)) (key_mul j (z u)) (omega arith, tt) (omega (arith, e, l))

    pub obstructed-by-one : ConsistentBefore ws p k → AreTame ws → weight ws p k ≤ 2 ^ 126 → (h : Lie) → IsLeadingAlong x.terms k (axis_of axis) h → IsObstruction ws p k h
    obstructed-by-one c tame light h i =
        let r = before k l c told in as-obstruction p k tame light h r.0 r.1
      where
        told : IsReadOf ws p k (axis_of axis) h
        told = record {
          ratios = i.ratios;
          nonzero = i.nonzero;
          distinct = i.distinct;
          degrees = i.degrees;
          bracket = λ j d. ap (λ n. n *ℤ (ratio_at h j).den) (sym (top-read ws p k x (axis_of axis) a j d)) ∙ i.bracket j d;
        }

        before : (k : ℕ) → 1 ≤ k → ConsistentBefore ws p k → IsReadOf ws p k (axis_of axis) h → IsCorrection ws p k h × Every IsWhole h
        before zero l c t = absurd (omega (arith, l))
        before (suc n) l c t =
            subst (λ j. IsReadOf ws p j (axis_of axis) h → IsCorrection ws p j h × Every IsWhole h) (add-one n)
            (λ t. one-image-is-enough ws p n σ (axis_of axis) h functions (not-origin axis) unit side (c n (add-one n)) t) t

  pub rays-light : (p : Point) (k : ℕ) → weight ws p k ≤ 2 ^ 126 → (rs : List Wall) → ((r : Wall) → In r rs → In r ws) → Every (λ r. IsTrue (starts_at r p) → mass_to k r.function ≤ 2 ^ 126) rs
  rays-light p k light rs among =
      Every-from_In (λ r. IsTrue (starts_at r p) → mass_to k r.function ≤ 2 ^ 126) rs
      (λ r i s. le_trans (starting-ray-is-light ws p k r functions (among r i) s (direction-not_origin r.dir (Every-at (IsWall m) ws r walls (among r i)).direction)) light)
