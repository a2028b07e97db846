-- The stages of an image: a majorant only grows, and each stage is below that of the majorant.
use Rattle.std.proofs.Common.{◌≡◌, ℕ, zero, suc, ◌≤◌, refl, sym, subst, ap, ◌∙◌, List, [], ◌∷◌, ◌++◌, le_trans, arith}
use Rattle.std.specs.Prelude.{ℤ, pos, negsuc, neg_ℤ, ◌+ℤ◌, ◌*ℤ◌, nat_abs, flat_map, not, ◌&&◌, ◌||◌}
use Rattle.std.proofs.lemmas.Int.{ints}
use Rattle.std.proofs.lemmas.List.{append-nil}
use Rattle.sum_algebra.proofs.Ring.{nought, unit as one_of, ring}
use Rattle.sum_algebra.proofs.IntegerRing.{ints_ring, ◌:+◌, ◌:*◌, X}
use Rattle.sum_algebra.proofs.Sums.{pair-ext}
use Rattle.scattering.specs.Collections.{Every}
use Rattle.scattering.specs.Series.{Exp, Key, Sum, unit, mul, pow, powers_to, one, rest, absolute, geometric, monomial, z, mass_to, SameTo, IsSeries}
use Rattle.scattering.specs.Wall.{Wall, is_on, starts_at, allows}
use Rattle.scattering.specs.LocalProduct.{Half, halves, half_walls, cross_majorant, carry, carry_majorant, axis_x, axis_y}
use Rattle.scattering.proofs.DistinctKeys.{series-distinct}
use Rattle.scattering.proofs.Lists.{Every-filter, Every-flat_map, Every-in_order, Every-images, Every-left}
use Rattle.crossing_theory.proofs.Keys.{keys}
use Rattle.crossing_theory.proofs.Translation.{Eq, Eq-sym}
use Rattle.crossing_theory.proofs.HalfWalls.{half}
use Rattle.crossing_theory.proofs.OtherFunctions.{before}
use Rattle.weight_theory.specs.Laws.{IsNonnegative, HasFunction, AreHalves, StageIsLight, MajorantStagesAreLight, CarryIsBelow, ImageIsBelow, HalvesHaveFunctions, StagesAreLight, NextStagesAreLight, ImagesAreLight}
use Rattle.weight_theory.proofs.Readings.{Bounds, to_Bounds, from_Bounds}
use Rattle.weight_theory.proofs.Bounds.{bounds-trans, bounds-same, bounds-itself, bounds-more, bounds-monomial, bounds-mul, substitute, pair-substitute, bounds-substitute, pow-nonnegative, absolute-nonnegative}
use Rattle.weight_theory.proofs.Crossings.{mul-one, turned, bounds-cross, majorant-stays-nonnegative}
use Rattle.weight_theory.proofs.Masses.{mass-bounded, mass-bounded_list, series-absolute-is-below, majorant-mass-is-monotone}

-- ---- a majorant only grows

one-below_powers : (k : ℕ) (u : Sum) (i : ℕ) → IsNonnegative u → Bounds k one (powers_to k u i)
one-below_powers k u zero p = bounds-monomial k unit
one-below_powers k u (suc i) p = bounds-more k one (powers_to k u i) (pow k u (suc i)) (pow-nonnegative k u (suc i) p) (one-below_powers k u i p)

one-below_geometric : (k : ℕ) (f : Sum) → Bounds k one (geometric k f)
one-below_geometric k f = one-below_powers k (absolute (rest f)) k (absolute-nonnegative k (rest f))

pub one-below_pow : (k : ℕ) (f : Sum) (i : ℕ) → Bounds k one (pow k (geometric k f) i)
one-below_pow k f zero = bounds-monomial k unit
one-below_pow k f (suc i) =
    bounds-same k one (mul k one one) (pow k (geometric k f) (suc i)) (mul-one k one)
    (bounds-mul k one (geometric k f) one (pow k (geometric k f) i) (one-below_geometric k f) (one-below_pow k f i))

-- each key replaced by itself
replaced : (k : ℕ) (g : Sum) → Eq k (substitute k (λ _. one) g) g
replaced k g = record {
  at = λ φ v.
      pair-substitute k (λ _. one) g φ v
      ∙ pair-ext _ φ g (λ x. ap (λ y. pos 1 *ℤ φ y +ℤ pos 0) (keys.comm x unit ∙ keys.unit_left x) ∙ ring ints_ring (φ x ∷ []) (one_of :* X :+ nought) X refl);
}

pub majorant-grows : (k : ℕ) (d : Exp) (f g : Sum) → IsNonnegative g → Bounds k g (cross_majorant k d f g)
majorant-grows k d f g p =
    bounds-same k g (substitute k (λ _. one) g) (cross_majorant k d f g) (Eq-sym k _ _ (replaced k g))
    (bounds-substitute k (λ _. one) (turned k d f) g g (λ x. one-below_pow k f _) (bounds-itself k g p))

pub carry-nonnegative : (k : ℕ) (hs : List Half) (g : Sum) → IsNonnegative g → IsNonnegative (carry_majorant k hs g)
carry-nonnegative k [] g p = p
carry-nonnegative k (h ∷ hs) g p = carry-nonnegative k hs (cross_majorant k h.wall.dir h.wall.function g) (majorant-stays-nonnegative k h.wall.dir h.wall.function g p)

pub carry-grows : (k : ℕ) (hs : List Half) (g : Sum) → IsNonnegative g → Bounds k g (carry_majorant k hs g)
carry-grows k [] g p = bounds-itself k g p
carry-grows k (h ∷ hs) g p =
    let g' : Sum = cross_majorant k h.wall.dir h.wall.function g in
    bounds-trans k g g' (carry_majorant k hs g') (majorant-grows k h.wall.dir h.wall.function g p)
    (carry-grows k hs g' (majorant-stays-nonnegative k h.wall.dir h.wall.function g p))

pub carry-append : (k : ℕ) (hs hs' : List Half) (g : Sum) → carry_majorant k (hs ++ hs') g ≡ carry_majorant k hs' (carry_majorant k hs g)
carry-append k [] hs' g = refl
carry-append k (h ∷ hs) hs' g = carry-append k hs hs' (cross_majorant k h.wall.dir h.wall.function g)

pub stage-is-light : StageIsLight
stage-is-light k hs hs' g p =
    rw (carry-append k hs hs' g)
    (mass-bounded_list k (carry_majorant k hs g) (carry_majorant k hs' (carry_majorant k hs g)) (carry-nonnegative k hs g p) (carry-grows k hs' (carry_majorant k hs g) (carry-nonnegative k hs g p)))

pub monomial-nonnegative : (x : Key) → IsNonnegative (monomial x)
monomial-nonnegative x = (omega (arith, ints), tt)

pub majorant-stages-are-light : MajorantStagesAreLight
majorant-stages-are-light ws p k hs hs' e =
    let a = stage-is-light k hs hs' (monomial (z axis_x)) (monomial-nonnegative (z axis_x)) in
    let b = stage-is-light k hs hs' (monomial (z axis_y)) (monomial-nonnegative (z axis_y)) in
    rw e (omega (arith, a, b))

-- ---- an image is below its majorant

opposite-side : (s : ℤ) → nat_abs s ≡ 1 → nat_abs (neg_ℤ s) ≡ 1
opposite-side s e = omega (arith, ints, e)

pub bounds-carry : (k : ℕ) (hs : List Half) (g G : Sum) → AreHalves hs → Bounds k g G → Bounds k (carry k hs g) (carry_majorant k hs G)
bounds-carry k [] g G q h = h
bounds-carry k (c ∷ hs) g G q h = bounds-carry k hs _ _ q.1 (bounds-cross k q.0.0.0 c.wall.dir c.wall.function (neg_ℤ c.side) g G q.0.0.1 (opposite-side c.side q.0.1) h)

pub carry-is-below : CarryIsBelow
carry-is-below k hs g G q h = from_Bounds k _ _ (bounds-carry k hs g G q (to_Bounds k g G h))

pub image-is-below : ImageIsBelow
image-is-below k hs m q = from_Bounds k _ _ (bounds-carry k hs (monomial (z m)) (monomial (z m)) q (bounds-monomial k (z m)))

-- ---- the half-walls at a point

pub halves-have-functions : HalvesHaveFunctions
halves-have-functions ws p h =
    Every-in_order IsHalf before (flat_map (halves p) ws) (Every-flat_map HasFunction IsHalf (halves p) ws of_wall h)
  where
    IsHalf : Half → Type 0
    IsHalf h = HasFunction h.wall × (nat_abs h.side ≡ 1)

    of_wall : (w : Wall) → HasFunction w → Every IsHalf (halves p w)
    of_wall w f =
        Every-images IsHalf (λ (s : ℤ). half w s) _
        (Every-filter (λ (s : ℤ). IsHalf (half w s)) (λ s. is_on w p && (not (starts_at w p) || allows w.kind s)) (pos 1 ∷ negsuc 0 ∷ []) ((f, refl), ((f, refl), tt)))

pub stages-are-light : StagesAreLight
stages-are-light ws p k m n hs hs' x y f e u v a b =
    let q : AreHalves hs = Every-left _ hs hs' (subst AreHalves e (halves-have-functions ws p f)) in
    let c = one_stage axis_x x m u a q in
    let d = one_stage axis_y y n v b q in
    let l = majorant-stages-are-light ws p k hs hs' e in
    omega (arith, c, d, l)
  where
    one_stage : (o : Exp) (x : Sum) (m : ℕ) → IsSeries m x → SameTo k x (carry k hs (monomial (z o))) → AreHalves hs → mass_to k x ≤ mass_to k (carry_majorant k hs (monomial (z o)))
    one_stage o x m u a q = mass-bounded k x (carry_majorant k hs (monomial (z o))) (series-distinct m x u) (to_Bounds k _ _ (λ y l. rw (a y l) (image-is-below k hs o q y l)))

pub next-stages-are-light : NextStagesAreLight
next-stages-are-light ws p k m n hs h hs' x y f e u v a b =
    let q : AreHalves hs = Every-left _ hs (h ∷ hs') (subst AreHalves e (halves-have-functions ws p f)) in
    let c = next_stage axis_x x m u a q in
    let d = next_stage axis_y y n v b q in
    rw e (omega (arith, c, d))
  where
    next_stage : (o : Exp) (x : Sum) (m : ℕ) → IsSeries m x → SameTo k x (carry k hs (monomial (z o))) → AreHalves hs
        → mass_to k (cross_majorant k h.wall.dir h.wall.function (absolute x)) ≤ mass_to k (carry_majorant k (hs ++ h ∷ hs') (monomial (z o)))
    next_stage o x m u a q =
        let g : Sum = carry_majorant k hs (monomial (z o)) in
        let g' : Sum = cross_majorant k h.wall.dir h.wall.function g in
        let p' : IsNonnegative g' = majorant-stays-nonnegative k h.wall.dir h.wall.function g (carry-nonnegative k hs (monomial (z o)) (monomial-nonnegative (z o))) in
        rw (carry-append k hs (h ∷ hs') (monomial (z o)))
        (le_trans
        (majorant-mass-is-monotone k h.wall.dir h.wall.function (absolute x) g (absolute-nonnegative k x) (series-absolute-is-below k m x (carry k hs (monomial (z o))) g u a (image-is-below k hs o q)))
        (mass-bounded_list k g' (carry_majorant k hs' g') p' (carry-grows k hs' g' p')))

pub images-are-light : ImagesAreLight
images-are-light ws p k m n x y f u v a b = stages-are-light ws p k m n (half_walls ws p) [] x y f (sym (append-nil (half_walls ws p))) u v a b
