-- The image of an axis and its majorant, by degree, after some half-walls of the program and after one more.
use Rattle.std.proofs.Common.{◌≡◌, ℕ, suc, ◌+◌, ◌*◌, ◌<◌, ◌≤◌, ◌^◌, refl, sym, subst, ap, ◌∙◌, List, [], ◌∷◌, ◌++◌, length, take, get_or, not, arith}
use Rattle.std.specs.Prelude.{ℤ, ◌*ℤ◌, neg_ℤ, nat_abs}
use Rattle.std.proofs.lemmas.Int.{ints}
use Rattle.std.proofs.lemmas.List.{map_more}
use Rattle.scattering.specs.Collections.{Every}
use Rattle.scattering.specs.Series.{Exp, Term, Sum, Same, degree, coef, unit, key_eq, rest, monomial, z, mul, power, det, IsWallFunction}
use Rattle.scattering.specs.LocalProduct.{Half, cross, cross_half, carry, carry_majorant}
use Rattle.scattering.proofs.Lists.{Every-append, Every-filter}
use Rattle.trunc_series.specs.declared.arithmetic.Arithmetic.{Arithmetic}
use Rattle.trunc_series.specs.declared.arithmetic.Arithmetic.TheVariants.{Wrapping, Saturating}
use Rattle.trunc_series.specs.Arithmetic.{kept, IsKeepable}
use Rattle.trunc_series.proofs.Products.{low-mul}
use Rattle.plane_geom.specs.Shown.{vector_of}
use Rattle.weight_theory.specs.Laws.{AreHalves, IsNonnegative}
use Rattle.weight_theory.proofs.Stages.{carry-append as majorant-append, carry-nonnegative, monomial-nonnegative}
use Rattle.power_tables.specs.Parts.{GrowsBy}
use Rattle.power_tables.specs.Tables.{SeenTable, IsTableOf}
use Rattle.wall_auto.specs.declared.side.Side.{Side}
use Rattle.wall_auto.specs.declared.side.Side.TheVariants.{Plus, Minus}
use Rattle.wall_auto.specs.Sign.{sign}
use Rattle.wall_auto.specs.ByDegree.{part, StandsByDegree, KeyGrowsBy, PartsGrowBy, AreNear, AreKept, crossing_of, CrossesParts, CrossesWithin}
use Rattle.local_product.specs.declared.half_walls.HalfWall.{HalfWall}
use Rattle.local_product.specs.Shown.{half_of, halves_of}
use Rattle.local_product.specs.declared.majorants.BoundingHalf.{BoundingHalf}
use Rattle.local_product.specs.Majorants.{majorant_half, majorant_halves, HasMajorant}
use Rattle.local_product.specs.Tabled.{HalfHasTables}
use Rattle.local_product.specs.OneVariable.{in_one_variable}
use Rattle.local_product.proofs.OneVariable.{nonnegative-one_variable}
use Rattle.local_product.proofs.OneVariableFunctions.{one_variable-crossed}
use Rattle.local_product.proofs.WallFunctions.{bound-function, bound-grows}

-- ---- what each half-wall of the program has

unit-side : (s : Side) → nat_abs (neg_ℤ (sign s)) ≡ 1
unit-side Plus = refl
unit-side Minus = refl

sign-twice : (s : Side) → neg_ℤ (neg_ℤ (sign s)) ≡ sign s
sign-twice Plus = refl
sign-twice Minus = refl

pub are-halves : (hs : List HalfWall) → AreHalves (halves_of hs)
are-halves [] = tt
are-halves (h ∷ hs) = (((h.wall.now.function.order, h.wall.now.proper.function), unit-side h.crossing), are-halves hs)

-- ---- tables

pub kept-by : (rule : Arithmetic) (k : ℕ) (f : Sum) (t : SeenTable) → IsTableOf rule k f t → (ps : List Sum) → AreKept t.rule ps → AreKept rule ps
kept-by rule k f t is ps h = subst (λ (r : Arithmetic). AreKept r ps) is.arithmetic h

pub kept-for : (rule : Arithmetic) (k : ℕ) (f : Sum) (t : SeenTable) → IsTableOf rule k f t → (ps : List Sum) → AreKept rule ps → AreKept t.rule ps
kept-for rule k f t is ps h = subst (λ (r : Arithmetic). AreKept r ps) (sym is.arithmetic) h

crossed-by : (rule : Arithmetic) (t : SeenTable) → t.rule ≡ rule → (d : Exp) (s : ℤ) (old new : List Sum) → CrossesParts t d s old new → (k m : ℕ) (f g : Sum) → IsWallFunction m d f → IsTableOf rule k f t
    → StandsByDegree rule k old g → StandsByDegree rule k new (crossing_of rule k d f s g)
crossed-by rule t e d s old new c k m f g =
    subst (λ (r : Arithmetic). IsWallFunction m d f → IsTableOf r k f t → StandsByDegree r k old g → StandsByDegree r k new (crossing_of r k d f s g)) e (c k m f g)

others-grow : (s : ℕ) (f : Sum) → GrowsBy s f → GrowsBy s (rest f)
others-grow s f h = Every-filter (λ (t : Term). (nat_abs t.0.exp.a ≤ s * degree t.0) × (nat_abs t.0.exp.b ≤ s * degree t.0)) (λ t. not (key_eq t.0 unit)) f h

-- ---- exponents

pub within-near : (k : ℕ) (ps : List Sum) → k ≤ 24 → length ps ≡ suc k → PartsGrowBy 1 64 ps → AreNear ps
within-near k ps l n h = λ e b. each (part ps e) e (omega (arith, l, n, b)) (h e b)
  where
    each : (f : Sum) (e : ℕ) → e ≤ 24 → Every (λ t. KeyGrowsBy 1 64 e t.0) f → Every (λ t. KeyGrowsBy (2 ^ 16) 0 e t.0) f
    each [] e b h = tt
    each (t ∷ f) e b h = ((h.0.0, less t.0.exp.a h.0.1, less t.0.exp.b h.0.2), each f e b h.1)
      where
        less : (x : ℤ) → nat_abs x ≤ 1 + 64 * e → nat_abs x ≤ 2 ^ 16 + 0 * e
        less x q = omega (arith, ints, b, q)

-- ---- one half-wall more

carry-append : (k : ℕ) (hs hs' : List Half) (g : Sum) → carry k (hs ++ hs') g ≡ carry k hs' (carry k hs g)
carry-append k [] hs' g = refl
carry-append k (h ∷ hs) hs' g = carry-append k hs hs' (cross_half k h g)

stands-same : (rule : Arithmetic) (k : ℕ) (ps : List Sum) (f g : Sum) → Same f g → Every (λ t. IsKeepable rule t.1) g → StandsByDegree rule k ps f → StandsByDegree rule k ps g
stands-same rule k ps f g q h s = record {
  lengths = s.lengths;
  each = λ e l. let p = s.each e l in record { values = p.values; degrees = p.degrees; keepable = h; same = λ x d. p.same x d ∙ ap (kept rule) (q x) };
}

module _ (k : ℕ) (m : Exp) (hs : List HalfWall) where
  abbrev pub so_far : ℕ → List Half
  so_far i = halves_of (take i hs)

  abbrev pub image_to : ℕ → Sum
  image_to i = carry k (so_far i) (monomial (z m))

  module _ (i : ℕ) (h : HalfWall) (l : i < length hs) (e : h ≡ get_or hs i h) (tables : HalfHasTables k h) (old new : List Sum) where
    next : so_far (i + 1) ≡ so_far i ++ half_of h ∷ []
    next = map_more half_of hs i h l ∙ ap (λ (u : HalfWall). so_far i ++ half_of u ∷ []) (sym e)

    pub next-stands : CrossesParts h.powers.now (vector_of h.wall.now.dir) (sign h.crossing) old new → StandsByDegree Wrapping k old (image_to i) → StandsByDegree Wrapping k new (image_to (i + 1))
    next-stands c s =
        subst (λ (f : Sum). StandsByDegree Wrapping k new f)
        (ap (λ n. cross k (vector_of h.wall.now.dir) h.wall.now.function.terms n (image_to i)) (sym (sign-twice h.crossing))
        ∙ sym (ap (λ (us : List Half). carry k us (monomial (z m))) next ∙ carry-append k (so_far i) (half_of h ∷ []) (monomial (z m))))
        (crossed-by Wrapping h.powers.now tables.0.arithmetic (vector_of h.wall.now.dir) (sign h.crossing) old new c k h.wall.now.function.order h.wall.now.function.terms (image_to i) h.wall.now.proper.function tables.0 s)

    pub next-within : CrossesWithin h.powers.now old new → PartsGrowBy 1 64 old → PartsGrowBy 1 64 new
    next-within c w = c 1 64 (tables.0.growth 64 (others-grow 64 h.wall.now.function.terms h.wall.now.proper.tame)) w

-- ---- of majorants

module _ (k : ℕ) (m : Exp) (hs : List BoundingHalf) where
  abbrev pub majorant_to : ℕ → Sum
  majorant_to i = carry_majorant k (majorant_halves (take i hs)) (monomial (z m))

  majorant-nonnegative : (i : ℕ) → IsNonnegative (majorant_to i)
  majorant-nonnegative i = carry-nonnegative k (majorant_halves (take i hs)) (monomial (z m)) (monomial-nonnegative (z m))

  module _ (i : ℕ) (h : BoundingHalf) (l : i < length hs) (e : h ≡ get_or hs i h) (has : HasMajorant k h) (old new : List Sum) where
    one_more : majorant_halves (take (i + 1) hs) ≡ majorant_halves (take i hs) ++ majorant_half h ∷ []
    one_more = map_more majorant_half hs i h l ∙ ap (λ (u : BoundingHalf). majorant_halves (take i hs) ++ majorant_half u ∷ []) (sym e)

    pub next-majorant-stands : CrossesParts h.powers (vector_of h.wall.now.dir) (sign h.crossing) old new → StandsByDegree Saturating k old (in_one_variable (majorant_to i)) → StandsByDegree Saturating k new (in_one_variable (majorant_to (i + 1)))
    next-majorant-stands c s =
        stands-same Saturating k new _ _
        (λ x. one_variable-crossed h.wall.now.function.order (vector_of h.wall.now.dir) h.wall.now.function.terms h.wall.now.proper.function has.bound has.in_one_variable k (majorant_to i) x
        ∙ ap (λ f. coef (in_one_variable f) x) (sym (ap (λ (us : List Half). carry_majorant k us (monomial (z m))) one_more ∙ majorant-append k (majorant_halves (take i hs)) (majorant_half h ∷ []) (monomial (z m)))))
        (nonnegative-one_variable (majorant_to (i + 1)) (majorant-nonnegative (i + 1)))
        (crossed-by Saturating h.powers has.powers.arithmetic (vector_of h.wall.now.dir) (sign h.crossing) old new c k has.bound.order has.bound.terms (in_one_variable (majorant_to i))
        (bound-function h.wall.now has.bound has.in_one_variable) has.powers s)

    pub next-majorant-within : CrossesWithin h.powers old new → PartsGrowBy 1 64 old → PartsGrowBy 1 64 new
    next-majorant-within c w = c 1 64 (has.powers.growth 64 (others-grow 64 has.bound.terms (bound-grows h.wall.now has.bound has.in_one_variable))) w

-- ---- degrees and coefficients of images

pub carry-low : (k : ℕ) (hs : List Half) (g : Sum) → Every (λ t. degree t.0 ≤ k) g → Every (λ t. degree t.0 ≤ k) (carry k hs g)
carry-low k [] g h = h
carry-low k (c ∷ hs) g h = carry-low k hs (cross_half k c g) (crossed g)
  where
    crossed : (g : Sum) → Every (λ t. degree t.0 ≤ k) (cross_half k c g)
    crossed [] = tt
    crossed (t ∷ g) = Every-append (λ (t : Term). degree t.0 ≤ k) (mul k (t ∷ []) (power k c.wall.function (neg_ℤ c.side *ℤ det c.wall.dir t.0.exp))) (cross_half k c g) (low-mul k (t ∷ []) (power k c.wall.function (neg_ℤ c.side *ℤ det c.wall.dir t.0.exp))) (crossed g)
