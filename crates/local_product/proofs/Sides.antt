-- The half-walls of the program at a point: of one wall more, and in order by angle.
use Rattle.std.proofs.Common.{◌≡◌, ◌≢◌, ℕ, refl, sym, subst, ap, ◌∙◌, Bool, true, false, cond, List, arith}
use Rattle.std.specs.Prelude.{pos, neg_ℤ, flat_map}
use Rattle.std.proofs.lemmas.Int.{ints}
use Rattle.std.specs.Cmp.{IsStrictWeakOrder}
use Rattle.std.specs.Ordering.{is_lt}
use Rattle.std.specs.declared.cmp.Ordering.TheVariants.{Less, Equal, Greater}
use Rattle.std.specs.List.Sorted.{IsSortedBy, IsStableBy}
use Rattle.scattering.specs.Collections.{in_order}
use Rattle.scattering.specs.Series.{Exp, origin}
use Rattle.scattering.specs.Plane.{Point, turns_before}
use Rattle.scattering.specs.Wall.{Wall}
use Rattle.scattering.specs.LocalProduct.{along, halves, half_walls}
use Rattle.scattering.proofs.Lists.{Every-in_order}
use Rattle.plane_theory.proofs.Directions.{direction-not_origin, scale-not_origin}
use Rattle.plane_geom.specs.Shown.{vector_of, turn_order}
use Rattle.crossing_theory.proofs.OtherFunctions.{before, in_order-map}
use Rattle.crossing_theory.proofs.SortingByAngle.{turns-trans, turns-asym}
use Rattle.wall_auto.specs.declared.side.Side.{Side}
use Rattle.wall_auto.specs.declared.side.Side.TheVariants.{Plus, Minus}
use Rattle.wall_auto.specs.Sign.{sign}
use Rattle.local_product.specs.declared.half_walls.HalfWall.{HalfWall}
use Rattle.local_product.specs.Tabled.{HalfHasTables, HalvesHaveTables}
use Rattle.local_product.specs.Shown.{half_of, halves_of, half_before}
use Rattle.crossing_theory.proofs.StableSorting.{stable-in_order}

-- ---- in order by angle

has-side : (s : Side) → neg_ℤ (sign s) ≢ pos 0
has-side Plus e = omega (arith, ints, e)
has-side Minus e = omega (arith, ints, e)

directed : (h : HalfWall) → along (half_of h) ≢ origin
directed h = scale-not_origin (neg_ℤ (sign h.crossing)) (vector_of h.wall.now.dir) (has-side h.crossing) (direction-not_origin (vector_of h.wall.now.dir) h.wall.now.dir.primitive)

pub halves-ordered : IsStrictWeakOrder half_before
halves-ordered = record {
  one_way = λ g h. turns-asym (along (half_of g)) (along (half_of h));
  chain = λ g h i p q. turns-trans (along (half_of i)) (along (half_of h)) (along (half_of g)) (directed i) (directed h) (directed g) q p;
}

pub less-is : (d e : Exp) → is_lt (turn_order d e) ≡ turns_before d e
less-is d e = go (turns_before d e) (turns_before e d)
  where
    go : (b c : Bool) → is_lt (cond b Less (cond c Greater Equal)) ≡ b
    go true c = refl
    go false true = refl
    go false false = refl

pub halves-in_order : (xs ys : List HalfWall) → IsSortedBy half_before ys → IsStableBy half_before xs ys → ys ≡ in_order half_before xs
halves-in_order xs ys p q = stable-in_order half_before halves-ordered xs ys p q

module _ (xs ys : List HalfWall) (same : ys ≡ in_order half_before xs) where
  pub sorted-halves : (ws : List Wall) (p : Point) → halves_of xs ≡ flat_map (halves p) ws → halves_of ys ≡ half_walls ws p
  sorted-halves ws p e = ap halves_of same ∙ sym (in_order-map half_of half_before before (λ g h. refl) xs) ∙ ap (in_order before) e

  pub sorted-tables : (n : ℕ) → HalvesHaveTables n xs → HalvesHaveTables n ys
  sorted-tables n h = subst (HalvesHaveTables n) (sym same) (Every-in_order (HalfHasTables n) half_before xs h)
