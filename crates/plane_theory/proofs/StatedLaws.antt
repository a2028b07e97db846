-- The laws of common points and of the two orders, as they are stated.
use Rattle.plane_theory.specs.Laws.{CommonPointExists, CommonPointIsUnique, PointOrderIsTransitive, TiedDirectionsAreEqual}
use Rattle.plane_theory.proofs.CommonPoints.{common, common-unique}
use Rattle.plane_theory.proofs.PointOrder.{before-trans}
use Rattle.plane_theory.proofs.AngleTies.{ties-are-multiples, multiples-equal}
use Rattle.plane_theory.proofs.Directions.{direction-not_origin}

pub common_point_exists : CommonPointExists
common_point_exists p d r e i j n = let c = common p d r e i j n in (c.0, c.1.point, c.1.first, c.1.second)

pub common_point_is_unique : CommonPointIsUnique
common_point_is_unique p d r e q s i j n k l a b c f = common-unique p d r e q s i j n (record { point = k; first = a; second = b }) (record { point = l; first = c; second = f })

pub point_order_is_transitive : PointOrderIsTransitive
point_order_is_transitive p q r h i j a b = before-trans p q r h.below i.below j.below a b

pub tied_directions_are_equal : TiedDirectionsAreEqual
tied_directions_are_equal d e h i a b = multiples-equal d e h i (ties-are-multiples d e (direction-not_origin d h) (direction-not_origin e i) a b)
