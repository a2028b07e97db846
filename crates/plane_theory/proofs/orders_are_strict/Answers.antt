use Rattle.plane_theory.proofs.orders_are_strict.Goals as goal
use Rattle.plane_theory.proofs.PointOrder.{before-total, before-irrefl}
use Rattle.plane_theory.proofs.StatedLaws.{point_order_is_transitive, tied_directions_are_equal}
use Rattle.plane_theory.proofs.Angles.{turns-trans}

pub returns : goal.returns
returns c = record { compared = before-total; transitive = point_order_is_transitive; strict = before-irrefl; angles = turns-trans; ties = tied_directions_are_equal }
