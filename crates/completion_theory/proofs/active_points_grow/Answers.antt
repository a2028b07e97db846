use Rattle.completion_theory.proofs.active_points_grow.Goals as goal
use Rattle.completion_theory.proofs.ActivePoints.{active_points_grow, added_terms_activate_nothing, active_points_of_next_order}

pub returns : goal.returns
returns c = record { grow = active_points_grow; added = added_terms_activate_nothing; next = active_points_of_next_order }
