use Rattle.completion_theory.proofs.rays_start_at_active_points.Goals as goal
use Rattle.completion_theory.proofs.UniqueCorrection.{rays_start_at_active_points}
use Rattle.completion_theory.proofs.ActivePoints.{live_rays_start_at_active_points}

pub returns : goal.returns
returns c = record { outgoing = rays_start_at_active_points; live = live_rays_start_at_active_points }
