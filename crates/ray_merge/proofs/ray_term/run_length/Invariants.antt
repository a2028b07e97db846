use Rattle.std.proofs.Common.{◌≡◌, take}
use Rattle.scattering.specs.Collections.{Every}
use Rattle.plane_geom.specs.Shown.{vector_of}
use Rattle.ray_merge.specs.RayTerms.{dir_of}
use Rattle.ray_merge.proofs.ray_term.run_length.Given as goal

abbrev pub invariant-loop-i : goal.invariant-loop-i
invariant-loop-i l = Every (λ t. dir_of t ≡ vector_of l.dir) (take l.i l.terms)
