use Rattle.plane_geom.specs.Shown.{point_of, vector_of}
use Rattle.ray_merge.proofs.Places.{by-directions, by-starts}
use Rattle.std.proofs.Common.{◌∙◌}
use Rattle.ray_merge.proofs.place.compare_places.Goals as goal

pub returns-in-Equal : goal.returns-in-Equal
returns-in-Equal c = c.compare_directions.ensures ∙ by-directions (point_of c.args.r.now.at) (point_of c.args.s.now.at) (vector_of c.args.r.now.dir) (vector_of c.args.s.now.dir) (c.compare.ensures.equal.0 c.in-Equal.is)

pub returns-in_default : goal.returns-in_default
returns-in_default c = by-starts (point_of c.args.r.now.at) (point_of c.args.s.now.at) (vector_of c.args.r.now.dir) (vector_of c.args.s.now.dir) c.compare.result c.compare.ensures.value c.in_default.not-Equal
