-- The function is proper, and the wall is the one that the line says.
use Rattle.std.proofs.Common.{refl, ◌∙◌, ap}
use Rattle.scattering.specs.Wall.{Line}
use Rattle.plane_geom.specs.Shown.{point_of}
use Rattle.trunc_series.specs.Shown.{Seen}
use Rattle.scatter_text.specs.GivenWalls.{function_of, direction_of}
use Rattle.scatter_text.proofs.WithinLimits.{exponents-small}
use Rattle.scatter_text.proofs.ProperFunctions.{proper}
use Rattle.scatter_text.proofs.initial.line_of.Goals as goal

pub direction-requires-clause-x : goal.direction-requires-clause-x
direction-requires-clause-x c = (exponents-small c.args.line.now c.requires.exponents).x

pub direction-requires-clause-y : goal.direction-requires-clause-y
direction-requires-clause-y c = (exponents-small c.args.line.now c.requires.exponents).y

pub line-requires : goal.line-requires
line-requires c = proper c.args.line.now c.requires c.direction.result c.in_ok-function.function c.direction.ensures c.in_ok-function.ensures

pub returns : goal.returns
returns c =
    let d = direction_of c.args.line.now in
    let f = c.in_ok-function.ensures in
    record {
      given = record { kind = Line; at = point_of c.place.result; dir = d; function = function_of d c.args.line.now.terms };
      says = record { kind = refl; point = c.place.ensures.point; x = c.place.ensures.first; y = c.place.ensures.second; direction = refl; function = refl };
      wall = c.line.ensures.wall ∙ (λ i. record { kind = Line; at = point_of c.place.result; dir = c.direction.ensures i; function = (f i).terms });
      order = ap (λ (s : Seen). s.order) (c.line.ensures.function ∙ f);
    }
