use Rattle.std.proofs.Common.{subst}
use Rattle.std.specs.Prelude.{IfOk, None}
use Rattle.scattering.specs.Theta.{IsAskFault}
use Rattle.plane_geom.specs.Shown.{point_of}
use Rattle.trunc_series.specs.Shown.{exp_of}
use Rattle.bend_finder.specs.Ahead.{SeenFinder}
use Rattle.broken_lines.proofs.asking.tails.Goals as goal

pub returns-clause-free : goal.returns-clause-free
returns-clause-free c = subst (λ (f : SeenFinder). IfOk c.tails.result (λ t. IsAskFault f.walls f.limit (exp_of c.args.m) (point_of c.args.at.now) None)) c.in_ok-tracer.ensures c.tails.ensures.free
