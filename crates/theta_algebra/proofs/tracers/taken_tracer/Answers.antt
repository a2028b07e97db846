use Rattle.std.proofs.Common.{◌≡◌, ℕ, sym}
use Rattle.std.specs.Ordering.{nat_cmp}
use Rattle.scattering.specs.Wall.{walls}
use Rattle.bend_finder.specs.Ahead.{SeenFinder, finder}
use Rattle.bend_finder.proofs.KeptMaps.{taken-has}
use Rattle.theta_algebra.proofs.tracers.taken_tracer.Goals as goal

pub returns-in-Some-clause-tracer : goal.returns-in-Some-clause-tracer
returns-in-Some-clause-tracer c = c.requires.kept c.args.limit c.in-Some.tracer (sym c.in-Some.ensures.value)

pub returns-in-Some-clause-kept : goal.returns-in-Some-clause-kept
returns-in-Some-clause-kept c =
    taken-has nat_cmp (λ (k : ℕ) (f : SeenFinder). f ≡ finder (walls c.args.e.now.diagram) k) c.args.kept.now c.remove.new.self c.args.limit c.remove.ensures.updates c.requires.kept

pub returns-in-None-clause-kept : goal.returns-in-None-clause-kept
returns-in-None-clause-kept c =
    taken-has nat_cmp (λ (k : ℕ) (f : SeenFinder). f ≡ finder (walls c.args.e.now.diagram) k) c.args.kept.now c.remove.new.self c.args.limit c.remove.ensures.updates c.requires.kept
