use Rattle.std.proofs.Common.{◌≤◌, arith}
use Rattle.plane_geom.specs.Shown.{point_of, vector_of}
use Rattle.trunc_series.specs.Shown.{exp_of}
use Rattle.bend_finder.specs.Live.{live_of}
use Rattle.bend_finder.specs.Marks.{marked, AreReadyMarks}
use Rattle.bend_finder.proofs.Found.{found}
use Rattle.bend_finder.proofs.MarkedRuns.{lines-ahead}
use Rattle.bend_finder.proofs.finder.BendFinder.ahead.Goals as goal

pub turns_at-requires : goal.turns_at-requires
turns_at-requires c =
    let f = c.self.inside.live in
    let s = c.in_ok-found.found in
    let m : c.args.most ≤ f.limit = rw (← c.self.view_is) at c.requires.most in
    let b = c.self.invariant.low in
    record {
      small = c.requires.small;
      low = omega (arith, m, b);
      lines = lines-ahead (live_of f) (point_of c.args.p.now) (vector_of c.direction_of-d.result) s.along.items s.marks.items s.far c.in_ok-found.ensures.marks;
      order = (f.limit, m, c.in_ok-found.ensures.order);
    }

pub invariant_of-self : goal.invariant_of-self
invariant_of-self c =
    let f = c.self.inside.live in
    let s = c.in_ok-found.found in
    let r : AreReadyMarks (live_of f) c.self.inside.kept s.along.items s.marks.items = record { live = c.in_ok-found.ensures.live; kept = c.self.invariant.kept; marks = (point_of c.args.p.now, vector_of c.direction_of-d.result, s.far, c.in_ok-found.ensures.marks) } in
    record { low = c.self.invariant.low; proper = c.self.invariant.proper; kept = c.turns_at.ensures.kept (live_of f) r }

pub invariant_of-self-2 : goal.invariant_of-self-2
invariant_of-self-2 c =
    let f = c.self.inside.live in
    let s = c.in_ok-found.found in
    let r : AreReadyMarks (live_of f) c.self.inside.kept s.along.items s.marks.items = record { live = c.in_ok-found.ensures.live; kept = c.self.invariant.kept; marks = (point_of c.args.p.now, vector_of c.direction_of-d.result, s.far, c.in_ok-found.ensures.marks) } in
    record { low = c.self.invariant.low; proper = c.self.invariant.proper; kept = c.turns_at.ensures.kept (live_of f) r }

pub returns-clause-ahead : goal.returns-clause-ahead
returns-clause-ahead c =
    let f = c.self.inside.live in
    let p = point_of c.args.p.now in
    let x = exp_of c.args.x in
    let d = c.direction_of-d.result in
    let s = c.in_ok-found.found in
    let t = c.in_ok-turns.turns in
    let l : c.args.most ≤ f.limit = rw (← c.self.view_is) at c.requires.most in
    let r : AreReadyMarks (live_of f) c.self.inside.kept s.along.items s.marks.items = record { live = c.in_ok-found.ensures.live; kept = c.self.invariant.kept; marks = (p, vector_of d, s.far, c.in_ok-found.ensures.marks) } in
    rw (← c.self.view_is) (found f.walls f.limit c.self.invariant.proper p (vector_of d) x c.direction_of-d.ensures d.primitive c.args.most l (marked s.marks.items) s.far c.in_ok-found.ensures.marks.marks.found t.bends.items t.special (c.in_ok-turns.ensures.bends (live_of f) r) (c.in_ok-turns.ensures.special (live_of f) r))
