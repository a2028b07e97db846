use Rattle.std.proofs.Common.{arith}
use Rattle.scatter_diagram.proofs.Stored.{run-within, part-rises, part-within, run-walls, run-some}
use Rattle.scatter_diagram.proofs.diagram.Diagram.along.Goals as goal

pub index-requires : goal.index-requires
index-requires c =
    let e = c.self.inside in
    let h = run-within e.order e.line_count e.walls.items e.bounds.items e.positions.items c.self.invariant c.args.run (rw (← c.self.view_is) at c.requires) in
    omega (arith, h)

pub overflow_add-run : goal.overflow_add-run
overflow_add-run c =
    let e = c.self.inside in
    let h = run-within e.order e.line_count e.walls.items e.bounds.items e.positions.items c.self.invariant c.args.run (rw (← c.self.view_is) at c.requires) in
    omega (arith, h)

pub index-requires-2 : goal.index-requires-2
index-requires-2 c =
    let e = c.self.inside in
    let h = run-within e.order e.line_count e.walls.items e.bounds.items e.positions.items c.self.invariant c.args.run (rw (← c.self.view_is) at c.requires) in
    omega (arith, h)

pub slice_bounds-result-count : goal.slice_bounds-result-count
slice_bounds-result-count c =
    let e = c.self.inside in
    part-rises e.order e.line_count e.walls.items e.bounds.items e.positions.items c.self.invariant c.args.run c.index.result.now c.index-2.result.now (rw (← c.self.view_is) at c.requires) c.index.ensures c.index-2.ensures

pub slice_bounds-result-start : goal.slice_bounds-result-start
slice_bounds-result-start c =
    let e = c.self.inside in
    let h = part-rises e.order e.line_count e.walls.items e.bounds.items e.positions.items c.self.invariant c.args.run c.index.result.now c.index-2.result.now (rw (← c.self.view_is) at c.requires) c.index.ensures c.index-2.ensures in
    let k = part-within e.order e.line_count e.walls.items e.bounds.items e.positions.items c.self.invariant c.args.run c.index.result.now c.index-2.result.now (rw (← c.self.view_is) at c.requires) c.index.ensures c.index-2.ensures in
    omega (arith, h, k, c.deref.ensures.value)

pub slice_bounds-result-end : goal.slice_bounds-result-end
slice_bounds-result-end c =
    let e = c.self.inside in
    let h = part-rises e.order e.line_count e.walls.items e.bounds.items e.positions.items c.self.invariant c.args.run c.index.result.now c.index-2.result.now (rw (← c.self.view_is) at c.requires) c.index.ensures c.index-2.ensures in
    let k = part-within e.order e.line_count e.walls.items e.bounds.items e.positions.items c.self.invariant c.args.run c.index.result.now c.index-2.result.now (rw (← c.self.view_is) at c.requires) c.index.ensures c.index-2.ensures in
    omega (arith, h, k, c.deref.ensures.value)

pub offset_bounds-deref-index : goal.offset_bounds-deref-index
offset_bounds-deref-index c =
    let e = c.self.inside in
    let h = part-rises e.order e.line_count e.walls.items e.bounds.items e.positions.items c.self.invariant c.args.run c.index.result.now c.index-2.result.now (rw (← c.self.view_is) at c.requires) c.index.ensures c.index-2.ensures in
    let k = part-within e.order e.line_count e.walls.items e.bounds.items e.positions.items c.self.invariant c.args.run c.index.result.now c.index-2.result.now (rw (← c.self.view_is) at c.requires) c.index.ensures c.index-2.ensures in
    omega (arith, h, k, c.deref.ensures.value, e.walls.ok, e.walls.small)

pub returns-clause-walls : goal.returns-clause-walls
returns-clause-walls c =
    let e = c.self.inside in
    rw (c.deref.ensures.value, ← c.self.view_is) (run-walls e.order e.line_count e.walls.items e.bounds.items e.positions.items c.self.invariant c.args.run c.index.result.now c.index-2.result.now (rw (← c.self.view_is) at c.requires) c.index.ensures c.index-2.ensures _)

pub returns-clause-some : goal.returns-clause-some
returns-clause-some c =
    let e = c.self.inside in
    rw c.deref.ensures.value (run-some e.order e.line_count e.walls.items e.bounds.items e.positions.items c.self.invariant c.args.run c.index.result.now c.index-2.result.now (rw (← c.self.view_is) at c.requires) c.index.ensures c.index-2.ensures)
