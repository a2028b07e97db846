use Rattle.std.proofs.Common.{◌≡◌, ◌<◌, ℕ, take, drop, arith, ap, sym, subst, ◌∙◌, List, length, ◌++◌}
use Rattle.std.specs.List.{enumerate_from}
use Rattle.scattering.specs.Collections.{Every, in_order}
use Rattle.scatter_diagram.specs.declared.wall.Wall.{Wall as CodeWall}
use Rattle.scatter_diagram.specs.Ordered.{placed_before, places_of, IsInLineOrder, AreRunsOf}
use Rattle.scatter_diagram.specs.Stored.{picked, IsStored}
use Rattle.scatter_diagram.proofs.Stored.{stored, first-are, others-are, places-within}
use Rattle.scatter_diagram.proofs.diagram.Diagram.from_walls.Goals as goal

pub positions-requires : goal.positions-requires
positions-requires c =
    let sorted = c.in_ok-placed.ensures ∙ ap (λ ws. in_order placed_before (enumerate_from 0 ws)) c.in_ok-joined.ensures in
    let is = c.as_slice-2.ensures.value ∙ c.in_ok-places.ensures ∙ ap places_of c.as_slice.ensures.value in
    subst (λ (ks : List ℕ). Every (λ k. k < length ks) ks) (sym is) (places-within (c.args.lines.items ++ c.args.rays.items) c.in_ok-placed.placed.items sorted)

pub invariant_of-result : goal.invariant_of-result
invariant_of-result c =
    let sorted = c.in_ok-placed.ensures ∙ ap (λ ws. in_order placed_before (enumerate_from 0 ws)) c.in_ok-joined.ensures in
    let is = c.as_slice-2.ensures.value ∙ c.in_ok-places.ensures ∙ ap places_of c.as_slice.ensures.value in
    let parts = subst (λ (us : List CodeWall). (vs : List CodeWall) → IsInLineOrder vs us → AreRunsOf vs us c.in_ok-bounds.bounds.items) c.as_slice-3.ensures.value c.in_ok-bounds.ensures in
    let s = stored c.args.order c.args.lines.items c.args.rays.items c.in_ok-placed.placed.items c.in_ok-walls.walls.items c.as_slice-2.result.now c.in_ok-positions.positions.items c.in_ok-bounds.bounds.items c.requires.order c.requires.lines c.requires.rays sorted c.in_ok-walls.ensures is c.in_ok-positions.ensures parts in
    let n : c.len-line_count.result ≡ length c.args.lines.items = omega (arith, c.len-line_count.ensures) in
    subst (λ (k : ℕ). IsStored c.args.order k c.in_ok-walls.walls.items c.in_ok-bounds.bounds.items c.in_ok-positions.positions.items) (sym n) s

pub returns : goal.returns
returns c =
    let sorted = c.in_ok-placed.ensures ∙ ap (λ ws. in_order placed_before (enumerate_from 0 ws)) c.in_ok-joined.ensures in
    let is = c.as_slice-2.ensures.value ∙ c.in_ok-places.ensures ∙ ap places_of c.as_slice.ensures.value in
    let parts = subst (λ (us : List CodeWall). (vs : List CodeWall) → IsInLineOrder vs us → AreRunsOf vs us c.in_ok-bounds.bounds.items) c.as_slice-3.ensures.value c.in_ok-bounds.ensures in
    let n : c.len-line_count.result ≡ length c.args.lines.items = omega (arith, c.len-line_count.ensures) in
    let first = ap (λ (k : ℕ). take k (picked c.in_ok-walls.walls.items c.in_ok-positions.positions.items)) n ∙ first-are c.args.order c.args.lines.items c.args.rays.items c.in_ok-placed.placed.items c.in_ok-walls.walls.items c.as_slice-2.result.now c.in_ok-positions.positions.items c.in_ok-bounds.bounds.items c.requires.order c.requires.lines c.requires.rays sorted c.in_ok-walls.ensures is c.in_ok-positions.ensures parts in
    let others = ap (λ (k : ℕ). drop k (picked c.in_ok-walls.walls.items c.in_ok-positions.positions.items)) n ∙ others-are c.args.order c.args.lines.items c.args.rays.items c.in_ok-placed.placed.items c.in_ok-walls.walls.items c.as_slice-2.result.now c.in_ok-positions.positions.items c.in_ok-bounds.bounds.items c.requires.order c.requires.lines c.requires.rays sorted c.in_ok-walls.ensures is c.in_ok-positions.ensures parts in
    λ i. record { order = c.args.order; diagram = record { initial = first i; rays = others i } }
