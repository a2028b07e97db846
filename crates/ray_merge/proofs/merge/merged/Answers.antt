use Rattle.std.proofs.Common.{◌≡◌, ℕ, ◌+◌, ◌++◌, List, length, refl, sym, ap, ◌∙◌, arith}
use Rattle.std.proofs.lemmas.List.{length-append, length-map}
use Rattle.scattering.specs.Wall.{Line, Wall, cut_wall, cut_walls}
use Rattle.scattering.specs.Series.{Sum}
use Rattle.scattering.proofs.Lists.{Every-implies}
use Rattle.scatter_diagram.specs.declared.wall.Wall.{Wall as CodeWall}
use Rattle.scatter_diagram.specs.Shown.{wall_of, walls_of}
use Rattle.scatter_diagram.proofs.Walls.{are-walls, kinds-cut}
use Rattle.ray_merge.specs.Additions.{AreAdded, IsLightAlong, corrections_of}
use Rattle.ray_merge.specs.Rays.{place_count}
use Rattle.ray_merge.specs.Answer.{StaysWithin}
use Rattle.ray_merge.proofs.NextOrder.{next-joinable, next-merged}
use Rattle.ray_merge.proofs.MergedCount.{merged-count}
use Rattle.ray_merge.proofs.merge.merged.Goals as goal

pub added_rays-requires-clause-within : goal.added_rays-requires-clause-within
added_rays-requires-clause-within c = Every-implies (λ b. StaysWithin c.args.order b.0 b.1 c.args.e.now.diagram.rays) (λ b. (f : Sum) → AreAdded b.1 f → IsLightAlong c.args.order f) (corrections_of c.args.corrections.now) (λ b h. h.new) c.requires.within

pub merged_rays-requires-clause-added : goal.merged_rays-requires-clause-added
merged_rays-requires-clause-added c = rw c.from-added.ensures.0 c.in_ok-added_rays.ensures.rays

pub merged_rays-requires-clause-joinable : goal.merged_rays-requires-clause-joinable
merged_rays-requires-clause-joinable c =
    rw c.from-added.ensures.0
    (next-joinable c.args.order c.args.e.now.order (corrections_of c.args.corrections.now) c.args.e.now.diagram.rays (walls_of c.in_ok-added_rays.field-0.items) c.requires.next c.place_count.ensures.rays.proper c.in_ok-added_rays.ensures.terms c.requires.within)

pub from_walls-requires-clause-lines : goal.from_walls-requires-clause-lines
from_walls-requires-clause-lines c = record { order = c.in_ok-lines.ensures.order; lines = rw c.in_ok-lines.ensures.walls (kinds-cut Line c.args.order (walls_of c.lines-given.result.now) c.lines-given.ensures.lines.lines) }

-- the number of all walls
number : (a b : List CodeWall) → length (walls_of a ++ walls_of b) ≡ length a + length b
number a b = length-append (walls_of a) (walls_of b) ∙ rw (length-map a wall_of, length-map b wall_of) refl

-- the lines of a merged diagram, counted as they were given
given-many : (n : ℕ) (given lines rays : List Wall) → lines ≡ cut_walls n given → length (lines ++ rays) ≡ length given + length rays
given-many n given lines rays e = length-append lines rays ∙ ap (λ k. k + length rays) (ap length e ∙ length-map given (cut_wall n))

pub returns-then-place_count-given : goal.returns-then-place_count-given
returns-then-place_count-given c =
    let n = c.args.order in
    let added = c.in_ok-added_rays.field-0.items in
    let h = c.place_count.ensures.rays in
    let a = c.in_ok-added_rays.ensures.rays in
    let m =
    merged-count c.args.initial.now.lines n c.args.e.now.order c.args.e.now.diagram (corrections_of c.args.corrections.now) (walls_of added) c.requires.next h.outgoing h.proper h.reduced c.requires.mergeable
    (are-walls n added a.order) a.outgoing a.reduced c.in_ok-added_rays.ensures.terms c.in_ok-added_rays.ensures.added in
    let l = given-many n c.args.initial.now.lines m.0.initial m.0.rays m.1.initial in
    let k = c.place_count.ensures.count ∙ ap (λ ws. place_count c.args.e.now.diagram.rays (walls_of ws)) c.from-added.ensures.0 in
    let g = sym (length-map c.lines-given.result.now wall_of) ∙ ap length c.lines-given.ensures.walls in
    (refl, refl, (m.0, m.1, omega (arith, m.2, l, k, g, c.if-place_count-given.true, c.lines-given.ensures.few)))

pub returns : goal.returns
returns c =
    let lines = c.in_ok-lines.lines.items in
    let rays = c.in_ok-rays.rays.items in
    let added = walls_of c.in_ok-added_rays.field-0.items in
    let v = c.from-added.ensures.0 in
    let m =
    next-merged c.args.initial.now.lines c.args.e.now.diagram (corrections_of c.args.corrections.now) c.args.order (walls_of lines) added rays
    (rw c.lines-given.ensures.walls at c.in_ok-lines.ensures.walls) c.in_ok-rays.ensures.rays (rw v at c.in_ok-rays.ensures.terms) c.in_ok-added_rays.ensures.added in
    let n = number lines rays in
    let k = c.place_count.ensures.count ∙ sym c.in_ok-rays.ensures.count in
    let g = sym (length-map lines wall_of) ∙ ap length c.in_ok-lines.ensures.walls ∙ length-map (walls_of c.lines-given.result.now) (cut_wall c.args.order) ∙ length-map c.lines-given.result.now wall_of in
    rw c.in_ok-from_walls.ensures record { order = refl; merged = m; few = omega (arith, n, k, g, c.if-place_count-given.false, c.lines-given.ensures.few) }
