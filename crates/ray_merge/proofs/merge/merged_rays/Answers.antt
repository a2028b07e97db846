use Rattle.std.proofs.Common.{◌≡◌, ℕ, ◌+◌, ◌++◌, List, ◌∷◌, length, length-append, get_or, drop, sym, subst, ap, ◌∙◌, arith}
use Rattle.std.proofs.lemmas.List.{length-map}
use Rattle.std.specs.declared.cmp.Ordering.{Ordering}
use Rattle.scattering.specs.Wall.{Wall}
use Rattle.scattering.proofs.Lists.{Every-append, map-append}
use Rattle.trunc_series.proofs.Fronts.{second-has, second-map}
use Rattle.scatter_diagram.specs.declared.wall.Wall.{Wall as CodeWall}
use Rattle.scatter_diagram.specs.Shown.{wall_of, walls_of}
use Rattle.ray_merge.specs.Rays.{AreFronts, IsFrontOf, AreJoinable}
use Rattle.ray_merge.proofs.Steps.{Merging, start, ended}
use Rattle.ray_merge.proofs.RayLists.{rays-from, are-rays, order-push, at-place, front-with, some-left, taken, joinable-rests, merged-are-rays}
use Rattle.ray_merge.proofs.Counting.{count-fronts, count-ended}
use Rattle.ray_merge.proofs.merge.merged_rays.Goals as goal

-- the ray of the diagram at a place where both lists have one
at-front : (rays : List Wall) (i : ℕ) (s : List Wall) (o : Ordering) (x : Wall) → AreFronts o (drop i rays) s → x ≡ get_or rays i x → drop i rays ≡ x ∷ drop (i + 1) rays
at-front rays i s o x f e = at-place rays i x (some-left rays i f.0 f.2) e

front-at : (rays : List Wall) (i : ℕ) (s : List Wall) (o : Ordering) (x : Wall) → AreFronts o (drop i rays) s → x ≡ get_or rays i x → IsFrontOf o x s
front-at rays i s o x f e = front-with o x (drop (i + 1) rays) s (subst (λ (r : List Wall). AreFronts o r s) (at-front rays i s o x f e) f)

pub loop-place-init : goal.loop-place-init
loop-place-init c =
    let h = c.ray_count.ensures.rays in
    record {
      order = rw c.in_ok-out.ensures.items tt;
      merging = rw c.in_ok-out.ensures.items
          (start c.args.order c.args.e.now.diagram.rays (walls_of c.args.added.items) (rays-from c.args.e.now.order c.args.e.now.diagram.rays h.proper h.outgoing h.reduced) (are-rays c.args.order c.args.added.items c.requires.added) h.reduced.rises c.requires.added.reduced.rises);
      left = c.requires.added.order;
      joinable = c.requires.joinable;
      count = rw c.in_ok-out.ensures.items (omega arith);
    }

-- the list in the end
whole : (ws pushed left : List CodeWall) (out r : List Wall) → ws ≡ pushed ++ left → walls_of pushed ≡ out ++ r → walls_of ws ≡ (out ++ r) ++ walls_of left
whole ws pushed left out r e f = ap walls_of e ∙ map-append wall_of pushed left ∙ ap (λ us. us ++ walls_of left) f

pub take_next-requires-clause-front : goal.take_next-requires-clause-front
take_next-requires-clause-front c =
    front-at c.args.e.now.diagram.rays c.loop-place.i (walls_of c.loop-place.left.items) c.in-Some.place (wall_of c.ray.result.now) c.in-Some.ensures.fronts c.ray.ensures.wall

pub take_next-requires-clause-joinable : goal.take_next-requires-clause-joinable
take_next-requires-clause-joinable c =
    let rays = c.args.e.now.diagram.rays in
    let s = walls_of c.loop-place.left.items in
    let e = at-front rays c.loop-place.i s c.in-Some.place (wall_of c.ray.result.now) c.in-Some.ensures.fronts c.ray.ensures.wall in
    ((subst (λ (r : List Wall). AreJoinable c.args.order r s) e c.loop-place.invariant.joinable).0, tt)

pub loop-place-preserved : goal.loop-place-preserved
loop-place-preserved c =
    let n = c.args.order in
    let rays = c.args.e.now.diagram.rays in
    let added = walls_of c.args.added.items in
    let left = c.loop-place.left.items in
    let o = c.in-Some.place in
    let x = wall_of c.ray.result.now in
    let f = c.in-Some.ensures.fronts in
    let e = at-front rays c.loop-place.i (walls_of left) o x f c.ray.ensures.wall in
    let k = count-fronts o (drop c.loop-place.i rays) (walls_of left) f in
    let i = c.loop-place.invariant.count in
    record {
      order = rw c.in_ok-push.ensures.items (order-push n c.loop-place.out.items _ c.loop-place.invariant.order c.in_ok-take_next.ensures.order);
      merging = rw (c.in_ok-push.ensures.items, c.next_first-i.ensures.rays rays, c.in_ok-take_next.ensures.rest, second-map wall_of o left, e)
          (taken n rays added c.loop-place.out.items (drop (c.loop-place.i + 1) rays) (walls_of left) x _ o (subst (λ (r : List Wall). Merging n rays added (walls_of c.loop-place.out.items) r (walls_of left)) e c.loop-place.invariant.merging)
          (front-at rays c.loop-place.i (walls_of left) o x f c.ray.ensures.wall) c.in_ok-take_next.ensures.next);
      left = rw c.in_ok-take_next.ensures.rest (second-has (λ (w : CodeWall). w.function.order ≡ n) o left c.loop-place.invariant.left);
      joinable = rw (c.next_first-i.ensures.rays rays, c.in_ok-take_next.ensures.rest, second-map wall_of o left) (joinable-rests n o (drop c.loop-place.i rays) (walls_of left) c.loop-place.invariant.joinable);
      count = rw (c.in_ok-push.ensures.items, c.next_first-i.ensures.rays rays, c.in_ok-take_next.ensures.rest, second-map wall_of o left, length-append c.loop-place.out.items _) (omega (arith, k, i));
    }

pub returns-clause-rays : goal.returns-clause-rays
returns-clause-rays c =
    let n = c.args.order in
    let rays = c.args.e.now.diagram.rays in
    let added = walls_of c.args.added.items in
    let pushed = c.push_raised.new.out.items in
    let left = c.loop-place.left.items in
    let e = c.in_ok-append.ensures.items ∙ ap (λ ws. pushed ++ ws) c.from.ensures.0 in
    let m = ended n rays added (walls_of c.loop-place.out.items) (drop c.loop-place.i rays) (walls_of left) (c.order_at.ensures.ended c.in_default.is) c.loop-place.invariant.merging in
    merged-are-rays n rays added c.append.new.self.items (rw e (Every-append (λ (w : CodeWall). w.function.order ≡ n) pushed left c.in_ok-push_raised.ensures.order c.loop-place.invariant.left))
    (rw (whole c.append.new.self.items pushed left (walls_of c.loop-place.out.items) (drop c.loop-place.i rays) e c.in_ok-push_raised.ensures.walls) m)

pub returns-clause-terms : goal.returns-clause-terms
returns-clause-terms c =
    let n = c.args.order in
    let rays = c.args.e.now.diagram.rays in
    let added = walls_of c.args.added.items in
    let pushed = c.push_raised.new.out.items in
    let left = c.loop-place.left.items in
    let e = c.in_ok-append.ensures.items ∙ ap (λ ws. pushed ++ ws) c.from.ensures.0 in
    let m = ended n rays added (walls_of c.loop-place.out.items) (drop c.loop-place.i rays) (walls_of left) (c.order_at.ensures.ended c.in_default.is) c.loop-place.invariant.merging in
    rw (whole c.append.new.self.items pushed left (walls_of c.loop-place.out.items) (drop c.loop-place.i rays) e c.in_ok-push_raised.ensures.walls) m.terms

pub returns-clause-count : goal.returns-clause-count
returns-clause-count c =
    let rays = c.args.e.now.diagram.rays in
    let pushed = c.push_raised.new.out.items in
    let left = c.loop-place.left.items in
    let out = c.loop-place.out.items in
    let r = drop c.loop-place.i rays in
    let e = c.in_ok-append.ensures.items ∙ ap (λ ws. pushed ++ ws) c.from.ensures.0 in
    let a = ap length e ∙ length-append pushed left in
    let b = sym (length-map pushed wall_of) ∙ ap length c.in_ok-push_raised.ensures.walls ∙ length-append (walls_of out) r in
    let d = length-map out wall_of in
    let k = count-ended r (walls_of left) (c.order_at.ensures.ended c.in_default.is) in
    let l = length-map left wall_of in
    let i = c.loop-place.invariant.count in
    omega (arith, a, b, d, k, l, i)
