use Rattle.std.proofs.Common.{◌≡◌, ◌<◌, ap, sym, subst, ◌∙◌, length, [], ◌∷◌, arith}
use Rattle.std.specs.Prelude.{filter}
use Rattle.std.proofs.lemmas.List.{take_all}
use Rattle.scattering.specs.Collections.{Every}
use Rattle.scattering.specs.Wall.{Wall, Outgoing, is_live, cut_walls}
use Rattle.scattering.specs.Completion.{IsReduced}
use Rattle.scattering.proofs.Lists.{map-append, Every-append}
use Rattle.completion_theory.proofs.LowerOrders.{reduced-lower}
use Rattle.scatter_diagram.specs.declared.wall.Wall.{Wall as CodeWall}
use Rattle.scatter_diagram.specs.Shown.{wall_of, walls_of}
use Rattle.scatter_diagram.specs.Listed.{AreOfOrder}
use Rattle.scatter_diagram.proofs.Stored.{with-live, without-live}
use Rattle.scatter_diagram.proofs.diagram.Diagram.live_rays.Goals as goal
use Rattle.scatter_diagram.proofs.diagram.Diagram.live_rays.Goals.{then-is_live+in_ok-push, else-is_live}

pub loop-i-preserved : goal.loop-i-preserved
loop-i-preserved c =
    let n = c.args.order in
    let rs = c.args.self.now.diagram.rays in
    let i = c.loop-i.i in
    let r = wall_of c.ray.result.now in
    let l : i < length rs = let t = c.loop-i-test.true in let e = c.ray_count-i-end.ensures.count in omega (arith, t, e) in
    let out = c.loop-i.out.items in
    let low = c.in_ok-low.low in
    elim c.if-is_live.branch [
      | then-is_live+in_ok-push w ↦
          let f = ap (λ v. v.items) w.out-is ∙ w.in_ok-push.ensures.items in
          record {
            walls = with-live n rs i r l c.ray.ensures.wall out c.if-is_live.out.items low c.loop-i.invariant.walls c.in_ok-low.ensures.wall (sym c.is_live.ensures ∙ w.if-is_live.true) f;
            order = subst (AreOfOrder n) (sym f) (Every-append (λ (u : CodeWall). u.function.order ≡ n) out (low ∷ []) c.loop-i.invariant.order (c.in_ok-low.ensures.order, tt));
            outgoing = subst (Every (λ (u : Wall). u.kind ≡ Outgoing)) (sym (ap walls_of f ∙ map-append wall_of out (low ∷ []))) (Every-append (λ (u : Wall). u.kind ≡ Outgoing) (walls_of out) (wall_of low ∷ []) c.loop-i.invariant.outgoing (ap (λ (u : Wall). u.kind) c.in_ok-low.ensures.wall ∙ c.ray.ensures.outgoing, tt));
          }
      | else-is_live w ↦
          let f = ap (λ v. v.items) w.out-is in
          record {
            walls = without-live n rs i r l c.ray.ensures.wall out c.if-is_live.out.items low c.loop-i.invariant.walls c.in_ok-low.ensures.wall (sym c.is_live.ensures ∙ w.if-is_live.false) f;
            order = subst (AreOfOrder n) (sym f) c.loop-i.invariant.order;
            outgoing = subst (λ (us : _). Every (λ (u : Wall). u.kind ≡ Outgoing) (walls_of us)) (sym f) c.loop-i.invariant.outgoing;
          }
    ]

pub returns-clause-rays : goal.returns-clause-rays
returns-clause-rays c =
    let rs = c.args.self.now.diagram.rays in
    let t = c.loop-i-test.false in
    let e = c.ray_count-i-end.ensures.count in
    let walls = c.loop-i.invariant.walls ∙ ap (λ us. filter is_live (cut_walls c.args.order us)) (take_all c.loop-i.i rs (omega (arith, t, e))) in
    record {
      order = c.loop-i.invariant.order;
      outgoing = c.loop-i.invariant.outgoing;
      reduced = subst IsReduced (sym walls) (reduced-lower c.args.order rs c.ray_count-i-end.ensures.rays.reduced);
    }
