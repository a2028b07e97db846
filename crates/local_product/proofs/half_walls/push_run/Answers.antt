use Rattle.std.proofs.Common.{◌++◌, ◌∙◌, ap, sym, subst, arith}
use Rattle.std.proofs.lemmas.List.{take_all}
use Rattle.std.specs.List.{flat_map}
use Rattle.plane_geom.specs.Shown.{point_of}
use Rattle.local_product.specs.Shown.{halves_of}
use Rattle.local_product.specs.Tabled.{HasTables, HalvesHaveTables}
use Rattle.local_product.proofs.Local.{wall_halves, tabled-halves, wall-more, wall-off}
use Rattle.local_product.proofs.half_walls.push_run.Goals as goal
use Rattle.local_product.proofs.half_walls.push_run.Goals.{then-holds+in_ok-push_halves, else-holds}
use Rattle.scattering.proofs.Lists.{Every-place}

pub loop-w-preserved : goal.loop-w-preserved
loop-w-preserved c =
    let p = point_of c.args.p.now in
    let start = halves_of c.args.out.now.items in
    let old = halves_of c.loop-w.out.items in
    let new = halves_of c.if-holds.out.items in
    elim c.if-holds.branch [
      | then-holds+in_ok-push_halves w ↦
          let f = ap (λ v. v.items) w.out-is in
          record {
            halves = wall-more p c.args.run.now c.loop-w.w-index c.w-item.result (omega arith) c.w-item.is start old new c.loop-w.invariant.halves (ap halves_of f ∙ w.in_ok-push_halves.ensures.halves);
            tables = λ n t h. subst (HalvesHaveTables n) (sym f) (w.in_ok-push_halves.ensures.tables n (Every-place (HasTables n) c.args.run.now c.loop-w.w-index c.w-item.result (omega arith) c.w-item.is t) (c.loop-w.invariant.tables n t h));
          }
      | else-holds w ↦
          let f = ap (λ v. v.items) w.out-is in
          record {
            halves = wall-off p c.args.run.now c.loop-w.w-index c.w-item.result (omega arith) c.w-item.is start old new c.loop-w.invariant.halves (sym c.holds.ensures ∙ w.if-holds.false) (ap halves_of f);
            tables = λ n t h. subst (HalvesHaveTables n) (sym f) (c.loop-w.invariant.tables n t h);
          }
    ]

pub returns-clause-halves : goal.returns-clause-halves
returns-clause-halves c =
    c.loop-w.invariant.halves
    ∙ ap (λ (ts : _). halves_of c.args.out.now.items ++ flat_map (wall_halves (point_of c.args.p.now)) ts) (take_all c.loop-w.w-index c.args.run.now (omega arith))
    ∙ ap (λ r. halves_of c.args.out.now.items ++ r) (sym (tabled-halves (point_of c.args.p.now) c.args.run.now))
