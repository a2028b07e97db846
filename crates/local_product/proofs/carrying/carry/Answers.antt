use Rattle.std.proofs.Common.{◌∙◌, arith}
use Rattle.trunc_series.specs.declared.arithmetic.Arithmetic.TheVariants.{Wrapping}
use Rattle.trunc_series.specs.Shown.{exp_of}
use Rattle.wall_auto.proofs.Results.{is-table}
use Rattle.local_product.specs.Tabled.{HalfHasTables}
use Rattle.local_product.proofs.Stages.{within-near, kept-by, kept-for, next-stands, next-within}
use Rattle.local_product.proofs.carrying.carry.Goals as goal
use Rattle.scattering.proofs.Lists.{Every-place}

pub loop-h-init : goal.loop-h-init
loop-h-init c = let e = c.in_ok-start.ensures in record {
  order = e.order ∙ c.requires.parts;
  stands = e.stands c.args.order (e.order ∙ c.requires.parts);
  within = e.within 1 64 c.requires.axis.0 c.requires.axis.1;
  kept = e.kept;
}

pub cross-requires-clause-near : goal.cross-requires-clause-near
cross-requires-clause-near c = within-near c.args.order c.loop-h.sum c.requires.order c.loop-h.invariant.order c.loop-h.invariant.within

pub cross-requires-clause-order : goal.cross-requires-clause-order
cross-requires-clause-order c =
    let t = Every-place (HalfHasTables c.args.order) c.args.halves.now c.loop-h.h-index c.h-item.result (omega arith) c.h-item.is c.requires.tables in
    let i = c.loop-h.invariant.order in let r = t.0.reach in omega (arith, i, r)

pub cross-requires-clause-table : goal.cross-requires-clause-table
cross-requires-clause-table c =
    let t = Every-place (HalfHasTables c.args.order) c.args.halves.now c.loop-h.h-index c.h-item.result (omega arith) c.h-item.is c.requires.tables in
    is-table Wrapping c.args.order c.h-item.result.wall.now.function.terms c.h-item.result.powers.now t.0

pub cross-requires-clause-kept : goal.cross-requires-clause-kept
cross-requires-clause-kept c =
    let t = Every-place (HalfHasTables c.args.order) c.args.halves.now c.loop-h.h-index c.h-item.result (omega arith) c.h-item.is c.requires.tables in
    kept-for Wrapping c.args.order c.h-item.result.wall.now.function.terms c.h-item.result.powers.now t.0 c.loop-h.sum c.loop-h.invariant.kept

pub loop-h-preserved : goal.loop-h-preserved
loop-h-preserved c =
    let t = Every-place (HalfHasTables c.args.order) c.args.halves.now c.loop-h.h-index c.h-item.result (omega arith) c.h-item.is c.requires.tables in
    let e = c.in_ok-cross.ensures in
    record {
      order = e.order ∙ c.loop-h.invariant.order;
      stands = next-stands c.args.order (exp_of c.args.m) c.args.halves.now c.loop-h.h-index c.h-item.result (omega arith) c.h-item.is t c.loop-h.sum c.cross.new.self e.crosses c.loop-h.invariant.stands;
      within = next-within c.args.order (exp_of c.args.m) c.args.halves.now c.loop-h.h-index c.h-item.result (omega arith) c.h-item.is t c.loop-h.sum c.cross.new.self e.within c.loop-h.invariant.within;
      kept = kept-by Wrapping c.args.order c.h-item.result.wall.now.function.terms c.h-item.result.powers.now t.0 c.cross.new.self e.kept;
    }
