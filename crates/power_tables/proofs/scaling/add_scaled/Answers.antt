use Rattle.std.proofs.Common.{rules, ◌+◌, get_or, refl, sym, pos, arith}
use Rattle.trunc_series.specs.Arithmetic.{IsKeepable}
use Rattle.power_tables.proofs.ScaledColumns.{added-none, added-so_far, so_far-keepable, so_far-next, all-added}
use Rattle.power_tables.proofs.scaling.add_scaled.Goals as goal
use Rattle.scattering.proofs.Lists.{Every-get}

pub loop-i-init : goal.loop-i-init
loop-i-init c = sym (added-none c.args.rule c.args.c.now c.args.values.now.items)

pub add_product-requires-clause-inside : goal.add_product-requires-clause-inside
add_product-requires-clause-inside c = added-so_far c.args.rule c.args.c.now c.args.values.now.items c.args.column.now c.loop-i.values.items c.loop-i.i c.loop-i.invariant (search rules) c.requires.lengths

pub add_product-requires-clause-number : goal.add_product-requires-clause-number
add_product-requires-clause-number c = Every-get (IsKeepable c.args.rule) c.args.column.now c.loop-i.i (pos 0) (search rules) c.requires.column

pub add_product-requires-clause-values : goal.add_product-requires-clause-values
add_product-requires-clause-values c = so_far-keepable c.args.rule c.args.c.now c.args.values.now.items c.args.column.now c.loop-i.values.items c.loop-i.i c.loop-i.invariant c.requires.factor c.requires.values c.requires.column

pub loop-i-preserved : goal.loop-i-preserved
loop-i-preserved c =
    so_far-next c.args.rule c.args.c.now c.args.values.now.items c.args.column.now c.loop-i.values.items c.add_product.new.values.items c.loop-i.i (c.loop-i.i + 1) (get_or c.args.column.now c.loop-i.i (pos 0)) c.loop-i.invariant refl (search rules) c.requires.lengths (omega arith) c.add_product.ensures

pub returns-clause-added : goal.returns-clause-added
returns-clause-added c =
    all-added c.args.rule c.args.c.now c.args.values.now.items c.args.column.now c.loop-i.values.items c.loop-i.i c.loop-i.invariant (search rules) c.requires.factor c.requires.lengths c.requires.values c.requires.column

pub returns-clause-keepable : goal.returns-clause-keepable
returns-clause-keepable c = so_far-keepable c.args.rule c.args.c.now c.args.values.now.items c.args.column.now c.loop-i.values.items c.loop-i.i c.loop-i.invariant c.requires.factor c.requires.values c.requires.column
