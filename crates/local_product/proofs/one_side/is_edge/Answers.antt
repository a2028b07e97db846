use Rattle.std.proofs.Common.{refl}
use Rattle.wall_auto.specs.Sign.{sign}
use Rattle.wall_auto.specs.declared.side.Side.TheVariants.{Plus, Minus}
use Rattle.local_product.proofs.OneSide.{one-sided}
use Rattle.local_product.proofs.one_side.is_edge.Goals as goal

pub returns-then-all_turn : goal.returns-then-all_turn
returns-then-all_turn c t = one-sided c.args.p.now c.args.axis (sign Plus) c.args.halves.now refl (c.all_turn.ensures c.if-all_turn.true)

pub returns : goal.returns
returns c t = one-sided c.args.p.now c.args.axis (sign Minus) c.args.halves.now refl (c.all_turn-2.ensures t)
