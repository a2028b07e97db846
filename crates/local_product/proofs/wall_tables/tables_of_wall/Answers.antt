use Rattle.std.proofs.Common.{arith}
use Rattle.local_product.proofs.WallFunctions.{function-near}
use Rattle.local_product.proofs.wall_tables.tables_of_wall.Goals as goal

pub new-requires-clause-near : goal.new-requires-clause-near
new-requires-clause-near c = let o = c.order-order.ensures in let v = o.value in let b = o.bounded in function-near c.args.wall.now (omega (arith, v, b))
