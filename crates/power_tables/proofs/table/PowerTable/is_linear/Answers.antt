use Rattle.std.proofs.Common.{◌<◌, ◌*◌, ℕ, subst, arith, nat_lt, IsTrue}
use Rattle.power_tables.specs.Tables.{IsLinear}
use Rattle.power_tables.proofs.SeenTables.{one-column}
use Rattle.power_tables.proofs.table.PowerTable.is_linear.Goals as goal

below : (a b : ℕ) → IsTrue (nat_lt a b) → a < b
below a b h = grind arith

pub returns : goal.returns
returns c = λ h. subst IsLinear c.self.view_is (one-column c.self.inside.parts.items (c.self.invariant.linear (below c.self.inside.order (2 * c.self.inside.least) h)))
