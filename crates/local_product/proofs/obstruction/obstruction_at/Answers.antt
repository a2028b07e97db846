use Rattle.std.proofs.Common.{subst, sym}
use Rattle.local_product.specs.Obstruction.{IsConsistentBefore}
use Rattle.local_product.specs.Tabled.{SeenTables}
use Rattle.local_product.proofs.obstruction.obstruction_at.Goals as goal

pub obstruction_with-requires-clause-consistent : goal.obstruction_with-requires-clause-consistent
obstruction_with-requires-clause-consistent c = subst (λ (t : SeenTables). IsConsistentBefore t.diagram c.args.p.now t.order) (sym c.in_ok-tables.ensures) c.requires.consistent
