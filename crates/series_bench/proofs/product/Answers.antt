use Rattle.series_bench.proofs.Parts.{product-mass}
use Rattle.series_bench.proofs.product.Goals as goal

pub mul-requires-clause-mass : goal.mul-requires-clause-mass
mul-requires-clause-mass c = product-mass c.bounds_carry_over.ensures.masses_multiply c.args.f.now c.args.g.now c.requires.left c.requires.right
