use Rattle.wall_auto.proofs.laws.crossings_are_automorphisms.Goals as goal
use Rattle.wall_auto.proofs.CrossedSeries.{products, brackets, center, undone}

pub returns : goal.returns
returns c = record {
  products = products;
  brackets = brackets;
  center = center;
  undone = undone;
}
