-- The quotient of the sizes is the positive number.
use Rattle.scatter_text.proofs.Multiples.{found}
use Rattle.scatter_text.proofs.along.quotient.Goals as goal

pub returns : goal.returns
returns c = found c.args.x c.args.d c.unsigned_abs.result c.unsigned_abs-2.result c.requires.some c.requires.multiple c.ranges.x c.ranges.d c.unsigned_abs.ensures.value c.unsigned_abs-2.ensures.value
