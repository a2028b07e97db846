use Rattle.std.proofs.Common.{◌∙◌}
use Rattle.plane_geom.proofs.Casts.{plus-fits110, plus-is110, larger105, larger106, grown-read, moved-read}
use Rattle.sum_algebra.proofs.Integers.{plus-same}
use Rattle.plane_geom.proofs.products.shifted.Goals as goal

pub returns-clause-value : goal.returns-clause-value
returns-clause-value c =
    plus-is110 c.grown.result c.moved.result (larger105 c.grown.result c.grown.ensures.bound) (larger106 c.moved.result c.moved.ensures.bound)
    ∙ plus-same _ _ _ _ (grown-read c.grown.result c.args.a c.args.t c.requires.a c.requires.t c.grown.ensures.value) (moved-read c.moved.result c.args.n c.args.d c.requires.n c.requires.d c.moved.ensures.value)

pub overflow_add-result : goal.overflow_add-result
overflow_add-result c = plus-fits110 c.grown.result c.moved.result (larger105 c.grown.result c.grown.ensures.bound) (larger106 c.moved.result c.moved.ensures.bound)
