use Rattle.vertex_lie.proofs.Arranged.{arranged-element, arranged-of}
use Rattle.vertex_lie.proofs.element.LieElement.from_terms.Goals as goal

pub invariant_of-result : goal.invariant_of-result
invariant_of-result c = arranged-element _ _ (rw c.in_ok-terms.ensures.items at c.in_ok-arrange.ensures) c.requires.distinct c.requires.exponents c.requires.nonzero

pub returns : goal.returns
returns c = arranged-of _ _ (rw c.in_ok-terms.ensures.items at c.in_ok-arrange.ensures) c.requires.distinct c.requires.exponents c.requires.nonzero
