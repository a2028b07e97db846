use Rattle.vertex_lie.specs.Shown.{lie_of}
use Rattle.vertex_lie.proofs.Arranged.{ratios-lowest}
use Rattle.vertex_lie.proofs.Bracketed.{sums-fit, bracket-fits, bracket-of, lie_of-kept}
use Rattle.vertex_lie.proofs.Faults.{passed}
use Rattle.vertex_lie.proofs.element.LieElement.bracket.Goals as goal

pub returns-in_err-sums-clause-range : goal.returns-in_err-sums-clause-range
returns-in_err-sums-clause-range c =
    passed c.from_residual-in_err-sums.result _ _ _ _ c.from_residual-in_err-sums.ensures.1
    (sums-fit c.args.order c.args.self.now c.args.other.now (lie_of c.in_ok-terms.terms.items) (lie_of c.arrange.new.terms.items) c.terms.ensures.element.ratios c.terms-2.ensures.element.ratios (ratios-lowest c.arrange.new.terms.items)
    (rw (c.terms.ensures.terms, c.terms-2.ensures.terms) at c.in_ok-terms.ensures.products) c.in_ok-arrange.ensures)
    (rw c.as_slice.ensures.value at c.in_err-sums.ensures.range)

pub sorted-requires : goal.sorted-requires
sorted-requires c =
    rw (c.in_ok-terms-2.ensures, c.as_slice-2.ensures.value, lie_of-kept c.in_ok-sums.sums.items)
    (bracket-of c.args.order c.args.self.now c.args.other.now (lie_of c.in_ok-terms.terms.items) (lie_of c.arrange.new.terms.items) c.terms.ensures.element.ratios c.terms-2.ensures.element.ratios (ratios-lowest c.arrange.new.terms.items)
    (rw (c.terms.ensures.terms, c.terms-2.ensures.terms) at c.in_ok-terms.ensures.products) c.in_ok-arrange.ensures
    (lie_of c.in_ok-sums.sums.items) (ratios-lowest c.in_ok-sums.sums.items) (rw c.as_slice.ensures.value at c.in_ok-sums.ensures.sums)).element

pub returns-clause-bracket : goal.returns-clause-bracket
returns-clause-bracket c =
    rw (c.sorted.ensures, c.in_ok-terms-2.ensures, c.as_slice-2.ensures.value, lie_of-kept c.in_ok-sums.sums.items)
    (bracket-of c.args.order c.args.self.now c.args.other.now (lie_of c.in_ok-terms.terms.items) (lie_of c.arrange.new.terms.items) c.terms.ensures.element.ratios c.terms-2.ensures.element.ratios (ratios-lowest c.arrange.new.terms.items)
    (rw (c.terms.ensures.terms, c.terms-2.ensures.terms) at c.in_ok-terms.ensures.products) c.in_ok-arrange.ensures
    (lie_of c.in_ok-sums.sums.items) (ratios-lowest c.in_ok-sums.sums.items) (rw c.as_slice.ensures.value at c.in_ok-sums.ensures.sums))

pub returns-clause-range : goal.returns-clause-range
returns-clause-range c =
    bracket-fits c.args.order c.args.self.now c.args.other.now (lie_of c.in_ok-terms.terms.items) (lie_of c.arrange.new.terms.items) c.terms.ensures.element.ratios c.terms-2.ensures.element.ratios (ratios-lowest c.arrange.new.terms.items)
    (rw (c.terms.ensures.terms, c.terms-2.ensures.terms) at c.in_ok-terms.ensures.products) c.in_ok-arrange.ensures
    (lie_of c.in_ok-sums.sums.items) (ratios-lowest c.in_ok-sums.sums.items) (rw c.as_slice.ensures.value at c.in_ok-sums.ensures.sums)
    (rw (c.terms.ensures.terms, c.terms-2.ensures.terms) at c.in_ok-terms.ensures.range)
