use Rattle.vertex_lie.specs.Shown.{lie_of}
use Rattle.vertex_lie.proofs.Arranged.{ratios-lowest}
use Rattle.vertex_lie.proofs.OneImage.{dividends, along-element, leading-along}
use Rattle.vertex_lie.proofs.leading_part.leading_from.Goals as goal

pub quotients-requires : goal.quotients-requires
quotients-requires c =
    rw (c.as_slice.ensures.value, c.in_ok-read.ensures, c.reading_of.ensures, c.terms.ensures.terms)
    (dividends c.args.axis c.args.image.now.order c.args.degree c.args.image.now.terms c.terms.ensures.valid)

pub sorted-requires : goal.sorted-requires
sorted-requires c =
    along-element c.args.axis c.args.image.now.order c.args.degree c.args.image.now.terms c.terms.ensures.valid (lie_of c.in_ok-terms.terms.items)
    (rw (c.as_slice.ensures.value, c.in_ok-read.ensures, c.reading_of.ensures, c.terms.ensures.terms) at c.in_ok-terms.ensures) (ratios-lowest c.in_ok-terms.terms.items)

pub returns : goal.returns
returns c =
    rw c.sorted.ensures
    (leading-along c.args.axis c.args.image.now.order c.args.degree c.args.image.now.terms c.terms.ensures.valid (lie_of c.in_ok-terms.terms.items)
    (rw (c.as_slice.ensures.value, c.in_ok-read.ensures, c.reading_of.ensures, c.terms.ensures.terms) at c.in_ok-terms.ensures) (ratios-lowest c.in_ok-terms.terms.items) c.requires.edge)
