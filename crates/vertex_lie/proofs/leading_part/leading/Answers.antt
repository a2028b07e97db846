use Rattle.std.specs.Prelude.{[]}
use Rattle.trunc_series.specs.Shown.{sum_of}
use Rattle.vertex_lie.specs.Shown.{lie_of}
use Rattle.vertex_lie.proofs.Arranged.{ratios-lowest}
use Rattle.vertex_lie.proofs.LeadingParts.{dividends, part-element, part-leading, leading-part}
use Rattle.vertex_lie.proofs.leading_part.leading.Goals as goal

pub quotients-requires : goal.quotients-requires
quotients-requires c =
    rw c.as_slice-2.ensures.value
    (dividends c.args.image_x.now.order c.args.image_y.now.order c.args.image_x.now.terms c.args.image_y.now.terms c.terms.ensures.valid c.terms-2.ensures.valid c.args.degree (sum_of c.in_ok-both.both.items) []
    (rw (c.as_slice-left.ensures.value, c.as_slice.ensures.value, c.in_ok-from_x.ensures, c.in_ok-from_y.ensures, c.terms.ensures.terms, c.terms-2.ensures.terms) at c.in_ok-both.ensures))

pub sorted-requires : goal.sorted-requires
sorted-requires c =
    part-element c.args.image_x.now.order c.args.image_y.now.order c.args.image_x.now.terms c.args.image_y.now.terms c.terms.ensures.valid c.terms-2.ensures.valid c.args.degree (sum_of c.in_ok-both.both.items) (lie_of c.in_ok-terms.terms.items)
    (rw (c.as_slice-left.ensures.value, c.as_slice.ensures.value, c.in_ok-from_x.ensures, c.in_ok-from_y.ensures, c.terms.ensures.terms, c.terms-2.ensures.terms) at c.in_ok-both.ensures)
    (rw c.as_slice-2.ensures.value at c.in_ok-terms.ensures) (ratios-lowest c.in_ok-terms.terms.items)

pub returns : goal.returns
returns c =
    rw c.sorted.ensures
    (leading-part c.args.image_x.now.terms c.args.image_y.now.terms c.args.degree (lie_of c.in_ok-terms.terms.items)
    (part-leading c.args.image_x.now.order c.args.image_y.now.order c.args.image_x.now.terms c.args.image_y.now.terms c.terms.ensures.valid c.terms-2.ensures.valid c.args.degree (sum_of c.in_ok-both.both.items) (lie_of c.in_ok-terms.terms.items)
    (rw (c.as_slice-left.ensures.value, c.as_slice.ensures.value, c.in_ok-from_x.ensures, c.in_ok-from_y.ensures, c.terms.ensures.terms, c.terms-2.ensures.terms) at c.in_ok-both.ensures)
    (rw c.as_slice-2.ensures.value at c.in_ok-terms.ensures) (ratios-lowest c.in_ok-terms.terms.items) c.requires.exists.0 c.requires.exists.1))
