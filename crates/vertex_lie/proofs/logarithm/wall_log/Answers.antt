use Rattle.std.specs.Prelude.{not, []}
use Rattle.scattering.specs.Series.{key_eq, unit, rest}
use Rattle.plane_geom.specs.Shown.{vector_of as direction_of}
use Rattle.trunc_series.specs.Shown.{sum_of}
use Rattle.trunc_series.proofs.Exact.{own}
use Rattle.trunc_series.proofs.Terms.{sum_of-where}
use Rattle.trunc_series.proofs.Inverses.{rest-valid, tame-filter}
use Rattle.trunc_series.proofs.PowerLaws.{rest-tame}
use Rattle.vertex_lie.specs.Shown.{lie_of}
use Rattle.vertex_lie.proofs.Arranged.{ratios-lowest}
use Rattle.vertex_lie.proofs.Logarithms.{log-keys, log-smalls, log-element, log-of, degrees-of}
use Rattle.vertex_lie.proofs.logarithm.wall_log.Goals as goal

pub scaled_sum-requires-clause-reduced : goal.scaled_sum-requires-clause-reduced
scaled_sum-requires-clause-reduced c =
    let v = rest-valid c.args.function.now.order c.args.function.now.terms c.terms.ensures.valid in
    rw (c.order.ensures.value, c.as_slice.ensures.value, c.in_ok-others.ensures, sum_of-where (λ t. not (key_eq t.0 unit)) c.terms.result.now, c.terms.ensures.terms)
    (own c.args.function.now.order (rest c.args.function.now.terms) v.series v.small)

pub scaled_sum-requires-clause-tame : goal.scaled_sum-requires-clause-tame
scaled_sum-requires-clause-tame c =
    rw (c.as_slice.ensures.value, c.in_ok-others.ensures, sum_of-where (λ t. not (key_eq t.0 unit)) c.terms.result.now, c.terms.ensures.terms)
    (tame-filter (λ t. not (key_eq t.0 unit)) c.args.function.now.terms (rest-tame c.args.function.now.terms c.requires.near (degrees-of (direction_of c.args.dir.now) (rest c.args.function.now.terms) c.requires.function.others)))

pub shares-requires-clause-multiples : goal.shares-requires-clause-multiples
shares-requires-clause-multiples c =
    rw c.as_slice-2.ensures.value
    (log-keys c.args.function.now.order (direction_of c.args.dir.now) c.args.function.now.terms (sum_of c.in_ok-sum.sum.items) [] c.args.dir.now.primitive c.requires.function.others (c.in_ok-is_within.ensures.0 c.if-not-branch.false)
    (rw (c.order.ensures.value, c.as_slice.ensures.value, c.in_ok-others.ensures, sum_of-where (λ t. not (key_eq t.0 unit)) c.terms.result.now, c.terms.ensures.terms) at c.in_ok-sum.ensures))

pub shares-requires-clause-small : goal.shares-requires-clause-small
shares-requires-clause-small c =
    rw c.as_slice-2.ensures.value
    (log-smalls c.args.function.now.order (direction_of c.args.dir.now) c.args.function.now.terms (sum_of c.in_ok-sum.sum.items) [] c.args.dir.now.primitive c.requires.function.others (c.in_ok-is_within.ensures.0 c.if-not-branch.false)
    (rw (c.order.ensures.value, c.as_slice.ensures.value, c.in_ok-others.ensures, sum_of-where (λ t. not (key_eq t.0 unit)) c.terms.result.now, c.terms.ensures.terms) at c.in_ok-sum.ensures))

pub sorted-requires : goal.sorted-requires
sorted-requires c =
    log-element c.args.function.now.order (direction_of c.args.dir.now) c.args.function.now.terms (sum_of c.in_ok-sum.sum.items) (lie_of c.in_ok-terms.terms.items) c.args.dir.now.primitive c.requires.function.others (c.in_ok-is_within.ensures.0 c.if-not-branch.false)
    (rw (c.order.ensures.value, c.as_slice.ensures.value, c.in_ok-others.ensures, sum_of-where (λ t. not (key_eq t.0 unit)) c.terms.result.now, c.terms.ensures.terms) at c.in_ok-sum.ensures)
    (rw c.as_slice-2.ensures.value at c.in_ok-terms.ensures) (ratios-lowest c.in_ok-terms.terms.items)

pub returns-clause-logarithm : goal.returns-clause-logarithm
returns-clause-logarithm c =
    rw c.sorted.ensures
    (log-of c.args.function.now.order (direction_of c.args.dir.now) c.args.function.now.terms (sum_of c.in_ok-sum.sum.items) (lie_of c.in_ok-terms.terms.items) c.args.dir.now.primitive c.requires.function.others (c.in_ok-is_within.ensures.0 c.if-not-branch.false)
    (rw (c.order.ensures.value, c.as_slice.ensures.value, c.in_ok-others.ensures, sum_of-where (λ t. not (key_eq t.0 unit)) c.terms.result.now, c.terms.ensures.terms) at c.in_ok-sum.ensures)
    (rw c.as_slice-2.ensures.value at c.in_ok-terms.ensures) (ratios-lowest c.in_ok-terms.terms.items))
