-- Two numbers that print as one word are the same.
use Rattle.std.proofs.Common.{◌≡◌, ◌∙◌, sym, arith}
use Rattle.std.proofs.lemmas.Fmt.{decimal_injective}
use Rattle.scatter_run.proofs.words.read_number.Goals as goal

pub returns-else-least-n-clause-none : goal.returns-else-least-n-clause-none
returns-else-least-n-clause-none c n l k e =
    let m = c.in_ok-n.n in
    let low = c.in_ok-n.ensures.some.0 in
    let end = c.ranges.end.fits in
    let either = c.else-least-n.either in
    let same : m ≡ n = decimal_injective m n (omega (arith, low)) (omega (arith, k, end)) (sym c.in_ok-n.ensures.some.1 ∙ e) in
    omega (arith, same, either, l, k)
