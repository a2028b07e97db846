use Rattle.frac_128.proofs.Reading.{nothing, no-number, other-number}
use Rattle.frac_128.proofs.text.read_number.Goals as goal

pub returns-in_err-number : goal.returns-in_err-number
returns-in_err-number c =
    nothing _ _ _ c.from_residual.ensures (λ n f e. no-number n c.args.text.now c.parse.result c.in_err-number.ensures.value c.parse.ensures.value.0 f e)

pub returns-else-eq : goal.returns-else-eq
returns-else-eq c n f e =
    other-number c.in_ok-number.number n c.args.text.now c.format.result.now c.parse.result c.in_ok-number.ensures.value c.parse.ensures.value.0 c.format.ensures.text c.if-eq.ensures f e
