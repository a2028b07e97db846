use Rattle.std.proofs.Common.{ap, of_z}
use Rattle.std.specs.Int.{w64}
use Rattle.scatter_text.proofs.Spelling.{not-whole, whole}
use Rattle.scatter_text.proofs.number.read_number.Goals as goal

pub returns-in_default : goal.returns-in_default
returns-in_default c = not-whole c.args.token.now c.in-Some.c c.in-Some.ensures.0 c.in-Some.ensures.1 (λ one. c.if-c-eq1.false (ap (of_z w64) one))

pub returns-in_default-2 : goal.returns-in_default-2
returns-in_default-2 c = λ number. c.in_default.ensures (whole c.args.token.now number)
