use Rattle.std.proofs.Common.{◌+◌, arith}
use Rattle.degree_theory.specs.Parts.{multichoose}
use Rattle.weight_bounds.proofs.Choices.{choice-after}
use Rattle.weight_bounds.proofs.Rows.{next-bound}
use Rattle.weight_bounds.proofs.numbers.next_choice.Goals as goal

pub returns-then-p-lt340282366920938463463374607431768211455 : goal.returns-then-p-lt340282366920938463463374607431768211455
returns-then-p-lt340282366920938463463374607431768211455 c h q =
    let l = c.product-p.ensures (multichoose c.args.n c.args.r) (c.args.n + c.args.r) h (λ s. omega arith) c.if-p-lt340282366920938463463374607431768211455.true in
    rw c.quotient.ensures (next-bound c.product-p.result c.args.n c.args.r (multichoose c.args.n c.args.r) (multichoose c.args.n (c.args.r + 1)) (choice-after c.args.n c.args.r) l)
