use Rattle.std.proofs.Common.{rules, ◌≡◌, [], List, replicate, None, sym, subst}
use Rattle.order_machine.specs.declared.reader.Reader.{Reader}
use Rattle.order_machine.specs.Seen.{seen_state}
use Rattle.order_machine.specs.Stands.{Stands}
use Rattle.order_machine.specs.Moves.{no_reader}
use Rattle.order_machine.proofs.Steps.{stands_new}
use Rattle.order_machine.proofs.machine.State.new.Goals as goal

pub returns-clause-stands : goal.returns-clause-stands
returns-clause-stands c =
    let e : c.in_ok-vec.field-0.items ≡ replicate c.args.readers no_reader = search rules in
    subst (λ (l : List Reader). Stands [] (seen_state c.args.goal c.args.workers 0 None l)) (sym e) (stands_new c.args.goal c.args.workers c.args.readers)
