use Rattle.std.proofs.Common.{◌≡◌, List, map, None, Some, IsSome, IfOk, Ok, Err, true, length, sym, ap, ◌∙◌}
use Rattle.std.proofs.lemmas.List.{length-replicate}
use Rattle.std.proofs.lemmas.List.Elements.{All-same}
use Rattle.order_machine.specs.declared.event.Event.{Event}
use Rattle.order_machine.specs.History.{may_publish}
use Rattle.joint_board.specs.Seen.{results_of, AreInOrder}
use Rattle.joint_board.specs.Machine.{AllDrewAs}
use Rattle.joint_board.specs.Gathering.{drawn_of}
use Rattle.joint_board.proofs.Gathered.{all_numbers, publishes, result_count, result_once}
use Rattle.joint_board.proofs.Results.{all_placed, in_order}
use Rattle.joint_board.proofs.board.Board.gather.Goals as goal

pub take_all-requires-clause-slots : goal.take_all-requires-clause-slots
take_all-requires-clause-slots g c =
    let n = c.args.self.tasks in
    let tasks : c.self.inside.table.shared.key.tasks ≡ n = ap (λ b. b.tasks) c.self.view_is in
    let p = c.place_all-slots.ensures in
    let numbers = all_numbers c.args.self c.args.kept.items c.requires.board p.whole in
    let once = result_once n _ (drawn_of c.args.kept.items) numbers (λ x l. p.once x (rw tasks l)) in
    let long = ap length c.in_ok-slots.ensures ∙ (length-replicate c.self.inside.tasks None ∙ (sym c.self.invariant.tasks_are ∙ tasks)) in
    All-same IsSome _ _ p.slots (all_placed n (results_of c.args.kept.items) c.in_ok-slots.slots.items long once)

pub returns-clause-results : goal.returns-clause-results
returns-clause-results g c =
    let n = c.args.self.tasks in
    let tasks : c.self.inside.table.shared.key.tasks ≡ n = ap (λ b. b.tasks) c.self.view_is in
    let p = c.place_all-slots.ensures in
    let numbers = all_numbers c.args.self c.args.kept.items c.requires.board p.whole in
    let once = result_once n _ (drawn_of c.args.kept.items) numbers (λ x l. p.once x (rw tasks l)) in
    let long = ap length c.in_ok-slots.ensures ∙ (length-replicate c.self.inside.tasks None ∙ (sym c.self.invariant.tasks_are ∙ tasks)) in
    elim c.take_all.result as (λ r. IfOk r (λ v. map Some v.items ≡ c.place_all-slots.result.items) → IfOk r (λ v. AreInOrder n (results_of c.args.kept.items) v.items)) [
      | Ok v ↦ λ e. in_order n (results_of c.args.kept.items) c.in_ok-slots.slots.items v.items long once (e ∙ p.slots)
      | Err f ↦ λ e. tt
    ] c.take_all.ensures

pub returns-clause-machine : goal.returns-clause-machine
returns-clause-machine g c =
    let n = c.args.self.tasks in
    let tasks : c.self.inside.table.shared.key.tasks ≡ n = ap (λ b. b.tasks) c.self.view_is in
    let p = c.place_all-slots.ensures in
    let numbers = all_numbers c.args.self c.args.kept.items c.requires.board p.whole in
    let count = result_count n _ (drawn_of c.args.kept.items) numbers (λ x l. p.once x (rw tasks l)) in
    elim c.take_all.result as (λ r. IfOk r (λ v. (h : List Event) → AllDrewAs c.args.kept.items h → may_publish c.args.self.workers (Some (n, h)) ≡ true)) [
      | Ok v ↦ λ h drew. publishes c.args.self h c.args.kept.items c.requires.seats c.requires.board p.whole drew count
      | Err f ↦ tt
    ]
