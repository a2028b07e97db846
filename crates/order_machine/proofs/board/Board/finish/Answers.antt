use Rattle.std.proofs.Common.{◌≡◌, ◌<◌, ℕ, Bool, true, false, List, set, get_or, length, sym, ap, subst, ◌∙◌}
use Rattle.std.proofs.lemmas.List.{set-get_or, get_or_default}
use Rattle.order_machine.specs.Seen.{SeenWorker, SeenBoard}
use Rattle.order_machine.specs.Moves.{FinishesAt, Finishes, after_finish, idle, seen_board}
use Rattle.order_machine.proofs.board.Board.finish.Goals as goal

at_place : (tasks next w : ℕ) (workers : List SeenWorker) (x v : SeenWorker) (b : Bool) → w < length workers → x ≡ get_or workers w x → Finishes x b v → FinishesAt (seen_board tasks next workers) w b (seen_board tasks next (set workers w v))
at_place tasks next w workers x v true less here f =
    let same : x ≡ get_or workers w idle = here ∙ get_or_default workers w x idle less in
    (f.0, ap (λ (y : SeenWorker). y.held) (sym same) ∙ f.1, ap (λ (y : SeenWorker). seen_board tasks next (set workers w y)) (f.2 ∙ ap (after_finish f.0) same))
at_place tasks next w workers x v false less here f =
    let same : x ≡ get_or workers w idle = here ∙ get_or_default workers w x idle less in
    (ap (λ (y : SeenWorker). y.held) (sym same) ∙ f.0, ap (λ (y : List SeenWorker). seen_board tasks next y) (ap (λ (y : SeenWorker). set workers w y) (f.1 ∙ same) ∙ set-get_or workers w idle))

pub returns : goal.returns
returns c = rw (sym c.self.view_is) (at_place c.self.inside.tasks c.self.inside.next c.args.worker c.self.inside.workers.items _ _ c.in_ok-finished.finished (subst (λ (s : SeenBoard). c.args.worker < length s.workers) (sym c.self.view_is) c.requires) c.index_mut.ensures.value c.in_ok-finished.ensures)
