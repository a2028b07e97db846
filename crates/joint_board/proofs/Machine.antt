-- What the machine's words say of what the seats drew.
use Rattle.std.proofs.Common.{◌≡◌, ℕ, zero, suc, nat_lt, List, [], ◌∷◌, take, drop, filter, None, refl, sym, ap, ◌∙◌}
use Rattle.std.proofs.lemmas.Option.{none-some}
use Rattle.order_machine.specs.declared.event.Event.{Event}
use Rattle.order_machine.specs.History.{first_of, tasks_of, finished_by}
use Rattle.joint_board.specs.Seen.{SeenSeat, tasks_drawn}
use Rattle.joint_board.specs.Machine.{DrewAs}

-- where none is held, all were finished
all_taken : (k : ℕ) (xs : List ℕ) → first_of (drop k xs) ≡ None → take k xs ≡ xs
all_taken zero [] e = refl
all_taken zero (x ∷ xs) e = absurd (none-some x (sym e))
all_taken (suc k) [] e = refl
all_taken (suc k) (x ∷ xs) e = ap (λ ys. x ∷ ys) (all_taken k xs e)

pub finished_tasks : (s : SeenSeat) (w : ℕ) (b : List Event) → DrewAs s w b
    → finished_by w s.board.tasks b ≡ tasks_drawn s
finished_tasks s w b d =
    all_taken _ (tasks_of w s.board.tasks b) d.free
    ∙ ap (λ xs. filter (λ x. nat_lt x s.board.tasks) xs) d.drawn
