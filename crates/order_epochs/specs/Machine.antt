-- How the store stands to the order machine, whose events so far are h.
--     IsPublish n m      where n is newest, the machine publishes m and replies so
--     IsTell n m         where n is newest, a reader is told m
--     IsLearn n m k      a reader that has seen n and was told m has seen k once it learned
use Rattle.std.specs.Prelude.{◌≡◌, ℕ, List, [], ◌∷◌, ◌++◌}
use Rattle.order_machine.specs.declared.event.Event.{Event}
use Rattle.order_machine.specs.declared.event.Event.TheVariants.{Publish, Tell, Learn}
use Rattle.order_machine.specs.declared.event.Reply.TheVariants as reply
use Rattle.order_machine.specs.History.{newest_of, told_to, seen_by, reply_to}

abbrev pub IsPublish : ℕ → ℕ → Type 0
IsPublish n m = (h : List Event) → newest_of h ≡ n
    → (reply_to h Publish ≡ reply.Published m) × (newest_of (h ++ Publish ∷ []) ≡ m)

abbrev pub IsTell : ℕ → ℕ → Type 0
IsTell n m = (r : ℕ) (h : List Event) → newest_of h ≡ n → told_to r (h ++ Tell r ∷ []) ≡ m

abbrev pub IsLearn : ℕ → ℕ → ℕ → Type 0
IsLearn n m k = (r : ℕ) (h : List Event) → seen_by r h ≡ n → told_to r h ≡ m
    → seen_by r (h ++ Learn r ∷ []) ≡ k
