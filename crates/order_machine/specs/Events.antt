-- Which events are of a kind, and of a worker or a reader.
use Rattle.std.specs.Prelude.{ℕ, nat_eq, Bool, true, false}
use Rattle.order_machine.specs.declared.event.Event.{Event}
use Rattle.order_machine.specs.declared.event.Event.TheVariants.{Begin, Claim, Finish, Publish, Tell, Pin}

abbrev pub is_publish : Event → Bool
is_publish Publish = true
is_publish _ = false

-- it puts a board up or takes one down
abbrev pub is_turn : Event → Bool
is_turn (Begin n) = true
is_turn Publish = true
is_turn _ = false

abbrev pub is_claim : Event → Bool
is_claim (Claim w) = true
is_claim _ = false

abbrev pub is_claim_of : ℕ → Event → Bool
is_claim_of v (Claim w) = nat_eq w v
is_claim_of v _ = false

abbrev pub is_finish_of : ℕ → Event → Bool
is_finish_of v (Finish w) = nat_eq w v
is_finish_of v _ = false

abbrev pub is_tell_to : ℕ → Event → Bool
is_tell_to s (Tell r) = nat_eq r s
is_tell_to s _ = false

abbrev pub is_pin_of : ℕ → Event → Bool
is_pin_of s (Pin r) = nat_eq r s
is_pin_of s _ = false
