-- Laws of orders and readers.
use Rattle.std.proofs.Common.{◌≡◌, ℕ, zero, suc, ◌+◌, ◌<◌, ◌≤◌, Bool, true, false, true≢false, cond, List, [], ◌∷◌, ◌++◌, Option, Some, None, refl, sym, ap, ◌∙◌, subst, zero-le, append-nil, arith}
use Rattle.std.specs.Prelude.{nat_lt, is_some, is_none, option_map, unwrap_or}
use Rattle.std.specs.List.{range_with_len}
use Rattle.std.proofs.lemmas.Bool.{and_parts, ltb-true}
use Rattle.order_machine.specs.declared.event.Event.{Event}
use Rattle.order_machine.specs.declared.event.Event.TheVariants.{Begin, Claim, Finish, Publish, Tell, Learn, Pin, Ask}
use Rattle.order_machine.specs.declared.event.Reply.{Reply}
use Rattle.order_machine.specs.declared.event.Reply.TheVariants as reply
use Rattle.order_machine.specs.Events.{is_publish, is_pin_of, is_turn}
use Rattle.order_machine.specs.History.{newest_of, board_of, pinned_by, is_enabled, may_publish, next_of, reply_to, reply_to_ask, reply_to_claim, replies_to}
use Rattle.order_machine.specs.Laws.{published, OrdersFollow, PinsAreSeen, NoneIsAboveNewest, NewestIsWithinGoal}
use Rattle.order_machine.proofs.Counts.{newest_more, same_newest, each_prefix, pinned_more, told_le, seen_le, board_gone, board_more, with_event}
use Rattle.order_machine.proofs.Workers.{each_lawful}
use Rattle.order_machine.proofs.EventLists.{replies_more}

range_suc : (a n : ℕ) → range_with_len a (suc n) ≡ range_with_len a n ++ (a + n) ∷ []
range_suc a zero = let e : a ≡ a + 0 = omega arith in ap (λ (k : ℕ). k ∷ []) e
range_suc a (suc n) = let e : a + 1 + n ≡ a + suc n = omega arith in ap (λ (l : List ℕ). a ∷ l) (range_suc (a + 1) n ∙ ap (λ (k : ℕ). range_with_len (a + 1) n ++ k ∷ []) e)

pub range_more : (a n : ℕ) → range_with_len a (n + 1) ≡ range_with_len a n ++ (a + n) ∷ []
range_more a n = subst (λ (k : ℕ). range_with_len a k ≡ range_with_len a n ++ (a + n) ∷ []) (let e : suc n ≡ n + 1 = omega arith in e) (range_suc a n)

published_more : (rs : List Reply) (r : Reply) → published (rs ++ r ∷ []) ≡ published rs ++ published (r ∷ [])
published_more [] r = refl
published_more (reply.Published n ∷ rs) r = ap (λ (l : List ℕ). n ∷ l) (published_more rs r)
published_more (reply.Done ∷ rs) r = published_more rs r
published_more (reply.Drawn n ∷ rs) r = published_more rs r
published_more (reply.NoTask ∷ rs) r = published_more rs r
published_more (reply.Pinned n ∷ rs) r = published_more rs r
published_more (reply.Answered n ∷ rs) r = published_more rs r
published_more (reply.NotYet n ∷ rs) r = published_more rs r

abbrev Adds : List Event → Event → Reply → Type 0
Adds h e r = range_with_len 1 (newest_of h) ++ published (r ∷ []) ≡ range_with_len 1 (newest_of (h ++ e ∷ []))

quiet : (h : List Event) (e : Event) (r : Reply) → published (r ∷ []) ≡ [] → is_publish e ≡ false → Adds h e r
quiet h e r none off = ap (λ (l : List ℕ). range_with_len 1 (newest_of h) ++ l) none ∙ (append-nil (range_with_len 1 (newest_of h)) ∙ ap (range_with_len 1) (sym (same_newest h e off)))

none_of_draw : (x n : ℕ) (b : Bool) → published (cond b (reply.Drawn x) reply.NoTask ∷ []) ≡ []
none_of_draw x n true = refl
none_of_draw x n false = refl

none_of_claim : (o : Option (ℕ × List Event)) → published (reply_to_claim o ∷ []) ≡ []
none_of_claim None = refl
none_of_claim (Some b) = none_of_draw (next_of b.1) b.0 (nat_lt (next_of b.1) b.0)

none_of_ask : (n : ℕ) (b : Bool) → published (cond b (reply.NotYet n) (reply.Answered n) ∷ []) ≡ []
none_of_ask n true = refl
none_of_ask n false = refl

published_reply : (h : List Event) (e : Event) → Adds h e (reply_to h e)
published_reply h Publish =
    let n = newest_of h in
    let one : 1 + n ≡ n + 1 = omega arith in
    ap (λ (k : ℕ). range_with_len 1 n ++ k ∷ []) (sym one) ∙ (sym (range_more 1 n) ∙ ap (range_with_len 1) (sym (newest_more h Publish)))
published_reply h (Begin n) = quiet h (Begin n) reply.Done refl refl
published_reply h (Claim w) = quiet h (Claim w) (reply_to_claim (board_of h)) (none_of_claim (board_of h)) refl
published_reply h (Finish w) = quiet h (Finish w) reply.Done refl refl
published_reply h (Tell r) = quiet h (Tell r) reply.Done refl refl
published_reply h (Learn r) = quiet h (Learn r) reply.Done refl refl
published_reply h (Pin r) = quiet h (Pin r) (reply.Pinned (newest_of h)) refl refl
published_reply h (Ask r least) = let n = unwrap_or (pinned_by r h) 0 in quiet h (Ask r least) (reply_to_ask n least) (none_of_ask n (nat_lt n least)) refl

pub orders_follow : OrdersFollow
orders_follow h = each_prefix (λ g. published (replies_to [] g) ≡ range_with_len 1 (newest_of g)) (λ g e is. ap published (replies_more [] g e) ∙ (published_more (replies_to [] g) (reply_to g e) ∙ (ap (λ (l : List ℕ). l ++ published (reply_to g e ∷ [])) is ∙ published_reply g e))) [] h refl

-- ---- the goal

record Within (goal : ℕ) (h : List Event) : Type 0 where
  newest : newest_of h ≤ goal
  up : is_some (board_of h) ≡ true → newest_of h < goal

some_mapped : (e : Event) (o : Option (ℕ × List Event)) → is_some (option_map (with_event e) o) ≡ is_some o
some_mapped e None = refl
some_mapped e (Some b) = refl

stays_within : (goal : ℕ) (h : List Event) (e : Event) → is_turn e ≡ false → is_publish e ≡ false → Within goal h → Within goal (h ++ e ∷ [])
stays_within goal h e off quiet w =
    let n = same_newest h e quiet in
    let old = w.newest in record {
      newest = omega arith;
      up = λ some. let less = w.up (sym (some_mapped e (board_of h)) ∙ (sym (ap is_some (board_more h e off)) ∙ some)) in omega arith;
    }

board_is_up : (workers : ℕ) (o : Option (ℕ × List Event)) → may_publish workers o ≡ true → is_some o ≡ true
board_is_up workers None h = absurd (true≢false (sym h))
board_is_up workers (Some b) h = refl

next_within : (goal workers : ℕ) (h : List Event) (e : Event) → is_enabled goal workers h e ≡ true → Within goal h → Within goal (h ++ e ∷ [])
next_within goal workers h (Begin n) may w =
    let same = same_newest h (Begin n) refl in
    let less = ltb-true (newest_of h) goal ((and_parts (is_none (board_of h)) (nat_lt (newest_of h) goal) may).1) in
    record { newest = omega arith; up = λ some. omega arith }
next_within goal workers h Publish may w =
    let more = newest_more h Publish in
    let less = w.up (board_is_up workers (board_of h) may) in
    record { newest = omega arith; up = λ some. absurd (true≢false (sym some ∙ ap is_some (board_gone h))) }
next_within goal workers h (Claim v) may w = stays_within goal h (Claim v) refl refl w
next_within goal workers h (Finish v) may w = stays_within goal h (Finish v) refl refl w
next_within goal workers h (Tell r) may w = stays_within goal h (Tell r) refl refl w
next_within goal workers h (Learn r) may w = stays_within goal h (Learn r) refl refl w
next_within goal workers h (Pin r) may w = stays_within goal h (Pin r) refl refl w
next_within goal workers h (Ask r least) may w = stays_within goal h (Ask r least) refl refl w

pub within_goal : NewestIsWithinGoal
within_goal goal workers readers h law =
    let w = each_lawful (Within goal) goal workers readers (λ g e named may before. next_within goal workers g e may before) [] h law (record { newest = zero-le; up = λ some. absurd (true≢false (sym some)) }) in
    w.newest

-- ---- readers

pins_in : (b : Bool) (k m : ℕ) (o : Option ℕ) → ((n : ℕ) → o ≡ Some n → n ≤ k) → k ≤ m → (n : ℕ) → cond b (Some k) o ≡ Some n → n ≤ m
pins_in true k m o old le n is = let e : k ≡ n = cc in omega arith
pins_in false k m o old le n is = let p = old n is in omega arith

pub pinned_le : (r : ℕ) (h : List Event) (n : ℕ) → pinned_by r h ≡ Some n → n ≤ newest_of h
pinned_le r h = each_prefix (λ g. (n : ℕ) → pinned_by r g ≡ Some n → n ≤ newest_of g) (λ g e old n is. pins_in (is_pin_of r e) (newest_of g) (newest_of (g ++ e ∷ [])) (pinned_by r g) old (let m = newest_more g e in omega arith) n (sym (pinned_more r g e) ∙ is)) [] h (λ n is. absurd (cc))

pub below_newest : NoneIsAboveNewest
below_newest r h = record { told = told_le r h; seen = seen_le r h; pinned = pinned_le r h }

pub pins_are_seen : PinsAreSeen
pins_are_seen r n h is = let e : newest_of h ≡ n = cc in let s = seen_le r h in omega arith
