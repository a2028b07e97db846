-- What a reader answers is what the order machine says.
use Rattle.std.proofs.Common.{◌≡◌, ℕ, ◌≤◌, max, Bool, true, false, cond, List, [], ◌∷◌, ◌++◌, Option, Some, None, Result, Ok, Err, IfSome, refl, sym, ap, ◌∙◌, subst, zero-le, arith}
use Rattle.std.specs.Prelude.{nat_lt, unwrap_or}
use Rattle.std.specs.Bool.{MatchBool}
use Rattle.std.proofs.lemmas.Bool.{le-ltb}
use Rattle.std.proofs.lemmas.Option.{IfSome_then}
use Rattle.scattering.specs.Wall.{Wall}
use Rattle.scattering.specs.Plane.{Point}
use Rattle.order_machine.specs.declared.event.Event.{Event}
use Rattle.order_machine.specs.declared.event.Event.TheVariants.{Pin, Ask}
use Rattle.order_machine.specs.declared.event.Reply.TheVariants as machine
use Rattle.order_machine.specs.History.{newest_of, pinned_by, seen_by, reply_to, reply_to_ask}
use Rattle.order_machine.proofs.Counts.{seen_more, pinned_more}
use Rattle.order_machine.proofs.Workers.{same_number}
use Rattle.plane_geom.specs.Shown.{point_of}
use Rattle.broken_lines.specs.declared.fault.AskFault.{AskFault}
use Rattle.broken_lines.specs.declared.fault.AskFault.TheVariants.{NotYet, NotGeneric, TooManyReach, TooManyTails, PointTooLarge, WeightTooLarge, Memory}
use Rattle.theta_algebra.specs.declared.query.QueryKind.{QueryKind}
use Rattle.theta_algebra.specs.declared.query.QueryKind.TheVariants.{Theta, Product}
use Rattle.theta_algebra.specs.declared.query.Query.{Query}
use Rattle.theta_algebra.specs.declared.query.Reply.{Reply}
use Rattle.theta_algebra.specs.declared.query.Answer.{Answer}
use Rattle.theta_algebra.specs.Answering.{is_early, IsResult, IsAnswer}
use Rattle.diagram_reader.specs.Machine.{machine_reply, IsAskOf, IsMachineAsk}

-- no least order is the least order 0
early_below : (k : ℕ) (least : Option ℕ) → nat_lt k (unwrap_or least 0) ≡ is_early k least
early_below k None = le-ltb k 0 zero-le
early_below k (Some n) = refl

-- in an order that isn't too early, no fault says so
never_early : (ws : List Wall) (k : ℕ) (kind : QueryKind) (q : Point) (n : ℕ) → IsResult ws k kind q (Err (NotYet n)) → ⊥
never_early ws k (Theta m) q n h = h
never_early ws k (Product l r) q n h = h

abbrev Replies : ℕ → Bool → Result Reply AskFault → Type 0
Replies k early result = IfSome (machine_reply k result) (λ reply. cond early (machine.NotYet k) (machine.Answered k) ≡ reply)

replies : (ws : List Wall) (k : ℕ) (kind : QueryKind) (q : Point) (early : Bool) (result : Result Reply AskFault) → MatchBool early (result ≡ Err (NotYet k)) (IsResult ws k kind q result) → Replies k early result
replies ws k kind q true result h = subst (Replies k true) (sym h) refl
replies ws k kind q false (Ok reply) h = refl
replies ws k kind q false (Err (NotYet n)) h = absurd (never_early ws k kind q n h)
replies ws k kind q false (Err (NotGeneric p)) h = refl
replies ws k kind q false (Err TooManyReach) h = refl
replies ws k kind q false (Err TooManyTails) h = refl
replies ws k kind q false (Err PointTooLarge) h = refl
replies ws k kind q false (Err WeightTooLarge) h = refl
replies ws k kind q false (Err Memory) h = tt

-- the order that it pins is the one of which it asks, and is seen
pinned_now : (r : ℕ) (h : List Event) → pinned_by r (h ++ Pin r ∷ []) ≡ Some (newest_of h)
pinned_now r h = pinned_more r h (Pin r) ∙ ap (λ b. cond b (Some (newest_of h)) (pinned_by r h)) (same_number r)

seen_now : (r : ℕ) (h : List Event) → seen_by r (h ++ Pin r ∷ []) ≡ max (seen_by r h) (newest_of h)
seen_now r h = seen_more r h (Pin r) ∙ ap (λ b. max (seen_by r h) (cond b (newest_of h) 0)) (same_number r)

pub asks : (ws : List Wall) (seen : ℕ) (q : Query) (a : Answer) → seen ≤ a.order → IsAnswer ws a.order q a → IsMachineAsk seen q.least a
asks ws seen q a up is r h at old =
    let least = unwrap_or q.least 0 in
    let asked : reply_to (h ++ Pin r ∷ []) (Ask r least) ≡ reply_to_ask a.order least = ap (λ o. reply_to_ask (unwrap_or o 0) least) (pinned_now r h) ∙ ap (λ n. reply_to_ask n least) at in
    let early : reply_to_ask a.order least ≡ cond (is_early a.order q.least) (machine.NotYet a.order) (machine.Answered a.order) = ap (λ b. cond b (machine.NotYet a.order) (machine.Answered a.order)) (early_below a.order q.least) in
    let same = seen_now r h in
    let shown : seen_by r (h ++ Pin r ∷ []) ≡ a.order = omega (arith, same, at, old, up) in
    IfSome_then (machine_reply a.order a.result) (replies ws a.order q.kind (point_of q.at) (is_early a.order q.least) a.result is.result) (λ reply e. record { pins = ap (λ n. machine.Pinned n) at; seen = shown; replies = asked ∙ (early ∙ e) })

-- of want of memory nothing is said
pub refuses : (seen : ℕ) (least : Option ℕ) (a : Answer) → a.result ≡ Err Memory → IsMachineAsk seen least a
refuses seen least a is r h at old = subst (λ x. IfSome (machine_reply a.order x) (IsAskOf r h (unwrap_or least 0) a.order)) (sym is) tt
