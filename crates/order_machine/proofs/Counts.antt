-- What one more event does to what is counted.
use Rattle.std.proofs.Common.{◌≡◌, ℕ, ◌+◌, ◌≤◌, max, Bool, true, false, cond, List, [], ◌∷◌, ◌++◌, Option, Some, None, refl, sym, ap, ◌∙◌, subst, le_refl, zero-le, append-nil, append_assoc, arith}
use Rattle.std.specs.Prelude.{option_map, unwrap_or, nat_eq}
use Rattle.std.specs.List.{count_by}
use Rattle.std.proofs.lemmas.List.Sums.{sum_by-append, sum_by-cons}
use Rattle.order_machine.specs.declared.event.Event.{Event}
use Rattle.order_machine.specs.declared.event.Event.TheVariants.{Begin, Claim, Finish, Publish, Tell, Learn, Pin, Ask}
use Rattle.order_machine.specs.Events.{is_publish, is_turn, is_claim, is_tell_to, is_pin_of}
use Rattle.order_machine.specs.History.{Place, or_first, last_of, newest_of, board_from, board_at, board_of, next_of, drawn_at, drawn_from, newest_at, told_to, pinned_by, shown_to, greatest_shown, seen_by}

pub count_more : (p : Event → Bool) (h : List Event) (e : Event) → count_by p (h ++ e ∷ []) ≡ count_by p h + cond (p e) 1 0
count_more p h e = let s = sum_by-append (λ x. cond {A = ℕ} (p x) 1 0) h (e ∷ []) in omega arith

count_cons : (p : Event → Bool) (e : Event) (h : List Event) → count_by p (e ∷ h) ≡ cond (p e) 1 0 + count_by p h
count_cons p e h = sum_by-cons (λ x. cond {A = ℕ} (p x) 1 0) e h

-- ---- the last event of a kind

abbrev pub followed_by : Event → Place → Place
followed_by e p = record { before = p.before; event = p.event; after = p.after ++ e ∷ [] }

abbrev pub last_place : List Event → Event → Place
last_place h e = record { before = h; event = e; after = [] }

stays_last : (o : Option Place) (a b : Bool) (x e : Event) (h : List Event) → or_first (cond b (Some (last_place h e)) (option_map (followed_by e) o)) a x (h ++ e ∷ []) ≡ cond b (Some (last_place (x ∷ h) e)) (option_map (followed_by e) (or_first o a x h))
stays_last o a true x e h = refl
stays_last (Some p) a false x e h = refl
stays_last None true false x e h = refl
stays_last None false false x e h = refl

pub last_more : (p : Event → Bool) (h : List Event) (e : Event) → last_of p (h ++ e ∷ []) ≡ cond (p e) (Some (last_place h e)) (option_map (followed_by e) (last_of p h))
last_more p [] e = refl
last_more p (x ∷ h) e = ap (λ o. or_first o (p x) x (h ++ e ∷ [])) (last_more p h e) ∙ stays_last (last_of p h) (p x) (p e) x e h

-- ---- the board

abbrev pub with_event : Event → ℕ × List Event → ℕ × List Event
with_event e b = (b.0, b.1 ++ e ∷ [])

pub board_begun : (h : List Event) (n : ℕ) → board_of (h ++ Begin n ∷ []) ≡ Some (n, [])
board_begun h n = ap board_at (last_more is_turn h (Begin n))

pub board_gone : (h : List Event) → board_of (h ++ Publish ∷ []) ≡ None
board_gone h = ap board_at (last_more is_turn h Publish)

from_more : (x : Event) (b : List Event) (e : Event) → board_from x (b ++ e ∷ []) ≡ option_map (with_event e) (board_from x b)
from_more (Begin n) b e = refl
from_more (Claim w) b e = refl
from_more (Finish w) b e = refl
from_more Publish b e = refl
from_more (Tell r) b e = refl
from_more (Learn r) b e = refl
from_more (Pin r) b e = refl
from_more (Ask r least) b e = refl

at_more : (o : Option Place) (e : Event) → board_at (option_map (followed_by e) o) ≡ option_map (with_event e) (board_at o)
at_more None e = refl
at_more (Some p) e = from_more p.event p.after e

pub board_more : (h : List Event) (e : Event) → is_turn e ≡ false → board_of (h ++ e ∷ []) ≡ option_map (with_event e) (board_of h)
board_more h e off = ap board_at (last_more is_turn h e) ∙ (ap (λ b. board_at (cond b (Some (last_place h e)) (option_map (followed_by e) (last_of is_turn h)))) off ∙ at_more (last_of is_turn h) e)

-- ---- numbers that are drawn

pub drawn_more : (x w : ℕ) (b : List Event) (e : Event) → drawn_from x w (b ++ e ∷ []) ≡ drawn_from x w b ++ drawn_at (x + next_of b) w e
drawn_more x w [] e = let z : x ≡ x + next_of [] = omega arith in append-nil (drawn_at x w e) ∙ ap (λ (k : ℕ). drawn_at k w e) z
drawn_more x w (y ∷ b) e =
    let k = x + cond {A = ℕ} (is_claim y) 1 0 in
    let c = count_cons is_claim y b in
    let same : k + next_of b ≡ x + next_of (y ∷ b) = omega arith in
    ap (λ (l : List ℕ). drawn_at x w y ++ l) (drawn_more k w b e ∙ ap (λ (z : ℕ). drawn_from k w b ++ drawn_at z w e) same) ∙ sym (append_assoc (drawn_at x w y) (drawn_from k w b) (drawn_at (x + next_of (y ∷ b)) w e))

-- ---- readers

pub newest_more : (h : List Event) (e : Event) → newest_of (h ++ e ∷ []) ≡ newest_of h + cond (is_publish e) 1 0
newest_more h e = count_more is_publish h e

pub same_newest : (h : List Event) (e : Event) → is_publish e ≡ false → newest_of (h ++ e ∷ []) ≡ newest_of h
same_newest h e off = let m = newest_more h e in let z : cond {A = ℕ} (is_publish e) 1 0 ≡ 0 = ap (λ (b : Bool). cond {A = ℕ} b 1 0) off in omega arith

newest_same_place : (o : Option Place) (e : Event) → newest_at (option_map (followed_by e) o) ≡ newest_at o
newest_same_place None e = refl
newest_same_place (Some p) e = refl

newest_if : (b : Bool) (h : List Event) (e : Event) (o : Option Place) → newest_at (cond b (Some (last_place h e)) (option_map (followed_by e) o)) ≡ cond b (Some (newest_of h)) (newest_at o)
newest_if true h e o = refl
newest_if false h e o = newest_same_place o e

or_zero : (b : Bool) (n : ℕ) (o : Option ℕ) → unwrap_or (cond b (Some n) o) 0 ≡ cond b n (unwrap_or o 0)
or_zero true n o = refl
or_zero false n o = refl

pub pinned_more : (r : ℕ) (h : List Event) (e : Event) → pinned_by r (h ++ e ∷ []) ≡ cond (is_pin_of r e) (Some (newest_of h)) (pinned_by r h)
pinned_more r h e = ap newest_at (last_more (is_pin_of r) h e) ∙ newest_if (is_pin_of r e) h e (last_of (is_pin_of r) h)

pub told_more : (r : ℕ) (h : List Event) (e : Event) → told_to r (h ++ e ∷ []) ≡ cond (is_tell_to r e) (newest_of h) (told_to r h)
told_more r h e = ap (λ o. unwrap_or (newest_at o) 0) (last_more (is_tell_to r) h e) ∙ (ap (λ o. unwrap_or o 0) (newest_if (is_tell_to r e) h e (last_of (is_tell_to r) h)) ∙ or_zero (is_tell_to r e) (newest_of h) (newest_at (last_of (is_tell_to r) h)))

greatest_more : (r : ℕ) (g h : List Event) (e : Event) → greatest_shown r g (h ++ e ∷ []) ≡ max (greatest_shown r g h) (shown_to r (g ++ h) e)
greatest_more r g [] e = ap (λ (l : List Event). max (shown_to r l e) 0) (sym (append-nil g)) ∙ (omega arith)
greatest_more r g (x ∷ h) e =
    ap (λ n. max (shown_to r g x) n) (greatest_more r (g ++ x ∷ []) h e) ∙ (let same = ap (λ (l : List Event). shown_to r l e) (append_assoc g (x ∷ []) h) in rw same (omega arith))

pub seen_more : (r : ℕ) (h : List Event) (e : Event) → seen_by r (h ++ e ∷ []) ≡ max (seen_by r h) (shown_to r h e)
seen_more r h e = greatest_more r [] h e

-- what is shown, told and pinned is at most the newest order

rises : (h : List Event) (e : Event) → newest_of h ≤ newest_of (h ++ e ∷ [])
rises h e = let m = newest_more h e in omega arith

if_le : (b : Bool) (k m n : ℕ) → k ≤ n → m ≤ n → cond b k m ≤ n
if_le true k m n p q = p
if_le false k m n p q = q

-- what holds of no events, and of one more where it held before, holds of any
pub each_prefix : (P : List Event → Type 0) → ((g : List Event) (e : Event) → P g → P (g ++ e ∷ [])) → (g h : List Event) → P g → P (g ++ h)
each_prefix P more g [] p = subst P (sym (append-nil g)) p
each_prefix P more g (e ∷ h) p = subst P (append_assoc g (e ∷ []) h) (each_prefix P more (g ++ e ∷ []) h (more g e p))

pub told_le : (r : ℕ) (h : List Event) → told_to r h ≤ newest_of h
told_le r h = each_prefix (λ g. told_to r g ≤ newest_of g) (λ g e le. rw (told_more r g e) (let m = rises g e in if_le (is_tell_to r e) (newest_of g) (told_to r g) (newest_of (g ++ e ∷ [])) m (omega arith))) [] h zero-le

shown_le : (r : ℕ) (h : List Event) (e : Event) → shown_to r h e ≤ newest_of h
shown_le r h (Learn s) = if_le (nat_eq s r) (told_to r h) 0 (newest_of h) (told_le r h) zero-le
shown_le r h (Pin s) = if_le (nat_eq s r) (newest_of h) 0 (newest_of h) (le_refl (newest_of h)) zero-le
shown_le r h (Begin n) = zero-le
shown_le r h (Claim w) = zero-le
shown_le r h (Finish w) = zero-le
shown_le r h Publish = zero-le
shown_le r h (Tell s) = zero-le
shown_le r h (Ask s least) = zero-le

pub seen_le : (r : ℕ) (h : List Event) → seen_by r h ≤ newest_of h
seen_le r h = each_prefix (λ g. seen_by r g ≤ newest_of g) (λ g e le. rw (seen_more r g e) (let m = rises g e in let s = shown_le r g e in omega arith)) [] h zero-le
