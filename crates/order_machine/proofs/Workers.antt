-- What one more event does to what a worker holds, has finished and is told.
use Rattle.std.proofs.Common.{◌≡◌, ℕ, zero, suc, ◌+◌, ◌<◌, ◌≤◌, ◌||◌, not, Bool, true, false, true≢false, cond, List, [], ◌∷◌, ◌++◌, length, take, drop, filter, Option, Some, None, refl, sym, ap, ◌∙◌, subst, zero-le, append-nil, append_assoc, arith, length-append}
use Rattle.std.specs.Prelude.{nat_eq, nat_lt, is_some, is_none, option_map}
use Rattle.std.specs.List.{count_by, list_any}
use Rattle.std.proofs.lemmas.List.{take-append-le}
use Rattle.std.proofs.Math.Seq.{drop-length, drop-append_seam}
use Rattle.std.proofs.Math.ListN.{drop_of_length-le}
use Rattle.std.proofs.lemmas.List.Elements.{filter-append}
use Rattle.std.proofs.lemmas.List.Folds.{list_any-append}
use Rattle.std.proofs.lemmas.Bool.Decides.{nat_tests}
use Rattle.std.proofs.lemmas.Bool.{and_parts}
use Rattle.order_machine.specs.declared.event.Event.{Event}
use Rattle.order_machine.specs.declared.event.Event.TheVariants.{Begin, Claim, Finish, Publish, Tell, Learn, Pin, Ask}
use Rattle.order_machine.specs.Events.{is_turn, is_finish_of}
use Rattle.order_machine.specs.History.{board_of, next_of, drawn_at, drawn_by, tasks_of, finished_by, first_of, held_by, is_done, may_claim, may_finish, is_enabled, IsNamed, IsLawfulAfter, IsLawful}
use Rattle.order_machine.specs.Stands.{worker_after}
use Rattle.order_machine.specs.Seen.{SeenWorker}
use Rattle.order_machine.proofs.Counts.{count_more, drawn_more, board_begun, board_gone, board_more, with_event}

-- ---- lists

pub none_left : (f : ℕ) (l : List ℕ) → is_none (first_of (drop f l)) ≡ true → length l ≤ f
none_left f [] h = zero-le
none_left zero (x ∷ l) h = absurd (true≢false (sym h))
none_left (suc f) (x ∷ l) h = let r = none_left f l h in omega arith

pub some_left : (f : ℕ) (l : List ℕ) (x : ℕ) → first_of (drop f l) ≡ Some x → (f < length l) × (take (f + 1) l ≡ take f l ++ x ∷ [])
some_left zero [] x h = absurd (cc)
some_left (suc f) [] x h = absurd (cc)
some_left zero (y ∷ l) x h = let e : y ≡ x = cc in (omega arith, ap (λ (z : ℕ). z ∷ []) e)
some_left (suc f) (y ∷ l) x h =
    let r = some_left f l x h in
    let more : suc f + 1 ≡ suc (f + 1) = omega arith in
    (let less = r.0 in omega arith, rw more (ap (λ (k : List ℕ). y ∷ k) r.1))

-- ---- one more event

pub tasks_more : (w n : ℕ) (b : List Event) (e : Event) → tasks_of w n (b ++ e ∷ []) ≡ tasks_of w n b ++ filter (λ x. nat_lt x n) (drawn_at (next_of b) w e)
tasks_more w n b e =
    let z : 0 + next_of b ≡ next_of b = omega arith in
    ap (filter (λ x. nat_lt x n)) (drawn_more 0 w b e ∙ ap (λ (k : ℕ). drawn_by w b ++ drawn_at k w e) z) ∙ filter-append (λ x. nat_lt x n) (drawn_by w b) (drawn_at (next_of b) w e)

pub late_more : (w n : ℕ) (b : List Event) (e : Event) → is_done w n (b ++ e ∷ []) ≡ (is_done w n b || list_any (λ x. not (nat_lt x n)) (drawn_at (next_of b) w e))
late_more w n b e =
    let z : 0 + next_of b ≡ next_of b = omega arith in
    ap (list_any (λ x. not (nat_lt x n))) (drawn_more 0 w b e ∙ ap (λ (k : ℕ). drawn_by w b ++ drawn_at k w e) z) ∙ list_any-append (λ x. not (nat_lt x n)) (drawn_by w b) (drawn_at (next_of b) w e)

or_none : (b : Bool) → (b || false) ≡ b
or_none true = refl
or_none false = refl

or_any : (b : Bool) → (b || true) ≡ true
or_any true = refl
or_any false = refl

-- a worker that finished f of its tasks
abbrev pub worker_of : ℕ → List ℕ → Bool → SeenWorker
worker_of f tasks done = record { held = first_of (drop f tasks); finished = take f tasks; done = done }

worker_by : (f g : ℕ) (t u : List ℕ) (c d : Bool) → f ≡ g → t ≡ u → c ≡ d → worker_of f t c ≡ worker_of g u d
worker_by f g t u c d p q r = rw (p, q, r) refl

same_finishes : (w : ℕ) (b : List Event) (e : Event) → is_finish_of w e ≡ false → count_by (is_finish_of w) (b ++ e ∷ []) ≡ count_by (is_finish_of w) b
same_finishes w b e off = let m = count_more (is_finish_of w) b e in let z : cond {A = ℕ} (is_finish_of w e) 1 0 ≡ 0 = ap (λ (c : Bool). cond {A = ℕ} c 1 0) off in omega arith

-- an event that draws nothing for the worker and finishes nothing
pub others_stay : (n w : ℕ) (b : List Event) (e : Event) → drawn_at (next_of b) w e ≡ [] → is_finish_of w e ≡ false → worker_after n (b ++ e ∷ []) w ≡ worker_after n b w
others_stay n w b e idle off =
    let tasks : tasks_of w n (b ++ e ∷ []) ≡ tasks_of w n b = tasks_more w n b e ∙ (ap (λ (l : List ℕ). tasks_of w n b ++ filter (λ x. nat_lt x n) l) idle ∙ append-nil (tasks_of w n b)) in
    let late : is_done w n (b ++ e ∷ []) ≡ is_done w n b = late_more w n b e ∙ (ap (λ (l : List ℕ). is_done w n b || list_any (λ x. not (nat_lt x n)) l) idle ∙ or_none (is_done w n b)) in
    worker_by _ _ _ _ _ _ (same_finishes w b e off) tasks late

-- ---- how many tasks a worker holds

pub record IsSteady (n : ℕ) (b : List Event) (w : ℕ) : Type 0 where
  pub drawn : count_by (is_finish_of w) b ≤ length (tasks_of w n b)
  pub most : length (tasks_of w n b) ≤ count_by (is_finish_of w) b + 1

-- what a worker that holds nothing draws next

abbrev pub drew : ℕ → ℕ → List Event → ℕ → SeenWorker
drew n x b w = record {
  held = cond (nat_lt x n) (Some x) None;
  finished = finished_by w n b;
  done = not (nat_lt x n);
}

drew_one : (f x : ℕ) (tasks : List ℕ) (c : Bool) → f ≡ length tasks → worker_of f (tasks ++ cond c (x ∷ []) []) (not c) ≡ record { held = cond c (Some x) None; finished = take f tasks; done = not c }
drew_one f x tasks true all =
    let held : first_of (drop f (tasks ++ x ∷ [])) ≡ Some x = rw all (ap first_of (drop-append_seam tasks (x ∷ []))) in
    let kept : take f (tasks ++ x ∷ []) ≡ take f tasks = take-append-le f tasks (x ∷ []) (omega arith) in
    rw (held, kept) refl
drew_one f x tasks false all =
    let held : first_of (drop f tasks) ≡ None = rw all (ap first_of (drop-length tasks)) in
    rw (append-nil tasks, held) refl

pub same_number : (w : ℕ) → nat_eq w w ≡ true
same_number w = grind (arith, nat_tests)

drawn_here : (x w : ℕ) → drawn_at x w (Claim w) ≡ x ∷ []
drawn_here x w = ap (λ b. cond b (x ∷ []) []) (same_number w)

pub claims : (n w : ℕ) (b : List Event) → IsSteady n b w → is_none (held_by w n b) ≡ true → is_done w n b ≡ false → worker_after n (b ++ Claim w ∷ []) w ≡ drew n (next_of b) b w
claims n w b s idle on =
    let x = next_of b in
    let f = count_by (is_finish_of w) b in
    let all : f ≡ length (tasks_of w n b) = let l = none_left f (tasks_of w n b) idle in let d = s.drawn in omega arith in
    let tasks : tasks_of w n (b ++ Claim w ∷ []) ≡ tasks_of w n b ++ cond (nat_lt x n) (x ∷ []) [] = tasks_more w n b (Claim w) ∙ ap (λ (l : List ℕ). tasks_of w n b ++ filter (λ y. nat_lt y n) l) (drawn_here x w) in
    let late : is_done w n (b ++ Claim w ∷ []) ≡ not (nat_lt x n) = late_more w n b (Claim w) ∙ (ap (λ (l : List ℕ). is_done w n b || list_any (λ y. not (nat_lt y n)) l) (drawn_here x w) ∙ (ap (λ (c : Bool). c || (not (nat_lt x n) || false)) on ∙ or_none (not (nat_lt x n)))) in
    worker_by _ f _ _ _ _ (same_finishes w b (Claim w) refl) tasks late ∙ drew_one f x (tasks_of w n b) (nat_lt x n) all

pub finishes : (n w x : ℕ) (b : List Event) → IsSteady n b w → held_by w n b ≡ Some x → worker_after n (b ++ Finish w ∷ []) w ≡ record { held = None; finished = finished_by w n b ++ x ∷ []; done = is_done w n b }
finishes n w x b s here =
    let f = count_by (is_finish_of w) b in
    let got = some_left f (tasks_of w n b) x here in
    let tasks : tasks_of w n (b ++ Finish w ∷ []) ≡ tasks_of w n b = tasks_more w n b (Finish w) ∙ append-nil (tasks_of w n b) in
    let late : is_done w n (b ++ Finish w ∷ []) ≡ is_done w n b = late_more w n b (Finish w) ∙ or_none (is_done w n b) in
    let count : count_by (is_finish_of w) (b ++ Finish w ∷ []) ≡ f + 1 = count_more (is_finish_of w) b (Finish w) ∙ ap (λ (c : Bool). f + cond {A = ℕ} c 1 0) (same_number w) in
    let empty : first_of (drop (f + 1) (tasks_of w n b)) ≡ None = ap first_of (drop_of_length-le (tasks_of w n b) s.most) in
    worker_by _ (f + 1) _ (tasks_of w n b) _ (is_done w n b) count tasks late ∙ rw (empty, got.1) refl

-- ---- each worker holds at most one

abbrev pub AreSteady : List Event → Type 0
AreSteady h = (b : ℕ × List Event) → board_of h ≡ Some b → (w : ℕ) → IsSteady b.0 b.1 w

pub same_worker : (v w : ℕ) → nat_eq v w ≡ true → v ≡ w
same_worker v w h = grind (arith, nat_tests)

steady_other : (n w : ℕ) (b : List Event) (e : Event) → IsSteady n b w → drawn_at (next_of b) w e ≡ [] → is_finish_of w e ≡ false → IsSteady n (b ++ e ∷ []) w
steady_other n w b e s idle off =
    let tasks : tasks_of w n (b ++ e ∷ []) ≡ tasks_of w n b = tasks_more w n b e ∙ (ap (λ (l : List ℕ). tasks_of w n b ++ filter (λ x. nat_lt x n) l) idle ∙ append-nil (tasks_of w n b)) in
    let count = same_finishes w b e off in
    let long = ap (length {A = ℕ}) tasks in
    let d = s.drawn in
    let m = s.most in
    record { drawn = omega arith; most = omega arith }

at_most_one : (c : Bool) (x : ℕ) → length (cond c (x ∷ []) []) ≤ 1
at_most_one true x = omega arith
at_most_one false x = zero-le

steady_claim : (n w : ℕ) (b : List Event) → IsSteady n b w → is_none (held_by w n b) ≡ true → IsSteady n (b ++ Claim w ∷ []) w
steady_claim n w b s idle =
    let x = next_of b in
    let l = none_left (count_by (is_finish_of w) b) (tasks_of w n b) idle in
    let tasks : tasks_of w n (b ++ Claim w ∷ []) ≡ tasks_of w n b ++ cond (nat_lt x n) (x ∷ []) [] = tasks_more w n b (Claim w) ∙ ap (λ (z : List ℕ). tasks_of w n b ++ filter (λ y. nat_lt y n) z) (drawn_here x w) in
    let long = ap (length {A = ℕ}) tasks ∙ length-append (tasks_of w n b) (cond (nat_lt x n) (x ∷ []) []) in
    let few = at_most_one (nat_lt x n) x in
    let count = same_finishes w b (Claim w) refl in
    let d = s.drawn in
    record { drawn = omega arith; most = omega arith }

pub first_is : (o : Option ℕ) → is_some o ≡ true → (x : ℕ) × (o ≡ Some x)
first_is None h = absurd (true≢false (sym h))
first_is (Some x) h = (x, refl)

steady_finish : (n w : ℕ) (b : List Event) → IsSteady n b w → is_some (held_by w n b) ≡ true → IsSteady n (b ++ Finish w ∷ []) w
steady_finish n w b s some =
    let one = first_is (held_by w n b) some in
    let got = some_left (count_by (is_finish_of w) b) (tasks_of w n b) one.0 one.1 in
    let less = got.0 in
    let tasks = ap (length {A = ℕ}) (tasks_more w n b (Finish w) ∙ append-nil (tasks_of w n b)) in
    let count : count_by (is_finish_of w) (b ++ Finish w ∷ []) ≡ count_by (is_finish_of w) b + 1 = count_more (is_finish_of w) b (Finish w) ∙ ap (λ (c : Bool). count_by (is_finish_of w) b + cond {A = ℕ} c 1 0) (same_number w) in
    let m = s.most in
    record { drawn = omega arith; most = omega arith }

claimed_by : (n v w : ℕ) (b : List Event) (c : Bool) → nat_eq v w ≡ c → IsSteady n b w → is_none (held_by v n b) ≡ true → IsSteady n (b ++ Claim v ∷ []) w
claimed_by n v w b true same s idle = subst (λ (u : ℕ). IsSteady n (b ++ Claim u ∷ []) w) (sym (same_worker v w same)) (steady_claim n w b s (subst (λ (u : ℕ). is_none (held_by u n b) ≡ true) (same_worker v w same) idle))
claimed_by n v w b false other s idle = steady_other n w b (Claim v) s (ap (λ c. cond c (next_of b ∷ []) []) other) refl

finished_of : (n v w : ℕ) (b : List Event) (c : Bool) → nat_eq v w ≡ c → IsSteady n b w → is_some (held_by v n b) ≡ true → IsSteady n (b ++ Finish v ∷ []) w
finished_of n v w b true same s some = subst (λ (u : ℕ). IsSteady n (b ++ Finish u ∷ []) w) (sym (same_worker v w same)) (steady_finish n w b s (subst (λ (u : ℕ). is_some (held_by u n b) ≡ true) (same_worker v w same) some))
finished_of n v w b false other s some = steady_other n w b (Finish v) s refl other

-- the board before an event that leaves it up
pub was_up : (e : Event) (o : Option (ℕ × List Event)) (c : ℕ × List Event) → option_map (with_event e) o ≡ Some c → (b : ℕ × List Event) × (o ≡ Some b) × (c ≡ (b.0, b.1 ++ e ∷ []))
was_up e None c h = absurd (cc)
was_up e (Some b) c h = (b, refl, cc)

stays_steady : (h : List Event) (e : Event) → is_turn e ≡ false → AreSteady h → ((b : ℕ × List Event) → board_of h ≡ Some b → (w : ℕ) → IsSteady b.0 b.1 w → IsSteady b.0 (b.1 ++ e ∷ []) w) → AreSteady (h ++ e ∷ [])
stays_steady h e off are more c at w =
    let was = was_up e (board_of h) c (sym (board_more h e off) ∙ at) in
    subst (λ (d : ℕ × List Event). IsSteady d.0 d.1 w) (sym was.2) (more was.0 was.1 w (are was.0 was.1 w))

begun_steady : (h : List Event) (n : ℕ) → AreSteady (h ++ Begin n ∷ [])
begun_steady h n c at w =
    let here : c ≡ (n, []) = let s = board_begun h n in cc in
    subst (λ (d : ℕ × List Event). IsSteady d.0 d.1 w) (sym here) (record { drawn = zero-le; most = zero-le })

gone_steady : (h : List Event) → AreSteady (h ++ Publish ∷ [])
gone_steady h c at w = let g = board_gone h in absurd (cc)

steady_next : (goal workers : ℕ) (h : List Event) (e : Event) → AreSteady h → is_enabled goal workers h e ≡ true → AreSteady (h ++ e ∷ [])
steady_next goal workers h (Begin n) are may = begun_steady h n
steady_next goal workers h Publish are may = gone_steady h
steady_next goal workers h (Claim v) are may = stays_steady h (Claim v) refl are (λ b at w s. claimed_by b.0 v w b.1 (nat_eq v w) refl s ((and_parts (is_none (held_by v b.0 b.1)) (not (is_done v b.0 b.1)) (subst (λ o. may_claim v o ≡ true) at may)).0))
steady_next goal workers h (Finish v) are may = stays_steady h (Finish v) refl are (λ b at w s. finished_of b.0 v w b.1 (nat_eq v w) refl s (subst (λ o. may_finish v o ≡ true) at may))
steady_next goal workers h (Tell r) are may = stays_steady h (Tell r) refl are (λ b at w s. steady_other b.0 w b.1 (Tell r) s refl refl)
steady_next goal workers h (Learn r) are may = stays_steady h (Learn r) refl are (λ b at w s. steady_other b.0 w b.1 (Learn r) s refl refl)
steady_next goal workers h (Pin r) are may = stays_steady h (Pin r) refl are (λ b at w s. steady_other b.0 w b.1 (Pin r) s refl refl)
steady_next goal workers h (Ask r least) are may = stays_steady h (Ask r least) refl are (λ b at w s. steady_other b.0 w b.1 (Ask r least) s refl refl)

-- what holds of no events, and of one more that is enabled where it held before, holds of a lawful list
pub each_lawful : (P : List Event → Type 0) (goal workers readers : ℕ) → ((g : List Event) (e : Event) → IsNamed workers readers e → is_enabled goal workers g e ≡ true → P g → P (g ++ e ∷ [])) → (g h : List Event) → IsLawfulAfter goal workers readers g h → P g → P (g ++ h)
each_lawful P goal workers readers more g [] law p = subst P (sym (append-nil g)) p
each_lawful P goal workers readers more g (e ∷ h) law p = subst P (append_assoc g (e ∷ []) h) (each_lawful P goal workers readers more (g ++ e ∷ []) h law.2 (more g e law.0 law.1 p))

pub steady : (goal workers readers : ℕ) (h : List Event) → IsLawful goal workers readers h → AreSteady h
steady goal workers readers h law = each_lawful AreSteady goal workers readers (λ g e named may are. steady_next goal workers g e are may) [] h law (λ b at w. absurd (cc))
