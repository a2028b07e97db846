-- Laws of tasks: each is drawn once and finished once.
use Rattle.std.proofs.Common.{◌≡◌, ℕ, zero, suc, ◌+◌, ◌<◌, ◌≤◌, min, Bool, true, false, true≢false, cond, List, [], ◌∷◌, ◌++◌, length, take, filter, ⊎_elim, Some, refl, sym, ap, ◌∙◌, subst, zero-le, append-nil, append_assoc, arith, length-append}
use Rattle.std.specs.Prelude.{nat_eq, nat_lt, option_map, unwrap_or}
use Rattle.std.specs.List.{count_by, range_with_len, sum_by}
use Rattle.std.proofs.lemmas.List.{length-take}
use Rattle.std.proofs.lemmas.List.FromFn.{length-range_with_len}
use Rattle.std.proofs.lemmas.List.Sums.{sum_by-append, sum_by-cons}
use Rattle.std.proofs.lemmas.Bool.{cases_eq, and_parts, ltb-true, ltb-false}
use Rattle.std.proofs.lemmas.Bool.Decides.{nat_tests}
use Rattle.order_machine.specs.declared.event.Event.{Event}
use Rattle.order_machine.specs.declared.event.Event.TheVariants.{Begin, Claim, Finish, Publish, Tell, Learn, Pin, Ask}
use Rattle.order_machine.specs.declared.event.Reply.{Reply}
use Rattle.order_machine.specs.declared.event.Reply.TheVariants as reply
use Rattle.order_machine.specs.Events.{is_turn, is_claim, is_claim_of, is_finish_of}
use Rattle.order_machine.specs.History.{board_of, next_of, drawn_at, tasks_of, finished_by, finished_in_all, are_done, may_publish, newest_of, pinned_by, reply_to, reply_to_ask, reply_to_claim, replies_to, IsNamed, IsLawful}
use Rattle.order_machine.specs.Laws.{numbers_drawn, NumbersFollow, times, AllAreFinished}
use Rattle.order_machine.proofs.Counts.{count_more, each_prefix, board_begun, board_gone, board_more, with_event}
use Rattle.order_machine.proofs.Workers.{tasks_more, each_lawful, was_up, same_worker}
use Rattle.order_machine.proofs.Steps.{other_number}
use Rattle.order_machine.proofs.EventLists.{replies_more}
use Rattle.order_machine.proofs.ReaderLaws.{range_more}

-- ---- sums over the workers

sums_alike : (f g : ℕ → ℕ) (a n : ℕ) → ((w : ℕ) → a ≤ w → w < a + n → f w ≡ g w) → sum_by f (range_with_len a n) ≡ sum_by g (range_with_len a n)
sums_alike f g a zero same = refl
sums_alike f g a (suc n) same =
    let p = sum_by-cons f a (range_with_len (a + 1) n) in
    let q = sum_by-cons g a (range_with_len (a + 1) n) in
    let r = sums_alike f g (a + 1) n (λ w low high. same w (omega arith) (omega arith)) in
    let e = same a (omega arith) (omega arith) in
    omega arith

sums_added : (f g h : ℕ → ℕ) → ((w : ℕ) → h w ≡ f w + g w) → (a n : ℕ) → sum_by h (range_with_len a n) ≡ sum_by f (range_with_len a n) + sum_by g (range_with_len a n)
sums_added f g h same a zero = refl
sums_added f g h same a (suc n) =
    let o = sum_by-cons h a (range_with_len (a + 1) n) in
    let p = sum_by-cons f a (range_with_len (a + 1) n) in
    let q = sum_by-cons g a (range_with_len (a + 1) n) in
    let r = sums_added f g h same (a + 1) n in
    let e = same a in
    omega arith

sum_none : (v k a n : ℕ) → v < a → sum_by (λ w. cond (nat_eq v w) k 0) (range_with_len a n) ≡ 0
sum_none v k a zero low = refl
sum_none v k a (suc n) low =
    let p = sum_by-cons (λ w. cond {A = ℕ} (nat_eq v w) k 0) a (range_with_len (a + 1) n) in
    let r = sum_none v k (a + 1) n (omega arith) in
    let z : cond {A = ℕ} (nat_eq v a) k 0 ≡ 0 = ap (λ (b : Bool). cond {A = ℕ} b k 0) (other_number a v (λ e. absurd (omega arith))) in
    omega arith

one_if : (v a k : ℕ) → v ≡ a → cond (nat_eq v a) k 0 ≡ k
one_if v a k e = grind (arith, nat_tests)

-- one worker of the range is v
sum_one : (v k a n : ℕ) → a ≤ v → v < a + n → sum_by (λ w. cond (nat_eq v w) k 0) (range_with_len a n) ≡ k
sum_one v k a zero low high = absurd (omega arith)
sum_one v k a (suc n) low high =
    let p = sum_by-cons (λ w. cond {A = ℕ} (nat_eq v w) k 0) a (range_with_len (a + 1) n) in
    ⊎_elim
    (λ (e : v ≡ a).
    let r = sum_none v k (a + 1) n (omega arith) in
    let z : cond {A = ℕ} (nat_eq v a) k 0 ≡ k = one_if v a k e in
    let all : sum_by (λ w. cond {A = ℕ} (nat_eq v w) k 0) (range_with_len a (suc n)) ≡ k = omega arith in all)
    (λ (off : v ≡ a → ⊥).
    let r = sum_one v k (a + 1) n (omega (arith, off)) (omega arith) in
    let z : cond {A = ℕ} (nat_eq v a) k 0 ≡ 0 = ap (λ (b : Bool). cond {A = ℕ} b k 0) (other_number a v (λ q. off (sym q))) in
    let all : sum_by (λ w. cond {A = ℕ} (nat_eq v w) k 0) (range_with_len a (suc n)) ≡ k = omega arith in all)
    (cases_eq v a)

sums_less : (f g : ℕ → ℕ) → ((w : ℕ) → f w ≤ g w) → (a n : ℕ) → sum_by f (range_with_len a n) ≤ sum_by g (range_with_len a n)
sums_less f g less a zero = zero-le
sums_less f g less a (suc n) =
    let p = sum_by-cons f a (range_with_len (a + 1) n) in
    let q = sum_by-cons g a (range_with_len (a + 1) n) in
    let r = sums_less f g less (a + 1) n in
    let e = less a in
    omega arith

-- what is at most as great at each worker, and not less in all, is the same
sums_tight : (f g : ℕ → ℕ) → ((w : ℕ) → f w ≤ g w) → (a n : ℕ) → sum_by g (range_with_len a n) ≤ sum_by f (range_with_len a n) → (w : ℕ) → a ≤ w → w < a + n → f w ≡ g w
sums_tight f g less a zero all w low high = absurd (omega arith)
sums_tight f g less a (suc n) all w low high =
    let p = sum_by-cons f a (range_with_len (a + 1) n) in
    let q = sum_by-cons g a (range_with_len (a + 1) n) in
    let r = sums_less f g less (a + 1) n in
    let e = less a in
    let here : f a ≡ g a = omega arith in
    let rest : sum_by g (range_with_len (a + 1) n) ≤ sum_by f (range_with_len (a + 1) n) = omega arith in
    ⊎_elim (λ (s : w ≡ a). rw s here) (λ (off : w ≡ a → ⊥). sums_tight f g less (a + 1) n rest w (omega (arith, off)) (omega arith)) (cases_eq w a)

-- ---- numbers that are drawn

-- a measure of lists that adds up
record AddsUp (size : List ℕ → ℕ) : Type 0 where
  none : size [] ≡ 0
  joined : (xs ys : List ℕ) → size (xs ++ ys) ≡ size xs + size ys

-- what an event adds, where x is drawn next
abbrev gain : (List ℕ → ℕ) → ℕ → ℕ → Event → ℕ
gain size n x (Claim v) = cond (nat_lt x n) (size (x ∷ [])) 0
gain size n x _ = 0

abbrev shares : (List ℕ → ℕ) → ℕ → ℕ → List Event → ℕ
shares size workers n b = sum_by (λ w. size (tasks_of w n b)) (range_with_len 0 workers)

kept_one : (size : List ℕ → ℕ) → AddsUp size → (x : ℕ) (c : Bool) → size (cond c (x ∷ []) []) ≡ cond c (size (x ∷ [])) 0
kept_one size up x true = refl
kept_one size up x false = up.none

kept_size : (size : List ℕ → ℕ) → AddsUp size → (n x : ℕ) (c d : Bool) → size (filter (λ y. nat_lt y n) (cond c (x ∷ []) [])) ≡ cond c (cond (nat_lt x n) (size (x ∷ [])) 0) 0
kept_size size up n x true d = kept_one size up x (nat_lt x n)
kept_size size up n x false d = up.none

-- what an event draws for a worker, as the measure has it
drawn_size : (size : List ℕ → ℕ) → AddsUp size → (n x w : ℕ) (e : Event) → size (filter (λ y. nat_lt y n) (drawn_at x w e)) ≡ cond (is_claim_of w e) (gain size n x e) 0
drawn_size size up n x w (Claim v) = kept_size size up n x (nat_eq v w) (nat_lt x n)
drawn_size size up n x w (Begin m) = up.none
drawn_size size up n x w (Finish v) = up.none
drawn_size size up n x w Publish = up.none
drawn_size size up n x w (Tell r) = up.none
drawn_size size up n x w (Learn r) = up.none
drawn_size size up n x w (Pin r) = up.none
drawn_size size up n x w (Ask r least) = up.none

share_more : (size : List ℕ → ℕ) → AddsUp size → (n w : ℕ) (b : List Event) (e : Event) → size (tasks_of w n (b ++ e ∷ [])) ≡ size (tasks_of w n b) + cond (is_claim_of w e) (gain size n (next_of b) e) 0
share_more size up n w b e = ap size (tasks_more w n b e) ∙ (up.joined (tasks_of w n b) (filter (λ y. nat_lt y n) (drawn_at (next_of b) w e)) ∙ ap (λ (k : ℕ). size (tasks_of w n b) + k) (drawn_size size up n (next_of b) w e))

sum_zero : (a n : ℕ) → sum_by (λ w. 0) (range_with_len a n) ≡ 0
sum_zero a zero = refl
sum_zero a (suc n) = let p = sum_by-cons (λ (w : ℕ). 0) a (range_with_len (a + 1) n) in let r = sum_zero (a + 1) n in omega arith

-- in all, the workers gain what the event draws
gains : (size : List ℕ → ℕ) (workers readers n x : ℕ) (e : Event) → IsNamed workers readers e → sum_by (λ w. cond (is_claim_of w e) (gain size n x e) 0) (range_with_len 0 workers) ≡ gain size n x e
gains size workers readers n x (Claim v) named = sum_one v (gain size n x (Claim v)) 0 workers zero-le (omega arith)
gains size workers readers n x (Begin m) named = sum_zero 0 workers
gains size workers readers n x (Finish v) named = sum_zero 0 workers
gains size workers readers n x Publish named = sum_zero 0 workers
gains size workers readers n x (Tell r) named = sum_zero 0 workers
gains size workers readers n x (Learn r) named = sum_zero 0 workers
gains size workers readers n x (Pin r) named = sum_zero 0 workers
gains size workers readers n x (Ask r least) named = sum_zero 0 workers

shares_more : (size : List ℕ → ℕ) → AddsUp size → (workers readers n : ℕ) (b : List Event) (e : Event) → IsNamed workers readers e → shares size workers n (b ++ e ∷ []) ≡ shares size workers n b + gain size n (next_of b) e
shares_more size up workers readers n b e named = sums_added (λ w. size (tasks_of w n b)) (λ w. cond (is_claim_of w e) (gain size n (next_of b) e) 0) (λ w. size (tasks_of w n (b ++ e ∷ []))) (λ w. share_more size up n w b e) 0 workers ∙ ap (λ (k : ℕ). shares size workers n b + k) (gains size workers readers n (next_of b) e named)

-- ---- the numbers that are drawn follow each other

abbrev up_to : ℕ → ℕ → List ℕ
up_to x n = range_with_len 0 (min x n)

abbrev next_one : ℕ → ℕ → List ℕ
next_one x n = cond (nat_lt x n) (x ∷ []) []

step_below : (x n : ℕ) → nat_lt x n ≡ true → (min (x + 1) n ≡ x + 1) × (min x n ≡ x)
step_below x n h = let l = ltb-true x n h in (omega arith, omega arith)

step_above : (x n : ℕ) → nat_lt x n ≡ false → min (x + 1) n ≡ min x n
step_above x n h = let l = ltb-false x n h in omega arith

one_further : (x n : ℕ) (b : Bool) → nat_lt x n ≡ b → up_to (x + 1) n ≡ up_to x n ++ cond b (x ∷ []) []
one_further x n true is = let s = step_below x n is in let z : 0 + x ≡ x = omega arith in rw (s.0, s.1) (range_more 0 x ∙ ap (λ (k : ℕ). range_with_len 0 x ++ k ∷ []) z)
one_further x n false is = rw (step_above x n is) (sym (append-nil (up_to x n)))

pub next_further : (x n : ℕ) → up_to (x + 1) n ≡ up_to x n ++ next_one x n
next_further x n = one_further x n (nat_lt x n) refl

gain_of_claim : (size : List ℕ → ℕ) → AddsUp size → (n v x : ℕ) → size (up_to (x + 1) n) ≡ size (up_to x n) + gain size n x (Claim v)
gain_of_claim size up n v x = ap size (next_further x n) ∙ (up.joined (up_to x n) (next_one x n) ∙ ap (λ (k : ℕ). size (up_to x n) + k) (kept_one size up x (nat_lt x n)))

gain_of_none : (size : List ℕ → ℕ) (n : ℕ) (b : List Event) (e : Event) → is_claim e ≡ false → size (up_to (next_of (b ++ e ∷ [])) n) ≡ size (up_to (next_of b) n) + 0
gain_of_none size n b e off =
    let m = count_more is_claim b e in
    let z : cond {A = ℕ} (is_claim e) 1 0 ≡ 0 = ap (λ (q : Bool). cond {A = ℕ} q 1 0) off in
    let same : next_of (b ++ e ∷ []) ≡ next_of b = omega arith in
    ap (λ (k : ℕ). size (up_to k n)) same ∙ (omega arith)

follows : (size : List ℕ → ℕ) → AddsUp size → (n : ℕ) (b : List Event) (e : Event) → size (up_to (next_of (b ++ e ∷ [])) n) ≡ size (up_to (next_of b) n) + gain size n (next_of b) e
follows size up n b (Claim v) = ap (λ (k : ℕ). size (up_to k n)) (count_more is_claim b (Claim v)) ∙ gain_of_claim size up n v (next_of b)
follows size up n b (Begin m) = gain_of_none size n b (Begin m) refl
follows size up n b (Finish v) = gain_of_none size n b (Finish v) refl
follows size up n b Publish = gain_of_none size n b Publish refl
follows size up n b (Tell r) = gain_of_none size n b (Tell r) refl
follows size up n b (Learn r) = gain_of_none size n b (Learn r) refl
follows size up n b (Pin r) = gain_of_none size n b (Pin r) refl
follows size up n b (Ask r least) = gain_of_none size n b (Ask r least) refl

-- in all, the workers drew the numbers below the next one that are tasks

abbrev AreShared : (List ℕ → ℕ) → ℕ → List Event → Type 0
AreShared size workers h = (b : ℕ × List Event) → board_of h ≡ Some b → shares size workers b.0 b.1 ≡ size (up_to (next_of b.1) b.0)

begun_shared : (size : List ℕ → ℕ) → AddsUp size → (workers : ℕ) (h : List Event) (n : ℕ) → AreShared size workers (h ++ Begin n ∷ [])
begun_shared size up workers h n b at =
    let here : b ≡ (n, []) = let s = board_begun h n in cc in
    let low : min 0 n ≡ 0 = omega arith in
    let none : size (up_to 0 n) ≡ 0 = rw low up.none in
    let zero : shares size workers n [] ≡ 0 = sums_alike (λ w. size (tasks_of w n [])) (λ w. 0) 0 workers (λ w p q. up.none) ∙ sum_zero 0 workers in
    subst (λ (c : ℕ × List Event). shares size workers c.0 c.1 ≡ size (up_to (next_of c.1) c.0)) (sym here) (zero ∙ sym none)

gone_shared : (size : List ℕ → ℕ) (workers : ℕ) (h : List Event) → AreShared size workers (h ++ Publish ∷ [])
gone_shared size workers h b at = let g = board_gone h in absurd (cc)

kept_shared : (size : List ℕ → ℕ) → AddsUp size → (workers readers : ℕ) (h : List Event) (e : Event) → IsNamed workers readers e → is_turn e ≡ false → AreShared size workers h → AreShared size workers (h ++ e ∷ [])
kept_shared size up workers readers h e named off are b at =
    let was = was_up e (board_of h) b (sym (board_more h e off) ∙ at) in
    let n = was.0.0 in let c = was.0.1 in
    let now : shares size workers n (c ++ e ∷ []) ≡ size (up_to (next_of (c ++ e ∷ [])) n) = shares_more size up workers readers n c e named ∙ (ap (λ (k : ℕ). k + gain size n (next_of c) e) (are was.0 was.1) ∙ sym (follows size up n c e)) in
    subst (λ (d : ℕ × List Event). shares size workers d.0 d.1 ≡ size (up_to (next_of d.1) d.0)) (sym was.2) now

next_shared : (size : List ℕ → ℕ) → AddsUp size → (workers readers : ℕ) (h : List Event) (e : Event) → IsNamed workers readers e → AreShared size workers h → AreShared size workers (h ++ e ∷ [])
next_shared size up workers readers h (Begin n) named are = begun_shared size up workers h n
next_shared size up workers readers h Publish named are = gone_shared size workers h
next_shared size up workers readers h (Claim v) named are = kept_shared size up workers readers h (Claim v) named refl are
next_shared size up workers readers h (Finish v) named are = kept_shared size up workers readers h (Finish v) named refl are
next_shared size up workers readers h (Tell r) named are = kept_shared size up workers readers h (Tell r) named refl are
next_shared size up workers readers h (Learn r) named are = kept_shared size up workers readers h (Learn r) named refl are
next_shared size up workers readers h (Pin r) named are = kept_shared size up workers readers h (Pin r) named refl are
next_shared size up workers readers h (Ask r least) named are = kept_shared size up workers readers h (Ask r least) named refl are

shared : (size : List ℕ → ℕ) → AddsUp size → (goal workers readers : ℕ) (h : List Event) → IsLawful goal workers readers h → AreShared size workers h
shared size up goal workers readers h law = each_lawful (AreShared size workers) goal workers readers (λ g e named may are. next_shared size up workers readers g e named are) [] h law (λ b at. absurd (cc))

-- ---- all are finished

lengths : AddsUp (length {A = ℕ})
lengths = record { none = refl; joined = λ xs ys. length-append xs ys }

counted : (x : ℕ) → AddsUp (times x)
counted x = record { none = refl; joined = λ xs ys. sum_by-append (λ y. cond {A = ℕ} (nat_eq x y) 1 0) xs ys }

once_more : (x n : ℕ) → cond (nat_lt x n) 1 0 + cond (nat_eq x n) 1 0 ≡ cond (nat_lt x (n + 1)) 1 0
once_more x n = grind (arith, nat_tests)

none_below : (x : ℕ) → ◌≡◌ {A = ℕ} 0 (cond (nat_lt x 0) 1 0)
none_below x = grind (arith, nat_tests)

times_range : (x n : ℕ) → times x (range_with_len 0 n) ≡ cond (nat_lt x n) 1 0
times_range x zero = none_below x
times_range x (suc n) =
    let one : suc n ≡ n + 1 = omega arith in
    let z : 0 + n ≡ n = omega arith in
    let t = sum_by-cons (λ y. cond {A = ℕ} (nat_eq x y) 1 0) n [] in
    let old = times_range x n in
    let both : times x (range_with_len 0 n) + times x (n ∷ []) ≡ cond (nat_lt x n) 1 0 + cond (nat_eq x n) 1 0 = omega arith in
    ap (λ (k : ℕ). times x (range_with_len 0 k)) one ∙ (ap (times x) (range_more 0 n ∙ ap (λ (k : ℕ). range_with_len 0 n ++ k ∷ []) z) ∙ ((counted x).joined (range_with_len 0 n) (n ∷ []) ∙ (both ∙ (once_more x n ∙ ap (λ (k : ℕ). cond {A = ℕ} (nat_lt x k) 1 0) (sym one)))))

all_taken : (f : ℕ) (l : List ℕ) → length (take f l) ≡ length l → take f l ≡ l
all_taken zero [] same = refl
all_taken zero (y ∷ l) same = absurd (omega arith)
all_taken (suc f) [] same = refl
all_taken (suc f) (y ∷ l) same = ap (λ (k : List ℕ). y ∷ k) (all_taken f l (omega arith))

taken_less : (f : ℕ) (l : List ℕ) → length (take f l) ≤ length l
taken_less f l = let t = length-take f l in omega arith

pub all_finished : AllAreFinished
all_finished goal workers readers n h b law at may x =
    let done : ℕ → ℕ = λ w. length (finished_by w n b) in
    let all : ℕ → ℕ = λ w. length (tasks_of w n b) in
    let less : (w : ℕ) → done w ≤ all w = λ w. taken_less (count_by (is_finish_of w) b) (tasks_of w n b) in
    let enough : finished_in_all workers n b ≡ n = same_worker (finished_in_all workers n b) n ((and_parts (are_done workers n b) (nat_eq (finished_in_all workers n b) n) (subst (λ o. may_publish workers o ≡ true) at may)).1) in
    let drew : sum_by all (range_with_len 0 workers) ≡ min (next_of b) n = shared length lengths goal workers readers h law (n, b) at ∙ length-range_with_len 0 (min (next_of b) n) in
    let most = sums_less done all less 0 workers in
    let whole : min (next_of b) n ≡ n = omega arith in
    let tight : (w : ℕ) → 0 ≤ w → w < 0 + workers → done w ≡ all w = sums_tight done all less 0 workers (omega arith) in
    sums_alike (λ w. times x (finished_by w n b)) (λ w. times x (tasks_of w n b)) 0 workers (λ w low high. ap (times x) (all_taken (count_by (is_finish_of w) b) (tasks_of w n b) (tight w low high))) ∙ (shared (times x) (counted x) goal workers readers h law (n, b) at ∙ (ap (λ (k : ℕ). times x (range_with_len 0 k)) whole ∙ times_range x n))

-- ---- the replies

drawn_joined : (rs : List Reply) (r : Reply) → numbers_drawn (rs ++ r ∷ []) ≡ numbers_drawn rs ++ numbers_drawn (r ∷ [])
drawn_joined [] r = refl
drawn_joined (reply.Drawn n ∷ rs) r = ap (λ (l : List ℕ). n ∷ l) (drawn_joined rs r)
drawn_joined (reply.Done ∷ rs) r = drawn_joined rs r
drawn_joined (reply.NoTask ∷ rs) r = drawn_joined rs r
drawn_joined (reply.Published n ∷ rs) r = drawn_joined rs r
drawn_joined (reply.Pinned n ∷ rs) r = drawn_joined rs r
drawn_joined (reply.Answered n ∷ rs) r = drawn_joined rs r
drawn_joined (reply.NotYet n ∷ rs) r = drawn_joined rs r

-- b are events that leave the board of n tasks up
record IsUpWith (n : ℕ) (g b : List Event) : Type 0 where
  board : board_of (g ++ b) ≡ Some (n, b)
  numbers : numbers_drawn (replies_to g b) ≡ up_to (next_of b) n

drawn_if : (x : ℕ) (c : Bool) → numbers_drawn (cond c (reply.Drawn x) reply.NoTask ∷ []) ≡ cond c (x ∷ []) []
drawn_if x true = refl
drawn_if x false = refl

none_of_ask : (n : ℕ) (c : Bool) → numbers_drawn (cond c (reply.NotYet n) (reply.Answered n) ∷ []) ≡ []
none_of_ask n true = refl
none_of_ask n false = refl

-- what a reply adds
abbrev Adds : ℕ → List Event → Event → Reply → Type 0
Adds n b e r = up_to (next_of b) n ++ numbers_drawn (r ∷ []) ≡ up_to (next_of (b ++ e ∷ [])) n

adds_none : (n : ℕ) (b : List Event) (e : Event) (r : Reply) → numbers_drawn (r ∷ []) ≡ [] → is_claim e ≡ false → Adds n b e r
adds_none n b e r none off =
    let m = count_more is_claim b e in
    let z : cond {A = ℕ} (is_claim e) 1 0 ≡ 0 = ap (λ (q : Bool). cond {A = ℕ} q 1 0) off in
    let same : next_of b ≡ next_of (b ++ e ∷ []) = omega arith in
    ap (λ (l : List ℕ). up_to (next_of b) n ++ l) none ∙ (append-nil (up_to (next_of b) n) ∙ ap (λ (k : ℕ). up_to k n) same)

adds : (n : ℕ) (h b : List Event) (e : Event) → is_turn e ≡ false → board_of h ≡ Some (n, b) → Adds n b e (reply_to h e)
adds n h b (Begin m) off at = absurd (true≢false off)
adds n h b Publish off at = absurd (true≢false off)
adds n h b (Claim v) off at =
    let x = next_of b in
    let answer : numbers_drawn (reply_to h (Claim v) ∷ []) ≡ next_one x n = ap (λ o. numbers_drawn (reply_to_claim o ∷ [])) at ∙ drawn_if x (nat_lt x n) in
    ap (λ (l : List ℕ). up_to x n ++ l) answer ∙ (sym (next_further x n) ∙ ap (λ (k : ℕ). up_to k n) (sym (count_more is_claim b (Claim v))))
adds n h b (Finish v) off at = adds_none n b (Finish v) reply.Done refl refl
adds n h b (Tell r) off at = adds_none n b (Tell r) reply.Done refl refl
adds n h b (Learn r) off at = adds_none n b (Learn r) reply.Done refl refl
adds n h b (Pin r) off at = adds_none n b (Pin r) (reply.Pinned (newest_of h)) refl refl
adds n h b (Ask r least) off at = let k = unwrap_or (pinned_by r h) 0 in adds_none n b (Ask r least) (reply_to_ask k least) (none_of_ask k (nat_lt k least)) refl

up_more : (n : ℕ) (g b : List Event) (e : Event) → is_turn e ≡ false → IsUpWith n g b → IsUpWith n g (b ++ e ∷ [])
up_more n g b e off up = record {
  board = ap board_of (sym (append_assoc g b (e ∷ []))) ∙ (board_more (g ++ b) e off ∙ ap (option_map (with_event e)) up.board);
  numbers = ap numbers_drawn (replies_more g b e) ∙ (drawn_joined (replies_to g b) (reply_to (g ++ b) e) ∙ (ap (λ (l : List ℕ). l ++ numbers_drawn (reply_to (g ++ b) e ∷ [])) up.numbers ∙ adds n (g ++ b) b e off up.board));
}

no_turn : (b : Bool) (k : ℕ) → k + cond b 1 0 ≡ 0 → (k ≡ 0) × (b ≡ false)
no_turn true k h = absurd (omega arith)
no_turn false k h = (omega arith, refl)

stays_up : (n : ℕ) (g b : List Event) → count_by is_turn b ≡ 0 → IsUpWith n (g ++ Begin n ∷ []) b
stays_up n g b = each_prefix (λ c. count_by is_turn c ≡ 0 → IsUpWith n (g ++ Begin n ∷ []) c) (λ c e up none. let q = no_turn (is_turn e) (count_by is_turn c) (sym (count_more is_turn c e) ∙ none) in up_more n (g ++ Begin n ∷ []) c e q.1 (up q.0)) [] b (λ none. record { board = ap board_of (append-nil (g ++ Begin n ∷ [])) ∙ board_begun g n; numbers = let low : min 0 n ≡ 0 = omega arith in rw low refl })

pub numbers_follow : NumbersFollow
numbers_follow g b n none = let up = stays_up n g b none in up.numbers
