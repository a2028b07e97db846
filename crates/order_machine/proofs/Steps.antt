-- The table of the machine is what a list of events says by counting.
use Rattle.std.proofs.Common.{◌≡◌, ◌≢◌, ℕ, zero, suc, ◌+◌, ◌<◌, max, not, Bool, true, false, cond, List, [], ◌∷◌, ◌++◌, length, map, set, get_or, replicate, Option, Some, None, Result, Ok, Err, MatchResult, refl, sym, ap, ◌∙◌, subst, append-nil, append_assoc, arith}
use Rattle.std.specs.Prelude.{nat_eq, is_some, is_none, option_map, unwrap_or}
use Rattle.std.specs.List.{list_all, sum_by, range_with_len}
use Rattle.std.proofs.lemmas.List.FromFn.{get_or-map-range_with_len}
use Rattle.std.proofs.lemmas.List.Folds.{list_all-map}
use Rattle.std.proofs.lemmas.List.Sums.{sum_by-cons}
use Rattle.std.proofs.Math.ListN.{length-set, length-replicate}
use Rattle.std.proofs.lemmas.Bool.Decides.{nat_tests}
use Rattle.std.proofs.lemmas.Bool.{and_parts, not-true}
use Rattle.order_machine.specs.declared.event.Event.{Event}
use Rattle.order_machine.specs.declared.event.Event.TheVariants.{Begin, Claim, Finish, Publish, Tell, Learn, Pin, Ask}
use Rattle.order_machine.specs.declared.reader.Reader.{Reader}
use Rattle.order_machine.specs.Events.{is_publish, is_turn, is_claim, is_finish_of, is_tell_to, is_pin_of}
use Rattle.order_machine.specs.History.{newest_of, board_of, next_of, drawn_at, held_by, finished_in_all, is_done, are_done, told_to, pinned_by, seen_by, shown_to, may_claim, may_finish, may_publish, is_enabled, reply_to, reply_to_claim, IsNamed, IsLawful, IsLawfulAfter}
use Rattle.order_machine.specs.Seen.{SeenWorker, SeenBoard, SeenState}
use Rattle.order_machine.specs.Stands.{Stands, worker_after, board_after, reader_after}
use Rattle.order_machine.specs.Moves.{idle, is_free, after_draw, after_finish, worker_at, claimed, finished, is_finished, no_reader, reader_at, is_up_and, enabled_at, after, draw_from, reply_at, seen_board, with_reader, new_state, Moves, Stays, IsRefusal}
use Rattle.order_machine.specs.declared.event.Reply.{Reply}
use Rattle.order_machine.specs.Steps.{IsStep, IsBarred, IsRefused}
use Rattle.order_machine.specs.declared.fault.MachineFault.{MachineFault}
use Rattle.order_machine.specs.declared.fault.MachineFault.TheVariants.{NotEnabled, Memory}
use Rattle.order_machine.proofs.Counts.{count_more, board_begun, board_gone, board_more, with_event, newest_more, same_newest, told_more, pinned_more, seen_more, seen_le}
use Rattle.order_machine.proofs.Workers.{IsSteady, steady, claims, finishes, others_stay, drew, first_is, same_number}

-- ---- lists of what is numbered from 0

pub map_same : {X : Type 0} (f g : ℕ → X) → ((v : ℕ) → g v ≡ f v) → (a n : ℕ) → map g (range_with_len a n) ≡ map f (range_with_len a n)
map_same f g same a zero = refl
map_same f g same a (suc n) = rw (same a, map_same f g same (a + 1) n) refl

map_above : {X : Type 0} (f g : ℕ → X) (b a n : ℕ) → b < a → ((v : ℕ) → v ≢ b → g v ≡ f v) → map g (range_with_len a n) ≡ map f (range_with_len a n)
map_above f g b a zero above same = refl
map_above f g b a (suc n) above same = rw (same a (λ e. absurd (omega arith)), map_above f g b (a + 1) n (omega arith) same) refl

map_set : {X : Type 0} (f g : ℕ → X) (a n i w : ℕ) → a + i ≡ w → i < n → ((v : ℕ) → v ≢ w → g v ≡ f v) → map g (range_with_len a n) ≡ set (map f (range_with_len a n)) i (g w)
map_set f g a zero i w at less same = absurd (omega arith)
map_set f g a (suc n) zero w at less same =
    let here : a ≡ w = omega arith in
    rw (here, map_above f g w (w + 1) n (omega arith) same) refl
map_set f g a (suc n) (suc i) w at less same = rw (same a (λ e. absurd (omega arith)), map_set f g (a + 1) n i w (omega arith) (omega arith) same) refl

pub map_idle : {X : Type 0} (f : ℕ → X) (x : X) → ((v : ℕ) → f v ≡ x) → (a n : ℕ) → map f (range_with_len a n) ≡ replicate n x
map_idle f x same a zero = refl
map_idle f x same a (suc n) = rw (same a, map_idle f x same (a + 1) n) refl

-- ---- conditions

none_mapped : {X Y : Type 0} (f : X → Y) (o : Option X) → is_none (option_map f o) ≡ is_none o
none_mapped f None = refl
none_mapped f (Some x) = refl

worker_is : (workers w n : ℕ) (b : List Event) → w < workers → worker_at (board_after workers (n, b)) w ≡ worker_after n b w
worker_is workers w n b less = get_or-map-range_with_len (worker_after n b) 0 workers w w idle less (omega arith)

sums_mapped : {X Y : Type 0} (g : Y → ℕ) (f : X → Y) (xs : List X) → sum_by g (map f xs) ≡ sum_by (λ x. g (f x)) xs
sums_mapped g f [] = refl
sums_mapped g f (x ∷ xs) =
    let a = sum_by-cons g (f x) (map f xs) in
    let b = sum_by-cons (λ y. g (f y)) x xs in
    let r = sums_mapped g f xs in
    omega arith

claim_is : (workers w : ℕ) (o : Option (ℕ × List Event)) → w < workers → is_up_and (λ b. is_free (worker_at b w)) (option_map (board_after workers) o) ≡ may_claim w o
claim_is workers w None less = refl
claim_is workers w (Some b) less = ap is_free (worker_is workers w b.0 b.1 less)

finish_is : (workers w : ℕ) (o : Option (ℕ × List Event)) → w < workers → is_up_and (λ b. is_some (worker_at b w).held) (option_map (board_after workers) o) ≡ may_finish w o
finish_is workers w None less = refl
finish_is workers w (Some b) less = ap (λ (v : SeenWorker). is_some v.held) (worker_is workers w b.0 b.1 less)

publish_is : (workers : ℕ) (o : Option (ℕ × List Event)) → is_up_and is_finished (option_map (board_after workers) o) ≡ may_publish workers o
publish_is workers None = refl
publish_is workers (Some b) =
    let range = range_with_len 0 workers in
    let done : list_all (λ w. w.done) (map (worker_after b.0 b.1) range) ≡ are_done workers b.0 b.1 = list_all-map (λ w. w.done) (worker_after b.0 b.1) range in
    let all : sum_by (λ w. length w.finished) (map (worker_after b.0 b.1) range) ≡ finished_in_all workers b.0 b.1 = sums_mapped (λ w. length w.finished) (worker_after b.0 b.1) range in
    rw (done, all) refl

reader_is : (h : List Event) (s : SeenState) (r : ℕ) → Stands h s → r < length s.readers → reader_at s r ≡ reader_after h r
reader_is h s r st less = ap (λ (l : List Reader). get_or l r no_reader) st.readers ∙ get_or-map-range_with_len (reader_after h) 0 (length s.readers) r r no_reader less (omega arith)

pub enabled_is : (h : List Event) (s : SeenState) (e : Event) → IsNamed s.workers (length s.readers) e → Stands h s → enabled_at s e ≡ is_enabled s.goal s.workers h e
enabled_is h s (Begin n) named st = rw (st.board, st.newest, none_mapped (board_after s.workers) (board_of h)) refl
enabled_is h s (Claim w) named st = rw st.board (claim_is s.workers w (board_of h) named)
enabled_is h s (Finish w) named st = rw st.board (finish_is s.workers w (board_of h) named)
enabled_is h s Publish named st = rw st.board (publish_is s.workers (board_of h))
enabled_is h s (Tell r) named st = refl
enabled_is h s (Learn r) named st = refl
enabled_is h s (Pin r) named st = refl
enabled_is h s (Ask r least) named st = ap (λ (q : Reader). is_some q.pinned) (reader_is h s r st named)

draw_is : (workers : ℕ) (o : Option (ℕ × List Event)) → draw_from (option_map (board_after workers) o) ≡ reply_to_claim o
draw_is workers None = refl
draw_is workers (Some b) = refl

pub reply_is : (h : List Event) (s : SeenState) (e : Event) → IsNamed s.workers (length s.readers) e → Stands h s → reply_at s e ≡ reply_to h e
reply_is h s (Begin n) named st = refl
reply_is h s (Claim w) named st = rw st.board (draw_is s.workers (board_of h))
reply_is h s (Finish w) named st = refl
reply_is h s Publish named st = rw st.newest refl
reply_is h s (Tell r) named st = refl
reply_is h s (Learn r) named st = refl
reply_is h s (Pin r) named st = rw st.newest refl
reply_is h s (Ask r least) named st = rw (reader_is h s r st named) refl

-- ---- one more event

pub lawful_more : (goal workers readers : ℕ) (g h : List Event) (e : Event) → IsLawfulAfter goal workers readers g h → IsNamed workers readers e → is_enabled goal workers (g ++ h) e ≡ true → IsLawfulAfter goal workers readers g (h ++ e ∷ [])
lawful_more goal workers readers g [] e law named may = (named, subst (λ (l : List Event). is_enabled goal workers l e ≡ true) (append-nil g) may, tt)
lawful_more goal workers readers g (x ∷ h) e law named may = (law.0, law.1, lawful_more goal workers readers (g ++ x ∷ []) h e law.2 named (subst (λ (l : List Event). is_enabled goal workers l e ≡ true) (sym (append_assoc g (x ∷ []) h)) may))

-- the board

board_by : (tasks x y : ℕ) (l m : List SeenWorker) → x ≡ y → l ≡ m → seen_board tasks x l ≡ seen_board tasks y m
board_by tasks x y l m p q = rw (p, q) refl

pub other_number : (v w : ℕ) → v ≢ w → nat_eq w v ≡ false
other_number v w h = grind (arith, nat_tests)

claimed_is : (workers w : ℕ) (b : ℕ × List Event) → w < workers → IsSteady b.0 b.1 w → may_claim w (Some b) ≡ true → claimed (board_after workers b) w ≡ board_after workers (with_event (Claim w) b)
claimed_is workers w b less s may =
    let n = b.0 in let c = b.1 in let x = next_of c in
    let free = is_none (held_by w n c) in
    let drawn = claims n w c s ((and_parts free (not (is_done w n c)) may).0) (not-true (is_done w n c) ((and_parts free (not (is_done w n c)) may).1)) in
    let same : after_draw x n (worker_at (board_after workers b) w) ≡ drew n x c w = ap (after_draw x n) (worker_is workers w n c less) in
    let others : (v : ℕ) → v ≢ w → worker_after n (c ++ Claim w ∷ []) v ≡ worker_after n c v = λ v off. others_stay n v c (Claim w) (ap (λ q. cond q (x ∷ []) []) (other_number v w off)) refl in
    let all = map_set (worker_after n c) (worker_after n (c ++ Claim w ∷ [])) 0 workers w w (omega arith) less others in
    board_by n (x + 1) (next_of (c ++ Claim w ∷ [])) _ _ (sym (count_more is_claim c (Claim w))) (ap (λ v. set (map (worker_after n c) (range_with_len 0 workers)) w v) (same ∙ sym drawn) ∙ sym all)

finished_is : (workers w : ℕ) (b : ℕ × List Event) → w < workers → IsSteady b.0 b.1 w → may_finish w (Some b) ≡ true → finished (board_after workers b) w (unwrap_or (worker_at (board_after workers b) w).held 0) ≡ board_after workers (with_event (Finish w) b)
finished_is workers w b less s may =
    let n = b.0 in let c = b.1 in
    let here = worker_is workers w n c less in
    let one = first_is (held_by w n c) may in
    let done = finishes n w one.0 c s one.1 in
    let number : unwrap_or (worker_at (board_after workers b) w).held 0 ≡ one.0 = ap (λ (v : SeenWorker). unwrap_or v.held 0) here ∙ ap (λ o. unwrap_or o 0) one.1 in
    let same : after_finish (unwrap_or (worker_at (board_after workers b) w).held 0) (worker_at (board_after workers b) w) ≡ worker_after n (c ++ Finish w ∷ []) w = rw (number, here) (sym done) in
    let others : (v : ℕ) → v ≢ w → worker_after n (c ++ Finish w ∷ []) v ≡ worker_after n c v = λ v off. others_stay n v c (Finish w) refl (other_number v w off) in
    let all = map_set (worker_after n c) (worker_after n (c ++ Finish w ∷ [])) 0 workers w w (omega arith) less others in
    let count : next_of c ≡ next_of (c ++ Finish w ∷ []) = let m = count_more is_claim c (Finish w) in omega arith in
    board_by n (next_of c) (next_of (c ++ Finish w ∷ [])) _ _ count (ap (λ v. set (map (worker_after n c) (range_with_len 0 workers)) w v) same ∙ sym all)

-- an event that isn't of the board
abbrev IsOfReaders : Event → Type 0
IsOfReaders e = (is_turn e ≡ false) × (is_publish e ≡ false) × (is_claim e ≡ false) × ((x w : ℕ) → drawn_at x w e ≡ []) × ((w : ℕ) → is_finish_of w e ≡ false)

board_stays : (workers : ℕ) (b : ℕ × List Event) (e : Event) → IsOfReaders e → board_after workers b ≡ board_after workers (with_event e b)
board_stays workers b e off =
    let n = b.0 in let c = b.1 in
    let count : next_of c ≡ next_of (c ++ e ∷ []) = let m = count_more is_claim c e in let z : cond {A = ℕ} (is_claim e) 1 0 ≡ 0 = ap (λ (q : Bool). cond {A = ℕ} q 1 0) off.2 in omega arith in
    board_by n (next_of c) (next_of (c ++ e ∷ [])) _ _ count (sym (map_same (worker_after n c) (worker_after n (c ++ e ∷ [])) (λ w. others_stay n w c e (off.3 (next_of c) w) (off.4 w)) 0 workers))

-- readers

abbrev reader_of : ℕ → ℕ → Option ℕ → Reader
reader_of told seen pinned = record { told = told; seen = seen; pinned = pinned }

reader_more : (h : List Event) (e : Event) (q : ℕ) → reader_after (h ++ e ∷ []) q ≡ reader_of (cond (is_tell_to q e) (newest_of h) (told_to q h)) (max (seen_by q h) (shown_to q h e)) (cond (is_pin_of q e) (Some (newest_of h)) (pinned_by q h))
reader_more h e q = rw (told_more q h e, seen_more q h e, pinned_more q h e) refl

-- the event tells, shows and pins nothing
abbrev IsNothingTo : ℕ → Event → Type 0
IsNothingTo q e = (is_tell_to q e ≡ false) × ((h : List Event) → shown_to q h e ≡ 0) × (is_pin_of q e ≡ false)

max_none : (n : ℕ) → max n 0 ≡ n
max_none n = omega arith

reader_stays : (h : List Event) (e : Event) (q : ℕ) → IsNothingTo q e → reader_after (h ++ e ∷ []) q ≡ reader_after h q
reader_stays h e q off = reader_more h e q ∙ rw (off.0, off.1 h, off.2, max_none (seen_by q h)) refl

abbrev AreSeen : List Event → ℕ → List Reader → Type 0
AreSeen h n readers = readers ≡ map (reader_after h) (range_with_len 0 n)

readers_stay : (h : List Event) (e : Event) (n : ℕ) (readers : List Reader) → ((q : ℕ) → IsNothingTo q e) → AreSeen h n readers → AreSeen (h ++ e ∷ []) n readers
readers_stay h e n readers off are = are ∙ sym (map_same (reader_after h) (reader_after (h ++ e ∷ [])) (λ q. reader_stays h e q (off q)) 0 n)

-- one reader changes
one_changes : (h : List Event) (e : Event) (n r : ℕ) (readers : List Reader) (now : Reader) → r < n → ((q : ℕ) → q ≢ r → IsNothingTo q e) → reader_after (h ++ e ∷ []) r ≡ now → AreSeen h n readers → AreSeen (h ++ e ∷ []) n (set readers r now)
one_changes h e n r readers now less off is are =
    ap (λ (l : List Reader). set l r now) are ∙ (ap (λ (v : Reader). set (map (reader_after h) (range_with_len 0 n)) r v) (sym is) ∙ sym (map_set (reader_after h) (reader_after (h ++ e ∷ [])) 0 n r r (omega arith) less (λ q other. reader_stays h e q (off q other))))

-- states

abbrev Goes : List Event → SeenState → Event → Type 0
Goes h s e = IsNamed s.workers (length s.readers) e → is_enabled s.goal s.workers h e ≡ true → Stands h s → Stands (h ++ e ∷ []) (after s e)

mapped : (workers : ℕ) (F : SeenBoard → SeenBoard) (e : Event) (o : Option (ℕ × List Event)) → ((b : ℕ × List Event) → o ≡ Some b → F (board_after workers b) ≡ board_after workers (with_event e b)) → option_map F (option_map (board_after workers) o) ≡ option_map (board_after workers) (option_map (with_event e) o)
mapped workers F e None is = refl
mapped workers F e (Some b) is = ap Some (is b refl)

-- the readers of an event that is no reader's
nothing_to_readers : (h : List Event) (s : SeenState) (e : Event) → ((q : ℕ) → IsNothingTo q e) → Stands h s → AreSeen (h ++ e ∷ []) (length s.readers) s.readers
nothing_to_readers h s e off st = readers_stay h e (length s.readers) s.readers off st.readers

begins : (h : List Event) (s : SeenState) (n : ℕ) → Goes h s (Begin n)
begins h s n named may st = record {
  lawful = lawful_more s.goal s.workers (length s.readers) [] h (Begin n) st.lawful named may;
  newest = st.newest ∙ sym (same_newest h (Begin n) refl);
  board = ap Some (board_by n 0 (next_of []) _ _ refl (sym (map_idle (worker_after n []) idle (λ v. refl) 0 s.workers))) ∙ sym (ap (option_map (board_after s.workers)) (board_begun h n));
  readers = nothing_to_readers h s (Begin n) (λ q. (refl, (λ g. refl), refl)) st;
}

claims_one : (h : List Event) (s : SeenState) (w : ℕ) → Goes h s (Claim w)
claims_one h s w named may st =
    let even = steady s.goal s.workers (length s.readers) h st.lawful in record {
      lawful = lawful_more s.goal s.workers (length s.readers) [] h (Claim w) st.lawful named may;
      newest = st.newest ∙ sym (same_newest h (Claim w) refl);
      board = ap (option_map (λ b. claimed b w)) st.board ∙ (mapped s.workers (λ b. claimed b w) (Claim w) (board_of h) (λ b at. claimed_is s.workers w b named (even b at w) (subst (λ o. may_claim w o ≡ true) at may)) ∙ sym (ap (option_map (board_after s.workers)) (board_more h (Claim w) refl)));
      readers = nothing_to_readers h s (Claim w) (λ q. (refl, (λ g. refl), refl)) st;
    }

finishes_one : (h : List Event) (s : SeenState) (w : ℕ) → Goes h s (Finish w)
finishes_one h s w named may st =
    let even = steady s.goal s.workers (length s.readers) h st.lawful in
    let F : SeenBoard → SeenBoard = λ b. finished b w (unwrap_or (worker_at b w).held 0) in record {
      lawful = lawful_more s.goal s.workers (length s.readers) [] h (Finish w) st.lawful named may;
      newest = st.newest ∙ sym (same_newest h (Finish w) refl);
      board = ap (option_map F) st.board ∙ (mapped s.workers F (Finish w) (board_of h) (λ b at. finished_is s.workers w b named (even b at w) (subst (λ o. may_finish w o ≡ true) at may)) ∙ sym (ap (option_map (board_after s.workers)) (board_more h (Finish w) refl)));
      readers = nothing_to_readers h s (Finish w) (λ q. (refl, (λ g. refl), refl)) st;
    }

publishes : (h : List Event) (s : SeenState) → Goes h s Publish
publishes h s named may st = record {
  lawful = lawful_more s.goal s.workers (length s.readers) [] h Publish st.lawful named may;
  newest = ap (λ k. k + 1) st.newest ∙ sym (newest_more h Publish);
  board = sym (ap (option_map (board_after s.workers)) (board_gone h));
  readers = nothing_to_readers h s Publish (λ q. (refl, (λ g. refl), refl)) st;
}

kept_board : (workers : ℕ) (e : Event) (o : Option (ℕ × List Event)) → IsOfReaders e → option_map (board_after workers) o ≡ option_map (board_after workers) (option_map (with_event e) o)
kept_board workers e None off = refl
kept_board workers e (Some b) off = ap Some (board_stays workers b e off)

-- an event of a reader
reads : (h : List Event) (s : SeenState) (e : Event) (r : ℕ) (now : Reader) → IsOfReaders e → IsNamed s.workers (length s.readers) e → is_enabled s.goal s.workers h e ≡ true → r < length s.readers → ((q : ℕ) → q ≢ r → IsNothingTo q e) → reader_after (h ++ e ∷ []) r ≡ now → Stands h s → Stands (h ++ e ∷ []) (with_reader s r now)
reads h s e r now of named may less off is st =
    let long : length (set s.readers r now) ≡ length s.readers = length-set s.readers r now in record {
      lawful = subst (λ (n : ℕ). IsLawful s.goal s.workers n (h ++ e ∷ [])) (sym long) (lawful_more s.goal s.workers (length s.readers) [] h e st.lawful named may);
      newest = st.newest ∙ sym (same_newest h e of.1);
      board = st.board ∙ (kept_board s.workers e (board_of h) of ∙ sym (ap (option_map (board_after s.workers)) (board_more h e of.0)));
      readers = subst (λ (n : ℕ). AreSeen (h ++ e ∷ []) n (set s.readers r now)) (sym long) (one_changes h e (length s.readers) r s.readers now less off is st.readers);
    }

tells : (h : List Event) (s : SeenState) (r : ℕ) → Goes h s (Tell r)
tells h s r named may st =
    let is : reader_after (h ++ Tell r ∷ []) r ≡ record (reader_at s r) { told = s.newest } =
    reader_more h (Tell r) r ∙ rw (same_number r, max_none (seen_by r h), reader_is h s r st named, st.newest) refl in
    reads h s (Tell r) r _ (refl, refl, refl, (λ x w. refl), (λ w. refl)) named may named (λ q off. (other_number q r off, (λ g. refl), refl)) is st

learns : (h : List Event) (s : SeenState) (r : ℕ) → Goes h s (Learn r)
learns h s r named may st =
    let is : reader_after (h ++ Learn r ∷ []) r ≡ record (reader_at s r) { seen = max (reader_at s r).seen (reader_at s r).told } =
    reader_more h (Learn r) r ∙ rw (same_number r, reader_is h s r st named) refl in
    reads h s (Learn r) r _ (refl, refl, refl, (λ x w. refl), (λ w. refl)) named may named (λ q off. (refl, (λ g. ap (λ b. cond b (told_to q g) 0) (other_number q r off)), refl)) is st

pins : (h : List Event) (s : SeenState) (r : ℕ) → Goes h s (Pin r)
pins h s r named may st =
    let top : max (seen_by r h) (newest_of h) ≡ newest_of h = let l = seen_le r h in omega arith in
    let is : reader_after (h ++ Pin r ∷ []) r ≡ record (reader_at s r) { seen = s.newest; pinned = Some s.newest } =
    reader_more h (Pin r) r ∙ rw (same_number r, top, reader_is h s r st named, st.newest) refl in
    reads h s (Pin r) r _ (refl, refl, refl, (λ x w. refl), (λ w. refl)) named may named (λ q off. (refl, (λ g. ap (λ b. cond b (newest_of g) 0) (other_number q r off)), other_number q r off)) is st

asks : (h : List Event) (s : SeenState) (r least : ℕ) → Goes h s (Ask r least)
asks h s r least named may st = record {
  lawful = lawful_more s.goal s.workers (length s.readers) [] h (Ask r least) st.lawful named may;
  newest = st.newest ∙ sym (same_newest h (Ask r least) refl);
  board = st.board ∙ (kept_board s.workers (Ask r least) (board_of h) (refl, refl, refl, (λ x w. refl), (λ w. refl)) ∙ sym (ap (option_map (board_after s.workers)) (board_more h (Ask r least) refl)));
  readers = nothing_to_readers h s (Ask r least) (λ q. (refl, (λ g. refl), refl)) st;
}

goes : (h : List Event) (s : SeenState) (e : Event) → Goes h s e
goes h s (Begin n) = begins h s n
goes h s (Claim w) = claims_one h s w
goes h s (Finish w) = finishes_one h s w
goes h s Publish = publishes h s
goes h s (Tell r) = tells h s r
goes h s (Learn r) = learns h s r
goes h s (Pin r) = pins h s r
goes h s (Ask r least) = asks h s r least

pub steps : (s : SeenState) (e : Event) (r : Reply) (t : SeenState) → IsNamed s.workers (length s.readers) e → Moves s e r t → IsStep s e r t
steps s e r t named m =
    let may : (h : List Event) → Stands h s → is_enabled s.goal s.workers h e ≡ true = λ h st. sym (enabled_is h s e named st) ∙ m.enabled in record {
      enabled = may;
      reply = λ h st. m.replied ∙ reply_is h s e named st;
      stands = λ h st. subst (λ (u : SeenState). Stands (h ++ e ∷ []) u) (sym m.changed) (goes h s e named (may h st) st);
    }

pub barred : (s : SeenState) (e : Event) → IsNamed s.workers (length s.readers) e → enabled_at s e ≡ false → IsBarred s e
barred s e named off h st = sym (enabled_is h s e named st) ∙ off

pub stands_new : (goal workers readers : ℕ) → Stands [] (new_state goal workers readers)
stands_new goal workers readers = record {
  lawful = tt;
  newest = refl;
  board = refl;
  readers = let long = length-replicate readers no_reader in subst (λ (n : ℕ). replicate readers no_reader ≡ map (reader_after []) (range_with_len 0 n)) (sym long) (sym (map_idle (reader_after []) no_reader (λ v. refl) 0 readers));
}

refusal : (s : SeenState) (e : Event) (f : MachineFault) → IsNamed s.workers (length s.readers) e → IsRefusal s e f → IsRefused s e f
refusal s e (NotEnabled place) named r = (r.0, barred s e named r.1)
refusal s e Memory named r = tt

pub outcome : (s : SeenState) (e : Event) (result : Result Reply MachineFault) (t : SeenState) → IsNamed s.workers (length s.readers) e → MatchResult result (λ r. Moves s e r t) (λ f. Stays s e f t) → MatchResult result (λ r. IsStep s e r t) (λ f. (t ≡ s) × IsRefused s e f)
outcome s e (Ok r) t named m = steps s e r t named m
outcome s e (Err f) t named m = (m.same, refusal s e f named m.refused)
