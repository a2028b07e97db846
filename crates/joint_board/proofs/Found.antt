-- What the workers of all seats found, seat by seat, and put together, over any fact of a seat and what its worker found.
use Rattle.std.proofs.Common.{◌≡◌, ℕ, zero, suc, ◌<◌, refl, sym, subst, List, [], ◌∷◌, length, get_or, map, All, Contains, flat_map, arith, Option, Some, Ok, Err, slice_get}
use Rattle.std.specs.Prelude.{Result, IfOk}
use Rattle.std.specs.List.{AllZip, range_with_len}
use Rattle.std.proofs.lemmas.List.Elements.{All-nil, All-append, All-contains, All-cons, All-map}
use Rattle.joint_board.specs.Seen.{ShownBoard, SeenSeat, SeenKept, new_seat, new_seats, seat_numbers, results_of, IsResultAt, AreInOrder}

-- ---- two lists, element by element

module _ {A B : Type 0} (R : A → B → Type 0) where
  pub zip-from : (xs : List A) (ys : List B) → length ys ≡ length xs
      → ((i : ℕ) (x : A) (y : B) → i < length xs → x ≡ get_or xs i x → y ≡ get_or ys i y → R x y) → AllZip R xs ys
  zip-from [] [] q h = tt
  zip-from [] (y ∷ ys) q h = absurd (omega (arith, q))
  zip-from (x ∷ xs) [] q h = absurd (omega (arith, q))
  zip-from (x ∷ xs) (y ∷ ys) q h =
      (h 0 x y (omega arith) refl refl, zip-from xs ys (omega (arith, q)) (λ i t u l a b. h (suc i) t u (omega (arith, l)) a b))

  zip-places : (xs : List A) (ys : List B) → length ys ≡ length xs
      → ((i : ℕ) (x : A) (y : B) → i < length xs → slice_get xs i ≡ Some x → slice_get ys i ≡ Some y → R x y) → AllZip R xs ys
  zip-places [] [] q h = tt
  zip-places [] (y ∷ ys) q h = absurd (omega (arith, q))
  zip-places (x ∷ xs) [] q h = absurd (omega (arith, q))
  zip-places (x ∷ xs) (y ∷ ys) q h =
      (h 0 x y (omega arith) refl refl, zip-places xs ys (omega (arith, q)) (λ i t u l a b. h (suc i) t u (omega (arith, l)) a b))

  beside_at : (xs : List A) (ys : List B) (i : ℕ) (y : B) → AllZip R xs ys → i < length ys → get_or ys i y ≡ y → (x : A) × R x y
  beside_at [] [] i y h l q = absurd (omega (arith, l))
  beside_at [] (z ∷ ys) i y h l q = absurd h
  beside_at (x ∷ xs) [] i y h l q = absurd (omega (arith, l))
  beside_at (x ∷ xs) (z ∷ ys) zero y h l q = (x, subst (R x) q h.0)
  beside_at (x ∷ xs) (z ∷ ys) (suc i) y h l q = beside_at xs ys i y h.1 (omega (arith, l)) q

  -- an element of the second list stands beside one of the first
  pub zip-beside : (xs : List A) (ys : List B) (y : B) → Contains ys y → AllZip R xs ys → (x : A) × R x y
  zip-beside xs ys y (i, l, q) h = beside_at xs ys i y h l q

  pub zip-all : (P : B → Type 0) → ((x : A) (y : B) → R x y → P y) → (xs : List A) (ys : List B) → AllZip R xs ys → All P ys
  zip-all P f [] [] h = All-nil P
  zip-all P f [] (y ∷ ys) h = absurd h
  zip-all P f (x ∷ xs) [] h = absurd h
  zip-all P f (x ∷ xs) (y ∷ ys) h = All-cons P y ys (f x y h.0) (zip-all P f xs ys h.1)

  pub zip-firsts : (f : B → A) → ((x : A) (y : B) → R x y → f y ≡ x) → (xs : List A) (ys : List B) → AllZip R xs ys → map f ys ≡ xs
  zip-firsts f e [] [] h = refl
  zip-firsts f e [] (y ∷ ys) h = absurd h
  zip-firsts f e (x ∷ xs) [] h = absurd h
  zip-firsts f e (x ∷ xs) (y ∷ ys) h = let p = e x y h.0 in let q = zip-firsts f e xs ys h.1 in λ i. p i ∷ q i

  pub zip-flat : {C : Type 0} (P : C → Type 0) (f : B → List C) → ((x : A) (y : B) → R x y → All P (f y))
      → (xs : List A) (ys : List B) → AllZip R xs ys → All P (flat_map f ys)
  zip-flat P f e [] [] h = All-nil P
  zip-flat P f e [] (y ∷ ys) h = absurd h
  zip-flat P f e (x ∷ xs) [] h = absurd h
  zip-flat P f e (x ∷ xs) (y ∷ ys) h = All-append P (f y) (flat_map f ys) (e x y h.0) (zip-flat P f e xs ys h.1)

  pub zip-mapped : {C D : Type 0} (f : C → A) (g : D → B) (cs : List C) (ds : List D)
      → AllZip R (map f cs) (map g ds) → AllZip (λ c d. R (f c) (g d)) cs ds
  zip-mapped f g [] [] h = tt
  zip-mapped f g [] (d ∷ ds) h = absurd h
  zip-mapped f g (c ∷ cs) [] h = absurd h
  zip-mapped f g (c ∷ cs) (d ∷ ds) h = (h.0, zip-mapped f g cs ds h.1)

  pub zip-images : {C : Type 0} (f : C → A) (cs : List C) (ys : List B) → AllZip (λ c y. R (f c) y) cs ys → AllZip R (map f cs) ys
  zip-images f [] [] h = tt
  zip-images f [] (y ∷ ys) h = absurd h
  zip-images f (c ∷ cs) [] h = absurd h
  zip-images f (c ∷ cs) (y ∷ ys) h = (h.0, zip-images f cs ys h.1)

-- ---- seats, and what their workers kept

pub both-ok : {A E : Type 0} (P Q R : A → Type 0) (r : Result A E) → ((x : A) → P x → Q x → R x) → IfOk r P → IfOk r Q → IfOk r R
both-ok P Q R (Ok x) f h k = f x h k
both-ok P Q R (Err e) f h k = tt

pub seats-new : (b : ShownBoard) (ss : List SeenSeat) → ss ≡ new_seats b → All (λ s. s ≡ new_seat b s.number) ss
seats-new b ss q =
    subst (All (λ s. s ≡ new_seat b s.number)) (sym q)
    (All-map (λ s. s ≡ new_seat b s.number) (new_seat b) (range_with_len 0 b.workers) (λ k d l. refl))

-- they are of all seats of the board, in the order of their numbers, and each result is as it is to be
pub record AreAllKept {T : Type 0} (Is : ℕ × T → Type 0) (b : ShownBoard) (ks : List (SeenKept T)) : Type 0 where
  pub board : All (λ k. k.seat.board ≡ b) ks
  pub seats : seat_numbers ks ≡ range_with_len 0 b.workers
  pub results : All Is (results_of ks)

-- none of the workers failed
pub all-kept : {T E : Type 0} (Is : ℕ × T → Type 0) (Found : SeenSeat → Result (SeenKept T) E → Type 0)
    → ((s : SeenSeat) (k : SeenKept T) → Found s (Ok k) → (k.seat.board ≡ s.board) × (k.seat.number ≡ s.number) × All Is k.results)
    → (b : ShownBoard) (ss : List SeenSeat) (rs : List (Result (SeenKept T) E)) (ks : List (SeenKept T)) → ss ≡ new_seats b
    → map Ok ks ≡ rs → AllZip Found ss rs → AreAllKept Is b ks
all-kept {T} {E} Is Found tells b ss rs ks p q h = record {
  board = zip-all At (λ k. k.seat.board ≡ b) (λ n k f. (tells (new_seat b n) k f).0) numbers ks each;
  seats = zip-firsts At (λ k. k.seat.number) (λ n k f. (tells (new_seat b n) k f).1) numbers ks each;
  results = zip-flat At Is (λ k. k.results) (λ n k f. (tells (new_seat b n) k f).2) numbers ks each;
}
  where
    numbers : List ℕ
    numbers = range_with_len 0 b.workers

    At : ℕ → SeenKept T → Type 0
    At n k = Found (new_seat b n) (Ok k)

    each : AllZip At numbers ks
    each = zip-mapped Found (new_seat b) Ok numbers ks (subst (λ ts. AllZip Found ts (map Ok ks)) p (subst (AllZip Found ss) (sym q) h))

-- ---- put together

pub one-item : {A : Type 0} (o : Option A) (x y : A) → o ≡ Some x → o ≡ Some y → x ≡ y
one-item o x y p q = cc

pub gathered : {A T : Type 0} (Is : ℕ × T → Type 0) (R : A → T → Type 0) (xs : List A)
    → ((i : ℕ) (x : A) (t : T) → slice_get xs i ≡ Some x → Is (i, t) → R x t)
    → (kept : List (ℕ × T)) (ts : List T) → All Is kept → AreInOrder (length xs) kept ts → AllZip R xs ts
gathered {A} {T} Is R xs tells kept ts found h = zip-places R xs ts h.all (λ i x t l a b. at i x t a b (h.each i l))
  where
    at : (i : ℕ) (x : A) (t : T) → slice_get xs i ≡ Some x → slice_get ts i ≡ Some t → (u : T) × IsResultAt kept ts i u → R x t
    at i x t a b (u, (c, d)) =
        tells i x t a (subst (λ (v : T). Is (i, v)) (one-item (slice_get ts i) u t d b) (All-contains Is kept (i, u) found c))
