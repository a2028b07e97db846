-- What the workers of all places kept, the answers that come of it, and those that are told.
use Rattle.std.proofs.Common.{◌≡◌, ℕ, zero, suc, ◌<◌, sym, ap, subst, List, [], ◌∷◌, length, get_or, map, set, arith, Ok, slice_get}
use Rattle.std.specs.Prelude.{All, Result, IfOk}
use Rattle.std.specs.List.{AllZip}
use Rattle.std.proofs.lemmas.List.Elements.{All-nil, All-cons, All-head, All-tail}
use Rattle.scattering.specs.Wall.{Wall}
use Rattle.joint_board.specs.Seen.{ShownBoard, SeenSeat, SeenKept, new_seats, AreInOrder}
use Rattle.joint_board.proofs.Found.{AreAllKept, all-kept, gathered, one-item, zip-images}
use Rattle.theta_algebra.specs.declared.query.Answer.{Answer}
use Rattle.theta_algebra.specs.Answering.{Ask, IsAnswer}
use Rattle.ask_workers.specs.Answered.{AreAnswers, IsAnswered, AreAnsweredBy}

-- ---- places

pub All-images : {X Y : Type 0} (P : X → Type 0) (f : Y → X) (ys : List Y) → All P (map f ys) → All (λ y. P (f y)) ys
All-images P f [] h = All-nil (λ y. P (f y))
All-images P f (y ∷ ys) h = All-cons (λ y. P (f y)) y ys (All-head P (f y) (map f ys) h) (All-images P f ys (All-tail P (f y) (map f ys) h))

module _ (ws : List Wall) (k : ℕ) (asks : List Ask) where
  abbrev By : {E : Type 0} → SeenSeat → Result (SeenKept Answer) E → Type 0
  By s r = IfOk r (AreAnsweredBy ws k asks s)

  -- none of the workers failed
  pub kept-by-all : {P E : Type 0} (seat : P → SeenSeat) (b : ShownBoard) (ps : List P) (rs : List (Result (SeenKept Answer) E)) (ks : List (SeenKept Answer))
      → map seat ps ≡ new_seats b → map Ok ks ≡ rs → AllZip (λ p r. By (seat p) r) ps rs → AreAllKept (IsAnswered ws k asks) b ks
  kept-by-all seat b ps rs ks p q h = all-kept (IsAnswered ws k asks) By (λ s t f. (f.board, f.number, f.results)) b (map seat ps) rs ks p q (zip-images By seat ps rs h)

  pub in-order : (kept : List (ℕ × Answer)) (answers : List Answer) → All (IsAnswered ws k asks) kept → AreInOrder (length asks) kept answers → AreAnswers ws k asks answers
  in-order = gathered (IsAnswered ws k asks) (λ a x. IsAnswer ws k a.1 x) asks (λ i a x at f. subst (λ (b : Ask). IsAnswer ws k b.1 x) (one-item (slice_get asks i) f.ask a f.task at) f.answer)

-- ---- one after another, told

module _ {A B : Type 0} (R : A → B → Type 0) where
  pub zip-at : (xs : List A) (ys : List B) (i : ℕ) (x : A) (y : B) → i < length xs → x ≡ get_or xs i x → y ≡ get_or ys i y → AllZip R xs ys → R x y
  zip-at [] ys i x y l a b h = absurd (omega (arith, l))
  zip-at (u ∷ xs) [] i x y l a b h = absurd h
  zip-at (u ∷ xs) (v ∷ ys) zero x y l a b h = subst (λ z. R z y) (sym a) (subst (R u) (sym b) h.0)
  zip-at (u ∷ xs) (v ∷ ys) (suc i) x y l a b h = zip-at xs ys i x y (omega (arith, l)) a b h.1

  pub zip-set : (xs : List A) (ys : List B) (i : ℕ) (x : A) (y : B) → i < length xs → x ≡ get_or xs i x → R x y → AllZip R xs ys → AllZip R xs (set ys i y)
  zip-set [] ys i x y l a r h = absurd (omega (arith, l))
  zip-set (u ∷ xs) [] i x y l a r h = absurd h
  zip-set (u ∷ xs) (v ∷ ys) zero x y l a r h = (subst (λ z. R z y) a r, h.1)
  zip-set (u ∷ xs) (v ∷ ys) (suc i) x y l a r h = (h.0, zip-set xs ys i x y (omega (arith, l)) a r h.1)
