-- Places of lists.
use Rattle.std.proofs.Common.{◌≡◌, ℕ, zero, suc, ◌<◌, inl, inr, refl, ap, subst, ◌∙◌, List, [], ◌∷◌, ◌++◌, length, get_or, replicate, arith, Some, slice_get}
use Rattle.std.specs.Prelude.{◌⊎◌}
use Rattle.std.specs.List.{AllZip, All}
use Rattle.std.proofs.lemmas.Option.{none-some, same_Some, slice_get_within, slice_get_read, slice_get-get_or, get_or_from_slice_get}
use Rattle.std.proofs.lemmas.List.{length-replicate, get_or-replicate}
use Rattle.std.proofs.lemmas.List.Elements.{All-contains}
use Rattle.joint_board.proofs.Found.{zip-from}

-- ---- one list

pub pushed : {A : Type 0} (xs : List A) (y : A) (i : ℕ) (z : A) → slice_get (xs ++ y ∷ []) i ≡ Some z
    → (slice_get xs i ≡ Some z) ⊎ ((i ≡ length xs) × (y ≡ z))
pushed [] y zero z h = inr (refl, same_Some y z h)
pushed [] y (suc i) z h = absurd (none-some z h)
pushed (x ∷ xs) y zero z h = inl h
pushed (x ∷ xs) y (suc i) z h = elim (pushed xs y i z h) [ inl p ↦ inl p | inr p ↦ inr (let q = p.0 in omega (arith, q), p.1) ]

pub item : {A : Type 0} (xs : List A) (i : ℕ) → i < length xs → (x : A) × (slice_get xs i ≡ Some x)
item [] i l = absurd (omega (arith, l))
item (x ∷ xs) zero l = (x, refl)
item (x ∷ xs) (suc i) l = item xs i (omega (arith, l))

-- what stands before what is put at the end
pub slice_get_left : {A : Type 0} (xs ys : List A) (i : ℕ) → i < length xs → slice_get (xs ++ ys) i ≡ slice_get xs i
slice_get_left [] ys i l = absurd (omega (arith, l))
slice_get_left (x ∷ xs) ys zero l = refl
slice_get_left (x ∷ xs) ys (suc i) l = slice_get_left xs ys i (omega (arith, l))

-- the same item at the same place
pub one-place : {A : Type 0} (xs : List A) (i : ℕ) (x y : A) → slice_get xs i ≡ Some x → slice_get xs i ≡ Some y → x ≡ y
one-place xs i x y p q = cc

pub all-at : {A : Type 0} (P : A → Type 0) (xs : List A) (i : ℕ) (x : A) → All P xs → slice_get xs i ≡ Some x → P x
all-at P xs i x h at = All-contains P xs x h (i, slice_get_within xs i x at, get_or_from_slice_get xs i x x at)

pub all-from : {A : Type 0} (P : A → Type 0) (xs : List A) → ((i : ℕ) (x : A) → slice_get xs i ≡ Some x → P x) → All P xs
all-from P xs h k d l = h k (get_or xs k d) (slice_get-get_or xs k d l)

pub replicated : {A : Type 0} (n : ℕ) (x : A) (i : ℕ) → i < n → slice_get (replicate n x) i ≡ Some x
replicated n x i l = slice_get-get_or (replicate n x) i x (omega (arith, l, length-replicate n x)) ∙ ap Some (get_or-replicate n i x x l)

-- ---- two lists, element by element

module _ {A B : Type 0} (R : A → B → Type 0) where
  pub zip-right : (xs : List A) (ys : List B) → AllZip R xs ys → (i : ℕ) (y : B) → slice_get ys i ≡ Some y → (x : A) × (slice_get xs i ≡ Some x) × R x y
  zip-right [] [] h i y at = absurd (none-some y at)
  zip-right [] (z ∷ ys) h i y at = absurd h
  zip-right (x ∷ xs) [] h i y at = absurd h
  zip-right (x ∷ xs) (z ∷ ys) h zero y at = (x, refl, subst (R x) (same_Some z y at) h.0)
  zip-right (x ∷ xs) (z ∷ ys) h (suc i) y at = zip-right xs ys h.1 i y at

  pub zip-built : (xs : List A) (ys : List B) → length ys ≡ length xs
      → ((i : ℕ) (x : A) (y : B) → slice_get xs i ≡ Some x → slice_get ys i ≡ Some y → R x y) → AllZip R xs ys
  zip-built xs ys q h = zip-from R xs ys q
      (λ i x y l a b. h i x y (slice_get_read xs (length xs) i x refl l a) (slice_get_read ys (length ys) i y refl (omega (arith, q, l)) b))

  -- what holds of the one element gives what holds of the other
  pub zip-kept : (P : A → Type 0) (Q : B → Type 0) → ((x : A) (y : B) → P x → R x y → Q y) → (xs : List A) (ys : List B) → AllZip R xs ys → All P xs → All Q ys
  zip-kept P Q f xs ys h k = all-from Q ys (λ i y at.
      let (x, here, r) = zip-right xs ys h i y at in
      f x y (all-at P xs i x k here) r)

pub zip-then : {A B C : Type 0} (R : A → B → Type 0) (Q : B → C → Type 0) (S : A → C → Type 0) → ((x : A) (y : B) (z : C) → R x y → Q y z → S x z)
    → (xs : List A) (ys : List B) (zs : List C) → AllZip R xs ys → AllZip Q ys zs → AllZip S xs zs
zip-then R Q S f [] [] [] h k = tt
zip-then R Q S f [] [] (z ∷ zs) h k = absurd k
zip-then R Q S f [] (y ∷ ys) zs h k = absurd h
zip-then R Q S f (x ∷ xs) [] zs h k = absurd h
zip-then R Q S f (x ∷ xs) (y ∷ ys) [] h k = absurd k
zip-then R Q S f (x ∷ xs) (y ∷ ys) (z ∷ zs) h k = (f x y z h.0 k.0, zip-then R Q S f xs ys zs h.1 k.1)
