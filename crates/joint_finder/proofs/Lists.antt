-- Elements of lists by their places, and lists in another order.
use Rattle.std.proofs.Common.{◌≡◌, ℕ, zero, suc, ◌+◌, ◌<◌, refl, sym, ap, subst, ◌∙◌, List, [], ◌∷◌, ◌++◌, length, get_or, take, drop, arith, ◌⊎◌, inl, inr}
use Rattle.std.specs.List.{Contains}
use Rattle.std.specs.List.Sorted.{IsPermutation}
use Rattle.std.proofs.lemmas.List.{take_more}
use Rattle.std.proofs.lemmas.List.Sorted.{Contains-permutation}
use Rattle.scattering.specs.Collections.{In}
use Rattle.scattering.proofs.Lists.{In-append, In-left, In-right}

pub in-at : {A : Type 0} (xs : List A) (x : A) → Contains xs x → In x xs
in-at [] x c = absurd (omega (arith, c.1))
in-at (y ∷ xs) x c = go c.0 c.1 c.2 (λ k l e. in-at xs x (k, l, e))
  where
    go : (k : ℕ) → k < suc (length xs) → get_or (y ∷ xs) k x ≡ x → ((k : ℕ) → k < length xs → get_or xs k x ≡ x → In x xs) → In x (y ∷ xs)
    go zero l e f = inl (sym e)
    go (suc k) l e f = inr (f k (omega (arith, l)) e)

pub place-of : {A : Type 0} (xs : List A) (x : A) → In x xs → Contains xs x
place-of [] x i = absurd i
place-of (y ∷ xs) x (inl e) = (0, omega arith, sym e)
place-of (y ∷ xs) x (inr i) = let c = place-of xs x i in (suc c.0, omega (arith, c.1), c.2)

pub In-permutation : {A : Type 0} (xs ys : List A) (x : A) → IsPermutation xs ys → In x xs → In x ys
In-permutation xs ys x p i = in-at ys x (Contains-permutation xs ys x p (place-of xs x i))

-- an element of a list stands before the place i or from it on
pub In-parts : {A : Type 0} (xs : List A) (i : ℕ) (x : A) → In x xs → In x (take i xs) ⊎ In x (drop i xs)
In-parts [] i x h = absurd h
In-parts (y ∷ xs) zero x h = inr h
In-parts (y ∷ xs) (suc i) x (inl e) = inl (inl e)
In-parts (y ∷ xs) (suc i) x (inr h) = go (In-parts xs i x h)
  where
    go : In x (take i xs) ⊎ In x (drop i xs) → In x (y ∷ take i xs) ⊎ In x (drop i xs)
    go (inl j) = inl (inr j)
    go (inr j) = inr j

pub In-take : {A : Type 0} (xs : List A) (i : ℕ) (x : A) → In x (take i xs) → In x xs
In-take [] zero x h = h
In-take [] (suc i) x h = h
In-take (y ∷ xs) zero x h = absurd h
In-take (y ∷ xs) (suc i) x (inl e) = inl e
In-take (y ∷ xs) (suc i) x (inr h) = inr (In-take xs i x h)

pub In-drop : {A : Type 0} (xs : List A) (i : ℕ) (x : A) → In x (drop i xs) → In x xs
In-drop [] zero x h = h
In-drop [] (suc i) x h = h
In-drop (y ∷ xs) zero x h = h
In-drop (y ∷ xs) (suc i) x h = inr (In-drop xs i x h)

pub In-get : {A : Type 0} (xs : List A) (i : ℕ) (x : A) → i < length xs → x ≡ get_or xs i x → In x xs
In-get xs i x l e = in-at xs x (i, l, sym e)

-- the first i + 1 elements
one-more : {A : Type 0} (xs : List A) (i : ℕ) (x : A) → i < length xs → x ≡ get_or xs i x → take (i + 1) xs ≡ take i xs ++ x ∷ []
one-more xs i x l e = take_more xs i x l ∙ ap (λ y. take i xs ++ y ∷ []) (sym e)

pub In-more : {A : Type 0} (xs : List A) (i : ℕ) (x y : A) → i < length xs → x ≡ get_or xs i x → In y (take (i + 1) xs) → In y (take i xs) ⊎ (y ≡ x)
In-more xs i x y l e h = go (In-append (take i xs) (x ∷ []) y (subst (In y) (one-more xs i x l e) h))
  where
    go : In y (take i xs) ⊎ In y (x ∷ []) → In y (take i xs) ⊎ (y ≡ x)
    go (inl j) = inl j
    go (inr (inl q)) = inr q
    go (inr (inr f)) = absurd f

pub In-more_same : {A : Type 0} (xs : List A) (i : ℕ) (x : A) → i < length xs → x ≡ get_or xs i x → In x (take (i + 1) xs)
In-more_same xs i x l e = subst (In x) (sym (one-more xs i x l e)) (In-right (take i xs) (x ∷ []) x (inl refl))

pub In-more_old : {A : Type 0} (xs : List A) (i : ℕ) (x y : A) → i < length xs → x ≡ get_or xs i x → In y (take i xs) → In y (take (i + 1) xs)
In-more_old xs i x y l e h = subst (In y) (sym (one-more xs i x l e)) (In-left (take i xs) (x ∷ []) y h)
