-- Lists side by side.
use Rattle.std.proofs.Common.{◌≡◌, ℕ, zero, suc, ◌+◌, ◌<◌, ◌≤◌, List, [], ◌∷◌, ◌++◌, length, take, get_or, map, refl, sym, ◌∙◌, ap, subst, arith}
use Rattle.std.specs.List.{AllZip}
use Rattle.std.proofs.lemmas.List.{take_more, take_all}

module _ {A B : Type 0} (R : A → B → Type 0) where
  pub zip-push : (xs : List A) (ys : List B) (x : A) (y : B) → AllZip R xs ys → R x y → AllZip R (xs ++ x ∷ []) (ys ++ y ∷ [])
  zip-push [] [] x y h r = (r, tt)
  zip-push [] (z ∷ ys) x y h r = absurd h
  zip-push (w ∷ xs) [] x y h r = absurd h
  zip-push (w ∷ xs) (z ∷ ys) x y h r = (h.0, zip-push xs ys x y h.1 r)

  -- one more
  pub zip-more : (xs : List A) (ys : List B) (i : ℕ) (x : A) (y : B) → i < length xs → x ≡ get_or xs i x → AllZip R (take i xs) ys → R x y → AllZip R (take (i + 1) xs) (ys ++ y ∷ [])
  zip-more xs ys i x y l is h r = subst (λ (zs : List A). AllZip R zs (ys ++ y ∷ [])) (ap (λ (z : A). take i xs ++ z ∷ []) is ∙ sym (take_more xs i x l)) (zip-push (take i xs) ys x y h r)

  -- all of them
  pub zip-all : (xs : List A) (ys : List B) (i : ℕ) → length xs ≤ i → AllZip R (take i xs) ys → AllZip R xs ys
  zip-all xs ys i l h = subst (λ (zs : List A). AllZip R zs ys) (take_all i xs l) h

  module _ (one : (x : A) (y z : B) → R x y → R x z → y ≡ z) where
    pub zip-one : (xs : List A) (ys zs : List B) → AllZip R xs ys → AllZip R xs zs → ys ≡ zs
    zip-one [] [] [] h k = refl
    zip-one [] [] (z ∷ zs) h k = absurd k
    zip-one [] (y ∷ ys) zs h k = absurd h
    zip-one (x ∷ xs) [] zs h k = absurd h
    zip-one (x ∷ xs) (y ∷ ys) [] h k = absurd k
    zip-one (x ∷ xs) (y ∷ ys) (z ∷ zs) h k =
        let e : y ≡ z = one x y z h.0 k.0 in
        let f : ys ≡ zs = zip-one xs ys zs h.1 k.1 in
        λ i. e i ∷ f i

    -- the first ones are known, and one follows them
    zip-at : (xs : List A) (i : ℕ) (x : A) (done ys : List B) → i < length xs → AllZip R (take i xs) done → AllZip R xs ys → (y : B) × (rest : List B) × (ys ≡ done ++ y ∷ rest) × R (get_or xs i x) y
    zip-at [] i x done ys l h k = absurd (omega (arith, l))
    zip-at (w ∷ xs) i x done [] l h k = absurd k
    zip-at (w ∷ xs) zero x [] (y ∷ ys) l h k = (y, ys, refl, k.0)
    zip-at (w ∷ xs) zero x (z ∷ done) (y ∷ ys) l h k = absurd h
    zip-at (w ∷ xs) (suc i) x [] (y ∷ ys) l h k = absurd h
    zip-at (w ∷ xs) (suc i) x (z ∷ done) (y ∷ ys) l h k =
        let e : z ≡ y = one w z y h.0 k.0 in
        let s = zip-at xs i x done ys (omega (arith, l)) h.1 k.1 in
        let f : ys ≡ done ++ s.0 ∷ s.1 = s.2 in
        (s.0, s.1, λ j. sym e j ∷ f j, s.3)

    pub zip-split : (xs : List A) (i : ℕ) (x : A) (done ys : List B) → i < length xs → x ≡ get_or xs i x → AllZip R (take i xs) done → AllZip R xs ys → (y : B) × (rest : List B) × (ys ≡ done ++ y ∷ rest) × R x y
    zip-split xs i x done ys l is h k =
        let s = zip-at xs i x done ys l h k in
        (s.0, s.1, s.2, subst (λ (z : A). R z s.0) (sym is) s.3)

pub zip-map : {A B C : Type 0} (R : B → C → Type 0) (f : A → B) (xs : List A) (ys : List C) → AllZip (λ x y. R (f x) y) xs ys → AllZip R (map f xs) ys
zip-map R f [] [] h = tt
zip-map R f [] (y ∷ ys) h = absurd h
zip-map R f (x ∷ xs) [] h = absurd h
zip-map R f (x ∷ xs) (y ∷ ys) h = (h.0, zip-map R f xs ys h.1)

pub zip-unmap : {A B C : Type 0} (R : B → C → Type 0) (f : A → B) (xs : List A) (ys : List C) → AllZip R (map f xs) ys → AllZip (λ x y. R (f x) y) xs ys
zip-unmap R f [] [] h = tt
zip-unmap R f [] (y ∷ ys) h = absurd h
zip-unmap R f (x ∷ xs) [] h = absurd h
zip-unmap R f (x ∷ xs) (y ∷ ys) h = (h.0, zip-unmap R f xs ys h.1)
