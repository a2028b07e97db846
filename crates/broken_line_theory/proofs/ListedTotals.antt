-- A sum over all that have a fact, each once, doesn't depend on the list.
use Rattle.std.proofs.Common.{◌≡◌, ◌≢◌, refl, sym, ap, ◌∙◌, inl, inr, List, [], ◌∷◌, map, arith}
use Rattle.std.specs.Prelude.{ℤ, pos, ◌+ℤ◌}
use Rattle.std.proofs.lemmas.Int.{ints}
use Rattle.scattering.specs.Collections.{In, Every, Distinct, Lists}
use Rattle.scattering.specs.Series.{Key, Term, coef, coef_at}
use Rattle.scattering.proofs.Lists.{Every-at}

module _ {A : Type 0} where
  -- the list without the place i
  abbrev pub taken : (x : A) (xs : List A) → In x xs → List A
  taken x [] i = []
  taken x (y ∷ xs) (inl e) = xs
  taken x (y ∷ xs) (inr i) = y ∷ taken x xs i

  pub taken-In : (x : A) (xs : List A) (i : In x xs) (z : A) → In z (taken x xs i) → In z xs
  taken-In x [] i z j = j
  taken-In x (y ∷ xs) (inl e) z j = inr j
  taken-In x (y ∷ xs) (inr i) z (inl e) = inl e
  taken-In x (y ∷ xs) (inr i) z (inr j) = inr (taken-In x xs i z j)

  pub In-taken : (x : A) (xs : List A) (i : In x xs) (z : A) → In z xs → z ≢ x → In z (taken x xs i)
  In-taken x [] i z j n = absurd i
  In-taken x (y ∷ xs) (inl e) z (inl f) n = absurd (n (f ∙ sym e))
  In-taken x (y ∷ xs) (inl e) z (inr j) n = j
  In-taken x (y ∷ xs) (inr i) z (inl f) n = inl f
  In-taken x (y ∷ xs) (inr i) z (inr j) n = inr (In-taken x xs i z j n)

  taken-Every : (P : A → Type 0) (x : A) (xs : List A) (i : In x xs) → Every P xs → Every P (taken x xs i)
  taken-Every P x [] i h = tt
  taken-Every P x (y ∷ xs) (inl e) h = h.1
  taken-Every P x (y ∷ xs) (inr i) h = (h.0, taken-Every P x xs i h.1)

  pub taken-Distinct : (x : A) (xs : List A) (i : In x xs) → Distinct xs → Distinct (taken x xs i)
  taken-Distinct x [] i d = tt
  taken-Distinct x (y ∷ xs) (inl e) d = d.1
  taken-Distinct x (y ∷ xs) (inr i) d = (taken-Every (λ z. y ≢ z) x xs i d.0, taken-Distinct x xs i d.1)

  -- what is left isn't x
  pub taken-other : (x : A) (xs : List A) (i : In x xs) → Distinct xs → (z : A) → In z (taken x xs i) → z ≢ x
  taken-other x [] i d z j e = j
  taken-other x (y ∷ xs) (inl f) d z j e = Every-at (λ z. y ≢ z) xs z d.0 j (sym f ∙ sym e)
  taken-other x (y ∷ xs) (inr i) d z (inl g) e = Every-at (λ z. y ≢ z) xs x d.0 i (sym g ∙ e)
  taken-other x (y ∷ xs) (inr i) d z (inr j) e = taken-other x xs i d.1 z j e

module _ {A : Type 0} (v : A → Term) (y : Key) where
  swap : (a b c : ℤ) → a +ℤ (b +ℤ c) ≡ b +ℤ (a +ℤ c)
  swap a b c = omega (arith, ints)

  pub total-taken : (x : A) (xs : List A) (i : In x xs) → coef (map v xs) y ≡ coef_at y (v x) +ℤ coef (map v (taken x xs i)) y
  total-taken x [] i = absurd i
  total-taken x (z ∷ xs) (inl e) = ap (λ w. coef_at y (v w) +ℤ coef (map v xs) y) (sym e)
  total-taken x (z ∷ xs) (inr i) = ap (λ c. coef_at y (v z) +ℤ c) (total-taken x xs i) ∙ swap (coef_at y (v z)) (coef_at y (v x)) (coef (map v (taken x xs i)) y)

  pub total-none : (xs : List A) → ((x : A) → In x xs → coef_at y (v x) ≡ pos 0) → coef (map v xs) y ≡ pos 0
  total-none [] h = refl
  total-none (x ∷ xs) h = rw (h x (inl refl), total-none xs (λ z i. h z (inr i)))

  pub total-same : (xs zs : List A) → Distinct xs → Distinct zs → ((x : A) → In x xs → In x zs) → ((x : A) → In x zs → In x xs) → coef (map v xs) y ≡ coef (map v zs) y
  total-same [] [] d e h k = refl
  total-same [] (z ∷ zs) d e h k = absurd (k z (inl refl))
  total-same (x ∷ xs) zs d e h k =
      let i = h x (inl refl) in
      ap (λ c. coef_at y (v x) +ℤ c)
      (total-same xs (taken x zs i) d.1 (taken-Distinct x zs i e)
      (λ z j. In-taken x zs i z (h z (inr j)) (λ f. Every-at (λ z. x ≢ z) xs z d.0 j (sym f)))
      (λ z j. tail z (taken-other x zs i e z j) (k z (taken-In x zs i z j))))
      ∙ sym (total-taken x zs i)
    where
      tail : (z : A) → z ≢ x → In z (x ∷ xs) → In z xs
      tail z n (inl f) = absurd (n f)
      tail z n (inr j) = j

  pub total-listed : (P : A → Type 0) (xs zs : List A) → Lists P xs → Lists P zs → coef (map v xs) y ≡ coef (map v zs) y
  total-listed P xs zs h k = total-same xs zs h.once k.once (λ x i. k.all x (Every-at P xs x h.each i)) (λ x i. h.all x (Every-at P zs x k.each i))
