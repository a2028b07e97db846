-- A sum's terms put in the order of their keys: no key stands twice, so they rise, and no coefficient changes.
use Rattle.std.proofs.Common.{◌≡◌, ◌≢◌, ℕ, refl, sym, ap, ◌∙◌, Bool, true, false, [], ◌∷◌, arith}
use Rattle.std.specs.Prelude.{ℤ, ◌+ℤ◌, nat_le, IsTrue}
use Rattle.std.proofs.lemmas.Int.{ints}
use Rattle.std.proofs.lemmas.List.Elements.{filter-append}
use Rattle.scattering.specs.Collections.{Every, EveryPair, put, in_order}
use Rattle.scattering.specs.Series.{Key, Term, Sum, Same, coef, cut, degree, key_before}
use Rattle.scattering.proofs.Lists.{Every-implies, Every-put, Every-in_order}
use Rattle.scattering.proofs.Pairing.{coef-append}
use Rattle.scattering.proofs.KeyOrder.{key_before-same, key_before-trans}

abbrev before : Term → Term → Bool
before s t = key_before s.0 t.0

abbrev Rises : Sum → Type 0
Rises f = EveryPair (λ t u. IsTrue (key_before t.0 u.0)) f

put-rises : (t : Term) (f : Sum) → Every (λ u. t.0 ≢ u.0) f → Rises f → Rises (put before t f)
put-rises t [] n r = (tt, tt)
put-rises t (u ∷ f) n r = go (key_before u.0 t.0) refl (put-rises t f n.1 r.1)
  where
    first : (b : Bool) → key_before t.0 u.0 ≡ b → key_before u.0 t.0 ≡ false → key_before t.0 u.0 ≡ true
    first true e f = e
    first false e f = absurd (n.0 (key_before-same t.0 u.0 e f))

    go : (b : Bool) → key_before u.0 t.0 ≡ b → Rises (put before t f) → Rises (elim b [ true ↦ u ∷ put before t f | false ↦ t ∷ u ∷ f ])
    go true e h = (Every-put (λ v. IsTrue (key_before u.0 v.0)) before t f e r.0, h)
    go false e h =
        let l = first (key_before t.0 u.0) refl e in
        ((l, Every-implies (λ v. IsTrue (key_before u.0 v.0)) (λ v. IsTrue (key_before t.0 v.0)) f (λ v m. key_before-trans t.0 u.0 v.0 l m) r.0), r)

pub in_order-rises : (f : Sum) → EveryPair (λ t u. t.0 ≢ u.0) f → Rises (in_order before f)
in_order-rises [] n = tt
in_order-rises (t ∷ f) n = put-rises t (in_order before f) (Every-in_order (λ u. t.0 ≢ u.0) before f n.0) (in_order-rises f n.1)

cut-first : (n : ℕ) (t : Term) (f : Sum) (k : Key) → coef (cut n (t ∷ f)) k ≡ coef (cut n (t ∷ [])) k +ℤ coef (cut n f) k
cut-first n t f k = ap (λ (g : Sum). coef g k) (filter-append (λ (u : Term). nat_le (degree u.0) n) (t ∷ []) f) ∙ coef-append (cut n (t ∷ [])) (cut n f) k

put-same : (n : ℕ) (t : Term) (f : Sum) (k : Key) → coef (cut n (put before t f)) k ≡ coef (cut n (t ∷ [])) k +ℤ coef (cut n f) k
put-same n t [] k = cut-first n t [] k
put-same n t (u ∷ f) k = go (key_before u.0 t.0) (put-same n t f k)
  where
    go : (b : Bool) → coef (cut n (put before t f)) k ≡ coef (cut n (t ∷ [])) k +ℤ coef (cut n f) k
        → coef (cut n (elim b [ true ↦ u ∷ put before t f | false ↦ t ∷ u ∷ f ])) k ≡ coef (cut n (t ∷ [])) k +ℤ coef (cut n (u ∷ f)) k
    go true h = let a = cut-first n u (put before t f) k in let b = cut-first n u f k in omega (arith, ints, a, b, h)
    go false h = cut-first n t (u ∷ f) k

pub in_order-same : (n : ℕ) (f : Sum) → Same (cut n (in_order before f)) (cut n f)
in_order-same n [] k = refl
in_order-same n (t ∷ f) k = put-same n t (in_order before f) k ∙ ap (λ (c : ℤ). coef (cut n (t ∷ [])) k +ℤ c) (in_order-same n f k) ∙ sym (cut-first n t f k)
