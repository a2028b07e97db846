-- A list of keys with values, whose keys rise and none of whose values counts for nothing, is told by the value that
-- it has at each key. It serves series, whose values are coefficients, and Lie elements, whose values are ratios.
use Rattle.std.proofs.Common.{◌≡◌, ◌≢◌, refl, subst, sym, ◌∙◌, ap, List, [], ◌∷◌, Bool, true, false, inl, inr, arith}
use Rattle.std.specs.Prelude.{pos, ◌+ℤ◌, IsTrue}
use Rattle.std.proofs.lemmas.Int.{ints}
use Rattle.scattering.specs.Collections.{In, Every, EveryPair}
use Rattle.scattering.specs.Series.{Key, Term, Sum, Same, key_eq, key_before, coef}
use Rattle.scattering.proofs.Lists.{Every-at}
use Rattle.scattering.proofs.Keys.{key_eq-same, key_eq-refl}
use Rattle.scattering.proofs.Pairing.{skip-zero}
use Rattle.scattering.proofs.StrictOrders.{sorted-unique, key_before-asym, apart, apart-back}

abbrev pub KeysRise : {A : Type 0} → List (Key × A) → Type 0
KeysRise f = EveryPair (λ t u. IsTrue (key_before t.0 u.0)) f

-- `value f k` is the value of f at k: that of the term with this key, and `nothing` where there is none
module _ {A : Type 0} (nothing : A) (value : List (Key × A) → Key → A)
    (empty : (k : Key) → value [] k ≡ nothing)
    (own : (t : Key × A) (f : List (Key × A)) → value f t.0 ≡ nothing → value (t ∷ f) t.0 ≡ t.1)
    (other : (t : Key × A) (f : List (Key × A)) (k : Key) → key_eq t.0 k ≡ false → value (t ∷ f) k ≡ value f k) where
  abbrev Counts : List (Key × A) → Type 0
  Counts f = Every (λ t. t.1 ≢ nothing) f

  none-after : (k : Key) (f : List (Key × A)) → Every (λ u. IsTrue (key_before k u.0)) f → value f k ≡ nothing
  none-after k [] h = empty k
  none-after k (u ∷ f) h = other u f k (apart k u.0 h.0) ∙ none-after k f h.1

  -- a term has its value
  pub value-own : (f : List (Key × A)) → KeysRise f → (t : Key × A) → In t f → value f t.0 ≡ t.1
  value-own [] r t i = absurd i
  value-own (u ∷ f) r t (inl e) = subst (λ (w : Key × A). value (u ∷ f) w.0 ≡ w.1) (sym e) (own u f (none-after u.0 f r.0))
  value-own (u ∷ f) r t (inr i) = other u f t.0 (apart-back u.0 t.0 (Every-at (λ v. IsTrue (key_before u.0 v.0)) f t r.0 i)) ∙ value-own f r.1 t i

  -- and a value that counts is a term's
  pub value-find : (f : List (Key × A)) (k : Key) → value f k ≢ nothing → (t : Key × A) × In t f × (t.0 ≡ k)
  value-find [] k h = absurd (h (empty k))
  value-find (u ∷ f) k h = go (key_eq u.0 k) refl (value-find f k)
    where
      go : (b : Bool) → key_eq u.0 k ≡ b → (value f k ≢ nothing → (t : Key × A) × In t f × (t.0 ≡ k)) → (t : Key × A) × In t (u ∷ f) × (t.0 ≡ k)
      go true e found = (u, inl refl, key_eq-same u.0 k e)
      go false e found = let r = found (λ z. h (other u f k e ∙ z)) in (r.0, inr r.1, r.2)

  into : (f g : List (Key × A)) → KeysRise f → KeysRise g → Counts f → ((t : Key × A) → In t f → value f t.0 ≡ value g t.0) → (t : Key × A) → In t f → In t g
  into f g r q n h t i =
      let c : value g t.0 ≡ t.1 = sym (h t i) ∙ value-own f r t i in
      let u = value-find g t.0 (λ z. Every-at (λ t. t.1 ≢ nothing) f t n i (sym c ∙ z)) in
      let d : u.0.1 ≡ t.1 = sym (value-own g q u.0 u.1) ∙ ap (value g) u.2 ∙ c in
      let k : u.0.0 ≡ t.0 = u.2 in
      let e : u.0 ≡ t = λ j. (k j, d j) in
      subst (λ (v : Key × A). In v g) e u.1

  -- it is enough to look at the keys that stand in the lists
  pub rows-unique : (f g : List (Key × A)) → KeysRise f → KeysRise g → Counts f → Counts g
      → ((t : Key × A) → In t f → value f t.0 ≡ value g t.0) → ((t : Key × A) → In t g → value g t.0 ≡ value f t.0) → f ≡ g
  rows-unique f g r q n m h i =
      sorted-unique (λ t u. key_before t.0 u.0) (λ t u. key_before-asym t.0 u.0) f g r q (into f g r q n h) (into g f q r m i)

-- ---- series

head-coef : (t : Term) (f : Sum) → coef f t.0 ≡ pos 0 → coef (t ∷ f) t.0 ≡ t.1
head-coef t f e = rw (key_eq-refl t.0, e) (let z : t.1 +ℤ pos 0 ≡ t.1 = omega (arith, ints) in z)

other-coef : (t : Term) (f : Sum) (k : Key) → key_eq t.0 k ≡ false → coef (t ∷ f) k ≡ coef f k
other-coef t f k e = rw e (skip-zero (coef f k))

pub coef-own : (f : Sum) → KeysRise f → (t : Term) → In t f → coef f t.0 ≡ t.1
coef-own = value-own (pos 0) coef (λ k. refl) head-coef other-coef

pub coef-find : (f : Sum) (k : Key) → coef f k ≢ pos 0 → (t : Term) × In t f × (t.0 ≡ k)
coef-find = value-find (pos 0) coef (λ k. refl) head-coef other-coef

pub series-unique : (f g : Sum) → KeysRise f → KeysRise g → Every (λ (t : Term). t.1 ≢ pos 0) f → Every (λ (t : Term). t.1 ≢ pos 0) g
    → ((t : Term) → In t f → coef f t.0 ≡ coef g t.0) → ((t : Term) → In t g → coef g t.0 ≡ coef f t.0) → f ≡ g
series-unique = rows-unique (pos 0) coef (λ k. refl) head-coef other-coef

pub terms-unique : (f g : Sum) → KeysRise f → KeysRise g → Every (λ (t : Term). t.1 ≢ pos 0) f → Every (λ (t : Term). t.1 ≢ pos 0) g → Same f g → f ≡ g
terms-unique f g r q n m s = series-unique f g r q n m (λ t i. s t.0) (λ t i. sym (s t.0))
