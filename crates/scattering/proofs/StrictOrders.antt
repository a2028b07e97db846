-- Lists in a strict order: what stands in them tells them; and the order of keys is strict.
use Rattle.std.proofs.Common.{◌≡◌, refl, subst, sym, ◌∙◌, List, [], ◌∷◌, Bool, true, false, inl, inr, ◌⊎◌, arith}
use Rattle.std.specs.Prelude.{ℤ, ◌&&◌, ◌||◌, IsTrue, int_lt}
use Rattle.std.proofs.lemmas.Int.{ints}
use Rattle.scattering.specs.Collections.{In, EveryPair}
use Rattle.scattering.specs.Series.{Key, Exp, int_eq, exp_eq, key_eq, key_before, exp_before, powers_before}
use Rattle.scattering.proofs.Lists.{Every-at, and-both, or-out}
use Rattle.scattering.proofs.Tests.{is-true}
use Rattle.scattering.proofs.Keys.{exp_eq-same, key_eq-same}
use Rattle.scattering.proofs.KeyOrder.{powers_before-asym}

module _ {A : Type 0} (before : A → A → Bool) (asym : (x y : A) → before x y ≡ true → before y x ≡ true → ⊥) where
  abbrev pub Rises : List A → Type 0
  Rises xs = EveryPair (λ x y. IsTrue (before x y)) xs

  -- what stands in the tail
  tail : (x y : A) (xs ys : List A) → Rises (x ∷ xs) → x ≡ y → ((z : A) → In z (x ∷ xs) → In z (y ∷ ys)) → (z : A) → In z xs → In z ys
  tail x y xs ys r e f z i = go (f z (inr i))
    where
      go : In z (y ∷ ys) → In z ys
      go (inl p) =
          let b : before x z ≡ true = is-true (before x z) (Every-at (λ z. IsTrue (before x z)) xs z r.0 i) in
          let q : before x x ≡ true = subst (λ (w : A). before x w ≡ true) (p ∙ sym e) b in
          absurd (asym x x q q)
      go (inr h) = h

  heads : (x y : A) (xs ys : List A) → Rises (x ∷ xs) → Rises (y ∷ ys) → In x (y ∷ ys) → In y (x ∷ xs) → x ≡ y
  heads x y xs ys r s (inl p) h = p
  heads x y xs ys r s (inr i) (inl q) = sym q
  heads x y xs ys r s (inr i) (inr j) =
      absurd (asym x y (is-true _ (Every-at (λ z. IsTrue (before x z)) xs y r.0 j)) (is-true _ (Every-at (λ z. IsTrue (before y z)) ys x s.0 i)))

  pub sorted-unique : (xs ys : List A) → Rises xs → Rises ys → ((z : A) → In z xs → In z ys) → ((z : A) → In z ys → In z xs) → xs ≡ ys
  sorted-unique [] [] r s f g = refl
  sorted-unique [] (y ∷ ys) r s f g = absurd (g y (inl refl))
  sorted-unique (x ∷ xs) [] r s f g = absurd (f x (inl refl))
  sorted-unique (x ∷ xs) (y ∷ ys) r s f g =
      let e : x ≡ y = heads x y xs ys r s (f x (inl refl)) (g y (inl refl)) in
      let t : xs ≡ ys = sorted-unique xs ys r.1 s.1 (tail x y xs ys r e f) (tail y x ys xs s (sym e) g) in
      λ i. e i ∷ t i

-- ---- two orders, one after the other

module _ {A B : Type 0} (before : A → A → Bool) (same : A → A → Bool) (after : B → B → Bool)
    (asym : (x y : A) → before x y ≡ true → before y x ≡ true → ⊥) (sure : (x y : A) → same x y ≡ true → x ≡ y) (asym' : (x y : B) → after x y ≡ true → after y x ≡ true → ⊥) where
  pub two-asym : (x y : A) (u v : B) → (before x y || (same x y && after u v)) ≡ true → (before y x || (same y x && after v u)) ≡ true → ⊥
  two-asym x y u v p q = go (or-out (before x y) _ p) (or-out (before y x) _ q)
    where
      go : (before x y ≡ true) ⊎ ((same x y && after u v) ≡ true) → (before y x ≡ true) ⊎ ((same y x && after v u) ≡ true) → ⊥
      go (inl a) (inl b) = asym x y a b
      go (inl a) (inr b) =
          let e : y ≡ x = sure y x (and-both (same y x) _ b).0 in
          asym x y a (subst (λ (w : A). before w x ≡ true) (sym e) (subst (λ (w : A). before x w ≡ true) e a))
      go (inr a) (inl b) =
          let e : x ≡ y = sure x y (and-both (same x y) _ a).0 in
          asym y x b (subst (λ (w : A). before w y ≡ true) (sym e) (subst (λ (w : A). before y w ≡ true) e b))
      go (inr a) (inr b) = asym' u v (and-both (same x y) _ a).1 (and-both (same y x) _ b).1

-- ---- pairs of integers, and keys

pub lex-asym : (a b c d : ℤ) → (int_lt a b || (int_eq a b && int_lt c d)) ≡ true → (int_lt b a || (int_eq b a && int_lt d c)) ≡ true → ⊥
lex-asym a b c d p q = grind (arith, ints)

pub exp_before-asym : (u v : Exp) → exp_before u v ≡ true → exp_before v u ≡ true → ⊥
exp_before-asym u v p q = lex-asym u.a v.a u.b v.b p q

pub key_before-asym : (k l : Key) → key_before k l ≡ true → key_before l k ≡ true → ⊥
key_before-asym k l p q = two-asym exp_before exp_eq powers_before exp_before-asym exp_eq-same powers_before-asym k.exp l.exp k.powers l.powers p q

-- a key is no other that it is before or after
pub apart : (k l : Key) → key_before k l ≡ true → key_eq l k ≡ false
apart k l h = go (key_eq l k) refl
  where
    go : (b : Bool) → key_eq l k ≡ b → b ≡ false
    go false e = refl
    go true e = let c : key_before k k ≡ true = subst (λ (w : Key). key_before k w ≡ true) (key_eq-same l k e) h in absurd (key_before-asym k k c c)

pub apart-back : (k l : Key) → key_before k l ≡ true → key_eq k l ≡ false
apart-back k l h = go (key_eq k l) refl
  where
    go : (b : Bool) → key_eq k l ≡ b → b ≡ false
    go false e = refl
    go true e = let c : key_before l l ≡ true = subst (λ (w : Key). key_before w l ≡ true) (key_eq-same k l e) h in absurd (key_before-asym l l c c)
