-- The rows that are printed of a wall are determined: they rise, and their coefficients are the function's.
use Rattle.std.proofs.Common.{◌≡◌, ◌≢◌, ℕ, refl, sym, ◌∙◌, ap, subst, List, [], ◌∷◌, map, Bool, true, false, inl, inr, ◌⊎◌}
use Rattle.std.specs.Prelude.{ℤ, pos, cond, ◌||◌, ◌&&◌, ◌==◌, nat_lt, IsTrue, ◌+ℤ◌}
use Rattle.scattering.specs.Collections.{In, Every, EveryPair}
use Rattle.scattering.specs.Series.{Exp, Powers, Key, Term, origin, coef, key_eq, powers_before, scale}
use Rattle.scattering.specs.Wall.{Wall}
use Rattle.scattering.proofs.Lists.{Every-at, Every-implies}
use Rattle.scattering.proofs.Keys.{key_eq-same, key_eq-refl}
use Rattle.scattering.proofs.StrictOrders.{sorted-unique, two-asym}
use Rattle.scattering.proofs.Tests.{bool_cases}
use Rattle.plane_theory.proofs.Directions.{cancel}
use Rattle.scattering.proofs.KeyOrder.{powers_before-asym}
use Rattle.scattering.proofs.Tests.{is-true, nat_lt-asym, nat_eq-same}
use Rattle.sum_algebra.proofs.Integers.{zero-or-not}
use Rattle.sum_algebra.proofs.Ring.{nought, ring}
use Rattle.sum_algebra.proofs.IntegerRing.{ints_ring, ◌:+◌, X}
use Rattle.scatter_text.proofs.Multiples.{swap}
use Rattle.scatter_text.specs.DiagramText.{Row, row_before, row_term, AreRows}

-- ---- the order of rows

row_before-asym : (r s : Row) → row_before r s ≡ true → row_before s r ≡ true → ⊥
row_before-asym r s h k = two-asym nat_lt (λ m n. m == n) powers_before nat_lt-asym nat_eq-same powers_before-asym r.j s.j r.powers s.powers h k

abbrev Rise : List Row → Type 0
Rise rows = EveryPair (λ (r s : Row). IsTrue (row_before r s)) rows

-- ---- rows by their keys

number : (x y : ℕ) → pos x ≡ pos y → x ≡ y
number x y e = cc

module _ (d : Exp) (moves : d ≢ origin) where
  abbrev key_of : Row → Key
  key_of r = (row_term d r).0

  abbrev terms_of : List Row → List Term
  terms_of rows = map (row_term d) rows

  same-multiple : (m n : ℕ) → scale (pos m) d ≡ scale (pos n) d → m ≡ n
  same-multiple m n e = go (zero-or-not d.a) (zero-or-not d.b)
    where
      go : (d.a ≡ pos 0) ⊎ (d.a ≢ pos 0) → (d.b ≡ pos 0) ⊎ (d.b ≢ pos 0) → m ≡ n
      go (inr a) b = number m n (cancel d.a (pos m) (pos n) a (swap d.a (pos m) ∙ ap (λ (x : Exp). x.a) e ∙ swap (pos n) d.a))
      go (inl a) (inr b) = number m n (cancel d.b (pos m) (pos n) b (swap d.b (pos m) ∙ ap (λ (x : Exp). x.b) e ∙ swap (pos n) d.b))
      go (inl a) (inl b) = absurd (moves (λ i. record { a = a i; b = b i }))

  same-row : (r s : Row) → key_of r ≡ key_of s → r.c ≡ s.c → r ≡ s
  same-row r s e f =
      let j : r.j ≡ s.j = same-multiple r.j s.j (ap (λ (k : Key). k.exp) e) in
      let p : r.powers ≡ s.powers = ap (λ (k : Key). k.powers) e in
      λ i. record { c = f i; j = j i; powers = p i }

  -- rows in order have different keys
  apart : (r s : Row) → row_before r s ≡ true → key_of r ≡ key_of s → ⊥
  apart r s h e =
      let j : r.j ≡ s.j = same-multiple r.j s.j (ap (λ (k : Key). k.exp) e) in
      let p : r.powers ≡ s.powers = ap (λ (k : Key). k.powers) e in
      let b : row_before r r ≡ true =
      subst (λ (q : Powers). (nat_lt r.j r.j || ((r.j == r.j) && powers_before r.powers q)) ≡ true) (sym p)
      (subst (λ (m : ℕ). (nat_lt r.j m || ((r.j == m) && powers_before r.powers s.powers)) ≡ true) (sym j) h) in
      row_before-asym r r b b

  unequal : (k l : Key) → (k ≡ l → ⊥) → key_eq k l ≡ false
  unequal k l h = go (bool_cases (key_eq k l))
    where
      go : (key_eq k l ≡ true) ⊎ (key_eq k l ≡ false) → key_eq k l ≡ false
      go (inl e) = absurd (h (key_eq-same k l e))
      go (inr e) = e

  none : (rows : List Row) (k : Key) → Every (λ r. key_eq (key_of r) k ≡ false) rows → coef (terms_of rows) k ≡ pos 0
  none [] k h = refl
  none (r ∷ rows) k h = ap (λ (b : Bool). cond b r.c (pos 0) +ℤ coef (terms_of rows) k) h.0 ∙ ap (λ (v : ℤ). pos 0 +ℤ v) (none rows k h.1)

  own : (rows : List Row) → Rise rows → (r : Row) → In r rows → coef (terms_of rows) (key_of r) ≡ r.c
  own [] h r i = absurd i
  own (s ∷ rows) h r (inl e) = subst (λ (x : Row). coef (terms_of (s ∷ rows)) (key_of x) ≡ x.c) (sym e) here
    where
      later : Every (λ r. key_eq (key_of r) (key_of s) ≡ false) rows
      later = Every-implies _ (λ (r : Row). key_eq (key_of r) (key_of s) ≡ false) rows (λ r b. unequal (key_of r) (key_of s) (λ e. apart s r (is-true _ b) (sym e))) h.0

      here : coef (terms_of (s ∷ rows)) (key_of s) ≡ s.c
      here =
          ap (λ (b : Bool). cond b s.c (pos 0) +ℤ coef (terms_of rows) (key_of s)) (key_eq-refl (key_of s))
          ∙ ap (λ (v : ℤ). s.c +ℤ v) (none rows (key_of s) later) ∙ ring ints_ring (s.c ∷ []) (X :+ nought) X refl
  own (s ∷ rows) h r (inr i) =
      ap (λ (b : Bool). cond b s.c (pos 0) +ℤ coef (terms_of rows) (key_of r)) (unequal (key_of s) (key_of r) (apart s r (is-true _ (Every-at (λ (r : Row). IsTrue (row_before s r)) rows r h.0 i))))
      ∙ ap (λ (v : ℤ). pos 0 +ℤ v) (own rows h.1 r i) ∙ ring ints_ring (r.c ∷ []) (nought :+ X) X refl

  find : (rows : List Row) (k : Key) → coef (terms_of rows) k ≢ pos 0 → (r : Row) × In r rows × (key_of r ≡ k)
  find [] k h = absurd (h refl)
  find (s ∷ rows) k h = go (key_eq (key_of s) k) refl (find rows k)
    where
      go : (b : Bool) → key_eq (key_of s) k ≡ b → (coef (terms_of rows) k ≢ pos 0 → (r : Row) × In r rows × (key_of r ≡ k)) → (r : Row) × In r (s ∷ rows) × (key_of r ≡ k)
      go true e f = (s, inl refl, key_eq-same (key_of s) k e)
      go false e f =
          let r = f (λ z. h (ap (λ (b : Bool). cond b s.c (pos 0) +ℤ coef (terms_of rows) k) e ∙ ap (λ (v : ℤ). pos 0 +ℤ v) z)) in
          (r.0, inr r.1, r.2)

  into : (rows others : List Row) → Rise rows → Rise others → Every (λ r. r.c ≢ pos 0) rows → ((k : Key) → coef (terms_of rows) k ≡ coef (terms_of others) k) → (r : Row) → In r rows → In r others
  into rows others h k some same r i =
      let c : coef (terms_of others) (key_of r) ≡ r.c = sym (same (key_of r)) ∙ own rows h r i in
      let s = find others (key_of r) (λ z. Every-at (λ (r : Row). r.c ≢ pos 0) rows r some i (sym c ∙ z)) in
      let same-c : s.0.c ≡ r.c = sym (own others k s.0 s.1) ∙ ap (coef (terms_of others)) s.2 ∙ c in
      subst (λ (x : Row). In x others) (same-row s.0 r s.2 same-c) s.1

pub rows-unique : (w : Wall) (rows others : List Row) → w.dir ≢ origin → AreRows w rows → AreRows w others → rows ≡ others
rows-unique w rows others moves a b =
    let same : (k : Key) → coef (map (row_term w.dir) rows) k ≡ coef (map (row_term w.dir) others) k = λ k. a.same k ∙ sym (b.same k) in
    sorted-unique row_before row_before-asym rows others a.rises b.rises
    (into w.dir moves rows others a.rises b.rises a.nonzero same)
    (into w.dir moves others rows b.rises a.rises b.nonzero (λ k. sym (same k)))
