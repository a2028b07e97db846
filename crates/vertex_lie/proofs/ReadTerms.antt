-- The terms of an image from which coefficients are read.
use Rattle.std.proofs.Common.{◌≡◌, ◌≢◌, ℕ, ◌+◌, ◌≤◌, ◌<◌, ◌^◌, refl, sym, ap, ◌∙◌, Bool, true, false, cond, List, [], ◌∷◌, ◌++◌, length, drop, arith}
use Rattle.std.specs.Prelude.{ℤ, pos, ◌+ℤ◌, ◌-ℤ◌, IsTrue, ◌&&◌, ◌==◌, nat_abs}
use Rattle.std.proofs.lemmas.Int.{ints}
use Rattle.scattering.specs.Collections.{Every, EveryPair}
use Rattle.scattering.specs.Series.{Exp, Key, Term, Sum, IsSeries, no_powers, powers_add, int_eq, key_eq, key_before, key_mul, z, degree, origin, coef}
use Rattle.scattering.proofs.Keys.{key_eq-same, same-powers}
use Rattle.trunc_series.specs.declared.key.Key.{Key as CodeKey}
use Rattle.trunc_series.specs.Shown.{key_of, sum_of}
use Rattle.scattering.proofs.KeyOrder.{key_before-mul}
use Rattle.scattering.proofs.Lists.{and-right}
use Rattle.scattering.proofs.Pairing.{skip-zero}
use Rattle.trunc_series.proofs.Terms.{at, sum_of-drop, sum_of-push}
use Rattle.vertex_lie.specs.declared.leading_part.Reading.{Reading}
use Rattle.vertex_lie.specs.declared.leading_part.Reading.TheVariants.{X, Y, RestOfY}
use Rattle.vertex_lie.specs.Leading.{image_of, is_read, key_over, read_from}

-- ---- a key over a monomial

key-back : (m : Exp) (k : Key) → key_mul (z m) (key_over k m) ≡ k
key-back m k = λ i. record { powers = powers i; exp = record { a = back m.a k.exp.a i; b = back m.b k.exp.b i } }
  where
    back : (x y : ℤ) → x +ℤ (y -ℤ x) ≡ y
    back x y = omega (arith, ints)

    powers : powers_add no_powers k.powers ≡ k.powers
    powers = same-powers _ _ (omega arith) (omega arith) (omega arith) (omega arith) (omega arith) (omega arith) (omega arith) (omega arith)

before-over : (m : Exp) (k l : Key) → key_before (key_over k m) (key_over l m) ≡ key_before k l
before-over m k l = sym (key_before-mul (z m) (key_over k m) (key_over l m)) ∙ ap (λ (x : Key). key_before x (key_mul (z m) (key_over l m))) (key-back m k) ∙ ap (λ (x : Key). key_before k x) (key-back m l)

int_eq-over : (x m y : ℤ) → int_eq (x -ℤ m) y ≡ int_eq x (y +ℤ m)
int_eq-over x m y = grind (arith, ints)

eq-zero : (x y : ℕ) → (x == y + 0) ≡ (x == y)
eq-zero x y = grind arith

eq-over : (m : Exp) (k l : Key) → key_eq (key_over k m) l ≡ key_eq k (key_mul l (z m))
eq-over m k l = simp (int_eq-over, eq-zero)

pub degree-is : (d n : ℕ) (b : Bool) → ((d == n) && b) ≡ true → d ≡ n
degree-is d n true e = grind arith
degree-is d n false e = absurd (grind arith)

read-moves : (reading : Reading) (k : Key) → is_read reading k ≡ true → k.exp ≢ origin
read-moves X k h o = let b : k.exp.b ≡ pos 0 = ap (λ (e : Exp). e.b) o in absurd (grind (arith, ints))
read-moves Y k h o = let a : k.exp.a ≡ pos 0 = ap (λ (e : Exp). e.a) o in absurd (grind (arith, ints))
read-moves RestOfY k h o = let a : k.exp.a ≡ pos 0 = ap (λ (e : Exp). e.a) o in absurd (grind (arith, ints))

module _ (n : ℕ) (reading : Reading) where
  abbrev pub is_shown : Key → Bool
  is_shown k = (degree k == n) && is_read reading k

  abbrev over : Key → Key
  over k = key_over k (image_of reading)

  pub read-every : (P Q : Term → Type 0) → ((t : Term) → is_shown (over t.0) ≡ true → P t → Q (over t.0, t.1)) → (f : Sum) → Every P f → Every Q (read_from n reading f)
  read-every P Q i [] h = tt
  read-every P Q i (t ∷ f) h = go (is_shown (over t.0)) refl (read-every P Q i f h.1)
    where
      go : (b : Bool) → is_shown (over t.0) ≡ b → Every Q (read_from n reading f) → Every Q (cond b ((over t.0, t.1) ∷ read_from n reading f) (read_from n reading f))
      go true e r = (i t e h.0, r)
      go false e r = r

  read-rises : (f : Sum) → EveryPair (λ t u. IsTrue (key_before t.0 u.0)) f → EveryPair (λ t u. IsTrue (key_before t.0 u.0)) (read_from n reading f)
  read-rises [] r = tt
  read-rises (t ∷ f) r = go (is_shown (over t.0)) (read-rises f r.1)
    where
      go : (b : Bool) → EveryPair (λ t u. IsTrue (key_before t.0 u.0)) (read_from n reading f) → EveryPair (λ t u. IsTrue (key_before t.0 u.0)) (cond b ((over t.0, t.1) ∷ read_from n reading f) (read_from n reading f))
      go true i = (read-every (λ u. IsTrue (key_before t.0 u.0)) (λ u. IsTrue (key_before (over t.0) u.0)) (λ u e b. before-over (image_of reading) t.0 u.0 ∙ b) f r.0, i)
      go false i = i

  pub read-series : (m : ℕ) (f : Sum) → IsSeries m f → IsSeries n (read_from n reading f)
  read-series m f h = record {
    rises = read-rises f h.rises;
    nonzero = read-every (λ t. t.1 ≢ pos 0) (λ t. t.1 ≢ pos 0) (λ t e z. z) f h.nonzero;
    low = read-every (λ t. degree t.0 ≤ m) (λ t. degree t.0 ≤ n) (λ t e l. let d = degree-is (degree (over t.0)) n _ e in omega (arith, d)) f h.low;
  }

  pub read-small : (f : Sum) → Every (λ t. nat_abs t.1 < 2 ^ 127) f → Every (λ t. nat_abs t.1 < 2 ^ 127) (read_from n reading f)
  read-small f h = read-every (λ t. nat_abs t.1 < 2 ^ 127) (λ t. nat_abs t.1 < 2 ^ 127) (λ t e s. s) f h

  -- the keys have this degree, and an exponent other than (0, 0)
  pub read-keys : (f : Sum) → Every (λ t. Unit {0}) f → Every (λ t. (degree t.0 ≡ n) × (t.0.exp ≢ origin)) (read_from n reading f)
  read-keys f h = read-every (λ t. Unit {0}) (λ t. (degree t.0 ≡ n) × (t.0.exp ≢ origin)) (λ t e s. (degree-is (degree (over t.0)) n _ e, read-moves reading (over t.0) (and-right _ _ e))) f h

  pub read-coef : (f : Sum) (k : Key) → coef (read_from n reading f) k ≡ cond (is_shown k) (coef f (key_mul k (z (image_of reading)))) (pos 0)
  read-coef [] k = none (is_shown k)
    where
      none : (b : Bool) → pos 0 ≡ cond b (pos 0) (pos 0)
      none true = refl
      none false = refl
  read-coef (t ∷ f) k = go (key_eq (over t.0) k) refl (read-coef f k)
    where
      l : Key
      l = key_mul k (z (image_of reading))

      rest : ℤ
      rest = coef (read_from n reading f) k

      own : (b : Bool) → coef (read_from n reading f) k ≡ cond b (coef f (key_mul k (z (image_of reading)))) (pos 0) → coef (cond b ((over t.0, t.1) ∷ read_from n reading f) (read_from n reading f)) k ≡ cond b (cond (key_eq (over t.0) k) t.1 (pos 0) +ℤ coef f (key_mul k (z (image_of reading)))) (pos 0)
      own true i = ap (λ c. cond (key_eq (over t.0) k) t.1 (pos 0) +ℤ c) i
      own false i = i

      apart : (b c : Bool) → coef (read_from n reading f) k ≡ cond c (coef f (key_mul k (z (image_of reading)))) (pos 0) → key_eq (over t.0) k ≡ false
          → coef (cond b ((over t.0, t.1) ∷ read_from n reading f) (read_from n reading f)) k ≡ cond c (pos 0 +ℤ coef f (key_mul k (z (image_of reading)))) (pos 0)
      apart true true i e = rw e (ap (λ c. pos 0 +ℤ c) i)
      apart true false i e = rw e (skip-zero (coef (read_from n reading f) k) ∙ i)
      apart false true i e = i ∙ sym (skip-zero (coef f (key_mul k (z (image_of reading)))))
      apart false false i e = i

      go : (b : Bool) → key_eq (over t.0) k ≡ b → coef (read_from n reading f) k ≡ cond (is_shown k) (coef f (key_mul k (z (image_of reading)))) (pos 0) → coef (read_from n reading (t ∷ f)) k ≡ cond (is_shown k) (coef (t ∷ f) (key_mul k (z (image_of reading)))) (pos 0)
      go true e i =
          ap (λ (m : Key). coef (cond (is_shown m) ((over t.0, t.1) ∷ read_from n reading f) (read_from n reading f)) k) (key_eq-same (over t.0) k e)
          ∙ own (is_shown k) i
          ∙ ap (λ (b : Bool). cond (is_shown k) (cond b t.1 (pos 0) +ℤ coef f (key_mul k (z (image_of reading)))) (pos 0)) (eq-over (image_of reading) t.0 k)
      go false e i =
          apart (is_shown (over t.0)) (is_shown k) i e
          ∙ ap (λ (b : Bool). cond (is_shown k) (cond b t.1 (pos 0) +ℤ coef f (key_mul k (z (image_of reading)))) (pos 0)) (sym e ∙ eq-over (image_of reading) t.0 k)

-- ---- the steps of the loop

module _ (n : ℕ) (reading : Reading) (out a : List (CodeKey × ℤ)) (i : ℕ) (h : i < length a) (key : CodeKey) (e : key_of key ≡ key_over (key_of (at a i).0) (image_of reading)) where
  step : read_from n reading (sum_of (drop i a)) ≡ cond (is_shown n reading (key_of key)) ((key_of key, (at a i).1) ∷ read_from n reading (sum_of (drop (i + 1) a))) (read_from n reading (sum_of (drop (i + 1) a)))
  step = ap (read_from n reading) (sum_of-drop a i h) ∙ ap (λ (k : Key). cond (is_shown n reading k) ((k, (at a i).1) ∷ read_from n reading (sum_of (drop (i + 1) a))) (read_from n reading (sum_of (drop (i + 1) a)))) (sym e)

  pub step-shown : is_shown n reading (key_of key) ≡ true → sum_of (out ++ (key, (at a i).1) ∷ []) ++ read_from n reading (sum_of (drop (i + 1) a)) ≡ sum_of out ++ read_from n reading (sum_of (drop i a))
  step-shown s = sum_of-push out (key, (at a i).1) _ ∙ ap (λ f. sum_of out ++ f) (sym (step ∙ ap (λ (b : Bool). cond b ((key_of key, (at a i).1) ∷ read_from n reading (sum_of (drop (i + 1) a))) (read_from n reading (sum_of (drop (i + 1) a)))) s))

  pub step-other : is_shown n reading (key_of key) ≡ false → sum_of out ++ read_from n reading (sum_of (drop (i + 1) a)) ≡ sum_of out ++ read_from n reading (sum_of (drop i a))
  step-other s = ap (λ f. sum_of out ++ f) (sym (step ∙ ap (λ (b : Bool). cond b ((key_of key, (at a i).1) ∷ read_from n reading (sum_of (drop (i + 1) a))) (read_from n reading (sum_of (drop (i + 1) a)))) s))
