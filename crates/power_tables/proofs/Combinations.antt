-- Sums of numbers times parts of powers: those of a table's columns are parts of the powers by which crossings multiply.
use Rattle.std.proofs.Common.{◌≡◌, ℕ, zero, suc, ◌+◌, ◌-◌, ◌*◌, ◌<◌, ◌≤◌, ◌/◌, ◌⊎◌, inl, inr, ◌≢◌, refl, sym, ap, ◌∙◌, Bool, true, false, cond, List, [], ◌∷◌, ◌++◌, length, arith}
use Rattle.std.specs.Prelude.{ℤ, pos, ◌+ℤ◌, ◌*ℤ◌, nat_abs}
use Rattle.std.proofs.lemmas.Int.{ints}
use Rattle.std.proofs.Math.Nat.{div-le_self, lt-mul-div-succ}
use Rattle.std.proofs.Math.IntN.{*ℤ_comm}
use Rattle.sum_algebra.proofs.Ring.{ring}
use Rattle.sum_algebra.proofs.IntegerRing.{ints_ring, ◌:+◌, ◌:*◌, X, Y, Z}
use Rattle.scattering.proofs.Lists.{Every-filter}
use Rattle.scattering.specs.Collections.{Every}
use Rattle.scattering.specs.Series.{Exp, Key, Sum, Same, IsWallFunction, degree, key_eq, coef, one, rest, absolute, pow}
use Rattle.scattering.specs.ThetaProduct.{of_degree}
use Rattle.scattering.proofs.Pairing.{coef-append}
use Rattle.scattering.proofs.Coefficients.{coef-above}
use Rattle.scattering.proofs.Tests.{nat_case}
use Rattle.trunc_series.specs.declared.arithmetic.Arithmetic.{Arithmetic}
use Rattle.trunc_series.specs.declared.arithmetic.Arithmetic.TheVariants.{Wrapping, Saturating}
use Rattle.trunc_series.specs.declared.key.Key.{Key as CodeKey}
use Rattle.trunc_series.specs.Arithmetic.{kept, IsKeepable}
use Rattle.trunc_series.proofs.Kept.{keepable-mul, kept-same_mul}
use Rattle.trunc_series.proofs.Coefficients.{keepable-coef}
use Rattle.trunc_series.proofs.PowerLaws.{pow-keepable}
use Rattle.degree_theory.specs.Parts.{scaled, linear_combination}
use Rattle.degree_theory.proofs.PartLaws.{part-is-read, part-of-power, part-of-majorant_power, power-begins-late}
use Rattle.trunc_series.proofs.TermLists.{keepable-values}
use Rattle.power_tables.specs.Parts.{multiplier}
use Rattle.power_tables.specs.Tables.{factor, column_sum, column_combination}
use Rattle.power_tables.specs.Made.{others, AreColumns}
use Rattle.power_tables.proofs.Alike.{Alike, alike-append, alike-refl}

times-zero : (c : ℤ) → c *ℤ pos 0 ≡ pos 0
times-zero c = omega (arith, ints)

times-sum : (c a b : ℤ) → c *ℤ (a +ℤ b) ≡ c *ℤ a +ℤ c *ℤ b
times-sum c a b = ring ints_ring (c ∷ a ∷ b ∷ []) (X :* (Y :+ Z)) (X :* Y :+ X :* Z) refl

pub coef-scaled : (c : ℤ) (f : Sum) (x : Key) → coef (scaled c f) x ≡ c *ℤ coef f x
coef-scaled c [] x = sym (times-zero c)
coef-scaled c (t ∷ f) x = ap (λ y. cond (key_eq t.0 x) (c *ℤ t.1) (pos 0) +ℤ y) (coef-scaled c f x) ∙ go (key_eq t.0 x)
  where
    go : (b : Bool) → cond b (c *ℤ t.1) (pos 0) +ℤ c *ℤ coef f x ≡ c *ℤ (cond b t.1 (pos 0) +ℤ coef f x)
    go true = sym (times-sum c t.1 (coef f x))
    go false = ap (λ y. y +ℤ c *ℤ coef f x) (sym (times-zero c)) ∙ sym (times-sum c (pos 0) (coef f x))

pub scaled-keepable : (rule : Arithmetic) (c : ℤ) (f : Sum) → IsKeepable rule c → Every (λ t. IsKeepable rule t.1) f → Every (λ t. IsKeepable rule t.1) (scaled c f)
scaled-keepable rule c [] h e = tt
scaled-keepable rule c (t ∷ f) h e = (keepable-mul rule c t.1 h e.0, scaled-keepable rule c f h e.1)

pub alike-scaled : (rule : Arithmetic) (c : ℤ) (f g : Sum) → IsKeepable rule c → Alike rule f g → Alike rule (scaled c f) (scaled c g)
alike-scaled rule c f g h a = record {
  left = scaled-keepable rule c f h a.left;
  right = scaled-keepable rule c g h a.right;
  same = λ x.
      ap (kept rule) (coef-scaled c f x ∙ *ℤ_comm c (coef f x))
      ∙ kept-same_mul rule (coef f x) (coef g x) c (keepable-coef rule f x a.left) (keepable-coef rule g x a.right) h (a.same x)
      ∙ ap (kept rule) (*ℤ_comm (coef g x) c ∙ sym (coef-scaled c g x));
}

pub factor-keepable : (rule : Arithmetic) (n : ℤ) (r : ℕ) → IsKeepable rule (factor rule n r)
factor-keepable Wrapping n r = tt
factor-keepable Saturating n r = omega (arith, ints)

-- ---- sums from a power on

abbrev pub sum_from : (ℕ → ℤ) → (ℕ → Sum) → ℕ → ℕ → Sum
sum_from c us r zero = []
sum_from c us r (suc m) = scaled (c r) (us r) ++ sum_from c us (suc r) m

module _ (c : ℕ → ℤ) (us : ℕ → Sum) (x : Key) where
  last-from : (r m : ℕ) → coef (sum_from c us r (suc m)) x ≡ coef (sum_from c us r m) x +ℤ coef (scaled (c (r + m)) (us (r + m))) x
  last-from r zero = coef-append (scaled (c r) (us r)) [] x ∙ swapped (coef (scaled (c r) (us r)) x) ∙ ap (λ (j : ℕ). pos 0 +ℤ coef (scaled (c j) (us j)) x) (let e : r ≡ r + 0 = omega arith in e)
    where
      swapped : (a : ℤ) → a +ℤ pos 0 ≡ pos 0 +ℤ a
      swapped a = omega (arith, ints)
  last-from r (suc m) =
      coef-append (scaled (c r) (us r)) (sum_from c us (suc r) (suc m)) x
      ∙ ap (λ a. coef (scaled (c r) (us r)) x +ℤ a) (last-from (suc r) m)
      ∙ grouped (coef (scaled (c r) (us r)) x) (coef (sum_from c us (suc r) m) x) (coef (scaled (c (suc r + m)) (us (suc r + m))) x)
      ∙ ap (λ a. a +ℤ coef (scaled (c (suc r + m)) (us (suc r + m))) x) (sym (coef-append (scaled (c r) (us r)) (sum_from c us (suc r) m) x))
      ∙ ap (λ (j : ℕ). coef (sum_from c us r (suc m)) x +ℤ coef (scaled (c j) (us j)) x) (let e : suc r + m ≡ r + suc m = omega arith in e)
    where
      grouped : (a b d : ℤ) → a +ℤ (b +ℤ d) ≡ (a +ℤ b) +ℤ d
      grouped a b d = omega (arith, ints)

  combination-from : (n : ℕ) → coef (linear_combination c us n) x ≡ coef (sum_from c us 0 (suc n)) x
  combination-from zero = sym (coef-append (scaled (c 0) (us 0)) [] x ∙ add-none (coef (scaled (c 0) (us 0)) x))
    where
      add-none : (a : ℤ) → a +ℤ pos 0 ≡ a
      add-none a = omega (arith, ints)
  combination-from (suc n) =
      coef-append (linear_combination c us n) (scaled (c (suc n)) (us (suc n))) x
      ∙ ap (λ a. a +ℤ coef (scaled (c (suc n)) (us (suc n))) x) (combination-from n)
      ∙ ap (λ (j : ℕ). coef (sum_from c us 0 (suc n)) x +ℤ coef (scaled (c j) (us j)) x) (let e : suc n ≡ 0 + suc n = omega arith in e)
      ∙ sym (last-from 0 (suc n))

  -- from some power on there is nothing
  stops : (r m j : ℕ) → ((i : ℕ) → r + m ≤ i → i < r + m + j → coef (us i) x ≡ pos 0) → coef (sum_from c us r (m + j)) x ≡ coef (sum_from c us r m) x
  stops r m zero h = ap (λ (i : ℕ). coef (sum_from c us r i) x) (let e : m + 0 ≡ m = omega arith in e)
  stops r m (suc j) h =
      ap (λ (i : ℕ). coef (sum_from c us r i) x) (let e : m + suc j ≡ suc (m + j) = omega arith in e)
      ∙ last-from r (m + j)
      ∙ ap (λ a. coef (sum_from c us r (m + j)) x +ℤ a) (coef-scaled (c (r + (m + j))) (us (r + (m + j))) x ∙ ap (λ a. c (r + (m + j)) *ℤ a) (h (r + (m + j)) (omega arith) (omega arith)) ∙ times-zero (c (r + (m + j))))
      ∙ add-none (coef (sum_from c us r (m + j)) x)
      ∙ stops r m j (λ i a b. h i a (omega (arith, b)))
    where
      add-none : (a : ℤ) → a +ℤ pos 0 ≡ a
      add-none a = omega (arith, ints)

  -- the sum from 0 to n, where u^0 and the powers above the q-th have nothing
  pub combination-some : (n q : ℕ) → q ≤ n → coef (us 0) x ≡ pos 0 → ((i : ℕ) → q < i → i ≤ n → coef (us i) x ≡ pos 0) → coef (linear_combination c us n) x ≡ coef (sum_from c us 1 q) x
  combination-some n q l z h =
      combination-from n
      ∙ coef-append (scaled (c 0) (us 0)) (sum_from c us 1 n) x
      ∙ ap (λ a. a +ℤ coef (sum_from c us 1 n) x) (coef-scaled (c 0) (us 0) x ∙ ap (λ a. c 0 *ℤ a) z ∙ times-zero (c 0))
      ∙ no-more (coef (sum_from c us 1 n) x)
      ∙ ap (λ (i : ℕ). coef (sum_from c us 1 i) x) (let e : n ≡ q + (n - q) = omega (arith, l) in e)
      ∙ stops 1 q (n - q) (λ i a b. h i (omega (arith, a)) (omega (arith, b, l)))
    where
      no-more : (a : ℤ) → pos 0 +ℤ a ≡ a
      no-more a = omega (arith, ints)

-- ---- the parts of a power

none-of_one : (i : ℕ) (x : Key) → 1 ≤ i → coef (of_degree i one) x ≡ pos 0
none-of_one i x h = go (nat_case (degree x) i)
  where
    go : (degree x ≡ i) ⊎ (degree x ≢ i) → coef (of_degree i one) x ≡ pos 0
    go (inl q) = (part-is-read i one x).0 q ∙ coef-above 0 one x (omega arith, tt) (omega (arith, q, h))
    go (inr o) = (part-is-read i one x).1 o

mul-le-mono : (l a b : ℕ) → a ≤ b → l * a ≤ l * b
mul-le-mono l a b h = let e : l * b ≡ l * a + l * (b - a) = products l a b h in omega (arith, e)
  where
    products : (l a b : ℕ) → a ≤ b → l * b ≡ l * a + l * (b - a)
    products l a b h = let e : b ≡ a + (b - a) = omega (arith, h) in ap (λ c. l * c) e ∙ (let d : l * (a + (b - a)) ≡ l * a + l * (b - a) = omega arith in d)

module _ (rule : Arithmetic) (m : ℕ) (d : Exp) (f : Sum) (w : IsWallFunction m d f) (positive : Every (λ t. 1 ≤ degree t.0) (rest f)) (whole : Every (λ t. IsKeepable rule t.1) (others rule f)) where
  power-law : (i : ℕ) (n : ℤ) → Same (of_degree i (multiplier rule i f n)) (linear_combination (factor rule n) (λ r. of_degree i (pow i (others rule f) r)) i)
  power-law i n = by_rule rule
    where
      by_rule : (rule : Arithmetic) → Same (of_degree i (multiplier rule i f n)) (linear_combination (factor rule n) (λ r. of_degree i (pow i (others rule f) r)) i)
      by_rule Wrapping = part-of-power i m i d f n (λ r. of_degree i (pow i (rest f) r)) w (omega arith) (λ r l x. refl)
      by_rule Saturating = part-of-majorant_power i i f (nat_abs n) (λ r. of_degree i (pow i (absolute (rest f)) r)) (omega arith) positive (λ r l x. refl)

  parts-keepable : (i r : ℕ) → Every (λ t. IsKeepable rule t.1) (of_degree i (pow i (others rule f) r))
  parts-keepable i r = Every-filter (λ t. IsKeepable rule t.1) _ (pow i (others rule f) r) (pow-keepable rule i (others rule f) whole r)

  columns-alike : (n : ℤ) (i r : ℕ) (keys : List CodeKey) (cs : List (List ℤ)) → AreColumns rule f r i keys cs → Alike rule (column_combination rule n keys r cs) (sum_from (factor rule n) (λ j. of_degree i (pow i (others rule f) j)) r (length cs))
  columns-alike n i r keys [] h = alike-refl rule [] tt
  columns-alike n i r keys (c ∷ cs) h =
      alike-append rule (scaled (factor rule n r) (column_sum keys c)) (scaled (factor rule n r) (of_degree i (pow i (others rule f) r))) (column_combination rule n keys (suc r) cs) (sum_from (factor rule n) (λ j. of_degree i (pow i (others rule f) j)) (suc r) (length cs))
      (alike-scaled rule (factor rule n r) (column_sum keys c) (of_degree i (pow i (others rule f) r)) (factor-keepable rule n r) record { left = keepable-values rule (column_sum keys c) h.0.values; right = parts-keepable i r; same = h.0.same })
      (columns-alike n i (suc r) keys cs h.1)

  pub combined-same : (l : ℕ) → 1 ≤ l → Every (λ t. l ≤ degree t.0) (others rule f) → (n : ℤ) (i : ℕ) (keys : List CodeKey) (cs : List (List ℤ)) → 1 ≤ i → length cs ≡ i / l → AreColumns rule f 1 i keys cs → (x : Key)
      → kept rule (coef (column_combination rule n keys 1 cs) x) ≡ kept rule (coef (of_degree i (multiplier rule i f n)) x)
  combined-same l one least n i keys cs a b h x =
      (columns-alike n i 1 keys cs h).same x
      ∙ ap (λ (q : ℕ). kept rule (coef (sum_from (factor rule n) (λ j. of_degree i (pow i (others rule f) j)) 1 q) x)) b
      ∙ ap (kept rule) (sym (combination-some (factor rule n) (λ j. of_degree i (pow i (others rule f) j)) x i (i / l) (div-le_self i l) (none-of_one i x a) late) ∙ sym (power-law i n x))
    where
      late : (j : ℕ) → i / l < j → j ≤ i → coef (of_degree i (pow i (others rule f) j)) x ≡ pos 0
      late j q p =
          let s : i < l * (i / l + 1) = lt-mul-div-succ i (omega (arith, one)) in
          let t : l * (i / l + 1) ≤ l * j = mul-le-mono l (i / l + 1) j (omega (arith, q)) in
          let e : l * j ≡ j * l = omega arith in
          power-begins-late i l i j (others rule f) (omega arith) least (omega (arith, s, t, e)) x
