-- Pascal's rule for rows of numbers as they are kept.
use Rattle.std.proofs.Common.{◌≡◌, ℕ, zero, suc, ◌+◌, ◌-◌, ◌<◌, ◌≤◌, refl, sym, subst, ap, ◌∙◌, List, [], ◌∷◌, ◌++◌, length, get_or, replicate, Vec, arith}
use Rattle.std.specs.Prelude.{ℤ, pos, negsuc, neg_ℤ, ◌+ℤ◌, ◌-ℤ◌, ◌*ℤ◌}
use Rattle.std.proofs.lemmas.Int.{ints}
use Rattle.std.proofs.lemmas.List.{replicate_more}
use Rattle.trunc_series.specs.declared.arithmetic.Arithmetic.{Arithmetic}
use Rattle.trunc_series.specs.declared.arithmetic.Arithmetic.TheVariants.{Wrapping, Saturating}
use Rattle.trunc_series.specs.Arithmetic.{kept, IsKeepable}
use Rattle.trunc_series.proofs.Kept.{keepable-zero, keepable-one, kept-zero, kept-one, kept-add_left, kept-add_right, keepable-kept, kept-mul_left}
use Rattle.degree_theory.specs.Parts.{choose, multichoose}
use Rattle.power_tables.specs.declared.rows.Family.{Family}
use Rattle.power_tables.specs.declared.rows.Family.TheVariants.{Above, Below, Multisets}
use Rattle.power_tables.specs.Rows.{rule_of, factor_of, IsBinomialRow, IsFullRow, AreBinomialRows, HasFactors}
use Rattle.power_tables.specs.Tables.{factor}
use Rattle.power_tables.specs.declared.rows.Binomials.{Binomials}
use Rattle.power_tables.specs.Binomials.{AreBinomials, rows_in}
use Rattle.power_tables.specs.Kept.{AreKeepable, numbers_of}
use Rattle.std.specs.Global.{Global}

kept-sum : (rule : Arithmetic) (x y a b : ℤ) → IsKeepable rule a → IsKeepable rule b → x ≡ kept rule a → y ≡ kept rule b → kept rule (x +ℤ y) ≡ kept rule (a +ℤ b)
kept-sum rule x y a b h k e g =
    ap (λ z. kept rule (z +ℤ y)) e ∙ ap (λ z. kept rule (kept rule a +ℤ z)) g ∙ kept-add_left rule a (kept rule b) h (keepable-kept rule b k) ∙ kept-add_right rule a b h k

swapped : (a b : ℤ) → a +ℤ b ≡ b +ℤ a
swapped a b = omega (arith, ints)

pub above : (m q r : ℕ) (x y : ℤ) → suc q ≡ r → x ≡ kept Wrapping (choose (pos m) r) → y ≡ kept Wrapping (choose (pos m) q) → kept Wrapping (x +ℤ y) ≡ kept Wrapping (choose (pos (suc m)) r)
above m q r x y e h g =
    subst (λ (i : ℕ). kept Wrapping (x +ℤ y) ≡ kept Wrapping (choose (pos (suc m)) i)) e
    (kept-sum Wrapping x y (choose (pos m) (suc q)) (choose (pos m) q) tt tt (subst (λ (i : ℕ). x ≡ kept Wrapping (choose (pos m) i)) (sym e) h) g ∙ ap (kept Wrapping) (swapped (choose (pos m) (suc q)) (choose (pos m) q)))

less : (a b : ℤ) → a +ℤ b *ℤ negsuc 0 ≡ a -ℤ b
less a b = omega (arith, ints)

down : (m q : ℕ) → choose (neg_ℤ (pos m)) (suc q) -ℤ choose (neg_ℤ (pos (suc m))) q ≡ choose (neg_ℤ (pos (suc m))) (suc q)
down zero q = none (choose (negsuc zero) q)
  where
    none : (a : ℤ) → pos 0 -ℤ a ≡ neg_ℤ a
    none a = omega (arith, ints)
down (suc m) q = refl

pub below : (m q r : ℕ) (x y z : ℤ) → suc q ≡ r → x ≡ kept Wrapping (choose (neg_ℤ (pos m)) r) → y ≡ kept Wrapping (choose (neg_ℤ (pos (suc m))) q) → z ≡ kept Wrapping (y *ℤ negsuc 0)
    → kept Wrapping (x +ℤ z) ≡ kept Wrapping (choose (neg_ℤ (pos (suc m))) r)
below m q r x y z e h g k =
    let b : ℤ = choose (neg_ℤ (pos (suc m))) q in
    subst (λ (i : ℕ). kept Wrapping (x +ℤ z) ≡ kept Wrapping (choose (neg_ℤ (pos (suc m))) i)) e
    (kept-sum Wrapping x z (choose (neg_ℤ (pos m)) (suc q)) (b *ℤ negsuc 0) tt tt (subst (λ (i : ℕ). x ≡ kept Wrapping (choose (neg_ℤ (pos m)) i)) (sym e) h)
    (k ∙ ap (λ w. kept Wrapping (w *ℤ negsuc 0)) g ∙ kept-mul_left Wrapping b (negsuc 0) tt tt)
    ∙ ap (kept Wrapping) (less (choose (neg_ℤ (pos m)) (suc q)) b ∙ down m q))

pub multisets : (m q r : ℕ) (x y : ℤ) → suc q ≡ r → x ≡ kept Saturating (pos (multichoose m r)) → y ≡ kept Saturating (pos (multichoose (suc m) q)) → kept Saturating (x +ℤ y) ≡ kept Saturating (pos (multichoose (suc m) r))
multisets m q r x y e h g =
    subst (λ (i : ℕ). kept Saturating (x +ℤ y) ≡ kept Saturating (pos (multichoose (suc m) i))) e
    (kept-sum Saturating x y (pos (multichoose m (suc q))) (pos (multichoose (suc m) q)) (omega (arith, ints)) (omega (arith, ints)) (subst (λ (i : ℕ). x ≡ kept Saturating (pos (multichoose m i))) (sym e) h) g
    ∙ ap (kept Saturating) (put-together (multichoose m (suc q)) (multichoose (suc m) q)))
  where
    put-together : (a b : ℕ) → pos a +ℤ pos b ≡ pos (a + b)
    put-together a b = omega (arith, ints)

-- one number more
pub row-more : (P : ℕ → ℤ → Type 0) (next : List ℤ) (x : ℤ) → ((r : ℕ) → r < length next → P r (get_or next r (pos 0))) → P (length next) x → (r : ℕ) → r < length (next ++ x ∷ []) → P r (get_or (next ++ x ∷ []) r (pos 0))
row-more P [] x g e zero l = e
row-more P [] x g e (suc r) l = absurd (omega (arith, l))
row-more P (y ∷ next) x g e zero l = g 0 (omega arith)
row-more P (y ∷ next) x g e (suc r) l = row-more (λ s z. P (suc s) z) next x (λ s k. g (suc s) (omega (arith, k))) e r (omega (arith, l))

-- ---- lists of rows

zero-at : (n r : ℕ) → get_or (replicate n (pos 0)) r (pos 0) ≡ pos 0
zero-at zero r = refl
zero-at (suc n) zero = refl
zero-at (suc n) (suc r) = zero-at n r

zeros-keepable : (rule : Arithmetic) (n : ℕ) → AreKeepable rule (replicate n (pos 0))
zeros-keepable rule zero = tt
zeros-keepable rule (suc n) = (keepable-zero rule, zeros-keepable rule n)

first-numbers : (family : Family) (n : ℕ) → IsBinomialRow family 0 (pos 1 ∷ replicate n (pos 0))
first-numbers Above n zero l = sym (kept-one Wrapping)
first-numbers Below n zero l = sym (kept-one Wrapping)
first-numbers Multisets n zero l = sym (kept-one Saturating)
first-numbers Above n (suc r) l = zero-at n r ∙ sym (kept-zero Wrapping)
first-numbers Below n (suc r) l = zero-at n r ∙ sym (kept-zero Wrapping)
first-numbers Multisets n (suc r) l = zero-at n r ∙ sym (kept-zero Saturating)

pub first-whole : (family : Family) → IsFullRow family 0 (pos 1 ∷ replicate 24 (pos 0))
first-whole family = record { width = refl; keepable = (keepable-one (rule_of family), zeros-keepable (rule_of family) 24); numbers = first-numbers family 24 }

pub rows-at : (family : Family) (m i : ℕ) (rows : List (Vec ℤ Global)) (d : Vec ℤ Global) → i < length rows → AreBinomialRows family m rows → IsFullRow family (m + i) (numbers_of (get_or rows i d))
rows-at family m i [] d l h = absurd (omega (arith, l))
rows-at family m zero (row ∷ rows) d l h = subst (λ (j : ℕ). IsFullRow family j (numbers_of row)) (let e : m ≡ m + 0 = omega arith in e) h.0
rows-at family m (suc i) (row ∷ rows) d l h = subst (λ (j : ℕ). IsFullRow family j (numbers_of (get_or rows i d))) (let e : suc m + i ≡ m + suc i = omega arith in e) (rows-at family (suc m) i rows d (omega (arith, l)) h.1)

pub rows-push : (family : Family) (m j : ℕ) (rows : List (Vec ℤ Global)) (row : Vec ℤ Global) → AreBinomialRows family m rows → m + length rows ≡ j → IsFullRow family j (numbers_of row) → AreBinomialRows family m (rows ++ row ∷ [])
rows-push family m j [] row h e w = (subst (λ (i : ℕ). IsFullRow family i (numbers_of row)) (let q : j ≡ m = omega (arith, e) in q) w, tt)
rows-push family m j (r ∷ rows) row h e w = (h.0, rows-push family (suc m) j rows row h.1 (omega (arith, e)) w)

pub replicate-push : (x c : ℤ) (i : ℕ) → 1 ≤ i → (x ∷ replicate (i - 1) c) ++ c ∷ [] ≡ x ∷ replicate (i + 1 - 1) c
replicate-push x c i h = ap (λ r. x ∷ r) (replicate_more (i - 1) c ∙ ap (λ (j : ℕ). replicate j c) (let d : i - 1 + 1 ≡ i + 1 - 1 = omega (arith, h) in d))

-- a row has the numbers of the powers whose family it is of
pub row-factors : (rule : Arithmetic) (n : ℤ) (family : Family) (m : ℕ) (row : List ℤ) → rule_of family ≡ rule → ((r : ℕ) → factor_of family m r ≡ factor rule n r) → IsFullRow family m row → HasFactors rule n row
row-factors rule n family m row e f h = record {
  keepable = subst (λ (a : Arithmetic). AreKeepable a row) e h.keepable;
  each = λ r l. h.numbers r l ∙ ap (λ (a : Arithmetic). kept a (factor_of family m r)) e ∙ ap (kept rule) (f r);
}

pub kept-rows : (family : Family) (b : Binomials) → AreBinomials b → AreBinomialRows family 0 (rows_in family b)
kept-rows Above b h = h.above
kept-rows Below b h = h.below
kept-rows Multisets b h = h.multisets
