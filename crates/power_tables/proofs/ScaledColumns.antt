-- Values to which columns times numbers are added.
use Rattle.std.proofs.Common.{◌≡◌, ℕ, zero, suc, ◌<◌, ◌≤◌, refl, sym, subst, ap, ◌∙◌, Bool, true, false, cond, List, [], ◌∷◌, length, get_or, set, take, arith}
use Rattle.std.specs.Prelude.{ℤ, pos, ◌+ℤ◌, ◌*ℤ◌}
use Rattle.std.proofs.lemmas.Int.{ints}
use Rattle.std.proofs.lemmas.List.{take_all}
use Rattle.scattering.specs.Collections.{Every}
use Rattle.scattering.specs.Series.{Key, coef, key_eq}
use Rattle.scattering.proofs.Pairing.{coef-append}
use Rattle.trunc_series.specs.declared.arithmetic.Arithmetic.{Arithmetic}
use Rattle.trunc_series.specs.declared.key.Key.{Key as CodeKey}
use Rattle.trunc_series.specs.Arithmetic.{kept, IsKeepable}
use Rattle.trunc_series.specs.Shown.{key_of}
use Rattle.trunc_series.proofs.Coefficients.{keepable-coef}
use Rattle.trunc_series.proofs.Kept.{keepable-add, keepable-mul, keepable-kept, keepable-zero, kept-kept, kept-add_right, kept-same_left, kept-same_right}
use Rattle.trunc_series.specs.Sums.{AreKeptValues}
use Rattle.trunc_series.proofs.TermLists.{keepable-values, value-kept}
use Rattle.degree_theory.specs.Parts.{scaled}
use Rattle.power_tables.specs.Kept.{AreKeepable}
use Rattle.power_tables.specs.Tables.{column_sum}
use Rattle.power_tables.specs.Rows.{AddsAt, AddsScaled}
use Rattle.power_tables.proofs.Combinations.{scaled-keepable}
use Rattle.power_tables.proofs.Powers.{every-take}

module _ (rule : Arithmetic) (c : ℤ) where
  -- as the code adds them
  abbrev pub added : List ℤ → List ℤ → List ℤ
  added [] xs = []
  added (v ∷ vs) [] = v ∷ vs
  added (v ∷ vs) (x ∷ xs) = kept rule (v +ℤ kept rule (c *ℤ x)) ∷ added vs xs

  pub added-none : (vs : List ℤ) → added vs [] ≡ vs
  added-none [] = refl
  added-none (v ∷ vs) = refl

  pub added-length : (vs xs : List ℤ) → length (added vs xs) ≡ length vs
  added-length [] xs = refl
  added-length (v ∷ vs) [] = refl
  added-length (v ∷ vs) (x ∷ xs) = ap suc (added-length vs xs)

  pub added-step : (vs xs : List ℤ) (i n : ℕ) (d e : ℤ) → i < length xs → length xs ≤ length vs → suc i ≡ n
      → set (added vs (take i xs)) i (kept rule (get_or (added vs (take i xs)) i d +ℤ kept rule (c *ℤ get_or xs i e))) ≡ added vs (take n xs)
  added-step vs [] i n d e h l q = absurd (omega (arith, h))
  added-step [] (x ∷ xs) i n d e h l q = absurd (omega (arith, l))
  added-step (v ∷ vs) (x ∷ xs) zero n d e h l q = subst (λ (m : ℕ). kept rule (v +ℤ kept rule (c *ℤ x)) ∷ vs ≡ added (v ∷ vs) (take m (x ∷ xs))) q (ap (λ (r : List ℤ). kept rule (v +ℤ kept rule (c *ℤ x)) ∷ r) (sym (added-none vs)))
  added-step (v ∷ vs) (x ∷ xs) (suc i) n d e h l q =
      subst (λ (m : ℕ). kept rule (v +ℤ kept rule (c *ℤ x)) ∷ set (added vs (take i xs)) i (kept rule (get_or (added vs (take i xs)) i d +ℤ kept rule (c *ℤ get_or xs i e))) ≡ added (v ∷ vs) (take m (x ∷ xs))) q
      (ap (λ (r : List ℤ). kept rule (v +ℤ kept rule (c *ℤ x)) ∷ r) (added-step vs xs i (suc i) d e (omega (arith, h)) (omega (arith, l)) refl))

  pub added-keepable : (vs xs : List ℤ) → IsKeepable rule c → AreKeepable rule vs → AreKeepable rule xs → AreKeepable rule (added vs xs)
  added-keepable [] xs h a b = tt
  added-keepable (v ∷ vs) [] h a b = a
  added-keepable (v ∷ vs) (x ∷ xs) h a b =
      let p = keepable-mul rule c x h b.0 in
      (keepable-kept rule (v +ℤ kept rule (c *ℤ x)) (keepable-add rule v (kept rule (c *ℤ x)) a.0 (keepable-kept rule (c *ℤ x) p)), added-keepable vs xs h a.1 b.1)

  added-values : (ks : List CodeKey) (vs xs : List ℤ) → IsKeepable rule c → AreKeepable rule xs → AreKeptValues rule (column_sum ks vs) → AreKeptValues rule (column_sum ks (added vs xs))
  added-values [] [] xs h b a = tt
  added-values [] (v ∷ vs) [] h b a = tt
  added-values [] (v ∷ vs) (x ∷ xs) h b a = tt
  added-values (k ∷ ks) [] xs h b a = tt
  added-values (k ∷ ks) (v ∷ vs) [] h b a = a
  added-values (k ∷ ks) (v ∷ vs) (x ∷ xs) h b a =
      let p = keepable-mul rule c x h b.0 in
      (value-kept rule (v +ℤ kept rule (c *ℤ x)) (keepable-add rule v (kept rule (c *ℤ x)) a.0.1 (keepable-kept rule (c *ℤ x) p)), added-values ks vs xs h b.1 a.1)

  pub column-keepable : (ks : List CodeKey) (xs : List ℤ) → AreKeepable rule xs → Every (λ t. IsKeepable rule t.1) (column_sum ks xs)
  column-keepable [] [] b = tt
  column-keepable [] (x ∷ xs) b = tt
  column-keepable (k ∷ ks) [] b = tt
  column-keepable (k ∷ ks) (x ∷ xs) b = (b.0, column-keepable ks xs b.1)

  four : (a b d e : ℤ) → (a +ℤ b) +ℤ (d +ℤ e) ≡ (a +ℤ d) +ℤ (b +ℤ e)
  four a b d e = omega (arith, ints)

  plain : (z : ℤ) → z ≡ pos 0 +ℤ z
  plain z = omega (arith, ints)

  when : (b : Bool) (x : ℤ) → IsKeepable rule x → IsKeepable rule (cond b x (pos 0))
  when true x h = h
  when false x h = keepable-zero rule

  swapped : (a b : ℤ) → a +ℤ b ≡ b +ℤ a
  swapped a b = omega (arith, ints)

  head-kept : (b : Bool) (v x : ℤ) → IsKeepable rule v → IsKeepable rule (c *ℤ x) → kept rule (cond b (kept rule (v +ℤ kept rule (c *ℤ x))) (pos 0)) ≡ kept rule (cond b (c *ℤ x) (pos 0) +ℤ cond b v (pos 0))
  head-kept true v x h p = kept-kept rule (v +ℤ kept rule (c *ℤ x)) ∙ kept-add_right rule v (c *ℤ x) h p ∙ ap (kept rule) (swapped v (c *ℤ x))
  head-kept false v x h p = refl

  pub joined : (a a' b b' : ℤ) → IsKeepable rule a → IsKeepable rule a' → IsKeepable rule b → IsKeepable rule b' → kept rule a ≡ kept rule a' → kept rule b ≡ kept rule b' → kept rule (a +ℤ b) ≡ kept rule (a' +ℤ b')
  joined a a' b b' h h' g g' p q = kept-same_left rule a a' b h h' g p ∙ kept-same_right rule a' b b' h' g g' q

  added-same : (ks : List CodeKey) (vs xs : List ℤ) → IsKeepable rule c → length xs ≤ length vs → AreKeepable rule vs → AreKeepable rule xs → AreKeptValues rule (column_sum ks vs) → (y : Key)
      → kept rule (coef (column_sum ks (added vs xs)) y) ≡ kept rule (coef (scaled c (column_sum ks xs)) y +ℤ coef (column_sum ks vs) y)
  added-same [] [] [] h l a b e y = refl
  added-same [] [] (x ∷ xs) h l a b e y = refl
  added-same [] (v ∷ vs) [] h l a b e y = refl
  added-same [] (v ∷ vs) (x ∷ xs) h l a b e y = refl
  added-same (k ∷ ks) [] [] h l a b e y = refl
  added-same (k ∷ ks) [] (x ∷ xs) h l a b e y = absurd (omega (arith, l))
  added-same (k ∷ ks) (v ∷ vs) [] h l a b e y = ap (kept rule) (plain (coef (column_sum (k ∷ ks) (v ∷ vs)) y))
  added-same (k ∷ ks) (v ∷ vs) (x ∷ xs) h l a b e y =
      let t : Bool = key_eq (key_of k) y in
      let S : ℤ = coef (scaled c (column_sum ks xs)) y in
      let T : ℤ = coef (column_sum ks vs) y in
      let p = keepable-mul rule c x h b.0 in
      let u : IsKeepable rule (kept rule (v +ℤ kept rule (c *ℤ x))) = keepable-kept rule (v +ℤ kept rule (c *ℤ x)) (keepable-add rule v (kept rule (c *ℤ x)) a.0 (keepable-kept rule (c *ℤ x) p)) in
      let s : IsKeepable rule (coef (scaled c (column_sum ks xs)) y) = keepable-coef rule (scaled c (column_sum ks xs)) y (scaled-keepable rule c (column_sum ks xs) h (column-keepable ks xs b.1)) in
      let z : IsKeepable rule (coef (column_sum ks vs) y) = keepable-coef rule (column_sum ks vs) y (keepable-values rule (column_sum ks vs) e.1) in
      let n : IsKeepable rule (coef (column_sum ks (added vs xs)) y) = keepable-coef rule (column_sum ks (added vs xs)) y (keepable-values rule (column_sum ks (added vs xs)) (added-values ks vs xs h b.1 e.1)) in
      joined (cond t (kept rule (v +ℤ kept rule (c *ℤ x))) (pos 0)) (cond t (c *ℤ x) (pos 0) +ℤ cond t v (pos 0)) (coef (column_sum ks (added vs xs)) y) (coef (scaled c (column_sum ks xs)) y +ℤ coef (column_sum ks vs) y)
      (when t (kept rule (v +ℤ kept rule (c *ℤ x))) u) (keepable-add rule (cond t (c *ℤ x) (pos 0)) (cond t v (pos 0)) (when t (c *ℤ x) p) (when t v a.0)) n (keepable-add rule S T s z)
      (head-kept t v x a.0 p) (added-same ks vs xs h (omega (arith, l)) a.1 b.1 e.1 y)
      ∙ ap (kept rule) (four (cond t (c *ℤ x) (pos 0)) (cond t v (pos 0)) S T)

  pub adds-scaled : (vs xs : List ℤ) → IsKeepable rule c → length xs ≤ length vs → AreKeepable rule vs → AreKeepable rule xs → AddsScaled rule c xs vs (added vs xs)
  adds-scaled vs xs h l a b = record {
    lengths = added-length vs xs;
    sums = λ ks n e. (added-values ks vs xs h b e, λ y. added-same ks vs xs h l a b e y ∙ ap (kept rule) (sym (coef-append (scaled c (column_sum ks xs)) (column_sum ks vs) y)));
  }

  -- ---- on the way through a column

  -- what is added of the first of it
  pub added-so_far : (vs xs cur : List ℤ) (i : ℕ) → cur ≡ added vs (take i xs) → i < length xs → length xs ≤ length vs → i < length cur
  added-so_far vs xs cur i e h l = let a = ap length e ∙ added-length vs (take i xs) in omega (arith, a, h, l)

  pub so_far-keepable : (vs xs cur : List ℤ) (i : ℕ) → cur ≡ added vs (take i xs) → IsKeepable rule c → AreKeepable rule vs → AreKeepable rule xs → AreKeepable rule cur
  so_far-keepable vs xs cur i e h a b = subst (AreKeepable rule) (sym e) (added-keepable vs (take i xs) h a (every-take (IsKeepable rule) xs i b))

  -- one number more
  pub so_far-next : (vs xs cur new : List ℤ) (i n : ℕ) (x : ℤ) → cur ≡ added vs (take i xs) → x ≡ get_or xs i (pos 0) → i < length xs → length xs ≤ length vs → suc i ≡ n → AddsAt rule c x i cur new → new ≡ added vs (take n xs)
  so_far-next vs xs cur new i n x e q h l m s =
      s ∙ ap (λ (us : List ℤ). set us i (kept rule (get_or us i (pos 0) +ℤ kept rule (c *ℤ x)))) e
      ∙ ap (λ (y : ℤ). set (added vs (take i xs)) i (kept rule (get_or (added vs (take i xs)) i (pos 0) +ℤ kept rule (c *ℤ y)))) q
      ∙ added-step vs xs i n (pos 0) (pos 0) h l m

  -- all of it
  pub all-added : (vs xs cur : List ℤ) (i : ℕ) → cur ≡ added vs (take i xs) → length xs ≤ i → IsKeepable rule c → length xs ≤ length vs → AreKeepable rule vs → AreKeepable rule xs → AddsScaled rule c xs vs cur
  all-added vs xs cur i e m h l a b = subst (λ (us : List ℤ). AddsScaled rule c xs vs us) (sym (e ∙ ap (added vs) (take_all i xs m))) (adds-scaled vs xs h l a b)
