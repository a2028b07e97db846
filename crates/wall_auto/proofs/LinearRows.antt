-- Rows of a table without higher powers: the term is multiplied by the exponent once, and the numbers of u are taken as they stand.
use Rattle.std.proofs.Common.{◌≡◌, ℕ, suc, ◌≤◌, refl, sym, subst, ap, ◌∙◌, Bool, true, false, cond, List, [], ◌∷◌, map, length, arith}
use Rattle.std.specs.Prelude.{ℤ, pos, ◌+ℤ◌, ◌*ℤ◌}
use Rattle.std.proofs.lemmas.Int.{ints}
use native.Mathlib.Decide.{dec_le}
use Rattle.sum_algebra.proofs.Ring.{ring, nought}
use Rattle.sum_algebra.proofs.IntegerRing.{ints_ring, ◌:+◌, ◌:*◌, X, Y, Z}
use Rattle.scattering.specs.Collections.{Every}
use Rattle.scattering.specs.Series.{Key, Term, Sum, coef, degree, key_eq, key_mul, term_mul}
use Rattle.scattering.specs.ThetaProduct.{of_degree}
use Rattle.trunc_series.specs.declared.arithmetic.Arithmetic.{Arithmetic}
use Rattle.trunc_series.specs.declared.arithmetic.Arithmetic.TheVariants.{Wrapping, Saturating}
use Rattle.trunc_series.specs.declared.key.Key.{Key as CodeKey}
use Rattle.trunc_series.specs.Arithmetic.{kept, IsKeepable}
use Rattle.trunc_series.specs.Shown.{key_of, term_of}
use Rattle.trunc_series.proofs.Kept.{keepable-mul, keepable-kept, kept-mul_left}
use Rattle.trunc_series.specs.Sums.{AddsRow, row_sum}
use Rattle.trunc_series.proofs.TermLists.{keepable-values}
use Rattle.degree_theory.specs.Parts.{scaled}
use Rattle.degree_theory.proofs.PartLaws.{part-is-read}
use Rattle.power_tables.specs.Parts.{multiplier}
use Rattle.power_tables.specs.Tables.{SeenTable, IsLinear, AreLinear, keys_at, numbers_at, column_sum, first_factor}
use Rattle.power_tables.proofs.Alike.{Alike, Keepable, alike-refl, alike-trans, alike-append}
use Rattle.wall_auto.specs.ByDegree.{part, AreKept}
use Rattle.wall_auto.specs.Gains.{GetsRows, GainsTerm}
use Rattle.wall_auto.proofs.PartRows.{part-kept, column-keys}
use Rattle.wall_auto.proofs.PartSums.{other-degree, part-keepable, row-alike}

pub factor-keepable : (rule : Arithmetic) (n : ℤ) → IsKeepable rule (first_factor rule n)
factor-keepable Wrapping n = tt
factor-keepable Saturating n = omega (arith, ints)

module _ (rule : Arithmetic) (m : ℤ) (hm : IsKeepable rule m) where
  scaled-coef : (f : Sum) (k : Key) → coef (scaled m f) k ≡ m *ℤ coef f k
  scaled-coef [] k = ring ints_ring (m ∷ []) nought (X :* nought) refl
  scaled-coef (t ∷ f) k = ap (λ c. cond (key_eq t.0 k) (m *ℤ t.1) (pos 0) +ℤ c) (scaled-coef f k) ∙ go (key_eq t.0 k)
    where
      go : (b : Bool) → cond b (m *ℤ t.1) (pos 0) +ℤ m *ℤ coef f k ≡ m *ℤ (cond b t.1 (pos 0) +ℤ coef f k)
      go true = ring ints_ring (m ∷ t.1 ∷ coef f k ∷ []) (X :* Y :+ X :* Z) (X :* (Y :+ Z)) refl
      go false = ring ints_ring (m ∷ coef f k ∷ []) (nought :+ X :* Y) (X :* (nought :+ Y)) refl

  scaled-keepable : (f : Sum) → Keepable rule f → Keepable rule (scaled m f)
  scaled-keepable [] h = tt
  scaled-keepable (t ∷ f) h = (keepable-mul rule m t.1 hm h.0, scaled-keepable f h.1)

  scaled-every : (P : Key → Type 0) (f : Sum) → Every (λ t. P t.0) f → Every (λ t. P t.0) (scaled m f)
  scaled-every P [] h = tt
  scaled-every P (t ∷ f) h = (h.0, scaled-every P f h.1)

  -- a term that is multiplied first gives the row of the products
  multiplied-row : (x : Term) (f : Sum) → IsKeepable rule x.1 → Keepable rule f → Alike rule (map (term_mul (x.0, kept rule (m *ℤ x.1))) f) (map (term_mul x) (scaled m f))
  multiplied-row x [] h hf = alike-refl rule [] tt
  multiplied-row x (u ∷ f) h hf =
      let p : IsKeepable rule (m *ℤ x.1) = keepable-mul rule m x.1 hm h in
      let a : IsKeepable rule (kept rule (m *ℤ x.1) *ℤ u.1) = keepable-mul rule (kept rule (m *ℤ x.1)) u.1 (keepable-kept rule (m *ℤ x.1) p) hf.0 in
      let b : IsKeepable rule (x.1 *ℤ (m *ℤ u.1)) = keepable-mul rule x.1 (m *ℤ u.1) h (keepable-mul rule m u.1 hm hf.0) in
      let e : kept rule (kept rule (m *ℤ x.1) *ℤ u.1) ≡ kept rule (x.1 *ℤ (m *ℤ u.1)) =
      kept-mul_left rule (m *ℤ x.1) u.1 p hf.0 ∙ ap (kept rule) (ring ints_ring (m ∷ x.1 ∷ u.1 ∷ []) ((X :* Y) :* Z) (Y :* (X :* Z)) refl) in
      alike-append rule ((key_mul x.0 u.0, kept rule (m *ℤ x.1) *ℤ u.1) ∷ []) ((key_mul x.0 u.0, x.1 *ℤ (m *ℤ u.1)) ∷ []) (map (term_mul (x.0, kept rule (m *ℤ x.1))) f) (map (term_mul x) (scaled m f))
      record { left = (a, tt); right = (b, tt); same = λ k. single (kept rule (m *ℤ x.1) *ℤ u.1) (x.1 *ℤ (m *ℤ u.1)) e (key_eq (key_mul x.0 u.0) k) } (multiplied-row x f h hf.1)
    where
      single : (y w : ℤ) → kept rule y ≡ kept rule w → (b : Bool) → kept rule (cond b y (pos 0) +ℤ pos 0) ≡ kept rule (cond b w (pos 0) +ℤ pos 0)
      single y w e true = ap (kept rule) (none y) ∙ e ∙ ap (kept rule) (sym (none w))
        where
          none : (c : ℤ) → c +ℤ pos 0 ≡ c
          none c = omega (arith, ints)
      single y w e false = refl

-- the numbers, multiplied, are the part of the power
scaled-part : (rule : Arithmetic) (t : SeenTable) (f : Sum) (i : ℕ) (n : ℤ) → AreLinear rule i f t i → Every (λ k. degree (key_of k) ≡ i) (keys_at t i)
    → Alike rule (scaled (first_factor rule n) (column_sum (keys_at t i) (numbers_at t i))) (of_degree i (multiplier rule i f n))
scaled-part rule t f i n h d =
    let C : Sum = column_sum (keys_at t i) (numbers_at t i) in
    let m : ℤ = first_factor rule n in
    let q = factor-keepable rule n in
    let low = scaled-every rule (first_factor rule n) q (λ x. degree x ≡ i) C (column-keys (λ x. degree x ≡ i) t i (numbers_at t i) d) in
    record {
      left = scaled-keepable rule m q C (keepable-values rule C h.values);
      right = part-keepable rule i (multiplier rule i f n) (h.keepable n);
      same = λ k. elim (same_degree (degree k) i) [
        | yes e ↦ ap (kept rule) (scaled-coef rule m q C k) ∙ h.same n k e ∙ ap (kept rule) (sym ((part-is-read i (multiplier rule i f n) k).0 e))
        | no o ↦ ap (kept rule) (other-degree i (scaled m C) k low o ∙ sym ((part-is-read i (multiplier rule i f n) k).1 o))
      ];
    }
  where
    same_degree : (a b : ℕ) → Dec (a ≡ b)
    same_degree a b = elim (dec_le a b) [
      | yes l ↦ elim (dec_le b a) [ yes m ↦ yes (omega (arith, l, m)) | no m ↦ no (λ e. m (omega (arith, e))) ]
      | no l ↦ no (λ e. l (omega (arith, e)))
    ]

pub linear-gained : (t : SeenTable) (x : CodeKey × ℤ) (c n : ℤ) (old new : List Sum) → c ≡ kept t.rule (first_factor t.rule n *ℤ x.1) → IsLinear t → length old ≤ t.order → IsKeepable t.rule x.1 → AreKept t.rule old
    → GetsRows t (numbers_at t) (x.0, c) old new → GainsTerm t n (term_of x) old new
linear-gained t x c n old new q linear o h k g f is j l low =
    let i : ℕ = suc j in
    let L = is.linear linear (suc j) low (omega (arith, l, o)) in
    let C : Sum = column_sum (keys_at t (suc j)) (numbers_at t (suc j)) in
    let m : ℤ = first_factor t.rule n in
    let a : AddsRow t.rule (part old j) (part new j) (x.0, kept t.rule (first_factor t.rule n *ℤ x.1)) (keys_at t (suc j)) (numbers_at t (suc j)) =
    subst (λ (y : ℤ). AddsRow t.rule (part old j) (part new j) (x.0, y) (keys_at t (suc j)) (numbers_at t (suc j))) q (g j l low) in
    let M : Sum = of_degree (suc j) (multiplier t.rule (suc j) f n) in
    let row = alike-trans t.rule (row_sum (x.0, kept t.rule (first_factor t.rule n *ℤ x.1)) (keys_at t (suc j)) (numbers_at t (suc j))) (map (term_mul (term_of x)) (scaled m C)) (map (term_mul (term_of x)) M)
    (multiplied-row t.rule m (factor-keepable t.rule n) (term_of x) C h (keepable-values t.rule C L.values))
    (row-alike t.rule (term_of x) (scaled m C) M h (scaled-part t.rule t f i n L (is.degrees (suc j) low))) in
    let p = keepable-values t.rule (part old j) (part-kept t.rule old j k) in
    let both = alike-append t.rule (row_sum (x.0, kept t.rule (first_factor t.rule n *ℤ x.1)) (keys_at t (suc j)) (numbers_at t (suc j))) (map (term_mul (term_of x)) M) (part old j) (part old j) row (alike-refl t.rule (part old j) p) in
    record { values = a.values; keepable = both.right; same = λ y. a.same y ∙ both.same y }
