-- What parts gain where a wall is crossed: from rows to terms, from terms to parts, and from parts to the crossing.
use Rattle.std.proofs.Common.{◌≡◌, ℕ, zero, suc, ◌+◌, ◌-◌, ◌*◌, ◌<◌, ◌≤◌, refl, sym, subst, ap, ◌∙◌, Bool, true, false, cond, List, [], ◌∷◌, ◌++◌, map, take, length, arith}
use Rattle.std.specs.Prelude.{ℤ, pos, ◌+ℤ◌, ◌*ℤ◌, ◌==◌, nat_abs}
use Rattle.std.proofs.lemmas.Int.{ints}
use Rattle.std.proofs.lemmas.List.{take_more}
use native.Mathlib.Decide.{dec_le}
use Rattle.scattering.specs.Collections.{Every}
use Rattle.scattering.specs.Series.{Exp, Key, Term, Sum, degree, key_mul, coef, det, term_mul, one, unit}
use Rattle.scattering.specs.ThetaProduct.{of_degree}
use Rattle.scattering.proofs.Lists.{Every-append, Every-implies, Every-images, Every-left, Every-right}
use Rattle.scattering.proofs.Pairing.{coef-append}
use Rattle.scattering.proofs.ShiftedSums.{degree-mul}
use Rattle.trunc_series.specs.declared.arithmetic.Arithmetic.{Arithmetic}
use Rattle.trunc_series.specs.declared.arithmetic.Arithmetic.TheVariants.{Wrapping, Saturating}
use Rattle.trunc_series.specs.declared.key.Key.{Key as CodeKey}
use Rattle.trunc_series.specs.Arithmetic.{IsKeepable}
use Rattle.trunc_series.specs.Shown.{key_of, term_of, sum_of}
use Rattle.trunc_series.specs.Reduced.{Terms}
use Rattle.trunc_series.proofs.Terms.{at, no_term, sum_of-append}
use Rattle.trunc_series.specs.Sums.{AreKeptValues, AddsRow, row_sum}
use Rattle.trunc_series.proofs.TermLists.{keepable-values, stands-every}
use Rattle.degree_theory.specs.Parts.{substituted, partial_convolution}
use Rattle.power_tables.specs.Parts.{multiplier}
use Rattle.power_tables.specs.Tables.{SeenTable, IsTableOf, ArePowerValues, TableGrowsBy, keys_at, column_sum}
use Rattle.power_tables.specs.Values.{SeenValues, AreReached, values_in}
use Rattle.wall_auto.specs.ByDegree.{part, KeyGrowsBy, AreKept, IsTable}
use Rattle.wall_auto.specs.Gains.{factor_at, Keeps, GetsRows, LowPartsStay, GainsTerm, GainsTerms, KeepsGrowth}
use Rattle.power_tables.proofs.Alike.{Keepable, alike-refl, alike-trans, alike-append, alike-then}
use Rattle.wall_auto.proofs.PartRows.{part-kept, kept-parts, column-keys}
use Rattle.wall_auto.proofs.PartSums.{multiplier-keepable, part-keepable, keeps-alike, alike-keeps, keeps-itself, part-alike, row-alike, row-nothing, substituted-keepable, substituted-more}

-- ---- a term

-- 1 has no part of a degree above 0
no-unit : (j : ℕ) → of_degree (suc j) one ≡ []
no-unit j = go (degree unit == suc j) refl
  where
    go : (b : Bool) → (degree unit == suc j) ≡ b → cond b one [] ≡ []
    go false q = refl
    go true q = absurd (grind arith)

module _ (t : SeenTable) (x : CodeKey × ℤ) (n : ℤ) where
  -- a row that is added is a part of the power, times the term
  pub row-gained : (f : Sum) (i : ℕ) (vs : List ℤ) (old new : Sum) → IsTableOf t.rule t.order f t → t.least ≤ i → i ≤ t.order → ArePowerValues t n i vs → IsKeepable t.rule x.1 → AreKeptValues t.rule old
      → AddsRow t.rule old new x (keys_at t i) vs → Keeps t.rule new (map (term_mul (term_of x)) (of_degree i (multiplier t.rule i f n)) ++ old)
  row-gained f i vs old new is low high v h ho a =
      let row = row-alike t.rule (term_of x) (column_sum (keys_at t i) vs) (of_degree i (multiplier t.rule i f n)) h (part-alike t.rule i (column_sum (keys_at t i) vs) (multiplier t.rule i f n) (is.parts n i vs low high v)) in
      let both = alike-append t.rule (row_sum x (keys_at t i) vs) (map (term_mul (term_of x)) (of_degree i (multiplier t.rule i f n))) old old row (alike-refl t.rule old (keepable-values t.rule old ho)) in
      record { values = a.values; keepable = both.right; same = λ k. a.same k ∙ both.same k }

  pub rows-gained : (vs : List SeenValues) (place : ℕ) (old new : List Sum) → AreReached vs t n (length old) place → length old ≤ t.order → IsKeepable t.rule x.1 → AreKept t.rule old
      → GetsRows t (λ i. values_in vs t place i) x old new → GainsTerm t n (term_of x) old new
  rows-gained vs place old new r o h k g f is j l low =
      row-gained f (suc j) (values_in vs t place (suc j)) (part old j) (part new j) is low (omega (arith, l, o)) (r (suc j) low (omega (arith, l))) h (part-kept t.rule old j k) (g j l low)

  pub rows-kept : (V : ℕ → List ℤ) (old new : List Sum) → length new ≡ length old → AreKept t.rule old → LowPartsStay t old new → GetsRows t V x old new → AreKept t.rule new
  rows-kept V old new e k s g = kept-parts t.rule new (λ j l. elim (dec_le t.least (suc j)) [
    | yes low ↦ (g j (omega (arith, e, l)) low).values
    | no high ↦ subst (λ (p : Sum). AreKeptValues t.rule p) (sym (s j (omega (arith, high)))) (part-kept t.rule old j k)
  ])

-- ---- from the sources of degree at least s on

abbrev pub GainsFrom : SeenTable → Exp → ℤ → ℕ → List Sum → List Sum → Type 0
GainsFrom t d sign s old new = (f : Sum) → IsTableOf t.rule t.order f t → (e : ℕ) → e < length old
    → Keeps t.rule (part new e) (partial_convolution (factor_at t.rule f d sign) (part old) e t.least (suc e - (s + t.least)) ++ part old e)

module _ (t : SeenTable) (x : Term) (n : ℤ) (old : List Sum) (k : AreKept t.rule old) where
  -- where the exponent is 0, the power has no terms but 1
  pub none-gained : n ≡ pos 0 → GainsTerm t n x old old
  none-gained z f is j l low =
      subst (λ (m : ℤ). Keeps t.rule (part old j) (map (term_mul x) (of_degree (suc j) (multiplier t.rule (suc j) f m)) ++ part old j)) (sym z)
      (subst (λ (s : Sum). Keeps t.rule (part old j) (map (term_mul x) s ++ part old j)) (sym (one-part t.rule f j)) (keeps-itself t.rule (part old j) (part-kept t.rule old j k)))
    where
      one-part : (rule : Arithmetic) (f : Sum) (j : ℕ) → of_degree (suc j) (multiplier rule (suc j) f (pos 0)) ≡ []
      one-part Wrapping f j = no-unit j
      one-part Saturating f j = no-unit j

  pub zero-gained : x.1 ≡ pos 0 → GainsTerm t n x old old
  zero-gained z f is j l low =
      let m : Sum = of_degree (suc j) (multiplier t.rule (suc j) f n) in
      let p = part-kept t.rule old j k in
      alike-keeps t.rule (part old j) (map (term_mul x) m ++ part old j) p
      (alike-append t.rule [] (map (term_mul x) m) (part old j) (part old j) (row-nothing t.rule x m z (part-keepable t.rule (suc j) (multiplier t.rule (suc j) f n) (multiplier-keepable t.rule (suc j) f n))) (alike-refl t.rule (part old j) (keepable-values t.rule (part old j) p)))

-- ---- exponents

within-product : (c s d i : ℕ) (x y : Key) → KeyGrowsBy c s d x → (degree y ≡ i) × (nat_abs y.exp.a ≤ s * i) × (nat_abs y.exp.b ≤ s * i) → KeyGrowsBy c s (d + i) (key_mul x y)
within-product c s d i x y h k =
    let m = degree-mul x y in
    let r : s * (d + i) ≡ s * d + s * i = omega arith in
    let d1 = h.0 in
    let d2 = k.0 in
    let a = sum-within x.exp.a y.exp.a (c + s * d) (s * i) h.1 k.1 in
    let b = sum-within x.exp.b y.exp.b (c + s * d) (s * i) h.2 k.2 in
    (omega (arith, m, d1, d2), omega (arith, a, r), omega (arith, b, r))
  where
    sum-within : (a b : ℤ) (m n : ℕ) → nat_abs a ≤ m → nat_abs b ≤ n → nat_abs (a +ℤ b) ≤ m + n
    sum-within a b m n h k = omega (arith, ints, h, k)

both : {A : Type 0} (P Q R : A → Type 0) → ((x : A) → P x → Q x → R x) → (xs : List A) → Every P xs → Every Q xs → Every R xs
both P Q R f [] p q = tt
both P Q R f (x ∷ xs) p q = (f x p.0 q.0, both P Q R f xs p.1 q.1)

-- the keys of a table's degree
abbrev Grown : ℕ → ℕ → Key → Type 0
Grown s i y = (degree y ≡ i) × (nat_abs y.exp.a ≤ s * i) × (nat_abs y.exp.b ≤ s * i)

keys-grown : (t : SeenTable) (f : Sum) (s i : ℕ) → IsTableOf t.rule t.order f t → TableGrowsBy s t → t.least ≤ i → Every (λ k. Grown s i (key_of k)) (keys_at t i)
keys-grown t f s i is g low =
    both (λ (k : CodeKey). degree (key_of k) ≡ i) (λ (k : CodeKey). (nat_abs k.exp.a ≤ s * i) × (nat_abs k.exp.b ≤ s * i)) (λ k. Grown s i (key_of k)) (λ k d e. (d, e.0, e.1)) (keys_at t i) (is.degrees i low) (g i low)

pub rows-within : (t : SeenTable) (x : CodeKey × ℤ) (V : ℕ → List ℤ) (old new : List Sum) → IsTable t → length new ≡ length old → LowPartsStay t old new → GetsRows t V x old new → KeepsGrowth t (term_of x ∷ []) old new
rows-within t x V old new is n stays rows c s e grows h within j l = elim (dec_le t.least (suc j)) [
  | no o ↦ subst (λ (p : Sum). Every (λ u. KeyGrowsBy c s (e + suc j) u.0) p) (sym (stays j (omega (arith, o)))) (within j (omega (arith, l, n)))
  | yes low ↦
      stands-every t.rule (λ y. KeyGrowsBy c s (e + suc j) y) (part new j) (row_sum x (keys_at t (suc j)) (V (suc j)) ++ part old j) (rows j (omega (arith, l, n)) low)
      (Every-append (λ u. KeyGrowsBy c s (e + suc j) u.0) (row_sum x (keys_at t (suc j)) (V (suc j))) (part old j)
      (Every-images (λ (u : Term). KeyGrowsBy c s (e + suc j) u.0) (term_mul (term_of x)) (column_sum (keys_at t (suc j)) (V (suc j)))
      (Every-implies (λ (u : Term). Grown s (suc j) u.0) (λ u. KeyGrowsBy c s (e + suc j) (key_mul (key_of x.0) u.0)) (column_sum (keys_at t (suc j)) (V (suc j))) (λ u g. within-product c s e (suc j) (key_of x.0) u.0 h.0 g)
      (column-keys (λ y. Grown s (suc j) y) t (suc j) (V (suc j)) (keys-grown t is.0 s (suc j) is.1 grows low))))
      (within j (omega (arith, l, n))))
]

-- ---- term by term

module _ (t : SeenTable) (d : Exp) (sign : ℤ) (ts : Terms) (i : ℕ) (l : i < length ts) where
  taken : sum_of (take (i + 1) ts) ≡ sum_of (take i ts) ++ term_of (at ts i) ∷ []
  taken = ap sum_of (take_more ts i no_term l) ∙ sum_of-append (take i ts) (at ts i ∷ [])

  pub more-gained : (n : ℤ) (old cur new : List Sum) → n ≡ sign *ℤ det d (key_of (at ts i).0).exp → length cur ≡ length old → AreKeptValues t.rule (sum_of ts)
      → GainsTerms t d sign (sum_of (take i ts)) old cur → GainsTerm t n (term_of (at ts i)) cur new → GainsTerms t d sign (sum_of (take (i + 1) ts)) old new
  more-gained n old cur new q e k g h f is j below low =
      let u : Term = term_of (at ts i) in
      let F : Key → Sum = λ y. factor_at t.rule f d sign (suc j) y in
      let S : Sum = substituted (λ y. factor_at t.rule f d sign (suc j) y) (sum_of (take i ts)) in
      let row : Sum = map (term_mul (term_of (at ts i))) (factor_at t.rule f d sign (suc j) (term_of (at ts i)).0) in
      let A = keeps-alike t.rule (part cur j) (S ++ part old j) (g f is j below low) in
      let K = subst (λ (m : ℤ). Keeps t.rule (part new j) (map (term_mul (term_of (at ts i))) (of_degree (suc j) (multiplier t.rule (suc j) f m)) ++ part cur j)) q (h f is j (omega (arith, below, e)) low) in
      let B = keeps-alike t.rule (part new j) (row ++ part cur j) K in
      let R = Every-left (λ v. IsKeepable t.rule v.1) row (part cur j) K.keepable in
      let both = alike-trans t.rule (part new j) (row ++ part cur j) (row ++ (S ++ part old j)) B (alike-append t.rule row row (part cur j) (S ++ part old j) (alike-refl t.rule row R) A) in
      let all : Keepable t.rule (substituted F (sum_of (take i ts) ++ u ∷ [])) =
      substituted-keepable t.rule F (sum_of (take i ts) ++ u ∷ []) (λ y. part-keepable t.rule (suc j) (multiplier t.rule (suc j) f (sign *ℤ det d y.exp)) (multiplier-keepable t.rule (suc j) f (sign *ℤ det d y.exp)))
      (subst (λ (s : Sum). Every (λ v. IsKeepable t.rule v.1) s) taken (taken-every (λ v. IsKeepable t.rule v.1) ts (i + 1) (keepable-values t.rule (sum_of ts) k))) in
      subst (λ (s : Sum). Keeps t.rule (part new j) (substituted F s ++ part old j)) (sym taken)
      (alike-keeps t.rule (part new j) (substituted F (sum_of (take i ts) ++ u ∷ []) ++ part old j) K.values
      (alike-then t.rule (part new j) (row ++ (S ++ part old j)) (substituted F (sum_of (take i ts) ++ u ∷ []) ++ part old j) both
      (Every-append (λ v. IsKeepable t.rule v.1) (substituted F (sum_of (take i ts) ++ u ∷ [])) (part old j) all (Every-right (λ v. IsKeepable t.rule v.1) S (part old j) A.right))
      (λ x.
      coef-append row (S ++ part old j) x ∙ ap (λ c. coef row x +ℤ c) (coef-append S (part old j) x)
      ∙ shift (coef row x) (coef S x) (coef (part old j) x)
      ∙ ap (λ c. c +ℤ coef (part old j) x) (sym (substituted-more F (sum_of (take i ts)) u x))
      ∙ sym (coef-append (substituted F (sum_of (take i ts) ++ u ∷ [])) (part old j) x))))
    where
      shift : (a b c : ℤ) → a +ℤ (b +ℤ c) ≡ (a +ℤ b) +ℤ c
      shift a b c = omega (arith, ints)

      taken-every : (P : Term → Type 0) (ts : Terms) (i : ℕ) → Every P (sum_of ts) → Every P (sum_of (take i ts))
      taken-every P [] zero h = tt
      taken-every P [] (suc i) h = tt
      taken-every P (t ∷ ts) zero h = tt
      taken-every P (t ∷ ts) (suc i) h = (h.0, taken-every P ts i h.1)

  pub more-within : (old cur new : List Sum) → KeepsGrowth t (sum_of (take i ts)) old cur → KeepsGrowth t (term_of (at ts i) ∷ []) cur new → KeepsGrowth t (sum_of (take (i + 1) ts)) old new
  more-within old cur new g h c s e grows within o =
      let w = subst (λ (x : Sum). Every (λ v. KeyGrowsBy c s e v.0) x) taken within in
      h c s e grows (Every-right (λ v. KeyGrowsBy c s e v.0) (sum_of (take i ts)) (term_of (at ts i) ∷ []) w) (g c s e grows (Every-left (λ v. KeyGrowsBy c s e v.0) (sum_of (take i ts)) (term_of (at ts i) ∷ []) w) o)

pub none-taken : (t : SeenTable) (d : Exp) (sign : ℤ) (old : List Sum) → AreKept t.rule old → GainsTerms t d sign [] old old
none-taken t d sign old k f is j l low = keeps-itself t.rule (part old j) (part-kept t.rule old j k)
