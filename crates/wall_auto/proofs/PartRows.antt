-- Rows added to the parts of a list, one after the other.
use Rattle.std.proofs.Common.{◌≡◌, ◌≢◌, ℕ, zero, suc, ◌+◌, ◌-◌, ◌<◌, ◌≤◌, sym, subst, ◌∙◌, List, [], ◌∷◌, length, get_or, set, zip, arith}
use Rattle.std.specs.Prelude.{ℤ, nat_abs}
use Rattle.std.proofs.lemmas.List.{get_or-set_same, get_or-set_other, get_or_default, length-set}
use native.Mathlib.Decide.{dec_le}
use Rattle.scattering.specs.Collections.{Every}
use Rattle.scattering.specs.Series.{Key, Term, Sum, degree}
use Rattle.scattering.proofs.Lists.{Every-implies}
use Rattle.trunc_series.specs.declared.arithmetic.Arithmetic.{Arithmetic}
use Rattle.trunc_series.specs.declared.key.Key.{Key as CodeKey}
use Rattle.trunc_series.specs.Arithmetic.{IsKeepable}
use Rattle.trunc_series.specs.Reduced.{IsNearKey}
use Rattle.trunc_series.specs.Shown.{key_of, term_of, sum_of, HasNearTerms}
use Rattle.trunc_series.specs.Sums.{AreKeptValues, AddsRow, CanMultiply}
use Rattle.trunc_series.proofs.TermLists.{keepable-values}
use Rattle.power_tables.specs.Tables.{SeenTable, IsTableOf, keys_at, column_sum}
use Rattle.wall_auto.specs.ByDegree.{part, AreKept}

-- ---- parts as a list

pub part-kept : (rule : Arithmetic) (parts : List Sum) (e : ℕ) → AreKept rule parts → AreKeptValues rule (part parts e)
part-kept rule [] e h = tt
part-kept rule (p ∷ parts) zero h = h.0
part-kept rule (p ∷ parts) (suc e) h = part-kept rule parts e h.1

pub kept-parts : (rule : Arithmetic) (parts : List Sum) → ((e : ℕ) → e < length parts → AreKeptValues rule (part parts e)) → AreKept rule parts
kept-parts rule [] h = tt
kept-parts rule (p ∷ parts) h = (h 0 (omega arith), kept-parts rule parts (λ e l. h (suc e) (omega (arith, l))))

-- what is read at a place, whatever else is read past the end
pub read-part : (parts : List Sum) (i : ℕ) (d : Sum) → i < length parts → get_or parts i d ≡ part parts i
read-part parts i d h = get_or_default parts i d [] h

-- ---- what a row needs

zip-keys : (P : Key → Type 0) (ks : List CodeKey) (vs : List ℤ) → Every (λ k. P (key_of k)) ks → Every (λ u. P u.0) (sum_of (zip ks vs))
zip-keys P [] vs h = tt
zip-keys P (k ∷ ks) [] h = tt
zip-keys P (k ∷ ks) (v ∷ vs) h = (h.0, zip-keys P ks vs h.1)

pub column-keys : (P : Key → Type 0) (t : SeenTable) (i : ℕ) (vs : List ℤ) → Every (λ k. P (key_of k)) (keys_at t i) → Every (λ u. P u.0) (column_sum (keys_at t i) vs)
column-keys P t i vs h = zip-keys P (keys_at t i) vs h

pub can-multiply : (t : SeenTable) (f : Sum) (x : CodeKey × ℤ) (i o : ℕ) (vs : List ℤ) → IsTableOf t.rule t.order f t → t.least ≤ i → i ≤ o → degree (key_of x.0) + o ≤ 24
    → HasNearTerms (term_of x ∷ []) → IsKeepable t.rule x.1 → AreKeptValues t.rule (column_sum (keys_at t i) vs) → CanMultiply t.rule x (zip (keys_at t i) vs)
can-multiply t f x i o vs is low high fits near k v = record {
  near = near_key near.0;
  keepable = k;
  keys = zip-keys (λ y. IsNearKey y) (keys_at t i) vs (is.near i low);
  values = keepable-values t.rule (column_sum (keys_at t i) vs) v;
  degrees = Every-implies (λ (u : Term). degree u.0 ≡ i) (λ u. degree (key_of x.0) + degree u.0 ≤ 24) (sum_of (zip (keys_at t i) vs)) (λ u e. omega (arith, e, high, fits)) (zip-keys (λ y. degree y ≡ i) (keys_at t i) vs (is.degrees i low));
}
  where
    near_key : (nat_abs (key_of x.0).exp.a ≤ 65536) × (nat_abs (key_of x.0).exp.b ≤ 65536) → IsNearKey (key_of x.0)
    near_key h = (let a = h.0 in omega (arith, a), let b = h.1 in omega (arith, b))

-- ---- one row more, of degree g

module _ (cur old : List Sum) (g : ℕ) (new : Sum) (positive : 1 ≤ g) (inside : g - 1 < length cur) where
  pub set-other : (j : ℕ) → suc j ≢ g → part cur j ≡ part old j → part (set cur (g - 1) new) j ≡ part old j
  set-other j o e = get_or-set_other cur (g - 1) j new [] (λ q. o (omega (arith, q, positive))) ∙ e

  pub set-length : length cur ≡ length old → length (set cur (g - 1) new) ≡ length old
  set-length e = length-set cur (g - 1) new ∙ e

  module _ (t : SeenTable) (V : ℕ → List ℤ) (x : CodeKey × ℤ) where
    pub more-rows : part cur (g - 1) ≡ part old (g - 1) → AddsRow t.rule (part cur (g - 1)) new x (keys_at t g) (V g)
        → ((j : ℕ) → t.least ≤ suc j → suc j < g → AddsRow t.rule (part old j) (part cur j) x (keys_at t (suc j)) (V (suc j)))
        → (j : ℕ) → t.least ≤ suc j → suc j < g + 1 → AddsRow t.rule (part old j) (part (set cur (g - 1) new) j) x (keys_at t (suc j)) (V (suc j))
    more-rows same a h j low l = elim (dec_le g (suc j)) [
      | no o ↦
          let e : part (set cur (g - 1) new) j ≡ part cur j = get_or-set_other cur (g - 1) j new [] (λ q. o (omega (arith, q, positive))) in
          subst (λ (p : Sum). AddsRow t.rule (part old j) p x (keys_at t (suc j)) (V (suc j))) (sym e) (h j low (omega (arith, o)))
      | yes m ↦
          let i : g - 1 ≡ j = omega (arith, m, l, positive) in
          let q : g ≡ suc j = omega (arith, m, l) in
          let b : AddsRow t.rule (part old j) (part (set cur (g - 1) new) j) x (keys_at t g) (V g) =
          subst (λ (k : ℕ). AddsRow t.rule (part old k) (part (set cur (g - 1) new) k) x (keys_at t g) (V g)) i
          (subst (λ (p : Sum). AddsRow t.rule (part old (g - 1)) p x (keys_at t g) (V g)) (sym (get_or-set_same cur (g - 1) new [] inside))
          (subst (λ (p : Sum). AddsRow t.rule p new x (keys_at t g) (V g)) same a)) in
          subst (λ (k : ℕ). AddsRow t.rule (part old j) (part (set cur (g - 1) new) j) x (keys_at t k) (V k)) q b
    ]
