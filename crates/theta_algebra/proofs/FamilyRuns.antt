-- One more run of a family: what its terms are, and what follows on it.
use Rattle.std.proofs.Common.{◌≡◌, ◌≢◌, ℕ, zero, suc, sym, ap, subst, ◌∙◌, ◌+◌, ◌-◌, ◌<◌, ◌≤◌, arith, List, [], ◌∷◌, ◌++◌, take, drop, length, length-drop}
use Rattle.std.specs.Prelude.{pos, nat_abs, IsTrue}
use Rattle.std.proofs.lemmas.List.{drop-drop, take_all}
use Rattle.limits.specs.Limits.{largest_weight}
use Rattle.scattering.specs.Collections.{Every, EveryPair}
use Rattle.scattering.specs.Series.{Term, Sum, key_before, degree, IsSeries}
use Rattle.scattering.proofs.Lists.{Every-left, Every-right}
use Rattle.trunc_series.specs.Shown.{exp_of, term_of, sum_of, Seen}
use Rattle.trunc_series.specs.Reduced.{Terms}
use Rattle.trunc_series.specs.declared.key.Exp.{Exp as CodeExp}
use Rattle.trunc_series.proofs.Terms.{at, sum_of-halves}
use Rattle.theta_algebra.specs.Parts.{IsRunAt, IsSeriesPart}
use Rattle.theta_algebra.proofs.FamilyParts.{ArePartsTo, pairs-right, parts-more}

-- ---- pieces of a list

pairs-left : {A : Type 0} (R : A → A → Type 0) (xs ys : List A) → EveryPair R (xs ++ ys) → EveryPair R xs
pairs-left R [] ys h = tt
pairs-left R (x ∷ xs) ys h = (Every-left (R x) xs ys h.0, pairs-left R xs ys h.1)

front : (k : ℕ) (f g : Sum) → IsSeries k (f ++ g) → IsSeries k f
front k f g h = record {
  rises = pairs-left (λ t u. IsTrue (key_before t.0 u.0)) f g h.rises;
  nonzero = Every-left (λ (t : Term). t.1 ≢ pos 0) f g h.nonzero;
  low = Every-left (λ (t : Term). degree t.0 ≤ k) f g h.low;
}

back : (k : ℕ) (f g : Sum) → IsSeries k (f ++ g) → IsSeries k g
back k f g h = record {
  rises = pairs-right (λ t u. IsTrue (key_before t.0 u.0)) f g h.rises;
  nonzero = Every-right (λ (t : Term). t.1 ≢ pos 0) f g h.nonzero;
  low = Every-right (λ (t : Term). degree t.0 ≤ k) f g h.low;
}

module _ (family rest : Terms) (i n : ℕ) (left : rest ≡ drop i family) where
  pub piece-series : (k : ℕ) → IsSeries k (sum_of family) → IsSeries k (sum_of (take n rest))
  piece-series k h =
      front k (sum_of (take n rest)) (sum_of (drop n rest)) (subst (λ (f : Sum). IsSeries k f) (sum_of-halves rest n)
      (subst (λ (ts : Terms). IsSeries k (sum_of ts)) (sym left) (back k (sum_of (take i family)) (sum_of (drop i family)) (subst (λ (f : Sum). IsSeries k f) (sum_of-halves family i) h))))

  pub piece-small : Every (λ t. nat_abs t.1 ≤ largest_weight) (sum_of family) → Every (λ t. nat_abs t.1 ≤ largest_weight) (sum_of (take n rest))
  piece-small h =
      Every-left (λ (t : Term). nat_abs t.1 ≤ largest_weight) (sum_of (take n rest)) (sum_of (drop n rest)) (subst (λ (f : Sum). Every (λ t. nat_abs t.1 ≤ largest_weight) f) (sum_of-halves rest n)
      (subst (λ (ts : Terms). Every (λ t. nat_abs t.1 ≤ largest_weight) (sum_of ts)) (sym left)
      (Every-right (λ (t : Term). nat_abs t.1 ≤ largest_weight) (sum_of (take i family)) (sum_of (drop i family)) (subst (λ (f : Sum). Every (λ t. nat_abs t.1 ≤ largest_weight) f) (sum_of-halves family i) h))))

-- the rest from i on, as it is read
pub whole-rest : (ts : Terms) (i : ℕ) → take (length ts - i) (drop i ts) ≡ drop i ts
whole-rest ts i = take_all (length ts - i) (drop i ts) (let e = length-drop i ts in omega (arith, e))

pub some-rest : (ts rest : Terms) (i : ℕ) → rest ≡ drop i ts → i < length ts → 0 < length rest
some-rest ts rest i left l = let e = length-drop i ts in let f = ap length left in omega (arith, e, f, l)

pub rest-fits : (ts rest : Terms) (i n : ℕ) → rest ≡ drop i ts → i ≤ length ts → n ≤ length rest → i + n ≤ length ts
rest-fits ts rest i n left l m = let e = length-drop i ts in let f = ap length left in omega (arith, e, f, l, m)

-- ---- one more run

next-of : (P : Term → Type 0) (m : ℕ) (ts : Terms) → (m < length ts → Every P (sum_of (take 1 (drop m ts)))) → Every P (take 1 (sum_of (drop m ts)))
next-of P zero [] h = tt
next-of P (suc m) [] h = tt
next-of P zero (t ∷ ts) h = h (omega arith)
next-of P (suc m) (t ∷ ts) h = next-of P m ts (λ l. h (omega (arith, l)))

pub run-more : (k : ℕ) (family : Terms) (i : ℕ) (ps : List (CodeExp × Seen)) (rest : Terms) (r : CodeExp) (n : ℕ) (s : Seen) → IsSeries k (sum_of family) → ArePartsTo k family i ps
    → rest ≡ drop i family → 0 < length rest → r ≡ (at rest 0).0.exp → IsRunAt r rest n → IsSeriesPart k (sum_of (take n rest)) s → ArePartsTo k family (i + n) (ps ++ (r, s) ∷ [])
run-more k family i ps rest r n s series h = go rest n
  where
    go : (rest : Terms) (n : ℕ) → rest ≡ drop i family → 0 < length rest → r ≡ (at rest 0).0.exp → IsRunAt r rest n → IsSeriesPart k (sum_of (take n rest)) s → ArePartsTo k family (i + n) (ps ++ (r, s) ∷ [])
    go [] n left some e run is = absurd (omega (arith, some))
    go (t ∷ ts) zero left some e run is = absurd ((run.next some).0 (sym (ap exp_of e)))
    go (t ∷ ts) (suc m) left some e run is =
        parts-more k family i ps series h (term_of t) (sum_of (take m ts)) (sum_of (drop m ts)) (i + suc m) r s
        (sym (ap sum_of left) ∙ ap (λ (f : Sum). term_of t ∷ f) (sum_of-halves ts m))
        (ap sum_of (sym (drop-drop (suc m) i family) ∙ sym (ap (λ (us : Terms). drop (suc m) us) left)))
        (sym (ap exp_of e)) run.own.1
        (next-of (λ (u : Term). u.0.exp ≢ exp_of r) m ts (λ l. run.next (omega (arith, l)))) is
