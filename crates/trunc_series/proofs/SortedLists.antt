-- Sorted lists of terms for the sum of a list.
use Rattle.std.proofs.Common.{◌≡◌, ℕ, ◌+◌, ◌≤◌, refl, sym, subst, ap, ◌∙◌, Bool, true, false, cond, [], ◌∷◌, ◌++◌, take, drop, arith}
use Rattle.std.specs.Prelude.{ℤ, pos, ◌+ℤ◌}
use Rattle.scattering.specs.Collections.{Every}
use Rattle.scattering.specs.Series.{Sum, degree, int_eq, key_eq}
use Rattle.scattering.proofs.Keys.{int_eq-same}
use Rattle.scattering.proofs.Lists.{Every-implies, Every-left, Every-right}
use Rattle.trunc_series.specs.declared.arithmetic.Arithmetic.{Arithmetic}
use Rattle.trunc_series.specs.declared.key.Key.{Key as CodeKey}
use Rattle.trunc_series.specs.Shown.{key_of, term_of, sum_of}
use Rattle.trunc_series.specs.Arithmetic.{kept, IsKeepable}
use Rattle.trunc_series.specs.Reduced.{Terms, IsKeptAs, AddsUp, unless_zero}
use Rattle.trunc_series.proofs.Terms.{at, sum_of-halves}
use Rattle.trunc_series.specs.Sums.{IsKeptValue, AreKeptValues, StandsFor, IsSortedFor}
use Rattle.trunc_series.proofs.TermLists.{keepable-values}

pub none-sorted : (rule : Arithmetic) → IsSortedFor rule [] []
none-sorted rule n l = record { series = record { rises = tt; nonzero = tt; low = tt }; keeps = tt; keepable = tt; same = λ k. refl }

pub one-sorted : (rule : Arithmetic) (t : CodeKey × ℤ) → IsKeptValue rule t.1 → IsSortedFor rule (sum_of (unless_zero t)) (term_of t ∷ [])
one-sorted rule t v n l = go (int_eq t.1 (pos 0)) refl
  where
    zero-at : (b : Bool) → t.1 ≡ pos 0 → pos 0 ≡ cond b t.1 (pos 0) +ℤ pos 0
    zero-at true e = ap (λ c. c +ℤ pos 0) (sym e)
    zero-at false e = refl

    nonzero : (c : ℤ) → int_eq c (pos 0) ≡ false → c ≡ pos 0 → ⊥
    nonzero c e z = absurd (let q : int_eq (pos 0) (pos 0) ≡ false = subst (λ (w : ℤ). int_eq w (pos 0) ≡ false) z e in cc)

    go : (b : Bool) → int_eq t.1 (pos 0) ≡ b → IsKeptAs rule n (sum_of (cond b [] (t ∷ []))) (term_of t ∷ [])
    go true e = record {
      series = record { rises = tt; nonzero = tt; low = tt };
      keeps = tt;
      keepable = (v.1, tt);
      same = λ k. ap (kept rule) (zero-at (key_eq (key_of t.0) k) (int_eq-same t.1 (pos 0) e));
    }
    go false e = record { series = record { rises = (tt, tt); nonzero = (nonzero t.1 e, tt); low = l }; keeps = (v, tt); keepable = (v.1, tt); same = λ k. refl }

-- a list of one term
pub lone-sorted : (rule : Arithmetic) (ts r : Terms) → sum_of ts ≡ term_of (at ts 0) ∷ [] → r ≡ unless_zero (at ts 0) → AreKeptValues rule (sum_of ts) → IsSortedFor rule (sum_of r) (sum_of ts)
lone-sorted rule ts r e q v =
    let w : AreKeptValues rule (term_of (at ts 0) ∷ []) = subst (λ (f : Sum). AreKeptValues rule f) e v in
    subst (λ (us : Terms). IsSortedFor rule (sum_of us) (sum_of ts)) (sym q) (subst (λ (f : Sum). IsSortedFor rule (sum_of (unless_zero (at ts 0))) f) (sym e) (one-sorted rule (at ts 0) w.0))

-- two halves in order, merged
pub halves-sorted : (rule : Arithmetic) (ts : Terms) (m : ℕ) (a b r : Terms) → IsSortedFor rule (sum_of a) (sum_of (take m ts)) → IsSortedFor rule (sum_of b) (sum_of (drop m ts)) → AddsUp rule a b r → IsSortedFor rule (sum_of r) (sum_of ts)
halves-sorted rule ts m a b r p q adds n l =
    let h = sum_of-halves ts m in
    let front : Sum = sum_of (take m ts) in
    let back : Sum = sum_of (drop m ts) in
    let low : Every (λ t. degree t.0 ≤ n) (sum_of (take m ts) ++ sum_of (drop m ts)) = subst (λ (f : Sum). Every (λ t. degree t.0 ≤ n) f) h l in
    subst (λ (f : Sum). IsKeptAs rule n (sum_of r) f) (sym h)
    (adds n front back (p n (Every-left (λ t. degree t.0 ≤ n) front back low)) (q n (Every-right (λ t. degree t.0 ≤ n) front back low)))

pub half-values : (rule : Arithmetic) (ts : Terms) (m : ℕ) → AreKeptValues rule (sum_of ts) → AreKeptValues rule (sum_of (take m ts)) × AreKeptValues rule (sum_of (drop m ts))
half-values rule ts m v =
    let w : AreKeptValues rule (sum_of (take m ts) ++ sum_of (drop m ts)) = subst (λ (f : Sum). AreKeptValues rule f) (sum_of-halves ts m) v in
    (Every-left (λ t. IsKeptValue rule t.1) (sum_of (take m ts)) (sum_of (drop m ts)) w, Every-right (λ t. IsKeptValue rule t.1) (sum_of (take m ts)) (sum_of (drop m ts)) w)

-- every sum has degrees up to some order
bounded : (f : Sum) → (n : ℕ) × Every (λ t. degree t.0 ≤ n) f
bounded [] = (0, tt)
bounded (t ∷ f) =
    let r = bounded f in
    (r.0 + degree t.0, (omega arith, Every-implies (λ u. degree u.0 ≤ r.0) (λ u. degree u.0 ≤ r.0 + degree t.0) f (λ u h. omega (arith, h)) r.1))

-- the coefficients of a sorted list may be kept
pub sorted-keepable : (rule : Arithmetic) (r f : Sum) → IsSortedFor rule r f → Every (λ t. IsKeepable rule t.1) r
sorted-keepable rule r f s = let b = bounded f in keepable-values rule r (s b.0 b.1).keeps

-- a sorted list for a list that stands for a sum is one for that sum
pub stands-sorted : (rule : Arithmetic) (n : ℕ) (r f g : Sum) → IsKeptAs rule n r f → StandsFor rule f g → IsKeptAs rule n r g
stands-sorted rule n r f g i s = record { series = i.series; keeps = i.keeps; keepable = s.keepable; same = λ k. i.same k ∙ s.same k }
