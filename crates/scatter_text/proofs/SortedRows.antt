-- Rows in their order: those of a sum in which no key stands twice rise, and make the same sum.
use Rattle.std.proofs.Common.{◌≡◌, ◌≢◌, ℕ, refl, sym, ap, ◌∙◌, ◌≤◌, ◌+◌, Bool, true, false, cond, [], ◌∷◌, length, arith, nat_abs}
use Rattle.std.specs.Prelude.{pos, ◌+ℤ◌, ◌&&◌, ◌||◌, ◌==◌, nat_lt, int_lt, sum_by}
use Rattle.std.specs.List.Sorted.{IsPermutation}
use Rattle.std.specs.Cmp.{IsTotalOrder}
use Rattle.std.specs.Cmp.Lexicographic.{slice_cmp}
use Rattle.std.specs.Ordering.{nat_cmp, ordering_then}
use Rattle.std.specs.declared.cmp.Ordering.{Ordering}
use Rattle.std.specs.declared.cmp.Ordering.TheVariants.{Less, Equal, Greater}
use Rattle.std.proofs.lemmas.Int.{ints}
use Rattle.std.proofs.lemmas.Bool.Decides.{nat_tests}
use Rattle.std.proofs.lemmas.List.Sums.{sum_by-cons}
use Rattle.std.proofs.lemmas.List.Sorted.{sum_by-IsPermutation}
use Rattle.scattering.specs.Collections.{Every}
use Rattle.scattering.specs.Series.{Powers, Key, Term, Sum, Same, coef, key_eq, powers_before}
use Rattle.scattering.proofs.Keys.{key_eq-same, key_eq-refl}
use Rattle.scattering.proofs.KeyOrder.{powers_before-asym, powers_before-trans, powers_before-same, same-step, trans-step, asym-step}
use Rattle.scattering.proofs.DistinctKeys.{HasDistinctKeys}
use Rattle.trunc_series.specs.Shown.{powers_of}
use Rattle.trunc_series.proofs.KeyOrder.{cmp-order}
use Rattle.plane_geom.proofs.Ordered.{seen-total}
use Rattle.scatter_text.specs.PrintedRows.{printed_order}
use Rattle.scatter_text.specs.declared.along.PrintedRow.{PrintedRow}

-- ---- the order of rows

-- what rows are ordered by
abbrev Rank : Type 0
Rank = ℕ × Powers

abbrev rank_before : Rank → Rank → Bool
rank_before x y = nat_lt x.0 y.0 || ((x.0 == y.0) && powers_before x.1 y.1)

abbrev rank_of : PrintedRow → Rank
rank_of r = (r.j, powers_of r.powers)

pub same-rank : (x y : Rank) → rank_before x y ≡ false → rank_before y x ≡ false → x ≡ y
same-rank x y h k = let t = same-step x.0 y.0 _ _ h k in let p = powers_before-same x.1 y.1 t.1 t.2 in λ i. (t.0 i, p i)

pub rows-ordered : IsTotalOrder printed_order
rows-ordered =
    seen-total (λ (x : Rank). Unit {0}) rank_before (λ x u h. let s = asym-step x.0 x.0 _ _ h h in powers_before-asym x.1 x.1 s.0 s.1)
    (λ x y z u v w h k. trans-step x.0 y.0 z.0 _ _ _ h k (powers_before-trans x.1 y.1 z.1)) (λ x y u v. same-rank x y) rank_of (λ r. tt)

step : (i j : ℕ) (o : Ordering) (b c : Bool) → o ≡ cond b Less (cond c Greater Equal) → ordering_then (nat_cmp i j) o ≡ cond (nat_lt i j || ((i == j) && b)) Less (cond (nat_lt j i || ((j == i) && c)) Greater Equal)
step i j o b c e = grind (arith, nat_tests, e)

-- the order that is computed
pub compared : (r s : PrintedRow) → length r.powers ≡ 8 → length s.powers ≡ 8 → ordering_then (nat_cmp r.j s.j) (slice_cmp nat_cmp r.powers s.powers) ≡ printed_order r s
compared r s h k =
    step r.j s.j _ _ _ (cmp-order (record { exp = record { a = pos 0; b = pos 0 }; powers = r.powers }) (record { exp = record { a = pos 0; b = pos 0 }; powers = s.powers }) h k)

-- ---- sums in another order

ones : Key → Term → ℕ
ones k t = cond (key_eq t.0 k) 1 0

apart-none : (f : Sum) (k : Key) → Every (λ u. k ≢ u.0) f → sum_by (ones k) f ≡ 0
unfolding ones
apart-none [] k h = refl
apart-none (u ∷ f) k h = sum_by-cons (ones k) u f ∙ go (key_eq u.0 k) refl (apart-none f k h.1)
  where
    go : (b : Bool) → key_eq u.0 k ≡ b → sum_by (ones k) f ≡ 0 → ones k u + sum_by (ones k) f ≡ 0
    go true e i = absurd (h.0 (sym (key_eq-same u.0 k e)))
    go false e i = let o : ones k u ≡ 0 = rw e refl in omega (arith, o, i)

none-apart : (f : Sum) (k : Key) → sum_by (ones k) f ≡ 0 → Every (λ u. k ≢ u.0) f
unfolding ones
none-apart [] k z = tt
none-apart (u ∷ f) k z =
    let s = sum_by-cons (ones k) u f in
    let a : ones k u ≡ 0 = omega (arith, s, z) in
    let b : sum_by (ones k) f ≡ 0 = omega (arith, s, z) in
    (λ e. let o : key_eq u.0 k ≡ true = ap (key_eq u.0) e ∙ key_eq-refl u.0 in let n : 1 ≡ 0 = rw o at a in omega (arith, n), none-apart f k b)

distinct-once : (f : Sum) (k : Key) → HasDistinctKeys f → sum_by (ones k) f ≤ 1
unfolding ones
distinct-once [] k h = omega arith
distinct-once (t ∷ f) k h = go (key_eq t.0 k) refl (sum_by-cons (ones k) t f) (distinct-once f k h.1)
  where
    go : (b : Bool) → key_eq t.0 k ≡ b → sum_by (ones k) (t ∷ f) ≡ ones k t + sum_by (ones k) f → sum_by (ones k) f ≤ 1 → sum_by (ones k) (t ∷ f) ≤ 1
    go true e s i =
        let z : sum_by (ones k) f ≡ 0 = ap (λ (x : Key). sum_by (ones x) f) (sym (key_eq-same t.0 k e)) ∙ apart-none f t.0 h.0 in
        let o : ones k t ≡ 1 = rw e refl in
        omega (arith, s, z, o)
    go false e s i = let o : ones k t ≡ 0 = rw e refl in omega (arith, s, i, o)

once-distinct : (f : Sum) → ((k : Key) → sum_by (ones k) f ≤ 1) → HasDistinctKeys f
unfolding ones
once-distinct [] h = tt
once-distinct (t ∷ f) h =
    let s = sum_by-cons (ones t.0) t f in
    let o : ones t.0 t ≡ 1 = rw (key_eq-refl t.0) refl in
    let l = h t.0 in
    (none-apart f t.0 (omega (arith, s, o, l)), once-distinct f (λ k. let c = sum_by-cons (ones k) t f in let m = h k in omega (arith, c, m)))

pub distinct-permuted : (f g : Sum) → IsPermutation f g → HasDistinctKeys f → HasDistinctKeys g
distinct-permuted f g p h = once-distinct g (λ k. let e = sum_by-IsPermutation (ones k) f g p in let l = distinct-once f k h in omega (arith, e, l))

gains : Key → Term → ℕ
gains k t = cond (key_eq t.0 k) (cond (int_lt t.1 (pos 0)) 0 (nat_abs t.1)) 0

losses : Key → Term → ℕ
losses k t = cond (key_eq t.0 k) (cond (int_lt t.1 (pos 0)) (nat_abs t.1) 0) 0

balance : (f : Sum) (k : Key) → coef f k +ℤ pos (sum_by (losses k) f) ≡ pos (sum_by (gains k) f)
unfolding gains losses
balance [] k = refl
balance (t ∷ f) k = go (key_eq t.0 k) (int_lt t.1 (pos 0)) refl refl (sum_by-cons (gains k) t f) (sum_by-cons (losses k) t f) (balance f k)
  where
    go : (b n : Bool) → key_eq t.0 k ≡ b → int_lt t.1 (pos 0) ≡ n → sum_by (gains k) (t ∷ f) ≡ gains k t + sum_by (gains k) f → sum_by (losses k) (t ∷ f) ≡ losses k t + sum_by (losses k) f
        → coef f k +ℤ pos (sum_by (losses k) f) ≡ pos (sum_by (gains k) f) → coef (t ∷ f) k +ℤ pos (sum_by (losses k) (t ∷ f)) ≡ pos (sum_by (gains k) (t ∷ f))
    go true true e l s u i = rw (s, u, e, l) (omega (arith, ints, i, l))
    go true false e l s u i = rw (s, u, e, l) (omega (arith, ints, i, l))
    go false n e l s u i = rw (s, u, e) (omega (arith, ints, i))

pub same-permuted : (f g : Sum) → IsPermutation f g → Same g f
same-permuted f g p k =
    let a = balance f k in
    let b = balance g k in
    let x = sum_by-IsPermutation (gains k) f g p in
    let y = sum_by-IsPermutation (losses k) f g p in
    omega (arith, ints, a, b, x, y)
