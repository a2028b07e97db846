-- The sorted rows of a wall function's terms are the rows that are printed.
use Rattle.std.proofs.Common.{◌≡◌, ◌≢◌, ℕ, suc, refl, sym, subst, ap, ◌≤◌, ◌+◌, Bool, true, false, cond, List, [], ◌∷◌, map, get_or, arith, is_lt}
use Rattle.std.specs.Prelude.{pos, IsTrue}
use Rattle.std.specs.List.{AllByRecursion}
use Rattle.std.specs.List.Sorted.{IsPermutation, IsSorted}
use Rattle.std.specs.declared.cmp.Ordering.TheVariants.{Less, Equal, Greater}
use Rattle.std.proofs.lemmas.List.Elements.{All-from_recursion, recursion_from_All}
use Rattle.std.proofs.lemmas.List.Sorted.{sorted_far, ranks_by, All-permutation, IsPermutation-map}
use Rattle.scattering.specs.Collections.{Every, EveryPair}
use Rattle.scattering.specs.Series.{Exp, Key, Term, Sum, IsSeries, IsMultiple, IsWallFunction, coef, key_before, degree, rest}
use Rattle.scattering.specs.Wall.{Wall}
use Rattle.scattering.proofs.Lists.{Every-filter, Every-implies, pairs-filter}
use Rattle.scattering.proofs.DistinctKeys.{HasDistinctKeys, rising-distinct}
use Rattle.scatter_text.specs.DiagramText.{Row, row_before, row_term, AreRows}
use Rattle.scatter_text.specs.PrintedRows.{row_of, printed_order, AreAlong}
use Rattle.scatter_text.specs.declared.along.PrintedRow.{PrintedRow}
use Rattle.scatter_text.proofs.SortedRows.{rows-ordered, same-rank, distinct-permuted, same-permuted}

-- ---- sorted rows rise

not-less : (b c : Bool) → is_lt (cond b Less (cond c Greater Equal)) ≡ false → b ≡ false
not-less true c e = absurd (cc)
not-less false c e = refl

module _ (d : Exp) where
  term_at : PrintedRow → Term
  term_at r = row_term d (row_of r)

  above : (r s : PrintedRow) → is_lt (printed_order s r) ≡ false → (term_at r).0 ≢ (term_at s).0 → row_before (row_of r) (row_of s) ≡ true
  unfolding term_at
  above r s h n = go (row_before (row_of r) (row_of s)) refl
    where
      go : (b : Bool) → row_before (row_of r) (row_of s) ≡ b → row_before (row_of r) (row_of s) ≡ true
      go true e = e
      go false e =
          let same = same-rank (r.j, (row_of r).powers) (s.j, (row_of s).powers) e (not-less (row_before (row_of s) (row_of r)) _ h) in
          absurd (n (ap (λ (x : Row). (row_term d x).0) (λ i. record { c = pos 0; j = (same i).0; powers = (same i).1 })))

  rises : (rows : List PrintedRow) → IsSorted printed_order rows → HasDistinctKeys (map (row_term d) (map row_of rows)) → EveryPair (λ r s. IsTrue (row_before r s)) (map row_of rows)
  unfolding term_at
  rises [] s h = tt
  rises (r ∷ rows) s h = (
    first rows (recursion_from_All (λ z. is_lt (printed_order z r) ≡ false) rows (λ k e l. sorted_far (λ x y. is_lt (printed_order x y)) (ranks_by rows-ordered (λ x. x)) (r ∷ rows) s 0 (suc k) e (omega arith) (omega (arith, l)))) h.0,
    rises rows (λ k e low high. subst (λ (m : ℕ). is_lt (printed_order (get_or (r ∷ rows) m e) (get_or rows k e)) ≡ false) (next k) (s (suc k) e (omega arith) (omega (arith, high)))) h.1,
  )
    where
      next : (k : ℕ) → suc k + 1 ≡ suc (k + 1)
      next k = omega arith

      first : (zs : List PrintedRow) → AllByRecursion (λ z. is_lt (printed_order z r) ≡ false) zs → Every (λ u. (term_at r).0 ≢ u.0) (map (row_term d) (map row_of zs)) → Every (λ z. IsTrue (row_before (row_of r) z)) (map row_of zs)
      first [] a n = tt
      first (z ∷ zs) a n = (above r z a.0 n.0, first zs a.1 n.1)

  -- ---- what the terms keep

  nonzero : (old new : List PrintedRow) → IsPermutation old new → Every (λ (t : Term). t.1 ≢ pos 0) (map (row_term d) (map row_of old)) → Every (λ (r : Row). r.c ≢ pos 0) (map row_of new)
  nonzero old new p h = back new (recursion_from_All (λ r. r.c ≢ pos 0) new (All-permutation (λ r. r.c ≢ pos 0) old new p (All-from_recursion (λ r. r.c ≢ pos 0) old (there old h))))
    where
      there : (rows : List PrintedRow) → Every (λ (t : Term). t.1 ≢ pos 0) (map (row_term d) (map row_of rows)) → AllByRecursion (λ r. r.c ≢ pos 0) rows
      there [] h = tt
      there (r ∷ rows) h = (h.0, there rows h.1)

      back : (rows : List PrintedRow) → AllByRecursion (λ r. r.c ≢ pos 0) rows → Every (λ (r : Row). r.c ≢ pos 0) (map row_of rows)
      back [] h = tt
      back (r ∷ rows) h = (h.0, back rows h.1)

pub multiples : (n : ℕ) (d : Exp) (f : Sum) → IsWallFunction n d f → Every (λ t. IsMultiple d t.0.exp) (rest f)
multiples n d f h = Every-implies (λ t. (1 ≤ degree t.0) × IsMultiple d t.0.exp) (λ t. IsMultiple d t.0.exp) (rest f) (λ t p. p.1) h.others

pub are-rows : (w : Wall) (n : ℕ) (old new : List PrintedRow) → IsSeries n w.function → AreAlong w.dir (map row_of old) (rest w.function) → IsPermutation old new → IsSorted printed_order new → AreRows w (map row_of new)
are-rows w n old new series along p sorted =
    let moved = IsPermutation-map (λ r. row_term w.dir (row_of r)) old new p in
    let f : Sum = map (row_term w.dir) (map row_of old) in
    let g : Sum = map (row_term w.dir) (map row_of new) in
    let q : IsPermutation f g = subst (λ (x : Sum). IsPermutation x g) (mapped old) (subst (IsPermutation (map (λ r. row_term w.dir (row_of r)) old)) (mapped new) moved) in
    let distinct : HasDistinctKeys f = subst HasDistinctKeys (sym along) (rising-distinct (rest w.function) (pairs-filter (λ t u. IsTrue (key_before t.0 u.0)) _ w.function series.rises)) in
    record {
      rises = rises w.dir new sorted (distinct-permuted f g q distinct);
      nonzero = nonzero w.dir old new p (subst (Every (λ (t : Term). t.1 ≢ pos 0)) (sym along) (Every-filter (λ (t : Term). t.1 ≢ pos 0) _ w.function series.nonzero));
      same = subst (λ (x : Sum). (k : Key) → coef g k ≡ coef x k) along (same-permuted f g q);
    }
  where
    mapped : (rows : List PrintedRow) → map (λ r. row_term w.dir (row_of r)) rows ≡ map (row_term w.dir) (map row_of rows)
    mapped [] = refl
    mapped (r ∷ rows) = ap (λ (x : Sum). row_term w.dir (row_of r) ∷ x) (mapped rows)
