-- Rows of the terms of a sum to each degree.
use Rattle.std.proofs.Common.{◌≡◌, ℕ, zero, suc, ◌+◌, ◌<◌, ◌≤◌, refl, sym, subst, ap, ◌∙◌, List, [], ◌∷◌, ◌++◌, map, length, get_or, zip, arith}
use Rattle.std.specs.Prelude.{ℤ}
use Rattle.std.proofs.lemmas.List.{length-map}
use Rattle.scattering.specs.Series.{Sum, cut}
use Rattle.scattering.proofs.Coefficients.{cut-cut}
use Rattle.trunc_series.specs.declared.key.Key.{Key as CodeKey}
use Rattle.trunc_series.specs.declared.low_rows.Row.{Row}
use Rattle.trunc_series.specs.Reduced.{Terms}
use Rattle.trunc_series.specs.Shown.{sum_of}
use Rattle.trunc_series.specs.LowRows.{IsLowRow, AreLowRows, IsFactorTo, all_terms}

-- ---- one row

unzipped : (ts : Terms) → zip (map (λ (t : CodeKey × ℤ). t.0) ts) (map (λ (t : CodeKey × ℤ). t.1) ts) ≡ ts
unzipped [] = refl
unzipped (t ∷ ts) = ap (λ (r : Terms). t ∷ r) (unzipped ts)

pub row-made : (d : ℕ) (u : Sum) (ts : Terms) (r : Row) → sum_of ts ≡ cut d u → r.keys.items ≡ map (λ (t : CodeKey × ℤ). t.0) ts → r.values.items ≡ map (λ (t : CodeKey × ℤ). t.1) ts → IsLowRow d u r
row-made d u ts r e k v = record {
  lengths = ap length k ∙ length-map ts (λ (t : CodeKey × ℤ). t.0) ∙ sym (length-map ts (λ (t : CodeKey × ℤ). t.1)) ∙ sym (ap length v);
  terms = ap (λ (ks : List CodeKey). sum_of (zip ks r.values.items)) k ∙ ap (λ (vs : List ℤ). sum_of (zip (map (λ (t : CodeKey × ℤ). t.0) ts) vs)) v ∙ ap sum_of (unzipped ts) ∙ e;
}

-- ---- all rows

pub rows-push : (u : Sum) (d e : ℕ) (rows : List Row) (r : Row) → AreLowRows u d rows → d + length rows ≡ e → IsLowRow e u r → AreLowRows u d (rows ++ r ∷ [])
rows-push u d e [] r h q w = (subst (λ (n : ℕ). IsLowRow n u r) (let p : e ≡ d = omega (arith, q) in p) w, tt)
rows-push u d e (s ∷ rows) r h q w = (h.0, rows-push u (suc d) e rows r h.1 (omega (arith, q)) w)

row-at : (u : Sum) (d i : ℕ) (rows : List Row) (o : Row) → AreLowRows u d rows → i < length rows → IsLowRow (d + i) u (get_or rows i o)
row-at u d i [] o h l = absurd (omega (arith, l))
row-at u d zero (r ∷ rows) o h l = subst (λ (n : ℕ). IsLowRow n u r) (let p : d ≡ d + 0 = omega arith in p) h.0
row-at u d (suc i) (r ∷ rows) o h l = subst (λ (n : ℕ). IsLowRow n u (get_or rows i o)) (let p : suc d + i ≡ d + suc i = omega arith in p) (row-at u (suc d) i rows o h.1 (omega (arith, l)))

pub row-to : (n i : ℕ) (rows : List Row) (o : Row) → IsFactorTo n rows → i ≤ n → IsLowRow i (all_terms rows) (get_or rows i o)
row-to n i rows o h l = let c = h.count in subst (λ (d : ℕ). IsLowRow d (all_terms rows) (get_or rows i o)) (let p : 0 + i ≡ i = omega arith in p) (row-at (all_terms rows) 0 i rows o h.each (omega (arith, c, l)))

last-terms : (u : Sum) (d n : ℕ) (rows : List Row) → AreLowRows u d rows → d + length rows ≡ n + 1 → 1 ≤ length rows → all_terms rows ≡ cut n u
last-terms u d n [] h e l = absurd (omega (arith, l))
last-terms u d n (r ∷ []) h e l = h.0.terms ∙ ap (λ (m : ℕ). cut m u) (let p : d ≡ n = omega (arith, e) in p)
last-terms u d n (r ∷ s ∷ rows) h e l = last-terms u (suc d) n (s ∷ rows) h.1 (omega (arith, e)) (omega arith)

-- they are the rows of the sum without its terms of high degree
rows-cut : (u : Sum) (d n : ℕ) (rows : List Row) → d + length rows ≤ n + 1 → AreLowRows u d rows → AreLowRows (cut n u) d rows
rows-cut u d n [] l h = tt
rows-cut u d n (r ∷ rows) l h = (record { lengths = h.0.lengths; terms = h.0.terms ∙ sym (cut-cut d n (omega (arith, l)) u) }, rows-cut u (suc d) n rows (omega (arith, l)) h.1)

pub rows-terms : (n : ℕ) (u : Sum) (rows : List Row) → AreLowRows u 0 rows → length rows ≡ n + 1 → all_terms rows ≡ cut n u
rows-terms n u rows h c = last-terms u 0 n rows h (omega (arith, c)) (omega (arith, c))

pub rows-factor : (n : ℕ) (u : Sum) (rows : List Row) → n ≤ 24 → AreLowRows u 0 rows → length rows ≡ n + 1 → IsFactorTo n rows
rows-factor n u rows o h c = record { order = o; count = c; each = subst (λ (v : Sum). AreLowRows v 0 rows) (sym (rows-terms n u rows h c)) (rows-cut u 0 n rows (omega (arith, c)) h) }
