-- The terms of a wall function in x = z^d, one after the other, and the rows that they are.
use Rattle.std.proofs.Common.{◌≡◌, ℕ, zero, suc, refl, sym, ap, ◌∙◌, ◌<◌, ◌+◌, Bool, true, false, not, List, [], ◌∷◌, ◌++◌, map, length, take, get_or, arith, ℤ}
use Rattle.std.proofs.lemmas.List.{take_more}
use Rattle.std.proofs.lemmas.List.Elements.{filter-append}
use Rattle.scattering.specs.Collections.{Every}
use Rattle.scattering.specs.Series.{Exp, Term, Sum, rest, unit, key_eq}
use Rattle.scattering.proofs.Lists.{map-append}
use Rattle.trunc_series.specs.declared.key.Key.{Key as CodeKey}
use Rattle.trunc_series.specs.Shown.{key_of, term_of, sum_of}
use Rattle.trunc_series.proofs.Terms.{sum_of-append}
use Rattle.scatter_text.specs.DiagramText.{row_term}
use Rattle.scatter_text.specs.PrintedRows.{row_of, AreAlong, IsAlongMore}
use Rattle.scatter_text.specs.declared.along.PrintedRow.{PrintedRow}

pub pushed : (d : Exp) (out more : List PrintedRow) (r : PrintedRow) (t : Term) → more ≡ out ++ r ∷ [] → row_term d (row_of r) ≡ t → map (row_term d) (map row_of more) ≡ map (row_term d) (map row_of out) ++ t ∷ []
pushed d out more r t e is =
    ap (λ (rows : List PrintedRow). map (row_term d) (map row_of rows)) e ∙ ap (map (row_term d)) (map-append row_of out (r ∷ [])) ∙ map-append (row_term d) (map row_of out) (row_of r ∷ [])
    ∙ ap (λ (u : Term). map (row_term d) (map row_of out) ++ u ∷ []) is

rest-more : (ts : List (CodeKey × ℤ)) (i : ℕ) (d : CodeKey × ℤ) → i < length ts → rest (sum_of (take (i + 1) ts)) ≡ rest (sum_of (take i ts)) ++ rest (term_of (get_or ts i d) ∷ [])
rest-more ts i d h =
    ap (λ (us : List (CodeKey × ℤ)). rest (sum_of us)) (take_more ts i d h) ∙ ap rest (sum_of-append (take i ts) (get_or ts i d ∷ []))
    ∙ filter-append (λ (t : Term). not (key_eq t.0 unit)) (sum_of (take i ts)) (term_of (get_or ts i d) ∷ [])

pub along-more : (d : Exp) (out more : List PrintedRow) (ts : List (CodeKey × ℤ)) (i : ℕ) (e : CodeKey × ℤ) → i < length ts → AreAlong d (map row_of out) (rest (sum_of (take i ts))) → IsAlongMore d (map row_of out) (map row_of more) (term_of (get_or ts i e))
    → AreAlong d (map row_of more) (rest (sum_of (take (i + 1) ts)))
along-more d out more ts i e l h k = k ∙ ap (λ (f : Sum). f ++ rest (term_of (get_or ts i e) ∷ [])) h ∙ sym (rest-more ts i e l)

pub rest-at : (P : Term → Type 0) (ts : List (CodeKey × ℤ)) (i : ℕ) (d : CodeKey × ℤ) → i < length ts → Every P (rest (sum_of ts)) → Every P (rest (term_of (get_or ts i d) ∷ []))
rest-at P [] i d l h = absurd (omega (arith, l))
rest-at P (t ∷ ts) zero d l h = first (key_eq (key_of t.0) unit) refl
  where
    first : (b : Bool) → key_eq (key_of t.0) unit ≡ b → Every P (rest (term_of t ∷ []))
    first true e = rw e tt
    first false e = let k : P (term_of t) × Every P (rest (sum_of ts)) = rw e at h in rw e (k.0, tt)
rest-at P (t ∷ ts) (suc i) d l h = rest-at P ts i d (omega (arith, l)) (later (key_eq (key_of t.0) unit) refl)
  where
    later : (b : Bool) → key_eq (key_of t.0) unit ≡ b → Every P (rest (sum_of ts))
    later true e = rw e at h
    later false e = let k : P (term_of t) × Every P (rest (sum_of ts)) = rw e at h in k.1
