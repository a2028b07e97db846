-- The terms of a line within the limits, one after the other.
use Rattle.std.proofs.Common.{◌≡◌, ℕ, sym, ap, ◌∙◌, ◌<◌, ◌+◌, List, [], ◌∷◌, ◌++◌, map, length, drop, get_or, add-one, drop-cons, append_assoc, arith, ℤ}
use Rattle.std.specs.Prelude.{nat_le}
use Rattle.std.proofs.lemmas.List.Elements.{filter-append}
use Rattle.scattering.specs.Series.{Exp, Term, Sum, cut, degree}
use Rattle.trunc_series.specs.declared.key.Key.{Key as CodeKey}
use Rattle.trunc_series.specs.Shown.{key_of, sum_of}
use Rattle.scatter_text.specs.declared.file.TermRow.{TermRow}
use Rattle.scatter_text.specs.declared.file.LineRow.{LineRow}
use Rattle.scatter_text.specs.GivenWalls.{term_given}
use Rattle.scatter_text.specs.LimitedLines.{IsLimitedLine, IsLimitedTerm}
use Rattle.scatter_text.proofs.WithinLimits.{exponents-small, powers-small}

pub limited-term : (l : LineRow) → IsLimitedLine l → (k : ℕ) (d : TermRow) → k < length l.terms → IsLimitedTerm l.dx l.dy (get_or l.terms k d)
limited-term l h k d lt =
    let e = (exponents-small l h.exponents).terms k d lt in
    let n = h.valid.terms.variables k d lt in
    let few = h.few_vars in
    record { x = e.0; y = e.1; count = omega (arith, n, few); powers = powers-small l h.powers k d lt }

pub low-more : (out new : List (CodeKey × ℤ)) (d : Exp) (ts : List TermRow) (i : ℕ) (u : TermRow) (f : Sum) (k : CodeKey) (c : ℤ) → i < length ts → u ≡ get_or ts i u → key_of k ≡ (term_given d u).0 → c ≡ u.c
    → sum_of new ≡ sum_of out ++ cut 24 ((key_of k, c) ∷ []) → sum_of out ++ cut 24 (map (term_given d) (drop i ts)) ≡ f → sum_of new ++ cut 24 (map (term_given d) (drop (i + 1) ts)) ≡ f
low-more out new d ts i u f k c l is ek ec e h =
    let same : (key_of k, c) ≡ term_given d u = λ j. (ek j, ec j) in
    let rest : Sum = map (term_given d) (drop (i + 1) ts) in
    let left : map (term_given d) (drop i ts) ≡ term_given d u ∷ rest = rw (add-one) (ap (map (term_given d)) (drop-cons ts i u l)) ∙ ap (λ (v : TermRow). term_given d v ∷ rest) (sym is) in
    ap (λ (g : Sum). g ++ cut 24 rest) (e ∙ ap (λ (v : Term). sum_of out ++ cut 24 (v ∷ [])) same)
    ∙ append_assoc (sum_of out) (cut 24 (term_given d u ∷ [])) (cut 24 rest)
    ∙ ap (λ (g : Sum). sum_of out ++ g) (sym (filter-append (λ (v : Term). nat_le (degree v.0) 24) (term_given d u ∷ []) rest) ∙ ap (cut 24) (sym left))
    ∙ h
