-- The rules on values, term by term.
use Rattle.std.proofs.Common.{◌≡◌, ℕ, zero, suc, ◌+◌, ◌<◌, ◌≤◌, take, List, [], ◌∷◌, ◌++◌, length, get_or, refl, sym, ◌∙◌, ap, subst, arith, All}
use Rattle.std.specs.Prelude.{AllPairs, pos}
use Rattle.std.proofs.lemmas.List.{length-append, take_all}
use Rattle.std.proofs.lemmas.List.Elements.{All-push}
use Rattle.scatter_text.specs.declared.file.TermRow.{TermRow}
use Rattle.scatter_text.specs.Values.{AreTerms, AreAlike, IsTermRow}
use Rattle.scatter_text.specs.declared.file.LineRow.{LineRow}
use Rattle.serde_json.specs.View.{view}
use Rattle.serde_json.specs.declared.value.Value.{Value}
use Rattle.scatter_json.specs.JsonForm.{SaysTerm}
use Rattle.scatter_json.specs.Parts.{MayFollow, SayEach, SayTerms, AddsTerm, AddsTerms, with_terms}
use Rattle.scatter_json.proofs.Zips.{zip-more, zip-split}
use Rattle.scatter_json.proofs.OneReading.{term-one}

at-left : (xs ys : List TermRow) (i : ℕ) (d : TermRow) → i < length xs → get_or (xs ++ ys) i d ≡ get_or xs i d
at-left [] ys i d l = absurd (omega (arith, l))
at-left (x ∷ xs) ys zero d l = refl
at-left (x ∷ xs) ys (suc i) d l = at-left xs ys i d (omega (arith, l))

at-seam : (xs : List TermRow) (y : TermRow) (ys : List TermRow) (d : TermRow) → get_or (xs ++ y ∷ ys) (length xs) d ≡ y
at-seam [] y ys d = refl
at-seam (x ∷ xs) y ys d = at-seam xs y ys d

seam-within : (xs : List TermRow) (y : TermRow) (ys : List TermRow) → length xs < length (xs ++ y ∷ ys)
seam-within [] y ys = omega arith
seam-within (x ∷ xs) y ys = let l = seam-within xs y ys in omega (arith, l)

left-within : (xs ys : List TermRow) (i : ℕ) → i < length xs → i < length (xs ++ ys)
left-within xs ys i l = omega (arith, l, length-append xs ys)

pub may-follow : (vars : ℕ) (done : List TermRow) (t : TermRow) (rest : List TermRow) → AreTerms (pos vars) (done ++ t ∷ rest) → MayFollow vars done t
may-follow vars done t rest h = record {
  each = subst IsTermRow (at-seam done t rest t) (h.each (length done) t (seam-within done t rest));
  variables = subst (λ (s : TermRow). length s.powers ≡ vars) (at-seam done t rest t) (h.variables (length done) t (seam-within done t rest));
  different = λ k d l. subst (λ (s : TermRow). ¬ AreAlike s t) (at-left done (t ∷ rest) k d l)
      (subst (λ (s : TermRow). ¬ AreAlike (get_or (done ++ t ∷ rest) k d) s) (at-seam done t rest d) (h.different k (length done) d l (seam-within done t rest)));
}

pairs-push : (xs : List TermRow) (t : TermRow) → AllPairs (λ s t. ¬ AreAlike s t) xs → All (λ s. ¬ AreAlike s t) xs → AllPairs (λ s t. ¬ AreAlike s t) (xs ++ t ∷ [])
pairs-push [] t h k i j d l m = absurd (omega (arith, l, m))
pairs-push (x ∷ xs) t h k zero zero d l m = absurd (omega (arith, l))
pairs-push (x ∷ xs) t h k zero (suc j) d l m = All-push (λ s. ¬ AreAlike x s) xs t (λ n e r. h 0 (suc n) e (omega arith) (omega (arith, r))) (k 0 x (omega arith)) j d (omega (arith, m))
pairs-push (x ∷ xs) t h k (suc i) zero d l m = absurd (omega (arith, l))
pairs-push (x ∷ xs) t h k (suc i) (suc j) d l m =
    pairs-push xs t (λ a b e r q. h (suc a) (suc b) e (omega (arith, r)) (omega (arith, q))) (λ n e r. k (suc n) e (omega (arith, r))) i j d (omega (arith, l)) (omega (arith, m))

pub terms-more : (vars : ℕ) (terms : List TermRow) (t : TermRow) → AreTerms (pos vars) terms → MayFollow vars terms t → AreTerms (pos vars) (terms ++ t ∷ [])
terms-more vars terms t h k = record {
  each = All-push IsTermRow terms t h.each k.each;
  variables = All-push (λ t. length t.powers ≡ vars) terms t h.variables k.variables;
  different = pairs-push terms t h.different k.different;
}

pub no-terms : (vars : ℕ) → AreTerms (pos vars) []
no-terms vars = record {
  each = λ k d l. absurd (omega (arith, l));
  variables = λ k d l. absurd (omega (arith, l));
  different = λ i j d l m. absurd (omega (arith, m));
}

-- ---- the terms of a line, value by value

abbrev Says : Value → TermRow → Type 0
Says v t = SaysTerm (view v) t

pub terms-begin : (vars : ℕ) (line : LineRow) → line.terms ≡ [] → AddsTerms vars line [] line
terms-begin vars line e = record {
  says = record { say = subst (λ (ts : List TermRow). SayEach SaysTerm [] ts) (sym e) tt; valid = subst (AreTerms (pos vars)) (sym e) (no-terms vars) };
  is = refl;
}

pub terms-next : (vars : ℕ) (line old new : LineRow) (values : List Value) (i : ℕ) (v : Value) → i < length values → v ≡ get_or values i v → AddsTerms vars line (take i values) old → AddsTerm vars old (view v) new → AddsTerms vars line (take (i + 1) values) new
terms-next vars line old new values i v l is h k =
    let more : new.terms ≡ old.terms ++ k.term ∷ [] = ap (λ (r : LineRow). r.terms) k.is in
    record {
      says = record {
        say = subst (λ (ts : List TermRow). SayEach SaysTerm (take (i + 1) values) ts) (sym more) (zip-more Says values old.terms i v k.term l is h.says.say k.says);
        valid = subst (AreTerms (pos vars)) (sym more) (terms-more vars old.terms k.term h.says.valid k.may);
      };
      is = k.is ∙ ap (λ (r : LineRow). with_terms r (old.terms ++ k.term ∷ [])) h.is ∙ ap (with_terms line) (sym more);
    }

pub terms-end : (vars : ℕ) (line old : LineRow) (values : List Value) (i : ℕ) → length values ≤ i → AddsTerms vars line (take i values) old → AddsTerms vars line values old
terms-end vars line old values i l h = subst (λ (vs : List Value). AddsTerms vars line vs old) (take_all i values l) h

pub terms-none : (vars : ℕ) (line old : LineRow) (values : List Value) (i : ℕ) (v : Value) (ts : List TermRow) → i < length values → v ≡ get_or values i v → AddsTerms vars line (take i values) old → SayTerms vars values ts
    → ((t : TermRow) → SaysTerm (view v) t → MayFollow vars old.terms t → ⊥) → ⊥
terms-none vars line old values i v ts l is h say none =
    let s = zip-split Says (λ v s t. term-one (view v) s t) values i v old.terms ts l is h.says.say say.say in
    none s.0 s.3 (may-follow vars old.terms s.0 s.1 (subst (AreTerms (pos vars)) s.2 say.valid))
