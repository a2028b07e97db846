-- A line begins with one keyword, so its first failing test is one.
use Rattle.std.proofs.Common.{inl, inr, ◌≡◌, ◌≢◌, ℕ, List, [], refl, sym, ◌∙◌, ap, subst, Option, unwrap_or, All, drop, ◌∷◌, slice_get, Some, Contains}
use Rattle.scatter_text.specs.declared.fault.TextKind.{TextKind}
use Rattle.scatter_text.specs.declared.fault.TextKind.TheVariants.{Unfinished, Byte, Shape, Word, Count, Number, Value, Missing}
use Rattle.scatter_text.specs.declared.grammar.TextMode.{TextMode}
use Rattle.scatter_text.specs.declared.grammar.Keyword.{Keyword}
use Rattle.scatter_text.specs.declared.grammar.RowForm.{RowForm}
use Rattle.scatter_text.specs.declared.grammar.Place.{Place}
use Rattle.scatter_text.specs.declared.row.Row.{Row}
use Rattle.scatter_text.specs.Grammar.{word_of, forms_of, slots_of, place_after, variables_of, BeginWith, tokens_of, HasSomeForm, AreSpelled, Passes, IsBadLine}
use Rattle.scatter_text.specs.Reading.{Say, AreBadTokens, IsUnvaluedLine}
use Rattle.scatter_text.proofs.Words.{word_injective}
use Rattle.scatter_text.proofs.Slots.{spelled-of_values}
use Rattle.scatter_text.proofs.RowForms.{one-form}

begin_with_one : (mode : TextMode) (place : Place) (tokens : List (List ℕ)) (j k : Keyword) → BeginWith mode place tokens j → BeginWith mode place tokens k → j ≡ k
begin_with_one mode place tokens j k g h = word_injective j k (ap (λ (o : Option (List ℕ)). unwrap_or o []) (sym g.first ∙ h.first))

-- a printable line of separate tokens, seen by its tokens
pub record IsCut (mode : TextMode) (before : List Row) (line : List ℕ) (place : Place) (variables : ℕ) (tokens : List (List ℕ)) : Type 0 where
  pub at : place_after before ≡ place
  pub with_variables : variables_of before ≡ variables
  pub cut : tokens ≡ tokens_of line
  pub byte : Passes mode before line Byte
  pub separate : All (λ token. token ≢ []) tokens

module _ (mode : TextMode) (before : List Row) (line : List ℕ) (byte : Passes mode before line Byte) (shape : Passes mode before line Shape) where
  abbrev here : Place
  here = place_after before

  abbrev count : ℕ
  count = variables_of before

  abbrev cut_line : List (List ℕ)
  cut_line = tokens_of line

  bad-tokens : (kind : TextKind) → AreBadTokens mode here count cut_line kind → IsBadLine mode before line kind
  bad-tokens Unfinished bad = absurd bad
  bad-tokens Byte bad = absurd bad
  bad-tokens Shape bad = absurd bad
  bad-tokens Value bad = absurd bad
  bad-tokens Missing bad = absurd bad
  bad-tokens Word none = inr (byte, inr (shape, inl ((λ begins. none begins.0 begins.1), refl)))
  bad-tokens Count (k, begins, refused) = inr (byte, inr (shape, inr ((k, begins), inl (not, refl))))
    where
      not : ¬ Passes mode before line Count
      not (j, also, fits) = let P : Keyword → Type 0 = λ k. HasSomeForm count k (drop 1 cut_line) in refused (subst P (begin_with_one mode here cut_line j k also begins) fits)
  bad-tokens Number (k, begins, f, fits, refused) = inr (byte, inr (shape, inr ((k, begins), inr ((k, begins, (f, fits.of_keyword, fits.has)), inl (not, refl)))))
    where
      not : ¬ Passes mode before line Number
      not (j, also, (g, of_keyword, has, spelled)) =
          let C : Keyword → Type 0 = λ k. Contains (forms_of k) g in
          let same : g ≡ f = one-form count k g f (drop 1 cut_line) (subst C (begin_with_one mode here cut_line j k also begins) of_keyword) fits.of_keyword has fits.has in
          let P : RowForm → Type 0 = λ f. AreSpelled count (slots_of f) (drop 1 cut_line) in
          refused (subst P same spelled)

  unvalued : (r : Row) → Say mode here count cut_line r → IsUnvaluedLine mode before line r
  unvalued r say = record {
    byte = byte;
    shape = shape;
    word = (r.keyword, say.begins);
    count = (r.keyword, say.begins, (say.row_form, say.has.of_keyword, say.has.has));
    number = (r.keyword, say.begins, (say.row_form, say.has.of_keyword, say.has.has, spelled-of_values count (slots_of say.row_form) (drop 1 cut_line) r.values say.says));
    allowed = say.begins.allowed;
    text = whole cut_line say.begins.first ∙ ap (λ (rest : List (List ℕ)). word_of r.keyword ∷ rest) say.says.text;
    fills = record { row_form = say.row_form; of_keyword = say.has.of_keyword; slots = say.says.fill; spellable = say.says.spellable };
  }
    where
      whole : (tokens : List (List ℕ)) → slice_get tokens 0 ≡ Some (word_of r.keyword) → tokens ≡ word_of r.keyword ∷ drop 1 tokens
      whole [] e = absurd (cc)
      whole (first ∷ rest) e = let same : first ≡ word_of r.keyword = cc in ap (λ (word : List ℕ). word ∷ rest) same

shape : (mode : TextMode) (before : List Row) (line : List ℕ) (place : Place) (variables : ℕ) (tokens : List (List ℕ)) → IsCut mode before line place variables tokens → Passes mode before line Shape
shape mode before line place variables tokens h = let P : List (List ℕ) → Type 0 = λ tokens. All (λ token. token ≢ []) tokens in subst P h.cut h.separate

pub bad_line : (mode : TextMode) (before : List Row) (line : List ℕ) (place : Place) (variables : ℕ) (tokens : List (List ℕ)) (kind : TextKind) → IsCut mode before line place variables tokens → AreBadTokens mode place variables tokens kind → IsBadLine mode before line kind
bad_line mode before line place variables tokens kind h bad =
    let P : Place → ℕ → List (List ℕ) → Type 0 = λ place variables tokens. AreBadTokens mode place variables tokens kind in
    bad-tokens mode before line h.byte (shape mode before line place variables tokens h) kind (subst (λ z. z) (λ i. P (sym h.at i) (sym h.with_variables i) (h.cut i)) bad)

pub unvalued_line : (mode : TextMode) (before : List Row) (line : List ℕ) (place : Place) (variables : ℕ) (tokens : List (List ℕ)) (r : Row) → IsCut mode before line place variables tokens → Say mode place variables tokens r → IsUnvaluedLine mode before line r
unvalued_line mode before line place variables tokens r h say =
    let P : Place → ℕ → List (List ℕ) → Type 0 = λ place variables tokens. Say mode place variables tokens r in
    unvalued mode before line h.byte (shape mode before line place variables tokens h) r (subst (λ z. z) (λ i. P (sym h.at i) (sym h.with_variables i) (h.cut i)) say)
