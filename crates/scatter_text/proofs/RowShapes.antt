-- A row whose values fill the slots of its keyword is what its values say; which keyword it has, by its place.
use Rattle.std.proofs.Common.{inl, inr, ◌⊎◌, ◌≡◌, ℕ, List, [], ◌∷◌, map, refl, ◌∙◌, ap, subst, Contains}
use Rattle.std.proofs.lemmas.List.Elements.{Contains-append_left}
use Rattle.scatter_text.specs.declared.grammar.Keyword.{Keyword}
use Rattle.scatter_text.specs.declared.grammar.Keyword.TheVariants as keyword
use Rattle.scatter_text.specs.declared.grammar.RowForm.{RowForm}
use Rattle.scatter_text.specs.declared.grammar.RowForm.TheVariants as form
use Rattle.scatter_text.specs.declared.grammar.FixedWord.TheVariants.{At, Theta, Product, Order}
use Rattle.scatter_text.specs.declared.grammar.Slot.TheVariants as slot
use Rattle.scatter_text.specs.declared.grammar.Place.TheVariants as place
use Rattle.scatter_text.specs.declared.grammar.Place.{Place}
use Rattle.scatter_text.specs.declared.grammar.TextMode.{TextMode}
use Rattle.scatter_text.specs.declared.grammar.TextMode.TheVariants as modes
use Rattle.scatter_text.specs.declared.row.RowValue.{RowValue}
use Rattle.scatter_text.specs.declared.row.RowValue.TheVariants as value
use Rattle.scatter_text.specs.declared.row.Row.{Row}
use Rattle.scatter_text.specs.Grammar.{forms_of, slots_of, words_at, slot_of, FillsSlots, number_in, coordinate_in, scatter_row, vars_row, line_row, term_row, ask_row, settle_row, end_row, term_said, ask_said}
use Rattle.scatter_text.proofs.RowForms.{first-or-later, none-of, only}

-- ---- values by their slots

one-number : (values : List RowValue) → map slot_of values ≡ slot.Number ∷ [] → values ≡ value.Number (number_in values 0) ∷ []
one-number (value.Number n ∷ []) e = refl
one-number values e = absurd (cc)

line-values : (values : List RowValue) → map slot_of values ≡ slots_of form.Line → values ≡ (line_row (number_in values 0) (number_in values 1) (coordinate_in values 3) (coordinate_in values 4)).values
line-values (value.Number dx ∷ value.Number dy ∷ value.Fixed At ∷ value.Coordinate x ∷ value.Coordinate y ∷ []) e = refl
line-values values e = absurd (cc)

term-values : (values : List RowValue) → map slot_of values ≡ slots_of form.Term → values ≡ (term_row (term_said values)).values
term-values (value.Number c ∷ value.Number j ∷ value.Powers powers ∷ []) e = refl
term-values values e = absurd (cc)

-- they are those of the row of the ask that they say
abbrev AsksAs : List RowValue → Type 0
AsksAs values = values ≡ (ask_row (ask_said values)).values

theta-values : (values : List RowValue) → map slot_of values ≡ slots_of form.Theta → AsksAs values
theta-values (value.Number n ∷ value.Fixed Theta ∷ value.Number a ∷ value.Number b ∷ value.Fixed At ∷ value.Coordinate x ∷ value.Coordinate y ∷ []) e = refl
theta-values values e = absurd (cc)

theta-order-values : (values : List RowValue) → map slot_of values ≡ slots_of form.ThetaWithOrder → AsksAs values
theta-order-values (value.Number n ∷ value.Fixed Theta ∷ value.Number a ∷ value.Number b ∷ value.Fixed At ∷ value.Coordinate x ∷ value.Coordinate y ∷ value.Fixed Order ∷ value.Number l ∷ []) e = refl
theta-order-values values e = absurd (cc)

product-values : (values : List RowValue) → map slot_of values ≡ slots_of form.Product → AsksAs values
product-values (value.Number n ∷ value.Fixed Product ∷ value.Number a ∷ value.Number b ∷ value.Number c ∷ value.Number d ∷ value.Fixed At ∷ value.Coordinate x ∷ value.Coordinate y ∷ []) e = refl
product-values values e = absurd (cc)

product-order-values : (values : List RowValue) → map slot_of values ≡ slots_of form.ProductWithOrder → AsksAs values
product-order-values (value.Number n ∷ value.Fixed Product ∷ value.Number a ∷ value.Number b ∷ value.Number c ∷ value.Number d ∷ value.Fixed At ∷ value.Coordinate x ∷ value.Coordinate y ∷ value.Fixed Order ∷ value.Number l ∷ []) e = refl
product-order-values values e = absurd (cc)

ask-values : (f : RowForm) (values : List RowValue) → Contains (forms_of keyword.Ask) f → map slot_of values ≡ slots_of f → AsksAs values
ask-values f values c e = first (first-or-later form.Theta (form.ThetaWithOrder ∷ form.Product ∷ form.ProductWithOrder ∷ []) f c)
  where
    third : (f ≡ form.Product) ⊎ Contains (form.ProductWithOrder ∷ []) f → AsksAs values
    third (inl is) = product-values values (e ∙ ap slots_of is)
    third (inr more) = product-order-values values (e ∙ ap slots_of (only form.ProductWithOrder f more))

    second : (f ≡ form.ThetaWithOrder) ⊎ Contains (form.Product ∷ form.ProductWithOrder ∷ []) f → AsksAs values
    second (inl is) = theta-order-values values (e ∙ ap slots_of is)
    second (inr more) = third (first-or-later form.Product (form.ProductWithOrder ∷ []) f more)

    first : (f ≡ form.Theta) ⊎ Contains (form.ThetaWithOrder ∷ form.Product ∷ form.ProductWithOrder ∷ []) f → AsksAs values
    first (inl is) = theta-values values (e ∙ ap slots_of is)
    first (inr more) = second (first-or-later form.ThetaWithOrder (form.Product ∷ form.ProductWithOrder ∷ []) f more)

no-values : (values : List RowValue) → map slot_of values ≡ [] → values ≡ []
no-values [] e = refl
no-values (v ∷ values) e = absurd (cc)

-- ---- rows by their keywords

row-is : (r : Row) (k : Keyword) (values : List RowValue) → r.keyword ≡ k → r.values ≡ values → r ≡ record { keyword = k; values = values }
row-is r k values e f = λ i. record { keyword = e i; values = f i }

-- of a keyword with one form
slots-are : (variables : ℕ) (r : Row) (k : Keyword) (f : RowForm) → r.keyword ≡ k → forms_of k ≡ f ∷ [] → FillsSlots variables r → map slot_of r.values ≡ slots_of f
slots-are variables r k f e one fills = let C : List RowForm → Type 0 = λ fs. Contains fs fills.row_form in fills.slots ∙ ap slots_of (only f fills.row_form (subst C (ap forms_of e ∙ one) fills.of_keyword))

pub scatter-row : (variables : ℕ) (r : Row) → r.keyword ≡ keyword.Scatter → FillsSlots variables r → r ≡ scatter_row (number_in r.values 0)
scatter-row variables r e fills = row-is r keyword.Scatter (value.Number (number_in r.values 0) ∷ []) e (one-number r.values (slots-are variables r keyword.Scatter form.Scatter e refl fills))

pub vars-row : (variables : ℕ) (r : Row) → r.keyword ≡ keyword.Vars → FillsSlots variables r → r ≡ vars_row (number_in r.values 0)
vars-row variables r e fills = row-is r keyword.Vars (value.Number (number_in r.values 0) ∷ []) e (one-number r.values (slots-are variables r keyword.Vars form.Vars e refl fills))

pub line-row : (variables : ℕ) (r : Row) → r.keyword ≡ keyword.Line → FillsSlots variables r → r ≡ line_row (number_in r.values 0) (number_in r.values 1) (coordinate_in r.values 3) (coordinate_in r.values 4)
line-row variables r e fills = row-is r keyword.Line _ e (line-values r.values (slots-are variables r keyword.Line form.Line e refl fills))

pub term-row : (variables : ℕ) (r : Row) → r.keyword ≡ keyword.Term → FillsSlots variables r → r ≡ term_row (term_said r.values)
term-row variables r e fills = row-is r keyword.Term _ e (term-values r.values (slots-are variables r keyword.Term form.Term e refl fills))

pub ask-row : (variables : ℕ) (r : Row) → r.keyword ≡ keyword.Ask → FillsSlots variables r → r ≡ ask_row (ask_said r.values)
ask-row variables r e fills = let C : List RowForm → Type 0 = λ fs. Contains fs fills.row_form in row-is r keyword.Ask _ e (ask-values fills.row_form r.values (subst C (ap forms_of e) fills.of_keyword) fills.slots)

pub settle-row : (variables : ℕ) (r : Row) → r.keyword ≡ keyword.Settle → FillsSlots variables r → r ≡ settle_row
settle-row variables r e fills = row-is r keyword.Settle [] e (no-values r.values (slots-are variables r keyword.Settle form.Settle e refl fills))

pub end-row : (variables : ℕ) (r : Row) → r.keyword ≡ keyword.End → FillsSlots variables r → r ≡ end_row
end-row variables r e fills = row-is r keyword.End [] e (no-values r.values (slots-are variables r keyword.End form.End e refl fills))

-- ---- keywords by their place

-- a text with asks may have all words that another may have
pub with-asks : (mode : TextMode) (at : Place) (k : Keyword) → Contains (words_at mode at) k → Contains (words_at modes.Asks at) k
with-asks modes.Asks at k c = c
with-asks modes.Lines place.Lines k c = Contains-append_left (words_at modes.Lines place.Lines) (keyword.Ask ∷ keyword.Settle ∷ []) k c
with-asks modes.Lines place.Terms k c = Contains-append_left (words_at modes.Lines place.Terms) (keyword.Ask ∷ keyword.Settle ∷ []) k c
with-asks modes.Lines place.Asks k c = Contains-append_left (words_at modes.Lines place.Asks) (keyword.Ask ∷ keyword.Settle ∷ []) k c
with-asks modes.Lines at k c = c

pub first-keyword : (k : Keyword) → Contains (words_at modes.Asks place.Start) k → k ≡ keyword.Scatter
first-keyword k c = only keyword.Scatter k c

pub second-keyword : (k : Keyword) → Contains (words_at modes.Asks place.Version) k → k ≡ keyword.Vars
second-keyword k c = only keyword.Vars k c

pub past-lines : (k : Keyword) → Contains (words_at modes.Asks place.Lines) k → (k ≡ keyword.Line → ⊥) → Contains (words_at modes.Asks place.Asks) k
past-lines k c other = elim (first-or-later keyword.Line (words_at modes.Asks place.Asks) k c) [ inl e ↦ absurd (other e) | inr more ↦ more ]

pub past-terms : (k : Keyword) → Contains (words_at modes.Asks place.Terms) k → (k ≡ keyword.Line → ⊥) → (k ≡ keyword.Term → ⊥) → Contains (words_at modes.Asks place.Asks) k
past-terms k c no-line no-term = elim (first-or-later keyword.Term (words_at modes.Asks place.Lines) k c) [ inl e ↦ absurd (no-term e) | inr more ↦ past-lines k more no-line ]

pub end-of-asks : (k : Keyword) → Contains (words_at modes.Asks place.Asks) k → (k ≡ keyword.Ask → ⊥) → (k ≡ keyword.Settle → ⊥) → k ≡ keyword.End
end-of-asks k c no-ask no-settle = first (first-or-later keyword.End (keyword.Ask ∷ keyword.Settle ∷ []) k c)
  where
    second : (k ≡ keyword.Ask) ⊎ Contains (keyword.Settle ∷ []) k → k ≡ keyword.End
    second (inl e) = absurd (no-ask e)
    second (inr more) = absurd (no-settle (only keyword.Settle k more))

    first : (k ≡ keyword.End) ⊎ Contains (keyword.Ask ∷ keyword.Settle ∷ []) k → k ≡ keyword.End
    first (inl e) = e
    first (inr more) = second (first-or-later keyword.Ask (keyword.Settle ∷ []) k more)

pub no-keyword : (k : Keyword) → Contains (words_at modes.Asks place.After) k → ⊥
no-keyword k c = none-of k c
