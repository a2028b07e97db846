-- The tokens after a keyword have one of its forms at most.
use Rattle.std.proofs.Common.{inl, inr, ◌⊎◌, ◌≡◌, ◌≤◌, ℕ, zero, suc, ◌+◌, ◌==◌, cond, List, [], ◌∷◌, length, drop, get_or, arith, sym, ◌∙◌, ap, subst, Contains}
use Rattle.std.specs.List.{AllWithin}
use Rattle.std.proofs.lemmas.List.{length-drop}
use Rattle.scatter_text.specs.declared.grammar.Keyword.{Keyword}
use Rattle.scatter_text.specs.declared.grammar.Keyword.TheVariants as keyword
use Rattle.scatter_text.specs.declared.grammar.RowForm.{RowForm}
use Rattle.scatter_text.specs.declared.grammar.RowForm.TheVariants as form
use Rattle.scatter_text.specs.declared.grammar.FixedWord.{FixedWord}
use Rattle.scatter_text.specs.declared.grammar.FixedWord.TheVariants.{Theta, Product}
use Rattle.scatter_text.specs.declared.grammar.Slot.{Slot}
use Rattle.scatter_text.specs.declared.grammar.Slot.TheVariants as slot
use Rattle.scatter_text.specs.Grammar.{forms_of, slots_of, text_of_fixed, token_count, HasForm, HasSomeForm}

-- ---- members of short lists

module _ {X : Type 0} where
  pub first-or-later : (x : X) (xs : List X) (y : X) → Contains (x ∷ xs) y → (y ≡ x) ⊎ Contains xs y
  first-or-later x xs y (zero, within, is) = inl (sym is)
  first-or-later x xs y (suc n, within, is) = inr (n, omega (arith, within), is)

  pub none-of : (y : X) → Contains [] y → ⊥
  none-of y (n, within, is) = omega (arith, within)

  pub only : (x y : X) → Contains (x ∷ []) y → y ≡ x
  only x y c = elim (first-or-later x [] y c) [ inl e ↦ e | inr more ↦ absurd (none-of y more) ]

-- ---- how many tokens a form has, and the second of them

abbrev slot_total : ℕ → List Slot → ℕ
slot_total variables [] = 0
slot_total variables (s ∷ slots) = token_count variables s + slot_total variables slots

form-length : (variables : ℕ) (slots : List Slot) (tokens : List (List ℕ)) → HasForm variables slots tokens → length tokens ≡ slot_total variables slots
form-length variables [] tokens h = ap length h
form-length variables (s ∷ slots) tokens h =
    let rest = form-length variables slots (drop (token_count variables s) tokens) h.2 in
    omega (arith, rest, h.0, length-drop (token_count variables s) tokens)

second-word : (variables : ℕ) (word : FixedWord) (slots : List Slot) (tokens : List (List ℕ)) → HasForm variables (slot.Number ∷ slot.Fixed word ∷ slots) tokens → get_or tokens 1 [] ≡ text_of_fixed word
second-word variables word slots [] h = absurd (omega (arith, h.0))
second-word variables word slots (t ∷ []) h = absurd (omega (arith, h.2.0))
second-word variables word slots (t ∷ u ∷ tokens) h = h.2.1 0 [] (omega arith)

-- ---- the form of an ask, by the number of tokens after its keyword, and the length of the second

abbrev chosen : ℕ → ℕ → RowForm
chosen count size = cond (count == 7) form.Theta (cond (count == 11) form.ProductWithOrder (cond (size == 5) form.ThetaWithOrder form.Product))

abbrev seen : List (List ℕ) → RowForm
seen tokens = chosen (length tokens) (length (get_or tokens 1 []))

seen-by : (tokens : List (List ℕ)) (count : ℕ) (word : FixedWord) → length tokens ≡ count → get_or tokens 1 [] ≡ text_of_fixed word → chosen count (length (text_of_fixed word)) ≡ seen tokens
seen-by tokens count word n w = λ i. chosen (sym n i) (length (sym w i))

ask-form : (variables : ℕ) (f : RowForm) (tokens : List (List ℕ)) → Contains (forms_of keyword.Ask) f → HasForm variables (slots_of f) tokens → f ≡ seen tokens
ask-form variables f tokens c h = first (first-or-later form.Theta (form.ThetaWithOrder ∷ form.Product ∷ form.ProductWithOrder ∷ []) f c)
  where
    like : (g : RowForm) → f ≡ g → HasForm variables (slots_of g) tokens
    like g e = subst (λ (f : RowForm). HasForm variables (slots_of f) tokens) e h

    theta : f ≡ form.Theta → f ≡ seen tokens
    theta e = e ∙ seen-by tokens 7 Theta (form-length variables (slots_of form.Theta) tokens (like form.Theta e)) (second-word variables Theta (drop 2 (slots_of form.Theta)) tokens (like form.Theta e))

    theta-with-order : f ≡ form.ThetaWithOrder → f ≡ seen tokens
    theta-with-order e = e ∙ seen-by tokens 9 Theta (form-length variables (slots_of form.ThetaWithOrder) tokens (like form.ThetaWithOrder e)) (second-word variables Theta (drop 2 (slots_of form.ThetaWithOrder)) tokens (like form.ThetaWithOrder e))

    product : f ≡ form.Product → f ≡ seen tokens
    product e = e ∙ seen-by tokens 9 Product (form-length variables (slots_of form.Product) tokens (like form.Product e)) (second-word variables Product (drop 2 (slots_of form.Product)) tokens (like form.Product e))

    product-with-order : f ≡ form.ProductWithOrder → f ≡ seen tokens
    product-with-order e = e ∙ seen-by tokens 11 Product (form-length variables (slots_of form.ProductWithOrder) tokens (like form.ProductWithOrder e)) (second-word variables Product (drop 2 (slots_of form.ProductWithOrder)) tokens (like form.ProductWithOrder e))

    third : (f ≡ form.Product) ⊎ Contains (form.ProductWithOrder ∷ []) f → f ≡ seen tokens
    third (inl e) = product e
    third (inr more) = product-with-order (only form.ProductWithOrder f more)

    second : (f ≡ form.ThetaWithOrder) ⊎ Contains (form.Product ∷ form.ProductWithOrder ∷ []) f → f ≡ seen tokens
    second (inl e) = theta-with-order e
    second (inr more) = third (first-or-later form.Product (form.ProductWithOrder ∷ []) f more)

    first : (f ≡ form.Theta) ⊎ Contains (form.ThetaWithOrder ∷ form.Product ∷ form.ProductWithOrder ∷ []) f → f ≡ seen tokens
    first (inl e) = theta e
    first (inr more) = second (first-or-later form.ThetaWithOrder (form.Product ∷ form.ProductWithOrder ∷ []) f more)

pub one-form : (variables : ℕ) (k : Keyword) (f g : RowForm) (tokens : List (List ℕ)) → Contains (forms_of k) f → Contains (forms_of k) g → HasForm variables (slots_of f) tokens → HasForm variables (slots_of g) tokens → f ≡ g
one-form variables keyword.Scatter f g tokens c d h i = only form.Scatter f c ∙ sym (only form.Scatter g d)
one-form variables keyword.Vars f g tokens c d h i = only form.Vars f c ∙ sym (only form.Vars g d)
one-form variables keyword.Line f g tokens c d h i = only form.Line f c ∙ sym (only form.Line g d)
one-form variables keyword.Term f g tokens c d h i = only form.Term f c ∙ sym (only form.Term g d)
one-form variables keyword.Ask f g tokens c d h i = ask-form variables f tokens c h ∙ sym (ask-form variables g tokens d i)
one-form variables keyword.Settle f g tokens c d h i = only form.Settle f c ∙ sym (only form.Settle g d)
one-form variables keyword.End f g tokens c d h i = only form.End f c ∙ sym (only form.End g d)

-- ---- none of them

pub no-form : (variables : ℕ) (k : Keyword) (tokens : List (List ℕ)) (forms : List RowForm) (i : ℕ) → forms ≡ forms_of k → length forms ≤ i → AllWithin (λ f. ¬ HasForm variables (slots_of f) tokens) forms 0 i → HasSomeForm variables k tokens → ⊥
no-form variables k tokens forms i e past none (f, c, has) =
    let P : List RowForm → Type 0 = λ fs. Contains fs f in
    let F : RowForm → Type 0 = λ f. HasForm variables (slots_of f) tokens in
    let d = subst P (sym e) c in
    none d.0 f (omega arith) (omega (arith, d.1, past)) (subst F (sym d.2) has)
