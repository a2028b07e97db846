-- The tokens of slots: what is left after one slot, and the values that they say.
use Rattle.std.proofs.Common.{◌≡◌, ◌↔◌, ℕ, ◌+◌, ◌-◌, ◌<◌, ◌≤◌, List, [], ◌∷◌, ◌++◌, length, map, take, drop, get_or, refl, arith, sym, ◌∙◌, ap, subst, All, Contains, ℤ}
use Rattle.std.specs.Prelude.{flat_map}
use Rattle.std.specs.Fmt.{signed_decimal}
use Rattle.std.specs.List.{AllByRecursion}
use Rattle.std.proofs.lemmas.List.{drop_more, drop_all, drop-drop, drop-map, take-map, take-append-drop, take_at, drop_at, length-map, length-drop, length-append, length-take-le, append_assoc, append-nil}
use Rattle.std.proofs.lemmas.List.Elements.{All-nil, All-cons, All-map, All-same, recursion_from_All}
use Rattle.scatter_text.specs.declared.grammar.Keyword.{Keyword}
use Rattle.scatter_text.specs.declared.grammar.Slot.{Slot}
use Rattle.scatter_text.specs.declared.grammar.Slot.TheVariants as slot
use Rattle.scatter_text.specs.declared.row.RowValue.{RowValue}
use Rattle.scatter_text.specs.declared.row.RowValue.TheVariants as value
use Rattle.scatter_text.specs.declared.row.Row.{Row}
use Rattle.scatter_text.specs.Grammar.{IsShort, IsNumberText, text_of_fixed, forms_of, slots_of, token_count, IsInPlace, IsSpelled, HasForm, AreSpelled, slot_of, value_tokens, IsSpellable, FillsSlots, row_tokens}
use Rattle.scatter_text.specs.Reading.{AreOfSlot, IsValueOf, AreValuesOf}
use Rattle.scatter_text.proofs.Spelling.{coordinate-same, number-injective}
use Rattle.scatter_text.proofs.Words.{word_injective}
use Rattle.scatter_text.proofs.RowForms.{one-form}

-- ---- one slot after the other

abbrev pub AreValuesFrom : ℕ → List Slot → List (List ℕ) → List RowValue → List Slot → List (List ℕ) → Type 0
AreValuesFrom variables slots tokens values later left = (more : List RowValue) → AreValuesOf variables later left more → AreValuesOf variables slots tokens (values ++ more)

-- the slot at i, of n tokens, where the tokens before start are read
module _ {Y : Type 0} (f : Y → List ℕ) (variables : ℕ) (slots : List Slot) (tokens : List Y) (i start n : ℕ) (d : Slot) (within : i < length slots) (count : n ≡ token_count variables (get_or slots i d)) where
  abbrev s : Slot
  s = get_or slots i d

  abbrev later : List Slot
  later = drop (i + 1) slots

  abbrev left : List (List ℕ)
  left = drop start (map f tokens)

  abbrev here : List (List ℕ)
  here = map f (take n (drop start tokens))

  abbrev after : List (List ℕ)
  after = drop (start + n) (map f tokens)

  here-is : take (token_count variables s) left ≡ here
  here-is = ap (λ (n : ℕ). take n left) (sym count) ∙ ap (take n) (drop-map f start tokens) ∙ take-map f n (drop start tokens)

  after-is : drop (token_count variables s) left ≡ after
  after-is = ap (λ (n : ℕ). drop n left) (sym count) ∙ drop-drop n start (map f tokens)

  left-count : length left ≡ length tokens - start
  left-count = length-drop start (map f tokens) ∙ ap (λ (n : ℕ). n - start) (length-map tokens f)

  form-here : HasForm variables (drop i slots) left → HasForm variables (s ∷ later) left
  form-here h = let P : List Slot → Type 0 = λ slots. HasForm variables slots left in subst P (drop_more slots i d within) h

  pub form-room : HasForm variables (drop i slots) left → n ≤ length tokens - start
  form-room h = let k = (form-here h).0 in omega (arith, k, left-count, count)

  pub form-placed : HasForm variables (drop i slots) left → All (IsInPlace s) here
  form-placed h = let P : List (List ℕ) → Type 0 = λ tokens. All (IsInPlace s) tokens in subst P here-is (form-here h).1

  pub form-after : HasForm variables (drop i slots) left → HasForm variables later after
  form-after h = let P : List (List ℕ) → Type 0 = λ tokens. HasForm variables later tokens in subst P after-is (form-here h).2

  pub form-before : n ≤ length tokens - start → All (IsInPlace s) here → HasForm variables later after → HasForm variables (drop i slots) left
  form-before room placed h =
      let P : List Slot → Type 0 = λ slots. HasForm variables slots left in
      let Q : List (List ℕ) → Type 0 = λ tokens. All (IsInPlace s) tokens in
      let R : List (List ℕ) → Type 0 = λ tokens. HasForm variables later tokens in
      subst P (sym (drop_more slots i d within)) (omega (arith, room, left-count, count), subst Q (sym here-is) placed, subst R (sym after-is) h)

  pub of-slot : HasForm variables (drop i slots) left → AreOfSlot variables s here
  of-slot h = record { count = ap length (sym here-is) ∙ length-take-le (token_count variables s) left (form-here h).0; in_place = form-placed h }

  spelled-here : AreSpelled variables (drop i slots) left → AreSpelled variables (s ∷ later) left
  spelled-here h = let P : List Slot → Type 0 = λ slots. AreSpelled variables slots left in subst P (drop_more slots i d within) h

  pub spelled-slot : AreSpelled variables (drop i slots) left → All (IsSpelled s) here
  spelled-slot h = let P : List (List ℕ) → Type 0 = λ tokens. All (IsSpelled s) tokens in subst P here-is (spelled-here h).0

  pub spelled-after : AreSpelled variables (drop i slots) left → AreSpelled variables later after
  spelled-after h = let P : List (List ℕ) → Type 0 = λ tokens. AreSpelled variables later tokens in subst P after-is (spelled-here h).1

  values-cons : (v : RowValue) (values : List RowValue) → IsValueOf variables s here v → AreValuesOf variables later after values → AreValuesOf variables (drop i slots) left (v ∷ values)
  values-cons v values h more =
      let first = h.slot in
      let rest = more.fill in
      let halves = sym (take-append-drop (token_count variables s) left) ∙ ap (λ front. front ++ drop (token_count variables s) left) here-is ∙ ap (λ back. here ++ back) after-is in
      record {
        fill = (λ i. first i ∷ rest i) ∙ sym (drop_more slots i d within);
        spellable = All-cons (IsSpellable variables) v values h.spellable more.spellable;
        text = halves ∙ ap (λ front. front ++ after) h.text ∙ ap (λ back. value_tokens v ++ back) more.text;
      }

  pub values-more : (all : List (List ℕ)) (values longer : List RowValue) (v : RowValue) → longer ≡ values ++ v ∷ [] → IsValueOf variables s here v → AreValuesFrom variables slots all values (drop i slots) left → AreValuesFrom variables slots all longer later after
  values-more all values longer v grown h from = λ more said.
      let P : List RowValue → Type 0 = λ values. AreValuesOf variables slots all values in
      subst P (sym (ap (λ front. front ++ more) grown ∙ append_assoc values (v ∷ []) more)) (from (v ∷ more) (values-cons v more h said))

pub values-end : (variables : ℕ) (slots : List Slot) (tokens : List (List ℕ)) (i : ℕ) (rest : List (List ℕ)) (values : List RowValue) → length slots ≤ i → HasForm variables (drop i slots) rest → AreValuesFrom variables slots tokens values (drop i slots) rest → AreValuesOf variables slots tokens values
values-end variables slots tokens i rest values past form from =
    let none : drop i slots ≡ [] = drop_all i slots past in
    let F : List Slot → Type 0 = λ slots. HasForm variables slots rest in
    let empty : rest ≡ [] = subst F none form in
    let nothing : AreValuesOf variables (drop i slots) rest [] = record { fill = sym none; spellable = All-nil (IsSpellable variables); text = empty } in
    let P : List RowValue → Type 0 = λ values. AreValuesOf variables slots tokens values in
    subst P (append-nil values) (from [] nothing)

-- at the end no token is left
pub form-end : (variables : ℕ) (slots : List Slot) (i start : ℕ) (tokens : List (List ℕ)) → length slots ≤ i → start ≤ length tokens → HasForm variables (drop i slots) (drop start tokens) ↔ (start ≡ length tokens)
form-end variables slots i start tokens past within =
    let none : drop i slots ≡ [] = drop_all i slots past in
    let F : List Slot → Type 0 = λ slots. HasForm variables slots (drop start tokens) in (
      λ h. let empty = ap length (subst F none h) in omega (arith, empty, length-drop start tokens, within),
      λ e. subst F (sym none) (drop_all start tokens (omega (arith, e))),
    )

-- ---- values pass the tests of their slots

pub value-spelled : (variables : ℕ) (v : RowValue) (tokens : List (List ℕ)) → IsSpellable variables v → tokens ≡ value_tokens v → All (IsSpelled (slot_of v)) tokens
value-spelled variables (value.Fixed word) tokens h e = let P = IsSpelled (slot.Fixed word) in All-same P tokens (text_of_fixed word ∷ []) e (All-cons P (text_of_fixed word) [] tt (All-nil P))
value-spelled variables (value.Number n) tokens h e = All-same IsNumberText tokens (signed_decimal n ∷ []) e (All-cons IsNumberText (signed_decimal n) [] (n, h, refl) (All-nil IsNumberText))
value-spelled variables (value.Coordinate c) tokens h e = let P = IsSpelled slot.Coordinate in All-same P tokens (value_tokens (value.Coordinate c)) e (All-cons P _ [] (c, h, refl) (All-nil P))
value-spelled variables (value.Powers powers) tokens h e = All-same IsNumberText tokens (map signed_decimal powers) e (All-map IsNumberText signed_decimal powers (λ k d within. (get_or powers k d, h.1 k d within, refl)))

value-in_place : (variables : ℕ) (v : RowValue) → All (IsInPlace (slot_of v)) (value_tokens v)
value-in_place variables (value.Fixed word) = let P = IsInPlace (slot.Fixed word) in All-cons P (text_of_fixed word) [] refl (All-nil P)
value-in_place variables (value.Number n) = λ k d within. tt
value-in_place variables (value.Coordinate c) = λ k d within. tt
value-in_place variables (value.Powers powers) = λ k d within. tt

value-count : (variables : ℕ) (v : RowValue) → IsSpellable variables v → length (value_tokens v) ≡ token_count variables (slot_of v)
value-count variables (value.Fixed word) h = refl
value-count variables (value.Number n) h = refl
value-count variables (value.Coordinate c) h = refl
value-count variables (value.Powers powers) h = length-map powers signed_decimal ∙ h.0

values-form : (variables : ℕ) (values : List RowValue) → AllByRecursion (IsSpellable variables) values → HasForm variables (map slot_of values) (flat_map value_tokens values)
values-form variables [] h = refl
values-form variables (v ∷ values) h =
    let n = token_count variables (slot_of v) in
    let rest = flat_map value_tokens values in
    let count = value-count variables v h.0 in
    let P : List (List ℕ) → Type 0 = λ tokens. All (IsInPlace (slot_of v)) tokens in
    let Q : List (List ℕ) → Type 0 = λ tokens. HasForm variables (map slot_of values) tokens in (
      omega (arith, count, length-append (value_tokens v) rest),
      subst P (sym (take_at (value_tokens v) rest n count)) (value-in_place variables v),
      subst Q (sym (drop_at (value_tokens v) rest n count)) (values-form variables values h.1),
    )

values-spelled : (variables : ℕ) (values : List RowValue) → AllByRecursion (IsSpellable variables) values → AreSpelled variables (map slot_of values) (flat_map value_tokens values)
values-spelled variables [] h = tt
values-spelled variables (v ∷ values) h =
    let n = token_count variables (slot_of v) in
    let rest = flat_map value_tokens values in
    let count = value-count variables v h.0 in
    let P : List (List ℕ) → Type 0 = λ tokens. All (IsSpelled (slot_of v)) tokens in
    let Q : List (List ℕ) → Type 0 = λ tokens. AreSpelled variables (map slot_of values) tokens in (
      subst P (sym (take_at (value_tokens v) rest n count)) (value-spelled variables v (value_tokens v) h.0 refl),
      subst Q (sym (drop_at (value_tokens v) rest n count)) (values-spelled variables values h.1),
    )

pub form-of_values : (variables : ℕ) (slots : List Slot) (tokens : List (List ℕ)) (values : List RowValue) → AreValuesOf variables slots tokens values → HasForm variables slots tokens
form-of_values variables slots tokens values h =
    let P : List Slot → List (List ℕ) → Type 0 = λ slots tokens. HasForm variables slots tokens in
    subst (λ z. z) (λ i. P (h.fill i) (sym h.text i)) (values-form variables values (recursion_from_All (IsSpellable variables) values h.spellable))

pub spelled-of_values : (variables : ℕ) (slots : List Slot) (tokens : List (List ℕ)) (values : List RowValue) → AreValuesOf variables slots tokens values → AreSpelled variables slots tokens
spelled-of_values variables slots tokens values h =
    let P : List Slot → List (List ℕ) → Type 0 = λ slots tokens. AreSpelled variables slots tokens in
    subst (λ z. z) (λ i. P (h.fill i) (sym h.text i)) (values-spelled variables values (recursion_from_All (IsSpellable variables) values h.spellable))

-- ---- tokens say one row

numbers-same : (xs ys : List ℤ) → AllByRecursion IsShort xs → AllByRecursion IsShort ys → map signed_decimal xs ≡ map signed_decimal ys → xs ≡ ys
numbers-same [] [] g h e = refl
numbers-same [] (y ∷ ys) g h e = absurd (none e)
  where
    none : [] ≡ signed_decimal y ∷ map signed_decimal ys → ⊥
    none e = cc
numbers-same (x ∷ xs) [] g h e = absurd (none e)
  where
    none : signed_decimal x ∷ map signed_decimal xs ≡ [] → ⊥
    none e = cc
numbers-same (x ∷ xs) (y ∷ ys) g h e =
    let first = number-injective x y g.0 h.0 (ap (λ (ts : List (List ℕ)). get_or ts 0 []) e) in
    let rest = numbers-same xs ys g.1 h.1 (ap (λ (ts : List (List ℕ)). drop 1 ts) e) in
    λ i. first i ∷ rest i

value-same : (variables : ℕ) (v w : RowValue) → slot_of v ≡ slot_of w → IsSpellable variables v → IsSpellable variables w → value_tokens v ≡ value_tokens w → v ≡ w
value-same variables (value.Fixed a) (value.Fixed b) s g h e = let same : a ≡ b = cc in ap value.Fixed same
value-same variables (value.Number m) (value.Number n) s g h e = ap value.Number (number-injective m n g h (ap (λ (ts : List (List ℕ)). get_or ts 0 []) e))
value-same variables (value.Coordinate c) (value.Coordinate d) s g h e = ap value.Coordinate (coordinate-same c d g h (ap (λ (ts : List (List ℕ)). get_or ts 0 []) e))
value-same variables (value.Powers a) (value.Powers b) s g h e = ap value.Powers (numbers-same a b (recursion_from_All IsShort a g.1) (recursion_from_All IsShort b h.1) e)
value-same variables v w s g h e = absurd (cc)

values-same : (variables : ℕ) (values others : List RowValue) → map slot_of values ≡ map slot_of others → AllByRecursion (IsSpellable variables) values → AllByRecursion (IsSpellable variables) others → flat_map value_tokens values ≡ flat_map value_tokens others → values ≡ others
values-same variables [] [] s g h e = refl
values-same variables [] (w ∷ others) s g h e = absurd (none s)
  where
    none : [] ≡ slot_of w ∷ map slot_of others → ⊥
    none e = cc
values-same variables (v ∷ values) [] s g h e = absurd (none s)
  where
    none : slot_of v ∷ map slot_of values ≡ [] → ⊥
    none e = cc
values-same variables (v ∷ values) (w ∷ others) s g h e =
    let kind : slot_of v ≡ slot_of w = ap (λ (ss : List Slot). get_or ss 0 slot.Number) s in
    let kinds : map slot_of values ≡ map slot_of others = ap (λ (ss : List Slot). drop 1 ss) s in
    let n = token_count variables (slot_of v) in
    let count = value-count variables v g.0 in
    let counts = value-count variables w h.0 ∙ ap (token_count variables) (sym kind) in
    let front = sym (take_at (value_tokens v) (flat_map value_tokens values) n count) ∙ ap (λ (ts : List (List ℕ)). take n ts) e ∙ take_at (value_tokens w) (flat_map value_tokens others) n counts in
    let back = sym (drop_at (value_tokens v) (flat_map value_tokens values) n count) ∙ ap (λ (ts : List (List ℕ)). drop n ts) e ∙ drop_at (value_tokens w) (flat_map value_tokens others) n counts in
    let first = value-same variables v w kind g.0 h.0 front in
    let rest = values-same variables values others kinds g.1 h.1 back in
    λ i. first i ∷ rest i

fills-form : (variables : ℕ) (r : Row) (h : FillsSlots variables r) → HasForm variables (slots_of h.row_form) (flat_map value_tokens r.values)
fills-form variables r h = form-of_values variables (slots_of h.row_form) (flat_map value_tokens r.values) r.values (record { fill = h.slots; spellable = h.spellable; text = refl })

pub row-same : (variables : ℕ) (r s : Row) → FillsSlots variables r → FillsSlots variables s → row_tokens r ≡ row_tokens s → r ≡ s
row-same variables r s g h e =
    let word : r.keyword ≡ s.keyword = word_injective r.keyword s.keyword (ap (λ (ts : List (List ℕ)). get_or ts 0 []) e) in
    let rest : flat_map value_tokens r.values ≡ flat_map value_tokens s.values = ap (λ (ts : List (List ℕ)). drop 1 ts) e in
    let C : Keyword → Type 0 = λ k. Contains (forms_of k) g.row_form in
    let F : List (List ℕ) → Type 0 = λ tokens. HasForm variables (slots_of h.row_form) tokens in
    let one : g.row_form ≡ h.row_form =
    one-form variables s.keyword g.row_form h.row_form (flat_map value_tokens r.values) (subst C word g.of_keyword) h.of_keyword (fills-form variables r g) (subst F (sym rest) (fills-form variables s h)) in
    let values : r.values ≡ s.values =
    values-same variables r.values s.values (g.slots ∙ ap slots_of one ∙ sym h.slots) (recursion_from_All (IsSpellable variables) r.values g.spellable) (recursion_from_All (IsSpellable variables) s.values h.spellable) rest in
    λ i. record { keyword = word i; values = values i }
