-- A text is the one text of its file, and has one outcome.
use Rattle.std.proofs.Common.{suc, length, ◌+◌, inl, inr, ◌≡◌, ℕ, List, [], ◌∷◌, ◌++◌, drop, get_or, reverse, flat_map, refl, sym, ◌∙◌, ap, subst}
use Rattle.std.specs.List.{join_with_byte, AllByRecursion}
use Rattle.std.proofs.lemmas.List.{append_assoc, append-nil, reverse-append}
use Rattle.std.proofs.lemmas.List.Splits.{join_with_byte-slice_split}
use Rattle.std.proofs.lemmas.Grind.{flat_map-append}
use Rattle.scatter_text.specs.declared.fault.TextKind.{TextKind}
use Rattle.scatter_text.specs.declared.file.TextFile.{TextFile}
use Rattle.scatter_text.specs.declared.grammar.Place.TheVariants.{After}
use Rattle.scatter_text.specs.declared.grammar.TextMode.{TextMode}
use Rattle.scatter_text.specs.declared.row.Row.{Row}
use Rattle.scatter_text.specs.Grammar.{row_tokens, variables_of, AreGood, IsGoodLine, IsBadLine, IsFirstFailure, Passes, tests, IsFaultAfter, IsFaultIn, IsTextIn, file_rows, file_text, place_after}
use Rattle.scatter_text.proofs.Slots.{row-same}

-- ---- the text of a file

abbrev row_line : Row → List ℕ
row_line r = join_with_byte 32 (row_tokens r) ++ 10 ∷ []

abbrev ended : List ℕ → List ℕ
ended line = line ++ 10 ∷ []

join-lines : (lines : List (List ℕ)) → join_with_byte 10 (lines ++ [] ∷ []) ≡ flat_map ended lines
join-lines [] = refl
join-lines (line ∷ []) = sym (append-nil (line ++ 10 ∷ []))
join-lines (line ∷ next ∷ more) = ap (λ rest. line ++ 10 ∷ rest) (join-lines (next ∷ more)) ∙ sym (append_assoc line (10 ∷ []) (flat_map ended (next ∷ more)))

line_text : (mode : TextMode) (before : List Row) (line : List ℕ) (r : Row) → IsGoodLine mode before line r → line ≡ join_with_byte 32 (row_tokens r)
line_text mode before line r good = sym (join_with_byte-slice_split 32 line) ∙ ap (join_with_byte 32) good.says.text

rows_text : (mode : TextMode) (before : List Row) (lines : List (List ℕ)) (rows : List Row) → AreGood mode before lines rows → flat_map row_line (reverse rows) ≡ flat_map row_line (reverse before) ++ flat_map ended lines
rows_text mode before [] rows e = ap (λ rows. flat_map row_line (reverse rows)) e ∙ sym (append-nil (flat_map row_line (reverse before)))
rows_text mode before (line ∷ lines) rows (r, good, more) =
    let here : flat_map row_line (reverse (r ∷ before)) ≡ flat_map row_line (reverse before) ++ ended line =
    ap (flat_map row_line) (reverse-append (r ∷ []) before)
    ∙ flat_map-append row_line (reverse before) (r ∷ [])
    ∙ ap (λ last. flat_map row_line (reverse before) ++ last) (append-nil (row_line r) ∙ ap ended (sym (line_text mode before line r good))) in
    rows_text mode (r ∷ before) lines rows more
    ∙ ap (λ front. front ++ flat_map ended lines) here
    ∙ append_assoc (flat_map row_line (reverse before)) (ended line) (flat_map ended lines)

pub text_is : (mode : TextMode) (bytes : List ℕ) (file : TextFile) → IsTextIn mode bytes file → bytes ≡ file_text file
text_is mode bytes file h =
    sym (join_with_byte-slice_split 10 bytes)
    ∙ ap (join_with_byte 10) h.cut
    ∙ join-lines h.lines
    ∙ sym (rows_text mode [] h.lines (file_rows file) h.are_good)

-- ---- one outcome

no_failure : (P : TextKind → Type 0) (kinds : List TextKind) (kind : TextKind) → AllByRecursion P kinds → IsFirstFailure P kinds kind → ⊥
no_failure P [] kind all failure = failure
no_failure P (k ∷ ks) kind all (inl (not, is)) = not all.0
no_failure P (k ∷ ks) kind all (inr (passes, more)) = no_failure P ks kind all.1 more

good_not_bad : (mode : TextMode) (before : List Row) (line : List ℕ) (r : Row) (kind : TextKind) → IsGoodLine mode before line r → IsBadLine mode before line kind → ⊥
good_not_bad mode before line r kind good bad = no_failure (Passes mode before line) tests kind good.passes bad

-- a good line says one row
pub good_row : (mode : TextMode) (before : List Row) (line : List ℕ) (r s : Row) → IsGoodLine mode before line r → IsGoodLine mode before line s → r ≡ s
good_row mode before line r s g h = row-same (variables_of before) r s g.says.fills h.says.fills (sym g.says.text ∙ h.says.text)

bad_among : (mode : TextMode) (rows : List Row) (line : List ℕ) (lines : List (List ℕ)) (kind : TextKind) → IsFaultAfter mode rows (line ∷ (lines ++ [] ∷ [])) kind → IsBadLine mode rows line kind
bad_among mode rows line [] kind fault = fault
bad_among mode rows line (next ∷ more) kind fault = fault

no_rest : (xs ys : List (List ℕ)) → [] ≡ xs ++ ys → ys ≡ []
no_rest [] ys e = sym e
no_rest (x ∷ xs) ys e = absurd (some e)
  where
    some : [] ≡ x ∷ (xs ++ ys) → ⊥
    some e = cc

apart : (mode : TextMode) (before : List Row) (lines good rest : List (List ℕ)) (rows rows' : List Row) (kind : TextKind) → AreGood mode before lines rows → place_after rows ≡ After → AreGood mode before good rows' → lines ++ [] ∷ [] ≡ good ++ rest → IsFaultAfter mode rows' rest kind → ⊥
apart mode before [] [] rest rows rows' kind g at h e fault = last (subst (λ rest. IsFaultAfter mode rows' rest kind) (sym e) fault)
  where
    last : IsFaultAfter mode rows' ([] ∷ []) kind → ⊥
    last (inl (some, is)) = some refl
    last (inr (none, open', is)) = open' (ap place_after (h ∙ sym g) ∙ at)
apart mode before (line ∷ lines) [] rest rows rows' kind (r, good_line, more) at h e fault =
    let here : IsFaultAfter mode before (line ∷ (lines ++ [] ∷ [])) kind = subst (λ rows. IsFaultAfter mode rows (line ∷ (lines ++ [] ∷ [])) kind) h (subst (λ rest. IsFaultAfter mode rows' rest kind) (sym e) fault) in
    good_not_bad mode before line r kind good_line (bad_among mode before line lines kind here)
apart mode before [] (g ∷ gs) rest rows rows' kind good at h e fault =
    let none : rest ≡ [] = no_rest gs rest (ap (λ (xs : List (List ℕ)). drop 1 xs) e) in
    subst (λ rest. IsFaultAfter mode rows' rest kind) none fault
apart mode before (line ∷ lines) (g ∷ gs) rest rows rows' kind (r, good_r, more) at (s, good_s, others) e fault =
    let head : line ≡ g = ap (λ (xs : List (List ℕ)). get_or xs 0 []) e in
    let tail : lines ++ [] ∷ [] ≡ gs ++ rest = ap (λ (xs : List (List ℕ)). drop 1 xs) e in
    let also : IsGoodLine mode before line s = let P : List ℕ → Type 0 = λ line. IsGoodLine mode before line s in subst P (sym head) good_s in
    let same : s ≡ r = good_row mode before line s r also good_r in
    let P : Row → Type 0 = λ r. AreGood mode (r ∷ before) gs rows' in
    apart mode (r ∷ before) lines gs rest rows rows' kind more at (subst P same others) tail fault

pub text_has_no_fault : {mode : TextMode} (bytes : List ℕ) (file : TextFile) (line : ℕ) (kind : TextKind) → IsTextIn mode bytes file → IsFaultIn mode bytes line kind → ⊥
text_has_no_fault {mode = mode} bytes file line kind h fault = apart mode [] h.lines fault.good fault.rest (file_rows file) fault.rows kind h.are_good refl fault.are_good (sym h.cut ∙ fault.cut) fault.fault

-- ---- one fault

one_failure : (P : TextKind → Type 0) (kinds : List TextKind) (k j : TextKind) → IsFirstFailure P kinds k → IsFirstFailure P kinds j → k ≡ j
one_failure P [] k j f g = absurd f
one_failure P (kind ∷ more) k j (inl (not, is)) (inl (not', is')) = is ∙ sym is'
one_failure P (kind ∷ more) k j (inl (not, is)) (inr (passes, g)) = absurd (not passes)
one_failure P (kind ∷ more) k j (inr (passes, f)) (inl (not, is)) = absurd (not passes)
one_failure P (kind ∷ more) k j (inr (passes, f)) (inr (passes', g)) = one_failure P more k j f g

one_kind : (mode : TextMode) (rows : List Row) (rest : List (List ℕ)) (k j : TextKind) → IsFaultAfter mode rows rest k → IsFaultAfter mode rows rest j → k ≡ j
one_kind mode rows [] k j f g = absurd f
one_kind mode rows (last ∷ []) k j (inl (some, is)) (inl (some', is')) = is ∙ sym is'
one_kind mode rows (last ∷ []) k j (inl (some, is)) (inr (none, going, is')) = absurd (some none)
one_kind mode rows (last ∷ []) k j (inr (none, going, is)) (inl (some, is')) = absurd (some none)
one_kind mode rows (last ∷ []) k j (inr (none, going, is)) (inr (none', going', is')) = is ∙ sym is'
one_kind mode rows (line ∷ next ∷ more) k j f g = one_failure (Passes mode rows line) tests k j f g

-- a line is not both the first bad one and good with more to come
not_both : (mode : TextMode) (rows rows' : List Row) (line : List ℕ) (r : Row) (lines rest : List (List ℕ)) (k j : TextKind) → IsGoodLine mode rows line r → IsFaultAfter mode rows (line ∷ (lines ++ rest)) k → IsFaultAfter mode rows' rest j → ⊥
not_both mode rows rows' line r [] [] k j good f g = g
not_both mode rows rows' line r [] (next ∷ more) k j good f g = good_not_bad mode rows line r k good f
not_both mode rows rows' line r (next ∷ more) rest k j good f g = good_not_bad mode rows line r k good f

one_place : (mode : TextMode) (before : List Row) (good good' rest rest' : List (List ℕ)) (rows rows' : List Row) (k j : TextKind) → AreGood mode before good rows → AreGood mode before good' rows' → good ++ rest ≡ good' ++ rest' → IsFaultAfter mode rows rest k → IsFaultAfter mode rows' rest' j → (length good ≡ length good') × (k ≡ j)
one_place mode before [] [] rest rest' rows rows' k j g h e f f' =
    let P : List Row → List (List ℕ) → Type 0 = λ rows rest. IsFaultAfter mode rows rest j in
    (refl, one_kind mode rows rest k j f (subst (λ z. z) (λ i. P ((h ∙ sym g) i) (sym e i)) f'))
one_place mode before [] (line ∷ lines) rest rest' rows rows' k j g (r, good, more) e f f' =
    let here : IsFaultAfter mode before (line ∷ (lines ++ rest')) k = let P : List Row → List (List ℕ) → Type 0 = λ rows rest. IsFaultAfter mode rows rest k in subst (λ z. z) (λ i. P (g i) (e i)) f in
    absurd (not_both mode before rows' line r lines rest' k j good here f')
one_place mode before (line ∷ lines) [] rest rest' rows rows' k j (r, good, more) h e f f' =
    let here : IsFaultAfter mode before (line ∷ (lines ++ rest)) j = let P : List Row → List (List ℕ) → Type 0 = λ rows rest. IsFaultAfter mode rows rest j in subst (λ z. z) (λ i. P (h i) (sym e i)) f' in
    absurd (not_both mode before rows line r lines rest j k good here f)
one_place mode before (line ∷ lines) (g ∷ gs) rest rest' rows rows' k j (r, good_r, more) (s, good_s, others) e f f' =
    let head : line ≡ g = ap (λ (xs : List (List ℕ)). get_or xs 0 []) e in
    let tail : lines ++ rest ≡ gs ++ rest' = ap (λ (xs : List (List ℕ)). drop 1 xs) e in
    let also : IsGoodLine mode before line s = let P : List ℕ → Type 0 = λ line. IsGoodLine mode before line s in subst P (sym head) good_s in
    let same : s ≡ r = good_row mode before line s r also good_r in
    let P : Row → Type 0 = λ r. AreGood mode (r ∷ before) gs rows' in
    let more_is = one_place mode (r ∷ before) lines gs rest rest' rows rows' k j more (subst P same others) tail f f' in
    (ap suc more_is.0, more_is.1)

pub fault_is_one : {mode : TextMode} (bytes : List ℕ) (l m : ℕ) (k j : TextKind) → IsFaultIn mode bytes l k → IsFaultIn mode bytes m j → (l ≡ m) × (k ≡ j)
fault_is_one {mode = mode} bytes l m k j f g =
    let one = one_place mode [] f.good g.good f.rest g.rest f.rows g.rows k j f.are_good g.are_good (sym f.cut ∙ g.cut) f.fault g.fault in
    (f.number ∙ ap (λ n. n + 1) one.0 ∙ sym g.number, one.1)
