-- Lines of tokens, written piece by piece.
use Rattle.std.proofs.Common.{◌≡◌, ℕ, ◌+◌, ◌<◌, List, [], ◌∷◌, ◌++◌, map, take, length, get_or, refl, sym, ap, ◌∙◌, append_assoc, add-one, arith}
use Rattle.std.proofs.lemmas.List.{flat_map_more, map-append}
use Rattle.std.proofs.Math.Seq.{take-suc}
use Rattle.std.specs.Prelude.{ℤ, decimal, flat_map, slice_index, Result, OnOk, Ok, Err, is_ok, codes}
use Rattle.std.specs.Bool.{if◌then◌else◌}
use Rattle.std.specs.Fmt.{signed_decimal}
use Rattle.std.specs.List.{join_with_byte}
use Rattle.scattering.specs.Series.{Exp}
use Rattle.trunc_series.specs.Shown.{powers_of}
use Rattle.scatter_text.specs.declared.file.Coordinate.{Coordinate}
use Rattle.scatter_text.specs.Grammar.{coordinate_text}
use Rattle.scatter_text.specs.DiagramText.{line_of, row_text, heading_text}

-- each token after a space
abbrev pub spaced : List (List ℕ) → List ℕ
spaced ts = flat_map (λ t. 32 ∷ t) ts

append-nil : (xs : List ℕ) → xs ++ [] ≡ xs
append-nil [] = refl
append-nil (x ∷ xs) = ap (λ (ys : List ℕ). x ∷ ys) (append-nil xs)

pub join-spaced : (word : List ℕ) (ts : List (List ℕ)) → join_with_byte 32 (word ∷ ts) ≡ word ++ spaced ts
join-spaced word [] = sym (append-nil word)
join-spaced word (t ∷ ts) = ap (λ (ys : List ℕ). word ++ (32 ∷ ys)) (join-spaced t ts)

pub spaced-map : (f : ℕ → List ℕ) (ns : List ℕ) → spaced (map f ns) ≡ flat_map (λ n. 32 ∷ f n) ns
spaced-map f [] = refl
spaced-map f (n ∷ ns) = ap (λ (ys : List ℕ). 32 ∷ f n ++ ys) (spaced-map f ns)

-- a list of eight is its elements
pub eight : (ps : List ℕ) → length ps ≡ 8 → slice_index ps 0 ∷ slice_index ps 1 ∷ slice_index ps 2 ∷ slice_index ps 3 ∷ slice_index ps 4 ∷ slice_index ps 5 ∷ slice_index ps 6 ∷ slice_index ps 7 ∷ [] ≡ ps
eight [] l = absurd (omega (arith, l))
eight (a ∷ []) l = absurd (omega (arith, l))
eight (a ∷ b ∷ []) l = absurd (omega (arith, l))
eight (a ∷ b ∷ c ∷ []) l = absurd (omega (arith, l))
eight (a ∷ b ∷ c ∷ d ∷ []) l = absurd (omega (arith, l))
eight (a ∷ b ∷ c ∷ d ∷ e ∷ []) l = absurd (omega (arith, l))
eight (a ∷ b ∷ c ∷ d ∷ e ∷ f ∷ []) l = absurd (omega (arith, l))
eight (a ∷ b ∷ c ∷ d ∷ e ∷ f ∷ g ∷ []) l = absurd (omega (arith, l))
eight (a ∷ b ∷ c ∷ d ∷ e ∷ f ∷ g ∷ h ∷ []) l = refl
eight (a ∷ b ∷ c ∷ d ∷ e ∷ f ∷ g ∷ h ∷ i ∷ ps) l = absurd (omega (arith, l))

grouped : (old word c j ps end : List ℕ) → ((((old ++ word) ++ c) ++ j) ++ ps) ++ end ≡ old ++ ((word ++ (c ++ (j ++ ps))) ++ end)
grouped old word c j ps end = simp append_assoc

pub row_written : (old s1 s2 s3 s4 : List ℕ) (c' c : ℤ) (j vars : ℕ) (ps : List ℕ) → length ps ≡ 8 → c' ≡ c
    → s1 ≡ old ++ codes "term" → s2 ≡ s1 ++ 32 ∷ signed_decimal c' → s3 ≡ s2 ++ 32 ∷ decimal j → s4 ≡ s3 ++ flat_map (λ n. 32 ∷ decimal n) (take vars ps)
    → s4 ++ (10 ∷ []) ≡ old ++ row_text vars (record { c = c; j = j; powers = powers_of ps })
row_written old s1 s2 s3 s4 c' c j vars ps l same e1 e2 e3 e4 =
    let word : List ℕ = codes "term" in
    let tokens : List (List ℕ) = signed_decimal c ∷ decimal j ∷ map decimal (take vars ps) in
    let whole : s4 ≡ (((old ++ word) ++ (32 ∷ signed_decimal c)) ++ (32 ∷ decimal j)) ++ flat_map (λ n. 32 ∷ decimal n) (take vars ps) = rw (e4, e3, e2, e1, same) refl in
    ap (λ (s : List ℕ). s ++ (10 ∷ [])) whole
    ∙ grouped old word (32 ∷ signed_decimal c) (32 ∷ decimal j) (flat_map (λ n. 32 ∷ decimal n) (take vars ps)) (10 ∷ [])
    ∙ ap (λ (s : List ℕ). old ++ ((word ++ ((32 ∷ signed_decimal c) ++ ((32 ∷ decimal j) ++ s))) ++ (10 ∷ []))) (sym (spaced-map decimal (take vars ps)))
    ∙ ap (λ (s : List ℕ). old ++ (s ++ (10 ∷ []))) (sym (join-spaced word tokens))
    ∙ ap (λ (qs : List ℕ). old ++ line_of (word ∷ signed_decimal c ∷ decimal j ∷ map decimal (take vars qs))) (sym (eight ps l))

five : (old word a b c d e end : List ℕ) → ((((((old ++ word) ++ a) ++ b) ++ c) ++ d) ++ e) ++ end ≡ old ++ ((word ++ (a ++ (b ++ (c ++ (d ++ (e ++ [])))))) ++ end)
five old word a b c d e end = simp (append_assoc, append-nil)

pub heading_written : (old word s1 s2 s3 s4 s5 s6 : List ℕ) (d1 d2 : ℤ) (d : Exp) (x y : Coordinate) → d1 ≡ d.a → d2 ≡ d.b
    → s1 ≡ old ++ word → s2 ≡ s1 ++ 32 ∷ signed_decimal d1 → s3 ≡ s2 ++ 32 ∷ signed_decimal d2 → s4 ≡ s3 ++ codes " at" → s5 ≡ s4 ++ 32 ∷ coordinate_text x → s6 ≡ s5 ++ 32 ∷ coordinate_text y
    → s6 ++ (10 ∷ []) ≡ old ++ heading_text word d x y
heading_written old word s1 s2 s3 s4 s5 s6 d1 d2 d x y f1 f2 e1 e2 e3 e4 e5 e6 =
    let tokens : List (List ℕ) = signed_decimal d.a ∷ signed_decimal d.b ∷ codes "at" ∷ coordinate_text x ∷ coordinate_text y ∷ [] in
    let whole : s6 ≡ (((((old ++ word) ++ (32 ∷ signed_decimal d.a)) ++ (32 ∷ signed_decimal d.b)) ++ codes " at") ++ (32 ∷ coordinate_text x)) ++ (32 ∷ coordinate_text y) = rw (e6, e5, e4, e3, e2, e1, f1, f2) refl in
    ap (λ (s : List ℕ). s ++ (10 ∷ [])) whole
    ∙ five old word (32 ∷ signed_decimal d.a) (32 ∷ signed_decimal d.b) (codes " at") (32 ∷ coordinate_text x) (32 ∷ coordinate_text y) (10 ∷ [])
    ∙ ap (λ (s : List ℕ). old ++ (s ++ (10 ∷ []))) (sym (join-spaced word tokens))

-- the last piece was written too
pub ends : {E : Type 0} (result : Result (Unit {0}) E) (s new piece goal : List ℕ) → new ≡ (if is_ok result then s ++ piece else s) → s ++ piece ≡ goal → OnOk result (new ≡ goal)
ends (Ok x) s new piece goal e f = e ∙ f
ends (Err x) s new piece goal e f = tt

-- a loop's pieces so far, and that of one item more
pub one_more : {A B : Type 0} (f : B → List ℕ) (g : A → B) (xs : List A) (i : ℕ) (d : A) (old now more : List ℕ) → i < length xs → now ≡ old ++ flat_map f (map g (take i xs)) → more ≡ now ++ f (g (get_or xs i d)) → more ≡ old ++ flat_map f (map g (take (i + 1) xs))
one_more {A = A} f g xs i d old now more h e k =
    k ∙ ap (λ (s : List ℕ). s ++ f (g (get_or xs i d))) e
    ∙ flat_map_more f old (map g (take i xs)) (g (get_or xs i d))
    ∙ ap (λ ys. old ++ flat_map f ys) (sym (map-append g (take i xs) (get_or xs i d ∷ [])))
    ∙ ap (λ (ys : List A). old ++ flat_map f (map g ys)) (sym (take-suc xs i d h))
    ∙ ap (λ n. old ++ flat_map f (map g (take n xs))) (sym (add-one i))
