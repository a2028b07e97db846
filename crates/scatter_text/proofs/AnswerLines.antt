-- The lines of answers, written piece by piece.
use Rattle.std.proofs.Common.{◌≡◌, ℕ, ◌+◌, ◌<◌, List, [], ◌∷◌, ◌++◌, map, take, length, get_or, refl, sym, ap, ◌∙◌, append_assoc, add-one}
use Rattle.std.proofs.lemmas.List.{flat_map_more, append-nil}
use Rattle.std.proofs.Math.Seq.{take-suc}
use Rattle.std.specs.Prelude.{ℤ, decimal, flat_map, codes}
use Rattle.std.specs.Fmt.{signed_decimal}
use Rattle.scattering.specs.Series.{Term}
use Rattle.trunc_series.specs.declared.key.Exp.{Exp as CodeExp}
use Rattle.trunc_series.specs.Shown.{powers_of}
use Rattle.scatter_text.specs.declared.file.Coordinate.{Coordinate}
use Rattle.scatter_text.specs.Grammar.{coordinate_text}
use Rattle.scatter_text.specs.DiagramText.{line_of, first_powers}
use Rattle.scatter_text.specs.AnswersText.{monomial_text, powers_text}
use Rattle.scatter_text.proofs.TokenLines.{spaced, spaced-map, join-spaced, eight}

-- a word and its tokens, ended by a line feed
pub line-written : (old word : List ℕ) (ts : List (List ℕ)) → (old ++ (word ++ spaced ts)) ++ (10 ∷ []) ≡ old ++ line_of (word ∷ ts)
line-written old word ts = append_assoc old (word ++ spaced ts) (10 ∷ []) ∙ ap (λ (s : List ℕ). old ++ (s ++ (10 ∷ []))) (sym (join-spaced word ts))

four : (old word c a b ps : List ℕ) → ((((old ++ word) ++ c) ++ a) ++ b) ++ ps ≡ old ++ (word ++ (c ++ (a ++ (b ++ ps))))
four old word c a b ps = simp append_assoc

two : (old word c ps : List ℕ) → ((old ++ word) ++ c) ++ ps ≡ old ++ (word ++ (c ++ ps))
two old word c ps = simp append_assoc

pub monomial_written : (old s1 s2 s3 s4 s5 : List ℕ) (c' a' b' : ℤ) (vars : ℕ) (t : Term) → c' ≡ t.1 → a' ≡ t.0.exp.a → b' ≡ t.0.exp.b
    → s1 ≡ old ++ codes "term" → s2 ≡ s1 ++ 32 ∷ signed_decimal c' → s3 ≡ s2 ++ 32 ∷ signed_decimal a' → s4 ≡ s3 ++ 32 ∷ signed_decimal b'
    → s5 ≡ s4 ++ flat_map (λ n. 32 ∷ decimal n) (first_powers vars t.0.powers)
    → s5 ++ (10 ∷ []) ≡ old ++ monomial_text vars t
monomial_written old s1 s2 s3 s4 s5 c' a' b' vars t ec ea eb e1 e2 e3 e4 e5 =
    let word : List ℕ = codes "term" in
    let ps : List ℕ = first_powers vars t.0.powers in
    let tokens : List (List ℕ) = signed_decimal t.1 ∷ signed_decimal t.0.exp.a ∷ signed_decimal t.0.exp.b ∷ map decimal ps in
    let whole : s5 ≡ ((((old ++ word) ++ (32 ∷ signed_decimal t.1)) ++ (32 ∷ signed_decimal t.0.exp.a)) ++ (32 ∷ signed_decimal t.0.exp.b)) ++ flat_map (λ n. 32 ∷ decimal n) ps = rw (e5, e4, e3, e2, e1, ec, ea, eb) refl in
    let told : s5 ≡ old ++ (word ++ spaced tokens) = whole ∙ ap (λ (s : List ℕ). ((((old ++ word) ++ (32 ∷ signed_decimal t.1)) ++ (32 ∷ signed_decimal t.0.exp.a)) ++ (32 ∷ signed_decimal t.0.exp.b)) ++ s) (sym (spaced-map decimal ps))
    ∙ four old word (32 ∷ signed_decimal t.1) (32 ∷ signed_decimal t.0.exp.a) (32 ∷ signed_decimal t.0.exp.b) (spaced (map decimal ps)) in
    ap (λ (s : List ℕ). s ++ (10 ∷ [])) told ∙ line-written old word tokens

pub powers_written : (old s1 s2 s3 : List ℕ) (c' : ℤ) (vars : ℕ) (t : Term) → c' ≡ t.1
    → s1 ≡ old ++ codes "term" → s2 ≡ s1 ++ 32 ∷ signed_decimal c' → s3 ≡ s2 ++ flat_map (λ n. 32 ∷ decimal n) (first_powers vars t.0.powers)
    → s3 ++ (10 ∷ []) ≡ old ++ powers_text vars t
powers_written old s1 s2 s3 c' vars t ec e1 e2 e3 =
    let word : List ℕ = codes "term" in
    let ps : List ℕ = first_powers vars t.0.powers in
    let tokens : List (List ℕ) = signed_decimal t.1 ∷ map decimal ps in
    let whole : s3 ≡ ((old ++ word) ++ (32 ∷ signed_decimal t.1)) ++ flat_map (λ n. 32 ∷ decimal n) ps = rw (e3, e2, e1, ec) refl in
    let told : s3 ≡ old ++ (word ++ spaced tokens) = whole ∙ ap (λ (s : List ℕ). ((old ++ word) ++ (32 ∷ signed_decimal t.1)) ++ s) (sym (spaced-map decimal ps)) ∙ two old word (32 ∷ signed_decimal t.1) (spaced (map decimal ps)) in
    ap (λ (s : List ℕ). s ++ (10 ∷ [])) told ∙ line-written old word tokens

-- the powers of a list of eight
pub powers_taken : (ps : List ℕ) (vars : ℕ) (old new : List ℕ) → length ps ≡ 8 → new ≡ old ++ flat_map (λ n. 32 ∷ decimal n) (take vars ps)
    → new ≡ old ++ flat_map (λ n. 32 ∷ decimal n) (first_powers vars (powers_of ps))
powers_taken ps vars old new l e = e ∙ ap (λ (qs : List ℕ). old ++ flat_map (λ n. 32 ∷ decimal n) (take vars qs)) (sym (eight ps l))

-- the line of a theta
pub theta_written : (old s1 s2 s3 : List ℕ) (a' b' : ℤ) (r : CodeExp) → a' ≡ r.a → b' ≡ r.b → s1 ≡ old ++ codes "theta" → s2 ≡ s1 ++ 32 ∷ signed_decimal a' → s3 ≡ s2 ++ 32 ∷ signed_decimal b'
    → s3 ++ (10 ∷ []) ≡ old ++ line_of (codes "theta" ∷ signed_decimal r.a ∷ signed_decimal r.b ∷ [])
theta_written old s1 s2 s3 a' b' r ea eb e1 e2 e3 =
    let word : List ℕ = codes "theta" in
    let tokens : List (List ℕ) = signed_decimal r.a ∷ signed_decimal r.b ∷ [] in
    let whole : s3 ≡ ((old ++ word) ++ (32 ∷ signed_decimal r.a)) ++ (32 ∷ signed_decimal r.b) = rw (e3, e2, e1, ea, eb) refl in
    let told : s3 ≡ old ++ (word ++ spaced tokens) = whole ∙ two old word (32 ∷ signed_decimal r.a) (32 ∷ signed_decimal r.b) ∙ ap (λ (s : List ℕ). old ++ (word ++ ((32 ∷ signed_decimal r.a) ++ s))) (sym (append-nil (32 ∷ signed_decimal r.b))) in
    ap (λ (s : List ℕ). s ++ (10 ∷ [])) told ∙ line-written old word tokens

-- a loop's pieces so far, and that of one item more
pub piece_more : {A : Type 0} (f : A → List ℕ) (xs : List A) (i : ℕ) (d : A) (old now more : List ℕ) → i < length xs → now ≡ old ++ flat_map f (take i xs) → more ≡ now ++ f (get_or xs i d) → more ≡ old ++ flat_map f (take (i + 1) xs)
piece_more {A = A} f xs i d old now more h e k =
    k ∙ ap (λ (s : List ℕ). s ++ f (get_or xs i d)) e
    ∙ flat_map_more f old (take i xs) (get_or xs i d)
    ∙ ap (λ (ys : List A). old ++ flat_map f ys) (sym (take-suc xs i d h))
    ∙ ap (λ n. old ++ flat_map f (take n xs)) (sym (add-one i))

-- the words of a point that isn't generic
pub point_written : (old s1 s2 s3 : List ℕ) (x y : Coordinate) → s1 ≡ old ++ codes "not-generic" → s2 ≡ s1 ++ 32 ∷ coordinate_text x → s3 ≡ s2 ++ 32 ∷ coordinate_text y
    → s3 ≡ old ++ (codes "not-generic" ++ 32 ∷ coordinate_text x ++ 32 ∷ coordinate_text y)
point_written old s1 s2 s3 x y e1 e2 e3 =
    let whole : s3 ≡ ((old ++ codes "not-generic") ++ (32 ∷ coordinate_text x)) ++ (32 ∷ coordinate_text y) = rw (e3, e2, e1) refl in
    whole ∙ pair old (codes "not-generic") (32 ∷ coordinate_text x) (32 ∷ coordinate_text y)
  where
    pair : (old w c d : List ℕ) → ((old ++ w) ++ c) ++ d ≡ old ++ (w ++ (c ++ d))
    pair old w c d = simp append_assoc
