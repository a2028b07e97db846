-- Lists of tokens.
use Rattle.std.proofs.Common.{◌≡◌, ℕ, ◌==◌, Bool, true, false, List, [], ◌∷◌, ◌++◌, length, map, arith, sym, ◌∙◌, ap, subst, All, ℤ}
use Rattle.std.specs.Prelude.{IsTrue}
use Rattle.std.specs.Fmt.{signed_decimal}
use Rattle.std.proofs.lemmas.List.{length-map, get_or-map, nil_from_length, map_push}
use Rattle.std.proofs.lemmas.List.Elements.{All-push, All-same}
use Rattle.std.proofs.lemmas.Bool.Decides.{nat_tests}
use Rattle.scatter_text.specs.Grammar.{IsShort}

pub All-unmap : {X Y : Type 0} (P : X → Type 0) (f : Y → X) (ys : List Y) → All P (map f ys) → All (λ y. P (f y)) ys
All-unmap P f ys all k d within = subst P (get_or-map f ys k d (f d) within) (all k (f d) (omega (arith, within, length-map ys f)))

pub empty_from_test : (xs : List ℕ) (r : Bool) → r ≡ true → r ≡ (length xs == 0) → xs ≡ []
empty_from_test xs r passed e = nil_from_length xs (grind (arith, nat_tests))

-- one more token spells one more number
pub more_numbers : (front : List (List ℕ)) (text : List ℕ) (values more : List ℤ) (n : ℤ) → more ≡ values ++ n ∷ [] → All IsShort values → front ≡ map signed_decimal values → IsShort n → text ≡ signed_decimal n → All IsShort more × (front ++ text ∷ [] ≡ map signed_decimal more)
more_numbers front text values more n e short is short_n is_n = (
  All-same IsShort more (values ++ n ∷ []) e (All-push IsShort values n short short_n),
  ap (λ texts. texts ++ text ∷ []) is ∙ ap (λ last. map signed_decimal values ++ last ∷ []) is_n ∙ sym (ap (map signed_decimal) e ∙ map_push signed_decimal values n),
)

pub not-true : (b : Bool) → b ≡ false → IsTrue b → ⊥
not-true true e h = cc
not-true false e h = let k : false ≡ true = h in cc
