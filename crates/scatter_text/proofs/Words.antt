-- The words tell the keywords apart.
use Rattle.std.proofs.Common.{◌≡◌, ℕ, ◌==◌, Bool, true, false, ◌&&◌, List, [], ◌∷◌, refl, sym, ◌∙◌, ap, Option, Some}
use Rattle.std.specs.Prelude.{find}
use Rattle.scatter_text.specs.declared.grammar.Keyword.{Keyword}
use Rattle.scatter_text.specs.declared.grammar.Keyword.TheVariants as keyword
use Rattle.scatter_text.specs.Grammar.{word_of}

are_same : List ℕ → List ℕ → Bool
are_same [] [] = true
are_same [] (y ∷ ys) = false
are_same (x ∷ xs) [] = false
are_same (x ∷ xs) (y ∷ ys) = (x == y) && are_same xs ys

keywords : List Keyword
keywords = keyword.Scatter ∷ keyword.Vars ∷ keyword.Line ∷ keyword.Term ∷ keyword.Ask ∷ keyword.Settle ∷ keyword.End ∷ []

-- the keyword of a word
spelled : List ℕ → Option Keyword
spelled word = find (λ k. are_same (word_of k) word) keywords

spelled-word : (k : Keyword) → spelled (word_of k) ≡ Some k
unfolding spelled keywords are_same
spelled-word keyword.Scatter = refl
spelled-word other = refl

pub word_injective : (j k : Keyword) → word_of j ≡ word_of k → j ≡ k
word_injective j k e = same (sym (spelled-word j) ∙ ap spelled e ∙ spelled-word k)
  where
    same : Some j ≡ Some k → j ≡ k
    same e = cc
