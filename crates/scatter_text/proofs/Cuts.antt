-- Cutting bytes at a byte.
use Rattle.std.proofs.Common.{◌≡◌, ℕ, ◌≤◌, ◌<◌, ◌+◌, ◌==◌, Bool, true, false, not, cond, List, [], ◌∷◌, ◌++◌, length, get_or, take, drop, refl, arith, sym, ◌∙◌, ap, subst, Option, Some, None, position, nat_lt}
use Rattle.std.specs.List.{slice_split, position_or_len}
use Rattle.std.proofs.lemmas.List.Splits.{slice_split_first, slice_split_none}
use Rattle.std.proofs.lemmas.List.Quantifiers.{position-Some}
use Rattle.std.proofs.lemmas.List.Sums.{prefix_len_passes}
use Rattle.std.proofs.lemmas.List.{take-append-drop, drop_more}
use Rattle.std.proofs.lemmas.Bool.Decides.{nat_tests, Decides-eqb}

position_none : (n m : ℕ) → None ≡ cond (nat_lt n m) (Some n) None → m ≤ n
position_none n m e = go (nat_lt n m) refl e
  where
    go : (b : Bool) → nat_lt n m ≡ b → None ≡ cond b (Some n) None → m ≤ n
    go true is e = cc
    go false is e = grind (arith, nat_tests)

position_some : (n m i : ℕ) → Some i ≡ cond (nat_lt n m) (Some n) None → (n < m) × (i ≡ n)
position_some n m i e = go (nat_lt n m) refl e
  where
    go : (b : Bool) → nat_lt n m ≡ b → Some i ≡ cond b (Some n) None → (n < m) × (i ≡ n)
    go true is e = (grind (arith, nat_tests), cc)
    go false is e = cc

-- the first such byte stands at i
pub record CutAt (c : ℕ) (bytes : List ℕ) (i : ℕ) : Type 0 where
  pub within : i < length bytes
  pub pieces : slice_split (λ b. b == c) bytes ≡ take i bytes ∷ slice_split (λ b. b == c) (drop (i + 1) bytes)
  pub whole : bytes ≡ take i bytes ++ c ∷ drop (i + 1) bytes

pub cut-Some : (c : ℕ) (bytes : List ℕ) (i : ℕ) → Some i ≡ position (λ b. b == c) bytes → CutAt c bytes i
cut-Some c bytes i e =
    let found = position_some (position_or_len (λ b. b == c) bytes) (length bytes) i e in
    let first = slice_split_first (λ b. b == c) bytes c found.0 in
    let at = position-Some (λ b. b == c) bytes i 0 (sym e) in
    let here : get_or bytes i 0 ≡ c = (Decides-eqb (get_or bytes i 0) c).0 at.1 in
    record {
      within = at.0;
      pieces = let P : ℕ → Type 0 = λ n. slice_split (λ b. b == c) bytes ≡ take n bytes ∷ slice_split (λ b. b == c) (drop (n + 1) bytes) in subst P (sym found.1) first;
      whole = sym (take-append-drop i bytes) ∙ ap (λ rest. take i bytes ++ rest) (drop_more bytes i 0 at.0 ∙ ap (λ b. b ∷ drop (i + 1) bytes) here);
    }

-- with no such byte there is one piece
pub cut-None : (c : ℕ) (bytes : List ℕ) → None ≡ position (λ b. b == c) bytes → slice_split (λ b. b == c) bytes ≡ bytes ∷ []
cut-None c bytes e =
    let none : length bytes ≤ position_or_len (λ b. b == c) bytes = position_none (position_or_len (λ b. b == c) bytes) (length bytes) e in
    slice_split_none (λ b. b == c) bytes (λ k d within. not_true _ (prefix_len_passes (λ b. not (b == c)) bytes k d (omega arith)))
  where
    not_true : (b : Bool) → not b ≡ true → b ≡ false
    not_true true h = cc
    not_true false h = refl

-- the same, where the answer is known not to be a place
pub cut-no_Some : (c : ℕ) (bytes : List ℕ) (found : Option ℕ) → found ≡ position (λ b. b == c) bytes → ((i : ℕ) → found ≡ Some i → ⊥) → slice_split (λ b. b == c) bytes ≡ bytes ∷ []
cut-no_Some c bytes None e none = cut-None c bytes e
cut-no_Some c bytes (Some i) e none = absurd (none i refl)
