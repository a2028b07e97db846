-- What the steps of reading a fraction tell.
use Rattle.std.proofs.Common.{◌≡◌, ◌≢◌, ℕ, sym, ap, subst, ◌∙◌, ◌<◌, List, ◌∷◌, ◌++◌, length, get_or, Option, Some, None, Result, Ok, Err, Bor, to_z, of_z, FitsSigned, true, false, nat_eq, arith}
use Rattle.std.specs.Prelude.{ℤ, pos, ◌≤ℤ◌, nat_abs, int_le, MatchOption, MatchResult}
use Rattle.std.specs.Int.{w128, IsGcd}
use Rattle.std.specs.Result.{result_ok}
use Rattle.std.specs.Fmt.{signed_decimal}
use Rattle.std.specs.Str.{IsUtf8}
use Rattle.std.specs.Str.Parse.{ParsesSigned}
use Rattle.std.specs.Cmp.Lexicographic.{pointwise, other_text}
use Rattle.std.proofs.Math.Nat.{one-dvd}
use Rattle.std.proofs.Math.Seq.{get_or-append_seam}
use Rattle.std.proofs.lemmas.List.{length-append}
use Rattle.std.proofs.lemmas.Int.{ints, to_z-of_z}
use Rattle.std.proofs.lemmas.Nat.Gcd.{dvd_refl, same_from_IsGcd}
use Rattle.std.proofs.lemmas.Str.Pattern.{IsSplitOnceResult, split_after, split_parts}
use Rattle.frac_128.specs.Quotient.{IsLowest}
use Rattle.frac_128.specs.declared.Fraction.{Fraction}
use Rattle.frac_128.specs.Text.{fraction_text, IsPair}
use Rattle.frac_128.proofs.Decimal.{parse-number, no-slash, number-same, whole-text, pair-text, by_form}

pub nothing : {T : Type 0} (r : Option T) (A : Type 0) (B : T → Type 0) → r ≡ None → A → MatchOption r A B
nothing (Some x) A B e a = absurd (cc)
nothing None A B e a = a

-- ---- a number
pub no-number : {E : Type 0} (n : ℤ) (bs : List ℕ) (r : Result ℤ E) → None ≡ result_ok r → ParsesSigned w128 10 bs r → FitsSigned w128 n → bs ≡ signed_decimal n → ⊥
no-number n bs r e h f g = let k = parse-number n bs r f g h in cc

one-number : {E : Type 0} (m n : ℤ) (r : Result ℤ E) → Some m ≡ result_ok r → r ≡ Ok n → m ≡ n
one-number m n r e k = cc

pub other-number : {E : Type 0} (m n : ℤ) (bs fs : List ℕ) (r : Result ℤ E) → Some m ≡ result_ok r → ParsesSigned w128 10 bs r → fs ≡ signed_decimal (to_z w128 (of_z w128 m)) → false ≡ pointwise nat_eq fs bs → FitsSigned w128 n → bs ≡ signed_decimal n → ⊥
other-number m n bs fs r e h text differ f g =
    let k = one-number m n r e (parse-number n bs r f g h) in
    other_text fs bs differ (text ∙ ap (λ z. signed_decimal (to_z w128 (of_z w128 z))) k ∙ ap signed_decimal (to_z-of_z w128 n f) ∙ sym g)

-- ---- two numbers
pub whole-lowest : (num : ℤ) → IsLowest num (pos 1)
whole-lowest num = record { positive = omega (arith, ints); coprime = (one-dvd (nat_abs num), dvd_refl 1, λ d _ k. k) }

at-least-one : (q : ℤ) → int_le (pos 2) q ≡ true → pos 1 ≤ℤ q
at-least-one q e = omega (arith, ints, e)

pub pair-lowest : (p q : ℤ) (u v g : ℕ) → int_le (pos 2) q ≡ true → u ≡ nat_abs p → v ≡ nat_abs q → IsGcd u v g → g ≡ 1 → IsLowest p q
pair-lowest p q u v g h e f k o = record { positive = at-least-one q h; coprime = subst (λ (n : ℕ). IsGcd n (nat_abs q) 1) e (subst (λ (n : ℕ). IsGcd u n 1) f (subst (λ (n : ℕ). IsGcd u v n) o k)) }

pub above-two : (q : ℤ) → int_le (pos 2) q ≡ false → pos 2 ≤ℤ q → ⊥
above-two q e h = omega (arith, ints, e, h)

seen : (m p : ℤ) (bs : List ℕ) → FitsSigned w128 m → FitsSigned w128 p → bs ≡ signed_decimal m → bs ≡ signed_decimal p → to_z w128 (of_z w128 m) ≡ p
seen m p bs f g e h = to_z-of_z w128 m f ∙ number-same m p f g (sym e ∙ h)

-- the numbers that were read are those of the pair
pub pair-seen : (m n p q : ℤ) (num den : List ℕ) → FitsSigned w128 m → FitsSigned w128 n → FitsSigned w128 p → FitsSigned w128 q → num ≡ signed_decimal m → den ≡ signed_decimal n → IsPair num den p q → IsLowest (to_z w128 (of_z w128 m)) (to_z w128 (of_z w128 n)) × (pos 2 ≤ℤ to_z w128 (of_z w128 n))
pair-seen m n p q num den f g h k a b i =
    let x = seen m p num f h a i.first in let y = seen n q den g k b i.second in
    (subst (λ (z : ℤ). IsLowest z (to_z w128 (of_z w128 n))) (sym x) (subst (λ (z : ℤ). IsLowest p z) (sym y) i.lowest), subst (λ (z : ℤ). pos 2 ≤ℤ z) (sym y) i.above)

pub common-one : (p q : ℤ) (u v g : ℕ) → u ≡ nat_abs p → v ≡ nat_abs q → IsGcd u v g → IsLowest p q → g ≡ 1
common-one p q u v g e f k l = same_from_IsGcd u v g 1 k (subst (λ (n : ℕ). IsGcd n v 1) (sym e) (subst (λ (n : ℕ). IsGcd (nat_abs p) n 1) (sym f) l.coprime))

-- ---- the text
pub not-utf8 : {E : Type 0} (bs : List ℕ) (r : Result (Bor (List ℕ)) E) (V : E → Type 0) → None ≡ result_ok r → MatchResult r (λ s. (s.now ≡ bs) × IsUtf8 bs) (λ e. (IsUtf8 bs → ⊥) × V e) → IsUtf8 bs → ⊥
not-utf8 bs (Ok s) V e h u = absurd (cc)
not-utf8 bs (Err x) V e h u = h.0 u

pub same-bytes : {E : Type 0} (bs : List ℕ) (t : Bor (List ℕ)) (r : Result (Bor (List ℕ)) E) (V : E → Type 0) → Some t ≡ result_ok r → MatchResult r (λ s. (s.now ≡ bs) × IsUtf8 bs) (λ e. (IsUtf8 bs → ⊥) × V e) → t.now ≡ bs
same-bytes bs t (Ok s) V e h = let k : t ≡ s = cc in ap (λ (x : Bor (List ℕ)). x.now) k ∙ h.0
same-bytes bs t (Err x) V e h = absurd (cc)

module _ (bs : List ℕ) (r : Option (Bor (List ℕ) × Bor (List ℕ))) (h : IsSplitOnceResult 47 bs r) where
  after : (num den : ℤ) → FitsSigned w128 num → bs ≡ signed_decimal num ++ (47 ∷ signed_decimal den) → MatchOption r ⊥ (λ x. (x.0.now ≡ signed_decimal num) × (x.1.now ≡ signed_decimal den))
  after num den f e = split_after 47 bs (signed_decimal num) (signed_decimal den) r h (omega arith) e (no-slash num f)

  pub no-pair : r ≡ None → (num den : ℤ) → FitsSigned w128 num → bs ≡ signed_decimal num ++ (47 ∷ signed_decimal den) → ⊥
  no-pair n num den f e = subst (λ (o : Option (Bor (List ℕ) × Bor (List ℕ))). MatchOption o ⊥ (λ x. (x.0.now ≡ signed_decimal num) × (x.1.now ≡ signed_decimal den))) n (after num den f e)

  module _ (x y : Bor (List ℕ)) (i : r ≡ Some (x, y)) where
    parts : bs ≡ x.now ++ (47 ∷ y.now)
    parts = (subst (λ (o : Option (Bor (List ℕ) × Bor (List ℕ))). MatchOption o ((i : ℕ) → i < length bs → get_or bs i 0 ≢ 47) (λ x. (bs ≡ x.0.now ++ (47 ∷ x.1.now)) × ((i : ℕ) → i < length x.0.now → get_or x.0.now i 0 ≢ 47))) i (split_parts 47 bs r h (omega arith))).0

    -- a whole number has no `/`
    not-whole : (num : ℤ) → FitsSigned w128 num → bs ≡ signed_decimal num → ⊥
    not-whole num f e =
        let s : signed_decimal num ≡ x.now ++ (47 ∷ y.now) = sym e ∙ parts in
        let l = length-append x.now (47 ∷ y.now) in
        let k : length (signed_decimal num) ≡ length (x.now ++ (47 ∷ y.now)) = ap length s in
        no-slash num f (length x.now) (omega (arith, l, k)) (ap (λ zs. get_or zs (length x.now) 0) s ∙ get_or-append_seam x.now 47 y.now 0)

    not-text : ((p q : ℤ) → FitsSigned w128 p → FitsSigned w128 q → IsPair x.now y.now p q → ⊥) → (num den : ℤ) → IsLowest num den → FitsSigned w128 num → FitsSigned w128 den → bs ≡ fraction_text num den → ⊥
    not-text n num den l f g e =
        by_form ⊥ den l.positive (λ o. not-whole num f (e ∙ whole-text num den o))
        (λ o. let a = subst (λ (o : Option (Bor (List ℕ) × Bor (List ℕ))). MatchOption o ⊥ (λ x. (x.0.now ≡ signed_decimal num) × (x.1.now ≡ signed_decimal den))) i (after num den f (e ∙ pair-text num den o)) in
        n num den f g (record { lowest = l; above = o; first = a.0; second = a.1 }))

    is-text : (p q : ℤ) → IsPair x.now y.now p q → bs ≡ fraction_text p q
    is-text p q k = parts ∙ ap (λ zs. zs ++ (47 ∷ y.now)) k.first ∙ ap (λ zs. signed_decimal p ++ (47 ∷ zs)) k.second ∙ sym (pair-text p q k.above)

    pub pair-read : (text : List ℕ) → bs ≡ text → (o : Option Fraction) → MatchOption o ((p q : ℤ) → FitsSigned w128 p → FitsSigned w128 q → IsPair x.now y.now p q → ⊥) (λ f. IsPair x.now y.now f.num f.den)
        → MatchOption o ((num den : ℤ) → IsLowest num den → FitsSigned w128 num → FitsSigned w128 den → text ≢ fraction_text num den) (λ f. text ≡ fraction_text f.num f.den)
    pair-read text s (Some o) m = sym s ∙ is-text o.num o.den m
    pair-read text s None m = λ num den l f g e. not-text m num den l f g (s ∙ e)
