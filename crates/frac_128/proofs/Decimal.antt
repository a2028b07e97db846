-- The decimal text of a number of 128 bits, and of a fraction of such numbers.
use Rattle.std.proofs.Common.{◌≡◌, ◌≢◌, ℕ, zero, suc, refl, sym, ap, subst, ◌∙◌, ◌^◌, ◌<◌, List, [], ◌∷◌, ◌++◌, length, get_or, Result, Ok, arith, FitsSigned, true, false, Bool, cond, slice_index}
use Rattle.std.specs.Prelude.{ℤ, pos, negsuc, neg_ℤ, ◌≤ℤ◌, codes}
use Rattle.std.specs.Int.{w128}
use Rattle.std.specs.Ordering.{int_eq}
use Rattle.std.specs.Fmt.{decimal, signed_decimal}
use Rattle.std.specs.Str.{IsAscii, IsUtf8}
use Rattle.std.specs.Str.Parse.{ParsesSigned, digits_value}
use Rattle.std.proofs.lemmas.Int.{ints}
use Rattle.std.proofs.lemmas.Str.{IsUtf8-from_ascii, IsUtf8-append}
use Rattle.std.proofs.lemmas.Str.Parse.{numerals_by_value, tells_digits, parse_signed_digits, parse_signed_minus, digit_at}
use Rattle.std.proofs.lemmas.Fmt.{decimal_is_IsNumeral_wide, IsAscii-decimal_wide}
use mathlib.Core.List.{append_assoc}
use Rattle.std.proofs.lemmas.Result.{Ok-from_Ok_iff}
use Rattle.frac_128.specs.Text.{fraction_text}

short : (n : ℕ) → n < 2 ^ 127 → n < 10 ^ 64
short n h = omega (arith, h)

pub parse-number : {E : Type 0} (z : ℤ) (bs : List ℕ) (r : Result ℤ E) → FitsSigned w128 z → bs ≡ signed_decimal z → ParsesSigned w128 10 bs r → r ≡ Ok z
parse-number (pos n) bs r f e h =
    let k = decimal_is_IsNumeral_wide n (omega (arith, f.sfits)) in
    let read = parse_signed_digits (numerals_by_value _ tells_digits) w128 (decimal n) r (subst (λ l. ParsesSigned w128 10 l r) e h) k.0.1 in
    Ok-from_Ok_iff r _ _ read (k.0.0, omega (arith, k.1, f.sfits)) ∙ ap (λ m. Ok (pos m)) k.1
parse-number (negsuc n) bs r f e h =
    let k = decimal_is_IsNumeral_wide (suc n) (omega (arith, f.sfits)) in
    let read = parse_signed_minus (numerals_by_value _ tells_digits) w128 (45 ∷ decimal (suc n)) r (subst (λ l. ParsesSigned w128 10 l r) e h) refl in
    Ok-from_Ok_iff r _ _ read (k.0.1, k.0.0, omega (arith, k.1, f.sfits)) ∙ ap (λ m. Ok (neg_ℤ (pos m))) k.1

pub ascii-number : (z : ℤ) → FitsSigned w128 z → IsAscii (signed_decimal z)
ascii-number (pos n) f = IsAscii-decimal_wide n (omega (arith, f.sfits))
ascii-number (negsuc n) f = go (IsAscii-decimal_wide (suc n) (omega (arith, f.sfits)))
  where
    go : IsAscii (decimal (suc n)) → (i : ℕ) → slice_index (45 ∷ decimal (suc n)) i < 128
    go h zero = omega arith
    go h (suc i) = h i

utf8-number : (z : ℤ) → FitsSigned w128 z → IsUtf8 (signed_decimal z)
utf8-number z f = IsUtf8-from_ascii (signed_decimal z) (ascii-number z f)

pub no-slash : (z : ℤ) → FitsSigned w128 z → (i : ℕ) → i < length (signed_decimal z) → get_or (signed_decimal z) i 0 ≢ 47
no-slash (pos n) f i l e = let d = digit_at (decimal n) i (decimal_is_IsNumeral_wide n (omega (arith, f.sfits))).0.1 l in omega (arith, d, e)
no-slash (negsuc n) f zero l e = let z : 45 ≡ 47 = e in omega (arith, z)
no-slash (negsuc n) f (suc i) l e =
    let d = digit_at (decimal (suc n)) i (decimal_is_IsNumeral_wide (suc n) (omega (arith, f.sfits))).0.1 (omega (arith, l)) in
    let z : get_or (decimal (suc n)) i 0 ≡ 47 = e in omega (arith, d, z)

-- ---- numbers of one text are one
decimal-same : (m n : ℕ) → m < 10 ^ 64 → n < 10 ^ 64 → decimal m ≡ decimal n → m ≡ n
decimal-same m n h k e = sym (decimal_is_IsNumeral_wide m h).1 ∙ ap (digits_value 10) e ∙ (decimal_is_IsNumeral_wide n k).1

no-sign : (m : ℕ) (xs : List ℕ) → m < 10 ^ 64 → decimal m ≡ 45 ∷ xs → ⊥
no-sign m xs h e =
    let l : 0 < length (decimal m) = (decimal_is_IsNumeral_wide m h).0.0 in
    let d = digit_at (decimal m) 0 (decimal_is_IsNumeral_wide m h).0.1 l in
    let f : get_or (decimal m) 0 0 ≡ 45 = ap (λ ys. get_or ys 0 0) e in omega (arith, d, f)

tail-same : (x : ℕ) (xs ys : List ℕ) → (x ∷ xs) ≡ (x ∷ ys) → xs ≡ ys
tail-same x xs ys e = cc

pub number-same : (y z : ℤ) → FitsSigned w128 y → FitsSigned w128 z → signed_decimal y ≡ signed_decimal z → y ≡ z
number-same (pos m) (pos n) f g e = ap pos (decimal-same m n (omega (arith, f.sfits)) (omega (arith, g.sfits)) e)
number-same (pos m) (negsuc n) f g e = absurd (no-sign m (decimal (suc n)) (omega (arith, f.sfits)) e)
number-same (negsuc m) (pos n) f g e = absurd (no-sign n (decimal (suc m)) (omega (arith, g.sfits)) (sym e))
number-same (negsuc m) (negsuc n) f g e =
    let h = decimal-same (suc m) (suc n) (omega (arith, f.sfits)) (omega (arith, g.sfits)) (tail-same 45 (decimal (suc m)) (decimal (suc n)) e) in
    ap (λ k. neg_ℤ (pos k)) h

-- ---- the text of a fraction by its two forms
slash-utf8 : IsUtf8 (codes "/")
slash-utf8 = IsUtf8-from_ascii (codes "/") go
  where
    go : (i : ℕ) → slice_index (codes "/") i < 128
    go zero = omega arith
    go (suc i) = omega arith

by_test : (b : Bool) (xs ys : List ℕ) → IsUtf8 xs → IsUtf8 ys → IsUtf8 (cond b xs ys)
by_test true xs ys h k = h
by_test false xs ys h k = k

pub utf8-fraction : (num den : ℤ) → FitsSigned w128 num → FitsSigned w128 den → IsUtf8 (fraction_text num den)
utf8-fraction num den f g =
    by_test (int_eq den (pos 1)) (signed_decimal num) (signed_decimal num ++ codes "/" ++ signed_decimal den) (utf8-number num f)
    (IsUtf8-append (signed_decimal num ++ codes "/") (signed_decimal den) (IsUtf8-append (signed_decimal num) (codes "/") (utf8-number num f) slash-utf8) (utf8-number den g))

is-one : (den : ℤ) → int_eq den (pos 1) ≡ true → den ≡ pos 1
is-one den e = grind (arith, ints)

not-one : (den : ℤ) → pos 1 ≤ℤ den → int_eq den (pos 1) ≡ false → pos 2 ≤ℤ den
not-one den h e = go (λ (d : den ≡ pos 1). cc)
  where
    go : (den ≡ pos 1 → ⊥) → pos 2 ≤ℤ den
    go n = grind (arith, ints)

one-in : (den : ℤ) → pos 2 ≤ℤ den → int_eq den (pos 1) ≡ false
one-in den h = grind (arith, ints)

joined : (xs ys : List ℕ) → xs ++ codes "/" ++ ys ≡ xs ++ (47 ∷ ys)
joined xs ys = append_assoc xs (47 ∷ []) ys

-- a whole number
pub whole-text : (num den : ℤ) → den ≡ pos 1 → fraction_text num den ≡ signed_decimal num
whole-text num den e = rw e

-- a numerator and a denominator
pub pair-text : (num den : ℤ) → pos 2 ≤ℤ den → fraction_text num den ≡ signed_decimal num ++ (47 ∷ signed_decimal den)
pair-text num den h = ap (λ b. cond b (signed_decimal num) (signed_decimal num ++ codes "/" ++ signed_decimal den)) (one-in den h) ∙ joined (signed_decimal num) (signed_decimal den)

pub by_form : (P : Type 0) (den : ℤ) → pos 1 ≤ℤ den → (den ≡ pos 1 → P) → (pos 2 ≤ℤ den → P) → P
by_form P den h f g = go (int_eq den (pos 1)) refl
  where
    go : (b : Bool) → int_eq den (pos 1) ≡ b → P
    go true e = f (is-one den e)
    go false e = g (not-one den h e)
