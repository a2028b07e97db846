-- A text spells one fraction, so one coordinate or one number.
use Rattle.std.proofs.Common.{Option, Some, None, MatchOption, ◌≡◌, ◌≢◌, ℕ, ◌==◌, false, List, [], ◌∷◌, ◌++◌, length, get_or, refl, arith, sym, ◌∙◌, ap, subst, lit<, ℤ, pos, All, FitsSigned}
use Rattle.std.specs.Int.{w128}
use Rattle.std.specs.Fmt.{signed_decimal}
use Rattle.std.specs.List.{slice_split}
use Rattle.std.proofs.Math.Seq.{get_or-append_seam}
use Rattle.std.proofs.lemmas.Bool.Decides.{nat_tests}
use Rattle.std.proofs.lemmas.Int.{fits_signed_from_abs}
use Rattle.std.proofs.lemmas.List.{length-append}
use Rattle.std.proofs.lemmas.List.Elements.{All-from_get_or}
use Rattle.std.proofs.lemmas.List.Splits.{slice_split_none, slice_split_at}
use Rattle.frac_128.specs.Quotient.{IsLowest}
use Rattle.frac_128.specs.Text.{fraction_text, NamesNoFraction}
use Rattle.frac_128.proofs.Decimal.{no-slash, number-same, whole-text, pair-text, by_form}
use Rattle.frac_128.proofs.Reading.{whole-lowest}
use Rattle.frac_128.proofs.Seen.{lowest-along}
use Rattle.scatter_text.specs.declared.file.Coordinate.{Coordinate}
use Rattle.scatter_text.specs.Grammar.{IsShort, IsNumberText, IsShortCoordinate, IsCoordinateText, coordinate_text}
use Rattle.scatter_text.specs.Reading.{AreShort, IsShortPair}

short-fits : (n : ℤ) → IsShort n → FitsSigned w128 n
short-fits n h = fits_signed_from_abs w128 n (omega (arith, h))

-- ---- texts of fractions of 128 bits

apart : (m n : ℕ) → m ≢ n → (m == n) ≡ false
apart m n h = grind (arith, nat_tests)

unslashed : (z : ℤ) → FitsSigned w128 z → All (λ b. (b == 47) ≡ false) (signed_decimal z)
unslashed z f = All-from_get_or (λ b. (b == 47) ≡ false) (signed_decimal z) 0 (λ i l. apart (get_or (signed_decimal z) i 0) 47 (no-slash z f i l))

abbrev pair : ℤ → ℤ → List ℕ
pair num den = signed_decimal num ++ (47 ∷ signed_decimal den)

number-or-pair : (m a b : ℤ) → FitsSigned w128 m → signed_decimal m ≡ pair a b → ⊥
number-or-pair m a b f e =
    let n = length (signed_decimal a) in
    let l : length (signed_decimal m) ≡ length (pair a b) = ap length e in
    no-slash m f n (omega (arith, l, length-append (signed_decimal a) (47 ∷ signed_decimal b))) (ap (λ zs. get_or zs n 0) e ∙ get_or-append_seam (signed_decimal a) 47 (signed_decimal b) 0)

pieces : (a b : ℤ) → FitsSigned w128 a → FitsSigned w128 b → slice_split (λ b. b == 47) (pair a b) ≡ signed_decimal a ∷ signed_decimal b ∷ []
pieces a b f g =
    slice_split_at (λ b. b == 47) (signed_decimal a) 47 (signed_decimal b) (unslashed a f) refl
    ∙ ap (λ more. signed_decimal a ∷ more) (slice_split_none (λ b. b == 47) (signed_decimal b) (unslashed b g))

pub record AreSame (a b c d : ℤ) : Type 0 where
  pub num : a ≡ c
  pub den : b ≡ d

pairs-same : (a b c d : ℤ) → FitsSigned w128 a → FitsSigned w128 b → FitsSigned w128 c → FitsSigned w128 d → pair a b ≡ pair c d → AreSame a b c d
pairs-same a b c d fa fb fc fd e =
    let s : signed_decimal a ∷ signed_decimal b ∷ [] ≡ signed_decimal c ∷ signed_decimal d ∷ [] = sym (pieces a b fa fb) ∙ ap (slice_split (λ b. b == 47)) e ∙ pieces c d fc fd in record {
      num = number-same a c fa fc (ap (λ (ps : List (List ℕ)). get_or ps 0 []) s);
      den = number-same b d fb fd (ap (λ (ps : List (List ℕ)). get_or ps 1 []) s);
    }

-- one fraction has the text
pub fraction-same : (a b c d : ℤ) → IsLowest a b → IsLowest c d → FitsSigned w128 a → FitsSigned w128 b → FitsSigned w128 c → FitsSigned w128 d → fraction_text a b ≡ fraction_text c d → AreSame a b c d
fraction-same a b c d p q fa fb fc fd e =
    by_form (AreSame a b c d) b p.positive
    (λ one. by_form (AreSame a b c d) d q.positive
    (λ other. record { num = number-same a c fa fc (sym (whole-text a b one) ∙ e ∙ whole-text c d other); den = one ∙ sym other })
    (λ more. absurd (number-or-pair a c d fa (sym (whole-text a b one) ∙ e ∙ pair-text c d more))))
    (λ more. by_form (AreSame a b c d) d q.positive
    (λ one. absurd (number-or-pair c a b fc (sym (whole-text c d one) ∙ sym e ∙ pair-text a b more)))
    (λ other. pairs-same a b c d fa fb fc fd (sym (pair-text a b more) ∙ e ∙ pair-text c d other)))

-- ---- coordinates

pub coordinate-same : (c d : Coordinate) → IsShortCoordinate c → IsShortCoordinate d → coordinate_text c ≡ coordinate_text d → c ≡ d
coordinate-same c d g h e =
    let s = fraction-same c.num c.den d.num d.den g.valid h.valid (short-fits c.num g.num) (short-fits c.den g.den) (short-fits d.num h.num) (short-fits d.den h.den) e in
    let num = s.num in
    let den = s.den in
    λ i. record { num = num i; den = den i }

pub not-read : (token : List ℕ) → NamesNoFraction token → IsCoordinateText token → ⊥
not-read token none t = none t.0.num t.0.den t.1.valid (short-fits t.0.num t.1.num) (short-fits t.0.den t.1.den) t.2

pub short-read : (token : List ℕ) (num den : ℤ) → IsLowest num den → FitsSigned w128 num → FitsSigned w128 den → token ≡ fraction_text num den → (r : Option Coordinate)
    → MatchOption r (¬ AreShort num den) (IsShortPair num den) → MatchOption r (¬ IsCoordinateText token) (λ c. IsShortCoordinate c × (token ≡ coordinate_text c))
short-read token num den lowest f g e None refused = λ t.
    let s = fraction-same num den t.0.num t.0.den lowest t.1.valid f g (short-fits t.0.num t.1.num) (short-fits t.0.den t.1.den) (sym e ∙ t.2) in
    refused (subst IsShort (sym s.num) t.1.num, subst IsShort (sym s.den) t.1.den)
short-read token num den lowest f g e (Some c) h =
    let first = h.first in
    let second = h.second in (
      record { valid = lowest-along num den c.num c.den first second lowest; num = subst IsShort (sym first) h.short.0; den = subst IsShort (sym second) h.short.1 },
      e ∙ ap (λ (n : ℤ). fraction_text n den) (sym first) ∙ ap (λ (n : ℤ). fraction_text c.num n) (sym second),
    )

-- ---- numbers

pub number-injective : (m n : ℤ) → IsShort m → IsShort n → signed_decimal m ≡ signed_decimal n → m ≡ n
number-injective m n g h e = number-same m n (short-fits m g) (short-fits n h) e

abbrev pub whole : (token : List ℕ) → IsNumberText token → IsCoordinateText token
whole token t = (record { num = t.0; den = pos 1 }, record { valid = whole-lowest t.0; num = t.1; den = lit< tt }, t.2 ∙ sym (whole-text t.0 (pos 1) refl))

pub not-whole : (token : List ℕ) (c : Coordinate) → IsShortCoordinate c → token ≡ coordinate_text c → c.den ≢ pos 1 → IsNumberText token → ⊥
not-whole token c h e other t =
    let w = whole token t in
    let s = fraction-same c.num c.den w.0.num w.0.den h.valid w.1.valid (short-fits c.num h.num) (short-fits c.den h.den) (short-fits w.0.num w.1.num) (short-fits w.0.den w.1.den) (sym e ∙ w.2) in
    other s.den

pub is-whole : (token : List ℕ) (c : Coordinate) → token ≡ coordinate_text c → c.den ≡ pos 1 → token ≡ signed_decimal c.num
is-whole token c e one = e ∙ whole-text c.num c.den one
