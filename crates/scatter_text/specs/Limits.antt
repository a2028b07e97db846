-- The limits of what is accepted, in the order in which they are tested.
use Rattle.std.specs.Prelude.{◌≡◌, ℕ, zero, suc, ◌+◌, ◌*◌, ◌/◌, ◌%◌, ◌==◌, nat_lt, Bool, true, false, ◌||◌, List, [], ◌∷◌, length, Option, Some, None, option_map, find, nat_abs, ℤ, pos, codes}
use Rattle.std.specs.List.{list_any}
use Rattle.limits.specs.Limits.{highest_order, largest_coefficient, largest_coordinate, largest_given_exponent, largest_power, most_asks, most_lines, most_monomials, most_readers, most_terms, most_variables}
use Rattle.scatter_text.specs.declared.file.Coordinate.{Coordinate}
use Rattle.scatter_text.specs.declared.file.TermRow.{TermRow}
use Rattle.scatter_text.specs.declared.file.LineRow.{LineRow}
use Rattle.scatter_text.specs.declared.file.AskKind.{AskKind}
use Rattle.scatter_text.specs.declared.file.AskKind.TheVariants.{Theta, Product}
use Rattle.scatter_text.specs.declared.file.AskRow.{AskRow}
use Rattle.scatter_text.specs.declared.file.TextFile.{TextFile}
use Rattle.scatter_text.specs.declared.fault.LimitKind.{LimitKind}
use Rattle.scatter_text.specs.declared.fault.LimitKind.TheVariants.{Bytes, Vars, Size, Lines, Terms, Coefficient, Exponent, Power, Place, Queries, AskExponent, Reader, Least}

-- n over k, by Pascal's rule
abbrev pub binomial : ℕ → ℕ → ℕ
binomial n zero = 1
binomial zero (suc k) = 0
binomial (suc n) (suc k) = binomial n k + binomial n (suc k)

-- the greatest common divisor, by Euclid's remainders; no more of them than b
abbrev pub gcd_within : ℕ → ℕ → ℕ → ℕ
gcd_within zero a b = a
gcd_within (suc steps) a b = elim (b == 0) [ true ↦ a | false ↦ gcd_within steps b (a % b) ]

unfoldable pub gcd : ℕ → ℕ → ℕ
gcd a b = gcd_within b a b

-- too many variables
abbrev pub has_many_vars : ℤ → Bool
has_many_vars vars = nat_lt most_variables (nat_abs vars)

-- too many monomials in the variables up to the order
unfoldable pub has_many_monomials : ℕ → ℤ → Bool
has_many_monomials order vars = nat_lt most_monomials (binomial (order + nat_abs vars) (nat_abs vars))

unfoldable pub has_many_lines : List LineRow → Bool
has_many_lines lines = nat_lt most_lines (length lines)

unfoldable pub has_many_terms : List LineRow → Bool
has_many_terms lines = list_any (λ l. nat_lt most_terms (length l.terms)) lines

unfoldable pub has_large_coefficient : LineRow → Bool
has_large_coefficient l = list_any (λ t. nat_lt largest_coefficient (nat_abs t.c)) l.terms

-- j times a number of a direction
unfoldable pub is_exponent_large : ℤ → ℤ → Bool
is_exponent_large j d = nat_lt largest_given_exponent (nat_abs j * nat_abs d)

-- of the direction itself, and of the terms
unfoldable pub has_large_exponent : LineRow → Bool
has_large_exponent l =
    is_exponent_large (pos 1) l.dx || is_exponent_large (pos 1) l.dy ||
    list_any (λ t. is_exponent_large t.j l.dx || is_exponent_large t.j l.dy) l.terms

unfoldable pub is_power_large : TermRow → Bool
is_power_large t = list_any (λ a. nat_lt largest_power (nat_abs a)) t.powers

unfoldable pub has_large_power : LineRow → Bool
has_large_power l = list_any is_power_large l.terms

-- the point (x, y) over the least common denominator w: one of x, y, w above the largest coordinate
unfoldable pub is_far : Coordinate → Coordinate → Bool
is_far x y =
    let w = nat_abs x.den * nat_abs y.den / gcd (nat_abs x.den) (nat_abs y.den) in
    nat_lt largest_coordinate w || nat_lt largest_coordinate (nat_abs x.num * (w / nat_abs x.den)) || nat_lt largest_coordinate (nat_abs y.num * (w / nat_abs y.den))

unfoldable pub has_many_asks : List AskRow → Bool
has_many_asks asks = nat_lt most_asks (length asks)

abbrev pub is_kind_large : AskKind → Bool
is_kind_large (Theta a b) = is_exponent_large (pos 1) a || is_exponent_large (pos 1) b
is_kind_large (Product a b c d) = is_exponent_large (pos 1) a || is_exponent_large (pos 1) b || is_exponent_large (pos 1) c || is_exponent_large (pos 1) d

unfoldable pub has_large_ask_exponent : AskRow → Bool
has_large_ask_exponent a = is_kind_large a.kind

-- a reader above the number of readers
unfoldable pub has_high_reader : ℕ → AskRow → Bool
has_high_reader readers a = nat_lt readers (nat_abs a.reader)

abbrev pub is_order_high : Option ℤ → Bool
is_order_high None = false
is_order_high (Some order) = nat_lt highest_order (nat_abs order)

unfoldable pub has_high_least : AskRow → Bool
has_high_least a = is_order_high a.least

-- a point of a line or ask that isn't near
abbrev pub have_far_point : List LineRow → List AskRow → Bool
have_far_point lines asks = list_any (λ l. is_far l.x l.y) lines || list_any (λ a. is_far a.x a.y) asks

-- each limit with the test of whether it is passed; a text's bytes are counted before it is read
abbrev pub limits_by : ℤ → List LineRow → List AskRow → ℕ → ℕ → List (LimitKind × Bool)
limits_by vars lines asks order readers =
    (Vars, has_many_vars vars) ∷
    (Size, has_many_monomials order vars) ∷
    (Lines, has_many_lines lines) ∷
    (Terms, has_many_terms lines) ∷
    (Coefficient, list_any has_large_coefficient lines) ∷
    (Exponent, list_any has_large_exponent lines) ∷
    (Power, list_any has_large_power lines) ∷
    (Place, have_far_point lines asks) ∷
    (Queries, has_many_asks asks) ∷
    (AskExponent, list_any has_large_ask_exponent asks) ∷
    (Reader, list_any (has_high_reader readers) asks) ∷
    (Least, list_any has_high_least asks) ∷ []

-- the first limit that is passed, by the number of variables, the lines and the asks
abbrev pub limit_by : ℤ → List LineRow → List AskRow → ℕ → ℕ → Option LimitKind
limit_by vars lines asks order readers = option_map (λ limit. limit.0) (find (λ limit. limit.1) (limits_by vars lines asks order readers))

abbrev pub first_limit : TextFile → ℕ → ℕ → Option LimitKind
first_limit file order readers = limit_by file.vars file.lines file.asks order readers

-- the same with one reader
abbrev pub limit_of : TextFile → ℕ → Option LimitKind
limit_of file order = first_limit file order 1

-- what holds of the lines of a file that passes no limit, at any order, so without the limit on monomials
pub record IsWithinLimits (file : TextFile) : Type 0 where
  pub vars : has_many_vars file.vars ≡ false
  pub lines : has_many_lines file.lines ≡ false
  pub terms : has_many_terms file.lines ≡ false
  pub coefficients : list_any has_large_coefficient file.lines ≡ false
  pub exponents : list_any has_large_exponent file.lines ≡ false
  pub powers : list_any has_large_power file.lines ≡ false
  pub points : list_any (λ l. is_far l.x l.y) file.lines ≡ false

-- and of its asks, by whichever readers there may be
pub record AreAsksWithinLimits (file : TextFile) : Type 0 where
  pub points : list_any (λ a. is_far a.x a.y) file.asks ≡ false
  pub exponents : list_any has_large_ask_exponent file.asks ≡ false
  pub readers : list_any (has_high_reader most_readers) file.asks ≡ false
  pub least : list_any has_high_least file.asks ≡ false

abbrev pub limit_word : LimitKind → List ℕ
limit_word Bytes = codes "bytes"
limit_word Vars = codes "vars"
limit_word Size = codes "size"
limit_word Lines = codes "lines"
limit_word Terms = codes "terms"
limit_word Coefficient = codes "coefficient"
limit_word Exponent = codes "exponent"
limit_word Power = codes "power"
limit_word Place = codes "point"
limit_word Queries = codes "queries"
limit_word AskExponent = codes "ask-exponent"
limit_word Reader = codes "reader"
limit_word Least = codes "least"
