-- The lines that are made from a number are those of a file within the limits.
use Rattle.std.proofs.Common.{◌≡◌, ◌∙◌, ◌<◌, ◌≤◌, ◌+◌, ◌-◌, ◌*◌, ◌/◌, ◌++◌, ℕ, zero, suc, Bool, false, List, [], ◌∷◌, length, get_or, replicate, refl, sym, ap, arith, add-one, ℤ, nat_abs, take}
use Rattle.std.specs.Prelude.{pos, ◌≤ℤ◌, ◌-ℤ◌, nat_lt, All, None}
use Rattle.std.specs.List.{list_any, AllByRecursion}
use Rattle.std.proofs.Math.Nat.{one-dvd, mod-lt}
use Rattle.std.proofs.lemmas.Int.{ints}
use Rattle.std.proofs.lemmas.List.{length-replicate, take_all, take_more}
use Rattle.std.proofs.lemmas.List.Elements.{All-append, All-cons, All-nil, All-replicate, All-from_recursion}
use Rattle.std.proofs.lemmas.Bool.Decides.{nat_tests}
use Rattle.scattering.specs.Collections.{Every}
use Rattle.scattering.proofs.Lists.{Every-implies}
use Rattle.scatter_text.specs.declared.file.TermRow.{TermRow}
use Rattle.scatter_text.specs.declared.file.LineRow.{LineRow}
use Rattle.scatter_text.specs.declared.file.TextFile.{TextFile}
use Rattle.scatter_text.specs.Values.{AreCoprime, IsCoordinate, IsTermRow, AreTerms, IsLine, AreLineRows, IsAsk}
use Rattle.scatter_text.specs.Limits.{gcd, has_many_vars, has_many_lines, has_many_terms, has_large_coefficient, is_exponent_large, has_large_exponent, is_power_large, has_large_power, is_far, IsWithinLimits}
use Rattle.scatter_run.specs.Generated.{next_state, state, drawn, directions, direction_at, coordinate_at, powers_of_variable, line_drawn, generated_line, generated_lines}

-- ---- directions

coprime-one : (b : ℕ) → AreCoprime 1 b
coprime-one b = (one-dvd 1, one-dvd b, λ d h k. h)

one-coprime : (a : ℕ) → AreCoprime a 1
one-coprime a = (one-dvd a, one-dvd 1, λ d h k. k)

record IsGiven (d : ℤ × ℤ) : Type 0 where
  primitive : AreCoprime (nat_abs d.0) (nat_abs d.1)
  x : is_exponent_large (pos 1) d.0 ≡ false
  y : is_exponent_large (pos 1) d.1 ≡ false

all-given : Every IsGiven directions
unfolding is_exponent_large
all-given = (
  record { primitive = coprime-one 0; x = refl; y = refl },
  (
    record { primitive = one-coprime 0; x = refl; y = refl },
    (
      record { primitive = coprime-one 1; x = refl; y = refl },
      (
        record { primitive = coprime-one 2; x = refl; y = refl },
        (
          record { primitive = one-coprime 2; x = refl; y = refl },
          (
            record { primitive = coprime-one 1; x = refl; y = refl },
            (
              record { primitive = coprime-one 2; x = refl; y = refl },
              (
                record { primitive = one-coprime 2; x = refl; y = refl },
                tt,
              ),
            ),
          ),
        ),
      ),
    ),
  ),
)

every-index : {A : Type 0} (P : A → Type 0) (xs : List A) (d : A) → Every P xs → P d → (i : ℕ) → P (get_or xs i d)
every-index P [] d h p i = p
every-index P (x ∷ xs) d h p zero = h.0
every-index P (x ∷ xs) d h p (suc i) = every-index P xs d h.1 p i

given : (place : ℕ) → IsGiven (direction_at place)
given place = every-index IsGiven directions (pos 1, pos 0) all-given all-given.0 place

-- ---- coordinates

whole : (place : ℕ) → IsCoordinate (coordinate_at place)
whole place = record { positive = omega (arith, ints); coprime = one-coprime (nat_abs (pos place -ℤ pos 20)) }

short : (place : ℕ) → place < 41 → nat_abs (pos place -ℤ pos 20) ≤ 20
short place l = omega (arith, ints, l)

near : (x y : ℕ) → x < 41 → y < 41 → is_far (coordinate_at x) (coordinate_at y) ≡ false
unfolding is_far gcd
near x y a b =
    let p : nat_abs (pos x -ℤ pos 20) * 1 ≤ 1099511627776 = omega (arith, short x a) in
    let q : nat_abs (pos y -ℤ pos 20) * 1 ≤ 1099511627776 = omega (arith, short y b) in
    rw (below p, below q) refl
  where
    below : {n : ℕ} → n ≤ 1099511627776 → nat_lt 1099511627776 n ≡ false
    below l = grind (arith, nat_tests)

-- ---- powers of a variable

abbrev powers_from : ℕ → ℕ → List ℤ
powers_from i n = replicate i (pos 0) ++ pos 1 ∷ replicate n (pos 0)

own-power : (i n : ℕ) (d : ℤ) → get_or (powers_from i n) i d ≡ pos 1
own-power zero n d = refl
own-power (suc i) n d = own-power i n d

power-count : (i n : ℕ) → length (powers_from i n) ≡ i + suc n
power-count zero n = let e = length-replicate n (pos 0) in omega (arith, e)
power-count (suc i) n = let e = power-count i n in omega (arith, e)

no-negative_power : (i n : ℕ) → All (λ a. pos 0 ≤ℤ a) (powers_from i n)
no-negative_power i n =
    let none : pos 0 ≤ℤ pos 0 = omega (arith, ints) in
    let one : pos 0 ≤ℤ pos 1 = omega (arith, ints) in
    All-append (λ a. pos 0 ≤ℤ a) (replicate i (pos 0)) (pos 1 ∷ replicate n (pos 0)) (All-replicate (λ a. pos 0 ≤ℤ a) i (pos 0) none)
    (All-cons (λ a. pos 0 ≤ℤ a) (pos 1) (replicate n (pos 0)) one (All-replicate (λ a. pos 0 ≤ℤ a) n (pos 0) none))

some-power : (i n : ℕ) → ¬ All (λ a. a ≡ pos 0) (powers_from i n)
some-power i n h =
    let e : get_or (powers_from i n) i (pos 0) ≡ pos 0 = h i (pos 0) (let c = power-count i n in omega (arith, c)) in
    let f : pos 1 ≡ pos 0 = sym (own-power i n (pos 0)) ∙ e in
    cc

small-powers : (n : ℕ) → list_any (λ a. nat_lt 255 (nat_abs a)) (replicate n (pos 0)) ≡ false
small-powers zero = refl
small-powers (suc n) = small-powers n

small-power : (i n : ℕ) → list_any (λ a. nat_lt 255 (nat_abs a)) (powers_from i n) ≡ false
small-power zero n = small-powers n
small-power (suc i) n = small-power i n

-- ---- a line

abbrev term_of : ℕ → TermRow
term_of i = record { c = pos 1; j = pos 1; powers = powers_of_variable i }

proper-term : (i : ℕ) → IsTermRow (term_of i)
proper-term i = record {
  coefficient = λ e. cc;
  multiple = omega (arith, ints);
  no_negative_power = no-negative_power i (5 - i);
  some_power = some-power i (5 - i);
}

proper-terms : (i : ℕ) → i ≤ 5 → AreTerms (pos 6) (term_of i ∷ [])
proper-terms i l = record {
  each = All-from_recursion IsTermRow (term_of i ∷ []) (proper-term i, tt);
  variables = All-from_recursion (λ (t : TermRow). length t.powers ≡ 6) (term_of i ∷ []) (let c = power-count i (5 - i) in omega (arith, c, l), tt);
  different = λ k j d below within. absurd (omega (arith, below, within));
}

-- what the tests of a line say
record IsGood (l : LineRow) : Type 0 where
  valid : IsLine (pos 6) l
  terms : nat_lt 64 (length l.terms) ≡ false
  coefficient : has_large_coefficient l ≡ false
  exponent : has_large_exponent l ≡ false
  power : has_large_power l ≡ false
  near : is_far l.x l.y ≡ false

good : (place x y i : ℕ) → x < 41 → y < 41 → i ≤ 5 → IsGood (line_drawn place x y i)
unfolding has_large_coefficient has_large_exponent has_large_power is_power_large
good place x y i a b l =
    let g = given place in
    record {
      valid = record { primitive = g.primitive; x = whole x; y = whole y; terms = proper-terms i l };
      terms = refl;
      coefficient = refl;
      exponent = rw (g.x, g.y) refl;
      power = rw (small-power i (5 - i)) refl;
      near = near x y a b;
    }

drawn-below : (m s : ℕ) → 0 < m → drawn m s < m
drawn-below m s positive = mod-lt (s / 256) positive

good-line : (number i : ℕ) → i ≤ 5 → IsGood (generated_line number i)
good-line number i l =
    good (drawn 8 (state number (3 * i + 1))) (drawn 41 (state number (3 * i + 2))) (drawn 41 (state number (3 * i + 3))) i
    (drawn-below 41 (state number (3 * i + 2)) (omega arith)) (drawn-below 41 (state number (3 * i + 3)) (omega arith)) l

-- ---- all lines

module _ (number : ℕ) where
  every-line : Every IsGood (generated_lines number)
  every-line = (
    good-line number 0 (omega arith),
    (
      good-line number 1 (omega arith),
      (
        good-line number 2 (omega arith),
        (
          good-line number 3 (omega arith),
          (good-line number 4 (omega arith), (good-line number 5 (omega arith), tt)),
        ),
      ),
    ),
  )

  pub valid-lines : AreLineRows (pos 6) (generated_lines number)
  valid-lines = All-from_recursion (IsLine (pos 6)) (generated_lines number) (each (generated_lines number) every-line)
    where
      each : (ls : List LineRow) → Every IsGood ls → AllByRecursion (IsLine (pos 6)) ls
      each [] h = tt
      each (l ∷ ls) h = (h.0.valid, each ls h.1)

  abbrev pub file_of : TextFile
  file_of = record { vars = pos 6; lines = generated_lines number; asks = []; settle = None; variables = omega (arith, ints); valid = valid-lines; valid_asks = All-nil IsAsk; settled = λ n e. absurd (cc) }

no-line : (test : LineRow → Bool) (ls : List LineRow) → Every (λ l. test l ≡ false) ls → list_any test ls ≡ false
no-line test [] h = refl
no-line test (l ∷ ls) h = rw (h.0) (no-line test ls h.1)

-- tests that fail for each line that is good fail for all
no-good_line : (test : LineRow → Bool) → ((l : LineRow) → IsGood l → test l ≡ false) → (number : ℕ) → list_any test (generated_lines number) ≡ false
no-good_line test f number = no-line test (generated_lines number) (Every-implies IsGood (λ l. test l ≡ false) (generated_lines number) f (every-line number))

pub within : (number : ℕ) (file : TextFile) → file.vars ≡ pos 6 → file.lines ≡ generated_lines number → IsWithinLimits file
unfolding has_many_lines has_many_terms
within number file v e = record {
  vars = ap has_many_vars v;
  lines = ap has_many_lines e;
  terms = ap has_many_terms e ∙ no-good_line (λ l. nat_lt 64 (length l.terms)) (λ l g. g.terms) number;
  coefficients = ap (list_any has_large_coefficient) e ∙ no-good_line has_large_coefficient (λ l g. g.coefficient) number;
  exponents = ap (list_any has_large_exponent) e ∙ no-good_line has_large_exponent (λ l g. g.exponent) number;
  powers = ap (list_any has_large_power) e ∙ no-good_line has_large_power (λ l g. g.power) number;
  points = ap (list_any (λ (l : LineRow). is_far l.x l.y)) e ∙ no-good_line (λ l. is_far l.x l.y) (λ l g. g.near) number;
}

pub file-within : (number : ℕ) → IsWithinLimits (file_of number)
file-within number = within number (file_of number) refl refl

-- ---- one line after another

state-next : (number m k : ℕ) → m ≡ k + 1 → state number m ≡ next_state (state number k)
state-next number m k e = ap (state number) (e ∙ add-one k)

-- the states of a line's draws, from the one before them
record AreStates (number i before : ℕ) : Type 0 where
  first : state number (3 * i + 1) ≡ next_state before
  second : state number (3 * i + 2) ≡ next_state (next_state before)
  third : state number (3 * i + 3) ≡ next_state (next_state (next_state before))
  next : state number (3 * (i + 1)) ≡ next_state (next_state (next_state before))

states : (number i before : ℕ) → before ≡ state number (3 * i) → AreStates number i before
states number i before e =
    let one : state number (3 * i + 1) ≡ next_state before = state-next number (3 * i + 1) (3 * i) refl ∙ ap next_state (sym e) in
    let two : state number (3 * i + 2) ≡ next_state (next_state before) = state-next number (3 * i + 2) (3 * i + 1) (omega arith) ∙ ap next_state one in
    let three : state number (3 * i + 3) ≡ next_state (next_state (next_state before)) = state-next number (3 * i + 3) (3 * i + 2) (omega arith) ∙ ap next_state two in
    record { first = one; second = two; third = three; next = ap (state number) (omega arith) ∙ three }

line-at : (number i : ℕ) (d : LineRow) → i < 6 → get_or (generated_lines number) i d ≡ generated_line number i
line-at number zero d l = refl
line-at number (suc zero) d l = refl
line-at number (suc (suc zero)) d l = refl
line-at number (suc (suc (suc zero))) d l = refl
line-at number (suc (suc (suc (suc zero)))) d l = refl
line-at number (suc (suc (suc (suc (suc zero))))) d l = refl
line-at number (suc (suc (suc (suc (suc (suc i)))))) d l = absurd (omega (arith, l))

-- one line more
pub lines-more : (number i before after : ℕ) (lines : List LineRow) (l : LineRow) → i < 6 → before ≡ state number (3 * i) → lines ≡ take i (generated_lines number)
    → after ≡ next_state (next_state (next_state before)) → l ≡ line_drawn (drawn 8 (next_state before)) (drawn 41 (next_state (next_state before))) (drawn 41 after) i
    → (lines ++ l ∷ [] ≡ take (i + 1) (generated_lines number)) × (after ≡ state number (3 * (i + 1)))
lines-more number i before after lines l less e so_far f is =
    let s = states number i before e in
    let third : after ≡ state number (3 * i + 3) = f ∙ sym s.third in
    let same : l ≡ get_or (generated_lines number) i l =
    is ∙ (λ k. line_drawn (drawn 8 (sym s.first k)) (drawn 41 (sym s.second k)) (drawn 41 (third k)) i) ∙ sym (line-at number i l less) in
    ((λ k. so_far k ++ same k ∷ []) ∙ sym (take_more (generated_lines number) i l less), f ∙ sym s.next)

-- all of them
pub lines-all : (number i : ℕ) (rows lines : List LineRow) → rows ≡ lines → lines ≡ take i (generated_lines number) → 6 ≤ i → rows ≡ generated_lines number
lines-all number i rows lines e f l = e ∙ f ∙ take_all i (generated_lines number) l
