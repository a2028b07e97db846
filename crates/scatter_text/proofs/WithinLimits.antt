-- A file that passes no limit is within the limits, and what these tests say of numbers.
use Rattle.std.proofs.Common.{◌≡◌, ℕ, zero, suc, refl, ◌≤◌, ◌*◌, Bool, true, false, ◌||◌, List, [], ◌∷◌, get_or, arith}
use Rattle.std.specs.Prelude.{ℤ, pos, nat_abs, None, find, option_map, nat_lt, All}
use Rattle.std.specs.List.{list_any}
use Rattle.std.proofs.lemmas.Bool.Decides.{nat_tests}
use Rattle.scattering.specs.Collections.{Every}
use Rattle.scattering.proofs.Lists.{or-false}
use Rattle.scatter_text.specs.declared.file.LineRow.{LineRow}
use Rattle.scatter_text.specs.declared.file.TermRow.{TermRow}
use Rattle.scatter_text.specs.declared.file.AskRow.{AskRow}
use Rattle.scatter_text.specs.declared.file.TextFile.{TextFile}
use Rattle.scatter_text.specs.declared.fault.LimitKind.{LimitKind}
use Rattle.scatter_text.specs.Limits.{limit_of, first_limit, limits_by, is_far, has_many_vars, has_large_coefficient, is_exponent_large, has_large_exponent, is_power_large, has_large_power, IsWithinLimits}

-- ---- tests that fail

pub any-none : {X : Type 0} (p : X → Bool) (xs : List X) → list_any p xs ≡ false → All (λ x. p x ≡ false) xs
any-none p [] e k d lt = absurd (omega (arith, lt))
any-none p (x ∷ xs) e zero d lt = (or-false (p x) (list_any p xs) e).0
any-none p (x ∷ xs) e (suc k) d lt = any-none p xs (or-false (p x) (list_any p xs) e).1 k d (omega (arith, lt))

pub all-pass : (limits : List (LimitKind × Bool)) → option_map (λ (limit : LimitKind × Bool). limit.0) (find (λ (limit : LimitKind × Bool). limit.1) limits) ≡ None → Every (λ (limit : LimitKind × Bool). limit.1 ≡ false) limits
all-pass [] e = tt
all-pass ((kind, true) ∷ limits) e = absurd (cc)
all-pass ((kind, false) ∷ limits) e = (refl, all-pass limits e)

pub within-first-limit : (file : TextFile) (order readers : ℕ) → first_limit file order readers ≡ None → IsWithinLimits file
within-first-limit file order readers e =
    let all = all-pass (limits_by file.vars file.lines file.asks order readers) e in
    record {
      vars = all.0;
      lines = all.1.1.0;
      terms = all.1.1.1.0;
      coefficients = all.1.1.1.1.0;
      exponents = all.1.1.1.1.1.0;
      powers = all.1.1.1.1.1.1.0;
      points = (or-false (list_any (λ (l : LineRow). is_far l.x l.y) file.lines) (list_any (λ (a : AskRow). is_far a.x a.y) file.asks) all.1.1.1.1.1.1.1.0).0;
    }

pub within-limits : (file : TextFile) (order : ℕ) → limit_of file order ≡ None → IsWithinLimits file
within-limits file order e = within-first-limit file order 1 e

-- ---- small numbers

pub not-less : (m n : ℕ) → nat_lt m n ≡ false → n ≤ m
not-less m n e = grind (arith, nat_tests)

pub vars-few : (z : ℤ) → has_many_vars z ≡ false → nat_abs z ≤ 8
vars-few z e = not-less 8 (nat_abs z) e

pub exponent-small : (j d : ℤ) → is_exponent_large j d ≡ false → nat_abs j * nat_abs d ≤ 64
unfolding is_exponent_large
exponent-small j d e = not-less 64 (nat_abs j * nat_abs d) e

pub record HasSmallExponents (row : LineRow) : Type 0 where
  pub x : nat_abs row.dx ≤ 64
  pub y : nat_abs row.dy ≤ 64
  pub terms : All (λ t. (nat_abs t.j * nat_abs row.dx ≤ 64) × (nat_abs t.j * nat_abs row.dy ≤ 64)) row.terms

pub exponents-small : (row : LineRow) → has_large_exponent row ≡ false → HasSmallExponents row
unfolding has_large_exponent
exponents-small row e =
    let a = or-false (is_exponent_large (pos 1) row.dx || is_exponent_large (pos 1) row.dy) (list_any (λ (t : TermRow). is_exponent_large t.j row.dx || is_exponent_large t.j row.dy) row.terms) e in
    let b = or-false (is_exponent_large (pos 1) row.dx) (is_exponent_large (pos 1) row.dy) a.0 in
    let x = exponent-small (pos 1) row.dx b.0 in let y = exponent-small (pos 1) row.dy b.1 in
    record {
      x = omega (arith, x);
      y = omega (arith, y);
      terms = λ k d lt.
          let o = any-none (λ (t : TermRow). is_exponent_large t.j row.dx || is_exponent_large t.j row.dy) row.terms a.1 k d lt in
          let t = get_or row.terms k d in
          let p = or-false (is_exponent_large t.j row.dx) (is_exponent_large t.j row.dy) o in
          (exponent-small t.j row.dx p.0, exponent-small t.j row.dy p.1);
    }

pub coefficients-small : (row : LineRow) → has_large_coefficient row ≡ false → All (λ t. nat_abs t.c ≤ 2147483647) row.terms
unfolding has_large_coefficient
coefficients-small row e k d lt = not-less 2147483647 (nat_abs (get_or row.terms k d).c) (any-none (λ (t : TermRow). nat_lt 2147483647 (nat_abs t.c)) row.terms e k d lt)

pub powers-small : (row : LineRow) → has_large_power row ≡ false → All (λ t. All (λ a. nat_abs a ≤ 255) t.powers) row.terms
unfolding has_large_power is_power_large
powers-small row e k d lt j a less =
    let t = get_or row.terms k d in
    let p = any-none is_power_large row.terms e k d lt in
    not-less 255 (nat_abs (get_or t.powers j a)) (any-none (λ (b : ℤ). nat_lt 255 (nat_abs b)) t.powers p j a less)
