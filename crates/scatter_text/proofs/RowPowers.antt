-- The powers of a row, gathered, and the degree of its monomial.
use Rattle.std.proofs.Common.{◌≡◌, ℕ, zero, suc, refl, sym, ap, ◌∙◌, ◌≤◌, ◌<◌, ◌+◌, lit<, List, [], ◌∷◌, map, length, arith}
use Rattle.std.specs.Prelude.{ℤ, pos, nat_abs, sum, All, slice_index, slice_index_or}
use Rattle.std.proofs.Math.ListN.{get_or-map}
use Rattle.std.proofs.lemmas.Int.{ints}
use Rattle.std.proofs.lemmas.List.{length-map}
use Rattle.std.proofs.lemmas.List.Elements.{All-nil, All-cons}
use Rattle.std.proofs.lemmas.List.Sums.{sum_by-cons}
use Rattle.scattering.specs.Series.{Powers, total}
use Rattle.trunc_series.specs.Shown.{powers_of}
use Rattle.scatter_text.specs.GivenWalls.{powers_at}

-- the powers that a list or a row gives at 0 to 7
abbrev pub gather : (ℕ → ℕ) → Powers
gather f = record { t1 = f 0; t2 = f 1; t3 = f 2; t4 = f 3; t5 = f 4; t6 = f 5; t7 = f 6; t8 = f 7 }

pub gathered : (f g : ℕ → ℕ) → ((i : ℕ) → i < 8 → f i ≡ g i) → gather f ≡ gather g
gathered f g h = λ i. record {
  t1 = h 0 (lit< tt) i;
  t2 = h 1 (lit< tt) i;
  t3 = h 2 (lit< tt) i;
  t4 = h 3 (lit< tt) i;
  t5 = h 4 (lit< tt) i;
  t6 = h 5 (lit< tt) i;
  t7 = h 6 (lit< tt) i;
  t8 = h 7 (lit< tt) i;
}

-- no power is left out where there are eight at most
pub total-sum : (ns : List ℕ) → length ns ≤ 8 → total (powers_of ns) ≡ sum ns
total-sum [] l = refl
total-sum (a ∷ []) l = omega arith
total-sum (a ∷ b ∷ []) l = omega arith
total-sum (a ∷ b ∷ c ∷ []) l = omega arith
total-sum (a ∷ b ∷ c ∷ d ∷ []) l = omega arith
total-sum (a ∷ b ∷ c ∷ d ∷ e ∷ []) l = omega arith
total-sum (a ∷ b ∷ c ∷ d ∷ e ∷ f ∷ []) l = omega arith
total-sum (a ∷ b ∷ c ∷ d ∷ e ∷ f ∷ g ∷ []) l = omega arith
total-sum (a ∷ b ∷ c ∷ d ∷ e ∷ f ∷ g ∷ h ∷ []) l = omega arith
total-sum (a ∷ b ∷ c ∷ d ∷ e ∷ f ∷ g ∷ h ∷ i ∷ ns) l = absurd (omega (arith, l))

-- the degree of a row's monomial
pub row-total : (ps : List ℤ) → length ps ≤ 8 → total (powers_at ps) ≡ sum (map nat_abs ps)
row-total ps l = ap total (gathered (λ i. nat_abs (slice_index_or ps i (pos 0))) (λ i. slice_index (map nat_abs ps) i) (λ i b. sym (get_or-map nat_abs ps i (pos 0)))) ∙ total-sum (map nat_abs ps) (rw length-map l)

-- a degree of 0 has no power
pub some-power : (ps : List ℤ) → ¬ All (λ a. a ≡ pos 0) ps → 1 ≤ sum (map nat_abs ps)
some-power ps some = least (sum (map nat_abs ps)) (λ e. some (all ps e))
  where
    least : (n : ℕ) → (n ≡ 0 → ⊥) → 1 ≤ n
    least zero h = absurd (h refl)
    least (suc n) h = omega arith

    no_size : (a : ℤ) (n : ℕ) → nat_abs a + n ≡ 0 → a ≡ pos 0
    no_size a n e = omega (arith, ints, e)

    none : (m n : ℕ) → m + n ≡ 0 → n ≡ 0
    none m n e = omega (arith, e)

    all : (qs : List ℤ) → sum (map nat_abs qs) ≡ 0 → All (λ a. a ≡ pos 0) qs
    all [] e = All-nil (λ a. a ≡ pos 0)
    all (q ∷ qs) e =
        let parts : nat_abs q + sum (map nat_abs qs) ≡ 0 = sym (sum_by-cons (λ n. n) (nat_abs q) (map nat_abs qs)) ∙ e in
        All-cons (λ a. a ≡ pos 0) q qs (no_size q (sum (map nat_abs qs)) parts) (all qs (none (nat_abs q) (sum (map nat_abs qs)) parts))
