-- Powers of eight variables, of which the last may not be given.
use Rattle.std.proofs.Common.{◌≡◌, ◌≢◌, ℕ, zero, suc, refl, sym, ap, ◌∙◌, ◌<◌, ◌≤◌, ◌+◌, List, [], ◌∷◌, map, length, get_or, arith, get_or-set_other, get_or-set_same, below_more, sum, zero-add, ◌⊎◌, inl, inr, to_z, of_z}
use Rattle.std.specs.Prelude.{ℤ, pos, nat_abs}
use Rattle.std.proofs.Math.ListN.{set, length-set}
use Rattle.std.proofs.lemmas.Bool.{cases_lt}
use Rattle.std.proofs.lemmas.List.{get_or_past}
use Rattle.std.proofs.lemmas.List.Sums.{sum_by-cons}
use Rattle.std.proofs.lemmas.Int.{ints}
use mir.Syntax.{w64}
use Rattle.scatter_text.specs.GivenWalls.{power_at}

-- ---- one power after the other

pub record AreSet (powers : List ℕ) (given : List ℤ) (i : ℕ) : Type 0 where
  pub eight : length powers ≡ 8
  pub below : (k : ℕ) → k < i → get_or powers k 0 ≡ power_at given k
  pub above : (k : ℕ) → i ≤ k → get_or powers k 0 ≡ 0

pub set-more : (powers : List ℕ) (given : List ℤ) (i : ℕ) → AreSet powers given i → i < 8 → AreSet (set powers i (power_at given i)) given (i + 1)
set-more powers given i h small = record {
  eight = simp length-set h.eight;
  below =
      below_more _ _
      (λ k lt. let ne : k ≢ i = omega arith in rw get_or-set_other (h.below k lt))
      (let lt : i < length powers = let e = h.eight in omega (arith, e, small) in rw get_or-set_same);
  above = λ k le. let ne : k ≢ i = omega (arith, le) in rw get_or-set_other (h.above k (omega (arith, le)));
}

-- the power as the code casts it
pub cast-power : (z : ℤ) → nat_abs z ≤ 255 → nat_abs (to_z w64 (of_z w64 z)) ≡ nat_abs z
cast-power z h = ap nat_abs (let e : to_z w64 (of_z w64 z) ≡ z = omega (arith, ints, h) in e)

pub set-all : (powers : List ℕ) (given : List ℤ) (i : ℕ) → AreSet powers given i → length given ≤ i → (k : ℕ) → get_or powers k 0 ≡ power_at given k
set-all powers given i h low k = cases (cases_lt k i)
  where
    cases : (k < i) ⊎ (i ≤ k) → get_or powers k 0 ≡ power_at given k
    cases (inl lt) = h.below k lt
    cases (inr le) = h.above k le ∙ ap nat_abs (sym (get_or_past given k (pos 0) (omega (arith, low, le))))

-- ---- the degree

pub sum-same : (n : ℕ) (ps : List ℕ) (gs : List ℤ) → length ps ≡ n → length gs ≤ n → ((i : ℕ) → i < n → get_or ps i 0 ≡ power_at gs i) → sum ps ≡ sum (map nat_abs gs)
sum-same n [] [] e le h = refl
sum-same n [] (g ∷ gs) e le h = absurd (omega (arith, e, le))
sum-same zero (p ∷ ps) gs e le h = absurd (omega (arith, e))
sum-same (suc n) (p ∷ ps) [] e le h =
    let first : p ≡ 0 = h 0 (omega arith) in
    let rest : sum ps ≡ 0 = sum-same n ps [] (omega (arith, e)) (omega arith) (λ i lt. h (suc i) (omega (arith, lt))) in
    sum_by-cons (λ x. x) p ps ∙ ap (λ x. x + sum ps) first ∙ zero-add (sum ps) ∙ rest
sum-same (suc n) (p ∷ ps) (g ∷ gs) e le h =
    let first : p ≡ nat_abs g = h 0 (omega arith) in
    let rest : sum ps ≡ sum (map nat_abs gs) = sum-same n ps gs (omega (arith, e)) (omega (arith, le)) (λ i lt. h (suc i) (omega (arith, lt))) in
    sum_by-cons (λ x. x) p ps ∙ ap (λ x. x + sum ps) first ∙ ap (λ x. nat_abs g + x) rest ∙ sym (sum_by-cons (λ x. x) (nat_abs g) (map nat_abs gs))
