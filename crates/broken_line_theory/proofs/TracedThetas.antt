-- What a theta is as a sum over traced tails: each bend weighs something, so a light tail has light bends.
use Rattle.std.proofs.Common.{◌≡◌, ◌≢◌, ℕ, zero, suc, refl, ◌∙◌, ◌+◌, ◌*◌, ◌≤◌, arith, Bool, true, false, cond, [], ◌∷◌, List, map}
use Rattle.std.specs.Prelude.{ℤ, pos, ◌+ℤ◌, nat_abs, nat_le}
use Rattle.std.specs.Bool.{MatchBool}
use Rattle.std.proofs.lemmas.Int.{ints}
use Rattle.scattering.specs.Series.{Exp, Key, Sum, Same, origin, exp_eq, exp_sub, key_eq, one, coef, degree, mass_to}
use Rattle.scattering.specs.Collections.{Lists}
use Rattle.scattering.specs.Plane.{Point}
use Rattle.scattering.specs.Wall.{Wall, cut_walls}
use Rattle.scattering.specs.BrokenLine.{Bend, IsBrokenLine, bend_majorant, value}
use Rattle.scattering.specs.Tail.{IsTraced, tail_weight}
use Rattle.scattering.specs.Theta.{IsTheta}
use Rattle.scattering.proofs.Keys.{key_eq-same}
use Rattle.broken_line_theory.proofs.TracedBends.{traced-used}
use Rattle.plane_theory.proofs.WholeNumbers.{nat-positive}

-- ---- a key's coefficient counts in the mass

abbrev part : Bool → ℤ → ℕ
part b c = elim b [ true ↦ nat_abs c | false ↦ 0 ]

no-mass : (n : ℕ) (f : Sum) (k : Key) → degree k ≤ n → mass_to n f ≡ 0 → coef f k ≡ pos 0
no-mass n [] k l e = refl
no-mass n (t ∷ f) k l e = go (nat_le (degree t.0) n) refl (key_eq t.0 k) refl e (no-mass n f k l)
  where
    high : (d : ℕ) → d ≤ n → nat_le d n ≡ false → ⊥
    high d h q = grind arith

    go : (b : Bool) → nat_le (degree t.0) n ≡ b → (c : Bool) → key_eq t.0 k ≡ c → part b t.1 + mass_to n f ≡ 0 → (mass_to n f ≡ 0 → coef f k ≡ pos 0) → cond c t.1 (pos 0) +ℤ coef f k ≡ pos 0
    go b p false q z h = let r = h (omega (arith, z)) in omega (arith, ints, r)
    go true p true q z h = let r = h (omega (arith, z)) in omega (arith, ints, r, z)
    go false p true q z h = absurd (high (degree t.0) (rw (key_eq-same t.0 k q) l) p)

some-mass : (n : ℕ) (f : Sum) (k : Key) → degree k ≤ n → coef f k ≢ pos 0 → 1 ≤ mass_to n f
some-mass n f k l h = go (mass_to n f) refl
  where
    go : (m : ℕ) → mass_to n f ≡ m → 1 ≤ mass_to n f
    go zero e = absurd (h (no-mass n f k l e))
    go (suc m) e = omega (arith, e)

-- ---- weights of bends and tails

first-below : (a b l : ℕ) → 1 ≤ b → a * b ≤ l → a ≤ l
first-below a b l h k = grind arith

second-below : (a b l : ℕ) → 1 ≤ a → a * b ≤ l → b ≤ l
second-below a b l h k = grind arith

module _ (ws : List Wall) (n : ℕ) (m : Exp) where
  -- the weight of one bend
  abbrev mass_of : Exp → Bend → ℕ
  mass_of x c = mass_to (degree c.key) (bend_majorant n (cut_walls n ws) c.at x)

  bend-weighs : (p : Point) (x : Exp) (used : ℕ) (c : Bend) (cs : List Bend) → IsTraced ws n m p x used (c ∷ cs) → 1 ≤ mass_of x c
  bend-weighs p x used c cs h = some-mass (degree c.key) (bend_majorant n (cut_walls n ws) c.at x) c.key (own (degree c.key)) h.1.bend.key
    where
      own : (d : ℕ) → d ≤ d
      own d = omega arith

  tail-weighs : (p : Point) (x : Exp) (used : ℕ) (cs : List Bend) → IsTraced ws n m p x used cs → 1 ≤ tail_weight ws n x cs
  tail-weighs p x used [] h = omega arith
  tail-weighs p x used (c ∷ cs) h =
      nat-positive (mass_of x c) (tail_weight ws n (exp_sub x c.key.exp) cs) (bend-weighs p x used c cs h)
      (tail-weighs c.at (exp_sub x c.key.exp) (used + degree c.key) cs h.2)

  -- a light tail has a light first bend, and goes on light
  pub light-bend : (p : Point) (x : Exp) (used l : ℕ) (c : Bend) (cs : List Bend) → IsTraced ws n m p x used (c ∷ cs) → tail_weight ws n x (c ∷ cs) ≤ l
      → (mass_of x c ≤ l) × (tail_weight ws n (exp_sub x c.key.exp) cs ≤ l)
  light-bend p x used l c cs h k =
      let w = tail-weighs c.at (exp_sub x c.key.exp) (used + degree c.key) cs h.2 in
      let v = bend-weighs p x used c cs h in
      (first-below (mass_of x c) (tail_weight ws n (exp_sub x c.key.exp) cs) l w k, second-below (mass_of x c) (tail_weight ws n (exp_sub x c.key.exp) cs) l v k)

  -- no bend uses more than the limit
  pub bend-low : (p : Point) (x : Exp) (used : ℕ) (c : Bend) (cs : List Bend) → IsTraced ws n m p x used (c ∷ cs) → degree c.key ≤ n
  bend-low p x used c cs h = let u = traced-used ws n m p x used (c ∷ cs) h in omega (arith, u)

-- ---- sums with the same coefficients are thetas alike

pub theta-same : (ws : List Wall) (n : ℕ) (m : Exp) (q : Point) (s g : Sum) → Same s g → IsTheta ws n m q g → IsTheta ws n m q s
theta-same ws n m q s g e h = go (exp_eq m origin) h
  where
    go : (b : Bool)
        → MatchBool b (Same g one) ((lines : List (List Bend)) × Lists (IsBrokenLine ws n m q) lines × Same g (map (value ws n m) lines))
        → MatchBool b (Same s one) ((lines : List (List Bend)) × Lists (IsBrokenLine ws n m q) lines × Same s (map (value ws n m) lines))
    go true i = λ k. e k ∙ i k
    go false i = (i.0, i.1, λ k. e k ∙ i.2 k)
