-- The values of bends and tails are at most their weights.
use Rattle.std.proofs.Common.{◌≡◌, ℕ, sym, subst, ◌+◌, ◌*◌, ◌≤◌, arith, List, [], ◌∷◌, map}
use Rattle.std.specs.Prelude.{ℤ, ◌*ℤ◌, nat_abs}
use Rattle.scattering.specs.Series.{Exp, Key, exp_sub, coef, absolute, degree, one, mass_to}
use Rattle.scattering.specs.Plane.{Point}
use Rattle.scattering.specs.Wall.{Wall, cut_walls}
use Rattle.scattering.specs.BrokenLine.{Bend, live_on, product, across, bend_series, bend_majorant}
use Rattle.scattering.specs.Tail.{IsTraced, tail_weight}
use Rattle.weight_theory.specs.Laws.{IsBelow}
use Rattle.weight_theory.proofs.Readings.{Bounds, from_Bounds}
use Rattle.weight_theory.proofs.Bounds.{bounds-absolute, bounds-mul, bounds-pow, bounds-itself, one-nonnegative}
use Rattle.weight_theory.proofs.Masses.{coefficient-is-below}
use Rattle.broken_line_theory.specs.TailValue.{tail_value}
use Rattle.broken_line_theory.proofs.TracedBends.{traced-used}

-- the product of functions is below that of their absolute values
product-below : (n : ℕ) (us : List Wall) → Bounds n (product n (map (λ w. w.function) us)) (product n (map (λ w. absolute w.function) us))
product-below n [] = bounds-itself n one (one-nonnegative n)
product-below n (u ∷ us) =
    bounds-mul n u.function (absolute u.function) (product n (map (λ w. w.function) us)) (product n (map (λ w. absolute w.function) us)) (bounds-absolute n u.function) (product-below n us)

bend-below : (n : ℕ) (ws : List Wall) (p : Point) (x : Exp) → IsBelow n (bend_series n ws p x) (bend_majorant n ws p x)
bend-below n ws p x = from_Bounds n (bend_series n ws p x) (bend_majorant n ws p x) (bounds-pow n _ _ (across (live_on ws p) x) (product-below n (live_on ws p)))

-- the coefficient of F^n at a key is at most the mass of |F|^n to its degree
pub value-light : (n : ℕ) (ws : List Wall) (p : Point) (x : Exp) (k : Key) → degree k ≤ n → nat_abs (coef (bend_series n ws p x) k) ≤ mass_to (degree k) (bend_majorant n ws p x)
value-light n ws p x k l =
    coefficient-is-below (degree k) (bend_series n ws p x) (bend_majorant n ws p x) k (below k)
    (λ y h. bend-below n ws p x y (omega (arith, h, l)))
  where
    below : (k : Key) → degree k ≤ degree k
    below k = omega arith

pub abs-mul : (x y : ℤ) → nat_abs (x *ℤ y) ≡ nat_abs x * nat_abs y
abs-mul x y = grind arith

-- so the value of a tail is at most its weight
pub tail-light : (ws : List Wall) (n : ℕ) (m : Exp) (p : Point) (x : Exp) (used : ℕ) (cs : List Bend) → IsTraced ws n m p x used cs → nat_abs (tail_value ws n x cs).1 ≤ tail_weight ws n x cs
tail-light ws n m p x used [] h = omega arith
tail-light ws n m p x used (c ∷ cs) h =
    let u = traced-used ws n m p x used (c ∷ cs) h in
    let d : degree c.key ≤ n = omega (arith, u) in
    subst (λ k. k ≤ mass_to (degree c.key) (bend_majorant n (cut_walls n ws) c.at x) * tail_weight ws n (exp_sub x c.key.exp) cs)
    (sym (abs-mul (coef (bend_series n (cut_walls n ws) c.at x) c.key) (tail_value ws n (exp_sub x c.key.exp) cs).1))
    (most (value-light n (cut_walls n ws) c.at x c.key d) (tail-light ws n m c.at (exp_sub x c.key.exp) (used + degree c.key) cs h.2))
  where
    most : {i j k l : ℕ} → i ≤ k → j ≤ l → i * j ≤ k * l
    most h g = grind arith
