-- Broken lines, forwards: from infinity to the point where they end.
--     Bend, IsBend              a point and a key; a bend that the walls on the point allow
--     IsBrokenLine ws n m q     a list of bends is a broken line with the first exponent m that ends at q, among ws cut to degree n
--     value ws n m bends        its final monomial, with its coefficient
use Rattle.std.specs.Prelude.{◌≢◌, ℕ, ◌+◌, ◌≤◌, ◌&&◌, IsFalse, List, [], ◌∷◌, map, filter, ℤ, pos, ◌*ℤ◌, nat_abs, neg_ℤ, Option, Some, None}
use Rattle.scattering.specs.Series.{Exp, Powers, Key, Term, Sum, origin, exp_add, scale, det, degree, powers_add, no_powers, coef, one, mul, pow, absolute}
use Rattle.scattering.specs.Plane.{Point, IsPoint, FromOn, Beyond}
use Rattle.scattering.specs.Wall.{Wall, is_on, is_live, cut_walls}
use Rattle.scattering.specs.ActivePoint.{is_special}

abbrev pub live_on : List Wall → Point → List Wall
live_on ws p = filter (λ w. is_live w && is_on w p) ws

abbrev pub product : ℕ → List Sum → Sum
product n [] = one
product n (f ∷ fs) = mul n f (product n fs)

-- |det(m0, e)| for the walls at hand, which are parallel
abbrev pub across : List Wall → Exp → ℕ
across [] e = 0
across (w ∷ ws) e = nat_abs (det w.dir e)

-- F^n and |F|^n, for the product F of the functions of the live walls on p
abbrev pub bend_series : ℕ → List Wall → Point → Exp → Sum
bend_series n ws p x = pow n (product n (map (λ w. w.function) (live_on ws p))) (across (live_on ws p) x)

abbrev pub bend_majorant : ℕ → List Wall → Point → Exp → Sum
bend_majorant n ws p x = pow n (product n (map (λ w. absolute w.function) (live_on ws p))) (across (live_on ws p) x)

-- by a key of |F|^n of degree at least 1
pub record Bend : Type 0 where
  pub at : Point
  pub key : Key

pub record IsBend (n : ℕ) (ws : List Wall) (x : Exp) (b : Bend) : Type 0 where
  pub point : IsPoint b.at
  pub degree : 1 ≤ degree b.key
  pub key : coef (bend_majorant n ws b.at x) b.key ≢ pos 0

-- the line comes from a point, or from infinity, with the exponent x, along -x, and ends a stretch at a point
abbrev pub Reaches : Option Point → Exp → Point → Type 0
Reaches None x p = Unit {0}
Reaches (Some o) x p = Beyond o (scale (neg_ℤ (pos 1)) x) p

abbrev pub IsWithin : Option Point → Exp → Point → Type 0
IsWithin None x q = Unit {0}
IsWithin (Some o) x q = FromOn q x o

pub record IsStretch (ws : List Wall) (from : Option Point) (x : Exp) (p : Point) : Type 0 where
  pub moves : x ≢ origin
  pub reaches : Reaches from x p
  pub clear : (q : Point) → IsPoint q → FromOn p x q → IsWithin from x q → IsFalse (is_special ws q)

-- the stretches from there to q
abbrev pub Travels : ℕ → List Wall → Option Point → Exp → List Bend → Point → Type 0
Travels n ws from x [] q = IsStretch ws from x q
Travels n ws from x (b ∷ bs) q = IsStretch ws from x b.at × IsBend n ws x b × Travels n ws (Some b.at) (exp_add x b.key.exp) bs q

abbrev pub degrees : List Bend → ℕ
degrees [] = 0
degrees (b ∷ bs) = degree b.key + degrees bs

-- a broken line among the walls, cut to degree n, with the first exponent m, that ends at q
pub record IsBrokenLine (ws : List Wall) (n : ℕ) (m : Exp) (q : Point) (bends : List Bend) : Type 0 where
  pub travels : Travels n (cut_walls n ws) None m bends q
  pub degrees : degrees bends ≤ n

-- the final monomial, with the product of the coefficients of F^n
abbrev pub final : ℕ → List Wall → Exp → Powers → ℤ → List Bend → Term
final n ws x p c [] = (record { powers = p; exp = x }, c)
final n ws x p c (b ∷ bs) = final n ws (exp_add x b.key.exp) (powers_add p b.key.powers) (c *ℤ coef (bend_series n ws b.at x) b.key) bs

abbrev pub value : List Wall → ℕ → Exp → List Bend → Term
value ws n m bends = final n (cut_walls n ws) m no_powers (pos 1) bends
