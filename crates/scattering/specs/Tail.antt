-- Reach, and the tails that are traced backwards from a point.
--     IsReach ws b d n          the least total degree of terms whose exponents sum to d is n
--     IsTail ws b m q t         t is a tail for m at q, within the limit b
--     IsComplete m t            its last exponent is m;  backwards turns a broken line into such a tail
--     tail_weight, tail_before  its weight; the order of tails
use Rattle.std.specs.Prelude.{Bool, true, false, ◌&&◌, ◌||◌, ◌≡◌, ◌≢◌, ℕ, ◌+◌, ◌*◌, ◌≤◌, IsFalse, List, [], ◌∷◌, reverse}
use Rattle.scattering.specs.Collections.{In, Every}
use Rattle.scattering.specs.Series.{exp_eq, exp_before, key_eq, key_before, Exp, Term, origin, exp_add, exp_sub, degree, rest, mass_to}
use Rattle.scattering.specs.Plane.{point_eq, point_before, Point, IsNear, Beyond}
use Rattle.scattering.specs.Wall.{Wall, cut_walls}
use Rattle.scattering.specs.ActivePoint.{is_special}
use Rattle.scattering.specs.BrokenLine.{Bend, IsBend, bend_majorant}

abbrev pub exp_sum : List Term → Exp
exp_sum [] = origin
exp_sum (t ∷ ts) = exp_add t.0.exp (exp_sum ts)

abbrev pub degree_sum : List Term → ℕ
degree_sum [] = 0
degree_sum (t ∷ ts) = degree t.0 + degree_sum ts

-- a term other than 1 of some wall's function
abbrev pub IsWallTerm : List Wall → Term → Type 0
IsWallTerm ws t = (w : Wall) × In w ws × In t (rest w.function)

-- d is a sum of exponents of such terms, whose degrees sum to n
abbrev pub IsReachedBy : List Wall → Exp → ℕ → Type 0
IsReachedBy ws d n = (ts : List Term) × Every (IsWallTerm ws) ts × (exp_sum ts ≡ d) × (degree_sum ts ≡ n)

-- the reach of d, read of the functions cut to degree b, is n;  is at most n
pub record IsReach (ws : List Wall) (b : ℕ) (d : Exp) (n : ℕ) : Type 0 where
  pub reached : IsReachedBy (cut_walls b ws) d n
  pub least : (i : ℕ) → IsReachedBy (cut_walls b ws) d i → n ≤ i

abbrev pub ReachTo : List Wall → ℕ → Exp → ℕ → Type 0
ReachTo ws b d n = (i : ℕ) × (i ≤ n) × IsReachedBy (cut_walls b ws) d i

-- m is in reach of the exponent x within what is left of b
abbrev pub IsInReach : List Wall → ℕ → Exp → Exp → ℕ → Type 0
IsInReach ws b m x used = (n : ℕ) × (used + n ≤ b) × IsReachedBy (cut_walls b ws) (exp_sub x m) n

-- one more bend at a near point of the stretch from p backwards, that isn't special
pub record Extends (ws : List Wall) (b : ℕ) (p : Point) (x : Exp) (c : Bend) : Type 0 where
  pub ahead : Beyond p x c.at
  pub near : IsNear c.at
  pub plain : IsFalse (is_special (cut_walls b ws) c.at)
  pub bend : IsBend b (cut_walls b ws) x c

-- bends backwards from p, where `used` is the degree that was used before
abbrev pub IsTraced : List Wall → ℕ → Exp → Point → Exp → ℕ → List Bend → Type 0
IsTraced ws b m p x used [] = IsInReach ws b m x used
IsTraced ws b m p x used (c ∷ cs) = IsInReach ws b m x used × Extends ws b p x c × IsTraced ws b m c.at (exp_sub x c.key.exp) (used + degree c.key) cs

pub record Tail : Type 0 where
  pub root : Exp
  pub bends : List Bend

-- a tail for m at q: from q backwards
pub record IsTail (ws : List Wall) (b : ℕ) (m : Exp) (q : Point) (t : Tail) : Type 0 where
  pub moves : t.root ≢ origin
  pub traced : IsTraced ws b m q t.root 0 t.bends

-- the exponent and the point from which a tail goes on
abbrev pub last : Exp → List Bend → Exp
last x [] = x
last x (c ∷ cs) = last (exp_sub x c.key.exp) cs

abbrev pub last_point : Point → List Bend → Point
last_point p [] = p
last_point p (c ∷ cs) = last_point c.at cs

abbrev pub IsComplete : Exp → Tail → Type 0
IsComplete m t = last t.root t.bends ≡ m

abbrev pub is_complete : Exp → Tail → Bool
is_complete m t = exp_eq (last t.root t.bends) m

-- ---- the order of tails: by root, then by bends, where a list is before those that it begins

abbrev pub bend_before : Bend → Bend → Bool
bend_before b c = point_before b.at c.at || (point_eq b.at c.at && key_before b.key c.key)

abbrev pub bend_eq : Bend → Bend → Bool
bend_eq b c = point_eq b.at c.at && key_eq b.key c.key

abbrev pub bends_before : List Bend → List Bend → Bool
bends_before bs [] = false
bends_before [] (c ∷ cs) = true
bends_before (b ∷ bs) (c ∷ cs) = bend_before b c || (bend_eq b c && bends_before bs cs)

abbrev pub tail_before : Tail → Tail → Bool
tail_before s t = exp_before s.root t.root || (exp_eq s.root t.root && bends_before s.bends t.bends)

-- a broken line read backwards: its last exponent is the root
abbrev pub end_exp : Exp → List Bend → Exp
end_exp x [] = x
end_exp x (b ∷ bs) = end_exp (exp_add x b.key.exp) bs

abbrev pub backwards : Exp → List Bend → Tail
backwards m bends = record { root = end_exp m bends; bends = reverse bends }

-- the product over the bends of the coefficients of |F|^n up to the key's degree
abbrev pub tail_weight : List Wall → ℕ → Exp → List Bend → ℕ
tail_weight ws b x [] = 1
tail_weight ws b x (c ∷ cs) = mass_to (degree c.key) (bend_majorant b (cut_walls b ws) c.at x) * tail_weight ws b (exp_sub x c.key.exp) cs
