-- Bends: their keys are sums of terms of walls, and they change nothing across the wall.
use Rattle.std.proofs.Common.{◌≡◌, ◌≢◌, ℕ, refl, sym, ap, ◌∙◌, ◌+◌, ◌≤◌, inl, inr, arith, List, [], ◌∷◌, ◌++◌, map}
use Rattle.std.specs.Prelude.{pos, not, ◌&&◌, nat_le}
use Rattle.std.proofs.lemmas.Int.{ints}
use Rattle.scattering.specs.Collections.{In, Every}
use Rattle.scattering.specs.Series.{Exp, Key, Term, origin, exp_add, degree, unit, key_eq, coef, cut, absolute, rest, IsMultiple}
use Rattle.scattering.specs.Plane.{Point}
use Rattle.scattering.specs.Wall.{Wall, IsWall, is_on, is_live, cut_wall, cut_walls}
use Rattle.scattering.specs.BrokenLine.{live_on, across, bend_majorant}
use Rattle.scattering.specs.Tail.{exp_sum, degree_sum, IsWallTerm, IsReachedBy}
use Rattle.scattering.proofs.Lists.{Every-append, filter-keeps, Every-from_In, Every-at, filter-from}
use Rattle.scattering.proofs.Keys.{same-exp}
use Rattle.broken_line_theory.proofs.Terms.{IsKept, AllKeys, all-pow, all-product, all-absolute, all-rest, all-coef}

-- ---- sums of terms of walls
pub exp-origin : (u : Exp) → exp_add u origin ≡ u
exp-origin u = same-exp _ _ (omega (arith, ints)) (omega (arith, ints))

exp-assoc : (u v w : Exp) → exp_add (exp_add u v) w ≡ exp_add u (exp_add v w)
exp-assoc u v w = same-exp _ _ (omega (arith, ints)) (omega (arith, ints))

origin-exp : (u : Exp) → exp_add origin u ≡ u
origin-exp u = same-exp _ _ (omega (arith, ints)) (omega (arith, ints))

exp_sum-append : (ts us : List Term) → exp_sum (ts ++ us) ≡ exp_add (exp_sum ts) (exp_sum us)
exp_sum-append [] us = sym (origin-exp (exp_sum us))
exp_sum-append (t ∷ ts) us = ap (exp_add t.0.exp) (exp_sum-append ts us) ∙ sym (exp-assoc t.0.exp (exp_sum ts) (exp_sum us))

degree_sum-append : (ts us : List Term) → degree_sum (ts ++ us) ≡ degree_sum ts + degree_sum us
degree_sum-append [] us = omega arith
degree_sum-append (t ∷ ts) us = let h = degree_sum-append ts us in omega (arith, h)

pub reached-none : (ws : List Wall) → IsReachedBy ws origin 0
reached-none ws = ([], tt, refl, refl)

pub reached-add : (ws : List Wall) (d e : Exp) (i j : ℕ) → IsReachedBy ws d i → IsReachedBy ws e j → IsReachedBy ws (exp_add d e) (i + j)
reached-add ws d e i j h k =
    (h.0 ++ k.0, Every-append (IsWallTerm ws) h.0 k.0 h.1 k.1, exp_sum-append h.0 k.0 ∙ rw (h.2, k.2), degree_sum-append h.0 k.0 ∙ rw (h.3, k.3))

-- the key is such a sum, of its degree
abbrev pub IsFromTerms : List Wall → Key → Type 0
IsFromTerms ws k = IsReachedBy ws k.exp (degree k)

from-kept : (ws : List Wall) → IsKept (IsFromTerms ws)
from-kept ws = record {
  unit = reached-none ws;
  mul = λ k l h i. let r = reached-add ws k.exp l.exp (degree k) (degree l) h i in (r.0, r.1, r.2, r.3 ∙ omega arith);
}

from-wall : (ws : List Wall) (w : Wall) → In w ws → AllKeys (IsFromTerms ws) (from-kept ws) w.function
from-wall ws w h = all-rest (IsFromTerms ws) (from-kept ws) w.function (Every-from_In (λ t. IsFromTerms ws t.0) (rest w.function) (λ t k. (t ∷ [], ((w, h, k), tt), exp-origin t.0.exp, omega arith)))

-- of each wall of a list
from-walls : (ws vs : List Wall) → ((v : Wall) → In v vs → In v ws) → Every (AllKeys (IsFromTerms ws) (from-kept ws)) (map (λ w. absolute w.function) vs)
from-walls ws [] h = tt
from-walls ws (v ∷ vs) h = (all-absolute (IsFromTerms ws) (from-kept ws) v.function (from-wall ws v (h v (inl refl))), from-walls ws vs (λ u k. h u (inr k)))

-- a key of |F|^n is a sum of wall terms whose degrees sum to its degree
pub bend-reached : (n : ℕ) (ws : List Wall) (p : Point) (x : Exp) (k : Key) → coef (bend_majorant n ws p x) k ≢ pos 0 → IsReachedBy ws k.exp (degree k)
bend-reached n ws p x k h =
    all-coef (IsFromTerms ws) (from-kept ws) (bend_majorant n ws p x) k
    (all-pow (IsFromTerms ws) (from-kept ws) n _ (across (live_on ws p) x)
    (all-product (IsFromTerms ws) (from-kept ws) n _ (from-walls ws (live_on ws p) (λ v i. (filter-from (λ w. is_live w && is_on w p) ws v i).0)))) h

-- ---- walls whose terms lie along them
abbrev pub IsTame : Wall → Type 0
IsTame w = Every (λ t. (1 ≤ degree t.0) × IsMultiple w.dir t.0.exp) (rest w.function)

cut-tame : (n k : ℕ) (w : Wall) → IsWall k w → IsTame (cut_wall n w)
cut-tame n k w h =
    Every-from_In (λ t. (1 ≤ degree t.0) × IsMultiple w.dir t.0.exp) (rest (cut n w.function))
    (λ t i. let a = filter-from (λ t. not (key_eq t.0 unit)) (cut n w.function) t i in
    let b = filter-from (λ t. nat_le (degree t.0) n) w.function t a.0 in
    Every-at (λ t. (1 ≤ degree t.0) × IsMultiple w.dir t.0.exp) (rest w.function) t h.function.others (filter-keeps (λ t. not (key_eq t.0 unit)) w.function t b.0 a.1))

pub cut-walls-tame : (n k : ℕ) (ws : List Wall) → Every (IsWall k) ws → Every IsTame (cut_walls n ws)
cut-walls-tame n k [] h = tt
cut-walls-tame n k (w ∷ ws) h = (cut-tame n k w h.0, cut-walls-tame n k ws h.1)

-- ---- tests of lists
