-- Rays from one point that have given terms.
--     HasTerms n p f ws        the rays ws start at p and have the terms of f
use Rattle.std.proofs.Common.{◌≡◌, ◌≢◌, ℕ, refl, sym, subst, ap, ◌∙◌, Bool, true, false, cond, List, [], ◌∷◌, arith}
use Rattle.std.specs.Prelude.{ℤ, pos, ◌&&◌, IsTrue}
use Rattle.scattering.specs.Collections.{In, Every}
use Rattle.scattering.specs.Series.{Exp, Key, Term, Sum, coef, rest, key_eq, exp_eq, IsMultiple}
use Rattle.scattering.specs.Plane.{Point, IsDirection, point_eq}
use Rattle.scattering.specs.Wall.{Wall, IsWall, is_live}
use Rattle.scattering.specs.Completion.{IsReduced}
use Rattle.scattering.specs.Correction.{ray_coef}
use Rattle.scattering.proofs.Lists.{Every-at, Every-from_In, Every-implies}
use Rattle.scattering.proofs.Keys.{key_eq-same, exp_eq-refl, point_eq-same}
use Rattle.scattering.proofs.Coefficients.{coef-none}
use Rattle.scattering.proofs.Determined.{coef-find}
use Rattle.plane_theory.proofs.Directions.{same-direction}
use Rattle.correction_theory.proofs.RayCoefficients.{ray_coef-own}
use Rattle.correction_theory.proofs.ReducedRays.{live-term, rest-own, rest-nonzero, rest-term}
use Rattle.trunc_series.proofs.Coefficients.{add-zero}
use Rattle.scatter_diagram.specs.declared.wall.Wall.{Wall as CodeWall}
use Rattle.scatter_diagram.specs.Shown.{walls_of}
use Rattle.scatter_diagram.specs.Listed.{AreRays}
use Rattle.scatter_diagram.proofs.Walls.{are-walls}
use Rattle.ray_merge.specs.Rays.{mass_along, IsRayOf, AreLoads}
use Rattle.ray_merge.proofs.Along.{mass_along-all}

-- what rays have at places and positive multiples of their directions
abbrev pub CountsTerms : Point → Sum → List Wall → Type 0
CountsTerms p f ws = (q : Point) (d : Exp) (k : Key) → IsDirection d → IsMultiple d k.exp → ray_coef ws q d k ≡ cond (point_eq p q) (coef f k) (pos 0)

pub record HasTerms (n : ℕ) (p : Point) (f : Sum) (ws : List Wall) : Type 0 where
  pub walls : Every (IsWall n) ws
  pub reduced : IsReduced ws
  pub terms : CountsTerms p f ws
  pub loads : AreLoads n (mass_along n f) ws

module _ (n : ℕ) (p : Point) (f : Sum) (ws : List Wall) (h : HasTerms n p f ws) (r : Wall) (i : In r ws) where
  is-wall : IsWall n r
  is-wall = Every-at (IsWall n) ws r h.walls i

  -- a term of a ray is one at p, and one of f
  own : (t : Term) → In t (rest r.function) → cond (point_eq p r.at) (coef f t.0) (pos 0) ≢ pos 0
  own t j z =
      rest-nonzero n r is-wall t j
      (sym (rest-own n r is-wall t j) ∙ sym (ray_coef-own ws h.reduced.rises r i t.0) ∙ h.terms r.at r.dir t.0 is-wall.direction (rest-term n r is-wall t j).1 ∙ z)

  pub key-in : (t : Term) → In t (rest r.function) → (u : Term) × In u f × (u.0 ≡ t.0)
  key-in t j = coef-find f t.0 (λ z. own t j (both (point_eq p r.at) (coef f t.0) z))
    where
      both : (b : Bool) (c : ℤ) → c ≡ pos 0 → cond b c (pos 0) ≡ pos 0
      both true c z = z
      both false c z = refl

  pub starts-at : r.at ≡ p
  starts-at = let t = live-term r (Every-at (λ r. IsTrue (is_live r)) ws r h.reduced.live i) in go (point_eq p r.at) refl (coef f t.0.0) (own t.0 t.1)
    where
      go : (b : Bool) → point_eq p r.at ≡ b → (c : ℤ) → cond (point_eq p r.at) c (pos 0) ≢ pos 0 → r.at ≡ p
      go true e c m = sym (point_eq-same p r.at e)
      go false e c m = absurd (m (rw e refl))

-- what each key of f has, the terms of the rays have
pub of-keys : (P : Key → Type 0) (n : ℕ) (p : Point) (f : Sum) (ws : List Wall) → HasTerms n p f ws → Every (λ t. P t.0) f → Every (λ w. Every (λ t. P t.0) (rest w.function)) ws
of-keys P n p f ws h a =
    Every-from_In _ ws (λ r i. Every-from_In _ (rest r.function) (λ t j. let u = key-in n p f ws h r i t j in subst P u.2 (Every-at (λ (u : Term). P u.0) f u.0 a u.1)))

pub all-start : (n : ℕ) (p : Point) (f : Sum) (ws : List Wall) → HasTerms n p f ws → Every (λ w. w.at ≡ p) ws
all-start n p f ws h = Every-from_In _ ws (λ r i. starts-at n p f ws h r i)

-- ---- one ray

pub one-ray : (n : ℕ) (p : Point) (f : Sum) (w : Wall) → IsWall n w → IsRayOf n p f w → HasTerms n p f (w ∷ [])
one-ray n p f w iw h = record {
  walls = (iw, tt);
  reduced = record { live = (h.live, tt); rises = (tt, tt) };
  terms = λ q d k id mk. add-zero (cond (point_eq w.at q && exp_eq w.dir d) (coef (rest w.function) k) (pos 0)) ∙ counted q d k id mk;
  loads = (let e = mass_along-all n f w.dir iw.direction h.dir in let l = h.load in omega (arith, e, l), tt);
}
  where
    self : (x y : Exp) → x ≡ y → exp_eq x y ≡ true
    self x y e = subst (λ (z : Exp). exp_eq x z ≡ true) e (exp_eq-refl x)

    -- no key along another direction is one of f
    other : (d : Exp) (k : Key) → IsDirection d → IsMultiple d k.exp → exp_eq w.dir d ≡ false → (u : Term) → IsMultiple w.dir u.0.exp → key_eq u.0 k ≡ false
    other d k id mk e u mu = go (key_eq u.0 k) refl
      where
        go : (b : Bool) → key_eq u.0 k ≡ b → key_eq u.0 k ≡ false
        go true q =
            let same : w.dir ≡ d = same-direction w.dir d iw.direction id mu.0 mk.0 mu.1 mk.1 (sym mu.2 ∙ ap (λ (x : Key). x.exp) (key_eq-same u.0 k q) ∙ mk.2) in
            let y : exp_eq w.dir d ≡ true = self w.dir d same in absurd (cc)
        go false q = q

    counted : (q : Point) (d : Exp) (k : Key) → IsDirection d → IsMultiple d k.exp → cond (point_eq w.at q && exp_eq w.dir d) (coef (rest w.function) k) (pos 0) ≡ cond (point_eq p q) (coef f k) (pos 0)
    counted q d k id mk = ap (λ (x : Point). cond (point_eq x q && exp_eq w.dir d) (coef (rest w.function) k) (pos 0)) h.at ∙ go (point_eq p q) (exp_eq w.dir d) refl
      where
        go : (a b : Bool) → exp_eq w.dir d ≡ b → cond (a && b) (coef (rest w.function) k) (pos 0) ≡ cond a (coef f k) (pos 0)
        go false b e = refl
        go true true e = h.terms k
        go true false e = sym (coef-none f k (Every-implies (λ (u : Term). IsMultiple w.dir u.0.exp) (λ u. key_eq u.0 k ≡ false) f (λ u m. other d k id mk e u m) h.dir))

-- ---- the program's lists

pub has-terms : (n : ℕ) (p : Point) (f : Sum) (ws : List CodeWall) → AreRays n ws → CountsTerms p f (walls_of ws) → AreLoads n (mass_along n f) (walls_of ws) → HasTerms n p f (walls_of ws)
has-terms n p f ws r t l = record { walls = are-walls n ws r.order; reduced = r.reduced; terms = t; loads = l }
