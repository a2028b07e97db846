-- Where no wall has a term of low degree, no bend is of low degree.
use Rattle.std.proofs.Common.{◌≡◌, ℕ, ◌+◌, ◌<◌, ◌≤◌, length, get_or, take, refl, sym, ap, subst, ◌∙◌, Bool, true, false, List, [], ◌∷◌, map, ◌⊎◌, inl, inr, arith}
use Rattle.std.specs.Prelude.{not, nat_le, nat_lt, IsTrue}
use Rattle.scattering.specs.Collections.{In, Every}
use Rattle.scattering.specs.Series.{Exp, Term, Sum, degree, coef, pow, absolute, rest}
use Rattle.scattering.specs.Plane.{Point}
use Rattle.scattering.specs.Wall.{Wall, is_live, has_term_to}
use Rattle.scattering.specs.ActivePoint.{begins_at}
use Rattle.scattering.specs.BrokenLine.{Bend, live_on, product, across, bend_majorant}
use Rattle.scattering.specs.Tail.{IsWallTerm, IsReachedBy, degree_sum}
use Rattle.scattering.proofs.Lists.{and-right, any-none, any-true}
use Rattle.broken_line_theory.proofs.Bends.{bend-reached}
use Rattle.scatter_diagram.specs.Shown.{wall_of, walls_of}
use Rattle.scatter_diagram.specs.declared.wall.Wall.{Wall as CodeWall}
use Rattle.joint_finder.proofs.LiveWalls.{walls-more}
use Rattle.scattering.proofs.Lists.{In-append}
use Rattle.bend_finder.specs.Bends.{IsTurn}
use Rattle.bend_finder.specs.Powers.{HasNoneTo, HaveNoneTo}
use Rattle.bend_finder.specs.Runs.{HasLiveOn}

-- ---- one wall

pub none-below : (n most : ℕ) (w : Wall) → IsTrue (begins_at n w) → nat_le n most ≡ false → HasNoneTo most w
none-below n most w h l t i =
    let e = not-true (and-right (has_term_to n w) (not _) h) in
    let k = high (degree t.0) (any-none (λ (t : Term). nat_lt (degree t.0) n) (rest w.function) e t i) in
    let m = above n most l in
    omega (arith, k, m)
  where
    above : (a b : ℕ) → nat_le a b ≡ false → b < a
    above a b e = grind arith

    not-true : {b : Bool} → not b ≡ true → b ≡ false
    not-true {b = true} e = absurd (cc)
    not-true {b = false} e = refl

    high : (d : ℕ) → nat_lt d n ≡ false → n ≤ d
    high d e = grind arith

pub none-dead : (most : ℕ) (w : Wall) → is_live w ≡ false → HasNoneTo most w
none-dead most w e t i = let l = any-true (λ (t : Term). true) (rest w.function) t i refl in absurd (cc)

-- ---- walls one after another

pub none-walls : (most : ℕ) → HaveNoneTo most []
none-walls most w i = absurd i

pub more-walls : (most : ℕ) (ws : List CodeWall) (i : ℕ) (w : CodeWall) → i < length ws → w ≡ get_or ws i w → HaveNoneTo most (walls_of (take i ws)) → HasNoneTo most (wall_of w) → HaveNoneTo most (walls_of (take (i + 1) ws))
more-walls most ws i w l e h k v j = go (In-append (walls_of (take i ws)) (wall_of w ∷ []) v (subst (In v) (walls-more [] ws i w l e) j))
  where
    go : In v (walls_of (take i ws)) ⊎ In v (wall_of w ∷ []) → HasNoneTo most v
    go (inl a) = h v a
    go (inr (inl s)) = subst (HasNoneTo most) (sym s) k
    go (inr (inr f)) = absurd f

-- ---- at a point

abbrev majorant_of : ℕ → List Wall → Exp → Sum
majorant_of n us x = pow n (product n (map (λ w. absolute w.function) us)) (across us x)

pub turnless : (most : ℕ) (ls g : List Wall) (q : Point) (x : Exp) → HasLiveOn ls q g → HaveNoneTo most g → (c : Bend) → c.at ≡ q → IsTurn most ls x c → ⊥
turnless most ls g q x s none c e o = go r.0 r.1 r.3
  where
    same : bend_majorant most ls c.at x ≡ bend_majorant most g q x
    same = ap (λ (p : Point). majorant_of most (live_on ls p) x) e ∙ ap (λ us. majorant_of most us x) (sym s)

    r : IsReachedBy g c.key.exp (degree c.key)
    r = bend-reached most g q x c.key (λ z. o.key (ap (λ (f : Sum). coef f c.key) same ∙ z))

    go : (ts : List Term) → Every (IsWallTerm g) ts → degree_sum ts ≡ degree c.key → ⊥
    go [] h d = let l = o.some in absurd (omega (arith, l, d))
    go (t ∷ ts) h d = let l = none h.0.0 h.0.1 t h.0.2 in let m = o.most in absurd (omega (arith, l, m, d))
