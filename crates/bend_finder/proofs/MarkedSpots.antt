-- The bends and the special points at the marks of a stretch, point by point.
use Rattle.std.proofs.Common.{◌≡◌, ℕ, zero, suc, ◌<◌, ◌≤◌, length, get_or, take, refl, sym, ap, subst, ◌∙◌, List, [], ◌∷◌, ◌++◌, ◌⊎◌, inl, inr, arith}
use Rattle.std.specs.Prelude.{Option, Some, None}
use Rattle.scattering.specs.Collections.{In}
use Rattle.scattering.specs.Series.{Exp}
use Rattle.scattering.specs.Plane.{Point}
use Rattle.scattering.specs.Wall.{Wall}
use Rattle.scattering.specs.BrokenLine.{Bend}
use Rattle.scattering.proofs.Lists.{Every-at, Every-implies, In-append, In-left, In-right, In-map, map-append}
use Rattle.plane_geom.specs.declared.Point.{Point as CodePoint}
use Rattle.plane_geom.specs.Shown.{point_of}
use Rattle.scatter_diagram.specs.Listed.{AreOfOrder}
use Rattle.joint_finder.specs.Joints.{points_of}
use Rattle.joint_finder.proofs.Lists.{In-take}
use Rattle.bend_finder.specs.declared.marks.Mark.{Mark}
use Rattle.bend_finder.specs.Bends.{IsTurn, AreBends, IsFirstSpecial}
use Rattle.bend_finder.specs.Marks.{marked, mark_walls, Run, AreOfOrderAhead, AreLinesAhead, IsCountAt}
use Rattle.bend_finder.specs.Runs.{IsOneLine}
use Rattle.bend_finder.proofs.MarkedRuns.{every-among}

-- ---- points that are listed otherwise

pub bends-like : (n : ℕ) (ls : List Wall) (x : Exp) (qs rs : List Point) (bs : List (Bend × ℕ)) → ((q : Point) → In q qs → In q rs) → ((q : Point) → In q rs → In q qs) → AreBends n ls x qs bs → AreBends n ls x rs bs
bends-like n ls x qs rs bs to from k = record {
  each = Every-implies _ (λ c. In c.0.at rs × IsTurn n ls x c.0) bs (λ c o. (to c.0.at o.0, o.1)) k.each;
  all = λ c i o. k.all c (from c.at i) o;
  told = k.told;
  sorted = k.sorted;
}

pub special-like : (ls : List Wall) (ps rs : List CodePoint) (o : Option CodePoint) → ((q : Point) → In q (points_of ps) → In q (points_of rs)) → ((q : Point) → In q (points_of rs) → In q (points_of ps)) → IsFirstSpecial ls ps o → IsFirstSpecial ls rs o
special-like ls ps rs None to from h = λ q i. h q (from q i)
special-like ls ps rs (Some r) to from h = ((to (point_of r) h.0.0, h.0.1), λ q o. h.1 q (from q o.0, o.1))

-- ---- marks at one point

pub first-of : (ms : List Mark) (m : Mark) → 0 < length ms → m ≡ get_or ms 0 m → (rest : List Mark) × (ms ≡ m ∷ rest)
first-of [] m l e = absurd (omega (arith, l))
first-of (x ∷ xs) m l e = (xs, ap (λ y. y ∷ xs) (sym e))

module _ (ms : List Mark) (m : Mark) (first : (rest : List Mark) × (ms ≡ m ∷ rest)) (n : ℕ) (h : IsCountAt ms (point_of m.at) n) where
  abbrev here : List Point
  here = points_of (marked (take n ms))

  pub count-some : 1 ≤ n
  count-some = go n h
    where
      go : (k : ℕ) → IsCountAt ms (point_of m.at) k → 1 ≤ k
      go zero h = absurd (h.other m first.0 first.1 refl)
      go (suc k) h = omega arith

  own : In (point_of m.at) here
  own = subst (λ (us : List Mark). In (point_of m.at) (points_of (marked (take n us)))) (sym first.1) (go n count-some)
    where
      go : (k : ℕ) → 1 ≤ k → In (point_of m.at) (points_of (marked (take k (m ∷ first.0))))
      go zero l = absurd (omega (arith, l))
      go (suc k) l = inl refl

  one : (q : Point) → In q here → q ≡ point_of m.at
  one q i =
      let a = In-map point_of (marked (take n ms)) q i in
      let b = In-map (λ (y : Mark). y.at) (take n ms) a.0 a.1 in
      a.2 ∙ ap point_of b.2 ∙ Every-at (λ (y : Mark). point_of y.at ≡ point_of m.at) (take n ms) b.0 h.same b.1

  -- their point after others is all their points after others
  to-here : (qs : List Point) (q : Point) → In q (qs ++ point_of m.at ∷ []) → In q (qs ++ here)
  to-here qs q i = go (In-append qs (point_of m.at ∷ []) q i)
    where
      go : In q qs ⊎ In q (point_of m.at ∷ []) → In q (qs ++ here)
      go (inl j) = In-left qs here q j
      go (inr (inl e)) = In-right qs here q (subst (λ (r : Point). In r here) (sym e) own)
      go (inr (inr f)) = absurd f

  from-here : (qs : List Point) (q : Point) → In q (qs ++ here) → In q (qs ++ point_of m.at ∷ [])
  from-here qs q i = go (In-append qs here q i)
    where
      go : In q qs ⊎ In q here → In q (qs ++ point_of m.at ∷ [])
      go (inl j) = In-left qs (point_of m.at ∷ []) q j
      go (inr j) = In-right qs (point_of m.at ∷ []) q (inl (one q j))

  pub bends-here : (k : ℕ) (ls : List Wall) (x : Exp) (qs : List Point) (bs : List (Bend × ℕ)) → AreBends k ls x (qs ++ point_of m.at ∷ []) bs → AreBends k ls x (qs ++ here) bs
  bends-here k ls x qs bs b = bends-like k ls x (qs ++ point_of m.at ∷ []) (qs ++ here) bs (to-here qs) (from-here qs) b

  pub special-here : (ls : List Wall) (ps : List CodePoint) (o : Option CodePoint) → IsFirstSpecial ls (ps ++ m.at ∷ []) o → IsFirstSpecial ls (ps ++ marked (take n ms)) o
  special-here ls ps o f = special-like ls (ps ++ m.at ∷ []) (ps ++ marked (take n ms)) o
      (λ q i. subst (In q) (sym (map-append point_of ps (marked (take n ms)))) (to-here (points_of ps) q (subst (In q) (map-append point_of ps (m.at ∷ [])) i)))
      (λ q i. subst (In q) (sym (map-append point_of ps (m.at ∷ []))) (from-here (points_of ps) q (subst (In q) (map-append point_of ps (marked (take n ms))) i))) f

-- ---- a part of the marks

pub part-order : (n : ℕ) (rs : List Run) (ms : List Mark) (k : ℕ) → AreOfOrderAhead n rs ms → AreOfOrderAhead n rs (take k ms)
part-order n rs ms k h = record { along = h.along; marks = every-among (λ (m : Mark). AreOfOrder n m.walls.now) ms (take k ms) (In-take ms k) h.marks }

pub part-lines : (rs : List Run) (ms : List Mark) (k : ℕ) → AreLinesAhead rs ms → AreLinesAhead rs (take k ms)
part-lines rs ms k h = record { along = h.along; marks = every-among (λ (m : Mark). IsOneLine (mark_walls m)) ms (take k ms) (In-take ms k) h.marks }
