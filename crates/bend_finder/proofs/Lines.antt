-- Walls along one line, and runs of walls.
use Rattle.std.proofs.Common.{◌≡◌, zero, suc, ◌<◌, ◌≤◌, ◌+◌, refl, sym, ap, subst, ◌∙◌, Bool, true, false, cond, List, [], ◌∷◌, ◌++◌, inl, inr, length, get_or, take, arith, ℕ}
use Rattle.std.specs.Prelude.{ℤ, pos, negsuc, ◌+ℤ◌, ◌-ℤ◌, ◌*ℤ◌, ◌≤ℤ◌, neg_ℤ, nat_abs}
use Rattle.std.specs.Int.{IsGcd}
use Rattle.std.proofs.lemmas.Int.{ints}
use Rattle.std.proofs.lemmas.List.{append-nil, take_more, take_all}
use Rattle.std.proofs.lemmas.List.Concat.{flat_map-append}
use Rattle.sum_algebra.proofs.Ring.{var, minus, ring}
use Rattle.sum_algebra.proofs.IntegerRing.{ints_ring, ◌:+◌, ◌:*◌, ◌:-◌, X, Y, Z}
use Rattle.scattering.specs.Collections.{In, Every}
use Rattle.scattering.specs.Series.{Exp, origin, det, scale, exp_before, exp_eq}
use Rattle.scattering.specs.Plane.{Point, IsPoint, IsDirection, difference}
use Rattle.scattering.specs.SupportingLine.{SupportingLine, line_direction, supporting_line, same_line, walls_along}
use Rattle.scattering.specs.Wall.{Wall, is_on}
use Rattle.scattering.proofs.Lists.{and-left, Every-append, Every-at, Every-from_In, Every-implies, filter-from, filter-keeps}
use Rattle.scattering.proofs.Keys.{exp_eq-same, same-exp}
use Rattle.plane_theory.proofs.Directions.{combination, same-direction, direction-not_origin}
use Rattle.crossing_theory.proofs.LocalRuns.{Passes, passes-same, passes-out, on-passes, one-line, size-turned, turned-line}
use Rattle.crossing_theory.proofs.SupportingLines.{same_line-flip}
use Rattle.scatter_diagram.specs.Degrees.{opposite}
use Rattle.joint_finder.proofs.Lists.{In-get}
use Rattle.joint_finder.specs.Strands.{IsSameUpToSign}
use Rattle.joint_finder.proofs.LiveWalls.{zero-both}
use Rattle.joint_finder.proofs.Meetings.{det-self}
use Rattle.scatter_diagram.specs.Shown.{walls_of}
use Rattle.bend_finder.specs.Runs.{IsOneLine, AreOneLines, IsRunOf, LiveRun, AreLiveRunsOf, all_walls}

-- ---- directions of lines

on-its-line : (d : Exp) → IsSameUpToSign (line_direction d) d
on-its-line d = go (exp_before origin d)
  where
    go : (b : Bool) → IsSameUpToSign (cond b d (opposite d)) d
    go true = inl refl
    go false = inr refl

-- walls along lines of one direction are parallel
pub line-parallel : (d e : Exp) → line_direction d ≡ line_direction e → det d e ≡ pos 0
line-parallel d e h = zero-both (line_direction d) d (line_direction e) e (on-its-line d) (on-its-line e) (ap (det (line_direction d)) (sym h) ∙ det-self (line_direction d))

-- and parallel walls are along lines of one direction
module _ (d e : Exp) (h : IsDirection d) (i : IsDirection e) (z : det d e ≡ pos 0) where
  u : ℤ
  u = (combination d h).0

  v : ℤ
  v = (combination d h).1

  one : u *ℤ d.a +ℤ v *ℤ d.b ≡ pos 1
  unfolding u v
  one = (combination d h).2

  k : ℤ
  k = u *ℤ e.a +ℤ v *ℤ e.b

  first : k *ℤ d.a ≡ e.a
  unfolding k u
  first =
      ring ints_ring (u ∷ v ∷ d.a ∷ d.b ∷ e.a ∷ e.b ∷ []) ((X :* var 4 :+ Y :* var 5) :* Z) (var 4 :* (X :* Z :+ Y :* var 3) :+ Y :* (Z :* var 5 :- var 3 :* var 4)) refl
      ∙ (λ j. e.a *ℤ one j +ℤ v *ℤ z j) ∙ done e.a v
    where
      done : (a b : ℤ) → a *ℤ pos 1 +ℤ b *ℤ pos 0 ≡ a
      done a b = omega (arith, ints)

  second : k *ℤ d.b ≡ e.b
  unfolding k u
  second =
      ring ints_ring (u ∷ v ∷ d.a ∷ d.b ∷ e.a ∷ e.b ∷ []) ((X :* var 4 :+ Y :* var 5) :* var 3) (var 5 :* (X :* Z :+ Y :* var 3) :- X :* (Z :* var 5 :- var 3 :* var 4)) refl
      ∙ (λ j. e.b *ℤ one j -ℤ u *ℤ z j) ∙ done e.b u
    where
      done : (a b : ℤ) → a *ℤ pos 1 -ℤ b *ℤ pos 0 ≡ a
      done a b = omega (arith, ints)

  opposite-direction : IsDirection (opposite d)
  opposite-direction = subst (λ (n : ℕ). IsGcd n (nat_abs (neg_ℤ d.b)) 1) (sym (size-turned d.a)) (subst (λ (n : ℕ). IsGcd (nat_abs d.a) n 1) (sym (size-turned d.b)) h)

  by-one : (a : ℤ) → a ≡ pos 1 *ℤ a
  by-one a = omega (arith, ints)

  up : (j : ℤ) → k ≡ j → pos 1 ≤ℤ j → d ≡ e
  up j q l = same-direction d e h i j (pos 1) l (omega (arith, ints)) (same-exp (scale j d) (scale (pos 1) e) (sym (ap (λ (m : ℤ). m *ℤ d.a) q) ∙ first ∙ by-one e.a) (sym (ap (λ (m : ℤ). m *ℤ d.b) q) ∙ second ∙ by-one e.b))

  pub parallel-line : line_direction d ≡ line_direction e
  parallel-line = go k refl
    where
      none : k ≡ pos 0 → (a : ℤ) → k *ℤ a ≡ pos 0
      none q a = ap (λ (m : ℤ). m *ℤ a) q ∙ zero-times a
        where
          zero-times : (a : ℤ) → pos 0 *ℤ a ≡ pos 0
          zero-times a = omega (arith, ints)

      go : (j : ℤ) → k ≡ j → line_direction d ≡ line_direction e
      go (pos zero) q = absurd (direction-not_origin e i (same-exp e origin (sym first ∙ none q d.a) (sym second ∙ none q d.b)))
      go (pos (suc n)) q = ap line_direction (up (pos (suc n)) q (omega (arith, ints)))
      go (negsuc n) q =
          sym (turned-line d (direction-not_origin d h))
          ∙ ap line_direction (same-direction (opposite d) e opposite-direction i (pos (suc n)) (pos 1) (omega (arith, ints)) (omega (arith, ints))
          (same-exp (scale (pos (suc n)) (opposite d)) (scale (pos 1) e) (against n d.a ∙ sym (ap (λ (m : ℤ). m *ℤ d.a) q) ∙ first ∙ by-one e.a) (against n d.b ∙ sym (ap (λ (m : ℤ). m *ℤ d.b) q) ∙ second ∙ by-one e.b)))
        where
          against : (n : ℕ) (a : ℤ) → pos (suc n) *ℤ neg_ℤ a ≡ negsuc n *ℤ a
          against n a = ring ints_ring (pos (suc n) ∷ a ∷ []) (X :* minus Y) (minus X :* Y) refl

-- ---- walls along one line

along-dir : (l : SupportingLine) (w : Wall) → same_line l (supporting_line w) ≡ true → l.dir ≡ line_direction w.dir
along-dir l w e = exp_eq-same l.dir (line_direction w.dir) (and-left (exp_eq l.dir (line_direction w.dir)) _ e)

module _ (g : List Wall) (h : IsOneLine g) (u : Wall) (i : In u g) where
  along : (w : Wall) → In w g → same_line h.0 (supporting_line w) ≡ true
  along w j = Every-at (λ w. same_line h.0 (supporting_line w) ≡ true) g w h.2 j

  pub all-parallel : (w : Wall) → In w g → det u.dir w.dir ≡ pos 0
  all-parallel w j = line-parallel u.dir w.dir (sym (along-dir h.0 u (along u i)) ∙ along-dir h.0 w (along w j))

  -- what is on one of them is on the line of each
  pub on-same : (w : Wall) → In w g → IsPoint w.at → (q : Point) → is_on w q ≡ true → Passes (supporting_line u) q
  on-same w j k q o = passes-same h.0 (supporting_line u) q h.1 (along u i) (passes-same (supporting_line w) h.0 q k.below (same_line-flip h.0 (supporting_line w) (along w j)) (on-passes w q o))

  pub on-line : (w : Wall) → In w g → IsPoint w.at → (q : Point) → is_on w q ≡ true → det u.dir (difference u.at q) ≡ pos 0
  on-line w j k q o = passes-out u.at q u.dir (on-same w j k q o)

  -- and they are along lines of one direction
  pub same-direction_of : (w : Wall) → In w g → line_direction u.dir ≡ line_direction w.dir
  same-direction_of w j = sym (along-dir h.0 u (along u i)) ∙ along-dir h.0 w (along w j)

-- ---- runs

pub run-line : (ls g : List Wall) → IsRunOf ls g → IsOneLine g
run-line ls g h = (h.line, h.proper, subst (Every (λ w. same_line h.line (supporting_line w) ≡ true)) (sym h.is) (Every-from_In _ (walls_along ls h.line) (λ w i. (filter-from (λ w. same_line h.line (supporting_line w)) ls w i).1)))

pub run-within : (ls g : List Wall) → IsRunOf ls g → (w : Wall) → In w g → In w ls
run-within ls g h w i = (filter-from (λ w. same_line h.line (supporting_line w)) ls w (subst (In w) h.is i)).0

-- a wall on a point of a run's wall that is parallel to it is of the run
pub run-has : (ls g : List Wall) → IsRunOf ls g → (u w : Wall) (q : Point) → IsPoint q → In u g → IsPoint u.at → is_on u q ≡ true → In w ls → is_on w q ≡ true → line_direction u.dir ≡ line_direction w.dir → In w g
unfolding run-line
run-has ls g h x w q n i p a j b e =
    let l = run-line ls g h in
    let s = along g l x i x i in
    let on : Passes h.line q = passes-same (supporting_line x) h.line q p.below (same_line-flip h.line (supporting_line x) s) (on-passes x q a) in
    subst (In w) (sym h.is) (filter-keeps (λ w. same_line h.line (supporting_line w)) ls w j (one-line h.line (supporting_line w) q n.below (along-dir h.line x s ∙ e) on (on-passes w q b)))

pub run-lines : (ls : List Wall) (rs : List LiveRun) → AreLiveRunsOf ls rs → AreOneLines rs
run-lines ls rs h = Every-implies _ (λ r. IsOneLine (walls_of r.items)) rs (λ r k. run-line ls (walls_of r.items) k) h.each

-- ---- going over the runs

pub all-more : (rs : List LiveRun) (i : ℕ) (r : LiveRun) → i < length rs → r ≡ get_or rs i r → all_walls (take (i + 1) rs) ≡ all_walls (take i rs) ++ walls_of r.items
all-more rs i r l e =
    ap all_walls (take_more rs i r l ∙ ap (λ (x : LiveRun). take i rs ++ x ∷ []) (sym e))
    ∙ flat_map-append (λ (x : LiveRun). walls_of x.items) (take i rs) (r ∷ [])
    ∙ ap (λ us. all_walls (take i rs) ++ us) (append-nil (walls_of r.items))

pub all-done : (rs : List LiveRun) (i : ℕ) → length rs ≤ i → all_walls (take i rs) ≡ all_walls rs
all-done rs i l = ap all_walls (take_all i rs l)

pub run-at : (P : LiveRun → Type 0) (rs : List LiveRun) (i : ℕ) (r : LiveRun) → i < length rs → r ≡ get_or rs i r → Every P rs → P r
run-at P rs i r l e h = Every-at P rs r h (In-get rs i r l e)

pub runs-within : (ls : List Wall) (rs : List LiveRun) → AreLiveRunsOf ls rs → (w : Wall) → In w (all_walls rs) → In w ls
runs-within ls rs h w i = Every-at (λ w. In w ls) (all_walls rs) w (each rs h.each) i
  where
    each : (rs : List LiveRun) → Every (λ r. IsRunOf ls (walls_of r.items)) rs → Every (λ w. In w ls) (all_walls rs)
    each [] k = tt
    each (r ∷ rs) k = Every-append (λ w. In w ls) (walls_of r.items) (all_walls rs) (Every-from_In (λ w. In w ls) (walls_of r.items) (run-within ls (walls_of r.items) k.0)) (each rs k.1)
