-- Special points: their causes, that walls which aren't live are none of them, and that those ahead are candidates.
use Rattle.std.proofs.Common.{◌≡◌, ◌≢◌, ℕ, ◌≤◌, sym, subst, Bool, true, List, [], ◌∷◌, ◌⊎◌, inl, inr, length, get_or, take, ◌<◌, ◌+◌}
use Rattle.std.specs.Prelude.{pos, ◌&&◌, not, IsTrue, IsFalse, Option, Some, None, MatchOption, option_map, filter}
use Rattle.std.specs.List.{list_any}
use Rattle.scattering.specs.Collections.{In, IsLeast}
use Rattle.scattering.specs.Series.{Exp, det}
use Rattle.scattering.specs.Plane.{Point, IsPoint, IsDirection, Beyond, point_before, point_eq}
use Rattle.scattering.specs.Wall.{Wall, is_on, is_live, is_line, are_parallel, starts_at}
use Rattle.scattering.specs.ActivePoint.{is_special, walls_on}
use Rattle.scattering.proofs.Lists.{and-left, and-right, and-in, any-some, any-true, or-out, or-first, or-second, bool_iff, not-out, filter-from, filter-keeps, In-mapped, In-append}
use Rattle.scattering.proofs.Keys.{point_eq-same}
use Rattle.scattering.proofs.WallTests.{not-parallel}
use Rattle.broken_line_theory.proofs.Crossings.{is-zero-or-not}
use Rattle.plane_geom.specs.declared.Point.{Point as CodePoint}
use Rattle.plane_geom.specs.Shown.{point_of}
use Rattle.scatter_diagram.specs.Shown.{wall_of, walls_of}
use Rattle.scatter_diagram.specs.declared.wall.Wall.{Wall as CodeWall}
use Rattle.joint_finder.specs.Joints.{points_of}
use Rattle.bend_finder.specs.Special.{live_holds, IsCrossedAt, StartsLive}
use Rattle.bend_finder.specs.Crossings.{CrossesSome, AreFoundAhead}
use Rattle.bend_finder.specs.Bends.{IsFirstSpecial}
use Rattle.std.proofs.lemmas.List.{take_all}
use Rattle.joint_finder.proofs.Lists.{In-get}
use Rattle.joint_finder.proofs.LiveWalls.{walls-more}
use Rattle.bend_finder.proofs.Directions.{both-along}

-- ---- the causes

abbrev crossed_by : List Wall → Point → Wall → Bool
crossed_by ws p u = list_any (λ v. is_live u && is_live v && not (are_parallel u v)) (walls_on ws p)

on-wall : (ws : List Wall) (p : Point) (u : Wall) → In u (walls_on ws p) → is_live u ≡ true → In u ws × IsTrue (live_holds u p)
on-wall ws p u i l = let o = filter-from (λ w. is_on w p) ws u i in (o.0, and-in (is_live u) (is_on u p) l o.1)

pub special-out : (ws : List Wall) (p : Point) → is_special ws p ≡ true → IsCrossedAt ws p ⊎ StartsLive ws p
special-out ws p h = go (or-out _ _ h)
  where
    go : (list_any (crossed_by ws p) (walls_on ws p) ≡ true) ⊎ (list_any (λ w. starts_at w p && is_live w) ws ≡ true) → IsCrossedAt ws p ⊎ StartsLive ws p
    go (inl e) =
        let u = any-some (crossed_by ws p) (walls_on ws p) e in
        let v = any-some (λ v. is_live u.0 && is_live v && not (are_parallel u.0 v)) (walls_on ws p) u.2 in
        let l = and-left (is_live u.0 && is_live v.0) (not (are_parallel u.0 v.0)) v.2 in
        let a = on-wall ws p u.0 u.1 (and-left (is_live u.0) (is_live v.0) l) in
        let b = on-wall ws p v.0 v.1 (and-right (is_live u.0) (is_live v.0) l) in
        inl (u.0, a.0, (a.1, (v.0, b.0, and-in (live_holds v.0 p) (not (are_parallel u.0 v.0)) b.1 (and-right (is_live u.0 && is_live v.0) (not (are_parallel u.0 v.0)) v.2))))
    go (inr e) =
        inr (any-some (λ w. starts_at w p && is_live w) ws e)

pub crossed-special : (ws : List Wall) (p : Point) → IsCrossedAt ws p → is_special ws p ≡ true
crossed-special ws p h =
    let u = h.0 in
    let v = h.2.1.0 in
    let hu = h.2.0 in
    let hv : live_holds v p ≡ true = and-left (live_holds v p) (not (are_parallel u v)) h.2.1.2 in
    let both : (is_live u && is_live v && not (are_parallel u v)) ≡ true =
    and-in (is_live u && is_live v) (not (are_parallel u v)) (and-in (is_live u) (is_live v) (and-left (is_live u) (is_on u p) hu) (and-left (is_live v) (is_on v p) hv)) (and-right (live_holds v p) (not (are_parallel u v)) h.2.1.2) in
    or-first _ _ (any-true (crossed_by ws p) (walls_on ws p) u (on u h.1 hu) (any-true (λ v. is_live u && is_live v && not (are_parallel u v)) (walls_on ws p) v (on v h.2.1.1 hv) both))
  where
    on : (w : Wall) → In w ws → IsTrue (live_holds w p) → In w (walls_on ws p)
    on w i l = filter-keeps (λ w. is_on w p) ws w i (and-right (is_live w) (is_on w p) l)

pub starts-special : (ws : List Wall) (p : Point) → StartsLive ws p → is_special ws p ≡ true
starts-special ws p h = or-second _ _ (any-true (λ w. starts_at w p && is_live w) ws h.0 h.1 h.2)

-- ---- walls that aren't live make no point special

pub special-on_live : (ws : List Wall) (p : Point) → is_special (filter is_live ws) p ≡ is_special ws p
special-on_live ws p = bool_iff (is_special (filter is_live ws) p) (is_special ws p) (λ e. to (special-out (filter is_live ws) p e)) (λ e. from (special-out ws p e))
  where
    up : (w : Wall) → In w (filter is_live ws) → In w ws
    up w i = (filter-from is_live ws w i).0

    down : (w : Wall) → In w ws → IsTrue (live_holds w p) → In w (filter is_live ws)
    down w i l = filter-keeps is_live ws w i (and-left (is_live w) (is_on w p) l)

    to : IsCrossedAt (filter is_live ws) p ⊎ StartsLive (filter is_live ws) p → is_special ws p ≡ true
    to (inl c) = crossed-special ws p (c.0, up c.0 c.1, (c.2.0, (c.2.1.0, up c.2.1.0 c.2.1.1, c.2.1.2)))
    to (inr s) = starts-special ws p (s.0, up s.0 s.1, s.2)

    from : IsCrossedAt ws p ⊎ StartsLive ws p → is_special (filter is_live ws) p ≡ true
    from (inl c) =
        let v = c.2.1 in
        crossed-special (filter is_live ws) p (c.0, down c.0 c.1 c.2.0, (c.2.0, (v.0, down v.0 v.1 (and-left (live_holds v.0 p) (not (are_parallel c.0 v.0)) v.2), v.2)))
    from (inr s) = starts-special (filter is_live ws) p (s.0, filter-keeps is_live ws s.0 s.1 (and-right (starts_at s.0 p) (is_live s.0) s.2), s.2)

-- ---- the special points ahead are candidates

module _ (ls : List Wall) (p : Point) (e : Exp) (ps : List CodePoint) (far : Bool) (d : IsDirection e) (h : AreFoundAhead ls p e ps far) where
  -- where no crossing is too far away
  pub special-listed : IsFalse far → (q : Point) → IsPoint q → Beyond p e q → is_special ls q ≡ true → In q (points_of ps)
  special-listed near q i b s = go (special-out ls q s)
    where
      crossed : (w : Wall) → In w ls → IsTrue (live_holds w q) → det w.dir e ≢ pos 0 → In q (points_of ps)
      crossed w k l n = let c : CrossesSome ls p e q = (w, k, (i, b, and-right (is_live w) (is_on w q) l, n)) in h.crossings q c (h.near near q c)

      one : (u v : Wall) → In u ls → IsTrue (live_holds u q) → In v ls → IsTrue (live_holds v q) → det u.dir v.dir ≢ pos 0 → Dec (det u.dir e ≡ pos 0) → Dec (det v.dir e ≡ pos 0) → In q (points_of ps)
      one u v k l m o c (no a) z = crossed u k l a
      one u v k l m o c (yes a) (no z) = crossed v m o z
      one u v k l m o c (yes a) (yes z) = absurd (c (both-along u.dir v.dir e d a z))

      go : IsCrossedAt ls q ⊎ StartsLive ls q → In q (points_of ps)
      go (inl c) =
          let v = c.2.1 in
          one c.0 v.0 c.1 c.2.0 v.1 (and-left (live_holds v.0 q) (not (are_parallel c.0 v.0)) v.2) (not-parallel c.0 v.0 (not-out (are_parallel c.0 v.0) (and-right (live_holds v.0 q) (not (are_parallel c.0 v.0)) v.2)))
          (is-zero-or-not (det c.0.dir e)) (is-zero-or-not (det v.0.dir e))
      go (inr s) =
          let a : s.0.at ≡ q = point_eq-same s.0.at q (and-right (not (is_line s.0.kind)) (point_eq s.0.at q) (and-left (starts_at s.0 q) (is_live s.0) s.2)) in
          h.starts q (s.0, s.1, sym a, b)

  -- so the least of them is the first candidate that is special
  pub least-special : IsFalse far → (o : Option CodePoint) → IsFirstSpecial ls ps o
      → MatchOption (option_map point_of o) ((q : Point) → IsPoint q × Beyond p e q × IsTrue (is_special ls q) → ⊥) (IsLeast point_before (λ q. IsPoint q × Beyond p e q × IsTrue (is_special ls q)))
  least-special near None f = λ q s. let g = f q (special-listed near q s.0 s.1 s.2) in let t = s.2 in absurd (cc)
  least-special near (Some r) f = (
    (let k = h.each (point_of r) f.0.0 in (k.0, k.1, f.0.1)),
    λ q s. f.1 q (special-listed near q s.0 s.1 s.2, s.2),
  )

-- ---- a search through walls

pub none-more : (P : Wall → Type 0) (ws : List CodeWall) (i : ℕ) (w : CodeWall) → i < length ws → w ≡ get_or ws i w → ((v : Wall) → In v (walls_of (take i ws)) → P v → ⊥) → (P (wall_of w) → ⊥) → (v : Wall) → In v (walls_of (take (i + 1) ws)) → P v → ⊥
none-more P ws i w l e h n v k = go (In-append (walls_of (take i ws)) (wall_of w ∷ []) v (subst (In v) (walls-more [] ws i w l e) k))
  where
    go : In v (walls_of (take i ws)) ⊎ In v (wall_of w ∷ []) → P v → ⊥
    go (inl j) = h v j
    go (inr (inl s)) = λ p. n (subst P s p)
    go (inr (inr f)) = absurd f

pub none-at_all : (P : Wall → Type 0) (ws : List CodeWall) (i : ℕ) → length ws ≤ i → ((v : Wall) → In v (walls_of (take i ws)) → P v → ⊥) → (v : Wall) → In v (walls_of ws) → P v → ⊥
none-at_all P ws i l h v k = h v (subst (λ (us : List CodeWall). In v (walls_of us)) (sym (take_all i ws l)) k)

pub wall-in : (ws : List CodeWall) (i : ℕ) (w : CodeWall) → i < length ws → w ≡ get_or ws i w → In (wall_of w) (walls_of ws)
wall-in ws i w l e = In-mapped wall_of ws w (In-get ws i w l e)
