-- The points that tails meet on the way on from their last bend: where they cross live walls, and special points.
use Rattle.std.proofs.Common.{◌≡◌, ◌≢◌, ℕ, sym, subst, ◌⊎◌, inl, inr, arith, true, List}
use Rattle.std.specs.Prelude.{ℤ, pos, ◌-ℤ◌, ◌*ℤ◌, IsTrue, not, ◌&&◌}
use Rattle.std.specs.List.{list_any}
use Rattle.scattering.specs.Collections.{In, Every}
use Rattle.scattering.specs.Series.{Exp, origin, det}
use Rattle.scattering.specs.Plane.{Point, IsPoint, Beyond, point_eq}
use Rattle.scattering.specs.Wall.{Wall, cut_walls, is_on, is_live, is_line, are_parallel, starts_at}
use Rattle.scattering.specs.ActivePoint.{is_special, walls_on}
use Rattle.scattering.specs.BrokenLine.{live_on}
use Rattle.scattering.specs.Tail.{Tail, IsTail, last, last_point}
use Rattle.scattering.specs.Theta.{IsHit, IsMet}
use Rattle.scattering.proofs.Ring.{dif-up, dif-pos, dif-add, dif-neg, dif-mul, dif-same}
use Rattle.scattering.proofs.Lists.{Every-at, and-in, and-left, and-right, any-some, filter-from, filter-keeps, not-out, or-out}
use Rattle.scattering.proofs.Keys.{point_eq-same, same-exp}
use Rattle.scattering.proofs.WallTests.{not-parallel}
use Rattle.plane_theory.proofs.Directions.{zero-factor}
use Rattle.plane_theory.proofs.WholeNumbers.{follows2}
use Rattle.sum_algebra.proofs.Integers.{zero-or-not}
use Rattle.broken_line_theory.proofs.Bends.{IsTame}
use Rattle.broken_line_theory.proofs.BendWalls.{live-out}
use Rattle.broken_line_theory.proofs.Crossings.{ahead-or-not, is-zero-or-not, IsCrossing, crossings}
use Rattle.broken_line_theory.proofs.ListedTails.{last-moves, tails}
use Rattle.broken_line_theory.proofs.Listings.{Listing, both, is-or-not, elements, listed-as, either, choose, images, joins}
use Rattle.broken_line_theory.proofs.TracedBends.{traced-point}

-- ---- of two walls that aren't parallel, one isn't parallel to the stretch

across-first : (a b c d x y : ℤ) → a *ℤ y -ℤ b *ℤ x ≡ pos 0 → c *ℤ y -ℤ d *ℤ x ≡ pos 0 → x *ℤ (a *ℤ d -ℤ b *ℤ c) ≡ pos 0
across-first a b c d x y h k =
    follows2 (x *ℤ (a *ℤ d -ℤ b *ℤ c)) (pos 0) c (a *ℤ y -ℤ b *ℤ x) (pos 0) a (pos 0) (c *ℤ y -ℤ d *ℤ x) h (sym k)
    (rw (dif-up a, dif-up b, dif-up c, dif-up d, dif-up x, dif-up y) (simp (dif-mul, dif-add, dif-neg, dif-pos) (dif-same _ _ _ _ (omega arith))))

across-second : (a b c d x y : ℤ) → a *ℤ y -ℤ b *ℤ x ≡ pos 0 → c *ℤ y -ℤ d *ℤ x ≡ pos 0 → y *ℤ (a *ℤ d -ℤ b *ℤ c) ≡ pos 0
across-second a b c d x y h k =
    follows2 (y *ℤ (a *ℤ d -ℤ b *ℤ c)) (pos 0) d (a *ℤ y -ℤ b *ℤ x) (pos 0) b (pos 0) (c *ℤ y -ℤ d *ℤ x) h (sym k)
    (rw (dif-up a, dif-up b, dif-up c, dif-up d, dif-up x, dif-up y) (simp (dif-mul, dif-add, dif-neg, dif-pos) (dif-same _ _ _ _ (omega arith))))

along-both : (u v x : Exp) → x ≢ origin → det u x ≡ pos 0 → det v x ≡ pos 0 → det u v ≡ pos 0
along-both u v x n h k = go (zero-or-not x.a) (zero-or-not x.b)
  where
    go : (x.a ≡ pos 0) ⊎ (x.a ≢ pos 0) → (x.b ≡ pos 0) ⊎ (x.b ≢ pos 0) → det u v ≡ pos 0
    go (inr a) b = zero-factor x.a (det u v) a (across-first u.a u.b v.a v.b x.a x.b h k)
    go (inl a) (inr b) = zero-factor x.b (det u v) b (across-second u.a u.b v.a v.b x.a x.b h k)
    go (inl a) (inl b) = absurd (n (same-exp x origin a b))

-- ---- special points

-- two live walls that aren't parallel are there, or a ray starts there
abbrev pub IsCrossedOrStarts : List Wall → Point → Type 0
IsCrossedOrStarts ws r = ((u v : Wall) × In u (live_on ws r) × In v (live_on ws r) × (det u.dir v.dir ≢ pos 0)) ⊎ ((w : Wall) × In w ws × (r ≡ w.at))

live-in : (ws : List Wall) (r : Point) (u : Wall) → In u (walls_on ws r) → is_live u ≡ true → In u (live_on ws r)
live-in ws r u i l = let o = filter-from (λ w. is_on w r) ws u i in filter-keeps (λ w. is_live w && is_on w r) ws u o.0 (and-in (is_live u) (is_on u r) l o.1)

pub special-cause : (ws : List Wall) (r : Point) → IsTrue (is_special ws r) → IsCrossedOrStarts ws r
special-cause ws r h = go (or-out _ _ h)
  where
    go : (list_any (λ u. list_any (λ v. is_live u && is_live v && not (are_parallel u v)) (walls_on ws r)) (walls_on ws r) ≡ true) ⊎ (list_any (λ w. starts_at w r && is_live w) ws ≡ true) → IsCrossedOrStarts ws r
    go (inl e) =
        let u = any-some (λ u. list_any (λ v. is_live u && is_live v && not (are_parallel u v)) (walls_on ws r)) (walls_on ws r) e in
        let v = any-some (λ v. is_live u.0 && is_live v && not (are_parallel u.0 v)) (walls_on ws r) u.2 in
        let l = and-left (is_live u.0 && is_live v.0) (not (are_parallel u.0 v.0)) v.2 in
        inl (
          u.0,
          v.0,
          live-in ws r u.0 u.1 (and-left (is_live u.0) (is_live v.0) l),
          live-in ws r v.0 v.1 (and-right (is_live u.0) (is_live v.0) l),
          not-parallel u.0 v.0 (not-out (are_parallel u.0 v.0) (and-right (is_live u.0 && is_live v.0) (not (are_parallel u.0 v.0)) v.2)),
        )
    go (inr e) =
        let w = any-some (λ w. starts_at w r && is_live w) ws e in
        let s = and-left (starts_at w.0 r) (is_live w.0) w.2 in
        inr (w.0, w.1, sym (point_eq-same w.0.at r (and-right (not (is_line w.0.kind)) (point_eq w.0.at r) s)))

-- ---- the special points of a stretch

abbrev IsSpecialAhead : List Wall → Point → Exp → Point → Type 0
IsSpecialAhead ws p x r = IsPoint r × Beyond p x r × IsTrue (is_special ws r)

-- it crosses a wall there, or a wall starts there
abbrev IsCandidate : List Wall → Point → Exp → Point → Type 0
IsCandidate ws p x r = ((w : Wall) × In w ws × IsCrossing ws p x w r) ⊎ ((w : Wall) × In w ws × (r ≡ w.at))

special-candidate : (ws : List Wall) (p : Point) (x : Exp) (r : Point) → x ≢ origin → IsSpecialAhead ws p x r → IsCandidate ws p x r
special-candidate ws p x r n h = go (special-cause ws r h.2)
  where
    crossed : (u v : Wall) → In u (live_on ws r) → In v (live_on ws r) → det u.dir v.dir ≢ pos 0 → Dec (det u.dir x ≡ pos 0) → Dec (det v.dir x ≡ pos 0) → IsCandidate ws p x r
    crossed u v i j c (no a) b = inl (u, (live-out ws r u i).0, (h.0, h.1, i, a))
    crossed u v i j c (yes a) (no b) = inl (v, (live-out ws r v j).0, (h.0, h.1, j, b))
    crossed u v i j c (yes a) (yes b) = absurd (c (along-both u.dir v.dir x n a b))

    go : IsCrossedOrStarts ws r → IsCandidate ws p x r
    go (inl c) = crossed c.0 c.1 c.2 c.3 c.4 (is-zero-or-not (det c.0.dir x)) (is-zero-or-not (det c.1.dir x))
    go (inr s) = inr s

specials-ahead : (ws : List Wall) → Every (λ w. IsPoint w.at) ws → (p : Point) (x : Exp) → IsPoint p → x ≢ origin → Listing (IsSpecialAhead ws p x)
specials-ahead ws points p x i n =
    listed-as (λ r. IsCandidate ws p x r × (Beyond p x r × IsTrue (is_special ws r))) (IsSpecialAhead ws p x)
    (λ r h. (point r h.0, h.1.0, h.1.1)) (λ r h. (special-candidate ws p x r n h, (h.1, h.2)))
    (choose (IsCandidate ws p x) (λ r. Beyond p x r × IsTrue (is_special ws r)) (λ r h. both (ahead-or-not p x r i (point r h) n) (is-or-not (is_special ws r)))
    (either (λ r. (w : Wall) × In w ws × IsCrossing ws p x w r) (λ r. (w : Wall) × In w ws × (r ≡ w.at)) (crossings ws points p i x) (images (λ w. In w ws) (λ w. w.at) (elements ws))))
  where
    point : (r : Point) → IsCandidate ws p x r → IsPoint r
    point r (inl h) = h.2.0
    point r (inr h) = subst IsPoint (sym h.2) (Every-at (λ w. IsPoint w.at) ws h.0 points h.1)

-- ---- what all tails meet

module _ (ws : List Wall) (n : ℕ) (m : Exp) (tame : Every IsTame (cut_walls n ws)) (points : Every (λ w. IsPoint w.at) (cut_walls n ws)) (q : Point) (point : IsPoint q) where
  end-point : (t : Tail) → IsTail ws n m q t → IsPoint (last_point q t.bends)
  end-point t h = traced-point ws n m q t.root 0 t.bends point h.traced

  pub hits : Listing (IsHit ws n m q)
  hits =
      listed-as (λ p. (t : Tail) × IsTail ws n m q t × ((w : Wall) × In w (cut_walls n ws) × IsCrossing (cut_walls n ws) (last_point q t.bends) (last t.root t.bends) w p)) (IsHit ws n m q)
      (λ p h. let c = h.2.2 in (c.0, (h.0, h.2.0, h.1, c.1, c.2, c.3)))
      (λ p h. let c = h.1 in (c.0, c.2, (c.1, (live-out (cut_walls n ws) p c.1 c.4).0, (h.0, c.3, c.4, c.5))))
      (joins (IsTail ws n m q) (λ t p. (w : Wall) × In w (cut_walls n ws) × IsCrossing (cut_walls n ws) (last_point q t.bends) (last t.root t.bends) w p)
      (λ t h. crossings (cut_walls n ws) points (last_point q t.bends) (end-point t h) (last t.root t.bends)) (tails ws n m tame points q point))

  pub met-points : Listing (IsMet ws n m q)
  met-points =
      listed-as (λ p. (t : Tail) × IsTail ws n m q t × IsSpecialAhead (cut_walls n ws) (last_point q t.bends) (last t.root t.bends) p) (IsMet ws n m q)
      (λ p h. ((h.2.0, (h.0, h.1, h.2.1)), h.2.2))
      (λ p h. (h.0.1.0, h.0.1.1, (h.0.0, h.0.1.2, h.1)))
      (joins (IsTail ws n m q) (λ t p. IsSpecialAhead (cut_walls n ws) (last_point q t.bends) (last t.root t.bends) p)
      (λ t h. specials-ahead (cut_walls n ws) points (last_point q t.bends) (last t.root t.bends) (end-point t h) (last-moves ws n m tame points q t.root 0 t.bends h.moves h.traced))
      (tails ws n m tame points q point))
