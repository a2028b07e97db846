-- What walls along one line give to the candidates of a stretch, which meets their line once.
use Rattle.std.proofs.Common.{◌≡◌, ◌≢◌, refl, sym, ap, subst, ◌∙◌, Bool, true, false, List, [], ◌∷◌, ◌++◌, ◌⊎◌, inl, inr, arith}
use Rattle.std.specs.Prelude.{pos, ◌||◌}
use Rattle.std.specs.List.Sorted.{IsPermutation}
use Rattle.std.proofs.lemmas.Int.{ints}
use Rattle.std.proofs.lemmas.List.Sorted.{IsPermutation-sym}
use Rattle.scattering.specs.Collections.{In}
use Rattle.scattering.specs.Series.{Exp, det}
use Rattle.scattering.specs.Plane.{Point, IsPoint, IsNear, FromOn, Beyond}
use Rattle.scattering.specs.Wall.{Wall, is_on}
use Rattle.scattering.proofs.Lists.{In-append, In-left, In-right, In-map, In-mapped, map-append}
use Rattle.plane_theory.proofs.Points.{beyond-from, line-test}
use Rattle.plane_theory.proofs.Directions.{direction-not_origin}
use Rattle.broken_line_theory.proofs.GenericPoints.{on-own}
use Rattle.plane_geom.specs.declared.Point.{Point as CodePoint}
use Rattle.plane_geom.specs.declared.Direction.{Direction}
use Rattle.plane_geom.specs.declared.Support.{Support}
use Rattle.plane_geom.specs.declared.Support.TheVariants.{Line, Half}
use Rattle.plane_geom.specs.Shown.{point_of, vector_of, OnSupport}
use Rattle.plane_geom.proofs.Meets.{det-back}
use Rattle.scatter_diagram.specs.Shown.{wall_of, walls_of}
use Rattle.scatter_diagram.specs.declared.wall.Wall.{Wall as CodeWall}
use Rattle.joint_finder.specs.Joints.{points_of}
use Rattle.joint_finder.specs.Crossings.{Adds}
use Rattle.joint_finder.proofs.Meetings.{one-point}
use Rattle.joint_finder.proofs.Lists.{In-permutation}
use Rattle.bend_finder.specs.Crossings.{CrossesSome, IsStartAhead, IsStartOfSome, AreFoundAhead, AddsFound}
use Rattle.bend_finder.specs.Marks.{MeetsSomeFrom}
use Rattle.bend_finder.specs.Runs.{IsOneLine, OnSome}
use Rattle.bend_finder.proofs.Directions.{both-along}
use Rattle.bend_finder.proofs.Lines.{all-parallel, on-line}
use Rattle.bend_finder.proofs.WallCrossings.{from-beyond, not-beyond}

-- ---- one run more

module _ (ls g : List Wall) (p : Point) (e : Exp) (old new : List CodePoint) (told far : Bool) (h : AreFoundAhead ls p e old told) (k : AddsFound g p e old new far) where
  split : (q : Point) → CrossesSome (ls ++ g) p e q → CrossesSome ls p e q ⊎ CrossesSome g p e q
  split q c = go (In-append ls g c.0 c.1)
    where
      go : In c.0 ls ⊎ In c.0 g → CrossesSome ls p e q ⊎ CrossesSome g p e q
      go (inl i) = inl (c.0, i, c.2)
      go (inr i) = inr (c.0, i, c.2)

  pub found-more : AreFoundAhead (ls ++ g) p e new (told || far)
  found-more = record {
    each = λ q i. each q (k.each q i);
    crossings = λ q c n. crossing q n (split q c);
    starts = λ q s. start q s (In-append ls g s.0 s.1);
    far = λ t. some told far refl refl t;
    near = λ f q c. close told far refl refl f q (split q c);
  }
    where
      each : (q : Point) → In q (points_of old) ⊎ (IsPoint q × Beyond p e q) → IsPoint q × Beyond p e q
      each q (inl i) = h.each q i
      each q (inr b) = b

      crossing : (q : Point) → IsNear q → CrossesSome ls p e q ⊎ CrossesSome g p e q → In q (points_of new)
      crossing q n (inl c) = k.keeps q (h.crossings q c n)
      crossing q n (inr c) = k.crossings q c n

      start : (q : Point) (s : IsStartAhead (ls ++ g) p e q) → In s.0 ls ⊎ In s.0 g → In q (points_of new)
      start q s (inl i) = k.keeps q (h.starts q (s.0, i, s.2, s.3))
      start q s (inr i) = k.starts q (s.0, i, s.2, s.3)

      some : (a b : Bool) → told ≡ a → far ≡ b → (a || b) ≡ true → (q : Point) × CrossesSome (ls ++ g) p e q × (IsNear q → ⊥)
      some true b x y t = let f = h.far x in (f.0, (f.1.0, In-left ls g f.1.0 f.1.1, f.1.2), f.2)
      some false true x y t = let f = k.far y in (f.0, (f.1.0, In-right ls g f.1.0 f.1.1, f.1.2), f.2)
      some false false x y t = absurd (cc)

      close : (a b : Bool) → told ≡ a → far ≡ b → (a || b) ≡ false → (q : Point) → CrossesSome ls p e q ⊎ CrossesSome g p e q → IsNear q
      close true b x y f q c = absurd (cc)
      close false true x y f q c = absurd (cc)
      close false false x y f q (inl c) = h.near x q c
      close false false x y f q (inr c) = k.near y q c

pub none-found : (p : Point) (e : Exp) → AreFoundAhead [] p e [] false
none-found p e = record { each = λ q i. absurd i; crossings = λ q c n. absurd c.1; starts = λ q s. absurd s.1; far = λ t. absurd (cc); near = λ f q c. absurd c.1 }

pub no-walls : (p : Point) (e : Exp) (ps : List CodePoint) → AddsFound [] p e ps ps false
no-walls p e ps = record { keeps = λ q i. i; each = λ q i. inl i; crossings = λ q c n. absurd c.1; starts = λ q s. absurd s.1; far = λ t. absurd (cc); near = λ f q c. absurd c.1 }

pub det-zero-back : (a b : Exp) → det a b ≡ pos 0 → det b a ≡ pos 0
det-zero-back a b z = let t = det-back a b in omega (arith, ints, z, t)

-- ---- a run, of which u is a wall

module _ (p : CodePoint) (d : Direction) (ws : List CodeWall) (one : IsOneLine (walls_of ws)) (u : CodeWall) (i : In (wall_of u) (walls_of ws)) where
  abbrev e : Exp
  e = vector_of d

  abbrev o : Point
  o = point_of p

  abbrev g : List Wall
  g = walls_of ws

  abbrev line : Support
  line = Line u.at u.dir

  code : (w : Wall) → In w g → (v : CodeWall) × In v ws × (w ≡ wall_of v)
  code w j = In-map wall_of ws w j

  at-point : (w : Wall) → In w g → IsPoint w.at × IsNear w.at
  at-point w j = let r = code w j in subst (λ (v : Wall). IsPoint v.at × IsNear v.at) (sym r.2) (r.0.at.reduced, r.0.at.near)

  on-whole : (w : Wall) → In w g → (q : Point) → IsPoint q → is_on w q ≡ true → OnSupport line q
  on-whole w j q k h = (line-test (point_of u.at) (vector_of u.dir) q u.at.reduced.below k.below (direction-not_origin (vector_of u.dir) u.dir.primitive)).0 (on-line g one (wall_of u) i w j (at-point w j).0 q h)

  pub turns-line : (w : Wall) → In w g → det w.dir e ≢ pos 0 → det e (vector_of u.dir) ≢ pos 0
  turns-line w j n z = n (both-along w.dir e (vector_of u.dir) u.dir.primitive (det-zero-back (vector_of u.dir) w.dir (all-parallel g one (wall_of u) i w j)) z)

  turns-wall : det e (vector_of u.dir) ≢ pos 0 → (w : Wall) → In w g → det w.dir e ≢ pos 0
  turns-wall n w j z =
      let r = code w j in
      let k = subst (λ (v : Wall). det v.dir e ≡ pos 0) r.2 z in
      let m = subst (λ (v : Wall). det (vector_of u.dir) v.dir ≡ pos 0) r.2 (all-parallel g one (wall_of u) i w j) in
      n (both-along e (vector_of u.dir) (vector_of r.0.dir) r.0.dir.primitive (det-zero-back (vector_of r.0.dir) e k) m)

  common : (q : Point) → CrossesSome g o e q → (det e (vector_of u.dir) ≢ pos 0) × FromOn o e q × OnSupport line q
  common q c = (turns-line c.0 c.1 c.2.3, beyond-from o e q c.2.1, on-whole c.0 c.1 q c.2.0 c.2.2)

  start-crosses : det e (vector_of u.dir) ≢ pos 0 → (q : Point) → IsStartAhead g o e q → CrossesSome g o e q × IsNear q
  start-crosses n q s =
      let a = at-point s.0 s.1 in
      ((s.0, s.1, (subst IsPoint (sym s.2) a.0, s.3, subst (λ (r : Point). is_on s.0 r ≡ true) (sym s.2) (on-own s.0), turns-wall n s.0 s.1)), subst IsNear (sym s.2) a.1)

  -- the stretch doesn't cross a wall
  none-crossed : ((q : Point) → CrossesSome g o e q → ⊥) → det e (vector_of u.dir) ≢ pos 0 → (ps : List CodePoint) → AddsFound g o e ps ps false
  none-crossed h n ps = record {
    keeps = λ q j. j;
    each = λ q j. inl j;
    crossings = λ q c m. absurd (h q c);
    starts = λ q s. absurd (h q (start-crosses n q s).0);
    far = λ t. absurd (cc);
    near = λ f q c. absurd (h q c);
  }

  -- what it meets is on their line
  met-common : (m : MeetsSomeFrom g o e) → (det e (vector_of u.dir) ≢ pos 0) × FromOn o e m.2.0 × OnSupport line m.2.0
  met-common m = (turns-line m.0 m.1 m.2.4, m.2.2, on-whole m.0 m.1 m.2.0 m.2.1 m.2.3)

  pub crossed-met : (q : Point) → CrossesSome g o e q → MeetsSomeFrom g o e
  crossed-met q c = (c.0, c.1, (q, c.2.0, beyond-from o e q c.2.1, c.2.2, c.2.3))

  -- it meets their line at r
  module _ (r : CodePoint) (n : det e (vector_of u.dir) ≢ pos 0) (a : OnSupport (Half p d) (point_of r)) (b : OnSupport line (point_of r)) where
    pub only : (q : Point) → CrossesSome g o e q → q ≡ point_of r
    only q c = let m = common q c in one-point (Half p d) line q (point_of r) c.2.0 r.reduced n m.1 m.2 a b

    pub met-on : MeetsSomeFrom g o e → OnSome g (point_of r)
    met-on m =
        let c = met-common m in
        (m.0, m.1, subst (λ (s : Point). is_on m.0 s ≡ true) (one-point (Half p d) line m.2.0 (point_of r) m.2.1 r.reduced n c.1 c.2 a b) m.2.3)

    pub missed-run : (OnSome g (point_of r) × (point_of r ≢ o) → ⊥) → (ps : List CodePoint) → AddsFound g o e ps ps false
    missed-run h ps = none-crossed (λ q c. h ((c.0, c.1, subst (λ (s : Point). is_on c.0 s ≡ true) (only q c) c.2.2), λ t. moves q c (only q c ∙ t))) n ps
      where
        moves : (q : Point) → CrossesSome g o e q → q ≡ o → ⊥
        moves q c t = not-beyond o e p.reduced (direction-not_origin e d.primitive) (subst (Beyond o e) t c.2.1)

    pub met-run : OnSome g (point_of r) → point_of r ≢ o → (ps : List CodePoint) → AddsFound g o e ps (ps ++ r ∷ []) false
    met-run h k ps = record {
      keeps = λ q j. subst (In q) (sym joined) (In-left (points_of ps) (point_of r ∷ []) q j);
      each = λ q j. each q (In-append (points_of ps) (point_of r ∷ []) q (subst (In q) joined j));
      crossings = λ q c m. last q (only q c);
      starts = λ q s. last q (only q (start-crosses n q s).0);
      far = λ t. absurd (cc);
      near = λ f q c. subst IsNear (sym (only q c)) r.near;
    }
      where
        joined : points_of (ps ++ r ∷ []) ≡ points_of ps ++ point_of r ∷ []
        joined = map-append point_of ps (r ∷ [])

        last : (q : Point) → q ≡ point_of r → In q (points_of (ps ++ r ∷ []))
        last q t = subst (In q) (sym joined) (In-right (points_of ps) (point_of r ∷ []) q (inl t))

        each : (q : Point) → In q (points_of ps) ⊎ In q (point_of r ∷ []) → In q (points_of ps) ⊎ (IsPoint q × Beyond o e q)
        each q (inl j) = inl j
        each q (inr (inl t)) = inr (subst (λ (s : Point). IsPoint s × Beyond o e s) (sym t) (r.reduced, from-beyond o e (point_of r) p.reduced r.reduced a k))
        each q (inr (inr f)) = absurd f

  -- it is parallel to them
  pub parallel-run : det e (vector_of u.dir) ≡ pos 0 → (old new : List CodePoint) → Adds (IsStartOfSome ws o e) old new → AddsFound g o e old new false
  parallel-run z old new h = record {
    keeps = h.keeps;
    each = λ q j. each q (h.each q j);
    crossings = λ q c n. absurd (none q c);
    starts = λ q s. start q s;
    far = λ t. absurd (cc);
    near = λ f q c. absurd (none q c);
  }
    where
      none : (q : Point) → CrossesSome g o e q → ⊥
      none q c = turns-line c.0 c.1 c.2.3 z

      each : (q : Point) → In q (points_of old) ⊎ IsStartOfSome ws o e q → In q (points_of old) ⊎ (IsPoint q × Beyond o e q)
      each q (inl j) = inl j
      each q (inr s) = inr (subst IsPoint (sym s.2.0) s.0.at.reduced, s.2.1)

      start : (q : Point) → IsStartAhead g o e q → In q (points_of new)
      start q s =
          let r = code s.0 s.1 in
          h.all q (subst IsPoint (sym s.2) (at-point s.0 s.1).0) (r.0, r.1, (s.2 ∙ ap (λ (w : Wall). w.at) r.2, s.3))

  -- it doesn't meet them
  pub unmet-run : det e (vector_of u.dir) ≢ pos 0 → (MeetsSomeFrom g o e → ⊥) → (ps : List CodePoint) → AddsFound g o e ps ps false
  unmet-run n h ps = none-crossed (λ q c. h (crossed-met q c)) n ps

  pub met-inside : ((q : Point) → IsPoint q → OnSupport (Half p d) q → OnSupport line q → ⊥) → MeetsSomeFrom g o e → ⊥
  met-inside h m = let c = met-common m in h m.2.0 m.2.1 c.1 c.2

  -- it meets them too far away
  module _ (f : (q : Point) × IsPoint q × OnSupport (Half p d) q × OnSupport line q × (IsNear q → ⊥)) (n : det e (vector_of u.dir) ≢ pos 0) (m : MeetsSomeFrom g o e) where
    same : (q : Point) → IsPoint q → FromOn o e q → OnSupport line q → q ≡ f.0
    same q i a b = one-point (Half p d) line q f.0 i f.1 n a b f.2 f.3

    pub far-crossed : (q : Point) → CrossesSome g o e q → IsNear q → ⊥
    far-crossed q c k = let a = common q c in f.4 (subst IsNear (same q c.2.0 a.1 a.2) k)

    pub far-run : (ps : List CodePoint) → AddsFound g o e ps ps true
    far-run ps = record {
      keeps = λ q j. j;
      each = λ q j. inl j;
      crossings = λ q c k. absurd (far-crossed q c k);
      starts = λ q s. let c = start-crosses n q s in absurd (far-crossed q c.0 c.1);
      far = λ t. (f.0, crossed, f.4);
      near = λ t q c. absurd (cc);
    }
      where
        crossed : CrossesSome g o e f.0
        crossed =
            let c = met-common m in
            (m.0, m.1, (f.1, from-beyond o e f.0 p.reduced f.1 f.2 (λ t. f.4 (subst IsNear (sym t) p.near)), subst (λ (s : Point). is_on m.0 s ≡ true) (same m.2.0 m.2.1 c.1 c.2) m.2.3, m.2.4))

-- ---- all points

-- sorting keeps them
pub permuted-found : (ls : List Wall) (p : Point) (e : Exp) (ps qs : List CodePoint) (far : Bool) → AreFoundAhead ls p e ps far → IsPermutation ps qs → AreFoundAhead ls p e qs far
permuted-found ls p e ps qs far h m = record {
  each = λ q i. h.each q (moved qs ps (IsPermutation-sym ps qs m) q i);
  crossings = λ q c n. moved ps qs m q (h.crossings q c n);
  starts = λ q s. moved ps qs m q (h.starts q s);
  far = h.far;
  near = h.near;
}
  where
    moved : (ps qs : List CodePoint) → IsPermutation ps qs → (q : Point) → In q (points_of ps) → In q (points_of qs)
    moved ps qs m q i = let r = In-map point_of ps q i in subst (λ (s : Point). In s (points_of qs)) (sym r.2) (In-mapped point_of qs r.0 (In-permutation ps qs r.0 m r.1))

-- the walls of ls and of ms are the same
pub same-found : (ls ms : List Wall) (p : Point) (e : Exp) (ps : List CodePoint) (far : Bool) → ((w : Wall) → In w ls → In w ms) → ((w : Wall) → In w ms → In w ls) → AreFoundAhead ms p e ps far → AreFoundAhead ls p e ps far
same-found ls ms p e ps far to from h = record {
  each = h.each;
  crossings = λ q c n. h.crossings q (there q c) n;
  starts = λ q s. h.starts q (s.0, to s.0 s.1, s.2, s.3);
  far = λ t. let c = h.far t in (c.0, back c.0 c.1, c.2);
  near = λ f q c. h.near f q (there q c);
}
  where
    there : (q : Point) → CrossesSome ls p e q → CrossesSome ms p e q
    there q c = (c.0, to c.0 c.1, c.2)

    back : (q : Point) → CrossesSome ms p e q → CrossesSome ls p e q
    back q c = (c.0, from c.0 c.1, c.2)
