-- The marks that walls along one line give to a stretch, and those of all runs.
use Rattle.std.proofs.Common.{◌≡◌, ◌≢◌, ℕ, ◌+◌, ◌<◌, refl, sym, ap, subst, ◌∙◌, Bool, true, false, length, get_or, take, List, [], ◌∷◌, ◌++◌, ◌⊎◌, inl, inr, arith, int_eq as test_eq}
use Rattle.std.specs.Prelude.{ℤ, pos, ◌-ℤ◌, ◌*ℤ◌, ◌||◌, ◌&&◌, IsTrue}
use Rattle.std.proofs.lemmas.Int.{ints}
use Rattle.std.specs.List.Sorted.{IsPermutation, IsSorted}
use Rattle.std.proofs.lemmas.List.Sorted.{IsPermutation-sym, IsPermutation-map}
use Rattle.std.proofs.lemmas.List.{append-nil, take_more}
use Rattle.std.proofs.lemmas.List.Concat.{flat_map-append}
use Rattle.sum_algebra.proofs.Integers.{zero-or-not}
use Rattle.joint_finder.proofs.Lists.{In-permutation}
use Rattle.scattering.specs.Collections.{In, Every}
use Rattle.scattering.specs.Series.{Exp, det}
use Rattle.scattering.specs.Plane.{Point, IsPoint, IsNear, Beyond, difference}
use Rattle.scattering.specs.Wall.{Wall, is_on}
use Rattle.scattering.specs.SupportingLine.{supporting_line, line_holds}
use Rattle.sum_algebra.proofs.Ring.{var, ring}
use Rattle.sum_algebra.proofs.IntegerRing.{ints_ring, ◌:*◌, ◌:-◌, X, Y, Z}
use Rattle.plane_theory.proofs.Points.{beyond-test}
use Rattle.plane_theory.proofs.Directions.{positive-not, zero-factor, direction-not_origin}
use Rattle.crossing_theory.proofs.LocalRuns.{passes-in, passes-holds}
use Rattle.scattering.proofs.Lists.{and-left, and-right, and-in, Every-append, Every-at, Every-from_In, Every-implies, In-append, In-left, In-right, map-append}
use Rattle.plane_geom.specs.declared.Point.{Point as CodePoint}
use Rattle.plane_geom.specs.declared.Direction.{Direction}
use Rattle.plane_geom.specs.declared.Support.{Support}
use Rattle.plane_geom.specs.declared.Support.TheVariants.{Line, Half}
use Rattle.plane_geom.specs.Shown.{point_of, vector_of, OnSupport}
use Rattle.scatter_diagram.specs.Shown.{wall_of, walls_of}
use Rattle.scatter_diagram.specs.declared.wall.Wall.{Wall as CodeWall}
use Rattle.joint_finder.specs.Crossings.{Adds}
use Rattle.bend_finder.specs.declared.marks.Mark.{Mark}
use Rattle.bend_finder.specs.Crossings.{IsStartOfSome, AddsFound}
use Rattle.bend_finder.specs.Marks.{marked, mark_walls, IsMark, IsMarkedAt, Run, mark_order, all_along, all_marked, MeetsSomeFrom, HasParallelAhead, KeepsMarks, AddsMarks, AreMarks, AreMarksOf, AreLinesAhead}
use Rattle.bend_finder.specs.Runs.{IsOneLine, IsRunOf, LiveRun, AreLiveRunsOf, OnSome, all_walls}
use Rattle.bend_finder.proofs.Directions.{both-along}
use Rattle.bend_finder.proofs.FoundWalls.{code-point, code-direction}
use Rattle.bend_finder.proofs.Lines.{all-parallel, on-line, run-line, runs-within}
use Rattle.bend_finder.proofs.RunCrossings.{det-zero-back, none-found, found-more, permuted-found, same-found, no-walls, unmet-run, met-inside, met-on, missed-run, met-run, only, parallel-run, turns-line, far-run, far-crossed, crossed-met}

pub same-marks : (ls g : List Wall) (ms : List Mark) → KeepsMarks ls g ms ms
same-marks ls g ms = record { keeps = λ m i. i; each = λ r h. h }

pub no-marks : (ls : List Wall) (p : Point) (e : Exp) (ms : List Mark) → AddsMarks ls [] p e ms ms false
no-marks ls p e ms = record { found = no-walls p e (marked ms); more = same-marks ls [] ms; all = λ w q i. absurd i }

-- a mark more
pub one-mark : (ls g : List Wall) (ms : List Mark) (m : Mark) → mark_walls m ≡ g → OnSome g (point_of m.at) → KeepsMarks ls g ms (ms ++ m ∷ [])
one-mark ls g ms m e o = record {
  keeps = λ n i. In-left ms (m ∷ []) n i;
  each = λ r h. Every-append (IsMark ls) ms (m ∷ []) h (record { run = subst (IsRunOf ls) (sym e) r; on = subst (λ (us : List Wall). OnSome us (point_of m.at)) (sym e) o }, tt);
}

-- and more still
pub then-marks : (ls g : List Wall) (a b c : List Mark) → KeepsMarks ls g a b → KeepsMarks ls g b c → KeepsMarks ls g a c
then-marks ls g a b c h k = record { keeps = λ m i. k.keeps m (h.keeps m i); each = λ r x. k.each r (h.each r x) }

-- ---- a run, of which u is a wall

module _ (ls : List Wall) (p : CodePoint) (d : Direction) (ws : List CodeWall) (one : IsOneLine (walls_of ws)) (u : CodeWall) (i : In (wall_of u) (walls_of ws)) where
  abbrev e : Exp
  e = vector_of d

  abbrev o : Point
  o = point_of p

  abbrev g : List Wall
  g = walls_of ws

  abbrev line : Support
  line = Line u.at u.dir

  pub parallel-marks : det e (vector_of u.dir) ≡ pos 0 → (old new : List Mark) → Adds (IsStartOfSome ws o e) (marked old) (marked new) → KeepsMarks ls g old new → AddsMarks ls g o e old new false
  parallel-marks z old new h k = record {
    found = parallel-run p d ws one u i z (marked old) (marked new) h;
    more = k;
    all = λ w q j n m. absurd (turns-line p d ws one u i w j m.3 z);
  }

  pub unmet-marks : det e (vector_of u.dir) ≢ pos 0 → (MeetsSomeFrom g o e → ⊥) → (ms : List Mark) → AddsMarks ls g o e ms ms false
  unmet-marks n h ms = record {
    found = unmet-run p d ws one u i n h (marked ms);
    more = same-marks ls g ms;
    all = λ w q j k m. absurd (h (crossed-met p d ws one u i q (w, j, m)));
  }

  pub outside-marks : det e (vector_of u.dir) ≢ pos 0 → MeetsSomeFrom g o e → ((q : Point) → IsPoint q → OnSupport (Half p d) q → OnSupport line q → ⊥) → {A : Type 0} → A
  outside-marks n m h = absurd (met-inside p d ws one u i h m)

  pub far-marks : (f : (q : Point) × IsPoint q × OnSupport (Half p d) q × OnSupport line q × (IsNear q → ⊥)) → det e (vector_of u.dir) ≢ pos 0 → MeetsSomeFrom g o e → (ms : List Mark) → AddsMarks ls g o e ms ms true
  far-marks f n m ms = record {
    found = far-run p d ws one u i f n m (marked ms);
    more = same-marks ls g ms;
    all = λ w q j k c. absurd (far-crossed p d ws one u i f n m q (w, j, c) k);
  }

  module _ (r : CodePoint) (n : det e (vector_of u.dir) ≢ pos 0) (a : OnSupport (Half p d) (point_of r)) (b : OnSupport line (point_of r)) (m : MeetsSomeFrom g o e) where
    pub own-marks : point_of r ≡ o → (ms : List Mark) → AddsMarks ls g o e ms ms false
    own-marks s ms = record {
      found = missed-run p d ws one u i r n a b (λ h. h.1 s) (marked ms);
      more = same-marks ls g ms;
      all = λ w q j k c. absurd (let f = missed-run p d ws one u i r n a b (λ h. h.1 s) [] in f.crossings q (w, j, c) k);
    }

    pub met-marks : point_of r ≢ o → (ms : List Mark) (x : Mark) → x.at ≡ r → mark_walls x ≡ g → AddsMarks ls g o e ms (ms ++ x ∷ []) false
    met-marks s ms x at on = record {
      found = subst (λ (ps : List CodePoint). AddsFound g o e (marked ms) ps false) (sym joined) (met-run p d ws one u i r n a b (met-on p d ws one u i r n a b m) s (marked ms));
      more = one-mark ls g ms x on (subst (λ (q : CodePoint). OnSome g (point_of q)) (sym at) (met-on p d ws one u i r n a b m));
      all = λ w q j k c. (x, In-right ms (x ∷ []) x (inl refl), ap point_of at ∙ sym (only p d ws one u i r n a b q (w, j, c)), subst (In w) (sym on) j);
    }
      where
        joined : marked (ms ++ x ∷ []) ≡ marked ms ++ r ∷ []
        joined = map-append (λ (y : Mark). y.at) ms (x ∷ []) ∙ ap (λ (q : CodePoint). marked ms ++ q ∷ []) at

-- ---- a run along the stretch

module _ (p : CodePoint) (d : Direction) (ws : List CodeWall) (one : IsOneLine (walls_of ws)) (u : CodeWall) (i : In (wall_of u) (walls_of ws)) (m : HasParallelAhead (walls_of ws) (point_of p) (vector_of d)) where
  abbrev from : Point
  from = point_of p

  abbrev turn : Exp
  turn = vector_of u.dir

  abbrev on-both : Point
  on-both = m.1

  pub parallel-along : det (vector_of d) (vector_of u.dir) ≡ pos 0
  parallel-along = both-along (vector_of d) (vector_of u.dir) m.0.dir (code-direction ws m.0 m.2) (det-zero-back m.0.dir (vector_of d) m.6) (all-parallel (walls_of ws) one (wall_of u) i m.0 m.2)

  pub held-along : line_holds (supporting_line (wall_of u)) (point_of p) ≡ true
  held-along = passes-holds (supporting_line (wall_of u)) from (passes-in (point_of u.at) from turn (zero-factor on-both.w (det turn (difference (point_of u.at) from)) (positive-not on-both.w m.3.below) (same (point_of u.at) from on-both turn ∙ zeros)))
    where
      on : det turn (difference (point_of u.at) on-both) ≡ pos 0
      on = on-line (walls_of ws) one (wall_of u) i m.0 m.2 (code-point ws m.0 m.2) on-both m.5

      moved : det turn (difference from on-both) ≡ pos 0
      moved =
          both-along turn (difference from on-both) (vector_of d) d.primitive (det-zero-back (vector_of d) turn parallel-along)
          (det-zero-back (vector_of d) (difference from on-both) (beyond-test from (vector_of d) on-both p.reduced.below m.3.below (direction-not_origin (vector_of d) d.primitive) m.4).0)

      same : (a o q : Point) (x : Exp) → q.w *ℤ det x (difference a o) ≡ o.w *ℤ det x (difference a q) -ℤ a.w *ℤ det x (difference o q)
      same a o q x =
          ring ints_ring (a.x ∷ a.y ∷ a.w ∷ o.x ∷ o.y ∷ o.w ∷ q.x ∷ q.y ∷ q.w ∷ x.a ∷ x.b ∷ [])
          (var 8 :* (var 9 :* (var 4 :* Z :- Y :* var 5) :- var 10 :* (var 3 :* Z :- X :* var 5)))
          (var 5 :* (var 9 :* (var 7 :* Z :- Y :* var 8) :- var 10 :* (var 6 :* Z :- X :* var 8)) :- Z :* (var 9 :* (var 7 :* var 5 :- var 4 :* var 8) :- var 10 :* (var 6 :* var 5 :- var 3 :* var 8))) refl

      zeros : from.w *ℤ det turn (difference (point_of u.at) on-both) -ℤ (point_of u.at).w *ℤ det turn (difference from on-both) ≡ pos 0
      zeros = (λ i. from.w *ℤ on i -ℤ (point_of u.at).w *ℤ moved i) ∙ none from.w (point_of u.at).w
        where
          none : (a b : ℤ) → a *ℤ pos 0 -ℤ b *ℤ pos 0 ≡ pos 0
          none a b = omega (arith, ints)

-- ---- points that the code compares field by field

module _ (a b : Point) where
  abbrev equal : Bool
  equal = test_eq a.x b.x && (test_eq a.y b.y && test_eq a.w b.w)

  pub equal-point : equal ≡ true → a ≡ b
  equal-point e =
      let yw = and-right (test_eq a.x b.x) (test_eq a.y b.y && test_eq a.w b.w) e in
      let x = same a.x b.x (and-left (test_eq a.x b.x) (test_eq a.y b.y && test_eq a.w b.w) e) in
      let y = same a.y b.y (and-left (test_eq a.y b.y) (test_eq a.w b.w) yw) in
      let w = same a.w b.w (and-right (test_eq a.y b.y) (test_eq a.w b.w) yw) in
      λ i. record { x = x i; y = y i; w = w i }
    where
      same : (x y : ℤ) → test_eq x y ≡ true → x ≡ y
      same x y e = grind (arith, ints)

  pub point-equal : a ≡ b → equal ≡ true
  point-equal e = subst (λ (c : Point). (test_eq a.x c.x && (test_eq a.y c.y && test_eq a.w c.w)) ≡ true) e (and-in (test_eq a.x a.x) (test_eq a.y a.y && test_eq a.w a.w) (own a.x) (and-in (test_eq a.y a.y) (test_eq a.w a.w) (own a.y) (own a.w)))
    where
      own : (x : ℤ) → test_eq x x ≡ true
      own x = grind (arith, ints)

-- ---- run after run

pub no-marks_yet : (ls : List Wall) (p : Point) (e : Exp) → AreMarks ls [] p e [] [] false
no-marks_yet ls p e = record { found = none-found p e; each = tt; along = tt; all = λ w q i. absurd i }

pub along-more : (rs : List Run) (r : Run) → all_along (rs ++ r ∷ []) ≡ all_along rs ++ walls_of r.now
along-more rs r = flat_map-append (λ (a : Run). walls_of a.now) rs (r ∷ []) ∙ ap (λ us. all_along rs ++ us) (append-nil (walls_of r.now))

module _ (ls seen g : List Wall) (p : Point) (e : Exp) (rs : List Run) (old new : List Mark) (told more : Bool) (h : AreMarks ls seen p e rs old told) (k : AddsMarks ls g p e old new more) (r : IsRunOf ls g) where
  abbrev IsOwn : List Run → Type 0
  IsOwn ts = (w : Wall) (q : Point) → In w g → IsPoint q → Beyond p e q → IsTrue (is_on w q) → det w.dir e ≡ pos 0 → In w (all_along ts)

  with-runs : (ts : List Run) → ((w : Wall) → In w (all_along rs) → In w (all_along ts)) → Every (λ a. IsRunOf ls (walls_of a.now)) ts → IsOwn ts → AreMarks ls (seen ++ g) p e ts new (told || more)
  with-runs ts keeps each own = record {
    found = found-more seen g p e (marked old) (marked new) told more h.found k.found;
    each = k.more.each r h.each;
    along = each;
    all = λ w q i pt n b o. go w q pt n b o (In-append seen g w i);
  }
    where
      again : (w : Wall) (q : Point) → In w (all_along rs) ⊎ IsMarkedAt old q w → In w (all_along ts) ⊎ IsMarkedAt new q w
      again w q (inl i) = inl (keeps w i)
      again w q (inr m) = inr (m.0, k.more.keeps m.0 m.1, m.2, m.3)

      go : (w : Wall) (q : Point) → IsPoint q → IsNear q → Beyond p e q → IsTrue (is_on w q) → In w seen ⊎ In w g → In w (all_along ts) ⊎ IsMarkedAt new q w
      go w q pt n b o (inl i) = again w q (h.all w q i pt n b o)
      go w q pt n b o (inr i) = turned (zero-or-not (det w.dir e))
        where
          turned : (det w.dir e ≡ pos 0) ⊎ (det w.dir e ≢ pos 0) → In w (all_along ts) ⊎ IsMarkedAt new q w
          turned (inl z) = inl (own w q i pt b o z)
          turned (inr z) = inr (k.all w q i n (pt, b, o, z))

  -- a run that doesn't lie along the stretch
  pub crossing-more : (HasParallelAhead g p e → ⊥) → AreMarks ls (seen ++ g) p e rs new (told || more)
  crossing-more n = with-runs rs (λ w i. i) h.along (λ w q i pt b o z. absurd (n (w, q, i, pt, b, o, z)))

  -- one that may
  pub lying-more : (a : Run) → walls_of a.now ≡ g → AreMarks ls (seen ++ g) p e (rs ++ a ∷ []) new (told || more)
  lying-more a f = with-runs (rs ++ a ∷ []) (λ w i. subst (In w) (sym (along-more rs a)) (In-left (all_along rs) (walls_of a.now) w i))
      (Every-append (λ (t : Run). IsRunOf ls (walls_of t.now)) rs (a ∷ []) h.along (subst (IsRunOf ls) (sym f) r, tt))
      (λ w q i pt b o z. subst (In w) (sym (along-more rs a)) (In-right (all_along rs) (walls_of a.now) w (subst (In w) (sym f) i)))

-- ---- sorted

pub every-among : {A : Type 0} (P : A → Type 0) (xs ys : List A) → ((x : A) → In x ys → In x xs) → Every P xs → Every P ys
every-among P xs ys within h = Every-from_In P ys (λ x i. Every-at P xs x h (within x i))

pub moved-each : {A : Type 0} (P : A → Type 0) (old new : List A) → IsPermutation old new → Every P old → Every P new
moved-each P old new m h = every-among P old new (λ x i. In-permutation new old x (IsPermutation-sym old new m) i) h

pub sorted-marks : (ls : List Wall) (p : Point) (e : Exp) (rs : List Run) (old new : List Mark) (told : Bool) → AreMarks ls ls p e rs old told → IsPermutation old new → IsSorted mark_order new → AreMarksOf ls p e rs new told
sorted-marks ls p e rs old new told h m s = record {
  marks = record {
    found = permuted-found ls p e (marked old) (marked new) told h.found (IsPermutation-map (λ (y : Mark). y.at) old new m);
    each = moved-each (IsMark ls) old new m h.each;
    along = h.along;
    all = λ w q i pt n b o. go w q (h.all w q i pt n b o);
  };
  sorted = s;
}
  where
    go : (w : Wall) (q : Point) → In w (all_along rs) ⊎ IsMarkedAt old q w → In w (all_along rs) ⊎ IsMarkedAt new q w
    go w q (inl i) = inl i
    go w q (inr k) = inr (k.0, In-permutation old new k.0 m k.1, k.2, k.3)

-- the walls of all runs
pub marks-of_runs : (ls : List Wall) (qs : List LiveRun) (p : Point) (e : Exp) (rs : List Run) (ms : List Mark) (told : Bool) → AreLiveRunsOf ls qs → AreMarks ls (all_walls qs) p e rs ms told → AreMarks ls ls p e rs ms told
marks-of_runs ls qs p e rs ms told r h = record {
  found = same-found ls (all_walls qs) p e (marked ms) told r.all (runs-within ls qs r) h.found;
  each = h.each;
  along = h.along;
  all = λ w q i pt n b o. h.all w q (r.all w i) pt n b o;
}

-- ---- one more of a list

pub all_along-more : (rs : List Run) (i : ℕ) (r : Run) → i < length rs → r ≡ get_or rs i r → all_along (take (i + 1) rs) ≡ all_along (take i rs) ++ walls_of r.now
all_along-more rs i r l e = ap all_along (take_more rs i r l ∙ ap (λ (x : Run). take i rs ++ x ∷ []) (sym e)) ∙ along-more (take i rs) r

pub all_marked-more : (ms : List Mark) (i : ℕ) (m : Mark) → i < length ms → m ≡ get_or ms i m → all_marked (take (i + 1) ms) ≡ all_marked (take i ms) ++ mark_walls m
all_marked-more ms i m l e =
    ap all_marked (take_more ms i m l ∙ ap (λ (x : Mark). take i ms ++ x ∷ []) (sym e))
    ∙ flat_map-append mark_walls (take i ms) (m ∷ []) ∙ ap (λ us. all_marked (take i ms) ++ us) (append-nil (mark_walls m))

-- each of them is along one line
pub lines-ahead : (ls : List Wall) (p : Point) (e : Exp) (rs : List Run) (ms : List Mark) (told : Bool) → AreMarksOf ls p e rs ms told → AreLinesAhead rs ms
lines-ahead ls p e rs ms told h = record {
  along = Every-implies (λ (a : Run). IsRunOf ls (walls_of a.now)) (λ (a : Run). IsOneLine (walls_of a.now)) rs (λ a r. run-line ls (walls_of a.now) r) h.marks.along;
  marks = Every-implies (IsMark ls) (λ (m : Mark). IsOneLine (mark_walls m)) ms (λ m k. run-line ls (mark_walls m) k.run) h.marks.each;
}
