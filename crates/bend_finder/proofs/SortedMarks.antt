-- Marks in the order of their points, and what is found at those before a place.
use Rattle.std.proofs.Common.{◌≡◌, ℕ, zero, suc, ◌+◌, ◌-◌, ◌<◌, length, get_or, take, drop, refl, sym, ap, subst, ◌∙◌, Bool, true, false, is_lt, List, [], ◌∷◌, ◌++◌, ◌⊎◌, inl, inr, arith}
use Rattle.std.specs.Prelude.{IsTrue, Option}
use Rattle.std.specs.List.Sorted.{IsSorted}
use Rattle.std.proofs.lemmas.List.{take-append-drop, take_all, length-drop}
use Rattle.std.proofs.Math.Seq.{take-add}
use Rattle.scattering.specs.Collections.{In, Every, EveryPair}
use Rattle.scattering.specs.Series.{Exp}
use Rattle.scattering.specs.Plane.{Point, point_before}
use Rattle.scattering.specs.Wall.{Wall}
use Rattle.scattering.specs.BrokenLine.{Bend}
use Rattle.scattering.proofs.Lists.{Every-append, Every-at, Every-from_In, Every-implies, In-append, In-left, In-right, In-map, In-mapped, map-append}
use Rattle.plane_theory.proofs.PointOrder.{before-trans, before-irrefl, before-total}
use Rattle.plane_geom.specs.declared.Point.{Point as CodePoint}
use Rattle.plane_geom.specs.Shown.{point_of}
use Rattle.joint_finder.specs.Joints.{points_of}
use Rattle.joint_finder.proofs.Lists.{In-drop, In-take}
use Rattle.bend_finder.specs.declared.marks.Mark.{Mark}
use Rattle.bend_finder.specs.declared.kept_runs.KeptRuns.{KeptRuns}
use Rattle.bend_finder.specs.Bends.{AreBends, IsFirstSpecial}
use Rattle.bend_finder.specs.KeptRuns.{AreKeptRuns}
use Rattle.bend_finder.specs.Marks.{marked, mark_walls, mark_order, Run, all_along, all_marked, IsMark, IsMarkedAt, AreMarksOf, IsCountAt, IsFirstSpot, AreBeforeFirst, AreReadyMarks}
use Rattle.bend_finder.specs.Runs.{IsRunOf}
use Rattle.bend_finder.proofs.MarkedRuns.{every-among}

-- ---- the order

abbrev NotAfter : Mark → Mark → Type 0
NotAfter a b = (point_of a.at ≡ point_of b.at) ⊎ IsTrue (point_before (point_of a.at) (point_of b.at))

not-after : (a b : Mark) → is_lt (mark_order b a) ≡ false → NotAfter a b
not-after a b e = go (before-total (point_of a.at) (point_of b.at) a.at.reduced b.at.reduced)
  where
    go : (point_of a.at ≡ point_of b.at) ⊎ (IsTrue (point_before (point_of a.at) (point_of b.at)) ⊎ IsTrue (point_before (point_of b.at) (point_of a.at))) → NotAfter a b
    go (inl s) = inl s
    go (inr (inl l)) = inr l
    go (inr (inr g)) = absurd (let f = lesser (point_before (point_of b.at) (point_of a.at)) refl g in absurd (cc))
      where
        lesser : (c : Bool) → point_before (point_of b.at) (point_of a.at) ≡ c → c ≡ true → is_lt (mark_order b a) ≡ true
        lesser true f g = rw f refl
        lesser false f g = absurd (cc)

then-before : (a b c : Mark) → IsTrue (point_before (point_of a.at) (point_of b.at)) → NotAfter b c → IsTrue (point_before (point_of a.at) (point_of c.at))
then-before a b c l (inl s) = subst (λ (q : Point). IsTrue (point_before (point_of a.at) q)) s l
then-before a b c l (inr m) = before-trans (point_of a.at) (point_of b.at) (point_of c.at) a.at.reduced.below b.at.reduced.below c.at.reduced.below l m

then-after : (a b c : Mark) → NotAfter a b → NotAfter b c → NotAfter a c
then-after a b c (inl s) h = subst (λ (q : Point). (q ≡ point_of c.at) ⊎ IsTrue (point_before q (point_of c.at))) (sym s) h
then-after a b c (inr l) h = inr (then-before a b c l h)

in-order : (ms : List Mark) → IsSorted mark_order ms → EveryPair NotAfter ms
in-order [] h = tt
in-order (a ∷ []) h = (tt, tt)
in-order (a ∷ b ∷ ms) h =
    let rest = in-order (b ∷ ms) (λ k d l u. subst (λ (j : ℕ). is_lt (mark_order (get_or (a ∷ b ∷ ms) j d) (get_or (b ∷ ms) k d)) ≡ false) (next k) (h (suc k) d (omega arith) (omega (arith, u)))) in
    let first = not-after a b (h 0 a (omega arith) (omega arith)) in
    ((first, Every-implies (NotAfter b) (NotAfter a) ms (λ c n. then-after a b c first n) rest.0), rest)
  where
    next : (k : ℕ) → suc k + 1 ≡ suc (k + 1)
    next k = omega arith

rest-pairs : (ms : List Mark) (n : ℕ) → EveryPair NotAfter ms → EveryPair NotAfter (drop n ms)
rest-pairs ms zero h = h
rest-pairs [] (suc n) h = tt
rest-pairs (m ∷ ms) (suc n) h = rest-pairs ms n h.1

-- what stands after the marks at one point is at later points
later : (ms : List Mark) (m : Mark) (rest : List Mark) → ms ≡ m ∷ rest → EveryPair NotAfter ms → (n : ℕ) → IsCountAt ms (point_of m.at) n → (x : Mark) → In x (drop n ms) → IsTrue (point_before (point_of m.at) (point_of x.at))
later ms m rest e pairs n h x i = go (drop n ms) refl i
  where
    from : (y : Mark) → In y ms → NotAfter m y
    from y j = of (subst (In y) e j)
      where
        of : (y ≡ m) ⊎ In y rest → NotAfter m y
        of (inl s) = inl (ap (λ (z : Mark). point_of z.at) (sym s))
        of (inr k) = Every-at (NotAfter m) rest y (subst (EveryPair NotAfter) e pairs).0 k

    go : (us : List Mark) → drop n ms ≡ us → In x us → IsTrue (point_before (point_of m.at) (point_of x.at))
    go [] f j = absurd j
    go (u ∷ us) f j = on j
      where
        over : IsTrue (point_before (point_of m.at) (point_of u.at))
        over = strict (from u (In-drop ms n u (subst (In u) (sym f) (inl refl))))
          where
            strict : NotAfter m u → IsTrue (point_before (point_of m.at) (point_of u.at))
            strict (inl s) = absurd (h.other u us f (sym s))
            strict (inr l) = l

        on : (x ≡ u) ⊎ In x us → IsTrue (point_before (point_of m.at) (point_of x.at))
        on (inl s) = subst (λ (y : Mark). IsTrue (point_before (point_of m.at) (point_of y.at))) (sym s) over
        on (inr k) = then-before m u x over (Every-at (NotAfter u) us x (subst (EveryPair NotAfter) f (rest-pairs ms n pairs)).0 k)

-- ---- parts of lists

drop-none : {A : Type 0} (k : ℕ) → drop {A = A} k [] ≡ []
drop-none zero = refl
drop-none (suc k) = refl

drop-more : {A : Type 0} (xs : List A) (i n : ℕ) → drop (i + n) xs ≡ drop n (drop i xs)
drop-more xs zero n = ap (λ (k : ℕ). drop k xs) (none n)
  where
    none : (n : ℕ) → 0 + n ≡ n
    none n = omega arith
drop-more [] (suc i) n = drop-none (suc i + n) ∙ sym (drop-none n)
drop-more (x ∷ xs) (suc i) n = ap (λ (k : ℕ). drop k (x ∷ xs)) (next i n) ∙ drop-more xs i n
  where
    next : (i n : ℕ) → suc i + n ≡ suc (i + n)
    next i n = omega arith

in-parts : {A : Type 0} (xs : List A) (i : ℕ) (x : A) → In x xs → In x (take i xs) ⊎ In x (drop i xs)
in-parts xs i x j = In-append (take i xs) (drop i xs) x (subst (In x) (sym (take-append-drop i xs)) j)

-- ---- what is found before a place

pub record AreTurned (n : ℕ) (ls : List Wall) (x : Exp) (ms : List Mark) (i : ℕ) (bs : List (Bend × ℕ)) (o : Option CodePoint) (k : KeptRuns) : Type 0 where
  pub bends : AreBends n ls x (points_of (marked (take i ms))) bs
  pub special : IsFirstSpecial ls (marked (take i ms)) o
  pub kept : AreKeptRuns ls k
  pub before : (m : Mark) → In m (drop i ms) → Every (λ q. IsTrue (point_before q (point_of m.at))) (points_of (marked (take i ms)))

module _ (ls : List Wall) (k : KeptRuns) (rs : List Run) (ms : List Mark) (ready : AreReadyMarks ls k rs ms) (i : ℕ) (before : (m : Mark) → In m (drop i ms) → Every (λ q. IsTrue (point_before q (point_of m.at))) (points_of (marked (take i ms)))) where
  all : AreMarksOf ls ready.marks.0 ready.marks.1 rs ms ready.marks.2
  all = ready.marks.3

  pairs : EveryPair NotAfter (drop i ms)
  pairs = rest-pairs ms i (in-order ms all.sorted)

  pub before-first : AreBeforeFirst (points_of (marked (take i ms))) (drop i ms)
  before-first m rest e = before m (subst (In m) (sym e) (inl refl))

  pub first-spot : IsFirstSpot ls rs (drop i ms)
  first-spot n m rest e h = record {
    live = ready.live;
    runs = record { along = all.marks.along; marks = every-among (λ (y : Mark). IsRunOf ls (mark_walls y)) ms (take n (drop i ms)) (λ y j. In-drop ms i y (In-take (drop i ms) n y j)) (Every-implies (IsMark ls) (λ (y : Mark). IsRunOf ls (mark_walls y)) ms (λ y j. j.run) all.marks.each) };
    all = λ w j o. go w (all.marks.all w q j m.at.reduced m.at.near (all.marks.found.each q listed).1 o);
  }
    where
      q : Point
      q = point_of m.at

      first : In m (drop i ms)
      first = subst (In m) (sym e) (inl refl)

      listed : In (point_of m.at) (points_of (marked ms))
      listed = In-mapped point_of (marked ms) m.at (In-mapped (λ (y : Mark). y.at) ms m (In-drop ms i m first))

      here : (y : Mark) → In y ms → point_of y.at ≡ point_of m.at → In y (take n (drop i ms))
      here y j s = part (in-parts ms i y j)
        where
          part : In y (take i ms) ⊎ In y (drop i ms) → In y (take n (drop i ms))
          part (inl a) =
              let l = Every-at (λ q. IsTrue (point_before q (point_of m.at))) (points_of (marked (take i ms))) (point_of y.at) (before m first) (In-mapped point_of (marked (take i ms)) y.at (In-mapped (λ (z : Mark). z.at) (take i ms) y a)) in
              absurd (before-irrefl (point_of m.at) (subst (λ (r : Point). IsTrue (point_before r (point_of m.at))) s l))
          part (inr a) = rest-part (in-parts (drop i ms) n y a)
            where
              rest-part : In y (take n (drop i ms)) ⊎ In y (drop n (drop i ms)) → In y (take n (drop i ms))
              rest-part (inl b) = b
              rest-part (inr b) = absurd (before-irrefl (point_of m.at) (subst (λ (r : Point). IsTrue (point_before (point_of m.at) r)) s (later (drop i ms) m rest e pairs n h y b)))

      among : (w : Wall) (ys : List Mark) (y : Mark) → In y ys → In w (mark_walls y) → In w (all_marked ys)
      among w [] y j k = absurd j
      among w (z ∷ ys) y (inl s) k = In-left (mark_walls z) (all_marked ys) w (subst (λ (v : Mark). In w (mark_walls v)) s k)
      among w (z ∷ ys) y (inr j) k = In-right (mark_walls z) (all_marked ys) w (among w ys y j k)

      go : (w : Wall) → In w (all_along rs) ⊎ IsMarkedAt ms (point_of m.at) w → In w (all_along rs ++ all_marked (take n (drop i ms)))
      go w (inl j) = In-left (all_along rs) (all_marked (take n (drop i ms))) w j
      go w (inr y) = In-right (all_along rs) (all_marked (take n (drop i ms))) w (among w (take n (drop i ms)) y.0 (here y.0 y.1 y.2) y.3)

  -- those after the next point are later than all
  module _ (n : ℕ) (m : Mark) (rest : List Mark) (e : drop i ms ≡ m ∷ rest) (h : IsCountAt (drop i ms) (point_of m.at) n) where
    pub before-next : (x : Mark) → In x (drop (i + n) ms) → Every (λ q. IsTrue (point_before q (point_of x.at))) (points_of (marked (take (i + n) ms)))
    before-next x j =
        subst (λ (us : List Mark). Every (λ q. IsTrue (point_before q (point_of x.at))) (points_of (marked us))) (sym (take-add i n ms))
        (subst (Every (λ q. IsTrue (point_before q (point_of x.at)))) (sym joined) (Every-append (λ q. IsTrue (point_before q (point_of x.at))) (points_of (marked (take i ms))) (points_of (marked (take n (drop i ms)))) (before x (In-drop (drop i ms) n x late)) (Every-from_In _ (points_of (marked (take n (drop i ms)))) own)))
      where
        late : In x (drop n (drop i ms))
        late = subst (In x) (drop-more ms i n) j

        joined : points_of (marked (take i ms ++ take n (drop i ms))) ≡ points_of (marked (take i ms)) ++ points_of (marked (take n (drop i ms)))
        joined = ap points_of (map-append (λ (y : Mark). y.at) (take i ms) (take n (drop i ms))) ∙ map-append point_of (marked (take i ms)) (marked (take n (drop i ms)))

        own : (q : Point) → In q (points_of (marked (take n (drop i ms)))) → IsTrue (point_before q (point_of x.at))
        own q a =
            let b = In-map point_of (marked (take n (drop i ms))) q a in
            let c = In-map (λ (y : Mark). y.at) (take n (drop i ms)) b.0 b.1 in
            subst (λ (r : Point). IsTrue (point_before r (point_of x.at))) (sym (b.2 ∙ ap point_of c.2 ∙ Every-at (λ (y : Mark). point_of y.at ≡ point_of m.at) (take n (drop i ms)) c.0 h.same c.1))
            (later (drop i ms) m rest e pairs n h x late)

    pub turned-more : (most : ℕ) (x : Exp) (bs : List (Bend × ℕ)) (o : Option CodePoint) (kept : KeptRuns) → AreBends most ls x (points_of (marked (take i ms)) ++ points_of (marked (take n (drop i ms)))) bs
        → IsFirstSpecial ls (marked (take i ms) ++ marked (take n (drop i ms))) o → AreKeptRuns ls kept → AreTurned most ls x ms (i + n) bs o kept
    turned-more most x bs o kept b s f = record {
      bends = subst (λ (us : List Mark). AreBends most ls x (points_of (marked us)) bs) (sym (take-add i n ms))
          (subst (λ (qs : List Point). AreBends most ls x qs bs) (sym (ap points_of (map-append (λ (y : Mark). y.at) (take i ms) (take n (drop i ms))) ∙ map-append point_of (marked (take i ms)) (marked (take n (drop i ms))))) b);
      special = subst (λ (us : List Mark). IsFirstSpecial ls (marked us) o) (sym (take-add i n ms)) (subst (λ (ps : List CodePoint). IsFirstSpecial ls ps o) (sym (map-append (λ (y : Mark). y.at) (take i ms) (take n (drop i ms)))) s);
      kept = f;
      before = before-next;
    }

pub first-at : (ms : List Mark) (i : ℕ) → i < length ms → (m : Mark) × (rest : List Mark) × (drop i ms ≡ m ∷ rest)
first-at [] i l = absurd (omega (arith, l))
first-at (m ∷ ms) zero l = (m, ms, refl)
first-at (m ∷ ms) (suc i) l = first-at ms i (omega (arith, l))

-- as the code names the runs and the marks from a place on
module _ (ms us : List Mark) (f : us ≡ ms) (i : ℕ) where
  pub same-rest : take (length us - i) (drop i us) ≡ drop i ms
  same-rest = take_all (length us - i) (drop i us) (let e = length-drop i us in omega (arith, e)) ∙ ap (drop i) f

  pub spot-along : (ls : List Wall) (rs ts : List Run) → ts ≡ rs → IsFirstSpot ls rs (drop i ms) → IsFirstSpot ls ts (take (length us - i) (drop i us))
  spot-along ls rs ts e h = subst (λ (vs : List Run). IsFirstSpot ls vs (take (length us - i) (drop i us))) (sym e) (subst (IsFirstSpot ls rs) (sym same-rest) h)

  pub before-along : (qs : List Point) → AreBeforeFirst qs (drop i ms) → AreBeforeFirst qs (take (length us - i) (drop i us))
  before-along qs h = subst (AreBeforeFirst qs) (sym same-rest) h
