-- The active points can be listed in order, so the list of the corrections at all of them exists.
use Rattle.std.proofs.Common.{◌≡◌, ℕ, refl, subst, sym, ap, List, [], ◌∷◌, ◌++◌, map, Bool, true, false, ◌+◌, inl, inr, ◌⊎◌}
use Rattle.std.specs.Prelude.{filter, IsTrue}
use Rattle.scattering.specs.Collections.{In, Every, EveryPair}
use Rattle.scattering.specs.Plane.{Point, IsPoint, point_before}
use Rattle.scattering.specs.Wall.{Wall, IsWall, walls, is_on, are_parallel}
use Rattle.scattering.specs.ActivePoint.{is_active}
use Rattle.scattering.specs.Correction.{Lie, IsCorrection, IsWhole, Corrections, raised}
use Rattle.scattering.proofs.Lists.{Every-from_In, Every-at, Every-append, Every-filter, filter-keeps, filter-from, In-mapped, In-left, In-right, Every-implies}
use Rattle.scattering.proofs.Keys.{point_eq-same}
use Rattle.scattering.proofs.WallTests.{on-line, not-parallel}
use Rattle.plane_theory.proofs.PointOrder.{before-total, before-trans}
use Rattle.plane_theory.proofs.CommonPoints.{IsCommon, common, common-unique}
use Rattle.completion_theory.proofs.RaisedDiagram.{lift_wall, lifted}
use Rattle.completion_theory.proofs.ActivePoints.{CrossesAt, EntersAt, active-out, lift-place}
use Rattle.completion_theory.proofs.CorrectionExists.{correction_exists}
use Rattle.completion_theory.specs.Laws.{CorrectionsExist}

-- ---- a list of points in order

record Ordered (ps : List Point) : Type 0 where
  points : List Point
  proper : Every IsPoint points
  sorted : EveryPair (λ p q. IsTrue (point_before p q)) points
  from : (p : Point) → In p points → In p ps
  into : (p : Point) → In p ps → In p points

-- a point more, in its place
record Placed (p : Point) (ps : List Point) : Type 0 where
  points : List Point
  proper : Every IsPoint points
  sorted : EveryPair (λ p q. IsTrue (point_before p q)) points
  lower : (s : Point) → IsTrue (point_before s p) → Every (λ q. IsTrue (point_before s q)) ps → Every (λ q. IsTrue (point_before s q)) points
  from : (q : Point) → In q points → (q ≡ p) ⊎ In q ps
  here : In p points
  into : (q : Point) → In q ps → In q points

place : (p : Point) → IsPoint p → (ps : List Point) → Every IsPoint ps → EveryPair (λ p q. IsTrue (point_before p q)) ps → Placed p ps
place p ip [] h s = record { points = p ∷ []; proper = (ip, tt); sorted = (tt, tt); lower = λ s l k. (l, tt); from = λ q i. i; here = inl refl; into = λ q i. absurd i }
place p ip (q ∷ ps) h s = go (before-total p q ip h.0) (place p ip ps h.1 s.1)
  where
    go : (p ≡ q) ⊎ (IsTrue (point_before p q) ⊎ IsTrue (point_before q p)) → Placed p ps → Placed p (q ∷ ps)
    go (inl e) r = record { points = q ∷ ps; proper = h; sorted = s; lower = λ s l k. k; from = λ r i. inr i; here = inl e; into = λ r i. i }
    go (inr (inl l)) r = record {
      points = p ∷ q ∷ ps;
      proper = (ip, h);
      sorted = ((l, Every-from_In _ ps (λ x i. before-trans p q x ip.below h.0.below (Every-at IsPoint ps x h.1 i).below l (Every-at (λ y. IsTrue (point_before q y)) ps x s.0 i))), s);
      lower = λ s l k. (l, k);
      from = λ r i. i;
      here = inl refl;
      into = λ r i. inr i;
    }
    go (inr (inr l)) r = record {
      points = q ∷ r.points;
      proper = (h.0, r.proper);
      sorted = (r.lower q l s.0, r.sorted);
      lower = λ s l k. (k.0, r.lower s l k.1);
      from = λ x i. out x i;
      here = inr r.here;
      into = λ x i. back x i;
    }
      where
        out : (x : Point) → In x (q ∷ r.points) → (x ≡ p) ⊎ In x (q ∷ ps)
        out x (inl e) = inr (inl e)
        out x (inr i) = which (r.from x i)
          where
            which : (x ≡ p) ⊎ In x ps → (x ≡ p) ⊎ In x (q ∷ ps)
            which (inl e) = inl e
            which (inr j) = inr (inr j)

        back : (x : Point) → In x (q ∷ ps) → In x (q ∷ r.points)
        back x (inl e) = inl e
        back x (inr i) = inr (r.into x i)

ordered : (ps : List Point) → Every IsPoint ps → Ordered ps
ordered [] h = record { points = []; proper = tt; sorted = tt; from = λ p i. i; into = λ p i. i }
ordered (p ∷ ps) h =
    let r = ordered ps h.1 in
    let s = place p h.0 r.points r.proper r.sorted in
    record { points = s.points; proper = s.proper; sorted = s.sorted; from = λ q i. out r s q (s.from q i); into = λ q i. back r s q i }
  where
    out : (r : Ordered ps) (s : Placed p r.points) (q : Point) → (q ≡ p) ⊎ In q r.points → In q (p ∷ ps)
    out r s q (inl e) = inl e
    out r s q (inr i) = inr (r.from q i)

    back : (r : Ordered ps) (s : Placed p r.points) (q : Point) → In q (p ∷ ps) → In q s.points
    back r s q (inl e) = subst (λ (x : Point). In x s.points) (sym e) s.here
    back r s q (inr i) = s.into q (r.into q i)

-- ---- the common points of walls

abbrev AtPoint : Wall → Type 0
AtPoint w = IsPoint w.at

-- points among which are the common points of each of the first walls and each of the second
record Candidates (us vs : List Wall) : Type 0 where
  points : List Point
  proper : Every IsPoint points
  all : (u v : Wall) → In u us → In v vs → are_parallel u v ≡ false → (p : Point) → IsPoint p → is_on u p ≡ true → is_on v p ≡ true → In p points

-- of one wall with each of the others
with-each : (u : Wall) → AtPoint u → (vs : List Wall) → Every AtPoint vs → (ps : List Point) × Every IsPoint ps × ((v : Wall) → In v vs → are_parallel u v ≡ false → (p : Point) → IsPoint p → is_on u p ≡ true → is_on v p ≡ true → In p ps)
with-each u iu [] h = ([], tt, λ v i. absurd i)
with-each u iu (v ∷ vs) h = go (are_parallel u v) refl (with-each u iu vs h.1)
  where
    go : (b : Bool) → are_parallel u v ≡ b → (ps : List Point) × Every IsPoint ps × ((w : Wall) → In w vs → are_parallel u w ≡ false → (p : Point) → IsPoint p → is_on u p ≡ true → is_on w p ≡ true → In p ps)
        → (ps : List Point) × Every IsPoint ps × ((w : Wall) → In w (v ∷ vs) → are_parallel u w ≡ false → (p : Point) → IsPoint p → is_on u p ≡ true → is_on w p ≡ true → In p ps)
    go true e r = (r.0, r.1, each)
      where
        each : (w : Wall) → In w (v ∷ vs) → are_parallel u w ≡ false → (p : Point) → IsPoint p → is_on u p ≡ true → is_on w p ≡ true → In p r.0
        each w (inl q) f = let g : are_parallel u v ≡ false = subst (λ (x : Wall). are_parallel u x ≡ false) q f in absurd (cc)
        each w (inr i) f = r.2 w i f
    go false e r =
        let c = common u.at u.dir v.at v.dir iu h.0 (not-parallel u v e) in
        (c.0 ∷ r.0, (c.1.point, r.1), each c.0 c.1)
      where
        each : (q : Point) → IsCommon u.at u.dir v.at v.dir q → (w : Wall) → In w (v ∷ vs) → are_parallel u w ≡ false → (p : Point) → IsPoint p → is_on u p ≡ true → is_on w p ≡ true → In p (q ∷ r.0)
        each q c w (inl s) f p ip a b =
            inl (common-unique u.at u.dir v.at v.dir p q iu h.0 (not-parallel u v e) (record { point = ip; first = on-line u p a; second = on-line v p (subst (λ (x : Wall). is_on x p ≡ true) s b) }) c)
        each q c w (inr i) f p ip a b = inr (r.2 w i f p ip a b)

candidates : (us vs : List Wall) → Every AtPoint us → Every AtPoint vs → Candidates us vs
candidates [] vs h k = record { points = []; proper = tt; all = λ u v i. absurd i }
candidates (u ∷ us) vs h k =
    let a = with-each u h.0 vs k in
    let r = candidates us vs h.1 k in
    record { points = a.0 ++ r.points; proper = Every-append IsPoint a.0 r.points a.1 r.proper; all = λ w v i j. each a.0 a.2 r w v i j }
  where
    each : (ps : List Point) → ((v : Wall) → In v vs → are_parallel u v ≡ false → (p : Point) → IsPoint p → is_on u p ≡ true → is_on v p ≡ true → In p ps) → (r : Candidates us vs)
        → (w v : Wall) → In w (u ∷ us) → In v vs → are_parallel w v ≡ false → (p : Point) → IsPoint p → is_on w p ≡ true → is_on v p ≡ true → In p (ps ++ r.points)
    each ps f r w v (inl q) j e p ip a b = In-left ps r.points p (f v j (subst (λ (x : Wall). are_parallel x v ≡ false) q e) p ip (subst (λ (x : Wall). is_on x p ≡ true) q a) b)
    each ps f r w v (inr i) j e p ip a b = In-right ps r.points p (r.all w v i j e p ip a b)

-- ---- the active points, in order

record ActiveList (k : ℕ) (ws : List Wall) : Type 0 where
  points : List Point
  proper : Every IsPoint points
  sorted : EveryPair (λ p q. IsTrue (point_before p q)) points
  active : Every (λ p. IsTrue (is_active k ws p)) points
  all : (p : Point) → IsPoint p → IsTrue (is_active k ws p) → In p points

starts : (ws : List Wall) → Every AtPoint ws → Every IsPoint (map (λ (w : Wall). w.at) ws)
starts [] h = tt
starts (w ∷ ws) h = (h.0, starts ws h.1)

active-list : (k : ℕ) (ws : List Wall) → Every AtPoint ws → ActiveList k ws
active-list k ws h = record {
  points = r.points;
  proper = r.proper;
  sorted = r.sorted;
  active = Every-from_In _ r.points (λ p i. (filter-from (is_active k ws) found p (r.from p i)).1);
  all = λ p ip e. r.into p (filter-keeps (is_active k ws) found p (found-in p ip (active-out k ws p e)) e);
}
  where
    c : Candidates ws ws
    c = candidates ws ws h h

    found : List Point
    found = c.points ++ map (λ (w : Wall). w.at) ws

    r : Ordered (filter (is_active k ws) (c.points ++ map (λ (w : Wall). w.at) ws))
    r = ordered (filter (is_active k ws) found) (Every-filter IsPoint (is_active k ws) found (Every-append IsPoint c.points (map (λ (w : Wall). w.at) ws) c.proper (starts ws h)))

    found-in : (p : Point) → IsPoint p → CrossesAt k ws p ⊎ EntersAt k ws p → In p (c.points ++ map (λ (w : Wall). w.at) ws)
    found-in p ip (inl x) = In-left c.points _ p (c.all x.u x.v x.u_in x.v_in x.across p ip x.u_on x.v_on)
    found-in p ip (inr x) = In-right c.points _ p (subst (λ (q : Point). In q (map (λ (w : Wall). w.at) ws)) (point_eq-same x.w.at p x.at) (In-mapped (λ (w : Wall). w.at) ws x.w x.w_in))

-- ---- the corrections

lifted-points : (n j m : ℕ) (given rays : List Wall) → Every (IsWall m) given → Every AtPoint rays → Every AtPoint (lifted n j given rays)
lifted-points n j m given rays hg hr = Every-append AtPoint (map (lift_wall n j) given) rays (at given hg) hr
  where
    at : (ws : List Wall) → Every (IsWall m) ws → Every AtPoint (map (lift_wall n j) ws)
    at [] h = tt
    at (w ∷ ws) h = (subst IsPoint (sym (lift-place n j w).at) h.0.point, at ws h.1)

-- a list with something at each of its points
record WithEach (P : Point → Lie → Type 0) (ps : List Point) : Type 0 where
  items : Corrections
  points : map (λ (c : Point × Lie). c.0) items ≡ ps
  each : Every (λ c. P c.0 c.1) items

choose : (P : Point → Lie → Type 0) (ps : List Point) → ((p : Point) → In p ps → (h : Lie) × P p h) → WithEach P ps
choose P [] f = record { items = []; points = refl; each = tt }
choose P (p ∷ ps) f =
    let r = choose P ps (λ q i. f q (inr i)) in
    let h = f p (inl refl) in
    record { items = (p, h.0) ∷ r.items; points = ap (λ qs. p ∷ qs) r.points; each = (h.1, r.each) }

pairs-back : {A B : Type 0} (g : A → B) (R : B → B → Type 0) (xs : List A) → EveryPair R (map g xs) → EveryPair (λ x y. R (g x) (g y)) xs
pairs-back {A = A} g R [] h = tt
pairs-back {A = A} g R (x ∷ xs) h = (back xs h.0, pairs-back g R xs h.1)
  where
    back : (ys : List A) → Every (R (g x)) (map g ys) → Every (λ y. R (g x) (g y)) ys
    back [] k = tt
    back (y ∷ ys) k = (k.0, back ys k.1)

pub corrections_exist : CorrectionsExist
corrections_exist given n m e le hg hk c = (
  r.items,
  record {
    each = Every-implies _ _ r.items (λ c h. (h.0, h.1, h.2.0)) r.each;
    all = λ p ip a. subst (In p) (sym r.points) (l.all p ip a);
    sorted = pairs-back (λ (c : Point × Lie). c.0) (λ p q. IsTrue (point_before p q)) r.items (subst (EveryPair (λ p q. IsTrue (point_before p q))) (sym r.points) l.sorted);
  },
  Every-implies _ _ r.items (λ c h. h.2.1) r.each,
)
  where
    l : ActiveList (n + 1) (walls (raised given n e))
    l = active-list (n + 1) (walls (raised given n e)) (lifted-points n (n + 1) m given e.rays hg (Every-implies _ AtPoint e.rays (λ r w. w.point) c.proper))

    r : WithEach (λ p h. IsPoint p × IsTrue (is_active (n + 1) (walls (raised given n e)) p) × (IsCorrection (walls (raised given n e)) p (n + 1) h × Every IsWhole h)) l.points
    r = choose _ l.points (λ p i.
        let ip = Every-at IsPoint l.points p l.proper i in
        let h = correction_exists given n m e p le hg hk c ip in
        (h.0, (ip, Every-at _ l.points p l.active i, (h.1, h.2))))
