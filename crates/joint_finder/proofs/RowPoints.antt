-- The points of all rows are where strands meet.
use Rattle.std.proofs.Common.{◌≡◌, ℕ, zero, suc, ◌+◌, ◌-◌, ◌<◌, ◌≤◌, refl, sym, ap, subst, ◌∙◌, List, [], ◌∷◌, ◌++◌, length, get_or, take, map, arith, ◌⊎◌, inl, inr, Bool, true, false, Vec, Ok, Err, drop}
use Rattle.std.specs.Prelude.{IsTrue, nat_lt, slice_index_or, IfOk, IfErr, MatchResult}
use Rattle.std.specs.Global.{Global}
use Rattle.std.specs.List.{AllZip, Contains, range_with_len}
use Rattle.std.specs.declared.result.Result.{Result}
use Rattle.std.proofs.lemmas.List.{get_or_default, take_more, append-nil}
use Rattle.std.proofs.lemmas.List.Concat.{flat_map-append}
use Rattle.rayon.specs.Numbers.{nat_range}
use Rattle.scattering.specs.Collections.{In, Every}
use Rattle.scattering.specs.Series.{det}
use Rattle.scattering.specs.Plane.{Point, IsPoint}
use Rattle.scattering.proofs.Lists.{Every-at, Every-from_In, In-append, In-left, In-right, map-append}
use Rattle.scatter_diagram.specs.declared.stop.Stop.{Stop}
use Rattle.plane_geom.specs.declared.Point.{Point as CodePoint}
use Rattle.plane_geom.specs.Shown.{point_of, support_dir}
use Rattle.joint_finder.specs.declared.strands.Strand.{Strand}
use Rattle.joint_finder.specs.Joints.{points_of}
use Rattle.joint_finder.specs.Crossings.{Adds, StopsFar}
use Rattle.joint_finder.specs.Strands.{IsFacing, MeetsAny, MeetsRow, MeetsPairs, IsRowAt, joined, others_at}
use Rattle.joint_finder.proofs.FacingStrands.{hulls-cross}
use Rattle.joint_finder.proofs.Lists.{In-drop, place-of, in-at, In-get}
use Rattle.joint_finder.proofs.Meetings.{stops-with, meets-back, det-self, after, three}

-- ---- places

lower : (a i : ℕ) → nat_lt a i ≡ true → a + 1 ≤ i
lower a i e = grind arith

same : (a i : ℕ) → nat_lt a i ≡ false → a ≤ i → i ≡ a
same a i e l = grind arith

in-range : (a k i : ℕ) → a ≤ i → i < a + k → In i (range_with_len a k)
in-range a zero i l h = absurd (omega (arith, l, h))
in-range a (suc k) i l h = go (nat_lt a i) refl (λ m. in-range (a + 1) k i m (omega (arith, h)))
  where
    go : (b : Bool) → nat_lt a i ≡ b → (a + 1 ≤ i → In i (range_with_len (a + 1) k)) → In i (a ∷ range_with_len (a + 1) k)
    go true e f = inr (f (lower a i e))
    go false e f = inl (same a i e l)

range-below : (a k i : ℕ) → In i (range_with_len a k) → i < a + k
range-below a zero i h = absurd h
range-below a (suc k) i (inl e) = omega (arith, e)
range-below a (suc k) i (inr h) = let l = range-below (a + 1) k i h in omega (arith, l)

-- ---- whom a strand meets

-- at some place a strand meets others of its row
pub record SomeRow (again : Bool) (n : ℕ) (ss ts : List Strand) (p : Point) : Type 0 where
  pub place : ℕ
  pub below : place < length ss
  pub strand : Strand
  pub is : strand ≡ get_or ss place strand
  pub meets : MeetsRow n strand (others_at again place ts) p

others-in : (again : Bool) (n i : ℕ) (s : Strand) (ts : List Strand) (p : Point) → MeetsRow n s (others_at again i ts) p → MeetsRow n s ts p
others-in true n i s ts p x = (x.0, In-drop ts (i + 1) x.0 x.1, x.2)
others-in false n i s ts p x = x

pub every-other : (again : Bool) (P : Strand → Type 0) (i : ℕ) (ts : List Strand) → Every P ts → Every P (others_at again i ts)
every-other true P i ts h = Every-from_In P (drop (i + 1) ts) (λ t j. Every-at P ts t h (In-drop ts (i + 1) t j))
every-other false P i ts h = h

-- walls of one strand don't meet
no-strand : (n : ℕ) (s t : Strand) (p : Point) → s ≡ t → IsFacing n s t → MeetsAny n s.walls.now t.walls.now p → ⊥
no-strand n s t p e f x = hulls-cross n s t f p x (ap (λ (u : Strand). det (support_dir s.hull) (support_dir u.hull)) (sym e) ∙ det-self (support_dir s.hull))

-- of two strands of one list, the first meets the second in its row
later-row : (n : ℕ) (ss : List Strand) (p : Point) → Every (λ s. Every (IsFacing n s) ss) ss → (x : MeetsPairs n ss ss p) → SomeRow true n ss ss p
later-row n ss p facing x = go (place-of ss x.0 x.1) (place-of ss x.2.0 x.2.1)
  where
    met : MeetsAny n x.0.walls.now x.2.0.walls.now p
    met = x.2.2

    go : Contains ss x.0 → Contains ss x.2.0 → SomeRow true n ss ss p
    go c d = which (three c.0 d.0)
      where
        which : (c.0 < d.0) ⊎ ((d.0 < c.0) ⊎ (c.0 ≡ d.0)) → SomeRow true n ss ss p
        which (inl l) = record { place = c.0; below = c.1; strand = x.0; is = sym c.2; meets = (x.2.0, after ss c.0 d.0 x.2.0 l d.1 d.2, met) }
        which (inr (inl l)) =
            record { place = d.0; below = d.1; strand = x.2.0; is = sym d.2; meets = (x.0, after ss d.0 c.0 x.0 l c.1 c.2, (met.2.0, met.2.1, (met.0, met.1, meets-back n met.0 met.2.0 p met.2.2))) }
        which (inr (inr e)) =
            let same : x.0 ≡ x.2.0 = sym c.2 ∙ ap (λ k. get_or ss k x.0) e ∙ get_or_default ss d.0 x.0 x.2.0 d.1 ∙ d.2 in
            absurd (no-strand n x.0 x.2.0 p same (Every-at (IsFacing n x.0) ss x.2.0 (Every-at (λ s. Every (IsFacing n s) ss) ss x.0 facing x.1) x.2.1) met)

some-row : (again : Bool) (n : ℕ) (ss ts : List Strand) (p : Point) → (IsTrue again → ts ≡ ss) → Every (λ s. Every (IsFacing n s) ts) ss → MeetsPairs n ss ts p → SomeRow again n ss ts p
some-row false n ss ts p same facing x = let c = place-of ss x.0 x.1 in record { place = c.0; below = c.1; strand = x.0; is = sym c.2; meets = x.2 }
some-row true n ss ts p same facing x =
    let e = same refl in
    subst (λ us. SomeRow true n ss us p) (sym e)
    (later-row n ss p (subst (λ us. Every (λ s. Every (IsFacing n s) us) ss) e facing) (subst (λ us. MeetsPairs n ss us p) e x))

-- ---- rows

module _ (again : Bool) (n : ℕ) (ss ts : List Strand) where
  -- the point is where the strand at the place meets the others
  abbrev pub MetAt : ℕ → Point → Type 0
  MetAt i p = (s : Strand) × (s ≡ slice_index_or ss i s) × MeetsRow n s (others_at again i ts) p

  points-joined : (y : Vec CodePoint Global) (ys : List (Vec CodePoint Global)) → points_of (joined (y ∷ ys)) ≡ points_of y.items ++ points_of (joined ys)
  points-joined y ys = map-append point_of y.items (joined ys)

  pub rows-each : (is : List ℕ) (ys : List (Vec CodePoint Global)) → AllZip (IsRowAt again n ss ts) is (map Ok ys) → (p : Point) → In p (points_of (joined ys)) → (i : ℕ) × In i is × MetAt i p
  rows-each [] [] z p h = absurd h
  rows-each (i ∷ is) [] z p h = absurd h
  rows-each [] (y ∷ ys) z p h = absurd z
  rows-each (i ∷ is) (y ∷ ys) z p h = go (In-append (points_of y.items) (points_of (joined ys)) p (subst (In p) (points-joined y ys) h)) (λ j. rows-each is ys z.1 p j)
    where
      go : In p (points_of y.items) ⊎ In p (points_of (joined ys)) → (In p (points_of (joined ys)) → (k : ℕ) × In k is × MetAt k p) → (k : ℕ) × In k (i ∷ is) × MetAt k p
      go (inl j) f = (i, inl refl, (z.0.0, z.0.1, met (z.0.2.points.each p j)))
        where
          met : In p (points_of []) ⊎ MeetsRow n z.0.0 (others_at again i ts) p → MeetsRow n z.0.0 (others_at again i ts) p
          met (inl f) = absurd f
          met (inr m) = m
      go (inr j) f = let r = f j in (r.0, inr r.1, r.2)

  pub rows-all : (is : List ℕ) (ys : List (Vec CodePoint Global)) → AllZip (IsRowAt again n ss ts) is (map Ok ys) → (i : ℕ) → In i is
      → (s : Strand) × (s ≡ slice_index_or ss i s) × ((p : Point) → IsPoint p → MeetsRow n s (others_at again i ts) p → In p (points_of (joined ys)))
  rows-all [] ys z i h = absurd h
  rows-all (k ∷ is) [] z i h = absurd z
  rows-all (k ∷ is) (y ∷ ys) z i (inl e) =
      (z.0.0, z.0.1 ∙ ap (λ j. slice_index_or ss j z.0.0) (sym e), λ p q m. subst (In p) (sym (points-joined y ys)) (In-left (points_of y.items) (points_of (joined ys)) p (z.0.2.points.all p q (subst (λ j. MeetsRow n z.0.0 (others_at again j ts) p) e m))))
  rows-all (k ∷ is) (y ∷ ys) z i (inr h) =
      let r = rows-all is ys z.1 i h in
      (r.0, r.1, λ p q m. subst (In p) (sym (points-joined y ys)) (In-right (points_of y.items) (points_of (joined ys)) p (r.2 p q m)))

  row-stops : (is : List ℕ) (rs : List (Result (Vec CodePoint Global) Stop)) (e : Stop) → AllZip (IsRowAt again n ss ts) is rs → In (Err e) rs → (i : ℕ) × In i is × IsRowAt again n ss ts i (Err e)
  row-stops [] [] e z h = absurd h
  row-stops (i ∷ is) [] e z h = absurd h
  row-stops [] (r ∷ rs) e z h = absurd z
  row-stops (i ∷ is) (r ∷ rs) e z (inl q) = (i, inl refl, subst (IsRowAt again n ss ts i) (sym q) z.0)
  row-stops (i ∷ is) (r ∷ rs) e z (inr h) = let t = row-stops is rs e z.1 h in (t.0, inr t.1, t.2)

  pub rows-points : (IsTrue again → ts ≡ ss) → Every (λ s. Every (IsFacing n s) ts) ss → (ys : List (Vec CodePoint Global)) → AllZip (IsRowAt again n ss ts) (nat_range 0 (length ss)) (map Ok ys) → Adds (MeetsPairs n ss ts) [] (joined ys)
  rows-points same facing ys z = record { keeps = λ p i. absurd i; each = λ p i. inr (each p i); all = all }
    where
      each : (p : Point) → In p (points_of (joined ys)) → MeetsPairs n ss ts p
      each p i =
          let r = rows-each (nat_range 0 (length ss)) ys z p i in
          let l = range-below 0 (length ss - 0) r.0 r.1 in
          (r.2.0, In-get ss r.0 r.2.0 (omega (arith, l)) r.2.1, others-in again n r.0 r.2.0 ts p r.2.2)

      all : (p : Point) → IsPoint p → MeetsPairs n ss ts p → In p (points_of (joined ys))
      all p q x =
          let c = some-row again n ss ts p same facing x in
          let k = c.below in
          let r = rows-all (nat_range 0 (length ss)) ys z c.place (in-range 0 (length ss - 0) c.place (omega arith) (omega (arith, k))) in
          let e : r.0 ≡ c.strand = r.1 ∙ get_or_default ss c.place r.0 c.strand k ∙ sym c.is in
          r.2 p q (subst (λ (s : Strand). MeetsRow n s (others_at again c.place ts) p) (sym e) c.meets)

  pub rows-far : (rs : List (Result (Vec CodePoint Global) Stop)) (e : Stop) → AllZip (IsRowAt again n ss ts) (nat_range 0 (length ss)) rs → Contains rs (Err e) → StopsFar n (MeetsPairs n ss ts) e
  rows-far rs e z h =
      let r = row-stops (nat_range 0 (length ss)) rs e z (in-at rs (Err e) h) in
      let l = range-below 0 (length ss - 0) r.0 r.1 in
      let s = r.2.0 in
      stops-with n (MeetsRow n s (others_at again r.0 ts)) (MeetsPairs n ss ts) e (λ p i m. (s, In-get ss r.0 s (omega (arith, l)) r.2.1, others-in again n r.0 s ts p m)) r.2.2.far

  -- what threads collected of the rows
  pub collected : (IsTrue again → ts ≡ ss) → Every (λ s. Every (IsFacing n s) ts) ss → (is : List ℕ) (rs : List (Result (Vec CodePoint Global) Stop)) (r : Result (Vec (Vec CodePoint Global) Global) Stop) → is ≡ nat_range 0 (length ss) → AllZip (IsRowAt again n ss ts) is rs
      → MatchResult r (λ v. (ys : List (Vec CodePoint Global)) × (rs ≡ map Ok ys) × (v.items ≡ ys)) (λ e. Contains rs (Err e))
      → IfOk r (λ v. Adds (MeetsPairs n ss ts) [] (joined v.items)) × IfErr r (StopsFar n (MeetsPairs n ss ts))
  collected same facing is rs (Ok v) q z h = (
    subst (λ (ys : List (Vec CodePoint Global)). Adds (MeetsPairs n ss ts) [] (joined ys)) (sym h.2) (rows-points same facing h.0 (subst (λ (qs : List (Result (Vec CodePoint Global) Stop)). AllZip (IsRowAt again n ss ts) (nat_range 0 (length ss)) qs) h.1 (subst (λ (js : List ℕ). AllZip (IsRowAt again n ss ts) js rs) q z))),
    tt,
  )
  collected same facing is rs (Err e) q z h = (tt, rows-far rs e (subst (λ (js : List ℕ). AllZip (IsRowAt again n ss ts) js rs) q z) h)

-- the points of one row more
pub joined-more : (rows : List (Vec CodePoint Global)) (i : ℕ) (row : Vec CodePoint Global) → i < length rows → row ≡ get_or rows i row → joined (take (i + 1) rows) ≡ joined (take i rows) ++ row.items
joined-more rows i row lt e =
    ap joined (take_more rows i row lt ∙ ap (λ v. take i rows ++ v ∷ []) (sym e)) ∙ flat_map-append (λ (r : Vec CodePoint Global). r.items) (take i rows) (row ∷ []) ∙ ap (λ xs. joined (take i rows) ++ xs) (append-nil row.items)

pub joined-adds : (P : Point → Type 0) (old new add : List CodePoint) → Adds P [] add → new ≡ old ++ add → Adds P old new
joined-adds P old new add h e = record {
  keeps = λ p i. subst (In p) (sym whole) (In-left (points_of old) (points_of add) p i);
  each = λ p i. go p (In-append (points_of old) (points_of add) p (subst (In p) whole i));
  all = λ p i x. subst (In p) (sym whole) (In-right (points_of old) (points_of add) p (h.all p i x));
}
  where
    whole : points_of new ≡ points_of old ++ points_of add
    whole = ap points_of e ∙ map-append point_of old add

    added : (p : Point) → In p (points_of []) ⊎ P p → P p
    added p (inl f) = absurd f
    added p (inr x) = x

    go : (p : Point) → In p (points_of old) ⊎ In p (points_of add) → In p (points_of old) ⊎ P p
    go p (inl i) = inl i
    go p (inr i) = inr (added p (h.each p i))
