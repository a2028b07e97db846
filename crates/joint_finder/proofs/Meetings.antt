-- Points where live walls meet, collected.
use Rattle.std.proofs.Common.{◌≡◌, ◌≢◌, ℕ, ◌+◌, ◌<◌, ◌≤◌, ◌-◌, refl, sym, ap, subst, ◌∙◌, List, [], ◌∷◌, ◌++◌, length, get_or, take, drop, Bool, true, false, arith, ◌⊎◌, inl, inr}
use Rattle.std.specs.Prelude.{pos, nat_lt}
use Rattle.std.specs.List.{Contains}
use Rattle.std.specs.List.Sorted.{IsNonDecreasingBy}
use Rattle.std.proofs.lemmas.Int.{ints}
use Rattle.std.proofs.lemmas.List.{get_or-drop, get_or_default, length-drop}
use Rattle.std.proofs.Math.Seq.{take-length}
use Rattle.sum_algebra.proofs.Ring.{nought, ring}
use Rattle.sum_algebra.proofs.IntegerRing.{ints_ring, ◌:*◌, ◌:-◌, X, Y}
use Rattle.scattering.specs.Collections.{In}
use Rattle.scattering.specs.Series.{Exp, det}
use Rattle.scattering.specs.Plane.{Point, IsPoint}
use Rattle.scattering.proofs.Lists.{In-append, In-left, In-right, map-append}
use Rattle.plane_theory.proofs.CommonPoints.{common-unique}
use Rattle.plane_geom.specs.declared.Point.{Point as CodePoint}
use Rattle.plane_geom.specs.declared.Support.{Support}
use Rattle.plane_geom.specs.declared.Support.TheVariants.{Line, Half}
use Rattle.plane_geom.specs.Shown.{point_of, support_at, support_dir, OnSupport}
use Rattle.plane_geom.proofs.Meets.{flat, det-back}
use Rattle.scatter_diagram.specs.declared.stop.Stop.{Stop}
use Rattle.scatter_diagram.specs.declared.stop.Stop.TheVariants.{At, Memory}
use Rattle.joint_finder.specs.declared.live.LiveWall.{LiveWall}
use Rattle.joint_finder.specs.Joints.{points_of}
use Rattle.joint_finder.specs.Crossings.{Meets, MeetsOne, AreMeeting, Adds, StopsFar, Met}
use Rattle.joint_finder.specs.Strands.{OfSome}
use Rattle.joint_finder.proofs.Lists.{in-at, place-of, In-parts, In-take, In-drop, In-get, In-more, In-more_same, In-more_old}

-- ---- two walls

support-point : (s : Support) → IsPoint (support_at s)
support-point (Line p d) = p.reduced
support-point (Half p d) = p.reduced

-- supports that aren't parallel have one common point at most
pub one-point : (s t : Support) (p q : Point) → IsPoint p → IsPoint q → det (support_dir s) (support_dir t) ≢ pos 0 → OnSupport s p → OnSupport t p → OnSupport s q → OnSupport t q → p ≡ q
one-point s t p q i j n a b c d =
    common-unique (support_at s) (support_dir s) (support_at t) (support_dir t) p q (support-point s) (support-point t) n (record { point = i; first = flat s p i.below a; second = flat t p i.below b })
    (record { point = j; first = flat s q j.below c; second = flat t q j.below d })

pub one-meeting : (n : ℕ) (l m : LiveWall) (p q : Point) → IsPoint p → IsPoint q → Meets n l m p → Meets n l m q → p ≡ q
one-meeting n l m p q i j h k = one-point l.support m.support p q i j h.crossing h.first h.second k.first k.second

pub adds-one : (P : Point → Type 0) (old : List CodePoint) (p : CodePoint) → P (point_of p) → ((q : Point) → IsPoint q → P q → q ≡ point_of p) → Adds P old (old ++ p ∷ [])
adds-one P old p h u = record {
  keeps = λ q i. subst (In q) (sym joined) (In-left (points_of old) (point_of p ∷ []) q i);
  each = λ q i. go q (In-append (points_of old) (point_of p ∷ []) q (subst (In q) joined i));
  all = λ q i k. subst (In q) (sym joined) (In-right (points_of old) (point_of p ∷ []) q (inl (u q i k)));
}
  where
    joined : points_of (old ++ p ∷ []) ≡ points_of old ++ point_of p ∷ []
    joined = map-append point_of old (p ∷ [])

    go : (q : Point) → In q (points_of old) ⊎ In q (point_of p ∷ []) → In q (points_of old) ⊎ P q
    go q (inl i) = inl i
    go q (inr (inl e)) = inr (subst P (sym e) h)
    go q (inr (inr f)) = absurd f

-- ---- one step after another

pub adds-then : (P Q R : Point → Type 0) (a b c : List CodePoint) → ((p : Point) → P p → R p) → ((p : Point) → Q p → R p) → ((p : Point) → R p → P p ⊎ Q p) → Adds P a b → Adds Q b c → Adds R a c
adds-then P Q R a b c f g s h k = record {
  keeps = λ p i. k.keeps p (h.keeps p i);
  each = λ p i. first p (k.each p i);
  all = λ p i r. all p i (s p r);
}
  where
    second : (p : Point) → In p (points_of a) ⊎ P p → In p (points_of a) ⊎ R p
    second p (inl i) = inl i
    second p (inr x) = inr (f p x)

    first : (p : Point) → In p (points_of b) ⊎ Q p → In p (points_of a) ⊎ R p
    first p (inl i) = second p (h.each p i)
    first p (inr x) = inr (g p x)

    all : (p : Point) → IsPoint p → P p ⊎ Q p → In p (points_of c)
    all p i (inl x) = k.keeps p (h.all p i x)
    all p i (inr x) = k.all p i x

pub adds-same : (P Q : Point → Type 0) (a b : List CodePoint) → ((p : Point) → P p → Q p) → ((p : Point) → Q p → P p) → Adds P a b → Adds Q a b
adds-same P Q a b f g h = record { keeps = h.keeps; each = λ p i. go p (h.each p i); all = λ p i q. h.all p i (g p q) }
  where
    go : (p : Point) → In p (points_of a) ⊎ P p → In p (points_of a) ⊎ Q p
    go p (inl i) = inl i
    go p (inr x) = inr (f p x)

pub stops-with : (n : ℕ) (P Q : Point → Type 0) (s : Stop) → ((p : Point) → IsPoint p → P p → Q p) → StopsFar n P s → StopsFar n Q s
stops-with n P Q (At o c) f h = (h.0, h.1, (h.2.0, h.2.1, f h.2.0 h.2.1 h.2.2, h.2.3))
stops-with n P Q Memory f h = tt

-- ---- a list, element by element

-- one element more
pub some-more : {A : Type 0} (Q : A → Point → Type 0) (x : A) (xs : List A) (i : ℕ) (a b c : List CodePoint) → i < length xs → x ≡ get_or xs i x → Adds (OfSome Q (take i xs)) a b → Adds (Q x) b c → Adds (OfSome Q (take (i + 1) xs)) a c
some-more Q x xs i a b c lt e h k =
    adds-then (OfSome Q (take i xs)) (Q x) (OfSome Q (take (i + 1) xs)) a b c (λ p y. (y.0, In-more_old xs i x y.0 lt e y.1, y.2)) (λ p y. (x, In-more_same xs i x lt e, y)) (λ p y. go p y (In-more xs i x y.0 lt e y.1)) h k
  where
    go : (p : Point) (y : OfSome Q (take (i + 1) xs) p) → In y.0 (take i xs) ⊎ (y.0 ≡ x) → OfSome Q (take i xs) p ⊎ Q x p
    go p y (inl j) = inl (y.0, j, y.2)
    go p y (inr q) = inr (subst (λ z. Q z p) q y.2)

-- in walls sorted by least degree, those from a place on have no lower one
later-degree : (ms : List LiveWall) (i : ℕ) (m x : LiveWall) → IsNonDecreasingBy (λ l. l.degree) ms → i < length ms → m ≡ get_or ms i m → In x (drop i ms) → m.degree ≤ x.degree
later-degree ms i m x s lt e h =
    let c = place-of (drop i ms) x h in
    let n = length-drop i ms in
    let g : get_or ms (i + c.0) x ≡ x = sym (get_or-drop i ms c.0 x) ∙ c.2 in
    let f : get_or ms i x ≡ m = get_or_default ms i x m lt ∙ sym e in
    let d : (get_or ms i x).degree ≤ (get_or ms (i + c.0) x).degree = s i (i + c.0) x (omega arith) (omega (arith, n, c.1)) in
    subst (λ (y : LiveWall). m.degree ≤ y.degree) g (subst (λ (y : LiveWall). y.degree ≤ (get_or ms (i + c.0) x).degree) f d)

-- where the wall at i doesn't fit, no later one does
pub meets-all : (n : ℕ) (l m : LiveWall) (ms : List LiveWall) (i : ℕ) (a b : List CodePoint) → IsNonDecreasingBy (λ l. l.degree) ms → i < length ms → m ≡ get_or ms i m → (l.degree + m.degree ≤ n → ⊥) → Adds (MeetsOne n l (take i ms)) a b → Adds (MeetsOne n l ms) a b
meets-all n l m ms i a b s lt e f h = adds-same (MeetsOne n l (take i ms)) (MeetsOne n l ms) a b (λ p x. (x.0, In-take ms i x.0 x.1, x.2)) (λ p x. go p x (In-parts ms i x.0 x.1)) h
  where
    go : (p : Point) (x : MeetsOne n l ms p) → In x.0 (take i ms) ⊎ In x.0 (drop i ms) → MeetsOne n l (take i ms) p
    go p x (inl j) = (x.0, j, x.2)
    go p x (inr j) = absurd (f (let d = later-degree ms i m x.0 s lt e j in let q = x.2.fits in omega (arith, d, q)))

pub sorted-drop : (ms : List LiveWall) (k : ℕ) → IsNonDecreasingBy (λ l. l.degree) ms → IsNonDecreasingBy (λ l. l.degree) (drop k ms)
sorted-drop ms k s = λ i j d h lt. let n = length-drop k ms in rw (get_or-drop k ms i d, get_or-drop k ms j d) (s (k + i) (k + j) d (omega (arith, h)) (omega (arith, n, lt)))

pub rest-all : (ms : List LiveWall) (k : ℕ) → take (length ms - k) (drop k ms) ≡ drop k ms
rest-all ms k = ap (λ n. take n (drop k ms)) (sym (length-drop k ms)) ∙ take-length (drop k ms)

-- ---- all pairs

pub one-of-all : (n i : ℕ) (ls : List LiveWall) (l : LiveWall) (p : Point) → i < length ls → l ≡ get_or ls i l → MeetsOne n l (drop (i + 1) ls) p → AreMeeting n ls p
one-of-all n i ls l p lt e x = (l, In-get ls i l lt e, (x.0, In-drop ls (i + 1) x.0 x.1, x.2))

pub met-none : (n : ℕ) (ls : List LiveWall) → Met n 0 ls []
met-none n ls = record { each = λ p i. absurd i; all = λ k l lt e p i x. absurd (omega (arith, lt)) }

pub met-more : (n i : ℕ) (ls : List LiveWall) (l : LiveWall) (a b : List CodePoint) → i < length ls → l ≡ get_or ls i l → Met n i ls a → Adds (MeetsOne n l (drop (i + 1) ls)) a b → Met n (i + 1) ls b
met-more n i ls l a b lt e h k = record { each = λ p j. each p (k.each p j); all = λ j m c q p r x. all j m q p r x (below j c) }
  where
    each : (p : Point) → In p (points_of a) ⊎ MeetsOne n l (drop (i + 1) ls) p → AreMeeting n ls p
    each p (inl j) = h.each p j
    each p (inr x) = one-of-all n i ls l p lt e x

    below : (j : ℕ) → j < i + 1 → (j < i) ⊎ (j ≡ i)
    below j c = go (nat_lt j i) refl
      where
        go : (b : Bool) → nat_lt j i ≡ b → (j < i) ⊎ (j ≡ i)
        go true f = inl (grind arith)
        go false f = inr (grind (arith, c))

    all : (j : ℕ) (m : LiveWall) → m ≡ get_or ls j m → (p : Point) → IsPoint p → MeetsOne n m (drop (j + 1) ls) p → (j < i) ⊎ (j ≡ i) → In p (points_of b)
    all j m q p r x (inl c) = k.keeps p (h.all j m c q p r x)
    all j m q p r x (inr c) =
        let same : m ≡ l = q ∙ ap (λ s. get_or ls s m) c ∙ get_or_default ls i m l lt ∙ sym e in
        k.all p r (subst (λ (o : LiveWall). MeetsOne n o (drop (i + 1) ls) p) same (subst (λ (s : ℕ). MeetsOne n m (drop (s + 1) ls) p) c x))

pub det-self : (d : Exp) → det d d ≡ pos 0
det-self d = ring ints_ring (d.a ∷ d.b ∷ []) (X :* Y :- Y :* X) nought refl

pub meets-back : (n : ℕ) (l m : LiveWall) (p : Point) → Meets n l m p → Meets n m l p
meets-back n l m p h = record {
  fits = let f = h.fits in omega (arith, f);
  crossing = λ e. h.crossing (let b = det-back (support_dir l.support) (support_dir m.support) in omega (arith, ints, b, e));
  first = h.second;
  second = h.first;
}

apart : (n : ℕ) (l m : LiveWall) (p : Point) → l ≡ m → Meets n l m p → ⊥
apart n l m p e h = h.crossing (ap (λ (o : LiveWall). det (support_dir l.support) (support_dir o.support)) (sym e) ∙ det-self (support_dir l.support))

pub after : {A : Type 0} (ls : List A) (k j : ℕ) (o : A) → k < j → j < length ls → get_or ls j o ≡ o → In o (drop (k + 1) ls)
after ls k j o h lt e =
    let n = length-drop (k + 1) ls in
    let q : (k + 1) + (j - (k + 1)) ≡ j = omega (arith, h) in
    in-at (drop (k + 1) ls) o (j - (k + 1), omega (arith, n, h, lt), get_or-drop (k + 1) ls (j - (k + 1)) o ∙ ap (λ s. get_or ls s o) q ∙ e)

pub three : (k j : ℕ) → (k < j) ⊎ ((j < k) ⊎ (k ≡ j))
three k j = side (nat_lt k j) refl (nat_lt j k) refl
  where
    side : (b : Bool) → nat_lt k j ≡ b → (b' : Bool) → nat_lt j k ≡ b' → (k < j) ⊎ ((j < k) ⊎ (k ≡ j))
    side true e b' e' = inl (grind arith)
    side false e true e' = inr (inl (grind arith))
    side false e false e' = inr (inr (grind arith))

pub met-all : (n i : ℕ) (ls : List LiveWall) (ps : List CodePoint) → length ls ≤ i → Met n i ls ps → Adds (AreMeeting n ls) [] ps
met-all n i ls ps full h = record { keeps = λ p j. absurd j; each = λ p j. inr (h.each p j); all = λ p r x. all p r x (place-of ls x.0 x.1) (place-of ls x.2.0 x.2.1) }
  where
    all : (p : Point) → IsPoint p → (x : AreMeeting n ls p) → Contains ls x.0 → Contains ls x.2.0 → In p (points_of ps)
    all p r x c d = go (three c.0 d.0)
      where
        go : (c.0 < d.0) ⊎ ((d.0 < c.0) ⊎ (c.0 ≡ d.0)) → In p (points_of ps)
        go (inl l) = h.all c.0 x.0 (let s = c.1 in omega (arith, s, full)) (sym c.2) p r (x.2.0, after ls c.0 d.0 x.2.0 l d.1 d.2, x.2.2)
        go (inr (inl l)) = h.all d.0 x.2.0 (let s = d.1 in omega (arith, s, full)) (sym d.2) p r (x.0, after ls d.0 c.0 x.0 l c.1 c.2, meets-back n x.0 x.2.0 p x.2.2)
        go (inr (inr e)) = absurd (apart n x.0 x.2.0 p (sym c.2 ∙ ap (λ s. get_or ls s x.0) e ∙ get_or_default ls d.0 x.0 x.2.0 d.1 ∙ d.2) x.2.2)
