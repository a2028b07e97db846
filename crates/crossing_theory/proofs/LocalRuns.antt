-- The local product at a point is that of the walls in the order of their lines; and which runs are on a point.
use Rattle.std.proofs.Common.{◌≡◌, ◌≢◌, ℕ, suc, refl, sym, subst, ap, ◌∙◌, List, [], ◌∷◌, ◌++◌, Bool, true, false, not, cond, ◌⊎◌, inl, inr, arith}
use Rattle.std.specs.Prelude.{ℤ, pos, negsuc, zero, neg_ℤ, nat_abs, ◌-ℤ◌, ◌*ℤ◌, ◌≤ℤ◌, filter, flat_map, ◌&&◌, ◌||◌, int_lt}
use Rattle.std.specs.Int.{IsGcd}
use Rattle.std.proofs.lemmas.Int.{ints}
use Rattle.sum_algebra.proofs.Ring.{ring, minus}
use Rattle.sum_algebra.proofs.Ring as E
use Rattle.sum_algebra.proofs.IntegerRing.{ints_ring, ◌:+◌, ◌:*◌, ◌:-◌, X, Y, Z}
use Rattle.scattering.specs.Collections.{In, Every, put, in_order}
use Rattle.scattering.specs.Series.{Exp, det, scale, origin, int_eq, exp_eq, exp_before}
use Rattle.scattering.specs.Plane.{Point, IsDirection, difference}
use Rattle.scattering.specs.Wall.{Wall, IsWall, is_on, starts_at, allows}
use Rattle.scattering.specs.LocalProduct.{Half, along, halves, half_walls}
use Rattle.scattering.specs.SupportingLine.{SupportingLine, line_direction, offset, line_through, supporting_line, line_holds, same_line, wall_before, runs, supporting_lines, walls_along}
use Rattle.scattering.proofs.Lists.{Every-put, Every-in_order, Every-flat_map, Every-images, Every-implies, Every-filter, Every-at, and-left, and-right, and-in, not-true, not-out, bool_iff}
use Rattle.scattering.proofs.Keys.{exp_eq-same, exp_eq-refl, int_eq-same, same-exp}
use Rattle.plane_theory.proofs.WholeNumbers.{cancel, follows2}
use Rattle.plane_theory.proofs.Points.{minus-one}
use Rattle.plane_theory.proofs.Directions.{direction-not_origin}
use Rattle.plane_theory.proofs.AngleTies.{ties-are-multiples, multiples-equal}
use Rattle.plane_theory.proofs.Angles.{turned}
use Rattle.crossing_theory.proofs.CrossingLaws.{twice-negated}
use Rattle.crossing_theory.proofs.OtherFunctions.{before}
use Rattle.crossing_theory.proofs.SortingByAngle.{turns-trans, turns-asym}
use Rattle.scattering.specs.ActivePoint.{walls_on}
use Rattle.crossing_theory.proofs.SupportingLines.{same_line-ties, same_line-flip, HasWall, lines-have_walls}

-- ---- lines through a point

abbrev pub Passes : SupportingLine → Point → Type 0
Passes l p = l.over *ℤ p.w ≡ offset l.dir p *ℤ l.under

along-line : (da db qx qy qw px py pw : ℤ) → da *ℤ (py *ℤ qw -ℤ qy *ℤ pw) -ℤ db *ℤ (px *ℤ qw -ℤ qx *ℤ pw) ≡ (da *ℤ py -ℤ db *ℤ px) *ℤ qw -ℤ (da *ℤ qy -ℤ db *ℤ qx) *ℤ pw
along-line da db qx qy qw px py pw =
    ring ints_ring (da ∷ db ∷ qx ∷ qy ∷ qw ∷ px ∷ py ∷ pw ∷ [])
    (X :* (E.var 6 :* E.var 4 :- E.var 3 :* E.var 7) :- Y :* (E.var 5 :* E.var 4 :- Z :* E.var 7))
    ((X :* E.var 6 :- Y :* E.var 5) :* E.var 4 :- (X :* E.var 3 :- Y :* Z) :* E.var 7) refl

against-line : (da db qx qy qw px py pw : ℤ) → da *ℤ (py *ℤ qw -ℤ qy *ℤ pw) -ℤ db *ℤ (px *ℤ qw -ℤ qx *ℤ pw) ≡ (neg_ℤ da *ℤ qy -ℤ neg_ℤ db *ℤ qx) *ℤ pw -ℤ (neg_ℤ da *ℤ py -ℤ neg_ℤ db *ℤ px) *ℤ qw
against-line da db qx qy qw px py pw =
    ring ints_ring (da ∷ db ∷ qx ∷ qy ∷ qw ∷ px ∷ py ∷ pw ∷ [])
    (X :* (E.var 6 :* E.var 4 :- E.var 3 :* E.var 7) :- Y :* (E.var 5 :* E.var 4 :- Z :* E.var 7))
    ((minus X :* E.var 3 :- minus Y :* Z) :* E.var 7 :- (minus X :* E.var 6 :- minus Y :* E.var 5) :* E.var 4) refl

pub passes-in : (q p : Point) (d : Exp) → det d (difference q p) ≡ pos 0 → Passes (line_through q d) p
passes-in q p d z = go (exp_before origin d)
  where
    go : (b : Bool) → offset (cond b d (turned d)) q *ℤ p.w ≡ offset (cond b d (turned d)) p *ℤ q.w
    go true = let i = along-line d.a d.b q.x q.y q.w p.x p.y p.w in omega (arith, ints, i, z)
    go false = let i = against-line d.a d.b q.x q.y q.w p.x p.y p.w in omega (arith, ints, i, z)

pub passes-out : (q p : Point) (d : Exp) → Passes (line_through q d) p → det d (difference q p) ≡ pos 0
passes-out q p d h = go (exp_before origin d) h
  where
    go : (b : Bool) → offset (cond b d (turned d)) q *ℤ p.w ≡ offset (cond b d (turned d)) p *ℤ q.w → det d (difference q p) ≡ pos 0
    go true e = let i = along-line d.a d.b q.x q.y q.w p.x p.y p.w in omega (arith, ints, i, e)
    go false e = let i = against-line d.a d.b q.x q.y q.w p.x p.y p.w in omega (arith, ints, i, e)

-- two lines that are one pass the same points
moved : (d o u o' u' w : ℤ) → pos 1 ≤ℤ u → o *ℤ u' ≡ o' *ℤ u → o *ℤ w ≡ d *ℤ u → o' *ℤ w ≡ d *ℤ u'
moved d o u o' u' w h e f =
    cancel u (o' *ℤ w) (d *ℤ u') h
    (follows2 (u *ℤ (o' *ℤ w)) (u *ℤ (d *ℤ u')) (neg_ℤ w) (o *ℤ u') (o' *ℤ u) u' (o *ℤ w) (d *ℤ u) e f
    (ring ints_ring (d ∷ o ∷ u ∷ o' ∷ u' ∷ w ∷ []) (Z :* (E.var 3 :* E.var 5) :- Z :* (X :* E.var 4)) (minus (E.var 5) :* (Y :* E.var 4 :- E.var 3 :* Z) :+ E.var 4 :* (Y :* E.var 5 :- X :* Z)) refl))

pub passes-same : (l m : SupportingLine) (p : Point) → pos 1 ≤ℤ l.under → same_line l m ≡ true → Passes l p → Passes m p
passes-same l m p h e f =
    let d : l.dir ≡ m.dir = exp_eq-same l.dir m.dir (and-left (exp_eq l.dir m.dir) _ e) in
    let o : l.over *ℤ m.under ≡ m.over *ℤ l.under = int_eq-same _ _ (and-right (exp_eq l.dir m.dir) _ e) in
    subst (λ (c : Exp). m.over *ℤ p.w ≡ offset c p *ℤ m.under) d (moved (offset l.dir p) l.over l.under m.over m.under p.w h o f)

-- lines of one direction through a point are one
one : (d o u o' u' w : ℤ) → pos 1 ≤ℤ w → o *ℤ w ≡ d *ℤ u → o' *ℤ w ≡ d *ℤ u' → o *ℤ u' ≡ o' *ℤ u
one d o u o' u' w h e f =
    cancel w (o *ℤ u') (o' *ℤ u) h
    (follows2 (w *ℤ (o *ℤ u')) (w *ℤ (o' *ℤ u)) u' (o *ℤ w) (d *ℤ u) (neg_ℤ u) (o' *ℤ w) (d *ℤ u') e f
    (ring ints_ring (d ∷ o ∷ u ∷ o' ∷ u' ∷ w ∷ []) (E.var 5 :* (Y :* E.var 4) :- E.var 5 :* (E.var 3 :* Z)) (E.var 4 :* (Y :* E.var 5 :- X :* Z) :+ minus Z :* (E.var 3 :* E.var 5 :- X :* E.var 4)) refl))

numbers-same : (a b : ℤ) → a ≡ b → int_eq a b ≡ true
numbers-same a b e = grind (arith, ints)

pub one-line : (l m : SupportingLine) (p : Point) → pos 1 ≤ℤ p.w → l.dir ≡ m.dir → Passes l p → Passes m p → same_line l m ≡ true
one-line l m p h d e f =
    let g : m.over *ℤ p.w ≡ offset l.dir p *ℤ m.under = subst (λ (c : Exp). m.over *ℤ p.w ≡ offset c p *ℤ m.under) (sym d) f in
    and-in (exp_eq l.dir m.dir) _ (subst (λ (c : Exp). exp_eq l.dir c ≡ true) d (exp_eq-refl l.dir)) (numbers-same _ _ (one (offset l.dir p) l.over l.under m.over m.under p.w h e g))

holds-passes : (l : SupportingLine) (p : Point) → line_holds l p ≡ true → Passes l p
holds-passes l p e = int_eq-same _ _ e

pub passes-holds : (l : SupportingLine) (p : Point) → Passes l p → line_holds l p ≡ true
passes-holds l p e = numbers-same _ _ e

-- the test of a line is that of a determinant
pub holds-is : (w : Wall) (p : Point) → int_eq (det w.dir (difference w.at p)) (pos 0) ≡ line_holds (supporting_line w) p
holds-is w p =
    bool_iff _ _ (λ e. passes-holds (supporting_line w) p (passes-in w.at p w.dir (int_eq-same _ _ e)))
    (λ e. numbers-same _ _ (passes-out w.at p w.dir (holds-passes (supporting_line w) p e)))

pub on-passes : (w : Wall) (p : Point) → is_on w p ≡ true → Passes (supporting_line w) p
on-passes w p e = passes-in w.at p w.dir (int_eq-same _ _ (and-left (int_eq (det w.dir (difference w.at p)) (pos 0)) _ e))

-- ---- directions, turned round

by-one : (a : ℤ) → pos 1 *ℤ a ≡ a
by-one a = omega (arith, ints)

pub size-turned : (a : ℤ) → nat_abs (neg_ℤ a) ≡ nat_abs a
size-turned (pos zero) = refl
size-turned (pos (suc n)) = refl
size-turned (negsuc n) = refl

abbrev IsSide : ℤ → Type 0
IsSide s = (s ≡ pos 1) ⊎ (s ≡ negsuc 0)

sided : (s : ℤ) (d : Exp) → IsSide s → (scale s d ≡ d) ⊎ (scale s d ≡ turned d)
sided s d (inl e) = inl (ap (λ z. scale z d) e ∙ same-exp (scale (pos 1) d) d (by-one d.a) (by-one d.b))
sided s d (inr e) = inr (ap (λ z. scale z d) e ∙ same-exp (scale (negsuc 0) d) (turned d) (minus-one d.a) (minus-one d.b))

turned-direction : (d : Exp) → IsDirection d → IsDirection (turned d)
turned-direction d h = subst (λ n. IsGcd n (nat_abs (neg_ℤ d.b)) 1) (sym (size-turned d.a)) (subst (λ n. IsGcd (nat_abs d.a) n 1) (sym (size-turned d.b)) h)

sided-direction : (s : ℤ) (d : Exp) → IsSide s → IsDirection d → IsDirection (scale s d)
sided-direction s d k h = go (sided s d k)
  where
    go : (scale s d ≡ d) ⊎ (scale s d ≡ turned d) → IsDirection (scale s d)
    go (inl e) = subst IsDirection (sym e) h
    go (inr e) = subst IsDirection (sym e) (turned-direction d h)

leads : (a b : ℤ) → (a ≡ pos 0 → b ≡ pos 0 → ⊥) → (int_lt (pos 0) (neg_ℤ a) || (int_eq (pos 0) (neg_ℤ a) && int_lt (pos 0) (neg_ℤ b))) ≡ not (int_lt (pos 0) a || (int_eq (pos 0) a && int_lt (pos 0) b))
leads a b n = grind (arith, ints, n)

pub turned-line : (d : Exp) → d ≢ origin → line_direction (turned d) ≡ line_direction d
turned-line d n = go (exp_before origin d) refl
  where
    twice : turned (turned d) ≡ d
    twice = same-exp (turned (turned d)) d (twice-negated d.a) (twice-negated d.b)

    flipped : exp_before origin (turned d) ≡ not (exp_before origin d)
    flipped = leads d.a d.b (λ p q. n (same-exp d origin p q))

    go : (b : Bool) → exp_before origin d ≡ b → line_direction (turned d) ≡ cond b d (turned d)
    go true e = ap (λ (c : Bool). cond c (turned d) (turned (turned d))) (flipped ∙ ap not e) ∙ twice
    go false e = ap (λ (c : Bool). cond c (turned d) (turned (turned d))) (flipped ∙ ap not e)

sided-line : (s : ℤ) (d : Exp) → IsSide s → IsDirection d → line_direction (scale s d) ≡ line_direction d
sided-line s d k h = go (sided s d k)
  where
    go : (scale s d ≡ d) ⊎ (scale s d ≡ turned d) → line_direction (scale s d) ≡ line_direction d
    go (inl e) = ap line_direction e
    go (inr e) = ap line_direction e ∙ turned-line d (direction-not_origin d h)

-- ---- half-walls at a point

record IsHalfAt (p : Point) (w : Wall) (h : Half) : Type 0 where
  pub wall : h.wall ≡ w
  pub side : IsSide h.side
  pub on : is_on w p ≡ true

kept-pass : {A : Type 0} (P : A → Type 0) (b : A → Bool) (xs : List A) → Every P xs → Every (λ x. P x × (b x ≡ true)) (filter b xs)
kept-pass P b [] h = tt
kept-pass P b (x ∷ xs) h = go (b x) refl (kept-pass P b xs h.1)
  where
    go : (c : Bool) → b x ≡ c → Every (λ x. P x × (b x ≡ true)) (filter b xs) → Every (λ x. P x × (b x ≡ true)) (cond c (x ∷ filter b xs) (filter b xs))
    go true e r = ((h.0, e), r)
    go false e r = r

halves-at : (p : Point) (w : Wall) → Every (IsHalfAt p w) (halves p w)
halves-at p w =
    Every-images (IsHalfAt p w) (λ s. record { wall = w; side = s }) _
    (Every-implies (λ s. IsSide s × ((is_on w p && (not (starts_at w p) || allows w.kind s)) ≡ true)) (λ s. IsHalfAt p w (record { wall = w; side = s })) _
    (λ s k. record { wall = refl; side = k.0; on = and-left (is_on w p) _ k.1 })
    (kept-pass IsSide (λ s. is_on w p && (not (starts_at w p) || allows w.kind s)) (pos 1 ∷ negsuc 0 ∷ []) (inl refl, (inr refl, tt))))

abbrev Directed : Half → Type 0
Directed h = along h ≢ origin

half-direction : (p : Point) (w : Wall) (h : Half) → IsDirection w.dir → IsHalfAt p w h → IsDirection (along h)
half-direction p w h d k = subst (λ (v : Wall). IsDirection (scale h.side v.dir)) (sym k.wall) (sided-direction h.side w.dir k.side d)

half-line : (p : Point) (w : Wall) (h : Half) → IsDirection w.dir → IsHalfAt p w h → line_direction (along h) ≡ line_direction w.dir
half-line p w h d k = ap (λ (v : Wall). line_direction (scale h.side v.dir)) k.wall ∙ sided-line h.side w.dir k.side d

abbrev Apart : Half → Half → Type 0
Apart g h = (before g h ≡ true) ⊎ (before h g ≡ true)

-- half-walls of walls along two lines don't tie
lines-apart : (n : ℕ) (p : Point) (v w : Wall) (g h : Half) → pos 1 ≤ℤ p.w → IsWall n v → IsWall n w → wall_before v w ≡ true → IsHalfAt p v g → IsHalfAt p w h → Apart g h
lines-apart n p v w g h one iv iw e k l = go (before g h) refl (before h g) refl
  where
    tie : along g ≡ along h → ⊥
    tie q =
        let d : line_direction v.dir ≡ line_direction w.dir = sym (half-line p v g iv.direction k) ∙ ap line_direction q ∙ half-line p w h iw.direction l in
        let s = one-line (supporting_line v) (supporting_line w) p one d (on-passes v p k.on) (on-passes w p l.on) in
        let t = not-out (wall_before v w) (and-left (not (wall_before v w)) (not (wall_before w v)) (sym (same_line-ties (supporting_line v) (supporting_line w)) ∙ s)) in
        absurd (cc)

    dg : IsDirection (along g)
    dg = half-direction p v g iv.direction k

    dh : IsDirection (along h)
    dh = half-direction p w h iw.direction l

    go : (a : Bool) → before g h ≡ a → (b : Bool) → before h g ≡ b → Apart g h
    go true a b c = inl a
    go false a true c = inr c
    go false a false c = absurd (tie (multiples-equal (along g) (along h) dg dh (ties-are-multiples (along g) (along h) (direction-not_origin (along g) dg) (direction-not_origin (along h) dh) (λ x. cc) (λ x. cc))))

-- ---- putting half-walls into a sorted list

behind : (x y : Half) (ys : List Half) → before y x ≡ true → put before x (y ∷ ys) ≡ y ∷ put before x ys
behind x y ys e = ap (λ (b : Bool). elim b [ true ↦ y ∷ put before x ys | false ↦ x ∷ y ∷ ys ]) e

ahead : (x y : Half) (ys : List Half) → before y x ≡ false → put before x (y ∷ ys) ≡ x ∷ y ∷ ys
ahead x y ys e = ap (λ (b : Bool). elim b [ true ↦ y ∷ put before x ys | false ↦ x ∷ y ∷ ys ]) e

swap-before : (x y : Half) (zs : List Half) → Directed x → Directed y → Every Directed zs → before x y ≡ true → put before x (put before y zs) ≡ put before y (put before x zs)
swap-before x y [] dx dy ds e = ahead x y [] (turns-asym (along x) (along y) e) ∙ sym (behind y x [] e)
swap-before x y (z ∷ zs) dx dy ds e = go (before z x) refl (before z y) refl (swap-before x y zs dx dy ds.1 e)
  where
    f : before y x ≡ false
    f = turns-asym (along x) (along y) e

    go : (a : Bool) → before z x ≡ a → (b : Bool) → before z y ≡ b → put before x (put before y zs) ≡ put before y (put before x zs) → put before x (put before y (z ∷ zs)) ≡ put before y (put before x (z ∷ zs))
    go true a true b h =
        ap (put before x) (behind y z zs b) ∙ behind x z (put before y zs) a
        ∙ ap (λ r. z ∷ r) h
        ∙ sym (ap (put before y) (behind x z zs a) ∙ behind y z (put before x zs) b)
    go true a false b h = let c = turns-trans (along x) (along y) (along z) dx dy ds.0 f b in absurd (cc)
    go false a true b h =
        ap (put before x) (behind y z zs b) ∙ ahead x z (put before y zs) a
        ∙ sym (ap (put before y) (ahead x z zs a) ∙ behind y x (z ∷ zs) e ∙ ap (λ r. x ∷ r) (behind y z zs b))
    go false a false b h =
        ap (put before x) (ahead y z zs b) ∙ ahead x y (z ∷ zs) f
        ∙ sym (ap (put before y) (ahead x z zs a) ∙ behind y x (z ∷ zs) e ∙ ap (λ r. x ∷ r) (ahead y z zs b))

swap : (x y : Half) (zs : List Half) → Directed x → Directed y → Every Directed zs → Apart x y → put before x (put before y zs) ≡ put before y (put before x zs)
swap x y zs dx dy ds (inl e) = swap-before x y zs dx dy ds e
swap x y zs dx dy ds (inr e) = sym (swap-before y x zs dy dx ds e)

abbrev puts : List Half → List Half → List Half
puts [] zs = zs
puts (x ∷ xs) zs = put before x (puts xs zs)

puts-are : (xs ys : List Half) → in_order before (xs ++ ys) ≡ puts xs (in_order before ys)
puts-are [] ys = refl
puts-are (x ∷ xs) ys = ap (put before x) (puts-are xs ys)

puts-directed : (xs zs : List Half) → Every Directed xs → Every Directed zs → Every Directed (puts xs zs)
puts-directed [] zs h i = i
puts-directed (x ∷ xs) zs h i = Every-put Directed before x (puts xs zs) h.0 (puts-directed xs zs h.1 i)

put-past : (x : Half) (ys zs : List Half) → Directed x → Every Directed ys → Every Directed zs → Every (Apart x) ys → put before x (puts ys zs) ≡ puts ys (put before x zs)
put-past x [] zs dx dy dz a = refl
put-past x (y ∷ ys) zs dx dy dz a = swap x y (puts ys zs) dx dy.0 (puts-directed ys zs dy.1 dz) a.0 ∙ ap (put before y) (put-past x ys zs dx dy.1 dz a.1)

puts-past : (xs ys zs : List Half) → Every Directed xs → Every Directed ys → Every Directed zs → Every (λ x. Every (Apart x) ys) xs → puts xs (puts ys zs) ≡ puts ys (puts xs zs)
puts-past [] ys zs dx dy dz a = refl
puts-past (x ∷ xs) ys zs dx dy dz a = ap (put before x) (puts-past xs ys zs dx.1 dy dz a.1) ∙ put-past x ys (puts xs zs) dx.0 dy (puts-directed xs zs dx.1 dz) a.0

-- ---- the local product

module _ (n : ℕ) (p : Point) (one : pos 1 ≤ℤ p.w) where
  directed : (w : Wall) → IsWall n w → Every Directed (halves p w)
  directed w i = Every-implies (IsHalfAt p w) Directed (halves p w) (λ h k. direction-not_origin (along h) (half-direction p w h i.direction k)) (halves-at p w)

  all-directed : (ws : List Wall) → Every (IsWall n) ws → Every Directed (half_walls ws p)
  all-directed ws h = Every-in_order Directed before (flat_map (halves p) ws) (Every-flat_map (IsWall n) Directed (halves p) ws directed h)

  halves-apart : (v w : Wall) → IsWall n v → IsWall n w → wall_before v w ≡ true → Every (λ g. Every (Apart g) (halves p w)) (halves p v)
  halves-apart v w iv iw e =
      Every-implies (IsHalfAt p v) (λ g. Every (Apart g) (halves p w)) (halves p v)
      (λ g k. Every-implies (IsHalfAt p w) (Apart g) (halves p w) (λ h l. lines-apart n p v w g h one iv iw e k l) (halves-at p w)) (halves-at p v)

  put-wall : (w : Wall) (us : List Wall) → IsWall n w → Every (IsWall n) us → half_walls (put wall_before w us) p ≡ puts (halves p w) (half_walls us p)
  put-wall w [] i h = puts-are (halves p w) []
  put-wall w (v ∷ us) i h = go (wall_before v w) refl (put-wall w us i h.1)
    where
      go : (b : Bool) → wall_before v w ≡ b → half_walls (put wall_before w us) p ≡ puts (halves p w) (half_walls us p) → half_walls (put wall_before w (v ∷ us)) p ≡ puts (halves p w) (half_walls (v ∷ us) p)
      go true e k =
          rw e
          (puts-are (halves p v) (flat_map (halves p) (put wall_before w us)) ∙ ap (puts (halves p v)) k
          ∙ puts-past (halves p v) (halves p w) (half_walls us p) (directed v h.0) (directed w i) (all-directed us h.1) (halves-apart v w h.0 i e)
          ∙ ap (puts (halves p w)) (sym (puts-are (halves p v) (flat_map (halves p) us))))
      go false e k = rw e (puts-are (halves p w) (flat_map (halves p) (v ∷ us)))

  pub half_walls-sorted : (ws : List Wall) → Every (IsWall n) ws → half_walls (in_order wall_before ws) p ≡ half_walls ws p
  half_walls-sorted [] h = refl
  half_walls-sorted (w ∷ ws) h =
      put-wall w (in_order wall_before ws) h.0 (Every-in_order (IsWall n) wall_before ws h.1)
      ∙ ap (puts (halves p w)) (half_walls-sorted ws h.1)
      ∙ sym (puts-are (halves p w) (flat_map (halves p) ws))

-- ---- the runs on a point

pub record IsRun (n : ℕ) (g : List Wall) : Type 0 where
  pub line : SupportingLine
  pub proper-line : pos 1 ≤ℤ line.under
  pub along : Every (λ w. same_line line (supporting_line w) ≡ true) g
  pub proper : Every (IsWall n) g

pub runs-are : (n : ℕ) (ws : List Wall) → Every (IsWall n) ws → Every (IsRun n) (runs ws)
runs-are n ws h = Every-images (IsRun n) (walls_along ws) (supporting_lines ws) (Every-implies (HasWall ws) (λ l. IsRun n (walls_along ws l)) (supporting_lines ws) one (lines-have_walls ws))
  where
    one : (l : SupportingLine) → HasWall ws l → IsRun n (walls_along ws l)
    one l k = record {
      line = l;
      proper-line = subst (λ (m : SupportingLine). pos 1 ≤ℤ m.under) (sym k.2) (Every-at (IsWall n) ws k.0 h k.1).point.below;
      along = Every-implies (λ w. IsWall n w × (same_line l (supporting_line w) ≡ true)) (λ w. same_line l (supporting_line w) ≡ true) _ (λ w q. q.1) (kept-pass (IsWall n) (λ w. same_line l (supporting_line w)) ws h);
      proper = Every-filter (IsWall n) (λ w. same_line l (supporting_line w)) ws h;
    }

-- where the line of one wall of a run doesn't hold the point, no wall of the run does
pub run-off : (n : ℕ) (g : List Wall) (p : Point) (u : Wall) → IsRun n g → In u g → line_holds (supporting_line u) p ≡ false → walls_on g p ≡ []
run-off n g p u h i e = none g h.along h.proper
  where
    off : (w : Wall) → same_line h.line (supporting_line w) ≡ true → IsWall n w → is_on w p ≡ false
    off w a k = not-true (is_on w p) (λ o.
        let l = passes-same (supporting_line w) h.line p k.point.below (same_line-flip h.line (supporting_line w) a) (on-passes w p o) in
        let m = passes-same h.line (supporting_line u) p h.proper-line (Every-at (λ w. same_line h.line (supporting_line w) ≡ true) g u h.along i) l in
        let t = passes-holds (supporting_line u) p m in
        absurd (cc))

    none : (ws : List Wall) → Every (λ w. same_line h.line (supporting_line w) ≡ true) ws → Every (IsWall n) ws → walls_on ws p ≡ []
    none [] a k = refl
    none (w ∷ ws) a k = rw (off w a.0 k.0) (none ws a.1 k.1)
