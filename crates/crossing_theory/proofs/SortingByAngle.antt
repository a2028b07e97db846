-- The order by angle, and sorting a part of a list.
use Rattle.std.proofs.Common.{◌≡◌, ◌≢◌, refl, subst, sym, ◌∙◌, ap, List, [], ◌∷◌, Bool, true, false, cond, not, arith, inl, inr, ◌⊎◌}
use Rattle.std.specs.Prelude.{ℤ, pos, filter, ◌&&◌, ◌||◌, ◌*ℤ◌, ◌+ℤ◌, ◌-ℤ◌, neg_ℤ, ◌≤ℤ◌, int_lt}
use Rattle.std.proofs.lemmas.Int.{ints}
use Rattle.sum_algebra.proofs.Ring.{var, minus, nought, ring}
use Rattle.sum_algebra.proofs.IntegerRing.{ints_ring, ◌:+◌, ◌:*◌, ◌:-◌, X, Y, Z}
use Rattle.sum_algebra.proofs.Integers.{positive-mul}
use Rattle.scattering.specs.Collections.{Every, EveryPair, put, in_order}
use Rattle.scattering.specs.Series.{Exp, det, origin, int_eq}
use Rattle.scattering.specs.Plane.{is_upper, turns_before}
use Rattle.scattering.proofs.Lists.{Every-put, Every-in_order, Every-filter}
use Rattle.plane_theory.proofs.WholeNumbers.{not_negative}

-- ---- signs

-- ---- the upper half

abbrev Up : Exp → Type 0
Up d = (pos 1 ≤ℤ d.b) ⊎ ((d.b ≡ pos 0) × (pos 1 ≤ℤ d.a))

up-low : (d : Exp) → Up d → pos 0 ≤ℤ d.b
up-low d (inl p) = omega (arith, ints, p)
up-low d (inr p) = let e = p.0 in omega (arith, ints, e)

flip-sign : (x : ℤ) → x ≤ℤ pos 0 → pos 0 ≤ℤ neg_ℤ x
flip-sign x p = omega (arith, ints, p)

opposite-sums : (l r s : ℤ) → pos 1 ≤ℤ l → l ≡ neg_ℤ (r +ℤ s) → pos 0 ≤ℤ r → pos 0 ≤ℤ s → ⊥
opposite-sums l r s p e q t = omega (arith, ints, p, e, q, t)

between : (a b c : Exp) → Up a → Up b → Up c → pos 1 ≤ℤ det a c → det a b ≤ℤ pos 0 → det b c ≤ℤ pos 0 → ⊥
between a b c ua (inl b_up) uc ac ab bc =
    opposite-sums (det a c *ℤ b.b) (neg_ℤ (det a b) *ℤ c.b) (neg_ℤ (det b c) *ℤ a.b) (positive-mul (det a c) b.b ac b_up)
    (ring ints_ring (a.a ∷ a.b ∷ b.a ∷ b.b ∷ c.a ∷ c.b ∷ []) ((X :* var 5 :- Y :* var 4) :* var 3) (minus (minus (X :* var 3 :- Y :* Z) :* var 5 :+ minus (Z :* var 5 :- var 3 :* var 4) :* Y)) refl)
    (not_negative _ _ (flip-sign (det a b) ab) (up-low c uc)) (not_negative _ _ (flip-sign (det b c) bc) (up-low a ua))
between a b c ua (inr flat) (inl c_up) ac ab bc =
    let e : det b c ≡ b.a *ℤ c.b = ap (λ y. b.a *ℤ c.b -ℤ y *ℤ c.a) flat.0 ∙ ring ints_ring (b.a ∷ c.b ∷ c.a ∷ []) (X :* Y :- nought :* Z) (X :* Y) refl in
    let p = positive-mul b.a c.b flat.1 c_up in
    omega (arith, ints, e, p, bc)
between a b c ua (inr flat) (inr c_flat) ac ab bc =
    let e : det a c ≡ neg_ℤ (a.b *ℤ c.a) = ap (λ y. a.a *ℤ y -ℤ a.b *ℤ c.a) c_flat.0 ∙ ring ints_ring (a.a ∷ a.b ∷ c.a ∷ []) (X :* nought :- Y :* Z) (minus (Y :* Z)) refl in
    let q = c_flat.1 in
    let p = not_negative a.b c.a (up-low a ua) (omega (arith, ints, q)) in
    omega (arith, ints, e, p, ac)

abbrev opp : Exp → Exp
opp d = record { a = neg_ℤ d.a; b = neg_ℤ d.b }

det-opp : (a b : Exp) → det (opp a) (opp b) ≡ det a b
det-opp a b = ring ints_ring (a.a ∷ a.b ∷ b.a ∷ b.b ∷ []) (minus X :* minus (var 3) :- minus Y :* minus Z) (X :* var 3 :- Y :* Z) refl

up-true : (d : Exp) → is_upper d ≡ true → Up d
up-true d e = go (int_lt (pos 0) d.b) refl
  where
    above : (y : ℤ) → int_lt (pos 0) y ≡ true → pos 1 ≤ℤ y
    above y q = grind (arith, ints)

    flat : (x y : ℤ) → (int_eq y (pos 0) && int_lt (pos 0) x) ≡ true → (y ≡ pos 0) × (pos 1 ≤ℤ x)
    flat x y q = (grind (arith, ints), grind (arith, ints))

    go : (b : Bool) → int_lt (pos 0) d.b ≡ b → Up d
    go true q = inl (above d.b q)
    go false q = inr (flat d.a d.b (rw q at e))

up-false : (d : Exp) → d ≢ origin → is_upper d ≡ false → Up (opp d)
up-false d n e = go (int_lt d.b (pos 0)) refl (int_lt d.a (pos 0)) refl
  where
    below : (y : ℤ) → int_lt y (pos 0) ≡ true → pos 1 ≤ℤ neg_ℤ y
    below y q = grind (arith, ints)

    zero-b : (x y : ℤ) → (int_lt (pos 0) y || (int_eq y (pos 0) && int_lt (pos 0) x)) ≡ false → int_lt y (pos 0) ≡ false → y ≡ pos 0
    zero-b x y p q = grind (arith, ints)

    zero-a : (x y : ℤ) → (int_lt (pos 0) y || (int_eq y (pos 0) && int_lt (pos 0) x)) ≡ false → y ≡ pos 0 → int_lt x (pos 0) ≡ false → x ≡ pos 0
    zero-a x y p q r = grind (arith, ints)

    go : (b : Bool) → int_lt d.b (pos 0) ≡ b → (c : Bool) → int_lt d.a (pos 0) ≡ c → Up (opp d)
    go true q c r = inl (below d.b q)
    go false q true r = let y = zero-b d.a d.b e q in inr (ap neg_ℤ y, below d.a r)
    go false q false r = let y = zero-b d.a d.b e q in let x = zero-a d.a d.b e y r in absurd (n (λ i. record { a = x i; b = y i }))

above-of : (x : ℤ) → int_lt (pos 0) x ≡ true → pos 1 ≤ℤ x
above-of x e = grind (arith, ints)

not_above-of : (x : ℤ) → int_lt (pos 0) x ≡ false → x ≤ℤ pos 0
not_above-of x e = grind (arith, ints)

-- a from y to z and from x to y no turn: none from x to z
middle : (z y x : Exp) → z ≢ origin → y ≢ origin → x ≢ origin → (c : Bool) → is_upper z ≡ c → is_upper y ≡ c → is_upper x ≡ c → int_lt (pos 0) (det y x) ≡ false → int_lt (pos 0) (det z y) ≡ false → int_lt (pos 0) (det z x) ≡ true → ⊥
middle z y x nz ny nx true a b c p q r = between z y x (up-true z a) (up-true y b) (up-true x c) (above-of _ r) (not_above-of _ q) (not_above-of _ p)
middle z y x nz ny nx false a b c p q r =
    between (opp z) (opp y) (opp x) (up-false z nz a) (up-false y ny b) (up-false x nx c)
    (subst (λ n. pos 1 ≤ℤ n) (sym (det-opp z x)) (above-of _ r)) (subst (λ n. n ≤ℤ pos 0) (sym (det-opp z y)) (not_above-of _ q)) (subst (λ n. n ≤ℤ pos 0) (sym (det-opp y x)) (not_above-of _ p))

abbrev turn_test : Bool → Bool → Bool → Bool
turn_test a b l = (a && not b) || ((not b || a) && (not a || b) && l)

by_tests : (uz uy ux lyx lzy lzx : Bool) → ((c : Bool) → uz ≡ c → uy ≡ c → ux ≡ c → lyx ≡ false → lzy ≡ false → lzx ≡ true → ⊥) → turn_test uy ux lyx ≡ false → turn_test uz uy lzy ≡ false → turn_test uz ux lzx ≡ false
by_tests true true true lyx lzy true h p q = absurd (h true refl refl refl p q refl)
by_tests true true true lyx lzy false h p q = refl
by_tests true true false lyx lzy lzx h p q = absurd (cc)
by_tests true false ux lyx lzy lzx h p q = absurd (cc)
by_tests false uy true lyx lzy lzx h p q = refl
by_tests false true false lyx lzy lzx h p q = absurd (cc)
by_tests false false false lyx lzy true h p q = absurd (h false refl refl refl p q refl)
by_tests false false false lyx lzy false h p q = refl

pub turns-trans : (x y z : Exp) → x ≢ origin → y ≢ origin → z ≢ origin → turns_before y x ≡ false → turns_before z y ≡ false → turns_before z x ≡ false
turns-trans x y z nx ny nz p q =
    by_tests (is_upper z) (is_upper y) (is_upper x) (int_lt (pos 0) (det y x)) (int_lt (pos 0) (det z y)) (int_lt (pos 0) (det z x)) (middle z y x nz ny nx) p q

by_asym : (a b l k : Bool) → (l ≡ true → k ≡ false) → turn_test a b l ≡ true → turn_test b a k ≡ false
by_asym true true true k h p = h refl
by_asym true true false k h p = absurd (cc)
by_asym true false l k h p = refl
by_asym false true l k h p = absurd (cc)
by_asym false false true k h p = h refl
by_asym false false false k h p = absurd (cc)

pub turns-asym : (y x : Exp) → turns_before y x ≡ true → turns_before x y ≡ false
turns-asym y x p =
    by_asym (is_upper y) (is_upper x) (int_lt (pos 0) (det y x)) (int_lt (pos 0) (det x y)) (λ e. swapped (det y x) (det x y) (ring ints_ring (x.a ∷ x.b ∷ y.a ∷ y.b ∷ []) (X :* var 3 :- Y :* Z) (minus (Z :* Y :- var 3 :* X)) refl) e) p
  where
    swapped : (a b : ℤ) → b ≡ neg_ℤ a → int_lt (pos 0) a ≡ true → int_lt (pos 0) b ≡ false
    swapped a b e p = grind (arith, ints)

-- ---- sorting

module _ {A : Type 0} (before : A → A → Bool) (Q : A → Type 0)
    (trans : (x y z : A) → Q x → Q y → Q z → before y x ≡ false → before z y ≡ false → before z x ≡ false)
    (asym : (y x : A) → before y x ≡ true → before x y ≡ false) where
  -- none is before an earlier one
  abbrev pub Sorted : List A → Type 0
  Sorted xs = EveryPair (λ y z. before z y ≡ false) xs

  after-all : (x y : A) (ys : List A) → Q x → Q y → Every Q ys → before y x ≡ false → Every (λ z. before z y ≡ false) ys → Every (λ z. before z x ≡ false) ys
  after-all x y [] qx qy qs e h = tt
  after-all x y (z ∷ ys) qx qy qs e h = (trans x y z qx qy qs.0 e h.0, after-all x y ys qx qy qs.1 e h.1)

  put-sorted : (x : A) (ys : List A) → Q x → Every Q ys → Sorted ys → Sorted (put before x ys)
  put-sorted x [] qx qs s = (tt, tt)
  put-sorted x (y ∷ ys) qx qs s = go (before y x) refl (put-sorted x ys qx qs.1 s.1)
    where
      go : (b : Bool) → before y x ≡ b → Sorted (put before x ys) → Sorted (elim b [ true ↦ y ∷ put before x ys | false ↦ x ∷ y ∷ ys ])
      go true e h = (Every-put (λ z. before z y ≡ false) before x ys (asym y x e) s.0, h)
      go false e h = ((e, after-all x y ys qx qs.0 qs.1 e s.0), s)

  pub in_order-sorted : (xs : List A) → Every Q xs → Sorted (in_order before xs)
  in_order-sorted [] h = tt
  in_order-sorted (x ∷ xs) h = put-sorted x (in_order before xs) h.0 (Every-in_order Q before xs h.1) (in_order-sorted xs h.1)

  pub put-first : (x : A) (zs : List A) → Every (λ z. before z x ≡ false) zs → put before x zs ≡ x ∷ zs
  put-first x [] h = refl
  put-first x (z ∷ zs) h = ap (λ (b : Bool). elim b [ true ↦ z ∷ put before x zs | false ↦ x ∷ z ∷ zs ]) h.0

  module _ (b : A → Bool) where
    put-dropped : (x : A) (ys : List A) → b x ≡ false → filter b (put before x ys) ≡ filter b ys
    put-dropped x [] e = rw e refl
    put-dropped x (y ∷ ys) e = go (before y x) (put-dropped x ys e)
      where
        go : (c : Bool) → filter b (put before x ys) ≡ filter b ys → filter b (elim c [ true ↦ y ∷ put before x ys | false ↦ x ∷ y ∷ ys ]) ≡ filter b (y ∷ ys)
        go true h = ap (λ r. cond (b y) (y ∷ r) r) h
        go false h = rw e refl

    put-kept : (x : A) (ys : List A) → Q x → Every Q ys → Sorted ys → b x ≡ true → filter b (put before x ys) ≡ put before x (filter b ys)
    put-kept x [] qx qs s e = rw e refl
    put-kept x (y ∷ ys) qx qs s e = go (before y x) refl (b y) refl (put-kept x ys qx qs.1 s.1 e)
      where
        go : (c : Bool) → before y x ≡ c → (d : Bool) → b y ≡ d → filter b (put before x ys) ≡ put before x (filter b ys) → filter b (elim c [ true ↦ y ∷ put before x ys | false ↦ x ∷ y ∷ ys ]) ≡ put before x (filter b (y ∷ ys))
        go true p true q h = rw q (ap (λ r. y ∷ r) h ∙ sym (ap (λ (c : Bool). elim c [ true ↦ y ∷ put before x (filter b ys) | false ↦ x ∷ y ∷ filter b ys ]) p))
        go true p false q h = rw q h
        go false p d q h = rw e (sym (put-first x (filter b (y ∷ ys)) (Every-filter (λ z. before z x ≡ false) b (y ∷ ys) (p, after-all x y ys qx qs.0 qs.1 p s.0))))

    -- a part of a list is sorted as it stands in the sorted list
    pub in_order-filter : (xs : List A) → Every Q xs → filter b (in_order before xs) ≡ in_order before (filter b xs)
    in_order-filter [] h = refl
    in_order-filter (x ∷ xs) h = go (b x) refl (in_order-filter xs h.1)
      where
        go : (c : Bool) → b x ≡ c → filter b (in_order before xs) ≡ in_order before (filter b xs) → filter b (in_order before (x ∷ xs)) ≡ in_order before (filter b (x ∷ xs))
        go true e ih = rw e (put-kept x (in_order before xs) h.0 (Every-in_order Q before xs h.1) (in_order-sorted xs h.1) e ∙ ap (put before x) ih)
        go false e ih = rw e (put-dropped x (in_order before xs) e ∙ ih)
