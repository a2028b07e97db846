-- The products of all pairs of terms, row by row.
use Rattle.std.proofs.Common.{◌≡◌, ◌≢◌, ℕ, ◌+◌, ◌<◌, ◌≤◌, refl, sym, subst, ap, ◌∙◌, Bool, true, false, cond, List, [], ◌∷◌, ◌++◌, length, get_or, drop, add-one, drop-cons, append_assoc, arith}
use Rattle.std.specs.Prelude.{ℤ, pos, ◌+ℤ◌, ◌*ℤ◌, ◌-ℤ◌, map, filter, nat_le, not, ◌&&◌, zero, suc}
use Rattle.std.proofs.lemmas.Int.{ints}
use Rattle.std.proofs.lemmas.List.{drop_all, append-nil}
use Rattle.sum_algebra.proofs.Ring.{nought, unit, ring}
use Rattle.sum_algebra.proofs.IntegerRing.{ints_ring, ◌:+◌, ◌:*◌, ◌:-◌, X, Y, Z, W}
use Rattle.sum_algebra.proofs.Integers.{positive-mul}
use Rattle.scattering.specs.Collections.{Every}
use Rattle.scattering.specs.Series.{Exp, Key, key_mul, det, degree, origin, int_eq, exp_add}
use Rattle.scattering.specs.Correction.{Ratio, IsRatio, Lie}
use Rattle.scattering.proofs.Lists.{Every-append}
use Rattle.vertex_lie.specs.Shown.{coefficient_of, lie_of}
use Rattle.vertex_lie.specs.RationalBracket.{AreSame, term_product, is_kept, row, products, kept_product, AreValues, Appends}
use Rattle.vertex_lie.proofs.Arranged.{Item}
use Rattle.vertex_lie.proofs.EqualRatios.{Positive, equal-through, lowest-same}
use Rattle.frac_128.specs.Quotient.{AreEqual, LowestFits}

-- ---- lists of the program

pub lie_of-append : (xs ys : List Item) → lie_of (xs ++ ys) ≡ lie_of xs ++ lie_of ys
lie_of-append [] ys = refl
lie_of-append (t ∷ xs) ys = ap (λ h. coefficient_of t ∷ h) (lie_of-append xs ys)

pub lie_of-drop : (d : Item) (a : List Item) (i : ℕ) → i < length a → lie_of (drop i a) ≡ coefficient_of (get_or a i d) ∷ lie_of (drop (i + 1) a)
lie_of-drop d a i h = rw (add-one, drop-cons a i d) refl

pub every-at : (P : Key × Ratio → Type 0) (d : Item) (a : List Item) (i : ℕ) → i < length a → Every P (lie_of a) → P (coefficient_of (get_or a i d))
every-at P d a i h e = go a i h e
  where
    go : (b : List Item) (j : ℕ) → j < length b → Every P (lie_of b) → P (coefficient_of (get_or b j d))
    go [] j l f = absurd (omega (arith, l))
    go (t ∷ b) zero l f = f.0
    go (t ∷ b) (suc j) l f = go b j (omega (arith, l)) f.1

-- ---- values

values-append : (f g h k : Lie) → AreValues f h → AreValues g k → AreValues (f ++ g) (h ++ k)
values-append [] g [] k p q = q
values-append [] g (u ∷ h) k p q = absurd p
values-append (t ∷ f) g [] k p q = absurd p
values-append (t ∷ f) g (u ∷ h) k p q = (p.0, p.1, values-append f g h k p.2 q)

module _ (n : ℕ) (t : Key × Ratio) where
  -- a pair that doesn't count
  pub nothing-kept : (u : Key × Ratio) (old : Lie) → is_kept n t.0 u.0 ≡ false → Appends old (kept_product n t u) old
  nothing-kept u old e f v = rw e (rw (append-nil f) v)

  pub one-kept : (u c : Key × Ratio) (out : List Item) (x : Item) → is_kept n t.0 u.0 ≡ true → coefficient_of x ≡ c → c.0 ≡ key_mul t.0 u.0 → AreSame c.1 (term_product t u).1 → Appends (lie_of out) (kept_product n t u) (lie_of (out ++ x ∷ []))
  one-kept u c out x e q k s f v =
      rw (e) (subst (AreValues (f ++ term_product t u ∷ [])) (sym (lie_of-append out (x ∷ [])))
      (values-append f (term_product t u ∷ []) (lie_of out) (coefficient_of x ∷ []) v (subst (λ (y : Key × Ratio). AreValues (term_product t u ∷ []) (y ∷ [])) (sym q) (sym k, s, tt))))

  row-step : (u : Key × Ratio) (g : Lie) → kept_product n t u ++ row n t g ≡ row n t (u ∷ g)
  row-step u g = go (is_kept n t.0 u.0)
    where
      go : (b : Bool) → cond b (term_product t u ∷ []) [] ++ row n t g ≡ map (term_product t) (cond b (u ∷ filter (λ u. is_kept n t.0 u.0) g) (filter (λ u. is_kept n t.0 u.0) g))
      go true = refl
      go false = refl

-- after some of the list, what stands for f and the whole of `all` begins with what is there
abbrev pub IsUnderWay : Lie → Lie → Lie → Lie → Type 0
IsUnderWay old new rest all = (f : Lie) → AreValues f old → (p : Lie) × AreValues p new × (p ++ rest ≡ f ++ all)

pub under_way-begins : (old all : Lie) → IsUnderWay old old all all
under_way-begins old all f v = (f, v, refl)

pub under_way-next : (old new new' part rest all : Lie) → Appends new part new' → IsUnderWay old new (part ++ rest) all → IsUnderWay old new' rest all
under_way-next old new new' part rest all a u f v =
    let w = u f v in (w.0 ++ part, a w.0 w.1, append_assoc w.0 part rest ∙ w.2)

pub under_way-ends : (old new all : Lie) → IsUnderWay old new [] all → Appends old all new
under_way-ends old new all u f v = let w = u f v in subst (λ (g : Lie). AreValues g new) (sym (append-nil w.0) ∙ w.2) w.1

module _ (n : ℕ) (t : Key × Ratio) (old : Lie) (out out' b : List Item) (i : ℕ) (d : Item) (l : i < length b) where
  pub row-next : Appends (lie_of out) (kept_product n t (coefficient_of (get_or b i d))) (lie_of out') → IsUnderWay old (lie_of out) (row n t (lie_of (drop i b))) (row n t (lie_of b))
      → IsUnderWay old (lie_of out') (row n t (lie_of (drop (i + 1) b))) (row n t (lie_of b))
  row-next a u =
      under_way-next old (lie_of out) (lie_of out') (kept_product n t (coefficient_of (get_or b i d))) (row n t (lie_of (drop (i + 1) b))) (row n t (lie_of b)) a
      (subst (λ (g : Lie). IsUnderWay old (lie_of out) g (row n t (lie_of b))) (ap (row n t) (lie_of-drop d b i l) ∙ sym (row-step n t (coefficient_of (get_or b i d)) (lie_of (drop (i + 1) b)))) u)

module _ (n : ℕ) (g old : Lie) (out out' a : List Item) (i : ℕ) (d : Item) (l : i < length a) where
  pub rows-next : Appends (lie_of out) (row n (coefficient_of (get_or a i d)) g) (lie_of out') → IsUnderWay old (lie_of out) (products n (lie_of (drop i a)) g) (products n (lie_of a) g)
      → IsUnderWay old (lie_of out') (products n (lie_of (drop (i + 1) a)) g) (products n (lie_of a) g)
  rows-next p u =
      under_way-next old (lie_of out) (lie_of out') (row n (coefficient_of (get_or a i d)) g) (products n (lie_of (drop (i + 1) a)) g) (products n (lie_of a) g) p
      (subst (λ (f : Lie). IsUnderWay old (lie_of out) f (products n (lie_of a) g)) (ap (λ (f : Lie). products n f g) (lie_of-drop d a i l)) u)

pub lie-ended : (a : List Item) (i : ℕ) → length a ≤ i → lie_of (drop i a) ≡ []
lie-ended a i h = ap lie_of (drop_all i a h)

-- ---- what each term has, by what is left

pub every-next : (P : Key × Ratio → Type 0) (d : Item) (a : List Item) (i : ℕ) → i < length a → P (coefficient_of (get_or a i d)) → (Every P (lie_of (drop i a)) → Every P (lie_of a)) → Every P (lie_of (drop (i + 1) a)) → Every P (lie_of a)
every-next P d a i l p h e = h (subst (Every P) (sym (lie_of-drop d a i l)) (p, e))

-- ---- the terms of the products

opposite-det : (u v : Exp) → exp_add u v ≡ origin → det u v ≡ pos 0
opposite-det u v o =
    let a : u.a ≡ pos 0 +ℤ (pos 0 -ℤ v.a) = let q : u.a +ℤ v.a ≡ pos 0 = ap (λ (e : Exp). e.a) o in omega (arith, ints, q) in
    let b : u.b ≡ pos 0 +ℤ (pos 0 -ℤ v.b) = let q : u.b +ℤ v.b ≡ pos 0 = ap (λ (e : Exp). e.b) o in omega (arith, ints, q) in
    ap (λ x. x *ℤ v.b -ℤ u.b *ℤ v.a) a ∙ ap (λ x. (pos 0 +ℤ (pos 0 -ℤ v.a)) *ℤ v.b -ℤ x *ℤ v.a) b
    ∙ ring ints_ring (v.a ∷ v.b ∷ []) ((nought :+ (nought :- X)) :* Y :- (nought :+ (nought :- Y)) :* X) nought refl

kept-moves : (n : ℕ) (k l : Key) → is_kept n k l ≡ true → (key_mul k l).exp ≢ origin
kept-moves n k l e o = let z : det k.exp l.exp ≡ pos 0 = opposite-det k.exp l.exp o in zero-kept (det k.exp l.exp) (nat_le (degree k + degree l) n) z e
  where
    zero-kept : (x : ℤ) (b : Bool) → x ≡ pos 0 → (not (int_eq x (pos 0)) && b) ≡ true → ⊥
    zero-kept x b z f = let g : (not (int_eq (pos 0) (pos 0)) && b) ≡ true = subst (λ (y : ℤ). (not (int_eq y (pos 0)) && b) ≡ true) z f in absurd (cc)

pub row-every : (P : Key × Ratio → Type 0) (n : ℕ) (t : Key × Ratio) (g : Lie) → Every (λ u. is_kept n t.0 u.0 ≡ true → P (term_product t u)) g → Every P (row n t g)
row-every P n t [] e = tt
row-every P n t (u ∷ g) e = go (is_kept n t.0 u.0) refl (row-every P n t g e.1)
  where
    go : (b : Bool) → is_kept n t.0 u.0 ≡ b → Every P (row n t g) → Every P (map (term_product t) (cond b (u ∷ filter (λ u. is_kept n t.0 u.0) g) (filter (λ u. is_kept n t.0 u.0) g)))
    go true q i = (e.0 q, i)
    go false q i = i

pub products-move : (n : ℕ) (f g : Lie) → Every (λ t. t.0.exp ≢ origin) (products n f g)
products-move n [] g = tt
products-move n (t ∷ f) g = Every-append (λ t. t.0.exp ≢ origin) (row n t g) (products n f g) (row-every (λ t. t.0.exp ≢ origin) n t g (all g)) (products-move n f g)
  where
    all : (g : Lie) → Every (λ u. is_kept n t.0 u.0 ≡ true → (term_product t u).0.exp ≢ origin) g
    all [] = tt
    all (u ∷ g) = (kept-moves n t.0 u.0, all g)

-- ---- the coefficient of a term_product

module _ (t u c e : Ratio) (d : ℤ) (p : IsRatio t) (q : IsRatio u) (r : IsRatio c) (s : IsRatio e) (a : AreEqual c.num c.den (t.num *ℤ u.num) (t.den *ℤ u.den)) (b : AreEqual e.num e.den d (pos 1)) where
  abbrev whole : Ratio
  whole = record { num = d *ℤ (t.num *ℤ u.num); den = t.den *ℤ u.den }

  abbrev made : Ratio
  made = record { num = c.num *ℤ e.num; den = c.den *ℤ e.den }

  made-whole : AreSame made whole
  made-whole =
      ring ints_ring (c.num ∷ e.num ∷ (t.den *ℤ u.den) ∷ []) ((X :* Y) :* Z) (Y :* (X :* Z)) refl
      ∙ ap (λ x. e.num *ℤ x) a
      ∙ ring ints_ring (e.num ∷ (t.num *ℤ u.num) ∷ c.den ∷ []) (X :* (Y :* Z)) ((X :* unit) :* (Y :* Z)) refl
      ∙ ap (λ x. x *ℤ ((t.num *ℤ u.num) *ℤ c.den)) b
      ∙ ring ints_ring (d ∷ e.den ∷ (t.num *ℤ u.num) ∷ c.den ∷ []) ((X :* Y) :* (Z :* W)) ((X :* Z) :* (W :* Y)) refl

  made-positive : Positive made
  made-positive = positive-mul c.den e.den r.below s.below

  whole-positive : Positive whole
  whole-positive = positive-mul t.den u.den p.below q.below

  pub product-value : (num den : ℤ) → AreEqual num den (c.num *ℤ e.num) (c.den *ℤ e.den) → AreEqual num den (d *ℤ (t.num *ℤ u.num)) (t.den *ℤ u.den)
  product-value num den f = equal-through num den whole made made-positive f made-whole

  pub product-fits : LowestFits (c.num *ℤ e.num) (c.den *ℤ e.den) → LowestFits (d *ℤ (t.num *ℤ u.num)) (t.den *ℤ u.den)
  product-fits f = lowest-same made whole whole-positive made-whole f

  pub fits-product : LowestFits (d *ℤ (t.num *ℤ u.num)) (t.den *ℤ u.den) → LowestFits (c.num *ℤ e.num) (c.den *ℤ e.den)
  fits-product f = lowest-same whole made made-positive (sym made-whole) f
