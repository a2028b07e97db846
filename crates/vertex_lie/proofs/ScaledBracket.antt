-- The bracket of Lie elements over common denominators is the bracket of sums.
use Rattle.std.proofs.Common.{◌≡◌, ℕ, ◌+◌, refl, sym, ap, subst, ◌∙◌, Bool, true, false, List, [], ◌∷◌, ◌++◌, map, arith}
use Rattle.std.specs.Prelude.{ℤ, pos, cond, not, ◌&&◌, nat_le, ◌+ℤ◌, ◌*ℤ◌, ◌≤ℤ◌, neg_ℤ}
use Rattle.std.proofs.lemmas.Int.{ints}
use Rattle.sum_algebra.proofs.Ring.{var, nought, unit, ring, minus}
use Rattle.sum_algebra.proofs.IntegerRing.{ints_ring, ◌:+◌, ◌:*◌, X, Y, Z, W}
use Rattle.sum_algebra.proofs.Integers.{positive-mul}
use Rattle.scattering.specs.Collections.{Every}
use Rattle.scattering.specs.Series.{Key, int_eq, det, degree, key_mul, key_eq, coef, cut}
use Rattle.scattering.specs.Bracket.{bracket, term_bracket}
use Rattle.scattering.specs.Correction.{Ratio, IsRatio, Lie, ratio_at}
use Rattle.scattering.proofs.Keys.{int_eq-same}
use Rattle.scattering.proofs.ShiftedSums.{degree-mul}
use Rattle.scattering.proofs.Pairing.{coef-append, coef-minus}
use Rattle.plane_theory.proofs.Directions.{cancel, positive-not}
use Rattle.crossing_theory.proofs.BracketLaws.{antisymmetric}
use Rattle.vertex_lie.specs.RationalBracket.{term_product, is_kept, row, products, zero_ratio, plus, sum_from, values_at}
use Rattle.vertex_lie.specs.Laws.{IsOver, sum_over, CommonDenominatorExists, BracketIsOfSums, BracketOfElementsIsAntisymmetric}
use Rattle.vertex_lie.proofs.EqualRatios.{Positive, sum-positive}
use Rattle.vertex_lie.proofs.RunningSums.{positive-values}
use Rattle.vertex_lie.proofs.Bracketed.{products-positive}

-- ---- numbers over a denominator

-- r is v/n
abbrev Is : ℤ → ℤ → Ratio → Type 0
Is n v r = r.num *ℤ n ≡ v *ℤ r.den

is-plus : (n v w : ℤ) (r s : Ratio) → Is n v r → Is n w s → Is n (v +ℤ w) (plus r s)
is-plus n v w r s p q =
    ring ints_ring (r.num ∷ s.den ∷ s.num ∷ r.den ∷ n ∷ []) ((X :* Y :+ Z :* W) :* var 4) ((X :* var 4) :* Y :+ (Z :* var 4) :* W) refl
    ∙ ap (λ x. x *ℤ s.den +ℤ (s.num *ℤ n) *ℤ r.den) p
    ∙ ap (λ x. (v *ℤ r.den) *ℤ s.den +ℤ x *ℤ r.den) q
    ∙ ring ints_ring (v ∷ r.den ∷ s.den ∷ w ∷ []) ((X :* Y) :* Z :+ (W :* Z) :* Y) ((X :+ W) :* (Y :* Z)) refl

is-product : (n m a b d : ℤ) (r s : Ratio) → Is n a r → Is m b s → Is (n *ℤ m) (d *ℤ (a *ℤ b)) (record { num = d *ℤ (r.num *ℤ s.num); den = r.den *ℤ s.den })
is-product n m a b d r s p q =
    ring ints_ring (d ∷ r.num ∷ s.num ∷ n ∷ m ∷ []) ((X :* (Y :* Z)) :* (W :* var 4)) (X :* ((Y :* W) :* (Z :* var 4))) refl
    ∙ ap (λ x. d *ℤ (x *ℤ (s.num *ℤ m))) p
    ∙ ap (λ x. d *ℤ ((a *ℤ r.den) *ℤ x)) q
    ∙ ring ints_ring (d ∷ a ∷ r.den ∷ b ∷ s.den ∷ []) (X :* ((Y :* Z) :* (W :* var 4))) ((X :* (Y :* W)) :* (Z :* var 4)) refl

add-zero : (w : ℤ) → w +ℤ pos 0 ≡ w
add-zero w = ring ints_ring (w ∷ []) (X :+ nought) X refl

skip-zero : (w : ℤ) → pos 0 +ℤ w ≡ w
skip-zero w = ring ints_ring (w ∷ []) (nought :+ X) X refl

-- ---- sums of the terms of one key

module _ (n : ℤ) (x : Key) where
  -- the terms of the key sum to v/n
  abbrev SumIs : Lie → ℤ → Type 0
  SumIs h v = (s : Ratio) (w : ℤ) → Is n w s → Is n (w +ℤ v) (sum_from s (values_at x h))

  sum-none : SumIs [] (pos 0)
  sum-none s w e = subst (λ z. Is n z s) (sym (add-zero w)) e

  sum-more : (t : Key × Ratio) (v : ℤ) (h : Lie) (v' : ℤ) → Is n v t.1 → SumIs h v' → SumIs (t ∷ h) (cond (key_eq t.0 x) v (pos 0) +ℤ v')
  sum-more t v h v' e i s w z = go (key_eq t.0 x) refl
    where
      go : (b : Bool) → key_eq t.0 x ≡ b → Is n (w +ℤ (cond (key_eq t.0 x) v (pos 0) +ℤ v')) (sum_from s (values_at x (t ∷ h)))
      go true q = rw q (subst (λ y. Is n y (sum_from (plus s t.1) (values_at x h))) (ring ints_ring (w ∷ v ∷ v' ∷ []) ((X :+ Y) :+ Z) (X :+ (Y :+ Z)) refl) (i (plus s t.1) (w +ℤ v) (is-plus n w v s t.1 z e)))
      go false q = rw q (subst (λ y. Is n y (sum_from s (values_at x h))) (ap (λ y. w +ℤ y) (sym (skip-zero v'))) (i s w z))

-- ---- rows and products

module _ (k : ℕ) (x : Key) (n m : ℤ) where
  and-cases : (a b : Bool) → (not a && b) ≡ false → b ≡ true → a ≡ true
  and-cases true b e f = refl
  and-cases false true e f = absurd (cc)
  and-cases false false e f = absurd (cc)

  and-right : (a b : Bool) → (not a && b) ≡ true → b ≡ true
  and-right true b e = absurd (cc)
  and-right false b e = e

  no-term : (b : Bool) (c : ℤ) → c ≡ pos 0 → cond b c (pos 0) ≡ pos 0
  no-term true c e = e
  no-term false c e = refl

  -- before what stands further on
  row-onto : (t : Key × Ratio) (v : ℤ) → Is n v t.1 → (g : Lie) (ws : List ℤ) → IsOver m g ws → (rest : Lie) (r : ℤ) → SumIs (n *ℤ m) x rest r
      → SumIs (n *ℤ m) x (row k t g ++ rest) (coef (cut k (map (term_bracket (t.0, v)) (sum_over g ws))) x +ℤ r)
  row-onto t v e [] [] o rest r i = subst (SumIs (n *ℤ m) x rest) (sym (skip-zero r)) i
  row-onto t v e [] (w ∷ ws) o rest r i = absurd o
  row-onto t v e (u ∷ g) [] o rest r i = absurd o
  row-onto t v e (u ∷ g) (w ∷ ws) o rest r i = go (is_kept k t.0 u.0) refl (nat_le (degree (key_mul t.0 u.0)) k) refl (row-onto t v e g ws o.1 rest r i)
    where
      low : nat_le (degree (key_mul t.0 u.0)) k ≡ nat_le (degree t.0 + degree u.0) k
      low = ap (λ (j : ℕ). nat_le j k) (degree-mul t.0 u.0)

      go : (b : Bool) → is_kept k t.0 u.0 ≡ b → (c : Bool) → nat_le (degree (key_mul t.0 u.0)) k ≡ c → SumIs (n *ℤ m) x (row k t g ++ rest) ((coef (cut k (map (term_bracket (t.0, v)) (sum_over g ws))) x) +ℤ r)
          → SumIs (n *ℤ m) x (row k t (u ∷ g) ++ rest) (coef (cut k (map (term_bracket (t.0, v)) (sum_over (u ∷ g) (w ∷ ws)))) x +ℤ r)
      go true p true q h = rw p (rw q (subst (SumIs (n *ℤ m) x (term_product t u ∷ (row k t g ++ rest)))
          (ring ints_ring (cond (key_eq (key_mul t.0 u.0) x) (det t.0.exp u.0.exp *ℤ (v *ℤ w)) (pos 0) ∷ (coef (cut k (map (term_bracket (t.0, v)) (sum_over g ws))) x) ∷ r ∷ []) (X :+ (Y :+ Z)) ((X :+ Y) :+ Z) refl)
          (sum-more (n *ℤ m) x (term_product t u) (det t.0.exp u.0.exp *ℤ (v *ℤ w)) (row k t g ++ rest) ((coef (cut k (map (term_bracket (t.0, v)) (sum_over g ws))) x) +ℤ r) (is-product n m v w (det t.0.exp u.0.exp) t.1 u.1 e o.0) h)))
      go true p false q h = absurd (let a : nat_le (degree t.0 + degree u.0) k ≡ true = and-right (int_eq (det t.0.exp u.0.exp) (pos 0)) _ p in let b : true ≡ false = sym a ∙ sym low ∙ q in cc)
      go false p true q h = rw p (rw q (subst (SumIs (n *ℤ m) x (row k t g ++ rest)) (ap (λ y. y +ℤ r) (sym (skip-zero (coef (cut k (map (term_bracket (t.0, v)) (sum_over g ws))) x)) ∙ ap (λ y. y +ℤ (coef (cut k (map (term_bracket (t.0, v)) (sum_over g ws))) x)) (sym nothing))) h))
        where
          zero-det : det t.0.exp u.0.exp ≡ pos 0
          zero-det = int_eq-same (det t.0.exp u.0.exp) (pos 0) (and-cases (int_eq (det t.0.exp u.0.exp) (pos 0)) _ p (sym low ∙ q))

          nothing : cond (key_eq (key_mul t.0 u.0) x) (det t.0.exp u.0.exp *ℤ (v *ℤ w)) (pos 0) ≡ pos 0
          nothing = no-term (key_eq (key_mul t.0 u.0) x) (det t.0.exp u.0.exp *ℤ (v *ℤ w)) (ap (λ y. y *ℤ (v *ℤ w)) zero-det ∙ ring ints_ring (v ∷ w ∷ []) (nought :* (X :* Y)) nought refl)
      go false p false q h = rw p (rw q h)

  products-is : (f : Lie) (vs : List ℤ) → IsOver n f vs → (g : Lie) (ws : List ℤ) → IsOver m g ws → SumIs (n *ℤ m) x (products k f g) (coef (bracket k (sum_over f vs) (sum_over g ws)) x)
  products-is [] [] o g ws p = sum-none (n *ℤ m) x
  products-is [] (v ∷ vs) o g ws p = absurd o
  products-is (t ∷ f) [] o g ws p = absurd o
  products-is (t ∷ f) (v ∷ vs) o g ws p =
      let F = sum_over f vs in
      let G = sum_over g ws in
      subst (SumIs (n *ℤ m) x (products k (t ∷ f) g)) (sym (coef-append (cut k (map (term_bracket (t.0, v)) G)) (bracket k F G) x))
      (row-onto t v o.0 g ws p (products k f g) (coef (bracket k F G) x) (products-is f vs o.1 g ws p))

-- ---- the bracket

zero-is : (n : ℤ) → Is n (pos 0) zero_ratio
zero-is n = ring ints_ring (n ∷ []) (nought :* X) (nought :* unit) refl

one-positive : Positive zero_ratio
one-positive = omega (arith, ints)

pub bracket-of_sums : BracketIsOfSums
bracket-of_sums k n m f g h vs ws ef eg o p b x =
    let N = n *ℤ m in
    let c = coef (bracket k (sum_over f vs) (sum_over g ws)) x in
    let S = sum_from zero_ratio (values_at x (products k f g)) in
    let r = ratio_at h x in
    let is : S.num *ℤ N ≡ c *ℤ S.den = products-is k x n m f vs o g ws p zero_ratio (pos 0) (zero-is N) ∙ ap (λ y. y *ℤ S.den) (skip-zero c) in
    let some : Positive S = sum-positive zero_ratio (values_at x (products k f g)) one-positive (positive-values (products k f g) (products-positive k f g ef.ratios eg.ratios) x) in
    cancel S.den (r.num *ℤ N) (c *ℤ r.den) (positive-not S.den some)
    (ring ints_ring (S.den ∷ r.num ∷ N ∷ []) (X :* (Y :* Z)) ((Y :* X) :* Z) refl
    ∙ ap (λ y. y *ℤ N) (b.same x)
    ∙ ring ints_ring (S.num ∷ r.den ∷ N ∷ []) ((X :* Y) :* Z) ((X :* Z) :* Y) refl
    ∙ ap (λ y. y *ℤ r.den) is
    ∙ ring ints_ring (c ∷ S.den ∷ r.den ∷ []) ((X :* Y) :* Z) (Y :* (X :* Z)) refl)

-- ---- common denominators

raise : (d n : ℤ) (f : Lie) (vs : List ℤ) → IsOver n f vs → IsOver (d *ℤ n) f (map (λ v. d *ℤ v) vs)
raise d n [] [] o = tt
raise d n [] (v ∷ vs) o = absurd o
raise d n (t ∷ f) [] o = absurd o
raise d n (t ∷ f) (v ∷ vs) o = (
  ring ints_ring (t.1.num ∷ d ∷ n ∷ []) (X :* (Y :* Z)) (Y :* (X :* Z)) refl ∙ ap (λ y. d *ℤ y) o.0 ∙ ring ints_ring (d ∷ v ∷ t.1.den ∷ []) (X :* (Y :* Z)) ((X :* Y) :* Z) refl,
  raise d n f vs o.1,
)

record Over (f : Lie) : Type 0 where
  n : ℤ
  vs : List ℤ
  some : pos 1 ≤ℤ n
  over : IsOver n f vs

over : (f : Lie) → Every (λ t. IsRatio t.1) f → Over f
over [] h = record { n = pos 1; vs = []; some = omega (arith, ints); over = tt }
over (t ∷ f) h =
    let o = over f h.1 in
    record {
      n = t.1.den *ℤ o.n;
      vs = (t.1.num *ℤ o.n) ∷ map (λ v. t.1.den *ℤ v) o.vs;
      some = positive-mul t.1.den o.n h.0.below o.some;
      over = (ring ints_ring (t.1.num ∷ t.1.den ∷ o.n ∷ []) (X :* (Y :* Z)) ((X :* Z) :* Y) refl, raise t.1.den o.n f o.vs o.over);
    }

pub common-denominator : CommonDenominatorExists
common-denominator f e = let o = over f e.ratios in (o.n, o.vs, o.some, o.over)

-- ---- the bracket the other way round

pub bracket-antisymmetric : BracketOfElementsIsAntisymmetric
bracket-antisymmetric k f g h l ef eg bh bl x low =
    let a = over f ef.ratios in
    let b = over g eg.ratios in
    let F = sum_over f a.vs in
    let G = sum_over g b.vs in
    let r = ratio_at h x in
    let s = ratio_at l x in
    let c = coef (bracket k F G) x in
    let c' = coef (bracket k G F) x in
    let p : r.num *ℤ (a.n *ℤ b.n) ≡ c *ℤ r.den = bracket-of_sums k a.n b.n f g h a.vs b.vs ef eg a.over b.over bh x in
    let q : s.num *ℤ (b.n *ℤ a.n) ≡ c' *ℤ s.den = bracket-of_sums k b.n a.n g f l b.vs a.vs eg ef b.over a.over bl x in
    let e : c' ≡ neg_ℤ c = antisymmetric k G F x low ∙ coef-minus (bracket k F G) x in
    let n = a.n *ℤ b.n in
    cancel n (s.num *ℤ r.den) (neg_ℤ r.num *ℤ s.den) (positive-not n (positive-mul a.n b.n a.some b.some))
    (ring ints_ring (a.n ∷ b.n ∷ s.num ∷ r.den ∷ []) ((X :* Y) :* (Z :* W)) ((Z :* (Y :* X)) :* W) refl
    ∙ ap (λ y. y *ℤ r.den) (q ∙ ap (λ y. y *ℤ s.den) e)
    ∙ ring ints_ring (c ∷ s.den ∷ r.den ∷ []) ((minus X :* Y) :* Z) (minus (X :* Z) :* Y) refl
    ∙ ap (λ y. neg_ℤ y *ℤ s.den) (sym p)
    ∙ ring ints_ring (a.n ∷ b.n ∷ r.num ∷ s.den ∷ []) (minus (Z :* (X :* Y)) :* W) ((X :* Y) :* (minus Z :* W)) refl)
