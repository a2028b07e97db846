-- Sums, products, powers and substitutions keep bounds; a sum without coefficients below 0 bounds itself.
use Rattle.std.proofs.Common.{◌≡◌, ℕ, zero, suc, ◌<◌, refl, ◌∙◌, [], ◌∷◌, ◌++◌, map, arith}
use Rattle.std.specs.Prelude.{ℤ, pos, negsuc, ◌+ℤ◌, ◌*ℤ◌, ◌≤ℤ◌, neg_ℤ, nat_abs, nat_le, flat_map}
use Rattle.std.proofs.lemmas.Int.{ints}
use Rattle.sum_algebra.proofs.Ring.{nought, ring}
use Rattle.sum_algebra.proofs.IntegerRing.{ints_ring, ◌:+◌, X, Y}
use Rattle.sum_algebra.proofs.Sums.{pair, pair-append, pair-zero, pair-ext}
use Rattle.scattering.specs.Series.{Key, Term, Sum, degree, key_mul, term_mul, cut, mul, minus, absolute, pow, powers_to, one, monomial}
use Rattle.scattering.proofs.Lists.{Every-append, Every-filter}
use Rattle.crossing_theory.proofs.Translation.{Eq, pair-mul}
use Rattle.weight_theory.specs.Laws.{IsNonnegative}
use Rattle.weight_theory.proofs.Readings.{triangle, product, Covers, unseen, Bounds}

module _ (k : ℕ) where
  pub bounds-nil : Bounds k [] []
  bounds-nil = record { at = λ φ ψ c. omega (arith, ints) }

  pub bounds-cons : (x : Key) (a b : ℤ) (f F : Sum) → pos (nat_abs a) ≤ℤ b → Bounds k f F → Bounds k ((x, a) ∷ f) ((x, b) ∷ F)
  bounds-cons x a b f F h i = record { at = λ φ ψ c. triangle (a *ℤ φ x) (b *ℤ ψ x) (pair φ f) (pair ψ F) (product a b (φ x) (ψ x) h (c.each x)) (i.at φ ψ c) }

  pub bounds-append : (f F g G : Sum) → Bounds k f F → Bounds k g G → Bounds k (f ++ g) (F ++ G)
  bounds-append f F g G h i = record { at = λ φ ψ c. rw (pair-append φ f g, pair-append ψ F G) (triangle (pair φ f) (pair ψ F) (pair φ g) (pair ψ G) (h.at φ ψ c) (i.at φ ψ c)) }

  pub bounds-trans : (f F G : Sum) → Bounds k f F → Bounds k F G → Bounds k f G
  bounds-trans f F G h i = record { at = λ φ ψ c. between (pair φ f) (pair ψ F) (pair ψ G) (h.at φ ψ c) (i.at ψ ψ (record { each = λ x. itself (φ x) (ψ x) (c.each x); high = c.high })) }
    where
      between : (a b d : ℤ) → pos (nat_abs a) ≤ℤ b → pos (nat_abs b) ≤ℤ d → pos (nat_abs a) ≤ℤ d
      between a b d p q = omega (arith, ints, p, q)

      itself : (a b : ℤ) → pos (nat_abs a) ≤ℤ b → pos (nat_abs b) ≤ℤ b
      itself a b p = omega (arith, ints, p)

  -- sums that are equal to degree k have the same bounds
  pub bounds-same : (f g F : Sum) → Eq k f g → Bounds k g F → Bounds k f F
  bounds-same f g F e h = record { at = λ φ ψ c. rw (e.at φ (unseen k φ ψ c)) (h.at φ ψ c) }

  pub bounds-same_above : (f F G : Sum) → Eq k F G → Bounds k f F → Bounds k f G
  bounds-same_above f F G e h = record { at = λ φ ψ c. rw (← e.at ψ c.high) (h.at φ ψ c) }

  -- ---- sums without coefficients below 0

  pub bounds-itself : (F : Sum) → IsNonnegative F → Bounds k F F
  bounds-itself [] h = bounds-nil
  bounds-itself (t ∷ F) h = bounds-cons t.0 t.1 t.1 F F (itself t.1 h.0) (bounds-itself F h.1)
    where
      itself : (a : ℤ) → pos 0 ≤ℤ a → pos (nat_abs a) ≤ℤ a
      itself a p = omega (arith, ints, p)

  -- more terms bound as well
  pub bounds-more : (f F G : Sum) → IsNonnegative G → Bounds k f F → Bounds k f (F ++ G)
  bounds-more f F G p h = record { at = λ φ ψ c. rw (pair-append ψ F G) (more (pair φ f) (pair ψ F) (pair ψ G) (h.at φ ψ c) ((bounds-itself G p).at ψ ψ (record { each = λ x. itself (φ x) (ψ x) (c.each x); high = c.high }))) }
    where
      more : (a b d : ℤ) → pos (nat_abs a) ≤ℤ b → pos (nat_abs d) ≤ℤ d → pos (nat_abs a) ≤ℤ (b +ℤ d)
      more a b d p q = omega (arith, ints, p, q)

      itself : (a b : ℤ) → pos (nat_abs a) ≤ℤ b → pos (nat_abs b) ≤ℤ b
      itself a b p = omega (arith, ints, p)

  pub bounds-absolute : (f : Sum) → Bounds k f (absolute f)
  bounds-absolute [] = bounds-nil
  bounds-absolute (t ∷ f) = bounds-cons t.0 t.1 (pos (nat_abs t.1)) f (absolute f) (omega (arith, ints)) (bounds-absolute f)

  pub bounds-minus : (f : Sum) → Bounds k (minus f) (absolute f)
  bounds-minus [] = bounds-nil
  bounds-minus (t ∷ f) = bounds-cons t.0 (neg_ℤ t.1) (pos (nat_abs t.1)) (minus f) (absolute f) (omega (arith, ints)) (bounds-minus f)

  pub bounds-monomial : (x : Key) → Bounds k (monomial x) (monomial x)
  bounds-monomial x = bounds-cons x (pos 1) (pos 1) [] [] (omega (arith, ints)) bounds-nil

  -- ---- products and powers

  -- a reading after a multiplication by a sum
  covers-after : (g G : Sum) → Bounds k g G → (φ ψ : Key → ℤ) → Covers k φ ψ → Covers k (λ x. pair (λ y. φ (key_mul x y)) g) (λ x. pair (λ y. ψ (key_mul x y)) G)
  covers-after g G h φ ψ c = record {
    each = λ x. h.at (λ y. φ (key_mul x y)) (λ y. ψ (key_mul x y)) (record { each = λ y. c.each (key_mul x y); high = λ y d. c.high (key_mul x y) (omega (arith, d)) });
    high = λ x d. pair-ext (λ y. ψ (key_mul x y)) (λ _. pos 0) G (λ y. c.high (key_mul x y) (omega (arith, d))) ∙ pair-zero G;
  }

  pub bounds-mul : (f F g G : Sum) → Bounds k f F → Bounds k g G → Bounds k (mul k f g) (mul k F G)
  bounds-mul f F g G h i = record {
    at = λ φ ψ c.
        rw (pair-mul k f g φ (unseen k φ ψ c), pair-mul k F G ψ c.high)
        (h.at (λ x. pair (λ y. φ (key_mul x y)) g) (λ x. pair (λ y. ψ (key_mul x y)) G) (covers-after g G i φ ψ c));
  }

  pub bounds-pow : (f F : Sum) (i : ℕ) → Bounds k f F → Bounds k (pow k f i) (pow k F i)
  bounds-pow f F zero h = bounds-monomial _
  bounds-pow f F (suc i) h = bounds-mul f F (pow k f i) (pow k F i) h (bounds-pow f F i h)

  pub bounds-powers_to : (f F : Sum) (i : ℕ) → Bounds k f F → Bounds k (powers_to k f i) (powers_to k F i)
  bounds-powers_to f F zero h = bounds-monomial _
  bounds-powers_to f F (suc i) h = bounds-append (powers_to k f i) (powers_to k F i) (pow k f (suc i)) (pow k F (suc i)) (bounds-powers_to f F i h) (bounds-pow f F (suc i) h)

  -- ---- each key x replaced by x·P x

  abbrev pub substitute : (Key → Sum) → Sum → Sum
  substitute P g = flat_map (λ t. mul k (t ∷ []) (P t.0)) g

  pub pair-substitute : (P : Key → Sum) (g : Sum) (φ : Key → ℤ) → ((x : Key) → k < degree x → φ x ≡ pos 0) → pair φ (substitute P g) ≡ pair (λ x. pair (λ y. φ (key_mul x y)) (P x)) g
  pair-substitute P [] φ v = refl
  pair-substitute P (t ∷ g) φ v =
      pair-append φ (mul k (t ∷ []) (P t.0)) (substitute P g)
      ∙ rw (pair-mul k (t ∷ []) (P t.0) φ v, pair-substitute P g φ v)
      (ring ints_ring ((t.1 *ℤ pair (λ y. φ (key_mul t.0 y)) (P t.0)) ∷ pair (λ x. pair (λ y. φ (key_mul x y)) (P x)) g ∷ []) ((X :+ nought) :+ Y) (X :+ Y) refl)

  pub bounds-substitute : (P Q : Key → Sum) (g G : Sum) → ((x : Key) → Bounds k (P x) (Q x)) → Bounds k g G → Bounds k (substitute P g) (substitute Q G)
  bounds-substitute P Q g G h i = record {
    at = λ φ ψ c.
        rw (pair-substitute P g φ (unseen k φ ψ c), pair-substitute Q G ψ c.high)
        (i.at (λ x. pair (λ y. φ (key_mul x y)) (P x)) (λ x. pair (λ y. ψ (key_mul x y)) (Q x)) (record {
          each = λ x. (covers-after (P x) (Q x) (h x) φ ψ c).each x;
          high = λ x. (covers-after (P x) (Q x) (h x) φ ψ c).high x;
        }));
  }

  -- ---- what stays without coefficients below 0

  product-nonnegative : (a b : ℤ) → pos 0 ≤ℤ a → pos 0 ≤ℤ b → pos 0 ≤ℤ (a *ℤ b)
  product-nonnegative (pos a) (pos b) h i = omega (arith, ints)
  product-nonnegative (pos a) (negsuc b) h i = absurd (omega (arith, ints, i))
  product-nonnegative (negsuc a) b h i = absurd (omega (arith, ints, h))

  row-nonnegative : (t : Term) (g : Sum) → pos 0 ≤ℤ t.1 → IsNonnegative g → IsNonnegative (map (term_mul t) g)
  row-nonnegative t [] h i = tt
  row-nonnegative t (u ∷ g) h i = (product-nonnegative t.1 u.1 h i.0, row-nonnegative t g h i.1)

  pub mul-nonnegative : (f g : Sum) → IsNonnegative f → IsNonnegative g → IsNonnegative (mul k f g)
  mul-nonnegative [] g h i = tt
  mul-nonnegative (t ∷ f) g h i =
      Every-append (λ u. pos 0 ≤ℤ u.1) (cut k (map (term_mul t) g)) (mul k f g)
      (Every-filter (λ u. pos 0 ≤ℤ u.1) (λ u. nat_le (degree u.0) k) (map (term_mul t) g) (row-nonnegative t g h.0 i)) (mul-nonnegative f g h.1 i)

  pub one-nonnegative : IsNonnegative one
  one-nonnegative = (omega (arith, ints), tt)

  pub pow-nonnegative : (f : Sum) (i : ℕ) → IsNonnegative f → IsNonnegative (pow k f i)
  pow-nonnegative f zero h = one-nonnegative
  pow-nonnegative f (suc i) h = mul-nonnegative f (pow k f i) h (pow-nonnegative f i h)

  pub powers_to-nonnegative : (f : Sum) (i : ℕ) → IsNonnegative f → IsNonnegative (powers_to k f i)
  powers_to-nonnegative f zero h = one-nonnegative
  powers_to-nonnegative f (suc i) h = Every-append (λ u. pos 0 ≤ℤ u.1) (powers_to k f i) (pow k f (suc i)) (powers_to-nonnegative f i h) (pow-nonnegative f (suc i) h)

  pub absolute-nonnegative : (f : Sum) → IsNonnegative (absolute f)
  absolute-nonnegative [] = tt
  absolute-nonnegative (t ∷ f) = (omega (arith, ints), absolute-nonnegative f)

  pub substitute-nonnegative : (P : Key → Sum) (g : Sum) → ((x : Key) → IsNonnegative (P x)) → IsNonnegative g → IsNonnegative (substitute P g)
  substitute-nonnegative P [] h i = tt
  substitute-nonnegative P (t ∷ g) h i =
      Every-append (λ u. pos 0 ≤ℤ u.1) (mul k (t ∷ []) (P t.0)) (substitute P g) (mul-nonnegative (t ∷ []) (P t.0) (i.0, tt) (h t.0)) (substitute-nonnegative P g h i.1)
