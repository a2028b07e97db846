-- The bracket, read by pairings: antisymmetric, a derivation in each place, and the Jacobi identity.
use Rattle.std.proofs.Common.{◌≡◌, ℕ, refl, sym, ◌∙◌, ap, [], ◌∷◌, ◌++◌, map, ◌<◌, arith}
use Rattle.std.specs.Prelude.{ℤ, pos, ◌*ℤ◌, ◌+ℤ◌, neg_ℤ}
use Rattle.sum_algebra.proofs.Ring.{var, plus, times, minus, nought, ring}
use Rattle.sum_algebra.proofs.Ring as E
use Rattle.sum_algebra.proofs.IntegerRing.{ints_ring, ◌:+◌, ◌:*◌, ◌:-◌, X, Y, Z, W}
use Rattle.sum_algebra.proofs.Sums as S
use Rattle.sum_algebra.proofs.Sums.{pair, pair-append, pair-ext, pair-swap, pair-plus, pair-factor}
use Rattle.sum_algebra.proofs.Bracket.{pair-bracket}
use Rattle.scattering.specs.Series.{Key, Term, Sum, degree, det, key_mul, cut}
use Rattle.scattering.specs.Series as D
use Rattle.scattering.specs.Bracket.{bracket, term_bracket}
use Rattle.crossing_theory.specs.Laws.{BracketIsAntisymmetric, BracketDerives, BracketDerivesFirst, JacobiIdentity}
use Rattle.crossing_theory.proofs.Keys.{keys, key_det, key_det-left, key_det-right}
use Rattle.crossing_theory.proofs.Translation.{Eq, from_Eq, cut-same, pair-mul, pair-minus}
use Rattle.crossing_theory.proofs.LocalProductLaws.{brace, Vanishes}

pair-term : (φ : Key → ℤ) (t : Term) (g : Sum) → pair φ (map (term_bracket t) g) ≡ t.1 *ℤ pair (λ v. det t.0.exp v.exp *ℤ φ (key_mul t.0 v)) g
pair-term φ t [] = ring ints_ring (t.1 ∷ []) nought (X :* nought) refl
pair-term φ t (u ∷ g) =
    rw (pair-term φ t g)
    (ring ints_ring (det t.0.exp u.0.exp ∷ t.1 ∷ u.1 ∷ φ (key_mul t.0 u.0) ∷ pair (λ v. det t.0.exp v.exp *ℤ φ (key_mul t.0 v)) g ∷ [])
    (X :* (Y :* Z) :* W :+ Y :* var 4) (Y :* (Z :* (X :* W) :+ var 4)) refl)

-- a bracket is read as the sum over all pairs
pub pair-brace : (k : ℕ) (f g : Sum) (φ : Key → ℤ) → Vanishes k φ → pair φ (bracket k f g) ≡ pair (λ u. pair (λ v. det u.exp v.exp *ℤ φ (key_mul u v)) g) f
pair-brace k [] g φ v = refl
pair-brace k (t ∷ f) g φ v =
    pair-append φ (cut k (map (term_bracket t) g)) (bracket k f g)
    ∙ rw (pair-brace k f g φ v, (cut-same k (map (term_bracket t) g)).at φ v, pair-term φ t g)

-- so it is the algebra's
pub bracket-same : (k : ℕ) (f g : Sum) → Eq k (bracket k f g) (brace f g)
bracket-same k f g = record { at = λ φ v. pair-brace k f g φ v ∙ sym (pair-bracket keys key_det φ f g) }

-- a test after a product by a key, and with a determinant, vanishes above k as well
after-key : (k : ℕ) (φ : Key → ℤ) → Vanishes k φ → (u : Key) → Vanishes k (λ w. det u.exp w.exp *ℤ φ (key_mul u w))
after-key k φ v u w d = ap (λ c. det u.exp w.exp *ℤ c) (v (key_mul u w) (let q = keys.deg_mul u w in omega (arith, q, d))) ∙ ring ints_ring (det u.exp w.exp ∷ []) (X :* nought) nought refl

after-product : (k : ℕ) (φ : Key → ℤ) → Vanishes k φ → (u : Key) → Vanishes k (λ w. φ (key_mul u w))
after-product k φ v u w d = v (key_mul u w) (let q = keys.deg_mul u w in omega (arith, q, d))

-- ---- three keys at a time

abbrev Triple : Type 0
Triple = Key → Key → Key → ℤ

-- the sum over all triples of terms
abbrev triples : Triple → Sum → Sum → Sum → ℤ
triples ψ f g h = pair (λ u. pair (λ v. pair (λ w. ψ u v w) h) g) f

triples-ext : (ψ χ : Triple) (f g h : Sum) → ((u v w : Key) → ψ u v w ≡ χ u v w) → triples ψ f g h ≡ triples χ f g h
triples-ext ψ χ f g h e = pair-ext _ _ f (λ u. pair-ext _ _ g (λ v. pair-ext _ _ h (λ w. e u v w)))

triples-plus : (ψ χ : Triple) (f g h : Sum) → triples (λ u v w. ψ u v w +ℤ χ u v w) f g h ≡ triples ψ f g h +ℤ triples χ f g h
triples-plus ψ χ f g h =
    pair-ext _ _ f (λ u. pair-ext _ _ g (λ v. pair-plus (ψ u v) (χ u v) h) ∙ pair-plus (λ v. pair (ψ u v) h) (λ v. pair (χ u v) h) g)
    ∙ pair-plus (λ u. pair (λ v. pair (ψ u v) h) g) (λ u. pair (λ v. pair (χ u v) h) g) f

-- in another order
turned : (ψ : Triple) (f g h : Sum) → triples ψ f g h ≡ triples (λ v w u. ψ u v w) g h f
turned ψ f g h = pair-swap (λ u v. pair (ψ u v) h) f g ∙ pair-ext _ _ g (λ v. pair-swap (λ u w. ψ u v w) f h)

nested : (k : ℕ) (f g h : Sum) (φ : Key → ℤ) → Vanishes k φ
    → pair φ (bracket k f (bracket k g h)) ≡ triples (λ u v w. det v.exp w.exp *ℤ (det u.exp (key_mul v w).exp *ℤ φ (key_mul u (key_mul v w)))) f g h
nested k f g h φ v = pair-brace k f (bracket k g h) φ v ∙ pair-ext _ _ f (λ u. pair-brace k g h (λ w. det u.exp w.exp *ℤ φ (key_mul u w)) (after-key k φ v u))

-- ---- the laws

pub antisymmetric : BracketIsAntisymmetric
antisymmetric k f g = from_Eq k _ _ (record {
  at = λ φ v.
      pair-brace k f g φ v ∙ pair-swap (λ u w. det u.exp w.exp *ℤ φ (key_mul u w)) f g
      ∙ pair-ext _ (λ w. pair (λ u. negsign *ℤ (det w.exp u.exp *ℤ φ (key_mul w u))) f) g (λ w. pair-ext _ _ f (λ u. swapped φ u w))
      ∙ pair-ext _ _ g (λ w. pair-factor negsign (λ u. det w.exp u.exp *ℤ φ (key_mul w u)) f)
      ∙ pair-factor negsign (λ w. pair (λ u. det w.exp u.exp *ℤ φ (key_mul w u)) f) g
      ∙ ap (λ c. negsign *ℤ c) (sym (pair-brace k g f φ v))
      ∙ ring ints_ring (pair φ (bracket k g f) ∷ []) (minus E.unit :* X) (minus X) refl ∙ sym (pair-minus φ (bracket k g f));
})
  where
    negsign : ℤ
    negsign = neg_ℤ (pos 1)

    swapped : (φ : Key → ℤ) (u w : Key) → det u.exp w.exp *ℤ φ (key_mul u w) ≡ neg_ℤ (pos 1) *ℤ (det w.exp u.exp *ℤ φ (key_mul w u))
    swapped φ u w =
        ap (λ (x : Key). det u.exp w.exp *ℤ φ x) (keys.comm u w)
        ∙ ring ints_ring (u.exp.a ∷ u.exp.b ∷ w.exp.a ∷ w.exp.b ∷ φ (key_mul w u) ∷ []) ((X :* W :- Y :* Z) :* var 4) (minus E.unit :* ((Z :* Y :- W :* X) :* var 4)) refl

pub derives : BracketDerives
derives k f g h = from_Eq k _ _ (record {
  at = λ φ v.
      pair-brace k f (D.mul k g h) φ v
      ∙ pair-ext _ _ f (λ u. pair-mul k g h (λ w. det u.exp w.exp *ℤ φ (key_mul u w)) (after-key k φ v u))
      ∙ triples-ext (λ u x y. det u.exp (key_mul x y).exp *ℤ φ (key_mul u (key_mul x y))) (λ u x y. left φ u x y +ℤ right φ u x y) f g h (split φ)
      ∙ triples-plus (left φ) (right φ) f g h
      ∙ ap (λ c. c +ℤ triples (right φ) f g h) (sym (first φ v)) ∙ ap (λ c. pair φ (D.mul k (bracket k f g) h) +ℤ c) (sym (second φ v))
      ∙ sym (pair-append φ (D.mul k (bracket k f g) h) (D.mul k g (bracket k f h)));
})
  where
    left : (Key → ℤ) → Triple
    left φ u x y = det u.exp x.exp *ℤ φ (key_mul (key_mul u x) y)

    right : (Key → ℤ) → Triple
    right φ u x y = det u.exp y.exp *ℤ φ (key_mul x (key_mul u y))

    split : (φ : Key → ℤ) (u x y : Key) → det u.exp (key_mul x y).exp *ℤ φ (key_mul u (key_mul x y)) ≡ left φ u x y +ℤ right φ u x y
    split φ u x y =
        ap (λ c. c *ℤ φ (key_mul u (key_mul x y))) (key_det-right origin-free (pos 0) u x y)
        ∙ ring ints_ring (det u.exp x.exp ∷ det u.exp y.exp ∷ φ (key_mul u (key_mul x y)) ∷ []) ((X :+ Y) :* Z) (X :* Z :+ Y :* Z) refl
        ∙ ap (λ (z : Key). det u.exp x.exp *ℤ φ z +ℤ det u.exp y.exp *ℤ φ (key_mul u (key_mul x y))) (sym (keys.assoc u x y))
        ∙ ap (λ (z : Key). det u.exp x.exp *ℤ φ (key_mul (key_mul u x) y) +ℤ det u.exp y.exp *ℤ φ z)
        (sym (keys.assoc u x y) ∙ ap (λ (z : Key). key_mul z y) (keys.comm u x) ∙ keys.assoc x u y)
      where
        origin-free : D.Exp
        origin-free = D.origin

    first : (φ : Key → ℤ) → Vanishes k φ → pair φ (D.mul k (bracket k f g) h) ≡ triples (left φ) f g h
    first φ v =
        pair-mul k (bracket k f g) h φ v
        ∙ pair-brace k f g (λ x. pair (λ y. φ (key_mul x y)) h) (λ x d. pair-ext _ (λ _. pos 0) h (λ y. v (key_mul x y) (let q = keys.deg_mul x y in omega (arith, q, d))) ∙ S.pair-zero h)
        ∙ pair-ext _ _ f (λ u. pair-ext _ _ g (λ x. sym (pair-factor (det u.exp x.exp) (λ y. φ (key_mul (key_mul u x) y)) h)))

    second : (φ : Key → ℤ) → Vanishes k φ → pair φ (D.mul k g (bracket k f h)) ≡ triples (right φ) f g h
    second φ v =
        pair-mul k g (bracket k f h) φ v
        ∙ pair-ext _ _ g (λ x. pair-brace k f h (λ w. φ (key_mul x w)) (after-product k φ v x))
        ∙ pair-swap (λ x u. pair (λ y. det u.exp y.exp *ℤ φ (key_mul x (key_mul u y))) h) g f

pub jacobi : JacobiIdentity
jacobi k f g h = from_Eq k (bracket k f (bracket k g h) ++ bracket k g (bracket k h f) ++ bracket k h (bracket k f g)) [] (record {
  at = λ φ v.
      pair-append φ (bracket k f (bracket k g h) ++ bracket k g (bracket k h f)) (bracket k h (bracket k f g))
      ∙ ap (λ c. c +ℤ pair φ (bracket k h (bracket k f g))) (pair-append φ (bracket k f (bracket k g h)) (bracket k g (bracket k h f)))
      ∙ rw (nested k f g h φ v, nested k g h f φ v ∙ sym (turned (λ u x y. cyclic φ x y u) f g h), nested k h f g φ v ∙ turned (cyclic φ) h f g)
      (sym (ap (λ c. c +ℤ triples (λ u x y. cyclic φ y u x) f g h) (triples-plus (cyclic φ) (λ u x y. cyclic φ x y u) f g h))
      ∙ sym (triples-plus (λ u x y. cyclic φ u x y +ℤ cyclic φ x y u) (λ u x y. cyclic φ y u x) f g h)
      ∙ triples-ext _ (λ u x y. pos 0) f g h (none φ) ∙ zero-triples);
})
  where
    cyclic : (Key → ℤ) → Triple
    cyclic φ u x y = det x.exp y.exp *ℤ (det u.exp (key_mul x y).exp *ℤ φ (key_mul u (key_mul x y)))

    zero-triples : triples (λ u x y. pos 0) f g h ≡ pos 0
    zero-triples = pair-ext _ (λ _. pos 0) f (λ u. pair-ext _ (λ _. pos 0) g (λ x. S.pair-zero h) ∙ S.pair-zero g) ∙ S.pair-zero f

    none : (φ : Key → ℤ) (u x y : Key) → cyclic φ u x y +ℤ cyclic φ x y u +ℤ cyclic φ y u x ≡ pos 0
    none φ u x y =
        let a : key_mul x (key_mul y u) ≡ key_mul u (key_mul x y) = sym (keys.assoc x y u) ∙ keys.comm (key_mul x y) u in
        let b : key_mul y (key_mul u x) ≡ key_mul u (key_mul x y) = keys.comm y (key_mul u x) ∙ keys.assoc u x y in
        ap (λ (z : Key). cyclic φ u x y +ℤ det y.exp u.exp *ℤ (det x.exp (key_mul y u).exp *ℤ φ z) +ℤ cyclic φ y u x) a
        ∙ ap (λ (z : Key). cyclic φ u x y +ℤ det y.exp u.exp *ℤ (det x.exp (key_mul y u).exp *ℤ φ (key_mul u (key_mul x y))) +ℤ det u.exp x.exp *ℤ (det y.exp (key_mul u x).exp *ℤ φ z)) b
        ∙ ring ints_ring (u.exp.a ∷ u.exp.b ∷ x.exp.a ∷ x.exp.b ∷ y.exp.a ∷ y.exp.b ∷ φ (key_mul u (key_mul x y)) ∷ [])
        ((Z :* var 5 :- W :* var 4) :* ((X :* (W :+ var 5) :- Y :* (Z :+ var 4)) :* var 6)
        :+ (var 4 :* Y :- var 5 :* X) :* ((Z :* (var 5 :+ Y) :- W :* (var 4 :+ X)) :* var 6)
        :+ (X :* W :- Y :* Z) :* ((var 4 :* (Y :+ W) :- var 5 :* (X :+ Z)) :* var 6)) nought refl

-- ---- the first place

pub derives-first : BracketDerivesFirst
derives-first k f g h = from_Eq k _ (D.mul k (bracket k f h) g ++ D.mul k f (bracket k g h)) (record {
  at = λ φ v.
      pair-brace k (D.mul k f g) h φ v
      ∙ pair-mul k f g (λ x. pair (λ w. det x.exp w.exp *ℤ φ (key_mul x w)) h) (λ x d. pair-ext _ (λ _. pos 0) h (λ w. vanish φ v x w d) ∙ S.pair-zero h)
      ∙ triples-ext (λ u x w. det (key_mul u x).exp w.exp *ℤ φ (key_mul (key_mul u x) w)) (λ u x w. left φ u x w +ℤ right φ u x w) f g h (split φ)
      ∙ triples-plus (left φ) (right φ) f g h
      ∙ ap (λ c. c +ℤ triples (right φ) f g h) (sym (first φ v)) ∙ ap (λ c. pair φ (D.mul k (bracket k f h) g) +ℤ c) (sym (second φ v))
      ∙ sym (pair-append φ (D.mul k (bracket k f h) g) (D.mul k f (bracket k g h)));
})
  where
    left : (Key → ℤ) → Triple
    left φ u x w = det u.exp w.exp *ℤ φ (key_mul (key_mul u w) x)

    right : (Key → ℤ) → Triple
    right φ u x w = det x.exp w.exp *ℤ φ (key_mul u (key_mul x w))

    vanish : (φ : Key → ℤ) → Vanishes k φ → (x w : Key) → k < degree x → det x.exp w.exp *ℤ φ (key_mul x w) ≡ pos 0
    vanish φ v x w d = ap (λ c. det x.exp w.exp *ℤ c) (v (key_mul x w) (let q = keys.deg_mul x w in omega (arith, q, d))) ∙ ring ints_ring (det x.exp w.exp ∷ []) (X :* nought) nought refl

    split : (φ : Key → ℤ) (u x w : Key) → det (key_mul u x).exp w.exp *ℤ φ (key_mul (key_mul u x) w) ≡ left φ u x w +ℤ right φ u x w
    split φ u x w =
        ap (λ c. c *ℤ φ (key_mul (key_mul u x) w)) (key_det-left D.origin (pos 0) u x w)
        ∙ ring ints_ring (det u.exp w.exp ∷ det x.exp w.exp ∷ φ (key_mul (key_mul u x) w) ∷ []) ((X :+ Y) :* Z) (X :* Z :+ Y :* Z) refl
        ∙ ap (λ (z : Key). det u.exp w.exp *ℤ φ (key_mul (key_mul u x) w) +ℤ det x.exp w.exp *ℤ φ z) (keys.assoc u x w)
        ∙ ap (λ (z : Key). det u.exp w.exp *ℤ φ z +ℤ det x.exp w.exp *ℤ φ (key_mul u (key_mul x w)))
        (keys.assoc u x w ∙ ap (λ (z : Key). key_mul u z) (keys.comm x w) ∙ sym (keys.assoc u w x))

    first : (φ : Key → ℤ) → Vanishes k φ → pair φ (D.mul k (bracket k f h) g) ≡ triples (left φ) f g h
    first φ v =
        pair-mul k (bracket k f h) g φ v
        ∙ pair-brace k f h (λ z. pair (λ x. φ (key_mul z x)) g) (λ z d. pair-ext _ (λ _. pos 0) g (λ x. v (key_mul z x) (let q = keys.deg_mul z x in omega (arith, q, d))) ∙ S.pair-zero g)
        ∙ pair-ext _ _ f (λ u. pair-ext _ _ h (λ w. sym (pair-factor (det u.exp w.exp) (λ x. φ (key_mul (key_mul u w) x)) g)) ∙ pair-swap (λ w x. left φ u x w) h g)

    second : (φ : Key → ℤ) → Vanishes k φ → pair φ (D.mul k f (bracket k g h)) ≡ triples (right φ) f g h
    second φ v = pair-mul k f (bracket k g h) φ v ∙ pair-ext _ _ f (λ u. pair-brace k g h (λ w. φ (key_mul u w)) (after-product k φ v u))
