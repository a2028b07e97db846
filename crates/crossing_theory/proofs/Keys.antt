-- Keys, which are powers of t1 .. t8 and an exponent in Z^2, and crossings of a wall of direction m0.
use Rattle.std.specs.Prelude.{◌≡◌, refl, ℕ, List, [], ◌∷◌, ◌≤◌}
use Rattle.std.proofs.Common.{sym, ◌∙◌, ap, arith, add_assoc, add_comm, zero-add}
use mathlib.Core.Path.{fun_ext}
use lib.IntN.{ℤ, pos, negsuc, ◌+ℤ◌, ◌-ℤ◌, ◌*ℤ◌, neg_ℤ, +ℤ_assoc, +ℤ_comm, +ℤ_idl}
use Rattle.sum_algebra.proofs.Ring.{var, minus, nought, unit, ring}
use Rattle.sum_algebra.proofs.IntegerRing.{ints_ring, ◌:+◌, ◌:*◌, ◌:-◌, X, Y, Z, W}
use Rattle.sum_algebra.proofs.Sums as S
use Rattle.sum_algebra.proofs.Sums.{Keys, Same, pair, pair-append, pair-multiple}
use Rattle.sum_algebra.proofs.Support.{Supported, one_minus, inverse, inverse-right, weaken}
use Rattle.sum_algebra.proofs.Crossing.{cross, cross-mul}
use Rattle.sum_algebra.proofs.CrossingLaws.{on_inverse, on_int_power, cross-back, cross-same}
use Rattle.sum_algebra.proofs.Bracket.{bracket, cross-bracket}
use Rattle.scattering.specs.Series.{Exp, Powers, Key, powers_add, exp_add, key_mul, degree, det}
use Rattle.scattering.specs.Series as D

pub powers-assoc : (p q r : Powers) → powers_add (powers_add p q) r ≡ powers_add p (powers_add q r)
powers-assoc p q r = λ i. record { t1 = add_assoc p.t1 q.t1 r.t1 i; t2 = add_assoc p.t2 q.t2 r.t2 i; t3 = add_assoc p.t3 q.t3 r.t3 i; t4 = add_assoc p.t4 q.t4 r.t4 i; t5 = add_assoc p.t5 q.t5 r.t5 i; t6 = add_assoc p.t6 q.t6 r.t6 i; t7 = add_assoc p.t7 q.t7 r.t7 i; t8 = add_assoc p.t8 q.t8 r.t8 i }

pub powers-comm : (p q : Powers) → powers_add p q ≡ powers_add q p
powers-comm p q = λ i. record { t1 = add_comm p.t1 q.t1 i; t2 = add_comm p.t2 q.t2 i; t3 = add_comm p.t3 q.t3 i; t4 = add_comm p.t4 q.t4 i; t5 = add_comm p.t5 q.t5 i; t6 = add_comm p.t6 q.t6 i; t7 = add_comm p.t7 q.t7 i; t8 = add_comm p.t8 q.t8 i }

pub powers-zero : (p : Powers) → powers_add D.unit.powers p ≡ p
powers-zero p = λ i. record { t1 = zero-add p.t1 i; t2 = zero-add p.t2 i; t3 = zero-add p.t3 i; t4 = zero-add p.t4 i; t5 = zero-add p.t5 i; t6 = zero-add p.t6 i; t7 = zero-add p.t7 i; t8 = zero-add p.t8 i }

abbrev pub keys : Keys Key
keys = record {
  ◌·◌ = key_mul;
  e = D.unit;
  deg = degree;
  assoc = λ x y z. λ i. record { powers = powers-assoc x.powers y.powers z.powers i; exp = record { a = +ℤ_assoc x.exp.a y.exp.a z.exp.a i; b = +ℤ_assoc x.exp.b y.exp.b z.exp.b i } };
  comm = λ x y. λ i. record { powers = powers-comm x.powers y.powers i; exp = record { a = +ℤ_comm x.exp.a y.exp.a i; b = +ℤ_comm x.exp.b y.exp.b i } };
  unit_left = λ x. λ i. record { powers = powers-zero x.powers i; exp = record { a = +ℤ_idl x.exp.a i; b = +ℤ_idl x.exp.b i } };
  deg_mul = λ x y. omega arith;
}

abbrev pub Series : Type 0
Series = List (Key × ℤ)

abbrev pub key_det : Key → Key → ℤ
key_det x y = det x.exp y.exp

-- exponents that are multiples of m0
abbrev pub Along : Exp → Key → Type 0
Along m0 x = (n : ℤ) × (x.exp.a ≡ n *ℤ m0.a) × (x.exp.b ≡ n *ℤ m0.b)

-- how often a wall function divides or multiplies at a key
abbrev pub turn : Exp → ℤ → Key → ℤ
turn m0 s x = s *ℤ det m0 x.exp

-- 1 and terms of degree at least 1 along m0
pub record Wall (m0 : Exp) (f : Series) : Type 0 where
  pub terms : Supported (λ x. (1 ≤ degree x) × Along m0 x) (one_minus keys f)

abbrev pub crossing : ℕ → Exp → ℤ → Series → Series → Series
crossing k m0 s f g = cross keys k f (inverse keys k f) (turn m0 s) g

module _ (m0 : Exp) (s : ℤ) where
  pub turn-add : (x y : Key) → turn m0 s (key_mul x y) ≡ turn m0 s x +ℤ turn m0 s y
  turn-add x y = ring ints_ring (s ∷ m0.a ∷ m0.b ∷ x.exp.a ∷ x.exp.b ∷ y.exp.a ∷ y.exp.b ∷ []) (X :* (Y :* (var 4 :+ var 6) :- Z :* (W :+ var 5))) (X :* (Y :* var 4 :- Z :* W) :+ X :* (Y :* var 6 :- Z :* var 5)) refl

  pub along-one : Along m0 D.unit
  along-one = (pos 0, ring ints_ring (m0.a ∷ []) nought (nought :* X) refl, ring ints_ring (m0.b ∷ []) nought (nought :* X) refl)

  pub along-mul : (x y : Key) → Along m0 x → Along m0 y → Along m0 (key_mul x y)
  along-mul x y h i =
      (h.0 +ℤ i.0, rw (h.1, i.1) (ring ints_ring (h.0 ∷ i.0 ∷ m0.a ∷ []) (X :* Z :+ Y :* Z) ((X :+ Y) :* Z) refl), rw (h.2, i.2) (ring ints_ring (h.0 ∷ i.0 ∷ m0.b ∷ []) (X :* Z :+ Y :* Z) ((X :+ Y) :* Z) refl))

  pub turn-along : (x : Key) → Along m0 x → turn m0 s x ≡ pos 0
  turn-along x h = rw (h.1, h.2) (ring ints_ring (s ∷ m0.a ∷ m0.b ∷ h.0 ∷ []) (X :* (Y :* (W :* Z) :- Z :* (W :* Y))) nought refl)

  pub key_det-along : (p y : Key) (h : Along m0 p) → key_det p y ≡ h.0 *ℤ det m0 y.exp
  key_det-along p y h = rw (h.1, h.2) (ring ints_ring (h.0 ∷ m0.a ∷ m0.b ∷ y.exp.a ∷ y.exp.b ∷ []) (X :* Y :* var 4 :- X :* Z :* W) (X :* (Y :* var 4 :- Z :* W)) refl)

  pub key_det-flat : (p q : Key) → Along m0 p → Along m0 q → key_det p q ≡ pos 0
  key_det-flat p q h i = key_det-along p q h ∙ rw (i.1, i.2) (ring ints_ring (h.0 ∷ i.0 ∷ m0.a ∷ m0.b ∷ []) (X :* (Z :* (Y :* W) :- W :* (Y :* Z))) nought refl)

  pub aligned : (p x y : Key) → Along m0 p → turn m0 s x *ℤ key_det p y ≡ turn m0 s y *ℤ key_det p x
  aligned p x y h =
      rw (key_det-along p y h, key_det-along p x h)
      (ring ints_ring (s ∷ det m0 x.exp ∷ det m0 y.exp ∷ h.0 ∷ []) ((X :* Y) :* (W :* Z)) ((X :* Z) :* (W :* Y)) refl)

  pub key_det-left : (x y z : Key) → key_det (key_mul x y) z ≡ key_det x z +ℤ key_det y z
  key_det-left x y z = ring ints_ring (x.exp.a ∷ x.exp.b ∷ y.exp.a ∷ y.exp.b ∷ z.exp.a ∷ z.exp.b ∷ []) ((X :+ Z) :* var 5 :- (Y :+ W) :* var 4) ((X :* var 5 :- Y :* var 4) :+ (Z :* var 5 :- W :* var 4)) refl

  pub key_det-right : (x y z : Key) → key_det x (key_mul y z) ≡ key_det x y +ℤ key_det x z
  key_det-right x y z = ring ints_ring (x.exp.a ∷ x.exp.b ∷ y.exp.a ∷ y.exp.b ∷ z.exp.a ∷ z.exp.b ∷ []) (X :* (W :+ var 5) :- Y :* (Z :+ var 4)) ((X :* W :- Y :* Z) :+ (X :* var 5 :- Y :* var 4)) refl

  pub key_det-swap : (x y : Key) → key_det x y ≡ neg_ℤ (key_det y x)
  key_det-swap x y = ring ints_ring (x.exp.a ∷ x.exp.b ∷ y.exp.a ∷ y.exp.b ∷ []) (X :* W :- Y :* Z) (minus (Z :* Y :- W :* X)) refl

  module _ (k : ℕ) (f : Series) (wall : Wall m0 f) where
    pub wall-inverse : Same keys k (S.mul keys f (inverse keys k f)) (S.one keys)
    wall-inverse = inverse-right keys k f (weaken (λ x. (1 ≤ degree x) × Along m0 x) (λ x. 1 ≤ degree x) (one_minus keys f) (λ x h. h.0) wall.terms)

    pub wall-along : Supported (Along m0) f
    wall-along = record {
      at = λ φ ψ h.
          let d = wall.terms.at φ ψ (λ x i. h x i.1) in
          let dφ : pair φ (one_minus keys f) ≡ pos 1 *ℤ φ D.unit +ℤ negsuc 0 *ℤ pair φ f = ap (λ z. pos 1 *ℤ φ D.unit +ℤ z) (pair-multiple φ (negsuc 0) f) in
          let dψ : pair ψ (one_minus keys f) ≡ pos 1 *ℤ ψ D.unit +ℤ negsuc 0 *ℤ pair ψ f = ap (λ z. pos 1 *ℤ ψ D.unit +ℤ z) (pair-multiple ψ (negsuc 0) f) in
          ring ints_ring (φ D.unit ∷ pair φ f ∷ []) Y (unit :* X :- (unit :* X :+ minus unit :* Y)) refl
          ∙ ap (λ z. pos 1 *ℤ φ D.unit -ℤ z) (sym dφ ∙ d ∙ dψ) ∙ ap (λ z. pos 1 *ℤ z -ℤ (pos 1 *ℤ ψ D.unit +ℤ negsuc 0 *ℤ pair ψ f)) (h D.unit along-one)
          ∙ ring ints_ring (ψ D.unit ∷ pair ψ f ∷ []) (unit :* X :- (unit :* X :+ minus unit :* Y)) Y refl;
    }

    pub inverse-along : Supported (Along m0) (inverse keys k f)
    inverse-along = on_inverse keys (Along m0) along-one along-mul k f wall-along

    -- ---- the laws of crossings
    pub crossing-mul : (g h : Series) → Same keys k (crossing k m0 s f (S.mul keys g h)) (S.mul keys (crossing k m0 s f g) (crossing k m0 s f h))
    crossing-mul g h = cross-mul keys k f (inverse keys k f) (turn m0 s) wall-inverse turn-add g h

    pub crossing-same : (g h : Series) → Same keys k g h → Same keys k (crossing k m0 s f g) (crossing k m0 s f h)
    crossing-same g h e = cross-same keys k f (inverse keys k f) (turn m0 s) g h e

    pub crossing-bracket : (g h : Series) → Same keys k (crossing k m0 s f (bracket keys key_det g h)) (bracket keys key_det (crossing k m0 s f g) (crossing k m0 s f h))
    crossing-bracket g h =
        cross-bracket keys key_det k f (inverse keys k f) (turn m0 s) wall-inverse turn-add key_det-left key_det-right key_det-swap (Along m0) aligned key_det-flat wall-along
        (λ a. on_int_power keys (Along m0) along-one along-mul f (inverse keys k f) wall-along inverse-along a) g h

    pub turn-opposite : (x : Key) → neg_ℤ (turn m0 s x) ≡ turn m0 (neg_ℤ s) x
    turn-opposite x = ring ints_ring (s ∷ det m0 x.exp ∷ []) (minus (X :* Y)) (minus X :* Y) refl

    pub crossing-back : (g : Series) → Same keys k (crossing k m0 (neg_ℤ s) f (crossing k m0 s f g)) g
    crossing-back g = record {
      at = λ φ v.
          ap (λ (d : Key → ℤ). pair φ (cross keys k f (inverse keys k f) d (crossing k m0 s f g))) (sym (fun_ext turn-opposite))
          ∙ (cross-back keys k f (inverse keys k f) (turn m0 s) wall-inverse turn-add
          (weaken (Along m0) (λ x. turn m0 s x ≡ pos 0) f turn-along wall-along)
          (weaken (Along m0) (λ x. turn m0 s x ≡ pos 0) (inverse keys k f) turn-along inverse-along) g).at φ v;
    }
