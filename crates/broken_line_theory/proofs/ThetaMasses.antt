-- Products with thetas: no coefficient of a theta's product with a sum exceeds what its weight allows.
--     over y x        the key whose product with x is y, where there is one
use Rattle.std.proofs.Common.{◌≡◌, ◌≢◌, ℕ, refl, sym, ap, subst, ◌∙◌, ◌+◌, ◌-◌, ◌*◌, ◌≤◌, arith, Bool, true, false, List, [], ◌∷◌, length}
use Rattle.std.specs.Prelude.{ℤ, pos, ◌+ℤ◌, ◌*ℤ◌, nat_abs, nat_le, None}
use Rattle.std.proofs.lemmas.Int.{ints}
use Rattle.scattering.specs.Collections.{Every, Lists}
use Rattle.scattering.specs.Series.{Exp, Key, Sum, Same, origin, one, unit, exp_eq, exp_sub, key_eq, key_mul, degree, coef}
use Rattle.scattering.specs.Plane.{Point, IsPoint}
use Rattle.scattering.specs.Wall.{Wall, IsWall}
use Rattle.scattering.specs.Tail.{Tail, IsTail, is_complete, tail_weight}
use Rattle.scattering.specs.Theta.{IsAskFault, IsTheta, weights}
use Rattle.scattering.specs.ThetaProduct.{combined, weight_of, IsThetaWeight, IsThetaProduct}
use Rattle.scattering.proofs.Keys.{key_eq-same, key_eq-refl, same-powers, same-exp}
use Rattle.scattering.proofs.Pairing.{pairing, pairing-zero}
use Rattle.scattering.proofs.CrossingChanges.{moved}
use Rattle.scattering.proofs.ShiftedSums.{moved-pairing, shift}
use Rattle.sum_algebra.proofs.Integers.{times-zero}
use Rattle.broken_line_theory.proofs.BendValues.{abs-mul}
use Rattle.broken_line_theory.proofs.EqualSums.{agree, at_key, pairing-at, coef-mul, mul-same}
use Rattle.broken_line_theory.proofs.LeadingMonomial.{theta-unique}
use Rattle.broken_line_theory.proofs.LightThetas.{theta-is-light}
use Rattle.broken_line_theory.proofs.ThetaOfTails.{theta-of-tails}
use Rattle.broken_line_theory.proofs.ThetaSums.{line_value, line_values, value-small}
use Rattle.broken_line_theory.proofs.UniqueFamily.{only, reading, coef-combined}

-- ---- a sum times a key

abbrev pub over : Key → Key → Key
over y x = record {
  powers = record {
    t1 = y.powers.t1 - x.powers.t1;
    t2 = y.powers.t2 - x.powers.t2;
    t3 = y.powers.t3 - x.powers.t3;
    t4 = y.powers.t4 - x.powers.t4;
    t5 = y.powers.t5 - x.powers.t5;
    t6 = y.powers.t6 - x.powers.t6;
    t7 = y.powers.t7 - x.powers.t7;
    t8 = y.powers.t8 - x.powers.t8;
  };
  exp = exp_sub y.exp x.exp;
}

pub over-mul : (x u : Key) → u ≡ over (key_mul x u) x
over-mul x u =
    let p : u.powers ≡ (over (key_mul x u) x).powers = same-powers u.powers _ (omega arith) (omega arith) (omega arith) (omega arith) (omega arith) (omega arith) (omega arith) (omega arith) in
    let e : u.exp ≡ (over (key_mul x u) x).exp = same-exp u.exp _ (omega (arith, ints)) (omega (arith, ints)) in
    λ i. record { powers = p i; exp = e i }

pub only-over : (x u y : Key) → key_mul x u ≡ y → u ≡ over y x
only-over x u y e = subst (λ (w : Key). u ≡ over w x) e (over-mul x u)

-- it reads at y the coefficient at y/x, or nothing
pub moved-light : (k : ℕ) (x y : Key) (g : Sum) (v : ℕ) → ((u : Key) → nat_abs (coef g u) ≤ v) → nat_abs (coef (moved k x (pos 1) g) y) ≤ v
moved-light k x y g v h = subst (λ (c : ℤ). nat_abs c ≤ v) (sym (moved-pairing k x y g)) (go (nat_le (degree (key_mul x (over y x))) k) refl (key_eq (key_mul x (over y x)) y) refl)
  where
    zero-or-over : (u : Key) → (a : Bool) → nat_le (degree (key_mul x u)) k ≡ a → (b : Bool) → key_eq (key_mul x u) y ≡ b → (u ≢ over y x) → shift k x y u ≡ pos 0
    zero-or-over u true e true q n = absurd (n (only-over x u y (key_eq-same (key_mul x u) y q)))
    zero-or-over u true e false q n = rw (e, q) refl
    zero-or-over u false e b q n = rw e refl

    at-over : shift k x y (over y x) ≡ pos 1 → (u : Key) → (b : Bool) → key_eq u (over y x) ≡ b → shift k x y u ≡ at_key (over y x) u
    at-over one u true e = rw e (ap (λ (w : Key). shift k x y w) (key_eq-same u (over y x) e) ∙ one)
    at-over one u false e = rw e (zero-or-over u (nat_le (degree (key_mul x u)) k) refl (key_eq (key_mul x u) y) refl (λ f. differ u e f))
      where
        differ : (u : Key) → key_eq u (over y x) ≡ false → u ≡ over y x → ⊥
        differ u e f = let r : key_eq u (over y x) ≡ true = subst (λ (w : Key). key_eq u w ≡ true) f (key_eq-refl u) in absurd (cc)

    never : shift k x y (over y x) ≡ pos 0 → (u : Key) → (b : Bool) → key_eq u (over y x) ≡ b → shift k x y u ≡ pos 0
    never z u true e = ap (λ (w : Key). shift k x y w) (key_eq-same u (over y x) e) ∙ z
    never z u false e = zero-or-over u (nat_le (degree (key_mul x u)) k) refl (key_eq (key_mul x u) y) refl (λ f. differ u e f)
      where
        differ : (u : Key) → key_eq u (over y x) ≡ false → u ≡ over y x → ⊥
        differ u e f = let r : key_eq u (over y x) ≡ true = subst (λ (w : Key). key_eq u w ≡ true) f (key_eq-refl u) in absurd (cc)

    nothing : shift k x y (over y x) ≡ pos 0 → nat_abs (pairing (shift k x y) g) ≤ v
    nothing z =
        let e = pairing-zero (shift k x y) (length g) g (omega arith) (λ u. times-zero (coef g u) (shift k x y u) (never z u (key_eq u (over y x)) refl)) in
        subst (λ (c : ℤ). nat_abs c ≤ v) (sym e) (omega arith)

    something : shift k x y (over y x) ≡ pos 1 → nat_abs (pairing (shift k x y) g) ≤ v
    something o =
        let e = agree (shift k x y) (at_key (over y x)) (length g) g g (omega arith) (λ u. ap (λ (c : ℤ). coef g u *ℤ c) (at-over o u (key_eq u (over y x)) refl)) in
        subst (λ (c : ℤ). nat_abs c ≤ v) (sym (e ∙ pairing-at (over y x) g)) (h (over y x))

    go : (a : Bool) → nat_le (degree (key_mul x (over y x))) k ≡ a → (b : Bool) → key_eq (key_mul x (over y x)) y ≡ b → nat_abs (pairing (shift k x y) g) ≤ v
    go true e true q = something (rw (e, q) refl)
    go true e false q = nothing (rw (e, q) refl)
    go false e b q = nothing (rw e refl)

-- ---- readings of a list of terms

pub pairing-light : (φ : Key → ℤ) (w : Exp → ℕ) (s : Sum) → Every (λ t. nat_abs (φ t.0) ≤ w t.0.exp) s → nat_abs (pairing φ s) ≤ weight_of w s
pairing-light φ w [] h = omega arith
pairing-light φ w (t ∷ s) h =
    both (t.1 *ℤ φ t.0) (pairing φ s) (nat_abs t.1 * w t.0.exp) (weight_of w s)
    (subst (λ (n : ℕ). n ≤ nat_abs t.1 * w t.0.exp) (sym (abs-mul t.1 (φ t.0))) (most (nat_abs t.1) h.0))
    (pairing-light φ w s h.1)
  where
    most : (n : ℕ) {i j : ℕ} → i ≤ j → n * i ≤ n * j
    most n l = grind arith

    both : (a b : ℤ) (i j : ℕ) → nat_abs a ≤ i → nat_abs b ≤ j → nat_abs (a +ℤ b) ≤ i + j
    both a b i j l m = omega (arith, ints, l, m)

pub combined-light : (k : ℕ) (thetas : Exp → Sum) (w : Exp → ℕ) (f : Sum) (y : Key) → Every (λ t. (u : Key) → nat_abs (coef (thetas t.0.exp) u) ≤ w t.0.exp) f
    → nat_abs (coef (combined k thetas f) y) ≤ weight_of w f
combined-light k thetas w f y h =
    subst (λ (c : ℤ). nat_abs c ≤ weight_of w f) (sym (coef-combined k thetas f y)) (pairing-light (reading k thetas y) w f (each f h))
  where
    each : (f : Sum) → Every (λ t. (u : Key) → nat_abs (coef (thetas t.0.exp) u) ≤ w t.0.exp) f → Every (λ t. nat_abs (reading k thetas y t.0) ≤ w t.0.exp) f
    each [] h = tt
    each (t ∷ f) h = (moved-light k (only t.0) y (thetas t.0.exp) (w t.0.exp) h.0, each f h.1)

module _ (ws : List Wall) (n k : ℕ) (q : Point) (walls : Every (IsWall k) ws) (point : IsPoint q) where
  -- no coefficient exceeds the weight, also at (0, 0)
  pub theta-light : (m : Exp) (s : Sum) (w : ℕ) → IsAskFault ws n m q None → IsTheta ws n m q s → IsThetaWeight ws n m q w → (x : Key) → nat_abs (coef s x) ≤ w
  theta-light m s w free theta weight x = go (exp_eq m origin) refl
    where
      unequal : exp_eq m origin ≡ false → m ≢ origin
      unequal e f = let r : exp_eq origin origin ≡ true = refl in let s : exp_eq origin origin ≡ false = subst (λ (u : Exp). exp_eq u origin ≡ false) f e in absurd (cc)

      one-small : (b : Bool) → key_eq unit x ≡ b → nat_abs (coef one x) ≤ 1
      one-small true e = rw e (omega arith)
      one-small false e = rw e (omega arith)

      go : (b : Bool) → exp_eq m origin ≡ b → nat_abs (coef s x) ≤ w
      go true e =
          let same : Same s one = rw e at theta in
          let is : w ≡ 1 = rw e at weight in
          subst (λ (v : ℕ). nat_abs (coef s x) ≤ v) (sym is) (subst (λ (c : ℤ). nat_abs c ≤ 1) (sym (same x)) (one-small (key_eq unit x) refl))
      go false e = (theta-is-light ws n k m q s w walls point free (unequal e) theta (rw e at weight) x).0

  values-weighed : (m : Exp) (ts : List Tail) (v : ℕ) → Every (IsTail ws n m q) ts → weight_of (λ r. v) (line_values ws n k m q walls ts) ≤ weights ws n ts * v
  values-weighed m [] v h = omega arith
  values-weighed m (t ∷ ts) v h = go (values-weighed m ts v h.1) (is_complete m t) refl
    where
      more : (a b c d : ℕ) → a ≤ b → c ≤ d * v → a * v + c ≤ (b + d) * v
      more a b c d l m = grind arith

      skip : (b c d : ℕ) → c ≤ d * v → c ≤ (b + d) * v
      skip b c d m = grind arith

      go : weight_of (λ r. v) (line_values ws n k m q walls ts) ≤ weights ws n ts * v → (b : Bool) → is_complete m t ≡ b → weight_of (λ r. v) (line_values ws n k m q walls (t ∷ ts)) ≤ weights ws n (t ∷ ts) * v
      go r true e = rw e (more (nat_abs (line_value ws n k m q walls t).1) (tail_weight ws n t.root t.bends) (weight_of (λ r. v) (line_values ws n k m q walls ts)) (weights ws n ts) (value-small ws n k m q walls t h.0 e) r)
      go r false e = rw e (skip (tail_weight ws n t.root t.bends) (weight_of (λ r. v) (line_values ws n k m q walls ts)) (weights ws n ts) r)

  -- a list with the theta's coefficients, whose mass is at most the weight
  record Weighed (s : Sum) (w : ℕ) : Type 0 where
    list : Sum
    same : Same s list
    mass : (v : ℕ) → weight_of (λ r. v) list ≤ w * v

  theta-weighed : (m : Exp) (s : Sum) (w : ℕ) → IsAskFault ws n m q None → IsTheta ws n m q s → IsThetaWeight ws n m q w → Weighed s w
  theta-weighed m s w free theta weight = go (exp_eq m origin) refl
    where
      once : (v : ℕ) → 1 * v + 0 ≤ 1 * v
      once v = grind arith

      go : (b : Bool) → exp_eq m origin ≡ b → Weighed s w
      go true e =
          let is : w ≡ 1 = rw e at weight in
          record { list = one; same = rw e at theta; mass = λ v. subst (λ (u : ℕ). weight_of (λ r. v) one ≤ u * v) (sym is) (once v) }
      go false e =
          let h : (ts : List Tail) × Lists (IsTail ws n m q) ts × (weights ws n ts ≡ w) = rw e at weight in
          record {
            list = line_values ws n k m q walls h.0;
            same = theta-unique ws n m q s (line_values ws n k m q walls h.0) theta (theta-of-tails ws n k m q walls point free h.0 e h.1);
            mass = λ v. subst (λ (u : ℕ). weight_of (λ r. v) (line_values ws n k m q walls h.0) ≤ u * v) h.2 (values-weighed m h.0 v h.1.each);
          }

  -- no coefficient of the product of two exceeds the product of their weights
  pub product-light : (l r : Exp) (x y : ℕ) (s : Sum) → IsAskFault ws n l q None → IsAskFault ws n r q None → IsThetaWeight ws n l q x → IsThetaWeight ws n r q y
      → IsThetaProduct ws n l r q s → (z : Key) → degree z ≤ n → nat_abs (coef s z) ≤ x * y
  product-light l r x y s free free' weight weight' product z low =
      let a = theta-weighed l product.0 x free product.2 weight in
      let small = theta-light r product.1 y free' product.3 weight' in
      let e = product.4 z low ∙ mul-same n product.0 a.list product.1 product.1 a.same (λ u. refl) z ∙ coef-mul n a.list product.1 z in
      let b = pairing-light (λ u. coef (moved n u (pos 1) product.1) z) (λ u. y) a.list (each a.list small) in
      let m = a.mass y in
      subst (λ (c : ℤ). nat_abs c ≤ x * y) (sym e) (omega (arith, b, m))
    where
      each : (f : Sum) → ((u : Key) → nat_abs (coef product.1 u) ≤ y) → Every (λ t. nat_abs (coef (moved n t.0 (pos 1) product.1) z) ≤ y) f
      each [] h = tt
      each (t ∷ f) h = (moved-light n t.0 z product.1 y h, each f h)
