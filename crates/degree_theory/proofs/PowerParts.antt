-- Powers of a wall function, and of its majorant, by binomial coefficients, degree by degree.
use Rattle.std.proofs.Common.{◌≡◌, ℕ, zero, suc, refl, sym, ap, ◌∙◌, ◌*◌, ◌<◌, ◌≤◌, [], ◌∷◌, ◌++◌, arith}
use Rattle.std.specs.Prelude.{ℤ, pos, ◌+ℤ◌, ◌*ℤ◌}
use mathlib.Core.Quot.{mk, sound}
use lib.IntN.{*ℤ-zero}
use Rattle.sum_algebra.proofs.Ring.{CommRing, var, nought, unit, ring}
use Rattle.sum_algebra.proofs.IntegerRing.{ints_ring, ◌:+◌, ◌:*◌, ◌:-◌, X, Y, Z}
use Rattle.sum_algebra.proofs.Sums as S
use Rattle.sum_algebra.proofs.Sums.{Same, pair, pair-append, pair-ext, pair-zero}
use Rattle.sum_algebra.proofs.Quotient.{Modulo, modulo_ring, same, exact}
use Rattle.sum_algebra.proofs.Powers.{int_power, telescope}
use Rattle.sum_algebra.proofs.Powers as W
use Rattle.sum_algebra.proofs.Support.{Supported, Supported-mul, by_every, weaken, vanishes, inverse, list_power, list_powers, class-power, class-powers, power-low}
use Rattle.sum_algebra.proofs.Crossing.{list_int_power, class-int_power}
use Rattle.sum_algebra.proofs.SmallCrossings.{Same-lower}
use Rattle.scattering.specs.Series.{Exp, Key, Sum, degree, coef, key_mul, one, pow, power, powers_to, geometric, absolute, rest, IsMultiple, IsWallFunction}
use Rattle.scattering.specs.Series as D
use Rattle.scattering.specs.ThetaProduct.{of_degree}
use Rattle.scattering.proofs.Lists.{Every-implies}
use Rattle.scattering.proofs.ShiftedSums.{degree-mul}
use Rattle.crossing_theory.proofs.Keys.{keys, wall-inverse}
use Rattle.crossing_theory.proofs.Translation.{Eq, Eq-trans, rest-split, pow-same, power-same}
use Rattle.scattering.specs.Wall.{Line, Wall}
use Rattle.crossing_theory.proofs.HalfWalls.{Proper, every-keys}
use Rattle.degree_theory.specs.Parts.{scaled, linear_combination, choose, multichoose}
use Rattle.degree_theory.proofs.Binomials.{polynomial, power-binomial, power-repeated}
use Rattle.degree_theory.proofs.Parts.{to_All, seen, pair-part, seen-high}

pub pair-scaled : (φ : Key → ℤ) (c : ℤ) (f : Sum) → pair φ (scaled c f) ≡ c *ℤ pair φ f
pair-scaled φ c [] = sym (*ℤ-zero c)
pair-scaled φ c (t ∷ f) = rw (pair-scaled φ c f) (ring ints_ring (c ∷ t.1 ∷ φ t.0 ∷ pair φ f ∷ []) (X :* Y :* Z :+ X :* var 3) (X :* (Y :* Z :+ var 3)) refl)

-- ---- sums of powers, in the ring modulo degree e + 1

module _ (e : ℕ) where
  abbrev R : CommRing (Modulo keys e)
  R = modulo_ring keys e

  abbrev number : ℤ → Modulo keys e
  number a = mk ((D.unit, a) ∷ [])

  number-zero : ◌≡◌ {A = Modulo keys e} (mk ((D.unit, pos 0) ∷ [])) (mk [])
  number-zero = same keys e _ _ (λ φ. ring ints_ring (φ D.unit ∷ []) (nought :* X :+ nought) nought refl)

  number-add : (a b : ℤ) → ◌≡◌ {A = Modulo keys e} (mk ((D.unit, a +ℤ b) ∷ [])) (mk (((D.unit, a) ∷ []) ++ ((D.unit, b) ∷ [])))
  number-add a b = same keys e _ _ (λ φ. ring ints_ring (a ∷ b ∷ φ D.unit ∷ []) ((X :+ Y) :* Z :+ nought) (X :* Z :+ (Y :* Z :+ nought)) refl)

  class-scaled : (c : ℤ) (f : Sum) → ◌≡◌ {A = Modulo keys e} (mk (scaled c f)) (mk (S.mul keys ((D.unit, c) ∷ []) f))
  class-scaled c f = same keys e _ _ (λ φ.
      pair-scaled φ c f
      ∙ sym (S.pair-mul keys φ ((D.unit, c) ∷ []) f ∙ ap (λ a. c *ℤ a +ℤ pos 0) (pair-ext _ _ f (λ y. ap φ (keys.unit_left y))) ∙ ring ints_ring (c ∷ pair φ f ∷ []) (X :* Y :+ nought) (X :* Y) refl))

  class-combination : (c : ℕ → ℤ) (u : Sum) (n : ℕ) → ◌≡◌ {A = Modulo keys e} (mk (linear_combination c (list_power keys u) n)) (polynomial R number number-zero refl number-add c (mk u) n)
  class-combination c u zero = class-scaled (c 0) (list_power keys u 0)
  class-combination c u (suc n) =
      ap (λ y. R.◌⊕◌ y (mk (scaled (c (suc n)) (list_power keys u (suc n))))) (class-combination c u n)
      ∙ ap (λ y. R.◌⊕◌ (polynomial R number number-zero refl number-add c (mk u) n) y) (class-scaled (c (suc n)) (list_power keys u (suc n)) ∙ ap (λ y. R.◌⊗◌ (number (c (suc n))) y) (class-power keys e u (suc n)))

pub combination-same : (e : ℕ) (c : ℕ → ℤ) (u u' : Sum) (n : ℕ) → Eq e u u' → Eq e (linear_combination c (list_power keys u) n) (linear_combination c (list_power keys u') n)
combination-same e c u u' n h =
    exact keys e _ _
    (class-combination e c u n ∙ ap (λ y. polynomial (R e) (number e) (number-zero e) refl (number-add e) c y n) (sound h) ∙ sym (class-combination e c u' n))

-- ---- degrees of powers

pub power-from : (l : ℕ) (u : Sum) → Supported (λ x. l ≤ degree x) u → (r : ℕ) → Supported (λ x. r * l ≤ degree x) (list_power keys u r)
power-from l u h zero = by_every (λ x. 0 * l ≤ degree x) one (omega arith, tt)
power-from l u h (suc r) =
    Supported-mul keys (λ x. l ≤ degree x) (λ x. r * l ≤ degree x) (λ x. suc r * l ≤ degree x) u (list_power keys u r)
    (λ x y p q. let d = degree-mul x y in omega (arith, p, q, d)) h (power-from l u h r)

-- a sum of powers of terms of degree at least l is 1 and terms of degree at least l
pub combination-near : (l e n : ℕ) (c : ℕ → ℤ) (u : Sum) → c 0 ≡ pos 1 → e < l → Supported (λ x. l ≤ degree x) u → Eq e (linear_combination c (list_power keys u) n) one
combination-near l e zero c u z lt h = record { at = λ φ v. ap (λ a. a *ℤ pos 1 *ℤ φ D.unit +ℤ pos 0) z }
combination-near l e (suc n) c u z lt h = record {
  at = λ φ v.
      pair-append φ (linear_combination c (list_power keys u) n) (scaled (c (suc n)) (list_power keys u (suc n)))
      ∙ rw (
        (combination-near l e n c u z lt h).at φ v,
        pair-scaled φ (c (suc n)) (list_power keys u (suc n)),
        (power-from l u h (suc n)).at φ (λ _. pos 0) (λ x d. v x (let m = least n l in omega (arith, d, lt, m))),
        pair-zero (list_power keys u (suc n)),
      )
      (ring ints_ring (c (suc n) ∷ φ D.unit ∷ []) ((unit :* Y :+ nought) :+ X :* nought) (unit :* Y :+ nought) refl);
}
  where
    least : (n l : ℕ) → l ≤ suc n * l
    least n l = omega arith

-- ---- the two kinds of powers

-- a wall of direction d with the function f
abbrev pub wall_of : Exp → Sum → Wall
wall_of d f = record { kind = Line; at = record { x = pos 0; y = pos 0; w = pos 1 }; dir = d; function = f }

powers_to-same : (n : ℕ) (f : Sum) (i : ℕ) → Eq n (powers_to n f i) (list_powers keys f (suc i))
powers_to-same n f zero = record { at = λ φ v. refl }
powers_to-same n f (suc i) = record {
  at = λ φ v.
      pair-append φ (powers_to n f i) (pow n f (suc i))
      ∙ rw ((powers_to-same n f i).at φ v, (pow-same n f (suc i)).at φ v) (sym (pair-append φ (list_powers keys f (suc i)) (list_power keys f (suc i))));
}

abbrev pub numbers : ℕ → ℕ → ℤ
numbers n r = pos (multichoose n r)

module _ (k e : ℕ) (le : e ≤ k) where
  module _ (d : Exp) (f : Sum) (p : Proper (wall_of d f)) where
    inv : Same keys e (S.mul keys f (inverse keys k f)) (S.one keys)
    inv = Same-lower keys e k _ _ le (wall-inverse d (pos 1) k f p.along)

    low : Supported (λ x. 1 ≤ degree x) (rest f)
    low = by_every (λ x. 1 ≤ degree x) (rest f) (every-keys (λ x. 1 ≤ degree x) (rest f) (Every-implies _ (λ t. 1 ≤ degree t.0) (rest f) (λ t h. h.0) p.others))

    is_sum : ◌≡◌ {A = Modulo keys e} (mk f) (mk (one ++ S.mul keys one (rest f)))
    is_sum = same keys e _ _ (λ φ.
        rest-split φ f ∙ ap (λ c. c *ℤ φ D.unit +ℤ pair φ (rest f)) p.constant
        ∙ sym (pair-append φ one (S.mul keys one (rest f)) ∙ ap (λ c. pos 1 *ℤ φ D.unit +ℤ pos 0 +ℤ c) (S.one_mul keys φ (rest f)) ∙ ring ints_ring (φ D.unit ∷ pair φ (rest f) ∷ []) (unit :* X :+ nought :+ Y) (unit :* X :+ Y) refl))

    pub power-expands : (n : ℤ) → Eq e (power k f n) (linear_combination (choose n) (list_power keys (rest f)) e)
    power-expands n =
        Eq-trans e _ (list_int_power keys f (inverse keys k f) n) _ (Same-lower keys e k _ _ le (power-same k f p.constant n))
        (exact keys e _ _
        (class-int_power keys e f (inverse keys k f) (λ _. pos 0) inv (λ _ _. refl) n
        ∙ power-binomial (R e) (number e) (number-zero e) refl (number-add e) (mk f) (mk (inverse keys k f)) (mk (rest f)) (sound inv) is_sum e
        (sym (class-power keys e (rest f) (suc e)) ∙ sound (vanishes keys e (list_power keys (rest f) (suc e)) (power-low keys (rest f) low (suc e)))) n
        ∙ sym (class-combination e (choose n) (rest f) e)))

  module _ (v : Sum) (low : Supported (λ x. 1 ≤ degree x) v) where
    abbrev G : Sum
    G = list_powers keys v (suc k)

    high-vanishes : (j : ℕ) → e ≤ j → ◌≡◌ {A = Modulo keys e} (W.power (R e) (mk v) (suc j)) (mk [])
    high-vanishes j l = sym (class-power keys e v (suc j)) ∙ sound (vanishes keys e (list_power keys v (suc j)) (weaken _ _ _ (λ x q. omega (arith, q, l)) (power-low keys v low (suc j))))

    pub inv-G : (R e).◌⊗◌ ((R e).◌⊕◌ (R e).𝟙 ((R e).⊖◌ (mk v))) (mk G) ≡ (R e).𝟙
    inv-G =
        ap (λ y. (R e).◌⊗◌ ((R e).◌⊕◌ (R e).𝟙 ((R e).⊖◌ (mk v))) y) (class-powers keys e v (suc k))
        ∙ telescope (R e) (mk v) (suc k)
        ∙ ap (λ y. (R e).◌⊕◌ (R e).𝟙 ((R e).⊖◌ y)) (high-vanishes k le)
        ∙ ring (R e) [] (unit :- nought) unit refl

    pub pow-is : (n : ℕ) → Eq e (pow k (powers_to k v k) n) (list_power keys (list_powers keys v (suc k)) n)
    pow-is n =
        Eq-trans e _ (list_power keys (powers_to k v k) n) _ (Same-lower keys e k _ _ le (pow-same k (powers_to k v k) n))
        (exact keys e _ _ (class-power keys e (powers_to k v k) n ∙ ap (λ g. W.power (R e) g n) (sound (Same-lower keys e k _ _ le (powers_to-same k v k))) ∙ sym (class-power keys e (list_powers keys v (suc k)) n)))

    pub unit-G : Eq e (S.mul keys (one ++ S.neg keys v) (list_powers keys v (suc k))) one
    unit-G = exact keys e _ _ inv-G

    pub pow-expands : (n : ℕ) → Eq e (pow k (powers_to k v k) n) (linear_combination (numbers n) (list_power keys v) e)
    pow-expands n =
        Eq-trans e _ (list_power keys (powers_to k v k) n) _ (Same-lower keys e k _ _ le (pow-same k (powers_to k v k) n))
        (exact keys e _ _
        (class-power keys e (powers_to k v k) n
        ∙ ap (λ g. W.power (R e) g n) (sound (Same-lower keys e k _ _ le (powers_to-same k v k)))
        ∙ power-repeated (R e) (number e) (number-zero e) refl (number-add e) (mk G) (mk v) inv-G e (high-vanishes e (omega arith)) n
        ∙ sym (class-combination e (numbers n) v e)))

-- ---- degree by degree

pub part-combination : (e : ℕ) (c : ℕ → ℤ) (u : Sum) (us : ℕ → Sum) → (n : ℕ) → ((r : ℕ) → r ≤ n → D.Same (us r) (of_degree e (pow e u r))) → (φ : Key → ℤ) → pair (seen e φ) (linear_combination c (list_power keys u) n) ≡ pair φ (linear_combination c us n)
part-combination e c u us n h φ = go n (omega arith)
  where
    one-power : (r : ℕ) → r ≤ n → pair (seen e φ) (scaled (c r) (list_power keys u r)) ≡ pair φ (scaled (c r) (us r))
    one-power r l =
        pair-scaled (seen e φ) (c r) (list_power keys u r)
        ∙ ap (λ a. c r *ℤ a) (sym ((pow-same e u r).at (seen e φ) (seen-high e e φ (omega arith))) ∙ sym (pair-part e φ (pow e u r)) ∙ sym (to_All (us r) (of_degree e (pow e u r)) (h r l) φ))
        ∙ sym (pair-scaled φ (c r) (us r))

    go : (m : ℕ) → m ≤ n → pair (seen e φ) (linear_combination c (list_power keys u) m) ≡ pair φ (linear_combination c us m)
    go zero l = one-power 0 l
    go (suc m) l =
        pair-append (seen e φ) (linear_combination c (list_power keys u) m) (scaled (c (suc m)) (list_power keys u (suc m)))
        ∙ rw (go m (omega (arith, l)), one-power (suc m) l) (sym (pair-append φ (linear_combination c us m) (scaled (c (suc m)) (us (suc m)))))
