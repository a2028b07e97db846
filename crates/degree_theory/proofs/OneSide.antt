-- Where all live walls at a point turn to one side of u, terms along u are as they were.
use Rattle.std.proofs.Common.{◌≡◌, ◌≢◌, ℕ, zero, suc, refl, sym, subst, ap, ◌∙◌, ◌+◌, ◌<◌, ◌≤◌, ◌⊎◌, inl, inr, Bool, true, false, cond, not, List, [], ◌∷◌, map, arith}
use Rattle.std.specs.Prelude.{ℤ, pos, negsuc, ◌+ℤ◌, ◌-ℤ◌, ◌*ℤ◌, neg_ℤ, ◌≤ℤ◌, nat_abs, nat_le, ◌&&◌, flat_map}
use Rattle.std.specs.List.{list_any}
use Rattle.std.proofs.lemmas.Int.{ints}
use Rattle.sum_algebra.proofs.Integers.{positive-mul}
use Rattle.sum_algebra.proofs.Ring.{var, nought, unit, ring}
use Rattle.sum_algebra.proofs.IntegerRing.{ints_ring, ◌:+◌, ◌:*◌, ◌:-◌, X, Y, Z, W}
use Rattle.sum_algebra.proofs.Sums as S
use Rattle.sum_algebra.proofs.Sums.{pair, pair-append, pair-bind, pair-ext, pair-zero, pair-plus, pair-factor}
use Rattle.sum_algebra.proofs.Support.{Supported, Supported-mul, by_every, inverse}
use Rattle.sum_algebra.proofs.Crossing.{mono, list_int_power}
use Rattle.sum_algebra.proofs.CrossingLaws.{on_inverse, on_int_power, image-degree}
use Rattle.sum_algebra.proofs.SmallCrossings.{Same-lower, power-small}
use Rattle.sum_algebra.proofs.Coefficients.{indicator}
use Rattle.scattering.specs.Collections.{In, Every}
use Rattle.scattering.specs.Series.{Exp, Key, Sum, Term, degree, det, coef, key_eq, key_mul, int_eq, scale, origin, monomial, z, one, rest, IsMultiple}
use Rattle.scattering.specs.Series as D
use Rattle.scattering.specs.Plane.{Point}
use Rattle.scattering.specs.Wall.{Wall, is_on, is_live, starts_at, crosses_to, are_parallel}
use Rattle.scattering.specs.LocalProduct.{Half, cross, cross_half, carry, half_walls, halves, image}
use Rattle.scattering.proofs.Lists.{Every-implies, Every-from_In, Every-in_order, Every-flat_map, Every-at, In-map, any-weaken, any-false, Every-images}
use Rattle.scattering.proofs.Keys.{int_eq-same, key_eq-same}
use Rattle.plane_theory.proofs.Directions.{zero-factor}
use Rattle.plane_theory.proofs.WholeNumbers.{not_negative}
use Rattle.crossing_theory.proofs.Keys.{keys, turn, wall-inverse}
use Rattle.crossing_theory.proofs.Translation.{Eq, Eq-refl, key_test, coef-is, rest-split}
use Rattle.crossing_theory.proofs.HalfWalls.{Proper, proper-by, every-keys, as_crossing, sign, small, dead}
use Rattle.crossing_theory.proofs.PassivePoints.{positive, halves-on, passive}
use Rattle.crossing_theory.proofs.Carrying.{Passes}
use Rattle.crossing_theory.proofs.OtherFunctions.{refit, refit_half, before, half_walls-refit}
use Rattle.crossing_theory.proofs.AddedTerms.{starts-on}
use Rattle.correction_theory.proofs.LeadingDegree.{indicator-vanishes}
use Rattle.weight_theory.specs.Laws.{HasFunction, HaveFunctions}
use Rattle.degree_theory.specs.OneSide.{IsOneSided}
use Rattle.degree_theory.specs.Laws.{ImageKeepsEdge}
use Rattle.degree_theory.proofs.Parts.{proper-wall}

module _ (σ : ℤ) (u : Exp) where
  -- how far a key is to the side σ of u
  abbrev pub level : Key → ℤ
  level x = σ *ℤ det u x.exp

  level-mul : (x y : Key) → level (key_mul x y) ≡ level x +ℤ level y
  level-mul x y = ring ints_ring (σ ∷ u.a ∷ u.b ∷ x.exp.a ∷ x.exp.b ∷ y.exp.a ∷ y.exp.b ∷ []) (X :* (Y :* (var 4 :+ var 6) :- Z :* (W :+ var 5))) (X :* (Y :* var 4 :- Z :* W) :+ X :* (Y :* var 6 :- Z :* var 5)) refl

  level-unit : level D.unit ≡ pos 0
  level-unit = ring ints_ring (σ ∷ u.a ∷ u.b ∷ []) (X :* (Y :* nought :- Z :* nought)) nought refl

  level-multiple : (d : Exp) (x : Key) (h : IsMultiple d x.exp) → level x ≡ h.0 *ℤ (σ *ℤ det u d)
  level-multiple d x h = ap (λ (e : Exp). σ *ℤ det u e) h.2 ∙ ring ints_ring (σ ∷ u.a ∷ u.b ∷ d.a ∷ d.b ∷ h.0 ∷ []) (X :* (Y :* (var 5 :* var 4) :- Z :* (var 5 :* W))) (var 5 :* (X :* (Y :* var 4 :- Z :* W))) refl

  -- what is kept by powers of a wall's function
  module _ (w : Wall) (p : Proper w) (Q : Key → Type 0) (at_unit : Q D.unit) (closed : (x y : Key) → Q x → Q y → Q (key_mul x y)) (terms : (x : Key) → IsMultiple w.dir x.exp → Q x) where
    on-function : Supported Q w.function
    on-function = record {
      at = λ φ ψ g.
          rest-split φ w.function
          ∙ ap (λ a. coef w.function D.unit *ℤ φ D.unit +ℤ a) ((by_every Q (rest w.function) (every-keys Q (rest w.function) (Every-implies _ (λ t. Q t.0) (rest w.function) (λ t h. terms t.0 h.1) p.others))).at φ ψ g)
          ∙ ap (λ a. coef w.function D.unit *ℤ a +ℤ pair ψ (rest w.function)) (g D.unit at_unit)
          ∙ sym (rest-split ψ w.function);
    }

    pub on-power : (k : ℕ) (a : ℤ) → Supported Q (list_int_power keys w.function (inverse keys k w.function) a)
    on-power k a = on_int_power keys Q at_unit closed w.function (inverse keys k w.function) on-function (on_inverse keys Q at_unit closed k w.function on-function) a

  -- ---- tests that see one level alone, and sums from one level up

  abbrev Hidden : ℕ → (Key → ℤ) → Type 0
  Hidden k φ = (x : Key) → k < degree x → φ x ≡ pos 0

  pub record Edge (k : ℕ) (c : ℤ) (φ : Key → ℤ) : Type 0 where
    pub high : Hidden k φ
    pub only : (x : Key) → level x ≢ c → φ x ≡ pos 0

  pub record Above (k : ℕ) (c : ℤ) (g : Sum) : Type 0 where
    pub at : (φ : Key → ℤ) → Hidden k φ → ((x : Key) → c ≤ℤ level x → φ x ≡ pos 0) → pair φ g ≡ pos 0

  pub record EdgeSame (k : ℕ) (c : ℤ) (g g' : Sum) : Type 0 where
    pub at : (φ : Key → ℤ) → Edge k c φ → pair φ g ≡ pair φ g'

  module _ (k : ℕ) (h : Half) (p : Proper h.wall) where
    abbrev power_of : ℤ → Sum
    power_of a = list_int_power keys h.wall.function (inverse keys k h.wall.function) a

    abbrev taken : Key → Sum
    taken x = S.mul keys (mono keys x) (power_of (turn h.wall.dir (sign h) x))

    cross-pair : (g : Sum) (φ : Key → ℤ) → Hidden k φ → pair φ (cross_half k h g) ≡ pair (λ x. pair φ (taken x)) g
    cross-pair g φ v = (as_crossing k h p g).at φ v ∙ pair-bind φ g taken

    taken-high : (φ : Key → ℤ) → Hidden k φ → Hidden k (λ x. pair φ (taken x))
    taken-high φ v x d = (image-degree keys k h.wall.function (inverse keys k h.wall.function) (turn h.wall.dir (sign h)) x).at φ (λ _. pos 0) (λ y l. v y (omega (arith, d, l))) ∙ pair-zero (taken x)

    taken-up : pos 0 ≤ℤ (σ *ℤ det u h.wall.dir) → (x : Key) → Supported (λ y. level x ≤ℤ level y) (taken x)
    taken-up t x =
        Supported-mul keys (λ y. level y ≡ level x) (λ y. pos 0 ≤ℤ level y) (λ y. level x ≤ℤ level y) (mono keys x) (power_of (turn h.wall.dir (sign h) x))
        (λ y v a b. let m = level-mul y v in omega (arith, ints, a, b, m)) (by_every (λ y. level y ≡ level x) (mono keys x) (refl, tt))
        (on-power h.wall p (λ y. pos 0 ≤ℤ level y) (let e = level-unit in omega (arith, ints, e)) (λ y v a b. let m = level-mul y v in omega (arith, ints, a, b, m))
        (λ y i. let m = level-multiple h.wall.dir y i in let n = not_negative i.0 (σ *ℤ det u h.wall.dir) (let j = i.1 in omega (arith, ints, j)) t in omega (arith, ints, m, n)) k (turn h.wall.dir (sign h) x))

    above-cross : pos 0 ≤ℤ (σ *ℤ det u h.wall.dir) → (c : ℤ) (g : Sum) → Above k c g → Above k c (cross_half k h g)
    above-cross t c g a = record {
      at = λ φ v up.
          cross-pair g φ v
          ∙ a.at (λ x. pair φ (taken x)) (taken-high φ v) (λ x l. (taken-up t x).at φ (λ _. pos 0) (λ y m. up y (omega (arith, ints, l, m))) ∙ pair-zero (taken x));
    }

    -- along u
    taken-level : σ *ℤ det u h.wall.dir ≡ pos 0 → (x : Key) → Supported (λ y. level y ≡ level x) (taken x)
    taken-level t x =
        Supported-mul keys (λ y. level y ≡ level x) (λ y. level y ≡ pos 0) (λ y. level y ≡ level x) (mono keys x) (power_of (turn h.wall.dir (sign h) x))
        (λ y v a b. let m = level-mul y v in omega (arith, ints, a, b, m)) (by_every (λ y. level y ≡ level x) (mono keys x) (refl, tt))
        (on-power h.wall p (λ y. level y ≡ pos 0) level-unit (λ y v a b. let m = level-mul y v in omega (arith, ints, a, b, m))
        (λ y i. level-multiple h.wall.dir y i ∙ ap (λ a. i.0 *ℤ a) t ∙ ring ints_ring (i.0 ∷ []) (X :* nought) nought refl) k (turn h.wall.dir (sign h) x))

    edge-cross : σ *ℤ det u h.wall.dir ≡ pos 0 → (c : ℤ) (g g' : Sum) → EdgeSame k c g g' → EdgeSame k c (cross_half k h g) (cross_half k h g')
    edge-cross t c g g' s = record {
      at = λ φ v.
          cross-pair g φ v.high
          ∙ s.at (λ x. pair φ (taken x)) (record {
            high = taken-high φ v.high;
            only = λ x o. (taken-level t x).at φ (λ _. pos 0) (λ y q. v.only y (λ r. o (sym q ∙ r))) ∙ pair-zero (taken x);
          })
          ∙ sym (cross-pair g' φ v.high);
    }

    -- to the side σ
    Rises : Key → Type 0
    Rises y = (y ≡ D.unit) ⊎ (pos 1 ≤ℤ level y)

    rises-mul : (x y : Key) → (x ≡ D.unit) ⊎ (pos 1 ≤ℤ level x) → (y ≡ D.unit) ⊎ (pos 1 ≤ℤ level y) → (key_mul x y ≡ D.unit) ⊎ (pos 1 ≤ℤ level (key_mul x y))
    rises-mul x y (inl a) (inl b) = inl (ap (λ (v : Key). key_mul v y) a ∙ keys.unit_left y ∙ b)
    rises-mul x y (inl a) (inr b) = inr (subst (λ (v : Key). pos 1 ≤ℤ level v) (sym (ap (λ (v : Key). key_mul v y) a ∙ keys.unit_left y)) b)
    rises-mul x y (inr a) (inl b) = inr (subst (λ (v : Key). pos 1 ≤ℤ level v) (sym (ap (λ (v : Key). key_mul x v) b ∙ keys.comm x D.unit ∙ keys.unit_left x)) a)
    rises-mul x y (inr a) (inr b) = inr (let m = level-mul x y in omega (arith, ints, a, b, m))

    power-rises : pos 1 ≤ℤ (σ *ℤ det u h.wall.dir) → (a : ℤ) → Supported (λ y. (y ≡ D.unit) ⊎ (pos 1 ≤ℤ level y)) (power_of a)
    power-rises t a =
        on-power h.wall p (λ y. (y ≡ D.unit) ⊎ (pos 1 ≤ℤ level y)) (inl refl) rises-mul
        (λ y i. inr (let m = level-multiple h.wall.dir y i in let n = positive-mul i.0 (σ *ℤ det u h.wall.dir) i.1 t in omega (arith, ints, m, n))) k a

    power-constant : (a : ℤ) → pair (indicator key_test D.unit) (power_of a) ≡ pos 1
    power-constant a =
        (power-small keys 0 h.wall.function (inverse keys k h.wall.function) (λ _. pos 0) (Same-lower keys 0 k _ _ (omega arith) (wall-inverse h.wall.dir (pos 1) k h.wall.function p.along))
        (small 0 h.wall p (positive (rest h.wall.function) (Every-implies _ (λ t. 1 ≤ degree t.0) _ (λ t q. q.0) p.others))) a).at (indicator key_test D.unit) (indicator-vanishes 0 D.unit (omega arith))

    edge-image : pos 1 ≤ℤ (σ *ℤ det u h.wall.dir) → (c : ℤ) (φ : Key → ℤ) → Edge k c φ → (x : Key) → c ≤ℤ level x → pair φ (taken x) ≡ φ x
    edge-image t c φ v x l =
        S.pair-mul keys φ (mono keys x) (power_of (turn h.wall.dir (sign h) x))
        ∙ ap (λ a. pos 1 *ℤ a +ℤ pos 0)
        ((power-rises t (turn h.wall.dir (sign h) x)).at (λ y. φ (key_mul x y)) (λ y. φ x *ℤ indicator key_test D.unit y) agree
        ∙ pair-factor (φ x) (indicator key_test D.unit) (power_of (turn h.wall.dir (sign h) x))
        ∙ ap (λ a. φ x *ℤ a) (power-constant (turn h.wall.dir (sign h) x)))
        ∙ ring ints_ring (φ x ∷ []) (unit :* (X :* unit) :+ nought) X refl
      where
        not_unit : (y : Key) → pos 1 ≤ℤ level y → (b : Bool) → key_eq y D.unit ≡ b → cond b (pos 1) (pos 0) ≡ pos 0
        not_unit y r true e = absurd (let q = ap level (key_eq-same y D.unit e) in let z = level-unit in omega (arith, ints, q, z, r))
        not_unit y r false e = refl

        agree : (y : Key) → (y ≡ D.unit) ⊎ (pos 1 ≤ℤ level y) → φ (key_mul x y) ≡ φ x *ℤ indicator key_test D.unit y
        agree y (inl e) =
            ap (λ (v : Key). φ (key_mul x v)) e ∙ ap φ (keys.comm x D.unit ∙ keys.unit_left x)
            ∙ ring ints_ring (φ x ∷ []) X (X :* unit) refl ∙ ap (λ (v : Key). φ x *ℤ indicator key_test D.unit v) (sym e)
        agree y (inr r) =
            v.only (key_mul x y) (λ q. let m = level-mul x y in omega (arith, ints, q, m, l, r))
            ∙ sym (ap (λ a. φ x *ℤ a) (not_unit y r (key_eq y D.unit) refl) ∙ ring ints_ring (φ x ∷ []) (X :* nought) nought refl)

    edge-skip : pos 1 ≤ℤ (σ *ℤ det u h.wall.dir) → (c : ℤ) (g : Sum) → Above k c g → EdgeSame k c (cross_half k h g) g
    edge-skip t c g a = record {
      at = λ φ v.
          cross-pair g φ v.high
          ∙ pair-ext _ (λ x. φ x +ℤ (pair φ (taken x) -ℤ φ x)) g (λ x. ring ints_ring (pair φ (taken x) ∷ φ x ∷ []) X (Y :+ (X :- Y)) refl)
          ∙ pair-plus φ (λ x. pair φ (taken x) -ℤ φ x) g
          ∙ ap (λ b. pair φ g +ℤ b)
          (a.at (λ x. pair φ (taken x) -ℤ φ x)
          (λ x d. ap (λ b. b -ℤ φ x) (taken-high φ v.high x d) ∙ ap (λ b. pos 0 -ℤ b) (v.high x d))
          (λ x l. ap (λ b. b -ℤ φ x) (edge-image t c φ v x l) ∙ ring ints_ring (φ x ∷ []) (X :- X) nought refl))
          ∙ ring ints_ring (pair φ g ∷ []) (X :+ nought) X refl;
    }

  -- ---- all half-walls

  -- a wall whose function is 1, or that turns to the side σ or along u
  abbrev Good : ℕ → Wall → Type 0
  Good k w = Proper w × ((pos 0 ≤ℤ (σ *ℤ det u w.dir)) ⊎ Eq k w.function one)

  -- the function of a wall along u, and 1 of any other
  abbrev pub along_function : Wall → Sum
  along_function w = cond (int_eq (det u w.dir) (pos 0)) w.function one

  along-itself : (w : Wall) → int_eq (det u w.dir) (pos 0) ≡ true → along_function w ≡ w.function
  along-itself w e = ap (λ b. cond b w.function one) e

  along-one : (w : Wall) → int_eq (det u w.dir) (pos 0) ≡ false → along_function w ≡ one
  along-one w e = ap (λ b. cond b w.function one) e

  proper-along : (w : Wall) → Proper w → Proper (refit along_function w)
  proper-along w p = go (int_eq (det u w.dir) (pos 0)) refl
    where
      go : (b : Bool) → int_eq (det u w.dir) (pos 0) ≡ b → Proper (refit along_function w)
      go true e = rw e p
      go false e = rw e (proper-by (refit (λ _. one) w) refl tt)

  along-small : (k : ℕ) (w : Wall) → Eq k w.function one → Eq k (along_function w) one
  along-small k w h = go (int_eq (det u w.dir) (pos 0)) refl
    where
      go : (b : Bool) → int_eq (det u w.dir) (pos 0) ≡ b → Eq k (along_function w) one
      go true e = subst (λ f. Eq k f one) (sym (along-itself w e)) h
      go false e = subst (λ f. Eq k f one) (sym (along-one w e)) (Eq-refl k one)

  strictly : (s t : ℤ) → nat_abs s ≡ 1 → int_eq t (pos 0) ≡ false → pos 0 ≤ℤ (s *ℤ t) → pos 1 ≤ℤ (s *ℤ t)
  strictly (pos (suc zero)) t n e h = grind (arith, ints)
  strictly (negsuc zero) t n e h = grind (arith, ints)
  strictly (pos zero) t n e h = absurd (omega (arith, n))
  strictly (pos (suc (suc i))) t n e h = absurd (omega (arith, n))
  strictly (negsuc (suc i)) t n e h = absurd (omega (arith, n))

  module _ (unit_side : nat_abs σ ≡ 1) (k : ℕ) (c : ℤ) where
    one-step : (h : Half) → Good k h.wall → (g g' : Sum) → Above k c g → EdgeSame k c g g' → Above k c (cross_half k h g) × EdgeSame k c (cross_half k h g) (cross_half k (refit_half along_function h) g')
    one-step h (p, inr near) g g' a s =
        let still = dead k h p near g in
        let still' = dead k (refit_half along_function h) (proper-along h.wall p) (along-small k h.wall near) g' in (
          record { at = λ φ v up. still.at φ v ∙ a.at φ v up },
          record { at = λ φ v. still.at φ v.high ∙ s.at φ v ∙ sym (still'.at φ v.high) },
        )
    one-step h (p, inl t) g g' a s = (above-cross k h p t c g a, go (int_eq (det u h.wall.dir) (pos 0)) refl)
      where
        go : (b : Bool) → int_eq (det u h.wall.dir) (pos 0) ≡ b → EdgeSame k c (cross_half k h g) (cross_half k (refit_half along_function h) g')
        go true e =
            subst (λ f. EdgeSame k c (cross_half k h g) (cross k h.wall.dir f (neg_ℤ h.side) g')) (sym (along-itself h.wall e))
            (edge-cross k h p (ap (λ d. σ *ℤ d) (int_eq-same (det u h.wall.dir) (pos 0) e) ∙ ring ints_ring (σ ∷ []) (X :* nought) nought refl) c g g' s)
        go false e =
            let still' = dead k (refit_half along_function h) (proper-along h.wall p) (subst (λ f. Eq k f one) (sym (along-one h.wall e)) (Eq-refl k one)) g' in
            record { at = λ φ v. (edge-skip k h p (strictly σ (det u h.wall.dir) unit_side e t) c g a).at φ v ∙ s.at φ v ∙ sym (still'.at φ v.high) }

    carry-edge : (hs : List Half) → Every (λ h. Good k h.wall) hs → (g g' : Sum) → Above k c g → EdgeSame k c g g' → EdgeSame k c (carry k hs g) (carry k (map (refit_half along_function) hs) g')
    carry-edge [] q g g' a s = s
    carry-edge (h ∷ hs) q g g' a s =
        let r = one-step h q.0 g g' a s in
        carry-edge hs q.1 (cross_half k h g) (cross_half k (refit_half along_function h) g') r.0 r.1

  -- ---- the half-walls at a point

  both-along : (d e : Exp) → u ≢ origin → det u d ≡ pos 0 → det u e ≡ pos 0 → int_eq (det d e) (pos 0) ≡ true
  both-along d e n p q = go (int_eq (det d e) (pos 0)) refl
    where
      go : (b : Bool) → int_eq (det d e) (pos 0) ≡ b → b ≡ true
      go true r = refl
      go false r = absurd (n (λ i. record { a = at_a i; b = at_b i }))
        where
          apart : det d e ≢ pos 0
          apart z = let y : int_eq (det d e) (pos 0) ≡ true = subst (λ c. int_eq c (pos 0) ≡ true) (sym z) refl in absurd (cc)

          at_a : u.a ≡ pos 0
          at_a = zero-factor (det d e) u.a apart
              (ring ints_ring (u.a ∷ u.b ∷ d.a ∷ d.b ∷ e.a ∷ e.b ∷ []) ((Z :* var 5 :- W :* var 4) :* X) (Z :* (X :* var 5 :- Y :* var 4) :- var 4 :* (X :* W :- Y :* Z)) refl
              ∙ ap (λ t. d.a *ℤ t -ℤ e.a *ℤ det u d) q ∙ ap (λ t. d.a *ℤ pos 0 -ℤ e.a *ℤ t) p ∙ ring ints_ring (d.a ∷ e.a ∷ []) (X :* nought :- Y :* nought) nought refl)

          at_b : u.b ≡ pos 0
          at_b = zero-factor (det d e) u.b apart
              (ring ints_ring (u.a ∷ u.b ∷ d.a ∷ d.b ∷ e.a ∷ e.b ∷ []) ((Z :* var 5 :- W :* var 4) :* Y) (W :* (X :* var 5 :- Y :* var 4) :- var 5 :* (X :* W :- Y :* Z)) refl
              ∙ ap (λ t. d.b *ℤ t -ℤ e.b *ℤ det u d) q ∙ ap (λ t. d.b *ℤ pos 0 -ℤ e.b *ℤ t) p ∙ ring ints_ring (d.b ∷ e.b ∷ []) (X :* nought :- Y :* nought) nought refl)

  none-crosses : (k : ℕ) (v w : Wall) → u ≢ origin → crosses_to k (refit along_function v) (refit along_function w) ≡ false
  none-crosses k v w n = go (int_eq (det u v.dir) (pos 0)) refl (int_eq (det u w.dir) (pos 0)) refl
    where
      and-false : (b : Bool) → (b && false) ≡ false
      and-false true = refl
      and-false false = refl

      test : Sum → Sum → Bool
      test f g = list_any (λ (s : Term). list_any (λ (t : Term). nat_le (degree s.0 + degree t.0) k) g) f

      go : (a : Bool) → int_eq (det u v.dir) (pos 0) ≡ a → (b : Bool) → int_eq (det u w.dir) (pos 0) ≡ b → crosses_to k (refit along_function v) (refit along_function w) ≡ false
      go true e true r = ap (λ b. not b && list_any (λ (s : Term). list_any (λ (t : Term). nat_le (degree s.0 + degree t.0) k) (rest (along_function w))) (rest (along_function v))) (both-along v.dir w.dir n (int_eq-same (det u v.dir) (pos 0) e) (int_eq-same (det u w.dir) (pos 0) r))
      go false e b r = ap (λ f. not (are_parallel v w) && list_any (λ (s : Term). list_any (λ (t : Term). nat_le (degree s.0 + degree t.0) k) (rest (along_function w))) (rest f)) (along-one v e) ∙ and-false (not (are_parallel v w))
      go true e false r =
          ap (λ f. not (are_parallel v w) && list_any (λ (s : Term). list_any (λ (t : Term). nat_le (degree s.0 + degree t.0) k) (rest f)) (rest (along_function v))) (along-one w r)
          ∙ ap (λ b. not (are_parallel v w) && b) (any-false (λ (s : Term). false) (rest (along_function v)) (λ s i. refl)) ∙ and-false (not (are_parallel v w))

  module _ (ws : List Wall) (p : Point) (k : ℕ) (functions : HaveFunctions ws) (not_origin : u ≢ origin) (unit_side : nat_abs σ ≡ 1) (sided : IsOneSided ws p σ u) where
    proper-of : (w : Wall) → In w ws → Proper w
    proper-of w i = proper-wall w (Every-at HasFunction ws w functions i)

    not-live : (w : Wall) → In w ws → is_live w ≡ false → Eq k w.function one
    not-live w i l = small k w (proper-of w i) (any-weaken (λ (t : Term). true) (λ (t : Term). nat_le (degree t.0) k) (rest w.function) (λ t q. absurd (cc)) l)

    good : (w : Wall) → In w ws → is_on w p ≡ true → Good k w
    good w i on = (proper-of w i, go (is_live w) refl)
      where
        go : (b : Bool) → is_live w ≡ b → (pos 0 ≤ℤ (σ *ℤ det u w.dir)) ⊎ Eq k w.function one
        go true l = inl (sided w i on l).0
        go false l = inr (not-live w i l)

    good-halves : Every (λ h. Good k h.wall) (half_walls ws p)
    good-halves =
        Every-in_order (λ h. Good k h.wall) before (flat_map (halves p) ws)
        (Every-flat_map (λ w. In w ws) (λ h. Good k h.wall) (halves p) ws (λ w i. halves-on (λ h. Good k h.wall) p w (λ on s. good w i on)) (Every-from_In (λ w. In w ws) ws (λ w i. i)))

    passes : (w : Wall) → In w ws → Passes k p (refit along_function w)
    passes w i = (proper-along w (proper-of w i), λ starts. go starts (is_live w) refl (int_eq (det u w.dir) (pos 0)) refl)
      where
        go : starts_at w p ≡ true → (b : Bool) → is_live w ≡ b → (c : Bool) → int_eq (det u w.dir) (pos 0) ≡ c → Eq k (along_function w) one
        go starts false l c e = along-small k w (not-live w i l)
        go starts true l false e = subst (λ f. Eq k f one) (sym (along-one w e)) (Eq-refl k one)
        go starts true l true e = let o = (sided w i (starts-on w p starts) l).1 (int_eq-same (det u w.dir) (pos 0) e) in absurd (cc)

    still : (m : Exp) → Eq k (image (map (refit along_function) ws) p k m) (monomial (z m))
    still m =
        passive k (map (refit along_function) ws) p (Every-images (Passes k p) (refit along_function) ws (Every-from_In (λ w. Passes k p (refit along_function w)) ws passes))
        (record {
          quiet = λ v w i j a b. let v' = In-map (refit along_function) ws v i in let w' = In-map (refit along_function) ws w j in
              subst (λ (x : Wall). crosses_to k x w ≡ false) (sym v'.2) (subst (λ (y : Wall). crosses_to k (refit along_function v'.0) y ≡ false) (sym w'.2) (none-crosses k v'.0 w'.0 not_origin));
        }) m

    pub image-edge : (m : Exp) → EdgeSame k (level (z m)) (image ws p k m) (monomial (z m))
    image-edge m = record {
      at = λ φ v.
          (carry-edge unit_side k (level (z m)) (half_walls ws p) good-halves (monomial (z m)) (monomial (z m))
          (record { at = λ φ v up. ap (λ a. pos 1 *ℤ a +ℤ pos 0) (up (z m) (omega (arith, ints))) }) (record { at = λ φ v. refl })).at φ v
          ∙ ap (λ hs. pair φ (carry k hs (monomial (z m)))) (sym (half_walls-refit along_function p ws))
          ∙ (still m).at φ v.high;
    }

pub image-keeps-edge : ImageKeepsEdge
image-keeps-edge ws p k σ u m x functions not_origin unit_side sided le same =
    coef-is (image ws p k m) x
    ∙ (image-edge σ u ws p k functions not_origin unit_side sided m).at (indicator key_test x) (record { high = indicator-vanishes k x le; only = λ y o. go y o (key_eq y x) refl })
    ∙ sym (coef-is (monomial (z m)) x)
  where
    go : (y : Key) → level σ u y ≢ level σ u (z m) → (b : Bool) → key_eq y x ≡ b → cond b (pos 1) (pos 0) ≡ pos 0
    go y o true e = absurd (o (ap (level σ u) (key_eq-same y x e) ∙ ap (λ d. σ *ℤ d) same))
    go y o false e = refl
