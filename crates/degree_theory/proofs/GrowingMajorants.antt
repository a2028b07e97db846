-- What terms of degree e more in the functions of half-walls add to the majorant of an image at degree e.
use Rattle.std.proofs.Common.{◌≡◌, ℕ, zero, suc, refl, sym, subst, ap, ◌∙◌, ◌+◌, ◌≤◌, List, [], ◌∷◌, ◌++◌, arith}
use Rattle.std.specs.Prelude.{ℤ, pos, negsuc, ◌+ℤ◌, ◌*ℤ◌, neg_ℤ, nat_abs}
use Rattle.sum_algebra.proofs.Ring.{minus, nought, unit, ring}
use Rattle.sum_algebra.proofs.IntegerRing.{ints_ring, ◌:+◌, ◌:*◌, X, Y, Z}
use Rattle.sum_algebra.proofs.Sums as S
use Rattle.sum_algebra.proofs.Sums.{pair, bind, multiple, pair-append, pair-multiple, pair-bind, pair-ext, pair-zero}
use Rattle.sum_algebra.proofs.Support.{Supported, Supported-mul, Supported-append, by_every, list_power, list_powers}
use Rattle.sum_algebra.proofs.Crossing.{mono, list_int_power}
use Rattle.sum_algebra.proofs.Crossing as A
use Rattle.sum_algebra.proofs.CrossingLaws.{Supported-multiple}
use Rattle.sum_algebra.proofs.Perturbation.{cross-perturbed}
use Rattle.scattering.specs.Collections.{Every}
use Rattle.scattering.specs.Series.{Exp, Key, Sum, degree, det, key_mul, monomial, z, one, absolute, rest}
use Rattle.scattering.specs.LocalProduct.{Half, carry_majorant, cross_majorant}
use Rattle.scattering.proofs.ShiftedSums.{degree-mul}
use Rattle.crossing_theory.proofs.Keys.{keys}
use Rattle.crossing_theory.proofs.Translation.{Eq, Eq-refl, Eq-trans, Eq-sym, to_Eq, from_Eq, pair-term}
use Rattle.crossing_theory.proofs.AddedTerms.{Eq-append}
use Rattle.weight_theory.specs.Laws.{HasFunction}
use Rattle.weight_theory.proofs.Bounds.{pair-substitute}
use Rattle.degree_theory.specs.Images.{majorant_growth, MajorantsGrow, empty_majorant, more_majorant, new_majorant}
use Rattle.degree_theory.specs.Laws.{MajorantImageGrows}
use Rattle.degree_theory.proofs.PowerParts.{numbers, pow-is, unit-G, pow-expands, combination-near}
use Rattle.degree_theory.proofs.PartLaws.{regroup, from-degree, term-high, absolute-degree, substitute-same, majorant_at, majorants-same, first-number, majorant-near}
use Rattle.degree_theory.proofs.Majorants.{rest-low, absolute-low, by-one}

module _ (e : ℕ) (positive_e : 1 ≤ e) where
  -- 1 - v, and 1/(1 - v) to degree e
  abbrev less : Sum → Sum
  less v = one ++ S.neg keys v

  abbrev over : Sum → Sum
  over v = list_powers keys v (suc e)

  -- the exponent of 1 - v at a key
  abbrev exponent : Exp → Key → ℤ
  exponent d x = neg_ℤ (pos (nat_abs (det d x.exp)))

  negative-power : (v : Sum) (n : ℕ) → list_int_power keys (less v) (over v) (neg_ℤ (pos n)) ≡ list_power keys (over v) n
  negative-power v zero = refl
  negative-power v (suc n) = refl

  module _ (d : Exp) (f : Sum) (low : Supported (λ x. 1 ≤ degree x) (absolute (rest f))) where
    abbrev v : Sum
    v = absolute (rest f)

    -- the majorant is a crossing of 1 - v
    as-crossing : (s : Sum) → Eq e (cross_majorant e d f s) (A.cross keys e (less v) (over v) (exponent d) s)
    as-crossing s = record {
      at = λ φ u.
          pair-substitute e (majorant_at e d f) s φ u
          ∙ pair-ext _ _ s (λ x.
          (pow-is e e (omega arith) v low (nat_abs (det d x.exp))).at (λ y. φ (key_mul x y)) (λ y l. u (key_mul x y) (let m = degree-mul x y in omega (arith, l, m)))
          ∙ ap (λ p. pair (λ y. φ (key_mul x y)) p) (sym (negative-power v (nat_abs (det d x.exp))))
          ∙ ring ints_ring (pair (λ y. φ (key_mul x y)) (list_int_power keys (less v) (over v) (exponent d x)) ∷ []) X (unit :* X :+ nought) refl
          ∙ sym (S.pair-mul keys φ (mono keys x) (list_int_power keys (less v) (over v) (exponent d x))))
          ∙ sym (pair-bind φ s (A.image keys e (less v) (over v) (exponent d)));
    }

    starts : Supported (λ x. 1 ≤ degree x) (less v ++ S.neg keys (S.one keys))
    starts = record {
      at = λ φ ψ g. flip φ ∙ ap neg_ℤ (low.at φ ψ g) ∙ sym (flip ψ);
    }
      where
        flip : (φ : Key → ℤ) → pair φ (less v ++ S.neg keys (S.one keys)) ≡ neg_ℤ (pair φ v)
        flip φ =
            pair-append φ (less v) (S.neg keys (S.one keys)) ∙ ap (λ a. pos 1 *ℤ φ keys.e +ℤ a +ℤ (negsuc 0 *ℤ pos 1 *ℤ φ keys.e +ℤ pos 0)) (pair-multiple φ (negsuc 0) v)
            ∙ ring ints_ring (φ keys.e ∷ pair φ v ∷ []) (unit :* X :+ minus unit :* Y :+ (minus unit :* unit :* X :+ nought)) (minus Y) refl

  module _ (m : Exp) where
    pair-growth : (φ : Key → ℤ) (h : Half) (t : Sum) → pair φ (majorant_growth m h t) ≡ pos (nat_abs (det h.wall.dir m)) *ℤ pair (λ y. φ (key_mul (z m) y)) t
    pair-growth φ h t = pair-term φ (z m, pos (nat_abs (det h.wall.dir m))) t

    growth-high : (h : Half) (t : Sum) → Every (λ x. e ≤ degree x.0) t → Supported (λ y. e ≤ degree y) (majorant_growth m h t)
    growth-high h t q = term-high e m (pos (nat_abs (det h.wall.dir m))) t q

    -- one half-wall, whose function was f
    module _ (h : Half) (f t : Sum) (low' : Every (λ x. 1 ≤ degree x.0) (rest h.wall.function)) (low : Supported (λ x. 1 ≤ degree x) (absolute (rest f))) (high : Every (λ x. e ≤ degree x.0) t) (same : Eq e (absolute (rest h.wall.function)) (absolute (rest f) ++ t)) where
      abbrev d : Exp
      d = h.wall.dir

      abbrev f' : Sum
      f' = h.wall.function

      low-new : Supported (λ x. 1 ≤ degree x) (absolute (rest h.wall.function))
      low-new = absolute-degree 1 (rest h.wall.function) low'

      high-t : Supported (λ x. e ≤ degree x) t
      high-t = from-degree e t high

      sum : Eq e (less (absolute (rest h.wall.function))) (less (absolute (rest f)) ++ S.neg keys t)
      sum = record {
        at = λ φ u.
            ap (λ a. pos 1 *ℤ φ keys.e +ℤ a) (pair-multiple φ (negsuc 0) (absolute (rest h.wall.function)) ∙ ap (λ a. negsuc 0 *ℤ a) (same.at φ u ∙ pair-append φ (absolute (rest f)) t))
            ∙ ring ints_ring (φ keys.e ∷ pair φ (absolute (rest f)) ∷ pair φ t ∷ []) (unit :* X :+ minus unit :* (Y :+ Z)) (unit :* X :+ minus unit :* Y :+ minus unit :* Z) refl
            ∙ sym (pair-append φ (less (absolute (rest f))) (S.neg keys t) ∙ ap (λ a. pos 1 *ℤ φ keys.e +ℤ a +ℤ pair φ (S.neg keys t)) (pair-multiple φ (negsuc 0) (absolute (rest f))) ∙ ap (λ a. pos 1 *ℤ φ keys.e +ℤ negsuc 0 *ℤ pair φ (absolute (rest f)) +ℤ a) (pair-multiple φ (negsuc 0) t));
      }

      abbrev change : Key → Sum
      change x = S.mul keys (mono keys x) (multiple (exponent h.wall.dir x) (S.neg keys t))

      change-high : (x : Key) → Supported (λ y. e + degree x ≤ degree y) (change x)
      change-high x =
          Supported-mul keys (λ y. degree x ≤ degree y) (λ y. e ≤ degree y) (λ y. e + degree x ≤ degree y) (mono keys x) (multiple (exponent h.wall.dir x) (S.neg keys t))
          (λ y u a b. let q = degree-mul y u in omega (arith, a, b, q)) (by_every (λ y. degree x ≤ degree y) (mono keys x) (omega arith, tt))
          (Supported-multiple (λ y. e ≤ degree y) (exponent h.wall.dir x) (S.neg keys t) (Supported-multiple (λ y. e ≤ degree y) (negsuc 0) t high-t))

      changes : (s : Sum) → Eq 0 s (monomial (z m)) → Eq e (bind s change) (majorant_growth m h t)
      changes s near = record {
        at = λ φ u.
            pair-bind φ s change
            ∙ near.at (λ x. pair φ (change x)) (λ x l. (change-high x).at φ (λ _. pos 0) (λ y q. u y (omega (arith, l, q))) ∙ pair-zero (change x))
            ∙ ap (λ a. pos 1 *ℤ a +ℤ pos 0)
            (S.pair-mul keys φ (mono keys (z m)) (multiple (exponent h.wall.dir (z m)) (S.neg keys t))
            ∙ ap (λ a. pos 1 *ℤ a +ℤ pos 0) (pair-multiple (λ y. φ (key_mul (z m) y)) (exponent h.wall.dir (z m)) (S.neg keys t) ∙ ap (λ a. exponent h.wall.dir (z m) *ℤ a) (pair-multiple (λ y. φ (key_mul (z m) y)) (negsuc 0) t)))
            ∙ ring ints_ring (pos (nat_abs (det h.wall.dir m)) ∷ pair (λ y. φ (key_mul (z m) y)) t ∷ []) (unit :* (unit :* (minus X :* (minus unit :* Y)) :+ nought) :+ nought) (X :* Y) refl
            ∙ sym (pair-growth φ h t);
      }

      grown-cross : (s : Sum) → Eq 0 s (monomial (z m)) → Eq e (cross_majorant e h.wall.dir h.wall.function s) (cross_majorant e h.wall.dir f s ++ majorant_growth m h t)
      grown-cross s near =
          Eq-trans e _ _ _ (as-crossing h.wall.dir h.wall.function low-new s)
          (Eq-trans e _ _ _
          (cross-perturbed keys e (less (absolute (rest f))) (over (absolute (rest f))) (less (absolute (rest h.wall.function))) (over (absolute (rest h.wall.function))) (S.neg keys t) (exponent h.wall.dir)
          (unit-G e e (omega arith) (absolute (rest f)) low) (unit-G e e (omega arith) (absolute (rest h.wall.function)) low-new) sum positive_e (Supported-multiple (λ y. e ≤ degree y) (negsuc 0) t high-t) (starts h.wall.dir f low) s)
          (Eq-append e _ _ _ _ (Eq-sym e _ _ (as-crossing h.wall.dir f low s)) (changes s near)))

      high-stays : (x : Sum) → Supported (λ y. e ≤ degree y) x → Eq e (cross_majorant e h.wall.dir h.wall.function x) x
      high-stays x hx = record {
        at = λ φ u.
            pair-substitute e (majorant_at e h.wall.dir h.wall.function) x φ u
            ∙ hx.at _ φ (λ y l.
            (majorant-near e h.wall.dir h.wall.function low-new y).at (λ w. φ (key_mul y w)) (λ w q. u (key_mul y w) (let d = degree-mul y w in omega (arith, l, q, d)))
            ∙ ap (λ (w : Key). pos 1 *ℤ φ w +ℤ pos 0) (keys.comm y keys.e ∙ keys.unit_left y) ∙ ring ints_ring (φ y ∷ []) (unit :* X :+ nought) X refl);
      }

      two-sums : (s x : Sum) → Eq e (cross_majorant e h.wall.dir h.wall.function (s ++ x)) (cross_majorant e h.wall.dir h.wall.function s ++ cross_majorant e h.wall.dir h.wall.function x)
      two-sums s x = record {
        at = λ φ u.
            let P = majorant_at e h.wall.dir h.wall.function in
            pair-substitute e P (s ++ x) φ u ∙ pair-append (λ x. pair (λ y. φ (key_mul x y)) (P x)) s x
            ∙ rw (← pair-substitute e P s φ u, ← pair-substitute e P x φ u) (sym (pair-append φ (cross_majorant e h.wall.dir h.wall.function s) (cross_majorant e h.wall.dir h.wall.function x)));
      }

      one-half : (k' : ℕ) → e ≤ k' → (s x s' : Sum) → Eq e s' (s ++ x) → Supported (λ y. e ≤ degree y) x → Eq 0 s (monomial (z m))
          → Eq e (cross_majorant k' h.wall.dir h.wall.function s') (cross_majorant e h.wall.dir f s ++ (x ++ majorant_growth m h t))
      one-half k' le s x s' is hx near =
          Eq-trans e _ (cross_majorant e h.wall.dir h.wall.function (s ++ x)) _
          (substitute-same k' e e (majorant_at k' h.wall.dir h.wall.function) (majorant_at e h.wall.dir h.wall.function) s' (s ++ x) le (omega arith) (λ x. majorants-same k' e e h.wall.function low' le (omega arith) (nat_abs (det h.wall.dir x.exp))) is)
          (Eq-trans e _ _ _ (two-sums s x)
          (Eq-trans e _ _ _ (Eq-append e _ _ _ _ (grown-cross s near) (high-stays x hx))
          (record {
            at = λ φ u.
                let c = cross_majorant e h.wall.dir f s in
                pair-append φ (c ++ majorant_growth m h t) x ∙ ap (λ a. a +ℤ pair φ x) (pair-append φ c (majorant_growth m h t))
                ∙ ring ints_ring (pair φ c ∷ pair φ (majorant_growth m h t) ∷ pair φ x ∷ []) (X :+ Y :+ Z) (X :+ (Z :+ Y)) refl
                ∙ sym (pair-append φ c (x ++ majorant_growth m h t) ∙ ap (λ a. pair φ c +ℤ a) (pair-append φ x (majorant_growth m h t)));
          })))

    half-low : (h : Half) → HasFunction h.wall → Every (λ x. 1 ≤ degree x.0) (rest h.wall.function)
    half-low h w = rest-low w.0 h.wall.dir h.wall.function w.1

    half-absolute : (h : Half) → HasFunction h.wall → Supported (λ x. 1 ≤ degree x) (absolute (rest h.wall.function))
    half-absolute h w = absolute-low w.0 h.wall.dir h.wall.function w.1

    -- the first degree of a sum isn't changed by a majorant
    first-stays : (k : ℕ) (h : Half) → HasFunction h.wall → (s : Sum) → Eq 0 (cross_majorant k h.wall.dir h.wall.function s) s
    first-stays k h w s =
        Eq-trans 0 _ _ _
        (substitute-same k 0 0 (majorant_at k h.wall.dir h.wall.function) (λ _. one) s s (omega arith) (omega arith)
        (majorant-near k h.wall.dir h.wall.function (half-absolute h w))
        (Eq-refl 0 s))
        (by-one 0 s)

    -- without a function nothing changes
    nothing-stays : (d : Exp) (s : Sum) → Eq e (cross_majorant e d one s) s
    nothing-stays d s =
        Eq-trans e _ _ _
        (substitute-same e e e (majorant_at e d one) (λ _. one) s s (omega arith) (omega arith)
        (λ x. Eq-trans e _ _ _ (pow-expands e e (omega arith) [] (by_every (λ y. 1 ≤ degree y) [] tt) (nat_abs (det d x.exp)))
        (combination-near (suc e) e e (numbers (nat_abs (det d x.exp))) [] (first-number (nat_abs (det d x.exp))) (omega arith) (by_every (λ y. suc e ≤ degree y) [] tt)))
        (Eq-refl e s))
        (by-one e s)

    grown : (k k' : ℕ) (hs hs' : List Half) (added : Sum) → Every (λ h. HasFunction h.wall) hs → Every (λ h. HasFunction h.wall) hs' → e ≤ k → e ≤ k' → MajorantsGrow e m hs hs' added
        → (s x s' : Sum) → Eq e s' (s ++ x) → Supported (λ y. e ≤ degree y) x → Eq 0 s (monomial (z m)) → Eq e (carry_majorant k' hs' s') (carry_majorant k hs s ++ (x ++ added))
    grown k k' hs hs' added w w' le le' empty_majorant s x s' is hx near =
        Eq-trans e _ _ _ is (Eq-append e _ _ _ _ (Eq-refl e s) (record { at = λ φ v. sym (pair-append φ x [] ∙ ring ints_ring (pair φ x ∷ []) (X :+ nought) X refl) }))
    grown k k' hs hs' added w w' le le' (more_majorant {hs = hs0} {hs' = hs1} {added = later} h h' t same_dir high same g) s x s' is hx near =
        let s1 : Sum = cross_majorant k h.wall.dir h.wall.function s in
        let back : Eq e (cross_majorant e h'.wall.dir h.wall.function s) (cross_majorant k h.wall.dir h.wall.function s) =
        subst (λ (d : Exp). Eq e (cross_majorant e d h.wall.function s) (cross_majorant k h.wall.dir h.wall.function s)) same_dir
        (substitute-same e k e (majorant_at e h.wall.dir h.wall.function) (majorant_at k h.wall.dir h.wall.function) s s (omega arith) le
        (λ x. majorants-same e k e h.wall.function (half-low h w.0) (omega arith) le (nat_abs (det h.wall.dir x.exp))) (Eq-refl e s)) in
        Eq-trans e _ _ _
        (grown k k' hs0 hs1 later w.1 w'.1 le le' g s1 (x ++ majorant_growth m h' t) (cross_majorant k' h'.wall.dir h'.wall.function s')
        (Eq-trans e _ _ _
        (one-half h' h.wall.function t (half-low h' w'.0) (half-absolute h w.0) high (to_Eq e _ _ same) k' le' s x s' is hx near)
        (Eq-append e _ _ _ _ back (Eq-refl e (x ++ majorant_growth m h' t))))
        (Supported-append (λ y. e ≤ degree y) x (majorant_growth m h' t) hx (growth-high h' t high))
        (Eq-trans 0 _ _ _ (first-stays k h w.0 s) near))
        (regroup e (carry_majorant k hs0 s1) x (majorant_growth m h' t) later)
    grown k k' hs hs' added w w' le le' (new_majorant {hs' = hs1} {added = later} h t high same g) s x s' is hx near =
        Eq-trans e _ _ _
        (grown k k' hs hs1 later w w'.1 le le' g s (x ++ majorant_growth m h t) (cross_majorant k' h.wall.dir h.wall.function s')
        (Eq-trans e _ _ _
        (one-half h one t (half-low h w'.0) (by_every (λ y. 1 ≤ degree y) [] tt) high (to_Eq e _ _ same) k' le' s x s' is hx near)
        (Eq-append e _ _ _ _ (nothing-stays h.wall.dir s) (Eq-refl e (x ++ majorant_growth m h t))))
        (Supported-append (λ y. e ≤ degree y) x (majorant_growth m h t) hx (growth-high h t high)) near)
        (regroup e (carry_majorant k hs s) x (majorant_growth m h t) later)

pub majorant-image-grows : MajorantImageGrows
majorant-image-grows k k' e m hs hs' added w w' positive_e le le' g =
    from_Eq e _ _
    (grown e positive_e m k k' hs hs' added w w' le le' g (monomial (z m)) [] (monomial (z m))
    (record { at = λ φ v. sym (pair-append φ (monomial (z m)) [] ∙ ring ints_ring (pair φ (monomial (z m)) ∷ []) (X :+ nought) X refl) })
    (by_every (λ y. e ≤ degree y) [] tt) (Eq-refl 0 (monomial (z m))))
