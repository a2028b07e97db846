-- What terms of degree e more in the functions of half-walls add to an image at degree e.
use Rattle.std.proofs.Common.{◌≡◌, ℕ, refl, sym, subst, ap, ◌∙◌, ◌≤◌, List, [], ◌∷◌, ◌++◌, arith}
use Rattle.std.specs.Prelude.{ℤ, pos, ◌+ℤ◌, ◌*ℤ◌, neg_ℤ}
use Rattle.sum_algebra.proofs.Ring.{nought, ring}
use Rattle.sum_algebra.proofs.IntegerRing.{ints_ring, ◌:+◌, X, Y, Z}
use Rattle.sum_algebra.proofs.Sums.{pair, pair-append}
use Rattle.sum_algebra.proofs.Support.{Supported, Supported-append, by_every, weaken}
use Rattle.sum_algebra.proofs.CrossingLaws.{anywhere}
use Rattle.scattering.specs.Collections.{Every}
use Rattle.scattering.specs.Series.{Exp, Key, Sum, degree, det, key_mul, monomial, z, one, rest, IsWallFunction}
use Rattle.scattering.specs.LocalProduct.{Half, cross, cross_half, carry}
use Rattle.scattering.proofs.Lists.{Every-implies}
use Rattle.crossing_theory.proofs.Translation.{Eq, Eq-refl, Eq-trans, to_Eq, from_Eq, pair-term}
use Rattle.crossing_theory.proofs.HalfWalls.{Proper, proper-by, small, dead, unseen-cross}
use Rattle.crossing_theory.proofs.PassivePoints.{positive}
use Rattle.crossing_theory.proofs.OtherFunctions.{refit, refit_half}
use Rattle.crossing_theory.proofs.AddedTerms.{Eq-append, pair-extra, extra, carry-grows}
use Rattle.weight_theory.specs.Laws.{HasFunction}
use Rattle.weight_theory.proofs.Bounds.{pair-substitute}
use Rattle.degree_theory.specs.Images.{growth, FunctionsGrow, empty, more, new}
use Rattle.degree_theory.specs.Laws.{ImageGrows}
use Rattle.degree_theory.proofs.Parts.{proper-wall}
use Rattle.degree_theory.proofs.PartLaws.{regroup, from-degree, term-high, power_at, crossing-reads-low_degrees}

-- a crossing of two sums
pair-both : (e : ℕ) (h : Half) (s x : Sum) → Eq e (cross_half e h (s ++ x)) (cross_half e h s ++ cross_half e h x)
pair-both e h s x = record {
  at = λ φ v.
      let P = power_at e h.wall.dir h.wall.function (neg_ℤ h.side) in
      pair-substitute e P (s ++ x) φ v ∙ pair-append (λ x. pair (λ y. φ (key_mul x y)) (P x)) s x
      ∙ rw (← pair-substitute e P s φ v, ← pair-substitute e P x φ v) (sym (pair-append φ (cross_half e h s) (cross_half e h x)));
}

near-one : (h : Half) → Proper h.wall → Eq 0 h.wall.function one
near-one h p = small 0 h.wall p (positive (rest h.wall.function) (Every-implies _ (λ t. 1 ≤ degree t.0) _ (λ t u. u.0) p.others))

module _ (e : ℕ) (positive_e : 1 ≤ e) (m : Exp) where
  High : Sum → Type 0
  High x = Supported (λ y. e ≤ degree y) x

  pair-growth : (φ : Key → ℤ) (h : Half) (t : Sum) → pair φ (growth m h t) ≡ neg_ℤ h.side *ℤ det h.wall.dir m *ℤ pair (λ y. φ (key_mul (z m) y)) t
  pair-growth φ h t = pair-term φ (z m, neg_ℤ h.side *ℤ det h.wall.dir m) t

  growth-high : (h : Half) (t : Sum) → Every (λ x. e ≤ degree x.0) t → Supported (λ y. e ≤ degree y) (growth m h t)
  growth-high h t q = term-high e m (neg_ℤ h.side *ℤ det h.wall.dir m) t q

  -- one half-wall, whose function was f
  one-half : (h : Half) (f t : Sum) → HasFunction h.wall → Proper (refit (λ _. f) h.wall) → Every (λ x. e ≤ degree x.0) t → Eq e h.wall.function (f ++ t)
      → (k' : ℕ) → e ≤ k' → (s x s' : Sum) → Eq e s' (s ++ x) → Supported (λ y. e ≤ degree y) x → Eq 0 s (monomial (z m))
      → Eq e (cross_half k' h s') (cross e h.wall.dir f (neg_ℤ h.side) s ++ (x ++ growth m h t))
  one-half h f t w p high same k' le s x s' is hx near =
      let pw = proper-wall h.wall w in
      Eq-trans e _ (cross_half e h (s ++ x)) _
      (to_Eq e _ _ (crossing-reads-low_degrees k' e w.0 w.0 e h.wall.dir h.wall.function h.wall.function (neg_ℤ h.side) s' (s ++ x) w.1 w.1 le (omega arith) (λ y l. refl) (from_Eq e _ _ is)))
      (Eq-trans e _ _ _ (pair-both e h s x)
      (Eq-trans e _ _ _
      (Eq-append e _ _ _ _
      (carry-grows e positive_e (λ _. f) (λ _. t) m (h ∷ []) (record { proper = pw; proper' = p; same = same; high = from-degree e t high }, tt) s near)
      (unseen-cross e e 0 e h pw (near-one h pw) (omega arith) (omega arith) (omega arith) x hx))
      (record {
        at = λ φ v.
            let c = cross e h.wall.dir f (neg_ℤ h.side) s in
            let y = extra e positive_e (λ _. f) (λ _. t) m h in
            pair-append φ (c ++ (y ++ [])) x ∙ ap (λ a. a +ℤ pair φ x) (pair-append φ c (y ++ []) ∙ ap (λ a. pair φ c +ℤ a) (pair-append φ y []))
            ∙ ap (λ a. pair φ c +ℤ (a +ℤ pos 0) +ℤ pair φ x) (pair-extra e positive_e (λ _. f) (λ _. t) m φ h ∙ sym (pair-growth φ h t))
            ∙ ring ints_ring (pair φ c ∷ pair φ (growth m h t) ∷ pair φ x ∷ []) (X :+ (Y :+ nought) :+ Z) (X :+ (Z :+ Y)) refl
            ∙ sym (pair-append φ c (x ++ growth m h t) ∙ ap (λ a. pair φ c +ℤ a) (pair-append φ x (growth m h t)));
      })))

  -- a half-wall as it was has another wall, of the same direction
  at-dir : (d d' : Exp) (f : Sum) → d ≡ d' → (n : ℕ) × IsWallFunction n d f → (n : ℕ) × IsWallFunction n d' f
  at-dir d d' f q w = subst (λ (c : Exp). (n : ℕ) × IsWallFunction n c f) q w

  grown : (k k' : ℕ) (hs hs' : List Half) (added : Sum) → Every (λ h. HasFunction h.wall) hs → Every (λ h. HasFunction h.wall) hs' → e ≤ k → e ≤ k' → FunctionsGrow e m hs hs' added
      → (s x s' : Sum) → Eq e s' (s ++ x) → Supported (λ y. e ≤ degree y) x → Eq 0 s (monomial (z m)) → Eq e (carry k' hs' s') (carry k hs s ++ (x ++ added))
  grown k k' hs hs' added w w' le le' empty s x s' is hx near =
      Eq-trans e _ _ _ is (Eq-append e _ _ _ _ (Eq-refl e s) (record { at = λ φ v. sym (pair-append φ x [] ∙ ring ints_ring (pair φ x ∷ []) (X :+ nought) X refl) }))
  grown k k' hs hs' added w w' le le' (more {hs = hs0} {hs' = hs1} {added = rest_added} h h' t same_dir same_side high same g) s x s' is hx near =
      let v = at-dir h.wall.dir h'.wall.dir h.wall.function same_dir w.0 in
      let p = proper-by (refit (λ _. h.wall.function) h'.wall) v.1.constant v.1.others in
      let step = one-half h' h.wall.function t w'.0 p high (to_Eq e _ _ same) k' le' s x s' is hx near in
      let s1 : Sum = cross_half k h s in
      let back : Eq e (cross e h'.wall.dir h.wall.function (neg_ℤ h'.side) s) (cross_half k h s) =
      subst (λ (d : Exp). Eq e (cross e d h.wall.function (neg_ℤ h'.side) s) (cross_half k h s)) same_dir
      (subst (λ (a : ℤ). Eq e (cross e h.wall.dir h.wall.function (neg_ℤ a) s) (cross_half k h s)) same_side
      (to_Eq e _ _ (crossing-reads-low_degrees e k w.0.0 w.0.0 e h.wall.dir h.wall.function h.wall.function (neg_ℤ h.side) s s w.0.1 w.0.1 (omega arith) le (λ y l. refl) (λ y l. refl)))) in
      Eq-trans e _ _ _
      (grown k k' hs0 hs1 rest_added w.1 w'.1 le le' g s1 (x ++ growth m h' t) (cross_half k' h' s')
      (Eq-trans e _ _ _ step (Eq-append e _ _ _ _ back (Eq-refl e (x ++ growth m h' t))))
      (Supported-append (λ y. e ≤ degree y) x (growth m h' t) hx (growth-high h' t high))
      (Eq-trans 0 _ _ _ (unseen-cross k 0 0 0 h (proper-wall h.wall w.0) (near-one h (proper-wall h.wall w.0)) (omega arith) (omega arith) (omega arith) s (weaken _ _ s (λ x t. omega arith) (anywhere s))) near))
      (regroup e (carry k hs0 s1) x (growth m h' t) rest_added)
  grown k k' hs hs' added w w' le le' (new {hs' = hs1} {added = rest_added} h t high same g) s x s' is hx near =
      let p = proper-by (refit (λ _. one) h.wall) refl tt in
      let step = one-half h one t w'.0 p high (to_Eq e _ _ same) k' le' s x s' is hx near in
      Eq-trans e _ _ _
      (grown k k' hs hs1 rest_added w w'.1 le le' g s (x ++ growth m h t) (cross_half k' h s')
      (Eq-trans e _ _ _ step (Eq-append e _ _ _ _ (dead e (refit_half (λ _. one) h) p (Eq-refl e one) s) (Eq-refl e (x ++ growth m h t))))
      (Supported-append (λ y. e ≤ degree y) x (growth m h t) hx (growth-high h t high)) near)
      (regroup e (carry k hs s) x (growth m h t) rest_added)

pub image-grows : ImageGrows
image-grows k k' e m hs hs' added w w' positive_e le le' g =
    from_Eq e _ _
    (grown e positive_e m k k' hs hs' added w w' le le' g (monomial (z m)) [] (monomial (z m))
    (record { at = λ φ v. sym (pair-append φ (monomial (z m)) [] ∙ ring ints_ring (pair φ (monomial (z m)) ∷ []) (X :+ nought) X refl) })
    (by_every (λ y. e ≤ degree y) [] tt) (Eq-refl 0 (monomial (z m))))
