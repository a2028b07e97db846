-- Directions that tie in the order of angles: positive-mul multiples, and equal where both are combination.
use Rattle.std.proofs.Common.{◌≡◌, ◌≢◌, refl, sym, ap, ◌∙◌, inl, inr, arith, Bool, true, false}
use Rattle.std.specs.Prelude.{ℤ, pos, ◌+ℤ◌, ◌-ℤ◌, ◌*ℤ◌, neg_ℤ, ◌≤ℤ◌, IsTrue}
use lib.IntN.{*ℤ_comm}
use Rattle.std.proofs.lemmas.Int.{ints}
use Rattle.scattering.proofs.Ring.{dif-up, dif-pos, dif-add, dif-neg, dif-mul, dif-same}
use Rattle.scattering.specs.Series.{Exp, origin, det, dot}
use Rattle.scattering.specs.Plane.{IsDirection, is_upper, turns_before}
use Rattle.plane_theory.proofs.WholeNumbers.{cancel, dif-below, positive_of, follows, follows3, zero_of}
use Rattle.plane_theory.proofs.Points.{norm-positive}
use Rattle.plane_theory.proofs.LowestTerms.{at_least}
use Rattle.plane_theory.proofs.Angles.{IsUpper, upper-out, lower-out, turned, det-turned, turns-in, tie}
use Rattle.plane_theory.proofs.Directions.{combination}
use Rattle.sum_algebra.proofs.Integers.{positive-mul}

-- |e|²·d = (d·e)·e where det d e = 0
along-a : (a b c d : ℤ) → a *ℤ d -ℤ b *ℤ c ≡ pos 0 → (c *ℤ c +ℤ d *ℤ d) *ℤ a ≡ (a *ℤ c +ℤ b *ℤ d) *ℤ c
along-a a b c d h = follows ((c *ℤ c +ℤ d *ℤ d) *ℤ a) ((a *ℤ c +ℤ b *ℤ d) *ℤ c) d (a *ℤ d -ℤ b *ℤ c) (pos 0) h (rw (dif-up a, dif-up b, dif-up c, dif-up d) (simp (dif-mul, dif-add, dif-neg, dif-pos) (dif-same _ _ _ _ (omega arith))))

along-b : (a b c d : ℤ) → a *ℤ d -ℤ b *ℤ c ≡ pos 0 → (c *ℤ c +ℤ d *ℤ d) *ℤ b ≡ (a *ℤ c +ℤ b *ℤ d) *ℤ d
along-b a b c d h = follows ((c *ℤ c +ℤ d *ℤ d) *ℤ b) ((a *ℤ c +ℤ b *ℤ d) *ℤ d) (neg_ℤ c) (a *ℤ d -ℤ b *ℤ c) (pos 0) h (rw (dif-up a, dif-up b, dif-up c, dif-up d) (simp (dif-mul, dif-add, dif-neg, dif-pos) (dif-same _ _ _ _ (omega arith))))

-- where n·x = t·y with n, x, y positive-mul, t is positive-mul
factor : (n x t y : ℤ) → pos 1 ≤ℤ n → pos 1 ≤ℤ x → pos 1 ≤ℤ y → n *ℤ x ≡ t *ℤ y → pos 1 ≤ℤ t
factor n x t y h k l e = positive_of y t l (let p = positive-mul n x h k in let s = *ℤ_comm t y in omega (arith, ints, p, s, e))

upper-dot : (d e : Exp) → IsUpper d → IsUpper e → pos 1 ≤ℤ (e.a *ℤ e.a +ℤ e.b *ℤ e.b) → det d e ≡ pos 0 → pos 1 ≤ℤ dot d e
upper-dot d e (inl h) (inl k) n z = factor (e.a *ℤ e.a +ℤ e.b *ℤ e.b) d.b (dot d e) e.b n h k (along-b d.a d.b e.a e.b z)
upper-dot d e (inl h) (inr k) n z =
    let p = positive-mul _ _ n h in let b = along-b d.a d.b e.a e.b z in let q : dot d e *ℤ e.b ≡ pos 0 = rw k.0 (omega (arith, ints)) in absurd (omega (arith, ints, p, b, q))
upper-dot d e (inr h) (inr k) n z = factor (e.a *ℤ e.a +ℤ e.b *ℤ e.b) d.a (dot d e) e.a n h.1 k.1 (along-a d.a d.b e.a e.b z)
upper-dot d e (inr h) (inl k) n z =
    let b = along-b d.a d.b e.a e.b z in
    let q : (e.a *ℤ e.a +ℤ e.b *ℤ e.b) *ℤ d.b ≡ pos 0 = rw h.0 (omega (arith, ints)) in
    let t : dot d e ≡ pos 0 = zero_of e.b (dot d e) k (let s = *ℤ_comm (dot d e) e.b in omega (arith, ints, b, q, s)) in
    let a = along-a d.a d.b e.a e.b z in
    let p = positive-mul _ _ n h.1 in
    let r : dot d e *ℤ e.a ≡ pos 0 = rw t (omega (arith, ints)) in
    absurd (omega (arith, ints, a, p, r))

dot-turned : (a b c d : ℤ) → neg_ℤ a *ℤ neg_ℤ c +ℤ neg_ℤ b *ℤ neg_ℤ d ≡ a *ℤ c +ℤ b *ℤ d
dot-turned a b c d = rw (dif-up a, dif-up b, dif-up c, dif-up d) (simp (dif-mul, dif-add, dif-neg) (dif-same _ _ _ _ (omega arith)))

square-turned : (c d : ℤ) → neg_ℤ c *ℤ neg_ℤ c +ℤ neg_ℤ d *ℤ neg_ℤ d ≡ c *ℤ c +ℤ d *ℤ d
square-turned c d = rw (dif-up c, dif-up d) (simp (dif-mul, dif-add, dif-neg) (dif-same _ _ _ _ (omega arith)))

half-dot : (d e : Exp) → d ≢ origin → e ≢ origin → (u : Bool) → is_upper d ≡ u → is_upper e ≡ u → det d e ≡ pos 0 → pos 1 ≤ℤ dot d e
half-dot d e l m true p q z = upper-dot d e (upper-out d p) (upper-out e q) (norm-positive e m) z
half-dot d e l m false p q z =
    let r = norm-positive e m in let s = square-turned e.a e.b in let t = dot-turned d.a d.b e.a e.b in
    let w = upper-dot (turned d) (turned e) (lower-out d l p) (lower-out e m q) (omega (arith, ints, r, s)) (det-turned d e ∙ z) in
    omega (arith, ints, w, t)

-- a positive-mul multiple of the one is a positive-mul multiple of the other
pub record AreMultiples (d e : Exp) : Type 0 where
  pub j : ℤ
  pub k : ℤ
  pub first : pos 1 ≤ℤ j
  pub second : pos 1 ≤ℤ k
  pub a : j *ℤ d.a ≡ k *ℤ e.a
  pub b : j *ℤ d.b ≡ k *ℤ e.b

pub ties-are-multiples : (d e : Exp) → d ≢ origin → e ≢ origin → (IsTrue (turns_before d e) → ⊥) → (IsTrue (turns_before e d) → ⊥) → AreMultiples d e
ties-are-multiples d e l m h k =
    let t = tie d e (λ x. h (turns-in d e x)) (λ x. k (turns-in e d x)) in
    record {
      j = e.a *ℤ e.a +ℤ e.b *ℤ e.b;
      k = dot d e;
      first = norm-positive e m;
      second = half-dot d e l m (is_upper e) t.0 refl t.1;
      a = along-a d.a d.b e.a e.b t.1;
      b = along-b d.a d.b e.a e.b t.1;
    }

-- ---- combination ones
combine : (x y x' y' s s' u v : ℤ) → x' ≡ s *ℤ x → y' ≡ s' *ℤ y → u *ℤ x' +ℤ v *ℤ y' ≡ pos 1 → (u *ℤ s) *ℤ x +ℤ (v *ℤ s') *ℤ y ≡ pos 1
combine x y x' y' s s' u v a b c =
    rw (dif-up x, dif-up y, dif-up s, dif-up s', dif-up u, dif-up v) (simp (dif-mul, dif-add) (dif-same _ _ _ _ (omega arith)))
    ∙ ap (λ z. u *ℤ z +ℤ v *ℤ (s' *ℤ y)) (sym a) ∙ ap (λ z. u *ℤ x' +ℤ v *ℤ z) (sym b) ∙ c

times : (j k da db ea eb u v : ℤ) → j *ℤ da ≡ k *ℤ ea → j *ℤ db ≡ k *ℤ eb → u *ℤ da +ℤ v *ℤ db ≡ pos 1 → j ≡ k *ℤ (u *ℤ ea +ℤ v *ℤ eb)
times j k da db ea eb u v a b c =
    follows3 j (k *ℤ (u *ℤ ea +ℤ v *ℤ eb)) (neg_ℤ j) (u *ℤ da +ℤ v *ℤ db) (pos 1) u (j *ℤ da) (k *ℤ ea) v (j *ℤ db) (k *ℤ eb) c a b
    (rw (dif-up j, dif-up k, dif-up da, dif-up db, dif-up ea, dif-up eb, dif-up u, dif-up v) (simp (dif-mul, dif-add, dif-neg, dif-pos, dif-below) (dif-same _ _ _ _ (omega arith))))

pub multiples-equal : (d e : Exp) → IsDirection d → IsDirection e → AreMultiples d e → d ≡ e
multiples-equal d e h i m =
    let p = combination d h in let q = combination e i in
    let l = at_least m.k m.j _ m.second m.first (times m.j m.k d.a d.b e.a e.b p.0 p.1 m.a m.b p.2) in
    let r = at_least m.j m.k _ m.first m.second (times m.k m.j e.a e.b d.a d.b q.0 q.1 (sym m.a) (sym m.b) q.2) in
    let s : m.j ≡ m.k = omega (arith, ints, l, r) in
    let x = cancel m.k d.a e.a m.second (ap (λ z. z *ℤ d.a) (sym s) ∙ m.a) in
    let y = cancel m.k d.b e.b m.second (ap (λ z. z *ℤ d.b) (sym s) ∙ m.b) in
    λ j. record { a = x j; b = y j }
