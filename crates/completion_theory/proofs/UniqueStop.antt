-- What stops an order is one.
use Rattle.std.proofs.Common.{◌≡◌, ℕ, zero, suc, refl, sym, ap, subst, ◌∙◌, ◌+◌, ◌<◌, ◌≤◌, arith, List, length}
use Rattle.std.specs.Prelude.{Option, Some, None}
use native.Mathlib.Decide.{dec_le}
use Rattle.scattering.specs.Collections.{Every}
use Rattle.scattering.specs.Wall.{Wall, Diagram, IsWall, walls}
use Rattle.scattering.specs.Completion.{IsCompletion}
use Rattle.scattering.specs.Correction.{raised}
use Rattle.scattering.specs.Stops.{StopCause, PointTooLarge, WeightTooLarge, TooManyWalls, StopsAfter, IsStopAt}
use Rattle.completion_theory.specs.Laws.{StopIsUnique, FirstStopIsUnique}
use Rattle.completion_theory.proofs.UniqueCompletion.{completion_is_unique}

out2 : {a b : ℕ} → a ≤ b → b < a → ⊥
out2 x y = omega (arith, x, y)

out3 : {a b c : ℕ} → a ≡ b → c < a → b ≤ c → ⊥
out3 q x y = omega (arith, q, x, y)

module _ (given : List Wall) (m : ℕ) (hg : Every (IsWall m) given) where
  sizes : (n : ℕ) → n + 1 ≤ m → (e e' : Diagram) → IsCompletion given (n + 1) e → IsCompletion given (n + 1) e' → length (walls e) ≡ length (walls e')
  sizes n le e e' c c' = ap (λ (d : Diagram). length (walls d)) (completion_is_unique given (n + 1) m e e' le hg c c')

  after : (n : ℕ) → n + 1 ≤ m → (ws : List Wall) → (s t : Option StopCause) → StopsAfter given n ws s → StopsAfter given n ws t → s ≡ t
  after n le ws (Some PointTooLarge) (Some PointTooLarge) a b = refl
  after n le ws (Some PointTooLarge) (Some WeightTooLarge) a b = absurd (a.3 (b.0 a.0 a.1 a.2))
  after n le ws (Some PointTooLarge) (Some TooManyWalls) a b = absurd (a.3 (b.0 a.0 a.1 a.2))
  after n le ws (Some PointTooLarge) None a b = absurd (a.3 (b.0 a.0 a.1 a.2))
  after n le ws (Some WeightTooLarge) (Some PointTooLarge) a b = absurd (b.3 (a.0 b.0 b.1 b.2))
  after n le ws (Some WeightTooLarge) (Some WeightTooLarge) a b = refl
  after n le ws (Some WeightTooLarge) (Some TooManyWalls) a b = let x = b.1 a.1.0 a.1.1 a.1.2 in let y = a.1.3 in absurd (out2 x y)
  after n le ws (Some WeightTooLarge) None a b = let x = b.1 a.1.0 a.1.1 a.1.2 in let y = a.1.3 in absurd (out2 x y)
  after n le ws (Some TooManyWalls) (Some PointTooLarge) a b = absurd (b.3 (a.0 b.0 b.1 b.2))
  after n le ws (Some TooManyWalls) (Some WeightTooLarge) a b = let x = a.1 b.1.0 b.1.1 b.1.2 in let y = b.1.3 in absurd (out2 x y)
  after n le ws (Some TooManyWalls) (Some TooManyWalls) a b = refl
  after n le ws (Some TooManyWalls) None a b = let q = sizes n le a.2.0 b.2.0 a.2.1 b.2.1 in let x = a.2.2 in let y = b.2.2 in absurd (out3 q x y)
  after n le ws None (Some PointTooLarge) a b = absurd (b.3 (a.0 b.0 b.1 b.2))
  after n le ws None (Some WeightTooLarge) a b = let x = a.1 b.1.0 b.1.1 b.1.2 in let y = b.1.3 in absurd (out2 x y)
  after n le ws None (Some TooManyWalls) a b = absurd (out3 (sizes n le b.2.0 a.2.0 b.2.1 a.2.1) b.2.2 a.2.2)
  after n le ws None None a b = refl

  pub stop-at : (n : ℕ) → n ≤ m → (s t : Option StopCause) → IsStopAt given n s → IsStopAt given n t → s ≡ t
  stop-at zero le s t a b = a ∙ sym b
  stop-at (suc n) le s t a b =
      let q = completion_is_unique given n m a.0 b.0 (omega (arith, le)) hg a.1 b.1 in
      after n (omega (arith, le)) (walls (raised given n b.0)) s t (subst (λ (d : Diagram). StopsAfter given n (walls (raised given n d)) s) q a.2) b.2

pub stop_is_unique : StopIsUnique
stop_is_unique given n m s t le hg a b = stop-at given m hg n le s t a b

none-some : {A : Type 0} (x : A) → None ≡ Some x → ⊥
none-some x e = absurd (cc)

-- an order that is stopped and isn't
stopped-or-not : (given : List Wall) (n m : ℕ) (c : StopCause) → n ≤ m → Every (IsWall m) given → IsStopAt given n (Some c) → IsStopAt given n None → ⊥
stopped-or-not given n m c le hg a b = none-some c (stop-at given m hg n le None (Some c) b a)

pub first_stop_is_unique : FirstStopIsUnique
first_stop_is_unique given k m None None le hg a b = refl
first_stop_is_unique given k m None (Some t) le hg a b = let l = b.0 in absurd (stopped-or-not given t.0 m t.1 (omega (arith, l, le)) hg b.1 (a t.0 b.0))
first_stop_is_unique given k m (Some s) None le hg a b = let l = a.0 in absurd (stopped-or-not given s.0 m s.1 (omega (arith, l, le)) hg a.1 (b s.0 a.0))
first_stop_is_unique given k m (Some s) (Some t) le hg a b = go (dec_le s.0 t.0) (dec_le t.0 s.0)
  where
    la : s.0 ≤ m
    la = let l = a.0 in omega (arith, l, le)

    lb : t.0 ≤ m
    lb = let l = b.0 in omega (arith, l, le)

    go : Dec (s.0 ≤ t.0) → Dec (t.0 ≤ s.0) → Some s ≡ Some t
    go (yes p) (yes q) =
        let e : s.0 ≡ t.0 = omega (arith, p, q) in
        let c : Some s.1 ≡ Some t.1 = stop-at given m hg t.0 lb (Some s.1) (Some t.1) (subst (λ n. IsStopAt given n (Some s.1)) e a.1) b.1 in
        pair e c
      where
        cause : (c d : StopCause) → Some c ≡ Some d → c ≡ d
        cause c d e = cc

        pair : s.0 ≡ t.0 → Some s.1 ≡ Some t.1 → Some s ≡ Some t
        pair e c = let d = cause s.1 t.1 c in λ i. Some (e i, d i)
    go (no p) q = absurd (stopped-or-not given t.0 m t.1 lb hg b.1 (a.2 t.0 (omega (arith, p))))
    go (yes p) (no q) = absurd (stopped-or-not given s.0 m s.1 la hg a.1 (b.2 s.0 (omega (arith, q))))
