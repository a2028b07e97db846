-- A question has one first fault, or none.
use Rattle.std.proofs.Common.{◌≡◌, ◌≢◌, ℕ, suc, refl, sym, ap, ◌∙◌, ◌+◌, ◌<◌, ◌≤◌, ◌^◌, ◌⊎◌, inl, inr, arith, Bool, true, false, List, [], ◌∷◌, length}
use Rattle.std.specs.Prelude.{IsTrue, Option, Some, None}
use Rattle.std.specs.Bool.{MatchBool}
use Rattle.scattering.specs.Collections.{In, Distinct, MoreThan, AtMost}
use Rattle.scattering.specs.Series.{Exp, origin, exp_eq}
use Rattle.scattering.specs.Plane.{Point, IsNear, point_before}
use Rattle.scattering.specs.Wall.{Wall, cut_walls}
use Rattle.scattering.specs.Tail.{Tail, IsTail, ReachTo, tail_weight}
use Rattle.scattering.specs.Theta.{AskFault, NotGeneric, TooManyReach, TooManyTails, PointTooLarge, WeightTooLarge, IsHit, IsWeight, weights, MeetsNone, TailsFault, is_on_live, IsAskFault}
use Rattle.scattering.proofs.Lists.{Every-at}
use Rattle.broken_line_theory.proofs.ListedTotals.{taken, taken-In, In-taken, taken-Distinct, taken-other}
use Rattle.plane_theory.proofs.PointOrder.{before-trans, before-irrefl}

module _ {A : Type 0} where
  length-taken : (x : A) (xs : List A) (i : In x xs) → length xs ≡ suc (length (taken x xs i))
  length-taken x [] i = absurd i
  length-taken x (y ∷ xs) (inl e) = refl
  length-taken x (y ∷ xs) (inr i) = let h = length-taken x xs i in omega (arith, h)

  fewer : (xs zs : List A) → Distinct xs → ((x : A) → In x xs → In x zs) → length xs ≤ length zs
  fewer [] zs d h = omega arith
  fewer (x ∷ xs) zs d h =
      let i = h x (inl refl) in
      let l = fewer xs (taken x zs i) d.1 (λ z j. In-taken x zs i z (h z (inr j)) (λ f. Every-at (λ z. x ≢ z) xs z d.0 j (sym f))) in
      let m = length-taken x zs i in omega (arith, l, m)

  pub not-both : (n : ℕ) (P : A → Type 0) → MoreThan n P → AtMost n P → ⊥
  not-both n P h k =
      let l = fewer h.0 k.0 h.2 (λ x i. k.1 x (Every-at P h.0 x h.1 i)) in
      let a = h.3 in let b = k.2 in omega (arith, l, a, b)

module _ (ws : List Wall) (n : ℕ) where
  weights-taken : (t : Tail) (ts : List Tail) (i : In t ts) → weights ws n ts ≡ tail_weight ws n t.root t.bends + weights ws n (taken t ts i)
  weights-taken t [] i = absurd i
  weights-taken t (u ∷ ts) (inl e) = ap (λ (w : Tail). tail_weight ws n w.root w.bends + weights ws n ts) (sym e)
  weights-taken t (u ∷ ts) (inr i) = let h = weights-taken t ts i in omega (arith, h)

  weights-same : (xs zs : List Tail) → Distinct xs → Distinct zs → ((x : Tail) → In x xs → In x zs) → ((x : Tail) → In x zs → In x xs) → weights ws n xs ≡ weights ws n zs
  weights-same [] [] d e h k = refl
  weights-same [] (z ∷ zs) d e h k = absurd (k z (inl refl))
  weights-same (x ∷ xs) zs d e h k =
      let i = h x (inl refl) in
      let r = weights-same xs (taken x zs i) d.1 (taken-Distinct x zs i e)
      (λ z j. In-taken x zs i z (h z (inr j)) (λ f. Every-at (λ z. x ≢ z) xs z d.0 j (sym f)))
      (λ z j. tail z (taken-other x zs i e z j) (k z (taken-In x zs i z j))) in
      ap (λ c. tail_weight ws n x.root x.bends + c) r ∙ sym (weights-taken x zs i)
    where
      tail : (z : Tail) → z ≢ x → In z (x ∷ xs) → In z xs
      tail z m (inl f) = absurd (m f)
      tail z m (inr j) = j

  pub weight-unique : (m : Exp) (q : Point) (v w : ℕ) → IsWeight ws n m q v → IsWeight ws n m q w → v ≡ w
  weight-unique m q v w h k =
      sym h.2 ∙ weights-same h.0 k.0 h.1.once k.1.once (λ x i. k.1.all x (Every-at (IsTail ws n m q) h.0 x h.1.each i)) (λ x i. h.1.all x (Every-at (IsTail ws n m q) k.0 x k.1.each i)) ∙ k.2

-- a check whose two sides exclude each other leaves one fault
check-unique : {F P L M : Type 0} (c : AskFault) (f g : Option AskFault) → (F → P → ⊥) → (L → M → f ≡ g) → (F × (f ≡ Some c)) ⊎ (P × L) → (F × (g ≡ Some c)) ⊎ (P × M) → f ≡ g
check-unique c f g n r (inl h) (inl k) = h.1 ∙ sym k.1
check-unique c f g n r (inl h) (inr k) = absurd (n h.0 k.0)
check-unique c f g n r (inr h) (inl k) = absurd (n k.0 h.0)
check-unique c f g n r (inr h) (inr k) = r h.1 k.1

meets-unique : (ws : List Wall) (n : ℕ) (m : Exp) (q : Point) (f g : Option AskFault) → MeetsNone ws n m q f → MeetsNone ws n m q g → f ≡ g
meets-unique ws n m q f g (inl h) (inl k) = h.2 ∙ ap (λ (p : Point). Some (NotGeneric p)) (one (h.1.1 k.0 k.1.0) (k.1.1 h.0 h.1.0)) ∙ sym k.2
  where
    one : (k.0 ≡ h.0) ⊎ IsTrue (point_before h.0 k.0) → (h.0 ≡ k.0) ⊎ IsTrue (point_before k.0 h.0) → h.0 ≡ k.0
    one (inl e) y = sym e
    one (inr b) (inl e) = e
    one (inr b) (inr c) = let i = h.1.0.0.0.below in let j = k.1.0.0.0.below in absurd (before-irrefl h.0 (before-trans h.0 k.0 h.0 i j i b c))
meets-unique ws n m q f g (inl h) (inr k) = absurd (k.0 h.0 h.1.0)
meets-unique ws n m q f g (inr h) (inl k) = absurd (h.0 k.0 k.1.0)
meets-unique ws n m q f g (inr h) (inr k) = h.1 ∙ sym k.1

tails-unique : (ws : List Wall) (n : ℕ) (m : Exp) (q : Point) (f g : Option AskFault) → TailsFault ws n m q f → TailsFault ws n m q g → f ≡ g
tails-unique ws n m q f g =
    check-unique TooManyReach f g (not-both (2 ^ 18) (λ d. ReachTo ws n d n))
    (check-unique TooManyTails f g (not-both (2 ^ 20) (IsTail ws n m q))
    (check-unique PointTooLarge f g far
    (check-unique WeightTooLarge f g heavy (meets-unique ws n m q f g))))
  where
    far : ((p : Point) × IsHit ws n m q p × (IsNear p → ⊥)) → ((p : Point) → IsHit ws n m q p → IsNear p) → ⊥
    far a b = a.2 (b a.0 a.1)

    heavy : ((w : ℕ) × IsWeight ws n m q w × (2 ^ 126 < w)) → ((w : ℕ) × IsWeight ws n m q w × (w ≤ 2 ^ 126)) → ⊥
    heavy a b = let e = weight-unique ws n m q a.0 b.0 a.1 b.1 in let x = a.2 in let y = b.2 in omega (arith, x, y, e)

pub ask-fault-unique : (ws : List Wall) (n : ℕ) (m : Exp) (q : Point) (f g : Option AskFault) → IsAskFault ws n m q f → IsAskFault ws n m q g → f ≡ g
ask-fault-unique ws n m q f g h k = go (is_on_live (cut_walls n ws) q) (exp_eq m origin) h k
  where
    go : (a b : Bool) → MatchBool a (f ≡ Some (NotGeneric q)) (MatchBool b (f ≡ None) (TailsFault ws n m q f)) → MatchBool a (g ≡ Some (NotGeneric q)) (MatchBool b (g ≡ None) (TailsFault ws n m q g)) → f ≡ g
    go true b h k = h ∙ sym k
    go false true h k = h ∙ sym k
    go false false h k = tails-unique ws n m q f g h k
