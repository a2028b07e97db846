-- The theta and the weight of all tails, root by root, from the sums below each root.
use Rattle.std.proofs.Common.{◌≡◌, ◌≢◌, ℕ, refl, ap, subst, ◌∙◌, ◌+◌, arith, Bool, true, false, List, [], ◌∷◌, ◌++◌, map}
use Rattle.std.specs.Prelude.{None, filter, flat_map}
use Rattle.scattering.specs.Collections.{Every, Lists}
use Rattle.scattering.specs.Series.{Exp, Sum, origin, exp_eq}
use Rattle.scattering.specs.Plane.{Point, IsPoint}
use Rattle.scattering.specs.Wall.{Wall, IsWall}
use Rattle.scattering.specs.BrokenLine.{Bend, value}
use Rattle.scattering.specs.Tail.{IsInReach, IsTraced, Tail, last, is_complete, tail_weight}
use Rattle.scattering.specs.Theta.{IsAskFault, IsTheta, IsWeight, weights}
use Rattle.scattering.proofs.Keys.{exp_eq-same}
use Rattle.scattering.proofs.Lists.{map-append}
use Rattle.broken_line_theory.specs.TailValue.{values_below, weights_below, sum_each}
use Rattle.broken_line_theory.proofs.Bends.{cut-walls-tame}
use Rattle.broken_line_theory.proofs.TailsBelow.{tails-from_roots}
use Rattle.broken_line_theory.proofs.TailValues.{complete-value}
use Rattle.broken_line_theory.proofs.ThetaOfTails.{forwards, theta-of-tails}

abbrev pub rooted : Exp → Sum → Sum
rooted x s = map (λ t. (record { powers = t.0.powers; exp = x }, t.1)) s

abbrev from : Exp → List (List Bend) → List Tail
from x ls = map (λ cs. record { root = x; bends = cs }) ls

abbrev at_roots : (Exp → List (List Bend)) → List Exp → List Tail
at_roots below xs = flat_map (λ x. from x (below x)) xs

weights-from : (ws : List Wall) (n : ℕ) (x : Exp) (ls : List (List Bend)) → weights ws n (from x ls) ≡ weights_below ws n x ls
weights-from ws n x [] = refl
weights-from ws n x (cs ∷ ls) = ap (λ k. tail_weight ws n x cs + k) (weights-from ws n x ls)

weights-append : (ws : List Wall) (n : ℕ) (ts us : List Tail) → weights ws n (ts ++ us) ≡ weights ws n ts + weights ws n us
weights-append ws n [] us = omega arith
weights-append ws n (t ∷ ts) us = let h = weights-append ws n ts us in omega (arith, h)

weights-at : (ws : List Wall) (n : ℕ) (below : Exp → List (List Bend)) (xs : List Exp) → weights ws n (at_roots below xs) ≡ sum_each (λ x. weights_below ws n x (below x)) xs
weights-at ws n below [] = refl
weights-at ws n below (x ∷ xs) =
    weights-append ws n (from x (below x)) (at_roots below xs)
    ∙ ap (λ k. k + weights ws n (at_roots below xs)) (weights-from ws n x (below x))
    ∙ ap (λ k. weights_below ws n x (below x) + k) (weights-at ws n below xs)

filter-append : {A : Type 0} (t : A → Bool) (xs ys : List A) → filter t (xs ++ ys) ≡ filter t xs ++ filter t ys
filter-append t [] ys = refl
filter-append t (x ∷ xs) ys = go (filter-append t xs ys) (t x) refl
  where
    go : filter t (xs ++ ys) ≡ filter t xs ++ filter t ys → (b : Bool) → t x ≡ b → filter t ((x ∷ xs) ++ ys) ≡ filter t (x ∷ xs) ++ filter t ys
    go h true e = rw e (ap (λ zs. x ∷ zs) h)
    go h false e = rw e h

module _ (ws : List Wall) (n k : ℕ) (m : Exp) (q : Point) (walls : Every (IsWall k) ws) where
  abbrev values : List Tail → Sum
  values ts = map (value ws n m) (map forwards (filter (is_complete m) ts))

  pub values-append : (ts us : List Tail) → values (ts ++ us) ≡ values ts ++ values us
  values-append ts us =
      ap (λ vs. map (value ws n m) (map forwards vs)) (filter-append (is_complete m) ts us)
      ∙ ap (map (value ws n m)) (map-append forwards (filter (is_complete m) ts) (filter (is_complete m) us))
      ∙ map-append (value ws n m) (map forwards (filter (is_complete m) ts)) (map forwards (filter (is_complete m) us))

  values-from : (x : Exp) (ls : List (List Bend)) → x ≢ origin → Every (IsTraced ws n m q x 0) ls → values (from x ls) ≡ rooted x (values_below ws n m x ls)
  values-from x [] moves h = refl
  values-from x (cs ∷ ls) moves h = go (values-from x ls moves h.1) (exp_eq (last x cs) m) refl
    where
      go : values (from x ls) ≡ rooted x (values_below ws n m x ls) → (d : Bool) → exp_eq (last x cs) m ≡ d → values (from x (cs ∷ ls)) ≡ rooted x (values_below ws n m x (cs ∷ ls))
      go r true e =
          rw e (λ i. complete-value ws n m (cut-walls-tame n k ws walls) q (record { root = x; bends = cs }) (record { moves = moves; traced = h.0 }) (exp_eq-same (last x cs) m e) i ∷ r i)
      go r false e = rw e r

  values-at : (xs : List Exp) (below : Exp → List (List Bend)) → Every (λ x. IsInReach ws n m x 0 × (x ≢ origin)) xs → Every (λ x. Lists (IsTraced ws n m q x 0) (below x)) xs
      → values (at_roots below xs) ≡ flat_map (λ x. rooted x (values_below ws n m x (below x))) xs
  values-at [] below r h = refl
  values-at (x ∷ xs) below r h =
      values-append (from x (below x)) (at_roots below xs)
      ∙ ap (λ s. s ++ values (at_roots below xs)) (values-from x (below x) r.0.1 h.0.each)
      ∙ ap (λ s. rooted x (values_below ws n m x (below x)) ++ s) (values-at xs below r.1 h.1)

  -- the weight of all tails
  pub weight-of-roots : (xs : List Exp) (below : Exp → List (List Bend)) → Lists (λ x. IsInReach ws n m x 0 × (x ≢ origin)) xs → Every (λ x. Lists (IsTraced ws n m q x 0) (below x)) xs
      → IsWeight ws n m q (sum_each (λ x. weights_below ws n x (below x)) xs)
  weight-of-roots xs below l h = (at_roots below xs, tails-from_roots ws n m q xs below l h, weights-at ws n below xs)

  -- and their theta
  pub theta-of-roots : (xs : List Exp) (below : Exp → List (List Bend)) → IsPoint q → IsAskFault ws n m q None → exp_eq m origin ≡ false
      → Lists (λ x. IsInReach ws n m x 0 × (x ≢ origin)) xs → Every (λ x. Lists (IsTraced ws n m q x 0) (below x)) xs
      → IsTheta ws n m q (flat_map (λ x. rooted x (values_below ws n m x (below x))) xs)
  theta-of-roots xs below point free moves l h =
      subst (IsTheta ws n m q) (values-at xs below l.each h)
      (theta-of-tails ws n k m q walls point free (at_roots below xs) moves (tails-from_roots ws n m q xs below l h))
