-- A theta is one, and it is its monomial and terms of degree at least 1.
use Rattle.std.proofs.Common.{◌≡◌, ◌≢◌, ℕ, refl, sym, ap, subst, ◌∙◌, ◌+◌, ◌≤◌, arith, Bool, true, false, List, [], ◌∷◌, map}
use Rattle.std.specs.Prelude.{ℤ, pos, ◌+ℤ◌, ◌*ℤ◌, None}
use Rattle.std.specs.Bool.{MatchBool}
use Rattle.scattering.specs.Collections.{In, Every, Lists}
use Rattle.scattering.specs.Series.{Exp, Powers, Key, Term, Sum, origin, exp_eq, exp_add, key_eq, degree, total, powers_add, no_powers, coef, coef_at, one, z, monomial, Same, SameTo}
use Rattle.scattering.specs.Plane.{Point, IsPoint}
use Rattle.scattering.specs.Wall.{Wall, IsWall, cut_walls}
use Rattle.scattering.specs.BrokenLine.{Bend, degrees, IsBrokenLine, final, value, bend_series}
use Rattle.scattering.specs.Tail.{IsReachedBy}
use Rattle.scattering.specs.Theta.{IsAskFault, IsTheta}
use Rattle.scattering.proofs.Lists.{Every-at}
use Rattle.scattering.proofs.Keys.{key_eq-same, exp_eq-same}
use Rattle.broken_line_theory.proofs.Bends.{reached-none}
use Rattle.broken_line_theory.proofs.TracedBends.{sub-self}
use Rattle.broken_line_theory.proofs.CompleteTails.{lines-are-tails}
use Rattle.broken_line_theory.proofs.ListedTotals.{taken, taken-In, taken-other, total-taken, total-none, total-listed}

abbrev Listed : List Wall → ℕ → Exp → Point → Sum → Type 0
Listed ws n m q s = (lines : List (List Bend)) × Lists (IsBrokenLine ws n m q) lines × Same s (map (value ws n m) lines)

-- there is one theta, up to the form
pub theta-unique : (ws : List Wall) (n : ℕ) (m : Exp) (q : Point) (s t : Sum) → IsTheta ws n m q s → IsTheta ws n m q t → Same s t
theta-unique ws n m q s t h k = go (exp_eq m origin) h k
  where
    go : (b : Bool) → MatchBool b (Same s one) (Listed ws n m q s) → MatchBool b (Same t one) (Listed ws n m q t) → Same s t
    go true h k y = h y ∙ sym (k y)
    go false h k y = h.2 y ∙ total-listed (value ws n m) y (IsBrokenLine ws n m q) h.0 k.0 h.1 k.1 ∙ sym (k.2 y)

pub total-add : (p q : Powers) → total (powers_add p q) ≡ total p + total q
total-add p q = omega arith

final-degree : (n : ℕ) (ws : List Wall) (x : Exp) (p : Powers) (c : ℤ) (bends : List Bend) → degree (final n ws x p c bends).0 ≡ total p + degrees bends
final-degree n ws x p c [] = omega arith
final-degree n ws x p c (b ∷ bs) =
    let h = final-degree n ws (exp_add x b.key.exp) (powers_add p b.key.powers) (c *ℤ coef (bend_series n ws b.at x) b.key) bs in
    let a = total-add p b.key.powers in omega (arith, h, a)

high-zero : (t : Term) (y : Key) → degree y ≡ 0 → 1 ≤ degree t.0 → coef_at y t ≡ pos 0
high-zero t y d l = go (key_eq t.0 y) refl
  where
    go : (b : Bool) → key_eq t.0 y ≡ b → coef_at y t ≡ pos 0
    go true e = let s : degree t.0 ≡ degree y = ap degree (key_eq-same t.0 y e) in absurd (omega (arith, s, d, l))
    go false e = rw e refl

bent-high : (ws : List Wall) (n : ℕ) (m : Exp) (q : Point) (bends : List Bend) → IsBrokenLine ws n m q bends → bends ≢ [] → (y : Key) → degree y ≡ 0 → coef_at y (value ws n m bends) ≡ pos 0
bent-high ws n m q [] h ne y d = absurd (ne refl)
bent-high ws n m q (b ∷ bs) h ne y d =
    let l = h.travels.1.degree in
    let f = final-degree n (cut_walls n ws) m no_powers (pos 1) (b ∷ bs) in
    high-zero (value ws n m (b ∷ bs)) y d (omega (arith, f, l))

-- where nothing fails the line without bends is one
pub straight : (ws : List Wall) (n k : ℕ) (m : Exp) (q : Point) → Every (IsWall k) ws → IsPoint q → IsAskFault ws n m q None → m ≢ origin → IsBrokenLine ws n m q []
straight ws n k m q walls point free ne =
    (lines-are-tails ws n k m q walls point free []).1
    (record { moves = ne; traced = (0, omega arith, subst (λ (u : Exp). IsReachedBy (cut_walls n ws) u 0) (sym (sub-self m)) (reached-none (cut_walls n ws))) })

pub theta-leading : (ws : List Wall) (n k : ℕ) (m : Exp) (q : Point) (s : Sum) → Every (IsWall k) ws → IsPoint q → IsAskFault ws n m q None → IsTheta ws n m q s → SameTo 0 s (monomial (z m))
theta-leading ws n k m q s walls point free h y low = go (exp_eq m origin) refl h
  where
    zero-degree : degree y ≡ 0
    zero-degree = omega (arith, low)

    unequal : exp_eq m origin ≡ false → m ≢ origin
    unequal e f = let r : exp_eq origin origin ≡ true = refl in let s : exp_eq origin origin ≡ false = subst (λ (u : Exp). exp_eq u origin ≡ false) f e in absurd (cc)

    go : (b : Bool) → exp_eq m origin ≡ b → MatchBool b (Same s one) (Listed ws n m q s) → coef s y ≡ coef (monomial (z m)) y
    go true e h = h y ∙ ap (λ u. coef (monomial (z u)) y) (sym (exp_eq-same m origin e))
    go false e h =
        let i : In [] h.0 = h.1.all [] (straight ws n k m q walls point free (unequal e)) in
        h.2 y ∙ total-taken (value ws n m) y [] h.0 i
        ∙ ap (λ c. coef_at y (value ws n m []) +ℤ c)
        (total-none (value ws n m) y (taken [] h.0 i) (λ x j. bent-high ws n m q x (Every-at (IsBrokenLine ws n m q) h.0 x h.1.each (taken-In [] h.0 i x j)) (taken-other [] h.0 i h.1.once x j) y zero-degree))
