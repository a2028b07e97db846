-- Among no walls a theta is its monomial alone.
use Rattle.std.proofs.Common.{◌≡◌, ◌≢◌, ℕ, ◌≤◌, refl, ap, Bool, true, false, List, [], ◌∷◌, arith, inl}
use Rattle.std.specs.Prelude.{pos}
use Rattle.scattering.specs.Collections.{In}
use Rattle.scattering.specs.Series.{Exp, Key, origin, exp_eq, key_eq, unit, one, coef, degree, z, monomial}
use Rattle.scattering.specs.Plane.{Point}
use Rattle.scattering.specs.BrokenLine.{Bend, IsBend, IsBrokenLine}
use Rattle.scattering.specs.Theta.{IsTheta}
use Rattle.scattering.proofs.Keys.{key_eq-same}

coef-other : (u k : Key) → u ≢ k → coef (monomial u) k ≡ pos 0
coef-other u k n = go (key_eq u k) refl
  where
    go : (b : Bool) → key_eq u k ≡ b → coef (monomial u) k ≡ pos 0
    go true e = absurd (n (key_eq-same u k e))
    go false e = rw e refl

coef-one : (k : Key) → 1 ≤ degree k → coef one k ≡ pos 0
coef-one k le = coef-other unit k (λ e. let d : degree unit ≡ degree k = ap degree e in let z : degree unit ≡ 0 = refl in omega (arith, le, d, z))

no_bend : (n : ℕ) (x : Exp) (b : Bend) → IsBend n [] x b → ⊥
no_bend n x b h = h.key (coef-one b.key h.degree)

straight : (n : ℕ) (m : Exp) (q : Point) (bends : List Bend) → IsBrokenLine [] n m q bends → In bends ([] ∷ [])
straight n m q [] h = inl refl
straight n m q (b ∷ bs) h = absurd (no_bend n m b h.travels.1)

is_line : (n : ℕ) (m : Exp) (q : Point) → m ≢ origin → IsBrokenLine [] n m q []
is_line n m q moves = record { travels = record { moves = moves; reaches = tt; clear = λ p _ _ _. refl }; degrees = omega arith }

theta : (n : ℕ) (m : Exp) (q : Point) → exp_eq m origin ≡ false → m ≢ origin → IsTheta [] n m q (monomial (z m))
theta n m q e moves = rw (e, IsTheta) ([] ∷ [], record { each = (is_line n m q moves, tt); all = straight n m q; once = (tt, tt) }, λ k. refl)
