-- Bends traced backwards: one more at the end, and one less.
use Rattle.std.proofs.Common.{◌≡◌, ℕ, refl, ap, ◌∙◌, ◌+◌, ◌≤◌, arith, List, [], ◌∷◌, ◌++◌}
use Rattle.std.proofs.lemmas.List.{reverse-append}
use Rattle.std.specs.Prelude.{reverse}
use Rattle.std.proofs.lemmas.Int.{ints}
use Rattle.scattering.specs.Series.{Exp, origin, exp_add, exp_sub, degree}
use Rattle.scattering.specs.Plane.{Point, IsPoint}
use Rattle.scattering.specs.Wall.{Wall}
use Rattle.scattering.specs.BrokenLine.{Bend, degrees}
use Rattle.scattering.specs.Tail.{IsInReach, Extends, IsTraced, last, last_point, end_exp}
use Rattle.scattering.proofs.Keys.{same-exp}

pub add-sub : (u v : Exp) → exp_sub (exp_add u v) v ≡ u
add-sub u v = same-exp _ _ (omega (arith, ints)) (omega (arith, ints))

pub sub-add : (u v : Exp) → exp_add (exp_sub u v) v ≡ u
sub-add u v = same-exp _ _ (omega (arith, ints)) (omega (arith, ints))

-- (u - m) + v = (u + v) - m
pub sub-moved : (u v m : Exp) → exp_add (exp_sub u m) v ≡ exp_sub (exp_add u v) m
sub-moved u v m = same-exp _ _ (omega (arith, ints)) (omega (arith, ints))

pub sub-self : (u : Exp) → exp_sub u u ≡ origin
sub-self u = same-exp _ _ (omega (arith, ints)) (omega (arith, ints))

pub reverse-cons : (c : Bend) (cs : List Bend) → reverse (c ∷ cs) ≡ reverse cs ++ (c ∷ [])
reverse-cons c cs = reverse-append (c ∷ []) cs

pub last-snoc : (x : Exp) (cs : List Bend) (c : Bend) → last x (cs ++ (c ∷ [])) ≡ exp_sub (last x cs) c.key.exp
last-snoc x [] c = refl
last-snoc x (d ∷ cs) c = last-snoc (exp_sub x d.key.exp) cs c

pub last_point-snoc : (p : Point) (cs : List Bend) (c : Bend) → last_point p (cs ++ (c ∷ [])) ≡ c.at
last_point-snoc p [] c = refl
last_point-snoc p (d ∷ cs) c = last_point-snoc d.at cs c

pub degrees-snoc : (cs : List Bend) (c : Bend) → degrees (cs ++ (c ∷ [])) ≡ degrees cs + degree c.key
degrees-snoc [] c = omega arith
degrees-snoc (d ∷ cs) c = let h = degrees-snoc cs c in omega (arith, h)

pub degrees-reverse : (cs : List Bend) → degrees (reverse cs) ≡ degrees cs
degrees-reverse [] = refl
degrees-reverse (c ∷ cs) = ap degrees (reverse-cons c cs) ∙ degrees-snoc (reverse cs) c ∙ (let h = degrees-reverse cs in omega (arith, h))

pub last-end : (x : Exp) (cs : List Bend) → last (end_exp x cs) (reverse cs) ≡ x
last-end x [] = refl
last-end x (c ∷ cs) =
    ap (last (end_exp (exp_add x c.key.exp) cs)) (reverse-cons c cs) ∙ last-snoc (end_exp (exp_add x c.key.exp) cs) (reverse cs) c
    ∙ ap (λ e. exp_sub e c.key.exp) (last-end (exp_add x c.key.exp) cs) ∙ add-sub x c.key.exp

module _ (ws : List Wall) (n : ℕ) (m : Exp) where
  pub traced-snoc : (p : Point) (x : Exp) (used : ℕ) (cs : List Bend) (c : Bend) → IsTraced ws n m p x used cs → Extends ws n (last_point p cs) (last x cs) c
      → IsInReach ws n m (exp_sub (last x cs) c.key.exp) (used + degrees cs + degree c.key) → IsTraced ws n m p x used (cs ++ (c ∷ []))
  traced-snoc p x used [] c h e r = (h, e, (r.0, omega (arith, r.1), r.2))
  traced-snoc p x used (d ∷ cs) c h e r =
      (h.0, h.1, traced-snoc d.at (exp_sub x d.key.exp) (used + degree d.key) cs c h.2 e (r.0, omega (arith, r.1), r.2))

  pub traced-front : (p : Point) (x : Exp) (used : ℕ) (cs : List Bend) (c : Bend) → IsTraced ws n m p x used (cs ++ (c ∷ [])) → IsTraced ws n m p x used cs
  traced-front p x used [] c h = h.0
  traced-front p x used (d ∷ cs) c h = (h.0, h.1, traced-front d.at (exp_sub x d.key.exp) (used + degree d.key) cs c h.2)

  pub traced-last : (p : Point) (x : Exp) (used : ℕ) (cs : List Bend) (c : Bend) → IsTraced ws n m p x used (cs ++ (c ∷ [])) → Extends ws n (last_point p cs) (last x cs) c
  traced-last p x used [] c h = h.1
  traced-last p x used (d ∷ cs) c h = traced-last d.at (exp_sub x d.key.exp) (used + degree d.key) cs c h.2

  pub traced-used : (p : Point) (x : Exp) (used : ℕ) (cs : List Bend) → IsTraced ws n m p x used cs → used + degrees cs ≤ n
  traced-used p x used [] h = let k = h.1 in omega (arith, k)
  traced-used p x used (c ∷ cs) h = let k = traced-used c.at (exp_sub x c.key.exp) (used + degree c.key) cs h.2 in omega (arith, k)

  pub traced-point : (p : Point) (x : Exp) (used : ℕ) (cs : List Bend) → IsPoint p → IsTraced ws n m p x used cs → IsPoint (last_point p cs)
  traced-point p x used [] i h = i
  traced-point p x used (c ∷ cs) i h = traced-point c.at (exp_sub x c.key.exp) (used + degree c.key) cs h.1.bend.point h.2
