-- How far the exponents of a theta are from the one that was asked for.
use Rattle.std.proofs.Common.{◌≡◌, ◌≢◌, ℕ, refl, sym, ap, subst, ◌∙◌, ◌+◌, ◌*◌, ◌≤◌, arith, Bool, true, false, List, [], ◌∷◌}
use Rattle.std.specs.Prelude.{ℤ, pos, ◌-ℤ◌, nat_abs, None}
use Rattle.std.proofs.lemmas.Int.{ints}
use Rattle.scattering.specs.Collections.{Every}
use Rattle.scattering.specs.Series.{Exp, Key, Term, Sum, origin, one, unit, exp_eq, exp_sub, degree, coef, key_eq}
use Rattle.scattering.specs.Plane.{Point, IsPoint}
use Rattle.scattering.specs.Wall.{Wall, IsWall, cut_walls}
use Rattle.scattering.specs.BrokenLine.{Bend, degrees}
use Rattle.scattering.specs.Tail.{IsTraced, Tail, IsTail, last, is_complete}
use Rattle.scattering.specs.Theta.{IsAskFault, IsTheta}
use Rattle.scattering.proofs.Determined.{coef-find}
use Rattle.scattering.proofs.Keys.{exp_eq-same, key_eq-same}
use Rattle.scattering.proofs.Lists.{Every-at}
use Rattle.broken_line_theory.specs.Laws.{ThetaStaysNear}
use Rattle.broken_line_theory.proofs.Bends.{bend-reached, cut-walls-tame}
use Rattle.broken_line_theory.proofs.Crossings.{wall-points}
use Rattle.broken_line_theory.proofs.LeadingMonomial.{theta-unique}
use Rattle.broken_line_theory.proofs.ListedTails.{tails-listed}
use Rattle.broken_line_theory.proofs.Reach.{AreTermsWithin, reached-within}
use Rattle.broken_line_theory.proofs.ThetaOfTails.{theta-of-tails}
use Rattle.broken_line_theory.proofs.ThetaSums.{line_value, line_values, line-value, value-degree}

-- an exponent is at most c for each degree from m
abbrev pub IsNearby : ℕ → Exp → Exp → ℕ → Type 0
IsNearby c m x d = (nat_abs (x.a -ℤ m.a) ≤ c * d) × (nat_abs (x.b -ℤ m.b) ≤ c * d)

nearby-self : (c : ℕ) (m : Exp) (d : ℕ) → IsNearby c m m d
nearby-self c m d = (omega (arith, ints), omega (arith, ints))

module _ (ws : List Wall) (n k : ℕ) (m : Exp) (q : Point) (walls : Every (IsWall k) ws) (point : IsPoint q) (c : ℕ) (within : AreTermsWithin c (cut_walls n ws)) where
  farther : (x e m : ℤ) (d i : ℕ) → nat_abs ((x -ℤ e) -ℤ m) ≤ c * i → nat_abs e ≤ c * d → nat_abs (x -ℤ m) ≤ c * (d + i)
  farther x e m d i h g = let s = spread d i in omega (arith, ints, h, g, s)
    where
      spread : (d i : ℕ) → c * (d + i) ≡ c * d + c * i
      spread d i = grind arith

  traced-within : (p : Point) (x : Exp) (used : ℕ) (cs : List Bend) → IsTraced ws n m p x used cs → last x cs ≡ m → IsNearby c m x (degrees cs)
  traced-within p x used [] h e = subst (λ (y : Exp). IsNearby c y x 0) e (nearby-self c x 0)
  traced-within p x used (b ∷ cs) h e =
      let r = reached-within (cut_walls n ws) c within b.key.exp (degree b.key) (bend-reached n (cut_walls n ws) b.at x b.key h.1.bend.key) in
      let f = traced-within b.at (exp_sub x b.key.exp) (used + degree b.key) cs h.2 e in
      (farther x.a b.key.exp.a m.a (degree b.key) (degrees cs) f.0 r.0, farther x.b b.key.exp.b m.b (degree b.key) (degrees cs) f.1 r.1)

  values-within : (ts : List Tail) → Every (IsTail ws n m q) ts → Every (λ t. IsNearby c m t.0.exp (degree t.0)) (line_values ws n k m q walls ts)
  values-within [] h = tt
  values-within (t ∷ ts) h = go (values-within ts h.1) (is_complete m t) refl
    where
      value-within : is_complete m t ≡ true → IsNearby c m (line_value ws n k m q walls t).0.exp (degree (line_value ws n k m q walls t).0)
      value-within e =
          let v = traced-within q t.root 0 t.bends h.0.traced (exp_eq-same (last t.root t.bends) m e) in
          let d = value-degree ws n t.root t.bends in
          subst (λ (u : Term). IsNearby c m u.0.exp (degree u.0)) (sym (line-value ws n k m q walls t h.0 e)) (subst (λ (i : ℕ). IsNearby c m t.root i) (sym d) v)

      go : Every (λ t. IsNearby c m t.0.exp (degree t.0)) (line_values ws n k m q walls ts) → (b : Bool) → is_complete m t ≡ b
          → Every (λ t. IsNearby c m t.0.exp (degree t.0)) (line_values ws n k m q walls (t ∷ ts))
      go r true e = rw e (value-within e, r)
      go r false e = rw e r

  -- no number of an exponent of the theta is farther from m's than c for each degree
  pub theta-within : (s : Sum) → IsAskFault ws n m q None → IsTheta ws n m q s → (x : Key) → coef s x ≢ pos 0 → IsNearby c m x.exp (degree x)
  theta-within s free theta x ne = go (exp_eq m origin) refl
    where
      only-unit : (b : Bool) → key_eq unit x ≡ b → coef one x ≢ pos 0 → IsNearby c origin x.exp (degree x)
      only-unit true e n = unit-within (grind-exp e)
        where
          grind-exp : key_eq unit x ≡ true → origin ≡ x.exp
          grind-exp f = ap (λ (y : Key). y.exp) (key_eq-same unit x f)

          unit-within : origin ≡ x.exp → IsNearby c origin x.exp (degree x)
          unit-within f = subst (λ (y : Exp). IsNearby c origin y (degree x)) f (nearby-self c origin (degree x))
      only-unit false e n = absurd (n (rw e refl))

      go : (b : Bool) → exp_eq m origin ≡ b → IsNearby c m x.exp (degree x)
      go true e =
          let same = rw e at theta in
          subst (λ (y : Exp). IsNearby c y x.exp (degree x)) (sym (exp_eq-same m origin e)) (only-unit (key_eq unit x) refl (λ z. ne (same x ∙ z)))
      go false e =
          let ts = tails-listed ws n m (cut-walls-tame n k ws walls) (wall-points n k ws walls) q point in
          let same = theta-unique ws n m q s (line_values ws n k m q walls ts.0) theta (theta-of-tails ws n k m q walls point free ts.0 e ts.1) in
          let t = coef-find (line_values ws n k m q walls ts.0) x (λ z. ne (same x ∙ z)) in
          subst (λ (y : Key). IsNearby c m y.exp (degree y)) t.2 (Every-at (λ (t : Term). IsNearby c m t.0.exp (degree t.0)) (line_values ws n k m q walls ts.0) t.0 (values-within ts.0 ts.1.each) t.1)

pub theta-stays-near : ThetaStaysNear
theta-stays-near ws n k c m q s walls point within free theta x ne = theta-within ws n k m q walls point c within s free theta x ne
