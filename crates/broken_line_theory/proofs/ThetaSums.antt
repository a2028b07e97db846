-- The theta as a sum over tails: no coefficient exceeds the weight of all tails, and no degree the limit.
use Rattle.std.proofs.Common.{◌≡◌, ℕ, refl, sym, ap, subst, ◌∙◌, ◌+◌, ◌≤◌, arith, Bool, true, false, List, [], ◌∷◌, map}
use Rattle.std.specs.Prelude.{ℤ, ◌+ℤ◌, nat_abs, filter}
use Rattle.std.proofs.lemmas.Int.{ints}
use Rattle.scattering.specs.Collections.{Every}
use Rattle.scattering.specs.Series.{Exp, Key, Sum, Term, exp_sub, key_eq, coef, degree, total}
use Rattle.scattering.specs.Plane.{Point}
use Rattle.scattering.specs.Wall.{Wall, IsWall}
use Rattle.scattering.specs.BrokenLine.{Bend, degrees, value}
use Rattle.scattering.specs.Tail.{Tail, IsTail, last, is_complete, tail_weight}
use Rattle.scattering.specs.Theta.{weights}
use Rattle.scattering.proofs.Keys.{exp_eq-same}
use Rattle.broken_line_theory.specs.TailValue.{tail_value}
use Rattle.broken_line_theory.proofs.Bends.{cut-walls-tame}
use Rattle.broken_line_theory.proofs.TailValues.{complete-value}
use Rattle.broken_line_theory.proofs.LeadingMonomial.{total-add}
use Rattle.broken_line_theory.proofs.ThetaOfTails.{forwards}
use Rattle.broken_line_theory.proofs.TracedBends.{traced-used}
use Rattle.broken_line_theory.proofs.BendValues.{tail-light}

abs-sum : (x y : ℤ) (a b : ℕ) → nat_abs x ≤ a → nat_abs y ≤ b → nat_abs (x +ℤ y) ≤ a + b
abs-sum x y a b h k = omega (arith, ints, h, k)

-- the degree of a tail's value is that of its bends
pub value-degree : (ws : List Wall) (n : ℕ) (x : Exp) (cs : List Bend) → total (tail_value ws n x cs).0 ≡ degrees cs
value-degree ws n x [] = refl
value-degree ws n x (c ∷ cs) =
    total-add c.key.powers (tail_value ws n (exp_sub x c.key.exp) cs).0 ∙ ap (λ k. degree c.key + k) (value-degree ws n (exp_sub x c.key.exp) cs)

module _ (ws : List Wall) (n k : ℕ) (m : Exp) (q : Point) (walls : Every (IsWall k) ws) where
  abbrev pub line_value : Tail → Term
  line_value t = value ws n m (forwards t)

  -- as the program computes it: from the root on
  pub line-value : (t : Tail) → IsTail ws n m q t → is_complete m t ≡ true
      → line_value t ≡ (record { powers = (tail_value ws n t.root t.bends).0; exp = t.root }, (tail_value ws n t.root t.bends).1)
  line-value t h e = complete-value ws n m (cut-walls-tame n k ws walls) q t h (exp_eq-same (last t.root t.bends) m e)

  value-low : (t : Tail) → IsTail ws n m q t → is_complete m t ≡ true → degree (line_value t).0 ≤ n
  value-low t h e =
      let u = traced-used ws n m q t.root 0 t.bends h.traced in
      let d = ap (λ (s : Term). degree s.0) (line-value t h e) in
      let v = value-degree ws n t.root t.bends in
      omega (arith, u, d, v)

  pub value-small : (t : Tail) → IsTail ws n m q t → is_complete m t ≡ true → nat_abs (line_value t).1 ≤ tail_weight ws n t.root t.bends
  value-small t h e =
      subst (λ (s : Term). nat_abs s.1 ≤ tail_weight ws n t.root t.bends) (sym (line-value t h e)) (tail-light ws n m q t.root 0 t.bends h.traced)

  abbrev pub line_values : List Tail → Sum
  line_values ts = map (value ws n m) (map forwards (filter (is_complete m) ts))

  pub values-low : (ts : List Tail) → Every (IsTail ws n m q) ts → Every (λ t. degree t.0 ≤ n) (line_values ts)
  values-low [] h = tt
  values-low (t ∷ ts) h = go (values-low ts h.1) (is_complete m t) refl
    where
      go : Every (λ t. degree t.0 ≤ n) (line_values ts) → (b : Bool) → is_complete m t ≡ b → Every (λ t. degree t.0 ≤ n) (line_values (t ∷ ts))
      go r true e = rw e (value-low t h.0 e, r)
      go r false e = rw e r

  coef-added : (t : Term) (s : Sum) (x : Key) (a b : ℕ) → nat_abs t.1 ≤ a → nat_abs (coef s x) ≤ b → nat_abs (coef (t ∷ s) x) ≤ a + b
  coef-added t s x a b h r = go (key_eq t.0 x) refl
    where
      go : (c : Bool) → key_eq t.0 x ≡ c → nat_abs (coef (t ∷ s) x) ≤ a + b
      go true e = rw e (abs-sum t.1 (coef s x) a b h r)
      go false e = rw e (omega (arith, ints, r))

  -- no coefficient exceeds the sum of the weights
  pub values-small : (ts : List Tail) (x : Key) → Every (IsTail ws n m q) ts → nat_abs (coef (line_values ts) x) ≤ weights ws n ts
  values-small [] x h = omega arith
  values-small (t ∷ ts) x h = go (values-small ts x h.1) (is_complete m t) refl
    where
      go : nat_abs (coef (line_values ts) x) ≤ weights ws n ts → (b : Bool) → is_complete m t ≡ b → nat_abs (coef (line_values (t ∷ ts)) x) ≤ weights ws n (t ∷ ts)
      go r true e = rw e (coef-added (line_value t) (line_values ts) x (tail_weight ws n t.root t.bends) (weights ws n ts) (value-small t h.0 e) r)
      go r false e = rw e (omega (arith, r))
