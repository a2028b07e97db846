-- Reach, degree by degree: how the exponents of one reach come from those of lower ones.
use Rattle.std.proofs.Common.{◌≡◌, ℕ, zero, suc, refl, sym, ap, subst, ◌∙◌, ◌+◌, ◌≤◌, ◌<◌, ◌⊎◌, inl, inr, arith, List, [], ◌∷◌}
use Rattle.std.specs.Prelude.{ℤ, nat_abs, ◌*◌, ◌+ℤ◌}
use Rattle.std.proofs.lemmas.Int.{ints}
use Rattle.scattering.specs.Collections.{In, Every}
use Rattle.scattering.specs.Series.{Exp, Term, origin, exp_add, exp_sub, degree, rest}
use Rattle.scattering.specs.Wall.{Wall}
use Rattle.scattering.specs.Tail.{exp_sum, degree_sum, IsWallTerm, IsReachedBy}
use Rattle.scattering.proofs.Lists.{Every-at}
use Rattle.scattering.proofs.Keys.{same-exp}
use Rattle.broken_line_theory.proofs.Bends.{IsTame, exp-origin, reached-add}

-- ---- sums of exponents

apart : (x y z : Exp) → exp_add y z ≡ x → z ≡ exp_sub x y
apart x y z e = same-exp _ _ (let p = ap (λ (u : Exp). u.a) e in omega (arith, ints, p)) (let p = ap (λ (u : Exp). u.b) e in omega (arith, ints, p))

moved : (x y z g : Exp) → exp_add y z ≡ x → exp_add (exp_sub y g) z ≡ exp_sub x g
moved x y z g e = same-exp _ _ (let p = ap (λ (u : Exp). u.a) e in omega (arith, ints, p)) (let p = ap (λ (u : Exp). u.b) e in omega (arith, ints, p))

back : (x g : Exp) → exp_add g (exp_sub x g) ≡ x
back x g = same-exp _ _ (omega (arith, ints)) (omega (arith, ints))

-- ---- what reaches an exponent

-- x is a sum of exponents of terms whose degrees sum to n, and of none whose degrees sum to less
pub record IsLeastReach (ws : List Wall) (x : Exp) (n : ℕ) : Type 0 where
  pub reached : IsReachedBy ws x n
  pub least : (i : ℕ) → IsReachedBy ws x i → n ≤ i

-- x is one of the steps added to what the rest of the degree reaches
abbrev pub IsGrown : List Wall → List (Exp × ℕ) → Exp → ℕ → Type 0
IsGrown ws steps x n = (s : Exp × ℕ) × (j : ℕ) × In s steps × (s.1 + j ≡ n) × IsReachedBy ws (exp_sub x s.0) j

module _ (ws : List Wall) (tame : Every IsTame ws) where
  pub term-degree : (t : Term) → IsWallTerm ws t → 1 ≤ degree t.0
  term-degree t h = (Every-at _ (rest h.0.function) t (Every-at IsTame ws h.0 tame h.1) h.2).0

  -- what no degree reaches is (0, 0)
  pub nothing : (ts : List Term) → Every (IsWallTerm ws) ts → degree_sum ts ≡ 0 → exp_sum ts ≡ origin
  nothing [] h e = refl
  nothing (t ∷ ts) h e = absurd (let l = term-degree t h.0 in omega (arith, l, e))

  pub reached-term : (t : Term) → IsWallTerm ws t → IsReachedBy ws t.0.exp (degree t.0)
  reached-term t h = (t ∷ [], (h, tt), exp-origin t.0.exp, omega arith)

  -- a first term and the others
  pub record FirstTerm (x : Exp) (n : ℕ) : Type 0 where
    pub term : Term
    pub is : IsWallTerm ws term
    pub others : Exp
    pub left : ℕ
    pub sums : exp_add term.0.exp others ≡ x
    pub degrees : degree term.0 + left ≡ n
    pub reached : IsReachedBy ws others left

  pub first-term : (x : Exp) (n : ℕ) → 1 ≤ n → IsReachedBy ws x n → FirstTerm x n
  first-term x n l ([], h, e, d) = absurd (omega (arith, l, d))
  first-term x n l (t ∷ ts, h, e, d) = record { term = t; is = h.0; others = exp_sum ts; left = degree_sum ts; sums = e; degrees = d; reached = (ts, h.1, refl, refl) }

  -- an exponent of reach n is a step and one of lower reach, or the exponent of a term of degree n, if those of lower reach come from the steps
  pub grows : (steps : List (Exp × ℕ)) (x : Exp) (n : ℕ)
      → Every (λ s. IsReachedBy ws s.0 s.1) steps
      → ((y : Exp) (i : ℕ) → 1 ≤ i → i < n → IsLeastReach ws y i → IsGrown ws steps y i)
      → 1 ≤ n → IsLeastReach ws x n
      → ((s : Exp × ℕ) × (j : ℕ) × In s steps × (s.1 + j ≡ n) × IsLeastReach ws (exp_sub x s.0) j) ⊎ ((t : Term) × IsWallTerm ws t × (t.0.exp ≡ x) × (degree t.0 ≡ n))
  grows steps x n each lower l h = go f.left refl
    where
      f : FirstTerm x n
      f = first-term x n l h.reached

      -- the term's exponent is reached by no less than its degree
      alone : IsLeastReach ws f.term.0.exp (degree f.term.0)
      alone = record {
        reached = reached-term f.term f.is;
        least = λ i r. let a = h.least (i + f.left) (subst (λ (y : Exp). IsReachedBy ws y (i + f.left)) f.sums (reached-add ws f.term.0.exp f.others i f.left r f.reached)) in let d = f.degrees in omega (arith, a, d);
      }

      go : (left : ℕ) → f.left ≡ left
          → ((s : Exp × ℕ) × (j : ℕ) × In s steps × (s.1 + j ≡ n) × IsLeastReach ws (exp_sub x s.0) j) ⊎ ((t : Term) × IsWallTerm ws t × (t.0.exp ≡ x) × (degree t.0 ≡ n))
      go zero e = inr (f.term, f.is, sym (exp-origin f.term.0.exp) ∙ ap (exp_add f.term.0.exp) (sym none) ∙ f.sums, (let d = f.degrees in omega (arith, d, e)))
        where
          none : f.others ≡ origin
          none = let r = f.reached in sym r.2 ∙ nothing r.0 r.1 (r.3 ∙ e)
      go (suc left) e =
          let d = f.degrees in
          let g = lower f.term.0.exp (degree f.term.0) (term-degree f.term f.is) (omega (arith, d, e)) alone in
          let step = g.0 in
          let c = g.3 in
          let r : IsReachedBy ws (exp_sub x step.0) (g.1 + f.left) = subst (λ (y : Exp). IsReachedBy ws y (g.1 + f.left)) (moved x f.term.0.exp f.others step.0 f.sums) (reached-add ws (exp_sub f.term.0.exp step.0) f.others g.1 f.left g.4 f.reached) in
          inl (step, g.1 + f.left, g.2, omega (arith, c, d), record { reached = r; least = λ i k. below step i (Every-at (λ s. IsReachedBy ws s.0 s.1) steps step each g.2) (omega (arith, c, d)) k })
        where
          below : (s : Exp × ℕ) (i : ℕ) → IsReachedBy ws s.0 s.1 → {j : ℕ} → s.1 + j ≡ n → IsReachedBy ws (exp_sub x s.0) i → j ≤ i
          below s i r c k = let a = h.least (s.1 + i) (subst (λ (y : Exp). IsReachedBy ws y (s.1 + i)) (back x s.0) (reached-add ws s.0 (exp_sub x s.0) s.1 i r k)) in omega (arith, a, c)

-- ---- how far terms reach

-- no number of an exponent is above c for each degree of its term
abbrev pub AreTermsWithin : ℕ → List Wall → Type 0
AreTermsWithin c ws = (t : Term) → IsWallTerm ws t → (nat_abs t.0.exp.a ≤ c * degree t.0) × (nat_abs t.0.exp.b ≤ c * degree t.0)

pub sum-within : (ws : List Wall) (c : ℕ) → AreTermsWithin c ws → (ts : List Term) → Every (IsWallTerm ws) ts → (nat_abs (exp_sum ts).a ≤ c * degree_sum ts) × (nat_abs (exp_sum ts).b ≤ c * degree_sum ts)
sum-within ws c w [] h = (omega (arith, ints), omega (arith, ints))
sum-within ws c w (t ∷ ts) h =
    let p = w t h.0 in
    let q = sum-within ws c w ts h.1 in
    (both t.0.exp.a (exp_sum ts).a (degree t.0) (degree_sum ts) p.0 q.0, both t.0.exp.b (exp_sum ts).b (degree t.0) (degree_sum ts) p.1 q.1)
  where
    nat-distrib : (c d e : ℕ) → c * (d + e) ≡ c * d + c * e
    nat-distrib c d e = grind arith

    both : (u v : ℤ) (d e : ℕ) → nat_abs u ≤ c * d → nat_abs v ≤ c * e → nat_abs (u +ℤ v) ≤ c * (d + e)
    both u v d e p q = let s = nat-distrib c d e in omega (arith, ints, p, q, s)

pub reached-within : (ws : List Wall) (c : ℕ) → AreTermsWithin c ws → (x : Exp) (n : ℕ) → IsReachedBy ws x n → (nat_abs x.a ≤ c * n) × (nat_abs x.b ≤ c * n)
reached-within ws c w x n r =
    let h = sum-within ws c w r.0 r.1 in
    (subst (λ (i : ℕ). nat_abs x.a ≤ c * i) r.3 (subst (λ (y : Exp). nat_abs y.a ≤ c * degree_sum r.0) r.2 h.0), subst (λ (i : ℕ). nat_abs x.b ≤ c * i) r.3 (subst (λ (y : Exp). nat_abs y.b ≤ c * degree_sum r.0) r.2 h.1))
