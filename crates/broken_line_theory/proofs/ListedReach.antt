-- The exponents in reach are listed, and whether one is in reach is decided.
use Rattle.std.proofs.Common.{◌≡◌, ℕ, refl, sym, ap, ◌∙◌, ◌+◌, ◌≤◌, arith, List, [], ◌∷◌, length}
use Rattle.std.proofs.lemmas.Int.{ints}
use native.Mathlib.Decide.{dec_le}
use Rattle.scattering.specs.Collections.{In, Every, Lists}
use Rattle.scattering.specs.Series.{Exp, exp_eq, Term, exp_add, exp_sub, rest}
use Rattle.scattering.specs.Wall.{Wall, cut_walls}
use Rattle.scattering.specs.Tail.{exp_sum, degree_sum, IsWallTerm, ReachTo, IsInReach}
use Rattle.scattering.proofs.Keys.{same-exp, exp_eq-same, exp_eq-refl}
use Rattle.broken_line_theory.proofs.Bends.{IsTame}
use Rattle.broken_line_theory.proofs.Reach.{term-degree}
use Rattle.broken_line_theory.proofs.TracedBends.{sub-add}
use Rattle.broken_line_theory.proofs.Listings.{Listing, both, decided-as, elements, listed-as, choose, some-or-none, lists-once, images, joins, lists-to, tested}

pub same-exps : (u v : Exp) → Dec (u ≡ v)
same-exps = tested exp_eq exp_eq-same exp_eq-refl

-- the terms of walls
pub wall-terms : (ws : List Wall) → Listing (IsWallTerm ws)
wall-terms ws = joins (λ w. In w ws) (λ w t. In t (rest w.function)) (λ w i. elements (rest w.function)) (elements ws)

-- terms of walls whose degrees sum to at most n
abbrev pub AreTermsTo : ℕ → List Wall → List Term → Type 0
AreTermsTo n ws ts = Every (IsWallTerm ws) ts × (degree_sum ts ≤ n)

module _ (ws : List Wall) (tame : Every IsTame ws) where
  -- each term has a degree of at least 1
  degrees-length : (ts : List Term) → Every (IsWallTerm ws) ts → length ts ≤ degree_sum ts
  degrees-length [] h = omega arith
  degrees-length (t ∷ ts) h = let d = term-degree ws tame t h.0 in let l = degrees-length ts h.1 in omega (arith, d, l)

  -- the lists of terms whose degrees sum to at most n
  pub term-lists : (n : ℕ) → Listing (AreTermsTo n ws)
  term-lists n =
      listed-as (λ ts. (Every (IsWallTerm ws) ts × (length ts ≤ n)) × (degree_sum ts ≤ n)) (AreTermsTo n ws)
      (λ ts h. (h.0.0, h.1))
      (λ ts h. ((h.0, (let l = degrees-length ts h.0 in let k = h.1 in omega (arith, l, k))), h.1))
      (choose (λ ts. Every (IsWallTerm ws) ts × (length ts ≤ n)) (λ ts. degree_sum ts ≤ n) (λ ts h. dec_le (degree_sum ts) n) (lists-to (IsWallTerm ws) (wall-terms ws) n))

module _ (ws : List Wall) (n : ℕ) (tame : Every IsTame (cut_walls n ws)) where
  -- all exponents in reach, each once
  pub reach-listed : (ds : List Exp) × Lists (λ d. ReachTo ws n d n) ds
  reach-listed =
      lists-once same-exps (λ d. ReachTo ws n d n)
      (listed-as (λ d. (ts : List Term) × AreTermsTo n (cut_walls n ws) ts × (d ≡ exp_sum ts)) (λ d. ReachTo ws n d n)
      (λ d h. (degree_sum h.0, h.1.1, (h.0, h.1.0, sym h.2, refl)))
      (λ d h. (h.2.0, (h.2.1, (let l = h.1 in let e = h.2.3 in omega (arith, l, e))), sym h.2.2))
      (images (AreTermsTo n (cut_walls n ws)) exp_sum (term-lists (cut_walls n ws) tame n)))

  -- whether m is in reach
  pub in-reach-or-not : (m x : Exp) (used : ℕ) → Dec (IsInReach ws n m x used)
  in-reach-or-not m x used =
      decided-as ((ts : List Term) × (AreTermsTo n (cut_walls n ws) ts × ((used + degree_sum ts ≤ n) × (exp_sum ts ≡ exp_sub x m)))) (IsInReach ws n m x used)
      (λ h. (degree_sum h.0, h.1.1.0, (h.0, h.1.0.0, h.1.1.1, refl)))
      (λ h. (h.2.0, ((h.2.1, (let l = h.1 in let e = h.2.3 in omega (arith, l, e))), ((let l = h.1 in let e = h.2.3 in omega (arith, l, e)), h.2.2))))
      (some-or-none (λ ts. AreTermsTo n (cut_walls n ws) ts × ((used + degree_sum ts ≤ n) × (exp_sum ts ≡ exp_sub x m)))
      (choose (AreTermsTo n (cut_walls n ws)) (λ ts. (used + degree_sum ts ≤ n) × (exp_sum ts ≡ exp_sub x m))
      (λ ts h. both (dec_le (used + degree_sum ts) n) (same-exps (exp_sum ts) (exp_sub x m))) (term-lists (cut_walls n ws) tame n)))

  -- the roots from which m is in reach
  pub roots : (m : Exp) → Listing (λ x. IsInReach ws n m x 0)
  roots m =
      listed-as (λ x. (ts : List Term) × AreTermsTo n (cut_walls n ws) ts × (x ≡ exp_add (exp_sum ts) m)) (λ x. IsInReach ws n m x 0)
      (λ x h. (degree_sum h.0, (let l = h.1.1 in omega (arith, l)), (h.0, h.1.0, apart x (exp_sum h.0) m h.2, refl)))
      (λ x h. (h.2.0, (h.2.1, (let l = h.1 in let e = h.2.3 in omega (arith, l, e))), sym (sub-add x m) ∙ ap (λ e. exp_add e m) (sym h.2.2)))
      (images (AreTermsTo n (cut_walls n ws)) (λ ts. exp_add (exp_sum ts) m) (term-lists (cut_walls n ws) tame n))
    where
      apart : (x y m : Exp) → x ≡ exp_add y m → y ≡ exp_sub x m
      apart x y m e = same-exp _ _ (let p = ap (λ (u : Exp). u.a) e in omega (arith, ints, p)) (let p = ap (λ (u : Exp). u.b) e in omega (arith, ints, p))
