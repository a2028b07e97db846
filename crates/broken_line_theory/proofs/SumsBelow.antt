-- How many tails there are below a node, and the sums of their weights and values, from those below the next bends.
use Rattle.std.proofs.Common.{◌≡◌, ℕ, suc, refl, ap, ◌∙◌, ◌+◌, ◌*◌, arith, Bool, true, false, List, [], ◌∷◌, ◌++◌, length, map}
use Rattle.std.specs.Prelude.{◌*ℤ◌, flat_map, cond}
use Rattle.std.proofs.lemmas.List.{length-append}
use Rattle.scattering.specs.Series.{Exp, Sum, origin, exp_eq, exp_sub, powers_add, coef, one, mass_to, degree}
use Rattle.scattering.specs.Wall.{Wall, cut_walls}
use Rattle.scattering.specs.BrokenLine.{Bend, bend_series, bend_majorant}
use Rattle.scattering.specs.Tail.{last, tail_weight}
use Rattle.broken_line_theory.specs.TailValue.{tail_value, values_below, weights_below, Parts, all_below, sum_each}

-- ---- how many

length-map : {A B : Type 0} (f : A → B) (xs : List A) → length (map f xs) ≡ length xs
length-map f [] = refl
length-map f (x ∷ xs) = ap suc (length-map f xs)

pub length-below : (ps : Parts) → length (all_below ps) ≡ suc (sum_each (λ p. length p.1) ps)
length-below ps = ap suc (go ps)
  where
    go : (ps : Parts) → length (flat_map (λ p. map (λ ds. p.0 ∷ ds) p.1) ps) ≡ sum_each (λ p. length p.1) ps
    go [] = refl
    go (p ∷ ps) =
        length-append (map (λ ds. p.0 ∷ ds) p.1) (flat_map (λ p. map (λ ds. p.0 ∷ ds) p.1) ps)
        ∙ ap (λ k. k + length (flat_map (λ p. map (λ ds. p.0 ∷ ds) p.1) ps)) (length-map (λ ds. p.0 ∷ ds) p.1)
        ∙ ap (λ k. length p.1 + k) (go ps)

module _ (ws : List Wall) (b : ℕ) where
  -- ---- weights

  weights-append : (x : Exp) (ks ls : List (List Bend)) → weights_below ws b x (ks ++ ls) ≡ weights_below ws b x ks + weights_below ws b x ls
  weights-append x [] ls = omega arith
  weights-append x (cs ∷ ks) ls = let h = weights-append x ks ls in omega (arith, h)

  -- the weight of one bend
  abbrev pub mass_of : Exp → Bend → ℕ
  mass_of x c = mass_to (degree c.key) (bend_majorant b (cut_walls b ws) c.at x)

  weights-after : (x : Exp) (c : Bend) (ls : List (List Bend)) → weights_below ws b x (map (λ ds. c ∷ ds) ls) ≡ mass_of x c * weights_below ws b (exp_sub x c.key.exp) ls
  weights-after x c [] = nothing (mass_of x c)
    where
      nothing : (n : ℕ) → 0 ≡ n * 0
      nothing n = grind arith
  weights-after x c (ds ∷ ls) =
      ap (λ k. mass_of x c * tail_weight ws b (exp_sub x c.key.exp) ds + k) (weights-after x c ls)
      ∙ spread (mass_of x c) (tail_weight ws b (exp_sub x c.key.exp) ds) (weights_below ws b (exp_sub x c.key.exp) ls)
    where
      spread : (n i j : ℕ) → n * i + n * j ≡ n * (i + j)
      spread n i j = grind arith

  pub weights-sum : (x : Exp) (ps : Parts) → weights_below ws b x (all_below ps) ≡ 1 + sum_each (λ p. mass_of x p.0 * weights_below ws b (exp_sub x p.0.key.exp) p.1) ps
  weights-sum x ps = ap (λ k. 1 + k) (go ps)
    where
      go : (ps : Parts) → weights_below ws b x (flat_map (λ p. map (λ ds. p.0 ∷ ds) p.1) ps) ≡ sum_each (λ p. mass_of x p.0 * weights_below ws b (exp_sub x p.0.key.exp) p.1) ps
      go [] = refl
      go (p ∷ ps) =
          weights-append x (map (λ ds. p.0 ∷ ds) p.1) (flat_map (λ p. map (λ ds. p.0 ∷ ds) p.1) ps)
          ∙ ap (λ k. k + weights_below ws b x (flat_map (λ p. map (λ ds. p.0 ∷ ds) p.1) ps)) (weights-after x p.0 p.1)
          ∙ ap (λ k. mass_of x p.0 * weights_below ws b (exp_sub x p.0.key.exp) p.1 + k) (go ps)

  -- ---- values

  -- a bend before what follows on it
  abbrev pub bent : Exp → Bend → Sum → Sum
  bent x c s = map (λ t. (record { powers = powers_add c.key.powers t.0.powers; exp = origin }, coef (bend_series b (cut_walls b ws) c.at x) c.key *ℤ t.1)) s

  module _ (m : Exp) where
    values-append : (x : Exp) (ks ls : List (List Bend)) → values_below ws b m x (ks ++ ls) ≡ values_below ws b m x ks ++ values_below ws b m x ls
    values-append x [] ls = refl
    values-append x (cs ∷ ks) ls = go (values-append x ks ls) (exp_eq (last x cs) m) refl
      where
        go : values_below ws b m x (ks ++ ls) ≡ values_below ws b m x ks ++ values_below ws b m x ls → (d : Bool) → exp_eq (last x cs) m ≡ d → values_below ws b m x ((cs ∷ ks) ++ ls) ≡ values_below ws b m x (cs ∷ ks) ++ values_below ws b m x ls
        go h true e = rw e (ap (λ s. (record { powers = (tail_value ws b x cs).0; exp = origin }, (tail_value ws b x cs).1) ∷ s) h)
        go h false e = rw e h

    values-after : (x : Exp) (c : Bend) (ls : List (List Bend)) → values_below ws b m x (map (λ ds. c ∷ ds) ls) ≡ bent x c (values_below ws b m (exp_sub x c.key.exp) ls)
    values-after x c [] = refl
    values-after x c (ds ∷ ls) = go (values-after x c ls) (exp_eq (last (exp_sub x c.key.exp) ds) m) refl
      where
        go : values_below ws b m x (map (λ ds. c ∷ ds) ls) ≡ bent x c (values_below ws b m (exp_sub x c.key.exp) ls) → (d : Bool) → exp_eq (last (exp_sub x c.key.exp) ds) m ≡ d → values_below ws b m x (map (λ ds. c ∷ ds) (ds ∷ ls)) ≡ bent x c (values_below ws b m (exp_sub x c.key.exp) (ds ∷ ls))
        go h true e =
            rw e (ap (λ s. (
              record { powers = powers_add c.key.powers (tail_value ws b (exp_sub x c.key.exp) ds).0; exp = origin },
              coef (bend_series b (cut_walls b ws) c.at x) c.key *ℤ (tail_value ws b (exp_sub x c.key.exp) ds).1,
            ) ∷ s) h)
        go h false e = rw e h

    pub values-sum : (x : Exp) (ps : Parts)
        → values_below ws b m x (all_below ps) ≡ cond (exp_eq x m) one [] ++ flat_map (λ p. bent x p.0 (values_below ws b m (exp_sub x p.0.key.exp) p.1)) ps
    values-sum x ps = first (exp_eq x m) refl
      where
        go : (ps : Parts) → values_below ws b m x (flat_map (λ p. map (λ ds. p.0 ∷ ds) p.1) ps) ≡ flat_map (λ p. bent x p.0 (values_below ws b m (exp_sub x p.0.key.exp) p.1)) ps
        go [] = refl
        go (p ∷ ps) =
            values-append x (map (λ ds. p.0 ∷ ds) p.1) (flat_map (λ p. map (λ ds. p.0 ∷ ds) p.1) ps)
            ∙ ap (λ s. s ++ values_below ws b m x (flat_map (λ p. map (λ ds. p.0 ∷ ds) p.1) ps)) (values-after x p.0 p.1)
            ∙ ap (λ s. bent x p.0 (values_below ws b m (exp_sub x p.0.key.exp) p.1) ++ s) (go ps)

        first : (d : Bool) → exp_eq x m ≡ d → values_below ws b m x (all_below ps) ≡ cond (exp_eq x m) one [] ++ flat_map (λ p. bent x p.0 (values_below ws b m (exp_sub x p.0.key.exp) p.1)) ps
        first true e = rw e (ap (λ s. one ++ s) (go ps))
        first false e = rw e (go ps)
