-- The value of a complete tail, bend by bend from its root on.
--     tail_value ws b x cs     the powers of t, and the coefficient, of the bends cs that follow on the exponent x
--     values_below ws b m x L  those of the lists of bends that lead on to m, as terms without an exponent
--     weights_below ws b x L   the sum of their weights, whether they lead to m or not
use Rattle.std.specs.Prelude.{ℕ, ◌+◌, flat_map, List, [], ◌∷◌, map, filter, ℤ, pos, ◌*ℤ◌}
use Rattle.scattering.specs.Series.{Exp, Powers, Sum, origin, exp_eq, exp_sub, powers_add, no_powers, coef}
use Rattle.scattering.specs.Wall.{Wall, cut_walls}
use Rattle.scattering.specs.BrokenLine.{Bend, bend_series}
use Rattle.scattering.specs.Tail.{last, tail_weight}

abbrev pub tail_value : List Wall → ℕ → Exp → List Bend → Powers × ℤ
tail_value ws b x [] = (no_powers, pos 1)
tail_value ws b x (c ∷ cs) = (
  powers_add c.key.powers (tail_value ws b (exp_sub x c.key.exp) cs).0,
  coef (bend_series b (cut_walls b ws) c.at x) c.key *ℤ (tail_value ws b (exp_sub x c.key.exp) cs).1,
)

abbrev pub values_below : List Wall → ℕ → Exp → Exp → List (List Bend) → Sum
values_below ws b m x ls =
    map (λ cs. (record { powers = (tail_value ws b x cs).0; exp = origin }, (tail_value ws b x cs).1)) (filter (λ cs. exp_eq (last x cs) m) ls)

-- the sum of the weights of lists of bends that follow on the exponent x
abbrev pub weights_below : List Wall → ℕ → Exp → List (List Bend) → ℕ
weights_below ws b x [] = 0
weights_below ws b x (cs ∷ ls) = tail_weight ws b x cs + weights_below ws b x ls

-- next bends, each with lists of the bends that follow on it
abbrev pub Parts : Type 0
Parts = List (Bend × List (List Bend))

-- no more bends, and each next bend before those that follow on it
abbrev pub all_below : Parts → List (List Bend)
all_below ps = [] ∷ flat_map (λ p. map (λ ds. p.0 ∷ ds) p.1) ps

abbrev pub sum_each : {A : Type 0} → (A → ℕ) → List A → ℕ
sum_each f [] = 0
sum_each f (x ∷ xs) = f x + sum_each f xs
