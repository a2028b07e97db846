-- What the map of reach tells of the exponents of tails.
use Rattle.std.proofs.Common.{◌≡◌, ℕ, refl, sym, ap, subst, ◌∙◌, ◌+◌, ◌≤◌, arith, true, List, map, length}
use Rattle.std.specs.Prelude.{Option, Some, None, ℤ, nat_abs, nat_le, ◌-ℤ◌}
use Rattle.std.proofs.lemmas.Int.{ints}
use Rattle.std.proofs.lemmas.List.{length-map}
use Rattle.std.specs.BTreeMap.{BTreeMap, get}
use Rattle.limits.specs.Limits.{exponent_per_degree, highest_order, most_reached}
use Rattle.scattering.specs.Collections.{In, Every, AtMost}
use Rattle.scattering.specs.Series.{Exp, exp_sub}
use Rattle.scattering.specs.Wall.{Wall, cut_walls}
use Rattle.scattering.specs.Tail.{IsReachedBy, ReachTo, IsInReach}
use Rattle.scattering.proofs.Lists.{In-mapped, Every-at}
use Rattle.trunc_series.specs.Shown.{exp_of}
use Rattle.trunc_series.specs.declared.key.Exp.{Exp as CodeExp}
use Rattle.scatter_diagram.specs.Proper.{AreTameWalls, IsTame as IsTameTerm}
use Rattle.broken_line_theory.proofs.Reach.{AreTermsWithin, reached-within}
use Rattle.broken_lines.specs.declared.node.Ask.{Ask}
use Rattle.broken_lines.specs.Growth.{exp_cmp}
use Rattle.broken_lines.specs.Reached.{IsReachMap}
use Rattle.broken_lines.specs.Tracing.{code_exp, within, is_within}
use Rattle.broken_lines.proofs.Levels.{whole-term}

-- ---- the test

-- where the test passes, m is in reach
pub within-reach : (ws : List Wall) (k : Ask) (x : Exp) (used : ℕ) → IsReachMap k.limit ws k.known → is_within k x used ≡ true → IsInReach ws k.limit (exp_of k.m) x used
within-reach ws k x used h e = go (get exp_cmp k.known (code_exp (exp_sub x (exp_of k.m)))) refl e
  where
    low : (n : ℕ) → nat_le (used + n) k.limit ≡ true → used + n ≤ k.limit
    low n t = grind (arith, t)

    go : (o : Option ℕ) → get exp_cmp k.known (code_exp (exp_sub x (exp_of k.m))) ≡ o → within k.limit used o ≡ true → IsInReach ws k.limit (exp_of k.m) x used
    go None f t = absurd (cc)
    go (Some n) f t = (n, low n t, (h.each (code_exp (exp_sub x (exp_of k.m))) n f).0.reached)

-- and the other way round
pub reach-within : (ws : List Wall) (k : Ask) (x : Exp) (used : ℕ) → IsReachMap k.limit ws k.known → IsInReach ws k.limit (exp_of k.m) x used → is_within k x used ≡ true
reach-within ws k x used h r =
    let d = exp_sub x (exp_of k.m) in
    let le = r.1 in
    let a = h.all d (r.0, omega (arith, le), r.2) in
    let has : get exp_cmp k.known (code_exp d) ≡ Some a.1 = ap (λ (y : Exp). get exp_cmp k.known (code_exp y)) (sym a.2) ∙ a.3 in
    let least = (h.each a.0 a.1 a.3).0.least r.0 (subst (λ (y : Exp). IsReachedBy (cut_walls k.limit ws) y r.0) (sym a.2) r.2) in
    ap (within k.limit used) has ∙ low a.1 (omega (arith, le, least))
  where
    low : (n : ℕ) → used + n ≤ k.limit → nat_le (used + n) k.limit ≡ true
    low n l = grind (arith, l)

-- ---- how large exponents are

terms-within : (b : ℕ) (ws : List Wall) → AreTameWalls ws → AreTermsWithin exponent_per_degree (cut_walls b ws)
terms-within b ws tame t i = let w = whole-term b ws t i in Every-at IsTameTerm w.0.function t (Every-at (λ v. Every IsTameTerm v.function) ws w.0 tame w.1) w.2

-- what is reached within degree 24
pub reached-small : (b : ℕ) (ws : List Wall) → AreTameWalls ws → (d : Exp) (n : ℕ) → n ≤ highest_order → IsReachedBy (cut_walls b ws) d n → (nat_abs d.a ≤ 1536) × (nat_abs d.b ≤ 1536)
reached-small b ws tame d n l r =
    let w = reached-within (cut_walls b ws) exponent_per_degree (terms-within b ws tame) d n r in
    let p = w.0 in
    let q = w.1 in
    (omega (arith, p, l), omega (arith, q, l))

-- an exponent from which m is in reach
pub traceable : (b : ℕ) (ws : List Wall) → b ≤ highest_order → AreTameWalls ws → (m x : Exp) (used : ℕ) → (nat_abs m.a ≤ 2048) × (nat_abs m.b ≤ 2048) → IsInReach ws b m x used → (nat_abs x.a ≤ 3584) × (nat_abs x.b ≤ 3584)
traceable b ws low tame m x used small r =
    let le = r.1 in
    let w = reached-small b ws tame (exp_sub x m) r.0 (omega (arith, le, low)) r.2 in
    (sum x.a m.a w.0 small.0, sum x.b m.b w.1 small.1)
  where
    sum : (u v : ℤ) → nat_abs (u -ℤ v) ≤ 1536 → nat_abs v ≤ 2048 → nat_abs u ≤ 3584
    sum u v h k = omega (arith, ints, h, k)

-- ---- few are reached

pub few-reached : (b : ℕ) (ws : List Wall) (known : BTreeMap CodeExp ℕ) (xs : List CodeExp) → ((x : CodeExp) (n : ℕ) → get exp_cmp known x ≡ Some n → In x xs) → length xs ≤ most_reached → IsReachMap b ws known → AtMost most_reached (λ d. ReachTo ws b d b)
few-reached b ws known xs listed few h =
    (map exp_of xs, (λ d r. let a = h.all d r in subst (λ (y : Exp). In y (map exp_of xs)) a.2 (In-mapped exp_of xs a.0 (listed a.0 a.1 a.3))), (let l = length-map xs exp_of in omega (arith, l, few)))
