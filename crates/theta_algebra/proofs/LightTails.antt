-- Light tails, bend by bend: what is needed to multiply their values.
use Rattle.std.proofs.Common.{◌≡◌, ℕ, sym, ap, subst, ◌∙◌, ◌+◌, ◌≤◌, arith, List, [], ◌∷◌, take, drop, get_or, length, ◌-◌, ◌<◌, FitsSigned, to_z, of_z}
use Rattle.std.specs.Prelude.{ℤ, nat_abs, ◌-ℤ◌, ◌*ℤ◌}
use Rattle.std.proofs.lemmas.Int.{ints, to_z-of_z, fits_signed_from_abs}
use Rattle.std.proofs.lemmas.List.{take_all}
use mir.Syntax.{w32, w128}
use Rattle.limits.specs.Limits.{highest_order, largest_weight}
use Rattle.scattering.specs.Collections.{Every}
use Rattle.scattering.specs.Series.{Exp, Powers, Key, Term, origin, powers_add, key_mul, coef, degree, exp_sub, total}
use Rattle.scattering.specs.Plane.{Point}
use Rattle.scattering.specs.Wall.{Wall, IsWall, cut_walls}
use Rattle.scattering.specs.BrokenLine.{Bend, bend_series}
use Rattle.scattering.specs.Tail.{IsTail, tail_weight}
use Rattle.scattering.specs.Theta.{weights}
use Rattle.scattering.proofs.Keys.{same-exp}
use Rattle.broken_line_theory.specs.TailValue.{tail_value}
use Rattle.broken_line_theory.proofs.BendValues.{tail-light, value-light}
use Rattle.broken_line_theory.proofs.ListedTails.{traced-reach}
use Rattle.broken_line_theory.proofs.ThetaSums.{value-degree}
use Rattle.broken_line_theory.proofs.TracedBends.{traced-used}
use Rattle.broken_line_theory.proofs.TracedThetas.{light-bend, bend-low}
use Rattle.scatter_diagram.specs.Proper.{AreTameWalls}
use Rattle.bend_finder.specs.declared.bend.Bend.{Bend as CodeBend}
use Rattle.bend_finder.specs.Ahead.{SeenFinder, bend_of, bend_weight}
use Rattle.broken_lines.specs.declared.tail.Tail.{Tail as CodeTail}
use Rattle.broken_lines.specs.Traced.{SeenTail, seen_tail, seen_tails, plain_tails, IsTold, AreAllTails}
use Rattle.broken_lines.proofs.WithinReach.{traceable}
use Rattle.theta_algebra.specs.LineValues.{tail_bends, value_term, IsAsked, AreLightBends, IsLightTail, AreLightTails}

-- ---- along the bends

pub bends-small : (ws : List Wall) (b : ℕ) (x : Exp) (cs : List Bend) → AreLightBends ws b x cs → (nat_abs x.a ≤ 3584) × (nat_abs x.b ≤ 3584)
bends-small ws b x cs h = let t = h.traced in traceable b ws h.low h.tame t.0 x t.2 t.3 (traced-reach ws b t.0 t.1 x t.2 cs t.4)

pub next-bends : (ws : List Wall) (b : ℕ) (x : Exp) (c : Bend) (cs : List Bend) → AreLightBends ws b x (c ∷ cs) → AreLightBends ws b (exp_sub x c.key.exp) cs
next-bends ws b x c cs h =
    let t = h.traced in
    record {
      low = h.low;
      tame = h.tame;
      traced = (t.0, c.at, t.2 + degree c.key, t.3, t.4.2);
      light = (light-bend ws b t.0 t.1 x t.2 largest_weight c cs t.4 h.light).1;
    }

pub next-light : (ws : List Wall) (b : ℕ) (x : Exp) (c : Bend) (cs : List Bend) → AreLightBends ws b x (c ∷ cs) → bend_weight ws b x c ≤ largest_weight
next-light ws b x c cs h = let t = h.traced in (light-bend ws b t.0 t.1 x t.2 largest_weight c cs t.4 h.light).0

pub next-low : (ws : List Wall) (b : ℕ) (x : Exp) (c : Bend) (cs : List Bend) → AreLightBends ws b x (c ∷ cs) → degree c.key ≤ b
next-low ws b x c cs h = let t = h.traced in bend-low ws b t.0 t.1 x t.2 c cs t.4

-- the exponents before and after a bend are small, and so is what it takes away
pub taken-small : (ws : List Wall) (b : ℕ) (x : Exp) (c : Bend) (cs : List Bend) → AreLightBends ws b x (c ∷ cs)
    → (nat_abs (x.a -ℤ c.key.exp.a) ≤ 3584) × (nat_abs (x.b -ℤ c.key.exp.b) ≤ 3584)
taken-small ws b x c cs h = bends-small ws b (exp_sub x c.key.exp) cs (next-bends ws b x c cs h)

pub value-small : (ws : List Wall) (b : ℕ) (x : Exp) (cs : List Bend) → AreLightBends ws b x cs → nat_abs (tail_value ws b x cs).1 ≤ largest_weight
value-small ws b x cs h = let t = h.traced in below (tail-light ws b t.0 t.1 x t.2 cs t.4) h.light
  where
    below : {i j k : ℕ} → i ≤ j → j ≤ k → i ≤ k
    below p q = omega (arith, p, q)

pub value-low : (ws : List Wall) (b : ℕ) (x : Exp) (cs : List Bend) → AreLightBends ws b x cs → total (tail_value ws b x cs).0 ≤ highest_order
value-low ws b x cs h =
    let t = h.traced in
    let u = traced-used ws b t.0 t.1 x t.2 cs t.4 in
    let v = value-degree ws b x cs in
    let l = h.low in
    omega (arith, u, v, l)

-- ---- tails

pub tail-bends : (ws : List Wall) (b : ℕ) (m : Exp) (t : SeenTail) → IsLightTail ws b m t → AreLightBends ws b t.root t.bends
tail-bends ws b m t h = record { low = h.low; tame = h.tame; traced = (m, h.tail.0, 0, h.asked, h.tail.1.traced); light = h.light }

module _ (ws : List Wall) (b k : ℕ) (m : Exp) (low : b ≤ highest_order) (tame : AreTameWalls ws) (walls : Every (IsWall k) ws) (asked : IsAsked m) (q : Point) where
  light : (ts : List CodeTail) (w : ℕ) → Every (IsTail ws b m q) (plain_tails (seen_tails ts)) → Every IsTold (seen_tails ts) → weights ws b (plain_tails (seen_tails ts)) ≤ w → w ≤ largest_weight
      → AreLightTails ws b m ts
  light [] w h i l g = tt
  light (t ∷ ts) w h i l g = (
    record {
      low = low;
      tame = tame;
      walls = (k, walls);
      asked = asked;
      tail = (q, h.0);
      told = i.0;
      light = first (tail_weight ws b (seen_tail t).root (seen_tail t).bends) (weights ws b (plain_tails (seen_tails ts))) w largest_weight l g;
    },
    light ts w h.1 i.1 (second (tail_weight ws b (seen_tail t).root (seen_tail t).bends) (weights ws b (plain_tails (seen_tails ts))) w l) g,
  )
    where
      first : (i j w l : ℕ) → i + j ≤ w → w ≤ l → i ≤ l
      first i j w l p q = omega (arith, p, q)

      second : (i j w : ℕ) → i + j ≤ w → j ≤ w
      second i j w p = omega (arith, p)

  -- all tails are light where their weights sum to little
  pub light-tails : (ts : List CodeTail) (w : ℕ) → AreAllTails ws b m q (seen_tails ts) w → AreLightTails ws b m ts
  light-tails ts w h = light ts w h.lists.each h.told (exactly h.weight) h.light
    where
      exactly : {i j : ℕ} → i ≡ j → i ≤ j
      exactly e = omega (arith, e)

-- ---- a bend and what follows on it, as the program has them

-- the bends after the first
abbrev pub later : List CodeBend → List CodeBend
later cs = take (length cs - 1) (drop 1 cs)

later-cons : (d : CodeBend) (ds : List CodeBend) → later (d ∷ ds) ≡ ds
later-cons d ds = let n : length (d ∷ ds) - 1 ≡ length ds = omega arith in ap (λ k. take k ds) n ∙ take_all (length ds) ds (omega arith)

pub parted : (cs : List CodeBend) (c : CodeBend) → 1 ≤ length cs → c ≡ get_or cs 0 c → tail_bends cs ≡ bend_of c ∷ tail_bends (later cs)
parted [] c l e = absurd (omega (arith, l))
parted (d ∷ ds) c l e = ap (λ (u : CodeBend). bend_of u ∷ tail_bends ds) (sym e) ∙ ap (λ us. bend_of c ∷ tail_bends us) (sym (later-cons d ds))

pub later-length : (cs : List CodeBend) → 1 ≤ length cs → length (later cs) < length cs
later-length [] l = absurd (omega (arith, l))
later-length (d ∷ ds) l = let e = ap length (later-cons d ds) in omega (arith, e)

pub first-bend : (ws : List Wall) (b : ℕ) (x : Exp) (cs : List CodeBend) (c : CodeBend) → 1 ≤ length cs → c ≡ get_or cs 0 c → AreLightBends ws b x (tail_bends cs)
    → AreLightBends ws b x (bend_of c ∷ tail_bends (later cs))
first-bend ws b x cs c l e h = subst (AreLightBends ws b x) (parted cs c l e) h

-- the exponent after a bend, in numbers of 32 bits
fits32 : (v : ℤ) → nat_abs v ≤ 7168 → FitsSigned w32 v
fits32 v h = fits_signed_from_abs w32 v (omega (arith, h))

abbrev pub less32 : ℤ → ℤ → ℤ
less32 u v = to_z w32 (of_z w32 (to_z w32 (of_z w32 u) -ℤ to_z w32 (of_z w32 v)))

less-is : (u v : ℤ) → nat_abs u ≤ 3584 → nat_abs (u -ℤ v) ≤ 3584 → less32 u v ≡ u -ℤ v
less-is u v h k =
    let p = to_z-of_z w32 u (fits32 u (omega (arith, h))) in
    let small : nat_abs v ≤ 7168 = omega (arith, ints, h, k) in
    let q = to_z-of_z w32 v (fits32 v small) in
    ap (λ (y : ℤ). to_z w32 (of_z w32 (y -ℤ to_z w32 (of_z w32 v)))) p ∙ ap (λ (y : ℤ). to_z w32 (of_z w32 (u -ℤ y))) q
    ∙ to_z-of_z w32 (u -ℤ v) (fits32 (u -ℤ v) (omega (arith, k)))

abbrev pub left32 : Exp → Exp → Exp
left32 x y = record { a = less32 x.a y.a; b = less32 x.b y.b }

pub left-is : (ws : List Wall) (b : ℕ) (x : Exp) (c : Bend) (cs : List Bend) → AreLightBends ws b x (c ∷ cs) → left32 x c.key.exp ≡ exp_sub x c.key.exp
left-is ws b x c cs h =
    let s = bends-small ws b x (c ∷ cs) h in
    let k = taken-small ws b x c cs h in
    same-exp _ _ (less-is x.a c.key.exp.a s.0 k.0) (less-is x.b c.key.exp.b s.1 k.1)

-- what follows, as the program asks it of the tracer later
pub later-bends : (f g : SeenFinder) (x : Exp) (c : Bend) (cs : List Bend) → g ≡ f → AreLightBends f.walls f.limit x (c ∷ cs) → AreLightBends g.walls g.limit (left32 x c.key.exp) cs
later-bends f g x c cs e h =
    subst (λ (k : SeenFinder). AreLightBends k.walls k.limit (left32 x c.key.exp) cs) (sym e)
    (subst (λ (y : Exp). AreLightBends f.walls f.limit y cs) (sym (left-is f.walls f.limit x c cs h)) (next-bends f.walls f.limit x c cs h))

pub rest-value : (f g : SeenFinder) (x : Exp) (c : Bend) (cs : List Bend) (t : Term) → g ≡ f → AreLightBends f.walls f.limit x (c ∷ cs)
    → t ≡ value_term (tail_value g.walls g.limit (left32 x c.key.exp) cs) → t ≡ value_term (tail_value f.walls f.limit (exp_sub x c.key.exp) cs)
rest-value f g x c cs t e h i =
    subst (λ (y : Exp). t ≡ value_term (tail_value f.walls f.limit y cs)) (left-is f.walls f.limit x c cs h)
    (subst (λ (k : SeenFinder). t ≡ value_term (tail_value k.walls k.limit (left32 x c.key.exp) cs)) e i)

-- a bend's key before the term of what follows
pub bend-term : (k r : Key) (p s : Powers) (u v : ℤ) → k ≡ key_mul (record { powers = p; exp = origin }) r → r ≡ record { powers = s; exp = origin } → u ≡ v
    → (k, u) ≡ value_term (powers_add p s, v)
bend-term k r p s u v e f g = λ i. ((e ∙ ap (key_mul (record { powers = p; exp = origin })) f) i, g i)

pub rest-degree : (ws : List Wall) (b : ℕ) (x : Exp) (cs : List Bend) (t : Term) → AreLightBends ws b x cs → t ≡ value_term (tail_value ws b x cs) → degree t.0 ≤ highest_order
rest-degree ws b x cs t h e = let d = ap (λ (u : Term). degree u.0) e in let l = value-low ws b x cs h in omega (arith, d, l)

-- ---- numbers of 128 bits

pub fits : (v : ℤ) → nat_abs v ≤ largest_weight → FitsSigned w128 v
fits v h = fits_signed_from_abs w128 v (omega (arith, h))

pub as-is : (v : ℤ) → nat_abs v ≤ largest_weight → to_z w128 (of_z w128 v) ≡ v
as-is v h = to_z-of_z w128 v (fits v h)

module _ (ws : List Wall) (b : ℕ) (x : Exp) (c : Bend) (cs : List Bend) (h : AreLightBends ws b x (c ∷ cs)) (v r : ℤ) (e : v ≡ coef (bend_series b (cut_walls b ws) c.at x) c.key)
    (f : r ≡ (tail_value ws b (exp_sub x c.key.exp) cs).1) where
  value-bound : nat_abs v ≤ largest_weight
  value-bound = subst (λ (u : ℤ). nat_abs u ≤ largest_weight) (sym e) (below (value-light b (cut_walls b ws) c.at x c.key (next-low ws b x c cs h)) (next-light ws b x c cs h))
    where
      below : {i j k : ℕ} → i ≤ j → j ≤ k → i ≤ k
      below p q = omega (arith, p, q)

  rest-bound : nat_abs r ≤ largest_weight
  rest-bound = subst (λ (u : ℤ). nat_abs u ≤ largest_weight) (sym f) (value-small ws b (exp_sub x c.key.exp) cs (next-bends ws b x c cs h))

  pub product-value : v *ℤ r ≡ (tail_value ws b x (c ∷ cs)).1
  product-value = ap (λ (u : ℤ). u *ℤ r) e ∙ ap (λ (u : ℤ). coef (bend_series b (cut_walls b ws) c.at x) c.key *ℤ u) f

  product-bound : nat_abs (v *ℤ r) ≤ largest_weight
  product-bound = subst (λ (u : ℤ). nat_abs u ≤ largest_weight) (sym product-value) (value-small ws b x (c ∷ cs) h)

  as-product : to_z w128 (of_z w128 v) *ℤ to_z w128 (of_z w128 r) ≡ v *ℤ r
  as-product = ap (λ (u : ℤ). u *ℤ to_z w128 (of_z w128 r)) (as-is v value-bound) ∙ ap (λ (u : ℤ). v *ℤ u) (as-is r rest-bound)

  pub product-fits : FitsSigned w128 (to_z w128 (of_z w128 v) *ℤ to_z w128 (of_z w128 r))
  product-fits = subst (FitsSigned w128) (sym as-product) (fits (v *ℤ r) product-bound)

  pub product-is : to_z w128 (of_z w128 (to_z w128 (of_z w128 v) *ℤ to_z w128 (of_z w128 r))) ≡ (tail_value ws b x (c ∷ cs)).1
  product-is = ap (λ (u : ℤ). to_z w128 (of_z w128 u)) as-product ∙ as-is (v *ℤ r) product-bound ∙ product-value
