-- Comparing walls by their supporting lines.
use Rattle.std.proofs.Common.{◌≡◌, ◌≤◌, ◌^◌, refl, sym, ap, subst, ◌∙◌, Bool, true, false, cond, not, inl, inr, ◌⊎◌, arith, to_z, of_z}
use Rattle.std.specs.Prelude.{ℤ, ◌-ℤ◌, ◌*ℤ◌, nat_abs, int_lt, ◌&&◌, ◌||◌}
use Rattle.std.specs.Ordering.{int_cmp, is_lt}
use Rattle.std.specs.declared.cmp.Ordering.TheVariants.{Less, Equal, Greater}
use Rattle.std.specs.Cmp.{IsStrictWeakOrder}
use Rattle.std.proofs.lemmas.Int.{ints}
use mir.Syntax.{w32, w64, w128}
use Rattle.scattering.specs.Series.{Exp, exp_eq, exp_before}
use Rattle.scattering.specs.SupportingLine.{SupportingLine, line_before, same_line, supporting_line}
use Rattle.scattering.proofs.Keys.{exp_eq-refl, exp_eq-same}
use Rattle.plane_theory.proofs.TotalOrder.{exp-total}
use Rattle.trunc_series.proofs.Terms.{is-equal}
use Rattle.plane_geom.proofs.Casts.{back32, back64, back107}
use Rattle.crossing_theory.proofs.SupportingLines.{same_line-ties, walls-ordered}
use Rattle.scatter_diagram.specs.declared.wall.Wall.{Wall as CodeWall}
use Rattle.scatter_diagram.specs.Shown.{wall_of}
use Rattle.scatter_diagram.specs.Ordered.{exp_order, line_order, Placed, placed_before}

-- ---- numbers that fit

pub larger : (x : ℤ) → nat_abs x ≤ 2 ^ 52 → nat_abs x ≤ 2 ^ 100
larger x h = omega (arith, h)

pub difference-bound : (x y : ℤ) → nat_abs x ≤ 2 ^ 52 → nat_abs y ≤ 2 ^ 52 → nat_abs (to_z w128 (of_z w128 (to_z w128 (of_z w128 x) -ℤ to_z w128 (of_z w128 y)))) ≤ 2 ^ 53
difference-bound x y h k = omega (arith, ints, h, k)

pub product-read : (r a x : ℤ) → nat_abs a ≤ 2 ^ 12 → nat_abs x ≤ 2 ^ 40 → r ≡ to_z w32 (of_z w32 a) *ℤ to_z w64 (of_z w64 x) → r ≡ a *ℤ x
product-read r a x h k e = e ∙ ap (λ z. z *ℤ to_z w64 (of_z w64 x)) (back32 a h) ∙ ap (λ z. a *ℤ z) (back64 x k)

back53 : (x : ℤ) → nat_abs x ≤ 2 ^ 53 → to_z w128 (of_z w128 x) ≡ x
back53 x h = back107 x (omega (arith, h))

-- what is compared: the number over, times the other's denominator
pub raised-read : (r o over under : ℤ) → nat_abs o ≤ 2 ^ 53 → nat_abs under ≤ 2 ^ 40 → nat_abs r ≤ 2 ^ 93 → o ≡ over → r ≡ to_z w128 (of_z w128 o) *ℤ to_z w64 (of_z w64 under) → to_z w128 (of_z w128 r) ≡ over *ℤ under
raised-read r o over under h k l e f = back107 r (omega (arith, l)) ∙ f ∙ ap (λ z. z *ℤ to_z w64 (of_z w64 under)) (back53 o h ∙ e) ∙ ap (λ z. over *ℤ z) (back64 under k)

-- ---- the order of lines

compared : (x y : ℤ) → int_cmp x y ≡ cond (int_lt x y) Less (cond (int_lt y x) Greater Equal)
compared x y = grind (arith, ints)

pub same-directions : (d e : Exp) → exp_order d e ≡ Equal → d ≡ e
same-directions d e q = go (exp-total d e) (is-equal (exp_before d e) (exp_before e d) q)
  where
    go : (exp_before d e ≡ true) ⊎ ((exp_before e d ≡ true) ⊎ (d ≡ e)) → (exp_before d e ≡ false) × (exp_before e d ≡ false) → d ≡ e
    go (inl a) f = let g = f.0 in absurd (cc)
    go (inr (inl b)) f = let g = f.1 in absurd (cc)
    go (inr (inr r)) f = r

pub place-decides : (l m : SupportingLine) → exp_order l.dir m.dir ≡ Equal → int_cmp (l.over *ℤ m.under) (m.over *ℤ l.under) ≡ line_order l m
place-decides l m q =
    let n = is-equal (exp_before l.dir m.dir) (exp_before m.dir l.dir) q in
    let d = same-directions l.dir m.dir q in
    let e : exp_eq l.dir m.dir ≡ true = subst (λ (c : Exp). exp_eq l.dir c ≡ true) d (exp_eq-refl l.dir) in
    let f : exp_eq m.dir l.dir ≡ true = subst (λ (c : Exp). exp_eq c l.dir ≡ true) d (exp_eq-refl l.dir) in
    compared (l.over *ℤ m.under) (m.over *ℤ l.under)
    ∙ (λ i. cond (sym n.0 i || (sym e i && int_lt (l.over *ℤ m.under) (m.over *ℤ l.under))) Less (cond (sym n.1 i || (sym f i && int_lt (m.over *ℤ l.under) (l.over *ℤ m.under))) Greater Equal))

pub direction-decides : (l m : SupportingLine) → (exp_order l.dir m.dir ≡ Equal → ⊥) → exp_order l.dir m.dir ≡ line_order l m
direction-decides l m n = go (exp_before l.dir m.dir) refl (exp_before m.dir l.dir) refl
  where
    unequal : exp_before m.dir l.dir ≡ true → exp_before l.dir m.dir ≡ false → (exp_eq l.dir m.dir ≡ false)
    unequal b a = go' (exp_eq l.dir m.dir) refl
      where
        same : exp_eq l.dir m.dir ≡ true → exp_before l.dir m.dir ≡ exp_before m.dir l.dir
        same e = let d = exp_eq-same l.dir m.dir e in (λ i. exp_before (d i) (sym d i))

        go' : (c : Bool) → exp_eq l.dir m.dir ≡ c → exp_eq l.dir m.dir ≡ false
        go' true e = let f = same e in absurd (cc)
        go' false e = e

    go : (a : Bool) → exp_before l.dir m.dir ≡ a → (b : Bool) → exp_before m.dir l.dir ≡ b → exp_order l.dir m.dir ≡ line_order l m
    go true a b c = rw a refl
    go false a true b = rw (a, b, unequal b a) refl
    go false a false b = absurd (n (rw (a, b) refl))

pub less-is : (l m : SupportingLine) → is_lt (line_order l m) ≡ line_before l m
less-is l m = go (line_before l m) (line_before m l)
  where
    go : (b c : Bool) → is_lt (cond b Less (cond c Greater Equal)) ≡ b
    go true c = refl
    go false true = refl
    go false false = refl

tied : (b c : Bool) → cond b Less (cond c Greater Equal) ≡ Equal → (not b && not c) ≡ true
tied true c e = absurd (cc)
tied false true e = absurd (cc)
tied false false e = refl

apart : (b c : Bool) → (cond b Less (cond c Greater Equal) ≡ Equal → ⊥) → (not b && not c) ≡ false
apart true c n = refl
apart false true n = refl
apart false false n = absurd (n refl)

pub one-line : (l m : SupportingLine) → line_order l m ≡ Equal → same_line l m ≡ true
one-line l m e = same_line-ties l m ∙ tied (line_before l m) (line_before m l) e

pub two-lines : (l m : SupportingLine) → (line_order l m ≡ Equal → ⊥) → same_line l m ≡ false
two-lines l m n = same_line-ties l m ∙ apart (line_before l m) (line_before m l) n

pub placed-ordered : IsStrictWeakOrder placed_before
placed-ordered = walls-ordered (λ (p : Placed). wall_of p.1) (λ p. p.1.at.reduced.below)

abbrev pub share_line : CodeWall → CodeWall → Bool
share_line u v = same_line (supporting_line (wall_of u)) (supporting_line (wall_of v))
