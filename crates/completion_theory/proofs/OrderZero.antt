-- Order 0 is a completion.
use Rattle.std.proofs.Common.{◌≡◌, ℕ, refl, sym, ap, subst, ◌∙◌, ◌≤◌, arith, List, [], ◌∷◌, ◌++◌, Bool, true, false}
use Rattle.std.specs.Prelude.{filter, nat_le, not}
use Rattle.std.specs.List.{list_any}
use Rattle.scattering.specs.Collections.{Every}
use Rattle.scattering.specs.Series.{Sum, Exp, Term, degree, rest, cut, z, monomial, key_eq, unit, SameTo}
use Rattle.scattering.specs.Plane.{Point, IsDirection}
use Rattle.scattering.specs.Wall.{Wall, IsWall, is_live, cut_wall, cut_walls}
use Rattle.scattering.specs.LocalProduct.{image, axis_x, axis_y}
use Rattle.scattering.specs.Completion.{IsCompletion}
use Rattle.scattering.proofs.Lists.{Every-implies}
use Rattle.crossing_theory.proofs.Translation.{Eq, from_Eq}
use Rattle.completion_theory.proofs.LowerOrders.{directed-cut}
use Rattle.crossing_theory.proofs.HalfWalls.{Proper}
use Rattle.crossing_theory.proofs.LiveWalls.{image-live}

filter-true : (b : Term → Bool) (t : Term) (f : Sum) → b t ≡ true → filter b (t ∷ f) ≡ t ∷ filter b f
filter-true b t f e = rw e refl

filter-false : (b : Term → Bool) (t : Term) (f : Sum) → b t ≡ false → filter b (t ∷ f) ≡ filter b f
filter-false b t f e = rw e refl

clash : (n : ℕ) → 1 ≤ n → nat_le n 0 ≡ true → ⊥
clash n le e = let l : n ≤ 0 = low n e in omega (arith, le, l)
  where
    low : (n : ℕ) → nat_le n 0 ≡ true → n ≤ 0
    low n h = grind arith

abbrev High : Term → Type 0
High t = 1 ≤ degree t.0

none : (f : Sum) → Every High (rest f) → rest (cut 0 f) ≡ []
none [] h = refl
none (t ∷ f) h = go (key_eq t.0 unit) refl (nat_le (degree t.0) 0) refl (none f)
  where
    low : Term → Bool
    low u = nat_le (degree u.0) 0

    other : Term → Bool
    other u = not (key_eq u.0 unit)

    go : (b : Bool) → key_eq t.0 unit ≡ b → (c : Bool) → nat_le (degree t.0) 0 ≡ c → (Every High (rest f) → rest (cut 0 f) ≡ []) → rest (cut 0 (t ∷ f)) ≡ []
    go true e true d ih = ap rest (filter-true (λ u. nat_le (degree u.0) 0) t f d) ∙ filter-false (λ u. not (key_eq u.0 unit)) t (cut 0 f) (ap not e) ∙ ih (subst (Every High) (filter-false (λ u. not (key_eq u.0 unit)) t f (ap not e)) h)
    go true e false d ih = ap rest (filter-false (λ u. nat_le (degree u.0) 0) t f d) ∙ ih (subst (Every High) (filter-false (λ u. not (key_eq u.0 unit)) t f (ap not e)) h)
    go false e true d ih = absurd (clash (degree t.0) (subst (Every High) (filter-true (λ u. not (key_eq u.0 unit)) t f (ap not e)) h).0 d)
    go false e false d ih = ap rest (filter-false (λ u. nat_le (degree u.0) 0) t f d) ∙ ih (subst (Every High) (filter-true (λ u. not (key_eq u.0 unit)) t f (ap not e)) h).1

dead : (m : ℕ) (ws : List Wall) → Every (IsWall m) ws → filter is_live (cut_walls 0 ws ++ []) ≡ []
dead m [] h = refl
dead m (w ∷ ws) h = go (is_live (cut_wall 0 w)) refl (dead m ws h.1)
  where
    off : is_live (cut_wall 0 w) ≡ false
    off = ap (λ (f : Sum). list_any (λ t. true) f) (none w.function (Every-implies _ High (rest w.function) (λ t q. q.0) h.0.function.others))

    go : (b : Bool) → is_live (cut_wall 0 w) ≡ b → filter is_live (cut_walls 0 ws ++ []) ≡ [] → filter is_live (cut_walls 0 (w ∷ ws) ++ []) ≡ []
    go true e ih = absurd (apart (sym off ∙ e))
      where
        apart : false ≡ true → ⊥
        apart q = cc
    go false e ih = rw e ih

tail-none : (m : ℕ) (ws : List Wall) → Every (λ w. IsDirection w.dir × Proper w) ws → Every (λ w. IsDirection w.dir × Proper w) (ws ++ [])
tail-none m [] h = tt
tail-none m (w ∷ ws) h = (h.0, tail-none m ws h.1)

pub starts : (given : List Wall) (m : ℕ) → Every (IsWall m) given → IsCompletion given 0 (record { initial = cut_walls 0 given; rays = [] })
starts given m hg = record {
  initial = refl;
  outgoing = tt;
  proper = tt;
  reduced = record { live = tt; rises = tt };
  consistent = λ p ip. record { x = at p axis_x; y = at p axis_y };
}
  where
    at : (p : Point) (x : Exp) → SameTo 0 (image (cut_walls 0 given ++ []) p 0 x) (monomial (z x))
    at p x = from_Eq 0 _ _ (subst (λ ws. Eq 0 (image (cut_walls 0 given ++ []) p 0 x) (image ws p 0 x)) (dead m given hg) (image-live 0 (cut_walls 0 given ++ []) p x (tail-none m (cut_walls 0 given) (directed-cut 0 m given hg))))
