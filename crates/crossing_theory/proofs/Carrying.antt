-- Half-walls carried through one after the other: order, cancelling, walls that aren't seen.
use Rattle.std.proofs.Common.{◌≡◌, ℕ, refl, List, [], ◌∷◌, ◌++◌, Bool, true, false}
use Rattle.std.specs.Prelude.{ℤ, flat_map}
use Rattle.scattering.specs.Collections.{Every, EveryPair, put, in_order}
use Rattle.scattering.specs.Series.{Sum, Exp}
use Rattle.scattering.specs.Series as D
use Rattle.scattering.specs.Plane.{Point}
use Rattle.scattering.specs.Wall.{Wall, is_on, starts_at}
use Rattle.scattering.specs.LocalProduct.{Half, carry, cross_half, halves}
use Rattle.scattering.proofs.Lists.{Every-in_order, Every-flat_map, Every-map, Every-implies}
use Rattle.crossing_theory.proofs.Translation.{Eq, Eq-refl, Eq-trans}
use Rattle.crossing_theory.proofs.HalfWalls.{Proper, Commutes, half-respects, half, cancels, dead}

abbrev pub ProperHalf : Half → Type 0
ProperHalf h = Proper h.wall

pub carry-respects : (k : ℕ) (hs : List Half) → Every ProperHalf hs → (f g : Sum) → Eq k f g → Eq k (carry k hs f) (carry k hs g)
carry-respects k [] r f g e = e
carry-respects k (h ∷ hs) r f g e = carry-respects k hs r.1 (cross_half k h f) (cross_half k h g) (half-respects k h r.0 f g e)

carry-put : (k : ℕ) (before : Half → Half → Bool) (h : Half) (hs : List Half) → Every ProperHalf hs → Every (Commutes k h) hs → (f : Sum) → Eq k (carry k (put before h hs) f) (carry k (h ∷ hs) f)
carry-put k before h [] r c f = Eq-refl k (cross_half k h f)
carry-put k before h (g ∷ gs) r c f =
    elim (before g h) as (λ b. Eq k (carry k (elim b [ true ↦ g ∷ put before h gs | false ↦ h ∷ g ∷ gs ]) f) (carry k (h ∷ g ∷ gs) f)) [
      | true ↦ Eq-trans k _ (carry k gs (cross_half k h (cross_half k g f))) _
          (carry-put k before h gs r.1 c.1 (cross_half k g f))
          (carry-respects k gs r.1 (cross_half k h (cross_half k g f)) (cross_half k g (cross_half k h f)) (c.0 f))
      | false ↦ Eq-refl k (carry k (h ∷ g ∷ gs) f)
    ]

-- the order doesn't matter
pub carry-in_order : (k : ℕ) (before : Half → Half → Bool) (hs : List Half) → Every ProperHalf hs → EveryPair (Commutes k) hs → (f : Sum) → Eq k (carry k (in_order before hs) f) (carry k hs f)
carry-in_order k before [] r c f = Eq-refl k f
carry-in_order k before (h ∷ hs) r c f =
    Eq-trans k _ (carry k (in_order before hs) (cross_half k h f)) _
    (carry-put k before h (in_order before hs) (Every-in_order ProperHalf before hs r.1) (Every-in_order (Commutes k h) before hs c.0) f)
    (carry-in_order k before hs r.1 c.1 (cross_half k h f))

-- the half-walls of a wall are the wall's
pub halves-of : (P : Half → Type 0) (p : Point) (w : Wall) → ((s : ℤ) → P (half w s)) → Every P (halves p w)
halves-of P p w h = Every-map P (λ (s : ℤ). half w s) _ h

-- half-walls that aren't seen
pub carry-dead : (k : ℕ) (gs hs : List Half) → Every (λ h. ProperHalf h × Eq k h.wall.function D.one) gs → Every ProperHalf hs → (f : Sum) → Eq k (carry k (gs ++ hs) f) (carry k hs f)
carry-dead k [] hs d r f = Eq-refl k _
carry-dead k (g ∷ gs) hs d r f =
    Eq-trans k _ (carry k hs (cross_half k g f)) _ (carry-dead k gs hs d.1 r (cross_half k g f))
    (carry-respects k hs r _ f (dead k g d.0.0 d.0.1 f))

-- a wall that goes on through p cancels, and one whose function is 1 isn't seen
abbrev pub Passes : ℕ → Point → Wall → Type 0
Passes k p w = (Proper w) × ((starts_at w p ≡ true) → Eq k w.function D.one)

halves-pass : (k : ℕ) (p : Point) (w : Wall) (hs : List Half) → Passes k p w → Every ProperHalf hs → (f : Sum) → Eq k (carry k (halves p w ++ hs) f) (carry k hs f)
halves-pass k p w hs pw r f = go (starts_at w p) refl (is_on w p) refl
  where
    go : (c : Bool) → starts_at w p ≡ c → (b : Bool) → is_on w p ≡ b → Eq k (carry k (halves p w ++ hs) f) (carry k hs f)
    go true s b e = carry-dead k (halves p w) hs (halves-of (λ h. ProperHalf h × Eq k h.wall.function D.one) p w (λ _. (pw.0, pw.1 s))) r f
    go false s true e = rw (e, s) (carry-respects k hs r _ f (cancels k w pw.0 f))
    go false s false e = rw e (Eq-refl k (carry k hs f))

pub proper-halves : (p : Point) (ws : List Wall) → Every Proper ws → Every ProperHalf (flat_map (halves p) ws)
proper-halves p ws h = Every-flat_map Proper ProperHalf (halves p) ws (λ w q. halves-of ProperHalf p w (λ _. q)) h

-- where every wall passes, nothing is changed
pub carry-passes : (k : ℕ) (p : Point) (ws : List Wall) → Every (Passes k p) ws → (f : Sum) → Eq k (carry k (flat_map (halves p) ws) f) f
carry-passes k p [] h f = Eq-refl k f
carry-passes k p (w ∷ ws) h f =
    Eq-trans k _ (carry k (flat_map (halves p) ws) f) _
    (halves-pass k p w (flat_map (halves p) ws) h.0 (proper-halves p ws (Every-implies _ Proper ws (λ w (q : Passes k p w). q.0) h.1)) f)
    (carry-passes k p ws h.1 f)

-- ---- passive points
