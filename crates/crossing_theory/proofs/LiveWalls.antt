-- Walls whose function is 1 aren't seen by a local product.
use Rattle.std.proofs.Common.{◌≡◌, ◌≢◌, ℕ, refl, subst, sym, ◌∙◌, ap, List, [], ◌∷◌, ◌++◌, map, Bool, true, false, cond, not, arith}
use Rattle.std.specs.Prelude.{ℤ, pos, negsuc, filter, flat_map, ◌&&◌, ◌||◌, nat_le}
use Rattle.std.specs.List.{list_any}
use Rattle.std.proofs.lemmas.Int.{ints}
use Rattle.scattering.specs.Collections.{Every, in_order}
use Rattle.scattering.specs.Series.{Sum, Exp, Term, det, origin, rest, scale, z, monomial}
use Rattle.scattering.specs.Series as D
use Rattle.scattering.specs.Plane.{Point, IsDirection}
use Rattle.scattering.specs.Wall.{Wall, is_live, is_on, starts_at, allows}
use Rattle.scattering.specs.LocalProduct.{Half, along, carry, cross_half, halves, half_walls, image}
use Rattle.scattering.proofs.Lists.{Every-filter, Every-flat_map, Every-implies}
use Rattle.plane_theory.proofs.Directions.{direction-not_origin, scale-not_origin}
use Rattle.crossing_theory.proofs.Translation.{Eq, Eq-refl, Eq-trans}
use Rattle.crossing_theory.proofs.HalfWalls.{Proper, small, half, half-respects, dead}
use Rattle.crossing_theory.proofs.Carrying.{ProperHalf}
use Rattle.crossing_theory.proofs.OtherFunctions.{before, of_halves}
use Rattle.crossing_theory.proofs.SortingByAngle.{turns-trans, turns-asym, in_order-filter}

-- a half-wall has a side, and its wall a direction
abbrev Directed : Half → Type 0
Directed h = along h ≢ origin

mapped : (P : Half → Type 0) (w : Wall) (ss : List ℤ) → Every (λ (s : ℤ). s ≢ pos 0) ss → ((s : ℤ) → s ≢ pos 0 → P (half w s)) → Every P (map (λ (s : ℤ). half w s) ss)
mapped P w [] h i = tt
mapped P w (s ∷ ss) h i = (i s h.0, mapped P w ss h.1 i)

sides : Every (λ (s : ℤ). s ≢ pos 0) (pos 1 ∷ negsuc 0 ∷ [])
sides = (λ e. omega (arith, ints, e), (λ e. omega (arith, ints, e), tt))

directed : (p : Point) (w : Wall) → IsDirection w.dir → Every Directed (halves p w)
directed p w h = mapped Directed w _ (Every-filter (λ (s : ℤ). s ≢ pos 0) (λ s. is_on w p && (not (starts_at w p) || allows w.kind s)) (pos 1 ∷ negsuc 0 ∷ []) sides) (λ s n. scale-not_origin s w.dir n (direction-not_origin w.dir h))

module _ (b : Wall → Bool) where
  filter-mapped : (w : Wall) (ss : List ℤ) → filter (λ (h : Half). b h.wall) (map (λ (s : ℤ). half w s) ss) ≡ cond (b w) (map (λ (s : ℤ). half w s) ss) []
  filter-mapped w [] = empty (b w)
    where
      empty : (c : Bool) → ◌≡◌ {A = List Half} [] (cond c [] [])
      empty true = refl
      empty false = refl
  filter-mapped w (s ∷ ss) = go (b w) refl (filter-mapped w ss)
    where
      go : (c : Bool) → b w ≡ c → filter (λ (h : Half). b h.wall) (map (λ (s : ℤ). half w s) ss) ≡ cond (b w) (map (λ (s : ℤ). half w s) ss) [] → filter (λ (h : Half). b h.wall) (map (λ (s : ℤ). half w s) (s ∷ ss)) ≡ cond (b w) (map (λ (s : ℤ). half w s) (s ∷ ss)) []
      go true e h = rw e (ap (λ r. half w s ∷ r) (h ∙ rw e refl))
      go false e h = rw e (h ∙ rw e refl)

  pub filter-append : {A : Type 0} (c : A → Bool) (xs ys : List A) → filter c (xs ++ ys) ≡ filter c xs ++ filter c ys
  filter-append c [] ys = refl
  filter-append c (x ∷ xs) ys = go (c x) (filter-append c xs ys)
    where
      go : (d : Bool) → filter c (xs ++ ys) ≡ filter c xs ++ filter c ys → cond d (x ∷ filter c (xs ++ ys)) (filter c (xs ++ ys)) ≡ cond d (x ∷ filter c xs) (filter c xs) ++ filter c ys
      go true h = ap (λ r. x ∷ r) h
      go false h = h

  filter-halves : (p : Point) (ws : List Wall) → filter (λ (h : Half). b h.wall) (flat_map (halves p) ws) ≡ flat_map (halves p) (filter b ws)
  filter-halves p [] = refl
  filter-halves p (w ∷ ws) =
      filter-append (λ (h : Half). b h.wall) (halves p w) (flat_map (halves p) ws)
      ∙ ap (λ xs. xs ++ filter (λ (h : Half). b h.wall) (flat_map (halves p) ws)) (filter-mapped w _)
      ∙ go (b w) (filter-halves p ws)
    where
      go : (c : Bool) → filter (λ (h : Half). b h.wall) (flat_map (halves p) ws) ≡ flat_map (halves p) (filter b ws) → cond c (halves p w) [] ++ filter (λ (h : Half). b h.wall) (flat_map (halves p) ws) ≡ flat_map (halves p) (cond c (w ∷ filter b ws) (filter b ws))
      go true h = ap (λ r. halves p w ++ r) h
      go false h = h

  pub half_walls-filter : (p : Point) (ws : List Wall) → Every (λ w. IsDirection w.dir) ws → half_walls (filter b ws) p ≡ filter (λ (h : Half). b h.wall) (half_walls ws p)
  half_walls-filter p ws h =
      ap (in_order before) (sym (filter-halves p ws))
      ∙ sym (in_order-filter before Directed (λ x y z qx qy qz e f. turns-trans (along x) (along y) (along z) qx qy qz e f) (λ y x e. turns-asym (along y) (along x) e) (λ (h : Half). b h.wall) (flat_map (halves p) ws)
      (Every-flat_map (λ w. IsDirection w.dir) Directed (halves p) ws (λ w d. directed p w d) h))

  -- what b leaves out isn't seen
  carry-filter : (k : ℕ) (hs : List Half) → Every (λ h. ProperHalf h × (b h.wall ≡ false → Eq k h.wall.function D.one)) hs → (f g : Sum) → Eq k f g → Eq k (carry k hs f) (carry k (filter (λ (h : Half). b h.wall) hs) g)
  carry-filter k [] q f g e = e
  carry-filter k (h ∷ hs) q f g e = go (b h.wall) refl (carry-filter k hs q.1)
    where
      go : (c : Bool) → b h.wall ≡ c → ((f g : Sum) → Eq k f g → Eq k (carry k hs f) (carry k (filter (λ (h : Half). b h.wall) hs) g)) → Eq k (carry k hs (cross_half k h f)) (carry k (filter (λ (h : Half). b h.wall) (h ∷ hs)) g)
      go true r ih = rw r (ih (cross_half k h f) (cross_half k h g) (half-respects k h q.0.0 f g e))
      go false r ih = rw r (ih (cross_half k h f) g (Eq-trans k _ f _ (dead k h q.0.0 (q.0.1 r) f) e))

  pub image-filter : (k : ℕ) (ws : List Wall) (p : Point) (m : Exp) → Every (λ w. IsDirection w.dir × Proper w × (b w ≡ false → Eq k w.function D.one)) ws → Eq k (image ws p k m) (image (filter b ws) p k m)
  image-filter k ws p m h =
      subst (λ hs. Eq k (image ws p k m) (carry k hs (monomial (z m)))) (sym (half_walls-filter p ws (Every-implies _ (λ w. IsDirection w.dir) ws (λ w q. q.0) h)))
      (carry-filter k (half_walls ws p) (of_halves (λ w. Proper w × (b w ≡ false → Eq k w.function D.one)) p ws (Every-implies _ _ ws (λ w q. (q.1, q.2)) h)) _ _ (Eq-refl k _))

any-of-none : (k : ℕ) (f : Sum) → list_any (λ (t : Term). true) f ≡ false → list_any (λ (t : Term). nat_le (D.degree t.0) k) f ≡ false
any-of-none k [] e = refl
any-of-none k (t ∷ f) e = absurd (cc)

pub image-live : (k : ℕ) (ws : List Wall) (p : Point) (m : Exp) → Every (λ w. IsDirection w.dir × Proper w) ws → Eq k (image ws p k m) (image (filter is_live ws) p k m)
image-live k ws p m h = image-filter is_live k ws p m (Every-implies _ _ ws (λ w q. (q.0, q.1, λ e. small k w q.1 (any-of-none k (rest w.function) e))) h)
