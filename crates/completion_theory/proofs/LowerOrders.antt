-- A completion cut to a lower degree is a completion.
use Rattle.std.proofs.Common.{◌≡◌, ℕ, refl, subst, sym, ◌∙◌, ap, List, [], ◌∷◌, ◌++◌, Bool, true, false, ◌≤◌, arith}
use Rattle.std.specs.Prelude.{filter, IsTrue, nat_le}
use Rattle.scattering.specs.Collections.{Every, EveryPair}
use Rattle.scattering.specs.Series.{Key, Sum, Exp, Term, degree, rest, cut, coef, z, monomial, SameTo, key_eq, exp_eq, IsSeries}
use Rattle.scattering.specs.Series as D
use Rattle.scattering.specs.Plane.{Point, IsDirection}
use Rattle.scattering.specs.Wall.{Outgoing, Wall, IsWall, is_live, cut_wall, cut_walls, walls}
use Rattle.scattering.specs.LocalProduct.{image, axis_x, axis_y}
use Rattle.scattering.specs.Completion.{ray_before, IsReduced, lowered}
use Rattle.scattering.proofs.Lists.{Every-append, Every-filter, pairs-filter, map-append, filters-every, Every-implies}
use Rattle.scattering.proofs.Coefficients.{coef-cut, cut-cut}
use Rattle.scattering.proofs.Tests.{nat_le-yes}
use Rattle.crossing_theory.proofs.Translation.{Eq, Eq-trans, Eq-sym, to_Eq, from_Eq, cut-same}
use Rattle.crossing_theory.proofs.HalfWalls.{Proper, proper}
use Rattle.crossing_theory.proofs.OtherFunctions.{image-refit, Fits}
use Rattle.crossing_theory.proofs.CutFunctions.{proper-cut}
use Rattle.crossing_theory.proofs.LiveWalls.{image-live, filter-append}
use Rattle.sum_algebra.proofs.SmallCrossings.{Same-lower}
use Rattle.crossing_theory.proofs.Keys.{keys}
use Rattle.completion_theory.specs.Laws.{LowerOrdersComplete}

every-both : {A : Type 0} (P Q : A → Type 0) (xs : List A) → Every P xs → Every Q xs → Every (λ x. P x × Q x) xs
every-both P Q [] h i = tt
every-both P Q (x ∷ xs) h i = ((h.0, i.0), every-both P Q xs h.1 i.1)

every-cut : {A : Type 0} (P : A → Type 0) (b : A → Bool) (xs : List A) → ((x : A) → b x ≡ true → P x) → Every P (filter b xs)
every-cut P b [] i = tt
every-cut P b (x ∷ xs) i = go (b x) refl (every-cut P b xs i)
  where
    go : (c : Bool) → b x ≡ c → Every P (filter b xs) → Every P (filter b (x ∷ xs))
    go true e h = rw e (i x e, h)
    go false e h = rw e h

pub wall-cut : (n m : ℕ) (w : Wall) → IsWall m w → IsWall n (cut_wall n w)
wall-cut n m w h = record {
  point = h.point;
  direction = h.direction;
  function = record {
    series = record {
      rises = pairs-filter _ _ w.function h.function.series.rises;
      nonzero = Every-filter _ _ w.function h.function.series.nonzero;
      low = every-cut (λ (t : Term). degree t.0 ≤ n) (λ (t : Term). nat_le (degree t.0) n) w.function (λ t e. nat_le-yes (degree t.0) n e);
    };
    constant = coef-cut n w.function D.unit (omega arith) ∙ h.function.constant;
    others = filters-every _ _ _ w.function h.function.others;
  };
}

pairs-cut : (n : ℕ) (rays : List Wall) → EveryPair (λ (r s : Wall). IsTrue (ray_before r s)) rays → EveryPair (λ (r s : Wall). IsTrue (ray_before r s)) (cut_walls n rays)
pairs-cut n [] h = tt
pairs-cut n (r ∷ rays) h = (one r rays h.0, pairs-cut n rays h.1)
  where
    one : (r : Wall) (rays : List Wall) → Every (λ (s : Wall). IsTrue (ray_before r s)) rays → Every (λ (s : Wall). IsTrue (ray_before (cut_wall n r) s)) (cut_walls n rays)
    one r [] h = tt
    one r (s ∷ rays) h = (h.0, one r rays h.1)

-- ---- walls that aren't live

filter-twice : {A : Type 0} (b : A → Bool) (xs : List A) → filter b (filter b xs) ≡ filter b xs
filter-twice b [] = refl
filter-twice b (x ∷ xs) = go (b x) refl (filter-twice b xs)
  where
    go : (c : Bool) → b x ≡ c → filter b (filter b xs) ≡ filter b xs → filter b (filter b (x ∷ xs)) ≡ filter b (x ∷ xs)
    go true e h = rw e (rw e (ap (λ r. x ∷ r) h))
    go false e h = rw e h

pub live-swap : (k : ℕ) (initial rays : List Wall) (p : Point) (m : Exp) → Every (λ w. IsDirection w.dir × Proper w) initial → Every (λ w. IsDirection w.dir × Proper w) rays
    → Eq k (image (initial ++ rays) p k m) (image (initial ++ filter is_live rays) p k m)
live-swap k initial rays p m hi hr =
    Eq-trans k _ (image (filter is_live (initial ++ rays)) p k m) _ (image-live k (initial ++ rays) p m (Every-append _ initial rays hi hr))
    (subst (λ ws. Eq k (image ws p k m) (image (initial ++ filter is_live rays) p k m)) (sym same)
    (Eq-sym k _ _ (image-live k (initial ++ filter is_live rays) p m (Every-append _ initial (filter is_live rays) hi (Every-filter _ is_live rays hr)))))
  where
    same : filter is_live (initial ++ rays) ≡ filter is_live (initial ++ filter is_live rays)
    same = filter-append is_live is_live initial rays ∙ ap (λ r. filter is_live initial ++ r) (sym (filter-twice is_live rays)) ∙ sym (filter-append is_live is_live initial (filter is_live rays))

-- functions cut to degree n, at degree n
pub image-cut : (n m : ℕ) → n ≤ m → (ws : List Wall) (p : Point) (x : Exp) → Every Proper ws → Eq n (image ws p m x) (image (cut_walls n ws) p n x)
image-cut n m le ws p x h =
    image-refit n m le (λ w. cut n w.function) ws p x
    (Every-implies Proper (Fits n m le (λ w. cut n w.function)) ws (λ w q. record { proper = q; proper' = proper-cut n w q; same = Eq-sym n _ _ (cut-same n w.function) }) h)

pub cut-cuts : (n m : ℕ) → n ≤ m → (ws : List Wall) → cut_walls n (cut_walls m ws) ≡ cut_walls n ws
cut-cuts n m le [] = refl
cut-cuts n m le (w ∷ ws) = let f = cut-cut n m le w.function in let t = cut-cuts n m le ws in λ i. record { kind = w.kind; at = w.at; dir = w.dir; function = f i } ∷ t i

pub directed-cut : (n m : ℕ) (ws : List Wall) → Every (IsWall m) ws → Every (λ w. IsDirection w.dir × Proper w) (cut_walls n ws)
directed-cut n m [] h = tt
directed-cut n m (w ∷ ws) h = ((h.0.direction, proper-cut n w (proper m w h.0)), directed-cut n m ws h.1)

-- ---- the law

pub every-wall-cut : (n m : ℕ) (ws : List Wall) → Every (IsWall m) ws → Every (IsWall n) (cut_walls n ws)
every-wall-cut n m [] h = tt
every-wall-cut n m (w ∷ ws) h = (wall-cut n m w h.0, every-wall-cut n m ws h.1)

pub every-outgoing : (n : ℕ) (ws : List Wall) → Every (λ r. r.kind ≡ Outgoing) ws → Every (λ r. r.kind ≡ Outgoing) (cut_walls n ws)
every-outgoing n [] h = tt
every-outgoing n (w ∷ ws) h = (h.0, every-outgoing n ws h.1)

pub reduced-lower : (n : ℕ) (rays : List Wall) → IsReduced rays → IsReduced (filter is_live (cut_walls n rays))
reduced-lower n rays h = record { live = every-cut (λ r. IsTrue (is_live r)) is_live (cut_walls n rays) (λ r q. q); rises = pairs-filter _ is_live (cut_walls n rays) (pairs-cut n rays h.rises) }

pub lower_orders : LowerOrdersComplete
lower_orders given n m k e le lk hg c = record {
  initial = ap (cut_walls n) c.initial ∙ cut-cuts n m le given;
  outgoing = Every-filter _ is_live (cut_walls n e.rays) (every-outgoing n e.rays c.outgoing);
  proper = Every-filter _ is_live (cut_walls n e.rays) (every-wall-cut n m e.rays c.proper);
  reduced = record { live = every-cut (λ r. IsTrue (is_live r)) is_live (cut_walls n e.rays) (λ r q. q); rises = pairs-filter _ is_live (cut_walls n e.rays) (pairs-cut n e.rays c.reduced.rises) };
  consistent = λ p ip. record { x = at p axis_x (c.consistent p ip).x; y = at p axis_y (c.consistent p ip).y };
}
  where
    initial-walls : Every (IsWall m) e.initial
    initial-walls = subst (Every (IsWall m)) (sym c.initial) (every-wall-cut m k given hg)

    at : (p : Point) (x : Exp) → SameTo m (image (walls e) p m x) (monomial (z x)) → SameTo n (image (walls (lowered n e)) p n x) (monomial (z x))
    at p x h =
        from_Eq n _ _
        (Eq-trans n _ (image (cut_walls n e.initial ++ cut_walls n e.rays) p n x) _
        (Eq-sym n _ _ (live-swap n (cut_walls n e.initial) (cut_walls n e.rays) p x (directed-cut n m e.initial initial-walls) (directed-cut n m e.rays c.proper)))
        (Eq-trans n _ (image (walls e) p m x) _
        (Eq-sym n _ _ (subst (λ ws. Eq n (image (walls e) p m x) (image ws p n x)) (map-append (cut_wall n) e.initial e.rays)
        (image-cut n m le (walls e) p x (Every-append Proper e.initial e.rays (Every-implies _ Proper e.initial (λ w h. proper m w h) initial-walls) (Every-implies _ Proper e.rays (λ w h. proper m w h) c.proper)))))
        (Same-lower keys n m (image (walls e) p m x) (monomial (z x)) le (to_Eq m (image (walls e) p m x) (monomial (z x)) h))))
