-- The bends that a tail may go on with: each stands where the stretch crosses a live wall, and has the key of a term there.
use Rattle.std.proofs.Common.{◌≡◌, ◌≢◌, ℕ, refl, sym, ap, subst, ◌≤◌, Bool, true, false, List}
use Rattle.std.specs.Prelude.{pos, nat_abs, IsFalse}
use native.Mathlib.Decide.{dec_le}
use Rattle.limits.specs.Limits.{largest_coordinate}
use Rattle.scattering.specs.Collections.{In, Every}
use Rattle.scattering.specs.Series.{Exp, Term, origin, degree, coef}
use Rattle.scattering.specs.Plane.{Point, IsPoint, IsNear, Beyond}
use Rattle.scattering.specs.Wall.{Wall, cut_walls}
use Rattle.scattering.specs.ActivePoint.{is_special}
use Rattle.scattering.specs.BrokenLine.{Bend, IsBend, bend_majorant}
use Rattle.scattering.specs.Tail.{Extends}
use Rattle.scattering.proofs.Determined.{coef-find}
use Rattle.broken_line_theory.proofs.Bends.{IsTame}
use Rattle.broken_line_theory.proofs.BendWalls.{bend-wall, live-out}
use Rattle.broken_line_theory.proofs.Crossings.{is-zero-or-not, ahead-or-not, crossed-moves, IsCrossing, crossings}
use Rattle.broken_line_theory.proofs.Listings.{Listing, both, denied, decided-as, elements, listed-as, choose, images, joins}

-- ---- where a next bend stands

pub record BendCrossing (ws : List Wall) (b : ℕ) (p : Point) (x : Exp) (c : Bend) : Type 0 where
  pub wall : Wall
  pub of : In wall (cut_walls b ws)
  pub crosses : IsCrossing (cut_walls b ws) p x wall c.at
  pub term : Term
  pub among : In term (bend_majorant b (cut_walls b ws) c.at x)
  pub key : term.0 ≡ c.key

pub bend-crossing : (ws : List Wall) (b : ℕ) (p : Point) (x : Exp) (c : Bend) → Every IsTame (cut_walls b ws) → Extends ws b p x c → BendCrossing ws b p x c
bend-crossing ws b p x c tame h =
    let w = bend-wall b (cut_walls b ws) c.at x c.key tame h.plain h.bend.degree h.bend.key in
    let t = coef-find (bend_majorant b (cut_walls b ws) c.at x) c.key h.bend.key in
    record {
      wall = w.wall;
      of = (live-out (cut_walls b ws) c.at w.wall w.on).0;
      crosses = (h.bend.point, h.ahead, w.on, w.crosses);
      term = t.0;
      among = t.1;
      key = t.2;
    }

-- ---- which of these are next bends

pub is-false-or-not : (b : Bool) → Dec (IsFalse b)
is-false-or-not true = no (λ e. cc)
is-false-or-not false = yes refl

pub is-near-or-not : (p : Point) → Dec (IsNear p)
is-near-or-not p =
    decided-as ((nat_abs p.x ≤ largest_coordinate) × ((nat_abs p.y ≤ largest_coordinate) × (nat_abs p.w ≤ largest_coordinate))) (IsNear p)
    (λ h. (h.0, h.1.0, h.1.1)) (λ h. (h.0, (h.1, h.2)))
    (both (dec_le (nat_abs p.x) largest_coordinate) (both (dec_le (nat_abs p.y) largest_coordinate) (dec_le (nat_abs p.w) largest_coordinate)))

is-bend-or-not : (n : ℕ) (ws : List Wall) (x : Exp) (c : Bend) → IsPoint c.at → Dec (IsBend n ws x c)
is-bend-or-not n ws x c i =
    decided-as ((1 ≤ degree c.key) × (coef (bend_majorant n ws c.at x) c.key ≢ pos 0)) (IsBend n ws x c)
    (λ h. record { point = i; degree = h.0; key = h.1 }) (λ h. (h.degree, h.key))
    (both (dec_le 1 (degree c.key)) (denied (is-zero-or-not (coef (bend_majorant n ws c.at x) c.key))))

extends-or-not : (ws : List Wall) (b : ℕ) (p : Point) (x : Exp) (c : Bend) → IsPoint p → IsPoint c.at → x ≢ origin → Dec (Extends ws b p x c)
extends-or-not ws b p x c i j n =
    decided-as (Beyond p x c.at × (IsNear c.at × (IsFalse (is_special (cut_walls b ws) c.at) × IsBend b (cut_walls b ws) x c))) (Extends ws b p x c)
    (λ h. record { ahead = h.0; near = h.1.0; plain = h.1.1.0; bend = h.1.1.1 }) (λ h. (h.ahead, (h.near, (h.plain, h.bend))))
    (both (ahead-or-not p x c.at i j n) (both (is-near-or-not c.at) (both (is-false-or-not (is_special (cut_walls b ws) c.at)) (is-bend-or-not b (cut_walls b ws) x c j))))

-- ---- all next bends

module _ (ws : List Wall) (b : ℕ) (tame : Every IsTame (cut_walls b ws)) (points : Every (λ w. IsPoint w.at) (cut_walls b ws)) where
  abbrev IsCrossed : Point → Exp → Point → Type 0
  IsCrossed p x r = (w : Wall) × In w (cut_walls b ws) × IsCrossing (cut_walls b ws) p x w r

  -- it stands at a crossing, with the key of a term
  abbrev IsCandidate : Point → Exp → Bend → Type 0
  IsCandidate p x c = (r : Point) × IsCrossed p x r × ((t : Term) × In t (bend_majorant b (cut_walls b ws) r x) × (c ≡ record { at = r; key = t.0 }))

  candidates : (p : Point) (x : Exp) → IsPoint p → Listing (IsCandidate p x)
  candidates p x i =
      joins (IsCrossed p x) (λ r c. (t : Term) × In t (bend_majorant b (cut_walls b ws) r x) × (c ≡ record { at = r; key = t.0 }))
      (λ r h. images (λ t. In t (bend_majorant b (cut_walls b ws) r x)) (λ t. record { at = r; key = t.0 }) (elements (bend_majorant b (cut_walls b ws) r x)))
      (crossings (cut_walls b ws) points p i x)

  pub next-bends : (p : Point) (x : Exp) → IsPoint p → Listing (Extends ws b p x)
  next-bends p x i =
      listed-as (λ c. IsCandidate p x c × Extends ws b p x c) (Extends ws b p x) (λ c h. h.1) (λ c h. (candidate c h, h))
      (choose (IsCandidate p x) (Extends ws b p x) decide (candidates p x i))
    where
      candidate : (c : Bend) → Extends ws b p x c → IsCandidate p x c
      candidate c h = let k = bend-crossing ws b p x c tame h in (c.at, (k.wall, k.of, k.crosses), (k.term, k.among, (λ j. record { at = c.at; key = sym k.key j })))

      decide : (c : Bend) → IsCandidate p x c → Dec (Extends ws b p x c)
      decide c h =
          let e : h.0 ≡ c.at = sym (ap (λ (d : Bend). d.at) h.2.2) in
          extends-or-not ws b p x c i (subst IsPoint e h.1.2.0) (crossed-moves h.1.0.dir x h.1.2.3)
