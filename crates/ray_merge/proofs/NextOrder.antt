-- The rays of one order and what corrections of the next add: they can be joined, and make the merged diagram.
use Rattle.std.proofs.Common.{◌≡◌, ℕ, ◌+◌, ◌<◌, ◌≤◌, sym, subst, ap, ◌∙◌, ◌++◌, ◌≢◌, List, le_trans, arith}
use Rattle.std.specs.Prelude.{ℤ, nat_abs, ◌+ℤ◌}
use Rattle.std.specs.List.{sum_by}
use Rattle.scattering.specs.Collections.{In, Every}
use Rattle.scattering.specs.Series.{Exp, Key, Term, Sum, degree, origin, rest, mass_to, IsMultiple}
use Rattle.scattering.specs.Plane.{Point, IsDirection}
use Rattle.scattering.specs.Wall.{Wall, Diagram, IsWall, cut_walls}
use Rattle.scattering.specs.Correction.{Lie, Corrections, ray_coef, IsAdded, IsMerged}
use Rattle.scattering.proofs.Lists.{Every-from_In, Every-at, Every-filter, Every-implies}
use Rattle.scatter_diagram.specs.declared.wall.Wall.{Wall as CodeWall}
use Rattle.scatter_diagram.specs.Shown.{walls_of}
use Rattle.scatter_diagram.specs.Listed.{AreRays}
use Rattle.scatter_diagram.proofs.Walls.{are-walls}
use Rattle.limits.specs.Limits.{largest_weight, largest_mass}
use Rattle.trunc_series.proofs.Products.{mass-append}
use Rattle.weight_theory.specs.Laws.{AreWhole}
use Rattle.ray_merge.specs.Additions.{AreAdded, terms_along}
use Rattle.ray_merge.specs.Rays.{load, mass_along, HasNewTerms, IsJoinable, AreJoinable}
use Rattle.ray_merge.specs.Answer.{StaysWithin, StayWithin}
use Rattle.ray_merge.proofs.Along.{mass_along-low}
use Rattle.ray_merge.proofs.Functions.{mass-one, mass-split}
use Rattle.ray_merge.proofs.Values.{added-keys, added-mass}

pub next-joinable : (n m : ℕ) (cs : Corrections) (rays added : List Wall) → m + 1 ≡ n → Every (IsWall m) rays → Every (HasNewTerms n cs) added → StayWithin n cs rays → AreJoinable n rays added
next-joinable n m cs rays added next walls terms light = Every-from_In _ rays (λ r i. Every-from_In _ added (λ s j at dir. pair r s i j at dir))
  where
    pair : (r s : Wall) → In r rays → In s added → r.at ≡ s.at → r.dir ≡ s.dir → IsJoinable n r s
    pair r s i j at dir = record { distinct = Every-from_In _ (rest r.function) (λ t x. Every-from_In _ (rest s.function) (λ u y e. apart t u x y e)); light = within }
      where
        w : IsWall m r
        w = Every-at (IsWall m) rays r walls i

        new : HasNewTerms n cs s
        new = Every-at (HasNewTerms n cs) added s terms j

        apart : (t u : Term) → In t (rest r.function) → In u (rest s.function) → t.0 ≡ u.0 → ⊥
        apart t u x y e =
            let a = Every-at (λ (t : Term). degree t.0 ≤ m) (rest r.function) t (Every-filter _ _ r.function w.function.series.low) x in
            let b = Every-at (λ (u : Term). degree u.0 ≡ n) (rest s.function) u new.degrees y in
            let d : degree t.0 ≡ degree u.0 = ap degree e in
            omega (arith, a, b, d, next)

        -- the correction whose terms are those of s
        c : Point × Lie
        c = new.source.0

        terms-of : Sum
        terms-of = new.source.4.0

        mass : mass_to n (r.function ++ terms_along r.dir terms-of) ≤ largest_mass
        mass = (Every-at (λ (c : Point × Lie). StaysWithin n c.0 c.1 rays) cs c light new.source.1).old terms-of r new.source.4.1 i (at ∙ new.source.2)

        within : load n r + load n s < largest_mass
        within =
            let e = mass-split n r.function w.function.series.rises w.function.constant in
            let a = mass-append n r.function (terms_along r.dir terms-of) in
            let l : load n s ≤ mass_along n terms-of r.dir = subst (λ (d : Exp). load n s ≤ mass_along n terms-of d) (sym dir) new.source.4.2 in
            let k = mass in
            omega (arith, e, a, l, k)

pub next-merged : (given : List Wall) (e : Diagram) (cs : Corrections) (n : ℕ) (lines added : List Wall) (rays : List CodeWall) → lines ≡ cut_walls n given → AreRays n rays
    → ((p : Point) (d : Exp) (k : Key) → ray_coef (walls_of rays) p d k ≡ ray_coef e.rays p d k +ℤ ray_coef added p d k)
    → ((p : Point) (d : Exp) (k : Key) → IsDirection d → IsMultiple d k.exp → IsAdded cs p k (ray_coef added p d k))
    → IsMerged given e cs n (record { initial = lines; rays = walls_of rays })
next-merged given e cs n lines added rays i r terms adds = record {
  initial = i;
  outgoing = r.outgoing;
  proper = are-walls n rays r.order;
  reduced = r.reduced;
  added = λ p d k id g le is. (ray_coef added p d k, adds p d k id (g, le, is), terms p d k);
}

-- where the whole values of a correction sum to at most 2^126, and so do the masses of the rays from its point
pub stays-within : (n : ℕ) (p : Point) (h : Lie) (rays : List Wall) → Every (λ t. (degree t.0 ≡ n) × (t.0.exp ≢ origin)) h → ((vs : List ℤ) → AreWhole h vs → sum_by nat_abs vs ≤ largest_weight)
    → ((r : Wall) → In r rays → r.at ≡ p → mass_to n r.function ≤ largest_weight) → StaysWithin n p h rays
stays-within n p h rays degrees values masses = record {
  new = λ f a d id. let e = mass-one n (terms_along d f) in let l = added f d a in omega (arith, e, l);
  old = λ f r a i at. let e = mass-append n r.function (terms_along r.dir f) in let l = added f r.dir a in let m = masses r i at in omega (arith, e, l, m);
}
  where
    added : (f : Sum) (d : Exp) → AreAdded h f → mass_along n f d ≤ largest_weight
    added f d a = le_trans (mass_along-low n f d) (added-mass n largest_weight h f a (added-keys (λ k. degree k ≡ n) h f a (Every-implies _ _ h (λ t q. q.0) degrees)) values)
