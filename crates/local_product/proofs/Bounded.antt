-- The bound of a weight after one half-wall of the program more.
use Rattle.std.proofs.Common.{◌≡◌, ℕ, ◌+◌, ◌<◌, sym, subst, ap, ◌∙◌, List, [], ◌∷◌, ◌++◌, length, take, get_or, zero, suc, arith}
use Rattle.std.proofs.lemmas.List.{map_more}
use Rattle.scattering.specs.LocalProduct.{Half}
use Rattle.scattering.specs.Series.{Sum}
use Rattle.scattering.proofs.Lists.{Every-append, Every-implies}
use Rattle.weight_bounds.specs.Masses.{IsReached}
use Rattle.weight_bounds.specs.Bounds.{ReachesHalf, ReachesHalves}
use Rattle.local_product.specs.declared.half_walls.HalfWall.{HalfWall}
use Rattle.local_product.specs.Shown.{half_of, halves_of}
use Rattle.local_product.specs.Tabled.{HalfHasTables}

module _ (k : ℕ) (hs : List HalfWall) (i : ℕ) (h : HalfWall) (l : i < length hs) (e : h ≡ get_or hs i h) where
  pub one-half-more : halves_of (take (i + 1) hs) ≡ halves_of (take i hs) ++ half_of h ∷ []
  one-half-more = map_more half_of hs i h l ∙ ap (λ (u : HalfWall). halves_of (take i hs) ++ half_of u ∷ []) (sym e)

  pub reaches-more : (tables : HalfHasTables k h) (m : ℕ) (old new : List ℕ) → m ≡ k → ((f : Sum) → IsReached m old f → IsReached m new f) → ((f : Sum) → IsReached m h.masses.now.reach f → IsReached m new f)
      → ReachesHalves k old (halves_of (take i hs)) → ReachesHalves k new (halves_of (take (i + 1) hs))
  reaches-more tables m old new q more own r =
      subst (ReachesHalves k new) (sym one-half-more)
      (Every-append (ReachesHalf k new) (halves_of (take i hs)) (half_of h ∷ [])
      (Every-implies (ReachesHalf k old) (ReachesHalf k new) (halves_of (take i hs)) (λ g x. subst (λ (n : ℕ). IsReached n old g.wall.function → IsReached n new g.wall.function) q (more g.wall.function) x) r)
      (subst (λ (n : ℕ). IsReached n h.masses.now.reach h.wall.now.function.terms → IsReached n new h.wall.now.function.terms) q (own h.wall.now.function.terms) tables.1.reach, tt))

-- what reaches all half-walls reaches each, and what reaches further reaches all
pub reaches-all : (k m : ℕ) (old new : List ℕ) (hs : List Half) → m ≡ k → ((f : Sum) → IsReached m old f → IsReached m new f) → ReachesHalves k old hs → ReachesHalves k new hs
reaches-all k m old new hs q more r = Every-implies (ReachesHalf k old) (ReachesHalf k new) hs (λ g x. subst (λ (n : ℕ). IsReached n old g.wall.function → IsReached n new g.wall.function) q (more g.wall.function) x) r

pub reaches-one : (k : ℕ) (reach : List ℕ) (hs : List HalfWall) (i : ℕ) (h : HalfWall) → i < length hs → h ≡ get_or hs i h → ReachesHalves k reach (halves_of hs) → IsReached k reach h.wall.now.function.terms
reaches-one k reach [] i h l e r = absurd (omega (arith, l))
reaches-one k reach (g ∷ hs) zero h l e r = subst (λ (u : HalfWall). IsReached k reach u.wall.now.function.terms) (sym e) r.0
reaches-one k reach (g ∷ hs) (suc i) h l e r = reaches-one k reach hs i h (omega (arith, l)) e r.1
