use Rattle.std.proofs.Common.{◌≡◌, ℕ, refl, sym, subst, List, [], ◌∷◌, ◌++◌}
use Rattle.scattering.specs.LocalProduct.{Half, axis_x, axis_y}
use Rattle.scattering.specs.Series.{Exp, Sum, monomial, z}
use Rattle.weight_theory.proofs.Stages.{carry-append}
use Rattle.weight_bounds.specs.Masses.{BoundsByDegree}
use Rattle.weight_bounds.specs.Tables.{SeenMassTable, IsMassTable}
use Rattle.weight_bounds.specs.Rows.{crossed_masses}
use Rattle.weight_bounds.specs.Bounds.{SeenBound, BoundsSum, BoundsImages, IsClosed, HasMassTable, ReachesHalf, majorant_of}
use Rattle.weight_bounds.proofs.Crossed.{bounds-crossed}
use Rattle.weight_bounds.proofs.bound.WeightBound.cross.Goals as goal

-- one more half-wall
crossed-images : (b b' : SeenBound) (t : SeenMassTable) (hs : List Half) (h : Half) → b'.order ≡ b.order → b'.reach ≡ b.reach → IsClosed b.order b.reach
    → ((d : Exp) (f : Sum) (v : ℕ → ℕ) → IsMassTable b.order d f t → BoundsByDegree b.order b.masses v → BoundsByDegree b.order b'.masses (crossed_masses t.size b.reach f v))
    → HasMassTable b.order t h → ReachesHalf b.order b.reach h → BoundsImages b hs → BoundsImages b' (hs ++ h ∷ [])
crossed-images b b' t hs h o r closed step is reached images = record { x = one axis_x images.x; y = one axis_y images.y }
  where
    one : (m : Exp) → BoundsSum b (majorant_of b.order hs m) → BoundsSum b' (majorant_of b'.order (hs ++ h ∷ []) m)
    one m i =
        subst (λ (k : ℕ). BoundsSum b' (majorant_of k (hs ++ h ∷ []) m)) (sym o)
        (subst (λ (g : Sum). BoundsSum b' g) (sym (carry-append b.order hs (h ∷ []) (monomial (z m))))
        (bounds-crossed b b' h.wall.dir h.wall.function (majorant_of b.order hs m) t o r closed reached is (λ v. step h.wall.dir h.wall.function v is) i))

pub returns-clause-images : goal.returns-clause-images
returns-clause-images c hs h is reached images =
    crossed-images (record { order = c.self.inside.order; reach = c.self.inside.reach; masses = c.self.inside.masses })
    (record { order = c.self.inside.order; reach = c.self.inside.reach; masses = c.cross_masses.new.masses }) c.args.table.now hs h refl refl c.self.invariant.2 c.cross_masses.ensures
    (subst (λ (b : SeenBound). HasMassTable b.order c.args.table.now h) (sym c.self.view_is) is) (subst (λ (b : SeenBound). ReachesHalf b.order b.reach h) (sym c.self.view_is) reached)
    (subst (λ (b : SeenBound). BoundsImages b hs) (sym c.self.view_is) images)
