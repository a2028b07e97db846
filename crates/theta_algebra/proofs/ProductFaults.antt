-- Why a product has no answer: a factor's theta, or a step.
use Rattle.std.proofs.Common.{ℕ, refl, inl, inr, List, ◌+◌, ◌*◌}
use Rattle.std.specs.Prelude.{Some, None}
use Rattle.scattering.specs.Series.{Exp}
use Rattle.scattering.specs.Plane.{Point}
use Rattle.scattering.specs.Wall.{Wall}
use Rattle.scattering.specs.Theta.{IsAskFault}
use Rattle.scattering.specs.Theta as D
use Rattle.scattering.specs.ThetaProduct.{IsProductFault, StepsFault}
use Rattle.plane_geom.specs.Shown.{point_of}
use Rattle.trunc_series.specs.Shown.{sum_of}
use Rattle.broken_lines.specs.Traced.{IsFaultBy, IsTailsFault}
use Rattle.broken_lines.specs.declared.fault.AskFault.{AskFault}
use Rattle.broken_lines.specs.declared.fault.AskFault.TheVariants.{NotYet, NotGeneric, TooManyReach, TooManyTails, PointTooLarge, WeightTooLarge, Memory}
use Rattle.theta_algebra.specs.Steps.{IsAtStage, IsBegunProduct}
use Rattle.theta_algebra.specs.declared.steps.Steps.{Steps}

module _ (ws : List Wall) (k : ℕ) (l r : Exp) (q : Point) where
  second : (f : D.AskFault) → IsAskFault ws k l q None → IsAskFault ws k r q (Some f) → IsProductFault ws k l r q (Some f)
  second f free h = inr (free, inl (f, h, refl))

  -- the first factor's theta has no fault
  pub second-fault : (f : AskFault) → IsAskFault ws k l q None → IsTailsFault ws k r q f → IsFaultBy (IsProductFault ws k l r q) f
  second-fault (NotYet n) free h = h
  second-fault (NotGeneric p) free h = second (D.NotGeneric (point_of p)) free h
  second-fault TooManyReach free h = second D.TooManyReach free h
  second-fault TooManyTails free h = second D.TooManyTails free h
  second-fault PointTooLarge free h = second D.PointTooLarge free h
  second-fault WeightTooLarge free h = second D.WeightTooLarge free h
  second-fault Memory free h = tt

  module _ (begun : Steps) (h : IsBegunProduct ws k l r q begun) where
    stepped : (f : D.AskFault) → StepsFault ws k q h.s (h.x * h.y) (Some f) → IsProductFault ws k l r q (Some f)
    stepped f i = inr (h.first, inr (h.second, (h.x, h.y, h.weighs, h.weighs_too, inr (h.light, (h.s, h.product, i)))))

    pub steps-fault : (f : AskFault) → IsFaultBy (StepsFault ws k q h.s (h.x * h.y)) f → IsFaultBy (IsProductFault ws k l r q) f
    steps-fault (NotYet n) i = i
    steps-fault (NotGeneric p) i = stepped (D.NotGeneric (point_of p)) i
    steps-fault TooManyReach i = stepped D.TooManyReach i
    steps-fault TooManyTails i = stepped D.TooManyTails i
    steps-fault PointTooLarge i = stepped D.PointTooLarge i
    steps-fault WeightTooLarge i = stepped D.WeightTooLarge i
    steps-fault Memory i = tt

    pub steps-free : (steps : Steps) → IsAtStage ws k q h.s (h.x * h.y) (k + 1) steps → IsProductFault ws k l r q None
    steps-free steps i = inr (h.first, inr (h.second, (h.x, h.y, h.weighs, h.weighs_too, inr (h.light, (h.s, h.product, (sum_of steps.family.items, steps.weight, i.runs))))))
