use Rattle.series_tests.proofs.ProductConditions.{near, light}
use Rattle.series_tests.proofs.binomials.square.Goals as goal

pub mul-requires-clause-near : goal.mul-requires-clause-near
mul-requires-clause-near c = near _ c.in_ok-f.ensures.terms

pub mul-requires-clause-near_too : goal.mul-requires-clause-near_too
mul-requires-clause-near_too c = near _ c.in_ok-f.ensures.terms

pub mul-requires-clause-mass : goal.mul-requires-clause-mass
mul-requires-clause-mass c = light _ _ c.in_ok-f.ensures.order c.in_ok-f.ensures.terms
