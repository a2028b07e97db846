use Rattle.std.proofs.Common.{take}
use Rattle.trunc_series.specs.Shown.{exp_of, sum_of}
use Rattle.theta_algebra.proofs.TakenThetas.{IsLeastTo}
use Rattle.theta_algebra.proofs.steps.begun_at.Given as goal

abbrev pub invariant-loop-t : goal.invariant-loop-t
invariant-loop-t l = IsLeastTo (sum_of (take l.t-index l.family)) (exp_of l.r) l.limit l.least
