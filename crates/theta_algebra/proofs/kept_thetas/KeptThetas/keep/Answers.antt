use Rattle.std.proofs.Common.{sym, subst}
use Rattle.trunc_series.specs.Shown.{Seen}
use Rattle.broken_lines.specs.Growth.{exp_cmp}
use Rattle.broken_lines.proofs.Growths.{exact-exp}
use Rattle.theta_algebra.specs.declared.kept_thetas.KeptTheta.{KeptTheta}
use Rattle.theta_algebra.specs.KeptThetas.{IsKeptTheta}
use Rattle.bend_finder.proofs.KeptMaps.{put-has, same-has}
use Rattle.theta_algebra.proofs.kept_thetas.KeptThetas.keep.Goals as goal

pub returns-in_err-insert : goal.returns-in_err-insert
returns-in_err-insert c ws q kept new =
    same-has exp_cmp (IsKeptTheta ws q) c.args.self.now.thetas c.insert.new.self c.in_err-insert.ensures.err kept

pub returns : goal.returns
returns c ws q kept new =
    let value : Seen → KeptTheta = λ s. record { limit = c.args.limit; theta = s; weight = c.args.weighed.now.1 } in
    put-has exp_cmp (IsKeptTheta ws q) c.args.self.now.thetas c.insert.new.self exact-exp c.args.m (value c.in_ok-theta.theta) c.in_ok-insert.ensures.updates
    (subst (λ (s : Seen). IsKeptTheta ws q c.args.m (value s)) (sym c.in_ok-theta.ensures) new) kept
