use Rattle.std.proofs.Common.{arith, ◌<◌, ◌^◌}
use Rattle.std.specs.Prelude.{nat_abs}
use Rattle.trunc_series.proofs.Terms.{Every-at}
use Rattle.trunc_series.proofs.power.negated.Goals as goal

pub opposite-requires : goal.opposite-requires
opposite-requires c = Every-at (λ t. nat_abs t.1 < 2 ^ 127) c.args.terms.now c.loop-t.t-index (omega arith) c.requires
