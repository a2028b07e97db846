use Rattle.std.specs.Prelude.{pos}
use Rattle.std.proofs.lemmas.Result.{on_ok_weaker}
use Rattle.trunc_series.specs.Shown.{exp_of}
use Rattle.wall_auto.proofs.TakenTerms.{starts-within}
use Rattle.wall_auto.proofs.by_degree.SumByDegree.start.Goals as goal

pub returns-clause-within : goal.returns-clause-within
returns-clause-within c = on_ok_weaker c.start_with.result (starts-within (exp_of c.args.m.now) (pos 1) c.start_with.new.self) c.start_with.ensures.within
