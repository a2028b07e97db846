use Rattle.std.proofs.Common.{sym}
use Rattle.bend_finder.specs.KeptRuns.{run_key_cmp, AreKeptFor}
use Rattle.bend_finder.proofs.KeptMaps.{taken-has}
use Rattle.bend_finder.proofs.kept_runs.taken_powers.Goals as goal

pub returns-in-Some-clause-powers : goal.returns-in-Some-clause-powers
returns-in-Some-clause-powers c = λ ls g all named. all c.args.key c.in-Some.kept (sym c.in-Some.ensures.value) g named

pub returns-in-Some-clause-rest : goal.returns-in-Some-clause-rest
returns-in-Some-clause-rest c = λ ls all. taken-has run_key_cmp (AreKeptFor ls) c.args.runs.now c.remove.new.self c.args.key c.remove.ensures.updates all

pub returns-in-None-clause-powers : goal.returns-in-None-clause-powers
returns-in-None-clause-powers c = λ ls g all named. c.new.ensures g

pub returns-in-None-clause-rest : goal.returns-in-None-clause-rest
returns-in-None-clause-rest c = λ ls all. taken-has run_key_cmp (AreKeptFor ls) c.args.runs.now c.remove.new.self c.args.key c.remove.ensures.updates all
