use Rattle.std.proofs.Common.{rules}
use Rattle.scatter_text.proofs.Spelling.{not-read, short-read}
use Rattle.scatter_text.proofs.number.read_coordinate.Goals as goal

pub returns-in-Some : goal.returns-in-Some
returns-in-Some c = short-read c.args.token.now c.in-Some.q.num c.in-Some.q.den c.in-Some.q.lowest (search rules) (search rules) c.in-Some.ensures c.short.result c.short.ensures

pub returns-in-None : goal.returns-in-None
returns-in-None c = not-read c.args.token.now c.in-None.ensures
