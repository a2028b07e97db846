use Rattle.order_machine.proofs.ReaderLaws.{below_newest, pins_are_seen}
use Rattle.order_machine.proofs.laws.readers_never_go_back.Goals as goal

pub returns-clause-seen : goal.returns-clause-seen
returns-clause-seen c = pins_are_seen

pub returns-clause-newest : goal.returns-clause-newest
returns-clause-newest c = below_newest
