use Rattle.power_tables.proofs.Entries.{none-filled}
use Rattle.power_tables.proofs.values.PowerValues.begin.Goals as goal

pub returns : goal.returns
returns c = λ t. none-filled t c.forget.new.entries.items c.forget.ensures
