use Rattle.std.proofs.Common.{rules}
use Rattle.std.specs.Prelude.{nat_abs}
use Rattle.power_tables.proofs.Entries.{parts-same}
use Rattle.power_tables.proofs.RowSteps.{row-factors}
use Rattle.power_tables.proofs.values.extend.Goals as goal

pub returns-clause-entry : goal.returns-clause-entry
returns-clause-entry c =
    c.in_ok-add_parts.ensures c.args.entry.now.exponent
    (row-factors c.args.rule c.args.entry.now.exponent c.family_of-family.result (nat_abs c.args.entry.now.exponent) c.row_of-row.result.now c.family_of-family.ensures.rule
    (search rules) (search rules))
    (parts-same c.args.rule c.args.entry.now.exponent c.args.parts.now c.args.entry.now.filled c.args.entry.now.parts.items c.make_room.new.values.items c.in_ok-make_room.ensures.values c.requires.entry)
