use Rattle.std.proofs.Common.{List, sym, subst, arith}
use Rattle.power_tables.specs.declared.values.Entry.{Entry}
use Rattle.power_tables.specs.Entries.{AreCombinedParts, AreEntries}
use Rattle.power_tables.proofs.Entries.{every-set}
use Rattle.power_tables.proofs.values.make_place.Goals as goal
use Rattle.scattering.proofs.Lists.{Every-push}

pub grow-preserved : goal.grow-preserved
grow-preserved c = λ rule parts h.
    subst (λ (es : List Entry). AreEntries rule parts es) (sym c.in_ok-push.ensures.items)
    (Every-push (λ (e : Entry). AreCombinedParts rule e.exponent parts e.filled e.parts.items) c.grow.entries.items _ (c.grow.invariant rule parts h) (λ j l. absurd (omega (arith, l))))

pub returns-clause-entries : goal.returns-clause-entries
returns-clause-entries c = λ rule parts h.
    every-set (λ (e : Entry). AreCombinedParts rule e.exponent parts e.filled e.parts.items) c.grow.entries.items c.args.place c.restart.new.entry (c.grow.invariant rule parts h) (λ j l. absurd (let z = c.restart.ensures.none in omega (arith, z, l)))
