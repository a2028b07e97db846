use Rattle.std.proofs.Common.{◌∙◌, ap, List, Vec, [], map, length, slice_index_or}
use Rattle.std.specs.Prelude.{ℤ}
use Rattle.std.specs.Global.{Global}
use Rattle.power_tables.specs.Kept.{numbers_of}
use Rattle.power_tables.proofs.Entries.{room-more}
use Rattle.power_tables.proofs.values.make_room.Goals as goal

pub grow-preserved : goal.grow-preserved
grow-preserved c = λ j.
    ap (λ (vs : List (Vec ℤ Global)). slice_index_or (map numbers_of vs) j []) c.in_ok-push.ensures.items
    ∙ room-more c.grow.values.items c.new.result j (ap length c.new.ensures.items) ∙ c.grow.invariant j
