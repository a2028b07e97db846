use Rattle.std.proofs.Common.{◌<◌, sym, ap, subst, length, ℕ, List}
use Rattle.joint_finder.specs.declared.strands.Strand.{Strand}
use Rattle.scattering.specs.Collections.{Every}
use Rattle.scattering.proofs.Lists.{Every-at}
use Rattle.joint_finder.specs.Strands.{IsFacing, IsRow}
use Rattle.joint_finder.proofs.Lists.{In-get}
use Rattle.joint_finder.proofs.RowPoints.{every-other}
use Rattle.joint_finder.proofs.rows.row_at.Goals as goal

pub others_at-requires : goal.others_at-requires
others_at-requires c = λ t. subst (λ (k : ℕ). c.args.place < k) (ap length (sym (c.requires.again t))) c.requires.place

pub row-requires : goal.row-requires
row-requires c =
    let s = c.index-ss-place.result in
    rw c.others_at.ensures
    (every-other c.args.again (IsFacing c.args.order s) c.args.place c.args.ts.now
    (Every-at (λ s. Every (IsFacing c.args.order s) c.args.ts.now) c.args.ss.now s c.requires.facing (In-get c.args.ss.now c.args.place s c.requires.place c.index-ss-place.is)))

pub returns : goal.returns
returns c =
    let s = c.index-ss-place.result in
    (s, c.index-ss-place.is, subst (λ (us : List Strand). IsRow c.args.order s us c.row.result) c.others_at.ensures c.row.ensures)
