use Rattle.std.proofs.Common.{rules, ◌<◌, ◌≤◌, arith, ◌∙◌}
use Rattle.power_tables.proofs.Entries.{parts-set, set-length}
use Rattle.power_tables.proofs.values.add_parts.Goals as goal

pub loop-j-preserved : goal.loop-j-preserved
loop-j-preserved c =
    let b = c.requires.count in
    let o = c.requires.room in
    let r = c.loop-j.invariant.room in
    let h : c.loop-j.j < c.args.count = search rules in
    record {
      room = set-length c.loop-j.values.items c.loop-j.j c.combine.new.values ∙ c.loop-j.invariant.room;
      values = λ n f h0. parts-set c.args.rule n c.args.parts.now c.loop-j.values.items c.loop-j.j c.index-parts-j.result c.combine.new.values (omega (arith, b, h)) (omega (arith, o, r, h)) c.index-parts-j.is (c.loop-j.invariant.values n f h0) (c.in_ok-combine.ensures n f);
    }

pub returns : goal.returns
returns c = λ n f h j l. let g : c.args.count ≤ c.loop-j.j = search rules in c.loop-j.invariant.values n f h j (omega (arith, l, g))
