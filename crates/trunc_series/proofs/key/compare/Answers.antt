use Rattle.std.proofs.Common.{rules, length, ◌≡◌, ◌∙◌}
use Rattle.trunc_series.proofs.KeyOrder.{cmp-order}
use Rattle.trunc_series.proofs.key.compare.Goals as goal

pub returns : goal.returns
returns c =
    let h : length c.args.k.now.powers ≡ 8 = search rules in
    let i : length c.args.l.now.powers ≡ 8 = search rules in
    c.cmp.ensures ∙ cmp-order c.args.k.now c.args.l.now h i
