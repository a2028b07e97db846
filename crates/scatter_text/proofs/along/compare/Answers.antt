use Rattle.std.proofs.Common.{rules, length, ap, ◌≡◌, ◌∙◌}
use Rattle.std.specs.Ordering.{nat_cmp, ordering_then}
use Rattle.std.specs.declared.cmp.Ordering.{Ordering}
use Rattle.scatter_text.proofs.SortedRows.{compared}
use Rattle.scatter_text.proofs.along.compare.Goals as goal

pub returns : goal.returns
returns c =
    let h : length c.args.r.now.powers ≡ 8 = search rules in
    let i : length c.args.s.now.powers ≡ 8 = search rules in
    c.then.ensures ∙ ap (λ (o : Ordering). ordering_then o c.cmp-2.result) c.cmp.ensures ∙ ap (ordering_then (nat_cmp c.args.r.now.j c.args.s.now.j)) c.cmp-2.ensures ∙ compared c.args.r.now c.args.s.now h i
