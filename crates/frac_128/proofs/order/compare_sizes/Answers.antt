use Rattle.std.proofs.Common.{sym, ◌∙◌, rules}
use Rattle.frac_128.proofs.Rests.{cmp-rests, cmp-no_rest, cmp-wholes}
use Rattle.frac_128.proofs.order.compare_sizes.Goals as goal

pub returns-then-rest-eq0 : goal.returns-then-rest-eq0
returns-then-rest-eq0 c =
    c.cmp.ensures
    ∙ cmp-no_rest _ _ c.loop-a.b c.loop-a.d c.loop-a.invariant.b c.loop-a.invariant.d c.then-rest-eq0.either
    ∙ sym (cmp-rests c.loop-a.a c.loop-a.b c.loop-a.c c.loop-a.d c.loop-a-test.true)
    ∙ c.loop-a.invariant.same

pub loop-a-preserved : goal.loop-a-preserved
loop-a-preserved c = record {
  b = search rules;
  d = search rules;
  same = sym (cmp-rests c.loop-a.a c.loop-a.b c.loop-a.c c.loop-a.d c.loop-a-test.true) ∙ c.loop-a.invariant.same;
}

pub returns : goal.returns
returns c =
    c.cmp-2.ensures
    ∙ cmp-wholes c.loop-a.a c.loop-a.b c.loop-a.c c.loop-a.d c.loop-a.invariant.b c.loop-a.invariant.d c.loop-a-test.false
    ∙ c.loop-a.invariant.same
