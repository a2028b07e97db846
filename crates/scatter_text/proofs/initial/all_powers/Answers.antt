-- Each power is cast without loss.
use Rattle.std.proofs.Common.{◌+◌, ◌∙◌, ℕ, subst, sym, arith, get_or}
use Rattle.std.specs.Prelude.{pos}
use Rattle.std.proofs.Math.ListN.{set}
use Rattle.scatter_text.specs.GivenWalls.{power_at}
use Rattle.scatter_text.proofs.Powers.{AreSet, set-more, set-all, cast-power}
use Rattle.scatter_text.proofs.RowPowers.{gathered}
use Rattle.scatter_text.proofs.initial.all_powers.Goals as goal

pub loop-i-preserved : goal.loop-i-preserved
loop-i-preserved c =
    let given = get_or c.args.given.now c.loop-i.i (pos 0) in
    let small = c.requires.small c.loop-i.i (pos 0) c.loop-i-test.true in
    subst (λ (n : ℕ). AreSet (set c.loop-i.powers c.loop-i.i n) c.args.given.now (c.loop-i.i + 1)) (sym (c.unsigned_abs.ensures.value ∙ cast-power given small))
    (set-more c.loop-i.powers c.args.given.now c.loop-i.i c.loop-i.invariant (let few = c.requires.count in omega (arith, few, c.loop-i-test.true)))

pub returns : goal.returns
returns c = gathered (λ i. get_or c.loop-i.powers i 0) (power_at c.args.given.now) (λ i lt. set-all c.loop-i.powers c.args.given.now c.loop-i.i c.loop-i.invariant c.loop-i-test.false i)
