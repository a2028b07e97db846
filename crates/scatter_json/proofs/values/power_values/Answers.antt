use Rattle.scatter_json.specs.JsonText.{natural}
use Rattle.scatter_json.proofs.WrittenValues.{value-more, all-said}
use Rattle.scatter_json.proofs.values.power_values.Goals as goal

pub loop-power-preserved : goal.loop-power-preserved
loop-power-preserved c = value-more natural c.args.powers.now c.loop-power.power-index _ c.loop-power.values.items c.push.new.self.items c.from.result c.loop-power-test.true c.loop-power.invariant c.in_ok-push.ensures.items c.from.ensures

pub returns : goal.returns
returns c = all-said natural c.args.powers.now c.loop-power.power-index c.loop-power.values.items c.loop-power-test.false c.loop-power.invariant
