use Rattle.std.proofs.Common.{arith, List, map, sym, subst}
use Rattle.scatter_text.specs.declared.row.RowValue.{RowValue}
use Rattle.scatter_text.specs.Reading.{AreValuesOf}
use Rattle.scatter_text.proofs.Slots.{form-room, form-after, of-slot, spelled-slot, spelled-after, values-more, values-end}
use Rattle.scatter_text.proofs.line.values_of.Goals as goal

pub value_of-requires : goal.value_of-requires
value_of-requires c = rw c.part.ensures (of-slot (λ t. t.now) c.args.variables c.args.slots.now c.args.tokens.now c.loop-slot.slot-index c.loop-slot.start c.token_count-count.result _ c.loop-slot-test.true c.token_count-count.ensures c.loop-slot.invariant.form)

pub returns-in-None : goal.returns-in-None
returns-in-None c = λ spelled.
    let none = rw c.in-None.is at c.in_ok-value.ensures in
    none
    (rw c.part.ensures (spelled-slot (λ t. t.now) c.args.variables c.args.slots.now c.args.tokens.now c.loop-slot.slot-index c.loop-slot.start c.token_count-count.result _ c.loop-slot-test.true c.token_count-count.ensures (c.loop-slot.invariant.spelled spelled)))

pub loop-slot-preserved : goal.loop-slot-preserved
loop-slot-preserved c =
    let room = form-room (λ t. t.now) c.args.variables c.args.slots.now c.args.tokens.now c.loop-slot.slot-index c.loop-slot.start c.token_count-count.result _ c.loop-slot-test.true c.token_count-count.ensures c.loop-slot.invariant.form in
    let form = form-after (λ t. t.now) c.args.variables c.args.slots.now c.args.tokens.now c.loop-slot.slot-index c.loop-slot.start c.token_count-count.result _ c.loop-slot-test.true c.token_count-count.ensures c.loop-slot.invariant.form in
    let spelled = spelled-after (λ t. t.now) c.args.variables c.args.slots.now c.args.tokens.now c.loop-slot.slot-index c.loop-slot.start c.token_count-count.result _ c.loop-slot-test.true c.token_count-count.ensures in
    let more = values-more (λ t. t.now) c.args.variables c.args.slots.now c.args.tokens.now c.loop-slot.slot-index c.loop-slot.start c.token_count-count.result _ c.loop-slot-test.true c.token_count-count.ensures in
    record {
      within = omega (arith, room, c.loop-slot.invariant.within);
      form = form;
      spelled = λ h. spelled (c.loop-slot.invariant.spelled h);
      said = more (map (λ t. t.now) c.args.tokens.now) c.loop-slot.values.items c.push.new.self.items c.in-Some.value c.in_ok-push-in-Some.ensures.items (rw c.part.ensures at (rw c.in-Some.is at c.in_ok-value.ensures)) c.loop-slot.invariant.said;
    }

pub returns : goal.returns
returns c =
    let P : List RowValue → Type 0 = λ values. AreValuesOf c.args.variables c.args.slots.now (map (λ t. t.now) c.args.tokens.now) values in
    subst P (sym c.from_vec.ensures) (values-end c.args.variables c.args.slots.now (map (λ t. t.now) c.args.tokens.now) c.loop-slot.slot-index _ c.loop-slot.values.items c.loop-slot-test.false c.loop-slot.invariant.form c.loop-slot.invariant.said)
