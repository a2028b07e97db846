use Rattle.std.proofs.Common.{arith, ◌∙◌, List, ℕ, map, sym}
use Rattle.std.proofs.lemmas.List.{length-map}
use Rattle.std.proofs.lemmas.Bool.Decides.{Decides-eqb}
use Rattle.scatter_text.proofs.Slots.{form-placed, form-after, form-before, form-end}
use Rattle.scatter_text.proofs.Tokens.{not-true}
use Rattle.scatter_text.proofs.line.has_form.Goals as goal

pub returns-then-not-are_in_place : goal.returns-then-not-are_in_place
returns-then-not-are_in_place c =
    let placed = form-placed (λ t. t.now) c.args.variables c.args.slots.now c.args.tokens.now c.loop-slot.slot-index c.loop-slot.start c.token_count-count.result _ c.loop-slot-test.true c.token_count-count.ensures in (
      λ never. cc,
      λ h. absurd (not-true c.are_in_place.result c.if-not-are_in_place.true (c.are_in_place.ensures.1 (rw c.part.ensures (placed (c.loop-slot.invariant.decides.0 h))))),
    )

pub loop-slot-preserved : goal.loop-slot-preserved
loop-slot-preserved c =
    let later = form-after (λ t. t.now) c.args.variables c.args.slots.now c.args.tokens.now c.loop-slot.slot-index c.loop-slot.start c.token_count-count.result _ c.loop-slot-test.true c.token_count-count.ensures in
    let before = form-before (λ t. t.now) c.args.variables c.args.slots.now c.args.tokens.now c.loop-slot.slot-index c.loop-slot.start c.token_count-count.result _ c.loop-slot-test.true c.token_count-count.ensures in
    let placed = rw c.part.ensures at (c.are_in_place.ensures.0 c.if-not-are_in_place.false) in
    record {
      within = omega (arith, c.if-tokens-start.false, c.loop-slot.invariant.within);
      decides = (λ h. later (c.loop-slot.invariant.decides.0 h), λ h. c.loop-slot.invariant.decides.1 (before c.if-tokens-start.false placed h));
    }

pub returns : goal.returns
returns c =
    let texts : List (List ℕ) = map (λ t. t.now) c.args.tokens.now in
    let count = length-map c.args.tokens.now (λ t. t.now) in
    let ends = form-end c.args.variables c.args.slots.now c.loop-slot.slot-index c.loop-slot.start texts c.loop-slot-test.false (omega (arith, c.loop-slot.invariant.within, count)) in
    let same = Decides-eqb c.loop-slot.start _ in
    (λ yes. c.loop-slot.invariant.decides.1 (ends.1 (same.0 yes ∙ sym count)), λ h. same.1 (ends.0 (c.loop-slot.invariant.decides.0 h) ∙ count))
