use Rattle.std.proofs.Common.{◌≡◌, ℕ, All, ◌+◌, ◌<◌, ◌++◌, ◌∷◌, [], suc, take, length, get_or, List, ap, ◌∙◌, arith}
use Rattle.std.proofs.Math.Seq.{take-suc}
use Rattle.std.proofs.lemmas.List.Elements.{All-get_or}
use Rattle.order_machine.specs.declared.event.Event.{Event}
use Rattle.order_machine.specs.declared.event.Event.TheVariants.{Begin}
use Rattle.order_machine.specs.declared.event.Reply.{Reply}
use Rattle.order_machine.specs.History.{IsNamed}
use Rattle.order_machine.specs.Seen.{SeenState}
use Rattle.order_machine.specs.Steps.{AreOfOneSize, IsStep, IsRun}
use Rattle.order_machine.proofs.EventLists.{run_more, sizes_join, cut_off}
use Rattle.order_machine.proofs.runs.run.Goals as goal

-- one event more, as the loop has it
one_more : (s mid t : SeenState) (events : List Event) (place : ℕ) (replies : List Reply) (r : Reply) → place < length events → All (λ e. IsNamed s.workers (length s.readers) e) events → AreOfOneSize s mid → IsRun s (take place events) replies mid → IsStep mid (get_or events place (Begin 0)) r t → IsRun s (take (place + 1) events) (replies ++ r ∷ []) t
one_more s mid t events place replies r less named sizes run step =
    let next : take (place + 1) events ≡ take place events ++ get_or events place (Begin 0) ∷ [] =
    let n : place + 1 ≡ suc place = omega arith in ap (λ (k : ℕ). take k events) n ∙ take-suc events place (Begin 0) less in
    run_more s mid t events place (get_or events place (Begin 0)) replies r next (All-get_or (λ e. IsNamed s.workers (length s.readers) e) events place (Begin 0) less named) sizes run step

pub returns-then-not-is_noted-clause-run : goal.returns-then-not-is_noted-clause-run
returns-then-not-is_noted-clause-run c =
    let less = c.loop-place-test.true in
    cut_off _ _ _ (c.loop-place.place + 1) _ (omega arith) (one_more _ _ _ c.args.events.now c.loop-place.place _ _ less c.requires.named c.loop-place.invariant.sizes c.loop-place.invariant.run c.in-Ok.ensures.step)

pub loop-place-preserved : goal.loop-place-preserved
loop-place-preserved c =
    let less = c.loop-place-test.true in
    let items : c.is_noted.new.replies.items ≡ c.loop-place.replies.items ++ c.in-Ok.reply ∷ [] = c.is_noted.ensures c.if-not-is_noted.false in record {
      sizes = sizes_join _ _ _ c.loop-place.invariant.sizes c.in-Ok.ensures.sizes;
      run = rw items (one_more _ _ _ c.args.events.now c.loop-place.place _ _ less c.requires.named c.loop-place.invariant.sizes c.loop-place.invariant.run c.in-Ok.ensures.step);
    }
