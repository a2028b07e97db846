use Rattle.std.proofs.Common.{◌≡◌, ◌+◌, ◌-◌, [], refl, ap, sym, ◌∙◌, arith}
use Rattle.std.proofs.lemmas.List.FromFn.{map-range_with_len_more}
use Rattle.joint_board.specs.Seen.{new_seat}
use Rattle.joint_board.specs.Rule.{after_split, shown_board}
use Rattle.joint_board.proofs.seat.all_seats.Goals as goal

pub loop-number-preserved : goal.loop-number-preserved
loop-number-preserved c =
    let i = c.loop-number.invariant in
    let s = c.split-seat.ensures in
    let k = c.loop-number.number in
    let some = i.some in
    let less = c.loop-number-test.true in
    let table = c.args.table.now.shared in
    let f = new_seat (shown_board table.table_id table.key) in
    let same : k + 1 - 1 ≡ k - 1 + 1 = omega arith in
    let next : 1 + (k - 1) ≡ k = omega arith in
    let made : c.new.result ≡ f k = c.new.ensures ∙ rw (s.seat, i.view, s.table.2, i.table) refl in record {
      table = s.table.0 ∙ i.table;
      first = s.table.1 ∙ i.first;
      view = s.first ∙ ap (λ m. (after_split m.0, [])) i.view;
      some = omega (arith, some);
      few = omega (arith, less);
      seats = rw (c.in_ok-push.ensures.items, i.seats, made, same) (sym (map-range_with_len_more f 1 (k - 1) k next));
    }
