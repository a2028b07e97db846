use Rattle.std.proofs.Common.{◌≡◌, ◌+◌, append_assoc, length, refl, sym, ap, ◌∙◌, arith}
use Rattle.std.proofs.lemmas.List.{length-map}
use Rattle.std.proofs.lemmas.List.Elements.{All-cons, All-same}
use Rattle.joint_board.specs.Gathering.{IsWhole}
use Rattle.joint_board.proofs.Joining.{first_seat, joined_all, joins_next, kept_within, late_seat, whole_seat}
use Rattle.joint_board.proofs.Numbers.{range_ended}
use Rattle.joint_board.proofs.Results.{placed-append, placed-length}
use Rattle.joint_board.proofs.gathering.join_all.Goals as goal

pub place-requires : goal.place-requires
place-requires g c =
    let i = c.loop-other.invariant in
    let s = first_seat _ _ _ _ _ c.in-Some.ensures.items i.others in
    let p = c.into_parts-seat.ensures in
    kept_within _ c.in-Some.other _ p.results p.numbers (ap (λ b. b.tasks) s.0 ∙ sym i.tasks)

pub loop-other-preserved : goal.loop-other-preserved
loop-other-preserved g c =
    let i = c.loop-other.invariant in
    let k = c.in-Some.other in
    let e = c.in-Some.ensures.items in
    let s = first_seat _ _ _ _ _ e i.others in
    let p = c.into_parts-seat.ensures in
    let seen = c.into_seat.ensures.seen ∙ p.seat in
    let late = late_seat _ _ _ c.into_seat.ensures.seat seen in
    let whole = whole_seat k late p.done p.numbers in
    let v = c.loop-other.first.me.0 in
    let w = c.into_seat.result.me.0 in
    let j = c.join.ensures in record {
      next = i.next + 1;
      table = rw (j.table, j.first) (record {
        one = i.table.one;
        same = i.table.same;
        empty = refl;
        live = i.table.live;
      });
      joined = rw j.first (joins_next _ i.next v w i.joined (ap (λ t. t.number) seen ∙ s.1));
      others = s.2;
      tasks = ap (λ xs. length xs) c.place.ensures ∙ (placed-length c.into_parts-seat.result.1.items c.loop-other.slots.items ∙ i.tasks);
      drawn = rw (j.first, append_assoc, ap (λ t. t.drawn) seen) (rw e at i.drawn);
      whole = λ h. i.whole (All-same IsWhole _ _ e (All-cons IsWhole k _ whole h));
      slots = rw (c.place.ensures, p.results) (sym (placed-append k.results _ c.loop-other.slots.items) ∙ rw e at i.slots);
    }

pub returns-clause-joined : goal.returns-clause-joined
returns-clause-joined g c =
    let i = c.loop-other.invariant in
    let none = c.in_default.ensures in
    let len : length c.loop-other.others.items ≡ 0 = omega (arith, c.loop-other.others.ok, none.cases.0) in
    joined_all _ i.next _ i.joined (range_ended _ i.next _ (length-map c.loop-other.others.items (λ k. k.seat.number) ∙ len) i.others.numbers)
