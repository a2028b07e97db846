use Rattle.std.proofs.Common.{◌≡◌, ◌-◌, ◌∷◌, ◌++◌, List, Option, Some, option_to_list, length, sym, ap, ◌∙◌, arith}
use Rattle.std.proofs.lemmas.List.{length-map}
use Rattle.std.proofs.lemmas.List.Elements.{All-cons, All-same}
use Rattle.std.proofs.lemmas.List.FromFn.{length-range_with_len}
use Rattle.joint_board.specs.Seen.{SeenKept}
use Rattle.joint_board.specs.Gathering.{IsWhole}
use Rattle.joint_board.proofs.Joining.{first_seat, joins_first, kept_within, late_seat, whole_seat}
use Rattle.joint_board.proofs.Results.{placed-append, placed-length}
use Rattle.joint_board.proofs.gathering.place_all.Goals as goal

pub unwrap-requires : goal.unwrap-requires
unwrap-requires g c =
    let workers = c.args.table.now.shared.key.workers in
    let l = ap length c.requires.kept.numbers in
    let r = length-range_with_len 0 (workers - 0) in
    let m = length-map c.args.kept.items (λ (k : SeenKept g.row.T.Denot). k.seat.number) in
    let some = c.requires.some in
    c.pop_front.ensures.variant.1 (omega (arith, c.args.kept.ok, c.from-others.ensures.1, l, r, m, some))

first_kept : {T : Type 0} (r : Option T) (x : T) (xs ys zs : List T) → zs ≡ xs → zs ≡ option_to_list r ++ ys
    → r ≡ Some x → xs ≡ x ∷ ys
first_kept r x xs ys zs e h s = let k : zs ≡ x ∷ ys = rw s at h in sym e ∙ k

pub place-requires : goal.place-requires
place-requires g c =
    let e = first_kept _ _ _ _ _ c.from-others.ensures.0 c.pop_front.ensures.items c.unwrap.ensures in
    let s = first_seat _ _ _ _ _ e c.requires.kept in
    let p = c.into_parts-seat.ensures in
    kept_within _ c.unwrap.result _ p.results p.numbers (ap (λ b. b.tasks) s.0 ∙ sym c.requires.slots)

pub join_all-requires-clause-first : goal.join_all-requires-clause-first
join_all-requires-clause-first g c =
    let e = first_kept _ _ _ _ _ c.from-others.ensures.0 c.pop_front.ensures.items c.unwrap.ensures in
    let s = first_seat _ _ _ _ _ e c.requires.kept in
    let p = c.into_parts-seat.ensures in
    let f = c.into_seat-first.ensures in
    joins_first _ _ _ _ f.seat (f.seen ∙ p.seat) s.0 s.1 p.done

pub join_all-requires-clause-others : goal.join_all-requires-clause-others
join_all-requires-clause-others g c =
    let e = first_kept _ _ _ _ _ c.from-others.ensures.0 c.pop_front.ensures.items c.unwrap.ensures in
    (first_seat _ _ _ _ _ e c.requires.kept).2

pub join_all-requires-clause-slots : goal.join_all-requires-clause-slots
join_all-requires-clause-slots g c =
    ap (λ xs. length xs) c.place.ensures ∙ (placed-length c.into_parts-seat.result.1.items c.args.slots.items ∙ c.requires.slots)

pub returns-clause-whole : goal.returns-clause-whole
returns-clause-whole g c =
    let e = first_kept _ _ _ _ _ c.from-others.ensures.0 c.pop_front.ensures.items c.unwrap.ensures in
    let p = c.into_parts-seat.ensures in
    let f = c.into_seat-first.ensures in
    let late = late_seat _ _ _ f.seat (f.seen ∙ p.seat) in
    let whole = whole_seat c.unwrap.result late p.done p.numbers in
    All-same IsWhole _ _ e (All-cons IsWhole c.unwrap.result _ whole c.join_all.ensures.whole)

pub returns-clause-slots : goal.returns-clause-slots
returns-clause-slots g c =
    let e = first_kept _ _ _ _ _ c.from-others.ensures.0 c.pop_front.ensures.items c.unwrap.ensures in
    let k = c.unwrap.result in
    rw (c.join_all.ensures.slots, c.place.ensures, c.into_parts-seat.ensures.results, e)
    (sym (placed-append k.results _ c.args.slots.items))

pub returns-clause-once : goal.returns-clause-once
returns-clause-once g c x less =
    let e = first_kept _ _ _ _ _ c.from-others.ensures.0 c.pop_front.ensures.items c.unwrap.ensures in
    let j = c.join_all.ensures in
    let f = c.into_seat-first.ensures in
    let seen = f.seen ∙ c.into_parts-seat.ensures.seat in
    let once = c.settle.ensures x (rw j.joined.tasks_are less) in
    rw (e, ← ap (λ t. t.drawn) seen, ← j.drawn) once
