use Rattle.std.proofs.Common.{◌<◌, ◌≤◌, ◌++◌, length, subst, take, drop, List}
use Rattle.std.proofs.lemmas.List.{take_all}
use Rattle.trunc_series.specs.Shown.{exp_of}
use Rattle.joint_finder.specs.Joints.{points_of}
use Rattle.bend_finder.specs.declared.marks.Mark.{Mark}
use Rattle.bend_finder.specs.Ahead.{bends_of}
use Rattle.bend_finder.specs.Bends.{AreBends, IsFirstSpecial}
use Rattle.bend_finder.specs.Marks.{marked, IsFirstCount}
use Rattle.bend_finder.proofs.SortedMarks.{first-spot, before-first, turned-more, first-at, same-rest, spot-along, before-along}
use Rattle.bend_finder.proofs.turns.turns_at.Goals as goal

pub returns-in_err-start-clause-kept : goal.returns-in_err-start-clause-kept
returns-in_err-start-clause-kept c = λ ls r.
    let ms = c.args.found.now.marks.items in
    let rs = c.args.found.now.along.items in
    let i = c.loop-start.start in
    let t = c.loop-start.invariant ls r in
    let spot = spot-along ms c.as_slice-marks.result.now c.as_slice-marks.ensures.value i ls rs c.as_slice-along.result.now c.as_slice-along.ensures.value (first-spot ls c.args.kept.now rs ms r i t.before) in
    c.add_spot.ensures.kept ls spot t.kept

pub loop-start-preserved : goal.loop-start-preserved
loop-start-preserved c = λ ls r.
    let ms = c.args.found.now.marks.items in
    let rs = c.args.found.now.along.items in
    let us = c.as_slice-marks.result.now in
    let same = c.as_slice-marks.ensures.value in
    let i = c.loop-start.start in
    let n = c.in_ok-start.field-0 in
    let x = exp_of c.args.x in
    let bs = bends_of c.add_spot.new.self.bends.items in
    let o = c.add_spot.new.self.special in
    let t = c.loop-start.invariant ls r in
    let spot = spot-along ms us same i ls rs c.as_slice-along.result.now c.as_slice-along.ensures.value (first-spot ls c.args.kept.now rs ms r i t.before) in
    let before = before-along ms us same i (points_of (marked (take i ms))) (before-first ls c.args.kept.now rs ms r i t.before) in
    let first = first-at ms i (subst (λ (vs : List Mark). i < length vs) same c.loop-start-test.true) in
    let count : IsFirstCount (drop i ms) n = subst (λ (vs : List Mark). IsFirstCount vs n) (same-rest ms us same i) c.in_ok-start.ensures.count in
    turned-more ls c.args.kept.now rs ms r i t.before n first.0 first.1 first.2 (count.1 first.0 first.1 first.2) c.args.most x bs o c.add_spot.new.kept
    (subst (λ (vs : List Mark). AreBends c.args.most ls x (points_of (marked (take i ms)) ++ points_of (marked (take n vs))) bs) (same-rest ms us same i) (c.in_ok-start.ensures.bends ls (points_of (marked (take i ms))) spot t.kept before t.bends))
    (subst (λ (vs : List Mark). IsFirstSpecial ls (marked (take i ms) ++ marked (take n vs)) o) (same-rest ms us same i) (c.in_ok-start.ensures.special ls (marked (take i ms)) spot before t.special))
    (c.in_ok-start.ensures.kept ls spot t.kept)

pub returns-clause-bends : goal.returns-clause-bends
returns-clause-bends c = λ ls r.
    let ms = c.args.found.now.marks.items in
    subst (λ (us : List Mark). AreBends c.args.most ls (exp_of c.args.x) (points_of (marked us)) (bends_of c.loop-start.turns.bends.items)) (take_all c.loop-start.start ms (subst (λ (vs : List Mark). length vs ≤ c.loop-start.start) c.as_slice-marks.ensures.value c.loop-start-test.false)) (c.loop-start.invariant ls r).bends

pub returns-clause-special : goal.returns-clause-special
returns-clause-special c = λ ls r.
    let ms = c.args.found.now.marks.items in
    subst (λ (us : List Mark). IsFirstSpecial ls (marked us) c.loop-start.turns.special) (take_all c.loop-start.start ms (subst (λ (vs : List Mark). length vs ≤ c.loop-start.start) c.as_slice-marks.ensures.value c.loop-start-test.false)) (c.loop-start.invariant ls r).special

pub returns-clause-kept : goal.returns-clause-kept
returns-clause-kept c = λ ls r. (c.loop-start.invariant ls r).kept
