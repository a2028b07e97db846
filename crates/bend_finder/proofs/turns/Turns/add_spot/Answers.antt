use Rattle.std.proofs.Common.{◌++◌, ◌∷◌, [], sym, subst}
use Rattle.scattering.proofs.Lists.{map-append}
use Rattle.plane_geom.specs.Shown.{point_of}
use Rattle.trunc_series.specs.Shown.{exp_of}
use Rattle.bend_finder.specs.Ahead.{bends_of}
use Rattle.bend_finder.specs.Bends.{IsFirstSpecial}
use Rattle.bend_finder.specs.Marks.{AreOfOrderAhead, IsSpot, marked}
use Rattle.bend_finder.proofs.PointBends.{special-none, first-plain, first-special}
use Rattle.bend_finder.proofs.PowerMajorants.{orders-at_least}
use Rattle.bend_finder.proofs.MarkedSpots.{part-order, first-of, bends-here, special-here}
use Rattle.bend_finder.proofs.turns.Turns.add_spot.Goals as goal

pub add_turns-requires-clause-order : goal.add_turns-requires-clause-order
add_turns-requires-clause-order c =
    let o = c.requires.order in
    orders-at_least c.args.most o.0 c.in-Some-plain_among.walls.now o.1 (c.in-Some-plain_among.ensures.order o.0 (subst (AreOfOrderAhead o.0 c.args.along.now) (sym c.split_at.ensures.front) (part-order o.0 c.args.along.now c.args.marks.now c.count_at-count.result o.2)))

pub returns-in-None-clause-bends : goal.returns-in-None-clause-bends
returns-in-None-clause-bends c = λ ls qs s k b h.
    let ms = c.args.marks.now in
    let m = c.in-Some.first.now in
    let n = c.count_at-count.result in
    let first = first-of ms m c.in-Some.ensures.item.3.0 c.in-Some.ensures.item.1 in
    let spot = subst (IsSpot ls (point_of m.at) c.args.along.now) (sym c.split_at.ensures.front) (s n m first.0 first.1 c.count_at-count.ensures) in
    let bs = bends_of c.args.self.now.bends.items in
    bends-here ms m first n c.count_at-count.ensures c.args.most ls (exp_of c.args.x) qs bs (special-none c.args.most ls (exp_of c.args.x) qs (point_of m.at) bs (c.in-None.ensures.walls ls spot) h)

pub returns-in-None-clause-special : goal.returns-in-None-clause-special
returns-in-None-clause-special c = λ ls ps s b h.
    let ms = c.args.marks.now in
    let m = c.in-Some.first.now in
    let n = c.count_at-count.result in
    let first = first-of ms m c.in-Some.ensures.item.3.0 c.in-Some.ensures.item.1 in
    let spot = subst (IsSpot ls (point_of m.at) c.args.along.now) (sym c.split_at.ensures.front) (s n m first.0 first.1 c.count_at-count.ensures) in
    subst (IsFirstSpecial ls (ps ++ marked _)) (sym c.or-self.ensures)
    (special-here ms m first n c.count_at-count.ensures ls ps _ (first-special ls ps (ps ++ m.at ∷ []) m.at (map-append point_of ps (m.at ∷ [])) (c.in-None.ensures.walls ls spot) (b m first.0 first.1) c.args.self.now.special h))

pub returns-in_err-add_turns-in-Some-plain_among-clause-kept : goal.returns-in_err-add_turns-in-Some-plain_among-clause-kept
returns-in_err-add_turns-in-Some-plain_among-clause-kept c = λ ls s k.
    let ms = c.args.marks.now in
    let m = c.in-Some.first.now in
    let n = c.count_at-count.result in
    let first = first-of ms m c.in-Some.ensures.item.3.0 c.in-Some.ensures.item.1 in
    let spot = subst (IsSpot ls (point_of m.at) c.args.along.now) (sym c.split_at.ensures.front) (s n m first.0 first.1 c.count_at-count.ensures) in
    c.add_turns.ensures.kept ls (c.in-Some-plain_among.ensures.run ls spot) k

pub returns-in_ok-add_turns-in-Some-plain_among-clause-bends : goal.returns-in_ok-add_turns-in-Some-plain_among-clause-bends
returns-in_ok-add_turns-in-Some-plain_among-clause-bends c = λ ls qs s k b h.
    let ms = c.args.marks.now in
    let m = c.in-Some.first.now in
    let n = c.count_at-count.result in
    let first = first-of ms m c.in-Some.ensures.item.3.0 c.in-Some.ensures.item.1 in
    let spot = subst (IsSpot ls (point_of m.at) c.args.along.now) (sym c.split_at.ensures.front) (s n m first.0 first.1 c.count_at-count.ensures) in
    bends-here ms m first n c.count_at-count.ensures c.args.most ls (exp_of c.args.x) qs _
    (c.in_ok-add_turns-in-Some-plain_among.ensures.bends ls qs (c.in-Some-plain_among.ensures.walls ls spot) (c.in-Some-plain_among.ensures.run ls spot) k (b m first.0 first.1) h)

pub returns-in_ok-add_turns-in-Some-plain_among-clause-special : goal.returns-in_ok-add_turns-in-Some-plain_among-clause-special
returns-in_ok-add_turns-in-Some-plain_among-clause-special c = λ ls ps s b h.
    let ms = c.args.marks.now in
    let m = c.in-Some.first.now in
    let n = c.count_at-count.result in
    let first = first-of ms m c.in-Some.ensures.item.3.0 c.in-Some.ensures.item.1 in
    let spot = subst (IsSpot ls (point_of m.at) c.args.along.now) (sym c.split_at.ensures.front) (s n m first.0 first.1 c.count_at-count.ensures) in
    special-here ms m first n c.count_at-count.ensures ls ps _ (first-plain ls ps (ps ++ m.at ∷ []) m.at (map-append point_of ps (m.at ∷ [])) (c.in-Some-plain_among.ensures.walls ls spot).0 c.args.self.now.special h)

pub returns-in_ok-add_turns-in-Some-plain_among-clause-kept : goal.returns-in_ok-add_turns-in-Some-plain_among-clause-kept
returns-in_ok-add_turns-in-Some-plain_among-clause-kept c = λ ls s k.
    let ms = c.args.marks.now in
    let m = c.in-Some.first.now in
    let n = c.count_at-count.result in
    let first = first-of ms m c.in-Some.ensures.item.3.0 c.in-Some.ensures.item.1 in
    let spot = subst (IsSpot ls (point_of m.at) c.args.along.now) (sym c.split_at.ensures.front) (s n m first.0 first.1 c.count_at-count.ensures) in
    c.in_ok-add_turns-in-Some-plain_among.ensures.kept ls (c.in-Some-plain_among.ensures.run ls spot) k
