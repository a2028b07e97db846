use Rattle.std.proofs.Common.{rules, ◌≡◌, ◌-◌, ◌<◌, suc, length, get_or, to_z, of_z, ◌∙◌, pos, negsuc, ◌*ℤ◌, ◌+ℤ◌, arith}
use Rattle.std.proofs.lemmas.Int.{to_z-of_z}
use mir.Syntax.{w128}
use Rattle.trunc_series.specs.Arithmetic.{kept}
use Rattle.trunc_series.specs.declared.arithmetic.Arithmetic.TheVariants.{Wrapping, Saturating}
use Rattle.power_tables.proofs.RowSteps.{above, below, multisets}
use Rattle.power_tables.proofs.rows.next_number.Goals as goal

pub returns-in-Above-clause-number : goal.returns-in-Above-clause-number
returns-in-Above-clause-number c =
    let l = c.requires.inside in
    let n = c.if-r-eq0.false in
    let p : suc (c.args.r - 1) ≡ c.args.r = search rules in
    let k : c.args.r - 1 < length c.args.row.now = omega (arith, l) in
    let q : to_z w128 (of_z w128 c.sum.result) ≡ kept Wrapping (get_or c.args.row.now c.args.r (pos 0) +ℤ get_or c.args.row.now (c.args.r - 1) (pos 0)) = to_z-of_z w128 c.sum.result (search rules) ∙ c.sum.ensures in
    rw c.in-Above.is (λ m h g. q ∙ above m (c.args.r - 1) c.args.r (get_or c.args.row.now c.args.r (pos 0)) (get_or c.args.row.now (c.args.r - 1) (pos 0)) p (h c.args.r l) (h (c.args.r - 1) k))

pub returns-in-Below-clause-number : goal.returns-in-Below-clause-number
returns-in-Below-clause-number c =
    let l = c.requires.inside in
    let d = c.requires.made in
    let n = c.if-r-eq0.false in
    let p : suc (c.args.r - 1) ≡ c.args.r = search rules in
    let k : c.args.r - 1 < length c.args.next.now = omega (arith, d, p) in
    let z : to_z w128 (of_z w128 c.product-less.result) ≡ kept Wrapping (get_or c.args.next.now (c.args.r - 1) (pos 0) *ℤ negsuc 0) = to_z-of_z w128 c.product-less.result (search rules) ∙ c.product-less.ensures in
    let q : to_z w128 (of_z w128 c.sum-in-Below.result) ≡ kept Wrapping (get_or c.args.row.now c.args.r (pos 0) +ℤ to_z w128 (of_z w128 c.product-less.result)) = to_z-of_z w128 c.sum-in-Below.result (search rules) ∙ c.sum-in-Below.ensures in
    rw c.in-Below.is
    (λ m h g. q ∙ below m (c.args.r - 1) c.args.r (get_or c.args.row.now c.args.r (pos 0)) (get_or c.args.next.now (c.args.r - 1) (pos 0)) (to_z w128 (of_z w128 c.product-less.result)) p (h c.args.r l) (g (c.args.r - 1) k) z)

pub returns-in-Multisets-clause-number : goal.returns-in-Multisets-clause-number
returns-in-Multisets-clause-number c =
    let l = c.requires.inside in
    let d = c.requires.made in
    let n = c.if-r-eq0.false in
    let p : suc (c.args.r - 1) ≡ c.args.r = search rules in
    let k : c.args.r - 1 < length c.args.next.now = omega (arith, d, p) in
    let q : to_z w128 (of_z w128 c.sum-in-Multisets.result) ≡ kept Saturating (get_or c.args.row.now c.args.r (pos 0) +ℤ get_or c.args.next.now (c.args.r - 1) (pos 0)) = to_z-of_z w128 c.sum-in-Multisets.result (search rules) ∙ c.sum-in-Multisets.ensures in
    rw c.in-Multisets.is
    (λ m h g. q ∙ multisets m (c.args.r - 1) c.args.r (get_or c.args.row.now c.args.r (pos 0)) (get_or c.args.next.now (c.args.r - 1) (pos 0)) p (h c.args.r l) (g (c.args.r - 1) k))
