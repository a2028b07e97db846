use Rattle.std.proofs.Common.{rules, ◌≡◌, ◌+◌, ◌≤◌, ◌^◌, ℕ, ℤ, List, Vec, get_or, sym, subst, ap, ◌∙◌, arith}
use Rattle.std.specs.Global.{Global}
use Rattle.power_tables.specs.Kept.{numbers_of}
use Rattle.power_tables.specs.Rows.{IsFullRow}
use Rattle.power_tables.specs.Binomials.{rows_in}
use Rattle.power_tables.proofs.RowSteps.{rows-at, kept-rows}
use Rattle.power_tables.proofs.rows.row_of.Goals as goal

pub returns : goal.returns
returns c =
    let o : c.args.m ≤ 2 ^ 17 = search rules in
    let k = kept-rows c.args.family c.args.binomials.now c.requires.binomials in
    let w : IsFullRow c.args.family (0 + c.args.m) (numbers_of (get_or (rows_in c.args.family c.args.binomials.now) c.args.m c.index-rows_of-m.result)) =
    rows-at c.args.family 0 c.args.m (rows_in c.args.family c.args.binomials.now) c.index-rows_of-m.result (c.requires.made.near o) k in
    let e : get_or (rows_in c.args.family c.args.binomials.now) c.args.m c.index-rows_of-m.result ≡ c.index-rows_of-m.result =
    ap (λ (rows : List (Vec ℤ Global)). get_or rows c.args.m c.index-rows_of-m.result) (sym c.rows_of.ensures) ∙ sym c.index-rows_of-m.is in
    rw c.as_slice-2.ensures.value
    (subst (λ (i : ℕ). IsFullRow c.args.family i (numbers_of c.index-rows_of-m.result)) (let z : 0 + c.args.m ≡ c.args.m = omega arith in z)
    (subst (λ (d : Vec ℤ Global). IsFullRow c.args.family (0 + c.args.m) (numbers_of d)) e w))
