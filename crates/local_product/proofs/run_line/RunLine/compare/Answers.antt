use Rattle.std.proofs.Common.{◌^◌, ◌∙◌, arith}
use Rattle.std.specs.Ordering.{int_cmp}
use mir.Syntax.{w128}
use Rattle.frac_128.proofs.SignedProducts.{product-fits}
use Rattle.plane_geom.proofs.Casts.{back128}
use Rattle.local_product.proofs.RunLines.{near, raised}
use Rattle.local_product.proofs.run_line.RunLine.compare.Goals as goal

pub overflow_mul-first : goal.overflow_mul-first
overflow_mul-first c =
    let l = c.args.self.now in
    let m = c.args.other.now in
    product-fits w128 _ _ l.over m.under (2 ^ 81) (2 ^ 40) (back128 l.over l.over_bound) (near c.from.result m.under c.from.ensures m.under_bound) l.over_bound m.under_bound (omega arith)

pub overflow_mul-other : goal.overflow_mul-other
overflow_mul-other c =
    let l = c.args.self.now in
    let m = c.args.other.now in
    product-fits w128 _ _ m.over l.under (2 ^ 81) (2 ^ 40) (back128 m.over m.over_bound) (near c.from-2.result l.under c.from-2.ensures l.under_bound) m.over_bound l.under_bound (omega arith)

pub returns : goal.returns
returns c =
    let l = c.args.self.now in
    let m = c.args.other.now in
    let first = raised l.over c.from.result m.under l.over_bound m.under_bound c.from.ensures in
    let second = raised m.over c.from-2.result l.under m.over_bound l.under_bound c.from-2.ensures in
    c.cmp.ensures ∙ (λ i. int_cmp (first i) (second i))
