use Rattle.std.proofs.Common.{rules, ◌≡◌, ◌++◌, ℕ, ◌<◌, length, List, zip, get_or, FitsSigned, to_z, of_z, sym, subst, ◌∙◌, ℤ, pos, ◌*ℤ◌, arith}
use Rattle.std.proofs.lemmas.Int.{to_z-of_z}
use Rattle.std.proofs.lemmas.List.{take_all}
use mir.Syntax.{w128}
use Rattle.trunc_series.specs.declared.key.Key.{Key as CodeKey}
use Rattle.trunc_series.specs.Shown.{sum_of}
use Rattle.trunc_series.specs.Arithmetic.{kept}
use Rattle.trunc_series.specs.Reduced.{Terms}
use Rattle.trunc_series.proofs.Terms.{no_term}
use Rattle.trunc_series.specs.Sums.{IsKeptValue, StandsFor}
use Rattle.trunc_series.proofs.TermLists.{products, row-ends, row-inside, row-at, row-near, row-degree, row-keepable, row-product, stands-itself, stands-step, value-kept}
use Rattle.trunc_series.proofs.adding.add_products.Goals as goal

pub loop-i-init : goal.loop-i-init
loop-i-init c = stands-itself c.args.rule (sum_of c.args.terms.now.items) c.requires.terms

pub product-c-requires-clause-y : goal.product-c-requires-clause-y
product-c-requires-clause-y c = row-keepable c.args.rule c.args.t.now c.args.keys.now c.args.values.now c.requires.lengths c.requires.row c.loop-i.i (search rules)

pub times-requires-clause-right : goal.times-requires-clause-right
times-requires-clause-right c = row-near c.args.rule c.args.t.now c.args.keys.now c.args.values.now c.requires.lengths c.requires.row c.loop-i.i (search rules)

pub times-requires-clause-degrees : goal.times-requires-clause-degrees
times-requires-clause-degrees c = let d = row-degree c.args.rule c.args.t.now c.args.keys.now c.args.values.now c.requires.lengths c.requires.row c.loop-i.i (search rules) in omega (arith, d)

pub add_term-requires-clause-value : goal.add_term-requires-clause-value
add_term-requires-clause-value c =
    let f : FitsSigned w128 c.product-c.result = search rules in
    let m : to_z w128 (of_z w128 c.product-c.result) ≡ kept c.args.rule (c.args.t.now.1 *ℤ get_or c.args.values.now c.loop-i.i (pos 0)) = to_z-of_z w128 c.product-c.result f ∙ c.product-c.ensures in
    subst (λ (y : ℤ). IsKeptValue c.args.rule y) (sym m)
    (value-kept c.args.rule (c.args.t.now.1 *ℤ get_or c.args.values.now c.loop-i.i (pos 0))
    (row-product c.args.rule c.args.t.now c.args.keys.now c.args.values.now c.requires.lengths c.requires.row c.loop-i.i (search rules)))

pub loop-i-preserved : goal.loop-i-preserved
loop-i-preserved c =
    let rule = c.args.rule in
    let t = c.args.t.now in
    let ks : List CodeKey = c.args.keys.now in
    let vs : List ℤ = c.args.values.now in
    let i : ℕ = c.loop-i.i in
    let same = c.requires.lengths in
    let row = c.requires.row in
    let h : c.loop-i.i < length c.args.keys.now = search rules in
    let f : FitsSigned w128 c.product-c.result = search rules in
    let m : to_z w128 (of_z w128 c.product-c.result) ≡ kept c.args.rule (c.args.t.now.1 *ℤ get_or c.args.values.now c.loop-i.i (pos 0)) = to_z-of_z w128 c.product-c.result f ∙ c.product-c.ensures in
    stands-step rule t (zip ks vs) i (get_or ks i no_term.0, get_or vs i (pos 0)) c.times.result (to_z w128 (of_z w128 c.product-c.result))
    (sum_of c.loop-i.terms.items) (sum_of c.add_term.new.terms.items) (sum_of c.args.terms.now.items)
    (row-inside rule t ks vs same row i h) (row-at rule t ks vs same row i h) c.times.ensures m (row-product rule t ks vs same row i h) c.loop-i.invariant c.in_ok-add_term.ensures

pub returns : goal.returns
returns c =
    subst (λ (r : Terms). StandsFor c.args.rule (sum_of c.loop-i.terms.items) (products c.args.t.now r ++ sum_of c.args.terms.now.items))
    (take_all c.loop-i.i (zip c.args.keys.now c.args.values.now) (row-ends c.args.keys.now c.args.values.now c.loop-i.i c.requires.lengths (search rules))) c.loop-i.invariant
