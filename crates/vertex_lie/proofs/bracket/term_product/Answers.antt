use Rattle.std.proofs.Common.{refl, rules, FitsSigned}
use Rattle.std.specs.Int.{w128}
use Rattle.std.proofs.lemmas.Int.{to_z-of_z}
use Rattle.std.proofs.lemmas.Option.{IfSome_then}
use Rattle.vertex_lie.specs.Shown.{ratio_of}
use Rattle.vertex_lie.proofs.AddedTerms.{fraction-ratio}
use Rattle.vertex_lie.proofs.PairProducts.{product-value, product-fits, fits-product}
use Rattle.vertex_lie.proofs.bracket.term_product.Goals as goal

pub returns-clause-value : goal.returns-clause-value
returns-clause-value c =
    let f : FitsSigned w128 c.determinant.result = search rules in
    IfSome_then c.checked_mul-2.result c.checked_mul-2.ensures.product (λ p h.
    product-value (ratio_of c.args.t.now.1) (ratio_of c.args.u.now.1) (ratio_of c.in_ok-c.c) (ratio_of c.new.result) _ (fraction-ratio c.args.t.now.1) (fraction-ratio c.args.u.now.1) (fraction-ratio c.in_ok-c.c) (fraction-ratio c.new.result)
    c.in_ok-c.ensures.product (rw (to_z-of_z w128 c.determinant.result f, c.determinant.ensures.value) at c.new.ensures) p.num p.den h)

pub returns-clause-fits : goal.returns-clause-fits
returns-clause-fits c =
    let f : FitsSigned w128 c.determinant.result = search rules in (
      λ s. (
        c.in_ok-c.ensures.fits.0 refl,
        product-fits (ratio_of c.args.t.now.1) (ratio_of c.args.u.now.1) (ratio_of c.in_ok-c.c) (ratio_of c.new.result) _ (fraction-ratio c.args.t.now.1) (fraction-ratio c.args.u.now.1) (fraction-ratio c.in_ok-c.c) (fraction-ratio c.new.result)
            c.in_ok-c.ensures.product (rw (to_z-of_z w128 c.determinant.result f, c.determinant.ensures.value) at c.new.ensures) (c.checked_mul-2.ensures.fits.0 s),
      ),
      λ p. c.checked_mul-2.ensures.fits.1
          (fits-product (ratio_of c.args.t.now.1) (ratio_of c.args.u.now.1) (ratio_of c.in_ok-c.c) (ratio_of c.new.result) _ (fraction-ratio c.args.t.now.1) (fraction-ratio c.args.u.now.1) (fraction-ratio c.in_ok-c.c) (fraction-ratio c.new.result)
          c.in_ok-c.ensures.product (rw (to_z-of_z w128 c.determinant.result f, c.determinant.ensures.value) at c.new.ensures) p.1),
    )
