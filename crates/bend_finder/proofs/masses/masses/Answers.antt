use Rattle.std.proofs.Common.{◌∙◌, ap, [], ◌∷◌, length, get_or, length-append, arith}
use Rattle.trunc_series.specs.Shown.{sum_of}
use Rattle.bend_finder.proofs.TermMasses.{masses-more}
use Rattle.bend_finder.proofs.masses.masses.Goals as goal

pub loop-degree-preserved : goal.loop-degree-preserved
loop-degree-preserved c =
    let ms = c.loop-degree.masses.items in
    let e = c.in_ok-push.ensures.items in
    record {
      count = let a = ap length e in let b = length-append ms (c.mass.result ∷ []) in let n = c.loop-degree.invariant.count in omega (arith, a, b, n);
      each = λ d l. ap (λ xs. get_or xs d 0) e ∙ masses-more (sum_of c.args.terms.now) ms c.loop-degree.degree c.mass.result c.loop-degree.invariant.count c.loop-degree.invariant.each c.mass.ensures d l;
    }
