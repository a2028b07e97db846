use Rattle.std.proofs.Common.{ap, sym, subst, ◌∙◌}
use Rattle.trunc_series.specs.Shown.{exp_of, sum_of, IsValid}
use Rattle.trunc_series.specs.Reduced.{Terms}
use Rattle.local_product.specs.Shown.{carried}
use Rattle.local_product.proofs.Images.{whole-valid, whole-series, highest-valid, highest-series}
use Rattle.local_product.proofs.carrying.image.Goals.{in-Whole+in_ok-terms-in-Whole, in-Highest+in_ok-terms-in-Highest}
use Rattle.local_product.proofs.carrying.image.Goals as goal

pub from_sorted-requires : goal.from_sorted-requires
from_sorted-requires c =
    let n = c.args.order in
    let m = exp_of c.args.m in
    let hs = c.args.halves.now in
    elim c.match-extent.branch [
      | in-Whole+in_ok-terms-in-Whole w ↦
          let ts = w.in_ok-terms-in-Whole.terms.items in
          subst (λ (r : Terms). IsValid n (sum_of r)) (sym (ap (λ v. v.items) w.terms-is))
          (whole-valid n c.requires.order m hs c.requires.mass (sum_of ts) (w.in_ok-terms-in-Whole.ensures n (carried n hs m) c.in_ok-carry.ensures.image))
      | in-Highest+in_ok-terms-in-Highest w ↦
          let ts = w.in_ok-terms-in-Highest.terms.items in
          subst (λ (r : Terms). IsValid n (sum_of r)) (sym (ap (λ v. v.items) w.terms-is))
          (highest-valid n c.requires.order m hs c.requires.mass (sum_of ts) (w.in_ok-terms-in-Highest.ensures n (carried n hs m) c.in_ok-carry.ensures.image))
    ]

pub returns-clause-image : goal.returns-clause-image
returns-clause-image c =
    let n = c.args.order in
    let m = exp_of c.args.m in
    let hs = c.args.halves.now in
    let s = c.from_sorted.result in
    let f = c.from_sorted.ensures in
    elim c.match-extent.branch [
      | in-Whole+in_ok-terms-in-Whole w ↦
          let ts = w.in_ok-terms-in-Whole.terms.items in
          rw w.in-Whole.is
          (whole-series n c.requires.order m hs c.requires.mass (sum_of ts) (w.in_ok-terms-in-Whole.ensures n (carried n hs m) c.in_ok-carry.ensures.image)
          s f.order (f.terms ∙ ap (λ v. sum_of v.items) w.terms-is))
      | in-Highest+in_ok-terms-in-Highest w ↦
          let ts = w.in_ok-terms-in-Highest.terms.items in
          rw w.in-Highest.is
          (highest-series n c.requires.order m hs c.requires.mass (sum_of ts) (w.in_ok-terms-in-Highest.ensures n (carried n hs m) c.in_ok-carry.ensures.image)
          s f.order (f.terms ∙ ap (λ v. sum_of v.items) w.terms-is))
    ]
