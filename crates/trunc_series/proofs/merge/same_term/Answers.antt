use Rattle.std.proofs.Common.{◌≡◌, sym, ◌∙◌, subst, refl}
use Rattle.std.specs.declared.cmp.Ordering.TheVariants.{Equal}
use Rattle.scattering.specs.Series.{Key}
use Rattle.trunc_series.specs.Shown.{key_of}
use Rattle.trunc_series.specs.Reduced.{key_order}
use Rattle.trunc_series.proofs.Bisection.{order-equal}
use Rattle.scattering.proofs.KeyOrder.{key_before-irrefl}
use Rattle.trunc_series.proofs.merge.same_term.Goals as goal

order-self : (k l : Key) → k ≡ l → key_order k l ≡ Equal
order-self k l e = subst (λ (m : Key). key_order k m ≡ Equal) e (rw (key_before-irrefl k) refl)

pub returns-in-Equal : goal.returns-in-Equal
returns-in-Equal c =
    let k : key_of c.args.t.now.0 ≡ key_of c.args.u.now.0 = order-equal (key_of c.args.t.now.0) (key_of c.args.u.now.0) (sym c.compare.ensures ∙ c.in-Equal.is) in (
      λ h. let e = c.same_number.ensures.0 h in λ i. (k i, e i),
      λ h. c.same_number.ensures.1 (λ i. (h i).1),
    )

pub returns-in_default : goal.returns-in_default
returns-in_default c = (
  λ h. absurd (cc),
  λ h. absurd (c.in_default.not-Equal (c.compare.ensures ∙ order-self (key_of c.args.t.now.0) (key_of c.args.u.now.0) (λ i. (h i).0))),
)
