use Rattle.std.proofs.Common.{rules, ◌≡◌, ◌+◌, ◌*◌, ◌<◌, ◌-◌, length, subst, arith}
use Rattle.std.specs.Prelude.{Result, Ok, Err, IfOk}
use Rattle.scattering.specs.Series.{Sum}
use Rattle.trunc_series.specs.Shown.{sum_of}
use Rattle.power_tables.specs.Made.{IsOthers, AreLinearParts, ArePowersFrom, AreListed, AreMadeOf}
use Rattle.power_tables.proofs.MadeParts.{linears-made, listed-made, others-alike}
use Rattle.power_tables.proofs.Powers.{powers-values}
use Rattle.power_tables.proofs.making.made_parts.Goals as goal

pub parts_of-requires-clause-values : goal.parts_of-requires-clause-values
parts_of-requires-clause-values c = rw c.as_slice.ensures.value (powers-values c.args.rule c.args.order (sum_of c.args.u.now) 1 c.in_ok-powers.powers.items c.in_ok-powers.ensures.powers)

both : {A E : Type 0} (P Q R : A → Type 0) → ((x : A) → P x → Q x → R x) → (r : Result A E) → IfOk r P → IfOk r Q → IfOk r R
both P Q R g (Ok x) p q = g x p q
both P Q R g (Err e) p q = tt

pub returns-then-least-order-clause-parts : goal.returns-then-least-order-clause-parts
returns-then-least-order-clause-parts c =
    let b : c.args.order < 2 * c.args.least = search rules in
    let w = c.requires.least in
    both (λ r. AreLinearParts (sum_of c.args.u.now) c.args.least r.items) (λ r. length r.items ≡ c.args.order + 1 - c.args.least) (λ r. AreMadeOf c.args.rule c.args.m (sum_of c.args.u.now) c.args.least r.items)
    (λ r h n f v e. linears-made c.args.rule c.args.order c.args.m f (others-alike c.args.rule c.args.m f v) c.args.least c.args.least r.items (subst (λ (u : Sum). IsOthers c.args.rule c.args.m u) e c.requires.others) c.requires.positive (omega arith) b (omega (arith, n, w))
    (subst (λ (u : Sum). AreLinearParts u c.args.least r.items) e h))
    c.linear_parts.result c.linear_parts.ensures.parts c.linear_parts.ensures.count

pub returns-clause-parts : goal.returns-clause-parts
returns-clause-parts c =
    let w = c.requires.least in
    both (λ r. AreListed c.args.rule c.in_ok-powers.powers.items c.args.least c.args.least r.items) (λ r. length r.items ≡ c.args.order + 1 - c.args.least) (λ r. AreMadeOf c.args.rule c.args.m (sum_of c.args.u.now) c.args.least r.items)
    (λ r h n f v e. listed-made c.args.rule c.args.order c.args.m f (others-alike c.args.rule c.args.m f v) c.args.least c.args.least c.in_ok-powers.powers.items r.items c.requires.positive (omega (arith, n, w)) c.in_ok-powers.ensures.count
    (subst (λ (u : Sum). ArePowersFrom c.args.rule c.args.order u 1 c.in_ok-powers.powers.items) e c.in_ok-powers.ensures.powers) h)
    c.parts_of.result (rw c.as_slice.ensures.value at c.parts_of.ensures.parts) c.parts_of.ensures.count
