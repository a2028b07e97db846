use Rattle.std.proofs.Common.{◌≡◌, ℕ, sym, subst, ap, refl, ◌∙◌, ◌-◌, ◌+◌, ◌*◌, min, ◌++◌, arith}
use Rattle.std.specs.Prelude.{ℤ, neg_ℤ, nat_abs}
use Rattle.std.proofs.lemmas.Result.{err_from_is_err_and}
use Rattle.limits.specs.Limits.{largest_weight}
use Rattle.scattering.specs.Series.{Sum, mul}
use Rattle.scattering.specs.Wall.{walls}
use Rattle.scattering.specs.ThetaProduct.{BeginsAt}
use Rattle.plane_geom.specs.Shown.{point_of}
use Rattle.trunc_series.specs.Shown.{exp_of, key_of, sum_of}
use Rattle.trunc_series.specs.Reduced.{Terms, IsFactor, IsKeptAs}
use Rattle.trunc_series.specs.declared.arithmetic.Arithmetic.TheVariants.{Wrapping}
use Rattle.trunc_series.specs.declared.key.Key.{Key as CodeKey}
use Rattle.broken_lines.specs.Traced.{IsTailsFault}
use Rattle.theta_algebra.specs.Steps.{CanBeTaken, IsLeastDegreeAt, taken_away}
use Rattle.theta_algebra.proofs.GivenWalls.{given-nearby}
use Rattle.theta_algebra.proofs.TakenThetas.{theta-factor, taken-within}
use Rattle.theta_algebra.proofs.LightTails.{as-is}
use Rattle.theta_algebra.proofs.steps.take.Goals as goal

first : (k : ℕ) (ts us : Terms) (t : CodeKey × ℤ) (d i : ℕ) → us ≡ ts → CanBeTaken k (sum_of ts) t → IsLeastDegreeAt (sum_of us) (exp_of t.0.exp) k d → BeginsAt (sum_of ts) (exp_of t.0.exp) i → d ≡ i
first k ts us t d i e can h begins = subst (λ (vs : Terms). IsLeastDegreeAt (sum_of vs) (exp_of t.0.exp) k d) e h i can.series begins

pub returns-in_err-theta-clause-fault : goal.returns-in_err-theta-clause-fault
returns-in_err-theta-clause-fault c =
    let p = err_from_is_err_and c.from_residual.result c.from_residual.ensures.1 in
    rw (p.1, p.2) (λ i begins. subst (λ (n : ℕ). IsTailsFault (walls c.args.tracers.now.diagram) (c.args.limit - n) (exp_of c.args.t.now.0.exp) (point_of c.args.at.now) c.in_err-theta.field-0.0)
    (first c.args.limit c.args.before.family.items c.as_slice.result.now c.args.t.now c.begun_at-begun.result i c.as_slice.ensures.value c.requires.term c.begun_at-begun.ensures.least begins) c.in_err-theta.ensures.fault)

pub less-requires-clause-theta : goal.less-requires-clause-theta
less-requires-clause-theta c =
    let l = c.requires.given.limit in let b = c.requires.given.bound in
    subst (λ (f : Sum). IsFactor Wrapping f) (sym c.terms.ensures.terms)
    (theta-factor c.in_ok-theta.theta.0.order c.args.limit (key_of c.args.t.now.0) c.in_ok-theta.theta.0.terms (omega (arith, l, b)) c.requires.term.low c.terms.ensures.valid.order c.terms.ensures.valid.series c.requires.term.within
    (given-nearby c.args.tracers.now c.args.limit (c.args.limit - c.begun_at-begun.result) (exp_of c.args.t.now.0.exp) c.args.at.now c.in_ok-theta.theta.0 c.requires.given c.in_ok-theta.ensures.theta c.in_ok-theta.ensures.free c.terms.ensures.valid))

pub returns-clause-taken : goal.returns-clause-taken
returns-clause-taken c =
    let i = c.requires.term.begun in
    let e = first c.args.limit c.args.before.family.items c.as_slice.result.now c.args.t.now c.begun_at-begun.result i.0 c.as_slice.ensures.value c.requires.term c.begun_at-begun.ensures.least i.1 in
    let left : (f : Sum) → IsKeptAs Wrapping c.args.limit (sum_of c.args.before.left.items) f → IsKeptAs Wrapping c.args.limit (sum_of c.in_ok-left.left.items) (f ++ mul c.args.limit (taken_away c.args.t.now) c.in_ok-theta.theta.0.terms) =
    λ f kept. subst (λ (g : Sum). IsKeptAs Wrapping c.args.limit (sum_of c.in_ok-left.left.items) (f ++ mul c.args.limit (taken_away c.args.t.now) g)) c.terms.ensures.terms
    (c.in_ok-left.ensures f (subst (λ (ts : Terms). IsKeptAs Wrapping c.args.limit (sum_of ts) f) (sym c.as_slice-2.ensures.value) kept)) in
    record {
      family = refl;
      theta = c.in_ok-theta.theta.0.terms;
      weight = c.in_ok-theta.theta.1;
      begun = c.begun_at-begun.result;
      begins = subst (λ (d : ℕ). BeginsAt (sum_of c.args.before.family.items) (exp_of c.args.t.now.0.exp) d) (sym e) i.1;
      is = c.in_ok-theta.ensures.theta.0;
      free = c.in_ok-theta.ensures.free;
      weighs = c.in_ok-theta.ensures.weight;
      grows = c.grown-weight.ensures ∙ ap (λ (v : ℤ). min (c.args.before.weight + nat_abs v * c.in_ok-theta.theta.1) (largest_weight + 1)) (as-is c.args.t.now.1 c.requires.term.small);
      left = left;
      near = λ own near. taken-within c.args.limit (key_of c.args.t.now.0) (neg_ℤ c.args.t.now.1) c.in_ok-theta.theta.0.terms (sum_of c.args.before.left.items) (sum_of c.in_ok-left.left.items) c.requires.term.within
          (given-nearby c.args.tracers.now c.args.limit (c.args.limit - c.begun_at-begun.result) (exp_of c.args.t.now.0.exp) c.args.at.now c.in_ok-theta.theta.0 c.requires.given c.in_ok-theta.ensures.theta c.in_ok-theta.ensures.free c.terms.ensures.valid) near (left (sum_of c.args.before.left.items) own);
    }
