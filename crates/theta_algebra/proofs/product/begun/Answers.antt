use Rattle.std.proofs.Common.{◌≡◌, ℕ, sym, subst, refl, ◌<◌, ◌≤◌, ◌*◌, inl, inr, arith}
use Rattle.std.specs.Prelude.{None}
use Rattle.std.proofs.lemmas.Result.{err_from_is_err_and}
use Rattle.limits.specs.Limits.{largest_weight}
use Rattle.scattering.specs.Collections.{Every}
use Rattle.scattering.specs.Series.{Sum, degree, mul, z}
use Rattle.scattering.specs.Wall.{walls}
use Rattle.scattering.specs.Theta.{IsAskFault}
use Rattle.scattering.specs.ThetaProduct.{IsThetaWeight}
use Rattle.plane_geom.specs.Shown.{point_of}
use Rattle.plane_geom.specs.declared.Point.{Point as CodePoint}
use Rattle.trunc_series.specs.Shown.{exp_of, sum_of, Seen, IsValid}
use Rattle.trunc_series.specs.Reduced.{Terms, IsFactor, IsKeptAs}
use Rattle.trunc_series.specs.declared.arithmetic.Arithmetic.TheVariants.{Wrapping}
use Rattle.trunc_series.specs.declared.key.Exp.{Exp as CodeExp}
use Rattle.scatter_diagram.specs.Listed.{SeenDiagram}
use Rattle.broken_lines.specs.Traced.{IsTailsFault}
use Rattle.theta_algebra.specs.Families.{IsFactorExp}
use Rattle.theta_algebra.specs.KeptThetas.{AreKeptThetas}
use Rattle.theta_algebra.specs.Stages.{IsStage}
use Rattle.theta_algebra.specs.Steps.{IsKnownDiagram}
use Rattle.theta_algebra.specs.Thetas.{IsThetaOf}
use Rattle.theta_algebra.proofs.BegunProducts.{factor-within, begun-stage}
use Rattle.theta_algebra.proofs.GivenWalls.{given-nearby}
use Rattle.theta_algebra.proofs.ProductFaults.{second-fault}
use Rattle.theta_algebra.proofs.WholeProducts.{most-below, most-above}
use Rattle.theta_algebra.proofs.TakenThetas.{theta-factor}
use Rattle.theta_algebra.proofs.product.begun.Goals as goal

can-multiply : (e : SeenDiagram) (k : ℕ) (p : CodeExp) (at : CodePoint) (s : Seen) → IsKnownDiagram e k → IsFactorExp p → IsThetaOf (walls e.diagram) k (exp_of p) (point_of at) s → IsAskFault (walls e.diagram) k (exp_of p) (point_of at) None
    → IsValid s.order s.terms → IsFactor Wrapping s.terms
can-multiply e k p at s given small is free valid =
    let l = given.limit in let b = given.bound in
    theta-factor s.order k (z (exp_of p)) s.terms (omega (arith, l, b)) (omega arith) valid.order valid.series (factor-within (exp_of p) small) (given-nearby e k k (exp_of p) at s given is free valid)

pub multiplied-requires-clause-left : goal.multiplied-requires-clause-left
multiplied-requires-clause-left c =
    subst (λ (f : Sum). IsFactor Wrapping f) (sym c.terms-x.ensures.terms)
    (can-multiply c.args.tracers.now c.args.limit c.args.p c.args.at.now c.in_ok-first.first.0 c.requires.given c.requires.first c.in_ok-first.ensures.theta c.in_ok-first.ensures.free c.terms-x.ensures.valid)

pub multiplied-requires-clause-right : goal.multiplied-requires-clause-right
multiplied-requires-clause-right c =
    let theta = subst (λ (e : SeenDiagram). IsThetaOf (walls e.diagram) c.args.limit (exp_of c.args.q) (point_of c.args.at.now) c.in_ok-second.second.0) c.in_ok-first.ensures.same c.in_ok-second.ensures.theta in
    let free = subst (λ (e : SeenDiagram). IsAskFault (walls e.diagram) c.args.limit (exp_of c.args.q) (point_of c.args.at.now) None) c.in_ok-first.ensures.same c.in_ok-second.ensures.free in
    subst (λ (f : Sum). IsFactor Wrapping f) (sym c.terms-y.ensures.terms)
    (can-multiply c.args.tracers.now c.args.limit c.args.q c.args.at.now c.in_ok-second.second.0 c.requires.given c.requires.second theta free c.terms-y.ensures.valid)

pub multiplied-requires-clause-low : goal.multiplied-requires-clause-low
multiplied-requires-clause-low c =
    subst (λ (f : Sum). Every (λ t. degree t.0 ≤ c.args.limit) f) (sym c.terms-x.ensures.terms)
    (subst (λ (n : ℕ). Every (λ t. degree t.0 ≤ n) c.in_ok-first.first.0.terms) c.in_ok-first.ensures.theta.1 c.terms-x.ensures.valid.series.low)

pub weighed-requires-2-clause-limit : goal.weighed-requires-2-clause-limit
weighed-requires-2-clause-limit c = subst (λ (e : SeenDiagram). c.args.limit ≤ e.order) (sym c.in_ok-first.ensures.same) c.requires.given.limit

pub weighed-requires-2-clause-kept : goal.weighed-requires-2-clause-kept
weighed-requires-2-clause-kept c =
    subst (λ (e : SeenDiagram). AreKeptThetas (walls e.diagram) (point_of c.args.at.now) c.weighed.new.self) (sym c.in_ok-first.ensures.same) c.in_ok-first.ensures.kept

pub returns-in_err-second-clause-fault : goal.returns-in_err-second-clause-fault
returns-in_err-second-clause-fault c =
    let p = err_from_is_err_and c.from_residual-in_err-second.result c.from_residual-in_err-second.ensures.1 in
    rw (p.1, p.2) (second-fault (walls c.args.tracers.now.diagram) c.args.limit (exp_of c.args.p) (exp_of c.args.q) (point_of c.args.at.now) c.in_err-second.field-0.0 c.in_ok-first.ensures.free
    (subst (λ (e : SeenDiagram). IsTailsFault (walls e.diagram) c.args.limit (exp_of c.args.q) (point_of c.args.at.now) c.in_err-second.field-0.0) c.in_ok-first.ensures.same c.in_err-second.ensures.fault))

pub returns-in_err-second-clause-kept : goal.returns-in_err-second-clause-kept
returns-in_err-second-clause-kept c =
    subst (λ (e : SeenDiagram). AreKeptThetas (walls e.diagram) (point_of c.args.at.now) c.weighed-2.new.self) c.in_ok-first.ensures.same c.in_err-second.ensures.kept

pub returns-then-weight-gt-LARGEST_WEIGHT-clause-fault : goal.returns-then-weight-gt-LARGEST_WEIGHT-clause-fault
returns-then-weight-gt-LARGEST_WEIGHT-clause-fault c =
    let x = c.in_ok-first.first.1 in
    let y = c.in_ok-second.second.1 in
    let free = subst (λ (e : SeenDiagram). IsAskFault (walls e.diagram) c.args.limit (exp_of c.args.q) (point_of c.args.at.now) None) c.in_ok-first.ensures.same c.in_ok-second.ensures.free in
    let weighs = subst (λ (e : SeenDiagram). IsThetaWeight (walls e.diagram) c.args.limit (exp_of c.args.q) (point_of c.args.at.now) y) c.in_ok-first.ensures.same c.in_ok-second.ensures.weight in
    let heavy : largest_weight < x * y = most-above (x * y) largest_weight _ c.saturating_mul-weight.result c.saturating_mul-weight.ensures c.if-weight-gt-LARGEST_WEIGHT.true in
    inr (c.in_ok-first.ensures.free, inr (free, (x, y, c.in_ok-first.ensures.weight, weighs, inl (heavy, refl))))

pub returns-then-weight-gt-LARGEST_WEIGHT-clause-kept : goal.returns-then-weight-gt-LARGEST_WEIGHT-clause-kept
returns-then-weight-gt-LARGEST_WEIGHT-clause-kept c =
    subst (λ (e : SeenDiagram). AreKeptThetas (walls e.diagram) (point_of c.args.at.now) c.weighed-2.new.self) c.in_ok-first.ensures.same c.in_ok-second.ensures.kept

pub returns-in_err-left-clause-kept : goal.returns-in_err-left-clause-kept
returns-in_err-left-clause-kept c =
    subst (λ (e : SeenDiagram). AreKeptThetas (walls e.diagram) (point_of c.args.at.now) c.weighed-2.new.self) c.in_ok-first.ensures.same c.in_ok-second.ensures.kept

pub returns-clause-kept : goal.returns-clause-kept
returns-clause-kept c =
    subst (λ (e : SeenDiagram). AreKeptThetas (walls e.diagram) (point_of c.args.at.now) c.weighed-2.new.self) c.in_ok-first.ensures.same c.in_ok-second.ensures.kept

pub returns-clause-begun : goal.returns-clause-begun
returns-clause-begun c =
    let theta = subst (λ (e : SeenDiagram). IsThetaOf (walls e.diagram) c.args.limit (exp_of c.args.q) (point_of c.args.at.now) c.in_ok-second.second.0) c.in_ok-first.ensures.same c.in_ok-second.ensures.theta in
    let free = subst (λ (e : SeenDiagram). IsAskFault (walls e.diagram) c.args.limit (exp_of c.args.q) (point_of c.args.at.now) None) c.in_ok-first.ensures.same c.in_ok-second.ensures.free in
    let weighs = subst (λ (e : SeenDiagram). IsThetaWeight (walls e.diagram) c.args.limit (exp_of c.args.q) (point_of c.args.at.now) c.in_ok-second.second.1) c.in_ok-first.ensures.same c.in_ok-second.ensures.weight in
    let ws = walls c.args.tracers.now.diagram in
    let k = c.args.limit in
    let l = exp_of c.args.p in
    let r = exp_of c.args.q in
    let q = point_of c.args.at.now in
    let f = c.in_ok-first.first.0.terms in
    let g = c.in_ok-second.second.0.terms in
    let x = c.in_ok-first.first.1 in
    let y = c.in_ok-second.second.1 in
    let exact : x * y ≡ c.saturating_mul-weight.result = most-below (x * y) largest_weight _ c.saturating_mul-weight.result c.saturating_mul-weight.ensures (omega arith) c.if-weight-gt-LARGEST_WEIGHT.false in
    let light : x * y ≤ largest_weight = subst (λ (n : ℕ). n ≤ largest_weight) (sym exact) c.if-weight-gt-LARGEST_WEIGHT.false in
    let kept : IsKeptAs Wrapping k (sum_of c.in_ok-left.left.items) (mul k f g) =
    subst (λ (u : Sum). IsKeptAs Wrapping k (sum_of c.in_ok-left.left.items) (mul k u g)) c.terms-x.ensures.terms
    (subst (λ (u : Sum). IsKeptAs Wrapping k (sum_of c.in_ok-left.left.items) (mul k (sum_of c.terms-x.result.now) u)) c.terms-y.ensures.terms c.in_ok-left.ensures) in
    record {
      s = mul k f g;
      product = (f, g, c.in_ok-first.ensures.theta.0, theta.0, λ z low. refl);
      x = x;
      y = y;
      first = c.in_ok-first.ensures.free;
      second = free;
      weighs = c.in_ok-first.ensures.weight;
      weighs_too = weighs;
      light = light;
      reached = subst (λ (n : ℕ). IsStage ws k q (mul k f g) (x * y) 0 (sum_of c.new-family.result.items) (sum_of c.in_ok-left.left.items) n) exact
          (subst (λ (ts : Terms). IsStage ws k q (mul k f g) (x * y) 0 (sum_of ts) (sum_of c.in_ok-left.left.items) (x * y)) (sym c.new-family.ensures.items)
          (begun-stage ws k c.args.tracers.now.order q c.requires.given.proper c.args.at.now.reduced l r f g (sum_of c.in_ok-left.left.items) x y c.requires.first c.requires.second
          c.in_ok-first.ensures.free free c.in_ok-first.ensures.theta.0 theta.0 c.in_ok-first.ensures.weight weighs
          (given-nearby c.args.tracers.now k k l c.args.at.now c.in_ok-first.first.0 c.requires.given c.in_ok-first.ensures.theta c.in_ok-first.ensures.free c.terms-x.ensures.valid)
          (given-nearby c.args.tracers.now k k r c.args.at.now c.in_ok-second.second.0 c.requires.given theta free c.terms-y.ensures.valid)
          light kept));
    }
