use Rattle.std.proofs.Common.{rules, FitsSigned, ◌↔◌, ◌≡◌, sym, ap, subst, ℤ, nat_abs}
use Rattle.std.specs.Prelude.{IsTrue}
use Rattle.std.specs.Int.{w64}
use Rattle.std.proofs.lemmas.Int.{to_z-of_z}
use Rattle.std.proofs.lemmas.Bool.Decides.{not_from_Decides}
use Rattle.serde_json.specs.View.{view}
use Rattle.frac_128.proofs.Reading.{nothing}
use Rattle.scatter_text.specs.Values.{AreCoprime}
use Rattle.scatter_json.specs.JsonForm.{SaysWhole}
use Rattle.scatter_json.proofs.OneReading.{pair-none, pair-at, pair-of, whole-one, undirected}
use Rattle.scatter_json.proofs.lines.direction.Goals as goal

pub returns-in_err-dx : goal.returns-in_err-dx
returns-in_err-dx c = nothing c.from_residual.result _ _ c.from_residual.ensures (λ p h. pair-none SaysWhole (view c.args.value.now) p.0 p.1 c.in_err-dx.ensures h.says)

pub returns-in_err-dx-2 : goal.returns-in_err-dx-2
returns-in_err-dx-2 c = nothing c.from_residual-in_err-dx-2.result _ _ c.from_residual-in_err-dx-2.ensures (λ p h. c.in_err-dx-2.ensures p.0 (pair-at SaysWhole (view c.args.value.now) _ _ p.0 p.1 c.in_ok-dx.ensures h.says).0)

pub returns-in_err-dy : goal.returns-in_err-dy
returns-in_err-dy c = nothing c.from_residual-in_err-dy.result _ _ c.from_residual-in_err-dy.ensures (λ p h. c.in_err-dy.ensures p.1 (pair-at SaysWhole (view c.args.value.now) _ _ p.0 p.1 c.in_ok-dx.ensures h.says).1)

pub returns-then-is_primitive : goal.returns-then-is_primitive
returns-then-is_primitive c =
    let dx : FitsSigned w64 c.in_ok-dx-2.dx = search rules in
    let dy : FitsSigned w64 c.in_ok-dy.dy = search rules in
    let is : IsTrue c.is_primitive.result ↔ AreCoprime (nat_abs c.in_ok-dx-2.dx) (nat_abs c.in_ok-dy.dy) = simp to_z-of_z at c.is_primitive.ensures in
    simp to_z-of_z record {
      says = pair-of SaysWhole (view c.args.value.now) _ _ c.in_ok-dx-2.dx c.in_ok-dy.dy c.in_ok-dx.ensures c.in_ok-dx-2.ensures c.in_ok-dy.ensures;
      primitive = is.0 (search rules);
    }

pub returns-else-is_primitive : goal.returns-else-is_primitive
returns-else-is_primitive c =
    let dx : FitsSigned w64 c.in_ok-dx-2.dx = search rules in
    let dy : FitsSigned w64 c.in_ok-dy.dy = search rules in
    let is : IsTrue c.is_primitive.result ↔ AreCoprime (nat_abs c.in_ok-dx-2.dx) (nat_abs c.in_ok-dy.dy) = simp to_z-of_z at c.is_primitive.ensures in
    λ p h. undirected (view c.args.value.now) _ _ c.in_ok-dx-2.dx c.in_ok-dy.dy p c.in_ok-dx.ensures c.in_ok-dx-2.ensures c.in_ok-dy.ensures (not_from_Decides c.is_primitive.result is (search rules)) h
