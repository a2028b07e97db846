use Rattle.std.proofs.Common.{rules, FitsSigned, ◌≡◌, ◌∙◌, refl, sym, subst, ℤ}
use Rattle.std.specs.Prelude.{pos}
use Rattle.std.specs.Int.{w64}
use Rattle.std.proofs.lemmas.Int.{to_z-of_z}
use Rattle.serde_json.specs.View.{view}
use Rattle.scatter_text.specs.Values.{AreLineRows}
use Rattle.scatter_json.proofs.FileLines.{positive, valid-lines, file-said, file-none, no-asks}
use Rattle.scatter_json.proofs.reading.file.Goals as goal

pub returns-in_default : goal.returns-in_default
returns-in_default c = λ f k. c.in_default.ensures k.lines k.scatter k.vars k.members

pub invariant_of-result : goal.invariant_of-result
invariant_of-result c =
    let fits : FitsSigned w64 c.in-Some-head.vars = search rules in
    let one = to_z-of_z w64 c.in-Some-head.vars fits in
    let same : pos c.unsigned_abs.result ≡ c.in-Some-head.vars = positive c.in-Some-head.vars c.unsigned_abs.result (simp to_z-of_z at c.unsigned_abs.ensures.value) c.in-Some-head.ensures.some in
    let valid = valid-lines c.unsigned_abs.result c.in-Some-items.rows.now c.in-Some-2.lines.items (rw c.in-Some-2.is at c.in_ok-lines.ensures) in
    record {
      variables = rw to_z-of_z c.in-Some-head.ensures.some;
      valid = subst (λ (v : ℤ). AreLineRows v c.from_vec.result) (same ∙ sym one) (subst (AreLineRows (pos c.unsigned_abs.result)) (sym c.from_vec.ensures) valid);
      valid_asks = no-asks c.new.result c.new.ensures;
      settled = λ n e. absurd (cc);
    }

pub returns-in-Some-2 : goal.returns-in-Some-2
returns-in-Some-2 c =
    file-said (view c.args.value.now) _ _ _ c.in-Some-items.rows.now c.unsigned_abs.result c.in-Some-head.vars c.in-Some-2.lines.items _ c.in-Some.ensures c.in-Some-head.ensures c.in-Some-items.ensures
    (rw c.in-Some-2.is at c.in_ok-lines.ensures) (to_z-of_z w64 c.in-Some-head.vars (search rules)) c.from_vec.ensures c.new.ensures refl

pub returns-in-None : goal.returns-in-None
returns-in-None c =
    let fits : FitsSigned w64 c.in-Some-head.vars = search rules in
    let same : pos c.unsigned_abs.result ≡ c.in-Some-head.vars = positive c.in-Some-head.vars c.unsigned_abs.result (simp to_z-of_z at c.unsigned_abs.ensures.value) c.in-Some-head.ensures.some in
    λ f k.
    file-none (view c.args.value.now) _ _ _ c.in-Some-items.rows.now c.unsigned_abs.result c.in-Some-head.vars f c.in-Some.ensures c.in-Some-head.ensures c.in-Some-items.ensures same (rw c.in-None.is at c.in_ok-lines.ensures) k
