use Rattle.std.proofs.Common.{rules, FitsSigned}
use Rattle.std.specs.Int.{w64}
use Rattle.std.proofs.lemmas.Int.{to_z-of_z}
use Rattle.serde_json.specs.View.{view}
use Rattle.scatter_json.specs.JsonForm.{SaysWhole}
use Rattle.scatter_json.proofs.OneReading.{term-of, term-at, values-say}
use Rattle.scatter_json.proofs.terms.term.Goals as goal

pub returns-in-Some-2 : goal.returns-in-Some-2
returns-in-Some-2 c =
    term-of (view c.args.value.now) _ _ _ c.in-Some-items.powers.now _ c.in-Some-number.c c.in-Some-whole.j c.in-Some-2.powers.items c.in-Some.ensures c.in-Some-number.ensures c.in-Some-whole.ensures c.in-Some-items.ensures
    (rw c.in-Some-2.is at c.in_ok-powers.ensures) (to_z-of_z w64 c.in-Some-number.c (search rules)) (to_z-of_z w64 c.in-Some-whole.j (search rules)) c.from_vec.ensures

pub returns-in-None : goal.returns-in-None
returns-in-None c = λ t k.
    (rw c.in-None.is at c.in_ok-powers.ensures) t.powers
    (values-say SaysWhole (view c.in-Some.powers.now) c.in-Some-items.powers.now t.powers c.in-Some-items.ensures (term-at (view c.args.value.now) _ _ _ t c.in-Some.ensures k).exponents)
