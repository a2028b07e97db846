use Rattle.std.proofs.Common.{rules, FitsSigned, ◌≡◌, ℤ, List, [], ◌∷◌, ◌++◌, ◌+◌, take, sym, subst}
use Rattle.std.specs.Int.{w64}
use Rattle.std.proofs.lemmas.Int.{to_z-of_z}
use Rattle.serde_json.specs.View.{view}
use Rattle.serde_json.specs.declared.value.Value.{Value}
use Rattle.scatter_json.specs.JsonForm.{SaysWhole}
use Rattle.scatter_json.specs.Parts.{SayEach}
use Rattle.scatter_json.proofs.Zips.{zip-more, zip-all, zip-split}
use Rattle.scatter_json.proofs.OneReading.{whole-one}
use Rattle.scatter_json.proofs.terms.numbers.Goals as goal

abbrev Says : Value → ℤ → Type 0
Says v n = SaysWhole (view v) n

pub returns-in-None : goal.returns-in-None
returns-in-None c = λ ns say.
    let s = zip-split Says (λ v m n. whole-one (view v) m n) c.args.values.now c.loop-value.value-index c.value-item.result c.loop-value.numbers.items ns c.loop-value-test.true c.value-item.is c.loop-value.invariant say in
    c.in-None.ensures s.0 s.3

pub loop-value-preserved : goal.loop-value-preserved
loop-value-preserved c =
    let fits : FitsSigned w64 c.in-Some.n = search rules in
    let grown : c.push.new.self.items ≡ c.loop-value.numbers.items ++ c.in-Some.n ∷ [] = simp to_z-of_z at c.in_ok-push-in-Some.ensures.items in
    subst (λ (ns : List ℤ). SayEach SaysWhole (take (c.loop-value.value-index + 1) c.args.values.now) ns) (sym grown)
    (zip-more Says c.args.values.now c.loop-value.numbers.items c.loop-value.value-index c.value-item.result c.in-Some.n c.loop-value-test.true c.value-item.is c.loop-value.invariant c.in-Some.ensures)

pub returns : goal.returns
returns c = zip-all Says c.args.values.now c.loop-value.numbers.items c.loop-value.value-index c.loop-value-test.false c.loop-value.invariant
