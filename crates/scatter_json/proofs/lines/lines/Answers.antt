use Rattle.std.proofs.Common.{◌≡◌, List, [], ◌∷◌, ◌++◌, ◌+◌, take, sym, subst}
use Rattle.serde_json.specs.View.{view}
use Rattle.serde_json.specs.declared.value.Value.{Value}
use Rattle.scatter_text.specs.declared.file.LineRow.{LineRow}
use Rattle.scatter_json.specs.Parts.{SayEach, IsValidLine}
use Rattle.scatter_json.proofs.Zips.{zip-more, zip-all, zip-split}
use Rattle.scatter_json.proofs.OneReading.{line-one}
use Rattle.scatter_json.proofs.lines.lines.Goals as goal

pub returns-in-None : goal.returns-in-None
returns-in-None c = λ ls say.
    let s =
    zip-split (λ v l. IsValidLine c.args.vars (view v) l) (λ v k l h m. line-one (view v) k l h.says m.says) c.args.values.now c.loop-value.value-index c.value-item.result c.loop-value.lines.items ls c.loop-value-test.true c.value-item.is c.loop-value.invariant say in
    (rw c.in-None.is at c.in_ok-line.ensures) s.0 s.3

pub loop-value-preserved : goal.loop-value-preserved
loop-value-preserved c =
    subst (λ (ls : List LineRow). SayEach (IsValidLine c.args.vars) (take (c.loop-value.value-index + 1) c.args.values.now) ls) (sym c.in_ok-push-in-Some.ensures.items)
    (zip-more (λ v l. IsValidLine c.args.vars (view v) l) c.args.values.now c.loop-value.lines.items c.loop-value.value-index c.value-item.result c.in-Some.line c.loop-value-test.true c.value-item.is c.loop-value.invariant (rw c.in-Some.is at c.in_ok-line.ensures))

pub returns : goal.returns
returns c = zip-all (λ v l. IsValidLine c.args.vars (view v) l) c.args.values.now c.loop-value.lines.items c.loop-value.value-index c.loop-value-test.false c.loop-value.invariant
