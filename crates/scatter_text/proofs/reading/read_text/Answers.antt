use Rattle.std.proofs.Common.{ℕ, ◌+◌, List, ◌≡◌, ◌∙◌, ap, sym, subst, Err, IfOk}
use Rattle.std.proofs.lemmas.List.{take_rest}
use Rattle.std.proofs.lemmas.Result.{IfOk-weaker}
use Rattle.scatter_text.specs.declared.fault.TextFault.TheVariants as text
use Rattle.scatter_text.specs.Stages.{rows_of}
use Rattle.scatter_text.specs.Grammar.{IsFaultIn, IsTextIn}
use Rattle.scatter_text.proofs.Cuts.{cut-Some, cut-no_Some}
use Rattle.scatter_text.proofs.Texts.{IsReadTo, read_to-more, fault_at_line, fault_at_end, text_of}
use Rattle.scatter_text.proofs.Outcomes.{text_is}
use Rattle.scatter_text.proofs.reading.read_text.Goals as goal

pub returns-in-Err-clause-fault : goal.returns-in-Err-clause-fault
returns-in-Err-clause-fault c = λ line kind is.
    let fault : c.at.result ≡ text.Bad line kind = cc in
    let at = c.at.ensures line kind fault in
    let cut = cut-Some 10 c.loop-end.rest.now c.in-Some.end (sym c.in-Some.is ∙ c.find_byte.ensures) in
    let P : ℕ → Type 0 = λ n. IsFaultIn c.args.mode c.args.bytes.now n kind in
    subst P (sym at.0)
    (fault_at_line c.args.mode c.args.bytes.now c.loop-end.rest.now (rows_of c.loop-end.stage) c.loop-end.number c.in-Some.end kind c.loop-end.invariant cut
    (c.next.ensures.bad kind (c.in-Err.is ∙ ap Err at.1)))

pub loop-end-preserved : goal.loop-end-preserved
loop-end-preserved c =
    let cut = cut-Some 10 c.loop-end.rest.now c.in-Some.end (sym c.in-Some.is ∙ c.find_byte.ensures) in
    let P : List ℕ → Type 0 = λ rest. IsReadTo c.args.mode c.args.bytes.now rest (rows_of c.in-Ok.more) (c.loop-end.number + 1) in
    subst P (sym (take_rest c.loop-end.rest.now (c.in-Some.end + 1)))
    (read_to-more c.args.mode c.args.bytes.now c.loop-end.rest.now (rows_of c.loop-end.stage) (rows_of c.in-Ok.more) c.loop-end.number c.in-Some.end c.loop-end.invariant cut c.in-Ok.ensures.ok)

pub returns-clause-fault : goal.returns-clause-fault
returns-clause-fault c = λ line kind is.
    let one = cut-no_Some 10 c.loop-end.rest.now c.find_byte.result c.find_byte.ensures c.in_default.not-Some in
    let bad = c.finish.ensures.bad line kind is in
    fault_at_end c.args.mode c.args.bytes.now c.loop-end.rest.now (rows_of c.loop-end.stage) c.loop-end.number line kind c.loop-end.invariant one bad.0 bad.1

is_text : (c : goal.After-finish) → IfOk c.finish.result (IsTextIn c.args.mode c.args.bytes.now)
is_text c =
    let one = cut-no_Some 10 c.loop-end.rest.now c.find_byte.result c.find_byte.ensures c.in_default.not-Some in
    IfOk-weaker c.finish.result _ _ (λ file ok. text_of c.args.mode c.args.bytes.now c.loop-end.rest.now (rows_of c.loop-end.stage) c.loop-end.number file c.loop-end.invariant one ok.0 ok.1) c.finish.ensures.ok

pub returns-clause-file : goal.returns-clause-file
returns-clause-file c = is_text c

pub returns-clause-spelling : goal.returns-clause-spelling
returns-clause-spelling c = IfOk-weaker c.finish.result _ _ (λ file is. text_is c.args.mode c.args.bytes.now file is) (is_text c)
