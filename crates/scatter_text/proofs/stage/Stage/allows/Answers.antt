use Rattle.std.proofs.Common.{rules, ◌↔◌, ℤ, FitsSigned, nat_abs, subst}
use Rattle.std.specs.Prelude.{IsTrue, IfOk}
use Rattle.std.specs.Int.{w64}
use Rattle.std.proofs.lemmas.Int.{to_z-of_z}
use Rattle.scatter_text.specs.declared.file.TermRow.{TermRow}
use Rattle.scatter_text.specs.declared.file.AskRow.{AskRow}
use Rattle.scatter_text.specs.Values.{AreCoprime, HasAskValues}
use Rattle.scatter_text.specs.Grammar.{IsTermAfter}
use Rattle.scatter_text.specs.Stages.{rows_of}
use Rattle.scatter_text.proofs.AskRows.{unsettled-decided}
use Rattle.scatter_text.proofs.stage.Stage.allows.Goals as goal

pub returns-in-Line : goal.returns-in-Line
returns-in-Line c =
    let P : ℤ → ℤ → Type 0 = λ dx dy. IsTrue c.is_primitive.result ↔ AreCoprime (nat_abs dx) (nat_abs dy) in
    let first : FitsSigned w64 c.number-in-Line.result = search rules in
    let second : FitsSigned w64 c.number-in-Line-2.result = search rules in
    let dx = c.number-in-Line.ensures in
    let dy = c.number-in-Line-2.ensures in
    rw c.in-Line.is (subst (λ z. z) (λ i. P (dx i) (dy i)) (simp to_z-of_z at c.is_primitive.ensures))

pub returns-in_ok-term-in-Term : goal.returns-in_ok-term-in-Term
returns-in_ok-term-in-Term c =
    let P : TermRow → Type 0 = λ term. IfOk c.allows_term.result (λ b. IsTrue b ↔ IsTermAfter (rows_of c.args.self.now) term) in
    rw c.in-Term.is (subst P c.in_ok-term-in-Term.ensures c.allows_term.ensures)

pub returns-in-Ask : goal.returns-in-Ask
returns-in-Ask c =
    let P : AskRow → Type 0 = λ a. IsTrue c.is_ask.result ↔ HasAskValues a in
    rw c.in-Ask.is (subst P c.ask.ensures c.is_ask.ensures)

pub returns-in-Settle : goal.returns-in-Settle
returns-in-Settle c = rw c.in-Settle.is (unsettled-decided _ c.is_settled.result c.is_settled.ensures)
