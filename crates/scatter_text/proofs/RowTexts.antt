-- A line that passes the tests of its tokens is good or bad by the rules on values.
use Rattle.std.proofs.Common.{inl, inr, ◌≡◌, ℕ, List, sym, ◌∙◌, subst}
use Rattle.std.specs.Prelude.{Result, Ok, Err}
use Rattle.std.specs.Result.{IsErrAnd}
use Rattle.scatter_text.specs.declared.fault.TextKind.{TextKind}
use Rattle.scatter_text.specs.declared.fault.TextKind.TheVariants.{Value}
use Rattle.scatter_text.specs.declared.grammar.TextMode.{TextMode}
use Rattle.scatter_text.specs.declared.line.LineFault.{LineFault}
use Rattle.scatter_text.specs.declared.line.LineFault.TheVariants.{Bad}
use Rattle.scatter_text.specs.declared.row.Row.{Row}
use Rattle.scatter_text.specs.Grammar.{variables_of, HasValues, Passes, Says, IsGoodLine, IsBadLine}
use Rattle.scatter_text.specs.Reading.{IsUnvaluedLine}
use Rattle.scatter_text.proofs.Slots.{row-same}

-- a line that fails only by the rules on values
pub bad_value : (mode : TextMode) (before : List Row) (line : List ℕ) (r : Row) (kind : TextKind) → IsUnvaluedLine mode before line r → ¬ HasValues before r.keyword r.values → kind ≡ Value → IsBadLine mode before line kind
bad_value mode before line r kind h refused is = inr (h.byte, inr (h.shape, inr (h.word, inr (h.count, inr (h.number, inl (none, is))))))
  where
    none : ¬ Passes mode before line Value
    none (s, says) =
        let same : s ≡ r = row-same (variables_of before) s r says.fills h.fills (sym says.text ∙ h.text) in
        let P : Row → Type 0 = λ r. HasValues before r.keyword r.values in
        refused (subst P same says.values)

pub good_line : (mode : TextMode) (before : List Row) (line : List ℕ) (r : Row) → IsUnvaluedLine mode before line r → HasValues before r.keyword r.values → IsGoodLine mode before line r
good_line mode before line r h values =
    let says : Says before line r = record { text = h.text; fills = h.fills; values = values } in
    record { passes = (h.byte, (h.shape, (h.word, (h.count, (h.number, ((r, says), tt)))))); says = says }

-- a fault that is passed on is the same
pub passed_on : {T : Type 0} (r : Result T LineFault) (fault : LineFault) (kind : TextKind) → IsErrAnd r (λ e. e ≡ fault) → r ≡ Err (Bad kind) → fault ≡ Bad kind
passed_on (Ok x) fault kind h is = absurd h
passed_on (Err e) fault kind h is = let same : e ≡ Bad kind = cc in sym h ∙ same
