-- The forms of inputs and of what is printed for them: lines and their completion, as text or in JSON; or lines with asks, and
-- the answers.
use Rattle.std.specs.Prelude.{ℕ, List, codes, Option}
use Rattle.scattering.specs.Wall.{Diagram}
use Rattle.scattering.specs.Stops.{StopCause}
use Rattle.scatter_text.specs.declared.file.AskRow.{AskRow}
use Rattle.scatter_text.specs.declared.file.TextFile.{TextFile}
use Rattle.scatter_text.specs.declared.fault.TextKind.{TextKind}
use Rattle.scatter_text.specs.declared.grammar.TextMode.TheVariants as mode
use Rattle.scatter_text.specs.Grammar.{IsTextIn, IsFaultIn}
use Rattle.scatter_text.specs.DiagramText.{IsDiagramText}
use Rattle.scatter_json.specs.declared.fault.JsonKind.{JsonKind}
use Rattle.scatter_json.specs.JsonForm.{IsJsonOf, IsJsonFault}
use Rattle.scatter_json.specs.JsonText.{IsJsonText}
use Rattle.scatter_run.specs.Asked.{IsAskedText}
use Rattle.scatter_run.specs.declared.form.Form.{Form}
use Rattle.scatter_run.specs.declared.form.Form.TheVariants.{Text, Json, Asks}

-- the bytes say the file
abbrev pub IsFileIn : Form → List ℕ → TextFile → Type 0
IsFileIn Text = IsTextIn mode.Lines
IsFileIn Json = IsJsonOf
IsFileIn Asks = IsTextIn mode.Asks

-- the line is the first bad one of a text
abbrev pub IsBadTextIn : Form → List ℕ → ℕ → TextKind → Type 0
IsBadTextIn Text bytes line kind = IsFaultIn mode.Lines bytes line kind
IsBadTextIn Json bytes line kind = ⊥
IsBadTextIn Asks bytes line kind = IsFaultIn mode.Asks bytes line kind

-- this is wrong with a JSON text
abbrev pub IsBadJsonIn : Form → List ℕ → JsonKind → Type 0
IsBadJsonIn Text bytes kind = ⊥
IsBadJsonIn Json bytes kind = IsJsonFault bytes kind
IsBadJsonIn Asks bytes kind = ⊥

-- what is printed, for these asks, of a diagram that is completed to this order, and of what stopped a later order
abbrev pub IsPrintedIn : Form → List AskRow → ℕ → ℕ → Diagram → Option (ℕ × StopCause) → List ℕ → Type 0
IsPrintedIn Text asks = IsDiagramText
IsPrintedIn Json asks = IsJsonText
IsPrintedIn Asks asks = IsAskedText asks

-- the word of the job with this form
abbrev pub form_word : Form → List ℕ
form_word Text = codes "complete"
form_word Json = codes "complete-json"
form_word Asks = codes "theta"
