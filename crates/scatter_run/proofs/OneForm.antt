-- Bytes say one file or have one fault in each form, and one text is printed in it.
use Rattle.std.proofs.Common.{◌≡◌, ℕ, ◌<◌, List, length, get_or}
use Rattle.std.specs.Prelude.{Option}
use Rattle.scattering.specs.Collections.{Every}
use Rattle.scattering.specs.Wall.{IsWall, Diagram, walls}
use Rattle.scattering.specs.Stops.{StopCause}
use Rattle.scatter_text.specs.declared.file.AskRow.{AskRow}
use Rattle.scatter_text.specs.declared.file.TextFile.{TextFile}
use Rattle.scatter_text.specs.Values.{IsAsk}
use Rattle.scatter_text.specs.declared.fault.TextKind.{TextKind}
use Rattle.scatter_text.proofs.Outcomes.{text_has_no_fault, fault_is_one}
use Rattle.scatter_text.proofs.OneFile.{file_is_one}
use Rattle.scatter_text.proofs.OneDiagramText.{text-one}
use Rattle.scatter_json.specs.declared.fault.JsonKind.{JsonKind}
use Rattle.scatter_json.proofs.OneReading.{file-or-fault, json-one}
use Rattle.scatter_json.proofs.OneText.{json_fault-one, json_text-one}
use Rattle.scatter_run.proofs.OneAnswers.{asked_text-one}
use Rattle.scatter_run.specs.declared.form.Form.{Form}
use Rattle.scatter_run.specs.declared.form.Form.TheVariants.{Text, Json, Asks}
use Rattle.scatter_run.specs.Form.{IsFileIn, IsBadTextIn, IsBadJsonIn, IsPrintedIn}

pub file-one : (form : Form) (bytes : List ℕ) (f g : TextFile) → IsFileIn form bytes f → IsFileIn form bytes g → (f.vars ≡ g.vars) × (f.lines ≡ g.lines) × (f.asks ≡ g.asks) × (f.settle ≡ g.settle)
file-one Text bytes f g h k = file_is_one bytes f g h k
file-one Json bytes f g h k = json-one bytes f g h k
file-one Asks bytes f g h k = file_is_one bytes f g h k

pub no-bad_text : (form : Form) (bytes : List ℕ) (file : TextFile) (line : ℕ) (kind : TextKind) → IsFileIn form bytes file → IsBadTextIn form bytes line kind → ⊥
no-bad_text Text bytes file line kind h f = text_has_no_fault bytes file line kind h f
no-bad_text Json bytes file line kind h f = f
no-bad_text Asks bytes file line kind h f = text_has_no_fault bytes file line kind h f

pub no-bad_json : (form : Form) (bytes : List ℕ) (file : TextFile) (kind : JsonKind) → IsFileIn form bytes file → IsBadJsonIn form bytes kind → ⊥
no-bad_json Text bytes file kind h f = f
no-bad_json Json bytes file kind h f = file-or-fault bytes file kind h f
no-bad_json Asks bytes file kind h f = f

-- a text has one fault, and none of the other form
pub bad_text-one : (form : Form) (bytes : List ℕ) (l m : ℕ) (k j : TextKind) → IsBadTextIn form bytes l k → IsBadTextIn form bytes m j → (l ≡ m) × (k ≡ j)
bad_text-one Text bytes l m k j f g = fault_is_one bytes l m k j f g
bad_text-one Json bytes l m k j f g = absurd f
bad_text-one Asks bytes l m k j f g = fault_is_one bytes l m k j f g

pub bad_json-one : (form : Form) (bytes : List ℕ) (k j : JsonKind) → IsBadJsonIn form bytes k → IsBadJsonIn form bytes j → k ≡ j
bad_json-one Text bytes k j f g = absurd f
bad_json-one Json bytes k j f g = json_fault-one bytes k j f g
bad_json-one Asks bytes k j f g = absurd f

pub bad-one : (form : Form) (bytes : List ℕ) (line : ℕ) (k : TextKind) (j : JsonKind) → IsBadTextIn form bytes line k → IsBadJsonIn form bytes j → ⊥
bad-one Text bytes line k j f g = g
bad-one Json bytes line k j f g = f
bad-one Asks bytes line k j f g = g

pub printed-one : (form : Form) (asks : List AskRow) (vars order n : ℕ) (e : Diagram) (stop : Option (ℕ × StopCause)) (text other : List ℕ) → Every (IsWall n) (walls e) → ((k : ℕ) (d : AskRow) → k < length asks → IsAsk (get_or asks k d))
    → IsPrintedIn form asks vars order e stop text → IsPrintedIn form asks vars order e stop other → text ≡ other
printed-one Text asks vars order n e stop text other h valid a b = text-one vars order n e stop text other h a b
printed-one Json asks vars order n e stop text other h valid a b = json_text-one vars order n e stop text other h a b
printed-one Asks asks vars order n e stop text other h valid a b = asked_text-one asks vars order n e stop text other h valid a b
