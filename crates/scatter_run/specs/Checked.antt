-- What is found of bytes in a form: a file within the limits, or an answer that says why there is none.
use Rattle.std.specs.Prelude.{◌≡◌, ℕ, List, None}
use Rattle.scatter_text.specs.Limits.{first_limit}
use Rattle.scatter_run.specs.declared.form.Form.{Form}
use Rattle.scatter_run.specs.declared.answer.Checked.{Checked}
use Rattle.scatter_run.specs.declared.answer.Checked.TheVariants.{File, Refused}
use Rattle.scatter_run.specs.Form.{IsFileIn}
use Rattle.scatter_run.specs.Outcome.{IsRefusedIn}

abbrev pub IsChecked : Form → ℕ → ℕ → List ℕ → Checked → Type 0
IsChecked form order readers bytes (File file) = IsFileIn form bytes file × (first_limit file order readers ≡ None)
IsChecked form order readers bytes (Refused answer) = IsRefusedIn form order readers bytes answer.status answer.text.items
