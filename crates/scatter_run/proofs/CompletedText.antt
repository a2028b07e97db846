-- What is made of lines by their walls, the completion of these and its text.
use Rattle.std.proofs.Common.{◌≡◌, ◌∙◌, ℕ, ap, subst, ◌≤◌, List, length, arith}
use Rattle.std.specs.Prelude.{Option, Some, None}
use Rattle.limits.specs.Limits.{highest_order, most_bytes}
use Rattle.scattering.specs.Wall.{Wall, cut_walls}
use Rattle.scattering.specs.Completion.{IsCompletion}
use Rattle.scattering.specs.Stops.{StopCause, IsFirstStop, last_before}
use Rattle.completion_theory.proofs.CutGiven.{completion-of_cut, first_stop-of_cut}
use Rattle.scatter_diagram.specs.declared.stop.StopCause.{StopCause as CodeCause}
use Rattle.scatter_diagram.specs.Listed.{SeenInitial}
use Rattle.scatter_diagram.specs.Stopped.{stop_of}
use Rattle.scatter_step.specs.Orders.{IsOutcome}
use Rattle.scatter_step.specs.declared.complete.Outcome.{Outcome}
use Rattle.scatter_text.specs.declared.file.LineRow.{LineRow}
use Rattle.scatter_text.specs.declared.file.TextFile.{TextFile}
use Rattle.scatter_text.specs.GivenWalls.{IsInitialOf}
use Rattle.scatter_run.specs.Completed.{IsLastCompletion, IsCompletedText, IsSummary}
use Rattle.scatter_run.specs.Generated.{generated_lines, generated_order, summary_text}
use Rattle.scatter_run.specs.declared.form.Form.{Form}
use Rattle.scatter_run.specs.Form.{IsFileIn, IsPrintedIn}
use Rattle.scatter_text.specs.Limits.{first_limit}
use Rattle.scatter_run.specs.declared.status.Status.{Status}
use Rattle.scatter_run.specs.declared.status.Status.TheVariants.{Done, Words, Text, Json, Limit, Stopped, ReadFault, WriteFault, Memory}
use Rattle.scatter_run.specs.Outcome.{IsEnded, IsOutcomeIn, IsRefusedIn, IsGenerateOutcome, ends_with}
use Rattle.scatter_run.proofs.OneOutcome.{last-low}

pub last-completion : (file : TextFile) (order : ℕ) (i : SeenInitial) (o : Outcome) → order ≤ highest_order → IsInitialOf file i → IsOutcome i order o
    → IsLastCompletion file.lines order (stop_of o.stop) o.last.diagram
last-completion file order i o low is out =
    let first : IsFirstStop (cut_walls highest_order is.given) order (stop_of o.stop) = subst (λ (ws : List Wall). IsFirstStop ws order (stop_of o.stop)) is.lines out.stop in
    let last : last_before order (stop_of o.stop) ≤ highest_order = let l = last-low (cut_walls highest_order is.given) order (stop_of o.stop) first in omega (arith, l, low) in
    let done : IsCompletion (cut_walls highest_order is.given) (last_before order (stop_of o.stop)) o.last.diagram =
    subst (λ (ws : List Wall). IsCompletion ws (last_before order (stop_of o.stop)) o.last.diagram) is.lines (subst (λ (n : ℕ). IsCompletion i.lines n o.last.diagram) out.order out.completes) in
    record {
      given = is.given;
      lines = is.walls;
      first = first_stop-of_cut is.given highest_order order (stop_of o.stop) low first;
      completion = completion-of_cut is.given highest_order (last_before order (stop_of o.stop)) o.last.diagram last done;
    }

-- ---- a completion in a form

pub ended-by : (Prints : Option (ℕ × StopCause) → List ℕ → Type 0) (stop : Option (ℕ × CodeCause)) (text : List ℕ) → Prints (stop_of stop) text → IsEnded Prints (ends_with stop) text
ended-by Prints None text h = h
ended-by Prints (Some s) text h = h

completed-text : (form : Form) (file : TextFile) (order : ℕ) (i : SeenInitial) (o : Outcome) (text : List ℕ) → order ≤ highest_order → IsInitialOf file i → IsOutcome i order o
    → IsPrintedIn form file.asks i.vars o.last.order o.last.diagram (stop_of o.stop) text → IsCompletedText form order file (stop_of o.stop) text
completed-text form file order i o text low is out t = record {
  vars = i.vars;
  diagram = o.last.diagram;
  variables = is.vars;
  last = last-completion file order i o low is out;
  printed = subst (λ (n : ℕ). IsPrintedIn form file.asks i.vars n o.last.diagram (stop_of o.stop) text) out.order t;
}

pub ended : (form : Form) (file : TextFile) (order : ℕ) (i : SeenInitial) (o : Outcome) (text : List ℕ) → order ≤ highest_order → IsInitialOf file i → IsOutcome i order o
    → IsPrintedIn form file.asks i.vars o.last.order o.last.diagram (stop_of o.stop) text → IsEnded (IsCompletedText form order file) (ends_with o.stop) text
ended form file order i o text low is out t = ended-by (IsCompletedText form order file) o.stop text (completed-text form file order i o text low is out t)

-- ---- the outcome of bytes, by what is found of them

-- they say a file, of which something is printed
pub ended-outcome : (form : Form) (order readers : ℕ) (Prints : TextFile → Option (ℕ × StopCause) → List ℕ → Type 0) (bytes : List ℕ) (file : TextFile) (status : Status) (text : List ℕ)
    → length bytes ≤ most_bytes → IsFileIn form bytes file → first_limit file order readers ≡ None → IsEnded (Prints file) status text → IsOutcomeIn form order readers Prints bytes status text
ended-outcome form order readers Prints bytes file Done text short reads within h = record { short = short; file = file; reads = reads; within = within; printed = h }
ended-outcome form order readers Prints bytes file Words text short reads within h = absurd h
ended-outcome form order readers Prints bytes file (Text line kind) text short reads within h = absurd h
ended-outcome form order readers Prints bytes file (Json kind) text short reads within h = absurd h
ended-outcome form order readers Prints bytes file (Limit kind) text short reads within h = absurd h
ended-outcome form order readers Prints bytes file (Stopped at cause) text short reads within h = record { short = short; file = file; reads = reads; within = within; printed = h }
ended-outcome form order readers Prints bytes file ReadFault text short reads within h = absurd h
ended-outcome form order readers Prints bytes file WriteFault text short reads within h = absurd h
ended-outcome form order readers Prints bytes file Memory text short reads within h = absurd h

-- they say none within the limits
pub refused-outcome : (form : Form) (order readers : ℕ) (Prints : TextFile → Option (ℕ × StopCause) → List ℕ → Type 0) (bytes : List ℕ) (status : Status) (text : List ℕ)
    → IsRefusedIn form order readers bytes status text → IsOutcomeIn form order readers Prints bytes status text
refused-outcome form order readers Prints bytes Done text h = absurd h.printed
refused-outcome form order readers Prints bytes Words text h = absurd h
refused-outcome form order readers Prints bytes (Text line kind) text h = h
refused-outcome form order readers Prints bytes (Json kind) text h = h
refused-outcome form order readers Prints bytes (Limit kind) text h = h
refused-outcome form order readers Prints bytes (Stopped at cause) text h = absurd h.printed
refused-outcome form order readers Prints bytes ReadFault text h = absurd h
refused-outcome form order readers Prints bytes WriteFault text h = absurd h
refused-outcome form order readers Prints bytes Memory text h = absurd h

-- ---- `generate`

summed-by : (number : ℕ) (stop : Option (ℕ × CodeCause)) (text : List ℕ) → IsSummary number (stop_of stop) text → IsGenerateOutcome number (ends_with stop) text
summed-by number None text h = h
summed-by number (Some s) text h = h

pub summed : (number : ℕ) (file : TextFile) (i : SeenInitial) (o : Outcome) (text : List ℕ) → file.lines ≡ generated_lines number → IsInitialOf file i → IsOutcome i generated_order o
    → text ≡ summary_text number o.last.order o.last.diagram.rays (stop_of o.stop) → IsGenerateOutcome number (ends_with o.stop) text
summed number file i o text lines is out t = summed-by number o.stop text (record {
  diagram = o.last.diagram;
  last =
      subst (λ (rows : List LineRow). IsLastCompletion rows generated_order (stop_of o.stop) o.last.diagram) lines
      (last-completion file generated_order i o (omega arith) is out);
  printed = t ∙ ap (λ (n : ℕ). summary_text number n o.last.diagram.rays (stop_of o.stop)) out.order;
})
