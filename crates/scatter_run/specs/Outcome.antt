-- What a run answers, and what it writes.
use Rattle.std.specs.Prelude.{◌≡◌, ◌≢◌, ℕ, ◌<◌, ◌≤◌, ◌⊎◌, List, [], ◌∷◌, length, codes, decimal, Option, Some, None}
use Rattle.std.specs.List.{AllZip}
use Rattle.limits.specs.Limits.{most_bytes}
use Rattle.scattering.specs.Wall.{Wall}
use Rattle.scattering.specs.Stops.{StopCause, IsFirstStop}
use Rattle.scatter_diagram.specs.Stopped.{cause_of}
use Rattle.scatter_diagram.specs.declared.stop.StopCause.{StopCause as CodeCause}
use Rattle.scatter_text.specs.declared.file.TextFile.{TextFile}
use Rattle.scatter_text.specs.declared.fault.LimitKind.{LimitKind}
use Rattle.scatter_text.specs.declared.fault.LimitKind.TheVariants.{Bytes}
use Rattle.scatter_text.specs.declared.fault.TextKind.{TextKind}
use Rattle.scatter_text.specs.Grammar.{kind_word}
use Rattle.scatter_json.specs.declared.fault.JsonKind.{JsonKind}
use Rattle.scatter_json.specs.JsonForm.{json_word}
use Rattle.scatter_run.specs.declared.form.Form.{Form}
use Rattle.scatter_run.specs.declared.form.Form.TheVariants as form
use Rattle.scatter_run.specs.Form.{IsFileIn, IsBadTextIn, IsBadJsonIn}
use Rattle.scatter_text.specs.Limits.{first_limit, limit_word}
use Rattle.scatter_run.specs.Completed.{IsCompletedText, IsSummary}
use Rattle.scatter_run.specs.Generated.{generated_lines, generated_order}
use Rattle.scatter_run.specs.Held.{IsSessionText}
use Rattle.scatter_text.specs.DiagramText.{line_of}
use Rattle.scatter_text.specs.GivenWalls.{IsWallOf}
use Rattle.scatter_run.specs.Words.{AreWordsOf, NameNoJob}
use Rattle.scatter_run.specs.declared.words.Job.{Job}
use Rattle.scatter_run.specs.declared.words.Job.TheVariants.{Complete, Session, Generate}
use Rattle.scatter_run.specs.declared.status.Status.{Status}
use Rattle.scatter_run.specs.declared.status.Status.TheVariants.{Done, Words, Text, Json, Limit, Stopped, ReadFault, WriteFault, Memory}

-- ---- what a job answers on the bytes of its input

abbrev pub fault_text : List (List ℕ) → List ℕ
fault_text words = line_of (codes "fault" ∷ words)

-- the status of a completion by what stopped it first
abbrev pub ends_with : Option (ℕ × CodeCause) → Status
ends_with None = Done
ends_with (Some s) = Stopped s.0 s.1

abbrev pub words_fault_text : List ℕ
words_fault_text = fault_text (codes "words" ∷ [])

abbrev pub read_fault_text : List ℕ
read_fault_text = fault_text (codes "read" ∷ [])

abbrev pub limit_fault_text : LimitKind → List ℕ
limit_fault_text kind = fault_text (codes "limit" ∷ limit_word kind ∷ [])

abbrev pub bad_text : ℕ → TextKind → List ℕ
bad_text line kind = fault_text (codes "text" ∷ decimal line ∷ kind_word kind ∷ [])

abbrev pub bad_json_text : JsonKind → List ℕ
bad_json_text kind = fault_text (codes "json" ∷ json_word kind ∷ [])

-- how it ends to print this of what stopped a completion first
abbrev pub IsEnded : (Option (ℕ × StopCause) → List ℕ → Type 0) → Status → List ℕ → Type 0
IsEnded Prints Done text = Prints None text
IsEnded Prints (Stopped at cause) text = Prints (Some (at, cause_of cause)) text
IsEnded Prints status text = ⊥

-- What a job prints of a file, by what stopped the completion of its lines first: `Prints` below.
--     form        the form of the bytes
--     order       the order that is asked
--     readers     how many readers asks may name

-- the bytes say in this form a file within the limits, of which the text is printed
pub record HasPrinted (form : Form) (order readers : ℕ) (Prints : TextFile → Option (ℕ × StopCause) → List ℕ → Type 0)
    (stop : Option (ℕ × StopCause)) (bytes text : List ℕ) : Type 0 where
  pub short : length bytes ≤ most_bytes
  pub file : TextFile
  pub reads : IsFileIn form bytes file
  pub within : first_limit file order readers ≡ None
  pub printed : Prints file stop text

pub record IsBadText (form : Form) (line : ℕ) (kind : TextKind) (bytes text : List ℕ) : Type 0 where
  pub short : length bytes ≤ most_bytes
  pub fault : IsBadTextIn form bytes line kind
  pub says : text ≡ bad_text line kind

pub record IsBadJson (form : Form) (kind : JsonKind) (bytes text : List ℕ) : Type 0 where
  pub short : length bytes ≤ most_bytes
  pub fault : IsBadJsonIn form bytes kind
  pub says : text ≡ bad_json_text kind

pub record PassesLimit (form : Form) (order readers : ℕ) (kind : LimitKind) (bytes : List ℕ) : Type 0 where
  pub short : length bytes ≤ most_bytes
  pub file : TextFile
  pub reads : IsFileIn form bytes file
  pub passed : first_limit file order readers ≡ Some kind

-- the bytes are too many, or say a file that passes the limit
abbrev pub IsLimited : Form → ℕ → ℕ → LimitKind → List ℕ → Type 0
IsLimited form order readers kind bytes = ((kind ≡ Bytes) × (most_bytes < length bytes)) ⊎ PassesLimit form order readers kind bytes

-- what the job answers on these bytes, and the text that it prints
abbrev pub IsOutcomeIn : Form → ℕ → ℕ → (TextFile → Option (ℕ × StopCause) → List ℕ → Type 0) → List ℕ → Status → List ℕ → Type 0
IsOutcomeIn form order readers Prints bytes Done text = HasPrinted form order readers Prints None bytes text
IsOutcomeIn form order readers Prints bytes (Stopped at cause) text = HasPrinted form order readers Prints (Some (at, cause_of cause)) bytes text
IsOutcomeIn form order readers Prints bytes (Text line kind) text = IsBadText form line kind bytes text
IsOutcomeIn form order readers Prints bytes (Json kind) text = IsBadJson form kind bytes text
IsOutcomeIn form order readers Prints bytes (Limit kind) text = IsLimited form order readers kind bytes × (text ≡ limit_fault_text kind)
IsOutcomeIn form order readers Prints bytes Words text = ⊥
IsOutcomeIn form order readers Prints bytes ReadFault text = ⊥
IsOutcomeIn form order readers Prints bytes WriteFault text = ⊥
IsOutcomeIn form order readers Prints bytes Memory text = ⊥

-- where the bytes say no file within the limits
abbrev pub IsRefusedIn : Form → ℕ → ℕ → List ℕ → Status → List ℕ → Type 0
IsRefusedIn form order readers = IsOutcomeIn form order readers (λ file stop text. ⊥)

-- nothing is wrong with the bytes in this form, and nothing stops the completion of their lines up to the order
pub record IsAcceptedIn (form : Form) (order readers : ℕ) (bytes : List ℕ) : Type 0 where
  pub short : length bytes ≤ most_bytes
  pub no_text_fault : (line : ℕ) (kind : TextKind) → IsBadTextIn form bytes line kind → ⊥
  pub no_json_fault : (kind : JsonKind) → IsBadJsonIn form bytes kind → ⊥
  pub no_limit : (file : TextFile) → IsFileIn form bytes file → first_limit file order readers ≡ None
  pub no_stop : (file : TextFile) (given : List Wall) (stop : ℕ × StopCause)
      → IsFileIn form bytes file → AllZip IsWallOf file.lines given → IsFirstStop given order (Some stop) → ⊥

-- ---- what each job that reads answers and accepts; the number of workers doesn't count

-- a completion in a form has one reader
abbrev pub IsFormOutcome : Form → ℕ → List ℕ → Status → List ℕ → Type 0
IsFormOutcome form order = IsOutcomeIn form order 1 (IsCompletedText form order)

abbrev pub IsFormAccepted : Form → ℕ → List ℕ → Type 0
IsFormAccepted form order = IsAcceptedIn form order 1

abbrev pub IsCompleteOutcome : ℕ → List ℕ → Status → List ℕ → Type 0
IsCompleteOutcome = IsFormOutcome form.Text

abbrev pub IsJsonOutcome : ℕ → List ℕ → Status → List ℕ → Type 0
IsJsonOutcome = IsFormOutcome form.Json

abbrev pub IsThetaOutcome : ℕ → List ℕ → Status → List ℕ → Type 0
IsThetaOutcome = IsFormOutcome form.Asks

abbrev pub IsAccepted : ℕ → List ℕ → Type 0
IsAccepted = IsFormAccepted form.Text

abbrev pub IsJsonAccepted : ℕ → List ℕ → Type 0
IsJsonAccepted = IsFormAccepted form.Json

abbrev pub IsThetaAccepted : ℕ → List ℕ → Type 0
IsThetaAccepted = IsFormAccepted form.Asks

-- a session with so many readers reads what `theta` reads
abbrev pub IsSessionOutcome : ℕ → ℕ → List ℕ → Status → List ℕ → Type 0
IsSessionOutcome order readers = IsOutcomeIn form.Asks order readers (IsSessionText order)

abbrev pub IsSessionAccepted : ℕ → ℕ → List ℕ → Type 0
IsSessionAccepted order readers = IsAcceptedIn form.Asks order readers

-- ---- what `generate` answers, which reads no bytes

-- what it answers on this number, and the text that it prints
abbrev pub IsGenerateOutcome : ℕ → Status → List ℕ → Type 0
IsGenerateOutcome number Done text = IsSummary number None text
IsGenerateOutcome number (Stopped at cause) text = IsSummary number (Some (at, cause_of cause)) text
IsGenerateOutcome number status text = ⊥

-- nothing stops the completion of the lines that are made from the number
abbrev pub IsUnstopped : ℕ → Type 0
IsUnstopped number = (given : List Wall) (stop : ℕ × StopCause) → AllZip IsWallOf (generated_lines number) given → IsFirstStop given generated_order (Some stop) → ⊥

-- ---- statuses

-- a status other than ReadFault, WriteFault and Memory
abbrev pub IsVerdict : Status → Type 0
IsVerdict ReadFault = ⊥
IsVerdict WriteFault = ⊥
IsVerdict Memory = ⊥
IsVerdict status = Unit {0}

-- of a job that reads: it says that the source was read to its end
abbrev pub SaysRead : Status → Type 0
SaysRead Done = Unit {0}
SaysRead (Text line kind) = Unit {0}
SaysRead (Json kind) = Unit {0}
SaysRead (Stopped order cause) = Unit {0}
SaysRead (Limit kind) = kind ≢ Bytes
SaysRead status = ⊥

-- of a job that doesn't read: none says so
abbrev pub SaysNothing : Status → Type 0
SaysNothing status = ⊥

abbrev pub code_of : Status → ℕ
code_of Done = 0
code_of Words = 1
code_of (Text line kind) = 2
code_of (Json kind) = 2
code_of (Limit kind) = 3
code_of (Stopped order cause) = 4
code_of ReadFault = 5
code_of WriteFault = 6
code_of Memory = 7

-- ---- the table of jobs

-- what each job answers, and the text that it prints
abbrev pub IsJobOutcome : Job → List ℕ → Status → List ℕ → Type 0
IsJobOutcome (Complete form order workers) = IsFormOutcome form order
IsJobOutcome (Session order workers readers) = IsSessionOutcome order readers
IsJobOutcome (Generate number) = λ bytes. IsGenerateOutcome number

-- the bytes that each job accepts
abbrev pub IsJobAccepted : Job → List ℕ → Type 0
IsJobAccepted (Complete form order workers) = IsFormAccepted form order
IsJobAccepted (Session order workers readers) = IsSessionAccepted order readers
IsJobAccepted (Generate number) = λ bytes. IsUnstopped number

-- the statuses by which each job says that its source was read to its end
abbrev pub SaysJobRead : Job → Status → Type 0
SaysJobRead (Complete form order workers) = SaysRead
SaysJobRead (Session order workers readers) = SaysRead
SaysJobRead (Generate number) = SaysNothing

-- the words are those of a job, whose outcome it is; or they are of none
abbrev pub IsRunOutcome : List (List ℕ) → List ℕ → Status → List ℕ → Type 0
IsRunOutcome words bytes Words text = NameNoJob words × (text ≡ words_fault_text)
IsRunOutcome words bytes status text = (job : Job) × AreWordsOf words job × IsJobOutcome job bytes status text

-- the words are those of a job that accepts the bytes
abbrev pub IsRunAccepted : List (List ℕ) → List ℕ → Type 0
IsRunAccepted words bytes = (job : Job) × AreWordsOf words job × IsJobAccepted job bytes

-- the words are those of a job that says so
abbrev pub SaysRunRead : List (List ℕ) → Status → Type 0
SaysRunRead words status = (job : Job) × AreWordsOf words job × SaysJobRead job status
