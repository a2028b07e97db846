-- What a job keeps of its source, its sink and its status.
use Rattle.std.specs.Prelude.{◌≡◌, ℕ, ◌⊎◌, List, [], Option, Some, IfSome, Result, Ok, Err}
use Rattle.outside_io.specs.Outside.{Rose}
use Rattle.scatter_run.specs.Words.{NameNoSession}
use Rattle.scatter_run.specs.Outcome.{IsRunOutcome, IsVerdict, SaysNothing, limit_fault_text, read_fault_text}
use Rattle.std.specs.declared.alloc.AllocError.{AllocError}
use Rattle.scatter_text.specs.declared.fault.LimitKind.TheVariants.{Bytes}
use Rattle.scatter_run.specs.declared.answer.Answer.{Answer}
use Rattle.scatter_run.specs.declared.reading.InputFault.{InputFault}
use Rattle.scatter_run.specs.declared.reading.InputFault.TheVariants.{Failed, TooLong}
use Rattle.scatter_run.specs.declared.reading.InputFault.TheVariants as input
use Rattle.scatter_run.specs.Writing.{IsWritten, IsCutShort}
use Rattle.scatter_run.specs.declared.status.Status.{Status}
use Rattle.scatter_run.specs.declared.status.Status.TheVariants.{Done, Limit, ReadFault, WriteFault, Memory}

-- a text with this fact was written, where the sink tells
abbrev pub HasWritten : Option (List ℕ) → Option (List ℕ) → (List ℕ → Type 0) → Type 0
HasWritten before after P = (text : List ℕ) × P text × IsWritten before after text

-- a proper prefix of a text with this fact was written, where the sink tells
abbrev pub HasWrittenPart : Option (List ℕ) → Option (List ℕ) → (List ℕ → Type 0) → Type 0
HasWrittenPart before after P = (text : List ℕ) × P text × IsCutShort before after text

-- the text of an outcome of these bytes, which were read to their end where its status says so, or of a read fault that was counted
abbrev pub IsDue : (List ℕ → Status → List ℕ → Type 0) → (Status → Type 0) → Option (List ℕ) → Option (List ℕ) → ℕ → ℕ → List ℕ → Type 0
IsDue Answers Says left rest before now text =
    IfSome left (λ bytes. (status : Status) × Answers bytes status text × (Says status → rest ≡ Some []))
    ⊎ (Rose before now × (text ≡ read_fault_text))

-- What holds of a job with these outcomes, which accepts these bytes and says by these statuses that it read to the
-- end, by the source's bytes and faults and the sink's bytes and faults, each before and after.
pub record IsKept (Answers : List ℕ → Status → List ℕ → Type 0) (Accepts : List ℕ → Type 0) (Says : Status → Type 0)
    (left rest : Option (List ℕ)) (misread misread' : ℕ) (held after : Option (List ℕ)) (refused refused' : ℕ) (status : Status) : Type 0 where
  -- the status is that of the outcome of the bytes, and the outcome's text was written
  pub outcome : IfSome left (λ bytes. IsVerdict status → HasWritten held after (Answers bytes status))
  -- where nothing is wrong and nothing failed, all is done, or memory was wanting
  pub complete : IfSome left (λ bytes. Accepts bytes → misread' ≡ misread → refused' ≡ refused → (status ≡ Done) ⊎ (status ≡ Memory))
  -- a read fault is answered only where it was counted, and told
  pub read : status ≡ ReadFault → Rose misread misread'
  pub read_text : status ≡ ReadFault → HasWritten held after (λ text. text ≡ read_fault_text)
  -- a write fault is answered only where it was counted, after a part of what was due
  pub write : status ≡ WriteFault → Rose refused refused'
  pub write_text : status ≡ WriteFault → HasWrittenPart held after (IsDue Answers Says left rest misread misread')
  -- want of memory comes before the first write, and where nothing failed
  pub memory : status ≡ Memory → after ≡ held
  pub memory_alone : status ≡ Memory → (misread' ≡ misread) × (refused' ≡ refused)
  -- the source was read to its end
  pub to_end : IfSome left (λ bytes. Says status → rest ≡ Some [])

-- the same of a source and a sink by how they are seen
abbrev pub KeepsPromise : {S K : Type 0} → (S → Option (List ℕ)) → (S → ℕ) → (K → Option (List ℕ)) → (K → ℕ) → S → S → K → K
    → (List ℕ → Status → List ℕ → Type 0) → (List ℕ → Type 0) → (Status → Type 0) → Status → Type 0
KeepsPromise left misread held refused source source' sink sink' Answers Accepts Says status =
    IsKept Answers Accepts Says (left source) (left source') (misread source) (misread source') (held sink) (held sink') (refused sink) (refused sink') status

-- the same of a job that has no source, whose outcomes no bytes decide: it is kept as with an empty source that never fails
abbrev pub KeepsPromiseUnread : {K : Type 0} → (K → Option (List ℕ)) → (K → ℕ) → K → K → (Status → List ℕ → Type 0) → Type 0 → Status → Type 0
KeepsPromiseUnread held refused sink sink' Answers Accepts status =
    IsKept (λ bytes. Answers) (λ bytes. Accepts) SaysNothing (Some []) (Some []) 0 0 (held sink) (held sink') (refused sink) (refused sink') status

-- the source is as it was
abbrev pub IsUntouched : {S : Type 0} → (S → Option (List ℕ)) → (S → ℕ) → S → S → Type 0
IsUntouched left misread source source' = (left source' ≡ left source) × (misread source' ≡ misread source)

-- an outcome of the words and the bytes that are left has this status, and its text was written where the words name no session
abbrev pub IsOnlyOutcome : List (List ℕ) → Option (List ℕ) → Option (List ℕ) → Option (List ℕ) → Status → Type 0
IsOnlyOutcome words left held after result =
    IfSome left (λ bytes. IsVerdict result → (status : Status) (text : List ℕ) → IsRunOutcome words bytes status text
    → (status ≡ result) × (NameNoSession words → IsWritten held after text))

-- ---- between reading and writing

-- the answer was written whole, or a write failed
abbrev pub IsGiven : Option (List ℕ) → Option (List ℕ) → ℕ → ℕ → Status → List ℕ → Status → Type 0
IsGiven held after before now status text result =
    ((result ≡ status) × IsWritten held after text) ⊎ ((result ≡ WriteFault) × Rose before now × IsCutShort held after text)

-- the same of what was answered; or memory was wanting, and nothing was written
abbrev pub IsAnswerGiven : Option (List ℕ) → Option (List ℕ) → ℕ → ℕ → Result Answer AllocError → Status → Type 0
IsAnswerGiven held after before now (Ok answer) result = IsGiven held after before now answer.status answer.text.items result
IsAnswerGiven held after before now (Err error) result = (result ≡ Memory) × (after ≡ held) × (now ≡ before)

-- the same of why there are no bytes
abbrev pub IsFaultGiven : Option (List ℕ) → Option (List ℕ) → ℕ → ℕ → InputFault → Status → Type 0
IsFaultGiven held after before now Failed result = IsGiven held after before now ReadFault read_fault_text result
IsFaultGiven held after before now TooLong result = IsGiven held after before now (Limit Bytes) (limit_fault_text Bytes) result
IsFaultGiven held after before now input.Memory result = (result ≡ Memory) × (after ≡ held) × (now ≡ before)
