-- From what was read and given to what a job keeps.
use Rattle.std.proofs.Common.{◌≡◌, ℕ, ◌-◌, ◌<◌, ◌^◌, refl, sym, ◌∙◌, subst, ◌⊎◌, inl, inr, List, [], arith}
use Rattle.std.specs.Prelude.{Option, Some, None, IfSome, IfOk, Result, Ok, Err}
use Rattle.std.specs.declared.alloc.AllocError.{AllocError}
use Rattle.outside_io.specs.Outside.{Rose}
use Rattle.scattering.specs.Stops.{StopCause}
use Rattle.scatter_diagram.specs.Stopped.{cause_of}
use Rattle.scatter_text.specs.declared.file.TextFile.{TextFile}
use Rattle.scatter_text.specs.declared.fault.LimitKind.{LimitKind}
use Rattle.scatter_text.specs.declared.fault.LimitKind.TheVariants.{Bytes}
use Rattle.scatter_run.specs.declared.words.Job.{Job}
use Rattle.scatter_run.specs.declared.words.Job.TheVariants.{Complete, Session, Generate}
use Rattle.scatter_run.specs.declared.status.Status.{Status}
use Rattle.scatter_run.specs.declared.status.Status.TheVariants.{Done, Words, Text, Json, Limit, Stopped, ReadFault, WriteFault, Memory}
use Rattle.scatter_run.specs.declared.form.Form.{Form}
use Rattle.scatter_run.specs.declared.form.Form.TheVariants as form
use Rattle.scatter_run.specs.declared.answer.Answer.{Answer}
use Rattle.scatter_run.specs.declared.reading.InputFault.{InputFault}
use Rattle.scatter_run.specs.declared.reading.InputFault.TheVariants.{Failed, TooLong}
use Rattle.scatter_run.specs.declared.reading.InputFault.TheVariants as input
use Rattle.scatter_run.specs.Completed.{IsStopOf, IsCompletedText}
use Rattle.scatter_run.specs.Held.{IsSessionText}
use Rattle.scatter_run.specs.Words.{AreWordsOf, NameNoJob}
use Rattle.scatter_run.specs.Reading.{IsReadWhole, IsTooLong}
use Rattle.scatter_run.specs.Writing.{IsWritten, IsCutShort}
use Rattle.scatter_run.specs.Outcome.{IsOutcomeIn, IsLimited, IsAcceptedIn, IsGenerateOutcome, IsUnstopped, IsJobOutcome, IsJobAccepted, SaysJobRead, IsRunOutcome, IsRunAccepted, SaysRunRead, IsVerdict, SaysRead, SaysNothing, read_fault_text, words_fault_text, limit_fault_text}
use Rattle.scatter_run.specs.Promise.{IsKept, IsDue, IsGiven, IsAnswerGiven, IsFaultGiven}
use Rattle.scatter_run.proofs.WordLists.{one-job}

no-rise : (n m : ℕ) → n < 2 ^ 64 - 1 → Rose n m → m ≡ n → ⊥
no-rise n m small rose same = omega (arith, rose)

pub none-some : (k : LimitKind) → None ≡ Some k → ⊥
none-some k e = cc

told : (P : List ℕ → Type 0) (left : Option (List ℕ)) → ((bytes : List ℕ) → P bytes) → IfSome left P
told P None h = tt
told P (Some bytes) h = h bytes

-- ---- any job, whose bytes have no outcome but Done where they are accepted, and which says of a verdict alone that it read to the end
module _ (Answers : List ℕ → Status → List ℕ → Type 0) (Accepts : List ℕ → Type 0) (Says : Status → Type 0) (verdict : (s : Status) → Says s → IsVerdict s)
    (left rest : Option (List ℕ)) (f f' : ℕ) (held after : Option (List ℕ)) (k k' : ℕ) where
  no-write : ReadFault ≡ WriteFault → ⊥
  no-write e = cc

  no-memory : ReadFault ≡ Memory → ⊥
  no-memory e = cc

  no-read : WriteFault ≡ ReadFault → ⊥
  no-read e = cc

  unwritten : WriteFault ≡ Memory → ⊥
  unwritten e = cc

  memory-read : Memory ≡ ReadFault → ⊥
  memory-read e = cc

  memory-write : Memory ≡ WriteFault → ⊥
  memory-write e = cc

  -- a write failed
  cut_kept : (text : List ℕ) → k < 2 ^ 64 - 1 → IsDue Answers Says left rest f f' text → Rose k k' → IsCutShort held after text
      → IsKept Answers Accepts Says left rest f f' held after k k' WriteFault
  cut_kept text small due rose cut = record {
    outcome = told _ left (λ bytes v. absurd v);
    complete = told _ left (λ bytes ok e e'. absurd (no-rise k k' small rose e'));
    read = λ e. absurd (no-read e);
    read_text = λ e. absurd (no-read e);
    write = λ e. rose;
    write_text = λ e. (text, due, cut);
    memory = λ e. absurd (unwritten e);
    memory_alone = λ e. absurd (unwritten e);
    to_end = told _ left (λ bytes says. absurd (verdict WriteFault says));
  }

  -- memory was wanting before anything was written
  pub memory_kept : f' ≡ f → after ≡ held → k' ≡ k → IsKept Answers Accepts Says left rest f f' held after k k' Memory
  memory_kept e h e' = record {
    outcome = told _ left (λ bytes v. absurd v);
    complete = told _ left (λ bytes ok a b. inr refl);
    read = λ w. absurd (memory-read w);
    read_text = λ w. absurd (memory-read w);
    write = λ w. absurd (memory-write w);
    write_text = λ w. absurd (memory-write w);
    memory = λ w. h;
    memory_alone = λ w. (e, e');
    to_end = told _ left (λ bytes says. absurd (verdict Memory says));
  }

  read-told : Rose f f' → f < 2 ^ 64 - 1 → IsWritten held after read_fault_text → IsKept Answers Accepts Says left rest f f' held after k k' ReadFault
  read-told rose small written = record {
    outcome = told _ left (λ bytes v. absurd v);
    complete = told _ left (λ bytes ok e e'. absurd (no-rise f f' small rose e));
    read = λ e. rose;
    read_text = λ e. (read_fault_text, refl, written);
    write = λ e. absurd (no-write e);
    write_text = λ e. absurd (no-write e);
    memory = λ e. absurd (no-memory e);
    memory_alone = λ e. absurd (no-memory e);
    to_end = told _ left (λ bytes says. absurd (verdict ReadFault says));
  }

  -- a read failed
  pub read_kept : (result : Status) → f < 2 ^ 64 - 1 → k < 2 ^ 64 - 1 → Rose f f' → IsGiven held after k k' ReadFault read_fault_text result
      → IsKept Answers Accepts Says left rest f f' held after k k' result
  read_kept result small small' rose (inl g) =
      subst (λ (s : Status). IsKept Answers Accepts Says left rest f f' held after k k' s) (sym g.0) (read-told rose small g.1)
  read_kept result small small' rose (inr g) =
      subst (λ (s : Status). IsKept Answers Accepts Says left rest f f' held after k k' s) (sym g.0)
      (cut_kept read_fault_text small' (inr (rose, refl)) g.1 g.2)

  abbrev IsAnswered : Status → List ℕ → Type 0
  IsAnswered status text = IfSome left (λ bytes. Answers bytes status text × (Says status → rest ≡ Some []))

  outcome-of : (status : Status) (text : List ℕ) → IsAnswered status text → IsWritten held after text
      → IfSome left (λ bytes. IsVerdict status → (t : List ℕ) × Answers bytes status t × IsWritten held after t)
  outcome-of status text = go left
    where
      go : (l : Option (List ℕ)) → IfSome l (λ bytes. Answers bytes status text × (Says status → rest ≡ Some [])) → IsWritten held after text
          → IfSome l (λ bytes. IsVerdict status → (t : List ℕ) × Answers bytes status t × IsWritten held after t)
      go None a written = tt
      go (Some bytes) a written = λ v. (text, a.0, written)

  done-of : ((bytes : List ℕ) (s : Status) (t : List ℕ) → Answers bytes s t → Accepts bytes → s ≡ Done) → (status : Status) (text : List ℕ) → IsAnswered status text
      → IfSome left (λ bytes. Accepts bytes → f' ≡ f → k' ≡ k → (status ≡ Done) ⊎ (status ≡ Memory))
  done-of sole status text = go left
    where
      go : (l : Option (List ℕ)) → IfSome l (λ bytes. Answers bytes status text × (Says status → rest ≡ Some []))
          → IfSome l (λ bytes. Accepts bytes → f' ≡ f → k' ≡ k → (status ≡ Done) ⊎ (status ≡ Memory))
      go None a = tt
      go (Some bytes) a = λ ok e e'. inl (sole bytes status text a.0 ok)

  end-of : (status : Status) (text : List ℕ) → IsAnswered status text → IfSome left (λ bytes. Says status → rest ≡ Some [])
  end-of status text = go left
    where
      go : (l : Option (List ℕ)) → IfSome l (λ bytes. Answers bytes status text × (Says status → rest ≡ Some []))
          → IfSome l (λ bytes. Says status → rest ≡ Some [])
      go None a = tt
      go (Some bytes) a = a.1

  due-of : (status : Status) (text : List ℕ) → IsAnswered status text → IsDue Answers Says left rest f f' text
  due-of status text a = inl (go left a)
    where
      go : (l : Option (List ℕ)) → IfSome l (λ bytes. Answers bytes status text × (Says status → rest ≡ Some []))
          → IfSome l (λ bytes. (s : Status) × Answers bytes s text × (Says s → rest ≡ Some []))
      go None a = tt
      go (Some bytes) a = (status, a.0, a.1)

  -- a verdict
  pub verdict_kept : ((bytes : List ℕ) (s : Status) (t : List ℕ) → Answers bytes s t → Accepts bytes → s ≡ Done) → (status result : Status) (text : List ℕ)
      → k < 2 ^ 64 - 1 → IsVerdict status → IfSome left (λ bytes. Answers bytes status text × (Says status → rest ≡ Some []))
      → IsGiven held after k k' status text result → IsKept Answers Accepts Says left rest f f' held after k k' result
  verdict_kept sole status result text small v a (inl g) =
      subst (λ (s : Status). IsKept Answers Accepts Says left rest f f' held after k k' s) (sym g.0) (record {
        outcome = outcome-of status text a g.1;
        complete = done-of sole status text a;
        read = λ e. absurd (subst IsVerdict e v);
        read_text = λ e. absurd (subst IsVerdict e v);
        write = λ e. absurd (subst IsVerdict e v);
        write_text = λ e. absurd (subst IsVerdict e v);
        memory = λ e. absurd (subst IsVerdict e v);
        memory_alone = λ e. absurd (subst IsVerdict e v);
        to_end = end-of status text a;
      })
  verdict_kept sole status result text small v a (inr g) =
      subst (λ (s : Status). IsKept Answers Accepts Says left rest f f' held after k k' s) (sym g.0) (cut_kept text small (due-of status text a) g.1 g.2)

-- ---- a job that reads

pub read-verdict : (status : Status) → SaysRead status → IsVerdict status
read-verdict Done says = tt
read-verdict Words says = absurd says
read-verdict (Text line kind) says = tt
read-verdict (Json kind) says = tt
read-verdict (Limit kind) says = tt
read-verdict (Stopped at cause) says = tt
read-verdict ReadFault says = absurd says
read-verdict WriteFault says = absurd says
read-verdict Memory says = absurd says

-- what it prints of a file tells what first stops the lines
module _ (form : Form) (order readers : ℕ) (Prints : TextFile → Option (ℕ × StopCause) → List ℕ → Type 0)
    (stops : (file : TextFile) (stop : Option (ℕ × StopCause)) (text : List ℕ) → Prints file stop text → IsStopOf file.lines order stop) where
  abbrev Answers : List ℕ → Status → List ℕ → Type 0
  Answers = IsOutcomeIn form order readers Prints

  abbrev Accepts : List ℕ → Type 0
  Accepts = IsAcceptedIn form order readers

  pub reading-sole : (bytes : List ℕ) (status : Status) (text : List ℕ) → Answers bytes status text → Accepts bytes → status ≡ Done
  reading-sole bytes Done text t ok = refl
  reading-sole bytes Words text t ok = absurd t
  reading-sole bytes (Text line kind) text t ok = absurd (ok.no_text_fault line kind t.fault)
  reading-sole bytes (Json kind) text t ok = absurd (ok.no_json_fault kind t.fault)
  reading-sole bytes (Limit kind) text t ok = absurd (passes t.0)
    where
      passes : IsLimited form order readers kind bytes → ⊥
      passes (inl h) = let long = h.1 in let short = ok.short in omega (arith, long, short)
      passes (inr p) = none-some kind (sym (ok.no_limit p.file p.reads) ∙ p.passed)
  reading-sole bytes (Stopped at cause) text t ok =
      let s = stops t.file (Some (at, cause_of cause)) text t.printed in absurd (ok.no_stop t.file s.given (at, cause_of cause) t.reads s.lines s.first)
  reading-sole bytes ReadFault text t ok = absurd t
  reading-sole bytes WriteFault text t ok = absurd t
  reading-sole bytes Memory text t ok = absurd t

  reading-verdict : (bytes : List ℕ) (status : Status) (text : List ℕ) → Answers bytes status text → IsVerdict status
  reading-verdict bytes Done text t = tt
  reading-verdict bytes Words text t = tt
  reading-verdict bytes (Text line kind) text t = tt
  reading-verdict bytes (Json kind) text t = tt
  reading-verdict bytes (Limit kind) text t = tt
  reading-verdict bytes (Stopped at cause) text t = tt
  reading-verdict bytes ReadFault text t = absurd t
  reading-verdict bytes WriteFault text t = absurd t
  reading-verdict bytes Memory text t = absurd t

  read-answered : (left rest : Option (List ℕ)) (bytes : List ℕ) (status : Status) (text : List ℕ) → IsReadWhole left rest bytes → Answers bytes status text
      → IfSome left (λ bytes. Answers bytes status text × (SaysRead status → rest ≡ Some []))
  read-answered None rest bytes status text whole t = tt
  read-answered (Some all) rest bytes status text whole t = (subst (λ (b : List ℕ). Answers b status text) (sym whole.0) t, λ says. whole.1)

  long-answered : (left rest : Option (List ℕ)) → IsTooLong left → IfSome left (λ bytes. Answers bytes (Limit Bytes) (limit_fault_text Bytes) × (SaysRead (Limit Bytes) → rest ≡ Some []))
  long-answered None rest long = tt
  long-answered (Some bytes) rest long = ((inl (refl, long), refl), λ says. absurd (says refl))

  module _ (left rest : Option (List ℕ)) (f f' : ℕ) (held after : Option (List ℕ)) (k k' : ℕ) (result : Status) (small : k < 2 ^ 64 - 1) where
    abbrev Keeps : Status → Type 0
    Keeps status = IsKept Answers Accepts SaysRead left rest f f' held after k k' status

    memory-wanted : f' ≡ f → (result ≡ Memory) × (after ≡ held) × (k' ≡ k) → Keeps result
    memory-wanted same m = subst Keeps (sym m.0) (memory_kept Answers Accepts SaysRead read-verdict left rest f f' held after k k' same m.1 m.2)

    -- the bytes were read, and answered
    pub answered_kept : (bytes seen : List ℕ) (answered : Result Answer AllocError) → f' ≡ f → IsReadWhole left rest bytes → seen ≡ bytes
        → IfOk answered (λ a. Answers seen a.status a.text.items) → IsAnswerGiven held after k k' answered result → Keeps result
    answered_kept bytes seen (Ok a) same whole e t g =
        verdict_kept Answers Accepts SaysRead read-verdict left rest f f' held after k k' reading-sole a.status result a.text.items small (reading-verdict seen a.status a.text.items t)
        (read-answered left rest bytes a.status a.text.items whole (subst (λ (b : List ℕ). Answers b a.status a.text.items) e t)) g
    answered_kept bytes seen (Err error) same whole e t g = memory-wanted same g

    -- there are no bytes
    pub fault_kept : (fault : InputFault) → f < 2 ^ 64 - 1 → (fault ≡ Failed → Rose f f') → (fault ≡ TooLong → IsTooLong left) → (fault ≡ input.Memory → f' ≡ f)
        → IsFaultGiven held after k k' fault result → Keeps result
    fault_kept Failed small' rose long same g = read_kept Answers Accepts SaysRead read-verdict left rest f f' held after k k' result small' small (rose refl) g
    fault_kept TooLong small' rose long same g =
        verdict_kept Answers Accepts SaysRead read-verdict left rest f f' held after k k' reading-sole (Limit Bytes) result (limit_fault_text Bytes) small tt
        (long-answered left rest (long refl)) g
    fault_kept input.Memory small' rose long same g = memory-wanted (same refl) g

-- ---- what was printed tells the first stop

pub completed-stops : (form : Form) (order : ℕ) (file : TextFile) (stop : Option (ℕ × StopCause)) (text : List ℕ) → IsCompletedText form order file stop text → IsStopOf file.lines order stop
completed-stops form order file stop text h = record { given = h.last.given; lines = h.last.lines; first = h.last.first }

pub session-stops : (order : ℕ) (file : TextFile) (stop : Option (ℕ × StopCause)) (text : List ℕ) → IsSessionText order file stop text → IsStopOf file.lines order stop
session-stops order file stop text h = h.stopped

-- ---- `generate`

generate-sole : (number : ℕ) (status : Status) (text : List ℕ) → IsGenerateOutcome number status text → IsUnstopped number → status ≡ Done
generate-sole number Done text t ok = refl
generate-sole number Words text t ok = absurd t
generate-sole number (Text line kind) text t ok = absurd t
generate-sole number (Json kind) text t ok = absurd t
generate-sole number (Limit kind) text t ok = absurd t
generate-sole number (Stopped at cause) text t ok = absurd (ok t.last.given (at, cause_of cause) t.last.lines t.last.first)
generate-sole number ReadFault text t ok = absurd t
generate-sole number WriteFault text t ok = absurd t
generate-sole number Memory text t ok = absurd t

generate-verdict : (number : ℕ) (status : Status) (text : List ℕ) → IsGenerateOutcome number status text → IsVerdict status
generate-verdict number Done text t = tt
generate-verdict number Words text t = tt
generate-verdict number (Text line kind) text t = tt
generate-verdict number (Json kind) text t = tt
generate-verdict number (Limit kind) text t = tt
generate-verdict number (Stopped at cause) text t = tt
generate-verdict number ReadFault text t = absurd t
generate-verdict number WriteFault text t = absurd t
generate-verdict number Memory text t = absurd t

quiet : (status : Status) → SaysNothing status → IsVerdict status
quiet status says = absurd says

-- what a job keeps that has no source
abbrev pub IsKeptUnread : (Status → List ℕ → Type 0) → Type 0 → Option (List ℕ) → Option (List ℕ) → ℕ → ℕ → Status → Type 0
IsKeptUnread Answers Accepts held after k k' result = IsKept (λ bytes. Answers) (λ bytes. Accepts) SaysNothing (Some []) (Some []) 0 0 held after k k' result

pub generate_kept : (number : ℕ) (held after : Option (List ℕ)) (k k' : ℕ) (answered : Result Answer AllocError) (result : Status)
    → k < 2 ^ 64 - 1 → IfOk answered (λ a. IsGenerateOutcome number a.status a.text.items) → IsAnswerGiven held after k k' answered result
    → IsKeptUnread (IsGenerateOutcome number) (IsUnstopped number) held after k k' result
generate_kept number held after k k' (Ok a) result small t g =
    verdict_kept (λ bytes. IsGenerateOutcome number) (λ bytes. IsUnstopped number) SaysNothing quiet (Some []) (Some []) 0 0 held after k k'
    (λ bytes s x y ok. generate-sole number s x y ok) a.status result a.text.items small (generate-verdict number a.status a.text.items t)
    (t, λ says. absurd says) g
generate_kept number held after k k' (Err error) result small t g =
    subst (IsKeptUnread (IsGenerateOutcome number) (IsUnstopped number) held after k k') (sym g.0)
    (memory_kept (λ bytes. IsGenerateOutcome number) (λ bytes. IsUnstopped number) SaysNothing quiet (Some []) (Some []) 0 0 held after k k' refl g.1 g.2)

never-rose : Rose 0 0 → ⊥
never-rose rose = omega (arith, rose)

-- so it is kept with any source, too, which stays as it is
pub any_source_kept : (Answers : Status → List ℕ → Type 0) (Accepts : Type 0) (left : Option (List ℕ)) (f : ℕ) (held after : Option (List ℕ)) (k k' : ℕ) (result : Status)
    → IsKeptUnread Answers Accepts held after k k' result → IsKept (λ bytes. Answers) (λ bytes. Accepts) SaysNothing left left f f held after k k' result
any_source_kept Answers Accepts left f held after k k' result p = record {
  outcome = told _ left (λ bytes. p.outcome);
  complete = told _ left (λ bytes ok e e'. p.complete ok refl e');
  read = λ e. absurd (never-rose (p.read e));
  read_text = p.read_text;
  write = p.write;
  write_text = λ e. let w = p.write_text e in (w.0, due w.0 w.1, w.2);
  memory = p.memory;
  memory_alone = λ e. (refl, (p.memory_alone e).1);
  to_end = told _ left (λ bytes says. absurd says);
}
  where
    due : (text : List ℕ) → IsDue (λ bytes. Answers) SaysNothing (Some []) (Some []) 0 0 text → IsDue (λ bytes. Answers) SaysNothing left left f f text
    due text (inl h) = inl (told _ left (λ bytes. (h.0, h.1, λ says. absurd says)))
    due text (inr h) = absurd (never-rose h.0)

-- ---- the table of jobs

accepted-same : (words : List (List ℕ)) (job other : Job) (bytes : List ℕ) → AreWordsOf words job → AreWordsOf words other → IsJobAccepted other bytes → IsJobAccepted job bytes
accepted-same words job other bytes a b ok = subst (λ (j : Job). IsJobAccepted j bytes) (one-job words job other a b) ok

pub outcome-same : (words : List (List ℕ)) (job other : Job) (bytes : List ℕ) (status : Status) (text : List ℕ)
    → AreWordsOf words job → AreWordsOf words other → IsJobOutcome other bytes status text → IsJobOutcome job bytes status text
outcome-same words job other bytes status text a b h = subst (λ (j : Job). IsJobOutcome j bytes status text) (one-job words job other a b) h

says-same : (words : List (List ℕ)) (job other : Job) (status : Status) → AreWordsOf words job → AreWordsOf words other → SaysJobRead other status → SaysJobRead job status
says-same words job other status a b says = subst (λ (j : Job). SaysJobRead j status) (one-job words job other a b) says

job-sole : (job : Job) (bytes : List ℕ) (status : Status) (text : List ℕ) → IsJobOutcome job bytes status text → IsJobAccepted job bytes → status ≡ Done
job-sole (Complete f o w) bytes status text t ok = reading-sole f o 1 (IsCompletedText f o) (completed-stops f o) bytes status text t ok
job-sole (Session o w r) bytes status text t ok = reading-sole form.Asks o r (IsSessionText o) (session-stops o) bytes status text t ok
job-sole (Generate n) bytes status text t ok = generate-sole n status text t ok

job-not_words : (job : Job) (bytes text : List ℕ) → IsJobOutcome job bytes Words text → ⊥
job-not_words (Complete f o w) bytes text t = t
job-not_words (Session o w r) bytes text t = t
job-not_words (Generate n) bytes text t = t

job-verdict : (job : Job) (status : Status) → SaysJobRead job status → IsVerdict status
job-verdict (Complete f o w) status says = read-verdict status says
job-verdict (Session o w r) status says = read-verdict status says
job-verdict (Generate n) status says = absurd says

pub run-verdict : (words : List (List ℕ)) (status : Status) → SaysRunRead words status → IsVerdict status
run-verdict words status says = job-verdict says.0 status says.2

-- none says that it read where the words are refused
job-reads_words : (job : Job) → SaysJobRead job Words → ⊥
job-reads_words (Complete f o w) says = says
job-reads_words (Session o w r) says = says
job-reads_words (Generate n) says = says

-- ---- the words

run-sole : (words : List (List ℕ)) (bytes : List ℕ) (status : Status) (text : List ℕ) → IsRunOutcome words bytes status text → IsRunAccepted words bytes → status ≡ Done
run-sole words bytes Words text t ok = absurd (t.0 ok.0 ok.1)
run-sole words bytes Done text t ok = refl
run-sole words bytes (Text line kind) text t ok = job-sole ok.0 bytes (Text line kind) text (outcome-same words ok.0 t.0 bytes (Text line kind) text ok.1 t.1 t.2) ok.2
run-sole words bytes (Json kind) text t ok = job-sole ok.0 bytes (Json kind) text (outcome-same words ok.0 t.0 bytes (Json kind) text ok.1 t.1 t.2) ok.2
run-sole words bytes (Limit kind) text t ok = job-sole ok.0 bytes (Limit kind) text (outcome-same words ok.0 t.0 bytes (Limit kind) text ok.1 t.1 t.2) ok.2
run-sole words bytes (Stopped at cause) text t ok = job-sole ok.0 bytes (Stopped at cause) text (outcome-same words ok.0 t.0 bytes (Stopped at cause) text ok.1 t.1 t.2) ok.2
run-sole words bytes ReadFault text t ok = job-sole ok.0 bytes ReadFault text (outcome-same words ok.0 t.0 bytes ReadFault text ok.1 t.1 t.2) ok.2
run-sole words bytes WriteFault text t ok = job-sole ok.0 bytes WriteFault text (outcome-same words ok.0 t.0 bytes WriteFault text ok.1 t.1 t.2) ok.2
run-sole words bytes Memory text t ok = job-sole ok.0 bytes Memory text (outcome-same words ok.0 t.0 bytes Memory text ok.1 t.1 t.2) ok.2

run-outcome : (words : List (List ℕ)) (job : Job) (bytes : List ℕ) (status : Status) (text : List ℕ) → AreWordsOf words job → IsJobOutcome job bytes status text
    → IsRunOutcome words bytes status text
run-outcome words job bytes Words text a h = absurd (job-not_words job bytes text h)
run-outcome words job bytes Done text a h = (job, a, h)
run-outcome words job bytes (Text line kind) text a h = (job, a, h)
run-outcome words job bytes (Json kind) text a h = (job, a, h)
run-outcome words job bytes (Limit kind) text a h = (job, a, h)
run-outcome words job bytes (Stopped at cause) text a h = (job, a, h)
run-outcome words job bytes ReadFault text a h = (job, a, h)
run-outcome words job bytes WriteFault text a h = (job, a, h)
run-outcome words job bytes Memory text a h = (job, a, h)

-- words of no job
pub words_kept : (words : List (List ℕ)) (left : Option (List ℕ)) (f : ℕ) (held after : Option (List ℕ)) (k k' : ℕ) (result : Status) → k < 2 ^ 64 - 1 → NameNoJob words
    → IsGiven held after k k' Words words_fault_text result → IsKept (IsRunOutcome words) (IsRunAccepted words) (SaysRunRead words) left left f f held after k k' result
words_kept words left f held after k k' result small none g =
    verdict_kept (IsRunOutcome words) (IsRunAccepted words) (SaysRunRead words) (run-verdict words) left left f f held after k k' (run-sole words) Words result words_fault_text small tt
    (told _ left (λ bytes. ((none, refl), λ says. absurd (job-reads_words says.0 says.2)))) g

-- words of a job
pub job_kept : (words : List (List ℕ)) (job : Job) (left rest : Option (List ℕ)) (f f' : ℕ) (held after : Option (List ℕ)) (k k' : ℕ) (result : Status) → AreWordsOf words job
    → IsKept (IsJobOutcome job) (IsJobAccepted job) (SaysJobRead job) left rest f f' held after k k' result
    → IsKept (IsRunOutcome words) (IsRunAccepted words) (SaysRunRead words) left rest f f' held after k k' result
job_kept words job left rest f f' held after k k' result a p = record {
  outcome = outcome left p.outcome;
  complete = complete left p.complete;
  read = p.read;
  read_text = p.read_text;
  write = p.write;
  write_text = λ e. let w = p.write_text e in (w.0, due left w.0 w.1, w.2);
  memory = p.memory;
  memory_alone = p.memory_alone;
  to_end = to_end left p.to_end;
}
  where
    says : (status : Status) → SaysRunRead words status → SaysJobRead job status
    says status s = says-same words job s.0 status a s.1 s.2

    outcome : (l : Option (List ℕ)) → IfSome l (λ bytes. IsVerdict result → (t : List ℕ) × IsJobOutcome job bytes result t × IsWritten held after t)
        → IfSome l (λ bytes. IsVerdict result → (t : List ℕ) × IsRunOutcome words bytes result t × IsWritten held after t)
    outcome None h = tt
    outcome (Some bytes) h = λ v. let w = h v in (w.0, run-outcome words job bytes result w.0 a w.1, w.2)

    complete : (l : Option (List ℕ)) → IfSome l (λ bytes. IsJobAccepted job bytes → f' ≡ f → k' ≡ k → (result ≡ Done) ⊎ (result ≡ Memory))
        → IfSome l (λ bytes. IsRunAccepted words bytes → f' ≡ f → k' ≡ k → (result ≡ Done) ⊎ (result ≡ Memory))
    complete None h = tt
    complete (Some bytes) h = λ ok. h (accepted-same words job ok.0 bytes a ok.1 ok.2)

    due : (l : Option (List ℕ)) (text : List ℕ) → IsDue (IsJobOutcome job) (SaysJobRead job) l rest f f' text → IsDue (IsRunOutcome words) (SaysRunRead words) l rest f f' text
    due None text (inl h) = inl tt
    due (Some bytes) text (inl h) = inl (h.0, run-outcome words job bytes h.0 text a h.1, λ s. h.2 (says h.0 s))
    due l text (inr h) = inr h

    to_end : (l : Option (List ℕ)) → IfSome l (λ bytes. SaysJobRead job result → rest ≡ Some []) → IfSome l (λ bytes. SaysRunRead words result → rest ≡ Some [])
    to_end None h = tt
    to_end (Some bytes) h = λ s. h (says result s)
