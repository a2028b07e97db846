-- The words after the program's name, and the jobs that they name.
use Rattle.std.specs.Prelude.{◌≡◌, ℕ, ◌≤◌, List, [], ◌∷◌, map, codes, decimal, String, string_bytes}
use Rattle.std.specs.declared.alloc.Global.{Global}
use Rattle.limits.specs.Limits.{highest_order, most_readers, most_workers}
use Rattle.scatter_run.specs.Form.{form_word}
use Rattle.scatter_run.specs.declared.form.Form.{Form}
use Rattle.scatter_run.specs.declared.words.Job.{Job}
use Rattle.scatter_run.specs.declared.words.Job.TheVariants.{Complete, Session, Generate}

-- the largest number that `generate` takes
abbrev pub largest_number : ℕ
largest_number = 1000000

abbrev pub word_bytes : List (String Global) → List (List ℕ)
word_bytes words = map (λ w. string_bytes w) words

-- `complete ORDER WORKERS`, `complete-json ORDER WORKERS` or `theta ORDER WORKERS`, by the form, each number in decimal without a leading zero or a sign
pub record AreCompleteWords (given : List (List ℕ)) (form : Form) (order workers : ℕ) : Type 0 where
  pub words : given ≡ form_word form ∷ decimal order ∷ decimal workers ∷ []
  pub order_most : order ≤ highest_order
  pub workers_least : 1 ≤ workers
  pub workers_most : workers ≤ most_workers

-- `session ORDER WORKERS READERS`, likewise
pub record AreSessionWords (given : List (List ℕ)) (order workers readers : ℕ) : Type 0 where
  pub words : given ≡ codes "session" ∷ decimal order ∷ decimal workers ∷ decimal readers ∷ []
  pub order_most : order ≤ highest_order
  pub workers_least : 1 ≤ workers
  pub workers_most : workers ≤ most_workers
  pub readers_least : 1 ≤ readers
  pub readers_most : readers ≤ most_readers

-- `generate N`, likewise
pub record AreGenerateWords (given : List (List ℕ)) (number : ℕ) : Type 0 where
  pub words : given ≡ codes "generate" ∷ decimal number ∷ []
  pub number_least : 1 ≤ number
  pub number_most : number ≤ largest_number

-- the table of words: those of each job
abbrev pub AreWordsOf : List (List ℕ) → Job → Type 0
AreWordsOf words (Complete form order workers) = AreCompleteWords words form order workers
AreWordsOf words (Session order workers readers) = AreSessionWords words order workers readers
AreWordsOf words (Generate number) = AreGenerateWords words number

-- the words are those of no job
abbrev pub NameNoJob : List (List ℕ) → Type 0
NameNoJob words = (job : Job) → AreWordsOf words job → ⊥

-- the words are those of no session
abbrev pub NameNoSession : List (List ℕ) → Type 0
NameNoSession words = (order workers readers : ℕ) → AreSessionWords words order workers readers → ⊥
