-- The command line that the words are read as: a word for the job, and numbers.
use Rattle.std.specs.Prelude.{ℕ, Bool, true, List, [], ◌∷◌, Option, Some, None, codes, is_some, unwrap_or}
use Rattle.clap.specs.Words.{App, Row, Rule, all_of, first_of, new_app, new_rule, with_rule}
use Rattle.clap.specs.Simple.{on_top}
use Rattle.clap.specs.Lexer.{strip_byte, usize_max}
use Rattle.clap.specs.declared.builder.ArgAction.TheVariants.{Append}

abbrev pub job_rule : Rule
job_rule = record (new_rule (codes "job")) { required = true }

abbrev pub numbers_rule : Rule
numbers_rule = record (new_rule (codes "numbers")) {
  action = Some Append;
  range = Some (record { start_inclusive = 0; end_inclusive = usize_max });
}

-- `JOB [NUMBERS]..`, with no word for the program itself
abbrev pub command_line : App
command_line = with_rule (with_rule (on_top (λ s. record s { no_binary_name = true }) (new_app (codes "scatter"))) job_rule) numbers_rule

-- the words that were read as the job and its numbers
abbrev pub words_after : Option (List ℕ) → Option (List (List ℕ)) → List (List ℕ)
words_after None numbers = []
words_after (Some job) numbers = job ∷ unwrap_or numbers []

abbrev pub words_read : List Row → List (List ℕ)
words_read rows = words_after (first_of (codes "job") rows) (all_of (codes "numbers") rows)

abbrev pub begins_with_hyphen : List ℕ → Bool
begins_with_hyphen word = is_some (strip_byte 45 word)
