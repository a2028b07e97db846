-- The words as the command line has them; or one begins as no job's word does, or the command line takes none.
use Rattle.std.proofs.Common.{◌≡◌, ◌∙◌, sym, ap, subst, ℕ, List, false}
use Rattle.std.specs.Prelude.{IfSome, IfNone, string_bytes}
use Rattle.std.specs.List.{list_any}
use Rattle.clap.specs.Words.{App, HasMatchesOf, app_of, found_of, is_simple, matches_of, rows_of, takes}
use Rattle.clap.specs.declared.parser.matches.ArgMatches.{ArgMatches}
use Rattle.clap.proofs.WalkLemmas.{list_any-map}
use Rattle.scatter_run.specs.CommandLine.{begins_with_hyphen, command_line, words_read}
use Rattle.scatter_run.specs.Words.{AreWordsOf, NameNoJob, word_bytes}
use Rattle.scatter_run.proofs.CommandLine.{read-as-written}
use Rattle.scatter_run.proofs.WordLists.{flagged-names-none, job-taken, unflagged-plain}
use Rattle.scatter_run.proofs.words.read_words.Goals as goal

are-read : (words : List (List ℕ)) (a : App) (m : ArgMatches) → list_any begins_with_hyphen words ≡ false → a ≡ command_line → HasMatchesOf a words m → words_read (rows_of (found_of m)) ≡ words
are-read words a m plain e h = ap words_read ((h (ap is_simple e)).0 ∙ ap (λ (x : App). matches_of x words) e) ∙ read-as-written words (unflagged-plain words plain)

pub returns-then-has_hyphen-clause-none : goal.returns-then-has_hyphen-clause-none
returns-then-has_hyphen-clause-none c =
    flagged-names-none (word_bytes c.args.words.now) (sym (list_any-map begins_with_hyphen string_bytes c.args.words.now) ∙ sym c.has_hyphen.ensures ∙ c.if-has_hyphen.true)

pub returns-in-Ok-clause-job : goal.returns-in-Ok-clause-job
returns-in-Ok-clause-job c =
    subst (λ (ws : List (List ℕ)). IfSome c.job_in.result (λ job. AreWordsOf ws job))
    (are-read (word_bytes c.args.words.now) (app_of c.in_ok-command_line.field-0) c.in-Ok.matches
    (sym (list_any-map begins_with_hyphen string_bytes c.args.words.now) ∙ sym c.has_hyphen.ensures ∙ c.if-has_hyphen.false) c.in_ok-command_line.ensures c.in-Ok.ensures.matches)
    c.job_in.ensures.job

pub returns-in-Ok-clause-none : goal.returns-in-Ok-clause-none
returns-in-Ok-clause-none c =
    subst (λ (ws : List (List ℕ)). IfNone c.job_in.result (NameNoJob ws))
    (are-read (word_bytes c.args.words.now) (app_of c.in_ok-command_line.field-0) c.in-Ok.matches
    (sym (list_any-map begins_with_hyphen string_bytes c.args.words.now) ∙ sym c.has_hyphen.ensures ∙ c.if-has_hyphen.false) c.in_ok-command_line.ensures c.in-Ok.ensures.matches)
    c.job_in.ensures.none

pub returns : goal.returns
returns c = record {
  job = tt;
  none = λ job a. c.in_default.not-OutOfMemory
      (c.kind.ensures ∙ c.in-Err.ensures.passes (ap (λ (x : App). takes x (word_bytes c.args.words.now)) c.in_ok-command_line.ensures ∙ job-taken (word_bytes c.args.words.now) job a));
}
