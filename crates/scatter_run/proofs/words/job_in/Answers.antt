-- The job's word and its numbers as the matches have them.
use Rattle.std.proofs.Common.{◌≡◌, ◌∙◌, ap₂, subst, refl, ℕ, List, [], ◌∷◌, map, option_map, codes, Option, Some, None}
use Rattle.std.specs.Prelude.{IfSome, IfNone}
use Rattle.clap.specs.Matches.{first_value, matched_of, raw_values}
use Rattle.clap.specs.Words.{found_of, rows_of}
use Rattle.clap.specs.declared.parser.matches.Found.{Found}
use Rattle.clap.proofs.WalkLemmas.{first_value-rows, raw_values-rows}
use Rattle.scatter_run.specs.CommandLine.{words_after, words_read}
use Rattle.scatter_run.specs.Words.{AreWordsOf, NameNoJob}
use Rattle.scatter_run.proofs.WordLists.{if-none, names-none}
use Rattle.scatter_run.proofs.words.job_in.Goals as goal

words-are : (f : Found) (job : Option (List ℕ)) (numbers : Option (List (List ℕ))) → job ≡ first_value f (codes "job") → numbers ≡ option_map raw_values (matched_of f (codes "numbers"))
    → words_after job numbers ≡ words_read (rows_of f)
words-are f job numbers p q = ap₂ words_after (p ∙ first_value-rows f (codes "job")) (q ∙ raw_values-rows f (codes "numbers"))

pub returns-in_err-job-clause-none : goal.returns-in_err-job-clause-none
returns-in_err-job-clause-none c =
    if-none c.from_residual.result _ (subst NameNoJob (words-are (found_of c.args.matches.now) None _ c.in_err-job.ensures refl) (names-none [] (λ e. cc) (λ e. cc) (λ e. cc)))

pub returns-in_err-numbers-clause-none : goal.returns-in_err-numbers-clause-none
returns-in_err-numbers-clause-none c =
    let job = c.in_ok-job.job.now in
    if-none c.from_residual-in_err-numbers.result _
    (subst NameNoJob (words-are (found_of c.args.matches.now) (Some job) None c.in_ok-job.ensures c.in_err-numbers.ensures) (names-none (job ∷ []) (λ e. cc) (λ e. cc) (λ e. cc)))

pub returns-clause-job : goal.returns-clause-job
returns-clause-job c =
    subst (λ (ws : List (List ℕ)). IfSome c.job_of.result (λ job. AreWordsOf ws job))
    (words-are (found_of c.args.matches.now) (Some c.in_ok-job.job.now) (Some (map (λ n. n.now) c.in_ok-numbers.numbers.now)) c.in_ok-job.ensures c.in_ok-numbers.ensures) c.job_of.ensures.job

pub returns-clause-none : goal.returns-clause-none
returns-clause-none c =
    subst (λ (ws : List (List ℕ)). IfNone c.job_of.result (NameNoJob ws))
    (words-are (found_of c.args.matches.now) (Some c.in_ok-job.job.now) (Some (map (λ n. n.now) c.in_ok-numbers.numbers.now)) c.in_ok-job.ensures c.in_ok-numbers.ensures) c.job_of.ensures.none
