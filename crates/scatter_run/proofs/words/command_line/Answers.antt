-- The command line as it was built.
use Rattle.std.proofs.Common.{◌≡◌, ◌∙◌, ap, ap₂, rules, codes, Option, Some, None}
use Rattle.std.specs.Prelude.{IsSomeAnd, true}
use Rattle.std.proofs.lemmas.Result.{IfOk-weaker}
use Rattle.clap.specs.Lexer.{usize_max}
use Rattle.clap.specs.Simple.{Shape, app_of_fields, new_rule, on_top, with_rule}
use Rattle.clap.specs.Walk.{Rule, rule_of}
use Rattle.clap.specs.declared.builder.ArgAction.TheVariants.{Append}
use Rattle.clap.specs.declared.builder.range.ValueRange.{ValueRange}
use Rattle.scatter_run.specs.CommandLine.{job_rule, numbers_rule}
use Rattle.scatter_run.proofs.words.command_line.Goals as goal

some-of : (o : Option ValueRange) (v : ValueRange) → IsSomeAnd o (λ r. r ≡ v) → o ≡ Some v
some-of None v h = absurd h
some-of (Some r) v h = ap Some h

pub returns : goal.returns
returns c =
    let job_is : rule_of c.required-job.result ≡ job_rule = search rules in
    let range_is : c.num_args.result.num_vals ≡ Some (record { start_inclusive = 0; end_inclusive = usize_max }) = some-of _ _ c.num_args.ensures.1 in
    let new_is : rule_of c.new-2.result ≡ new_rule (codes "numbers") = search rules in
    let numbers_is : rule_of c.action-numbers.result ≡ numbers_rule =
    ap rule_of c.action-numbers.ensures ∙ ap (λ a. rule_of (record a { action = Some Append })) c.num_args.ensures.0
    ∙ ap₂ (λ (r : Rule) (n : Option ValueRange). record r { action = Some Append; range = n }) new_is range_is in
    let start_is = ap app_of_fields c.no_binary_name.ensures ∙ ap (on_top (λ (s : Shape). record s { no_binary_name = true })) c.new-3.ensures.app in
    IfOk-weaker c.arg-2.result _ _ (λ r h. h.shape (search rules) ∙ ap₂ with_rule (c.in_ok-arg.ensures.shape (search rules) ∙ ap₂ with_rule start_is job_is) numbers_is) c.arg-2.ensures
