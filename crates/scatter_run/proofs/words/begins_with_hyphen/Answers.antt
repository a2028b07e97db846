-- What follows the hyphen is there exactly where the word begins with it.
use Rattle.std.proofs.Common.{◌≡◌, ◌∙◌, refl, ap, arith, List, ℕ, Option, Some, None, is_some, option_map}
use Rattle.std.specs.Borrow.{Bor}
use Rattle.std.proofs.lemmas.Str.Pattern.{strip_prefix_char}
use Rattle.clap.proofs.LexerLemmas.{strip_byte-from}
use Rattle.scatter_run.specs.CommandLine.{begins_with_hyphen}
use Rattle.scatter_run.proofs.words.begins_with_hyphen.Goals as goal

same-some : (o : Option (Bor (List ℕ))) → is_some o ≡ is_some (option_map (λ s. s.now) o)
same-some None = refl
same-some (Some s) = refl

pub returns : goal.returns
returns c =
    c.is_some.ensures ∙ same-some c.strip_prefix.result
    ∙ ap is_some (strip_byte-from 45 c.as_str.result.now c.strip_prefix.result (strip_prefix_char 45 c.as_str.result.now c.strip_prefix.result c.strip_prefix.ensures.cases (omega arith)))
    ∙ ap begins_with_hyphen c.as_str.ensures.value
