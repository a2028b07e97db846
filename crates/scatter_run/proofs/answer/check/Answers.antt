-- A limit that is passed, with its text.
use Rattle.std.proofs.Common.{Vec, Global, ℕ, ap, sym, ◌∙◌, inr}
use Rattle.scatter_run.proofs.answer.check.Goals as goal

pub returns-in_ok-limit_fault-in-Some : goal.returns-in_ok-limit_fault-in-Some
returns-in_ok-limit_fault-in-Some c = (
  inr (record { short = c.requires; file = c.in-Ok.file; reads = c.in-Ok.ensures.file; passed = sym c.check_limits.ensures ∙ c.in-Some.is }),
  ap (λ (v : Vec ℕ Global). v.items) c.into_bytes.ensures.value ∙ c.in_ok-limit_fault-in-Some.ensures,
)
