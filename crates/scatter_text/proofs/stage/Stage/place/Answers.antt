use Rattle.std.proofs.Common.{◌∙◌, ap}
use Rattle.scatter_text.specs.Grammar.{place_after}
use Rattle.scatter_text.specs.Stages.{rows_of}
use Rattle.scatter_text.proofs.StageRows.{place_after-line}
use Rattle.scatter_text.proofs.AskRows.{place_after-asked}
use Rattle.scatter_text.proofs.stage.Stage.place.Goals as goal

pub returns-in-Body : goal.returns-in-Body
returns-in-Body c = ap (λ s. place_after (rows_of s)) c.in-Body.is ∙ place_after-line _ c.in-Body.last.row

pub returns-in-Asking : goal.returns-in-Asking
returns-in-Asking c = ap (λ s. place_after (rows_of s)) c.in-Asking.is ∙ place_after-asked _ c.in-Asking.asks.list.asks.items c.in-Asking.asks.list.settle c.in-Asking.asks.some
