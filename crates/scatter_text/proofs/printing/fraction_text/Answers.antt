-- The text of a fraction is UTF-8.
use Rattle.std.proofs.Common.{rules, sym, subst, ◌≡◌, Result, Ok, Err}
use Rattle.std.specs.Prelude.{IsOk}
use Rattle.std.specs.Str.{IsUtf8}
use Rattle.frac_128.proofs.Decimal.{utf8-fraction}
use Rattle.scatter_text.proofs.printing.fraction_text.Goals as goal

failed : {A B : Type 0} (r : Result A B) (e : B) → r ≡ Err e → IsOk r → ⊥
failed (Ok a) e is h = absurd (cc)
failed (Err d) e is h = absurd (cc)

pub unreachable-requires : goal.unreachable-requires
unreachable-requires c = failed c.from_utf8.result _ c.in-Err.is (c.from_utf8.ensures.succeeds (subst IsUtf8 (sym c.in_ok-bytes.ensures) (utf8-fraction c.args.q.num c.args.q.den (search rules) (search rules))))
