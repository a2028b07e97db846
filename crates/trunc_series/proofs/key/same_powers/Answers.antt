use Rattle.std.proofs.Common.{rules, ◌≡◌, refl, sym, subst, ◌∙◌, w64, ℕ}
use Rattle.std.proofs.lemmas.Nat.{le_bytes_8}
use Rattle.std.specs.Int.{to_le_bytes}
use Rattle.trunc_series.proofs.key.same_powers.Goals as goal

pub returns : goal.returns
returns c = λ e.
    let q : c.from_le_bytes.result ≡ c.from_le_bytes-2.result = search rules in
    sym (le_bytes_8 c.args.p _ (search rules) (search rules) c.from_le_bytes.ensures)
    ∙ subst (λ (x : ℕ). to_le_bytes w64 c.from_le_bytes.result ≡ to_le_bytes w64 x) q refl
    ∙ le_bytes_8 c.args.q _ (search rules) (search rules) c.from_le_bytes-2.ensures
