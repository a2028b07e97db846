use Rattle.std.proofs.Common.{◌≡◌, ℕ, ◌+◌, ◌%◌, ◌^◌, [], ◌∷◌, List, refl, sym, ap, ◌∙◌, subst, slice_index, slice_set, arith}
use Rattle.atomic_table.specs.Table.Act.{keeps}
use Rattle.joint_board.specs.Rule.{after_claim, IsBoard}
use Rattle.joint_board.proofs.Moves.{claims, no_wrap, drawn_below}
use Rattle.joint_board.proofs.steps.draw.Goals as goal

pub fetch_add-requires : goal.fetch_add-requires
fetch_add-requires c =
    let r = c.requires.table in
    let one = r.one in
    let v = c.args.seat.now.me.0 in
    let tasks = c.args.table.now.shared.key.tasks in (
      r.same,
      omega arith,
      (λ s h homes at small.
          let n : ℕ = slice_index s.words 0 in
          let word : h.0 ≡ n = sym (ap (λ (ws : List ℕ). slice_index ws 0) h.1) in
          let b : IsBoard tasks n s.views = subst (λ (k : ℕ). IsBoard tasks k s.views) word h.2 in
          let written = ap (λ (ws : List ℕ). slice_set ws 0 ((n + 1) % 2 ^ 64)) h.1
          ∙ ap (λ (k : ℕ). k ∷ []) (no_wrap tasks n s.views b) in (
            after_claim v n,
            keeps,
            tt,
            (n + 1, written, claims tasks _ v c.requires.idle r.live n s.views b at),
            (refl, drawn_below tasks n s.views _ v b at),
          )),
    )
