use Rattle.std.proofs.Common.{◌≡◌, ℕ, ◌+◌, ◌≤◌, refl, arith, sym, subst, ap, ◌∙◌, List, [], ◌∷◌, ◌++◌, length}
use Rattle.std.specs.Prelude.{Vec, Option, Some, None, cond}
use Rattle.std.specs.Option.{is_some}
use Rattle.limits.specs.Limits.{most_reached}
use Rattle.scattering.specs.Series.{origin}
use Rattle.std.specs.Global.{Global}
use Rattle.std.proofs.lemmas.Result.{err_from_is_err_and}
use Rattle.scattering.specs.Wall.{walls, cut_walls}
use Rattle.trunc_series.specs.declared.key.Exp.{Exp as CodeExp}
use Rattle.broken_line_theory.proofs.Bends.{cut-walls-tame}
use Rattle.broken_lines.specs.declared.growth.Growth.{Growth}
use Rattle.broken_lines.specs.Growth.{AreSteps, AreLevelsSummable, Gains, AddsSteps, IsTooMany, IsStepped, IsTermOfSome}
use Rattle.broken_lines.proofs.Levels.{IsReachedTo, reached-start, reached-next, step-reached, own-reached, steps-within, levels-within, reach-fault, reach-map, gained-reached, code_of, one-entry, entry-here}
use Rattle.broken_lines.proofs.reaching.reach_map.Goals as goal

few-entries : (o : Option ℕ) (a b : ℕ) → a ≡ b + cond (is_some o) 0 1 → b ≡ 0 → a ≤ most_reached
few-entries None a b e z = omega (arith, e, z)
few-entries (Some i) a b e z = omega (arith, e, z)

stepped-gains : (ss ss' : List (CodeExp × ℕ)) (ls ls' : List (Vec CodeExp Global)) (n : ℕ) (a b : Growth) → ss' ≡ ss → ls' ≡ ls → Gains (IsStepped ss' ls' n) a b → Gains (IsStepped ss ls n) a b
stepped-gains ss ss' ls ls' n a b e f h = subst (λ (ks : List (Vec CodeExp Global)). Gains (IsStepped ss ks n) a b) f (subst (λ (rs : List (CodeExp × ℕ)). Gains (IsStepped rs ls' n) a b) e h)

pub loop-lower-init : goal.loop-lower-init
loop-lower-init c =
    let vs = walls c.args.e.now.diagram in
    let tame = cut-walls-tame c.args.limit c.args.e.now.order vs c.order.ensures.proper in
    let u = c.in_ok-insert.ensures.updates in
    let none = c.new-known.ensures.empty in
    reached-start (cut_walls c.args.limit vs) c.insert.new.self c.push.new.self.items c.new-steps.result.items tame
    (λ x i e. one-entry c.new-known.result c.insert.new.self (code_of origin) x i none u e) (entry-here c.new-known.result c.insert.new.self (code_of origin) u)
    (few-entries c.in_ok-insert.field-0 _ _ c.in_ok-insert.ensures.len (ap length none))
    c.in_ok-from_slice.field-0 (c.in_ok-push.ensures.items ∙ ap (λ (ls : List (Vec CodeExp Global)). ls ++ c.in_ok-from_slice.field-0 ∷ []) c.new-levels.ensures.items) c.in_ok-from_slice.ensures.items c.new-steps.ensures.items

pub add_steps-requires-clause-levels : goal.add_steps-requires-clause-levels
add_steps-requires-clause-levels c = ap length c.as_slice-in-loop-lower.ensures.value ∙ c.loop-lower.invariant.count

pub add_steps-requires-clause-steps : goal.add_steps-requires-clause-steps
add_steps-requires-clause-steps c =
    let t = c.loop-lower-test.true in let m = c.min-lower-end.ensures in let o = c.order.ensures.bound in
    subst (AreSteps (c.loop-lower.lower + 1)) (sym c.as_slice.ensures.value) (steps-within c.args.limit c.loop-lower.lower (walls c.args.e.now.diagram) c.order.ensures.tame (omega (arith, t, m, o)) c.loop-lower.known c.loop-lower.levels.items c.loop-lower.steps.items c.loop-lower.invariant)

pub add_steps-requires-clause-within : goal.add_steps-requires-clause-within
add_steps-requires-clause-within c =
    let t = c.loop-lower-test.true in let m = c.min-lower-end.ensures in let o = c.order.ensures.bound in
    subst AreLevelsSummable (sym c.as_slice-in-loop-lower.ensures.value) (levels-within c.args.limit c.loop-lower.lower (walls c.args.e.now.diagram) c.order.ensures.tame (omega (arith, t, m, o)) c.loop-lower.known c.loop-lower.levels.items c.loop-lower.steps.items c.loop-lower.invariant)

pub returns-in_err-add_steps-clause-fault : goal.returns-in_err-add_steps-clause-fault
returns-in_err-add_steps-clause-fault c =
    let p = err_from_is_err_and c.from_residual-in_err-add_steps.result c.from_residual-in_err-add_steps.ensures.1 in
    let vs = walls c.args.e.now.diagram in
    let n = c.loop-lower.lower in
    let t = c.loop-lower-test.true in let m = c.min-lower-end.ensures in
    let le : n + 1 ≤ c.args.limit = omega (arith, t, m) in
    let tame = cut-walls-tame c.args.limit c.args.e.now.order vs c.order.ensures.proper in
    rw (p.1, p.2)
    (reach-fault c.args.limit (n + 1) vs record { known = c.loop-lower.known; level = c.new-level.result; degree = n + 1 } (IsStepped c.as_slice.result.now c.as_slice-in-loop-lower.result.now (n + 1)) c.in_err-add_steps.field-0.0 le
    (λ x i e. let s = c.loop-lower.invariant.sound x i e in let l = s.0 in (omega (arith, l), s.1.reached))
    (λ x r. step-reached c.args.limit n vs tame le c.loop-lower.known c.loop-lower.levels.items c.loop-lower.steps.items c.loop-lower.invariant x
    (subst (λ (ls : List (Vec CodeExp Global)). IsStepped c.loop-lower.steps.items ls (n + 1) x) c.as_slice-in-loop-lower.ensures.value (subst (λ (ss : List (CodeExp × ℕ)). IsStepped ss c.as_slice-in-loop-lower.result.now (n + 1) x) c.as_slice.ensures.value r)))
    c.in_err-add_steps.ensures.fault)

pub returns-in_err-add_walls-clause-fault : goal.returns-in_err-add_walls-clause-fault
returns-in_err-add_walls-clause-fault c =
    let p = err_from_is_err_and c.from_residual-in_err-add_walls.result c.from_residual-in_err-add_walls.ensures.1 in
    let vs = walls c.args.e.now.diagram in
    let n = c.loop-lower.lower in
    let t = c.loop-lower-test.true in let m = c.min-lower-end.ensures in
    let le : n + 1 ≤ c.args.limit = omega (arith, t, m) in
    let tame = cut-walls-tame c.args.limit c.args.e.now.order vs c.order.ensures.proper in
    let old : Growth = record { known = c.loop-lower.known; level = c.new-level.result; degree = n + 1 } in
    let gains = stepped-gains c.loop-lower.steps.items c.as_slice.result.now c.loop-lower.levels.items c.as_slice-in-loop-lower.result.now (n + 1) old c.add_steps.new.self c.as_slice.ensures.value c.as_slice-in-loop-lower.ensures.value c.in_ok-add_steps.ensures.gains in
    rw (p.1, p.2)
    (reach-fault c.args.limit (n + 1) vs c.add_steps.new.self (IsTermOfSome (n + 1) vs) c.in_err-add_walls.field-0.0 le
    (gained-reached c.args.limit n vs tame le c.loop-lower.known c.loop-lower.levels.items c.loop-lower.steps.items c.loop-lower.invariant old c.add_steps.new.self refl refl gains)
    (own-reached c.args.limit n vs tame le c.loop-lower.known c.loop-lower.levels.items c.loop-lower.steps.items c.loop-lower.invariant)
    (subst (λ (d : ℕ). IsTooMany (IsTermOfSome d vs) c.add_steps.new.self c.in_err-add_walls.field-0.0) gains.degree c.in_err-add_walls.ensures.fault))

pub loop-lower-preserved : goal.loop-lower-preserved
loop-lower-preserved c =
    let vs = walls c.args.e.now.diagram in
    let n = c.loop-lower.lower in
    let t = c.loop-lower-test.true in let m = c.min-lower-end.ensures in
    let le : n + 1 ≤ c.args.limit = omega (arith, t, m) in
    let tame = cut-walls-tame c.args.limit c.args.e.now.order vs c.order.ensures.proper in
    let old : Growth = record { known = c.loop-lower.known; level = c.new-level.result; degree = n + 1 } in
    let mid = c.add_steps.new.self in
    let new = c.add_walls.new.self in
    let gains = stepped-gains c.loop-lower.steps.items c.as_slice.result.now c.loop-lower.levels.items c.as_slice-in-loop-lower.result.now (n + 1) old mid c.as_slice.ensures.value c.as_slice-in-loop-lower.ensures.value c.in_ok-add_steps.ensures.gains in
    subst (λ (ls : List (Vec CodeExp Global)). IsReachedTo (cut_walls c.args.limit vs) (n + 1) new.known ls c.add_walls.new.steps.items) (sym c.in_ok-push-2.ensures.items)
    (reached-next c.args.limit n vs tame c.loop-lower.levels.items c.loop-lower.steps.items c.add_walls.new.steps.items old mid new c.loop-lower.invariant c.new-level.ensures.items refl le gains
    (subst (λ (d : ℕ). Gains (IsTermOfSome d vs) mid new) gains.degree c.in_ok-add_walls.ensures.gains)
    (subst (λ (d : ℕ). AddsSteps (IsTermOfSome d vs) mid new c.loop-lower.steps.items c.add_walls.new.steps.items) gains.degree c.in_ok-add_walls.ensures.steps))

pub returns-clause-reach : goal.returns-clause-reach
returns-clause-reach c =
    let t = c.loop-lower-test.false in let m = c.min-lower-end.ensures in let o = c.order.ensures.value in let r = c.requires in
    let vs = walls c.args.e.now.diagram in
    let k = c.loop-lower.auto.lower-end in
    let e : c.loop-lower.lower ≡ c.args.limit = omega (arith, t, m, o, r, k) in
    reach-map c.args.limit vs c.loop-lower.known c.loop-lower.levels.items c.loop-lower.steps.items (subst (λ (n : ℕ). IsReachedTo (cut_walls c.args.limit vs) n c.loop-lower.known c.loop-lower.levels.items c.loop-lower.steps.items) e c.loop-lower.invariant)
