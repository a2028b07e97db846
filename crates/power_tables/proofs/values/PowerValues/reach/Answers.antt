use Rattle.std.proofs.Common.{rules, ◌<◌, ◌%◌, ℕ, List, sym, subst, ap, ◌∙◌, arith}
use Rattle.std.proofs.lemmas.Int.{to_z-of_z}
use mir.Syntax.{w64}
use Rattle.power_tables.specs.declared.values.Entry.{Entry}
use Rattle.power_tables.specs.Values.{SeenValues, AreOf}
use Rattle.power_tables.specs.Entries.{AreCombinedParts, AreEntries}
use Rattle.power_tables.proofs.Entries.{every-set, get-set, set-length, to-entries, from-entries, reached}
use Rattle.power_tables.proofs.values.PowerValues.reach.Goals as goal
use Rattle.scattering.proofs.Lists.{Every-get}

pub extend-requires-clause-entry : goal.extend-requires-clause-entry
extend-requires-clause-entry c =
    let t = c.args.table.now in
    let place : ℕ = c.cast_unsigned.result % 64 in
    let es : AreEntries c.args.table.now.rule c.parts-parts.result.now c.make_place.new.entries.items =
    c.in_ok-make_place.ensures.entries c.args.table.now.rule c.parts-parts.result.now
    (to-entries c.args.table.now c.parts-parts.result.now c.parts-parts.ensures.seen c.self.inside.entries.items (subst (λ (vs : List SeenValues). AreOf c.args.table.now vs) (sym c.self.view_is) c.requires.values)) in
    rw c.rule.ensures
    (subst (λ (e : Entry). AreCombinedParts c.args.table.now.rule e.exponent c.parts-parts.result.now e.filled e.parts.items) (sym c.index_mut-entry.ensures.value)
    (Every-get (λ (e : Entry). AreCombinedParts c.args.table.now.rule e.exponent c.parts-parts.result.now e.filled e.parts.items) c.make_place.new.entries.items (c.cast_unsigned.result % 64) c.index_mut-entry.result.now c.in_ok-make_place.ensures.made.0 es))

pub returns-clause-values : goal.returns-clause-values
returns-clause-values c =
    let es : AreEntries c.args.table.now.rule c.parts-parts.result.now c.make_place.new.entries.items =
    c.in_ok-make_place.ensures.entries c.args.table.now.rule c.parts-parts.result.now
    (to-entries c.args.table.now c.parts-parts.result.now c.parts-parts.ensures.seen c.self.inside.entries.items (subst (λ (vs : List SeenValues). AreOf c.args.table.now vs) (sym c.self.view_is) c.requires.values)) in
    from-entries c.args.table.now c.parts-parts.result.now c.parts-parts.ensures.seen _
    (every-set (λ (e : Entry). AreCombinedParts c.args.table.now.rule e.exponent c.parts-parts.result.now e.filled e.parts.items) c.make_place.new.entries.items (c.cast_unsigned.result % 64) c.extend.new.entry es (rw c.rule.ensures at c.in_ok-extend.ensures.entry))

pub returns-clause-reached : goal.returns-clause-reached
returns-clause-reached c =
    let m = c.min-highest.ensures in
    let o = c.order.ensures.value in
    let b = c.requires.top in
    let s = c.saturating_sub-count.ensures in
    let v = c.least.ensures.value in
    let n = c.in_ok-extend.ensures.made in
    reached c.args.table.now c.parts-parts.result.now c.parts-parts.ensures.seen _ (c.cast_unsigned.result % 64) c.extend.new.entry c.args.n c.args.top
    (subst (λ (i : ℕ). c.cast_unsigned.result % 64 < i) (sym (set-length c.make_place.new.entries.items (c.cast_unsigned.result % 64) c.extend.new.entry)) c.in_ok-make_place.ensures.made.0)
    (get-set c.make_place.new.entries.items (c.cast_unsigned.result % 64) c.extend.new.entry c.extend.new.entry c.in_ok-make_place.ensures.made.0)
    (c.in_ok-extend.ensures.exponent ∙ ap (λ (e : Entry). e.exponent) c.index_mut-entry.ensures.value ∙ c.in_ok-make_place.ensures.made.1 c.index_mut-entry.result.now ∙ to_z-of_z w64 c.args.n (search rules))
    (rw c.rule.ensures at c.in_ok-extend.ensures.entry) (omega (arith, m, o, b, s, v, n))
