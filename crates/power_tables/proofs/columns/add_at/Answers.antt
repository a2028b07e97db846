use Rattle.std.proofs.Common.{rules, ◌≡◌, ◌<◌, ◌+ℤ◌, ◌++◌, ◌∷◌, [], ℕ, ℤ, length, get_or, set, List, FitsSigned, to_z, of_z, sym, subst, ◌∙◌, ap, pos, arith}
use Rattle.std.proofs.lemmas.Int.{to_z-of_z}
use mir.Syntax.{w128}
use Rattle.trunc_series.specs.declared.key.Key.{Key as CodeKey}
use Rattle.trunc_series.specs.Arithmetic.{kept, IsKeepable}
use Rattle.trunc_series.proofs.Terms.{no_term}
use Rattle.power_tables.specs.Made.{GetsAt}
use Rattle.power_tables.proofs.ColumnLists.{gets-set, gets-push, column-value, get_or-any}
use Rattle.power_tables.proofs.columns.add_at.Goals as goal

pub sum-requires-clause-x : goal.sum-requires-clause-x
sum-requires-clause-x c =
    let h : c.place_of-at.result < length c.args.column.now.items = search rules in
    subst (λ (y : ℤ). IsKeepable c.args.rule y) (sym c.index.ensures) (column-value c.args.rule c.args.keys.now.items c.args.column.now.items c.place_of-at.result c.index.result.now c.requires.lengths h c.requires.values).1

pub returns-then-at-len-clause-gets : goal.returns-then-at-len-clause-gets
returns-then-at-len-clause-gets c =
    let rule = c.args.rule in
    let ks : List CodeKey = c.args.keys.now.items in
    let cs : List ℤ = c.args.column.now.items in
    let i : ℕ = c.place_of-at.result in
    let h : c.place_of-at.result < length c.args.column.now.items = search rules in
    let e = c.requires.lengths in
    let l : c.place_of-at.result < length c.args.keys.now.items = omega (arith, h, e) in
    let k : get_or ks i no_term.0 ≡ c.args.t.now.0 = subst (λ (ts : List CodeKey). get_or ts i no_term.0 ≡ c.args.t.now.0) c.as_slice.ensures.value (c.place_of-at.ensures.key no_term.0 (search rules)) in
    let f : FitsSigned w128 c.sum.result = search rules in
    let q : to_z w128 (of_z w128 c.sum.result) ≡ kept rule (get_or cs i (pos 0) +ℤ c.args.t.now.1) =
    to_z-of_z w128 c.sum.result f ∙ c.sum.ensures
    ∙ ap (λ (y : ℤ). kept rule (y +ℤ c.args.t.now.1)) (c.index.ensures ∙ get_or-any cs i c.index.result.now (pos 0) h) in
    subst (λ (y : ℤ). GetsAt rule ks ks cs (set cs i y) c.args.t.now) (sym q)
    (gets-set rule ks cs c.requires.lengths c.requires.values i c.args.t.now l k c.requires.value)

pub returns-clause-gets : goal.returns-clause-gets
returns-clause-gets c =
    let rule = c.args.rule in
    let ks : List CodeKey = c.args.keys.now.items in
    let cs : List ℤ = c.args.column.now.items in
    let m : to_z w128 (of_z w128 c.args.t.now.1) ≡ c.args.t.now.1 = to_z-of_z w128 c.args.t.now.1 (search rules) in
    subst (λ (r : List CodeKey). GetsAt rule ks r cs c.push-2.new.self.items c.args.t.now) (sym c.in_ok-push.ensures.items)
    (subst (λ (r : List ℤ). GetsAt rule ks (ks ++ c.args.t.now.0 ∷ []) cs r c.args.t.now) (sym c.in_ok-push-2.ensures.items)
    (subst (λ (x : ℤ). GetsAt rule ks (ks ++ c.args.t.now.0 ∷ []) cs (cs ++ x ∷ []) c.args.t.now) (sym m)
    (gets-push rule ks cs c.requires.lengths c.requires.values c.args.t.now c.requires.value)))
