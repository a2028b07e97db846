use Rattle.std.proofs.Common.{rules, ◌≡◌, ◌∷◌, ◌++◌, [], ℕ, ◌<◌, length, FitsSigned, to_z, of_z, sym, subst, ◌∙◌, refl, get_or, set, ℤ, ◌+ℤ◌}
use Rattle.std.proofs.lemmas.Int.{to_z-of_z}
use mir.Syntax.{w128}
use Rattle.trunc_series.specs.declared.key.Key.{Key as CodeKey}
use Rattle.trunc_series.specs.Shown.{key_of, term_of, sum_of}
use Rattle.trunc_series.specs.Arithmetic.{IsKeepable, kept}
use Rattle.trunc_series.specs.Reduced.{Terms}
use Rattle.trunc_series.specs.Sums.{StandsFor}
use Rattle.trunc_series.proofs.TermLists.{value-at, stands-set, stands-pushed, stands-trans}
use Rattle.trunc_series.proofs.adding.add_term.Goals as goal

pub sum-c-requires-clause-x : goal.sum-c-requires-clause-x
sum-c-requires-clause-x c =
    let h : c.find-at.result < length c.args.terms.now.items = search rules in
    subst (λ (u : CodeKey × ℤ). IsKeepable c.args.rule u.1) (sym c.index.ensures) (value-at c.args.rule c.args.terms.now.items c.find-at.result c.index.result.now h c.requires.terms).1

pub returns-then-at-len : goal.returns-then-at-len
returns-then-at-len c =
    let rule = c.args.rule in
    let items : Terms = c.args.terms.now.items in
    let i : ℕ = c.find-at.result in
    let d : CodeKey × ℤ = c.index.result.now in
    let h : c.find-at.result < length c.args.terms.now.items = search rules in
    let k : (get_or items i d).0 ≡ c.args.key.now = subst (λ (ts : Terms). (get_or ts i d).0 ≡ c.args.key.now) c.as_slice.ensures.value (c.find-at.ensures.1 d (search rules)) in
    let f : FitsSigned w128 c.sum-c.result = search rules in
    let m : to_z w128 (of_z w128 c.args.c) ≡ c.args.c = to_z-of_z w128 c.args.c (search rules) in
    let q : to_z w128 (of_z w128 c.sum-c.result) ≡ kept rule ((get_or items i d).1 +ℤ c.args.c) =
    to_z-of_z w128 c.sum-c.result f ∙ c.sum-c.ensures
    ∙ subst (λ (u : CodeKey × ℤ). kept rule (d.1 +ℤ to_z w128 (of_z w128 c.args.c)) ≡ kept rule (u.1 +ℤ to_z w128 (of_z w128 c.args.c))) c.index.ensures refl
    ∙ subst (λ (y : ℤ). kept rule ((get_or items i d).1 +ℤ to_z w128 (of_z w128 c.args.c)) ≡ kept rule ((get_or items i d).1 +ℤ y)) m refl in
    subst (λ (y : ℤ). StandsFor rule (sum_of (set items i (c.args.key.now, y))) ((key_of c.args.key.now, c.args.c) ∷ sum_of items)) (sym q)
    (stands-set rule items i d c.args.key.now c.args.c h k c.requires.terms c.requires.value)

pub returns : goal.returns
returns c =
    let rule = c.args.rule in
    let mid : Terms = c.make_room.new.terms.items in
    let u : CodeKey × ℤ = (c.args.key.now, c.args.c) in
    let s : StandsFor c.args.rule (sum_of c.make_room.new.terms.items) (sum_of c.args.terms.now.items) = c.in_ok-make_room.ensures c.args.rule c.requires.terms in
    let m : to_z w128 (of_z w128 c.args.c) ≡ c.args.c = to_z-of_z w128 c.args.c (search rules) in
    subst (λ (ts : Terms). StandsFor c.args.rule (sum_of ts) ((key_of c.args.key.now, c.args.c) ∷ sum_of c.args.terms.now.items)) (sym c.in_ok-push.ensures.items)
    (subst (λ (x : ℤ). StandsFor c.args.rule (sum_of (c.make_room.new.terms.items ++ (c.args.key.now, x) ∷ [])) ((key_of c.args.key.now, c.args.c) ∷ sum_of c.args.terms.now.items)) (sym m)
    (stands-trans rule (sum_of mid) (sum_of (mid ++ u ∷ [])) (sum_of c.args.terms.now.items) (term_of u ∷ []) s (stands-pushed rule mid u s.values c.requires.value)))
