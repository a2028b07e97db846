use Rattle.std.proofs.Common.{◌≡◌, ℕ, ◌<◌, sym, ◌∙◌, ap, refl, arith, below_more, length, List, get_or}
use Rattle.std.specs.Prelude.{ℤ}
use Rattle.std.proofs.lemmas.List.{get_or-map, length-map, ext_get_or}
use Rattle.trunc_series.specs.declared.key.Key.{Key as CodeKey}
use Rattle.trunc_series.specs.Shown.{term_of, sum_of}
use Rattle.trunc_series.proofs.Terms.{at, no_term}
use Rattle.trunc_series.proofs.merge.same_terms.Goals as goal

length-same : (a b : List (CodeKey × ℤ)) → sum_of a ≡ sum_of b → length a ≡ length b
length-same a b e = sym (length-map a term_of) ∙ ap length e ∙ length-map b term_of

read : (a : List (CodeKey × ℤ)) (k : ℕ) → k < length a → get_or (sum_of a) k (term_of no_term) ≡ term_of (at a k)
read a k l = get_or-map term_of a k no_term (term_of no_term) l

at-same : (a b : List (CodeKey × ℤ)) (k : ℕ) → k < length a → sum_of a ≡ sum_of b → term_of (at a k) ≡ term_of (at b k)
at-same a b k l e = let n = length-same a b e in sym (read a k l) ∙ ap (λ f. get_or f k (term_of no_term)) e ∙ read b k (omega arith)

-- lists with the same terms at each place
all-same : (a b : List (CodeKey × ℤ)) → length a ≡ length b → ((k : ℕ) → k < length a → term_of (at a k) ≡ term_of (at b k)) → sum_of a ≡ sum_of b
all-same a b e h =
    let n = length-map a term_of in let m = length-map b term_of in
    ext_get_or (term_of no_term) (sum_of a) (sum_of b) (n ∙ e ∙ sym m) (λ k l. read a k (omega arith) ∙ h k (omega arith) ∙ sym (read b k (omega arith)))

pub returns-then-a-b : goal.returns-then-a-b
returns-then-a-b c = (λ h. absurd (cc), λ h. absurd (c.if-a-b.true (length-same c.args.a.now c.args.b.now h)))

pub returns-then-not-same_term : goal.returns-then-not-same_term
returns-then-not-same_term c = (
  λ h. absurd (cc),
  λ h. absurd (let t = c.same_term.ensures.1 (at-same c.args.a.now c.args.b.now c.loop-i.i c.loop-i-test.true h) in cc),
)

pub loop-i-preserved : goal.loop-i-preserved
loop-i-preserved c = below_more _ _ c.loop-i.invariant (c.same_term.ensures.0 c.if-not-same_term.false)

pub returns : goal.returns
returns c = (λ h. all-same c.args.a.now c.args.b.now c.if-a-b.false (λ k l. c.loop-i.invariant k (omega arith)), λ h. refl)
