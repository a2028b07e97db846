use Rattle.std.proofs.Common.{◌≡◌, ◌≢◌, ◌∙◌, ap, sym, refl, arith}
use Rattle.std.specs.Prelude.{ℤ, pos, ◌*ℤ◌, Result, IfOk}
use Rattle.std.specs.Int.{w128}
use Rattle.std.proofs.lemmas.Int.{to_z-of_z}
use Rattle.std.proofs.lemmas.Result.{IfOk-weaker}
use Rattle.scattering.specs.Series.{Exp}
use Rattle.frac_128.specs.declared.Fraction.{Fraction}
use Rattle.vertex_lie.proofs.AddedTerms.{fraction-ratio}
use Rattle.vertex_lie.proofs.Divided.{zero-left}
use Rattle.vertex_lie.proofs.UniqueElement.{element-is}
use Rattle.correction_tests.proofs.lie.double.Goals as goal

nonzero : (x : ℤ) (f : Fraction) → x ≢ pos 0 → f.num *ℤ pos 1 ≡ x *ℤ f.den → f.num ≢ pos 0
nonzero x f n e z = n (zero-left (pos 1) x f.den f.lowest.positive (ap (λ y. y *ℤ pos 1) (sym z) ∙ e))

pub from_terms-requires-clause-nonzero : goal.from_terms-requires-clause-nonzero
from_terms-requires-clause-nonzero c =
    (nonzero c.args.b c.new.result c.requires.second (rw (to_z-of_z w128 c.args.b c.ranges.b) at c.new.ensures), (nonzero c.args.a c.new-2.result c.requires.first (rw (to_z-of_z w128 c.args.a c.ranges.a) at c.new-2.ensures), tt))

-- the fact first, which says what the element is of
weaker : {A E : Type 0} (r : Result A E) (P Q : A → Type 0) → IfOk r P → ((x : A) → P x → Q x) → IfOk r Q
weaker r P Q h f = IfOk-weaker r P Q f h

pub returns : goal.returns
returns c =
    weaker c.from_terms.result _ _ c.from_terms.ensures (λ h e.
    rw (element-is h _ e record {
      rises = ((refl, tt), (tt, tt));
      exponents = ((λ q. let z : pos 1 ≡ pos 0 = ap (λ (x : Exp). x.b) q in cc), ((λ q. let z : pos 1 ≡ pos 0 = ap (λ (x : Exp). x.a) q in cc), tt));
      nonzero = (nonzero c.args.b c.new.result c.requires.second (rw (to_z-of_z w128 c.args.b c.ranges.b) at c.new.ensures), (nonzero c.args.a c.new-2.result c.requires.first (rw (to_z-of_z w128 c.args.a c.ranges.a) at c.new-2.ensures), tt));
      ratios = (fraction-ratio c.new.result, (fraction-ratio c.new-2.result, tt));
    }) ((omega arith, omega arith), ((omega arith, omega arith), tt)))
