-- The monomials of the terms of a line, kept as a set.
--     exponents t              that of z^d first, then those of the variables
--     HasMonomials s terms     the set s has the exponents of these terms and no others
use Rattle.std.specs.Prelude.{◌≡◌, ◌≢◌, false, List, ◌∷◌, ℤ, Vec, All}
use Rattle.std.specs.Global.{Global}
use Rattle.std.specs.BTreeSet.{BTreeSet, contains}
use Rattle.std.specs.Cmp.Lexicographic.{slice_cmp}
use Rattle.std.specs.Ordering.{int_cmp}
use Rattle.std.specs.declared.cmp.Ordering.{Ordering}
use Rattle.scatter_text.specs.declared.file.TermRow.{TermRow}

abbrev pub exponents : TermRow → List ℤ
exponents t = t.j ∷ t.powers

abbrev pub Exponents : Type 0
Exponents = Vec ℤ Global

abbrev pub exponents_cmp : Exponents → Exponents → Ordering
exponents_cmp x y = slice_cmp int_cmp x.items y.items

pub record HasMonomials (s : BTreeSet Exponents) (terms : List TermRow) : Type 0 where
  pub missing : (q : Exponents) → contains exponents_cmp s q ≡ false → All (λ t. exponents t ≢ q.items) terms
  pub other : (q : Exponents) → All (λ t. exponents t ≢ q.items) terms → contains exponents_cmp s q ≡ false
