use Rattle.std.proofs.Common.{◌≡◌, ◌+◌, ◌*◌, ◌<◌, ◌≤◌, ℕ, suc, Bool, true, false, refl, [], List, length, slice_index, slice_index_or, subst, sym, ◌∙◌, rules, arith}
use Rattle.std.specs.Prelude.{nat_le}
use Rattle.std.proofs.lemmas.Bool.Decides.{nat_tests}
use Rattle.std.proofs.lemmas.List.{get_or_past}
use Rattle.degree_theory.specs.Parts.{multichoose}
use Rattle.weight_bounds.specs.Masses.{IsBound}
use Rattle.weight_bounds.specs.Rows.{ArePowersOf, AddsTimes, sum_below}
use Rattle.weight_bounds.proofs.Choices.{choice-zero}
use Rattle.weight_bounds.proofs.Rows.{zeros, bound-less, bound-of, zero-bound, next-from, far}
use Rattle.weight_bounds.proofs.Totals.{sum-next, sum-rest}
use Rattle.weight_bounds.proofs.table.weighted.Goals as goal

one-from : (least : ℕ) → least ≡ 1 * least
one-from least = omega arith

pub powers-init : goal.powers-init
powers-init c = record {
  within = omega arith;
  length = refl;
  from = one-from c.args.least;
  near = omega arith;
  choice = λ q. let z = choice-zero c.args.n in omega (arith, z);
  low = λ i q. zeros 25 i;
  masses = λ m i p l q. omega arith;
}

-- one more power
more : (top least n r from c : ℕ) (powers : List (List ℕ)) (row new : List ℕ) (m : ℕ → ℕ → ℕ) (i : ℕ) → from ≡ (r + 1) * least → ArePowersOf top least powers m → i ≤ top
    → IsBound (slice_index row i) (sum_below r (λ j. multichoose n (suc j) * m (suc j) i)) → IsBound c (multichoose n (r + 1)) → AddsTimes 0 from (top + 1) row new c (slice_index_or powers r [])
    → IsBound (slice_index new i) (sum_below (r + 1) (λ j. multichoose n (suc j) * m (suc j) i))
more top least n r from c powers row new m i e p l h b adds = go (nat_le from i) refl
  where
    term : ℕ → ℕ
    term j = multichoose n (suc j) * m (suc j) i

    on : 0 + i ≡ i
    on = omega arith

    go : (t : Bool) → nat_le from i ≡ t → IsBound (slice_index new i) (sum_below (r + 1) (λ j. multichoose n (suc j) * m (suc j) i))
    go true q =
        let le : from ≤ i = grind (arith, nat_tests) in
        let one : r + 1 ≡ suc r = omega arith in
        let s = sum-next r (λ j. multichoose n (suc j) * m (suc j) i) in
        let added = adds.added i le (omega (arith, l)) (sum_below r (λ j. multichoose n (suc j) * m (suc j) i)) (multichoose n (suc r)) (m (suc r) i)
        (subst (λ (x : ℕ). IsBound (slice_index row x) (sum_below r (λ j. multichoose n (suc j) * m (suc j) i))) (sym on) h) (subst (λ (x : ℕ). IsBound c (multichoose n x)) one b) (p.masses r i l) in
        bound-less (slice_index new i) (sum_below r (λ j. multichoose n (suc j) * m (suc j) i) + multichoose n (suc r) * m (suc r) i) _ (omega (arith, s))
        (subst (λ (x : ℕ). IsBound (slice_index new x) (sum_below r (λ j. multichoose n (suc j) * m (suc j) i) + multichoose n (suc r) * m (suc r) i)) on added)
    go false q =
        let lt : i < from = grind (arith, nat_tests) in
        let s = sum-next r (λ j. multichoose n (suc j) * m (suc j) i) in
        let z : m (suc r) i ≡ 0 = p.low (suc r) i (below from lt e) in
        let t : multichoose n (suc r) * m (suc r) i ≡ 0 = rw z (omega arith) in
        bound-of (slice_index new i) (slice_index row i) _ (adds.below i (omega (arith, lt))) (bound-less (slice_index row i) (sum_below r (λ j. multichoose n (suc j) * m (suc j) i)) _ (omega (arith, s, t)) h)
      where
        below : (from : ℕ) → i < from → from ≡ (r + 1) * least → i < suc r * least
        below from lt e = omega (arith, lt, e)

pub powers-preserved : goal.powers-preserved
powers-preserved c =
    let b : IsBound c.next_choice-c.result (multichoose c.args.n (c.powers.r + 1)) = c.next_choice-c.ensures c.powers.invariant.choice in
    record {
      within = omega arith;
      length = search rules;
      from = next-from c.powers.from c.powers.r c.args.least c.powers.invariant.from;
      near = omega arith;
      choice = b;
      low = λ i q. c.add_times.ensures.below i (lower c.powers.from c.powers.r c.args.least i c.powers.invariant.from q) ∙ c.powers.invariant.low i q;
      masses = λ m i p l.
          more c.args.top c.args.least c.args.n c.powers.r c.powers.from c.next_choice-c.result c.args.powers.now c.powers.row c.add_times.new.target m i c.powers.invariant.from p l
          (c.powers.invariant.masses m i p l) b c.add_times.ensures;
    }
  where
    lower : (from r least i : ℕ) → from ≡ (r + 1) * least → i < least → i < 0 + from
    lower from r least i e q = omega (arith, e, q)

-- after all that have terms
all : (top least n r i : ℕ) (powers : List (List ℕ)) (m : ℕ → ℕ → ℕ) → ArePowersOf top least powers m → i ≤ top → ((j : ℕ) → r ≤ j → m (suc j) i ≡ 0)
    → sum_below i (λ j. multichoose n (suc j) * m (suc j) i) ≤ sum_below r (λ j. multichoose n (suc j) * m (suc j) i)
all top least n r i powers m p l z = sum-rest r i (λ j. multichoose n (suc j) * m (suc j) i) (λ j q s. let e = z j q in rw e (omega arith))

pub returns-else-from-top-clause-masses : goal.returns-else-from-top-clause-masses
returns-else-from-top-clause-masses c m i p l =
    bound-less (slice_index c.powers.row i) (sum_below c.powers.r (λ j. multichoose c.args.n (suc j) * m (suc j) i)) _
    (all c.args.top c.args.least c.args.n c.powers.r i c.args.powers.now m p l (λ j q. p.low (suc j) i (far c.args.top c.powers.from c.powers.r j i c.args.least c.powers.invariant.from c.if-from-top.false l q)))
    (c.powers.invariant.masses m i p l)

pub returns-after-powers-clause-masses : goal.returns-after-powers-clause-masses
returns-after-powers-clause-masses c m i p l =
    bound-less (slice_index c.powers.row i) (sum_below c.powers.r (λ j. multichoose c.args.n (suc j) * m (suc j) i)) _
    (all c.args.top c.args.least c.args.n c.powers.r i c.args.powers.now m p l
    (λ j q. let past : length c.args.powers.now ≤ j = omega (arith, q) in
    zero-bound (m (suc j) i) (subst (λ (xs : List ℕ). IsBound (slice_index xs i) (m (suc j) i)) (get_or_past c.args.powers.now j [] past) (p.masses j i l))))
    (c.powers.invariant.masses m i p l)
