-- What is added to the tails that have to be followed, one after another.
use Rattle.std.proofs.Common.{◌≡◌, ℕ, zero, suc, refl, sym, ap, ◌∙◌, ◌+◌, ◌-◌, ◌^◌, ◌≤◌, ◌<◌, min, arith, true, false, List, [], ◌∷◌, ◌++◌, map, length, length-append, drop, get_or}
use Rattle.std.specs.Prelude.{filter, reverse, option_map, Vec}
use Rattle.std.specs.Global.{Global}
use Rattle.std.proofs.Math.ListN.{drop_of_length-le}
use Rattle.std.proofs.Math.Seq.{drop-cons}
use Rattle.std.proofs.lemmas.List.{append_assoc, reverse-append}
use Rattle.std.proofs.lemmas.List.Elements.{filter-append}
use Rattle.scattering.specs.BrokenLine.{Bend}
use Rattle.scattering.proofs.Lists.{map-append}
use Rattle.plane_geom.specs.Shown.{point_of}
use Rattle.trunc_series.specs.declared.key.Exp.{Exp as CodeExp}
use Rattle.broken_lines.specs.declared.fault.AskFault.{AskFault}
use Rattle.broken_lines.specs.declared.fault.AskFault.TheVariants.{NotYet, NotGeneric, TooManyReach, TooManyTails, PointTooLarge, WeightTooLarge, Memory}
use Rattle.broken_lines.specs.declared.node.Node.{Node}
use Rattle.broken_lines.specs.declared.node.Ask.{Ask}
use Rattle.broken_lines.specs.declared.tail.Tail.{Tail as CodeTail}
use Rattle.broken_lines.specs.declared.tracer.Tracing.{Tracing}
use Rattle.broken_lines.specs.Traced.{seen_tail}
use Rattle.broken_lines.specs.Tracing.{SeenNode, seen_node, SeenTracing, seen_tracing, with_ended, child_of, goes_on, children, is_root, root_at, roots, pushed, IsPastMost}

-- the state before the next is taken off
abbrev pub with_next : SeenNode → SeenTracing → SeenTracing
with_next n s = record { tails = s.tails; nodes = n ∷ s.nodes; found = s.found; weight = s.weight; far = s.far; special = s.special }

-- ---- one after another

pub pushed-none : (s : SeenTracing) → pushed [] s ≡ s
pushed-none s = λ i. record { tails = s.tails; nodes = s.nodes; found = same s.found i; weight = s.weight; far = s.far; special = s.special }
  where
    same : (n : ℕ) → n + 0 ≡ n
    same n = omega arith

pub pushed-pushed : (ns ks : List SeenNode) (s : SeenTracing) → pushed ns (pushed ks s) ≡ pushed (ns ++ ks) s
pushed-pushed ns ks s = λ i. record { tails = s.tails; nodes = sym (append_assoc ns ks s.nodes) i; found = count i; weight = s.weight; far = s.far; special = s.special }
  where
    count : s.found + length ks + length ns ≡ s.found + length (ns ++ ks)
    count = let e = length-append ns ks in omega (arith, e)

-- what is over with some is over with more
pub over-more : (n k : ℕ) (f : AskFault) → n ≤ k → IsPastMost n f → IsPastMost k f
over-more n k (NotYet i) l h = h
over-more n k (NotGeneric p) l h = h
over-more n k TooManyReach l h = h
over-more n k TooManyTails l h = omega (arith, l, h)
over-more n k PointTooLarge l h = h
over-more n k WeightTooLarge l h = h
over-more n k Memory l h = h

-- the stack, with one more on top
pub stack-more : (ns : List Node) (n : Node) → reverse (map seen_node (ns ++ n ∷ [])) ≡ seen_node n ∷ reverse (map seen_node ns)
stack-more ns n = ap reverse (map-append seen_node ns (n ∷ [])) ∙ reverse-append (map seen_node ns) (seen_node n ∷ [])

-- ---- the last places first

module _ {A : Type 0} where
  -- the elements from the place before the last i on
  pub last-more : (xs : List A) (n i : ℕ) (d : A) → n ≡ length xs → i < n → drop (n - (i + 1)) xs ≡ get_or xs (n - 1 - i) d ∷ drop (n - i) xs
  last-more xs n i d e lt =
      ap (λ (j : ℕ). drop j xs) (first n i lt) ∙ drop-cons xs (n - 1 - i) d (omega (arith, e, lt)) ∙ ap (λ (j : ℕ). get_or xs (n - 1 - i) d ∷ drop j xs) (second n i lt)
    where
      first : (n i : ℕ) → i < n → n - (i + 1) ≡ n - 1 - i
      first n i lt = omega (arith, lt)

      second : (n i : ℕ) → i < n → suc (n - 1 - i) ≡ n - i
      second n i lt = omega (arith, lt)

-- ---- children

pub children-more : (k : Ask) (n : SeenNode) (c : Bend × ℕ) (cs : List (Bend × ℕ)) → children k n (c ∷ cs) ≡ children k n (c ∷ []) ++ children k n cs
children-more k n c cs = ap (map (child_of n)) (filter-append (goes_on k n) (c ∷ []) cs) ∙ map-append (child_of n) (filter (goes_on k n) (c ∷ [])) (filter (goes_on k n) cs)

pub one-child : (k : Ask) (n : SeenNode) (c : Bend × ℕ) → goes_on k n c ≡ true → children k n (c ∷ []) ≡ child_of n c ∷ []
one-child k n c e = rw e refl

pub no-child : (k : Ask) (n : SeenNode) (c : Bend × ℕ) → goes_on k n c ≡ false → children k n (c ∷ []) ≡ []
no-child k n c e = rw e refl

-- ---- roots

pub roots-more : (k : Ask) (d : CodeExp) (ds : List CodeExp) → roots k (d ∷ ds) ≡ roots k (d ∷ []) ++ roots k ds
roots-more k d ds = ap (map (root_at k)) (filter-append (is_root k) (d ∷ []) ds) ∙ map-append (root_at k) (filter (is_root k) (d ∷ [])) (filter (is_root k) ds)

pub one-root : (k : Ask) (d : CodeExp) → is_root k d ≡ true → roots k (d ∷ []) ≡ root_at k d ∷ []
one-root k d e = rw e refl

pub no-root : (k : Ask) (d : CodeExp) → is_root k d ≡ false → roots k (d ∷ []) ≡ []
no-root k d e = rw e refl

-- ---- loops

-- one more in front, of what a list gives piece by piece
module _ {A : Type 0} (g : List A → List SeenNode) (none : g [] ≡ []) (more : (x : A) (xs : List A) → g (x ∷ xs) ≡ g (x ∷ []) ++ g xs) (xs : List A) (n : ℕ) (size : n ≡ length xs) (s : SeenTracing) where
  pub given-first : s ≡ pushed (g (drop (n - 0) xs)) s
  given-first = sym (ap (λ (ys : List A). pushed (g ys) s) (drop_of_length-le xs (omega (arith, size))) ∙ ap (λ (ns : List SeenNode). pushed ns s) none ∙ pushed-none s)

  pub given-more : (i : ℕ) (d x : A) (b c : SeenTracing) → i < n → x ≡ get_or xs (n - 1 - i) d → b ≡ pushed (g (drop (n - i) xs)) s → c ≡ pushed (g (x ∷ [])) b → c ≡ pushed (g (drop (n - (i + 1)) xs)) s
  given-more i d x b c lt e h k =
      k ∙ ap (pushed (g (x ∷ []))) h ∙ pushed-pushed (g (x ∷ [])) (g (drop (n - i) xs)) s
      ∙ ap (λ (ns : List SeenNode). pushed ns s) (sym (more x (drop (n - i) xs)) ∙ ap (λ (y : A). g (y ∷ drop (n - i) xs)) e ∙ ap g (sym (last-more xs n i d size lt)))

  pub given-all : (i : ℕ) (b : SeenTracing) → i ≡ n → b ≡ pushed (g (drop (n - i) xs)) s → b ≡ pushed (g xs) s
  given-all i b e h = let z : n - i ≡ 0 = omega (arith, e) in h ∙ ap (λ (j : ℕ). pushed (g (drop j xs)) s) z

  -- no part gives more than the whole
  part-length : (ys : List A) (j : ℕ) → length (g (drop j ys)) ≤ length (g ys)
  part-length [] zero = omega arith
  part-length [] (suc j) = omega arith
  part-length (y ∷ ys) zero = omega arith
  part-length (y ∷ ys) (suc j) = let h = part-length ys j in let e = ap length (more y ys) in let f = length-append (g (y ∷ [])) (g ys) in omega (arith, h, e, f)

  pub given-fault : (i : ℕ) (d x : A) (b : SeenTracing) (f : AskFault) → i < n → x ≡ get_or xs (n - 1 - i) d → b ≡ pushed (g (drop (n - i) xs)) s → IsPastMost (b.found + length (g (x ∷ []))) f → IsPastMost (s.found + length (g xs)) f
  given-fault i d x b f lt e h o = over-more (b.found + length (g (x ∷ []))) (s.found + length (g xs)) f low o
    where
      found : b.found ≡ s.found + length (g (drop (n - i) xs))
      found = ap (λ (t : SeenTracing). t.found) h

      parts : length (g (drop (n - (i + 1)) xs)) ≡ length (g (x ∷ [])) + length (g (drop (n - i) xs))
      parts =
          ap length (ap g (last-more xs n i d size lt) ∙ ap (λ (y : A). g (y ∷ drop (n - i) xs)) (sym e) ∙ more x (drop (n - i) xs)) ∙ length-append (g (x ∷ [])) (g (drop (n - i) xs))

      low : b.found + length (g (x ∷ [])) ≤ s.found + length (g xs)
      low = let p = part-length xs (n - (i + 1)) in omega (arith, found, parts, p)

-- ---- in the words of the program

pub push-seen : (t : Tracing) (v : Vec Node Global) (n : Node) → v.items ≡ t.pending.items ++ n ∷ [] → seen_tracing record { tails = t.tails; pending = v; found = t.found + 1; weight = t.weight; far = t.far; special = t.special } ≡ pushed (seen_node n ∷ []) (seen_tracing t)
push-seen t v n e = λ i. record { tails = map seen_tail t.tails.items; nodes = (ap (λ (ns : List Node). reverse (map seen_node ns)) e ∙ stack-more t.pending.items n) i; found = t.found + 1; weight = t.weight; far = t.far; special = option_map point_of t.special }

pub pop-seen : (t : Tracing) (v : Vec Node Global) (n : Node) → t.pending.items ≡ v.items ++ n ∷ [] → seen_tracing t ≡ with_next (seen_node n) (seen_tracing record { tails = t.tails; pending = v; found = t.found; weight = t.weight; far = t.far; special = t.special })
pop-seen t v n e = λ i. record { tails = map seen_tail t.tails.items; nodes = (ap (λ (ns : List Node). reverse (map seen_node ns)) e ∙ stack-more v.items n) i; found = t.found; weight = t.weight; far = t.far; special = option_map point_of t.special }

pub end-seen : (t : Tracing) (v : Vec CodeTail Global) (n : Node) → v.items ≡ t.tails.items ++ n.tail ∷ [] → seen_tracing record { tails = v; pending = t.pending; found = t.found; weight = min (t.weight + n.weight) (2 ^ 128 - 1); far = t.far; special = t.special } ≡ with_ended (seen_node n) (seen_tracing t)
end-seen t v n e = λ i. record { tails = (ap (map seen_tail) e ∙ map-append seen_tail t.tails.items (n.tail ∷ [])) i; nodes = reverse (map seen_node t.pending.items); found = t.found; weight = min (t.weight + n.weight) (2 ^ 128 - 1); far = t.far; special = option_map point_of t.special }
