-- What is told of the tails for an exponent other than (0, 0), at a point on no live wall.
use Rattle.std.proofs.Common.{◌≡◌, ◌≢◌, ℕ, sym, ap, subst, ◌∙◌, ◌+◌, ◌≤◌, arith, false, List, [], map, reverse, length}
use Rattle.std.specs.Prelude.{None, Result, Ok, Err, IfOk, IfErr}
use Rattle.std.proofs.lemmas.List.{length-map}
use Rattle.std.specs.BTreeMap.{IsOrdered, keys}
use Rattle.limits.specs.Limits.{largest_weight, most_reached, most_tails}
use Rattle.scattering.specs.Collections.{AtMost}
use Rattle.scattering.specs.Series.{Exp, origin}
use Rattle.scattering.specs.Plane.{Point}
use Rattle.scattering.specs.Wall.{Wall, cut_walls}
use Rattle.scattering.specs.Tail.{ReachTo}
use Rattle.scattering.specs.Theta.{is_on_live, IsAskFault}
use Rattle.scattering.proofs.Lists.{In-mapped}
use Rattle.plane_geom.specs.Shown.{point_of}
use Rattle.trunc_series.specs.Shown.{exp_of}
use Rattle.trunc_series.specs.declared.key.Exp.{Exp as CodeExp}
use Rattle.broken_lines.specs.declared.fault.AskFault.{AskFault}
use Rattle.broken_lines.specs.declared.node.Node.{Node}
use Rattle.broken_lines.specs.declared.node.Ask.{Ask}
use Rattle.broken_lines.specs.declared.tail.Tail.{Tail as CodeTail}
use Rattle.broken_lines.specs.declared.tail.Traced.{Traced}
use Rattle.broken_lines.specs.declared.tracer.Tracing.{Tracing}
use Rattle.broken_lines.specs.Growth.{exp_cmp}
use Rattle.broken_lines.specs.Traced.{AreAllTails, AreTails, IsTailsFault, seen_tails}
use Rattle.broken_lines.specs.Tracing.{SeenTracing, seen_node, seen_tracing, nothing_traced, pushed, roots, IsPastMost, IsAskReady, AreTraced, AreTooManyTails, IsLastFault}
use Rattle.broken_lines.proofs.Growths.{known-key}
use Rattle.broken_lines.proofs.WithinReach.{few-reached}
use Rattle.broken_lines.proofs.TracedRoots.{traces-start, key-reach}
use Rattle.broken_lines.proofs.TracedEnd.{all-tails}
use Rattle.broken_lines.proofs.TracedFaults.{roots-fault, many-fault, moving-tails, verdict-fault, verdict-free}

both-ok : {T E : Type 0} (r : Result T E) (P Q S : T → Type 0) → ((x : T) → P x → Q x → S x) → IfOk r P → IfOk r Q → IfOk r S
both-ok (Ok x) P Q S f h k = f x h k
both-ok (Err e) P Q S f h k = tt

on-err : {T E : Type 0} (r : Result T E) (P Q : E → Type 0) → ((e : E) → P e → Q e) → IfErr r P → IfErr r Q
on-err (Ok x) P Q f h = tt
on-err (Err e) P Q f h = f e h

module _ (ws : List Wall) (k : Ask) (ready : IsAskReady ws k) (ordered : IsOrdered exp_cmp k.known) (free : is_on_live (cut_walls k.limit ws) (point_of k.at) ≡ false) (moves : exp_of k.m ≢ origin) where
  abbrev m : Exp
  m = exp_of k.m

  abbrev q : Point
  q = point_of k.at

  few-known : AtMost most_reached (λ d. ReachTo ws k.limit d k.limit)
  few-known =
      few-reached k.limit ws k.known (map (λ e. e.0) k.known.entries)
      (λ x n e. In-mapped (λ (e : CodeExp × ℕ). e.0) k.known.entries (x, n) (known-key k.known.entries x n e))
      (let l = ready.reach.few in let e = length-map k.known.entries (λ (e : CodeExp × ℕ). e.0) in omega (arith, l, e)) ready.reach

  pub run-answer : (f : AskFault) → AreTooManyTails ws k f → IsTailsFault ws k.limit m q f
  run-answer f h = many-fault ws k f free moves few-known h

  pub roots-answer : (f : AskFault) (s : SeenTracing) (ds : List CodeExp) → s ≡ nothing_traced → ds ≡ keys k.known → IsPastMost (s.found + length (roots k ds)) f → IsTailsFault ws k.limit m q f
  roots-answer f s ds e g h =
      run-answer f (roots-fault ws k f ready ordered
      (subst (λ (t : SeenTracing). IsPastMost (t.found + length (roots k (keys k.known))) f) e (subst (λ (xs : List CodeExp). IsPastMost (s.found + length (roots k xs)) f) g h)))

  pub run-start : (s t : SeenTracing) (ds : List CodeExp) → s ≡ nothing_traced → ds ≡ keys k.known → t ≡ pushed (roots k ds) s → AreTraced ws k t
  run-start s t ds e g h =
      subst (λ (u : SeenTracing). AreTraced ws k u) (sym (h ∙ ap (λ (xs : List CodeExp). pushed (roots k xs) s) g ∙ ap (pushed (roots k (keys k.known))) e))
      (traces-start ws k ready ordered (key-reach ws k ready ordered))

  module _ (t : Tracing) (all : AreTraced ws k (seen_tracing t)) (done : t.pending.items ≡ []) where
    no-more : (seen_tracing t).nodes ≡ []
    no-more = ap (λ (ns : List Node). reverse (map seen_node ns)) done

    pub tails-answer : (r : Result Traced AskFault) → IfOk r (λ a. a.tails ≡ t.tails) → IfOk r (λ a. (a.weight ≡ t.weight) × (t.weight ≤ largest_weight)) → IfOk r (λ a. AreTails ws k.limit m q a)
    tails-answer r =
        both-ok r (λ a. a.tails ≡ t.tails) (λ a. (a.weight ≡ t.weight) × (t.weight ≤ largest_weight)) (λ a. AreTails ws k.limit m q a)
        (λ a e h. moving-tails ws k.limit m q free moves a
        (subst (λ (ts : List CodeTail). AreAllTails ws k.limit m q (seen_tails ts) a.weight) (sym (ap (λ v. v.items) e))
        (all-tails ws k.limit m q (seen_tracing t) all no-more a.weight h.0 (subst (λ (w : ℕ). w ≤ largest_weight) (sym h.0) h.1))))

    module _ (few : t.found ≤ most_tails) where
      pub free-answer : (r : Result Traced AskFault) → IfOk r (λ a. (a.weight ≡ t.weight) × (t.weight ≤ largest_weight)) → IfOk r (λ a. (t.far ≡ false) × (t.special ≡ None)) → IfOk r (λ a. IsAskFault ws k.limit m q None)
      free-answer r =
          both-ok r (λ a. (a.weight ≡ t.weight) × (t.weight ≤ largest_weight)) (λ a. (t.far ≡ false) × (t.special ≡ None)) (λ a. IsAskFault ws k.limit m q None)
          (λ a h g. verdict-free ws k.limit m q free moves few-known t all no-more few g.0 h.1 g.1)

      pub fault-answer : (r : Result Traced AskFault) → IfErr r (IsLastFault t) → IfErr r (IsTailsFault ws k.limit m q)
      fault-answer r = on-err r (IsLastFault t) (IsTailsFault ws k.limit m q) (λ f h. verdict-fault ws k.limit m q free moves few-known t all no-more few f h)
