-- The asks of a file within the limits, and the one query that each stands for.
use Rattle.std.proofs.Common.{◌≡◌, ℕ, suc, refl, sym, ap, subst, ◌∙◌, ◌<◌, ◌≤◌, ◌*◌, ◌+◌, false, ◌||◌, List, [], ◌∷◌, ◌++◌, length, take, get_or, arith}
use Rattle.std.specs.Prelude.{ℤ, pos, ◌≤ℤ◌, nat_abs, All, Option, Some, None}
use Rattle.std.specs.List.{AllZip, list_any}
use Rattle.std.proofs.lemmas.List.{take_more, take_all}
use Rattle.std.proofs.lemmas.List.Elements.{All-nil, All-cons}
use Rattle.std.proofs.lemmas.Int.{ints}
use Rattle.std.proofs.lemmas.Bool.{le-ltb}
use Rattle.limits.specs.Limits.{most_asks}
use Rattle.scattering.specs.Series.{Exp}
use Rattle.scattering.specs.Plane.{Point}
use Rattle.scattering.proofs.Lists.{or-false}
use Rattle.plane_theory.proofs.LowestTerms.{same-point}
use Rattle.plane_geom.specs.Shown.{point_of}
use Rattle.frac_128.proofs.Lowest.{across}
use Rattle.trunc_series.specs.Shown.{exp_of}
use Rattle.trunc_series.specs.declared.key.Exp.{Exp as CodeExp}
use Rattle.theta_algebra.specs.declared.query.QueryKind.{QueryKind}
use Rattle.theta_algebra.specs.declared.query.QueryKind.TheVariants as query
use Rattle.theta_algebra.specs.Families.{IsFactorExp}
use Rattle.theta_algebra.specs.Answering.{IsKind, IsQuery}
use Rattle.scatter_text.specs.declared.file.Coordinate.{Coordinate}
use Rattle.theta_algebra.specs.declared.query.Query.{Query}
use Rattle.scatter_text.specs.declared.file.AskKind.{AskKind}
use Rattle.scatter_text.specs.declared.file.AskKind.TheVariants.{Theta, Product}
use Rattle.scatter_text.specs.declared.file.LineRow.{LineRow}
use Rattle.scatter_text.specs.declared.file.AskRow.{AskRow}
use Rattle.scatter_text.specs.declared.file.TextFile.{TextFile}
use Rattle.scatter_text.specs.Limits.{AreAsksWithinLimits, first_limit, limits_by, is_far, is_exponent_large, is_kind_large, is_order_high, has_large_ask_exponent, has_high_reader, has_high_least, has_many_asks}
use Rattle.scatter_text.specs.LimitedLines.{IsPlace}
use Rattle.scatter_text.specs.Values.{IsAsk}
use Rattle.scatter_text.specs.GivenQueries.{exp_given, IsGivenSmall, IsKindSmall, IsOrderSmall, IsKindOf, IsLeastOf, IsLimitedAsk, IsQueryOf, IsReadersQueryOf}
use Rattle.scatter_text.proofs.WithinLimits.{any-none, all-pass, not-less, exponent-small}
use Rattle.scatter_text.proofs.InitialLines.{zip-push}

-- ---- one of the asks

small : (a : ℤ) → is_exponent_large (pos 1) a ≡ false → IsGivenSmall a
small a e = let h : nat_abs (pos 1) * nat_abs a ≤ 64 = exponent-small (pos 1) a e in omega (arith, h)

kind-small : (kind : AskKind) → is_kind_large kind ≡ false → IsKindSmall kind
kind-small (Theta a b) e =
    let p = or-false (is_exponent_large (pos 1) a) (is_exponent_large (pos 1) b) e in
    (small a p.0, small b p.1)
kind-small (Product a b c d) e =
    let la = is_exponent_large (pos 1) a in
    let lb = is_exponent_large (pos 1) b in
    let lc = is_exponent_large (pos 1) c in
    let p = or-false (la || lb || lc) (is_exponent_large (pos 1) d) e in
    let q = or-false (la || lb) lc p.0 in
    let r = or-false la lb q.0 in
    (small a r.0, small b r.1, small c q.1, small d p.1)

order-small : (least : Option ℤ) → is_order_high least ≡ false → IsOrderSmall least
order-small None e order is = absurd (cc)
order-small (Some n) e order is =
    let h : nat_abs n ≤ 24 = not-less 24 (nat_abs n) e in
    let same : n ≡ order = cc in
    subst (λ (m : ℤ). nat_abs m ≤ 24) same h

ask-kind : (a : AskRow) → has_large_ask_exponent a ≡ false → IsKindSmall a.kind
unfolding has_large_ask_exponent
ask-kind a e = kind-small a.kind e

ask-least : (a : AskRow) → has_high_least a ≡ false → IsOrderSmall a.least
unfolding has_high_least
ask-least a e = order-small a.least e

ask-reader : (readers : ℕ) (a : AskRow) → has_high_reader readers a ≡ false → nat_abs a.reader ≤ readers
unfolding has_high_reader
ask-reader readers a e = not-less readers (nat_abs a.reader) e

pub limited-ask : (file : TextFile) → AreAsksWithinLimits file → (k : ℕ) (d : AskRow) → k < length file.asks → IsLimitedAsk (get_or file.asks k d)
limited-ask file h k d lt =
    let a = get_or file.asks k d in
    record {
      valid = file.valid_asks k d lt;
      kind = ask-kind a (any-none has_large_ask_exponent file.asks h.exponents k d lt);
      least = ask-least a (any-none has_high_least file.asks h.least k d lt);
      reader = ask-reader 8 a (any-none (has_high_reader 8) file.asks h.readers k d lt);
      near = any-none (λ (b : AskRow). is_far b.x b.y) file.asks h.points k d lt;
    }

-- what a list has where it ends
abbrev pub no_ask : AskRow
no_ask = record { reader = pos 0; kind = Theta (pos 0) (pos 0); x = record { num = pos 0; den = pos 0 }; y = record { num = pos 0; den = pos 0 }; least = None }

-- ---- those so far

pub queries-more : (rows : List AskRow) (queries : List (ℕ × Query)) (i : ℕ) (q : ℕ × Query) → i < length rows
    → AllZip IsReadersQueryOf (take i rows) queries → IsReadersQueryOf (get_or rows i no_ask) q → AllZip IsReadersQueryOf (take (i + 1) rows) (queries ++ q ∷ [])
queries-more rows queries i q l h k =
    subst (λ (xs : List AskRow). AllZip IsReadersQueryOf xs (queries ++ q ∷ [])) (sym (take_more rows i no_ask l))
    (zip-push IsReadersQueryOf (take i rows) queries (get_or rows i no_ask) q h k)

-- all of them
pub all-queries : (rows rows' : List AskRow) (queries : List (ℕ × Query)) (i : ℕ) → rows' ≡ rows → length rows' ≤ i → AllZip IsReadersQueryOf (take i rows') queries → AllZip IsReadersQueryOf rows queries
all-queries rows rows' queries i e l h = subst (λ (xs : List AskRow). AllZip IsReadersQueryOf xs queries) (take_all i rows' l ∙ e) h

-- a reader is counted from 1
pub reader-same : (a : AskRow) → IsLimitedAsk a → a.reader ≡ pos (nat_abs a.reader)
reader-same a h = let positive = h.valid.values.reader in omega (arith, ints, positive)

-- ---- a file that passes no limit

reader-low : (m n : ℕ) (a : AskRow) → m ≤ n → has_high_reader m a ≡ false → has_high_reader n a ≡ false
unfolding has_high_reader
reader-low m n a h e =
    let k : nat_abs a.reader ≤ m = not-less m (nat_abs a.reader) e in
    le-ltb n (nat_abs a.reader) (omega (arith, k, h))

readers-low : (m n : ℕ) (rows : List AskRow) → m ≤ n → list_any (has_high_reader m) rows ≡ false → list_any (has_high_reader n) rows ≡ false
readers-low m n [] h e = refl
readers-low m n (a ∷ rows) h e =
    let p = or-false (has_high_reader m a) (list_any (has_high_reader m) rows) e in
    rw (reader-low m n a h p.0, readers-low m n rows h p.1) refl

pub asks-within-first-limit : (file : TextFile) (order readers : ℕ) → readers ≤ 8 → first_limit file order readers ≡ None → AreAsksWithinLimits file
asks-within-first-limit file order readers few e =
    let all = all-pass (limits_by file.vars file.lines file.asks order readers) e in
    record {
      points = (or-false (list_any (λ (l : LineRow). is_far l.x l.y) file.lines) (list_any (λ (a : AskRow). is_far a.x a.y) file.asks) all.1.1.1.1.1.1.1.0).1;
      exponents = all.1.1.1.1.1.1.1.1.1.0;
      readers = readers-low readers 8 file.asks few all.1.1.1.1.1.1.1.1.1.1.0;
      least = all.1.1.1.1.1.1.1.1.1.1.1.0;
    }

few-asks : (rows : List AskRow) → has_many_asks rows ≡ false → length rows ≤ most_asks
unfolding has_many_asks
few-asks rows e = not-less most_asks (length rows) e

pub few-within-first-limit : (file : TextFile) (order readers : ℕ) → first_limit file order readers ≡ None → length file.asks ≤ most_asks
few-within-first-limit file order readers e =
    let all = all-pass (limits_by file.vars file.lines file.asks order readers) e in
    few-asks file.asks all.1.1.1.1.1.1.1.1.0

-- ---- what may be asked of a diagram

exponent-kept : (m : CodeExp) (a b : ℤ) → IsGivenSmall a → IsGivenSmall b → exp_of m ≡ exp_given a b → IsFactorExp m
exponent-kept m a b h k e =
    (subst IsGivenSmall (sym (ap (λ (x : Exp). x.a) e)) h, subst IsGivenSmall (sym (ap (λ (x : Exp). x.b) e)) k)

kind-kept : (kind : AskKind) (q : QueryKind) → IsKindSmall kind → IsKindOf kind q → IsKind q
kind-kept (Theta a b) (query.Theta m) s h = exponent-kept m a b s.0 s.1 h
kind-kept (Theta a b) (query.Product l r) s h = absurd h
kind-kept (Product a b c d) (query.Theta m) s h = absurd h
kind-kept (Product a b c d) (query.Product l r) s h = (exponent-kept l a b s.0 s.1 h.0, exponent-kept r c d s.2 s.3 h.1)

queries-kept : (rows : List AskRow) (queries : List (ℕ × Query)) → ((k : ℕ) (d : AskRow) → k < length rows → IsLimitedAsk (get_or rows k d)) → AllZip IsReadersQueryOf rows queries → All (λ q. IsQuery q.1) queries
queries-kept [] [] h z = All-nil (λ q. IsQuery q.1)
queries-kept [] (q ∷ queries) h z = absurd z
queries-kept (a ∷ rows) [] h z = absurd z
queries-kept (a ∷ rows) (q ∷ queries) h z =
    let first = h 0 a (omega arith) in
    All-cons (λ q. IsQuery q.1) q queries (kind-kept a.kind q.1.kind first.kind z.0.1.kind) (queries-kept rows queries (λ k d l. h (suc k) d (omega (arith, l))) z.1)

pub queries-small : (file : TextFile) (queries : List (ℕ × Query)) → AreAsksWithinLimits file → AllZip IsReadersQueryOf file.asks queries → All (λ q. IsQuery q.1) queries
queries-small file queries h z = queries-kept file.asks queries (limited-ask file h) z

-- ---- an ask is one query

place-one : (x y : Coordinate) (p q : Point) → pos 1 ≤ℤ x.den → pos 1 ≤ℤ y.den → IsPlace x y p → IsPlace x y q → p ≡ q
place-one x y p q hx hy a b = same-point p q a.point b.point (across p.x p.w q.x q.w x.num x.den hx a.first b.first) (across p.y p.w q.y q.w y.num y.den hy a.second b.second)

kind-one : (kind : AskKind) (q r : QueryKind) → IsKindOf kind q → IsKindOf kind r → q ≡ r
kind-one (Theta a b) (query.Theta m) (query.Theta n) h k = let e : exp_of m ≡ exp_of n = h ∙ sym k in λ i. query.Theta (record { a = (e i).a; b = (e i).b })
kind-one (Theta a b) (query.Theta m) (query.Product l r) h k = absurd k
kind-one (Theta a b) (query.Product l r) s h k = absurd h
kind-one (Product a b c d) (query.Theta m) s h k = absurd h
kind-one (Product a b c d) (query.Product l r) (query.Theta m) h k = absurd k
kind-one (Product a b c d) (query.Product l r) (query.Product l' r') h k =
    let e : exp_of l ≡ exp_of l' = h.0 ∙ sym k.0 in
    let f : exp_of r ≡ exp_of r' = h.1 ∙ sym k.1 in
    λ i. query.Product (record { a = (e i).a; b = (e i).b }) (record { a = (f i).a; b = (f i).b })

least-one : (least : Option ℤ) (m n : Option ℕ) → IsLeastOf least m → IsLeastOf least n → m ≡ n
least-one None None None h k = refl
least-one None None (Some n) h k = absurd k
least-one None (Some m) n h k = absurd h
least-one (Some o) None n h k = absurd h
least-one (Some o) (Some m) None h k = absurd k
least-one (Some o) (Some m) (Some n) h k = let e : pos m ≡ pos n = sym h ∙ k in let f : m ≡ n = omega (arith, ints, e) in ap Some f

-- but for the proof that its point is in lowest terms
pub record AreOneQuery (q r : Query) : Type 0 where
  pub kind : q.kind ≡ r.kind
  pub at : point_of q.at ≡ point_of r.at
  pub least : q.least ≡ r.least

pub query-one : (a : AskRow) (q r : Query) → IsAsk a → IsQueryOf a q → IsQueryOf a r → AreOneQuery q r
query-one a q r valid h k = record {
  kind = kind-one a.kind q.kind r.kind h.kind k.kind;
  at = place-one a.x a.y (point_of q.at) (point_of r.at) valid.x.positive valid.y.positive h.at k.at;
  least = least-one a.least q.least r.least h.least k.least;
}
