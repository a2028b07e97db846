-- The answers of one reader, ask by ask.
use Rattle.std.proofs.Common.{◌≡◌, ℕ, ◌+◌, ◌<◌, ◌≤◌, inl, inr, sym, ap, subst, ◌∙◌, List, [], ◌∷◌, length, length-append, arith, Option, Some, slice_get, vec_len}
use Rattle.std.specs.Prelude.{◌⊎◌, IfSome}
use native.Mathlib.Decide.{dec_le}
use Rattle.std.proofs.lemmas.Option.{none-some, slice_get_past, slice_get_within}
use Rattle.theta_algebra.specs.declared.query.Answer.{Answer}
use Rattle.theta_algebra.specs.Answering.{Ask}
use Rattle.session_readers.specs.Seats.{IsOwnAnswer, IsReadersSeat, IsOneMore, IsContinued, IsInformed}
use Rattle.session_readers.specs.declared.seat.Seat.{Seat}
use Rattle.session_readers.proofs.Places.{pushed, slice_get_left, one-place}

-- one stretch after another
pub continued-then : (asks : List Ask) (to top : ℕ) (s t u : Seat) → IsContinued asks to s t → IsContinued asks top t u → IsContinued asks top s u
continued-then asks to top s t u h k = record {
  number = k.number ∙ h.number;
  lines = k.lines ∙ h.lines;
  seen = let p = h.seen in let q = k.seen in omega (arith, p, q);
  longer = let p = h.longer in let q = k.longer in omega (arith, p, q);
  length = k.length;
  kept = λ i l. k.kept i (let p = h.longer in omega (arith, l, p)) ∙ h.kept i l;
  later = λ i a l at. go i a l at (dec_le (vec_len t.answers) i);
  seat = k.seat;
}
  where
    go : (i : ℕ) (a : Answer) → vec_len s.answers ≤ i → slice_get u.answers.items i ≡ Some (Some a) → Dec (vec_len t.answers ≤ i) → s.reader.order ≤ a.order
    go i a l at (yes p) = let n = k.later i a p at in let q = h.seen in omega (arith, n, q)
    go i a l at (no p) = h.later i a l (sym (k.kept i (omega (arith, p))) ∙ at)

module _ (asks : List Ask) (t u : Seat) (ask : Ask) (m : IsOneMore ask t u) where
  -- what stands at a place once the ask has its place: what stood there, or the new answer
  abbrev Stands : ℕ → Option Answer → Type 0
  Stands i place = (slice_get t.answers.items i ≡ Some place) ⊎ ((i ≡ vec_len t.answers) × (m.place ≡ place))

  stands : (i : ℕ) (place : Option Answer) → slice_get u.answers.items i ≡ Some place → Stands i place
  stands i place at = elim (pushed t.answers.items m.place i place (subst (λ xs. slice_get xs i ≡ Some place) m.answers at)) [ inl p ↦ inl p | inr p ↦ inr (p.0 ∙ sym t.answers.ok.0, p.1) ]

  -- the new answer, if there is one
  newest : (a : Answer) → m.place ≡ Some a → (t.reader.order ≤ a.order) × (a.order ≤ u.reader.order)
  newest a e = subst (λ o. IfSome o (λ b. (t.reader.order ≤ b.order) × (b.order ≤ u.reader.order))) e m.order

  pub one-more-longer : vec_len u.answers ≡ vec_len t.answers + 1
  one-more-longer =
      let p = u.answers.ok.0 in
      let q = t.answers.ok.0 in
      let e = ap length m.answers in
      omega (arith, p, q, e, length-append t.answers.items (m.place ∷ []))

  pub one-more : slice_get asks (vec_len t.answers) ≡ Some ask → IsReadersSeat asks t → IsReadersSeat asks u
  one-more here h = record { own = own; rising = rising; seen = seen }
    where
      keep : {n : ℕ} → n ≤ t.reader.order → n ≤ u.reader.order
      keep l = let s = m.seen in omega (arith, l, s)

      own : (i : ℕ) (p : Ask) (place : Option Answer) → slice_get asks i ≡ Some p → slice_get u.answers.items i ≡ Some place → IsOwnAnswer u.reader.lines u.number p place
      own i p place a at = elim (stands i place at) [
        | inl q ↦ subst (λ l. IsOwnAnswer l u.number p place) (sym m.lines) (subst (λ n. IsOwnAnswer t.reader.lines n p place) (sym m.number) (h.own i p place a q))
        | inr q ↦
            let e : ask ≡ p = one-place asks i ask p (subst (λ n. slice_get asks n ≡ Some ask) (sym q.0) here) a in
            subst (λ l. IsOwnAnswer l u.number p place) (sym m.lines) (subst (λ n. IsOwnAnswer t.reader.lines n p place) (sym m.number)
            (subst (λ x. IsOwnAnswer t.reader.lines t.number x place) e (subst (λ o. IsOwnAnswer t.reader.lines t.number ask o) q.1 m.own)))
      ]

      seen : (i : ℕ) (a : Answer) → slice_get u.answers.items i ≡ Some (Some a) → a.order ≤ u.reader.order
      seen i a at = elim (stands i (Some a) at) [ inl q ↦ keep (h.seen i a q) | inr q ↦ (newest a q.1).1 ]

      rising : (i j : ℕ) (a b : Answer) → i < j → slice_get u.answers.items i ≡ Some (Some a) → slice_get u.answers.items j ≡ Some (Some b) → a.order ≤ b.order
      rising i j a b l p q = elim (stands i (Some a) p) [
        | inl x ↦ elim (stands j (Some b) q) [
          | inl y ↦ h.rising i j a b l x y
          | inr y ↦ let s = h.seen i a x in let n = (newest b y.1).0 in omega (arith, s, n)
        ]
        | inr x ↦
            let len = one-more-longer in
            let w = slice_get_within u.answers.items j (Some b) q in
            let o = u.answers.ok.0 in
            let e = x.0 in
            absurd (omega (arith, len, w, o, e, l))
      ]

  pub continued-one : (to : ℕ) → slice_get asks (vec_len t.answers) ≡ Some ask → vec_len t.answers < to → IsReadersSeat asks t → IsContinued asks to t u
  continued-one to here l h = record {
    number = m.number;
    lines = m.lines;
    seen = m.seen;
    longer = let e = one-more-longer in omega (arith, e);
    length = let e = one-more-longer in omega (arith, e, l);
    kept = λ i b. ap (λ xs. slice_get xs i) m.answers ∙ slice_get_left t.answers.items (m.place ∷ []) i (subst (λ n. i < n) t.answers.ok.0 b);
    later = λ i a b at. elim (stands i (Some a) at) [
      | inl q ↦ absurd (none-some (Some a) (sym (slice_get_past t.answers.items i (subst (λ n. n ≤ i) t.answers.ok.0 b)) ∙ q))
      | inr q ↦ (newest a q.1).0
    ];
    seat = one-more here h;
  }

-- the next ask has its place
pub continued-more : (asks : List Ask) (to i : ℕ) (s t u : Seat) (ask : Ask) → IsContinued asks to s t → vec_len t.answers ≡ i → i < to → slice_get asks i ≡ Some ask → IsOneMore ask t u
    → (vec_len u.answers ≡ i + 1) × IsContinued asks to s u
continued-more asks to i s t u ask h e l at m =
    let n = one-more-longer asks t u ask m in
    let here : slice_get asks (vec_len t.answers) ≡ Some ask = subst (λ k. slice_get asks k ≡ Some ask) (sym e) at in
    (omega (arith, n, e), continued-then asks to to s t u h (continued-one asks t u ask m to here (omega (arith, e, l)) h.seat))

-- a reader that learned of an order
pub informed-seat : (asks : List Ask) (k : ℕ) (s t : Seat) → IsInformed k s t → IsReadersSeat asks s → IsReadersSeat asks t
informed-seat asks k s t m h = record {
  own = λ i ask place a at. subst (λ r. IsOwnAnswer r.lines t.number ask place) (sym m.reader) (subst (λ n. IsOwnAnswer s.reader.lines n ask place) (sym m.number) (h.own i ask place a (back i place at)));
  rising = λ i j a b l p q. h.rising i j a b l (back i (Some a) p) (back j (Some b) q);
  seen = λ i a at. let e = ap (λ r. r.order) m.reader in let l = h.seen i a (back i (Some a) at) in omega (arith, e, l);
}
  where
    back : (i : ℕ) (place : Option Answer) → slice_get t.answers.items i ≡ Some place → slice_get s.answers.items i ≡ Some place
    back i place at = subst (λ v. slice_get v.items i ≡ Some place) m.answers at
