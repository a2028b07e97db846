-- A piece that a sink took moves from the rest of the text to what is held.
use Rattle.std.proofs.Common.{◌≡◌, ℕ, ◌-◌, ◌≤◌, List, ◌++◌, length, take, drop, sym, ap, ◌∙◌, append_assoc}
use Rattle.std.specs.Prelude.{Option, Some, None}
use Rattle.std.proofs.lemmas.List.{take-take, take-append-drop, take_rest}
use Rattle.outside_io.specs.Outside.{TakesWhereTold}
use Rattle.scatter_run.specs.Writing.{IsWritten, IsWrittenSoFar}

written-more : (before mid after : Option (List ℕ)) (part piece : List ℕ) (end n : ℕ) → n ≤ end → IsWritten before mid part → TakesWhereTold mid after (take end piece) n → IsWritten before after (part ++ take n piece)
written-more None mid after part piece end n le w t = tt
written-more (Some held) None after part piece end n le w t = absurd (let e : None ≡ Some (held ++ part) = w in cc)
written-more (Some held) (Some now) after part piece end n le w t =
    let e : now ≡ held ++ part = cc in
    let f : take n (take end piece) ≡ take n piece = take-take n end piece le in
    t ∙ ap Some (ap (λ (x : List ℕ). x ++ take n (take end piece)) e ∙ ap (λ (x : List ℕ). (held ++ part) ++ x) f ∙ append_assoc held part (take n piece))

pub so_far-more : (before mid after : Option (List ℕ)) (text piece : List ℕ) (end n : ℕ) → n ≤ end → IsWrittenSoFar before mid text piece → TakesWhereTold mid after (take end piece) n → IsWrittenSoFar before after text (take (length piece - n) (drop n piece))
so_far-more before mid after text piece end n le s t = (
  s.0 ++ take n piece,
  s.1 ∙ ap (λ (x : List ℕ). s.0 ++ x) (sym (ap (λ (x : List ℕ). take n piece ++ x) (take_rest piece n) ∙ take-append-drop n piece)) ∙ sym (append_assoc s.0 (take n piece) (take (length piece - n) (drop n piece))),
  written-more before mid after s.0 piece end n le s.2 t,
)
