-- Reading a text line by line.
use Rattle.std.proofs.Common.{◌≡◌, ℕ, ◌≤◌, ◌<◌, ◌+◌, ◌==◌, List, [], ◌∷◌, ◌++◌, length, take, drop, refl, arith, sym, ◌∙◌, ap, subst}
use Rattle.std.proofs.lemmas.List.{append_assoc, length-append, length-drop}
use Rattle.std.proofs.lemmas.List.Splits.{length-slice_split}
use Rattle.scatter_text.specs.declared.fault.TextKind.{TextKind}
use Rattle.scatter_text.specs.declared.grammar.TextMode.{TextMode}
use Rattle.scatter_text.specs.declared.row.Row.{Row}
use Rattle.scatter_text.specs.Grammar.{pieces_of, AreGood, IsGoodLine, IsBadLine, IsFaultAtEnd, IsFaultAfter, IsFaultIn, IsTextIn, file_rows}
use Rattle.scatter_text.specs.declared.file.TextFile.{TextFile}
use Rattle.scatter_text.specs.Stages.{Follows}
use Rattle.scatter_text.proofs.Cuts.{CutAt}

-- good lines up to the rest, which is line number
pub record IsReadTo (mode : TextMode) (bytes rest : List ℕ) (rows : List Row) (number : ℕ) : Type 0 where
  pub lines : List (List ℕ)
  pub cut : pieces_of bytes ≡ lines ++ pieces_of rest
  pub good : AreGood mode [] lines rows
  pub count : number ≡ length lines + 1
  pub room : length rest + number ≤ length bytes + 1

pub read_to-start : (mode : TextMode) (bytes : List ℕ) → IsReadTo mode bytes bytes [] 1
read_to-start mode bytes = record { lines = []; cut = refl; good = refl; count = omega arith; room = omega arith }

good-more : (mode : TextMode) (before : List Row) (lines : List (List ℕ)) (rows : List Row) (line : List ℕ) (r : Row) → AreGood mode before lines rows → IsGoodLine mode rows line r → AreGood mode before (lines ++ line ∷ []) (r ∷ rows)
good-more mode before [] rows line r e good = let P : List Row → Type 0 = λ rows. IsGoodLine mode rows line r in (r, subst P e good, ap (λ rows. r ∷ rows) e)
good-more mode before (l ∷ lines) rows line r (s, first, more) good = (s, first, good-more mode (s ∷ before) lines rows line r more good)

pub read_to-more : (mode : TextMode) (bytes rest : List ℕ) (rows more : List Row) (number end : ℕ) → IsReadTo mode bytes rest rows number → CutAt 10 rest end → Follows mode rows (take end rest) more → IsReadTo mode bytes (drop (end + 1) rest) more (number + 1)
read_to-more mode bytes rest rows more number end h cut follows =
    let P : List Row → Type 0 = λ rows. AreGood mode [] (h.lines ++ take end rest ∷ []) rows in
    record {
      lines = h.lines ++ take end rest ∷ [];
      cut = h.cut ∙ ap (λ pieces. h.lines ++ pieces) cut.pieces ∙ sym (append_assoc h.lines (take end rest ∷ []) (pieces_of (drop (end + 1) rest)));
      good = subst P (sym follows.is) (good-more mode [] h.lines rows (take end rest) follows.last h.good follows.good);
      count = omega (arith, h.count, length-append h.lines (take end rest ∷ []));
      room = omega (arith, h.room, cut.within, length-drop (end + 1) rest);
    }

-- a fault of the line before a line feed
fault_before : (mode : TextMode) (rows : List Row) (line : List ℕ) (pieces : List (List ℕ)) (kind : TextKind) → 0 < length pieces → IsBadLine mode rows line kind → IsFaultAfter mode rows (line ∷ pieces) kind
fault_before mode rows line [] kind some bad = absurd (omega arith)
fault_before mode rows line (p ∷ ps) kind some bad = bad

pub fault_at_line : (mode : TextMode) (bytes rest : List ℕ) (rows : List Row) (number end : ℕ) (kind : TextKind) → IsReadTo mode bytes rest rows number → CutAt 10 rest end → IsBadLine mode rows (take end rest) kind → IsFaultIn mode bytes number kind
fault_at_line mode bytes rest rows number end kind h cut bad = record {
  good = h.lines;
  rest = pieces_of rest;
  rows = rows;
  cut = h.cut;
  are_good = h.good;
  fault =
      let P : List (List ℕ) → Type 0 = λ pieces. IsFaultAfter mode rows pieces kind in
      subst P (sym cut.pieces) (fault_before mode rows (take end rest) (pieces_of (drop (end + 1) rest)) kind (omega (arith, length-slice_split (λ b. b == 10) (drop (end + 1) rest))) bad);
  number = h.count;
}

-- a fault of what stands after the last line feed
pub fault_at_end : (mode : TextMode) (bytes rest : List ℕ) (rows : List Row) (number at : ℕ) (kind : TextKind) → IsReadTo mode bytes rest rows number → pieces_of rest ≡ rest ∷ [] → at ≡ number → IsFaultAtEnd rows rest kind → IsFaultIn mode bytes at kind
fault_at_end mode bytes rest rows number at kind h one here fault = record {
  good = h.lines;
  rest = rest ∷ [];
  rows = rows;
  cut = h.cut ∙ ap (λ pieces. h.lines ++ pieces) one;
  are_good = h.good;
  fault = fault;
  number = here ∙ h.count;
}

pub text_of : (mode : TextMode) (bytes rest : List ℕ) (rows : List Row) (number : ℕ) (file : TextFile) → IsReadTo mode bytes rest rows number → pieces_of rest ≡ rest ∷ [] → rest ≡ [] → file_rows file ≡ rows → IsTextIn mode bytes file
text_of mode bytes rest rows number file h one empty is = record {
  lines = h.lines;
  cut = h.cut ∙ ap (λ pieces. h.lines ++ pieces) (one ∙ ap (λ piece. piece ∷ []) empty);
  are_good = let P : List Row → Type 0 = λ rows. AreGood mode [] h.lines rows in subst P (sym is) h.good;
}
