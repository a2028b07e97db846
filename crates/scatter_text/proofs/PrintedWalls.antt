-- The texts of walls, one after the other.
use Rattle.std.proofs.Common.{◌≡◌, ℕ, refl, sym, subst, ap, ◌∙◌, ◌<◌, ◌≤◌, ◌+◌, List, [], ◌∷◌, ◌++◌, length, take, get_or, append_assoc}
use Rattle.std.specs.Prelude.{flat_map}
use Rattle.std.proofs.lemmas.List.{take_more, take_all, append-nil}
use Rattle.scattering.specs.Wall.{Wall}
use Rattle.scatter_text.specs.DiagramText.{Row, row_text, AreRows, IsWallText, AreWallTexts}
use Rattle.scatter_text.specs.PrintedRows.{IsHeading}

-- a heading and rows
pub wall-text : (word : List ℕ) (vars : ℕ) (w : Wall) (heading : List ℕ) (rows : List Row) → IsHeading word w.dir w.at heading → AreRows w rows → IsWallText word vars w (heading ++ flat_map (row_text vars) rows)
wall-text word vars w heading rows h r = (h.0, h.1, rows, h.2, h.3, r, ap (λ (t : List ℕ). t ++ flat_map (row_text vars) rows) h.4)

texts-more : (word : List ℕ) (vars : ℕ) (ws : List Wall) (w : Wall) (a b : List ℕ) → AreWallTexts word vars ws a → IsWallText word vars w b → AreWallTexts word vars (ws ++ w ∷ []) (a ++ b)
texts-more word vars [] w a b h k = (b, [], k, refl, ap (λ (t : List ℕ). t ++ b) h ∙ sym (append-nil b))
texts-more word vars (v ∷ ws) w a b h k = (h.0, h.1 ++ b, h.2, texts-more word vars ws w h.1 b h.3 k, ap (λ (t : List ℕ). t ++ b) h.4 ∙ append_assoc h.0 h.1 b)

-- the new text is the old one and the texts of these walls under the word
pub record AreWritten (word : List ℕ) (vars : ℕ) (ws : List Wall) (old new : List ℕ) : Type 0 where
  pub piece : List ℕ
  pub texts : AreWallTexts word vars ws piece
  pub written : new ≡ old ++ piece

pub written-more : (word : List ℕ) (vars : ℕ) (ws : List Wall) (i : ℕ) (w : Wall) (old mid new : List ℕ) → i < length ws → w ≡ get_or ws i w → AreWritten word vars (take i ws) old mid
    → (piece : List ℕ) × IsWallText word vars w piece × (new ≡ mid ++ piece) → AreWritten word vars (take (i + 1) ws) old new
written-more word vars ws i w old mid new l is h k = subst (λ (vs : List Wall). AreWritten word vars vs old new) (sym (take_more ws i w l ∙ ap (λ (v : Wall). take i ws ++ v ∷ []) (sym is))) (record {
  piece = h.piece ++ k.0;
  texts = texts-more word vars (take i ws) w h.piece k.0 h.texts k.1;
  written = k.2 ∙ ap (λ (t : List ℕ). t ++ k.0) h.written ∙ append_assoc old h.piece k.0;
})

-- all of them
pub all-written : (word : List ℕ) (vars : ℕ) (ws : List Wall) (i : ℕ) (old new : List ℕ) → length ws ≤ i → AreWritten word vars (take i ws) old new
    → (piece : List ℕ) × AreWallTexts word vars ws piece × (new ≡ old ++ piece)
all-written word vars ws i old new l h =
    let w = subst (λ (vs : List Wall). AreWritten word vars vs old new) (take_all i ws l) h in
    (w.piece, w.texts, w.written)
