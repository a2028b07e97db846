-- The lines of a file within the limits, one after the other.
use Rattle.std.proofs.Common.{◌≡◌, ℕ, suc, refl, sym, subst, ap, ◌∙◌, ◌<◌, ◌≤◌, ◌+◌, false, List, [], ◌∷◌, ◌++◌, length, take, get_or, arith}
use Rattle.std.specs.Prelude.{nat_lt}
use Rattle.std.specs.List.{AllZip}
use Rattle.std.proofs.lemmas.List.{take_more, take_all, length-map}
use Rattle.scattering.specs.Collections.{Every}
use Rattle.scattering.specs.Wall.{Line, Wall, IsWall, cut_wall, cut_walls}
use Rattle.scattering.proofs.Lists.{Every-append, map-append}
use Rattle.scatter_diagram.specs.Shown.{wall_of, walls_of}
use Rattle.scatter_diagram.specs.Listed.{AreLines}
use Rattle.scatter_diagram.specs.declared.wall.Wall.{Wall as CodeWall}
use Rattle.scatter_text.specs.declared.file.LineRow.{LineRow}
use Rattle.scatter_text.specs.declared.file.TextFile.{TextFile}
use Rattle.scatter_text.specs.Limits.{IsWithinLimits, has_many_lines, has_many_terms, has_large_coefficient, has_large_exponent, has_large_power, is_far}
use Rattle.scatter_text.specs.GivenWalls.{IsWallOf}
use Rattle.scatter_text.specs.LimitedLines.{IsLimitedLine, IsCutLineOf}
use Rattle.scatter_text.proofs.WithinLimits.{any-none, not-less, vars-few}
use Rattle.scatter_text.proofs.ProperFunctions.{cut-is-wall}

-- ---- one of the lines

few-terms : (lines : List LineRow) → has_many_terms lines ≡ false → (k : ℕ) (d : LineRow) → k < length lines → length (get_or lines k d).terms ≤ 64
unfolding has_many_terms
few-terms lines e k d lt = not-less 64 (length (get_or lines k d).terms) (any-none (λ (l : LineRow). nat_lt 64 (length l.terms)) lines e k d lt)

pub limited-line : (file : TextFile) → IsWithinLimits file → (k : ℕ) (d : LineRow) → k < length file.lines → IsLimitedLine (get_or file.lines k d)
limited-line file h k d lt = record {
  vars = file.vars;
  few_vars = vars-few file.vars h.vars;
  valid = file.valid k d lt;
  few_terms = few-terms file.lines h.terms k d lt;
  coefficients = any-none has_large_coefficient file.lines h.coefficients k d lt;
  exponents = any-none has_large_exponent file.lines h.exponents k d lt;
  powers = any-none has_large_power file.lines h.powers k d lt;
  near = any-none (λ (l : LineRow). is_far l.x l.y) file.lines h.points k d lt;
}

pub few-lines : (lines : List LineRow) → has_many_lines lines ≡ false → length lines ≤ 16
unfolding has_many_lines
few-lines lines e = not-less 16 (length lines) e

-- ---- those so far

pub record AreSaid (rows : List LineRow) (ws : List CodeWall) : Type 0 where
  pub given : List Wall
  pub says : AllZip IsWallOf rows given
  pub walls : walls_of ws ≡ cut_walls 24 given
  pub lines : AreLines 24 ws

pub zip-push : {A B : Type 0} (R : A → B → Type 0) (xs : List A) (ys : List B) (x : A) (y : B) → AllZip R xs ys → R x y → AllZip R (xs ++ x ∷ []) (ys ++ y ∷ [])
zip-push R [] [] x y h r = (r, tt)
zip-push R [] (b ∷ ys) x y h r = absurd h
zip-push R (a ∷ xs) [] x y h r = absurd h
zip-push R (a ∷ xs) (b ∷ ys) x y h r = (h.0, zip-push R xs ys x y h.1 r)

zip-length : {A B : Type 0} (R : A → B → Type 0) (xs : List A) (ys : List B) → AllZip R xs ys → length xs ≡ length ys
zip-length R [] [] h = refl
zip-length R [] (b ∷ ys) h = absurd h
zip-length R (a ∷ xs) [] h = absurd h
zip-length R (a ∷ xs) (b ∷ ys) h = ap suc (zip-length R xs ys h.1)

pub none-said : AreSaid [] []
none-said = record { given = []; says = tt; walls = refl; lines = record { order = tt; lines = tt } }

pub said-more : (rows : List LineRow) (ws : List CodeWall) (i : ℕ) (row : LineRow) (w : CodeWall) → i < length rows → row ≡ get_or rows i row → AreSaid (take i rows) ws → IsCutLineOf row w → AreSaid (take (i + 1) rows) (ws ++ w ∷ [])
said-more rows ws i row w l is h k = subst (λ (rs : List LineRow). AreSaid rs (ws ++ w ∷ [])) (sym (take_more rows i row l ∙ ap (λ (r : LineRow). take i rows ++ r ∷ []) (sym is))) (record {
  given = h.given ++ k.given ∷ [];
  says = zip-push IsWallOf (take i rows) h.given row k.given h.says k.says;
  walls =
      map-append wall_of ws (w ∷ []) ∙ ap (λ (vs : List Wall). vs ++ wall_of w ∷ []) h.walls ∙ ap (λ (v : Wall). cut_walls 24 h.given ++ v ∷ []) k.wall
      ∙ sym (map-append (cut_wall 24) h.given (k.given ∷ []));
  lines = record {
    order = Every-append (λ v. v.function.order ≡ 24) ws (w ∷ []) h.lines.order (k.order, tt);
    lines = subst (Every (λ v. v.kind ≡ Line)) (sym (map-append wall_of ws (w ∷ []))) (Every-append (λ v. v.kind ≡ Line) (walls_of ws) (wall_of w ∷ []) h.lines.lines (ap (λ (v : Wall). v.kind) k.wall ∙ k.says.kind, tt));
  };
})

-- as many as the rows
pub said-length : (rows : List LineRow) (ws : List CodeWall) → AreSaid rows ws → length ws ≡ length rows
said-length rows ws h = sym (length-map ws wall_of) ∙ ap length h.walls ∙ length-map h.given (cut_wall 24) ∙ sym (zip-length IsWallOf rows h.given h.says)

-- all of them
pub said-all : (rows rows' : List LineRow) (i : ℕ) (ws : List CodeWall) → rows' ≡ rows → length rows' ≤ i → AreSaid (take i rows') ws → AreSaid rows ws
said-all rows rows' i ws e l h = subst (λ (rs : List LineRow). AreSaid rs ws) (take_all i rows' l ∙ e) h

-- ---- the walls that they stand for

cut-walls : (rows : List LineRow) (given : List Wall) → ((k : ℕ) (d : LineRow) → k < length rows → IsLimitedLine (get_or rows k d)) → AllZip IsWallOf rows given → Every (IsWall 24) (cut_walls 24 given)
cut-walls [] [] h z = tt
cut-walls [] (w ∷ ws) h z = absurd z
cut-walls (row ∷ rows) [] h z = absurd z
cut-walls (row ∷ rows) (w ∷ ws) h z = (cut-is-wall row (h 0 row (omega arith)) w z.0, cut-walls rows ws (λ k d l. h (suc k) d (omega (arith, l))) z.1)

pub given-cut : (file : TextFile) (given : List Wall) → IsWithinLimits file → AllZip IsWallOf file.lines given → Every (IsWall 24) (cut_walls 24 given)
given-cut file given h z = cut-walls file.lines given (limited-line file h) z
