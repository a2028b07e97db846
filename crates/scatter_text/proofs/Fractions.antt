-- A fraction in lowest terms is the coordinate that is printed.
use Rattle.std.proofs.Common.{◌≡◌, ap, sym, ◌∙◌, ℤ}
use Rattle.std.specs.Prelude.{◌*ℤ◌}
use Rattle.frac_128.specs.Quotient.{IsLowest, AreEqual}
use Rattle.scatter_text.specs.declared.file.Coordinate.{Coordinate}
use Rattle.scatter_text.specs.DiagramText.{IsRatioOf}

abbrev pub coordinate_of : ℤ → ℤ → Coordinate
coordinate_of num den = record { num = num; den = den }

pub lowest-ratio : (num den x w x' w' : ℤ) → IsLowest num den → x' ≡ x → w' ≡ w → AreEqual num den x' w' → IsRatioOf x w (coordinate_of num den)
lowest-ratio num den x w x' w' h ex ew e = record { coordinate = h; same = ap (λ (z : ℤ). num *ℤ z) (sym ew) ∙ e ∙ ap (λ (z : ℤ). z *ℤ den) ex }

pub ratio-along : (x' x w' w : ℤ) (q : Coordinate) → x' ≡ x → w' ≡ w → IsRatioOf x' w' q → IsRatioOf x w q
ratio-along x' x w' w q ex ew h = record { coordinate = h.coordinate; same = ap (λ (z : ℤ). q.num *ℤ z) (sym ew) ∙ h.same ∙ ap (λ (z : ℤ). z *ℤ q.den) ex }
