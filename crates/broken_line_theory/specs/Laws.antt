-- What is proved here of broken lines, thetas and their products.
use Rattle.std.specs.Prelude.{◌≡◌, ℕ, ◌+◌, ◌*◌, ◌≤◌, ◌≢◌, ◌↔◌, List, ◌++◌, map, filter, reverse, Option, None, pos, ◌-ℤ◌, nat_abs}
use Rattle.scattering.specs.Collections.{Every, Lists}
use Rattle.scattering.specs.Series.{Exp, Key, Term, Sum, Same, origin, coef, degree, minus}
use Rattle.scattering.specs.Plane.{Point, IsPoint}
use Rattle.scattering.specs.Wall.{Wall, IsWall, cut_walls}
use Rattle.scattering.specs.BrokenLine.{Bend, IsBrokenLine, value}
use Rattle.scattering.specs.Tail.{IsWallTerm, Tail, IsTail, IsComplete, is_complete, backwards}
use Rattle.scattering.specs.Theta.{AskFault, IsAskFault, IsTheta, IsWeight}
use Rattle.scattering.specs.ThetaProduct.{AreThetas, combined, IsThetaProduct, IsThetaWeight, IsFamily, Runs, IsProductFault}

-- where nothing fails, the broken lines are the complete tails
abbrev pub LinesAreTails : Type 0
LinesAreTails = (ws : List Wall) (n k : ℕ) (m : Exp) (q : Point) → Every (IsWall k) ws → IsPoint q → IsAskFault ws n m q None
    → (bends : List Bend) → IsBrokenLine ws n m q bends ↔ IsTail ws n m q (backwards m bends)

-- a complete tail is a broken line read backwards, and the other way round
abbrev pub CompleteTailsAreLines : Type 0
CompleteTailsAreLines = (ws : List Wall) (n k : ℕ) (m : Exp) (q : Point) → Every (IsWall k) ws → IsPoint q → IsAskFault ws n m q None
    → (t : Tail) → (IsTail ws n m q t × IsComplete m t) ↔ ((bends : List Bend) × IsBrokenLine ws n m q bends × (t ≡ backwards m bends))

-- so a list of all tails, each once, gives one of all broken lines, each once
abbrev pub BrokenLinesAreListed : Type 0
BrokenLinesAreListed = (ws : List Wall) (n k : ℕ) (m : Exp) (q : Point) (ts : List Tail) → Every (IsWall k) ws → IsPoint q → IsAskFault ws n m q None
    → Lists (IsTail ws n m q) ts → Lists (IsBrokenLine ws n m q) (map (λ t. reverse t.bends) (filter (is_complete m) ts))

-- and the theta is the sum of their values
abbrev pub ThetaSumsCompleteTails : Type 0
ThetaSumsCompleteTails = (ws : List Wall) (n k : ℕ) (m : Exp) (q : Point) (ts : List Tail) → Every (IsWall k) ws → IsPoint q → IsAskFault ws n m q None → m ≢ origin
    → Lists (IsTail ws n m q) ts → IsTheta ws n m q (map (value ws n m) (map (λ t. reverse t.bends) (filter (is_complete m) ts)))

-- an ask has a first fault, or none
abbrev pub AskFaultExists : Type 0
AskFaultExists = (ws : List Wall) (n k : ℕ) (m : Exp) (q : Point) → Every (IsWall k) ws → IsPoint q
    → (f : Option AskFault) × IsAskFault ws n m q f

-- and not more than one
abbrev pub AskFaultIsUnique : Type 0
AskFaultIsUnique = (ws : List Wall) (n : ℕ) (m : Exp) (q : Point) (f g : Option AskFault) → IsAskFault ws n m q f → IsAskFault ws n m q g → f ≡ g

-- where nothing fails there is a theta
abbrev pub ThetaExists : Type 0
ThetaExists = (ws : List Wall) (n k : ℕ) (m : Exp) (q : Point) → Every (IsWall k) ws → IsPoint q → IsAskFault ws n m q None → (s : Sum) × IsTheta ws n m q s

-- no coefficient exceeds the weight of all tails, and no degree the limit
abbrev pub ThetaIsLight : Type 0
ThetaIsLight = (ws : List Wall) (n k : ℕ) (m : Exp) (q : Point) (s : Sum) (w : ℕ) → Every (IsWall k) ws → IsPoint q → IsAskFault ws n m q None → m ≢ origin
    → IsTheta ws n m q s → IsWeight ws n m q w → (x : Key) → (nat_abs (coef s x) ≤ w) × (coef s x ≢ pos 0 → degree x ≤ n)

-- no number of an exponent of the theta is farther from the one that was asked for than c for each degree, where
-- none of a wall's terms is farther from 0
abbrev pub ThetaStaysNear : Type 0
ThetaStaysNear = (ws : List Wall) (n k c : ℕ) (m : Exp) (q : Point) (s : Sum) → Every (IsWall k) ws → IsPoint q
    → ((t : Term) → IsWallTerm (cut_walls n ws) t → (nat_abs t.0.exp.a ≤ c * degree t.0) × (nat_abs t.0.exp.b ≤ c * degree t.0))
    → IsAskFault ws n m q None → IsTheta ws n m q s → (x : Key) → coef s x ≢ pos 0 → (nat_abs (x.exp.a -ℤ m.a) ≤ c * degree x) × (nat_abs (x.exp.b -ℤ m.b) ≤ c * degree x)

-- and it is one
abbrev pub ThetaIsUnique : Type 0
ThetaIsUnique = (ws : List Wall) (n : ℕ) (m : Exp) (q : Point) (s t : Sum) → IsTheta ws n m q s → IsTheta ws n m q t → Same s t

-- where nothing fails there is a family that fits
abbrev pub FamilyExists : Type 0
FamilyExists = (ws : List Wall) (n k : ℕ) (l r : Exp) (q : Point) → Every (IsWall k) ws → IsPoint q → IsProductFault ws n l r q None → (a : Sum) × IsFamily ws n l r q a

-- at most one family fits
abbrev pub FamilyIsUnique : Type 0
FamilyIsUnique = (ws : List Wall) (n k : ℕ) (l r : Exp) (q : Point) (a b : Sum) → Every (IsWall k) ws → IsPoint q → IsFamily ws n l r q a → IsFamily ws n l r q b → Same a b

-- steps that end without a fault end with it
abbrev pub StepsEndWithFamily : Type 0
StepsEndWithFamily = (ws : List Wall) (n k : ℕ) (l r : Exp) (q : Point) (s a : Sum) (first w : ℕ) → Every (IsWall k) ws → IsPoint q → IsThetaProduct ws n l r q s → Runs ws n q s first (n + 1) a w → IsFamily ws n l r q a

-- no coefficient of what they leave of the product exceeds the running weight
abbrev pub StepsLeaveLight : Type 0
StepsLeaveLight = (ws : List Wall) (n k : ℕ) (l r : Exp) (q : Point) (s a : Sum) (x y w : ℕ) (thetas : Exp → Sum) → Every (IsWall k) ws → IsPoint q
    → IsAskFault ws n l q None → IsAskFault ws n r q None → IsThetaWeight ws n l q x → IsThetaWeight ws n r q y → IsThetaProduct ws n l r q s
    → (d : ℕ) → Runs ws n q s (x * y) d a w → AreThetas ws n q a thetas → (z : Key) → degree z ≤ n → nat_abs (coef (s ++ minus (combined n thetas a)) z) ≤ w

-- the product of two thetas has a first fault, or none
abbrev pub ProductFaultExists : Type 0
ProductFaultExists = (ws : List Wall) (n k : ℕ) (l r : Exp) (q : Point) → Every (IsWall k) ws → IsPoint q → (f : Option AskFault) × IsProductFault ws n l r q f

-- and not more than one
abbrev pub ProductFaultIsUnique : Type 0
ProductFaultIsUnique = (ws : List Wall) (n k : ℕ) (l r : Exp) (q : Point) (f g : Option AskFault) → Every (IsWall k) ws → IsPoint q → IsProductFault ws n l r q f → IsProductFault ws n l r q g → f ≡ g
