-- Strands of live walls, which stand along one line and are met together, and the points where they meet.
--     IsSameUpToSign d e              d is e, or e turned round
--     IsInside l s             the points on the support l are on s, and l is along s
--     IsWholeLine s                the support is a whole line
--     IsHeld p ls              a wall of ls holds p
--     AreInside s ls           the walls of ls are inside the support
--     IsStrand s               the walls of the strand are inside its hull
--     AreStrands ls ss         the walls of the strands ss are ls, each inside the hull of its strand
--     IsFacing n s t           least degrees along s and along t sum to n, and the walls are inside the hulls
--     AreFacing n ls ms        least degrees in ls and in ms sum to n
--     OfSome Q xs p            Q x p for an element x of xs
--     MeetsAny n ls ms p       a wall of ls meets one of ms at p
--     MeetsRow n s ts p        a wall of the strand s meets one of a strand of ts at p
--     MeetsPairs n ss ts p     a wall of a strand of ss meets one of a strand of ts at p
--     level d ls               the walls of ls of least degree d
--     MeetsLevels n k ls p     a wall of ls of least degree k meets one of least degree n - k at p
--     IsNewlyMet n ls p        two walls of ls meet at p, of least degrees that sum to n exactly
--     IsMetBelow n k ls p      the same, the first of a least degree below k
--     joined rows              the points of all rows
--     IsRow n s ts r           r are the points where s meets ts, or the stop
--     others_at again i ts     whom the strand at the place i meets
--     IsRowAt again n ss ts i r    r is the row of the strand at the place i
use Rattle.std.specs.Prelude.{◌≡◌, ◌⊎◌, ℕ, ◌+◌, ◌<◌, IfOk, IfErr, List, [], ⊤, flat_map, slice_index_or, ◌-◌, ◌==◌, Bool, true, false, drop, filter}
use Rattle.std.specs.declared.result.Result.{Result}
use Rattle.std.specs.declared.alloc.Global.{Global}
use Rattle.std.specs.declared.vec.Vec.{Vec}
use Rattle.scattering.specs.Collections.{In}
use Rattle.scattering.specs.Series.{Exp}
use Rattle.scattering.specs.Plane.{Point, IsPoint}
use Rattle.scatter_diagram.specs.Degrees.{opposite}
use Rattle.scatter_diagram.specs.declared.stop.Stop.{Stop}
use Rattle.plane_geom.specs.declared.Point.{Point as CodePoint}
use Rattle.plane_geom.specs.declared.Support.{Support}
use Rattle.plane_geom.specs.declared.Support.TheVariants.{Line, Half}
use Rattle.plane_geom.specs.Shown.{support_dir, OnSupport}
use Rattle.joint_finder.specs.declared.live.LiveWall.{LiveWall}
use Rattle.joint_finder.specs.declared.strands.Strand.{Strand}
use Rattle.joint_finder.specs.Crossings.{Meets, Adds, StopsFar}

-- ---- strands

abbrev pub IsSameUpToSign : Exp → Exp → Type 0
IsSameUpToSign d e = (d ≡ e) ⊎ (d ≡ opposite e)

pub record IsInside (l s : Support) : Type 0 where
  pub along : IsSameUpToSign (support_dir l) (support_dir s)
  pub points : (p : Point) → IsPoint p → OnSupport l p → OnSupport s p

-- the support is a whole line
abbrev pub IsWholeLine : Support → Type 0
IsWholeLine (Line p d) = ⊤
IsWholeLine (Half p d) = ⊥

-- a wall of ls holds p
abbrev pub IsHeld : Point → List LiveWall → Type 0
IsHeld p ls = (l : LiveWall) × In l ls × OnSupport l.support p

abbrev pub AreInside : Support → List LiveWall → Type 0
AreInside s ls = (l : LiveWall) → In l ls → IsInside l.support s

abbrev pub IsStrand : Strand → Type 0
IsStrand s = AreInside s.hull s.walls.now

pub record AreStrands (ls : List LiveWall) (ss : List Strand) : Type 0 where
  pub inside : (s : Strand) → In s ss → IsStrand s
  pub each : (s : Strand) (l : LiveWall) → In s ss → In l s.walls.now → In l ls
  pub all : (l : LiveWall) → In l ls → (s : Strand) × In s ss × In l s.walls.now

-- ---- least degrees

abbrev pub AreFacing : ℕ → List LiveWall → List LiveWall → Type 0
AreFacing n ls ms = (l m : LiveWall) → In l ls → In m ms → l.degree + m.degree ≡ n

pub record IsFacing (n : ℕ) (s t : Strand) : Type 0 where
  pub degrees : AreFacing n s.walls.now t.walls.now
  pub first : IsStrand s
  pub second : IsStrand t

-- ---- meetings

abbrev pub OfSome : {A : Type 0} → (A → Point → Type 0) → List A → Point → Type 0
OfSome {A} Q xs p = (x : A) × In x xs × Q x p

abbrev pub MeetsAny : ℕ → List LiveWall → List LiveWall → Point → Type 0
MeetsAny n ls ms p = OfSome (λ l. OfSome (Meets n l) ms) ls p

abbrev pub MeetsRow : ℕ → Strand → List Strand → Point → Type 0
MeetsRow n s ts p = OfSome (λ (t : Strand). MeetsAny n s.walls.now t.walls.now) ts p

abbrev pub MeetsPairs : ℕ → List Strand → List Strand → Point → Type 0
MeetsPairs n ss ts p = OfSome (λ s. MeetsRow n s ts) ss p

-- the walls of least degree d
abbrev pub level : ℕ → List LiveWall → List LiveWall
level d ls = filter (λ (l : LiveWall). l.degree == d) ls

-- one of least degree k meets one of least degree n - k
abbrev pub MeetsLevels : ℕ → ℕ → List LiveWall → Point → Type 0
MeetsLevels n k ls p = MeetsAny n (level k ls) (level (n - k) ls) p

-- two of the walls meet, with least degrees that sum to n exactly
abbrev pub IsNewlyMet : ℕ → List LiveWall → Point → Type 0
IsNewlyMet n ls p = (l : LiveWall) × In l ls × (m : LiveWall) × In m ls × (l.degree + m.degree ≡ n) × Meets n l m p

-- the same, the first of a least degree below k
abbrev pub IsMetBelow : ℕ → ℕ → List LiveWall → Point → Type 0
IsMetBelow n k ls p = (l : LiveWall) × In l ls × (m : LiveWall) × In m ls × (l.degree < k) × (l.degree + m.degree ≡ n) × Meets n l m p

-- ---- rows

abbrev pub joined : List (Vec CodePoint Global) → List CodePoint
joined rows = flat_map (λ r. r.items) rows

-- r are the points where s meets ts, or the stop where one isn't near
pub record IsRow (n : ℕ) (s : Strand) (ts : List Strand) (r : Result (Vec CodePoint Global) Stop) : Type 0 where
  pub points : IfOk r (λ ps. Adds (MeetsRow n s ts) [] ps.items)
  pub far : IfErr r (StopsFar n (MeetsRow n s ts))

-- whom the strand at the place i meets: all of ts, or those after it, where ts are the same strands again
abbrev pub others_at : Bool → ℕ → List Strand → List Strand
others_at true i ts = drop (i + 1) ts
others_at false i ts = ts

-- r is the row of the strand at the place i
abbrev pub IsRowAt : Bool → ℕ → List Strand → List Strand → ℕ → Result (Vec CodePoint Global) Stop → Type 0
IsRowAt again n ss ts i r = (s : Strand) × (s ≡ slice_index_or ss i s) × IsRow n s (others_at again i ts) r
