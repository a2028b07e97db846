-- Active points, at which the next order changes rays, and special points, which broken lines avoid.
--     is_active n ws p          walls cross at p with least degrees that sum to at most n, or an incoming ray starts there
--     is_special ws p           live walls cross at p, or a live ray starts there
--     is_newly_active n ws p    as active, with the least degrees summing to n exactly
use Rattle.std.specs.Prelude.{ℕ, ◌+◌, nat_lt, Bool, true, false, ◌&&◌, ◌||◌, not, List, filter}
use Rattle.std.specs.List.{list_any}
use Rattle.scattering.specs.Series.{degree, rest}
use Rattle.scattering.specs.Plane.{Point, point_eq}
use Rattle.scattering.specs.Wall.{WallKind, Line, Incoming, Outgoing, Wall, is_on, is_live, starts_at, are_parallel, has_term_to, crosses_to}

abbrev pub walls_on : List Wall → Point → List Wall
walls_on ws p = filter (λ w. is_on w p) ws

abbrev pub is_incoming : WallKind → Bool
is_incoming Line = false
is_incoming Incoming = true
is_incoming Outgoing = false

-- two live walls that aren't parallel, of least degrees that sum to at most n, are on p, or a live incoming ray of least degree at most n starts there
abbrev pub is_active : ℕ → List Wall → Point → Bool
is_active n ws p = list_any (λ u. list_any (crosses_to n u) (walls_on ws p)) (walls_on ws p)
    || list_any (λ w. is_incoming w.kind && point_eq w.at p && has_term_to n w) ws

-- two live walls that aren't parallel are on p, or a live ray starts there
abbrev pub is_special : List Wall → Point → Bool
is_special ws p = list_any (λ u. list_any (λ v. is_live u && is_live v && not (are_parallel u v)) (walls_on ws p)) (walls_on ws p)
    || list_any (λ w. starts_at w p && is_live w) ws

-- ---- the points that become active with order n

-- the least degree of the function is n
abbrev pub begins_at : ℕ → Wall → Bool
begins_at n w = has_term_to n w && not (list_any (λ t. nat_lt (degree t.0) n) (rest w.function))

-- both live, not parallel, and their least degrees sum to n
abbrev pub crosses_at : ℕ → Wall → Wall → Bool
crosses_at n u v = crosses_to n u v && not (list_any (λ s. list_any (λ t. nat_lt (degree s.0 + degree t.0) n) (rest v.function)) (rest u.function))

abbrev pub is_newly_active : ℕ → List Wall → Point → Bool
is_newly_active n ws p = list_any (λ u. list_any (crosses_at n u) (walls_on ws p)) (walls_on ws p)
    || list_any (λ w. is_incoming w.kind && point_eq w.at p && begins_at n w) ws
