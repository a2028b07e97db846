-- The numbers that limit what is read and what is computed, each named once. They are this program's own.
use Rattle.std.specs.Prelude.{ℕ, ◌^◌}

-- ---- what is computed

-- the highest order of a series, a diagram or a completion
abbrev pub highest_order : ℕ
highest_order = 24

-- of a point, and of the mass of any result: then sums of signed coefficients fit 128 bits
abbrev pub largest_weight : ℕ
largest_weight = 2 ^ 126

-- the mass of a wall's function
abbrev pub largest_mass : ℕ
largest_mass = 2 ^ 127

-- of a diagram: all its lines and all its rays
abbrev pub most_walls : ℕ
most_walls = 8192

-- x, y and w of a near point (x/w, y/w) in lowest terms
abbrev pub largest_coordinate : ℕ
largest_coordinate = 2 ^ 40

-- the numbers of a direction
abbrev pub largest_direction : ℕ
largest_direction = 4096

-- an exponent of a wall's function, for each degree of its term
abbrev pub exponent_per_degree : ℕ
exponent_per_degree = 64

-- an exponent of any series that is multiplied
abbrev pub largest_exponent : ℕ
largest_exponent = 2 ^ 16

-- the exponents that wall functions reach within a degree
abbrev pub most_reached : ℕ
most_reached = 2 ^ 18

-- the tails that end at a point
abbrev pub most_tails : ℕ
most_tails = 2 ^ 20

-- ---- what is read

abbrev pub most_variables : ℕ
most_variables = 8

abbrev pub most_lines : ℕ
most_lines = 16

-- of one line
abbrev pub most_terms : ℕ
most_terms = 64

abbrev pub most_bytes : ℕ
most_bytes = 2 ^ 20

-- the monomials in the variables up to an order
abbrev pub most_monomials : ℕ
most_monomials = 131072

abbrev pub largest_coefficient : ℕ
largest_coefficient = 2147483647

-- the exponents that the input gives, and those of its directions
abbrev pub largest_given_exponent : ℕ
largest_given_exponent = 64

abbrev pub largest_power : ℕ
largest_power = 255

abbrev pub most_workers : ℕ
most_workers = 16

-- the readers of a store of orders, and of a session
abbrev pub most_readers : ℕ
most_readers = 8

-- the asks of an input
abbrev pub most_asks : ℕ
most_asks = 1024
