-- The limits of document 01, each once. src/lib.rt has the same names.
use Rattle.std.specs.Prelude.{ℕ, ◌+◌, ◌*◌}

-- "p is below 257 or above 2,147,483,647"
abbrev pub least_modulus : ℕ
least_modulus = 257

abbrev pub largest_modulus : ℕ
largest_modulus = 2147483647

-- "n is 0 or above 12"
abbrev pub highest_degree : ℕ
highest_degree = 12

-- "r is 0 or above 6"
abbrev pub capacity : ℕ
capacity = 6

-- "some weight is 0 or outside -16 to 16"
abbrev pub largest_weight : ℕ
largest_weight = 16

-- "N is above 1,024"
abbrev pub most_placements : ℕ
most_placements = 1024

-- a row of work room has a word for each power sum from 0 to N
abbrev pub longest_row : ℕ
longest_row = most_placements + 1

-- "the work room is shorter than 12(N+1)"
abbrev pub work_rows : ℕ
work_rows = 12

abbrev pub room : ℕ → ℕ
room N = work_rows * (N + 1)

abbrev pub largest_room : ℕ
largest_room = room most_placements

-- "at most 4,096 bytes; more is 1"
abbrev pub longest_text : ℕ
longest_text = 4096

-- the bytes of the longest answer record
abbrev pub longest_answer : ℕ
longest_answer = 11313

-- "1 to 64 numbers", "each -999 to 999"
abbrev pub most_numbers : ℕ
most_numbers = 64

abbrev pub largest_written : ℕ
largest_written = 999
