-- What a text holds.
use Rattle.std.specs.Prelude.{ℕ, ◌+◌, ◌-◌, ◌^◌, List, [], ◌∷◌, length, min}
use Rattle.mcf_text.specs.Fields.{fields_of}

-- how many fields the lines have together
abbrev pub fields_in : List (ℕ × List ℕ) → ℕ
fields_in [] = 0
fields_in (line ∷ lines) = length (fields_of line.1) + fields_in lines

-- a count that stays at the greatest `u64` once it would pass it
abbrev pub capped : ℕ → ℕ
capped count = min count (2 ^ 64 - 1)
