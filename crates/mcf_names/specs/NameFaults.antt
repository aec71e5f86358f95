-- Which cells are names.
-- Source: own
use Rattle.std.specs.Prelude.{ℕ, ◌==◌, nat_le, nat_lt, Bool, false, ◌&&◌, ◌||◌, if◌then◌else◌, List, [], ◌∷◌, length, slice_index, Option, Some, None}
use Rattle.mcf_names.specs.declared.faults.NameFault.{NameFault}
use Rattle.mcf_names.specs.declared.faults.NameFault.TheVariants.{Empty, Control}

-- a control character of ASCII: U+0000 to U+001F, or U+007F
abbrev pub is_control_byte : ℕ → Bool
is_control_byte b = nat_lt b 32 || b == 127

-- a control character beyond ASCII, in UTF-8: U+0080 to U+009F
abbrev pub is_control_pair : ℕ → ℕ → Bool
is_control_pair a b = a == 194 && (nat_le 128 b && nat_lt b 160)

-- the text begins with a control character
abbrev pub begins_control : List ℕ → Bool
begins_control text =
    (nat_le 1 (length text) && is_control_byte (slice_index text 0))
    || (nat_le 2 (length text) && is_control_pair (slice_index text 0) (slice_index text 1))

-- a control character stands in the text
abbrev pub has_control : List ℕ → Bool
has_control [] = false
has_control (b ∷ bs) = begins_control (b ∷ bs) || has_control bs

-- why the cell isn't a name, if it isn't one
abbrev pub name_fault : List ℕ → Option NameFault
name_fault cell =
    if length cell == 0 then Some Empty
    else if has_control cell then Some Control
    else None
