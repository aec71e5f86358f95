-- Pairs that stand twice.
-- Source: own
use Rattle.std.specs.Prelude.{ℕ, ◌-◌, Bool, ◌&&◌, if◌then◌else◌, List, [], ◌∷◌, ◌++◌, map, slice_index_or, Option, Some, None}
use Rattle.std.specs.Option.{is_none}
use Rattle.mcf_names.specs.NameFaults.{name_fault}
use Rattle.mcf_names.specs.Names.{number_of}
use Rattle.mcf_table.specs.Texts.{Record}
use Rattle.mcf_roster_reading.specs.Cells.{cell_in}
use Rattle.mcf_roster_reading.specs.Faults.{in_turn, told}
use Rattle.mcf_roster_reading.specs.Naming.{is_before}
use Rattle.mcf_roster_reading.specs.declared.kinds.Fault.{Fault}
use Rattle.mcf_roster_reading.specs.declared.kinds.FaultKind.{FaultKind}
use Rattle.mcf_roster_reading.specs.declared.kinds.FaultKind.TheVariants.{Twice}
use Rattle.mcf_roster_reading.specs.declared.kinds.Location.TheVariants.{Cell}
use Rattle.mcf_roster_reading.specs.declared.layouts.PairAt.{PairAt}

-- the text of a pair: its two names with a zero byte between them, which no name has
abbrev pub pair_text : List ℕ → List ℕ → List ℕ
pair_text who what = who ++ 0 ∷ what

-- the text of a pair of cells
abbrev pub text_of : List Record → PairAt → List ℕ
text_of records pair = pair_text (cell_in records pair.who) (cell_in records pair.what)

-- both are names
abbrev pub are_names : List ℕ → List ℕ → Bool
are_names who what = is_none (name_fault who) && is_none (name_fault what)

-- an earlier text is the one with this number, from 1
abbrev pub is_repeated : List (List ℕ) → ℕ → Bool
is_repeated texts number = is_before (number_of (slice_index_or texts (number - 1) []) texts) number

-- an earlier pair is the same as the one with this number, whose cells are names
abbrev pub twice_kind : List Record → List (List ℕ) → ℕ → PairAt → Option FaultKind
twice_kind records texts number pair =
    if are_names (cell_in records pair.who) (cell_in records pair.what) && is_repeated texts number then Some Twice else None

-- the fault of such a pair, in the cell of its thing
abbrev pub twice_fault : List Record → List (List ℕ) → ℕ → PairAt → List Fault
twice_fault records texts number pair = told (Cell pair.what) (twice_kind records texts number pair)

-- the faults of pairs that stand in an earlier row; none where names stand only once
abbrev pub repeated_faults : Bool → List Record → List PairAt → List Fault
repeated_faults names_once records pairs =
    if names_once then [] else in_turn (twice_fault records (map (text_of records) pairs)) 1 pairs
