-- Heads that two tables lack.
-- Source: own
use Rattle.std.specs.Prelude.{ℕ, Bool, ◌&&◌, List, map, filter}
use Rattle.std.specs.Option.{is_none}
use Rattle.mcf_forms.specs.Cells.{first_column}
use Rattle.mcf_table.specs.Texts.{Record}

-- neither table has the head, where an ASCII letter is the same in either case
abbrev pub lack : List Record → List Record → List ℕ → Bool
lack one other head = is_none (first_column head one) && is_none (first_column head other)

-- the numbers of the heads that neither table has
abbrev pub lacking : List Record → List Record → List (ℕ × List ℕ) → List ℕ
lacking one other heads = map (λ (head : ℕ × List ℕ). head.0) (filter (λ (head : ℕ × List ℕ). lack one other head.1) heads)
