-- What a function puts at the end of a vector.
use Rattle.std.specs.Prelude.{◌≡◌, ℕ, ◌+◌, ◌<◌, ◌≤◌, List, ◌∷◌, ◌++◌, length, take, ℤ, Result, OnOk, OnErr, vec_len, vec_capacity}
use Rattle.std.specs.Fmt.{signed_decimal}
use Rattle.std.specs.Global.{Vec}
use Rattle.mcf_text.specs.declared.error.NoMemory.{NoMemory}

-- the text stands after what was there; where memory ran out, the text didn't fit, and a part of it
-- may stand there
pub record PutsText (before after : Vec ℕ) (result : Result (Unit {0}) NoMemory) (text : List ℕ) : Type 0 where
  pub ok : OnOk result (after.items ≡ before.items ++ text)
  pub err : OnErr result (take (length before.items) after.items ≡ before.items)
  pub capacity : vec_capacity before ≤ vec_capacity after
  pub refused : OnErr result (vec_capacity before < vec_len before + length text)

-- a blank and a number
abbrev pub field_text : ℤ → List ℕ
field_text z = 32 ∷ signed_decimal z
