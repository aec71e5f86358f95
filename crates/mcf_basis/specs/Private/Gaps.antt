-- How a table stores prices nearer to 0 than they lie, so that they fit 64 bits. Each price of a
-- basis but that of the root lies near the artificial cost or near its opposite. A stand-in takes
-- the place of that cost, and the gap is what it lacks.
use Rattle.std.specs.Prelude.{◌≡◌, ℕ, ◌+◌, ◌*◌, ◌^◌, ℤ, pos, neg_ℤ, ◌+ℤ◌, ◌-ℤ◌, int_lt, if◌then◌else◌}
use Rattle.mcf_flows.specs.WellFormed.{IsUpTo}

-- a number that lies further from 0 than a bound, moved away from 0 by an amount; any other stays
abbrev pub moved_out : ℕ → ℕ → ℤ → ℤ
moved_out bound by z =
    if int_lt (pos bound) z then z +ℤ pos by else if int_lt z (neg_ℤ (pos bound)) then z -ℤ pos by else z

-- the artificial cost of the stored prices, if there is a gap
abbrev pub stand_in : ℕ
stand_in = 2 * 10 ^ 18

-- how far from the artificial cost, or from its opposite, a price can lie for which there is a gap
abbrev pub spread_limit : ℕ
spread_limit = 9 * 10 ^ 17

-- a price that can be stored: any without a gap, otherwise one near the artificial cost or its
-- opposite
pub data IsSpread (gap : ℕ) (price : ℤ) : Type 0 where
  plain : gap ≡ 0 → IsSpread gap price
  above : IsUpTo spread_limit (price -ℤ pos (stand_in + gap)) → IsSpread gap price
  below : IsUpTo spread_limit (price +ℤ pos (stand_in + gap)) → IsSpread gap price

-- the price that is stored so
abbrev pub price_by : ℕ → ℤ → ℤ
price_by gap stored = moved_out 0 gap stored

-- the reduced cost, or the change of a price, that stored prices show so
abbrev pub change_by : ℕ → ℤ → ℤ
change_by gap stored = moved_out stand_in (2 * gap) stored

-- a reduced cost, or a change of prices, that stored prices of this limit can show
pub record IsShown (gap limit : ℕ) (change : ℤ) : Type 0 where
  pub stored : ℤ
  pub is : change ≡ change_by gap stored
  pub small : IsUpTo limit stored
