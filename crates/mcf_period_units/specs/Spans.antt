-- The periods of the problem: those that are named, one before them if there is first stock, and
-- one after them if there is last stock.
-- Source: own
use Rattle.std.specs.Prelude.{ℕ, ◌+◌, ◌-◌, ◌==◌, nat_lt, Bool, if◌then◌else◌, List, pos, int_lt}
use Rattle.std.specs.List.{list_any}
use Rattle.mcf_period_reading.specs.declared.place_times.PlaceTime.{PlaceTime}
use Rattle.mcf_period_units.specs.PeriodEntries.{PeriodEntries}
use Rattle.mcf_period_units.specs.declared.spans.Span.{Span}

-- a row names a first stock
abbrev pub has_first : PlaceTime → Bool
has_first time = int_lt (pos 0) time.first.mantissa

-- a row names a last stock
abbrev pub has_last : PlaceTime → Bool
has_last time = int_lt (pos 0) time.last.mantissa

-- so many named periods, with one before them if some row names a first stock, and one after them
-- if some row names a last stock
abbrev pub span_in : List PlaceTime → ℕ → Span
span_in times last = record { before = list_any has_first times; last = last; after = list_any has_last times }

-- those of the tables
abbrev pub span_of : PeriodEntries → Span
span_of E = span_in E.places E.last

-- 1 if the test holds, or else 0
abbrev pub one_if : Bool → ℕ
one_if test = if test then 1 else 0

-- how many periods the problem has
abbrev pub period_count : Span → ℕ
period_count span = (one_if span.before + span.last) + one_if span.after

-- the number of a period of the problem among the named ones: 0 for the one before them
abbrev pub named : Span → ℕ → ℕ
named span period = period - one_if span.before

-- the number of a named period in the problem
abbrev pub shifted : Span → ℕ → ℕ
shifted span number = one_if span.before + number

-- the named period by whose rows a period is told: the first for the one before them, and the last
-- for the one after them
abbrev pub told_in : ℕ → ℕ → ℕ
told_in last number = if number == 0 then 1 else if nat_lt last number then last else number
