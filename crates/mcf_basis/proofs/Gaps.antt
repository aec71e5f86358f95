-- Prices, reduced costs and changes, by how a table with a gap stores them.
use Rattle.std.proofs.Common.{◌≡◌, ℕ, ◌+◌, ◌-◌, ◌*◌, ◌^◌, ◌≤◌, arith, ℤ, pos, neg_ℤ, ◌+ℤ◌, ◌-ℤ◌, ◌<ℤ◌, ◌≤ℤ◌}
use Rattle.std.proofs.lemmas.Int.{ints}
use Rattle.mcf_flows.specs.Limits.{limits}
use Rattle.mcf_flows.specs.WellFormed.{IsUpTo}
use Rattle.mcf_basis.specs.Private.Gaps.{IsSpread, change_by, moved_out, price_by, spread_limit, stand_in}
use Rattle.mcf_basis.specs.Private.Gaps.IsSpread.{plain, above, below}
use Rattle.mcf_basis.specs.Private.Layouts.{limit_in}

-- a width has room for a reduced cost, and for a price that changes by one
pub limit_fits : (room : ℕ) → 2 ^ 63 - 1 ≤ room → limits.cost + 3 * limit_in room ≤ room
limit_fits room least = grind arith

-- a number and what it is moved to
pub data IsMoved (bound by : ℕ) (s z : ℤ) : Type 0 where
  up : pos bound <ℤ s → z ≡ s +ℤ pos by → IsMoved bound by s z
  down : s <ℤ neg_ℤ (pos bound) → z ≡ s -ℤ pos by → IsMoved bound by s z
  stays : neg_ℤ (pos bound) ≤ℤ s → s ≤ℤ pos bound → z ≡ s → IsMoved bound by s z

pub is_moved : (bound by : ℕ) (s : ℤ) → IsMoved bound by s (moved_out bound by s)
is_moved bound by s = grind (arith, ints, up, down, stays)

-- what a number is moved to is determined
pub moved_is : (bound by : ℕ) (s z : ℤ) → IsMoved bound by s z → z ≡ moved_out bound by s
moved_is bound by s z m = grind (arith, ints)

-- without a gap nothing is moved
pub unmoved : (bound by : ℕ) (s : ℤ) → by ≡ 0 → moved_out bound by s ≡ s
unmoved bound by s z = grind (arith, ints)

-- what is less before is less afterwards, and the other way round
pub moved_less : (bound by : ℕ) (s t : ℤ) → s <ℤ t → moved_out bound by s <ℤ moved_out bound by t
moved_less bound by s t lt = grind (arith, ints)

pub moved_most : (bound by : ℕ) (s t : ℤ) → s ≤ℤ t → moved_out bound by s ≤ℤ moved_out bound by t
moved_most bound by s t le = grind (arith, ints)

pub moved_zero : (bound by : ℕ) → moved_out bound by (pos 0) ≡ pos 0
moved_zero bound by = grind (arith, ints)

-- a stored price fits if the price does
pub stored_fits : (limit gap : ℕ) (s : ℤ) → IsUpTo (limit + gap) (price_by gap s) → IsUpTo limit s
stored_fits limit gap s h = (grind (arith, ints), grind (arith, ints))

-- where a stored price lies
pub data IsStoredNear (gap : ℕ) (s : ℤ) : Type 0 where
  anywhere : gap ≡ 0 → IsStoredNear gap s
  high : price_by gap s ≡ s +ℤ pos gap → IsUpTo spread_limit (s -ℤ pos stand_in) → IsStoredNear gap s
  low : price_by gap s ≡ s -ℤ pos gap → IsUpTo spread_limit (s +ℤ pos stand_in) → IsStoredNear gap s

pub stored_near : (gap : ℕ) (s : ℤ) → IsSpread gap (price_by gap s) → IsStoredNear gap s
stored_near gap s spread = grind (arith, ints, anywhere, high, low)

pub twice : (gap : ℕ) → gap ≡ 0 → 2 * gap ≡ 0
twice gap z = omega arith

-- ---- the reduced cost of an offer between nodes of the net

shown_plain : (gap : ℕ) (c s t : ℤ) → gap ≡ 0 → c -ℤ price_by gap s +ℤ price_by gap t ≡ change_by gap (c -ℤ s +ℤ t)
shown_plain gap c s t z = grind (arith, ints, unmoved)

pub reduced_shown : (gap : ℕ) (c s t : ℤ) → IsUpTo limits.cost c → IsSpread gap (price_by gap s) → IsSpread gap (price_by gap t)
    → c -ℤ price_by gap s +ℤ price_by gap t ≡ change_by gap (c -ℤ s +ℤ t)
reduced_shown gap c s t cost from to =
    elim (stored_near gap s from) [
      | anywhere z ↦ shown_plain gap c s t z
      | high e h ↦ elim (stored_near gap t to) [
        | anywhere z ↦ shown_plain gap c s t z
        | high f k ↦ moved_is stand_in (2 * gap) (c -ℤ s +ℤ t) (c -ℤ price_by gap s +ℤ price_by gap t)
            (stays (omega (arith, ints, cost, h, k)) (omega (arith, ints, cost, h, k)) (omega (arith, ints, e, f)))
        | low f k ↦ moved_is stand_in (2 * gap) (c -ℤ s +ℤ t) (c -ℤ price_by gap s +ℤ price_by gap t)
            (down (omega (arith, ints, cost, h, k)) (omega (arith, ints, e, f)))
      ]
      | low e h ↦ elim (stored_near gap t to) [
        | anywhere z ↦ shown_plain gap c s t z
        | high f k ↦ moved_is stand_in (2 * gap) (c -ℤ s +ℤ t) (c -ℤ price_by gap s +ℤ price_by gap t)
            (up (omega (arith, ints, cost, h, k)) (omega (arith, ints, e, f)))
        | low f k ↦ moved_is stand_in (2 * gap) (c -ℤ s +ℤ t) (c -ℤ price_by gap s +ℤ price_by gap t)
            (stays (omega (arith, ints, cost, h, k)) (omega (arith, ints, cost, h, k)) (omega (arith, ints, e, f)))
      ]
    ]

-- ---- a change of a price

raised_plain : (gap : ℕ) (s d : ℤ) → gap ≡ 0 → price_by gap s +ℤ change_by gap d ≡ price_by gap (s +ℤ d)
raised_plain gap s d z = grind (arith, ints, unmoved)

pub raised_shown : (gap : ℕ) (s d : ℤ) → IsSpread gap (price_by gap s) → IsSpread gap (price_by gap s +ℤ change_by gap d)
    → price_by gap s +ℤ change_by gap d ≡ price_by gap (s +ℤ d)
raised_shown gap s d before after =
    elim (stored_near gap s before) [
      | anywhere z ↦ raised_plain gap s d z
      | high e h ↦ elim (is_moved stand_in (2 * gap) d) [
        | up k f ↦ moved_is 0 gap (s +ℤ d) _ (up (omega (arith, ints, h, k)) (elim after [
          | plain z ↦ omega (arith, ints, e, f, z)
          | above q ↦ absurd (omega (arith, ints, e, f, h, k, q))
          | below q ↦ absurd (omega (arith, ints, e, f, h, k, q))
        ]))
        | down k f ↦ elim after [
          | plain z ↦ raised_plain gap s d z
          | above q ↦ absurd (omega (arith, ints, e, f, h, k, q))
          | below q ↦ moved_is 0 gap (s +ℤ d) _ (down (omega (arith, ints, e, f, h, k, q)) (omega (arith, ints, e, f)))
        ]
        | stays k l f ↦ elim after [
          | plain z ↦ raised_plain gap s d z
          | above q ↦ moved_is 0 gap (s +ℤ d) _ (up (omega (arith, ints, e, f, h, k, q)) (omega (arith, ints, e, f)))
          | below q ↦ absurd (omega (arith, ints, e, f, h, k, l, q))
        ]
      ]
      | low e h ↦ elim (is_moved stand_in (2 * gap) d) [
        | down k f ↦ moved_is 0 gap (s +ℤ d) _ (down (omega (arith, ints, h, k)) (elim after [
          | plain z ↦ omega (arith, ints, e, f, z)
          | above q ↦ absurd (omega (arith, ints, e, f, h, k, q))
          | below q ↦ absurd (omega (arith, ints, e, f, h, k, q))
        ]))
        | up k f ↦ elim after [
          | plain z ↦ raised_plain gap s d z
          | above q ↦ moved_is 0 gap (s +ℤ d) _ (up (omega (arith, ints, e, f, h, k, q)) (omega (arith, ints, e, f)))
          | below q ↦ absurd (omega (arith, ints, e, f, h, k, q))
        ]
        | stays k l f ↦ elim after [
          | plain z ↦ raised_plain gap s d z
          | above q ↦ absurd (omega (arith, ints, e, f, h, k, l, q))
          | below q ↦ moved_is 0 gap (s +ℤ d) _ (down (omega (arith, ints, e, f, h, k, q)) (omega (arith, ints, e, f)))
        ]
      ]
    ]
