-- Numbers that are the cost of this many arcs, at costs times a scale and with a slack for each.
use Rattle.std.proofs.Common.{◌≡◌, ℕ, ◌+◌, ◌*◌, ◌<◌, ◌≤◌, ℤ, pos, ◌+ℤ◌, ◌*ℤ◌, ◌≤ℤ◌, ◌<ℤ◌, arith}
use Rattle.std.proofs.lemmas.Int.{ints, by_lt_z}
use Rattle.std.proofs.Math.Nat.{mul-le-mul_left}
use Rattle.mcf_flows.specs.Limits.{node_limit}
use Rattle.mcf_flows.specs.WellFormed.{IsUpTo}
use Rattle.mcf_flows.proofs.Bounds.{mul_up_to}
use Rattle.mcf_flows.proofs.IntLaws.{add-mul, mul-mono_left, one-mul, zero-mul}
use Rattle.mcf_engine.specs.Respecting.{cost_limit}
use Rattle.mcf_engine.specs.Private.Raisings.{IsLength, IsRoundedDown, label_limit}

-- no arcs
pub length_zero : (scale slack waiting nodes : ℕ) (z : ℤ) → waiting ≤ nodes → z ≡ pos 0 → IsLength scale slack waiting nodes z
length_zero scale slack waiting nodes z few zero =
    record {
      price = pos 0;
      arcs = 0;
      few = omega (arith, few);
      value = omega (arith, ints, zero, zero-mul (pos scale));
      price_low = omega (arith, ints);
      low = omega (arith, ints, zero);
    }

-- fewer nodes wait
pub length_fewer : (scale slack waiting fewer nodes : ℕ) (z : ℤ) → fewer ≤ waiting → IsLength scale slack waiting nodes z → IsLength scale slack fewer nodes z
length_fewer scale slack waiting fewer nodes z less h =
    let few = h.few in
    record {
      price = h.price;
      arcs = h.arcs;
      few = omega (arith, few, less);
      value = h.value;
      price_low = h.price_low;
      low = h.low;
    }

-- how large a cost is, taken times the scale
pub scaled_up_to : (scale : ℕ) (c : ℤ) → scale ≤ node_limit + 1 → IsUpTo cost_limit c → IsUpTo label_limit (c *ℤ pos scale)
scaled_up_to scale c fits small =
    let h = mul_up_to c (pos scale) cost_limit (node_limit + 1) small (omega (arith, ints, fits), omega (arith, ints, fits)) in
    (omega (arith, ints, h), omega (arith, ints, h))

-- one arc more
pub length_next : (scale slack waiting nodes : ℕ) (c z z' : ℤ) → scale ≤ node_limit + 1 → IsUpTo cost_limit c → z' ≡ z +ℤ (c *ℤ pos scale +ℤ pos slack)
    → IsLength scale slack (waiting + 1) nodes z → IsLength scale slack waiting nodes z'
length_next scale slack waiting nodes c z z' fits small is h =
    let few = h.few in
    let value = h.value in
    let cheap = h.price_low in
    let low = h.low in
    let step = scaled_up_to scale c fits small in
    record {
      price = h.price +ℤ c;
      arcs = h.arcs + 1;
      few = omega (arith, few);
      value = omega (arith, ints, is, value, add-mul h.price c (pos scale));
      price_low = omega (arith, ints, cheap, small);
      low = omega (arith, ints, low, is, step);
    }

-- ---- rounding

-- a factor that is not negative can be left out of a strict order
pub cancelled : (a b : ℤ) (scale : ℕ) → (a *ℤ pos scale) <ℤ (b *ℤ pos scale) → a <ℤ b
cancelled a b scale h =
    by_lt_z a b (λ l. l) (λ l. absurd (omega (arith, ints, h, mul-mono_left b a (pos scale) (omega (arith, ints)) l)))

-- fewer arcs than nodes have less slack together than the scale, also with one arc more
slack_below : (scale slack arcs nodes : ℕ) → slack * nodes < scale → arcs + 1 ≤ nodes → slack * arcs + slack < scale
slack_below scale slack arcs nodes fits few =
    omega (arith, fits, mul-le-mul_left slack few)

-- the length of a walk, rounded down, is the cost of the walk
pub rounded_price : (scale slack nodes : ℕ) (z g : ℤ) → slack * nodes < scale → (h : IsLength scale slack 1 nodes z) → IsRoundedDown scale z g → g ≡ h.price
rounded_price scale slack nodes z g fits h round =
    let below = round.below in
    let next = round.next in
    let value = h.value in
    let slack_fits = slack_below scale slack h.arcs nodes fits h.few in
    let up : h.price <ℤ (g +ℤ pos 1) = cancelled h.price (g +ℤ pos 1) scale (omega (arith, ints, next, value)) in
    let down : g <ℤ (h.price +ℤ pos 1) = cancelled g (h.price +ℤ pos 1) scale
    (omega (arith, ints, below, value, slack_fits, add-mul h.price (pos 1) (pos scale), one-mul (pos scale))) in
    omega (arith, ints, up, down)

-- a price that a label is no less than is no greater than the label rounded down
pub rounded_above : (scale : ℕ) (z g x : ℤ) → (x *ℤ pos scale) ≤ℤ z → IsRoundedDown scale z g → x ≤ℤ g
rounded_above scale z g x low round =
    let next = round.next in
    let less : x <ℤ (g +ℤ pos 1) = cancelled x (g +ℤ pos 1) scale (omega (arith, ints, low, next)) in
    omega (arith, ints, less)

-- labels that respect an arc respect it after they are rounded down
pub rounded_respects : (scale slack nodes : ℕ) (c z z' g g' : ℤ) → slack * nodes < scale → IsLength scale slack 1 nodes z'
    → z ≤ℤ (z' +ℤ (c *ℤ pos scale +ℤ pos slack)) → IsRoundedDown scale z g → IsRoundedDown scale z' g' → g ≤ℤ (c +ℤ g')
rounded_respects scale slack nodes c z z' g g' fits h step round round' =
    let below = round.below in
    let value = h.value in
    let same = rounded_price scale slack nodes z' g' fits h round' in
    let slack_fits = slack_below scale slack h.arcs nodes fits h.few in
    let less : g <ℤ (c +ℤ h.price +ℤ pos 1) = cancelled g (c +ℤ h.price +ℤ pos 1) scale
    (omega (arith, ints, below, step, value, slack_fits, add-mul (c +ℤ h.price) (pos 1) (pos scale), add-mul c h.price (pos scale), one-mul (pos scale))) in
    omega (arith, ints, less, same)
