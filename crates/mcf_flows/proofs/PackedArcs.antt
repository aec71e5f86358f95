-- Arcs as they are stored, read one by one.
use Rattle.std.proofs.Common.{◌≡◌, ℕ, ◌+◌, ◌≤◌, Bool, Some, subst, List, length, map, take, get_or, ap, ◌∙◌, arith, ℤ, ◌+ℤ◌}
use Rattle.std.specs.Prelude.{option_map, slice_get}
use Rattle.std.specs.List.{All}
use Rattle.std.proofs.lemmas.List.{length-map}
use Rattle.std.proofs.lemmas.Option.{get_or_from_slice_get, slice_get-map, slice_get_within}
use Rattle.mcf_flows.specs.Private.Sums.{sum_limit}
use Rattle.mcf_flows.specs.declared.arc.Arc.{Arc}
use Rattle.mcf_flows.specs.declared.arc.PackedArc.{PackedArc}
use Rattle.mcf_flows.specs.Limits.{arc_limit, limits}
use Rattle.mcf_flows.specs.Network.{arc_sum, when}
use Rattle.mcf_flows.specs.Packed.{unpacked}
use Rattle.mcf_flows.specs.WellFormed.{IsArcWithinLimits, IsUpTo}
use Rattle.mcf_flows.proofs.ArcSums.{arc_sum_more}
use Rattle.mcf_flows.proofs.Bounds.{caps_up_to, lows_up_to}

-- an arc, read among those that are stored
read_packed : (arcs : List PackedArc) (i : ℕ) (a : PackedArc) → slice_get arcs i ≡ Some a → get_or (map unpacked arcs) i (unpacked a) ≡ unpacked a
read_packed arcs i a is =
    get_or_from_slice_get (map unpacked arcs) i (unpacked a) (unpacked a) (slice_get-map unpacked arcs i ∙ ap (option_map unpacked) is)

-- a fact of each arc, at one that is stored
pub packed_at : (P : Arc → Type 0) (arcs : List PackedArc) (i : ℕ) (a : PackedArc) → All P (map unpacked arcs) → slice_get arcs i ≡ Some a → P (unpacked a)
packed_at P arcs i a all is =
    subst P (read_packed arcs i a is) (all i (unpacked a) (omega (arith, length-map arcs unpacked, slice_get_within arcs i a is)))

-- the sum over one arc more
pub packed_sum_next : (t : Arc → ℤ) (arcs : List PackedArc) (i : ℕ) (a : PackedArc) → slice_get arcs i ≡ Some a → arc_sum t
    (take (i + 1) (map unpacked arcs)) ≡ arc_sum t (take i (map unpacked arcs)) +ℤ t (unpacked a)
packed_sum_next t arcs i a is =
    arc_sum_more t (map unpacked arcs) i (unpacked a) (omega (arith, length-map arcs unpacked, slice_get_within arcs i a is))
    ∙ ap (λ b. arc_sum t (take i (map unpacked arcs)) +ℤ t b) (read_packed arcs i a is)

-- the lows, or the caps, of the first arcs that pass a test
pub packed_lows_up_to : (test : Arc → Bool) (arcs : List PackedArc) (i : ℕ) → All (IsArcWithinLimits limits) (map unpacked arcs) → length arcs ≤ arc_limit
    → i ≤ length arcs → IsUpTo sum_limit (arc_sum (λ a. when (test a) a.low) (take i (map unpacked arcs)))
packed_lows_up_to test arcs i small count h =
    let n = length-map arcs unpacked in
    lows_up_to test (map unpacked arcs) i small (omega (arith, n)) (omega (arith, n))

pub packed_caps_up_to : (test : Arc → Bool) (arcs : List PackedArc) (i : ℕ) → All (IsArcWithinLimits limits) (map unpacked arcs) → length arcs ≤ arc_limit
    → i ≤ length arcs → IsUpTo sum_limit (arc_sum (λ a. when (test a) a.cap) (take i (map unpacked arcs)))
packed_caps_up_to test arcs i small count h =
    let n = length-map arcs unpacked in
    caps_up_to test (map unpacked arcs) i small (omega (arith, n)) (omega (arith, n))
