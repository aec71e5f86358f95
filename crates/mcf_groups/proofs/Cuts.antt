-- Bottlenecks of a model that supplies nothing: other sets of the same places, and the places that
-- aren't in a set.
use Rattle.std.proofs.Common.{◌≡◌, ℕ, Bool, true, false, ◌&&◌, List, [], ◌∷◌, length, refl, ap, ◌∙◌, arith, pos}
use Rattle.std.specs.Prelude.{not}
use Rattle.std.specs.List.{All}
use Rattle.std.proofs.lemmas.Int.{ints}
use Rattle.std.proofs.lemmas.List.Elements.{All-head, All-tail}
use Rattle.mcf_flows.specs.declared.problem.Side.{Side}
use Rattle.mcf_flows.specs.declared.problem.Side.TheVariants.{Send, Take}
use Rattle.mcf_flows.specs.Blocking.{supply_in}
use Rattle.mcf_flows.specs.Network.{IsNode, at_node, when}
use Rattle.mcf_model.specs.Bottlenecks.{IsBottleneck, IsLimitedAcross, into, least_across, most_across, out_of, route_room, route_sum}
use Rattle.mcf_model.specs.Complements.{side_told, turned_if}
use Rattle.mcf_model.specs.Model.{IsLimited, Model, Route}
use Rattle.mcf_model.proofs.FaultTests.{all_of}
use Rattle.mcf_roster.proofs.RangeSums.{none_at}
use Rattle.mcf_groups.specs.Splits.{HasEnds}

pub limited_across : (c : ℕ → ℕ → Bool) (rs : List Route) → All (λ r. IsLimited r.last_most) rs → All (IsLimitedAcross c) rs
limited_across c rs h = all_of (λ r. IsLimited r.last_most) (IsLimitedAcross c) rs (λ r k across. k) h

module _ (n : ℕ) (c d : ℕ → ℕ → Bool) (same : (u v : ℕ) → IsNode n u → IsNode n v → d u v ≡ c u v) where
  same_most : (rs : List Route) → All (HasEnds n) rs → route_sum (most_across d) rs ≡ route_sum (most_across c) rs
  same_most [] h = refl
  same_most (r ∷ rs) h =
      let k = All-head (HasEnds n) r rs h in
      omega (
        arith,
        ints,
        ap (λ b. when b (route_room r)) (same r.tail r.head k.tail_is_place k.head_is_place),
        ap (λ b. when (r.both && b) (route_room r)) (same r.head r.tail k.head_is_place k.tail_is_place),
        same_most rs (All-tail (HasEnds n) r rs h),
      )

  same_least : (rs : List Route) → All (HasEnds n) rs → route_sum (least_across d) rs ≡ route_sum (least_across c) rs
  same_least [] h = refl
  same_least (r ∷ rs) h =
      let k = All-head (HasEnds n) r rs h in
      omega (
        arith,
        ints,
        ap (λ b. when b r.least) (same r.tail r.head k.tail_is_place k.head_is_place),
        same_least rs (All-tail (HasEnds n) r rs h),
      )

flipped : (a b : Bool) → (not b && not (not a)) ≡ (a && not b)
flipped true true = refl
flipped true false = refl
flipped false true = refl
flipped false false = refl

when_none : (t : Bool) → when t (pos 0) ≡ pos 0
when_none true = refl
when_none false = refl

module _ (m : Model) (nothing : (v : ℕ) → IsNode (length m.supplies) v → at_node m.supplies v ≡ pos 0)
    (ends : All (HasEnds (length m.supplies)) m.routes) (limited : All (λ r. IsLimited r.last_most) m.routes) (f g : ℕ → Bool) where
  no_supply : (set : ℕ → Bool) → supply_in m.supplies set ≡ pos 0
  no_supply set =
      none_at (λ v. when (set v) (at_node m.supplies v)) (length m.supplies) (λ v k. ap (when (set v)) (nothing v k) ∙ when_none (set v))

  module _ (t : Bool) (same : (v : ℕ) → IsNode (length m.supplies) v → g v ≡ turned_if t (f v)) where
    turned_out : t ≡ true → (u v : ℕ) → IsNode (length m.supplies) u → IsNode (length m.supplies) v → out_of g u v ≡ into f u v
    turned_out is u v h k =
        ap (λ b. b && not (g v)) (same u h ∙ ap (λ b. turned_if b (f u)) is) ∙ ap (λ b. not (f u) && not b) (same v k ∙ ap (λ b. turned_if b (f v)) is)
        ∙ flipped (f v) (f u)

    turned_in : t ≡ true → (u v : ℕ) → IsNode (length m.supplies) u → IsNode (length m.supplies) v → into g u v ≡ out_of f u v
    turned_in is u v h k =
        ap (λ b. b && not (g u)) (same v k ∙ ap (λ b. turned_if b (f v)) is) ∙ ap (λ b. not (f v) && not b) (same u h ∙ ap (λ b. turned_if b (f u)) is)
        ∙ flipped (f u) (f v)

    kept_out : t ≡ false → (u v : ℕ) → IsNode (length m.supplies) u → IsNode (length m.supplies) v → out_of g u v ≡ out_of f u v
    kept_out is u v h k =
        ap (λ b. b && not (g v)) (same u h ∙ ap (λ b. turned_if b (f u)) is) ∙ ap (λ b. f u && not b) (same v k ∙ ap (λ b. turned_if b (f v)) is)

    kept_in : t ≡ false → (u v : ℕ) → IsNode (length m.supplies) u → IsNode (length m.supplies) v → into g u v ≡ into f u v
    kept_in is u v h k =
        ap (λ b. b && not (g u)) (same v k ∙ ap (λ b. turned_if b (f v)) is) ∙ ap (λ b. f v && not b) (same u h ∙ ap (λ b. turned_if b (f u)) is)

    pub told_bottleneck : (side : Side) → IsBottleneck m f side → IsBottleneck m g (side_told t side)
    told_bottleneck side h = go t refl side h
      where
        n : ℕ
        n = length m.supplies

        go : (b : Bool) → t ≡ b → (side : Side) → IsBottleneck m f side → IsBottleneck m g (side_told b side)
        go false is Send h =
            record {
              limited = limited_across (out_of g) m.routes limited;
              short = omega (
                arith,
                ints,
                h.short,
                same_most n (out_of f) (out_of g) (kept_out is) m.routes ends,
                same_least n (into f) (into g) (kept_in is) m.routes ends,
                no_supply f,
                no_supply g,
              );
            }
        go false is Take h =
            record {
              limited = limited_across (into g) m.routes limited;
              short = omega (
                arith,
                ints,
                h.short,
                same_most n (into f) (into g) (kept_in is) m.routes ends,
                same_least n (out_of f) (out_of g) (kept_out is) m.routes ends,
                no_supply f,
                no_supply g,
              );
            }
        go true is Send h =
            record {
              limited = limited_across (into g) m.routes limited;
              short = omega (
                arith,
                ints,
                h.short,
                same_most n (out_of f) (into g) (turned_in is) m.routes ends,
                same_least n (into f) (out_of g) (turned_out is) m.routes ends,
                no_supply f,
                no_supply g,
              );
            }
        go true is Take h =
            record {
              limited = limited_across (out_of g) m.routes limited;
              short = omega (
                arith,
                ints,
                h.short,
                same_most n (into f) (out_of g) (turned_out is) m.routes ends,
                same_least n (out_of f) (into g) (turned_in is) m.routes ends,
                no_supply f,
                no_supply g,
              );
            }
