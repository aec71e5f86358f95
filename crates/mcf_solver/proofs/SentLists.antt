-- The cost and the flow lines of an answer, as loops over the arcs make them.
use Rattle.std.proofs.Common.{◌≡◌, ℕ, ◌+◌, ◌-◌, ◌^◌, ◌≤◌, ◌<◌, List, [], ◌∷◌, ◌++◌, length, map, take, get_or, Some, sym, ap, subst, ◌∙◌, arith, ℤ, pos}
use Rattle.std.specs.Prelude.{slice_get}
use Rattle.std.specs.List.{All}
use Rattle.std.proofs.lemmas.Int.{ints}
use Rattle.std.proofs.lemmas.List.{get_or-map, length-map, map_push, take_more}
use Rattle.std.proofs.lemmas.List.Elements.{All-push}
use Rattle.std.proofs.lemmas.Option.{get_or_from_slice_get}
use Rattle.mcf_answer.specs.Ranges.{IsAmount}
use Rattle.mcf_answer.specs.Solution.{IsSent}
use Rattle.mcf_answer.specs.declared.answers.Sent.{Sent}
use Rattle.mcf_checker.specs.Correct.{amounts, arc_ends, sent_ends}
use Rattle.mcf_flows.specs.declared.arc.Arc.{Arc}
use Rattle.mcf_flows.specs.Flow.{IsWithinBounds, CanCarry, cost}
use Rattle.mcf_flows.specs.Limits.{limits, total_limit}
use Rattle.mcf_flows.specs.Network.{Network, node_count}
use Rattle.mcf_flows.specs.WellFormed.{HasEnds, IsUpTo, IsWellFormed}
use Rattle.mcf_flows.proofs.AllZips.{AllZip-at, length-AllZip}
use Rattle.mcf_flows.proofs.Bounds.{CostStep, IsPlaced, cost_part_up_to, cost_step, each_placed, flow_up_to}

-- the lines of the first arcs
pub record IsSentUpTo (g : Network) (flow : List ℤ) (i : ℕ) (sent : List Sent) : Type 0 where
  pub ends : sent_ends sent ≡ take i (arc_ends g)
  pub carried : amounts sent ≡ take i flow
  pub fit : All IsSent sent

-- the cost and the lines of the first arcs
pub record IsCarriedUpTo (g : Network) (flow : List ℤ) (i : ℕ) (total : ℤ) (sent : List Sent) : Type 0 where
  pub cost_is : total ≡ cost (take i g.arcs) flow
  pub ends : sent_ends sent ≡ take i (arc_ends g)
  pub carried : amounts sent ≡ take i flow
  pub fit : All IsSent sent

pub lines_of : (g : Network) (flow : List ℤ) (i : ℕ) (total : ℤ) (sent : List Sent) → IsCarriedUpTo g flow i total sent → IsSentUpTo g flow i sent
lines_of g flow i total sent so_far = record { ends = so_far.ends; carried = so_far.carried; fit = so_far.fit }

-- what the first arcs cost is an amount
pub carried_small : (g : Network) (flow : List ℤ) (i : ℕ) (total : ℤ) → IsWellFormed limits g → IsWithinBounds g.arcs flow → total ≡ cost (take i g.arcs) flow
    → IsAmount total
carried_small g flow i total ok bounds is =
    let small : IsUpTo total_limit (cost (take i g.arcs) flow) = cost_part_up_to g.arcs flow i total_limit ok.within.total bounds in
    omega (arith, ints, small, is)

-- what is read of a list that grows by one, where it is the beginning of another
map_next : {X Y : Type 0} (f : X → Y) (before after : List X) (x : X) (ys : List Y) (i : ℕ) (d : Y) → i < length ys → map f before ≡ take i ys →
    after ≡ before ++ x ∷ [] → f x ≡ get_or ys i d → map f after ≡ take (i + 1) ys
map_next f before after x ys i d h so_far e here =
    ap (map f) e
    ∙ map_push f before x
    ∙ ap (λ zs. zs ++ f x ∷ []) so_far
    ∙ ap (λ y. take i ys ++ y ∷ []) here
    ∙ sym (take_more ys i d h)

-- the arc of number k, which is at place i, and what it carries
module _ (g : Network) (flow : List ℤ) (i k : ℕ) (a : Arc) (ok : IsWellFormed limits g) (bounds : IsWithinBounds g.arcs flow) (h : i < length g.arcs)
    (number : k ≡ i + 1) (read : slice_get g.arcs (k - 1) ≡ Some a) where
  -- as the list has it
  pub arc_is : get_or g.arcs i a ≡ a
  arc_is =
      let back : k - 1 ≡ i = omega (arith, number) in
      get_or_from_slice_get g.arcs i a a (subst (λ j. slice_get g.arcs j ≡ Some a) back read)

  pub in_flow : i < length flow
  in_flow = omega (arith, h, length-AllZip CanCarry g.arcs flow bounds)

  -- what a loop that adds up the cost needs
  pub cost_at : CostStep g.arcs flow i a (get_or flow i (pos 0))
  cost_at =
      subst (λ (b : Arc). CostStep g.arcs flow i b (get_or flow i (pos 0))) arc_is (cost_step g.arcs flow i a (pos 0) ok.within.arcs ok.within.total bounds h)

  flow_small : IsAmount (get_or flow i (pos 0))
  flow_small =
      let placed = AllZip-at IsPlaced g.arcs flow i a (pos 0) (each_placed g.arcs flow ok.within.arcs bounds) h in
      let small : IsUpTo (10 ^ 18) (get_or flow i (pos 0)) = flow_up_to (get_or g.arcs i a) (get_or flow i (pos 0)) placed in
      omega (arith, ints, small)

  line_fits : (s : Sent) → s.src ≡ a.src → s.dst ≡ a.dst → s.flow ≡ get_or flow i (pos 0) → IsSent s
  line_fits s src dst carries =
      let ends : HasEnds (node_count g) a = subst (HasEnds (node_count g)) arc_is (ok.ends i a h) in
      let nodes = ok.nodes in
      record {
        src_is_node = omega (arith, ends.src_is_node, src, nodes);
        dst_is_node = omega (arith, ends.dst_is_node, dst, nodes);
        flow_small = subst IsAmount (sym carries) flow_small;
      }

  -- one line more
  pub sent_more : (s : Sent) (before after : List Sent) → s.src ≡ a.src → s.dst ≡ a.dst → s.flow ≡ get_or flow i (pos 0) → IsSentUpTo g flow i before →
      after ≡ before ++ s ∷ [] → IsSentUpTo g flow (i + 1) after
  sent_more s before after src dst carries so_far e =
      let end : Arc → ℕ × ℕ = λ b. (b.src, b.dst) in
      let within : i < length (arc_ends g) = omega (arith, h, length-map g.arcs end) in
      let at : get_or (arc_ends g) i (a.src, a.dst) ≡ (a.src, a.dst) = get_or-map end g.arcs i a (a.src, a.dst) h ∙ ap end arc_is in
      let is : (s.src, s.dst) ≡ (a.src, a.dst) = ap (λ (v : ℕ). (v, s.dst)) src ∙ ap (λ (v : ℕ). (a.src, v)) dst in
      record {
        ends = map_next (λ (t : Sent). (t.src, t.dst)) before after s (arc_ends g) i (a.src, a.dst) within so_far.ends e (is ∙ sym at);
        carried = map_next (λ (t : Sent). t.flow) before after s flow i (pos 0) in_flow so_far.carried e carries;
        fit = subst (All IsSent) (sym e) (All-push IsSent before s so_far.fit (line_fits s src dst carries));
      }

-- after the last arc there is no more flow
pub flow_done : (g : Network) (flow : List ℤ) (i : ℕ) → IsWithinBounds g.arcs flow → length g.arcs ≤ i → length flow ≤ i
flow_done g flow i bounds h = omega (arith, h, length-AllZip CanCarry g.arcs flow bounds)
