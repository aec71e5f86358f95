use Rattle.std.proofs.Common.{◌≡◌, ◌*◌, [], arith, rules, ap, subst, sym, ◌∙◌, length, refl, false}
use Rattle.std.proofs.lemmas.Bool.{true≢false}
use Rattle.std.proofs.lemmas.List.{length-replicate}
use Rattle.mcf_flows.specs.Network.{node_count}
use Rattle.mcf_network.specs.States.{Pseudoflow, IsPseudoflow}
use Rattle.mcf_network.specs.Walks.{HasRoom}
use Rattle.mcf_engine.specs.Respecting.{AreAtLeast, cost_limit}
use Rattle.mcf_cancel.specs.Private.Queues.{Waiting, no_queue}
use Rattle.mcf_cancel.proofs.Cycles.{height_falls}
use Rattle.mcf_engine.proofs.PriceFloors.{greatest_are_small}
use Rattle.mcf_cancel.proofs.Rounding.{floor_between, recovered_prices, round_falls}
use Rattle.mcf_cancel.proofs.recovered.lower_all.Goals as goal

pub round-requires-clause-floor : goal.round-requires-clause-floor
round-requires-clause-floor c =
    floor_between c.rounds.search c.args.state.now c.rounds.invariant.flow c.rounds.invariant.labelling c.rounds.invariant.floor

pub returns-then-is_empty-clause-none : goal.returns-then-is_empty-clause-none
returns-then-is_empty-clause-none c =
    let none : c.round.new.fallen.nodes ≡ [] = c.if-is_empty.ensures.value.0 refl in
    let flow = c.in_ok-round.ensures.progress.flow ∙ c.rounds.invariant.flow in
    let pseudoflow = subst IsPseudoflow flow c.in_ok-round.ensures.progress.valid.flow in
    let greatest = recovered_prices c.args.state.now c.rounds.search c.round.new.self _ c.round.new.fallen _ _ c.rounds.invariant.flow
    c.in_ok-round.ensures.progress c.in_ok-round.ensures.handled none refl in
    (greatest, greatest_are_small c.args.state.now _ pseudoflow greatest)

pub rounds-smaller : goal.rounds-smaller
rounds-smaller c =
    let inv = c.rounds.invariant in
    let progress = c.in_ok-round.ensures.progress in
    let same : c.round.new.self.flow ≡ c.args.state.now = progress.flow ∙ inv.flow in
    let now = progress.valid.count in
    let was = inv.labelling.count in
    let nodes = ap (λ (s : Pseudoflow). node_count s.net) progress.flow in
    let count : length c.round.new.self.prices ≡ length c.rounds.search.prices = omega (arith, now, was, nodes) in
    let floor' : AreAtLeast (cost_limit * node_count c.round.new.self.flow.net) c.round.new.self.prices = search rules in
    let floor = subst (λ (s : Pseudoflow). AreAtLeast (cost_limit * node_count s.net) c.round.new.self.prices) same floor' in
    let some : c.round.new.fallen.nodes ≡ [] → ⊥ = λ (e : c.round.new.fallen.nodes ≡ []). true≢false (sym (c.if-is_empty.ensures.value.1 e)) in
    height_falls _ _ _ count floor (round_falls c.rounds.search c.round.new.self _ c.round.new.fallen _ _ inv.empty progress some)

pub rounds-preserved : goal.rounds-preserved
rounds-preserved c =
    let inv = c.rounds.invariant in
    let progress = c.in_ok-round.ensures.progress in
    let same : c.round.new.self.flow ≡ c.args.state.now = progress.flow ∙ inv.flow in
    let floor' : AreAtLeast (cost_limit * node_count c.round.new.self.flow.net) c.round.new.self.prices = search rules in
    let floor = subst (λ (s : Pseudoflow). AreAtLeast (cost_limit * node_count s.net) c.round.new.self.prices) same floor' in
    let waiting = c.swap.ensures.x_after in
    let fallen = c.swap.ensures.y_after in
    let empty = ap (λ (x : Waiting). length x.table) inv.empty in
    record {
      flow = same;
      labelling = progress.valid;
      floor = floor;
      valid = rw waiting progress.queue;
      table = rw waiting (progress.table ∙ empty ∙ length-replicate (node_count c.args.state.now.net) false);
      empty = rw (c.clear.ensures.value, fallen) (ap no_queue inv.table);
      queue = c.clear.ensures.valid;
      handled = rw waiting (λ r room. c.in_ok-round.ensures.handled r (subst (λ s. HasRoom s r) progress.flow room));
    }
