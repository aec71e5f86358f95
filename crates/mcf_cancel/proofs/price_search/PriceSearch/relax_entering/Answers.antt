use Rattle.std.proofs.Common.{◌≡◌, arith, ap, ◌∙◌, rules}
use Rattle.std.proofs.lemmas.Int.{ints}
use Rattle.std.proofs.lemmas.List.Elements.{All-head, All-tail}
use Rattle.mcf_network.specs.Stars.{Leaves}
use Rattle.mcf_cancel.specs.Private.Labels.{Labels, node_depth}
use Rattle.mcf_cancel.specs.Private.Queues.{queued}
use Rattle.mcf_cancel.proofs.Relaxing.{entered_first, entered_leaves, entered_lowered, entered_kept}
use Rattle.mcf_cancel.proofs.price_search.PriceSearch.relax_entering.Goals as goal

pub entering-init : goal.entering-init
entering-init c =
    let l : Labels = record { flow = c.self.inside.state.now; prices = c.self.inside.prices.items; links = c.self.inside.links.items } in
    let net = c.net-net.ensures.value ∙ ap (λ (x : Labels). x.flow.net) c.self.view_is in
    let lists = rw (← c.into_iter-leaving-iterator.ensures.into_iter_gives) at c.leaving-leaving-items.ensures in
    record {
      can_next = tt;
      is_finite = tt;
      leaves = entered_leaves c.args.self.now c.args.w _ _ net lists;
      entering = entered_first l c.args.self.now c.args.fallen.now c.args.w _ _ c.self.view_is c.self.invariant c.requires.queue net lists;
    }

pub relax-requires-clause-floor : goal.relax-requires-clause-floor
relax-requires-clause-floor c v h =
    let deep = c.entering.invariant.entering.progress.floor node_depth c.requires.floor v h in
    omega (arith, ints, deep)

pub entering-preserved-in-Continue-1 : goal.entering-preserved-in-Continue-1
entering-preserved-in-Continue-1 c =
    let l : Labels = record { flow = c.self.inside.state.now; prices = c.self.inside.prices.items; links = c.self.inside.links.items } in
    let net = c.net-net.ensures.value ∙ ap (λ (x : Labels). x.flow.net) c.self.view_is in
    let steps = c.in-Some.ensures.steps in
    let leaves = rw steps at c.entering.invariant.leaves in
    let entering = rw steps at c.entering.invariant.entering in
    let value : c.insert.new.self ≡ queued c.entering.fallen c.route-from.result.0 = search rules in
    record {
      can_next = tt;
      is_finite = tt;
      leaves = All-tail (Leaves c.args.self.now.flow.net c.args.w) c.in-Some.leaving c.next.new.self leaves;
      entering = entered_lowered l c.args.self.now c.entering.self c.relax.new.self c.args.fallen.now c.entering.fallen c.insert.new.self c.args.w
          c.route-from.result.0 c.net-net.result.now c.in-Some.leaving c.next.new.self c.self.view_is c.self.invariant c.requires.node c.requires.table
          (All-head (Leaves c.args.self.now.flow.net c.args.w) c.in-Some.leaving c.next.new.self leaves) entering c.if-relax.ensures.relaxed net
          c.route-from.ensures.tail c.insert.ensures.valid value;
    }

pub entering-preserved : goal.entering-preserved
entering-preserved c =
    let steps = c.in-Some.ensures.steps in
    let leaves = rw steps at c.entering.invariant.leaves in
    let entering = rw steps at c.entering.invariant.entering in
    record {
      can_next = tt;
      is_finite = tt;
      leaves = All-tail (Leaves c.args.self.now.flow.net c.args.w) c.in-Some.leaving c.next.new.self leaves;
      entering = entered_kept c.args.self.now c.entering.self c.relax.new.self c.args.fallen.now c.entering.fallen c.args.w c.in-Some.leaving c.next.new.self
          entering c.if-relax.ensures.relaxed;
    }
