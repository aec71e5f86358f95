use Rattle.std.proofs.Common.{◌≡◌, ◌-◌, ◌∙◌, [], ap, arith, map, refl, rules, to_z, of_z}
use mir.Syntax.{w128}
use Rattle.std.proofs.lemmas.Int.{to_z-of_z}
use Rattle.mcf_flows.specs.Network.{node_count}
use Rattle.mcf_engine.specs.declared.shortlist.ChainEntry.{ChainEntry}
use Rattle.mcf_engine.specs.Private.Shortlists.{out_of}
use Rattle.mcf_engine.proofs.ChainScans.{IsNext, chain_end, next_entry}
use Rattle.mcf_engine.proofs.RaisingSteps.{base_kept, keeps_join, last_kept}
use Rattle.mcf_engine.proofs.near_state.NearState.scan_chain.Goals as goal

pub entries-init : goal.entries-init
entries-init c =
    record {
      chain = c.requires.chains;
      search = c.requires.search;
      last = c.requires.last;
      kept = record { waiting = refl; keys = λ v n e. refl };
    }

pub entry_before-entry-requires-clause-high : goal.entry_before-entry-requires-clause-high
entry_before-entry-requires-clause-high c = c.entries.invariant.chain.low

-- the entry before the cursor
entry : (c : goal.After-relax-arg-1)
    → IsNext c.args.self.now c.entries.heap c.args.entries.now c.args.w c.entry_before-entry.result.next
    (to_z w128 (of_z w128 c.args.base)) (record { arc = c.new-arc.result; back = c.entry_before-entry.result.back })
entry c =
    let inv = c.entries.invariant in
    let b : to_z w128 (of_z w128 c.args.base) ≡ c.args.base = search (rules, to_z-of_z) in
    let some = c.entries-test.true in
    next_entry c.args.self.now c.entries.heap c.args.entries.now c.args.w c.entries.cursor
    (to_z w128 (of_z w128 c.args.base)) c.entry_before-entry.result c.new-arc.result inv.chain (omega (arith, some)) inv.search inv.last
    (base_kept c.args.self.now.prices.now c.args.heap.now c.entries.heap (node_count c.args.self.now.state.now.net) c.args.w _ (b ∙ c.requires.base) c.requires.last inv.kept)
    c.entry_before-entry.ensures c.new-arc.ensures

pub relax-requires-clause-arc : goal.relax-requires-clause-arc
relax-requires-clause-arc c = (entry c).arc

pub relax-requires-clause-last : goal.relax-requires-clause-last
relax-requires-clause-last c = (entry c).last

pub relax-requires-clause-base : goal.relax-requires-clause-base
relax-requires-clause-base c = (entry c).base_is

pub relax-requires-clause-search : goal.relax-requires-clause-search
relax-requires-clause-search c = (
  map out_of c.args.entries.now,
  (entry c).all,
)

-- the same after it was relaxed
entry_relaxed : (c : goal.After-relax)
    → IsNext c.args.self.now c.entries.heap c.args.entries.now c.args.w c.entry_before-entry.result.next
    (to_z w128 (of_z w128 c.args.base)) (record { arc = c.new-arc.result; back = c.entry_before-entry.result.back })
entry_relaxed c =
    let inv = c.entries.invariant in
    let b : to_z w128 (of_z w128 c.args.base) ≡ c.args.base = search (rules, to_z-of_z) in
    let some = c.entries-test.true in
    next_entry c.args.self.now c.entries.heap c.args.entries.now c.args.w c.entries.cursor
    (to_z w128 (of_z w128 c.args.base)) c.entry_before-entry.result c.new-arc.result inv.chain (omega (arith, some)) inv.search inv.last
    (base_kept c.args.self.now.prices.now c.args.heap.now c.entries.heap (node_count c.args.self.now.state.now.net) c.args.w _ (b ∙ c.requires.base) c.requires.last inv.kept)
    c.entry_before-entry.ensures c.new-arc.ensures

pub entries-preserved : goal.entries-preserved
entries-preserved c =
    let nodes = node_count c.args.self.now.state.now.net in
    let inv = c.entries.invariant in
    let here = entry_relaxed c in
    record {
      chain = here.chain;
      search = λ rest has. c.relax.ensures.search rest (here.search rest has);
      last = last_kept nodes c.entries.heap c.relax.new.heap c.args.w c.relax.ensures.keeps inv.last;
      kept = keeps_join nodes c.args.heap.now c.entries.heap c.relax.new.heap inv.kept c.relax.ensures.keeps;
    }

pub entries-smaller : goal.entries-smaller
entries-smaller c =
    let some = c.entries-test.true in
    let low = c.entries.invariant.chain.low in
    let less = (c.entries.invariant.chain.next (c.entries.cursor - 1) (omega (arith, some, low))).low in
    let is = ap (λ (e : ChainEntry). e.next) c.entry_before-entry.ensures in
    omega (arith, some, less, is)

-- the same before its last entry is relaxed
entry_last : (c : goal.After-relax_last-arg-1)
    → IsNext c.args.self.now c.entries.heap c.args.entries.now c.args.w c.entry_before-entry.result.next
    (to_z w128 (of_z w128 c.args.base)) (record { arc = c.new-arc.result; back = c.entry_before-entry.result.back })
entry_last c =
    let inv = c.entries.invariant in
    let b : to_z w128 (of_z w128 c.args.base) ≡ c.args.base = search (rules, to_z-of_z) in
    let some = c.entries-test.true in
    next_entry c.args.self.now c.entries.heap c.args.entries.now c.args.w c.entries.cursor
    (to_z w128 (of_z w128 c.args.base)) c.entry_before-entry.result c.new-arc.result inv.chain (omega (arith, some)) inv.search inv.last
    (base_kept c.args.self.now.prices.now c.args.heap.now c.entries.heap (node_count c.args.self.now.state.now.net) c.args.w _ (b ∙ c.requires.base) c.requires.last inv.kept)
    c.entry_before-entry.ensures c.new-arc.ensures

pub relax_last-requires-clause-search : goal.relax_last-requires-clause-search
relax_last-requires-clause-search c =
    (entry_last c).search [] (chain_end c.args.self.now.state.now.net c.args.entries.now c.args.w c.entry_before-entry.result.next [] c.if-entry-eq0.true)

pub returns-clause-none : goal.returns-clause-none
returns-clause-none c =
    let past = c.entries-test.false in
    let inv = c.entries.invariant in
    record {
      search = inv.search [] (chain_end c.args.self.now.state.now.net c.args.entries.now c.args.w c.entries.cursor [] (omega (arith, past)));
      waiting = inv.kept.waiting;
    }
