use Rattle.std.proofs.Common.{◌∙◌, ap, arith, sym, pos, ◌≤ℤ◌}
use Rattle.std.specs.Prelude.{◌<ℤ◌}
use Rattle.std.proofs.lemmas.Int.{ints}
use Rattle.mcf_flows.specs.Blocking.{in_table}
use Rattle.mcf_network.specs.States.{surplus_at}
use Rattle.mcf_feas.proofs.Searches.{scanning_closed, scanning_end, scanning_found, scanning_marked, scanning_push, search_room}
use Rattle.mcf_feas.proofs.path_search.PathSearch.scan.Goals as goal

pub loop-along-preserved-in_default : goal.loop-along-preserved-in_default
loop-along-preserved-in_default c =
    let old = c.loop-along in
    let at = rw c.in-Some.ensures.steps at old.invariant.scanning in
    let none = rw c.in_default.is at c.open_end.ensures.closed in
    record {
      can_next = tt;
      is_finite = tt;
      room = old.invariant.room;
      scanning = scanning_closed c.args.state.now old.self.reached old.self.visits.items c.args.place c.in-Some.along c.next.new.self at none;
    }

pub loop-along-preserved-then-contains : goal.loop-along-preserved-then-contains
loop-along-preserved-then-contains c =
    let old = c.loop-along in
    let at = rw c.in-Some.ensures.steps at old.invariant.scanning in
    let end = c.in-Some-open_end.ensures.open in
    let marked = ap (in_table old.self.reached) end.end ∙ sym c.contains.ensures ∙ c.if-contains.true in
    record {
      can_next = tt;
      is_finite = tt;
      room = old.invariant.room;
      scanning = scanning_marked c.args.state.now old.self.reached old.self.visits.items c.args.place c.in-Some.along c.next.new.self at marked;
    }

pub visit-requires-clause-room : goal.visit-requires-clause-room
visit-requires-clause-room c =
    let old = c.loop-along in
    let at = rw c.in-Some.ensures.steps at old.invariant.scanning in
    let new = sym c.contains.ensures ∙ c.if-contains.false in
    let few = search_room c.args.state.now old.self.reached old.self.visits.items c.in-Some-open_end.to at.scanned.search
    c.in-Some-open_end.ensures.open.is_node new in
    omega (arith, few, old.invariant.room)

pub returns-then-surplus-lt0-clause-found : goal.returns-then-surplus-lt0-clause-found
returns-then-surplus-lt0-clause-found c =
    let s = c.args.state.now in
    let old = c.loop-along in
    let at = rw c.in-Some.ensures.steps at old.invariant.scanning in
    let end = c.in-Some-open_end.ensures.open in
    let to = c.in-Some-open_end.to in
    let new = sym c.contains.ensures ∙ c.if-contains.false in
    let surplus = c.surplus.ensures in
    let low : surplus_at s to <ℤ pos 0 = omega (arith, ints, surplus.value, surplus.small, c.if-surplus-lt0.true) in
    rw c.visit.ensures.visits (scanning_found s old.self.reached old.self.visits.items c.args.place c.in-Some.along c.next.new.self at to
    c.predecessor_along.result end.room end.end c.predecessor_along.ensures end.is_node new low)

pub loop-along-preserved : goal.loop-along-preserved
loop-along-preserved c =
    let s = c.args.state.now in
    let old = c.loop-along in
    let at = rw c.in-Some.ensures.steps at old.invariant.scanning in
    let end = c.in-Some-open_end.ensures.open in
    let to = c.in-Some-open_end.to in
    let new = sym c.contains.ensures ∙ c.if-contains.false in
    let surplus = c.surplus.ensures in
    let high : pos 0 ≤ℤ surplus_at s to = omega (arith, ints, surplus.value, surplus.small, c.if-surplus-lt0.false) in
    rw (c.visit.ensures.reached, c.visit.ensures.visits, c.visit.ensures.room) (record {
      can_next = tt;
      is_finite = tt;
      room = old.invariant.room;
      scanning = scanning_push s old.self.reached old.self.visits.items c.args.place c.in-Some.along c.next.new.self at to
          c.predecessor_along.result end.room end.end
          c.predecessor_along.ensures end.is_node new high;
    })

pub returns-clause-found : goal.returns-clause-found
returns-clause-found c =
    let old = c.loop-along in
    scanning_end c.args.state.now old.self.reached old.self.visits.items c.args.place (rw c.in-None.ensures.steps.0 at old.invariant.scanning)
