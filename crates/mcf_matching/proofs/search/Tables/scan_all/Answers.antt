use Rattle.std.proofs.Common.{arith, ℕ, [], ◌∷◌, ◌≡◌, subst, sym}
use Rattle.mcf_flows.specs.Network.{IsArcNumber, Network}
use Rattle.mcf_network.specs.Residual.{arc_at}
use Rattle.mcf_network.specs.Stars.{ListsLeaving}
use Rattle.mcf_matching.specs.Private.Labels.{Row}
use Rattle.mcf_matching.specs.Private.RowLists.{IsRowArc}
use Rattle.mcf_matching.specs.Private.Searches.{AreRelaxed, forward, search_of}
use Rattle.mcf_matching.proofs.Relaxing.{row_kept, scan_end, scan_few, scan_kept, scan_more, scan_out, scan_start}
use Rattle.mcf_matching.proofs.Rooms.{room_left}
use Rattle.mcf_matching.proofs.search.Tables.scan_all.Goals as goal

pub arcs-init : goal.arcs-init
arcs-init g c =
    let lists = rw (← c.into_iter-leaving-iterator.ensures.into_iter_gives) at c.leaving-leaving-items.ensures in
    record {
      can_next = tt;
      is_finite = tt;
      scanned = scan_start c.args.scene.now.state.now c.args.scene.now.prices.now c.args.self.now c.args.row.now.id
          c.into_iter-leaving-iterator.result c.requires.row.scene.matching c.requires.row.is_row
          (subst (λ (r : Row). ListsLeaving c.args.scene.now.state.now.net r.id c.into_iter-leaving-iterator.result) c.row.view_is
          (subst (λ (g : Network). ListsLeaving g c.row.inside.id c.into_iter-leaving-iterator.result) c.net.ensures.value lists));
    }

pub arcs-preserved : goal.arcs-preserved
arcs-preserved g c =
    let s = c.args.scene.now.state.now in
    let y = c.args.scene.now.prices.now in
    let relaxed = subst (λ k. AreRelaxed s y (search_of c.arcs.self) (search_of c.relax.new.self) (forward k ∷ [])) c.row_arc-a.ensures.number c.relax.ensures.relaxed in
    record {
      can_next = tt;
      is_finite = tt;
      scanned = scan_more (rw c.in-Some.ensures.steps at c.arcs.invariant.scanned) c.relax.new.self relaxed c.relax.ensures.kept;
    }

pub returns-clause-relaxed : goal.returns-clause-relaxed
returns-clause-relaxed g c =
    scan_end c.args.scene.now.state.now c.args.scene.now.prices.now c.args.self.now c.arcs.self c.args.row.now.id
    (rw c.in-None.ensures.steps.0 at c.arcs.invariant.scanned)

pub returns-clause-kept : goal.returns-clause-kept
returns-clause-kept g c =
    scan_kept c.args.scene.now.state.now c.args.scene.now.prices.now c.args.self.now c.arcs.self c.args.row.now.id c.arcs.leaving-iterator
    c.arcs.invariant.scanned

pub relax-requires-clause-room : goal.relax-requires-clause-room
relax-requires-clause-room g c =
    let scanned = rw c.in-Some.ensures.steps at c.arcs.invariant.scanned in
    let few = scan_few scanned in
    room_left _ _ _ c.args.self.now c.arcs.self scanned.kept c.requires.room (omega (arith, few))

pub relax-requires-clause-row : goal.relax-requires-clause-row
relax-requires-clause-row g c =
    row_kept c.args.scene.now.state.now _ c.args.scene.now.rows.now c.args.scene.now.prices.now c.args.scene.now.mates.now (search_of c.args.self.now)
    (search_of c.arcs.self) c.args.row.now c.arcs.invariant.scanned.kept.labels c.requires.row

pub relax-requires-clause-arc : goal.relax-requires-clause-arc
relax-requires-clause-arc g c =
    let is = subst (λ (g : Network). (v : ℕ) → (arc_at g c.in-Some.leaving.arc).src ≡ v → IsRowArc g v c.row_arc-a.result) c.net-in-arcs.ensures.value
    c.row_arc-a.ensures.value in
    is c.args.row.now.id (scan_out (rw c.in-Some.ensures.steps at c.arcs.invariant.scanned)).from

pub row_arc-a-requires : goal.row_arc-a-requires
row_arc-a-requires g c =
    let out = scan_out (rw c.in-Some.ensures.steps at c.arcs.invariant.scanned) in
    subst (λ (g : Network). IsArcNumber g c.in-Some.leaving.arc) (sym c.net-in-arcs.ensures.value) out.arc
