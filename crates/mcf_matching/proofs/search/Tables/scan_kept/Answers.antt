use Rattle.std.proofs.Common.{◌+◌, ◌∷◌, [], List, map, take, get_or, subst, arith}
use Rattle.std.proofs.lemmas.List.{take_all}
use Rattle.mcf_network.specs.declared.rid.Rid.{Rid}
use Rattle.mcf_matching.specs.Private.RowLists.{forward_of}
use Rattle.mcf_matching.specs.Private.Searches.{AreRelaxed, search_of}
use Rattle.mcf_matching.proofs.RowLists.{no_arc, part_next}
use Rattle.mcf_matching.proofs.Relaxing.{relaxed_after, row_kept}
use Rattle.mcf_matching.proofs.Rooms.{kept_after, kept_same, room_left}
use Rattle.mcf_matching.proofs.search.Tables.scan_kept.Goals as goal

pub arcs-init : goal.arcs-init
arcs-init g c =
    record {
      relaxed = λ source rest search. search;
      kept = kept_same c.args.self.now;
    }

pub relax-requires-clause-row : goal.relax-requires-clause-row
relax-requires-clause-row g c =
    row_kept c.args.scene.now.state.now _ c.args.scene.now.rows.now c.args.scene.now.prices.now c.args.scene.now.mates.now (search_of c.args.self.now)
    (search_of c.arcs.self) c.args.row.now c.arcs.invariant.kept.labels c.requires.row

pub relax-requires-clause-room : goal.relax-requires-clause-room
relax-requires-clause-room g c =
    let inside = c.arcs-test.true in
    room_left _ _ _ c.args.self.now c.arcs.self c.arcs.invariant.kept c.requires.room (omega (arith, inside))

pub relax-requires-clause-arc : goal.relax-requires-clause-arc
relax-requires-clause-arc g c = c.requires.arcs c.arcs.a-index no_arc c.arcs-test.true

pub arcs-preserved : goal.arcs-preserved
arcs-preserved g c =
    let s = c.args.scene.now.state.now in
    let y = c.args.scene.now.prices.now in
    let q = search_of c.args.self.now in
    let q' = search_of c.relax.new.self in
    let inv = c.arcs.invariant in
    let e = c.relax.ensures in
    let a = get_or c.args.list.now c.arcs.a-index no_arc in
    record {
      relaxed = subst (λ (l : List Rid). AreRelaxed s y q q' l) (part_next c.args.list.now c.arcs.a-index no_arc c.arcs-test.true)
          (relaxed_after s y q (search_of c.arcs.self) q' (map forward_of (take c.arcs.a-index c.args.list.now)) (forward_of a ∷ []) inv.relaxed e.relaxed);
      kept = kept_after c.arcs.a-index 1 (c.arcs.a-index + 1) c.args.self.now c.arcs.self c.relax.new.self inv.kept e.kept (omega arith);
    }

pub returns-clause-relaxed : goal.returns-clause-relaxed
returns-clause-relaxed g c =
    let all = take_all c.arcs.a-index c.args.list.now (let t = c.arcs-test.false in omega (arith, t)) in
    subst (λ l. AreRelaxed c.args.scene.now.state.now c.args.scene.now.prices.now (search_of c.args.self.now) (search_of c.arcs.self) (map forward_of l)) all
    c.arcs.invariant.relaxed
