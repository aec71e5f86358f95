use Rattle.std.proofs.Common.{arith, ◌∙◌}
use Rattle.mcf_matching.specs.Matchings.{column_of}
use Rattle.mcf_matching.proofs.Pairing.{end_out, row_out, unpaired_ok}
use Rattle.mcf_matching.proofs.Turns.{turning_node, turning_pair, turning_round, turning_single, turning_start, turns}
use Rattle.mcf_matching.proofs.search.Tables.turn.Goals as goal

pub path-init : goal.path-init
path-init g c = (let f = c.requires.forest in turning_start f.2 f.3 c.requires.free c.requires.mates)

pub join-requires-clause-free_row : goal.join-requires-clause-free_row
join-requires-clause-free_row g c = turning_single c.path.invariant c.row_mate-mate.ensures c.if-mate-eq0.true

pub join-requires-clause-free_column : goal.join-requires-clause-free_column
join-requires-clause-free_column g c = (let f = c.requires.forest in (turns f.2 f.3 c.path.invariant).free)

pub returns-then-mate-eq0-clause-extended : goal.returns-then-mate-eq0-clause-extended
returns-then-mate-eq0-clause-extended g c source z forest end =
    let single = turning_single c.path.invariant c.row_mate-mate.ensures c.if-mate-eq0.true in
    rw c.join.ensures.value ((turns forest end c.path.invariant).end single source z forest end)

pub returns-then-mate-eq0-clause-changed : goal.returns-then-mate-eq0-clause-changed
returns-then-mate-eq0-clause-changed g c =
    let f = c.requires.forest in
    let single = turning_single c.path.invariant c.row_mate-mate.ensures c.if-mate-eq0.true in
    rw c.join.ensures.value ((turns f.2 f.3 c.path.invariant).changed single)

pub part-requires-clause-pair : goal.part-requires-clause-pair
part-requires-clause-pair g c = rw c.new.ensures (turning_pair c.path.invariant c.row_mate-mate.ensures c.if-mate-eq0.false).0

pub join-requires-in-path-clause-matching : goal.join-requires-in-path-clause-matching
join-requires-in-path-clause-matching g c =
    let p = turning_pair c.path.invariant c.row_mate-mate.ensures c.if-mate-eq0.false in
    rw (c.part.ensures.value, c.new.ensures) (unpaired_ok c.path.state c.row_mate-mate.result.arc c.path.invariant.matching p.0).matching

pub join-requires-in-path-clause-free_row : goal.join-requires-in-path-clause-free_row
join-requires-in-path-clause-free_row g c =
    let p = turning_pair c.path.invariant c.row_mate-mate.ensures c.if-mate-eq0.false in
    rw (c.part.ensures.value, c.new.ensures) (row_out c.path.state c.row_mate-mate.result.arc _ c.path.invariant.matching p.0 p.1)

pub join-requires-in-path-clause-free_column : goal.join-requires-in-path-clause-free_column
join-requires-in-path-clause-free_column g c =
    let f = c.requires.forest in
    let p = turning_pair c.path.invariant c.row_mate-mate.ensures c.if-mate-eq0.false in
    let out = unpaired_ok c.path.state c.row_mate-mate.result.arc c.path.invariant.matching p.0 in
    rw (c.part.ensures.value, c.new.ensures) (λ m. (turns f.2 f.3 c.path.invariant).free (end_out (column_of c.path.state) out _ m))

pub overflow_sub-mate : goal.overflow_sub-mate
overflow_sub-mate g c = (turning_node c.path.invariant c.row_mate-mate.ensures c.if-mate-eq0.false).0

pub index-requires : goal.index-requires
index-requires g c =
    let node = turning_node c.path.invariant c.row_mate-mate.ensures c.if-mate-eq0.false in
    let count = c.requires.entries.predecessor_count in
    omega (arith, node, count)

pub path-smaller : goal.path-smaller
path-smaller g c =
    let f = c.requires.forest in
    (turning_round c.path.invariant c.row_mate-mate.ensures c.new.result c.new-arc.result _ f.2 f.3 c.requires.entries c.if-mate-eq0.false c.new.ensures
    c.part.ensures.value c.join-in-path.ensures.value c.join-in-path.ensures.mates (c.new-arc.ensures ∙ c.index.ensures)).1

pub path-preserved : goal.path-preserved
path-preserved g c =
    let f = c.requires.forest in
    (turning_round c.path.invariant c.row_mate-mate.ensures c.new.result c.new-arc.result _ f.2 f.3 c.requires.entries c.if-mate-eq0.false c.new.ensures
    c.part.ensures.value c.join-in-path.ensures.value c.join-in-path.ensures.mates (c.new-arc.ensures ∙ c.index.ensures)).0
