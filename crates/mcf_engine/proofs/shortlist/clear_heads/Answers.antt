use Rattle.std.proofs.Common.{◌<◌, ◌∙◌, length, arith, inl, inr, length-set}
use Rattle.std.proofs.lemmas.Bool.{cases_eq}
use Rattle.std.proofs.lemmas.Grind.{get_or-set_at}
use Rattle.std.proofs.lemmas.List.{get_or-set_other}
use Rattle.mcf_engine.proofs.shortlist.clear_heads.Goals as goal

pub nodes-preserved : goal.nodes-preserved
nodes-preserved c =
    let heads = c.nodes.heads.items in
    let count = c.nodes.invariant.count in
    let end = c.len-i-end.ensures in
    let inside = c.nodes-test.true in
    let place : c.nodes.i < length heads = search arith in
    record {
      count = length-set heads c.nodes.i 0 ∙ c.nodes.invariant.count;
      zero = λ i l. elim (cases_eq i c.nodes.i) [
        | inl e ↦ get_or-set_at heads c.nodes.i i 0 0 e place
        | inr other ↦ get_or-set_other heads c.nodes.i i 0 0 other ∙ c.nodes.invariant.zero i (omega (arith, l, other))
      ];
    }

pub returns-clause-zero : goal.returns-clause-zero
returns-clause-zero c i l =
    let past = c.nodes-test.false in
    let here : i < c.nodes.i = search arith in
    c.nodes.invariant.zero i here
