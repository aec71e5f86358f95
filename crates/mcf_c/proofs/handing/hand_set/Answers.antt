use Rattle.std.proofs.Common.{◌≡◌, ◌∙◌, ap, length, map, subst, sym, List, ℕ, ℤ}
use Rattle.std.proofs.lemmas.List.{length-map}
use Rattle.mcf_c.specs.Handing.{mark_of}
use Rattle.mcf_c.specs.Verdicts.{TellsSet}
use Rattle.mcf_flows.specs.Blocking.{in_list}
use Rattle.mcf_flows.specs.Network.{IsNode, at_node, node_count}
use Rattle.mcf_c.proofs.Marks.{mark_is}
use Rattle.mcf_c.proofs.handing.hand_set.Goals as goal

pub returns-clause-set : goal.returns-clause-set
returns-clause-set c = λ _.
    let g = c.args.instance.now in
    let a = c.answer.inside in
    let table = c.in-Ok.table.items in
    let count = c.node_count.ensures.value in
    let long : length table ≡ node_count g = c.in-Ok.ensures.one_per_node ∙ count in
    let marks : c.put_marks.new.marks ≡ map mark_of table = c.put_marks.ensures ∙ ap (map mark_of) c.deref.ensures.value in
    record {
      set = record { side = a.side; nodes = a.nodes };
      fits = c.answer.invariant;
      owed = rw (← c.answer.view_is) at c.requires.blocks;
      one_per_node = ap length marks ∙ length-map table mark_of ∙ long;
      marked = λ v node. ap (λ (ms : List ℤ). at_node ms v) marks ∙ mark_is table a.nodes v (subst (λ n. IsNode n v) (sym long) node)
          (c.in-Ok.ensures.marks v (subst (λ n. IsNode n v) (sym count) node) ∙ ap (λ ns. in_list ns v) c.as_slice-nodes.ensures);
      tells = subst (λ (ns : List ℕ). TellsSet a.side (length ns) c.set_numbers.result) c.as_slice-nodes.ensures c.set_numbers.ensures;
    }
