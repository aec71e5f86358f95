use Rattle.std.proofs.Common.{◌≡◌, ◌+◌, ◌-◌, ◌<◌, ◌≤◌, ◌∙◌, arith, length, pos, rules, sym, to_z, of_z, inl, inr}
use mir.Syntax.{w128}
use Rattle.std.proofs.lemmas.Bool.{cases_eq, false≢true}
use Rattle.std.proofs.lemmas.Int.{to_z-of_z}
use Rattle.mcf_flows.specs.Network.{node_count}
use Rattle.mcf_network.proofs.Lists.{take_next}
use Rattle.mcf_network.proofs.removal.supplies_of.Goals as goal

pub returns-in_err-supplies-clause-wants : goal.returns-in_err-supplies-clause-wants
returns-in_err-supplies-clause-wants c =
    let some : 1 ≤ node_count c.args.instance.now = elim (cases_eq (node_count c.args.instance.now) 0) [
      | inl e ↦ absurd (false≢true (c.in_err-supplies.ensures.succeeds (c.node_count-count.ensures.value ∙ e)))
      | inr n ↦ omega arith
    ] in
    search rules

pub loop-i-preserved : goal.loop-i-preserved
loop-i-preserved c =
    let xs = c.args.instance.now.supplies in
    let back : c.loop-i.i + 1 - 1 ≡ c.loop-i.i = omega arith in
    let h : c.loop-i.i < length xs = omega (arith, c.loop-i-test.true, c.node_count-count.ensures.value) in
    let given : to_z w128 (of_z w128 c.supply.result) ≡ c.supply.result = search (rules, to_z-of_z) in
    let read = rw (c.at.ensures, back) at c.supply.ensures.value in
    take_next xs c.loop-i.i (to_z w128 (of_z w128 c.supply.result)) (pos 0) c.loop-i.supplies.items c.push.new.self.items c.loop-i.invariant h
    (sym (given ∙ read)) (search rules)
