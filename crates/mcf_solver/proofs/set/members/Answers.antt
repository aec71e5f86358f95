use Rattle.std.proofs.Common.{◌+◌, sym, subst, ◌∙◌, rules}
use Rattle.mcf_solver.proofs.MemberLists.{AreMembersUpTo, member_listed, member_skipped}
use Rattle.mcf_solver.proofs.set.members.Goals as goal
use Rattle.mcf_solver.proofs.set.members.Goals.{then-contains+in_ok-push, else-contains}

pub loop-i-preserved : goal.loop-i-preserved
loop-i-preserved c =
    elim c.if-contains.branch [
      | then-contains+in_ok-push w ↦
          subst (λ list. AreMembersUpTo c.args.set.now (c.loop-i.i + 1) list.items) (sym w.list-is)
          (member_listed c.args.set.now c.loop-i.i c.new-v.result c.new-v.ensures c.loop-i.list.items c.loop-i.invariant w.push.new.self.items
          (sym c.contains.ensures ∙ w.if-contains.true) (search rules))
      | else-contains w ↦
          subst (λ list. AreMembersUpTo c.args.set.now (c.loop-i.i + 1) list.items) (sym w.list-is)
          (member_skipped c.args.set.now c.loop-i.i c.new-v.result c.new-v.ensures c.loop-i.list.items c.loop-i.invariant
          (sym c.contains.ensures ∙ w.if-contains.false))
    ]
