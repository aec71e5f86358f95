-- Arcs of an assignment that carry nothing: they carry their low, and cost nothing.
use Rattle.std.proofs.Common.{◌≡◌, ◌≢◌, ℕ, ◌+◌, ◌<◌, cond, sym, subst, ◌∙◌, ap, arith, List, [], ◌++◌, get_or, length, None, Some, ℤ, pos, ◌*ℤ◌}
use Rattle.std.specs.List.{cons_option}
use Rattle.std.specs.Ordering.{int_eq}
use Rattle.std.proofs.lemmas.Int.{ints}
use Rattle.std.proofs.lemmas.List.{append-nil, get_or_default}
use Rattle.mcf_flows.specs.Assignment.{IsAssignment, IsPairing, OnAssignment}
use Rattle.mcf_flows.specs.declared.arc.Arc.{Arc}
use Rattle.mcf_flows.specs.declared.problem.Problem.TheVariants.{Asn}
use Rattle.mcf_flows.specs.Flow.{IsWithinBounds}
use Rattle.mcf_flows.specs.Limits.{limits}
use Rattle.mcf_flows.specs.Network.{Network, at_node}
use Rattle.mcf_flows.specs.WellFormed.{IsWellFormed}
use Rattle.mcf_flows.proofs.Bounds.{cost_step}
use Rattle.mcf_network.specs.Residual.{no_arc}
use Rattle.mcf_network.specs.Restoring.{restored}
use Rattle.mcf_network.proofs.RestoringLaws.{get_or-restored, length-restored, restored_plain}
use Rattle.mcf_solver.specs.Forms.{moved_arc}
use Rattle.mcf_solver.proofs.MovedLists.{IsStatedUpTo, moved_more}

module _ (g : Network) (amounts : List ℤ) (i : ℕ) (ok : IsWellFormed limits g) (assignment : g.problem ≡ Asn)
    (count : length g.arcs ≡ length amounts) (h : i < length g.arcs) (idle : get_or amounts i (pos 0) ≡ pos 0) where
  abbrev arc : Arc
  arc = get_or g.arcs i no_arc

  pairs : IsPairing g.supplies arc
  pairs = (subst (λ p. OnAssignment p (IsAssignment g)) assignment ok.assignment).each_arc i no_arc h

  no_loop : arc.src ≢ arc.dst
  no_loop e =
      let from = pairs.from_row in
      let to = pairs.to_column in
      let same = ap (at_node g.supplies) e in
      omega (arith, ints, from, to, same)

  carries : get_or (restored g.arcs amounts) i (pos 0) ≡ pos 0
  carries =
      let is = get_or-restored g.arcs amounts i h count ∙ restored_plain arc (get_or amounts i (pos 0)) no_loop in
      let low = pairs.low_is in
      omega (arith, ints, is, low, idle)

  -- one such arc more
  pub idle_more : (total : ℤ) (moved : List (ℕ × ℤ)) → IsWithinBounds g.arcs (restored g.arcs amounts)
      → IsStatedUpTo g (restored g.arcs amounts) i total moved → IsStatedUpTo g (restored g.arcs amounts) (i + 1) total moved
  idle_more total moved bounds so_far =
      let flow = restored g.arcs amounts in
      let step = (cost_step g.arcs flow i no_arc (pos 0) ok.within.arcs ok.within.total bounds h).next in
      let none = ap (λ (z : ℤ). arc.cost *ℤ z) carries in
      let same = so_far.cost_is in
      let within : i < length flow = omega (arith, h, length-restored g.arcs amounts count) in
      let empty : moved ≡ moved ++ cons_option (moved_arc (i + 1, (arc, pos 0))) [] =
      subst (λ (l : ℤ). moved ≡ moved ++ cons_option (cond (int_eq (pos 0) l) None (Some (i + 1, pos 0))) []) (sym pairs.low_is) (sym (append-nil moved)) in
      record {
        cost_is = omega (arith, ints, step, none, same);
        lines = moved_more g.arcs flow i arc (pos 0) moved moved h within (get_or_default g.arcs i arc no_arc h) carries so_far.lines empty;
      }
