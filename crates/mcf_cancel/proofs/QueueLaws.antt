-- What a queue keeps when a node is put into it.
use Rattle.std.proofs.Common.{◌≡◌, ℕ, ◌+◌, ◌-◌, Bool, true, false, [], ◌∷◌, ◌++◌, length, refl, sym, ◌∙◌, arith, inl, inr, length-set, subst}
use Rattle.std.specs.List.{Contains}
use Rattle.std.proofs.lemmas.Bool.{cases_eq}
use Rattle.std.proofs.lemmas.List.{length_push}
use Rattle.std.proofs.lemmas.List.Elements.{All-push, Contains-append_left, Contains-push}
use Rattle.mcf_flows.specs.Blocking.{in_table}
use Rattle.mcf_flows.specs.Network.{IsNode}
use Rattle.mcf_network.specs.NodeSets.{with_node}
use Rattle.mcf_cancel.specs.Private.Queues.{Waiting, IsQueue, queued}
use Rattle.mcf_network.proofs.Marks.{counted_new, read_node}

-- a node that did not wait
pub push_ok : (q : Waiting) (v : ℕ) → IsQueue q → IsNode (length q.table) v → in_table q.table v ≡ false
    → IsQueue (record { table = with_node q.table v; nodes = q.nodes ++ v ∷ [] })
push_ok q v ok h e =
    let same = length-set q.table (v - 1) true in
    record {
      limit = omega (arith, ok.limit, same);
      are_nodes = All-push (IsNode (length (with_node q.table v))) q.nodes v (λ k d l. let old = ok.are_nodes k d l in (old.0, omega (arith, old, same)))
          (h.0, omega (arith, h, same));
      count = omega (arith, ok.count, length_push q.nodes v, counted_new q.table v h e);
      marked = λ w k m. elim (read_node q.table v w true false h k.0) [
        | inl (s, _) ↦ subst (λ x. Contains (q.nodes ++ v ∷ []) x) (sym s) (Contains-push q.nodes v)
        | inr (n, old) ↦ Contains-append_left q.nodes (v ∷ []) w (ok.marked w (k.0, omega (arith, k, same)) (sym old ∙ m))
      ];
    }

queued_new : (q : Waiting) (v : ℕ) → in_table q.table v ≡ false → queued q v ≡ record { table = with_node q.table v; nodes = q.nodes ++ v ∷ [] }
queued_new q v e = rw e refl

queued_old : (q : Waiting) (v : ℕ) → in_table q.table v ≡ true → queued q v ≡ q
queued_old q v e = rw e refl

-- a node that is put into a queue waits there, and all that waited wait on
pub record IsQueued (old new : Waiting) (v : ℕ) : Type 0 where
  pub table : length new.table ≡ length old.table
  pub here : Contains new.nodes v
  pub others : (w : ℕ) → Contains old.nodes w → Contains new.nodes w

pub queued_ok : (q : Waiting) (v : ℕ) (b : Bool) → IsQueue q → IsNode (length q.table) v → in_table q.table v ≡ b → IsQueued q (queued q v) v
queued_ok q v true ok h e =
    rw (queued_old q v e) (record { table = refl; here = ok.marked v h e; others = λ w k. k })
queued_ok q v false ok h e =
    rw (queued_new q v e) (record {
      table = length-set q.table (v - 1) true;
      here = Contains-push q.nodes v;
      others = λ w k. Contains-append_left q.nodes (v ∷ []) w k;
    })

-- the nodes up to the next one wait
pub queued_more : (q : Waiting) (n : ℕ) → IsQueue q → IsNode (length q.table) (n + 1) → ((v : ℕ) → IsNode n v → Contains q.nodes v) → (v : ℕ)
    → IsNode (n + 1) v → Contains (queued q (n + 1)).nodes v
queued_more q n ok h before v k =
    let now = queued_ok q (n + 1) (in_table q.table (n + 1)) ok h refl in
    elim (cases_eq v (n + 1)) [
      | inl e ↦ subst (λ x. Contains (queued q (n + 1)).nodes x) (sym e) now.here
      | inr other ↦ now.others v (before v (k.0, omega (arith, k)))
    ]
