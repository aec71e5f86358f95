-- The search for a cycle of links over all nodes, and the measure of the rounds.
use Rattle.std.proofs.Common.{◌≡◌, ℕ, suc, ◌<◌, ◌≤◌, ◌+◌, ◌-◌, ◌*◌, List, [], ◌∷◌, length, Bool, true, ℤ, pos, nat_abs, ◌+ℤ◌, neg_ℤ, ◌≤ℤ◌, ◌<ℤ◌}
use Rattle.std.proofs.Common.{sym, ap, subst, ◌∙◌, arith, ◌⊎◌, inl, inr}
use Rattle.std.proofs.lemmas.Int.{ints}
use Rattle.std.proofs.lemmas.Bool.{cases_eq}
use Rattle.mcf_flows.specs.Blocking.{in_table}
use Rattle.mcf_flows.specs.Network.{Network, IsNode, at_node, node_count}
use Rattle.mcf_network.specs.declared.rid.Rid.{Rid}
use Rattle.mcf_network.specs.NodeSets.{member_count}
use Rattle.mcf_network.specs.Walks.{IsWalk}
use Rattle.mcf_cancel.specs.Private.Labels.{Labels, IsLabelling, total}
use Rattle.mcf_engine.specs.Respecting.{AreAtLeast, cost_limit}
use Rattle.mcf_cancel.specs.Private.Trails.{HasTail, IsTrail, IsDone, IsSettled}
use Rattle.mcf_network.proofs.Marks.{count_small}
use Rattle.mcf_engine.proofs.Falling.{nat_abs_falls}

-- after v nodes: no path is under way, each node that was seen is settled, and so is each node up
-- to v
pub record CycleAt (l : Labels) (seen done : List Bool) (v : ℕ) : Type 0 where
  pub trail : IsTrail l [] seen done
  pub floors : IsDone l done
  pub before : (j : ℕ) → 1 ≤ j → j ≤ v → IsSettled l done j

-- a walk ends where it begins, or leaves its beginning
walk_leaves : (g : Network) (path : List Rid) (u w : ℕ) → IsWalk g u path w → (u ≡ w) ⊎ HasTail g path u
walk_leaves g [] u w walk = inl walk
walk_leaves g (r ∷ rest) u w walk = inr (0, omega arith, λ d. walk.0)

-- after a walk that closed no cycle was taken back
pub cycle_next : (l : Labels) (seen done done' : List Bool) (path : List Rid) (v end : ℕ) → ((j : ℕ) → 1 ≤ j → j ≤ v → IsSettled l done j)
    → IsTrail l path seen done → IsWalk l.flow.net (v + 1) path end → IsSettled l done end → IsDone l done'
    → ((u : ℕ) → in_table done u ≡ true → in_table done' u ≡ true) → ((u : ℕ) → HasTail l.flow.net path u → in_table done' u ≡ true)
    → CycleAt l seen done' (v + 1)
cycle_next l seen done done' path v end before trail walk settled floors kept left =
    record {
      trail = record {
        seen_count = trail.seen_count;
        done_count = floors.count;
        steps = λ k d h. absurd (omega arith);
        distinct = λ i j d p q. absurd (omega arith);
        path_seen = λ k d h. absurd (omega arith);
        seen = λ u h e. elim (trail.seen u h e) [
          | inl a ↦ inl (kept u a)
          | inr (inl a) ↦ inr (inl a)
          | inr (inr a) ↦ inl (left u a)
        ];
      };
      floors = floors;
      before = λ j low h. elim (cases_eq j (v + 1)) [
        | inl e ↦ elim (walk_leaves l.flow.net path (v + 1) end walk) [
          | inl s ↦ subst (λ x. IsSettled l done' x) (sym (e ∙ s)) (still end settled)
          | inr a ↦ inl (left j (subst (λ x. HasTail l.flow.net path x) (sym e) a))
        ]
        | inr n ↦ still j (before j low (omega arith))
      ];
    }
  where
    still : (u : ℕ) → IsSettled l done u → IsSettled l done' u
    still u (inl a) = inl (kept u a)
    still u (inr a) = inr a

-- a settled node is not far below 0
pub settled_floor : (l : Labels) (done : List Bool) (v : ℕ) → IsLabelling l → IsDone l done → IsNode (length done) v → IsSettled l done v
    → neg_ℤ (pos (cost_limit * member_count done)) ≤ℤ at_node l.prices v
settled_floor l done v ok floors h (inl a) = floors.floor v h a
settled_floor l done v ok floors h (inr a) =
    let none = ok.linked.roots v (h.0, omega (arith, h, floors.count, ok.link_count)) a in
    omega (arith, ints, none)

-- all settled, so none is far below 0
pub cycle_end : (l : Labels) (seen done : List Bool) (v : ℕ) → IsLabelling l → CycleAt l seen done v → node_count l.flow.net ≤ v
    → AreAtLeast (cost_limit * node_count l.flow.net) l.prices
cycle_end l seen done v ok at n u h =
    let inside : IsNode (length done) u = (h.0, omega (arith, h, ok.count, at.floors.count)) in
    let low = settled_floor l done u ok at.floors inside (at.before u h.0 (omega (arith, h, ok.count))) in
    omega (arith, ints, low, count_small done, at.floors.count)

-- the total is not far below 0
total_floor : (ys : List ℤ) (f : ℕ) → ((k : ℕ) → k < length ys → neg_ℤ (pos f) ≤ℤ at_node ys (k + 1)) → neg_ℤ (pos (f * length ys)) ≤ℤ total ys
total_floor [] f floor = omega (arith, ints)
total_floor (y ∷ ys) f floor =
    let here = floor 0 (omega arith) in
    let more = total_floor ys f (λ v h. floor_tail y ys f v (floor (suc v) (omega arith))) in
    let product : f * suc (length ys) ≡ f + f * length ys = omega arith in
    omega (arith, ints, here, more, product)
  where
    floor_tail : (y : ℤ) (ys : List ℤ) (f v : ℕ) → neg_ℤ (pos f) ≤ℤ at_node (y ∷ ys) (suc v + 1) → neg_ℤ (pos f) ≤ℤ at_node ys (v + 1)
    floor_tail y ys f v h =
        let e : suc v + 1 - 1 ≡ suc (v + 1 - 1) = omega arith in
        rw e at h

-- how far the total is above the floor
abbrev pub height : ℕ → List ℤ → ℕ
height f ys = nat_abs (total ys +ℤ pos (f * length ys))

pub height_falls : (f : ℕ) (ys zs : List ℤ) → length zs ≡ length ys → AreAtLeast f zs → total zs <ℤ total ys → height f zs < height f ys
height_falls f ys zs n floor less =
    let low = total_floor zs f (λ k h. floor (k + 1) (omega arith, omega (arith, h))) in
    let same = ap (λ k. f * k) n in
    nat_abs_falls (total zs +ℤ pos (f * length zs)) (total ys +ℤ pos (f * length ys)) (omega (arith, ints, low)) (omega (arith, ints, less, same))
