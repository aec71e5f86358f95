-- The marks of a walk along links.
use Rattle.std.proofs.Common.{◌≡◌, ◌≢◌, ℕ, ◌<◌, ◌-◌, ◌*◌, List, [], ◌∷◌, ◌++◌, length, Bool, true, false, Option, Some, None, pos, neg_ℤ, ◌≤ℤ◌, refl, sym, ap}
use Rattle.std.proofs.Common.{subst, ◌∙◌, arith, ◌⊎◌, inl, inr, length-set}
use Rattle.std.specs.List.{All}
use Rattle.std.specs.Option.{IfSome}
use Rattle.std.proofs.lemmas.Int.{ints}
use Rattle.std.proofs.lemmas.Bool.{true≢false, cases_eq}
use Rattle.std.proofs.lemmas.List.{get_or_append_left, get_or_push, length_push}
use Rattle.std.proofs.lemmas.List.Elements.{All-push}
use Rattle.std.proofs.lemmas.List.Quantifiers.{all_pairs_push}
use Rattle.mcf_flows.specs.Blocking.{in_table}
use Rattle.mcf_flows.specs.Network.{Network, IsNode, at_node, node_count}
use Rattle.mcf_network.specs.declared.rid.Rid.{Rid}
use Rattle.mcf_network.specs.NodeSets.{member_count, with_node}
use Rattle.mcf_network.specs.Residual.{tail, head}
use Rattle.mcf_network.specs.Walks.{IsWalk}
use Rattle.mcf_cancel.specs.Private.Labels.{Labels, IsLabelling, link_at}
use Rattle.mcf_engine.specs.Respecting.{cost_limit}
use Rattle.mcf_cancel.specs.Private.Trails.{IsStep, HasTail, IsTrail, IsDone}
use Rattle.mcf_cancel.proofs.LinkWalks.{IsWalk-pop, step_falls}
use Rattle.mcf_network.proofs.Marks.{marked_new, marked_still, counted_new, read_node}
use Rattle.mcf_engine.proofs.Marks.{counted_more}
use Rattle.mcf_engine.proofs.Showing.{cost_small}

HasTail-push : (g : Network) (path : List Rid) (r : Rid) (v : ℕ) → HasTail g path v → HasTail g (path ++ r ∷ []) v
HasTail-push g path r v leaves =
    (leaves.0, omega (arith, leaves.1, length_push path r), λ d. rw (get_or_append_left path (r ∷ []) d leaves.0 leaves.1) (leaves.2 d))

HasTail-here : (g : Network) (path : List Rid) (r : Rid) (v : ℕ) → tail g r ≡ v → HasTail g (path ++ r ∷ []) v
HasTail-here g path r v e =
    (length path, omega (arith, length_push path r), λ d. rw (get_or_push path r d (length path) refl) e)

-- a node is marked: it is that node, or it was marked
marked_by : (table : List Bool) (at v : ℕ) → IsNode (length table) at → IsNode (length (with_node table at)) v → in_table (with_node table at) v ≡ true
    → (v ≡ at) ⊎ (IsNode (length table) v × (in_table table v ≡ true))
marked_by table at v h k m =
    elim (read_node table at v true false h k.0) [
      | inl (e, w) ↦ inl e
      | inr (n, w) ↦ inr ((k.0, omega (arith, k, length-set table (at - 1) true)), sym w ∙ m)
    ]

-- a step is pushed on the path, and its tail is marked
pub trail_push : (l : Labels) (path : List Rid) (seen done : List Bool) (r : Rid) (at : ℕ) → IsTrail l path seen done → IsNode (node_count l.flow.net) at
    → in_table seen at ≡ false → IsStep l r → tail l.flow.net r ≡ at → IsTrail l (path ++ r ∷ []) (with_node seen at) done
trail_push l path seen done r at ok h fresh step e =
    let inside : IsNode (length seen) at = (h.0, omega (arith, h, ok.seen_count)) in
    record {
      seen_count = length-set seen (at - 1) true ∙ ok.seen_count;
      done_count = ok.done_count;
      steps = All-push (IsStep l) path r ok.steps step;
      distinct = all_pairs_push (λ q p. tail l.flow.net q ≢ tail l.flow.net p) path r ok.distinct
          (λ k d p same. let a = ok.path_seen k d p in let b = ap (in_table seen) (same ∙ e) in true≢false (sym a ∙ b ∙ fresh));
      path_seen = All-push (λ q. in_table (with_node seen at) (tail l.flow.net q) ≡ true) path r (λ k d p. marked_still seen at _ inside (ok.path_seen k d p))
          (ap (in_table (with_node seen at)) e ∙ marked_new seen at inside);
      seen = λ v p m. elim (marked_by seen at v inside p m) [
        | inl s ↦ inr (inr (HasTail-here l.flow.net path r v (e ∙ sym s)))
        | inr (n, w) ↦ elim (ok.seen v n w) [
          | inl a ↦ inl a
          | inr (inl a) ↦ inr (inl a)
          | inr (inr a) ↦ inr (inr (HasTail-push l.flow.net path r v a))
        ]
      ];
    }

-- while a path is taken back: its end is not far below 0, and each node that it left is done or
-- still left
pub record FinishAt (l : Labels) (first now : List Bool) (whole path : List Rid) : Type 0 where
  pub steps : All (IsStep l) path
  pub walk : (u : ℕ) × (end : ℕ) × IsWalk l.flow.net u path end × (neg_ℤ (pos (cost_limit * member_count now)) ≤ℤ at_node l.prices end)
  pub done : IsDone l now
  pub kept : (v : ℕ) → in_table first v ≡ true → in_table now v ≡ true
  pub left : (v : ℕ) → HasTail l.flow.net whole v → (in_table now v ≡ true) ⊎ HasTail l.flow.net path v

All-front : (P : Rid → Type 0) (path : List Rid) (r : Rid) → All P (path ++ r ∷ []) → All P path
All-front P path r all k d h = subst P (get_or_append_left path (r ∷ []) d k h) (all k d (omega (arith, h, length_push path r)))

pub All-last : (P : Rid → Type 0) (path : List Rid) (r : Rid) → All P (path ++ r ∷ []) → P r
All-last P path r all = subst P (get_or_push path r r (length path) refl) (all (length path) r (omega (arith, length_push path r)))

HasTail-unpush : (g : Network) (path : List Rid) (r : Rid) (v : ℕ) → HasTail g (path ++ r ∷ []) v → (tail g r ≡ v) ⊎ HasTail g path v
HasTail-unpush g path r v leaves =
    elim (cases_eq leaves.0 (length path)) [
      | inl e ↦ inl (subst (λ q. tail g q ≡ v) (get_or_push path r r leaves.0 (sym e)) (leaves.2 r))
      | inr n ↦ (let h : leaves.0 < length path = (let m = leaves.1 in omega (arith, m, n, length_push path r)) in
          inr (leaves.0, h, λ d. subst (λ q. tail g q ≡ v) (get_or_append_left path (r ∷ []) d leaves.0 h) (leaves.2 d)))
    ]

-- the floor of the tail of a step that is marked
floor_here : (l : Labels) (now : List Bool) (r : Rid) (end : ℕ) (b : Bool) → IsLabelling l → IsStep l r → IsDone l now → head l.flow.net r ≡ end
    → neg_ℤ (pos (cost_limit * member_count now)) ≤ℤ at_node l.prices end → in_table now (tail l.flow.net r) ≡ b → IsNode (length now) (tail l.flow.net r)
    → neg_ℤ (pos (cost_limit * member_count (with_node now (tail l.flow.net r)))) ≤ℤ at_node l.prices (tail l.flow.net r)
floor_here l now r end true ok step done e floor m inside =
    let here = done.floor (tail l.flow.net r) inside m in
    omega (arith, ints, here, counted_more now (tail l.flow.net r) true inside m)
floor_here l now r end false ok step done e floor m inside =
    let falls = step_falls l r ok step in
    let low = (cost_small l.flow.net r.arc r.back ok.flow.of_net step.has_room.arc).0 in
    let there = ap (at_node l.prices) e in
    omega (arith, ints, falls, low, there, floor, counted_new now (tail l.flow.net r) inside m)

-- one residual arc taken back
pub finish_step : (l : Labels) (first now : List Bool) (whole path : List Rid) (r : Rid) → IsLabelling l → FinishAt l first now whole (path ++ r ∷ [])
    → FinishAt l first (with_node now (tail l.flow.net r)) whole path
finish_step l first now whole path r ok at =
    let step = All-last (IsStep l) path r at.steps in
    let parts = IsWalk-pop l.flow.net path r at.walk.0 at.walk.1 at.walk.2 in
    let inside : IsNode (length now) (tail l.flow.net r) = (let i = step.is_node in (i.0, omega (arith, i, at.done.count, ok.link_count))) in
    let here = floor_here l now r at.walk.1 (in_table now (tail l.flow.net r)) ok step at.done parts.1 at.walk.3 refl inside in
    record {
      steps = All-front (IsStep l) path r at.steps;
      walk = (at.walk.0, tail l.flow.net r, parts.0, here);
      done = record {
        count = length-set now (tail l.flow.net r - 1) true ∙ at.done.count;
        floor = λ v h m. elim (marked_by now (tail l.flow.net r) v inside h m) [
          | inl e ↦ subst (λ x. neg_ℤ (pos (cost_limit * member_count (with_node now (tail l.flow.net r)))) ≤ℤ at_node l.prices x) (sym e) here
          | inr (n, w) ↦ (let old = at.done.floor v n w in omega (
            arith,
            ints,
            old,
            counted_more now (tail l.flow.net r)
                (in_table now (tail l.flow.net r)) inside refl,
          ))
        ];
      };
      kept = λ v m. marked_still now (tail l.flow.net r) v inside (at.kept v m);
      left = λ v leaves. elim (at.left v leaves) [
        | inl m ↦ inl (marked_still now (tail l.flow.net r) v inside m)
        | inr p ↦ elim (HasTail-unpush l.flow.net path r v p) [
          | inl e ↦ inl (subst (λ x. in_table (with_node now (tail l.flow.net r)) x ≡ true) e (marked_new now (tail l.flow.net r) inside))
          | inr q ↦ inr q
        ]
      ];
    }

-- a link is a step
pub link_step : (l : Labels) (v : ℕ) (o : Option Rid) → IsLabelling l → IsNode (length l.links) v → o ≡ link_at l v
    → IfSome o (λ r. IsStep l r × (tail l.flow.net r ≡ v))
link_step l v None ok h e = tt
link_step l v (Some r) ok h e =
    let link = ok.linked.links v r h (sym e) in
    let from = link.from in
    (record { link = ap (link_at l) from ∙ sym e; is_node = (omega (arith, h, from), omega (arith, h, from)); has_room = link.has_room }, from)
