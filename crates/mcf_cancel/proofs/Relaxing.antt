-- What the residual arcs that enter a node do to the labels and the queue.
use Rattle.std.proofs.Common.{◌≡◌, ℕ, ◌+◌, List, [], ◌∷◌, length, Bool, true, false, refl, sym, ap, subst, ◌∙◌, arith, ◌⊎◌, inl, inr}
use Rattle.std.specs.List.{All, Contains}
use Rattle.std.proofs.lemmas.Int.{ints}
use Rattle.std.proofs.lemmas.Bool.{cases_eq}
use Rattle.mcf_flows.specs.Blocking.{in_table}
use Rattle.mcf_flows.specs.Network.{Network, IsNode, at_node, node_count}
use Rattle.mcf_network.specs.declared.rid.Rid.{Rid}
use Rattle.mcf_network.specs.Residual.{tail, head}
use Rattle.mcf_network.specs.Stars.{Leaves, ListsLeaving}
use Rattle.mcf_network.specs.States.{Pseudoflow}
use Rattle.mcf_network.specs.Walks.{HasRoom}
use Rattle.mcf_network.proofs.ArcLaws.{tail_is_node, head_is_node}
use Rattle.mcf_network.proofs.Lists.{Contains-cons}
use Rattle.mcf_cancel.specs.Private.Labels.{Labels, IsLabelling, IsLowering, IsKeeping, lowered}
use Rattle.mcf_engine.specs.Respecting.{Respects, cost_limit, reverse}
use Rattle.mcf_cancel.specs.Private.Queues.{Waiting, IsQueue, queued}
use Rattle.mcf_cancel.specs.Private.Rounds.{IsHandled, IsProgress}
use Rattle.mcf_cancel.proofs.Lowering.{lowered_ok, lowered_other, lowered_no_rise, lowered_total, offer_low, lowered_floor, lowered_respects}
use Rattle.mcf_cancel.proofs.QueueLaws.{IsQueued, queued_ok}
use Rattle.mcf_engine.proofs.Reverses.{reversed}
use Rattle.mcf_engine.proofs.Showing.{no_loop}

-- while the residual arcs that enter node w are relaxed, of which those that remain are the
-- reverses of a list
pub record IsEntering (old new : Labels) (before after : Waiting) (w : ℕ) (rest : List Rid) : Type 0 where
  pub progress : IsProgress old new before after cost_limit
  pub same_price : at_node new.prices w ≡ at_node old.prices w
  pub here : (r : Rid) → HasRoom old.flow r → head old.flow.net r ≡ w → IsHandled new after r ⊎ Contains rest (reverse r)
  pub still : after.nodes ≡ [] → new.prices ≡ old.prices

-- nothing was done yet
pub progress_none : (l : Labels) (q : Waiting) (depth : ℕ) → IsLabelling l → IsQueue q → IsProgress l l q q depth
progress_none l q depth ok queue =
    record {
      valid = ok;
      queue = queue;
      flow = refl;
      table = refl;
      waits = λ v h. h;
      keeps = λ r room respects. inl respects;
      floor = λ f floor v h. let here = floor v h in omega (arith, ints, here);
      not_above = omega (arith, ints);
      falls = λ h. absurd (omega arith);
    }

pub entering_start : (l : Labels) (q : Waiting) (w : ℕ) (rest : List Rid) → IsLabelling l → IsQueue q
    → ((r : Rid) → HasRoom l.flow r → head l.flow.net r ≡ w → Contains rest (reverse r)) → IsEntering l l q q w rest
entering_start l q w rest ok queue every =
    record {
      progress = progress_none l q cost_limit ok queue;
      same_price = refl;
      here = λ r room e. inr (every r room e);
      still = λ none. refl;
    }

-- a residual arc that was handled, after another one lowered the price of its tail
handled_lowered : (l : Labels) (q q' : Waiting) (r p : Rid) → IsLabelling l → IsLowering l (lowered l r) r → IsQueued q q' (tail l.flow.net r)
    → HasRoom l.flow p → IsHandled l q p → IsHandled (lowered l r) q' p
handled_lowered l q q' r p ok low queued' room (inr waits) = inr (queued'.others (head l.flow.net p) waits)
handled_lowered l q q' r p ok low queued' room (inl respects) =
    elim (cases_eq (head l.flow.net p) (tail l.flow.net r)) [
      | inl e ↦ inr (subst (λ x. Contains q'.nodes x) (sym e) queued'.here)
      | inr n ↦ inl (λ _.
          let there = lowered_other l r ok low.has_room low.less (head l.flow.net p) (head_is_node l.flow.net p.arc p.back ok.flow.of_net room.arc).0 n in
          let less = lowered_no_rise l r ok low.has_room low.less (tail l.flow.net p) (tail_is_node l.flow.net p.arc p.back ok.flow.of_net room.arc).0 in
          let old = respects room in
          omega (arith, ints, there, less, old))
    ]

-- the residual arc that lowered the price of its tail is handled itself
handled_self : (l : Labels) (q' : Waiting) (r : Rid) → IsLabelling l → IsLowering l (lowered l r) r → IsHandled (lowered l r) q' r
handled_self l q' r ok low =
    inl (lowered_respects l r ok low.has_room low.less (λ e. no_loop l.flow r.arc r.back ok.flow low.has_room (sym e)))

-- an empty list has no elements
pub empty_lacks : (xs : List ℕ) (v : ℕ) → xs ≡ [] → Contains xs v → ⊥
empty_lacks xs v none has =
    let h = has.1 in
    let z = ap (λ (ys : List ℕ). length ys) none in
    omega (arith, h, z)

-- the next residual arc lowered the price of its tail, which was put into the queue
pub entering_lowered : (old now : Labels) (before q q' : Waiting) (w : ℕ) (out : Rid) (rest : List Rid) → IsNode (length old.prices) w
    → IsEntering old now before q w (out ∷ rest) → IsLowering now (lowered now (reverse out)) (reverse out) → head old.flow.net (reverse out) ≡ w → IsQueue q'
    → IsQueued q q' (tail now.flow.net (reverse out)) → IsEntering old (lowered now (reverse out)) before q' w rest
entering_lowered old now before q q' w out rest inside at low enters queue queued' =
    let ok = at.progress.valid in
    let r = reverse out in
    let flow = at.progress.flow in
    let enters_now : head now.flow.net r ≡ w = ap (λ (s : Pseudoflow). head s.net r) flow ∙ enters in
    let room : (p : Rid) → HasRoom old.flow p → HasRoom now.flow p = λ (p : Rid) (h : HasRoom old.flow p). subst (λ s. HasRoom s p) (sym flow) h in
    let less = lowered_total now r ok low.has_room low.less in
    let node = head_is_node now.flow.net r.arc r.back ok.flow.of_net low.has_room.arc in
    let same = lowered_other now r ok low.has_room low.less (head now.flow.net r) node.0 (λ e. no_loop now.flow r.arc r.back ok.flow low.has_room (sym e)) in
    let same_w : at_node (lowered now r).prices w ≡ at_node now.prices w = subst (λ x. at_node (lowered now r).prices x ≡ at_node now.prices x) enters_now
    same in
    record {
      progress = record {
        valid = lowered_ok now r ok low.has_room low.less;
        queue = queue;
        flow = flow;
        table = queued'.table ∙ at.progress.table;
        waits = λ v h. queued'.others v (at.progress.waits v h);
        keeps = λ p h respects. handled_lowered now q q' r p ok low queued' (room p h) (at.progress.keeps p h respects);
        floor = λ f floor. lowered_floor now r ok low.has_room low.less (f + cost_limit) (at.progress.floor f floor) (
            let offered = offer_low now r ok low.has_room low.less in
            let there = ap (at_node now.prices) enters_now in
            let was = at.same_price in
            let deep = floor w inside in
            omega (arith, ints, offered, there, was, deep));
        not_above = let was = at.progress.not_above in omega (arith, ints, was, less);
        falls = λ h. let was = at.progress.not_above in omega (arith, ints, was, less);
      };
      same_price = same_w ∙ at.same_price;
      here = λ p h e. elim (at.here p h e) [
        | inl handled ↦ inl (handled_lowered now q q' r p ok low queued' (room p h) handled)
        | inr has ↦ elim (Contains-cons out rest (reverse p) has) [
          | inl same' ↦ inl (subst (λ x. IsHandled (lowered now r) q' x) (reversed out p same') (handled_self now q' r ok low))
          | inr more ↦ inr more
        ]
      ];
      still = λ none. absurd (empty_lacks q'.nodes (tail now.flow.net r) none queued'.here);
    }

-- the next residual arc lowered no price
pub entering_kept : (old now : Labels) (before q : Waiting) (w : ℕ) (out : Rid) (rest : List Rid) → IsEntering old now before q w (out ∷ rest)
    → Respects now.flow now.prices (reverse out) → IsEntering old now before q w rest
entering_kept old now before q w out rest at respects =
    record {
      progress = at.progress;
      same_price = at.same_price;
      here = λ p h e. elim (at.here p h e) [
        | inl handled ↦ inl handled
        | inr has ↦ elim (Contains-cons out rest (reverse p) has) [
          | inl same ↦ inl (inl (subst (λ x. Respects now.flow now.prices x) (reversed out p same) respects))
          | inr more ↦ inr more
        ]
      ];
      still = at.still;
    }

-- ---- the same, of what the code has

tail_reverse : (g : Network) (k : ℕ) (b : Bool) → tail g (reverse (record { arc = k; back = b })) ≡ head g (record { arc = k; back = b })
tail_reverse g k true = refl
tail_reverse g k false = refl

head_reverse : (g : Network) (k : ℕ) (b : Bool) → head g (reverse (record { arc = k; back = b })) ≡ tail g (record { arc = k; back = b })
head_reverse g k true = refl
head_reverse g k false = refl

pub entered_leaves : (l : Labels) (w : ℕ) (g : Network) (list : List Rid) → g ≡ l.flow.net → ListsLeaving g w list → All (Leaves l.flow.net w) list
entered_leaves l w g list net lists = subst (λ n. All (Leaves n w) list) net lists.each_leaves

pub entered_first : (inside l : Labels) (q : Waiting) (w : ℕ) (g : Network) (list : List Rid) → inside ≡ l → IsLabelling inside → IsQueue q → g ≡ l.flow.net
    → ListsLeaving g w list → IsEntering l l q q w list
entered_first inside l q w g list view ok queue net lists =
    entering_start l q w list (subst IsLabelling view ok) queue (λ r room e.
    let every = (subst (λ n. ListsLeaving n w list) net lists).every in
    every (reverse r) (record { arc = room.arc; from = tail_reverse l.flow.net r.arc r.back ∙ e }))

pub entered_lowered : (inside old now new : Labels) (before q q' : Waiting) (w from : ℕ) (g : Network) (out : Rid) (rest : List Rid) → inside ≡ old
    → IsLabelling inside → IsNode (node_count old.flow.net) w → length before.table ≡ node_count old.flow.net → Leaves old.flow.net w out
    → IsEntering old now before q w (out ∷ rest) → IsLowering now new (reverse out) → g ≡ old.flow.net → from ≡ tail g (reverse out) → IsQueue q'
    → q' ≡ queued q from → IsEntering old new before q' w rest
entered_lowered inside old now new before q q' w from g out rest view ok node table leaves at low net from_is valid value =
    let r = reverse out in
    let old_ok = subst IsLabelling view ok in
    let flow = at.progress.flow in
    let here : from ≡ tail now.flow.net r = from_is ∙ ap (λ n. tail n r) (net ∙ ap (λ (s : Pseudoflow). s.net) (sym flow)) in
    let is_node = tail_is_node now.flow.net r.arc r.back at.progress.valid.flow.of_net low.has_room.arc in
    let nodes = ap (λ (s : Pseudoflow). node_count s.net) flow in
    let rows = at.progress.table in
    let in_table' : IsNode (length q.table) (tail now.flow.net r) = (is_node.0, omega (arith, is_node, nodes, rows, table)) in
    let is_queued = subst (λ x. IsQueued q x (tail now.flow.net r)) (sym (value ∙ ap (queued q) here))
    (queued_ok q (tail now.flow.net r) (in_table q.table (tail now.flow.net r)) at.progress.queue in_table' refl) in
    subst (λ (x : Labels). IsEntering old x before q' w rest) (sym low.lowers)
    (entering_lowered old now before q q' w out rest (node.0, omega (arith, node, old_ok.count)) at
    (record { has_room = low.has_room; less = low.less; lowers = refl }) (head_reverse old.flow.net out.arc out.back ∙ leaves.from) valid is_queued)

pub entered_kept : (old now new : Labels) (before q : Waiting) (w : ℕ) (out : Rid) (rest : List Rid) → IsEntering old now before q w (out ∷ rest)
    → IsKeeping now new (reverse out) → IsEntering old new before q w rest
entered_kept old now new before q w out rest at kept =
    subst (λ (x : Labels). IsEntering old x before q w rest) (sym kept.same) (entering_kept old now before q w out rest at kept.respects)
