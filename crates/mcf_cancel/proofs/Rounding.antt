-- A round: the nodes that wait relax the residual arcs that enter them, one after another.
use Rattle.std.proofs.Common.{◌≡◌, ℕ, ◌<◌, ◌≤◌, ◌+◌, ◌-◌, ◌*◌, List, [], ◌∷◌, length, get_or, replicate, ℤ, pos, ◌<ℤ◌, refl, sym, ap, subst, ◌∙◌, arith}
use Rattle.std.proofs.Common.{◌⊎◌, inl, inr}
use Rattle.std.specs.List.{Contains}
use Rattle.std.proofs.lemmas.Int.{ints}
use Rattle.std.proofs.lemmas.Bool.{cases_eq, cases_lt}
use Rattle.std.proofs.lemmas.List.{get_or_default, get_or-replicate, length-replicate}
use Rattle.mcf_flows.specs.Flow.{AreGreatestPrices}
use Rattle.mcf_flows.specs.Limits.{node_limit}
use Rattle.mcf_flows.specs.Network.{Network, IsNode, at_node, node_count}
use Rattle.mcf_network.specs.declared.rid.Rid.{Rid}
use Rattle.mcf_network.specs.Residual.{head}
use Rattle.mcf_network.specs.States.{Pseudoflow}
use Rattle.mcf_network.specs.Walks.{HasRoom}
use Rattle.mcf_network.proofs.ArcLaws.{head_is_node}
use Rattle.mcf_cancel.specs.Private.Labels.{Labels, IsLabelling, round_depth, round_fall, total}
use Rattle.mcf_engine.specs.Respecting.{AreAtLeast, cost_limit}
use Rattle.mcf_cancel.specs.Private.Queues.{Waiting, IsQueue, no_queue}
use Rattle.mcf_cancel.specs.Private.Rounds.{IsHandled, IsProgress}
use Rattle.mcf_network.proofs.Marks.{count_small}
use Rattle.mcf_cancel.proofs.Relaxing.{empty_lacks, progress_none}
use Rattle.mcf_engine.proofs.Showing.{shows_from_respects}

-- one progress after another
pub progress_join : (a b c : Labels) (p q r : Waiting) (d e f : ℕ) → d + e ≡ f → IsProgress a b p q d → IsProgress b c q r e → IsProgress a c p r f
progress_join a b c p q r d e f sum first second =
    record {
      valid = second.valid;
      queue = second.queue;
      flow = second.flow ∙ first.flow;
      table = second.table ∙ first.table;
      waits = λ v h. second.waits v (first.waits v h);
      keeps = λ x room respects. join x room (first.keeps x room respects);
      floor = λ g floor v h.
          let there = second.floor (g + d) (first.floor g floor) v h in
          omega (arith, ints, there, sum);
      not_above = let x = first.not_above in let y = second.not_above in omega (arith, ints, x, y);
      falls = λ h. elim (cases_lt (length p.nodes) (length q.nodes)) [
        | inl l ↦ (let x = first.falls l in let y = second.not_above in omega (arith, ints, x, y))
        | inr l ↦ (let x = first.not_above in let y = second.falls (omega (arith, h, l)) in omega (arith, ints, x, y))
      ];
    }
  where
    join : (x : Rid) → HasRoom a.flow x → IsHandled b q x → IsHandled c r x
    join x room (inl respects) = second.keeps x (subst (λ s. HasRoom s x) (sym first.flow) room) respects
    join x room (inr waits) = inr (subst (λ (s : Pseudoflow). Contains r.nodes (head s.net x)) (sym second.flow) (second.waits (head b.flow.net x) waits))

-- a node that waits from place i on
abbrev pub WaitsFrom : List ℕ → ℕ → ℕ → Type 0
WaitsFrom nodes i v = (k : ℕ) × (i ≤ k) × (k < length nodes) × (get_or nodes k v ≡ v)

-- after i nodes: each residual arc with room is handled, or its head still waits
pub record RoundAt (first now : Labels) (before after : Waiting) (nodes : List ℕ) (i : ℕ) : Type 0 where
  pub progress : IsProgress first now before after (cost_limit * i)
  pub handled : (r : Rid) → HasRoom first.flow r → IsHandled now after r ⊎ WaitsFrom nodes i (head first.flow.net r)
  pub still : after.nodes ≡ [] → now.prices ≡ first.prices

pub round_start : (l : Labels) (q waiting : Waiting) → IsLabelling l → IsQueue q → ((r : Rid) → HasRoom l.flow r → IsHandled l waiting r)
    → RoundAt l l q q waiting.nodes 0
round_start l q waiting ok queue handled =
    record {
      progress = progress_none l q (cost_limit * 0) ok queue;
      handled = λ r room. elim (handled r room) [
        | inl respects ↦ inl (inl respects)
        | inr waits ↦ inr (waits.0, omega arith, waits.1, waits.2)
      ];
      still = λ none. refl;
    }

-- what is contained in an empty list is empty
empty_within : (xs ys : List ℕ) → ys ≡ [] → ((v : ℕ) → Contains xs v → Contains ys v) → xs ≡ []
empty_within [] ys none within = refl
empty_within (x ∷ xs) ys none within = absurd (empty_lacks ys x none (within x (0, omega arith, refl)))

-- node w at place i relaxed the residual arcs that enter it
pub round_next : (first now next : Labels) (before q q' : Waiting) (nodes : List ℕ) (i w : ℕ) → RoundAt first now before q nodes i → i < length nodes
    → w ≡ get_or nodes i w → IsProgress now next q q' cost_limit → ((r : Rid) → HasRoom now.flow r → head now.flow.net r ≡ w → IsHandled next q' r)
    → (q'.nodes ≡ [] → next.prices ≡ now.prices) → RoundAt first next before q' nodes (i + 1)
round_next first now next before q q' nodes i w at inside is progress here still_now =
    record {
      progress = progress_join first now next before q q' (cost_limit * i) cost_limit (cost_limit * (i + 1)) (omega arith) at.progress progress;
      handled = λ r room. elim (at.handled r room) [
        | inl handled ↦ inl (still r (subst (λ s. HasRoom s r) (sym at.progress.flow) room) handled)
        | inr waits ↦ elim (cases_eq waits.0 i) [
          | inl e ↦ inl (here r (subst (λ s. HasRoom s r) (sym at.progress.flow) room)
              (ap (λ (s : Pseudoflow). head s.net r) at.progress.flow ∙ same r waits e))
          | inr n ↦ inr (waits.0, (let low = waits.1 in omega (arith, low, n)), waits.2, waits.3)
        ]
      ];
      still = λ none. still_now none ∙ at.still (empty_within q.nodes q'.nodes none progress.waits);
    }
  where
    still : (r : Rid) → HasRoom now.flow r → IsHandled now q r → IsHandled next q' r
    still r room (inl respects) = progress.keeps r room respects
    still r room (inr waits) = inr (subst (λ (s : Pseudoflow). Contains q'.nodes (head s.net r)) (sym progress.flow)
        (progress.waits (head now.flow.net r) waits))

    same : (r : Rid) (waits : WaitsFrom nodes i (head first.flow.net r)) → waits.0 ≡ i → head first.flow.net r ≡ w
    same r waits e =
        sym waits.3 ∙ ap (λ k. get_or nodes k (head first.flow.net r)) e ∙ get_or_default nodes i (head first.flow.net r) w inside ∙ sym is

pub round_end : (first now : Labels) (before after : Waiting) (nodes : List ℕ) (i : ℕ) → length nodes ≤ i → i ≤ node_limit
    → RoundAt first now before after nodes i → IsProgress first now before after round_fall × ((r : Rid) → HasRoom first.flow r → IsHandled now after r)
round_end first now before after nodes i past small at = (
  record {
    valid = p.valid;
    queue = p.queue;
    flow = p.flow;
    table = p.table;
    waits = p.waits;
    keeps = p.keeps;
    floor = λ f floor v h. let here = p.floor f floor v h in omega (arith, ints, here, small);
    not_above = p.not_above;
    falls = p.falls;
  },
  λ r room. elim (at.handled r room) [
    | inl handled ↦ handled
    | inr waits ↦ (let low = waits.1 in let high = waits.2 in absurd (omega (arith, low, high, past)))
  ],
)
  where
    p : IsProgress first now before after (cost_limit * i)
    p = at.progress

-- where nobody waits, the prices are the greatest that show the amounts
pub greatest_at_end : (l : Labels) (q : Waiting) → IsLabelling l → q.nodes ≡ [] → ((r : Rid) → HasRoom l.flow r → IsHandled l q r)
    → AreGreatestPrices l.flow.net l.prices l.flow.amounts
greatest_at_end l q ok none handled =
    record {
      low = record {
        one_per_node = ok.count;
        not_above_zero = ok.not_above_zero;
        show_flow = shows_from_respects l.flow l.prices ok.flow (λ r room. elim (handled r room) [
          | inl respects ↦ respects room
          | inr waits ↦ absurd (empty_lacks q.nodes (head l.flow.net r) none waits)
        ]);
      };
      greatest = ok.above;
    }

-- no more nodes wait than a net has
pub few_nodes : (q : Waiting) → IsQueue q → length q.nodes ≤ node_limit
few_nodes q ok = omega (arith, ok.limit, ok.count, count_small q.table)

-- ---- the rounds

pub start_floor : (n f : ℕ) (ys : List ℤ) → ys ≡ replicate n (pos 0) → AreAtLeast f ys
start_floor n f ys e v h =
    let count = ap (λ (xs : List ℤ). length xs) e in
    let zero : at_node ys v ≡ pos 0 = ap (λ (xs : List ℤ). at_node xs v) e ∙ get_or-replicate n (v - 1) (pos 0) (pos 0)
    (omega (arith, h, count, length-replicate n (pos 0))) in
    omega (arith, ints, zero)

pub all_wait : (l : Labels) (q : Waiting) (g : Network) → g ≡ l.flow.net → IsLabelling l → ((v : ℕ) → IsNode (node_count g) v → Contains q.nodes v) → (r : Rid)
    → HasRoom l.flow r → IsHandled l q r
all_wait l q g net ok each r room =
    let node = head_is_node l.flow.net r.arc r.back ok.flow.of_net room.arc in
    inr (each (head l.flow.net r) (subst (λ n. IsNode (node_count n) (head l.flow.net r)) (sym net) node))

pub floor_between : (l : Labels) (s : Pseudoflow) → l.flow ≡ s → IsLabelling l → AreAtLeast (cost_limit * node_count s.net) l.prices
    → AreAtLeast round_depth l.prices
floor_between l s same ok floor v h =
    let here = floor v h in
    let limit = ok.flow.of_net.nodes in
    let count = ap (λ (t : Pseudoflow). node_count t.net) same in
    omega (arith, ints, here, limit, count)

pub recovered_prices : (s : Pseudoflow) (l l' : Labels) (p q : Waiting) (d : ℕ) (ys : List ℤ) → l.flow ≡ s → IsProgress l l' p q d
    → ((r : Rid) → HasRoom l.flow r → IsHandled l' q r) → q.nodes ≡ [] → ys ≡ l'.prices → AreGreatestPrices s.net ys s.amounts
recovered_prices s l l' p q d ys same progress handled none is =
    let flow = progress.flow ∙ same in
    let prices = greatest_at_end l' q progress.valid none (λ r room. handled r (subst (λ t. HasRoom t r) progress.flow room)) in
    subst (λ (t : Pseudoflow). AreGreatestPrices t.net ys t.amounts) flow (subst (λ xs. AreGreatestPrices l'.flow.net xs l'.flow.amounts) (sym is) prices)

pub round_falls : (l l' : Labels) (p q : Waiting) (d n : ℕ) → p ≡ no_queue n → IsProgress l l' p q d → (q.nodes ≡ [] → ⊥) → total l'.prices <ℤ total l.prices
round_falls l l' p q d n empty progress some =
    let none = ap (λ (x : Waiting). length x.nodes) empty in
    progress.falls (omega (arith, none, positive q.nodes some))
  where
    positive : (xs : List ℕ) → (xs ≡ [] → ⊥) → 0 < length xs
    positive [] n = absurd (n refl)
    positive (x ∷ xs) n = omega arith
