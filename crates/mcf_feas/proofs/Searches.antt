-- What a search keeps, step by step.
use Rattle.std.proofs.Common.{◌≡◌, ℕ, ◌+◌, ◌-◌, ◌<◌, ◌≤◌, Bool, true, false, not, eqb, List, [], ◌∷◌, ◌++◌, length, refl, ap, sym, subst, ◌∙◌, arith, pos, ◌≤ℤ◌}
use Rattle.std.proofs.Common.{◌<ℤ◌, ◌⊎◌, inl, inr, Option, Some, None, length-set}
use Rattle.std.specs.Bool.{MatchBool}
use Rattle.std.specs.List.{All, Contains}
use Rattle.std.proofs.lemmas.Int.{ints, by_lt_z}
use Rattle.std.proofs.lemmas.Bool.{cases_eq, eq-eqb, ne_eqb, false≢true}
use Rattle.std.proofs.lemmas.List.Elements.{All-head, All-tail}
use Rattle.std.proofs.lemmas.List.{get_or_append_left, get_or_push, get_or-set_other, length_push}
use Rattle.mcf_flows.specs.Blocking.{in_table}
use Rattle.mcf_flows.specs.Network.{IsNode, node_count}
use Rattle.mcf_network.specs.declared.rid.Rid.{Rid}
use Rattle.mcf_network.specs.NodeSets.{with_node}
use Rattle.mcf_network.specs.Residual.{tail, head}
use Rattle.mcf_network.specs.Stars.{Leaves}
use Rattle.mcf_network.specs.States.{Pseudoflow, IsPseudoflow, room_of, surplus_at}
use Rattle.mcf_network.specs.Stuck.{IsStuck}
use Rattle.mcf_network.specs.Walks.{HasRoom}
use Rattle.mcf_network.proofs.ArcLaws.{tail_is_node}
use Rattle.mcf_network.proofs.Lists.{Contains-cons}
use Rattle.mcf_network.proofs.Marks.{count_small, counted_new, marked_new, marked_only, marked_still}
use Rattle.mcf_feas.specs.declared.path_search.Predecessor.{Predecessor}
use Rattle.mcf_feas.specs.declared.path_search.Visit.{Visit}
use Rattle.mcf_feas.specs.Private.Searching.{IsFound, IsReachedBy, IsScanned, IsPathSearch, node_at, visit_at}

-- ---- one visit more

abbrev pub visit_of : ℕ → Option Predecessor → Visit
visit_of v predecessor = record { node = v; predecessor = predecessor }

abbrev pub pushed_visit : List Visit → ℕ → Option Predecessor → List Visit
pushed_visit visits v predecessor = visits ++ visit_of v predecessor ∷ []

at_old : (visits : List Visit) (v : ℕ) (predecessor : Option Predecessor) (i : ℕ) → i < length visits
    → visit_at (pushed_visit visits v predecessor) i ≡ visit_at visits i
at_old visits v predecessor i h =
    get_or_append_left visits (visit_of v predecessor ∷ []) (visit_of 0 None) i h

at_new : (visits : List Visit) (v : ℕ) (predecessor : Option Predecessor) (i : ℕ) → length visits ≡ i
    → visit_at (pushed_visit visits v predecessor) i ≡ visit_of v predecessor
at_new visits v predecessor i h = get_or_push visits (visit_of v predecessor) (visit_of 0 None) i h

node_old : (visits : List Visit) (v : ℕ) (predecessor : Option Predecessor) (i : ℕ) → i < length visits
    → node_at (pushed_visit visits v predecessor) i ≡ node_at visits i
node_old visits v predecessor i h = ap (λ (x : Visit). x.node) (at_old visits v predecessor i h)

node_new : (visits : List Visit) (v : ℕ) (predecessor : Option Predecessor) (i : ℕ) → length visits ≡ i → node_at (pushed_visit visits v predecessor) i ≡ v
node_new visits v predecessor i h = ap (λ (x : Visit). x.node) (at_new visits v predecessor i h)

-- a way to reach an old node stays one
reached_old : (s : Pseudoflow) (visits : List Visit) (v : ℕ) (predecessor : Option Predecessor) (i : ℕ) (old : Option Predecessor) → i < length visits
    → IsReachedBy s visits i old
    → IsReachedBy s (pushed_visit visits v predecessor) i old
reached_old s visits v predecessor i None h by = rw (node_old visits v predecessor i h) by
reached_old s visits v predecessor i (Some l) h by =
    let earlier = by.earlier in
    record {
      earlier = by.earlier;
      room = by.room;
      from = by.from ∙ sym (node_old visits v predecessor l.place (omega arith));
      to = by.to ∙ sym (node_old visits v predecessor i h);
    }

-- how a node comes to be the next: it has a surplus, or a residual arc with room leads to it from a
-- visited one
pub record IsNextPredecessor (s : Pseudoflow) (visits : List Visit) (v : ℕ) (l : Predecessor) : Type 0 where
  pub earlier : l.place < length visits
  pub room : HasRoom s l.along
  pub from : tail s.net l.along ≡ node_at visits l.place
  pub to : head s.net l.along ≡ v

abbrev pub IsNext : Pseudoflow → List Visit → ℕ → Option Predecessor → Type 0
IsNext s visits v None = pos 0 <ℤ surplus_at s v
IsNext s visits v (Some l) = IsNextPredecessor s visits v l

reached_new : (s : Pseudoflow) (visits : List Visit) (v : ℕ) (predecessor : Option Predecessor) → IsNext s visits v predecessor
    → IsReachedBy s (pushed_visit visits v predecessor) (length visits) predecessor
reached_new s visits v None next = rw (node_new visits v None (length visits) refl) next
reached_new s visits v (Some l) next =
    let earlier = next.earlier in
    record {
      earlier = next.earlier;
      room = next.room;
      from = next.from ∙ sym (node_old visits v (Some l) l.place (omega arith));
      to = next.to ∙ sym (node_new visits v (Some l) (length visits) refl);
    }

-- a node that is not visited yet has its place among the visits
pub search_room : (s : Pseudoflow) (table : List Bool) (visits : List Visit) (v : ℕ) → IsPathSearch s table visits → IsNode (node_count s.net) v
    → in_table table v ≡ false → length visits < node_count s.net
search_room s table visits v ok h new =
    let here : IsNode (length table) v = omega (arith, h, ok.nodes) in
    let few = count_small (with_node table v) in
    let more = counted_new table v here new in
    let same = length-set table (v - 1) true in
    omega (arith, few, more, same, ok.nodes, ok.count)

module _ (s : Pseudoflow) (table : List Bool) (visits : List Visit) (v : ℕ) (predecessor : Option Predecessor) (ok : IsPathSearch s table visits)
    (h : IsNode (node_count s.net) v) (new : in_table table v ≡ false) (next : IsNext s visits v predecessor) where
  in_range : IsNode (length table) v
  in_range = omega (arith, ok.nodes)

  by_place : {P : ℕ → Type 0} → ((i : ℕ) → i < length visits → P i) → P (length visits) → (i : ℕ) → i < length (pushed_visit visits v predecessor) → P i
  by_place {P} old here i l =
      let n = length_push visits (visit_of v predecessor) in
      elim (cases_eq i (length visits)) [
        | inl e ↦ subst P (sym e) here
        | inr m ↦ old i (omega arith)
      ]

  pub search_push : IsPathSearch s (with_node table v) (pushed_visit visits v predecessor)
  search_push =
      let n = length_push visits (visit_of v predecessor) in
      record {
        forest = record {
          are_nodes = by_place {P = λ i. IsNode (node_count s.net) (node_at (pushed_visit visits v predecessor) i)}
              (λ i l. rw (node_old visits v predecessor i l) (ok.forest.are_nodes i l)) (rw (node_new visits v predecessor (length visits) refl) h);
          distinct = λ i j less l. elim (cases_eq j (length visits)) [
            | inl e ↦ (λ same. false≢true (sym new ∙ ap (in_table table) (sym (node_new visits v predecessor j (sym e)) ∙ sym same
                ∙ node_old visits v predecessor i (omega arith)) ∙ ok.marked i (omega arith)))
            | inr m ↦ (λ same. ok.forest.distinct i j less (omega (arith, n)) (sym (node_old visits v predecessor i (omega (arith, n))) ∙ same
                ∙ node_old visits v predecessor j (omega (arith, n))))
          ];
          reached = by_place {P = λ i. IsReachedBy s (pushed_visit visits v predecessor) i (visit_at (pushed_visit visits v predecessor) i).predecessor}
              (λ i l. rw (at_old visits v predecessor i l) (reached_old s visits v predecessor i (visit_at visits i).predecessor l (ok.forest.reached i l)))
              (rw (at_new visits v predecessor (length visits) refl) (reached_new s visits v predecessor next));
        };
        nodes = length-set table (v - 1) true ∙ ok.nodes;
        count = omega (arith, n, ok.count, counted_new table v in_range new);
        marked = by_place {P = λ i. in_table (with_node table v) (node_at (pushed_visit visits v predecessor) i) ≡ true}
            (λ i l. rw (node_old visits v predecessor i l) (marked_still table v (node_at visits i) in_range (ok.marked i l)))
            (rw (node_new visits v predecessor (length visits) refl) (marked_new table v in_range));
        every = λ w k e. elim (marked_only table v w in_range (omega (arith, ok.nodes)) e) [
          | inl same ↦ (length visits, omega (arith, n), node_new visits v predecessor (length visits) refl ∙ sym same)
          | inr old ↦ (let (i, l, at) = ok.every w k old in (i, omega (arith, n), node_old visits v predecessor i l ∙ at))
        ];
      }

  -- the node takes
  pub found_push : surplus_at s v <ℤ pos 0 → IsFound s (pushed_visit visits v predecessor)
  found_push low =
      let n = length_push visits (visit_of v predecessor) in
      let last : length (pushed_visit visits v predecessor) - 1 ≡ length visits = omega (arith, n) in
      record {
        forest = search_push.forest;
        some = omega (arith, n);
        deficit = rw (last, node_new visits v predecessor (length visits) refl) low;
      }

  -- the node does not take
  pub scanned_push : (scanned : ℕ) → IsScanned s table visits scanned → pos 0 ≤ℤ surplus_at s v
      → IsScanned s (with_node table v) (pushed_visit visits v predecessor) scanned
  scanned_push scanned old low =
      let within = old.within in
      record {
        search = search_push;
        within = omega (arith, length_push visits (visit_of v predecessor));
        no_deficit = by_place {P = λ i. pos 0 ≤ℤ surplus_at s (node_at (pushed_visit visits v predecessor) i)}
            (λ i l. rw (node_old visits v predecessor i l) (old.no_deficit i l)) (rw (node_new visits v predecessor (length visits) refl) low);
        closed = λ i l r room from. marked_still table v (head s.net r) in_range (old.closed i l r room (from ∙ node_old visits v predecessor i (omega arith)));
      }

-- ---- the nodes with a surplus

-- the nodes up to k that have a surplus are visited, and no node after them
pub record IsStarted (s : Pseudoflow) (table : List Bool) (visits : List Visit) (k : ℕ) : Type 0 where
  pub scanned : IsScanned s table visits 0
  pub untouched : (v : ℕ) → k < v → in_table table v ≡ false
  pub sources : (v : ℕ) → IsNode (node_count s.net) v → v ≤ k → pos 0 <ℤ surplus_at s v → in_table table v ≡ true

module _ (s : Pseudoflow) (table : List Bool) (visits : List Visit) (k v : ℕ) (old : IsStarted s table visits k) (is : v ≡ k + 1) where
  pub started_push : IsNode (node_count s.net) v → pos 0 <ℤ surplus_at s v → IsStarted s (with_node table v) (pushed_visit visits v None) (k + 1)
  started_push h high =
      let ok = old.scanned.search in
      let new = old.untouched v (omega arith) in
      let here : IsNode (length table) v = omega (arith, ok.nodes) in
      record {
        scanned = scanned_push s table visits v None ok h new high 0 old.scanned (omega (arith, ints, high));
        untouched = λ w l. get_or-set_other table (v - 1) (w - 1) true false (λ e. absurd (omega arith)) ∙ old.untouched w (omega arith);
        sources = λ w q l p. elim (cases_eq w v) [
          | inl e ↦ rw e (marked_new table v here)
          | inr m ↦ marked_still table v w here (old.sources w q (omega arith) p)
        ];
      }

  pub started_skip : surplus_at s v ≤ℤ pos 0 → IsStarted s table visits (k + 1)
  started_skip low =
      record {
        scanned = old.scanned;
        untouched = λ w l. old.untouched w (omega arith);
        sources = λ w q l p. elim (cases_eq w v) [
          | inl e ↦ absurd (let at = ap (surplus_at s) e in omega (arith, ints, at, p, low))
          | inr m ↦ old.sources w q (omega arith) p
        ];
      }

-- if none is visited, none has a surplus
pub none_started : (s : Pseudoflow) (table : List Bool) (visits : List Visit) (k : ℕ) → IsStarted s table visits k → node_count s.net ≤ k → length visits ≡ 0
    → (v : ℕ) → IsNode (node_count s.net) v → surplus_at s v ≤ℤ pos 0
none_started s table visits k ok all none v h =
    by_lt_z (pos 0) (surplus_at s v) (λ p. absurd (let w = ok.scanned.search.every v h (ok.sources v h (omega arith) p) in omega (arith, w.1, none))) (λ p. p)

pub started_end : (s : Pseudoflow) (table : List Bool) (visits : List Visit) (k n : ℕ) (empty : Bool) → IsStarted s table visits k → node_count s.net ≤ k
    → n ≡ length visits → empty ≡ eqb n 0 → MatchBool (not empty) (0 < length visits) ((v : ℕ) → IsNode (node_count s.net) v → surplus_at s v ≤ℤ pos 0)
started_end s table visits k n empty ok all len e =
    elim (cases_eq n 0) [
      | inl z ↦ rw (e ∙ eq-eqb n 0 z) (none_started s table visits k ok all (sym len ∙ z))
      | inr m ↦ rw (e ∙ ne_eqb n 0 m) (omega arith)
    ]

-- ---- the residual arcs that leave one node

-- each residual arc with room that leaves the node at a place leads to a visited one, or is still
-- to come
pub record IsScanning (s : Pseudoflow) (table : List Bool) (visits : List Visit) (place : ℕ) (rest : List Rid) : Type 0 where
  pub scanned : IsScanned s table visits place
  pub in_range : place < length visits
  pub each : All (Leaves s.net (node_at visits place)) rest
  pub left : (r : Rid) → HasRoom s r → tail s.net r ≡ node_at visits place → (in_table table (head s.net r) ≡ true) ⊎ Contains rest r

module _ (s : Pseudoflow) (table : List Bool) (visits : List Visit) (place : ℕ) (r : Rid) (rest : List Rid)
    (old : IsScanning s table visits place (r ∷ rest)) where
  pub scanning_leaves : Leaves s.net (node_at visits place) r
  scanning_leaves = All-head (Leaves s.net (node_at visits place)) r rest old.each

  -- the residual arc has no room
  pub scanning_closed : room_of s r ≤ℤ pos 0 → IsScanning s table visits place rest
  scanning_closed none =
      record {
        scanned = old.scanned;
        in_range = old.in_range;
        each = All-tail (Leaves s.net (node_at visits place)) r rest old.each;
        left = λ q room from. elim (old.left q room from) [
          | inl m ↦ inl m
          | inr c ↦ elim (Contains-cons r rest q c) [
            | inl e ↦ absurd (let at = ap (room_of s) e in let p = room.room in omega (arith, ints, at, p, none))
            | inr more ↦ inr more
          ]
        ];
      }

  -- it leads to a visited node
  pub scanning_marked : in_table table (head s.net r) ≡ true → IsScanning s table visits place rest
  scanning_marked marked =
      record {
        scanned = old.scanned;
        in_range = old.in_range;
        each = All-tail (Leaves s.net (node_at visits place)) r rest old.each;
        left = λ q room from. elim (old.left q room from) [
          | inl m ↦ inl m
          | inr c ↦ elim (Contains-cons r rest q c) [
            | inl e ↦ inl (ap (λ (x : Rid). in_table table (head s.net x)) (sym e) ∙ marked)
            | inr more ↦ inr more
          ]
        ];
      }

-- it leads to a node that is visited now
module _ (s : Pseudoflow) (table : List Bool) (visits : List Visit) (place : ℕ) (r : Rid) (rest : List Rid) (old : IsScanning s table visits place (r ∷ rest))
    (to : ℕ) (l : Predecessor) (room : HasRoom s r) (end : head s.net r ≡ to) (is : l ≡ record { place = place; along = r }) (h : IsNode (node_count s.net) to)
    (new : in_table table to ≡ false) where
  next_along : IsNext s visits to (Some l)
  next_along =
      let leaves = scanning_leaves s table visits place r rest old in
      record {
        earlier = rw is old.in_range;
        room = rw is room;
        from = rw is leaves.from;
        to = rw is end;
      }

  -- and does not take
  pub scanning_push : pos 0 ≤ℤ surplus_at s to → IsScanning s (with_node table to) (pushed_visit visits to (Some l)) place rest
  scanning_push low =
      let here : IsNode (length table) to = omega (arith, h, old.scanned.search.nodes) in
      let kept = node_old visits to (Some l) place old.in_range in
      let in_range = old.in_range in
      record {
        scanned = scanned_push s table visits to (Some l) old.scanned.search h new next_along place old.scanned low;
        in_range = omega (arith, length_push visits (visit_of to (Some l)));
        each = rw kept (All-tail (Leaves s.net (node_at visits place)) r rest old.each);
        left = λ q has from. elim (old.left q has (from ∙ kept)) [
          | inl m ↦ inl (marked_still table to (head s.net q) here m)
          | inr c ↦ elim (Contains-cons r rest q c) [
            | inl e ↦ inl (ap (λ (x : Rid). in_table (with_node table to) (head s.net x)) (sym e) ∙ ap (in_table (with_node table to)) end
                ∙ marked_new table to here)
            | inr more ↦ inr more
          ]
        ];
      }

  -- and where it takes, the search is over
  pub scanning_found : surplus_at s to <ℤ pos 0 → IsFound s (pushed_visit visits to (Some l))
  scanning_found low =
      found_push s table visits to (Some l) old.scanned.search h new next_along low

-- no residual arc is to come
pub scanning_end : (s : Pseudoflow) (table : List Bool) (visits : List Visit) (place : ℕ) → IsScanning s table visits place []
    → IsScanned s table visits (place + 1)
scanning_end s table visits place all =
    let in_range = all.in_range in
    record {
      search = all.scanned.search;
      within = omega arith;
      no_deficit = all.scanned.no_deficit;
      closed = λ i l r room from. elim (cases_eq i place) [
        | inl e ↦ elim (all.left r room (from ∙ ap (node_at visits) e)) [
          | inl m ↦ m
          | inr (k, l, at) ↦ absurd (omega arith)
        ]
        | inr n ↦ all.scanned.closed i (omega arith) r room from
      ];
    }

-- ---- what a search is stuck in

source_at : (s : Pseudoflow) (visits : List Visit) (predecessor : Option Predecessor) → IsReachedBy s visits 0 predecessor
    → pos 0 <ℤ surplus_at s (node_at visits 0)
source_at s visits None by = by
source_at s visits (Some l) by = absurd (let earlier = by.earlier in omega arith)

pub stuck_at : (s : Pseudoflow) (table : List Bool) (visits : List Visit) (scanned : ℕ) → IsPseudoflow s → IsScanned s table visits scanned
    → length visits ≤ scanned → 0 < length visits → IsStuck s (in_table table)
stuck_at s table visits scanned flow ok all some =
    record {
      closed = λ r room marked. let (i, l, at) = ok.search.every (tail s.net r) (tail_is_node s.net r.arc r.back flow.of_net room.arc) marked in
          ok.closed i (omega arith) r room (sym at);
      no_deficit = λ v h marked. let (i, l, at) = ok.search.every v h marked in subst (λ w. pos 0 ≤ℤ surplus_at s w) at (ok.no_deficit i l);
      source = (
        node_at visits 0,
        ok.search.forest.are_nodes 0 some,
        ok.search.marked 0 some,
        source_at s visits (visit_at visits 0).predecessor
            (ok.search.forest.reached 0 some),
      );
    }
