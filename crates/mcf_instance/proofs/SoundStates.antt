-- The reader's states stay sound, and a sound state holds a well-formed instance.
use Rattle.std.proofs.Common.{◌≡◌, ℕ, zero, suc, ◌+◌, ◌-◌, ◌*◌, ◌≤◌, max, Bool, true, false, List, [], ◌∷◌, ◌++◌, map, length, get_or, set, replicate, refl}
use Rattle.std.proofs.Common.{sym}
use Rattle.std.proofs.Common.{◌∙◌, ap, subst, inl, inr, Some, None, arith}
use Rattle.std.specs.Prelude.{◌⊎◌, Option, ℤ, pos, neg_ℤ, unsigned_abs, sum}
use Rattle.std.specs.List.{All}
use Rattle.std.proofs.lemmas.Int.{ints}
use Rattle.std.proofs.lemmas.List.{length-map, length-set, length-replicate, map-append, map-set, get_or-map, length_push, nil_from_length}
use Rattle.std.proofs.lemmas.List.Elements.{All-nil, All-replicate, All-set, All-push, All-map}
use Rattle.std.proofs.lemmas.List.Sums.{sum_by-append, sum_by-le, sum-map}
use Rattle.std.proofs.Math.Nat.{mul-le-mul}
use Rattle.mcf_flows.specs.declared.arc.Arc.{Arc}
use Rattle.mcf_flows.specs.declared.arc.PackedArc.{PackedArc}
use Rattle.mcf_flows.specs.declared.problem.Problem.{Problem as Format}
use Rattle.mcf_flows.specs.declared.problem.Problem.TheVariants.{Min, Asn}
use Rattle.mcf_instance.specs.declared.reader.line.Header.{Header}
use Rattle.mcf_flows.specs.Assignment.{OnAssignment, IsAssignment, IsPairing}
use Rattle.mcf_flows.specs.Blocking.{in_table}
use Rattle.mcf_flows.specs.Limits.{limits, total_limit, node_limit, arc_limit}
use Rattle.mcf_flows.specs.Network.{at_node}
use Rattle.mcf_flows.specs.Packed.{unpacked}
use Rattle.mcf_instance.specs.Private.ReaderState.{default_supply, problem_or_min}
use Rattle.mcf_instance.specs.Private.ReaderSound.{HeaderFits, IsFlaggedPair, IsSound, IsSoundAssignment, LinkFits, OnMin, SupplyFits, header_arcs}
use Rattle.mcf_instance.specs.Private.ReaderSound.{header_nodes}
use Rattle.mcf_instance.specs.Private.ReaderSound.{side_supply}
use Rattle.mcf_flows.specs.WellFormed.{HasEnds, IsArcWithinLimits, IsUpTo, IsWellFormed, weight}
use Rattle.mcf_flows.proofs.Bounds.{size_up_to}
use Rattle.mcf_instance.proofs.Totals.{sum_one}

-- ---- a problem line

pub map-replicate : {X Y : Type 0} (f : X → Y) (n : ℕ) (x : X) → map f (replicate n x) ≡ replicate n (f x)
map-replicate f zero x = refl
map-replicate f (suc n) x = ap (λ ys. f x ∷ ys) (map-replicate f n x)

default_small : (p : Format) → IsUpTo limits.supply (default_supply p)
default_small Min = (omega (arith, ints), omega (arith, ints))
default_small Asn = (omega (arith, ints), omega (arith, ints))

sides_at_first : (p : Format) (n : ℕ) → OnAssignment p (IsSoundAssignment (replicate n false) (replicate n (default_supply p)) [])
sides_at_first Min n = tt
sides_at_first Asn n = record { supplies_are = sym (map-replicate side_supply n false); pairings = All-nil _ }

first_header : (h : Header) (total : ℕ) → h.nodes ≤ node_limit → h.arcs ≤ arc_limit → total ≡ sum (map weight (map unpacked [])) → total ≤ total_limit
    → IsSound limits (Some h) (replicate h.nodes false) (replicate h.nodes (default_supply h.problem)) [] total
first_header h total nodes arcs none small =
    record {
      nodes_small = nodes;
      arcs_small = arcs;
      one_flag_a_node = length-replicate h.nodes false;
      one_supply_a_node = length-replicate h.nodes (default_supply h.problem);
      arc_room = omega arith;
      ends = All-nil _;
      arcs_within = All-nil _;
      supplies_within = All-replicate (IsUpTo limits.supply) h.nodes (default_supply h.problem) (default_small h.problem);
      total_is = none;
      total_small = small;
      assignment = sides_at_first h.problem h.nodes;
    }

pub sound_header : (o : Option Header) (listed : List Bool) (supplies : List ℤ) (arcs : List PackedArc) (total : ℕ) (h : Header)
    → IsSound limits o listed supplies arcs total → HeaderFits o h
    → IsSound limits (Some h) (replicate h.nodes false) (replicate h.nodes (default_supply h.problem)) arcs total
sound_header o listed supplies arcs total h sound fits =
    let none : length arcs ≤ header_arcs None = subst (λ p. length arcs ≤ header_arcs p) fits.first sound.arc_room in
    let empty : arcs ≡ [] = nil_from_length arcs (omega (arith, none)) in
    let start : total ≡ sum (map weight (map unpacked [])) = sound.total_is ∙ ap (λ xs. sum (map weight (map unpacked xs))) empty in
    subst (λ xs. IsSound limits (Some h) (replicate h.nodes false) (replicate h.nodes (default_supply h.problem)) xs total)
    (sym empty) (first_header h total fits.nodes_small fits.arcs_small start sound.total_small)

-- ---- a node line

sides_after : (p : Format) (listed : List Bool) (supplies : List ℤ) (k : ℕ) (z : ℤ) → OnAssignment p (IsSoundAssignment listed supplies [])
    → OnAssignment p (z ≡ pos 1)
    → OnAssignment p (IsSoundAssignment (set listed k true) (set supplies k z) [])
sides_after Min listed supplies k z h e = tt
sides_after Asn listed supplies k z h e =
    record {
      supplies_are = ap (λ x. set supplies k x) e ∙ ap (λ xs. set xs k (pos 1)) h.supplies_are ∙ sym (map-set side_supply listed k true);
      pairings = All-nil _;
    }

pub sound_supply : (o : Option Header) (listed : List Bool) (supplies : List ℤ) (arcs : List PackedArc) (total v : ℕ) (z : ℤ)
    → IsSound limits o listed supplies arcs total → SupplyFits limits o arcs v z
    → IsSound limits o (set listed (v - 1) true) (set supplies (v - 1) z) arcs total
sound_supply o listed supplies arcs total v z sound fits =
    record {
      nodes_small = sound.nodes_small;
      arcs_small = sound.arcs_small;
      one_flag_a_node = length-set listed (v - 1) true ∙ sound.one_flag_a_node;
      one_supply_a_node = length-set supplies (v - 1) z ∙ sound.one_supply_a_node;
      arc_room = sound.arc_room;
      ends = sound.ends;
      arcs_within = sound.arcs_within;
      supplies_within = All-set (IsUpTo limits.supply) supplies (v - 1) z fits.small sound.supplies_within;
      total_is = sound.total_is;
      total_small = sound.total_small;
      assignment = subst (λ xs. OnAssignment (problem_or_min o) (IsSoundAssignment (set listed (v - 1) true) (set supplies (v - 1) z) xs))
          (sym fits.before_arcs)
          (sides_after (problem_or_min o) listed supplies (v - 1) z (subst (λ xs. OnAssignment (problem_or_min o) (IsSoundAssignment listed supplies xs))
          fits.before_arcs sound.assignment) fits.assignment);
    }

-- ---- an arc line

pub push_arc : (P : Arc → Type 0) (arcs : List PackedArc) (a : PackedArc) → All P (map unpacked arcs) → P (unpacked a) → All P (map unpacked (arcs ++ a ∷ []))
push_arc P arcs a all h = rw (map-append unpacked arcs (a ∷ [])) (All-push P (map unpacked arcs) (unpacked a) all h)

pub flag_supply : (listed : List Bool) (v : ℕ) → 1 ≤ v → v ≤ length listed → at_node (map side_supply listed) v ≡ side_supply (in_table listed v)
flag_supply listed v low high = get_or-map side_supply listed (v - 1) false (pos 0) (omega arith)

sides_with_arc : (p : Format) (listed : List Bool) (supplies : List ℤ) (arcs : List PackedArc) (a : PackedArc) (n : ℕ) → length listed ≡ n
    → HasEnds n (unpacked a)
    → OnAssignment p (IsSoundAssignment listed supplies arcs) → OnAssignment p (IsFlaggedPair listed a)
    → OnAssignment p (IsSoundAssignment listed supplies (arcs ++ a ∷ []))
sides_with_arc Min listed supplies arcs a n long ends h pair = tt
sides_with_arc Asn listed supplies arcs a n long ends h pair =
    record {
      supplies_are = h.supplies_are;
      pairings = push_arc (IsPairing supplies) arcs a h.pairings record {
        from_row = ap (λ xs. at_node xs a.src) h.supplies_are ∙ flag_supply listed a.src ends.src_is_node.0 (omega (arith, ends.src_is_node.1))
            ∙ ap side_supply pair.from_flagged;
        to_column = ap (λ xs. at_node xs a.dst) h.supplies_are ∙ flag_supply listed a.dst ends.dst_is_node.0 (omega (arith, ends.dst_is_node.1))
            ∙ ap side_supply pair.to_unflagged;
        low_is = pair.low_is;
        cap_is = pair.cap_is;
      };
    }

pub weights_push : (arcs : List PackedArc) (a : PackedArc)
    → sum (map weight (map unpacked (arcs ++ a ∷ []))) ≡ sum (map weight (map unpacked arcs)) + weight (unpacked a)
weights_push arcs a =
    let lists : map weight (map unpacked (arcs ++ a ∷ [])) ≡ map weight (map unpacked arcs) ++ weight (unpacked a) ∷ [] =
    ap (map weight) (map-append unpacked arcs (a ∷ [])) ∙ map-append weight (map unpacked arcs) (unpacked a ∷ []) in
    ap sum lists ∙ sum_by-append (λ n. n) (map weight (map unpacked arcs)) (weight (unpacked a) ∷ [])
    ∙ ap (λ n. sum (map weight (map unpacked arcs)) + n) (sum_one (weight (unpacked a)))

-- an arc of an assignment carries one unit at most
pair_weight : (supplies : List ℤ) (a : Arc) → IsPairing supplies a → IsArcWithinLimits limits a → weight a ≤ limits.cost * 1
pair_weight supplies a pair h =
    let cost = size_up_to limits.cost a.cost h.cost_small in
    let most : max (unsigned_abs a.low) (unsigned_abs a.cap) ≤ 1 = rw (pair.low_is, pair.cap_is) (omega arith) in
    mul-le-mul cost most

-- the total with one more arc: of `min` by the test, of an assignment by the number of arcs
total_after : (p : Format) (listed : List Bool) (supplies : List ℤ) (arcs : List PackedArc) → length (map unpacked arcs) ≤ arc_limit
    → All (IsArcWithinLimits limits) (map unpacked arcs) → OnAssignment p (IsSoundAssignment listed supplies arcs)
    → OnMin p (sum (map weight (map unpacked arcs)) ≤ total_limit) → sum (map weight (map unpacked arcs)) ≤ total_limit
total_after Min listed supplies arcs few within sides fits = fits
total_after Asn listed supplies arcs few within sides fits =
    let each = sum_by-le weight (limits.cost * 1) (map unpacked arcs) (λ i d l. pair_weight supplies _ (sides.pairings i d l) (within i d l)) in
    let same = sum-map weight (map unpacked arcs) in
    omega arith

on_min : {P Q : Type 0} (p : Format) → (P → Q) → OnMin p P → OnMin p Q
on_min Min f h = f h
on_min Asn f h = tt

pub sound_link : (o : Option Header) (listed : List Bool) (supplies : List ℤ) (arcs : List PackedArc) (total : ℕ) (a : PackedArc)
    → IsSound limits o listed supplies arcs total → LinkFits limits o listed arcs total a
    → IsSound limits o listed supplies (arcs ++ a ∷ []) (total + weight (unpacked a))
sound_link o listed supplies arcs total a sound fits =
    let more = length_push arcs a in
    let room : length (arcs ++ a ∷ []) ≤ header_arcs o = omega (arith, fits.room) in
    let few : length (map unpacked (arcs ++ a ∷ [])) ≤ arc_limit = rw (length-map (arcs ++ a ∷ []) unpacked) (omega (arith, room, sound.arcs_small)) in
    let within = push_arc (IsArcWithinLimits limits) arcs a sound.arcs_within fits.is_within in
    let sides = sides_with_arc (problem_or_min o) listed supplies arcs a (header_nodes o) sound.one_flag_a_node fits.ends sound.assignment fits.assignment in
    let total_is : total + weight (unpacked a) ≡ sum (map weight (map unpacked (arcs ++ a ∷ []))) =
    ap (λ t. t + weight (unpacked a)) sound.total_is ∙ sym (weights_push arcs a) in
    let fitting = on_min (problem_or_min o) (subst (λ t. t ≤ total_limit) total_is) fits.total_small in
    record {
      nodes_small = sound.nodes_small;
      arcs_small = sound.arcs_small;
      one_flag_a_node = sound.one_flag_a_node;
      one_supply_a_node = sound.one_supply_a_node;
      arc_room = room;
      ends = push_arc (HasEnds (header_nodes o)) arcs a sound.ends fits.ends;
      arcs_within = within;
      supplies_within = sound.supplies_within;
      total_is = total_is;
      total_small = subst (λ t. t ≤ total_limit) (sym total_is) (total_after (problem_or_min o) listed supplies (arcs ++ a ∷ []) few within sides fitting);
      assignment = sides;
    }

-- ---- the instance at the end

side_supply_is : (b : Bool) → (side_supply b ≡ pos 1) ⊎ (side_supply b ≡ neg_ℤ (pos 1))
side_supply_is true = inl refl
side_supply_is false = inr refl

assignment_at_end : (p : Format) (listed : List Bool) (supplies : List ℤ) (arcs : List PackedArc) → OnAssignment p (IsSoundAssignment listed supplies arcs)
    → OnAssignment p (IsAssignment (record { problem = p; arcs = map unpacked arcs; supplies = supplies }))
assignment_at_end Min listed supplies arcs h = tt
assignment_at_end Asn listed supplies arcs h =
    record {
      each_supply = let P : ℤ → Type 0 = λ b. (b ≡ pos 1) ⊎ (b ≡ neg_ℤ (pos 1)) in subst (λ xs. All P xs) (sym h.supplies_are)
          (All-map P side_supply listed (λ k d l. side_supply_is (get_or listed k d)));
      each_arc = h.pairings;
    }

pub well_formed : (header : Option Header) (listed : List Bool) (supplies : List ℤ) (arcs : List PackedArc) (total : ℕ)
    → IsSound limits header listed supplies arcs total
    → IsWellFormed limits (record { problem = problem_or_min header; arcs = map unpacked arcs; supplies = supplies })
well_formed header listed supplies arcs total sound =
    let nodes : length supplies ≡ header_nodes header = sound.one_supply_a_node in
    let few : length (map unpacked arcs) ≤ arc_limit = rw (length-map arcs unpacked) (omega (arith, sound.arc_room, sound.arcs_small)) in
    let total_small : sum (map weight (map unpacked arcs)) ≤ total_limit = subst (λ t. t ≤ total_limit) sound.total_is sound.total_small in
    record {
      nodes = omega (arith, sound.nodes_small);
      arcs = few;
      ends = subst (λ n. All (HasEnds n) (map unpacked arcs)) (sym nodes) sound.ends;
      within = record { arcs = sound.arcs_within; supplies = sound.supplies_within; total = total_small };
      assignment = assignment_at_end (problem_or_min header) listed supplies arcs sound.assignment;
    }
