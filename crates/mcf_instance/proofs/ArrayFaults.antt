-- Which arrays have a fault.
use Rattle.std.proofs.Common.{◌≡◌, ℕ, ◌+◌, ◌<◌, ◌≤◌, Bool, true, false, not, ◌&&◌, ◌||◌, List, [], ◌∷◌, ◌++◌, map, length, replicate, take, drop, get_or, refl, sym, ◌∙◌, ap, subst}
use Rattle.std.proofs.Common.{Some, None, Ok, Err, arith}
use Rattle.std.specs.Prelude.{◌↔◌, IfOk, Option, Result, is_ok, option_map, ℤ, pos, neg_ℤ, int_lt, nat_le, nat_lt, sum, ◌≤ℤ◌}
use Rattle.std.specs.List.{All}
use Rattle.std.specs.Ordering.{int_eq}
use Rattle.std.proofs.lemmas.Bool.{and_from, and_right}
use Rattle.std.proofs.lemmas.Int.{ints}
use Rattle.std.proofs.lemmas.List.{get_or-map, length-append, length-map, length-replicate, length-take-le, map-append, take_more, take-append-drop}
use Rattle.std.proofs.lemmas.List.Elements.{All-append, All-replicate}
use Rattle.std.proofs.lemmas.List.Sums.{sum-map, sum_by-take-drop}
use Rattle.std.proofs.lemmas.Bool.Decides.{Decides-int_eq}
use Rattle.std.proofs.lemmas.Option.{none-some}
use Rattle.mcf_flows.specs.declared.arc.Arc.{Arc}
use Rattle.mcf_flows.specs.declared.arc.PackedArc.{PackedArc}
use Rattle.mcf_instance.specs.declared.arrays.ArrayFault.{ArrayFault}
use Rattle.mcf_instance.specs.declared.arrays.ArrayFault.TheVariants.{Size, Supply as FaultySupply, Arc as FaultyArc}
use Rattle.mcf_instance.specs.declared.arrays.RawPair.{RawPair}
use Rattle.mcf_flows.specs.declared.code.Code.{Code}
use Rattle.mcf_flows.specs.declared.code.Code.TheVariants.{Bound, Order, Cost, Side, Total}
use Rattle.mcf_flows.specs.declared.problem.Problem.{Problem as Format}
use Rattle.mcf_flows.specs.declared.problem.Problem.TheVariants.{Min, Asn}
use Rattle.mcf_instance.specs.declared.reader.line.ArcNumbers.{ArcNumbers}
use Rattle.mcf_instance.specs.declared.reader.line.Header.{Header}
use Rattle.mcf_instance.specs.Arrays.{arc_fault, arc_of_pair, array_fault, assignment_problem, code_of_arc, first_found, is_row_to_column, made_of_arrays, made_unless, sizes_fit, supply_fault}
use Rattle.mcf_flows.specs.Assignment.{OnAssignment, IsAssignment, IsPairing}
use Rattle.mcf_flows.specs.Blocking.{in_table}
use Rattle.mcf_instance.specs.Fault.{is_min, is_up_to, passes}
use Rattle.mcf_flows.specs.Limits.{limits, arc_limit, node_limit, total_limit}
use Rattle.mcf_flows.specs.Network.{Network, at_node, node_count}
use Rattle.mcf_flows.specs.Packed.{unpacked}
use Rattle.mcf_instance.specs.Private.ArrayStates.{HoldsArcs, Offered, numbers_of, sizes}
use Rattle.mcf_instance.specs.Private.LineReader.{arc_tests, is_wrong_side}
use Rattle.mcf_instance.specs.Private.ReaderSound.{IsSound, IsSoundAssignment, header_nodes, side_supply}
use Rattle.mcf_instance.specs.Private.ReaderState.{network_of, problem_or_min}
use Rattle.mcf_instance.specs.ReadOn.{StateData}
use Rattle.mcf_flows.specs.WellFormed.{HasEnds, IsUpTo, IsWellFormed, weight}
use Rattle.mcf_text.specs.Whole.{is_within}
use Rattle.mcf_instance.proofs.ArcLines.{packed}
use Rattle.mcf_instance.proofs.FirstFound.{first_found-longer, first_found-none, first_found-some, nothing_found}
use Rattle.mcf_instance.proofs.LineSteps.{unless_fault-amount_fault}
use Rattle.mcf_instance.proofs.NodeLines.{ok_unless, ok_unless_test}
use Rattle.mcf_instance.proofs.Ranges.{up_to_is}
use Rattle.mcf_flows.proofs.IntLaws.{at_most_passes}
use Rattle.mcf_instance.proofs.SoundStates.{flag_supply, map-replicate, weights_push}

-- a row and a column, by flags
side_tests : (listed : List Bool) (u v : ℕ) → 1 ≤ u → u ≤ length listed → 1 ≤ v → v ≤ length listed
    → not (in_table listed u) || in_table listed v
    ≡ not (int_eq (at_node (map side_supply listed) u) (pos 1) && int_eq (at_node (map side_supply listed) v) (neg_ℤ (pos 1)))
side_tests listed u v u_low u_high v_low v_high =
    rw (flag_supply listed u u_low u_high, flag_supply listed v v_low v_high) (go (in_table listed u) (in_table listed v))
  where
    go : (x y : Bool) → not x || y ≡ not (int_eq (side_supply x) (pos 1) && int_eq (side_supply y) (neg_ℤ (pos 1)))
    go true true = refl
    go true false = refl
    go false y = refl

-- the side that the reader tests is that of the definition
pub wrong_side_is : (g : Network) (h : Header) (listed : List Bool) (a : Arc) → h.problem ≡ g.problem → length listed ≡ node_count g
    → OnAssignment g.problem (g.supplies ≡ map side_supply listed) → HasEnds (node_count g) a
    → is_wrong_side h listed a.src a.dst ≡ (not (is_min g.problem) && not (is_row_to_column g a))
wrong_side_is g h listed a same long sides ends = rw same (at g.problem sides)
  where
    at : (p : Format) → OnAssignment p (g.supplies ≡ map side_supply listed)
        → (not (is_min p) && (not (in_table listed a.src) || in_table listed a.dst)) ≡ (not (is_min p) && not (is_row_to_column g a))
    at Min e = refl
    at Asn e =
        side_tests listed a.src a.dst ends.src_is_node.0 (omega (arith, long, ends.src_is_node.1)) ends.dst_is_node.0 (omega (arith, long, ends.dst_is_node.1))
        ∙ ap (λ xs. not (int_eq (at_node xs a.src) (pos 1) && int_eq (at_node xs a.dst) (neg_ℤ (pos 1)))) (sym e)

-- a number among those of nodes
pub node_within : (n v : ℕ) → is_within (pos 1) (pos n) (pos v) ≡ true → (1 ≤ v) × (v ≤ n)
node_within n v e = (grind arith, grind arith)

-- the tests of the reader find the fault of the definition, and else the arc
pub arc_read : (g : Network) (h : Header) (total : ℕ) (listed : List Bool) (earlier : List Arc) (a : Arc)
    → h.problem ≡ g.problem → h.nodes ≡ node_count g → length earlier < h.arcs
    → length listed ≡ node_count g → OnAssignment g.problem (g.supplies ≡ map side_supply listed)
    → total + weight a ≡ sum (map weight (earlier ++ a ∷ []))
    → arc_tests limits h (length earlier) total listed (numbers_of a) ≡ ok_unless (code_of_arc limits g earlier a) (packed a)
unfolding arc_tests
arc_read g h total listed earlier a same nodes room long sides sum_is =
    go (is_within (pos 1) (pos (node_count g)) (pos a.src)) (is_within (pos 1) (pos (node_count g)) (pos a.dst)) refl refl
  where
    few : nat_le h.arcs (length earlier) ≡ false
    few = grind (arith, room)

    go : (x y : Bool) → is_within (pos 1) (pos (node_count g)) (pos a.src) ≡ x → is_within (pos 1) (pos (node_count g)) (pos a.dst) ≡ y
        → arc_tests limits h (length earlier) total listed (numbers_of a) ≡ ok_unless (code_of_arc limits g earlier a) (packed a)
    go false y e f = rw (nodes, e) refl
    go true false e f = rw (nodes, e, f) refl
    go true true e f =
        let ends : HasEnds (node_count g) a = record { src_is_node = node_within (node_count g) a.src e; dst_is_node = node_within (node_count g) a.dst f } in
        rw (nodes, e, f, unless_fault-amount_fault, few, wrong_side_is g h listed a same long sides ends, same, sum_is)
        (ok_unless_test (not (is_up_to limits.bound a.low && is_up_to limits.bound a.cap)) Bound _ _ _ (λ _.
        ok_unless_test (int_lt a.cap a.low) Order _ _ _ (λ _.
        ok_unless_test (not (is_up_to limits.cost a.cost)) Cost _ _ _ (λ _.
        ok_unless_test (not (is_min g.problem) && not (is_row_to_column g a)) Side _ _ _ (λ _.
        ok_unless_test (is_min g.problem && passes limits.total (sum (map weight (earlier ++ a ∷ [])))) Total _ _ _ (λ _. refl))))))

-- ---- supplies

pub supply_none : (xs : List ℤ) (i : ℕ) (d : ℤ) → i < length xs → first_found (supply_fault limits) (take i xs) ≡ None
    → is_up_to limits.supply (get_or xs i d) ≡ true → first_found (supply_fault limits) (take (i + 1) xs) ≡ None
supply_none xs i d inside before here = first_found-none (supply_fault limits) xs i d inside before (rw here refl)

pub supply_some : (xs : List ℤ) (i : ℕ) (d : ℤ) → i < length xs → first_found (supply_fault limits) (take i xs) ≡ None
    → is_up_to limits.supply (get_or xs i d) ≡ false → Some (FaultySupply (i + 1)) ≡ first_found (supply_fault limits) xs
supply_some xs i d inside before here =
    let at : length (take i xs) ≡ i = length-take-le i xs (omega arith) in
    sym (first_found-some (supply_fault limits) xs i d (FaultySupply (i + 1)) inside before (rw (here, at) refl))

-- where no supply is faulty, all are within the limits
supplies_so_far : (xs : List ℤ) → first_found (supply_fault limits) xs ≡ None → (i : ℕ) (d : ℤ) → i < length xs → is_up_to limits.supply (get_or xs i d) ≡ true
supplies_so_far xs none i d inside = go (is_up_to limits.supply (get_or xs i d)) (first_found (supply_fault limits) (take i xs)) refl refl
  where
    at : length (take i xs) ≡ i
    at = length-take-le i xs (omega arith)

    go : (b : Bool) (o : Option ArrayFault) → is_up_to limits.supply (get_or xs i d) ≡ b → first_found (supply_fault limits) (take i xs) ≡ o
        → is_up_to limits.supply (get_or xs i d) ≡ true
    go true o e f = e
    go false None e f = absurd (none-some _ (sym (supply_some xs i d inside f e ∙ none)))
    go false (Some fault) e f =
        let found : first_found (supply_fault limits) xs ≡ Some fault =
        ap (first_found (supply_fault limits)) (sym (take-append-drop i xs)) ∙ first_found-longer (supply_fault limits) (take i xs) (drop i xs) fault f in
        absurd (none-some fault (sym none ∙ found))

pub supplies_within : (xs : List ℤ) → first_found (supply_fault limits) xs ≡ None → All (IsUpTo limits.supply) xs
supplies_within xs none i d inside = up_to_is limits.supply (get_or xs i d) (supplies_so_far xs none i d inside)

-- ---- arcs

on_assignment : {P Q : Type 0} (p : Format) → (P → Q) → OnAssignment p P → OnAssignment p Q
on_assignment Min f h = tt
on_assignment Asn f h = f h

-- a state that holds the arcs before one tests it as the definition does
offered_read : (g : Network) (s : StateData) (earlier : List Arc) (a : Arc) → length earlier < length g.arcs → HoldsArcs g earlier s
    → IsSound limits s.header s.listed s.supplies s.arcs s.total
    → arc_tests limits (sizes g) (length s.arcs) s.total s.listed (numbers_of a) ≡ ok_unless (code_of_arc limits g earlier a) (packed a)
offered_read g s earlier a room held sound =
    let count : length s.arcs ≡ length earlier = sym (length-map s.arcs unpacked) ∙ ap length held.arcs_are in
    let long : length s.listed ≡ node_count g = sound.one_flag_a_node ∙ ap header_nodes held.header in
    let problem : problem_or_min s.header ≡ g.problem = ap problem_or_min held.header in
    let sides : OnAssignment g.problem (g.supplies ≡ map side_supply s.listed) =
    subst (λ p. OnAssignment p (g.supplies ≡ map side_supply s.listed)) problem
    (on_assignment (problem_or_min s.header) (λ (h : IsSoundAssignment s.listed s.supplies s.arcs). sym held.supplies_are ∙ h.supplies_are) sound.assignment) in
    let grown : map unpacked (s.arcs ++ packed a ∷ []) ≡ earlier ++ a ∷ [] =
    map-append unpacked s.arcs (packed a ∷ []) ∙ ap (λ xs. xs ++ a ∷ []) held.arcs_are in
    let sum_is : s.total + weight a ≡ sum (map weight (earlier ++ a ∷ [])) =
    ap (λ n. n + weight a) sound.total_is ∙ sym (weights_push s.arcs (packed a)) ∙ ap (λ xs. sum (map weight xs)) grown in
    ap (λ n. arc_tests limits (sizes g) n s.total s.listed (numbers_of a)) count
    ∙ arc_read g (sizes g) s.total s.listed earlier a refl refl room long sides sum_is

taken_was_good : (o : Option Code) (x y : PackedArc) → Ok y ≡ ok_unless o x → (o ≡ None) × (y ≡ x)
taken_was_good None x y e = (refl, cc)
taken_was_good (Some z) x y e = cc

fault_was_found : (o : Option Code) (x : PackedArc) (found : Code) → Err found ≡ ok_unless o x → o ≡ Some found
fault_was_found None x found e = cc
fault_was_found (Some other) x found e = cc

pub arc_taken : (g : Network) (s t : StateData) (i : ℕ) (d : Arc) → i < length g.arcs → HoldsArcs g (take i g.arcs) s
    → IsSound limits s.header s.listed s.supplies s.arcs s.total → Offered s (sizes g) (numbers_of (get_or g.arcs i d)) None t
    → HoldsArcs g (take (i + 1) g.arcs) t
arc_taken g s t i d inside held sound (arc, tested, after) =
    let a = get_or g.arcs i d in
    let at : length (take i g.arcs) ≡ i = length-take-le i g.arcs (omega arith) in
    let good = taken_was_good (code_of_arc limits g (take i g.arcs) a) (packed a) arc
    (sym tested ∙ offered_read g s (take i g.arcs) a (omega (arith, at)) held sound) in
    let none : arc_fault limits g (take i g.arcs) a ≡ None = ap (option_map (FaultyArc (length (take i g.arcs) + 1))) good.0 in
    let more : map unpacked (s.arcs ++ arc ∷ []) ≡ take (i + 1) g.arcs =
    map-append unpacked s.arcs (arc ∷ []) ∙ ap (λ x. map unpacked s.arcs ++ unpacked x ∷ []) good.1
    ∙ ap (λ xs. xs ++ a ∷ []) held.arcs_are ∙ sym (take_more g.arcs i d inside) in
    subst (HoldsArcs g (take (i + 1) g.arcs)) (sym after) record {
      header = held.header;
      supplies_are = held.supplies_are;
      arcs_are = more;
      no_fault = first_found-none (arc_fault limits g) g.arcs i d inside held.no_fault none;
    }

pub arc_refused : (g : Network) (s t : StateData) (i : ℕ) (d : Arc) (code : Code) → i < length g.arcs → HoldsArcs g (take i g.arcs) s
    → IsSound limits s.header s.listed s.supplies s.arcs s.total → Offered s (sizes g) (numbers_of (get_or g.arcs i d)) (Some code) t
    → first_found (arc_fault limits g) g.arcs ≡ Some (FaultyArc (i + 1) code)
arc_refused g s t i d code inside held sound tested =
    let a = get_or g.arcs i d in
    let at : length (take i g.arcs) ≡ i = length-take-le i g.arcs (omega arith) in
    let found = fault_was_found (code_of_arc limits g (take i g.arcs) a) (packed a) code
    (sym tested ∙ offered_read g s (take i g.arcs) a (omega (arith, at)) held sound) in
    let some : arc_fault limits g (take i g.arcs) a ≡ Some (FaultyArc (i + 1) code) =
    ap (option_map (FaultyArc (length (take i g.arcs) + 1))) found ∙ ap (λ n. Some (FaultyArc (n + 1) code)) at in
    first_found-some (arc_fault limits g) g.arcs i d (FaultyArc (i + 1) code) inside held.no_fault some

-- ---- networks within the limits have no fault

up_to_passes : (b : ℕ) (z : ℤ) → IsUpTo b z → is_up_to b z ≡ true
up_to_passes b z h = and_from _ _ (at_most_passes (neg_ℤ (pos b)) z h.0) (at_most_passes z (pos b) h.1)

node_passes : (n v : ℕ) → 1 ≤ v → v ≤ n → is_within (pos 1) (pos n) (pos v) ≡ true
node_passes n v low high = and_from _ _ (at_most_passes (pos 1) (pos v) (omega (arith, ints))) (at_most_passes (pos v) (pos n) (omega (arith, ints)))

int_eq-same : (x y : ℤ) → x ≡ y → int_eq x y ≡ true
int_eq-same x y e = (Decides-int_eq x y).1 e

side_passes : (g : Network) (a : Arc) → OnAssignment g.problem (IsPairing g.supplies a) → (not (is_min g.problem) && not (is_row_to_column g a)) ≡ false
side_passes g a h = at g.problem h
  where
    at : (p : Format) → OnAssignment p (IsPairing g.supplies a) → (not (is_min p) && not (is_row_to_column g a)) ≡ false
    at Min h = refl
    at Asn h = rw (int_eq-same _ _ h.from_row, int_eq-same _ _ h.to_column) refl

total_passes : (arcs : List Arc) (i : ℕ) (d : Arc) → i < length arcs → sum (map weight arcs) ≤ total_limit
    → nat_lt total_limit (sum (map weight (take i arcs ++ get_or arcs i d ∷ []))) ≡ false
total_passes arcs i d inside small =
    let part = sum_by-take-drop weight arcs (i + 1) in
    let whole = sum-map weight arcs in
    let front = sum-map weight (take (i + 1) arcs) in
    let less : sum (map weight (take (i + 1) arcs)) ≤ total_limit = omega (arith, part, whole, front, small) in
    let near : sum (map weight (take i arcs ++ get_or arcs i d ∷ [])) ≤ total_limit = subst (λ xs. sum (map weight xs) ≤ total_limit) (take_more arcs i d inside) less in
    grind (arith, near)

arc_passes : (g : Network) (i : ℕ) (d : Arc) → IsWellFormed limits g → i < length g.arcs → code_of_arc limits g (take i g.arcs) (get_or g.arcs i d) ≡ None
arc_passes g i d h inside =
    let a = get_or g.arcs i d in
    let ends = h.ends i d inside in
    let within = h.within.arcs i d inside in
    let pairing : OnAssignment g.problem (IsPairing g.supplies a) = on_assignment g.problem (λ (q : IsAssignment g). q.each_arc i d inside) h.assignment in
    let total : (is_min g.problem && nat_lt total_limit (sum (map weight (take i g.arcs ++ a ∷ [])))) ≡ false = and_right (is_min g.problem) _ (total_passes g.arcs i d inside h.within.total) in
    rw (
      node_passes (node_count g) a.src ends.src_is_node.0 ends.src_is_node.1,
      node_passes (node_count g) a.dst ends.dst_is_node.0 ends.dst_is_node.1,
      up_to_passes limits.bound a.low within.low_small,
      up_to_passes limits.bound a.cap within.cap_small,
      not_below a.cap a.low within.ordered,
      up_to_passes limits.cost a.cost within.cost_small,
      side_passes g a pairing,
      total,
    ) refl
  where
    not_below : (x y : ℤ) → y ≤ℤ x → int_lt x y ≡ false
    not_below x y h = grind (arith, ints)

pub within_passes : (xs : List ℤ) → All (IsUpTo limits.supply) xs → first_found (supply_fault limits) xs ≡ None
within_passes xs h = nothing_found (supply_fault limits) xs (λ i d inside. rw (up_to_passes limits.supply (get_or xs i d) (h i d inside)) refl)

pub well_formed_passes : (g : Network) → IsWellFormed limits g → array_fault limits g ≡ None
unfolding array_fault
well_formed_passes g h =
    let fit : sizes_fit g ≡ true = and_from (nat_le (node_count g) node_limit) (nat_le (length g.arcs) arc_limit) (grind (arith, h.nodes)) (grind (arith, h.arcs)) in
    let supplies = within_passes g.supplies h.within.supplies in
    let arcs : first_found (arc_fault limits g) g.arcs ≡ None =
    nothing_found (arc_fault limits g) g.arcs (λ i d inside. ap (option_map (FaultyArc (length (take i g.arcs) + 1))) (arc_passes g i d h inside)) in
    rw (fit, supplies, arcs) refl

-- what is made of arrays, in the order of the tests
pub sizes_refused : (g : Network) → sizes_fit g ≡ false → Err Size ≡ made_of_arrays limits g
unfolding array_fault
sizes_refused g e = rw e refl

pub supply_refused : (g : Network) (fault : ArrayFault) → sizes_fit g ≡ true → first_found (supply_fault limits) g.supplies ≡ Some fault
    → Err fault ≡ made_of_arrays limits g
unfolding array_fault
supply_refused g fault e f = rw (e, f) refl

pub arc_refused_at_end : (g : Network) (fault : ArrayFault) → sizes_fit g ≡ true → first_found (supply_fault limits) g.supplies ≡ None
    → first_found (arc_fault limits g) g.arcs ≡ Some fault → Err fault ≡ made_of_arrays limits g
unfolding array_fault
arc_refused_at_end g fault e f a = rw (e, f, a) refl

-- the network of a state that holds all arcs
pub made_at_end : (g x : Network) (s : StateData) → sizes_fit g ≡ true → first_found (supply_fault limits) g.supplies ≡ None → HoldsArcs g g.arcs s
    → x ≡ network_of s → Ok x ≡ made_of_arrays limits g
unfolding array_fault
made_at_end g x s e f held is = ap Ok (is ∙ whole) ∙ rw (e, f, held.no_fault) refl
  where
    whole : network_of s ≡ g
    whole = rw (held.header, held.arcs_are, held.supplies_are) refl

-- ---- the state before the first arc

pub holds_none : (g : Network) (h : Header) (listed : List Bool) (supplies : List ℤ) (s : StateData) → h ≡ sizes g → supplies ≡ g.supplies
    → s ≡ record { header = Some h; listed = listed; supplies = supplies; arcs = []; total = 0; refusal = None } → HoldsArcs g [] s
holds_none g h listed supplies s same are is =
    subst (HoldsArcs g []) (sym is) record { header = ap Some same; supplies_are = are; arcs_are = refl; no_fault = refl }

pub exactly_well_formed : (g : Network) (made : Result Network ArrayFault) → made ≡ made_of_arrays limits g → IfOk made (IsWellFormed limits)
    → (is_ok made ≡ true) ↔ IsWellFormed limits g
exactly_well_formed g (Ok x) is sound = (λ _. subst (IsWellFormed limits) (made_same (array_fault limits g) is) sound, λ _. refl)
  where
    made_same : (o : Option ArrayFault) → Ok x ≡ made_unless o g → x ≡ g
    made_same None e = cc
    made_same (Some fault) e = cc
exactly_well_formed g (Err fault) is sound = (λ e. cc, λ h. never (is ∙ ap (λ o. made_unless o g) (well_formed_passes g h)))
  where
    never : Err fault ≡ Ok g → false ≡ true
    never e = cc

-- ---- one entry of an array more

same_header : (o : Option Header) (h k : Header) → o ≡ Some h → o ≡ Some k → h ≡ k
same_header None h k e f = cc
same_header (Some x) h k e f = cc

-- what a state was offered is the arc of the entry
offered_arc : {X : Type 0} (f : X → Arc) (xs : List X) (i : ℕ) (d : X) (g : Network) (s t : StateData) (h : Header) (n : ArcNumbers) (found : Option Code)
    → i < length xs → g.arcs ≡ map f xs → s.header ≡ Some h → n ≡ numbers_of (f (get_or xs i d)) → s.header ≡ Some (sizes g) → Offered s h n found t
    → (i < length g.arcs) × Offered s (sizes g) (numbers_of (get_or g.arcs i (f d))) found t
offered_arc f xs i d g s t h n found inside is header numbers held offered =
    let long : length g.arcs ≡ length xs = ap length is ∙ length-map xs f in
    let read : numbers_of (f (get_or xs i d)) ≡ numbers_of (get_or g.arcs i (f d)) =
    ap numbers_of (sym (get_or-map f xs i d (f d) inside) ∙ ap (λ ys. get_or ys i (f d)) (sym is)) in
    let same = same_header s.header h (sizes g) header held in (
      omega (arith, long, inside),
      subst (λ k. Offered s k (numbers_of (get_or g.arcs i (f d))) found t) same (subst (λ m. Offered s h m found t) (numbers ∙ read) offered),
    )

pub entry_taken : {X : Type 0} (f : X → Arc) (xs : List X) (i : ℕ) (d : X) (g : Network) (s t : StateData) (h : Header) (n : ArcNumbers)
    → i < length xs → g.arcs ≡ map f xs → s.header ≡ Some h → n ≡ numbers_of (f (get_or xs i d)) → HoldsArcs g (take i g.arcs) s
    → IsSound limits s.header s.listed s.supplies s.arcs s.total → Offered s h n None t → HoldsArcs g (take (i + 1) g.arcs) t
entry_taken f xs i d g s t h n inside is header numbers held sound offered =
    let at = offered_arc f xs i d g s t h n None inside is header numbers held.header offered in
    arc_taken g s t i (f d) at.0 held sound at.1

pub entry_refused : {X : Type 0} (f : X → Arc) (xs : List X) (i : ℕ) (d : X) (g : Network) (s t : StateData) (h : Header) (n : ArcNumbers) (found : Code)
    → i < length xs → g.arcs ≡ map f xs → s.header ≡ Some h → n ≡ numbers_of (f (get_or xs i d)) → HoldsArcs g (take i g.arcs) s
    → IsSound limits s.header s.listed s.supplies s.arcs s.total → Offered s h n (Some found) t
    → first_found (arc_fault limits g) g.arcs ≡ Some (FaultyArc (i + 1) found)
entry_refused f xs i d g s t h n found inside is header numbers held sound offered =
    let at = offered_arc f xs i d g s t h n (Some found) inside is header numbers held.header offered in
    arc_refused g s t i (f d) found at.0 held sound at.1

-- ---- the two sides of an assignment

pub sides_within : (rows columns : ℕ) → All (IsUpTo limits.supply) (replicate rows (pos 1) ++ replicate columns (neg_ℤ (pos 1)))
sides_within rows columns =
    All-append (IsUpTo limits.supply) (replicate rows (pos 1)) (replicate columns (neg_ℤ (pos 1)))
    (All-replicate (IsUpTo limits.supply) rows (pos 1) (omega (arith, ints), omega (arith, ints)))
    (All-replicate (IsUpTo limits.supply) columns (neg_ℤ (pos 1)) (omega (arith, ints), omega (arith, ints)))

pub sides_are : (rows columns : ℕ)
    → replicate rows (pos 1) ++ replicate columns (neg_ℤ (pos 1)) ≡ map side_supply (replicate rows true ++ replicate columns false)
sides_are rows columns =
    sym (map-append side_supply (replicate rows true) (replicate columns false)
    ∙ ap (λ xs. xs ++ map side_supply (replicate columns false)) (map-replicate side_supply rows true)
    ∙ ap (λ xs. replicate rows (pos 1) ++ xs) (map-replicate side_supply columns false))

-- whatever memory did
pub each_well_formed : {E : Type 0} (g : Network) (r : Result (Result Network ArrayFault) E) → IfOk r (λ made. made ≡ made_of_arrays limits g)
    → IfOk r (λ made. IfOk made (IsWellFormed limits)) → IfOk r (λ made. (is_ok made ≡ true) ↔ IsWellFormed limits g)
each_well_formed g (Ok made) is sound = exactly_well_formed g made is sound
each_well_formed g (Err e) is sound = tt

pub sides_count : {X : Type 0} (rows columns : ℕ) (x y : X) → length (replicate rows x ++ replicate columns y) ≡ rows + columns
sides_count rows columns x y =
    length-append (replicate rows x) (replicate columns y)
    ∙ ap (λ n. n + length (replicate columns y)) (length-replicate rows x) ∙ ap (λ n. rows + n) (length-replicate columns y)

-- the sizes of an assignment
pub sized_sides : (rows columns : ℕ) (pairs : List RawPair)
    → sizes (assignment_problem rows columns pairs) ≡ record { problem = Asn; nodes = rows + columns; arcs = length pairs }
sized_sides rows columns pairs = rw (sides_count rows columns (pos 1) (neg_ℤ (pos 1)), length-map pairs (arc_of_pair rows)) refl

pub sides_fit : (rows columns : ℕ) (pairs : List RawPair) (b : Bool) → b ≡ (nat_le (rows + columns) node_limit && nat_le (length pairs) arc_limit)
    → sizes_fit (assignment_problem rows columns pairs) ≡ b
sides_fit rows columns pairs b is = rw (sides_count rows columns (pos 1) (neg_ℤ (pos 1)), length-map pairs (arc_of_pair rows)) (sym is)
