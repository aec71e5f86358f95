-- What a line of a good text says fits the state.
use Rattle.std.proofs.Common.{◌≡◌, ℕ, ◌+◌, ◌<◌, ◌≤◌, Bool, true, false, not, cond, ◌&&◌, List, [], length, refl, sym, subst, ◌∙◌, Some, None, Ok, Err, arith}
use Rattle.std.specs.Prelude.{Option, Result, ℤ, pos, ◌≤ℤ◌, bytes_eq, codes, slice_index_or, nat_lt, nat_le, int_lt, ◌==◌, is_some, IfOk}
use Rattle.std.proofs.lemmas.Int.{ints}
use Rattle.std.proofs.lemmas.Result.{IfOk-at_ok}
use Rattle.mcf_flows.specs.declared.arc.PackedArc.{PackedArc}
use Rattle.mcf_flows.specs.declared.code.Code.{Code}
use Rattle.mcf_flows.specs.declared.code.Code.TheVariants.{Fields}
use Rattle.mcf_flows.specs.declared.problem.Problem.{Problem as Format}
use Rattle.mcf_flows.specs.declared.problem.Problem.TheVariants.{Min, Asn}
use Rattle.mcf_instance.specs.declared.reader.line.ArcNumbers.{ArcNumbers}
use Rattle.mcf_instance.specs.declared.reader.line.Header.{Header}
use Rattle.mcf_instance.specs.declared.reader.line.Item.{Item}
use Rattle.mcf_instance.specs.declared.reader.line.Item.TheVariants.{Link}
use Rattle.mcf_flows.specs.Assignment.{OnAssignment}
use Rattle.mcf_flows.specs.Blocking.{in_table}
use Rattle.mcf_instance.specs.Fault.{is_up_to}
use Rattle.mcf_flows.specs.Limits.{limits, node_limit, arc_limit, total_limit}
use Rattle.mcf_instance.specs.Private.LineReader.{◌>>=◌, arc_count_fits, arc_line, arc_numbers, arc_tests, is_wrong_side, checked_node, node_count_fits}
use Rattle.mcf_instance.specs.Private.LineReader.{node_line, node_numbers, node_tests, number_at, number_pair, problem_at, problem_line, passes_total, with_header}
use Rattle.mcf_flows.specs.Packed.{unpacked}
use Rattle.mcf_instance.specs.ReadOn.{StateData}
use Rattle.mcf_instance.specs.Private.ReaderState.{item_of, problem_or_min}
use Rattle.mcf_instance.specs.Private.ReaderSound.{IsFlaggedPair, ItemFits, OnMin, header_arcs, header_nodes}
use Rattle.mcf_flows.specs.WellFormed.{HasEnds, IsArcWithinLimits, IsUpTo, weight}
use Rattle.mcf_text.specs.Row.{natural}
use Rattle.mcf_text.specs.Whole.{is_within}
use Rattle.std.proofs.lemmas.Bool.{and_parts, eqb-true, ltb-false, leb-false, ne_eqb, not-false, or_parts}
use Rattle.std.proofs.lemmas.List.{nil_from_length}
use Rattle.mcf_instance.proofs.LineSteps.{unless_fault-amount_fault}
use Rattle.mcf_instance.proofs.Ranges.{natural_low, natural_high, natural_most, up_to_is}

-- ---- steps

if_ok_then : {A B : Type 0} (r : Result A Code) (f : A → Result B Code) (Q : A → Type 0) (P : B → Type 0) → IfOk r Q → ((x : A) → Q x → IfOk (f x) P)
    → IfOk (r >>= f) P
if_ok_then (Ok x) f Q P q h = h x q
if_ok_then (Err e) f Q P q h = tt

if_ok_any : {A : Type 0} (r : Result A Code) → IfOk r (λ _. Unit {0})
if_ok_any (Ok x) = tt
if_ok_any (Err e) = tt

if_ok_bind : {A B : Type 0} (r : Result A Code) (f : A → Result B Code) (P : B → Type 0) → ((x : A) → IfOk (f x) P) → IfOk (r >>= f) P
if_ok_bind r f P h = if_ok_then r f (λ _. Unit {0}) P (if_ok_any r) (λ x _. h x)

if_ok_test : {A : Type 0} (b : Bool) (e : Code) (r : Result A Code) (P : A → Type 0) → (b ≡ false → IfOk r P) → IfOk (cond b (Err e) r) P
if_ok_test true e r P h = tt
if_ok_test false e r P h = h refl

if_ok_node : {B : Type 0} (h : Header) (z : ℤ) (f : ℕ → Result B Code) (P : B → Type 0) → ((v : ℕ) → 1 ≤ v → v ≤ h.nodes → IfOk (f v) P)
    → IfOk (checked_node h z >>= f) P
if_ok_node h z f P k = go (is_within (pos 1) (pos h.nodes) z) refl
  where
    go : (b : Bool) → is_within (pos 1) (pos h.nodes) z ≡ b → IfOk (checked_node h z >>= f) P
    go true e = rw e (k (natural z) (natural_low h.nodes z e) (natural_high h.nodes z e))
    go false e = rw e tt

not_above : (x y : ℤ) → int_lt y x ≡ false → x ≤ℤ y
not_above x y h = grind (arith, ints)

-- ---- problem lines

-- what a problem line must say
abbrev HeaderFound : Bool → Header → Type 0
HeaderFound seen h = (seen ≡ false) × (h.nodes ≤ node_limit) × (h.arcs ≤ arc_limit)

problem_fits : (seen : Bool) (fields : List (List ℕ)) → IfOk (problem_line seen fields) (HeaderFound seen)
unfolding problem_line
problem_fits seen fields =
    if_ok_test (not (length fields == 4)) _ _ (HeaderFound seen) (λ _.
    if_ok_bind (problem_at (slice_index_or fields 1 [])) _ (HeaderFound seen) (λ problem.
    if_ok_bind (number_pair fields 2) _ (HeaderFound seen) (λ size.
    if_ok_test seen _ _ (HeaderFound seen) (λ unseen.
    if_ok_test (not (is_within (pos 0) (pos node_limit) size.0 && is_within (pos 0) (pos arc_limit) size.1)) _
    (Ok (record { problem = problem; nodes = natural size.0; arcs = natural size.1 })) (HeaderFound seen) (λ fit.
    let both = and_parts (is_within (pos 0) (pos node_limit) size.0) (is_within (pos 0) (pos arc_limit) size.1) (not-false _ fit) in
    (unseen, natural_most node_limit size.0 both.0, natural_most arc_limit size.1 both.1))))))

-- ---- node lines

-- what a node line must say
abbrev NodeFits : Option Header → ℕ → ℕ × ℤ → Type 0
NodeFits o arcs n = (1 ≤ n.0) × (n.0 ≤ header_nodes o) × (arcs ≡ 0) × IsUpTo limits.supply n.1 × OnAssignment (problem_or_min o) (n.1 ≡ pos 1)

node_tests_fit : (h : Header) (arcs : ℕ) (listed : List Bool) (u z : ℤ) → OnAssignment h.problem (z ≡ pos 1)
    → IfOk (node_tests limits h arcs listed u z) (NodeFits (Some h) arcs)
unfolding node_tests
node_tests_fit h arcs listed u z one =
    if_ok_node h u _ (NodeFits (Some h) arcs) (λ v low high.
    if_ok_test (nat_lt 0 arcs) _ _ (NodeFits (Some h) arcs) (λ early.
    if_ok_test (in_table listed v) _ _ (NodeFits (Some h) arcs) (λ _.
    if_ok_test (not (is_up_to limits.supply z)) _ _ (NodeFits (Some h) arcs) (λ small.
    (low, high, omega (arith, ltb-false 0 arcs early), up_to_is limits.supply z (not-false _ small), one)))))

asn_node_numbers : (fields : List (List ℕ)) → (length fields == 3) ≡ false → IfOk (node_numbers fields) (λ n. n.1 ≡ pos 1)
asn_node_numbers fields e = rw e (if_ok_bind (number_at fields 1) _ (λ n. n.1 ≡ pos 1) (λ _. refl))

no_other_count : (n k m : ℕ) → (k ≡ m → ⊥) → (n == k) ≡ true → (n == m) ≡ false
no_other_count n k m differ e = ne_eqb n m (λ is. differ (sym (eqb-true n k e) ∙ is))

node_line_fits : (o : Option Header) (arcs : ℕ) (listed : List Bool) (fields : List (List ℕ)) → IfOk (node_line limits o arcs listed fields) (NodeFits o arcs)
unfolding node_line
node_line_fits None arcs listed fields =
    if_ok_test (not (node_count_fits None (length fields))) Fields (node_numbers fields >>= λ n. with_header None
    (λ h. node_tests limits h arcs listed n.0 n.1)) (NodeFits None arcs)
    (λ _. if_ok_bind (node_numbers fields) (λ n. with_header None (λ h. node_tests limits h arcs listed n.0 n.1)) (NodeFits None arcs) (λ _. tt))
node_line_fits (Some h) arcs listed fields = go h.problem refl
  where
    at : (p : Format) → IfOk (node_line limits (Some (record { problem = p; nodes = h.nodes; arcs = h.arcs })) arcs listed fields)
        (NodeFits (Some (record { problem = p; nodes = h.nodes; arcs = h.arcs })) arcs)
    at Min =
        let g : Header = record { problem = Min; nodes = h.nodes; arcs = h.arcs } in
        if_ok_test _ _ _ (NodeFits (Some g) arcs) (λ _. if_ok_bind (node_numbers fields) _ (NodeFits (Some g) arcs)
        (λ n. node_tests_fit g arcs listed n.0 n.1 tt))
    at Asn =
        let g : Header = record { problem = Asn; nodes = h.nodes; arcs = h.arcs } in
        if_ok_test (not (length fields == 2)) _ _ (NodeFits (Some g) arcs) (λ count.
        if_ok_then (node_numbers fields) _ (λ n. n.1 ≡ pos 1) (NodeFits (Some g) arcs)
        (asn_node_numbers fields (no_other_count (length fields) 2 3 (omega arith) (not-false _ count)))
        (λ n one. node_tests_fit g arcs listed n.0 n.1 one))

    go : (p : Format) → h.problem ≡ p → IfOk (node_line limits (Some h) arcs listed fields) (NodeFits (Some h) arcs)
    go p e = at h.problem

-- ---- arc lines

-- what an arc line must say
pub record ArcFits (o : Option Header) (arcs total : ℕ) (listed : List Bool) (a : PackedArc) : Type 0 where
  pub room : arcs < header_arcs o
  pub ends : HasEnds (header_nodes o) (unpacked a)
  pub is_within : IsArcWithinLimits limits (unpacked a)
  pub total_small : OnMin (problem_or_min o) (total + weight (unpacked a) ≤ total_limit)
  pub assignment : OnAssignment (problem_or_min o) (IsFlaggedPair listed a)

abbrev UnitBounds : Format → ArcNumbers → Type 0
UnitBounds p a = OnAssignment p ((a.low ≡ pos 0) × (a.cap ≡ pos 1))

sides_fit : (h : Header) (listed : List Bool) (a : PackedArc) → OnAssignment h.problem ((a.low ≡ pos 0) × (a.cap ≡ pos 1))
    → is_wrong_side h listed a.src a.dst ≡ false → OnAssignment h.problem (IsFlaggedPair listed a)
sides_fit h listed a unit right = at h.problem unit right
  where
    at : (p : Format) → OnAssignment p ((a.low ≡ pos 0) × (a.cap ≡ pos 1)) → is_wrong_side
        (record { problem = p; nodes = h.nodes; arcs = h.arcs }) listed a.src a.dst ≡ false → OnAssignment p (IsFlaggedPair listed a)
    at Min u r = tt
    at Asn u r =
        let parts = or_parts (not (in_table listed a.src)) (in_table listed a.dst) r in
        record { from_flagged = not-false _ parts.0; to_unflagged = parts.1; low_is = u.0; cap_is = u.1 }

total_fits : (p : Format) (total : ℕ) (a : PackedArc) → passes_total limits p total a ≡ false → OnMin p (total + weight (unpacked a) ≤ total_limit)
total_fits Min total a e = ltb-false total_limit (total + weight (unpacked a)) e
total_fits Asn total a e = tt

arc_tests_fit : (h : Header) (arcs total : ℕ) (listed : List Bool) (a : ArcNumbers) → UnitBounds h.problem a
    → IfOk (arc_tests limits h arcs total listed a) (ArcFits (Some h) arcs total listed)
unfolding arc_tests
arc_tests_fit h arcs total listed a unit =
    let P : PackedArc → Type 0 = ArcFits (Some h) arcs total listed in
    if_ok_node h a.src _ P (λ src src_low src_high.
    if_ok_node h a.dst _ P (λ dst dst_low dst_high.
    rw (unless_fault-amount_fault a.low a.cap a.cost)
    (if_ok_test (not (is_up_to limits.bound a.low && is_up_to limits.bound a.cap)) _ _ P (λ bounds.
    let both = and_parts (is_up_to limits.bound a.low) (is_up_to limits.bound a.cap) (not-false _ bounds) in
    if_ok_test (int_lt a.cap a.low) _ _ P (λ ordered.
    if_ok_test (not (is_up_to limits.cost a.cost)) _ _ P (λ cost.
    if_ok_test (nat_le h.arcs arcs) _ _ P (λ room.
    if_ok_test (is_wrong_side h listed src dst) _ _ P (λ sides.
    let arc : PackedArc = record { src = src; dst = dst; low = a.low; cap = a.cap; cost = a.cost } in
    if_ok_test (passes_total limits h.problem total arc) _ _ P (λ most.
    record {
      room = leb-false h.arcs arcs room;
      ends = record { src_is_node = (src_low, src_high); dst_is_node = (dst_low, dst_high) };
      is_within = record {
        ordered = not_above a.low a.cap ordered;
        low_small = up_to_is limits.bound a.low both.0;
        cap_small = up_to_is limits.bound a.cap both.1;
        cost_small = up_to_is limits.cost a.cost (not-false _ cost);
      };
      total_small = total_fits h.problem total arc most;
      assignment = sides_fit h listed arc unit sides;
    })))))))))

asn_arc_numbers : (fields : List (List ℕ)) → (length fields == 6) ≡ false → IfOk (arc_numbers fields) (λ a. (a.low ≡ pos 0) × (a.cap ≡ pos 1))
asn_arc_numbers fields e =
    let P : ArcNumbers → Type 0 = λ a. (a.low ≡ pos 0) × (a.cap ≡ pos 1) in
    rw e (if_ok_bind (number_pair fields 1) _ P (λ _. if_ok_bind (number_at fields 3) _ P (λ _. (refl, refl))))

arc_line_fits : (o : Option Header) (arcs total : ℕ) (listed : List Bool) (fields : List (List ℕ))
    → IfOk (arc_line limits o arcs total listed fields) (ArcFits o arcs total listed)
unfolding arc_line
arc_line_fits None arcs total listed fields =
    if_ok_test (not (arc_count_fits None (length fields))) Fields (arc_numbers fields >>= λ a. with_header None (λ h. arc_tests limits h arcs total listed a))
    (ArcFits None arcs total listed)
    (λ _. if_ok_bind (arc_numbers fields) (λ a. with_header None (λ h. arc_tests limits h arcs total listed a)) (ArcFits None arcs total listed) (λ _. tt))
arc_line_fits (Some h) arcs total listed fields = at h.problem
  where
    at : (p : Format) → IfOk (arc_line limits (Some (record { problem = p; nodes = h.nodes; arcs = h.arcs })) arcs total listed fields)
        (ArcFits (Some (record { problem = p; nodes = h.nodes; arcs = h.arcs })) arcs total listed)
    at Min =
        let g : Header = record { problem = Min; nodes = h.nodes; arcs = h.arcs } in
        if_ok_test _ _ _ (ArcFits (Some g) arcs total listed) (λ _. if_ok_bind (arc_numbers fields) _ (ArcFits (Some g) arcs total listed)
        (λ a. arc_tests_fit g arcs total listed a tt))
    at Asn =
        let g : Header = record { problem = Asn; nodes = h.nodes; arcs = h.arcs } in
        if_ok_test (not (length fields == 4)) _ _ (ArcFits (Some g) arcs total listed) (λ count.
        if_ok_then (arc_numbers fields) _ (λ a. (a.low ≡ pos 0) × (a.cap ≡ pos 1)) (ArcFits (Some g) arcs total listed)
        (asn_arc_numbers fields (no_other_count (length fields) 4 6 (omega arith) (not-false _ count))) (λ a unit. arc_tests_fit g arcs total listed a unit))

-- ---- any line

no_header : (o : Option Header) → is_some o ≡ false → o ≡ None
no_header None e = refl
no_header (Some h) e = cc

if_ok_item : (s : StateData) (fields : List (List ℕ)) → IfOk (item_of limits s fields) (ItemFits limits s)
unfolding item_of
if_ok_item s fields = go (bytes_eq (slice_index_or fields 0 []) (codes "p")) (bytes_eq (slice_index_or fields 0 []) (codes "n"))
    (bytes_eq (slice_index_or fields 0 []) (codes "a")) refl refl refl
  where
    go : (p n a : Bool) → bytes_eq (slice_index_or fields 0 []) (codes "p") ≡ p → bytes_eq (slice_index_or fields 0 []) (codes "n") ≡ n
        → bytes_eq (slice_index_or fields 0 []) (codes "a") ≡ a
        → IfOk (item_of limits s fields) (ItemFits limits s)
    go true n a e f g =
        rw e (if_ok_then (problem_line (is_some s.header) fields) _ _ (ItemFits limits s) (problem_fits (is_some s.header) fields)
        (λ h fit. record { first = no_header s.header fit.0; nodes_small = fit.1; arcs_small = fit.2 }))
    go false true a e f g =
        rw (e, f) (if_ok_then (node_line limits s.header (length s.arcs) s.listed fields) _ _ (ItemFits limits s)
        (node_line_fits s.header (length s.arcs) s.listed fields)
        (λ n fit. record { low = fit.0; high = fit.1; before_arcs = nil_from_length s.arcs fit.2; small = fit.3; assignment = fit.4 }))
    go false false true e f g =
        rw (e, f, g) (if_ok_then (arc_line limits s.header (length s.arcs) s.total s.listed fields) _ _ (ItemFits limits s)
        (arc_line_fits s.header (length s.arcs) s.total s.listed fields)
        (λ a fit. record { room = fit.room; ends = fit.ends; is_within = fit.is_within; total_small = fit.total_small; assignment = fit.assignment }))
    go false false false e f g = rw (e, f, g) tt

pub item_fits : (s : StateData) (fields : List (List ℕ)) (item : Item) → item_of limits s fields ≡ Ok item → ItemFits limits s item
item_fits s fields item e = IfOk-at_ok (ItemFits limits s) e (if_ok_item s fields)

-- ---- an arc that is offered

pub offered_fits : (s : StateData) (h : Header) (a : ArcNumbers) (arc : PackedArc) → s.header ≡ Some h → UnitBounds h.problem a
    → arc_tests limits h (length s.arcs) s.total s.listed a ≡ Ok arc → ItemFits limits s (Link arc)
offered_fits s h a arc header unit tested =
    let fits = IfOk-at_ok (ArcFits (Some h) (length s.arcs) s.total s.listed) tested (arc_tests_fit h (length s.arcs) s.total s.listed a unit) in
    let at = subst (λ o. ArcFits o (length s.arcs) s.total s.listed arc) (sym header) fits in
    record { room = at.room; ends = at.ends; is_within = at.is_within; total_small = at.total_small; assignment = at.assignment }

-- a good arc ends at a node
pub offered_nodes : (h : Header) (arcs total : ℕ) (listed : List Bool) (a : ArcNumbers) (arc : PackedArc) → UnitBounds h.problem a
    → arc_tests limits h arcs total listed a ≡ Ok arc → 1 ≤ h.nodes
offered_nodes h arcs total listed a arc unit tested =
    let fits = IfOk-at_ok (ArcFits (Some h) arcs total listed) tested (arc_tests_fit h arcs total listed a unit) in
    omega (arith, fits.ends.src_is_node.0, fits.ends.src_is_node.1)
