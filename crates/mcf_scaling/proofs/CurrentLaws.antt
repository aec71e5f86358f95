-- What keeps the residual arcs that are still to be looked at.
use Rattle.std.proofs.Common.{◌≡◌, ◌≢◌, ℕ, ◌+◌, ◌-◌, ◌≤◌, Bool, List, [], ◌∷◌, ◌++◌, Option, Some, None, length, set, get_or, refl, sym, ap, ◌∙◌, arith, subst}
use Rattle.std.proofs.Common.{ℤ, pos, ◌+ℤ◌, ◌≤ℤ◌, ◌⊎◌, inl, inr, length-set}
use Rattle.std.specs.Prelude.{◌<ℤ◌}
use Rattle.std.specs.List.{All, Contains}
use Rattle.std.proofs.lemmas.Int.{ints}
use Rattle.std.proofs.lemmas.Bool.{cases_eq}
use Rattle.std.proofs.lemmas.List.{get_or_default, get_or-set_other, get_or-set_same, get_or_append_left, get_or_push, length_push}
use Rattle.mcf_flows.specs.Network.{Network, IsArcNumber, IsNode, at_node, node_count}
use Rattle.mcf_network.specs.declared.rid.Rid.{Rid}
use Rattle.mcf_network.specs.Residual.{head, tail}
use Rattle.mcf_network.specs.Stars.{Leaves, ListsLeaving}
use Rattle.mcf_network.specs.States.{Pseudoflow, IsPseudoflow, pushed, room_of, surplus_at}
use Rattle.mcf_network.proofs.ArcLaws.{head_is_node, tail_is_node}
use Rattle.mcf_network.proofs.Lists.{Contains-cons}
use Rattle.mcf_network.proofs.StateLaws.{rid}
use Rattle.mcf_scaling.specs.Private.CurrentArcs.{AreCurrentArcs, AreFirsts, current_of, rest_from, rest_of}
use Rattle.mcf_scaling.specs.Private.Stars.{Star, IsStarOf, span_of}
use Rattle.mcf_scaling.specs.Optimality.{IsAdmissible, IsFilled, scaled_reduced}
use Rattle.std.specs.Int.{int_min}
use Rattle.std.specs.Option.{IfNone}
use Rattle.mcf_scaling.specs.Phases.{IsRelabel}
use Rattle.mcf_scaling.specs.Refinements.{Refinement, IsActive, IsNodeOf, IsRefinement}
use Rattle.mcf_scaling.proofs.RunLaws.{rise_high, share}
use Rattle.mcf_scaling.proofs.Scans.{nothing_in}
use Rattle.mcf_scaling.proofs.StepLaws.{filled_optimal, opposite_reduced, raised_at, room_before}

-- ---- one look

-- the first is taken off, as it isn't admissible
pub looked_on : (s : Pseudoflow) (prices : List ℤ) (first rest more : List Rid) (r : Rid) → rest ≡ r ∷ more → ¬ IsAdmissible s prices r
    → ((q : Rid) → Contains first q → (¬ IsAdmissible s prices q) ⊎ Contains rest q) → (q : Rid) → Contains first q
    → (¬ IsAdmissible s prices q) ⊎ Contains more q
looked_on s prices first rest more r e shut passed q inside =
    elim (passed q inside) [
      | inl refused ↦ inl refused
      | inr waits ↦ elim (Contains-cons r more q (subst (λ (xs : List Rid). Contains xs q) e waits)) [
        | inl same ↦ inl (subst (λ (x : Rid). ¬ IsAdmissible s prices x) same shut)
        | inr later ↦ inr later
      ]
    ]

-- ---- the table: one entry written

current_set : (current_arcs : List ℕ) (v u new : ℕ) → IsNode (length current_arcs) v → IsNode (length current_arcs) u
    → ((u ≡ v) × (current_of (set current_arcs (v - 1) new) u ≡ new)) ⊎ ((u ≢ v) × (current_of (set current_arcs (v - 1) new) u ≡ current_of current_arcs u))
current_set current_arcs v u new h q =
    elim (cases_eq u v) [
      | inl e ↦ inl (e, ap (λ i. get_or (set current_arcs (v - 1) new) (i - 1) 0) e ∙ get_or-set_same current_arcs (v - 1) new 0 (omega arith))
      | inr n ↦ inr (n, get_or-set_other current_arcs (v - 1) (u - 1) new 0 (let apart : u - 1 ≢ v - 1 = omega (arith, h, q, n) in apart))
    ]

-- a look at the residual arcs of one node
pub looked_current : (s : Pseudoflow) (prices : List ℤ) (star : Star) (current_arcs : List ℕ) (v new : ℕ) → AreCurrentArcs s prices star current_arcs
    → IsNode (node_count s.net) v → new ≤ (span_of star v).end → All (Leaves s.net v) (rest_from star v new)
    → ((q : Rid) → Contains (rest_of star current_arcs v) q → (¬ IsAdmissible s prices q) ⊎ Contains (rest_from star v new) q)
    → AreCurrentArcs s prices star (set current_arcs (v - 1) new)
looked_current s prices star current_arcs v new ok h within leave passed =
    let inside : IsNode (length current_arcs) v = (h.0, omega (arith, h, ok.count)) in
    let at = λ (u : ℕ) (q : IsNode (node_count s.net) u). current_set current_arcs v u new inside (q.0, omega (arith, q, ok.count)) in
    record {
      count = length-set current_arcs (v - 1) new ∙ ok.count;
      within = λ u q. elim (at u q) [
        | inl (e, w) ↦ rw w (subst (λ (x : ℕ). new ≤ (span_of star x).end) (sym e) within)
        | inr (n, w) ↦ rw w (ok.within u q)
      ];
      leave = λ u q. elim (at u q) [
        | inl (e, w) ↦ rw w (subst (λ (x : ℕ). All (Leaves s.net x) (rest_from star x new)) (sym e) leave)
        | inr (n, w) ↦ rw w (ok.leave u q)
      ];
      passed = λ u q r leaves. elim (at u q) [
        | inl (e, w) ↦ rw w (elim (ok.passed u q r leaves) [
          | inl refused ↦ inl refused
          | inr waits ↦ subst (λ (x : ℕ). (¬ IsAdmissible s prices r) ⊎ Contains (rest_from star x new) r) (sym e)
              (passed r (subst (λ (x : ℕ). Contains (rest_of star current_arcs x) r) e waits))
        ])
        | inr (n, w) ↦ rw w (ok.passed u q r leaves)
      ];
    }

-- where nothing is left to be looked at, nothing is admissible
pub none_current : (s : Pseudoflow) (prices : List ℤ) (star : Star) (current_arcs : List ℕ) (v : ℕ) → AreCurrentArcs s prices star current_arcs
    → IsNode (node_count s.net) v → rest_of star current_arcs v ≡ [] → (r : Rid) → tail s.net r ≡ v → ¬ IsAdmissible s prices r
none_current s prices star current_arcs v ok h none r from opens =
    elim (ok.passed v h r (record { arc = opens.room.arc; from = from })) [
      | inl refused ↦ refused opens
      | inr waits ↦ nothing_in r (subst (λ (xs : List Rid). Contains xs r) none waits)
    ]

-- ---- the steps

-- what is admissible after a change was so before
pub kept_current : (s t : Pseudoflow) (prices ys : List ℤ) (star : Star) (current_arcs : List ℕ) → t.net ≡ s.net
    → ((r : Rid) → IsAdmissible t ys r → IsAdmissible s prices r) → AreCurrentArcs s prices star current_arcs → AreCurrentArcs t ys star current_arcs
kept_current s t prices ys star current_arcs net back ok =
    record {
      count = ok.count ∙ ap (λ (g : Network). node_count g) (sym net);
      within = λ v h. ok.within v (subst (λ (g : Network). IsNode (node_count g) v) net h);
      leave = λ v h. subst (λ (g : Network). All (Leaves g v) (rest_of star current_arcs v)) (sym net)
          (ok.leave v (subst (λ (g : Network). IsNode (node_count g) v) net h));
      passed = λ v h r leaves. elim (ok.passed v (subst (λ (g : Network). IsNode (node_count g) v) net h) r
          (subst (λ (g : Network). Leaves g v r) net leaves)) [
            | inl refused ↦ inl (λ opens. refused (back r opens))
            | inr waits ↦ inr waits
          ];
    }

-- a push makes no residual arc admissible
pub push_admits : (s : Pseudoflow) (prices : List ℤ) (k : ℕ) (b : Bool) (x : ℤ) → IsPseudoflow s → IsArcNumber s.net k → pos 0 ≤ℤ x
    → scaled_reduced s.net prices (rid k b) <ℤ pos 0 → (r : Rid) → IsAdmissible (pushed s (rid k b) x) prices r → IsAdmissible s prices r
push_admits s prices k b x ok h low negative r opens =
    let less = opens.negative in
    elim (room_before s k r.arc b r.back x ok h opens.room.arc low opens.room.room) [
      | inl some ↦ record { room = record { arc = opens.room.arc; room = some }; negative = less }
      | inr same ↦ absurd (let cost = ap (scaled_reduced s.net prices) same ∙ opposite_reduced s.net prices k b in omega (arith, ints, cost, negative, less))
    ]

-- nor does a raise of the price of v, but for residual arcs that leave v
pub raise_admits : (s : Pseudoflow) (prices : List ℤ) (v : ℕ) (rise : ℤ) → IsPseudoflow s → length prices ≡ node_count s.net
    → IsNode (node_count s.net) v → pos 0 ≤ℤ rise → (r : Rid) → tail s.net r ≢ v → IsAdmissible s (set prices (v - 1) (at_node prices v +ℤ rise)) r
    → IsAdmissible s prices r
raise_admits s prices v rise ok count h low r other opens =
    let less = opens.negative in
    let room = opens.room in
    let inside : IsNode (length prices) v = (h.0, omega (arith, h, count)) in
    let t = tail_is_node s.net r.arc r.back ok.of_net room.arc in
    let d = head_is_node s.net r.arc r.back ok.of_net room.arc in
    elim (raised_at prices v (tail s.net r) rise inside (t.0, omega (arith, t, count))) [
      | inl (e1, w1) ↦ absurd (other e1)
      | inr (n1, w1) ↦ elim (raised_at prices v (head s.net r) rise inside (d.0, omega (arith, d, count))) [
        | inl (e2, w2) ↦ (let same = ap (at_node prices) e2 in record { room = room; negative = omega (arith, ints, w1, w2, same, less, low) })
        | inr (n2, w2) ↦ record { room = room; negative = omega (arith, ints, w1, w2, less) }
      ]
    ]

-- after a relabel, which sets the current arc of its node back to the first
pub raised_current : (s : Pseudoflow) (prices : List ℤ) (star : Star) (current_arcs : List ℕ) (v : ℕ) (rise : ℤ) (new : ℕ) → IsPseudoflow s
    → length prices ≡ node_count s.net → IsNode (node_count s.net) v → pos 0 ≤ℤ rise → new ≤ (span_of star v).end
    → ListsLeaving s.net v (rest_from star v new) → AreCurrentArcs s prices star current_arcs
    → AreCurrentArcs s (set prices (v - 1) (at_node prices v +ℤ rise)) star (set current_arcs (v - 1) new)
raised_current s prices star current_arcs v rise new ok count h low within lists current =
    let inside : IsNode (length current_arcs) v = (h.0, omega (arith, h, current.count)) in
    let at = λ (u : ℕ) (q : IsNode (node_count s.net) u). current_set current_arcs v u new inside (q.0, omega (arith, q, current.count)) in
    record {
      count = length-set current_arcs (v - 1) new ∙ current.count;
      within = λ u q. elim (at u q) [
        | inl (e, w) ↦ rw w (subst (λ (x : ℕ). new ≤ (span_of star x).end) (sym e) within)
        | inr (n, w) ↦ rw w (current.within u q)
      ];
      leave = λ u q. elim (at u q) [
        | inl (e, w) ↦ rw w (subst (λ (x : ℕ). All (Leaves s.net x) (rest_from star x new)) (sym e) lists.each_leaves)
        | inr (n, w) ↦ rw w (current.leave u q)
      ];
      passed = λ u q r leaves. elim (at u q) [
        | inl (e, w) ↦ rw w (inr (subst (λ (x : ℕ). Contains (rest_from star x new) r) (sym e)
            (lists.every r (subst (λ (x : ℕ). Leaves s.net x r) e leaves))))
        | inr (n, w) ↦ rw w (elim (current.passed u q r leaves) [
          | inl refused ↦ inl (λ opens. refused (raise_admits s prices v rise ok count h low r (λ e. n (sym leaves.from ∙ e)) opens))
          | inr waits ↦ inr waits
        ])
      ];
    }

-- after the beginning of a phase nothing is admissible
pub begun_current : (s t : Pseudoflow) (prices : List ℤ) (star : Star) (current_arcs : List ℕ) → IsFilled s t prices → AreCurrentArcs s prices star current_arcs
    → AreCurrentArcs t prices star current_arcs
begun_current s t prices star current_arcs filled ok =
    kept_current s t prices prices star current_arcs filled.net (λ r opens. absurd
    (let low = filled_optimal s t prices 0 filled r opens.room in let less = opens.negative in omega (arith, ints, low, less))) ok

-- ---- the start: the first position of each node

pub firsts_start : (star : Star) → AreFirsts star [] 0
firsts_start star = record { count = refl; each = λ v h. absurd (omega (arith, h)) }

pub firsts_next : (star : Star) (current_arcs after : List ℕ) (n v first : ℕ) → AreFirsts star current_arcs n → after ≡ current_arcs ++ first ∷ [] → v ≡ n + 1
    → first ≡ (span_of star v).first → AreFirsts star after (n + 1)
firsts_next star current_arcs after n v first all e is here =
    record {
      count = ap (λ (xs : List ℕ). length xs) e ∙ omega (arith, length_push current_arcs first, all.count);
      each = λ u h. elim (cases_eq u v) [
        | inl same ↦ ap (λ (xs : List ℕ). current_of xs u) e ∙ get_or_push current_arcs first 0 (u - 1) (omega (arith, same, is, all.count)) ∙ here
            ∙ ap (λ (w : ℕ). (span_of star w).first) (sym same)
        | inr n' ↦ ap (λ (xs : List ℕ). current_of xs u) e ∙ get_or_append_left current_arcs (first ∷ []) 0 (u - 1) (omega (arith, h, n', is, all.count))
            ∙ all.each u (omega (arith, h), omega (arith, h, n', is))
      ];
    }

pub all_current : (s : Pseudoflow) (prices : List ℤ) (star : Star) (current_arcs : List ℕ) → IsStarOf s.net star
    → AreFirsts star current_arcs (node_count s.net) → AreCurrentArcs s prices star current_arcs
all_current s prices star current_arcs ok all =
    record {
      count = all.count;
      within = λ v h. rw (all.each v h) (ok.rises v h);
      leave = λ v h. rw (all.each v h) (ok.lists v h).each_leaves;
      passed = λ v h r leaves. inr (rw (all.each v h) ((ok.lists v h).every r leaves));
    }

-- ---- the methods

pub push_current : (a b : Refinement) (r : Rid) (x : ℤ) (t : Pseudoflow) (star : Star) (current_arcs : List ℕ) → a ≡ b → IsRefinement a
    → IsAdmissible b.flow b.prices r → IsActive b (tail b.flow.net r) → t ≡ pushed a.flow r x
    → x ≡ int_min (surplus_at a.flow (tail a.flow.net r)) (room_of a.flow r) → AreCurrentArcs a.flow a.prices star current_arcs
    → AreCurrentArcs t a.prices star current_arcs
push_current a b r x t star current_arcs same ok admissible active is amount current =
    let here = subst (λ (z : Refinement). IsAdmissible z.flow z.prices r) (sym same) admissible in
    let some = subst (λ (z : Refinement). IsActive z (tail z.flow.net r)) (sym same) active in
    let part = share (surplus_at a.flow (tail a.flow.net r)) (room_of a.flow r) some.surplus here.room.room in
    let low = part.low in
    subst (λ (p : Pseudoflow). AreCurrentArcs p a.prices star current_arcs) (sym is)
    (kept_current a.flow (pushed a.flow r x) a.prices a.prices star current_arcs refl
    (push_admits a.flow a.prices r.arc r.back x ok.flow here.room.arc (omega (arith, ints, low, amount)) here.negative) current)

pub begin_current : (a : Refinement) (t : Pseudoflow) (ps : List ℤ) (star : Star) (current_arcs : List ℕ) → IsFilled a.flow t ps → ps ≡ a.prices
    → AreCurrentArcs a.flow a.prices star current_arcs → AreCurrentArcs t a.prices star current_arcs
begin_current a t ps star current_arcs filled is current =
    begun_current a.flow t a.prices star current_arcs (subst (λ (ys : List ℤ). IsFilled a.flow t ys) is filled) current

pub relabel_current : (a b c : Refinement) (v : ℕ) (rise : ℤ) (ys : List ℤ) (star : Star) (current_arcs : List ℕ) (first : ℕ) → IsRefinement a → a ≡ b
    → IsRelabel b c v rise → ys ≡ set a.prices (v - 1) (at_node a.prices v +ℤ rise) → IsStarOf a.flow.net star → first ≡ (span_of star v).first
    → AreCurrentArcs a.flow a.prices star current_arcs → AreCurrentArcs a.flow ys star (set current_arcs (v - 1) first)
relabel_current a b c v rise ys star current_arcs first ok same step raised star_of is current =
    let most = rise_high b c v rise step in
    let node = (subst (λ (z : Refinement). IsActive z v) (sym same) step.active).node in
    subst (λ (zs : List ℤ). AreCurrentArcs a.flow zs star (set current_arcs (v - 1) first)) (sym raised)
    (raised_current a.flow a.prices star current_arcs v rise first ok.flow ok.count node (omega (arith, ints, most))
    (rw is (star_of.rises v node)) (rw is (star_of.lists v node)) current)

-- a look at the residual arcs of a node, as the code makes it: its current arc stands at i, the
-- entry is lent, and comes back as new
module _ (a b : Refinement) (star : Star) (current_arcs : List ℕ) (v i entry : ℕ) (same : a ≡ b) (node : IsNodeOf b v) (read : i ≡ v - 1)
    (current : AreCurrentArcs a.flow a.prices star current_arcs) (lent : entry ≡ get_or current_arcs i entry) where
  here : IsNodeOf a v
  here = subst (λ (z : Refinement). IsNodeOf z v) (sym same) node

  entry_is : entry ≡ current_of current_arcs v
  entry_is =
      lent ∙ ap (λ (j : ℕ). get_or current_arcs j entry) read ∙ get_or_default current_arcs (v - 1) entry 0 (let n = here in omega (arith, n, current.count))

  pub entry_within : entry ≤ (span_of star v).end
  entry_within = rw entry_is (current.within v here)

  pub entry_leaves : All (Leaves a.flow.net v) (rest_from star v entry)
  entry_leaves = rw entry_is (current.leave v here)

  pub entry_current : (new : ℕ) (ps : List ℤ) → ps ≡ a.prices → new ≤ (span_of star v).end → All (Leaves a.flow.net v) (rest_from star v new)
      → ((q : Rid) → Contains (rest_from star v entry) q → (¬ IsAdmissible a.flow ps q) ⊎ Contains (rest_from star v new) q)
      → AreCurrentArcs a.flow a.prices star (set current_arcs i new)
  entry_current new ps is within leave passed =
      subst (λ (j : ℕ). AreCurrentArcs a.flow a.prices star (set current_arcs j new)) (sym read)
      (looked_current a.flow a.prices star current_arcs v new current here within leave
      (λ q inside. subst (λ (ys : List ℤ). (¬ IsAdmissible a.flow ys q) ⊎ Contains (rest_from star v new) q) is
      (passed q (subst (λ (j : ℕ). Contains (rest_from star v j) q) (sym entry_is) inside))))

  -- where the look ended without an answer, none leaves the node that is admissible
  pub entry_none : (o : Option Rid) (new : ℕ) (ps : List ℤ) → ps ≡ a.prices → new ≤ (span_of star v).end
      → All (Leaves a.flow.net v) (rest_from star v new)
      → ((q : Rid) → Contains (rest_from star v entry) q → (¬ IsAdmissible a.flow ps q) ⊎ Contains (rest_from star v new) q)
      → IfNone o (rest_from star v new ≡ []) → IfNone o ((r : Rid) → tail b.flow.net r ≡ v → ¬ IsAdmissible b.flow b.prices r)
  entry_none None new ps is within leave passed none =
      let set_back = entry_current new ps is within leave passed in
      let inside : IsNode (length current_arcs) v = (let n = here in (n.0, omega (arith, n, current.count))) in
      let placed : current_of (set current_arcs i new) v ≡ new = ap (λ (j : ℕ). current_of (set current_arcs j new) v) read
      ∙ get_or-set_same current_arcs (v - 1) new 0 (let n = inside in omega (arith, n)) in
      subst (λ (z : Refinement). (r : Rid) → tail z.flow.net r ≡ v → ¬ IsAdmissible z.flow z.prices r) same
      (none_current a.flow a.prices star (set current_arcs i new) v set_back here (ap (rest_from star v) placed ∙ none))
  entry_none (Some r) new ps is within leave passed none = tt
