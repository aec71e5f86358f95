-- A pivot keeps the tree strongly feasible, over arcs and amounts by their labels.
use Rattle.std.proofs.Common.{◌≡◌, ◌≢◌, ℕ, zero, suc, ◌+◌, ◌-◌, ◌<◌, ◌≤◌, List, length, sym, ap, ◌∙◌, arith, inl, inr, ◌⊎◌, ℤ, pos, ◌+ℤ◌, ◌≤ℤ◌, Bool, true}
use Rattle.std.proofs.Common.{false, refl}
use Rattle.std.specs.Prelude.{slice_index}
use Rattle.std.proofs.lemmas.Bool.{cases_eq, cases_lt, true≢false}
use Rattle.mcf_tree.specs.Rooted.{climb, IsRooted, IsTurned, IsRelabelled}
use Rattle.mcf_tree.proofs.Paths.{climb-within, climb-suc, depth-climb, above_root}
use Rattle.mcf_basis.proofs.Pushes.{Arcs, IsWithin, JoinsEnds, CanLeave, IsTreeOf, IsCycle, IsPushed, HasRoomUp, CanLeave-back, CanLeave-more, CanLeave-kept}
use Rattle.mcf_basis.proofs.Pushes.{CanLeave-same, CanLeave-le, JoinsEnds-sym, cases_found, cases_sides}
use Rattle.mcf_basis.proofs.Pushes.JoinsEnds.{out_of, into}

-- v is one of the first n nodes of the path from a
pub record OnWalk (ps : List ℕ) (a n v : ℕ) : Type 0 where
  pub at : ℕ
  pub short : at < n
  pub leads : v ≡ climb ps at a

-- it is, or it isn't
pub cases_walk : (ps : List ℕ) (a n v : ℕ) → OnWalk ps a n v ⊎ ((k : ℕ) → k < n → v ≢ climb ps k a)
cases_walk ps a n v = elim (cases_found (λ k. climb ps k a) n v) [
  | inl t ↦ inl (record { at = t.at; short = t.short; leads = sym t.is })
  | inr off ↦ inr (λ k h e. off k h (sym e))
]

-- a node below the end of a path
pub record IsStep (ps : List ℕ) (d : ℕ → ℕ) (v p : ℕ) : Type 0 where
  pub above : 0 < climb ps p v
  pub within : climb ps p v < length ps
  pub deep : d (climb ps p v) + p ≡ d v

pub step_at : {ps : List ℕ} {d : ℕ → ℕ} → IsRooted ps d → (v n p : ℕ) → v < length ps → n ≤ d v → p < n → IsStep ps d v p
step_at {ps} {d} t v n p h short lt =
    let deep : d (climb ps p v) + p ≡ d v = depth-climb ps d t p v h (omega arith) in
    let within : climb ps p v < length ps = climb-within ps d t p v h in
    record { above = above_root ps d t (climb ps p v) (omega arith); within = within; deep = deep }

-- a node isn't its own parent
pub parent_apart : {ps : List ℕ} {d : ℕ → ℕ} → IsRooted ps d → (v : ℕ) → 0 < v → v < length ps → v ≢ slice_index ps v
parent_apart {ps} {d} t v p h e = (let f : d v ≡ d (slice_index ps v) + 1 = t.falls v p h in let q : d v ≡ d (slice_index ps v) = ap d e in omega arith)

-- an arc of the tree is that of one node alone
pub labels_apart : {g : Arcs} {ps ls : List ℕ} {d : ℕ → ℕ} → IsTreeOf g ps ls d → (u v : ℕ) → 0 < u → u < length ps → 0 < v → v < length ps → u ≢ v
    → slice_index ls u ≢ slice_index ls v
labels_apart {g} {ps} {d} t u v pu hu pv hv ne same =
    let fu : d u ≡ d (slice_index ps u) + 1 = t.rooted.falls u pu hu in
    let fv : d v ≡ d (slice_index ps v) + 1 = t.rooted.falls v pv hv in
    let tails = ap g.tail same in
    let heads = ap g.head same in
    elim (t.joined u pu hu) [
      | out_of a b ↦ elim (t.joined v pv hv) [
        | out_of x y ↦ ne (sym a ∙ (tails ∙ x))
        | into x y ↦ (let e = ap d (sym a ∙ (tails ∙ x)) in let f = ap d (sym b ∙ (heads ∙ y)) in omega (arith, fu, fv, e, f))
      ]
      | into a b ↦ elim (t.joined v pv hv) [
        | out_of x y ↦ (let e = ap d (sym a ∙ (tails ∙ x)) in let f = ap d (sym b ∙ (heads ∙ y)) in omega (arith, fu, fv, e, f))
        | into x y ↦ ne (sym b ∙ (heads ∙ y))
      ]
    ]

pub same_node : {g : Arcs} {ps ls : List ℕ} {d : ℕ → ℕ} → IsTreeOf g ps ls d → (u v : ℕ) → 0 < u → u < length ps → 0 < v → v < length ps
    → slice_index ls u ≡ slice_index ls v → u ≡ v
same_node t u v pu hu pv hv e = elim (cases_eq u v) [
  | inl same ↦ same
  | inr ne ↦ absurd (labels_apart t u v pu hu pv hv ne e)
]

-- what holds of each node with its label and its entry of a column, after labels and column moved
-- along the stretch of a turned tree: of the entering arc at inner, of an arc of the stretch at its
-- upper end, and of any other
pub each_moved : {X : Type 0} {ps ls ms : List ℕ} {d : ℕ → ℕ} {enter inner : ℕ} (m : ℕ) (old new : ℕ → X) (first : X) (next : ℕ → X) → IsRooted ps d
    → inner < length ps → m ≤ d inner → IsRelabelled ps ls ms d (climb ps m inner) enter inner → new inner ≡ first
    → ((k : ℕ) → k < d inner - d (climb ps m inner) → new (climb ps (k + 1) inner) ≡ next k)
    → ((v : ℕ) → ((k : ℕ) → k ≤ d inner - d (climb ps m inner) → v ≢ climb ps k inner) → new v ≡ old v) → (R : ℕ → ℕ → X → Type 0) (v : ℕ)
    → R enter inner first → ((k : ℕ) → k < m → R (slice_index ls (climb ps k inner)) (slice_index ps (climb ps k inner)) (next k))
    → (((k : ℕ) → k ≤ m → v ≢ climb ps k inner) → R (slice_index ls v) v (old v)) → R (slice_index ms v) v (new v)
each_moved {ps} {ls} {ms} {d} {inner} m old new first next rooted in_range short relabelled joined moved kept R v at_inner stretch rest =
    elim (cases_walk ps inner (m + 1) v) [
      | inl w ↦ on_stretch w.at w.short w.leads
      | inr off ↦ rw (relabelled.kept v (λ k le. off k (inside k le)), kept v (λ k le. off k (inside k le))) (rest (λ k le. off k (omega arith)))
    ]
  where
    length_is : d inner - d (climb ps m inner) ≡ m
    length_is = let f : d (climb ps m inner) + m ≡ d inner = depth-climb ps d rooted m inner in_range short in omega (arith, f)

    inside : (k : ℕ) → k ≤ d inner - d (climb ps m inner) → k < m + 1
    inside = λ k le. (let e = length_is in omega (arith, e, le))

    on_stretch : (k : ℕ) → k < m + 1 → v ≡ climb ps k inner → R (slice_index ms v) v (new v)
    on_stretch zero h p = rw (ap (slice_index ms) p ∙ relabelled.joined, ap new p ∙ joined, p) at_inner
    on_stretch (suc k) h p =
        let next_place : suc k ≡ k + 1 = omega arith in
        let here : v ≡ climb ps (k + 1) inner = p ∙ ap (λ i. climb ps i inner) next_place in
        let label : slice_index ms v ≡ slice_index ls (climb ps k inner) = ap (slice_index ms) here ∙ relabelled.turned k (omega (arith, length_is, h)) in
        let entry : new v ≡ next k = ap new here ∙ moved k (omega (arith, length_is, h)) in
        let up : v ≡ slice_index ps (climb ps k inner) = p ∙ climb-suc ps k inner in
        rw (label, entry, up) (stretch k (omega arith))

-- and so of the label, the node and its parent
pub each_turned : {ps ls qs ms : List ℕ} {d : ℕ → ℕ} {enter inner outer : ℕ} (m : ℕ) → IsRooted ps d → inner < length ps → m ≤ d inner
    → IsTurned ps qs d (climb ps m inner) inner outer → IsRelabelled ps ls ms d (climb ps m inner) enter inner → (R : ℕ → ℕ → ℕ → Type 0) (v : ℕ)
    → R enter inner outer → ((k : ℕ) → k < m → R (slice_index ls (climb ps k inner)) (slice_index ps (climb ps k inner)) (climb ps k inner))
    → (((k : ℕ) → k ≤ m → v ≢ climb ps k inner) → R (slice_index ls v) v (slice_index ps v)) → R (slice_index ms v) v (slice_index qs v)
each_turned {ps} {qs} {inner} {outer} m rooted in_range short turned relabelled =
    each_moved m (slice_index ps) (slice_index qs) outer (λ k. climb ps k inner) rooted in_range short relabelled
    turned.joined turned.turned turned.kept

module _ {g : Arcs} {ps ls : List ℕ} {d : ℕ → ℕ} {old new : ℕ → ℤ} {enter : ℕ} {end steps : Bool → ℕ} {delta : ℤ}
    (tree : IsTreeOf g ps ls d) (cycle : IsCycle g ps ls d enter end steps) (push : IsPushed g ps ls old new enter end steps delta)
    (fits : (arc : ℕ) → IsWithin (g.limit arc) (old arc)) (low : (arc : ℕ) → pos 0 ≤ℤ old arc) (strong : HasRoomUp g ps ls old) where
  abbrev node : Bool → ℕ → ℕ
  node side k = climb ps k (end side)

  -- an amount can leave a node of a side along the arc above it
  abbrev CanGoUp : (ℕ → ℤ) → Bool → ℕ → ℤ → Type 0
  CanGoUp amount side k x = CanLeave g amount (slice_index ls (node side k)) (node side k) x

  side_at : (side : Bool) (k : ℕ) → k < steps side → IsStep ps d (end side) k
  side_at side k lt = step_at tree.rooted (end side) (steps side) k (cycle.in_range side) (cycle.short side) lt

  side_apart : (side : Bool) (k : ℕ) → k < steps side → node side k ≢ slice_index ps (node side k)
  side_apart side k lt = let w = side_at side k lt in parent_apart tree.rooted (node side k) w.above w.within

  side_joins : (side : Bool) (k : ℕ) → k < steps side → JoinsEnds g (slice_index ls (node side k)) (node side k) (slice_index ps (node side k))
  side_joins side k lt = let w = side_at side k lt in tree.joined (node side k) w.above w.within

  -- a node of the left side keeps its room toward the root, and so does one of the right side whose
  -- arc doesn't block
  kept_side : (side : Bool) (k : ℕ) → k < steps side → (side ≡ false → CanGoUp old side k (delta +ℤ pos 1)) → CanGoUp new side k (pos 1)
  kept_side true k lt room =
      let w = side_at true k lt in
      CanLeave-kept (λ e. side_apart true k lt (sym e)) (JoinsEnds-sym (side_joins true k lt)) (push.side true k lt)
      push.some (strong.room (node true k) w.above w.within)
  kept_side false k lt room = CanLeave-more (side_apart false k lt) (side_joins false k lt) (push.side false k lt) (room refl)

  -- what the arcs that stay with their node leave it
  pub kept : (v : ℕ) → 0 < v → v < length ps → ((k : ℕ) → k < steps false → v ≡ node false k → CanGoUp old false k (delta +ℤ pos 1))
      → CanLeave g new (slice_index ls v) v (pos 1)
  kept v p h room =
      elim (cases_sides node steps v) [
        | inl w ↦ rw (sym w.is) (kept_side w.side w.at w.short (on_right w.side w.at w.short w.is))
        | inr off ↦ CanLeave-same (push.others (slice_index ls v) (cycle.outside v p h) (λ side k lt.
            let w = side_at side k lt in labels_apart tree v (node side k) p h w.above w.within (λ e. off side k lt (sym e)))) (strong.room v p h)
      ]
    where
      on_right : (side : Bool) (k : ℕ) → k < steps side → node side k ≡ v → side ≡ false → CanGoUp old side k (delta +ℤ pos 1)
      on_right true k lt e right = absurd (true≢false right)
      on_right false k lt e right = room k lt (sym e)

  -- the entering arc leaves at once: the tree stays
  pub strong_entering : ((k : ℕ) → k < steps false → CanGoUp old false k (delta +ℤ pos 1)) → HasRoomUp g ps ls new
  strong_entering room = record { room = λ v p h. kept v p h (λ k lt e. room k lt) }

  -- an arc of the right side leaves, and something moves
  pub strong_right : (m : ℕ) (qs ms : List ℕ) → m < steps false → IsTurned ps qs d (node false m) (end false) (end true)
      → IsRelabelled ps ls ms d (node false m) enter (end false) → pos 1 ≤ℤ delta
      → ((k : ℕ) → m < k → k < steps false → CanGoUp old false k (delta +ℤ pos 1)) → HasRoomUp g qs ms new
  strong_right m qs ms in_walk turned relabelled positive room = record {
    room = λ v p h. each_turned m tree.rooted (cycle.in_range false) (omega (arith, in_walk, cycle.short false)) turned relabelled
        (λ arc u w. CanLeave g new arc u (pos 1)) v (CanLeave-le positive (CanLeave-back cycle.apart cycle.joined push.entering (fits enter) (low enter)))
        (λ k lt. (let h : k < steps false = omega arith in
        CanLeave-le positive (CanLeave-back (side_apart false k h) (side_joins false k h) (push.side false k h)
        (fits (slice_index ls (node false k))) (low (slice_index ls (node false k))))))
        (λ off. kept v p (omega (arith, h, turned.size)) (λ k lt e. elim (cases_lt m k) [
          | inl beyond ↦ room k beyond lt
          | inr within ↦ absurd (off k (omega arith) e)
        ]));
  }

  -- an arc of the left side leaves
  pub strong_left : (m : ℕ) (qs ms : List ℕ) → m < steps true → IsTurned ps qs d (node true m) (end true) (end false)
      → IsRelabelled ps ls ms d (node true m) enter (end true)
      → ((k : ℕ) → k < m → CanLeave g old (slice_index ls (node true k)) (slice_index ps (node true k)) (delta +ℤ pos 1))
      → CanLeave g old enter (end true) (delta +ℤ pos 1) → ((k : ℕ) → k < steps false → CanGoUp old false k (delta +ℤ pos 1)) → HasRoomUp g qs ms new
  strong_left m qs ms in_walk turned relabelled room_left room_entering room_right = record {
    room = λ v p h. each_turned m tree.rooted (cycle.in_range true) (omega (arith, in_walk, cycle.short true)) turned relabelled
        (λ arc u w. CanLeave g new arc u (pos 1)) v (CanLeave-more cycle.apart cycle.joined push.entering room_entering)
        (λ k lt. (let h : k < steps true = omega arith in
        CanLeave-more (λ e. side_apart true k h (sym e)) (JoinsEnds-sym (side_joins true k h)) (push.side true k h) (room_left k lt)))
        (λ off. kept v p (omega (arith, h, turned.size)) (λ k lt e. room_right k lt));
  }

-- the arcs of the turned tree join its nodes and their parents
pub IsTreeOf-turned : {g : Arcs} {ps ls qs ms : List ℕ} {d e : ℕ → ℕ} {enter inner outer : ℕ} (m : ℕ) → IsTreeOf g ps ls d → IsRooted qs e
    → inner < length ps → m < d inner → JoinsEnds g enter inner outer → IsTurned ps qs d (climb ps m inner) inner outer
    → IsRelabelled ps ls ms d (climb ps m inner) enter inner → IsTreeOf g qs ms e
IsTreeOf-turned {g} {ps} {ls} {qs} {d} {inner} m tree rooted in_range short joined turned relabelled = record {
  rooted = rooted;
  joined = λ v p h. each_turned m tree.rooted in_range (omega arith) turned relabelled (JoinsEnds g) v joined
      (λ k lt. (let w = step_at tree.rooted inner (d inner) k in_range (omega arith) (omega arith) in
      JoinsEnds-sym (tree.joined (climb ps k inner) w.above w.within)))
      (λ off. tree.joined v p (omega (arith, h, turned.size)));
}
