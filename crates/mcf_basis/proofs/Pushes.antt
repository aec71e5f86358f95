-- Arcs by their labels, what they can still carry, and what a push along an arc leaves of its room.
use Rattle.std.proofs.Common.{◌≡◌, ◌≢◌, ℕ, zero, suc, ◌<◌, ◌≤◌, ◌⊎◌, inl, inr, List, length, Option, Some, None, sym, ap, ◌∙◌, arith, ℤ, pos, ◌+ℤ◌, ◌≤ℤ◌, Bool}
use Rattle.std.proofs.Common.{true, false}
use Rattle.std.specs.Prelude.{slice_index, if◌then◌else◌}
use Rattle.std.proofs.lemmas.Bool.{cases_eq}
use Rattle.std.proofs.lemmas.Int.{ints}
use Rattle.mcf_tree.specs.Rooted.{climb, IsRooted}

-- at most the limit, if there is one
abbrev pub IsWithin : Option ℤ → ℤ → Type 0
IsWithin None n = Unit {0}
IsWithin (Some limit) n = n ≤ℤ limit

pub record Arcs : Type 0 where
  pub tail : ℕ → ℕ
  pub head : ℕ → ℕ
  pub limit : ℕ → Option ℤ

-- the arc joins u and v, in one direction or the other
pub data JoinsEnds (g : Arcs) (arc u v : ℕ) : Type 0 where
  out_of : g.tail arc ≡ u → g.head arc ≡ v → JoinsEnds g arc u v
  into : g.tail arc ≡ v → g.head arc ≡ u → JoinsEnds g arc u v

-- d more can go from the end v of the arc to its other end
pub record CanLeave (g : Arcs) (amount : ℕ → ℤ) (arc v : ℕ) (d : ℤ) : Type 0 where
  pub forward : g.tail arc ≡ v → IsWithin (g.limit arc) (amount arc +ℤ d)
  pub backward : g.tail arc ≢ v → d ≤ℤ amount arc

-- d went from the end v of the arc to its other end
pub record Leaves (g : Arcs) (old new : ℕ → ℤ) (arc v : ℕ) (d : ℤ) : Type 0 where
  pub forward : g.tail arc ≡ v → new arc ≡ old arc +ℤ d
  pub backward : g.tail arc ≢ v → new arc +ℤ d ≡ old arc

-- the tree is made of arcs that join each node and its parent
pub record IsTreeOf (g : Arcs) (ps ls : List ℕ) (d : ℕ → ℕ) : Type 0 where
  pub rooted : IsRooted ps d
  pub joined : (v : ℕ) → 0 < v → v < length ps → JoinsEnds g (slice_index ls v) v (slice_index ps v)

-- The arc enter leads from the end of the left side (true) to that of the right one (false). From
-- either end the path goes up to the apex, by this many steps.
pub record IsCycle (g : Arcs) (ps ls : List ℕ) (d : ℕ → ℕ) (enter : ℕ) (end steps : Bool → ℕ) : Type 0 where
  pub in_range : (side : Bool) → end side < length ps
  pub short : (side : Bool) → steps side ≤ d (end side)
  pub closed : climb ps (steps true) (end true) ≡ climb ps (steps false) (end false)
  pub apart : end true ≢ end false
  pub joined : JoinsEnds g enter (end true) (end false)
  pub outside : (v : ℕ) → 0 < v → v < length ps → slice_index ls v ≢ enter

-- delta goes down the left side, over the entering arc and up the right side, and no other amount
-- changes
pub record IsPushed (g : Arcs) (ps ls : List ℕ) (old new : ℕ → ℤ) (enter : ℕ) (end steps : Bool → ℕ) (delta : ℤ) : Type 0 where
  pub some : pos 0 ≤ℤ delta
  pub side : (side : Bool) (k : ℕ) → k < steps side → Leaves g old new (slice_index ls (climb ps k (end side)))
      (if side then slice_index ps (climb ps k (end side)) else climb ps k (end side)) delta
  pub entering : Leaves g old new enter (end true) delta
  pub others : (arc : ℕ) → arc ≢ enter → ((side : Bool) (k : ℕ) → k < steps side → arc ≢ slice_index ls (climb ps k (end side))) → new arc ≡ old arc

-- each arc of the tree has room toward the root
pub record HasRoomUp (g : Arcs) (ps ls : List ℕ) (amount : ℕ → ℤ) : Type 0 where
  pub room : (v : ℕ) → 0 < v → v < length ps → CanLeave g amount (slice_index ls v) v (pos 1)

pub IsWithin-le : (o : Option ℤ) (m n : ℤ) → m ≤ℤ n → IsWithin o n → IsWithin o m
IsWithin-le None m n h p = tt
IsWithin-le (Some w) m n h p = omega (arith, ints, h, p)

-- an end that isn't the tail is the head
pub other_end : {g : Arcs} {arc u v : ℕ} → JoinsEnds g arc u v → g.tail arc ≢ v → g.tail arc ≡ u
other_end (out_of t h) ne = t
other_end (into t h) ne = absurd (ne t)

pub JoinsEnds-sym : {g : Arcs} {arc u v : ℕ} → JoinsEnds g arc u v → JoinsEnds g arc v u
JoinsEnds-sym (out_of t h) = into t h
JoinsEnds-sym (into t h) = out_of t h

pub CanLeave-le : {g : Arcs} {x : ℕ → ℤ} {arc v : ℕ} {d e : ℤ} → d ≤ℤ e → CanLeave g x arc v e → CanLeave g x arc v d
CanLeave-le {g} {x} {arc} {d} {e} h c = record {
  forward = λ t. IsWithin-le (g.limit arc) (x arc +ℤ d) (x arc +ℤ e) (omega (arith, ints, h)) (c.forward t);
  backward = λ t. (let b : e ≤ℤ x arc = c.backward t in omega (arith, ints, h, b));
}

module _ {g : Arcs} {old new : ℕ → ℤ} {arc u v : ℕ} {d : ℤ} (apart : u ≢ v) (joins : JoinsEnds g arc u v) (pushed : Leaves g old new arc u d) where
  -- what went from u can go back from v
  pub CanLeave-back : IsWithin (g.limit arc) (old arc) → pos 0 ≤ℤ old arc → CanLeave g new arc v d
  CanLeave-back fits low = record {
    forward = λ t. (let e : new arc +ℤ d ≡ old arc = pushed.backward (λ q. apart (sym q ∙ t)) in rw e fits);
    backward = λ t. (let e : new arc ≡ old arc +ℤ d = pushed.forward (other_end joins t) in omega (arith, ints, e, low));
  }

  -- where one more could have gone from u, one can still go
  pub CanLeave-more : CanLeave g old arc u (d +ℤ pos 1) → CanLeave g new arc u (pos 1)
  CanLeave-more c = record {
    forward = λ t. (let e : new arc ≡ old arc +ℤ d = pushed.forward t in
        IsWithin-le (g.limit arc) (new arc +ℤ pos 1) (old arc +ℤ (d +ℤ pos 1)) (omega (arith, ints, e)) (c.forward t));
    backward = λ t. (let e : new arc +ℤ d ≡ old arc = pushed.backward t in
        let b : (d +ℤ pos 1) ≤ℤ old arc = c.backward t in omega (arith, ints, e, b));
  }

  -- what could go from v still can
  pub CanLeave-kept : pos 0 ≤ℤ d → CanLeave g old arc v (pos 1) → CanLeave g new arc v (pos 1)
  CanLeave-kept some c = record {
    forward = λ t. (let e : new arc +ℤ d ≡ old arc = pushed.backward (λ q. apart (sym q ∙ t)) in
        IsWithin-le (g.limit arc) (new arc +ℤ pos 1) (old arc +ℤ pos 1) (omega (arith, ints, e, some)) (c.forward t));
    backward = λ t. (let e : new arc ≡ old arc +ℤ d = pushed.forward (other_end joins t) in
        let b : pos 1 ≤ℤ old arc = c.backward t in omega (arith, ints, e, b, some));
  }

pub CanLeave-same : {g : Arcs} {old new : ℕ → ℤ} {arc v : ℕ} {d : ℤ} → new arc ≡ old arc → CanLeave g old arc v d → CanLeave g new arc v d
CanLeave-same e c = record {
  forward = λ t. rw e (c.forward t);
  backward = λ t. rw e (c.backward t);
}

-- ---- both sides, and a number among those of a table

pub each_side : (P : Bool → Type 0) → P true → P false → (side : Bool) → P side
each_side P left right true = left
each_side P left right false = right

pub record IsFound (f : ℕ → ℕ) (n x : ℕ) : Type 0 where
  pub at : ℕ
  pub short : at < n
  pub is : f at ≡ x

pub cases_found : (f : ℕ → ℕ) (n x : ℕ) → IsFound f n x ⊎ ((i : ℕ) → i < n → f i ≢ x)
cases_found f zero x = inr (λ i h. absurd (omega arith))
cases_found f (suc n) x =
    elim (cases_eq (f n) x) [
      | inl e ↦ inl (record { at = n; short = omega arith; is = e })
      | inr ne ↦ elim (cases_found f n x) [
        | inl t ↦ inl (let h : t.at < n = t.short in record { at = t.at; short = omega arith; is = t.is })
        | inr none ↦ inr (λ i h. elim (cases_eq i n) [
          | inl e ↦ (λ q. ne (ap f (sym e) ∙ q))
          | inr other ↦ none i (omega arith)
        ])
      ]
    ]

-- the same of a table for each side
pub record IsOnSide (f : Bool → ℕ → ℕ) (n : Bool → ℕ) (x : ℕ) : Type 0 where
  pub side : Bool
  pub at : ℕ
  pub short : at < n side
  pub is : f side at ≡ x

pub cases_sides : (f : Bool → ℕ → ℕ) (n : Bool → ℕ) (x : ℕ) → IsOnSide f n x ⊎ ((side : Bool) (i : ℕ) → i < n side → f side i ≢ x)
cases_sides f n x =
    elim (cases_found (f true) (n true) x) [
      | inl t ↦ inl (record { side = true; at = t.at; short = t.short; is = t.is })
      | inr left ↦ elim (cases_found (f false) (n false) x) [
        | inl t ↦ inl (record { side = false; at = t.at; short = t.short; is = t.is })
        | inr right ↦ inr (each_side (λ side. (i : ℕ) → i < n side → f side i ≢ x) left right)
      ]
    ]
