-- Sums over the routes of a model after a split.
use Rattle.std.proofs.Common.{◌≡◌, ℕ, zero, suc, ◌+◌, ◌≤◌, eqb, Bool, true, false, not, List, [], ◌∷◌, length, refl, ap, sym, ◌∙◌, arith, ℤ, pos, ◌+ℤ◌, inl, inr}
use Rattle.std.specs.List.{All}
use Rattle.std.proofs.lemmas.Int.{ints}
use Rattle.std.proofs.lemmas.Bool.{cases_lt}
use Rattle.std.proofs.lemmas.List.Elements.{All-head, All-tail}
use Rattle.mcf_flows.specs.Network.{IsNode, node_sum, when}
use Rattle.mcf_flows.proofs.NodeSums.{node_sum-add, node_sum-same}
use Rattle.mcf_model.specs.Model.{Route, plan_sum}
use Rattle.mcf_groups.specs.Splits.{HasEnds, MayAllMove, MayMove, all_moved, end_of, moved, old_of, passed, with_end}
use Rattle.mcf_roster.proofs.RangeSums.{none_at, one_at, when_is, when_not}

-- ---- ends

pub moves_to : (b : Bool) (v : ℕ) (r : Route) → end_of b (with_end b v r) ≡ v
moves_to true v r = refl
moves_to false v r = refl

pub other_end : (b : Bool) (v : ℕ) (r : Route) → end_of (not b) (with_end b v r) ≡ end_of (not b) r
other_end true v r = refl
other_end false v r = refl

pub end_is_place : (b : Bool) (n : ℕ) (r : Route) → HasEnds n r → IsNode n (end_of b r)
end_is_place true n r h = h.tail_is_place
end_is_place false n r h = h.head_is_place

-- what a route carries, if an end of it is this place
abbrev pub at_end : Bool → ℕ → Route → ℤ → ℤ
at_end b w r x = when (eqb (end_of b r) w) x

-- ---- sums that stay the same

pub kept_sum : (b : Bool) (n : ℕ) (t : Route → ℤ → ℤ) → ((j : ℕ) (r : Route) (x : ℤ) → t (moved b n j r) x ≡ t r x) → (js : List ℕ) (rs : List Route) (xs : List ℤ)
    → plan_sum t (all_moved b n js rs) xs ≡ plan_sum t rs xs
kept_sum b n t e [] rs xs = refl
kept_sum b n t e (j ∷ js) [] xs = refl
kept_sum b n t e (j ∷ js) (r ∷ rs) [] = refl
kept_sum b n t e (j ∷ js) (r ∷ rs) (x ∷ xs) = omega (arith, ints, e j r x, kept_sum b n t e js rs xs)

pub other_kept : (b : Bool) (n w j : ℕ) (r : Route) (x : ℤ) → at_end (not b) w (moved b n j r) x ≡ at_end (not b) w r x
other_kept b n w zero r x = refl
other_kept b n w (suc j) r x = ap (λ v. when (eqb v w) x) (other_end b (n + suc j) r)

-- nothing is at a place beyond those of the model
pub none_beyond : (b : Bool) (n w : ℕ) → suc n ≤ w → (rs : List Route) (xs : List ℤ) → All (HasEnds n) rs → plan_sum (at_end b w) rs xs ≡ pos 0
none_beyond b n w h [] xs k = refl
none_beyond b n w h (r ∷ rs) [] k = refl
none_beyond b n w h (r ∷ rs) (x ∷ xs) k =
    let here = end_is_place b n r (All-head (HasEnds n) r rs k) in
    omega (
      arith,
      ints,
      when_not (end_of b r) w x (λ bad. absurd (omega (arith, bad, here, h))),
      none_beyond b n w h rs xs (All-tail (HasEnds n) r rs k),
    )

-- ---- new places

pub same_after : (n a c : ℕ) (x : ℤ) → when (eqb (n + a) (n + c)) x ≡ when (eqb a c) x
same_after n a c x =
    elim (cases_lt a c) [
      | inl more ↦ when_not (n + a) (n + c) x (λ bad. absurd (omega (arith, bad, more))) ∙ sym (when_not a c x (λ bad. absurd (omega (arith, bad, more))))
      | inr le ↦ elim (cases_lt c a) [
        | inl less ↦ when_not (n + a) (n + c) x (λ bad. absurd (omega (arith, bad, less))) ∙ sym (when_not a c x (λ bad. absurd (omega (arith, bad, less))))
        | inr ge ↦ let e : a ≡ c = omega (arith, le, ge) in when_is (n + a) (n + c) x (omega (arith, e)) ∙ sym (when_is a c x e)
      ]
    ]

pub moved_in : (b : Bool) (n i j : ℕ) (r : Route) (x : ℤ) → 1 ≤ i → HasEnds n r → at_end b (n + i) (moved b n j r) x ≡ when (eqb j i) x
moved_in b n i zero r x h k =
    let here = end_is_place b n r k in
    when_not (end_of b r) (n + i) x (λ bad. absurd (omega (arith, bad, here, h))) ∙ sym (when_not zero i x (λ bad. absurd (omega (arith, bad, h))))
moved_in b n i (suc j) r x h k = ap (λ v. when (eqb v (n + i)) x) (moves_to b (n + suc j) r) ∙ same_after n (suc j) i x

-- what moves to a new place
pub all_in : (b : Bool) (n i : ℕ) → 1 ≤ i → (js : List ℕ) (rs : List Route) (xs : List ℤ) → All (HasEnds n) rs → length rs ≡ length xs
    → plan_sum (at_end b (n + i)) (all_moved b n js rs) xs ≡ passed js xs i
all_in b n i h [] rs xs k e = none_beyond b n (n + i) (omega (arith, h)) rs xs k
all_in b n i h (j ∷ js) [] [] k e = refl
all_in b n i h (j ∷ js) [] (x ∷ xs) k e = absurd (omega arith)
all_in b n i h (j ∷ js) (r ∷ rs) [] k e = refl
all_in b n i h (j ∷ js) (r ∷ rs) (x ∷ xs) k e =
    omega (arith, ints, moved_in b n i j r x h (All-head (HasEnds n) r rs k), all_in b n i h js rs xs (All-tail (HasEnds n) r rs k) (omega arith))

-- ---- old places

when_add : (t : Bool) (x y : ℤ) → when t (x +ℤ y) ≡ when t x +ℤ when t y
when_add true x y = refl
when_add false x y = refl

when_none : (t : Bool) → when t (pos 0) ≡ pos 0
when_none true = refl
when_none false = refl

module _ (b : Bool) (n w : ℕ) (place : IsNode n w) (olds : List ℕ) where
  -- what moves away from the place
  pub away : (j : ℕ) (r : Route) (x : ℤ) → MayMove b olds j r
      → at_end b w r x ≡ at_end b w (moved b n j r) x +ℤ node_sum (λ v. when (eqb (old_of olds v) w) (when (eqb j v) x)) (length olds)
  away zero r x k =
      omega (
        arith,
        ints,
        none_at (λ v. when (eqb (old_of olds v) w) (when (eqb zero v) x)) (length olds)
            (λ v q. ap (when (eqb (old_of olds v) w)) (when_not zero v x (λ bad. absurd (omega (arith, bad, q)))) ∙ when_none (eqb (old_of olds v) w)),
      )
  away (suc j) r x k =
      omega (
        arith,
        ints,
        ap (λ v. when (eqb v w) x) (moves_to b (n + suc j) r),
        when_not (n + suc j) w x (λ bad. absurd (omega (arith, bad, place))),
        one_at (λ v. when (eqb (old_of olds v) w) (when (eqb (suc j) v) x)) (length olds) (suc j) k.0
            (λ v q other. ap (when (eqb (old_of olds v) w)) (when_not (suc j) v x (λ bad. other (sym bad))) ∙ when_none (eqb (old_of olds v) w)),
        ap (when (eqb (old_of olds (suc j)) w)) (when_is (suc j) (suc j) x refl),
        ap (λ v. when (eqb v w) x) k.1,
      )

  pub all_away : (js : List ℕ) (rs : List Route) (xs : List ℤ) → length rs ≡ length xs → MayAllMove b olds js rs
      → plan_sum (at_end b w) rs xs
      ≡ plan_sum (at_end b w) (all_moved b n js rs) xs +ℤ node_sum (λ v. when (eqb (old_of olds v) w) (passed js xs v)) (length olds)
  all_away [] rs xs e k =
      omega (arith, ints, none_at (λ v. when (eqb (old_of olds v) w) (passed [] xs v)) (length olds) (λ v q. when_none (eqb (old_of olds v) w)))
  all_away (j ∷ js) [] [] e k =
      omega (arith, ints, none_at (λ v. when (eqb (old_of olds v) w) (passed (j ∷ js) [] v)) (length olds) (λ v q. when_none (eqb (old_of olds v) w)))
  all_away (j ∷ js) [] (x ∷ xs) e k = absurd (omega arith)
  all_away (j ∷ js) (r ∷ rs) [] e k = absurd (omega arith)
  all_away (j ∷ js) (r ∷ rs) (x ∷ xs) e k =
      omega (
        arith,
        ints,
        away j r x k.0,
        all_away js rs xs (omega arith) k.1,
        node_sum-same (λ v. when (eqb (old_of olds v) w) (when (eqb j v) x +ℤ passed js xs v))
            (λ v. when (eqb (old_of olds v) w) (when (eqb j v) x) +ℤ when (eqb (old_of olds v) w) (passed js xs v)) (length olds)
            (λ v q. when_add (eqb (old_of olds v) w) (when (eqb j v) x) (passed js xs v)),
        node_sum-add (λ v. when (eqb (old_of olds v) w) (when (eqb j v) x)) (λ v. when (eqb (old_of olds v) w) (passed js xs v)) (length olds),
      )
