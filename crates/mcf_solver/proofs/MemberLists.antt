-- The members of a node set, as a loop over the nodes lists them.
use Rattle.std.proofs.Common.{◌≡◌, ℕ, ◌+◌, ◌≤◌, ◌<◌, Bool, true, false, ◌||◌, eqb, List, [], ◌∷◌, ◌++◌, length, get_or, sym, ap, subst, ◌∙◌, inl, inr, arith}
use Rattle.std.specs.List.{All}
use Rattle.std.specs.List.Sorted.{IsStrictlyIncreasing}
use Rattle.std.proofs.lemmas.Bool.{cases_eq, eq-eqb, ne_eqb}
use Rattle.std.proofs.Math.Bool.{or-false, or-true}
use Rattle.std.proofs.lemmas.List.{get_or_append_left, get_or_push, length-append}
use Rattle.std.proofs.lemmas.List.Elements.{All-push}
use Rattle.std.proofs.lemmas.List.Folds.{list_any-append, list_any_none}
use Rattle.mcf_flows.specs.Blocking.{in_list, in_table}
use Rattle.mcf_flows.specs.Network.{IsNode}

-- the members among the first nodes, ascending
pub record AreMembersUpTo (set : List Bool) (i : ℕ) (list : List ℕ) : Type 0 where
  pub are_nodes : All (IsNode i) list
  pub ascending : IsStrictlyIncreasing list
  pub few : length list ≤ i
  pub same : (v : ℕ) → IsNode i v → in_list list v ≡ in_table set v

-- a number past all of a list isn't in it
absent : (list : List ℕ) (i v : ℕ) → All (IsNode i) list → i < v → in_list list v ≡ false
absent list i v all h =
    list_any_none (λ w. eqb w v) list (λ k d q. ne_eqb (get_or list k d) v (λ e. absurd (omega (arith, e, h, all k d q))))

increasing_more : (list : List ℕ) (i v : ℕ) → All (IsNode i) list → i < v → IsStrictlyIncreasing list → IsStrictlyIncreasing (list ++ v ∷ [])
increasing_more list i v all h rises k inside =
    let size : length (list ++ v ∷ []) ≡ length list + 1 = length-append list (v ∷ []) in
    let low : k < length list = omega (arith, inside, size) in
    let left : get_or (list ++ v ∷ []) k 0 ≡ get_or list k 0 = get_or_append_left list (v ∷ []) 0 k low in
    elim (cases_eq (k + 1) (length list)) [
      | inl last ↦ omega (arith, left, get_or_push list v 0 (k + 1) (sym last), all k 0 low, h)
      | inr other ↦
          let more : k + 1 < length list = omega (arith, inside, size, other) in
          omega (arith, left, get_or_append_left list (v ∷ []) 0 (k + 1) more, rises k more)
    ]

module _ (set : List Bool) (i v : ℕ) (next : v ≡ i + 1) (before : List ℕ) (so_far : AreMembersUpTo set i before) where
  -- the next node is no member
  pub member_skipped : in_table set v ≡ false → AreMembersUpTo set (i + 1) before
  member_skipped stranger = record {
    are_nodes = λ k d h. let a = so_far.are_nodes k d h in omega (arith, a);
    ascending = so_far.ascending;
    few = omega (arith, so_far.few);
    same = λ w h. elim (cases_eq w v) [
      | inl e ↦ ap (in_list before) e ∙ absent before i v so_far.are_nodes (omega (arith, next)) ∙ sym stranger ∙ sym (ap (in_table set) e)
      | inr other ↦ so_far.same w (omega (arith, h, other, next))
    ];
  }

  in_more : (w : ℕ) → in_list (before ++ v ∷ []) w ≡ (in_list before w || (eqb v w || false))
  in_more w = list_any-append (λ u. eqb u w) before (v ∷ [])

  in_longer : in_table set v ≡ true → (w : ℕ) → IsNode (i + 1) w → in_list (before ++ v ∷ []) w ≡ in_table set w
  in_longer member w h =
      elim (cases_eq v w) [
        | inl e ↦
            in_more w
            ∙ ap (λ b. in_list before w || (b || false)) (eq-eqb v w e)
            ∙ or-true (in_list before w)
            ∙ sym member
            ∙ ap (in_table set) e
        | inr other ↦
            in_more w
            ∙ ap (λ b. in_list before w || (b || false)) (ne_eqb v w other)
            ∙ or-false (in_list before w)
            ∙ so_far.same w (omega (arith, h, other, next))
      ]

  -- the next node is a member
  pub member_listed : (after : List ℕ) → in_table set v ≡ true → after ≡ before ++ v ∷ [] → AreMembersUpTo set (i + 1) after
  member_listed after member e =
      subst (AreMembersUpTo set (i + 1)) (sym e) (record {
        are_nodes = All-push (IsNode (i + 1)) before v (λ k d h. let a = so_far.are_nodes k d h in omega (arith, a)) (omega (arith, next));
        ascending = increasing_more before i v so_far.are_nodes (omega (arith, next)) so_far.ascending;
        few = omega (arith, so_far.few, length-append before (v ∷ []));
        same = in_longer member;
      })
