-- Choices that keep to groups are plans of the model, and plans of the model are such choices.
use Rattle.std.proofs.Common.{◌≡◌, ℕ, suc, ◌≤◌, eqb, Bool, true, false, ◌&&◌, List, [], ◌∷◌, ◌++◌, length, map, take, refl, ap, sym, ◌∙◌, subst, arith, append_assoc, ℤ, pos}
use Rattle.std.specs.Prelude.{None, if◌then◌else◌}
use Rattle.std.specs.List.{All, range_with_len}
use Rattle.std.proofs.Math.Seq.{take-append_seam}
use Rattle.std.proofs.lemmas.Int.{ints}
use Rattle.std.proofs.lemmas.List.{length-map}
use Rattle.std.proofs.lemmas.List.Elements.{All-cons, All-head, All-nil, All-tail}
use Rattle.mcf_flows.specs.Blocking.{in_list}
use Rattle.mcf_flows.specs.Network.{when}
use Rattle.mcf_model.specs.Model.{IsPlan, Model, Route, plan_cost}
use Rattle.mcf_roster.specs.declared.pairs.Pair.{Pair}
use Rattle.mcf_roster.specs.Models.{amount_of, choice_of, is_carried, plan_of}
use Rattle.mcf_roster.specs.RosterFaults.{IsSoundRoster}
use Rattle.mcf_roster.specs.Rosters.{Roster, chosen_sum, takers_of, taken_by}
use Rattle.mcf_roster.proofs.Exchange.{choice_is_plan, plan_is_choice, tests_again}
use Rattle.mcf_roster.proofs.RangeSums.{when_not}
use Rattle.mcf_groups.specs.declared.groups.Group.{Group}
use Rattle.mcf_groups.specs.GroupFaults.{fault_from, group_fault}
use Rattle.mcf_groups.specs.GroupLaws.{GroupsAreModels, IsGroupChoiceOf, IsGroupPlanOf, LeastPlansAreLeastGroupChoices}
use Rattle.mcf_groups.specs.GroupModels.{group_model, group_plan, plan_by, split_by}
use Rattle.mcf_groups.specs.Groups.{IsGroupChoice, KeepsTo, count_in, is_of, member_of, owner_count, owner_of}
use Rattle.mcf_groups.specs.Nests.{IsSoundNest, Nest, after, move_of, split_of, start_of}
use Rattle.mcf_groups.specs.SplitLaws.{MaySplit}
use Rattle.mcf_groups.specs.Splits.{HasEnds, passed, split, split_plan}
use Rattle.mcf_groups.proofs.Splits.{is_split, is_whole}
use Rattle.mcf_groups.proofs.Stages.{fine_from, first_fine, link_routes, links_end, may_split, olds_long, split_staged, staged, start_sound, start_staged, with_sound}

-- ---- what a group counts

one_passed : (b : Bool) (o v : ℕ) (c : Bool) → 1 ≤ v
    → when (eqb (if b then o else 0) v) (amount_of c) ≡ when c (when (eqb o v && b) (pos 1))
one_passed true o v c h = go (eqb o v) c
  where
    go : (t c : Bool) → when t (amount_of c) ≡ when c (when (t && true) (pos 1))
    go true true = refl
    go true false = refl
    go false true = refl
    go false false = refl
one_passed false o v c h = when_not 0 v (amount_of c) (λ bad. absurd (omega (arith, bad, h))) ∙ go (eqb o v) c
  where
    go : (t c : Bool) → pos 0 ≡ when c (when (t && false) (pos 1))
    go true true = refl
    go true false = refl
    go false true = refl
    go false false = refl

pub passed_is : (g : Group) (v : ℕ) → 1 ≤ v → (ps : List Pair) (cs : List Bool) (rest : List ℤ) → length cs ≡ length ps
    → passed (map (move_of g) ps) (map amount_of cs ++ rest) v ≡ chosen_sum (λ p. when (is_of g v p) (pos 1)) ps cs
passed_is g v h [] cs rest e = refl
passed_is g v h (p ∷ ps) [] rest e = absurd (omega arith)
passed_is g v h (p ∷ ps) (c ∷ cs) rest e =
    omega (
      arith,
      ints,
      one_passed (in_list g.members.items (member_of g.of p)) (owner_of g.of p) v c h,
      passed_is g v h ps cs rest (omega arith),
    )

-- ---- one group after the other

-- a plan of the model before the splits, which stands for a longer one after them
pub record Earlier (R : Roster) (S : Nest) (gs : List Group) (m : Model) (longer : List ℤ) : Type 0 where
  pub plan : List ℤ
  pub more : List ℤ
  pub is_plan : IsPlan m plan
  pub longer_is : plan ++ more ≡ longer
  pub keeps : (chosen : List Bool) (rest : List ℤ) → length chosen ≡ length R.pairs → plan ≡ map amount_of chosen ++ rest → All (KeepsTo R chosen) gs
  pub same_cost : plan_cost (split_by R S gs m) longer ≡ plan_cost m plan

-- a plan of the model after the splits, which costs as much as one before
pub record Later (R : Roster) (S : Nest) (gs : List Group) (plan : List ℤ) (cost : ℤ) (m : Model) : Type 0 where
  pub is_plan : IsPlan (split_by R S gs m) (plan_by R S gs plan)
  pub same_cost : plan_cost (split_by R S gs m) (plan_by R S gs plan) ≡ cost

later_with : (R : Roster) (S : Nest) (g : Group) (gs : List Group) (plan : List ℤ) (cost : ℤ) (m : Model)
    → Later R (after R S g) gs (split_plan (split_of R S g) plan) cost (split m (split_of R S g)) → Later R S (g ∷ gs) plan cost m
later_with R S g gs plan cost m h = record { is_plan = h.is_plan; same_cost = h.same_cost }

earlier_with : (R : Roster) (S : Nest) (g : Group) (gs : List Group) (m : Model) (longer : List ℤ) → MaySplit m (split_of R S g)
    → Earlier R (after R S g) gs (split m (split_of R S g)) longer → Earlier R S (g ∷ gs) m longer
earlier_with R S g gs m longer may b =
    let s = split_of R S g in
    let plan = take (length m.routes) b.plan in
    let whole = is_whole m s may b.plan b.is_plan in
    let counts = map (passed s.moves plan) (range_with_len 1 (length s.olds)) in
    record {
      plan = plan;
      more = counts ++ b.more;
      is_plan = whole.is_plan;
      longer_is = sym (append_assoc plan counts b.more) ∙ ap (λ xs. xs ++ b.more) whole.back_again ∙ b.longer_is;
      keeps = λ chosen rest long begins.
          All-cons (KeepsTo R chosen) g gs
          (λ v k.
          let few : v ≤ length s.olds = omega (arith, k, olds_long R S g) in
          let count : passed s.moves plan v ≡ count_in R g chosen v = ap (λ xs. passed s.moves xs v) begins ∙ passed_is g v k.0 R.pairs chosen rest long in
          let within = whole.within v (k.0, few) in
          record { enough = omega (arith, ints, within, count); not_too_many = omega (arith, ints, within, count) })
          (b.keeps chosen (rest ++ counts) long
          (sym whole.back_again ∙ ap (λ xs. xs ++ counts) begins ∙ append_assoc (map amount_of chosen) rest counts));
      same_cost = b.same_cost ∙ ap (plan_cost (split m s)) (sym whole.back_again) ∙ (is_split m s may plan whole.is_plan whole.within).same_cost;
    }

module _ (R : Roster) (ends : IsSoundRoster R) where
  pub later : (S : Nest) → IsSoundNest R S → (links : List Route) → All (HasEnds S.places) links → (number : ℕ) (gs : List Group)
      → fault_from R S number gs ≡ None → (chosen : List Bool) → length chosen ≡ length R.pairs → (plan rest : List ℤ)
      → plan ≡ map amount_of chosen ++ rest → IsPlan (staged R S links) plan → All (KeepsTo R chosen) gs
      → Later R S gs plan (plan_cost (staged R S links) plan) (staged R S links)
  later S sound links linked number [] fine chosen long plan rest begins is keeps = record { is_plan = is; same_cost = refl }
  later S sound links linked number (g ∷ gs) fine chosen long plan rest begins is keeps =
      let both = first_fine R S number g gs fine in
      let m = staged R S links in
      let s = split_of R S g in
      let may = may_split R S ends sound links linked g (fine_from R S g both.0) in
      let kept = All-head (KeepsTo R chosen) g gs keeps in
      let made = is_split m s may plan is
      (λ v k.
      let few : v ≤ owner_count R g.of = omega (arith, k, olds_long R S g) in
      let count : passed s.moves plan v ≡ count_in R g chosen v = ap (λ xs. passed s.moves xs v) begins ∙ passed_is g v k.0 R.pairs chosen rest long in
      let range = kept v (k.0, few) in
      (omega (arith, ints, range.enough, count), omega (arith, ints, range.not_too_many, count))) in
      let counts = map (passed s.moves plan) (range_with_len 1 (length s.olds)) in
      let next = split_staged R S links g ends sound in
      let cost = plan_cost m plan in
      later_with R S g gs plan cost m
      (subst (Later R (after R S g) gs (split_plan s plan) cost) (sym next)
      (subst (λ z. Later R (after R S g) gs (split_plan s plan) z (staged R (after R S g) (links ++ link_routes R S g)))
      (ap (λ k. plan_cost k (split_plan s plan)) (sym next) ∙ made.same_cost)
      (later (after R S g) (with_sound R S sound g.of g.members.items) (links ++ link_routes R S g) (links_end R S ends sound links linked g) (suc number) gs both.1
      chosen long (split_plan s plan) (rest ++ counts) (ap (λ xs. xs ++ counts) begins ∙ append_assoc (map amount_of chosen) rest counts)
      (subst (λ k. IsPlan k (split_plan s plan)) next made.is_plan) (All-tail (KeepsTo R chosen) g gs keeps))))

  pub earlier : (S : Nest) → IsSoundNest R S → (links : List Route) → All (HasEnds S.places) links → (number : ℕ) (gs : List Group)
      → fault_from R S number gs ≡ None → (longer : List ℤ) → IsPlan (split_by R S gs (staged R S links)) longer
      → Earlier R S gs (staged R S links) longer
  earlier S sound links linked number [] fine longer is =
      record { plan = longer; more = []; is_plan = is; longer_is = none longer; keeps = λ chosen rest long e. All-nil (KeepsTo R chosen); same_cost = refl }
    where
      none : (xs : List ℤ) → xs ++ [] ≡ xs
      none [] = refl
      none (x ∷ xs) = ap (λ ys. x ∷ ys) (none xs)
  earlier S sound links linked number (g ∷ gs) fine longer is =
      let both = first_fine R S number g gs fine in
      let m = staged R S links in
      let s = split_of R S g in
      let may = may_split R S ends sound links linked g (fine_from R S g both.0) in
      let next = split_staged R S links g ends sound in
      let later_is = subst (λ k. IsPlan (split_by R (after R S g) gs k) longer) next is in
      let rec = earlier (after R S g) (with_sound R S sound g.of g.members.items) (links ++ link_routes R S g) (links_end R S ends sound links linked g)
      (suc number) gs both.1 longer later_is in
      earlier_with R S g gs m longer may (subst (λ k. Earlier R (after R S g) gs k longer) (sym next) rec)

-- ---- both ways

module _ (R : Roster) (groups : List Group) (sound : IsSoundRoster R) (fine : group_fault R groups ≡ None) where
  pub choice_in_groups : (chosen : List Bool) → IsGroupChoice R groups chosen → IsGroupPlanOf R groups chosen (group_plan R groups chosen)
  choice_in_groups chosen is =
      let base = choice_is_plan R chosen sound is.is_choice in
      let start = start_staged R sound in
      let rest = map (taken_by R chosen) (range_with_len 1 (length R.takes)) ++ map (takers_of R chosen) (range_with_len 1 (length R.needs)) in
      let made = subst (Later R (start_of R) groups (plan_of R chosen) (plan_cost (staged R (start_of R) []) (plan_of R chosen))) (sym start)
      (later R sound (start_of R) (start_sound R) [] (All-nil (HasEnds (start_of R).places)) 1 groups fine chosen is.is_choice.one_by_pair (plan_of R chosen) rest refl
      (subst (λ m. IsPlan m (plan_of R chosen)) start base.is_plan) is.keeps) in
      record { is_plan = made.is_plan; same_cost = made.same_cost ∙ ap (λ m. plan_cost m (plan_of R chosen)) (sym start) ∙ base.same_cost }

  pub plan_in_groups : (plan : List ℤ) → IsPlan (group_model R groups) plan → IsGroupChoiceOf R groups plan (choice_of R plan)
  plan_in_groups plan is =
      let start = start_staged R sound in
      let b = subst (λ m. Earlier R (start_of R) groups m plan) (sym start)
      (earlier R sound (start_of R) (start_sound R) [] (All-nil (HasEnds (start_of R).places)) 1 groups fine plan
      (subst (λ m. IsPlan (split_by R (start_of R) groups m) plan) start is)) in
      let base = plan_is_choice R sound b.plan b.is_plan in
      let chosen = choice_of R b.plan in
      let rest = map (taken_by R chosen) (range_with_len 1 (length R.takes)) ++ map (takers_of R chosen) (range_with_len 1 (length R.needs)) in
      let begins : b.plan ≡ map amount_of chosen ++ rest = sym base.back_again in
      let same : chosen ≡ choice_of R plan = sym
      (ap (choice_of R) (sym b.longer_is ∙ ap (λ xs. xs ++ b.more) begins ∙ append_assoc (map amount_of chosen) rest b.more)
      ∙ ap (λ k. map is_carried (take k (map amount_of chosen ++ (rest ++ b.more)))) (sym base.is_choice.one_by_pair ∙ sym (length-map chosen amount_of))
      ∙ ap (map is_carried) (take-append_seam (map amount_of chosen) (rest ++ b.more)) ∙ tests_again chosen) in
      subst (IsGroupChoiceOf R groups plan) same
      (record {
        is_choice = record { is_choice = base.is_choice; keeps = b.keeps chosen rest base.is_choice.one_by_pair begins };
        same_value = base.same_value ∙ sym b.same_cost;
      })

-- ---- the laws

pub groups_are_models_lem : GroupsAreModels
groups_are_models_lem =
    record {
      choices_are_plans = λ R groups chosen sound fine is. choice_in_groups R groups sound fine chosen is;
      plans_are_choices = λ R groups plan sound fine is. plan_in_groups R groups sound fine plan is;
    }

pub least_plans_are_least_lem : LeastPlansAreLeastGroupChoices
least_plans_are_least_lem R groups plan sound fine h =
    let mine = plan_in_groups R groups sound fine plan h.is_plan in
    record {
      is_choice = mine.is_choice;
      least = λ other is.
          let its = choice_in_groups R groups sound fine other is in
          omega (arith, ints, mine.same_value, its.same_cost, h.least (group_plan R groups other) its.is_plan);
    }
