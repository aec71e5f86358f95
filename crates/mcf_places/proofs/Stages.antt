-- The stages in which the least plan of a problem is found.
use Rattle.std.proofs.Common.{◌≡◌, ℕ, suc, ◌-◌, Bool, true, false, List, [], ◌∷◌, ◌++◌, length, map, get_or, refl, ap, sym, ◌∙◌, subst, arith, ℤ, pos, ◌≤ℤ◌, inl, inr}
use Rattle.std.specs.Prelude.{◌⊎◌, ◌&&◌}
use Rattle.std.specs.List.{All}
use Rattle.std.proofs.Common.{length-append}
use Rattle.std.proofs.Math.Seq.{get_or-append_seam}
use Rattle.std.proofs.Math.IntN.{◌*ℤ◌}
use Rattle.std.proofs.lemmas.Int.{ints, clamps}
use Rattle.std.proofs.lemmas.List.{append_assoc}
use Rattle.mcf_flows.specs.Network.{IsNode, at_node, when}
use Rattle.mcf_flows.proofs.IntLaws.{mul-zero}
use Rattle.mcf_model.specs.declared.planning.Bottleneck.{Bottleneck}
use Rattle.mcf_model.specs.declared.planning.LeastPlan.{LeastPlan}
use Rattle.mcf_model.specs.declared.planning.Planned.{Planned}
use Rattle.mcf_model.specs.declared.planning.Planned.TheVariants.{Plan as Found}
use Rattle.mcf_model.specs.Model.{IsLeastPlan as IsLeastModelPlan, IsPlan as IsModelPlan, Model}
use Rattle.mcf_model.specs.Prices.{ShowsPlan}
use Rattle.mcf_model.specs.Planning.{HasNoPlan, IsBestPlan, IsPlanned}
use Rattle.mcf_places.specs.declared.faults.TheConstants.{SUM_LIMIT}
use Rattle.mcf_places.specs.declared.answering.LeastPlannerPlan.{LeastPlannerPlan}
use Rattle.mcf_places.specs.declared.places.Place.{Place}
use Rattle.mcf_places.specs.declared.told.PlannerBottleneck.{PlannerBottleneck}
use Rattle.mcf_places.specs.Answers.{HasNoPlannerPlan, IsAllowed, IsBestPlannerPlan, IsLeastMissing, IsShownIn, IsToldBottleneck, StandsFor}
use Rattle.mcf_places.specs.FinerPlanners.{finer, finer_plan}
use Rattle.mcf_places.specs.Models.{amounts_by, supplies_of, model_of, plan_of, routes_of}
use Rattle.mcf_places.specs.PlannerBottlenecks.{PlannerBottlenecksHaveNoPlan}
use Rattle.mcf_places.specs.PlannerFaults.{IsProperPlanner}
use Rattle.mcf_places.specs.PlannerLaws.{LeavesEnough}
use Rattle.mcf_places.specs.Planners.{EachPlace, IsBalancedAt, IsLeastPlan, IsPlan, Plan, Planner, all_wanted, cost, given, misses_least, passes, place_sum, total_missing, wanted}
use Rattle.mcf_places.specs.Planning.{plan_in}
use Rattle.mcf_places.specs.Shortage.{shortage_of}
use Rattle.mcf_places.proofs.Ends.{M, S, T}
use Rattle.mcf_places.proofs.Exchange.{model_plan_is_plan, plans_are_model_plans_lem}
use Rattle.mcf_places.proofs.FinerModels.{all_wanted_finer, missing_times, model_finer, plan_finer, shortage_finer, sound_finer}
use Rattle.mcf_places.proofs.LimitedPlans.{misses_least_finer}
use Rattle.mcf_places.proofs.LeastPlans.{least_model_plans_are_least_lem, misses_no_more}
use Rattle.mcf_places.proofs.Shortages.{free_cost, misses_the_least, plan_unfree, proper_free}
use Rattle.mcf_places.proofs.ToldAnswers.{no_plan_unfree, none_finer, told_bottleneck}

-- the last of a list
pub last_is : (before : List ℤ) (last d : ℤ) → get_or (before ++ last ∷ []) (length (before ++ last ∷ []) - 1) d ≡ last
last_is before last d =
    let long : length (before ++ last ∷ []) - 1 ≡ length before = omega (arith, length-append before (last ∷ [])) in
    ap (λ k. get_or (before ++ last ∷ []) k d) long ∙ get_or-append_seam before last [] d

pub no_last : (xs before : List ℤ) (last : ℤ) → xs ≡ before ++ last ∷ [] → length xs ≡ 0 → ⊥
no_last xs before last e h = omega (arith, ap length e, length-append before (last ∷ []), h)

module _ (P : Planner) (x : Plan) where
  -- what a plan of the model carries before the route to the gate
  abbrev pub before_gate : List ℤ
  before_gate =
      x.carries
      ++ (amounts_by (T P) (passes P x) 1 P.places
      ++ (amounts_by (S P) (λ v p. at_node x.stays v) 1 P.places ++ amounts_by (M P) (λ v p. at_node x.missing v) 1 P.places))

  gate_last : before_gate ++ total_missing P x ∷ [] ≡ routes_of P x
  gate_last =
      let a = x.carries in
      let b = amounts_by (T P) (passes P x) 1 P.places in
      let c = amounts_by (S P) (λ v p. at_node x.stays v) 1 P.places in
      let d = amounts_by (M P) (λ v p. at_node x.missing v) 1 P.places in
      let z = total_missing P x ∷ [] in
      append_assoc a (b ++ (c ++ d)) z ∙ ap (λ ys. a ++ ys) (append_assoc b (c ++ d) z ∙ ap (λ ys. b ++ ys) (append_assoc c d z))

  -- what is missing in total is no less than 0, and no more than the sums may be
  pub missing_low : IsPlan P x → pos 0 ≤ℤ total_missing P x
  missing_low h = go 1 P.places h.balanced
    where
      go : (v : ℕ) (ps : List Place) → EachPlace (IsBalancedAt P x) v ps → pos 0 ≤ℤ place_sum (λ j p. at_node x.missing j) v ps
      go v [] k = omega (arith, ints)
      go v (p ∷ ps) k = omega (arith, ints, (k.0).misses_some, go (suc v) ps k.1)

given_low : (v : ℕ) (ps : List Place) → pos 0 ≤ℤ place_sum (λ j p. given p) v ps
given_low v [] = omega (arith, ints)
given_low v (p ∷ ps) = let low : pos 0 ≤ℤ given p = omega (arith, ints, clamps) in omega (arith, ints, low, given_low (suc v) ps)

pub wanted_low : (v : ℕ) (ps : List Place) → pos 0 ≤ℤ place_sum (λ j p. wanted p) v ps
wanted_low v [] = omega (arith, ints)
wanted_low v (p ∷ ps) = let low : pos 0 ≤ℤ wanted p = omega (arith, ints, clamps) in omega (arith, ints, low, wanted_low (suc v) ps)

pub wanted_high : (P : Planner) → IsProperPlanner P → all_wanted P.places ≤ℤ pos SUM_LIMIT
wanted_high P h = omega (arith, ints, h.small, given_low 1 P.places)

pub missing_high : (P : Planner) (x : Plan) → IsProperPlanner P → IsPlan P x → total_missing P x ≤ℤ pos SUM_LIMIT
missing_high P x proper h = go P.policy.short (misses_no_more P x h)
  where
    go : (b : Bool) → total_missing P x ≤ℤ when b (all_wanted P.places) → total_missing P x ≤ℤ pos SUM_LIMIT
    go true k = omega (arith, ints, k, wanted_high P proper)
    go false k = omega (arith, ints, k)

-- what is least missing is within the sums
pub missing_within : (most : ℤ) (P : Planner) → IsProperPlanner P → IsLeastMissing most P → (pos 0 ≤ℤ most) × (most ≤ℤ pos SUM_LIMIT)
missing_within most P proper m = (
  omega (arith, ints, m.misses, missing_low P m.plan m.is_plan),
  omega (arith, ints, m.misses, missing_high P m.plan proper m.is_plan),
)

-- the answers of a model that is equal
pub planned_of : (m n : Model) (a b : Planned) → m ≡ n → a ≡ b → IsPlanned m a → IsPlanned n b
planned_of m n a b e f h = subst (λ k. IsPlanned k b) e (subst (IsPlanned m) f h)

-- the places of a bottleneck are places of the model
pub found_places : (most : ℤ) (P : Planner) (b : Bottleneck) → HasNoPlan (model_of most P) b → All (IsNode (length (supplies_of P.places))) b.places.items
found_places most P b h = h.are_places

-- ---- from an answer for the model

-- a model that has all plans
pub no_plan_told : PlannerBottlenecksHaveNoPlan → (most : ℤ) (P : Planner) → IsProperPlanner P → most ≡ when P.policy.short (all_wanted P.places)
    → (b : Bottleneck) (made : PlannerBottleneck) → HasNoPlan (model_of most P) b → IsToldBottleneck P b made → HasNoPlannerPlan P made
no_plan_told law most P proper all b made h told =
    let stuck = told_bottleneck most P b made proper.sound all h.is_bottleneck told in
    record {
      entry_by_place = told.entry_by_place;
      exit_by_place = told.exit_by_place;
      is_bottleneck = stuck;
      none_in_finer_units = λ k x k1. none_finer law P made proper.sound stuck k x k1;
      none = λ x is.
          h.none (routes_of P x)
          (plans_are_model_plans_lem most P x proper.sound.routes is (subst (λ z. total_missing P x ≤ℤ z) (sym all) (misses_no_more P x is))).is_plan;
    }

module _ (most : ℤ) (P : Planner) (proper : IsProperPlanner P) (stands : StandsFor most P) where
  pub best_planner_plan : (found : LeastPlan) (made : LeastPlannerPlan) → IsBestPlan (model_of most P) found
      → plan_in made.plan ≡ plan_of P found.carries.items → made.cost ≡ found.cost
      → ((before : List ℤ) (last : ℤ) → found.carries.items ≡ before ++ last ∷ [] → made.missing ≡ last) → IsBestPlannerPlan P made
  best_planner_plan found made best e f g =
      let plan = found.carries.items in
      let mine = model_plan_is_plan most P plan proper.sound.routes best.least.is_plan in
      record {
        least = subst (IsLeastPlan P) (sym e) (least_model_plans_are_least_lem most P plan proper.sound stands.enough best.least);
        cost_is = f ∙ best.cost_is ∙ sym mine.same_cost ∙ ap (cost P) (sym e);
        least_in_finer_units = λ k k1.
            subst (IsLeastPlan (finer k P)) (plan_finer k k1 P plan ∙ ap (finer_plan k) (sym e))
            (least_model_plans_are_least_lem (k *ℤ most) (finer k P) (map (λ z. k *ℤ z) plan) (sound_finer k k1 P proper.sound)
            (subst (LeavesEnough (k *ℤ most) (finer k P)) (sym (misses_least_finer k P)) (stands.enough_in_finer_units k k1))
            (subst (λ m. IsLeastModelPlan m (map (λ z. k *ℤ z) plan)) (sym (model_finer k k1 P most)) (best.least_in_finer_units k k1)));
        missing_is = g (before_gate P (plan_of P plan)) (total_missing P (plan_of P plan)) (sym mine.back_again ∙ sym (gate_last P (plan_of P plan)))
            ∙ ap (total_missing P) (sym e);
      }

  -- the prices of the model's least plan show the plan that is read from it
  pub shown_plan : IsAllowed (misses_least P) most P → (found : LeastPlan) (made : LeastPlannerPlan)
      → IsBestPlan (model_of most P) found → plan_in made.plan ≡ plan_of P found.carries.items → made.shown.model ≡ model_of most P
      → made.shown.carries.items ≡ found.carries.items → made.shown.prices.items ≡ found.prices.items → IsShownIn P made
  shown_plan allowed found made best e f g h =
      record {
        most = most;
        allowed = allowed;
        model_is = f;
        plan_is = e ∙ ap (plan_of P) (sym g);
        is_plan = subst (λ m. IsModelPlan m made.shown.carries.items) (sym f) (subst (IsModelPlan (model_of most P)) (sym g) best.least.is_plan);
        shown = subst (λ m. ShowsPlan m.routes made.shown.prices.items made.shown.carries.items) (sym f)
            (subst (λ ps. ShowsPlan (model_of most P).routes ps made.shown.carries.items) (sym h)
            (subst (ShowsPlan (model_of most P).routes found.prices.items) (sym g) best.shown));
      }

  pub no_planner_plan : PlannerBottlenecksHaveNoPlan → (b : Bottleneck) (made : PlannerBottleneck) → HasNoPlan (model_of most P) b → IsToldBottleneck P b made → HasNoPlannerPlan P made
  no_planner_plan law b made h told = go stands.all_or_least
    where
      go : (most ≡ when P.policy.short (all_wanted P.places)) ⊎ IsLeastMissing most P → HasNoPlannerPlan P made
      go (inl all) = no_plan_told law most P proper all b made h told
      go (inr m) =
          absurd (h.none (routes_of P m.plan)
          (plans_are_model_plans_lem most P m.plan proper.sound.routes m.is_plan (omega (arith, ints, m.misses))).is_plan)

-- ---- finer units

times_when : (k : ℤ) (b : Bool) (z : ℤ) → k *ℤ when b z ≡ when b (k *ℤ z)
times_when k true z = refl
times_when k false z = mul-zero k

finer_no_more : (k : ℤ) → pos 1 ≤ℤ k → (most : ℤ) (P : Planner) → most ≡ when P.policy.short (all_wanted P.places)
    → (x : Plan) → IsPlan (finer k P) x → total_missing (finer k P) x ≤ℤ (k *ℤ most)
finer_no_more k k1 most P is x h =
    let same : when P.policy.short (all_wanted (finer k P).places) ≡ k *ℤ most =
    ap (when P.policy.short) (all_wanted_finer k k1 P) ∙ sym (times_when k P.policy.short (all_wanted P.places)) ∙ ap (λ z. k *ℤ z) (sym is) in
    subst (λ z. total_missing (finer k P) x ≤ℤ z) same (misses_no_more (finer k P) x h)

-- ---- one stage

pub stands_at_once : (most : ℤ) (P : Planner) → IsProperPlanner P → misses_least P ≡ false
    → most ≡ when P.policy.short (all_wanted P.places) → StandsFor most P
stands_at_once most P proper one is =
    record {
      enough = go (misses_least P) one no_more;
      enough_in_finer_units = λ k k1. go_finer k (misses_least P) one (finer_no_more k k1 most P is);
      all_or_least = inl is;
    }
  where
    go_finer : (k : ℤ) (b : Bool) → b ≡ false → ((x : Plan) → IsPlan (finer k P) x → total_missing (finer k P) x ≤ℤ (k *ℤ most))
        → LeavesEnough (k *ℤ most) (finer k P) b
    go_finer k true bad h = cc bad
    go_finer k false e h = h

    no_more : (x : Plan) → IsPlan P x → total_missing P x ≤ℤ most
    no_more x h = subst (λ z. total_missing P x ≤ℤ z) (sym is) (misses_no_more P x h)

    go : (b : Bool) → b ≡ false → ((x : Plan) → IsPlan P x → total_missing P x ≤ℤ most) → LeavesEnough most P b
    go true bad k = cc bad
    go false e k = k

-- ---- two stages

pub stands_for_least : (most : ℤ) (P : Planner) → IsProperPlanner P → misses_least P ≡ true → IsLeastMissing most P → StandsFor most P
stands_for_least most P proper two m =
    record {
      enough = go (misses_least P) two m.least;
      enough_in_finer_units = λ k k1. go_finer k (misses_least P) two (λ other. m.least_in_finer_units k other k1);
      all_or_least = inr m;
    }
  where
    go_finer : (k : ℤ) (b : Bool) → b ≡ true → ((x : Plan) → IsPlan (finer k P) x → (k *ℤ most) ≤ℤ total_missing (finer k P) x)
        → LeavesEnough (k *ℤ most) (finer k P) b
    go_finer k true e h = h
    go_finer k false bad h = cc bad

    go : (b : Bool) → b ≡ true → ((x : Plan) → IsPlan P x → most ≤ℤ total_missing P x) → LeavesEnough most P b
    go true e k = k
    go false bad k = cc bad

module _ (most : ℤ) (P : Planner) (proper : IsProperPlanner P)
    (is : most ≡ when (shortage_of P).policy.short (all_wanted (shortage_of P).places)) where
  -- no plan misses more than the model of the first stage allows
  no_more_short : (x : Plan) → IsPlan (shortage_of P) x → total_missing (shortage_of P) x ≤ℤ most
  no_more_short x h = subst (λ z. total_missing (shortage_of P) x ≤ℤ z) (sym is) (misses_no_more (shortage_of P) x h)

  enough_short : (b : Bool) → LeavesEnough most (shortage_of P) (b && false)
  enough_short true = no_more_short
  enough_short false = no_more_short

  enough_finer : (k : ℤ) → pos 1 ≤ℤ k → (b : Bool) → LeavesEnough (k *ℤ most) (finer k (shortage_of P)) (b && false)
  enough_finer k k1 true = finer_no_more k k1 most (shortage_of P) is
  enough_finer k k1 false = finer_no_more k k1 most (shortage_of P) is

  pub least_missing_is : (found : LeastPlan) → IsBestPlan (model_of most (shortage_of P)) found → IsLeastMissing found.cost P
  least_missing_is found best =
      let Q = shortage_of P in
      let plan = found.carries.items in
      let sound = (proper_free P proper).sound in
      let mine = model_plan_is_plan most Q plan sound.routes best.least.is_plan in
      let least = least_model_plans_are_least_lem most Q plan sound (enough_short P.policy.short) best.least in
      let misses : total_missing P (plan_of Q plan) ≡ found.cost = sym (free_cost P (plan_of Q plan)) ∙ mine.same_cost ∙ sym best.cost_is in
      record {
        plan = plan_of Q plan;
        is_plan = plan_unfree P (plan_of Q plan) mine.is_plan;
        misses = misses;
        least = λ other h. omega (arith, ints, misses, misses_the_least P (plan_of Q plan) least other h);
        least_in_finer_units = λ k other k1 h.
            let finest = least_model_plans_are_least_lem (k *ℤ most) (finer k Q) (map (λ z. k *ℤ z) plan) (sound_finer k k1 Q sound)
            (enough_finer k k1 P.policy.short)
            (subst (λ m. IsLeastModelPlan m (map (λ z. k *ℤ z) plan)) (sym (model_finer k k1 Q most)) (best.least_in_finer_units k k1)) in
            let same = subst (λ R. IsLeastPlan R (finer_plan k (plan_of Q plan))) (shortage_finer k P)
            (subst (IsLeastPlan (finer k Q)) (plan_finer k k1 Q plan) finest) in
            omega (
              arith,
              ints,
              misses_the_least (finer k P) (finer_plan k (plan_of Q plan)) same other h,
              missing_times k k1 P (plan_of Q plan),
              ap (λ z. k *ℤ z) misses,
            );
      }

  pub none_short : PlannerBottlenecksHaveNoPlan → (b : Bottleneck) (made : PlannerBottleneck) → HasNoPlan (model_of most (shortage_of P)) b → IsToldBottleneck (shortage_of P) b made
      → HasNoPlannerPlan P made
  none_short law b made h told =
      no_plan_unfree law P made proper.sound (no_plan_told law most (shortage_of P) (proper_free P proper) is b made h told)

-- the first stage, from what its calls answer
pub stage_one : (P short : Planner) (most sent : ℤ) (model : Model) (planned : Planned) (found : LeastPlan) → IsProperPlanner P → short ≡ shortage_of P
    → most ≡ when short.policy.short (all_wanted short.places) → sent ≡ most → model ≡ model_of sent short → planned ≡ Found found → IsPlanned model planned
    → IsLeastMissing found.cost P
stage_one P short most sent model planned found proper is most_is sent_is model_is planned_is h =
    least_missing_is most P proper (most_is ∙ ap (λ R. when R.policy.short (all_wanted R.places)) is) found
    (planned_of model (model_of most (shortage_of P)) planned (Found found) (model_is ∙ ap (λ z. model_of z short) sent_is ∙ ap (model_of most) is) planned_is h)

-- what may be missing in the last stage
pub allowed_at_once : (most : ℤ) (P : Planner) (stages : Bool) → stages ≡ false → most ≡ when P.policy.short (all_wanted P.places) → IsAllowed stages most P
allowed_at_once most P true two is = cc two
allowed_at_once most P false one is = is

pub allowed_least : (most : ℤ) (P : Planner) (stages : Bool) → stages ≡ true → IsLeastMissing most P → IsAllowed stages most P
allowed_least most P true two least = least
allowed_least most P false one least = cc one
