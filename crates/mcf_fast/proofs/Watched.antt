-- Runs that go on part by part.
use Rattle.std.proofs.Common.{◌≡◌, ℕ, ◌<◌, ◌≤◌, Bool, true, false, sym, ◌∙◌, arith, subst, pos}
use Rattle.mcf_basis.specs.Ranks.{rank_above}
use Rattle.mcf_basis.specs.Starts.{IsStart}
use Rattle.mcf_basis.specs.Structures.{TreeStructure, state_of}
use Rattle.mcf_engine.specs.Outcomes.{IsOutcome}
use Rattle.mcf_engine.specs.declared.engine.Outcome.{Outcome}
use Rattle.mcf_fast.specs.Made.{IsMadeOrFound, IsRunUnderWay}
use Rattle.mcf_network.specs.Chosen.{supply_total}
use Rattle.mcf_flows.specs.Network.{Network}
use Rattle.mcf_simplex.proofs.Ending.{outcome_wider, run_outcome}
use Rattle.mcf_simplex.proofs.Running.{IsUnderWay, reached_further, under_way_end, under_way_more, under_way_start}
use Rattle.mcf_simplex.specs.Following.{FollowingRule, IsFollowingPick, first_following}
use Rattle.mcf_simplex.specs.Runs.{IsAdvanced, IsOver, IsRun, Reached, RunState}

-- a run of the net, from its start basis on
pub record IsRunOf (g : Network) (run : RunState FollowingRule) : Type 0 where
  pub first : TreeStructure
  pub starts : IsStart g first
  pub way : IsUnderWay IsFollowingPick first_following first run.rule run.basis

pub run_start : (g : Network) (run : RunState FollowingRule) → IsStart g run.basis → run.rule ≡ first_following → IsRunOf g run
run_start g run starts rule =
    record {
      first = run.basis;
      starts = starts;
      way = subst (λ (r : FollowingRule). IsUnderWay IsFollowingPick first_following run.basis r run.basis) (sym rule)
          (under_way_start IsFollowingPick first_following run.basis starts.basis);
    }

pub more_made : (old new : RunState FollowingRule) (pivots : ℕ) (over : Bool) → over ≡ false → IsAdvanced IsFollowingPick old pivots over new →
    Reached IsFollowingPick old.rule old.basis new.rule new.basis pivots
more_made old new pivots false e h = h
more_made old new pivots true e h = cc

pub over_now : (old new : RunState FollowingRule) (pivots : ℕ) (over : Bool) → over ≡ true → IsAdvanced IsFollowingPick old pivots over new →
    IsOver IsFollowingPick old new
over_now old new pivots true e h = h
over_now old new pivots false e h = cc

module _ (g : Network) (old new : RunState FollowingRule) (run : IsRunOf g old) where
  pub run_on : (pivots : ℕ) → Reached IsFollowingPick old.rule old.basis new.rule new.basis pivots → IsRunOf g new
  run_on pivots more =
      record {
        first = run.first;
        starts = run.starts;
        way = under_way_more IsFollowingPick first_following run.first old.rule old.basis run.way new.rule new.basis pivots more;
      }

  pub run_falls : (pivots : ℕ) → 1 ≤ pivots → Reached IsFollowingPick old.rule old.basis new.rule new.basis pivots → rank_above new.basis < rank_above old.basis
  run_falls pivots some more =
      let fallen = (reached_further IsFollowingPick old.rule old.basis run.way.basis new.rule new.basis pivots more).fallen in
      omega (arith, fallen, some)

  pub run_left : (pivots count : ℕ) → 1 ≤ pivots → Reached IsFollowingPick old.rule old.basis new.rule new.basis pivots → count ≡ new.basis.pivots →
      (1 ≤ count) × IsRunUnderWay g count
  run_left pivots count some more is =
      let way = under_way_more IsFollowingPick first_following run.first old.rule old.basis run.way new.rule new.basis pivots more in
      let counted = way.counted in
      let none = run.starts.pivots in
      let further = (reached_further IsFollowingPick old.rule old.basis run.way.basis new.rule new.basis pivots more).counted in
      let same : way.pivots ≡ count = omega (arith, counted, none, is) in (
        omega (arith, further, some, is),
        record {
          first = run.first;
          starts = run.starts;
          rule = new.rule;
          last = new.basis;
          reached = subst (Reached IsFollowingPick first_following run.first new.rule new.basis) same way.reached;
        },
      )

  pub run_balanced : supply_total g ≡ pos 0 → new.basis.net ≡ old.basis.net → supply_total new.basis.net ≡ pos 0
  run_balanced even same =
      subst (λ (n : Network). supply_total n ≡ pos 0) (sym (same ∙ run.way.net ∙ run.starts.of_net)) even

  pub run_over : (pivots : ℕ) (answer : Outcome) → IsOver IsFollowingPick old new → pivots ≡ new.basis.pivots →
      IsOutcome (λ s. s ≡ state_of new.basis) new.basis.net answer → IsOutcome (λ s. IsMadeOrFound false g s pivots) g answer
  run_over pivots answer over is outcome =
      let way = under_way_more IsFollowingPick first_following run.first old.rule old.basis run.way over.rule new.basis over.pivots over.reached in
      let loop = under_way_end IsFollowingPick first_following run.first over.rule new.rule new.basis run.starts.basis way over.found_none in
      outcome_wider (λ s. IsRun IsFollowingPick first_following g s new.rule pivots) (λ s. IsMadeOrFound false g s pivots) g answer
      (λ s made. (new.rule, made))
      (run_outcome IsFollowingPick first_following g run.first new.rule new.basis pivots answer run.starts loop way.basis way.net is outcome)
