-- The steps of the engine, and what it ends with.
use Rattle.std.proofs.Common.{◌≡◌, ℕ, zero, suc, ◌+◌, ◌^◌, ◌<◌, ◌≤◌, List, refl, sym, ap, ◌∙◌, arith, subst, ℤ, pos, ◌⊎◌, inl, inr}
use Rattle.std.specs.Prelude.{◌<ℤ◌}
use Rattle.std.proofs.lemmas.Int.{ints}
use Rattle.mcf_flows.specs.Network.{Network, IsNode, node_count}
use Rattle.mcf_network.specs.declared.rid.Rid.{Rid}
use Rattle.mcf_network.specs.States.{IsFeasibleState, Pseudoflow, surplus_at}
use Rattle.mcf_engine.specs.Outcomes.{AreStatePrices, IsLeastState}
use Rattle.mcf_engine.proofs.StatePrices.{least_from_prices}
use Rattle.mcf_scaling.specs.Made.{IsScaled}
use Rattle.mcf_scaling.specs.Optimality.{IsOptimalWithin}
use Rattle.mcf_scaling.specs.Phases.{EachPhaseSettles, IsBegun, IsBounded, IsBoundedThroughout, IsDone, IsPush, IsRelabel, IsSettled, Run}
use Rattle.mcf_scaling.specs.Phases.Run.{start, begin, push, relabel}
use Rattle.mcf_scaling.specs.Refinements.{Refinement, StepCounts, IsActive, IsRefinement}
use Rattle.mcf_scaling.specs.Scales.{ArePhases, IsStart}
use Rattle.mcf_scaling.proofs.Heights.{height, push_falls, relabel_falls}
use Rattle.mcf_scaling.proofs.NoCycles.{nearly_least_have_no_cycle_lem}
use Rattle.mcf_scaling.proofs.RunLaws.{no_surplus_of_rest, run_reaches, runs_keep_bounds_lem}

-- ---- a step

abbrev pub IsStep : Refinement → Refinement → ℕ → Type 0
IsStep a b v =
    ((r : Rid) × IsPush a b r) ⊎ ((rise : ℤ) × IsRelabel a b v rise)

pub step_falls : (a b : Refinement) (v : ℕ) → IsRefinement a → IsStep a b v → height b < height a
step_falls a b v ok (inl (r, step)) = push_falls a b r ok step
step_falls a b v ok (inr (rise, step)) = relabel_falls a b v rise ok step

pub step_runs : (x a b : Refinement) (k v : ℕ) → IsStep a b v → Run x a k → Run x b k
step_runs x a b k v (inl (r, step)) run = push run step
step_runs x a b k v (inr (rise, step)) run = relabel run step

pub step_scale : (a b : Refinement) (v : ℕ) → IsStep a b v → b.scale ≡ a.scale
step_scale a b v (inl (r, step)) = ap (λ (z : Refinement). z.scale) step.pushes
step_scale a b v (inr (rise, step)) = ap (λ (z : Refinement). z.scale) step.raises

-- ---- the phases

pub record IsUnderWay (s : Pseudoflow) (b : Refinement) : Type 0 where
  pub first : Refinement
  pub begins : ℕ
  pub start : IsStart s first
  pub valid : IsRefinement first
  pub run : Run first b begins
  pub now : IsRefinement b
  pub rest : (v : ℕ) → ¬ IsActive b v

pub under_way_start : (s : Pseudoflow) (a : Refinement) → IsFeasibleState s.net s → IsStart s a → IsRefinement a → IsUnderWay s a
under_way_start s a feasible started ok =
    record {
      first = a;
      begins = 0;
      start = started;
      valid = ok;
      run = start;
      now = ok;
      rest = λ v active. none v (subst (λ (t : Pseudoflow). IsNode (node_count t.net) v) started.flow active.node)
          (subst (λ (t : Pseudoflow). pos 0 <ℤ surplus_at t v) started.flow active.surplus);
    }
  where
    none : (v : ℕ) → IsNode (node_count s.net) v → pos 0 <ℤ surplus_at s v → ⊥
    none v h more = let zero = feasible.no_surplus v h in omega (arith, ints, zero, more)

-- where it isn't done, e is above 1
pub not_done : (a : Refinement) → ((v : ℕ) → ¬ IsActive a v) → ¬ IsDone a → 1 ≤ a.scale
not_done a rest undone = go a.scale refl
  where
    go : (k : ℕ) → a.scale ≡ k → 1 ≤ a.scale
    go zero e = absurd (undone (record { scale = e; rest = rest }))
    go (suc k) e = omega (arith, e)

pub under_way_next : (s : Pseudoflow) (a b c : Refinement) → IsUnderWay s a → IsBegun a b → ((x : Refinement) (k : ℕ) → Run x b k → Run x c k)
    → ((v : ℕ) → ¬ IsActive c v) → IsRefinement c → IsUnderWay s c
under_way_next s a b c at begun more rest ok =
    record {
      first = at.first;
      begins = suc at.begins;
      start = at.start;
      valid = at.valid;
      run = more at.first (suc at.begins) (begin at.run begun);
      now = ok;
      rest = rest;
    }

-- ---- the end

-- the net stays
run_net : (a b : Refinement) (k : ℕ) (run : Run a b k) → b.flow.net ≡ a.flow.net
run_net a b k start = refl
run_net a c k (begin {b = b} {k = j} run step) = step.filled.net ∙ run_net a b j run
run_net a c k (push {b = b} run step) =
    ap (λ (z : Refinement). z.flow.net) step.pushes ∙ run_net a b k run
run_net a c k (relabel {b = b} run step) =
    ap (λ (z : Refinement). z.flow.net) step.raises ∙ run_net a b k run

-- what was reached is bounded
bounded_at : (a b : Refinement) (k : ℕ) (run : Run a b k) → IsRefinement a → IsBounded run
bounded_at a b k run ok =
    let at = runs_keep_bounds_lem a b k run ok in
    record { optimal = at.0.optimal; rises = λ u h. (at.0.risen u h).high; few = at.1 }

run_bounded : (a b : Refinement) (k : ℕ) (run : Run a b k) → IsRefinement a → IsBoundedThroughout run
run_bounded a b k start ok = bounded_at a b k start ok
run_bounded a c k (begin {b = b} {k = j} run step) ok =
    (run_bounded a b j run ok, bounded_at a c k (begin run step) ok)
run_bounded a c k (push {b = b} run step) ok =
    (run_bounded a b k run ok, bounded_at a c k (push run step) ok)
run_bounded a c k (relabel {b = b} run step) ok =
    (run_bounded a b k run ok, bounded_at a c k (relabel run step) ok)

settled_of : (a : Refinement) → IsRefinement a → ((v : ℕ) → ¬ IsActive a v) → IsSettled a
settled_of a ok rest = record { no_surplus = no_surplus_of_rest a ok rest; optimal = ok.optimal }

run_settles : (a b : Refinement) (k : ℕ) (run : Run a b k) → IsRefinement a → EachPhaseSettles run
run_settles a b k start ok = tt
run_settles a c k (begin {b = b} {k = j} run step) ok =
    (run_settles a b j run ok, settled_of b (runs_keep_bounds_lem a b j run ok).0 step.rest)
run_settles a c k (push {b = b} run step) ok = run_settles a b k run ok
run_settles a c k (relabel {b = b} run step) ok = run_settles a b k run ok

pub end_feasible : (s : Pseudoflow) (b : Refinement) → IsUnderWay s b → IsFeasibleState s.net b.flow
end_feasible s b at =
    record {
      of_net = run_net at.first b at.begins at.run ∙ ap (λ (t : Pseudoflow). t.net) at.start.flow;
      flow = at.now.flow;
      no_surplus = no_surplus_of_rest b at.now at.rest;
    }

-- at the end the state is 1-optimal
pub end_optimal : (b : Refinement) → IsRefinement b → IsDone b → IsOptimalWithin 1 b.flow b.prices
end_optimal b ok done = subst (λ (k : ℕ). IsOptimalWithin (2 ^ k) b.flow b.prices) done.scale ok.optimal

-- each phase that was begun counts once
run_begins : (a b : Refinement) (k : ℕ) (run : Run a b k) → b.steps.phases ≡ a.steps.phases + k
run_begins a b k start = omega arith
run_begins a c k (begin {b = b} {k = j} run step) =
    let counted : c.steps.phases ≡ suc b.steps.phases = ap (λ (n : StepCounts). n.phases) step.steps in
    let before = run_begins a b j run in
    omega (arith, counted, before)
run_begins a c k (push {b = b} run step) = ap (λ (z : Refinement). z.steps.phases) step.pushes ∙ run_begins a b k run
run_begins a c k (relabel {b = b} run step) = ap (λ (z : Refinement). z.steps.phases) step.raises ∙ run_begins a b k run

pub end_scaled : (s : Pseudoflow) (b : Refinement) (t : Pseudoflow) (steps : StepCounts) → IsFeasibleState s.net s → IsUnderWay s b → IsDone b → t ≡ b.flow
    → steps ≡ b.steps → IsScaled s.net t steps
end_scaled s b t steps feasible at done e e' =
    let made : steps.phases ≡ b.steps.phases = ap (λ (n : StepCounts). n.phases) e' in
    let none : at.first.steps.phases ≡ 0 = ap (λ (n : StepCounts). n.phases) at.start.steps in
    let begins = run_begins at.first b at.begins at.run in
    let reached = run_reaches at.first b at.begins at.run at.valid in
    let scale = reached.phases in
    let zero = done.scale in
    let count : at.first.scale ≡ at.begins = omega (arith, scale, zero) in
    record {
      given = s;
      feasible = feasible;
      first = at.first;
      start = at.start;
      last = b;
      begins = at.begins;
      run = at.run;
      phases = subst (λ (k : ℕ). ArePhases s.net k) count at.start.scale;
      bounded = run_bounded at.first b at.begins at.run at.valid;
      settled = run_settles at.first b at.begins at.run at.valid;
      done = done;
      last_settled = settled_of b at.now at.rest;
      no_cycle = λ walk. nearly_least_have_no_cycle_lem b.flow b.prices walk at.now.flow (end_optimal b at.now done);
      ends = sym e;
      counted = sym e';
      begun = omega (arith, made, none, begins);
    }

pub end_least : (s : Pseudoflow) (b : Refinement) (t : Pseudoflow) (ys : List ℤ) → IsUnderWay s b → t ≡ b.flow → AreStatePrices b.flow.net b.flow ys
    → IsLeastState s.net t
end_least s b t ys at e prices =
    subst (λ (x : Pseudoflow). IsLeastState s.net x) (sym e) (least_from_prices s.net b.flow ys (end_feasible s b at) prices.greatest)

pub end_prices : (s : Pseudoflow) (b : Refinement) (t : Pseudoflow) (ys : List ℤ) → IsUnderWay s b → t ≡ b.flow → AreStatePrices b.flow.net b.flow ys
    → AreStatePrices s.net t ys
end_prices s b t ys at e prices =
    subst (λ (x : Pseudoflow). AreStatePrices s.net x ys) (sym e)
    (subst (λ (g : Network). AreStatePrices g b.flow ys) (end_feasible s b at).of_net prices)
