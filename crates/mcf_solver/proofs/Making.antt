-- Where the flow of an answer comes from.
use Rattle.std.proofs.Common.{◌≡◌, ◌∙◌, ℕ, length, refl, subst, sym}
use Rattle.std.specs.Prelude.{Result, Ok, Err, IfOk, IfSome}
use Rattle.std.proofs.lemmas.Option.{IfSome_then}
use Rattle.mcf_answer.specs.declared.answers.Answer.{Answer}
use Rattle.mcf_checker.specs.Correct.{flow_given}
use Rattle.mcf_flows.specs.Network.{Network}
use Rattle.mcf_flows.specs.declared.problem.Problem.{Problem}
use Rattle.mcf_flows.specs.declared.problem.Problem.TheVariants.{Min, Asn}
use Rattle.mcf_network.specs.Removal.{net_of}
use Rattle.mcf_network.specs.Restoring.{restored}
use Rattle.mcf_network.specs.States.{Pseudoflow}
use Rattle.mcf_engine.specs.Outcomes.{IsLeastState}
use Rattle.mcf_network.proofs.RestoringLaws.{net_of-arc_count}
use Rattle.mcf_solver.specs.Making.{HasMadeFlow, IsMadeBy, IsMadeByEngine, IsMadeBySimplex, meant, new_block_rule, suited}
use Rattle.mcf_choice.specs.declared.choice.Choice.{Choice}
use Rattle.mcf_choice.specs.declared.choice.EngineChoice.{EngineChoice}
use Rattle.mcf_choice.specs.declared.choice.EngineChoice.TheVariants.{Auto, Cancel, Simplex, Scaling, Fast, Sap}
use Rattle.mcf_simplex.specs.Blocks.{BlockRule, IsBlockPick}
use Rattle.mcf_simplex.specs.Runs.{IsMadeByRun, RuleState}
use Rattle.mcf_simplex.specs.Stretches.{IsWideFor, WideRule}
use Rattle.mcf_choice.specs.declared.choice.PricingChoice.{PricingChoice}
use Rattle.mcf_choice.specs.declared.choice.PricingChoice.TheVariants.{Block}
use Rattle.mcf_solver.specs.declared.meant.Meant.{Meant}
use Rattle.mcf_solver.specs.declared.meant.Meant.TheVariants.{BySap}

-- what was made one way was made another
pub made_otherwise : (P Q : Network → Pseudoflow → Type 0) (g : Network) → ((s : Pseudoflow) → P (net_of g) s → Q (net_of g) s)
    → (a : Answer) → HasMadeFlow P (Ok g) a → HasMadeFlow Q (Ok g) a
made_otherwise P Q g step a h =
    IfSome_then (flow_given g a) h (λ flow m. record { state = m.state; least = m.least; made = step m.state m.made; restores = m.restores })

pub made_otherwise_if_ok : {E : Type 0} (P Q : Network → Pseudoflow → Type 0) (g : Network) → ((s : Pseudoflow) → P (net_of g) s → Q (net_of g) s)
    → (r : Result Answer E) → IfOk r (HasMadeFlow P (Ok g)) → IfOk r (HasMadeFlow Q (Ok g))
made_otherwise_if_ok P Q g step (Ok a) h = made_otherwise P Q g step a h
made_otherwise_if_ok P Q g step (Err e) h = tt

-- a flow that restores a least state which was made so
pub made_of_state : {E : Type 0} (P : Network → Pseudoflow → Type 0) (g : Network) (s : Pseudoflow) (r : Result Answer E) → IsLeastState (net_of g) s
    → P (net_of g) s → IfOk r (λ a. IfSome (flow_given g a) (λ flow. flow ≡ restored g.arcs s.amounts)) → IfOk r (HasMadeFlow P (Ok g))
made_of_state P g s (Ok a) least made h = IfSome_then (flow_given g a) h (λ flow is. record { state = s; least = least; made = made; restores = is })
made_of_state P g s (Err e) least made h = tt

-- what the engine made that is meant is made as the choice means
made_by_meant : (m : Meant) (choice : Choice) (g : Network) (s : Pseudoflow) → m ≡ meant choice.engine g.problem
    → IsMadeByEngine m choice (net_of g) s → IsMadeBy choice (net_of g) s
unfolding net_of
made_by_meant m choice g s is made = subst (λ x. IsMadeByEngine x choice (net_of g) s) is made

pub made_as_meant : {E : Type 0} (m : Meant) (choice : Choice) (g : Network) (P : Network → Pseudoflow → Type 0) (r : Result Answer E)
    → m ≡ meant choice.engine g.problem → ((s : Pseudoflow) → P (net_of g) s → IsMadeByEngine m choice (net_of g) s)
    → IfOk r (HasMadeFlow P (Ok g)) → IfOk r (HasMadeFlow (IsMadeBy choice) (Ok g))
made_as_meant m choice g P r is step h =
    made_otherwise_if_ok P (IsMadeBy choice) g (λ (s : Pseudoflow) made. made_by_meant m choice g s is (step s made)) r h

-- the engine for assignments is meant for assignments alone
suited_to_assignments : (p : Problem) → BySap ≡ suited p → p ≡ Asn
suited_to_assignments Min h = cc
suited_to_assignments Asn h = refl

meant_for_assignments : (e : EngineChoice) (p : Problem) → BySap ≡ meant e p → p ≡ Asn
meant_for_assignments Auto p h = suited_to_assignments p h
meant_for_assignments Cancel p h = cc
meant_for_assignments Fast p h = cc
meant_for_assignments Simplex p h = cc
meant_for_assignments Scaling p h = cc
meant_for_assignments Sap p h = suited_to_assignments p h

-- so its net is of one
pub net_for_assignments : (e : EngineChoice) (g : Network) → BySap ≡ meant e g.problem → (net_of g).problem ≡ Asn
unfolding net_of
net_for_assignments e g h = meant_for_assignments e g.problem h

-- what a rule made that is chosen is made by the chosen rule
pub made_by_rule : {E : Type 0} (pricing chosen : PricingChoice) (block : ℕ) (g : Network) (P : Network → Pseudoflow → Type 0) (r : Result Answer E)
    → chosen ≡ pricing → ((s : Pseudoflow) → P (net_of g) s → IsMadeBySimplex pricing block (net_of g) s)
    → IfOk r (HasMadeFlow P (Ok g)) → IfOk r (HasMadeFlow (IsMadeBySimplex chosen block) (Ok g))
made_by_rule pricing chosen block g P r is step h =
    made_otherwise_if_ok P (IsMadeBySimplex chosen block) g (λ (s : Pseudoflow) made.
    subst (λ (rule : PricingChoice). IsMadeBySimplex rule block (net_of g) s) (sym is) (step s made)) r h

-- a run of blocks from a rule that is the new one
pub made_by_blocks : (block : ℕ) (old : RuleState BlockRule) (g : Network) (s : Pseudoflow) (new : RuleState BlockRule)
    → old ≡ new_block_rule block → IsMadeByRun IsBlockPick old g s new → IsMadeBySimplex Block block g s
made_by_blocks block old g s new is made = (new, subst (λ (e : RuleState BlockRule). IsMadeByRun IsBlockPick e g s new) is made)

-- the rule of wide blocks for the arcs of an instance is the one for those of its net
pub wide_on_net : (g : Network) (arcs : ℕ) (rule : WideRule) → arcs ≡ length g.arcs → IsWideFor arcs rule → IsWideFor (length (net_of g).arcs) rule
wide_on_net g arcs rule is h = subst (λ (n : ℕ). IsWideFor n rule) (is ∙ sym (net_of-arc_count g)) h
