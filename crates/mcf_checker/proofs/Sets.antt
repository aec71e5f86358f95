-- The verdict on a blocked answer: at each of its cases, and when it accepts.
use Rattle.std.proofs.Common.{◌≡◌, ℕ, ◌≤◌, Bool, true, false, cond, ◌&&◌, leb, refl, sym, ap, arith, List, length, ℤ, ◌<ℤ◌}
use Rattle.std.specs.List.{All, list_all}
use Rattle.std.specs.Prelude.{int_lt}
use Rattle.std.proofs.lemmas.Bool.{and_from, and_left, and_parts, and_right, false≢true, false_from_ne_true, le-leb, leb-true}
use Rattle.std.proofs.lemmas.Int.{ints}
use Rattle.std.proofs.lemmas.List.Sums.{AllPass-from_list_all, list_all-from_AllPass}
use Rattle.mcf_answer.specs.BlockingSet.{BlockingSet}
use Rattle.mcf_checker.specs.Correct.{IsRightSet}
use Rattle.mcf_checker.specs.Judging.{accepts, exceeds, set_verdict}
use Rattle.mcf_checker.specs.declared.verdict.Verdict.TheVariants.{BadSet, Blocked as SetAccepted}
use Rattle.mcf_flows.specs.Blocking.{Blocks, can_send, can_take, in_list, must_send, must_take}
use Rattle.mcf_flows.specs.Network.{Network, node_count}
use Rattle.mcf_flows.specs.declared.problem.Side.{Side}
use Rattle.mcf_flows.specs.declared.problem.Side.TheVariants.{Send, Take}

int_lt-true : (x y : ℤ) → int_lt x y ≡ true → x <ℤ y
int_lt-true x y h = grind (arith, ints)

lt-int_lt : (x y : ℤ) → x <ℤ y → int_lt x y ≡ true
lt-int_lt x y h = grind (arith, ints)

pub Blocks-from_exceeds : (g : Network) (set : ℕ → Bool) (side : Side) → exceeds g set side ≡ true → Blocks g set side
Blocks-from_exceeds g set Send e = int_lt-true (can_send g set) (must_send g set) e
Blocks-from_exceeds g set Take e = int_lt-true (can_take g set) (must_take g set) e

pub exceeds-from_Blocks : (g : Network) (set : ℕ → Bool) (side : Side) → Blocks g set side → exceeds g set side ≡ true
exceeds-from_Blocks g set Send h = lt-int_lt (can_send g set) (must_send g set) h
exceeds-from_Blocks g set Take h = lt-int_lt (can_take g set) (must_take g set) h

-- the test that the nodes are those of the instance
abbrev pub are_nodes : ℕ → List ℕ → Bool
are_nodes count nodes = list_all (λ v. leb v count) nodes

nodes_of : (count : ℕ) (nodes : List ℕ) → are_nodes count nodes ≡ true → All (λ v. v ≤ count) nodes
nodes_of count nodes e =
    λ k d h. leb-true _ count (AllPass-from_list_all (λ v. leb v count) nodes e k d h)

test_of : (count : ℕ) (nodes : List ℕ) → All (λ v. v ≤ count) nodes → are_nodes count nodes ≡ true
test_of count nodes all =
    list_all-from_AllPass (λ v. leb v count) nodes (λ k d h. le-leb _ count (all k d h))

module _ (g : Network) (a : BlockingSet) where
  pub at_blocking : are_nodes (node_count g) a.nodes ≡ true → Blocks g (in_list a.nodes) a.side → SetAccepted (length a.nodes) ≡ set_verdict g a
  unfolding set_verdict
  at_blocking e h =
      rw (and_from (are_nodes (node_count g) a.nodes) (exceeds g (in_list a.nodes) a.side) e (exceeds-from_Blocks g (in_list a.nodes) a.side h)) refl

  pub at_strangers : are_nodes (node_count g) a.nodes ≡ false → BadSet ≡ set_verdict g a
  unfolding set_verdict
  at_strangers e = rw (and_left (are_nodes (node_count g) a.nodes) (exceeds g (in_list a.nodes) a.side) e) refl

  pub at_not_blocking : (Blocks g (in_list a.nodes) a.side → ⊥) → BadSet ≡ set_verdict g a
  unfolding set_verdict
  at_not_blocking n =
      rw (and_right (are_nodes (node_count g) a.nodes) (exceeds g (in_list a.nodes) a.side)
      (false_from_ne_true (exceeds g (in_list a.nodes) a.side) (λ e. n (Blocks-from_exceeds g (in_list a.nodes) a.side e)))) refl

right_of : (right : Bool) (count : ℕ) → accepts (cond right (SetAccepted count) BadSet) ≡ true → right ≡ true
right_of true count e = refl
right_of false count e = absurd (false≢true e)

pub IsRightSet-from_accepts : (g : Network) (a : BlockingSet) → accepts (set_verdict g a) ≡ true → IsRightSet g a
unfolding set_verdict
IsRightSet-from_accepts g a e =
    let parts = and_parts (are_nodes (node_count g) a.nodes) (exceeds g (in_list a.nodes) a.side)
    (right_of (are_nodes (node_count g) a.nodes && exceeds g (in_list a.nodes) a.side) (length a.nodes) e) in
    record {
      of_instance = nodes_of (node_count g) a.nodes parts.0;
      exceeds = Blocks-from_exceeds g (in_list a.nodes) a.side parts.1;
    }

pub at_right_set : (g : Network) (a : BlockingSet) → IsRightSet g a → SetAccepted (length a.nodes) ≡ set_verdict g a
at_right_set g a h = at_blocking g a (test_of (node_count g) a.nodes h.of_instance) h.exceeds

pub accepts-from_IsRightSet : (g : Network) (a : BlockingSet) → IsRightSet g a → accepts (set_verdict g a) ≡ true
accepts-from_IsRightSet g a h = sym (ap accepts (at_right_set g a h))
