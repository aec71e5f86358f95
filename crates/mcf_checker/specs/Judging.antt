-- What the checker says of an answer text: the first of the verdicts that applies.
-- Source: own
use Rattle.std.specs.Prelude.{ℕ, ◌-◌, ◌==◌, nat_le, nat_lt, max, Bool, true, false, not, ◌&&◌, ◌||◌, if◌then◌else◌, List, length, find, zip, ℤ, int_le, int_lt}
use Rattle.std.specs.Prelude.{pos, Option, Some, None, option_map, slice_get, Result, Ok, Err, bytes_eq}
use Rattle.std.specs.List.{list_all, range_with_len}
use Rattle.std.specs.Option.{option_map_or}
use Rattle.std.specs.Ordering.{int_eq}
use Rattle.mcf_answer.specs.BlockingSet.{BlockingSet}
use Rattle.mcf_answer.specs.Parsing.{parsing}
use Rattle.mcf_answer.specs.Solution.{Solution}
use Rattle.mcf_answer.specs.SparseSolution.{SparseSolution}
use Rattle.mcf_answer.specs.declared.answers.Answer.{Answer}
use Rattle.mcf_answer.specs.declared.answers.Answer.TheVariants.{Flow, Sparse, Blocked, Refused}
use Rattle.mcf_answer.specs.declared.answers.Sent.{Sent}
use Rattle.mcf_answer.specs.declared.shape.Shape.{Shape}
use Rattle.mcf_checker.specs.Correct.{amounts, spread}
use Rattle.mcf_checker.specs.declared.verdict.Verdict.{Verdict}
use Rattle.mcf_checker.specs.declared.verdict.Verdict.TheVariants.{BadShape, BadKind, BadRefusal, Refused as RefusalAccepted, BadArc, BadNode, BadPrice}
use Rattle.mcf_checker.specs.declared.verdict.Verdict.TheVariants.{BadCost, Flow as FlowAccepted, BadSet, Blocked as SetAccepted}
use Rattle.mcf_flows.specs.Blocking.{can_send, can_take, in_list, must_send, must_take}
use Rattle.mcf_flows.specs.Codes.{Fault, code_word}
use Rattle.mcf_flows.specs.Flow.{cost, net, reduced_cost}
use Rattle.mcf_flows.specs.Limits.{limits}
use Rattle.mcf_flows.specs.Network.{Network, at_node, node_count}
use Rattle.mcf_instance.specs.Reading.{reading}
use Rattle.mcf_flows.specs.declared.arc.Arc.{Arc}
use Rattle.mcf_flows.specs.declared.problem.Side.{Side}
use Rattle.mcf_flows.specs.declared.problem.Side.TheVariants.{Send, Take}

-- the least number from 1 to n that passes
abbrev pub least_up_to : ℕ → (ℕ → Bool) → Option ℕ
least_up_to n p = find p (range_with_len 1 n)

-- ---- arcs

-- an arc and a flow line are both there, with the same ends and a flow within the bounds
abbrev pub arc_agrees : Option Arc → Option Sent → Bool
arc_agrees (Some a) (Some s) = s.src == a.src && s.dst == a.dst && int_le a.low s.flow && int_le s.flow a.cap
arc_agrees (Some a) None = false
arc_agrees None (Some s) = false
arc_agrees None None = true

-- the least number of an arc without a flow line, of a flow line without an arc, or of two that
-- disagree
abbrev pub bad_arc : Network → List Sent → Option ℕ
bad_arc g sent =
    least_up_to (max (length g.arcs) (length sent)) (λ k. not (arc_agrees (slice_get g.arcs (k - 1)) (slice_get sent (k - 1))))

-- an arc is there, and can carry this much
abbrev pub can_carry : Option Arc → ℤ → Bool
can_carry None f = false
can_carry (Some a) f = int_le a.low f && int_le f a.cap

-- a line of the sparse form names an arc that is there, with a flow within its bounds
abbrev pub moved_agrees : List Arc → ℕ × ℤ → Bool
moved_agrees arcs m = can_carry (slice_get arcs (m.0 - 1)) m.1

-- the arc of the first line that doesn't; as the lines ascend, it is the least
abbrev pub bad_moved : Network → List (ℕ × ℤ) → Option ℕ
bad_moved g moved = option_map (λ m. m.0) (find (λ m. not (moved_agrees g.arcs m)) moved)

-- ---- nodes

-- the least number of a node without a price line, of a price line without a node, or of a node
-- whose net is not its supply
abbrev pub bad_node : Network → List ℤ → List ℤ → Option ℕ
bad_node g prices flow =
    least_up_to (max (node_count g) (length prices)) (λ v.
    nat_lt (node_count g) v || nat_lt (length prices) v || not (int_eq (net g.arcs flow v) (at_node g.supplies v)))

-- ---- prices

-- a flow above the low of an arc of positive reduced cost, or below the cap of one of negative
-- reduced cost
-- Source: AMO 9.3
abbrev pub is_loose : List ℤ → Arc × ℤ → Bool
is_loose prices m =
    (int_lt (pos 0) (reduced_cost prices m.0) && int_lt m.0.low m.1)
    || (int_lt (reduced_cost prices m.0) (pos 0) && int_lt m.1 m.0.cap)

-- such a flow, if there is one
-- Source: AMO 9.3
abbrev pub option_is_loose : List ℤ → Option (Arc × ℤ) → Bool
option_is_loose prices None = false
option_is_loose prices (Some m) = is_loose prices m

-- the least arc whose flow the prices do not show
abbrev pub bad_price : Network → List ℤ → List ℤ → Option ℕ
bad_price g prices flow =
    least_up_to (length g.arcs) (λ k. option_is_loose prices (slice_get (zip g.arcs flow) (k - 1)))

-- ---- the verdicts

-- of a flow within bounds for an instance, with its stated cost and prices
unfoldable pub flow_verdict : Network → ℤ → List ℤ → List ℤ → Verdict
flow_verdict g total prices flow =
    option_map_or BadNode (bad_node g prices flow)
    (option_map_or BadPrice (bad_price g prices flow)
    (if int_eq total (cost g.arcs flow) then FlowAccepted total else BadCost))

-- of a flow answer for an instance
unfoldable pub solution_verdict : Network → Solution → Verdict
solution_verdict g a =
    option_map_or BadArc (bad_arc g a.sent) (flow_verdict g a.cost a.prices (amounts a.sent))

-- of a flow answer of the sparse form for an instance
unfoldable pub sparse_verdict : Network → SparseSolution → Verdict
sparse_verdict g a =
    option_map_or BadArc (bad_moved g a.moved) (flow_verdict g a.cost a.prices (spread g.arcs a.moved))

-- the set must send, or take, more than it can
-- Source: AMO 6.7, Hoffman
abbrev pub exceeds : Network → (ℕ → Bool) → Side → Bool
exceeds g set Send = int_lt (can_send g set) (must_send g set)
exceeds g set Take = int_lt (can_take g set) (must_take g set)

-- of a blocked answer for an instance
unfoldable pub set_verdict : Network → BlockingSet → Verdict
set_verdict g a =
    if list_all (λ v. nat_le v (node_count g)) a.nodes && exceeds g (in_list a.nodes) a.side
    then SetAccepted (length a.nodes) else BadSet

-- both faults name one line and one code
abbrev pub same_fault : Fault → Fault → Bool
same_fault r s = r.line == s.line && bytes_eq (code_word r.code) (code_word s.code)

-- of what an instance text and an answer text stand for
unfoldable pub judged : Result Network Fault → Result Answer Shape → Verdict
judged read (Err shape) = BadShape shape.line
judged (Err fault) (Ok (Flow a)) = BadKind
judged (Err fault) (Ok (Sparse a)) = BadKind
judged (Err fault) (Ok (Blocked a)) = BadKind
judged (Ok g) (Ok (Refused r)) = BadKind
judged (Err fault) (Ok (Refused r)) = if same_fault r fault then RefusalAccepted r else BadRefusal
judged (Ok g) (Ok (Flow a)) = solution_verdict g a
judged (Ok g) (Ok (Sparse a)) = sparse_verdict g a
judged (Ok g) (Ok (Blocked a)) = set_verdict g a

-- of an answer text for an instance text
unfoldable pub verdict : List ℕ → List ℕ → Verdict
verdict input text = judged (reading limits input) (parsing text)

-- the accepting verdicts
abbrev pub accepts : Verdict → Bool
accepts (FlowAccepted cost) = true
accepts (SetAccepted count) = true
accepts (RefusalAccepted r) = true
accepts other = false
