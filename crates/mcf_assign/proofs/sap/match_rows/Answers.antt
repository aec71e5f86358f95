use Rattle.std.proofs.Common.{◌≡◌, ◌∙◌, ℤ, ap, arith, false, of_z, pos, rules, subst, sym, to_z, true}
use mir.Syntax.{w128}
use Rattle.std.proofs.lemmas.Bool.{false_from_ne_true}
use Rattle.std.proofs.lemmas.Bool.Decides.{Decides-int_eq}
use Rattle.std.proofs.lemmas.Int.{to_z-of_z}
use Rattle.std.specs.Ordering.{int_eq}
use Rattle.mcf_assign.specs.Runs.{Run, sources_to, start}
use Rattle.mcf_assign.proofs.RunLaws.{offered_free, offered_next, offered_none, offered_row}
use Rattle.mcf_assign.proofs.sap.match_rows.Goals as goal

no_source : (x y : ℤ) → x ≡ y → (of_z w128 x ≡ 1 → ⊥) → int_eq y (pos 1) ≡ false
no_source x y same other = false_from_ne_true (int_eq y (pos 1)) (λ e. other (ap (of_z w128) (same ∙ (Decides-int_eq y (pos 1)).0 e)))

a_source : (x y : ℤ) → to_z w128 (of_z w128 x) ≡ x → x ≡ y → of_z w128 x ≡ 1 → int_eq y (pos 1) ≡ true
a_source x y fits same one = (Decides-int_eq y (pos 1)).1 (sym same ∙ sym fits ∙ ap (to_z w128) one)

pub rows-init : goal.rows-init
rows-init c = start c.requires

pub rows-preserved-then-supply-ne1 : goal.rows-preserved-then-supply-ne1
rows-preserved-then-supply-ne1 c =
    let last = c.rows-test.true in
    let count = c.node_count-number-end.ensures.value in
    subst (λ n. Run c.args.net.now (sources_to c.args.net.now n) c.rows.matching) c.at-v.ensures
    (offered_none c.at-v.ensures (omega (arith, last, count)) c.rows.invariant (no_source _ _ c.supply.ensures.value c.if-supply-ne1.true))

pub extend-requires-clause-row : goal.extend-requires-clause-row
extend-requires-clause-row c =
    let fits : to_z w128 (of_z w128 c.supply.result) ≡ c.supply.result = search (rules, to_z-of_z) in
    let last = c.rows-test.true in
    let count = c.node_count-number-end.ensures.value in
    offered_row c.at-v.ensures (omega (arith, last, count)) c.rows.invariant (a_source _ _ fits c.supply.ensures.value c.if-supply-ne1.false)

pub extend-requires-clause-free : goal.extend-requires-clause-free
extend-requires-clause-free c =
    let last = c.rows-test.true in
    let count = c.node_count-number-end.ensures.value in
    offered_free c.at-v.ensures (omega (arith, last, count)) c.rows.invariant

pub returns-in-Blocked : goal.returns-in-Blocked
returns-in-Blocked c =
    let fits : to_z w128 (of_z w128 c.supply.result) ≡ c.supply.result = search (rules, to_z-of_z) in
    let last = c.rows-test.true in
    let count = c.node_count-number-end.ensures.value in
    rw c.in-Blocked.is at (offered_next c.at-v.ensures (omega (arith, last, count)) c.rows.invariant c.extend.result c.extend.new.self
    (a_source _ _ fits c.supply.ensures.value c.if-supply-ne1.false) c.extend.ensures.extended c.extend.ensures.shown)

pub rows-preserved : goal.rows-preserved
rows-preserved c =
    let fits : to_z w128 (of_z w128 c.supply.result) ≡ c.supply.result = search (rules, to_z-of_z) in
    let last = c.rows-test.true in
    let count = c.node_count-number-end.ensures.value in
    let next = rw c.in-Matched.is at (offered_next c.at-v.ensures (omega (arith, last, count)) c.rows.invariant c.extend.result c.extend.new.self
    (a_source _ _ fits c.supply.ensures.value c.if-supply-ne1.false) c.extend.ensures.extended c.extend.ensures.shown) in
    subst (λ n. Run c.args.net.now (sources_to c.args.net.now n) c.extend.new.self) c.at-v.ensures next
