-- A search that is over and found a column that isn't matched.
use Rattle.std.proofs.Common.{◌≡◌, ℕ, ◌+◌, ◌-◌, ◌≤◌, true, List, [], length, Some, ℤ, ◌≤ℤ◌, ◌-ℤ◌, refl, subst, arith, length-set}
use Rattle.std.proofs.lemmas.Int.{ints}
use Rattle.mcf_flows.specs.Blocking.{in_table}
use Rattle.mcf_flows.specs.Network.{IsArcNumber, IsNode, at_node, node_count}
use Rattle.mcf_flows.specs.WellFormed.{IsUpTo}
use Rattle.mcf_network.specs.NodeSets.{with_node}
use Rattle.mcf_network.specs.States.{Pseudoflow}
use Rattle.mcf_network.proofs.Marks.{count_small, counted_new}
use Rattle.mcf_offers.specs.Offers.{Offer}
use Rattle.mcf_matching.specs.Private.Labels.{Target}
use Rattle.mcf_matching.specs.Private.Forests.{IsForest, IsTightArc}
use Rattle.mcf_matching.specs.Private.Keeping.{AreNearZero, IsEnded}
use Rattle.mcf_matching.specs.Matchings.{AreMatchingPrices, IsColumn, IsMatchedColumn, IsPartialMatching, column_of}
use Rattle.mcf_matching.specs.Private.Searches.{AreRaised, IsBestUpTo, Search, Settled, Waits, dist_at}
use Rattle.mcf_matching.proofs.Settling.{not_true}
use Rattle.mcf_matching.proofs.PairLaws.{column_is}
use Rattle.mcf_matching.proofs.Raised.{predecessor_tight, raised_ok, target_tight}
use Rattle.mcf_matching.proofs.Near.{reach_small, row_near, target_near}
use Rattle.mcf_matching.specs.Private.Reaches.{CanRise, HasWidth, target_reach}

module _ {s : Pseudoflow} {y : List ℤ} {q : Search} {source : ℕ} {order : List ℕ} {t : Target} (ok : IsPartialMatching s) (shown : AreMatchingPrices s y)
    (ended : IsEnded s y q source order) (best : q.best ≡ Some t) where
  pub found_arc : IsArcNumber s.net t.arc
  found_arc = (ended.search.best t best).0.arc

  pub found_free : ¬ IsMatchedColumn s (column_of s t.arc)
  found_free = (ended.search.best t best).1

  pub found_column : IsColumn s (column_of s t.arc)
  found_column = column_is s t.arc ok found_arc

  -- the column at the end wasn't settled
  pub found_new : ¬ Settled q (column_of s t.arc)
  found_new h = found_free (ended.search.settled_columns (column_of s t.arc) found_column h).0

  pub found_room : length order + 1 ≤ node_count s.net
  found_room =
      let count = ended.search.entries.settled_count in
      let n = found_column.0 in
      let node : IsNode (length q.settled) (column_of s t.arc) = (n.0, omega (arith, n, count)) in
      let more = counted_new q.settled (column_of s t.arc) node (not_true (in_table q.settled (column_of s t.arc)) found_new) in
      let few = count_small (with_node q.settled (column_of s t.arc)) in
      let same = length-set q.settled (column_of s t.arc - 1) true in
      let tally = ended.order_ok.tally in
      omega (arith, more, few, same, tally, count)

  nearest : (o : Offer) → Waits q o → t.dist ≤ℤ o.dist
  nearest o h = subst (λ b. IsBestUpTo b o.dist) best (ended.over o h)

  pub found_prices : (z : List ℤ) → AreRaised s q t.dist y z → AreMatchingPrices s z
  found_prices z raised = raised_ok s y z q source t ok ended.search shown best nearest raised

  pub found_forest : (z : List ℤ) → AreRaised s q t.dist y z → IsForest s q source order z
  found_forest z raised =
      record {
        matching = ok;
        not_matched = ended.search.not_matched;
        tight = (found_prices z raised).tight;
        rows = ended.order_ok.rows;
        columns = λ k p h. (ended.search.pairs k p h).0;
        pairs = ended.order_ok.pairs;
        predecessors = λ v column h.
            let l = (ended.search.settled_columns v column h).1 in
            record {
              arc = l.arc;
              from = l.from;
              to = l.to;
              tight = predecessor_tight s y z q source t ok ended.search shown best nearest raised v column h;
            };
        earlier = ended.order_ok.predecessors;
      }

  pub found_tight : (z : List ℤ) → AreRaised s q t.dist y z → IsTightArc s q z t.arc (column_of s t.arc)
  found_tight z raised =
      record {
        arc = found_arc;
        from = (ended.search.best t best).0.from;
        to = refl;
        tight = target_tight s y z q source t ok ended.search shown best nearest raised;
      }

  -- ---- no distance is far from 0

  module _ (small : AreNearZero s y) where
    found_near : (v : ℕ) → IsNode (node_count s.net) v → Settled q v → IsUpTo (target_reach s.net) (dist_at q v)
    found_near v n h =
        let near = row_near s y q source v [] ok ended.search n h small in
        (omega (arith, ints, near), omega (arith, ints, near))

    found_dist : IsUpTo (target_reach s.net) t.dist
    found_dist =
        let near = target_near s y q source [] t ok ended.search best in
        let few = reach_small s y q source [] ended.search in
        let a = small source ended.search.is_row.0 in
        let b = small (column_of s t.arc) found_column.0 in
        (omega (arith, ints, near, few, a, b), omega (arith, ints, near, few, a, b))

    -- the prices of settled nodes have room to rise
    pub found_rise : {room : ℕ} → HasWidth room s.net → (v : ℕ) → IsNode (node_count s.net) v → Settled q v → CanRise room (at_node y v) (t.dist -ℤ dist_at q v)
    found_rise width v n h =
        let near = found_near v n h in
        let target = found_dist in
        let price = small v n in (
          (omega (arith, ints, width, near, target), omega (arith, ints, width, near, target)),
          (omega (arith, ints, width, near, target, price), omega (arith, ints, width, near, target, price)),
        )
