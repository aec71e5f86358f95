use Rattle.std.proofs.Common.{◌≡◌, ◌≤◌, ◌+◌, ◌-◌, ◌*◌, ◌∷◌, [], length, vec_capacity}
use Rattle.mcf_flows.specs.Network.{node_count}
use Rattle.mcf_matching.specs.Private.Rooms.{out_count}
use Rattle.mcf_matching.specs.Private.Keeping.{IsReady}
use Rattle.mcf_matching.specs.Private.Searches.{search_of}
use Rattle.mcf_matching.proofs.search.Tables.run.Given as goal

abbrev pub invariant-rows : goal.invariant-rows
invariant-rows g l =
    record {
      ready : IsReady l.scene.state.now l.scene.prices.now (search_of l.self) l.fn.source l.self.order.items l.id;
      number : l.self.searches.number ≡ l.fn.self.searches.number;
      order : vec_capacity l.self.order ≡ vec_capacity l.fn.self.order;
      room : l.fn.self.offers.room ≤ l.self.offers.room;
      few : length l.self.offers.items + 2 * out_count l.scene.state.now.net (l.id ∷ []) ≤ 2 * out_count l.scene.state.now.net l.self.order.items;
    }

abbrev pub decreases-rows : goal.decreases-rows
decreases-rows g l = node_count l.scene.state.now.net - length l.self.order.items
