-- The scan of a settled node by its chain in a whole list.
use Rattle.std.proofs.Common.{◌≡◌, ℕ, ◌-◌, ◌<◌, ◌≤◌, List, ◌∷◌, length, map, get_or, ℤ, ◌≤ℤ◌, sym, ap, subst, ◌∙◌, arith, inl, inr}
use Rattle.std.specs.List.{Contains}
use Rattle.std.proofs.lemmas.Bool.{cases_eq, cases_lt}
use Rattle.std.proofs.lemmas.Int.{ints, by_lt_z}
use Rattle.mcf_flows.specs.Network.{Network, IsArcNumber, IsNode, at_node, node_count}
use Rattle.mcf_network.specs.declared.rid.Rid.{Rid}
use Rattle.mcf_network.specs.Residual.{tail, head, unit_cost}
use Rattle.mcf_network.specs.Stars.{ListsLeaving}
use Rattle.mcf_network.proofs.ArcLaws.{tail_is_node}
use Rattle.mcf_network.proofs.Lists.{Contains-first, Contains-later}
use Rattle.mcf_engine.specs.declared.shortlist.ChainEntry.{ChainEntry}
use Rattle.mcf_engine.specs.declared.near_state.NearState.{NearState}
use Rattle.mcf_engine.specs.Heaps.{Keyed}
use Rattle.mcf_engine.specs.Private.Raisings.{IsLastSettled, IsPassedFrom, IsPopped, IsRaising, label}
use Rattle.mcf_engine.specs.Respecting.{reverse}
use Rattle.mcf_engine.specs.Private.Shortlists.{AreChains, HasChain, IsChain, IsLastEntry, IsWhole, entry_at, out_of}
use Rattle.mcf_engine.proofs.RaisingSteps.{tail_reversed}
use Rattle.mcf_engine.proofs.Shortlists.{StandsAt, stands, stands_at}

-- ---- the chain of a node

pub chain_start : (g : Network) (heads : List ℕ) (entries : List ChainEntry) (w c : ℕ) → AreChains g heads entries → IsNode (node_count g) w
    → c ≡ get_or heads (w - 1) 0 → IsChain g entries w c
chain_start g heads entries w c ok node is =
    let link : IsLastEntry g entries w c (length entries) = subst (λ k. IsLastEntry g entries w k (length entries)) (sym is) (ok.first w node) in
    record { low = link.low; leaves = link.leaves; arcs = ok.arcs; next = ok.next }

module _ (g : Network) (entries : List ChainEntry) (w c : ℕ) (chain : IsChain g entries w c) (some : 1 ≤ c) where
  here : IsLastEntry g entries (tail g (out_of (entry_at entries (c - 1)))) (entry_at entries (c - 1)).next (c - 1)
  here = let low = chain.low in chain.next (c - 1) (omega (arith, low, some))

  pub chain_next : IsChain g entries w (entry_at entries (c - 1)).next
  chain_next =
      record {
        low = let low = chain.low in let less = here.low in omega (arith, low, less);
        leaves = λ more. here.leaves more ∙ chain.leaves some;
        arcs = chain.arcs;
        next = chain.next;
      }

  pub chain_rest : (rest : List Rid) → HasChain g entries w (entry_at entries (c - 1)).next rest
      → HasChain g entries w c (out_of (entry_at entries (c - 1)) ∷ rest)
  chain_rest rest has i l leaves =
      elim (cases_eq i (c - 1)) [
        | inl is ↦ subst (λ k. Contains (out_of (entry_at entries (c - 1)) ∷ rest) (out_of (entry_at entries k))) (sym is)
            (Contains-first (out_of (entry_at entries (c - 1))) rest)
        | inr other ↦ elim (cases_lt i (entry_at entries (c - 1)).next) [
          | inl before ↦ Contains-later (out_of (entry_at entries (c - 1))) (out_of (entry_at entries i)) rest (has i before leaves)
          | inr behind ↦ absurd (here.last i behind (omega (arith, l, other)) (leaves ∙ sym (chain.leaves some)))
        ]
      ]

-- the chain has ended
pub chain_end : (g : Network) (entries : List ChainEntry) (w c : ℕ) (rest : List Rid) → c ≡ 0 → HasChain g entries w c rest
chain_end g entries w c rest none i l leaves = absurd (omega (arith, l, none))

-- ---- the scan

-- the next entry of a chain is a residual arc that leaves the node that was settled last, and those
-- before it are still to come
pub record IsNext (p : NearState) (h : Keyed) (entries : List ChainEntry) (w next : ℕ) (base : ℤ) (out : Rid) : Type 0 where
  pub arc : IsArcNumber p.state.now.net out.arc
  pub last : IsLastSettled (node_count p.state.now.net) h (tail p.state.now.net out)
  pub base_is : base ≡ label p.prices.now h (tail p.state.now.net out)
  pub chain : IsChain p.state.now.net entries w next
  pub all : IsRaising p h (out ∷ map out_of entries)
  pub search : (rest : List Rid) → HasChain p.state.now.net entries w next rest → IsRaising p h (out ∷ rest)

module _ (p : NearState) where
  -- all residual arcs that leave the node are such a list
  pub entering_list : (h : Keyed) (w : ℕ) (list : List Rid) → IsPopped p h w → ListsLeaving p.state.now.net w list → IsRaising p h list
  entering_list h w list popped lists =
      popped.search list (λ r room is. inr (lists.every (reverse r) (record { arc = room.arc; from = tail_reversed p.state.now.net r.arc r.back ∙ is })))

  -- so is the chain of the node, where no other residual arc offers a label below 0
  pub chain_search : (h : Keyed) (passed : List ℤ) (heads : List ℕ) (entries : List ChainEntry) (w c : ℕ) (base least : ℤ)
      → IsWhole p.state.now passed heads entries → IsPopped p h w → c ≡ get_or heads (w - 1) 0 → base ≡ label p.prices.now h w → IsPassedFrom p.scale base least
      → least ≤ℤ at_node passed w → (rest : List Rid) → HasChain p.state.now.net entries w c rest → IsRaising p h rest
  chain_search h passed heads entries w c base least whole popped is base_is from low rest has =
      popped.search rest (λ r room enters.
      let same = ap (at_node passed) enters in
      by_lt_z (unit_cost p.state.now.net r) (at_node passed w)
      (λ less. inr (listed r enters (stands_at entries (reverse r) (whole.every r room (omega (arith, ints, less, same))))))
      (λ most. inl (λ _.
      let offered = from (unit_cost p.state.now.net r) (omega (arith, ints, most, low)) in
      let up = popped.not_above (tail p.state.now.net r) (tail_is_node p.state.now.net r.arc r.back popped.flow.of_net room.arc) in
      let there = ap (λ v. label p.prices.now h v) enters in
      omega (arith, ints, offered, up, there, base_is))))
    where
      link : IsLastEntry p.state.now.net entries w c (length entries)
      link = subst (λ k. IsLastEntry p.state.now.net entries w k (length entries)) (sym is) (whole.chains.first w popped.last.is_node)

      listed : (r : Rid) → head p.state.now.net r ≡ w → StandsAt entries (reverse r) → Contains rest (reverse r)
      listed r enters at =
          let leaves : tail p.state.now.net (out_of (entry_at entries at.place)) ≡ w = ap (λ x. tail p.state.now.net x) at.is ∙ tail_reversed p.state.now.net r.arc r.back ∙ enters in
          elim (cases_lt at.place c) [
            | inl before ↦ subst (λ x. Contains rest x) at.is (has at.place before leaves)
            | inr behind ↦ absurd (link.last at.place behind at.inside leaves)
          ]

  pub next_entry : (h : Keyed) (entries : List ChainEntry) (w c : ℕ) (base : ℤ) (entry : ChainEntry) (arc : ℕ) → IsChain p.state.now.net entries w c → 1 ≤ c
      → ((rest : List Rid) → HasChain p.state.now.net entries w c rest → IsRaising p h rest) → IsLastSettled (node_count p.state.now.net) h w
      → base ≡ label p.prices.now h w → entry ≡ entry_at entries (c - 1) → arc ≡ entry.arc
      → IsNext p h entries w entry.next base (record { arc = arc; back = entry.back })
  next_entry h entries w c base entry arc chain some search last base_is is arc_is =
      let low = chain.low in
      let inside : c - 1 < length entries = omega (arith, low, some) in
      let leaves = chain.leaves some in
      let made : IsNext p h entries w (entry_at entries (c - 1)).next base (out_of (entry_at entries (c - 1))) = record {
        arc = chain.arcs (c - 1) inside;
        last = subst (λ x. IsLastSettled (node_count p.state.now.net) h x) (sym leaves) last;
        base_is = base_is ∙ ap (λ x. label p.prices.now h x) (sym leaves);
        chain = chain_next p.state.now.net entries w c chain some;
        all = search (out_of (entry_at entries (c - 1)) ∷ map out_of entries) (λ i l _.
            Contains-later (out_of (entry_at entries (c - 1))) (out_of (entry_at entries i)) (map out_of entries) (stands entries i (omega (arith, l, low))));
        search = λ rest has. search (out_of (entry_at entries (c - 1)) ∷ rest) (chain_rest p.state.now.net entries w c chain some rest has);
      } in
      subst (λ k. IsNext p h entries w entry.next base (record { arc = k; back = entry.back })) (sym arc_is)
      (subst (λ (e : ChainEntry). IsNext p h entries w e.next base (out_of e)) (sym is) made)
