-- The list of residual arcs below the thresholds of their heads, as it is filled.
use Rattle.std.proofs.Common.{◌≡◌, ◌≢◌, ℕ, ◌+◌, ◌-◌, ◌<◌, ◌≤◌, List, [], ◌∷◌, ◌++◌, length, map, set, get_or, ℤ, refl, sym, ap, subst, ◌∙◌, arith, Bool, true, false}
use Rattle.std.proofs.Common.{inl, inr, length-set}
use Rattle.std.specs.Prelude.{not}
use Rattle.std.specs.List.{Contains}
use Rattle.std.proofs.lemmas.Int.{ints}
use Rattle.std.proofs.lemmas.Bool.{cases_eq}
use Rattle.std.proofs.lemmas.Grind.{get_or-set_at}
use Rattle.std.proofs.lemmas.List.{get_or_append_left, get_or-append_right, get_or-map, get_or-set_other, length-map, length-append}
use Rattle.mcf_flows.specs.Network.{Network, IsArcNumber, IsNode, at_node, node_count}
use Rattle.mcf_network.specs.declared.rid.Rid.{Rid}
use Rattle.mcf_network.specs.Residual.{tail, head}
use Rattle.mcf_network.specs.States.{Pseudoflow}
use Rattle.mcf_engine.specs.declared.shortlist.ChainEntry.{ChainEntry}
use Rattle.mcf_engine.specs.Private.Raisings.{CostsAtLeast}
use Rattle.mcf_engine.specs.Private.Shortlists.{AreChains, IsLastEntry, IsListed, IsPut, IsWhole, entry_at, no_entry, out_of}

-- ---- what stands in the list

-- the residual arc of each entry does
pub stands : (entries : List ChainEntry) (i : ℕ) → i < length entries → Contains (map out_of entries) (out_of (entry_at entries i))
stands entries i l = (i, (let n = length-map entries out_of in omega (arith, l, n)), get_or-map out_of entries i no_entry (out_of (entry_at entries i)) l)

-- and only such
pub record StandsAt (entries : List ChainEntry) (out : Rid) : Type 0 where
  pub place : ℕ
  pub inside : place < length entries
  pub is : out_of (entry_at entries place) ≡ out

pub stands_at : (entries : List ChainEntry) (out : Rid) → Contains (map out_of entries) out → StandsAt entries out
stands_at entries out (i, l, e) =
    let n = length-map entries out_of in
    let inside : i < length entries = omega (arith, l, n) in
    record { place = i; inside = inside; is = sym (get_or-map out_of entries i no_entry out inside) ∙ e }

-- ---- an entry more

old_entry : (entries : List ChainEntry) (e : ChainEntry) (i : ℕ) → i < length entries → entry_at (entries ++ e ∷ []) i ≡ entry_at entries i
old_entry entries e i l = get_or_append_left entries (e ∷ []) no_entry i l

new_entry : (entries : List ChainEntry) (e : ChainEntry) (i : ℕ) → i ≡ length entries → entry_at (entries ++ e ∷ []) i ≡ e
new_entry entries e i is =
    get_or-append_right entries (e ∷ []) (length entries) i no_entry refl (omega (arith, is))
    ∙ ap (λ k. get_or (e ∷ []) k no_entry) (let z : i - length entries ≡ 0 = omega (arith, is) in z)

pub one_more : (entries : List ChainEntry) (e : ChainEntry) → length (entries ++ e ∷ []) ≡ length entries + 1
one_more entries e = length-append entries (e ∷ [])

link_kept : (g : Network) (entries : List ChainEntry) (e : ChainEntry) (w c count : ℕ) → count ≤ length entries → IsLastEntry g entries w c count
    → IsLastEntry g (entries ++ e ∷ []) w c count
link_kept g entries e w c count few link =
    let low = link.low in
    record {
      low = low;
      leaves = λ some. ap (λ (x : ChainEntry). tail g (out_of x)) (old_entry entries e (c - 1) (omega (arith, some, low, few))) ∙ link.leaves some;
      last = λ j from to is. link.last j from to
          (sym (ap (λ (x : ChainEntry). tail g (out_of x)) (old_entry entries e j (omega (arith, to, few)))) ∙ is);
    }

-- the node of the new entry links to it
link_here : (g : Network) (entries : List ChainEntry) (e : ChainEntry) (w c : ℕ) → tail g (out_of e) ≡ w → c ≡ length entries + 1
    → IsLastEntry g (entries ++ e ∷ []) w c (length (entries ++ e ∷ []))
link_here g entries e w c leaves is =
    let n = one_more entries e in
    record {
      low = omega (arith, n, is);
      leaves = λ some. ap (λ (x : ChainEntry). tail g (out_of x)) (new_entry entries e (c - 1) (omega (arith, is))) ∙ leaves;
      last = λ j from to. absurd (omega (arith, from, to, n, is));
    }

-- another node links as before
link_other : (g : Network) (entries : List ChainEntry) (e : ChainEntry) (w c : ℕ) → tail g (out_of e) ≢ w → IsLastEntry g entries w c (length entries)
    → IsLastEntry g (entries ++ e ∷ []) w c (length (entries ++ e ∷ []))
link_other g entries e w c other link =
    let n = one_more entries e in
    let low = link.low in
    let before = link_kept g entries e w c (length entries) (omega arith) link in
    record {
      low = omega (arith, n, low);
      leaves = before.leaves;
      last = λ j from to. elim (cases_eq j (length entries)) [
        | inl is ↦ λ there. other (sym (ap (λ (x : ChainEntry). tail g (out_of x)) (new_entry entries e j is)) ∙ there)
        | inr not_last ↦ before.last j from (omega (arith, to, n, not_last))
      ];
    }

pub chains_more : (g : Network) (heads : List ℕ) (entries : List ChainEntry) (e : ChainEntry) (w : ℕ) → AreChains g heads entries → IsNode (node_count g) w
    → tail g (out_of e) ≡ w → IsArcNumber g e.arc → e.next ≡ get_or heads (w - 1) 0
    → AreChains g (set heads (w - 1) (length entries + 1)) (entries ++ e ∷ [])
chains_more g heads entries e w ok node leaves arc next =
    let n = one_more entries e in
    let count = ok.head_count in
    record {
      head_count = length-set heads (w - 1) (length entries + 1) ∙ count;
      arcs = λ i l. elim (cases_eq i (length entries)) [
        | inl is ↦ subst (λ (x : ChainEntry). IsArcNumber g x.arc) (sym (new_entry entries e i is)) arc
        | inr other ↦ (
            let inside : i < length entries = omega (arith, l, n, other) in
            subst (λ (x : ChainEntry). IsArcNumber g x.arc) (sym (old_entry entries e i inside)) (ok.arcs i inside))
      ];
      first = λ v m. elim (cases_eq v w) [
        | inl is ↦ link_here g entries e v _ (leaves ∙ sym is)
            (get_or-set_at heads (w - 1) (v - 1) (length entries + 1) 0 (omega (arith, is)) (omega (arith, node, count)))
        | inr other ↦ subst (λ c. IsLastEntry g (entries ++ e ∷ []) v c (length (entries ++ e ∷ [])))
            (sym (get_or-set_other heads (w - 1) (v - 1) (length entries + 1) 0 (omega (arith, other, m, node))))
            (link_other g entries e v (get_or heads (v - 1) 0) (λ there. other (sym there ∙ leaves)) (ok.first v m))
      ];
      next = λ i l. elim (cases_eq i (length entries)) [
        | inl is ↦ (
            let here : IsLastEntry g (entries ++ e ∷ []) w (get_or heads (w - 1) 0) (length entries) = link_kept g entries e w (get_or heads (w - 1) 0)
            (length entries) (omega arith) (ok.first w node) in
            let there : IsLastEntry g (entries ++ e ∷ []) (tail g (out_of e)) e.next (length entries) = subst
            (λ c. IsLastEntry g (entries ++ e ∷ []) (tail g (out_of e)) c (length entries)) (sym next)
            (subst (λ v. IsLastEntry g (entries ++ e ∷ []) v (get_or heads (w - 1) 0) (length entries)) (sym leaves) here) in
            subst (λ (x : ChainEntry). IsLastEntry g (entries ++ e ∷ []) (tail g (out_of x)) x.next i) (sym (new_entry entries e i is))
            (subst (λ k. IsLastEntry g (entries ++ e ∷ []) (tail g (out_of e)) e.next k) (sym is) there))
        | inr other ↦ (
            let inside : i < length entries = omega (arith, l, n, other) in
            subst (λ (x : ChainEntry). IsLastEntry g (entries ++ e ∷ []) (tail g (out_of x)) x.next i) (sym (old_entry entries e i inside))
            (link_kept g entries e _ _ i (omega (arith, inside)) (ok.next i inside)))
      ];
    }

-- a residual arc is in the list where its reverse was appended, and what was in it still is
pub stands_more : (entries : List ChainEntry) (e : ChainEntry) (out : Rid) → Contains (map out_of entries) out → Contains (map out_of (entries ++ e ∷ [])) out
stands_more entries e out has =
    let at = stands_at entries out has in
    let n = one_more entries e in
    let inside = at.inside in
    subst (λ x. Contains (map out_of (entries ++ e ∷ [])) x) (ap out_of (old_entry entries e at.place at.inside) ∙ at.is)
    (stands (entries ++ e ∷ []) at.place (omega (arith, inside, n)))

pub stands_new : (entries : List ChainEntry) (e : ChainEntry) → Contains (map out_of (entries ++ e ∷ [])) (out_of e)
stands_new entries e =
    let n = one_more entries e in
    subst (λ x. Contains (map out_of (entries ++ e ∷ [])) x) (ap out_of (new_entry entries e (length entries) refl))
    (stands (entries ++ e ∷ []) (length entries) (omega (arith, n)))

-- ---- one residual arc

-- it needn't be listed
pub put_none : (s : Pseudoflow) (passed : List ℤ) (heads : List ℕ) (entries : List ChainEntry) (r : Rid) → AreChains s.net heads entries
    → CostsAtLeast s (at_node passed (head s.net r)) r → IsPut s passed heads entries entries r
put_none s passed heads entries r ok costs =
    record {
      chains = ok;
      kept = λ out has. has;
      here = λ room less. absurd (let most = costs room in omega (arith, ints, most, less));
    }

-- it was appended
pub put_one : (s : Pseudoflow) (passed : List ℤ) (heads heads' : List ℕ) (before entries : List ChainEntry) (e : ChainEntry) (r : Rid) (w place : ℕ)
    → AreChains s.net heads before → IsNode (node_count s.net) w → tail s.net (out_of e) ≡ w → IsArcNumber s.net e.arc
    → out_of e ≡ record { arc = r.arc; back = not r.back } → place ≡ w - 1 → e.next ≡ get_or heads place 0 → heads' ≡ set heads place (length before + 1)
    → entries ≡ before ++ e ∷ [] → IsPut s passed heads' before entries r
put_one s passed heads heads' before entries e r w place ok node leaves arc is at next heads_is entries_is =
    let made : IsPut s passed (set heads (w - 1) (length before + 1)) before (before ++ e ∷ []) r = record {
      chains = chains_more s.net heads before e w ok node leaves arc (next ∙ ap (λ k. get_or heads k 0) at);
      kept = stands_more before e;
      here = λ room less. subst (λ x. Contains (map out_of (before ++ e ∷ [])) x) is (stands_new before e);
    } in
    subst (λ xs. IsPut s passed heads' before xs r) (sym entries_is)
    (subst (λ hs. IsPut s passed hs before (before ++ e ∷ []) r) (sym (heads_is ∙ ap (λ k. set heads k (length before + 1)) at)) made)

-- ---- all residual arcs, one after another

-- those of the first arcs are listed
pub record AreListed (s : Pseudoflow) (passed : List ℤ) (heads : List ℕ) (entries : List ChainEntry) (count : ℕ) : Type 0 where
  pub chains : AreChains s.net heads entries
  pub each : (r : Rid) → r.arc ≤ count → IsListed s passed entries r

pub listed_none : (s : Pseudoflow) (passed : List ℤ) (heads : List ℕ) (entries : List ChainEntry) → AreChains s.net heads entries
    → AreListed s passed heads entries 0
listed_none s passed heads entries ok =
    record { chains = ok; each = λ r few room less. absurd (let arc = room.arc in omega (arith, few, arc)) }

pub listed_next : (s : Pseudoflow) (passed : List ℤ) (h0 h1 h2 : List ℕ) (e0 e1 e2 : List ChainEntry) (count arc : ℕ) → AreListed s passed h0 e0 count
    → arc ≡ count + 1 → IsPut s passed h1 e0 e1 (record { arc = arc; back = false }) → IsPut s passed h2 e1 e2 (record { arc = arc; back = true })
    → AreListed s passed h2 e2 (count + 1)
listed_next s passed h0 h1 h2 e0 e1 e2 count arc before is one two =
    record {
      chains = two.chains;
      each = λ r few. elim (cases_eq r.arc arc) [
        | inl e ↦ subst (λ n. IsListed s passed e2 (record { arc = n; back = r.back })) (sym e) (this r.back)
        | inr other ↦ λ room less. two.kept _ (one.kept _ (before.each r (omega (arith, few, other, is)) room less))
      ];
    }
  where
    this : (b : Bool) → IsListed s passed e2 (record { arc = arc; back = b })
    this false room less = two.kept _ (one.here room less)
    this true room less = two.here room less

pub listed_all : (s : Pseudoflow) (passed : List ℤ) (heads : List ℕ) (entries : List ChainEntry) (count : ℕ) → AreListed s passed heads entries count
    → length s.net.arcs ≤ count → IsWhole s passed heads entries
listed_all s passed heads entries count so past =
    record { chains = so.chains; every = λ r room. (let arc = room.arc in so.each r (omega (arith, arc, past)) room) }

-- no entry at all
pub no_chains : (g : Network) (heads : List ℕ) (entries : List ChainEntry) → length heads ≡ node_count g
    → ((i : ℕ) → i < length heads → get_or heads i 0 ≡ 0) → entries ≡ [] → AreChains g heads entries
no_chains g heads entries count zero none =
    let empty : length entries ≡ 0 = ap (λ (xs : List ChainEntry). length xs) none in
    record {
      head_count = count;
      arcs = λ i l. absurd (omega (arith, l, empty));
      first = λ w n.
          let z = zero (w - 1) (omega (arith, n, count)) in
          record {
            low = omega (arith, z);
            leaves = λ some. absurd (omega (arith, z, some));
            last = λ j from to. absurd (omega (arith, to, empty));
          };
      next = λ i l. absurd (omega (arith, l, empty));
    }
