-- The loop that turns a path.
use Rattle.std.proofs.Common.{◌≡◌, ◌≢◌, ℕ, ◌-◌, ◌<◌, true, false, true≢false, Bool, List, [], ◌∷◌, get_or, ℤ, pos, refl, sym, ◌∙◌, ap, subst, arith}
use Rattle.std.proofs.Common.{◌⊎◌, inl, inr}
use Rattle.std.specs.List.{All}
use Rattle.std.proofs.lemmas.Bool.{cases_eq}
use Rattle.std.proofs.lemmas.Int.{ints}
use Rattle.std.proofs.lemmas.List.{get_or_default}
use Rattle.std.proofs.lemmas.List.Elements.{All-cons}
use Rattle.std.proofs.lemmas.List.Kept.{AllPairs-cons}
use Rattle.mcf_flows.specs.Network.{Network, IsArcNumber, IsNode, node_count}
use Rattle.mcf_network.specs.declared.rid.Rid.{Rid}
use Rattle.mcf_network.specs.States.{IsPseudoflow, Pseudoflow, amount_at, pushed}
use Rattle.mcf_network.specs.Walks.{HasRoomFor, IsWalk}
use Rattle.mcf_network.proofs.StateLaws.{rid}
use Rattle.mcf_matching.specs.declared.scene.Mate.{Mate}
use Rattle.mcf_matching.specs.Extending.{IsAugmented}
use Rattle.mcf_matching.specs.Matchings.{IsColumn, IsMatchedColumn, IsMatchedRow, IsPair, column_of, reduced, row_of}
use Rattle.mcf_matching.specs.Private.Forests.{AreMates, IsChangedWithin, IsForest, IsTightArc, IsTurning, mate_at, place}
use Rattle.mcf_matching.specs.Private.Searches.{HasEntries, Search, Settled, predecessor_at}
use Rattle.mcf_matching.specs.Private.Turning.{IsExtended, IsPushedFrom}
use Rattle.mcf_matching.proofs.Augmented.{push_first}
use Rattle.mcf_matching.proofs.Mating.{mate_none, row_mate}
use Rattle.mcf_matching.proofs.PairLaws.{amount_is, column_is, pairing_at, row_is}
use Rattle.mcf_matching.proofs.Pairing.{IsPaired, IsUnpaired, amount_pushed, column_out, end_kept, end_left, end_out, end_was, paired_ok, row_out, unpaired_ok}

abbrev parted : Pseudoflow → ℕ → Pseudoflow
parted s j = pushed s (rid j true) (pos 1)

abbrev joined : Pseudoflow → ℕ → Pseudoflow
joined s k = pushed s (rid k false) (pos 1)

-- one push along an arc between settled nodes, or to column t
changed_more : (old : Pseudoflow) (amounts : List ℤ) (q : Search) (t k : ℕ) (b : Bool) → IsPseudoflow (record { net = old.net; amounts = amounts })
    → IsArcNumber old.net k → Settled q (row_of old k) × (Settled q (column_of old k) ⊎ (column_of old k ≡ t))
    → IsChangedWithin old (record { net = old.net; amounts = amounts }) q t
    → IsChangedWithin old (pushed (record { net = old.net; amounts = amounts }) (rid k b) (pos 1)) q t
changed_more old amounts q t k b ok arc ends before i h =
    elim (amount_pushed (record { net = old.net; amounts = amounts }) k i b (pos 1) ok arc h) [
      | inl (e, is) ↦ inr (subst (λ x. Settled q (row_of old x) × (Settled q (column_of old x) ⊎ (column_of old x ≡ t))) (sym e) ends)
      | inr (n, same) ↦ elim (before i h) [
        | inl was ↦ inl (same ∙ was)
        | inr both ↦ inr both
      ]
    ]

pub turning_start : {s : Pseudoflow} {mates : List Mate} {q : Search} {order : List ℕ} {target source : ℕ} {z : List ℤ} → IsForest s q source order z
    → IsTightArc s q z target (column_of s target) → ¬ IsMatchedColumn s (column_of s target) → AreMates s mates → IsTurning s s mates q order target target
turning_start {s} {mates} {q} {order} {target} {source} {z} forest tight free mated =
    record {
      net = refl;
      matching = forest.matching;
      mated = mated;
      arc = tight.arc;
      from = tight.from;
      column = column_of s target;
      at = refl;
      to = inr refl;
      free = free;
      rows = (λ v h. h, λ v h. h);
      columns = λ v h n. h;
      others = λ v h. inl h;
      earlier = λ i p l. p;
      tight = λ source' z' forest' tight'. (tight'.tight, forest'.tight);
      changed = λ i h. inl refl;
      path = record {
        walk = [];
        leads = refl;
        can = record { low = omega (arith, ints); room = λ i d h. absurd (omega (arith, h)); distinct = λ i j d l h. absurd (omega (arith, h)) };
        later = λ i d h. absurd (omega (arith, h));
        not_matched = free;
        turned = refl;
      };
    }

-- ---- one arc of the path

-- what a turn may do: where the row of the arc is matched, exchange its pair for the arc and go on
-- with the predecessor of the column that is free then; otherwise put the arc in and end
pub record CanTurn (old s : Pseudoflow) (q : Search) (order : List ℕ) (target k : ℕ) : Type 0 where
  pub free : ¬ IsMatchedColumn s (column_of s k)
  pub next : (j : ℕ) → IsPair s j → row_of s j ≡ row_of s k → (mates : List Mate) → AreMates (joined (parted s j) k) mates
      → IsTurning old (joined (parted s j) k) mates q order target (predecessor_at q (column_of s j))
      × (place order (row_of s (predecessor_at q (column_of s j))) < place order (row_of s k))
  pub end : ¬ IsMatchedRow s (row_of s k) → (source : ℕ) (z : List ℤ) → IsForest old q source order z → IsTightArc old q z target (column_of old target)
      → IsExtended old (joined s k) z source (column_of old target)
  pub changed : ¬ IsMatchedRow s (row_of s k) → IsChangedWithin old (joined s k) q (column_of old target)

module _ {old : Pseudoflow} {amounts : List ℤ} {mates : List Mate} {q : Search} {order : List ℕ} {target k source : ℕ} {z : List ℤ}
    (forest : IsForest old q source order z) (end : IsTightArc old q z target (column_of old target))
    (turning : IsTurning old (record { net = old.net; amounts = amounts }) mates q order target k) where
  abbrev s : Pseudoflow
  s = record { net = old.net; amounts = amounts }

  abbrev t : ℕ
  t = column_of old target

  free_at : ¬ IsMatchedColumn s (column_of s k)
  free_at = subst (λ v. ¬ IsMatchedColumn s v) (sym turning.at) turning.free

  k_to : Settled q (column_of old k) ⊎ (column_of old k ≡ t)
  k_to =
      elim turning.to [
        | inl both ↦ inl (subst (λ v. Settled q v) (sym turning.at) both.0)
        | inr last ↦ inr (turning.at ∙ last)
      ]

  -- the arc may lead to the target, which wasn't matched
  column_was : (v : ℕ) → column_of s k ≡ v → IsMatchedColumn old v ⊎ (v ≡ t)
  column_was v e =
      elim turning.to [
        | inl both ↦ inl (subst (λ u. IsMatchedColumn old u) (sym turning.at ∙ e) both.1)
        | inr last ↦ inr (sym e ∙ turning.at ∙ last)
      ]

  -- ---- the path so far, and arc k before it

  path : IsPushedFrom old s (place order) (place order (row_of old k)) turning.column t
  path = turning.path

  k_room : HasRoomFor old (pos 1) (rid k false)
  k_room =
      let none : amount_at old k ≡ pos 0 = elim (amount_is old k forest.matching turning.arc) [
        | inl e ↦ e
        | inr p ↦ absurd (free_at (k, turning.earlier k p (omega arith), refl))
      ] in
      let cap = (pairing_at old k forest.matching turning.arc).cap_is in
      record { arc = turning.arc; room = omega (arith, ints, none, cap) }

  -- no arc of this row is on the path
  apart_from : (i : ℕ) → IsArcNumber old.net i → row_of old i ≡ row_of old k → All (λ (r : Rid). i - 1 ≢ r.arc - 1) path.walk
  apart_from i arc at n d h e =
      let there = (path.can.room n d h).arc in
      let later = path.later n d h in
      let same : i ≡ (get_or path.walk n d).arc = omega (arith, e, arc, there) in
      let rows = ap (λ x. place order (row_of old x)) same in
      let rows_at = ap (place order) at in
      omega (arith, later, rows, rows_at)

  distinct_from : (i : ℕ) (b : Bool) → IsArcNumber old.net i → row_of old i ≡ row_of old k → All (λ (r : Rid). rid i b ≢ r) path.walk
  distinct_from i b arc at n d h e = apart_from i arc at n d h (ap (λ (r : Rid). r.arc - 1) e)

  -- ---- the row is matched

  module _ (j : ℕ) (pair : IsPair s j) (from : row_of s j ≡ row_of s k) where
    -- its pair was there from the beginning
    was_pair : IsPair old j
    was_pair =
        let (i, p, e) = turning.rows.1 (row_of old k) (j, pair, from) in
        let at = ap (place order) e in
        subst (λ x. IsPair old x) (turning.matching.once_in_row i j (turning.earlier i p (omega (arith, at))) pair (e ∙ sym from)) p

    row_settled : Settled q (row_of old j)
    row_settled = subst (λ v. Settled q v) (sym from) turning.from

    column_settled : Settled q (column_of old j)
    column_settled = forest.columns j was_pair row_settled

    column_j : IsColumn old (column_of old j)
    column_j = column_is old j forest.matching was_pair.arc

    abbrev next : ℕ
    next = predecessor_at q (column_of old j)

    next_arc : IsTightArc old q z next (column_of old j)
    next_arc = forest.predecessors (column_of old j) column_j column_settled

    falls : (place order (row_of old next) < place order (row_of old k)) × (place order (row_of old j) ≡ place order (row_of old k))
    falls =
        let one = forest.earlier (column_of old j) column_j column_settled in
        let two = forest.pairs j was_pair row_settled in
        let same = ap (place order) from in
        (omega (arith, one, two, same), same)

    abbrev mid : Pseudoflow
    mid = parted s j

    abbrev done : Pseudoflow
    done = joined mid k

    out : IsUnpaired s mid j
    out = unpaired_ok s j turning.matching pair

    into : IsPaired mid done k
    into = paired_ok mid k out.matching turning.arc (row_out s j (row_of s k) turning.matching pair from) (λ m. free_at (end_out (column_of s) out (column_of s k) m))

    row_now : (v : ℕ) → IsMatchedRow s v → IsMatchedRow done v
    row_now v h =
        elim (cases_eq v (row_of s j)) [
          | inl e ↦ (k, into.here, sym from ∙ sym e)
          | inr n ↦ end_kept (row_of s) into v (end_left (row_of s) out v h n)
        ]

    row_was : (v : ℕ) → IsMatchedRow done v → IsMatchedRow s v
    row_was v h =
        elim (end_was (row_of s) into v h) [
          | inl m ↦ end_out (row_of s) out v m
          | inr e ↦ (j, pair, from ∙ e)
        ]

    next_path : IsPushedFrom old done (place order) (place order (row_of old next)) (column_of old j) t
    next_path =
        let less = falls in
        let one = was_pair.one in
        let later : Rid → Type 0 = λ (r : Rid). place order (row_of old next) < place order (row_of old r.arc) in
        let room = HasRoomFor old (pos 1) in
        record {
          walk = rid j true ∷ rid k false ∷ path.walk;
          leads = (refl, (sym from, subst (λ v. IsWalk old.net v path.walk t) (sym turning.at) path.leads));
          can = record {
            low = path.can.low;
            room = All-cons room (rid j true) (rid k false ∷ path.walk) (record { arc = was_pair.arc; room = omega (arith, ints, one) })
                (All-cons room (rid k false) path.walk k_room path.can.room);
            distinct = AllPairs-cons (λ (r q : Rid). r ≢ q) (rid j true) (rid k false ∷ path.walk)
                (All-cons (λ (q : Rid). rid j true ≢ q) (rid k false) path.walk (λ e. true≢false (ap (λ (r : Rid). r.back) e))
                (distinct_from j true was_pair.arc from))
                (AllPairs-cons (λ (r q : Rid). r ≢ q) (rid k false) path.walk (distinct_from k false turning.arc refl) path.can.distinct);
          };
          later = All-cons later (rid j true) (rid k false ∷ path.walk) (omega (arith, less))
              (All-cons later (rid k false) path.walk less.0 (λ n d h. let l = path.later n d h in omega (arith, less, l)));
          not_matched = path.not_matched;
          turned = ap (λ (x : Pseudoflow). joined (parted x j) k) path.turned
              ∙ ap (λ (x : Pseudoflow). joined x k) (push_first old path.walk (rid j true) (pos 1) (apart_from j was_pair.arc from))
              ∙ push_first (parted old j) path.walk (rid k false) (pos 1) (apart_from k turning.arc refl);
        }

    next_at : (mates' : List Mate) → AreMates done mates' → IsTurning old done mates' q order target next
    next_at mates' mated =
        record {
          net = refl;
          matching = into.matching;
          mated = mated;
          arc = next_arc.arc;
          from = next_arc.from;
          column = column_of old j;
          at = next_arc.to;
          to = inl (column_settled, (j, was_pair, refl));
          free = λ h. elim (end_was (column_of s) into (column_of s j) h) [
            | inl m ↦ column_out s j (column_of s j) turning.matching pair refl m
            | inr e ↦ free_at (j, pair, sym e)
          ];
          rows = (λ v h. row_now v (turning.rows.0 v h), λ v h. turning.rows.1 v (row_was v h));
          columns = λ v h n. elim (cases_eq v turning.column) [
            | inl e ↦ (k, into.here, turning.at ∙ sym e)
            | inr m ↦ end_kept (column_of s) into v (end_left (column_of s) out v (turning.columns v h m) n)
          ];
          others = λ v h. elim (end_was (column_of s) into v h) [
            | inl m ↦ turning.others v (end_out (column_of s) out v m)
            | inr e ↦ column_was v e
          ];
          earlier = λ i p l.
              let less = falls in
              into.kept i (out.kept i (turning.earlier i p (omega (arith, less, l))) (λ e. (let at = ap (λ x. place order (row_of old x)) e in omega (arith, less, l, at))));
          tight = λ source' z' forest' end'.
              let was = turning.tight source' z' forest' end' in (
                (forest'.predecessors (column_of old j) column_j column_settled).tight,
                λ i p. elim (into.was i p) [
                  | inl e ↦ subst (λ x. reduced old z' x ≡ pos 0) (sym e) was.0
                  | inr m ↦ was.1 i (out.was i m).0
                ],
              );
          changed = changed_more old (mid.amounts) q t k false out.matching.flow turning.arc (turning.from, k_to)
              (changed_more old amounts q t j true turning.matching.flow pair.arc (row_settled, inl column_settled) turning.changed);
          path = next_path;
        }

  -- ---- the row is not matched: it is the source

  module _ (single : ¬ IsMatchedRow s (row_of s k)) where
    last : IsPaired s (joined s k) k
    last = paired_ok s k turning.matching turning.arc single free_at

    is_source : (source' : ℕ) (z' : List ℤ) → IsForest old q source' order z' → row_of old k ≡ source'
    is_source source' z' forest' =
        elim (forest'.rows (row_of old k) (row_is old k forest.matching turning.arc) turning.from) [
          | inl e ↦ e
          | inr m ↦ absurd (single (turning.rows.0 (row_of old k) m))
        ]

    end_path : IsAugmented old (row_of old k) (joined s k)
    end_path = record {
      walk = rid k false ∷ path.walk;
      column = t;
      leads = (refl, subst (λ v. IsWalk old.net v path.walk t) (sym turning.at) path.leads);
      can = record {
        low = path.can.low;
        room = All-cons (HasRoomFor old (pos 1)) (rid k false) path.walk k_room path.can.room;
        distinct = AllPairs-cons (λ (r q : Rid). r ≢ q) (rid k false) path.walk (distinct_from k false turning.arc refl) path.can.distinct;
      };
      is_column = column_is old target forest.matching end.arc;
      not_matched = path.not_matched;
      turned = ap (λ (x : Pseudoflow). joined x k) path.turned ∙ push_first old path.walk (rid k false) (pos 1) (apart_from k turning.arc refl);
    }

    end_at : (source' : ℕ) (z' : List ℤ) → IsForest old q source' order z' → IsTightArc old q z' target t → IsExtended old (joined s k) z' source' t
    end_at source' z' forest' end' =
        let was = turning.tight source' z' forest' end' in
        subst (λ r. IsExtended old (joined s k) z' r t) (is_source source' z' forest') (record {
          net = refl;
          path = end_path;
          matching = last.matching;
          tight = λ i p. elim (last.was i p) [
            | inl e ↦ subst (λ x. reduced old z' x ≡ pos 0) (sym e) was.0
            | inr m ↦ was.1 i m
          ];
          rows = λ v h. elim (end_was (row_of s) last v h) [
            | inl m ↦ inl (turning.rows.1 v m)
            | inr e ↦ inr (sym e)
          ];
          rows_kept = λ v h. end_kept (row_of s) last v (turning.rows.0 v h);
          row_matched = (k, last.here, refl);
          columns_kept = λ v h. elim (cases_eq v turning.column) [
            | inl e ↦ (k, last.here, turning.at ∙ sym e)
            | inr n ↦ end_kept (column_of s) last v (turning.columns v h n)
          ];
          columns = λ v h. elim (end_was (column_of s) last v h) [
            | inl m ↦ turning.others v m
            | inr e ↦ column_was v e
          ];
        })

  can_turn : CanTurn old s q order target k
  can_turn =
      record {
        free = free_at;
        next = λ j pair from mates' mated. (next_at j pair from mates' mated, (falls j pair from).0);
        end = λ single source' z' forest' end'. end_at single source' z' forest' end';
        changed = λ single. changed_more old amounts q t k false turning.matching.flow turning.arc (turning.from, k_to) turning.changed;
      }

-- the same of a state whose net is known to be the same
pub turns : {old s : Pseudoflow} {mates : List Mate} {q : Search} {order : List ℕ} {target k source : ℕ} {z : List ℤ} → IsForest old q source order z
    → IsTightArc old q z target (column_of old target) → IsTurning old s mates q order target k → CanTurn old s q order target k
turns {old} {s} {mates} {q} {order} {target} {k} {source} {z} forest end turning =
    let P : Network → Type 0 = λ n. IsTurning old (record { net = n; amounts = s.amounts }) mates q order target k
    → CanTurn old (record { net = n; amounts = s.amounts }) q order target k in
    subst P (sym turning.net) (λ x. can_turn forest end x) turning

-- the mate of the row of arc k, as it is read
module _ {old s : Pseudoflow} {mates : List Mate} {q : Search} {order : List ℕ} {target k : ℕ} {m : Mate} (turning : IsTurning old s mates q order target k)
    (read : m ≡ mate_at mates (row_of s k)) where
  turning_arc : IsArcNumber s.net k
  turning_arc = subst (λ (g : Network). IsArcNumber g k) (sym turning.net) turning.arc

  pub turning_single : m.arc ≡ 0 → ¬ IsMatchedRow s (row_of s k)
  turning_single none (i, p, e) = mate_none s mates turning.mated (row_of s k) (ap (λ (n : Mate). n.arc) (sym read) ∙ none) (i, p, inl e)

  pub turning_pair : m.arc ≢ 0 → IsPair s m.arc × (row_of s m.arc ≡ row_of s k) × (column_of s m.arc ≡ m.node)
  turning_pair some =
      let there : 0 < (mate_at mates (row_of s k)).arc = (let same = ap (λ (n : Mate). n.arc) read in omega (arith, some, same)) in
      subst (λ (n : Mate). IsPair s n.arc × (row_of s n.arc ≡ row_of s k) × (column_of s n.arc ≡ n.node)) (sym read)
      (row_mate s mates turning.mated (row_of s k) turning.matching (row_is s k turning.matching turning_arc) there)

  pub turning_node : m.arc ≢ 0 → IsNode (node_count old.net) m.node
  turning_node some =
      let (pair, from, to) = turning_pair some in
      subst (λ (g : Network). IsNode (node_count g) m.node) turning.net (subst (λ v. IsNode (node_count s.net) v) to (column_is s m.arc turning.matching pair.arc).0)

  -- its pair was exchanged for arc k
  pub turning_round : {source : ℕ} {z : List ℤ} {s' s'' : Pseudoflow} {mates' : List Mate} (j x d : ℕ) → IsForest old q source order z
      → IsTightArc old q z target (column_of old target) → HasEntries (node_count old.net) q → m.arc ≢ 0 → j ≡ m.arc → s' ≡ parted s j → s'' ≡ joined s' k
      → AreMates s'' mates' → x ≡ get_or q.predecessors (m.node - 1) d
      → IsTurning old s'' mates' q order target x × (place order (row_of s'' x) < place order (row_of s k))
  turning_round {mates' = mates'} j x d forest end entries some ej e e' mated at =
      let (pair, from, to) = turning_pair some in
      let node = turning_node some in
      let count = entries.predecessor_count in
      let predecessor : x ≡ predecessor_at q (column_of s m.arc) = at ∙ get_or_default q.predecessors (m.node - 1) d 0 (omega (arith, node, count)) ∙ ap (predecessor_at q) (sym to) in
      let same = e' ∙ ap (λ (t : Pseudoflow). joined t k) (e ∙ ap (parted s) ej) in
      subst (λ (t : Pseudoflow). IsTurning old t mates' q order target x × (place order (row_of t x) < place order (row_of s k))) (sym same)
      (subst (λ v. IsTurning old (joined (parted s m.arc) k) mates' q order target v × (place order (row_of s v) < place order (row_of s k))) (sym predecessor)
      ((turns forest end turning).next m.arc pair from mates' (subst (λ (t : Pseudoflow). AreMates t mates') same mated)))
