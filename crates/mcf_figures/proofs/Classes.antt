-- The classes that loose routes join are the groups of places.
use Rattle.std.proofs.Common.{◌≡◌, ℕ, suc, ◌-◌, ◌<◌, min, max, Bool, true, false, if◌then◌else◌, List, [], ◌∷◌, length, get_or, refl, ap, sym, ◌∙◌, subst, arith, inl, inr, ℤ, pos}
use Rattle.std.specs.Prelude.{◌⊎◌, ◌↔◌, ◌||◌, Decides, IsTrue, ◌==◌}
use Rattle.std.specs.Cmp.{signed_Decides}
use Rattle.std.specs.List.{All, range_with_len}
use Rattle.std.specs.Ordering.{int_eq}
use Rattle.std.proofs.lemmas.Bool.{cases_eq, eq-eqb, eqb-true, false≢true}
use Rattle.std.proofs.lemmas.List.{get_or-map}
use Rattle.std.proofs.lemmas.List.Elements.{All-cons, All-head, All-tail}
use Rattle.std.proofs.lemmas.List.FromFn.{get_or-range_with_len, length-range_with_len}
use Rattle.mcf_flows.specs.Network.{IsNode}
use Rattle.mcf_model.specs.Model.{IsSound, Model, Route}
use Rattle.mcf_model.specs.Tables.{IsRouteNumber, no_route, route_at}
use Rattle.mcf_figures.specs.Figures.{AreJoined, IsChain, IsExact, IsLoose, IsLooseLink, Link, link_to, saving}
use Rattle.mcf_figures.specs.Groups.{AreGroups, AreInOrder, entry, group_at, groups_by, is_exact_by, lowest, merged, merged_if, numbers_by, relabelled}
use Rattle.mcf_figures.specs.Rows.{row_told}
use Rattle.mcf_figures.specs.Private.Forests.{AreAlike, AreClasses, IsForest}
use Rattle.mcf_figures.proofs.Chains.{joined_back, joined_on, joined_same}
use Rattle.mcf_figures.proofs.LooseTests.{loose_passes, tight_fails}
use Rattle.mcf_figures.proofs.Forests.{merged_ends, own_forest, same_merged}

module _ (prices : List ℤ) (m : Model) (plan : List ℤ) where
  abbrev Joined : ℕ → ℕ → Type 0
  Joined u w = AreJoined prices m plan u w

  abbrev route : ℕ → Route
  route k = get_or m.routes k no_route

  abbrev Loose : ℕ → Type 0
  Loose k = IsLoose prices (route k) (get_or plan k (pos 0))

  -- each place is a class of its own, before any route is looked at
  pub no_classes : (parents : List ℕ) → parents ≡ range_with_len 0 (length m.supplies) → AreClasses prices m plan 0 parents
  no_classes parents e = subst (AreClasses prices m plan 0) (sym e) (record {
    labels = range_with_len 0 n;
    by_place = length-range_with_len 0 n;
    labels_are = refl;
    forest = own_forest n;
    sound = λ u w hu hw same.
        let one : u ≡ w = omega (arith, get_or-range_with_len 0 n u 0 hu, get_or-range_with_len 0 n w 0 hw, same) in
        subst (λ x. Joined (suc u) (suc x)) one (joined_same prices m plan (suc u));
    complete = λ k h loose. absurd (omega (arith, h));
  })
    where
      n : ℕ
      n = length m.supplies

  -- a route that isn't loose joins nothing
  pub classes_kept : (k : ℕ) (parents : List ℕ) → AreClasses prices m plan k parents → ¬ Loose k → AreClasses prices m plan (suc k) parents
  classes_kept k parents c tight =
      record {
        labels = c.labels;
        by_place = c.by_place;
        labels_are = c.labels_are
            ∙ sym (ap (λ b. merged_if b (lowest prices m plan k) (route k).tail (route k).head) (tight_fails prices (route k) (get_or plan k (pos 0)) tight));
        forest = c.forest;
        sound = c.sound;
        complete = λ i h loose.
            elim (cases_eq i k) [
              | inl e ↦ absurd (tight (subst Loose e loose))
              | inr n ↦ c.complete i (omega (arith, n, h)) loose
            ];
      }

  -- a loose route joins its ends
  one_link : (k : ℕ) → k < length m.routes → Loose k → Joined (route k).tail (route k).head
  one_link k h loose =
      let back : suc k - 1 ≡ k = omega arith in
      let l : Link = record { route = suc k; back = false } in
      let here : IsLooseLink prices m plan l = record {
        is_route = (omega arith, omega (arith, h));
        loose = subst Loose (sym back) loose;
      } in
      record {
        links = l ∷ [];
        loose = All-cons (IsLooseLink prices m plan) l [] here (λ i d g. absurd (omega (arith, g)));
        chain = (ap (λ i. (route i).tail) back, ap (λ i. (route i).head) back);
      }

  pub classes_joined : (k : ℕ) (parents after : List ℕ) → IsSound m → k < length m.routes → (c : AreClasses prices m plan k parents) → Loose k
      → length after ≡ length parents
      → IsForest after (merged c.labels (entry c.labels ((route k).tail - 1)) (entry c.labels ((route k).head - 1)))
      → AreClasses prices m plan (suc k) after
  classes_joined k parents after proper hk c loose long forest =
      let t = (route k).tail in
      let h = (route k).head in
      let a = entry c.labels (t - 1) in
      let b = entry c.labels (h - 1) in
      let r = relabelled (max a b) (min a b) in
      let sound = proper k no_route hk in
      let at : (v : ℕ) → v < length m.supplies → entry (merged c.labels a b) v ≡ r (entry c.labels v) =
      λ v hv. get_or-map r c.labels v 0 0 (omega (arith, hv, c.by_place, c.forest.as_long)) in
      let place_of : (v : ℕ) → IsNode (length m.supplies) v → v - 1 < length m.supplies = λ v hv. omega (arith, hv.0, hv.1) in
      let ht = place_of t sound.tail_is_place in
      let hh = place_of h sound.head_is_place in
      let named : (v : ℕ) → IsNode (length m.supplies) v → suc (v - 1) ≡ v = λ v hv. omega (arith, hv.0) in
      let link : Joined (suc (t - 1)) (suc (h - 1)) =
      subst (λ x. Joined x (suc (h - 1))) (sym (named t sound.tail_is_place)) (subst (λ x. Joined t x) (sym (named h sound.head_is_place)) (one_link k hk loose)) in
      record {
        labels = merged c.labels a b;
        by_place = long ∙ c.by_place;
        labels_are = ap (λ ls. merged_if true ls t h) c.labels_are
            ∙ sym (ap (λ b. merged_if b (lowest prices m plan k) t h) (loose_passes prices (route k) (get_or plan k (pos 0)) loose));
        forest = forest;
        sound = λ u w hu hw same.
            elim (same_merged a b (entry c.labels u) (entry c.labels w) (sym (at u hu) ∙ same ∙ at w hw)) [
              | inl one ↦ c.sound u w hu hw one
              | inr two ↦
                  elim two [
                    | inl p ↦
                        joined_on prices m plan (suc u) (suc (t - 1)) (suc w) (c.sound u (t - 1) hu ht p.0)
                        (joined_on prices m plan (suc (t - 1)) (suc (h - 1)) (suc w) link (c.sound (h - 1) w hh hw (sym p.1)))
                    | inr p ↦
                        joined_on prices m plan (suc u) (suc (h - 1)) (suc w) (c.sound u (h - 1) hu hh p.0)
                        (joined_on prices m plan (suc (h - 1)) (suc (t - 1)) (suc w) (joined_back prices m plan (suc (t - 1)) (suc (h - 1)) link)
                        (c.sound (t - 1) w ht hw (sym p.1)))
                  ]
            ];
        complete = λ i hi free.
            elim (cases_eq i k) [
              | inl e ↦
                  subst (λ j. entry (merged c.labels a b) ((route j).tail - 1) ≡ entry (merged c.labels a b) ((route j).head - 1)) (sym e)
                  (at (t - 1) ht ∙ merged_ends a b ∙ sym (at (h - 1) hh))
              | inr n ↦
                  let before : i < k = omega (arith, n, hi) in
                  let its = proper i no_route (omega (arith, before, hk)) in
                  at ((route i).tail - 1) (place_of (route i).tail its.tail_is_place) ∙ ap r (c.complete i before free)
                  ∙ sym (at ((route i).head - 1) (place_of (route i).head its.head_is_place))
            ];
      }

  -- the same, with the ends as a row has them
  pub by_row : (k : ℕ) (parents after : List ℕ) → IsSound m → k < length m.routes → (c : AreClasses prices m plan k parents) → Loose k → (t h : ℕ)
      → t ≡ (route k).tail → h ≡ (route k).head → length after ≡ length parents
      → IsForest after (merged c.labels (entry c.labels (t - 1)) (entry c.labels (h - 1))) → AreClasses prices m plan (suc k) after
  by_row k parents after proper hk c loose t h et eh long forest =
      classes_joined k parents after proper hk c loose long
      (subst (λ x. IsForest after (merged c.labels (entry c.labels ((route k).tail - 1)) (entry c.labels (x - 1)))) eh
      (subst (λ x. IsForest after (merged c.labels (entry c.labels (x - 1)) (entry c.labels (h - 1)))) et forest))

  -- ---- all routes

  chain_same : (labels : List ℕ)
      → ((k : ℕ) → k < length m.routes → Loose k → entry labels ((route k).tail - 1) ≡ entry labels ((route k).head - 1))
      → (u w : ℕ) (links : List Link) → All (IsLooseLink prices m plan) links → IsChain m u links w → entry labels (u - 1) ≡ entry labels (w - 1)
  chain_same labels complete u w [] loose chain = ap (λ x. entry labels (x - 1)) chain
  chain_same labels complete u w (l ∷ rest) loose chain =
      let here = All-head (IsLooseLink prices m plan) l rest loose in
      let same = complete (l.route - 1) (omega (arith, here.is_route.0, here.is_route.1)) here.loose in
      ap (λ x. entry labels (x - 1)) (sym chain.0) ∙ ends l.back same
      ∙ chain_same labels complete (link_to m l) w rest (All-tail (IsLooseLink prices m plan) l rest loose) chain.1
    where
      ends : (back : Bool) → entry labels ((route (l.route - 1)).tail - 1) ≡ entry labels ((route (l.route - 1)).head - 1)
          → entry labels ((if back then (route (l.route - 1)).head else (route (l.route - 1)).tail) - 1)
          ≡ entry labels ((if back then (route (l.route - 1)).tail else (route (l.route - 1)).head) - 1)
      ends true same = sym same
      ends false same = same

  pub are_groups : (parents groups : List ℕ) → AreClasses prices m plan (length m.routes) parents → length groups ≡ length parents
      → ((labels : List ℕ) → IsForest parents labels → AreAlike labels groups (length parents)) → AreInOrder 0 groups → AreGroups prices m plan groups
  are_groups parents groups c long alike ordered =
      record {
        by_place = long ∙ c.by_place;
        same_where_joined = λ u w hu hw.
            let pu : u - 1 < length m.supplies = omega (arith, hu.0, hu.1) in
            let pw : w - 1 < length m.supplies = omega (arith, hw.0, hw.1) in
            let nu : suc (u - 1) ≡ u = omega (arith, hu.0) in
            let nw : suc (w - 1) ≡ w = omega (arith, hw.0) in
            let iff = alike c.labels c.forest (u - 1) (w - 1) (omega (arith, pu, c.by_place)) (omega (arith, pw, c.by_place)) in (
              λ e. subst (λ x. Joined x w) nu (subst (λ x. Joined (suc (u - 1)) x) nw (c.sound (u - 1) (w - 1) pu pw (iff.0 e))),
              λ joined. iff.1 (chain_same c.labels c.complete u w joined.links joined.loose joined.chain),
            );
        in_order = ordered;
      }

  -- the numbers of these classes are those of the groups
  pub groups_are : (parents groups : List ℕ) → AreClasses prices m plan (length m.routes) parents
      → ((labels : List ℕ) → IsForest parents labels → groups ≡ numbers_by labels) → groups ≡ groups_by prices m plan
  groups_are parents groups c numbers = numbers c.labels c.forest ∙ ap numbers_by c.labels_are

-- ---- exact savings

either : (p q : Bool) {A B : Type 0} → Decides p A → Decides q B → IsTrue (p || q) ↔ (A ⊎ B)
either true q a b = (λ e. inl (a.0 refl), λ h. refl)
either false q a b = (λ e. inr (b.0 e), λ h. elim h [ inl x ↦ absurd (false≢true (a.1 x)) | inr y ↦ b.1 y ])

pub exact_iff : (m : Model) (prices plan : List ℤ) (groups : List ℕ) (place : ℕ) (saves : ℤ) → IsSound m → place < length m.routes
    → AreGroups prices m plan groups → saves ≡ saving prices (get_or m.routes place no_route)
    → (IsTrue (is_exact_by m groups place saves) ↔ IsExact prices m plan (suc place))
exact_iff m prices plan groups place saves sound h g e =
    let back : suc place - 1 ≡ place = omega arith in
    let r = get_or m.routes place no_route in
    let here = sound place no_route h in
    let iff = g.same_where_joined r.tail r.head here.tail_is_place here.head_is_place in
    let test = either (int_eq saves (pos 0)) (group_at groups r.tail == group_at groups r.head) (signed_Decides saves (pos 0)) (same (group_at groups r.tail) (group_at groups r.head)) in
    subst (λ i. IsTrue (is_exact_by m groups place saves) ↔ ((saving prices (get_or m.routes i no_route) ≡ pos 0) ⊎ AreJoined prices m plan (get_or m.routes i no_route).tail (get_or m.routes i no_route).head)) (sym back) (
      λ yes. elim (test.0 yes) [ inl none ↦ inl (sym e ∙ none) | inr one ↦ inr (iff.0 one) ],
      λ exact. elim exact [ inl none ↦ test.1 (inl (e ∙ none)) | inr joined ↦ test.1 (inr (iff.1 joined)) ],
    )
  where
    same : (a b : ℕ) → Decides (a == b) (a ≡ b)
    same a b = (λ e. eqb-true a b e, λ e. eq-eqb a b e)

-- the same of a route's number, which counts from 1
pub exact_at : (m : Model) (prices plan : List ℤ) (groups : List ℕ) (k : ℕ) → IsSound m → IsRouteNumber m k → AreGroups prices m plan groups
    → (IsTrue (row_told m prices plan groups k).exact ↔ IsExact prices m plan k)
exact_at m prices plan groups k sound h g =
    let inside : k - 1 < length m.routes = omega (arith, h.0, h.1) in
    let named : suc (k - 1) ≡ k = omega (arith, h.0) in
    subst (λ j. IsTrue (is_exact_by m groups (k - 1) (saving prices (route_at m k))) ↔ IsExact prices m plan j) named
    (exact_iff m prices plan groups (k - 1) (saving prices (route_at m k)) sound inside g refl)
