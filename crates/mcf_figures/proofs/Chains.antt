-- A unit sent along a chain of loose routes: a chain that meets no place twice, and the plan after
-- it.
use Rattle.std.proofs.Common.{◌≡◌, ◌≢◌, ℕ, ◌-◌, ◌<◌, ◌≤◌, eqb, Bool, true, false, not, List, [], ◌∷◌, ◌++◌, length, set, get_or, refl, ap, sym, ◌∙◌, subst, arith, ℤ, pos, ◌+ℤ◌, ◌-ℤ◌, if◌then◌else◌, inl, inr}
use Rattle.std.specs.Prelude.{◌⊎◌}
use Rattle.std.specs.List.{All, AllZip}
use Rattle.std.proofs.lemmas.Int.{ints}
use Rattle.std.proofs.lemmas.Bool.{cases_eq}
use Rattle.std.proofs.lemmas.List.{get_or-set_other}
use Rattle.std.proofs.lemmas.List.Elements.{All-append, All-cons, All-head, All-tail}
use Rattle.mcf_flows.specs.Network.{when}
use Rattle.mcf_flows.proofs.AllZips.{AllZip-set, length-AllZip}
use Rattle.mcf_model.specs.Model.{MayCarry, Model, Route, arriving, leaving, plan_sum}
use Rattle.mcf_model.specs.Prices.{reduced_route_cost}
use Rattle.mcf_model.specs.Tables.{no_route, route_at}
use Rattle.mcf_figures.specs.Figures.{AreJoined, IsChain, IsLoose, IsLooseLink, Link, amount_at, link_from, link_to}
use Rattle.mcf_figures.proofs.PlanSums.{plan_sum-set}
use Rattle.mcf_figures.proofs.Wider.{moved}

module _ (m : Model) (Q : Link → Type 0) where
  -- a chain from v that never comes to u
  abbrev pub Avoids : ℕ → ℕ → List Link → Type 0
  Avoids u v [] = v ≢ u
  Avoids u v (l ∷ rest) = (v ≢ u) × Avoids u (link_to m l) rest

  -- a chain that comes to no place twice
  abbrev pub IsSimple : ℕ → List Link → ℕ → Type 0
  IsSimple u [] w = u ≡ w
  IsSimple u (l ∷ rest) w = (link_from m l ≡ u) × Avoids u (link_to m l) rest × IsSimple (link_to m l) rest w

  pub record SimpleChain (u w : ℕ) : Type 0 where
    pub links : List Link
    pub each : All Q links
    pub simple : IsSimple u links w

  -- a simple chain avoids a place, or there is one from there
  avoids_or : (u v w : ℕ) (links : List Link) → All Q links → IsSimple v links w → Avoids u v links ⊎ SimpleChain u w
  avoids_or u v w [] each simple =
      elim (cases_eq v u) [
        | inl e ↦ inr (record { links = []; each = each; simple = sym e ∙ simple })
        | inr n ↦ inl n
      ]
  avoids_or u v w (l ∷ rest) each simple =
      elim (cases_eq v u) [
        | inl e ↦ inr (record { links = l ∷ rest; each = each; simple = subst (λ x. IsSimple x (l ∷ rest) w) e simple })
        | inr n ↦ elim (avoids_or u (link_to m l) w rest (All-tail Q l rest each) simple.2) [
          | inl avoids ↦ inl (n, avoids)
          | inr found ↦ inr found
        ]
      ]

  -- each chain has a simple one between its ends
  pub made_simple : (u w : ℕ) (links : List Link) → All Q links → IsChain m u links w → SimpleChain u w
  made_simple u w [] each chain = record { links = []; each = each; simple = chain }
  made_simple u w (l ∷ rest) each chain =
      let later = made_simple (link_to m l) w rest (All-tail Q l rest each) chain.1 in
      elim (avoids_or u (link_to m l) w later.links later.each later.simple) [
        | inr found ↦ found
        | inl avoids ↦ record {
          links = l ∷ later.links;
          each = All-cons Q l later.links (All-head Q l rest each) later.each;
          simple = (chain.0, avoids, later.simple);
        }
      ]

  -- no link of a simple chain that avoids a place begins or ends there
  abbrev IsApart : ℕ → Link → Type 0
  IsApart u q = (link_from m q ≢ u) × (link_to m q ≢ u)

  all_apart : (u v w : ℕ) (links : List Link) → IsSimple v links w → Avoids u v links → All (IsApart u) links
  all_apart u v w [] simple avoids = λ i d k. absurd (omega arith)
  all_apart u v w (q ∷ rest) simple avoids =
      let rest_apart = all_apart u (link_to m q) w rest simple.2 avoids.1 in
      All-cons (IsApart u) q rest
      (λ e. avoids.0 (sym simple.0 ∙ e), head_apart (link_to m q) rest avoids.1) rest_apart
    where
      head_apart : (x : ℕ) (rest : List Link) → Avoids u x rest → x ≢ u
      head_apart x [] h = h
      head_apart x (l ∷ rest) h = h.0

  -- two links of one route share their ends
  same_ends : (l q : Link) (u : ℕ) → q.route ≡ l.route → link_from m l ≡ u → (link_from m q ≡ u) ⊎ (link_to m q ≡ u)
  same_ends l q u e from = go l.back q.back from
    where
      go : (b c : Bool) → (if b then (route_at m l.route).head else (route_at m l.route).tail) ≡ u
          → ((if c then (route_at m q.route).head else (route_at m q.route).tail) ≡ u) ⊎ ((if c then (route_at m q.route).tail else (route_at m q.route).head) ≡ u)
      go true true f = inl (ap (λ k. (route_at m k).head) e ∙ f)
      go true false f = inr (ap (λ k. (route_at m k).head) e ∙ f)
      go false true f = inr (ap (λ k. (route_at m k).tail) e ∙ f)
      go false false f = inl (ap (λ k. (route_at m k).tail) e ∙ f)

  -- the first route of a simple chain comes once
  pub once : (l : Link) (u w : ℕ) (rest : List Link) → IsSimple u (l ∷ rest) w → All (λ (q : Link). q.route ≢ l.route) rest
  once l u w rest simple = λ i d k.
      let apart = all_apart u (link_to m l) w rest simple.2 simple.1 i d k in
      λ e. elim (same_ends l (get_or rest i d) u e simple.0) [ inl f ↦ apart.0 f | inr f ↦ apart.1 f ]

-- ---- chains put together, and turned

abbrev turned : Link → Link
turned l = record { route = l.route; back = not l.back }

turned_ends : (m : Model) (l : Link) → (link_from m (turned l) ≡ link_to m l) × (link_to m (turned l) ≡ link_from m l)
turned_ends m l = go l.back
  where
    go : (b : Bool) → ((if not b then (route_at m l.route).head else (route_at m l.route).tail) ≡ (if b then (route_at m l.route).tail else (route_at m l.route).head))
        × ((if not b then (route_at m l.route).tail else (route_at m l.route).head) ≡ (if b then (route_at m l.route).head else (route_at m l.route).tail))
    go true = (refl, refl)
    go false = (refl, refl)

chain_append : (m : Model) (u v w : ℕ) (xs ys : List Link) → IsChain m u xs v → IsChain m v ys w → IsChain m u (xs ++ ys) w
chain_append m u v w [] ys h k = subst (λ x. IsChain m x ys w) (sym h) k
chain_append m u v w (l ∷ rest) ys h k = (h.0, chain_append m (link_to m l) v w rest ys h.1 k)

module _ (prices : List ℤ) (m : Model) (plan : List ℤ) where
  pub joined_same : (u : ℕ) → AreJoined prices m plan u u
  joined_same u = record { links = []; loose = λ i d k. absurd (omega arith); chain = refl }

  pub joined_on : (u v w : ℕ) → AreJoined prices m plan u v → AreJoined prices m plan v w → AreJoined prices m plan u w
  joined_on u v w h k =
      record {
        links = h.links ++ k.links;
        loose = All-append (IsLooseLink prices m plan) h.links k.links h.loose k.loose;
        chain = chain_append m u v w h.links k.links h.chain k.chain;
      }

  pub joined_back : (u w : ℕ) → AreJoined prices m plan u w → AreJoined prices m plan w u
  joined_back u w h = go u h.links h.loose h.chain
    where
      go : (u : ℕ) (links : List Link) → All (IsLooseLink prices m plan) links → IsChain m u links w → AreJoined prices m plan w u
      go u [] loose chain = record { links = []; loose = loose; chain = sym chain }
      go u (l ∷ rest) loose chain =
          let first = All-head (IsLooseLink prices m plan) l rest loose in
          let ends = turned_ends m l in
          joined_on w (link_to m l) u (go (link_to m l) rest (All-tail (IsLooseLink prices m plan) l rest loose) chain.1)
          (record {
            links = turned l ∷ [];
            loose = All-cons (IsLooseLink prices m plan) (turned l) [] (record { is_route = first.is_route; loose = first.loose }) (λ i d k. absurd (omega arith));
            chain = (ends.0, ends.1 ∙ chain.0);
          })

-- ---- the plan after one unit more along a chain

-- the plan with one unit more on a link
pub record IsSent (prices : List ℤ) (m : Model) (plan : List ℤ) (links : List Link) (u w : ℕ) (new : List ℤ) : Type 0 where
  pub may : AllZip MayCarry m.routes new
  pub same_cost : plan_sum (reduced_route_cost prices) m.routes new ≡ plan_sum (reduced_route_cost prices) m.routes plan
  pub moves : (v : ℕ) → leaving m.routes new v -ℤ arriving m.routes new v
      ≡ leaving m.routes plan v -ℤ arriving m.routes plan v +ℤ when (eqb u v) (pos 1) -ℤ when (eqb w v) (pos 1)
  pub others : (k : ℕ) → 1 ≤ k → All (λ (q : Link). q.route ≢ k) links → amount_at new k ≡ amount_at plan k

when_more : (t : Bool) (x y : ℤ) → x ≡ y +ℤ pos 1 → when t x ≡ when t y +ℤ when t (pos 1)
when_more true x y e = e
when_more false x y e = refl

when_less : (t : Bool) (x y : ℤ) → x ≡ y -ℤ pos 1 → when t x ≡ when t y -ℤ when t (pos 1)
when_less true x y e = e
when_less false x y e = refl

-- one unit more on route k, or one back: what its ends see
pub one_moved : (routes : List Route) (plan : List ℤ) (i : ℕ) (back : Bool) (v : ℕ) → i < length routes → i < length plan
    → leaving routes (set plan i (moved back (get_or plan i (pos 0)))) v -ℤ arriving routes (set plan i (moved back (get_or plan i (pos 0)))) v
    ≡ leaving routes plan v -ℤ arriving routes plan v
    +ℤ when (eqb (if back then (get_or routes i no_route).head else (get_or routes i no_route).tail) v) (pos 1)
    -ℤ when (eqb (if back then (get_or routes i no_route).tail else (get_or routes i no_route).head) v) (pos 1)
one_moved routes plan i true v h k =
    let x = get_or plan i (pos 0) in
    let out = plan_sum-set (λ r y. when (eqb r.tail v) y) routes plan i (x -ℤ pos 1) h k in
    let into = plan_sum-set (λ r y. when (eqb r.head v) y) routes plan i (x -ℤ pos 1) h k in
    omega (arith, ints, out, into, when_less (eqb (get_or routes i no_route).tail v) (x -ℤ pos 1) x refl, when_less (eqb (get_or routes i no_route).head v) (x -ℤ pos 1) x refl)
one_moved routes plan i false v h k =
    let x = get_or plan i (pos 0) in
    let out = plan_sum-set (λ r y. when (eqb r.tail v) y) routes plan i (x +ℤ pos 1) h k in
    let into = plan_sum-set (λ r y. when (eqb r.head v) y) routes plan i (x +ℤ pos 1) h k in
    omega (arith, ints, out, into, when_more (eqb (get_or routes i no_route).tail v) (x +ℤ pos 1) x refl, when_more (eqb (get_or routes i no_route).head v) (x +ℤ pos 1) x refl)

pub loose_moves : (prices : List ℤ) (r : Route) (x : ℤ) (back : Bool) → IsLoose prices r x
    → MayCarry r (moved back x) × (reduced_route_cost prices r (moved back x) ≡ reduced_route_cost prices r x)
loose_moves prices r x true loose = (loose.may_less, loose.less_is)
loose_moves prices r x false loose = (loose.may_more, loose.more_is)

module _ (prices : List ℤ) (m : Model) (plan : List ℤ) (may : AllZip MayCarry m.routes plan) where
  abbrev L : Link → Type 0
  L = IsLooseLink prices m plan

  pub sent : (u w : ℕ) (links : List Link) → All L links → IsSimple m L u links w → (new : List ℤ) × IsSent prices m plan links u w new
  sent u w [] each simple = (
    plan,
    record {
      may = may;
      same_cost = refl;
      moves = λ v. let e = ap (λ k. when (eqb k v) (pos 1)) simple in omega (arith, ints, e);
      others = λ k h all. refl;
    },
  )
  sent u w (l ∷ rest) each simple =
      let later = sent (link_to m l) w rest (All-tail L l rest each) simple.2 in
      let old = later.0 in
      let s = later.1 in
      let here = All-head L l rest each in
      let i = l.route - 1 in
      let inside : i < length m.routes = omega (arith, here.is_route.0, here.is_route.1) in
      let within : i < length old = omega (arith, inside, length-AllZip MayCarry m.routes old s.may) in
      let x = amount_at old l.route in
      let kept : x ≡ amount_at plan l.route = s.others l.route here.is_route.0 (once m L l u w rest simple) in
      let loose = subst (IsLoose prices (route_at m l.route)) (sym kept) here.loose in
      let moves = loose_moves prices (route_at m l.route) x l.back loose in
      let new = set old i (moved l.back x) in (
        new,
        record {
          may = AllZip-set MayCarry m.routes old i no_route (moved l.back x) inside s.may moves.0;
          same_cost = omega (arith, ints, plan_sum-set (reduced_route_cost prices) m.routes old i (moved l.back x) inside within, moves.1, s.same_cost);
          moves = λ v.
              let first = one_moved m.routes old i l.back v inside within in
              let from = ap (λ k. when (eqb k v) (pos 1)) simple.0 in
              omega (arith, ints, first, from, s.moves v);
          others = λ k h all.
              let apart : (k - 1) ≢ i = λ e. All-head (λ (q : Link). q.route ≢ k) l rest all (omega (arith, ints, e, h, here.is_route.0)) in
              get_or-set_other old i (k - 1) (moved l.back x) (pos 0) apart
              ∙ s.others k h (All-tail (λ (q : Link). q.route ≢ k) l rest all);
        },
      )
