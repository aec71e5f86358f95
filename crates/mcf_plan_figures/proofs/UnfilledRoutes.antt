-- Routes of which some have a limit that they don't fill: prices tell the same of the same routes
-- without these limits.
use Rattle.std.proofs.Common.{◌≡◌, ℕ, zero, suc, ◌==◌, ◌-◌, Bool, true, false, ◌&&◌, List, [], ◌∷◌, length, get_or, refl, ap, sym, ◌∙◌, subst, arith, ℤ, pos, ◌+ℤ◌, ◌-ℤ◌, ◌≤ℤ◌, ◌<ℤ◌, inl, inr}
use Rattle.std.specs.Prelude.{◌⊎◌, ◌↔◌, if◌then◌else◌, int_le, Some, None}
use Rattle.std.specs.List.{AllZip}
use Rattle.std.proofs.Math.IntN.{◌*ℤ◌}
use Rattle.std.proofs.lemmas.Int.{by_lt_z, clamps, ints}
use Rattle.mcf_flows.specs.Network.{at_node, when}
use Rattle.mcf_flows.proofs.IntLaws.{at_most_passes, mul-anti_lt, mul-mono, sub-mul}
use Rattle.mcf_model.specs.Model.{MayCarry, Model, Route, arriving, leaving}
use Rattle.mcf_model.specs.Prices.{IsBestAt}
use Rattle.mcf_model.specs.Tables.{IsRouteNumber, no_route, route_at}
use Rattle.mcf_figures.specs.Figures.{AreJoined, IsChain, IsExact, IsLoose, Link, amount_at, costs_the_same, dearer, is_loose, link_from, link_to, saving}
use Rattle.mcf_figures.specs.Groups.{groups_by, lowest, merged_if, numbers_by}
use Rattle.mcf_places.specs.Models.{plain_route}

-- q is r with a limit, and x doesn't fill it
pub record IsUnfilled (q r : Route) (x : ℤ) : Type 0 where
  pub tail : ℕ
  pub head : ℕ
  pub least : ℤ
  pub cost : ℤ
  pub limit : ℤ
  pub with_limit : q ≡ plain_route tail head least (Some limit) cost
  pub without : r ≡ plain_route tail head least None cost
  pub below : x <ℤ limit

-- q is r, or that with a limit
abbrev pub IsEased : Route → Route → ℤ → Type 0
IsEased q r x = (q ≡ r) ⊎ IsUnfilled q r x

pub unfilled : (tail head : ℕ) (least cost limit x : ℤ) → x <ℤ limit
    → IsEased (plain_route tail head least (Some limit) cost) (plain_route tail head least None cost) x
unfilled tail head least cost limit x below =
    inr (record { tail = tail; head = head; least = least; cost = cost; limit = limit; with_limit = refl; without = refl; below = below })

-- what holds of any route, and of those with a limit and without it
by_route : (F : Route → Route → ℤ → Type 0) → ((r : Route) (x : ℤ) → F r r x)
    → ((t h : ℕ) (least cost limit x : ℤ) → x <ℤ limit → F (plain_route t h least (Some limit) cost) (plain_route t h least None cost) x)
    → (q r : Route) (x : ℤ) → IsEased q r x → F q r x
by_route F same unlimited q r x (inl e) = subst (λ s. F q s x) e (same q x)
by_route F same unlimited q r x (inr u) =
    subst (λ s. F s r x) (sym u.with_limit)
    (subst (λ s. F (plain_route u.tail u.head u.least (Some u.limit) u.cost) s x) (sym u.without) (unlimited u.tail u.head u.least u.cost u.limit x u.below))

same_tail : (q r : Route) (x : ℤ) → IsEased q r x → q.tail ≡ r.tail
same_tail q r x e = by_route (λ q r x. q.tail ≡ r.tail) (λ r x. refl) (λ t h least cost limit x below. refl) q r x e

same_head : (q r : Route) (x : ℤ) → IsEased q r x → q.head ≡ r.head
same_head q r x e = by_route (λ q r x. q.head ≡ r.head) (λ r x. refl) (λ t h least cost limit x below. refl) q r x e

module _ (prices : List ℤ) where
  -- ---- one route

  module _ (t h : ℕ) (least cost limit x : ℤ) (below : x <ℤ limit) (best : IsBestAt prices (plain_route t h least (Some limit) cost) x) where
    -- a unit more costs no less than the prices say, since it may be carried
    gain_low : (at_node prices t -ℤ at_node prices h) ≤ℤ cost
    gain_low =
        let d = at_node prices t -ℤ at_node prices h in
        let enough : least ≤ℤ x = best.may_carry.enough in
        let full : (cost *ℤ x -ℤ d *ℤ x) ≤ℤ (cost *ℤ limit -ℤ d *ℤ limit) =
        best.best limit (record { enough = omega (arith, ints, enough, below); fits = omega (arith, ints) }) in
        by_lt_z (cost -ℤ d) (pos 0)
        (λ low. absurd (omega (arith, ints, full, mul-anti_lt (cost -ℤ d) x limit low below, sub-mul cost d x, sub-mul cost d limit)))
        (λ high. omega (arith, ints, high))

    best_open : IsBestAt prices (plain_route t h least None cost) x
    best_open =
        record {
          may_carry = record { enough = best.may_carry.enough; fits = tt };
          best = λ y may. by_lt_z limit y (beyond y may) (λ near. best.best y (record { enough = may.enough; fits = omega (arith, ints, near) }));
        }
      where
        beyond : (y : ℤ) → MayCarry (plain_route t h least None cost) y → limit <ℤ y
            → (cost *ℤ x -ℤ (at_node prices t -ℤ at_node prices h) *ℤ x) ≤ℤ (cost *ℤ y -ℤ (at_node prices t -ℤ at_node prices h) *ℤ y)
        beyond y may past =
            let d = at_node prices t -ℤ at_node prices h in
            omega (
              arith,
              ints,
              mul-mono (cost -ℤ d) x y (omega (arith, ints, gain_low)) (omega (arith, ints, below, past)),
              sub-mul cost d x,
              sub-mul cost d y,
            )

    saves_open : saving prices (plain_route t h least (Some limit) cost) ≡ saving prices (plain_route t h least None cost)
    saves_open = omega (arith, ints, clamps, gain_low)

  same_best : (q r : Route) (x : ℤ) → IsEased q r x → IsBestAt prices q x → IsBestAt prices r x
  same_best q r x e = by_route (λ q r x. IsBestAt prices q x → IsBestAt prices r x) (λ r x h. h) best_open q r x e

  same_saving : (q r : Route) (x : ℤ) → IsEased q r x → IsBestAt prices q x → saving prices q ≡ saving prices r
  same_saving q r x e = by_route (λ q r x. IsBestAt prices q x → saving prices q ≡ saving prices r) (λ r x h. refl) saves_open q r x e

  same_dearer : (q r : Route) (x : ℤ) → IsEased q r x → dearer prices q x ≡ dearer prices r x
  same_dearer q r x e = by_route (λ q r x. dearer prices q x ≡ dearer prices r x) (λ r x. refl) unlimited q r x e
    where
      unlimited : (t h : ℕ) (least cost limit x : ℤ) → x <ℤ limit
          → dearer prices (plain_route t h least (Some limit) cost) x ≡ dearer prices (plain_route t h least None cost) x
      unlimited t h least cost limit x below =
          let more : int_le (x +ℤ pos 1) limit ≡ true = at_most_passes (x +ℤ pos 1) limit (omega (arith, ints, below)) in
          ap (λ b. if b then Some (cost *ℤ (x +ℤ pos 1) -ℤ cost *ℤ x -ℤ (at_node prices t -ℤ at_node prices h)) else None) more

  loose_test : (q r : Route) (x : ℤ) → IsEased q r x → is_loose prices q x ≡ is_loose prices r x
  loose_test q r x e = by_route (λ q r x. is_loose prices q x ≡ is_loose prices r x) (λ r x. refl) unlimited q r x e
    where
      unlimited : (t h : ℕ) (least cost limit x : ℤ) → x <ℤ limit
          → is_loose prices (plain_route t h least (Some limit) cost) x ≡ is_loose prices (plain_route t h least None cost) x
      unlimited t h least cost limit x below =
          let r = plain_route t h least None cost in
          let same = costs_the_same prices r (x +ℤ pos 1) x && costs_the_same prices r (x -ℤ pos 1) x in
          let more : int_le (x +ℤ pos 1) limit ≡ true = at_most_passes (x +ℤ pos 1) limit (omega (arith, ints, below)) in
          let less : int_le (x -ℤ pos 1) limit ≡ true = at_most_passes (x -ℤ pos 1) limit (omega (arith, ints, below)) in
          ap (λ b. ((int_le least (x +ℤ pos 1) && b) && (int_le least (x -ℤ pos 1) && int_le (x -ℤ pos 1) limit)) && same) more
          ∙ ap (λ b. ((int_le least (x +ℤ pos 1) && true) && (int_le least (x -ℤ pos 1) && b)) && same) less

  loose_without : (q r : Route) (x : ℤ) → IsEased q r x → IsLoose prices q x → IsLoose prices r x
  loose_without q r x e = by_route (λ q r x. IsLoose prices q x → IsLoose prices r x) (λ r x k. k) unlimited q r x e
    where
      unlimited : (t h : ℕ) (least cost limit x : ℤ) → x <ℤ limit
          → IsLoose prices (plain_route t h least (Some limit) cost) x → IsLoose prices (plain_route t h least None cost) x
      unlimited t h least cost limit x below k =
          record {
            may_more = record { enough = k.may_more.enough; fits = tt };
            may_less = record { enough = k.may_less.enough; fits = tt };
            more_is = k.more_is;
            less_is = k.less_is;
          }

  loose_with : (q r : Route) (x : ℤ) → IsEased q r x → IsLoose prices r x → IsLoose prices q x
  loose_with q r x e = by_route (λ q r x. IsLoose prices r x → IsLoose prices q x) (λ r x k. k) unlimited q r x e
    where
      unlimited : (t h : ℕ) (least cost limit x : ℤ) → x <ℤ limit
          → IsLoose prices (plain_route t h least None cost) x → IsLoose prices (plain_route t h least (Some limit) cost) x
      unlimited t h least cost limit x below k =
          record {
            may_more = record { enough = k.may_more.enough; fits = omega (arith, ints, below) };
            may_less = record { enough = k.may_less.enough; fits = omega (arith, ints, below) };
            more_is = k.more_is;
            less_is = k.less_is;
          }

-- ---- all routes

-- each route is eased at the amount that it carries
abbrev pub AreEased : List Route → List Route → List ℤ → Type 0
AreEased [] [] [] = Unit {0}
AreEased [] [] (x ∷ xs) = ⊥
AreEased [] (r ∷ rs) xs = ⊥
AreEased (q ∷ qs) [] xs = ⊥
AreEased (q ∷ qs) (r ∷ rs) [] = ⊥
AreEased (q ∷ qs) (r ∷ rs) (x ∷ xs) = IsEased q r x × AreEased qs rs xs

pub eased_none : (rs : List Route) (xs : List ℤ) → length rs ≡ length xs → AreEased rs rs xs
eased_none [] [] e = tt
eased_none [] (x ∷ xs) e = cc e
eased_none (r ∷ rs) [] e = cc e
eased_none (r ∷ rs) (x ∷ xs) e = (inl refl, eased_none rs xs (omega (arith, e)))

pub eased_length : (qs rs : List Route) (xs : List ℤ) → AreEased qs rs xs → length qs ≡ length rs
eased_length [] [] [] h = refl
eased_length [] [] (x ∷ xs) h = absurd h
eased_length [] (r ∷ rs) xs h = absurd h
eased_length (q ∷ qs) [] xs h = absurd h
eased_length (q ∷ qs) (r ∷ rs) [] h = absurd h
eased_length (q ∷ qs) (r ∷ rs) (x ∷ xs) h = omega (arith, eased_length qs rs xs h.1)

eased_at : (qs rs : List Route) (xs : List ℤ) → AreEased qs rs xs → (i : ℕ) → IsEased (get_or qs i no_route) (get_or rs i no_route) (get_or xs i (pos 0))
eased_at [] [] [] h i = inl refl
eased_at [] [] (x ∷ xs) h i = absurd h
eased_at [] (r ∷ rs) xs h i = absurd h
eased_at (q ∷ qs) [] xs h i = absurd h
eased_at (q ∷ qs) (r ∷ rs) [] h i = absurd h
eased_at (q ∷ qs) (r ∷ rs) (x ∷ xs) h zero = h.0
eased_at (q ∷ qs) (r ∷ rs) (x ∷ xs) h (suc i) = eased_at qs rs xs h.1 i

pub leaves_same : (v : ℕ) (qs rs : List Route) (xs : List ℤ) → AreEased qs rs xs → leaving qs xs v ≡ leaving rs xs v
leaves_same v [] [] [] h = refl
leaves_same v [] [] (x ∷ xs) h = absurd h
leaves_same v [] (r ∷ rs) xs h = absurd h
leaves_same v (q ∷ qs) [] xs h = absurd h
leaves_same v (q ∷ qs) (r ∷ rs) [] h = absurd h
leaves_same v (q ∷ qs) (r ∷ rs) (x ∷ xs) h =
    omega (arith, ints, ap (λ t. when (t == v) x) (same_tail q r x h.0), leaves_same v qs rs xs h.1)

pub arrives_same : (v : ℕ) (qs rs : List Route) (xs : List ℤ) → AreEased qs rs xs → arriving qs xs v ≡ arriving rs xs v
arrives_same v [] [] [] h = refl
arrives_same v [] [] (x ∷ xs) h = absurd h
arrives_same v [] (r ∷ rs) xs h = absurd h
arrives_same v (q ∷ qs) [] xs h = absurd h
arrives_same v (q ∷ qs) (r ∷ rs) [] h = absurd h
arrives_same v (q ∷ qs) (r ∷ rs) (x ∷ xs) h =
    omega (arith, ints, ap (λ t. when (t == v) x) (same_head q r x h.0), arrives_same v qs rs xs h.1)

module _ (prices : List ℤ) where
  pub shown_without : (qs rs : List Route) (xs : List ℤ) → AreEased qs rs xs → AllZip (IsBestAt prices) qs xs → AllZip (IsBestAt prices) rs xs
  shown_without [] [] [] h b = tt
  shown_without [] [] (x ∷ xs) h b = absurd h
  shown_without [] (r ∷ rs) xs h b = absurd h
  shown_without (q ∷ qs) [] xs h b = absurd h
  shown_without (q ∷ qs) (r ∷ rs) [] h b = absurd h
  shown_without (q ∷ qs) (r ∷ rs) (x ∷ xs) h b = (same_best prices q r x h.0 b.0, shown_without qs rs xs h.1 b.1)

  pub saving_at : (qs rs : List Route) (xs : List ℤ) → AreEased qs rs xs → AllZip (IsBestAt prices) qs xs → (i : ℕ)
      → saving prices (get_or qs i no_route) ≡ saving prices (get_or rs i no_route)
  saving_at [] [] [] h b i = refl
  saving_at [] [] (x ∷ xs) h b i = absurd h
  saving_at [] (r ∷ rs) xs h b i = absurd h
  saving_at (q ∷ qs) [] xs h b i = absurd h
  saving_at (q ∷ qs) (r ∷ rs) [] h b i = absurd h
  saving_at (q ∷ qs) (r ∷ rs) (x ∷ xs) h b zero = same_saving prices q r x h.0 b.0
  saving_at (q ∷ qs) (r ∷ rs) (x ∷ xs) h b (suc i) = saving_at qs rs xs h.1 b.1 i

  pub dearer_at : (qs rs : List Route) (xs : List ℤ) → AreEased qs rs xs → (i : ℕ)
      → dearer prices (get_or qs i no_route) (get_or xs i (pos 0)) ≡ dearer prices (get_or rs i no_route) (get_or xs i (pos 0))
  dearer_at [] [] [] h i = refl
  dearer_at [] [] (x ∷ xs) h i = absurd h
  dearer_at [] (r ∷ rs) xs h i = absurd h
  dearer_at (q ∷ qs) [] xs h i = absurd h
  dearer_at (q ∷ qs) (r ∷ rs) [] h i = absurd h
  dearer_at (q ∷ qs) (r ∷ rs) (x ∷ xs) h zero = same_dearer prices q r x h.0
  dearer_at (q ∷ qs) (r ∷ rs) (x ∷ xs) h (suc i) = dearer_at qs rs xs h.1 i

  -- ---- groups

  lowest_same : (supplies : List ℤ) (qs rs : List Route) (xs : List ℤ) → AreEased qs rs xs → (count : ℕ)
      → lowest prices (record { supplies = supplies; routes = qs }) xs count ≡ lowest prices (record { supplies = supplies; routes = rs }) xs count
  lowest_same supplies qs rs xs h zero = refl
  lowest_same supplies qs rs xs h (suc count) =
      let e = eased_at qs rs xs h count in
      let q = get_or qs count no_route in
      let r = get_or rs count no_route in
      let x = get_or xs count (pos 0) in
      let lows = lowest prices (record { supplies = supplies; routes = qs }) xs count in
      let own = lowest prices (record { supplies = supplies; routes = rs }) xs count in
      ap (λ b. merged_if b lows q.tail q.head) (loose_test prices q r x e)
      ∙ ap (λ ls. merged_if (is_loose prices r x) ls q.tail q.head) (lowest_same supplies qs rs xs h count)
      ∙ ap (λ t. merged_if (is_loose prices r x) own t q.head) (same_tail q r x e)
      ∙ ap (λ t. merged_if (is_loose prices r x) own r.tail t) (same_head q r x e)

  pub groups_same : (supplies : List ℤ) (qs rs : List Route) (xs : List ℤ) → AreEased qs rs xs
      → groups_by prices (record { supplies = supplies; routes = qs }) xs ≡ groups_by prices (record { supplies = supplies; routes = rs }) xs
  groups_same supplies qs rs xs h =
      ap (λ n. numbers_by (lowest prices (record { supplies = supplies; routes = qs }) xs n)) (eased_length qs rs xs h)
      ∙ ap numbers_by (lowest_same supplies qs rs xs h (length rs))

-- ---- chains of loose routes

-- two models whose routes have the same ends, and of which the second has the loose routes of the
-- first
module _ (prices xs : List ℤ) (a b : Model) (tails : (k : ℕ) → (route_at a k).tail ≡ (route_at b k).tail)
    (heads : (k : ℕ) → (route_at a k).head ≡ (route_at b k).head) (numbers : (k : ℕ) → IsRouteNumber a k → IsRouteNumber b k)
    (loose : (k : ℕ) → IsLoose prices (route_at a k) (amount_at xs k) → IsLoose prices (route_at b k) (amount_at xs k)) where
  from_same : (l : Link) → link_from a l ≡ link_from b l
  from_same l = go l.back
    where
      go : (back : Bool) → (if back then (route_at a l.route).head else (route_at a l.route).tail) ≡ (if back then (route_at b l.route).head else (route_at b l.route).tail)
      go true = heads l.route
      go false = tails l.route

  to_same : (l : Link) → link_to a l ≡ link_to b l
  to_same l = go l.back
    where
      go : (back : Bool) → (if back then (route_at a l.route).tail else (route_at a l.route).head) ≡ (if back then (route_at b l.route).tail else (route_at b l.route).head)
      go true = tails l.route
      go false = heads l.route

  chain_same : (u : ℕ) (links : List Link) (w : ℕ) → IsChain a u links w → IsChain b u links w
  chain_same u [] w h = h
  chain_same u (l ∷ rest) w h = (
    sym (from_same l) ∙ h.0,
    subst (λ v. IsChain b v rest w) (to_same l) (chain_same (link_to a l) rest w h.1),
  )

  pub joined_too : (u w : ℕ) → AreJoined prices a xs u w → AreJoined prices b xs u w
  joined_too u w j =
      record {
        links = j.links;
        loose = λ i d h. let k = j.loose i d h in record { is_route = numbers _ k.is_route; loose = loose _ k.loose };
        chain = chain_same u j.links w j.chain;
      }

module _ (prices supplies : List ℤ) (qs rs : List Route) (xs : List ℤ) (eased : AreEased qs rs xs) where
  abbrev limited_model : Model
  limited_model = record { supplies = supplies; routes = qs }

  abbrev own_model : Model
  own_model = record { supplies = supplies; routes = rs }

  tails : (k : ℕ) → (route_at limited_model k).tail ≡ (route_at own_model k).tail
  tails k = same_tail _ _ _ (eased_at qs rs xs eased (k - 1))

  heads : (k : ℕ) → (route_at limited_model k).head ≡ (route_at own_model k).head
  heads k = same_head _ _ _ (eased_at qs rs xs eased (k - 1))

  joined_there : (u w : ℕ) → AreJoined prices limited_model xs u w → AreJoined prices own_model xs u w
  joined_there =
      joined_too prices xs limited_model own_model tails heads (λ k h. (h.0, omega (arith, h.1, eased_length qs rs xs eased)))
      (λ k. loose_without prices _ _ _ (eased_at qs rs xs eased (k - 1)))

  joined_back : (u w : ℕ) → AreJoined prices own_model xs u w → AreJoined prices limited_model xs u w
  joined_back =
      joined_too prices xs own_model limited_model (λ k. sym (tails k)) (λ k. sym (heads k))
      (λ k h. (h.0, omega (arith, h.1, eased_length qs rs xs eased))) (λ k. loose_with prices _ _ _ (eased_at qs rs xs eased (k - 1)))

  pub joined_same : (u w : ℕ) → AreJoined prices limited_model xs u w ↔ AreJoined prices own_model xs u w
  joined_same u w = (joined_there u w, joined_back u w)

  pub exact_same : AllZip (IsBestAt prices) qs xs → (k : ℕ) → IsExact prices limited_model xs k ↔ IsExact prices own_model xs k
  exact_same best k = (there, back)
    where
      saves : saving prices (route_at limited_model k) ≡ saving prices (route_at own_model k)
      saves = saving_at prices qs rs xs eased best (k - 1)

      there : IsExact prices limited_model xs k → IsExact prices own_model xs k
      there (inl e) = inl (sym saves ∙ e)
      there (inr j) =
          inr (subst (λ u. AreJoined prices own_model xs u (route_at own_model k).head) (tails k)
          (subst (λ w. AreJoined prices own_model xs (route_at limited_model k).tail w) (heads k) (joined_there _ _ j)))

      back : IsExact prices own_model xs k → IsExact prices limited_model xs k
      back (inl e) = inl (saves ∙ e)
      back (inr j) =
          inr (subst (λ u. AreJoined prices limited_model xs u (route_at limited_model k).head) (sym (tails k))
          (subst (λ w. AreJoined prices limited_model xs (route_at own_model k).tail w) (sym (heads k)) (joined_back _ _ j)))
