-- The routes that are made for places, and what they carry.
use Rattle.std.proofs.Common.{◌≡◌, ℕ, suc, ◌+◌, ◌-◌, ◌<◌, ◌≤◌, eqb, List, [], ◌∷◌, ◌++◌, length, drop, get_or, refl, ap, sym, ◌∙◌, subst, arith, ℤ, pos, ◌+ℤ◌}
use Rattle.std.specs.Prelude.{Option, Some, None, option_map}
use Rattle.std.specs.List.{AllZip}
use Rattle.std.proofs.lemmas.Int.{ints}
use Rattle.std.proofs.lemmas.Bool.{eq-eqb, ne_eqb}
use Rattle.mcf_flows.specs.Network.{when}
use Rattle.mcf_model.specs.Model.{MayCarry, Route, plan_sum}
use Rattle.mcf_places.specs.declared.places.Place.{Place}
use Rattle.mcf_places.specs.Models.{amounts_by, by_place, first_amount, later_amounts, routes_by, with_first}
use Rattle.mcf_places.specs.Planners.{EachPlace, place_sum}
use Rattle.mcf_places.proofs.PlaceSums.{each_map, place_sum-one, place_sum-zero}

-- a term of a route, or 0 if there is none
abbrev pub term_if : Option Route → (Route → ℤ) → ℤ
term_if (Some r) term = term r
term_if None term = pos 0

-- a fact of a route, if there is one
abbrev pub IfRoute : Option Route → (Route → Type 0) → Type 0
IfRoute (Some r) Q = Q r
IfRoute None Q = Unit {0}

-- nothing is carried if there is no route
abbrev pub NoneElse : Option Route → ℤ → Type 0
NoneElse (Some r) x = Unit {0}
NoneElse None x = x ≡ pos 0

pub when_not : (a b : ℕ) (z : ℤ) → (a ≡ b → ⊥) → when (eqb a b) z ≡ pos 0
when_not a b z h = ap (λ t. when t z) (ne_eqb a b h)

pub when_is : (a b : ℕ) (z : ℤ) → a ≡ b → when (eqb a b) z ≡ z
when_is a b z h = ap (λ t. when t z) (eq-eqb a b h)

module _ (make : ℕ → Place → Option Route) where
  -- ---- sums over the routes are sums over the places

  pub sum_by : (t : Route → ℤ → ℤ) (f : ℕ → Place → ℤ) (v : ℕ) (ps : List Place)
      → plan_sum t (routes_by make v ps) (amounts_by make f v ps) ≡ place_sum (λ j p. term_if (make j p) (λ r. t r (f j p))) v ps
  sum_by t f v [] = refl
  sum_by t f v (p ∷ ps) = go (make v p) (sum_by t f (suc v) ps)
    where
      go : (o : Option Route)
          → plan_sum t (routes_by make (suc v) ps) (amounts_by make f (suc v) ps) ≡ place_sum (λ j q. term_if (make j q) (λ r. t r (f j q))) (suc v) ps
          → plan_sum t (with_first o (routes_by make (suc v) ps)) (with_first (option_map (λ (r : Route). f v p) o) (amounts_by make f (suc v) ps))
          ≡ term_if o (λ r. t r (f v p)) +ℤ place_sum (λ j q. term_if (make j q) (λ r. t r (f j q))) (suc v) ps
      go (Some r) later = ap (λ z. t r (f v p) +ℤ z) later
      go None later = omega (arith, ints, later)

  pub length_by : (f : ℕ → Place → ℤ) (v : ℕ) (ps : List Place) → length (routes_by make v ps) ≡ length (amounts_by make f v ps)
  length_by f v [] = refl
  length_by f v (p ∷ ps) = go (make v p) (length_by f (suc v) ps)
    where
      go : (o : Option Route) → length (routes_by make (suc v) ps) ≡ length (amounts_by make f (suc v) ps)
          → length (with_first o (routes_by make (suc v) ps))
          ≡ length (with_first (option_map (λ (r : Route). f v p) o) (amounts_by make f (suc v) ps))
      go (Some r) later = ap suc later
      go None later = later

  pub same_by : (f g : ℕ → Place → ℤ) (v : ℕ) (ps : List Place) → EachPlace (λ j p. IfRoute (make j p) (λ r. f j p ≡ g j p)) v ps
      → amounts_by make f v ps ≡ amounts_by make g v ps
  same_by f g v [] h = refl
  same_by f g v (p ∷ ps) h = go (make v p) h.0 (same_by f g (suc v) ps h.1)
    where
      go : (o : Option Route) → IfRoute o (λ r. f v p ≡ g v p) → amounts_by make f (suc v) ps ≡ amounts_by make g (suc v) ps
          → with_first (option_map (λ (r : Route). f v p) o) (amounts_by make f (suc v) ps)
          ≡ with_first (option_map (λ (r : Route). g v p) o) (amounts_by make g (suc v) ps)
      go (Some r) e later = ap (λ z. z ∷ amounts_by make f (suc v) ps) e ∙ ap (λ zs. g v p ∷ zs) later
      go None e later = later

  -- ---- the sum of what the routes with an end carry

  abbrev pub end_term : (Route → ℕ) → ℕ → (ℕ → Place → ℤ) → ℕ → Place → ℤ
  end_term end w f j p = term_if (make j p) (λ r. when (eqb (end r) w) (f j p))

  pub not_here : (end : Route → ℕ) (w : ℕ) (o : Option Route) (x : ℤ) → IfRoute o (λ r. end r ≡ w → ⊥) → term_if o (λ r. when (eqb (end r) w) x) ≡ pos 0
  not_here end w (Some r) x h = when_not (end r) w x h
  not_here end w None x h = refl

  pub is_here : (end : Route → ℕ) (w : ℕ) (o : Option Route) (x : ℤ) → IfRoute o (λ r. end r ≡ w) → term_if o (λ r. when (eqb (end r) w) x) ≡ term_if o (λ r. x)
  is_here end w (Some r) x h = when_is (end r) w x h
  is_here end w None x h = refl

  pub whole : (o : Option Route) (x : ℤ) → NoneElse o x → term_if o (λ r. x) ≡ x
  whole (Some r) x h = refl
  whole None x h = sym h

  pub none_at : (end : Route → ℕ) (w : ℕ) (f : ℕ → Place → ℤ) (v : ℕ) (ps : List Place)
      → EachPlace (λ j p. IfRoute (make j p) (λ r. end r ≡ w → ⊥)) v ps → place_sum (end_term end w f) v ps ≡ pos 0
  none_at end w f v ps h =
      place_sum-zero (end_term end w f) v ps
      (each_map (λ j p. IfRoute (make j p) (λ r. end r ≡ w → ⊥)) (λ j p. end_term end w f j p ≡ pos 0) (λ j p k. not_here end w (make j p) (f j p) k) v ps h)

  pub only_at : (end : Route → ℕ) (w : ℕ) (f : ℕ → Place → ℤ) (v : ℕ) (ps : List Place) (u : ℕ) (d : Place) → v ≤ u → u < v + length ps
      → EachPlace (λ j p. (j ≡ u → ⊥) → IfRoute (make j p) (λ r. end r ≡ w → ⊥)) v ps
      → place_sum (end_term end w f) v ps ≡ end_term end w f u (get_or ps (u - v) d)
  only_at end w f v ps u d a b h =
      place_sum-one (end_term end w f) v ps u d a b
      (each_map (λ j p. (j ≡ u → ⊥) → IfRoute (make j p) (λ r. end r ≡ w → ⊥)) (λ j p. (j ≡ u → ⊥) → end_term end w f j p ≡ pos 0)
      (λ j p k other. not_here end w (make j p) (f j p) (k other)) v ps h)

  pub one_at : (end : Route → ℕ) (w : ℕ) (f : ℕ → Place → ℤ) (v : ℕ) (ps : List Place) (u : ℕ) (d : Place) → v ≤ u → u < v + length ps
      → EachPlace (λ j p. (j ≡ u → ⊥) → IfRoute (make j p) (λ r. end r ≡ w → ⊥)) v ps
      → IfRoute (make u (get_or ps (u - v) d)) (λ r. end r ≡ w)
      → place_sum (end_term end w f) v ps ≡ term_if (make u (get_or ps (u - v) d)) (λ r. f u (get_or ps (u - v) d))
  one_at end w f v ps u d a b h here =
      only_at end w f v ps u d a b h
      ∙ is_here end w (make u (get_or ps (u - v) d)) (f u (get_or ps (u - v) d)) here

  pub all_at : (end : Route → ℕ) (w : ℕ) (f : ℕ → Place → ℤ) (v : ℕ) (ps : List Place)
      → EachPlace (λ j p. IfRoute (make j p) (λ r. end r ≡ w)) v ps → EachPlace (λ j p. NoneElse (make j p) (f j p)) v ps
      → place_sum (end_term end w f) v ps ≡ place_sum f v ps
  all_at end w f v [] h k = refl
  all_at end w f v (p ∷ ps) h k =
      omega (arith, ints, is_here end w (make v p) (f v p) h.0, whole (make v p) (f v p) k.0, all_at end w f (suc v) ps h.1 k.1)

  -- ---- from amounts by place to amounts of routes, and back

  pub zip_by : (f : ℕ → Place → ℤ) (v : ℕ) (ps : List Place) → EachPlace (λ j p. IfRoute (make j p) (λ r. MayCarry r (f j p))) v ps
      → AllZip MayCarry (routes_by make v ps) (amounts_by make f v ps)
  zip_by f v [] h = tt
  zip_by f v (p ∷ ps) h = go (make v p) h.0 (zip_by f (suc v) ps h.1)
    where
      go : (o : Option Route) → IfRoute o (λ r. MayCarry r (f v p)) → AllZip MayCarry (routes_by make (suc v) ps) (amounts_by make f (suc v) ps)
          → AllZip MayCarry (with_first o (routes_by make (suc v) ps)) (with_first (option_map (λ (r : Route). f v p) o) (amounts_by make f (suc v) ps))
      go (Some r) e later = (e, later)
      go None e later = later

  pub there_again : (f : ℕ → ℤ) (more : List ℤ) (v : ℕ) (ps : List Place) (xs : List ℤ) → length xs ≡ length ps
      → ((w : ℕ) → v ≤ w → w < v + length ps → f w ≡ get_or xs (w - v) (pos 0)) → EachPlace (λ j p. NoneElse (make j p) (f j)) v ps
      → by_place make v ps (amounts_by make (λ j p. f j) v ps ++ more) ≡ xs
  there_again f more v [] [] e is h = refl
  there_again f more v [] (x ∷ xs) e is h = absurd (omega arith)
  there_again f more v (p ∷ ps) [] e is h = absurd (omega arith)
  there_again f more v (p ∷ ps) (x ∷ xs) e is h =
      go (make v p) h.0 first
      (there_again f more (suc v) ps xs (omega arith)
      (λ w a b. let k : w - v ≡ suc (w - suc v) = omega arith in is w (omega arith) (omega arith) ∙ ap (λ i. get_or (x ∷ xs) i (pos 0)) k) h.1)
    where
      first : f v ≡ x
      first = let k : v - v ≡ 0 = omega arith in is v (omega arith) (omega arith) ∙ ap (λ i. get_or (x ∷ xs) i (pos 0)) k

      go : (o : Option Route) → NoneElse o (f v) → f v ≡ x → by_place make (suc v) ps (amounts_by make (λ j p. f j) (suc v) ps ++ more) ≡ xs
          → first_amount o (with_first (option_map (λ (r : Route). f v) o) (amounts_by make (λ j p. f j) (suc v) ps) ++ more)
          ∷ by_place make (suc v) ps (later_amounts o (with_first (option_map (λ (r : Route). f v) o) (amounts_by make (λ j p. f j) (suc v) ps) ++ more)) ≡ x ∷ xs
      go (Some r) z first rest = ap (λ y. y ∷ by_place make (suc v) ps (amounts_by make (λ j p. f j) (suc v) ps ++ more)) first ∙ ap (λ ys. x ∷ ys) rest
      go None z first rest = ap (λ y. y ∷ by_place make (suc v) ps (amounts_by make (λ j p. f j) (suc v) ps ++ more)) (sym z ∙ first) ∙ ap (λ ys. x ∷ ys) rest

  pub record IsReadBy (rest : List Route) (f : ℕ → ℤ) (v : ℕ) (ps : List Place) (ys : List ℤ) : Type 0 where
    pub again : amounts_by make (λ j p. f j) v ps ++ drop (length (routes_by make v ps)) ys ≡ ys
    pub may_carry : EachPlace (λ j p. IfRoute (make j p) (λ r. MayCarry r (f j))) v ps
    pub none_else : EachPlace (λ j p. NoneElse (make j p) (f j)) v ps
    pub others : AllZip MayCarry rest (drop (length (routes_by make v ps)) ys)

  pub length_places : (v : ℕ) (ps : List Place) (ys : List ℤ) → length (by_place make v ps ys) ≡ length ps
  length_places v [] ys = refl
  length_places v (p ∷ ps) ys = ap suc (length_places (suc v) ps (later_amounts (make v p) ys))

  pub read_by : (rest : List Route) (f : ℕ → ℤ) (v : ℕ) (ps : List Place) (ys : List ℤ) → AllZip MayCarry (routes_by make v ps ++ rest) ys
      → ((w : ℕ) → v ≤ w → w < v + length ps → f w ≡ get_or (by_place make v ps ys) (w - v) (pos 0)) → IsReadBy rest f v ps ys
  read_by rest f v [] ys h is = record { again = refl; may_carry = tt; none_else = tt; others = h }
  read_by rest f v (p ∷ ps) ys h is =
      let r = read (λ later k is. read_by rest f (suc v) ps later k is) (make v p) ys h first next in
      record { again = r.0; may_carry = r.1; none_else = r.2; others = r.3 }
    where
      first : f v ≡ first_amount (make v p) ys
      first =
          let k : v - v ≡ 0 = omega arith in
          is v (omega arith) (omega arith)
          ∙ ap (λ i. get_or (first_amount (make v p) ys ∷ by_place make (suc v) ps (later_amounts (make v p) ys)) i (pos 0)) k

      next : (w : ℕ) → suc v ≤ w → w < suc v + length ps → f w ≡ get_or (by_place make (suc v) ps (later_amounts (make v p) ys)) (w - suc v) (pos 0)
      next w a b =
          let k : w - v ≡ suc (w - suc v) = omega arith in
          is w (omega arith) (omega arith)
          ∙ ap (λ i. get_or (first_amount (make v p) ys ∷ by_place make (suc v) ps (later_amounts (make v p) ys)) i (pos 0)) k

      read : ((later : List ℤ) → AllZip MayCarry (routes_by make (suc v) ps ++ rest) later
          → ((w : ℕ) → suc v ≤ w → w < suc v + length ps → f w ≡ get_or (by_place make (suc v) ps later) (w - suc v) (pos 0))
          → IsReadBy rest f (suc v) ps later) → (o : Option Route) (ys : List ℤ) → AllZip MayCarry (with_first o (routes_by make (suc v) ps) ++ rest) ys → f v ≡ first_amount o ys
          → ((w : ℕ) → suc v ≤ w → w < suc v + length ps → f w ≡ get_or (by_place make (suc v) ps (later_amounts o ys)) (w - suc v) (pos 0))
          → (with_first (option_map (λ (r : Route). f v) o) (amounts_by make (λ j p. f j) (suc v) ps)
          ++ drop (length (with_first o (routes_by make (suc v) ps))) ys ≡ ys)
          × (IfRoute o (λ r. MayCarry r (f v)) × EachPlace (λ j p. IfRoute (make j p) (λ r. MayCarry r (f j))) (suc v) ps)
          × (NoneElse o (f v) × EachPlace (λ j p. NoneElse (make j p) (f j)) (suc v) ps)
          × AllZip MayCarry rest (drop (length (with_first o (routes_by make (suc v) ps))) ys)
      read go (Some r) [] h e is = absurd h
      read go (Some r) (y ∷ ys) h e is =
          let later = go ys h.1 is in (
            ap (λ z. z ∷ amounts_by make (λ j p. f j) (suc v) ps ++ drop (length (routes_by make (suc v) ps)) ys) e ∙ ap (λ zs. y ∷ zs) later.again,
            (subst (MayCarry r) (sym e) h.0, later.may_carry),
            (tt, later.none_else),
            later.others,
          )
      read go None ys h e is =
          let later = go ys h is in (later.again, (tt, later.may_carry), (e, later.none_else), later.others)
