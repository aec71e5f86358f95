-- The model of a roster with groups, in closed form: one group more splits places.
use Rattle.std.proofs.Common.{◌≡◌, ℕ, zero, suc, ◌+◌, ◌-◌, ◌≤◌, eqb, Bool, true, false, not, ◌||◌, List, [], ◌∷◌, ◌++◌, length, map, refl, ap, sym, ◌∙◌, subst, arith, append_assoc, ℤ, pos, inl, inr}
use Rattle.std.specs.Prelude.{Option, Some, None, nat_lt, option_map, replicate, if◌then◌else◌}
use Rattle.std.specs.List.{All, list_any, range_with_len}
use Rattle.std.specs.Option.{option_or}
use Rattle.std.proofs.Math.ListN.{get_or-eq_default}
use Rattle.std.proofs.lemmas.Bool.{cases_lt, eqb-true}
use Rattle.std.proofs.lemmas.List.{get_or-replicate, length-replicate, replicate-append-replicate}
use Rattle.std.proofs.lemmas.List.Elements.{All-append, All-head, All-map, All-tail}
use Rattle.std.proofs.lemmas.List.FromFn.{get_or-map-range_with_len, length-map-range_with_len}
use Rattle.mcf_flows.specs.Blocking.{in_list}
use Rattle.mcf_flows.specs.Network.{IsNode}
use Rattle.mcf_model.specs.Faults.{is_place}
use Rattle.mcf_model.specs.Model.{Model, Route}
use Rattle.mcf_model.proofs.FaultTests.{all_of, any_none, find_none, is_node, not_false, or_false}
use Rattle.mcf_roster.specs.declared.pairs.Pair.{Pair}
use Rattle.mcf_roster.specs.Models.{hub_of, model_of, one_or_none, pair_route, person_route, plain_route, thing_route}
use Rattle.mcf_roster.specs.RosterFaults.{HasBothEnds, IsSoundRoster}
use Rattle.mcf_roster.specs.Rosters.{Roster}
use Rattle.mcf_roster.proofs.RangeSums.{all_range, mapped_same}
use Rattle.mcf_groups.specs.declared.faults.GroupFaultKind.{GroupFaultKind}
use Rattle.mcf_groups.specs.declared.faults.GroupFaultKind.TheVariants.{Empty}
use Rattle.mcf_groups.specs.declared.faults.GroupFault.{GroupFault}
use Rattle.mcf_groups.specs.declared.faults.TheConstants.{PLACE_LIMIT}
use Rattle.mcf_groups.specs.declared.groups.Group.{Group}
use Rattle.mcf_groups.specs.declared.groups.Members.{Members}
use Rattle.mcf_groups.specs.declared.groups.Members.TheVariants.{Things, Persons}
use Rattle.mcf_groups.specs.GroupFaults.{fault_from, fault_of, group_faults, has_fault}
use Rattle.mcf_groups.specs.Groups.{member_count, member_of, owner_count, owner_of}
use Rattle.mcf_groups.specs.Nests.{IsSoundNest, Nest, after, before_first, befores, entry, first_before, leaves, move_of, nest_with, old_before, placed, split_of, start_of}
use Rattle.mcf_groups.specs.SplitLaws.{MaySplit}
use Rattle.mcf_groups.specs.Splits.{HasEnds, MayAllMove, MayMove, all_moved, end_of, link, links_of, moved, old_of, split, with_end}

-- ---- the closed form

-- the route of a pair, where pairs stand as a nest says
abbrev pub nested_route : Nest → Pair → Route
nested_route S p = plain_route (entry S.tails p.what + p.who) (entry S.heads p.who + p.what) one_or_none p.cost

-- the routes of persons and things
abbrev pub side_routes : Roster → List Route
side_routes R = map (person_route R) (range_with_len 1 (length R.takes)) ++ map (thing_route R) (range_with_len 1 (length R.needs))

-- the model where pairs stand as a nest says, with these links
abbrev pub staged : Roster → Nest → List Route → Model
staged R S links = record { supplies = replicate S.places (pos 0); routes = map (nested_route S) R.pairs ++ (side_routes R ++ links) }

-- the links of a group
abbrev pub link_routes : Roster → Nest → Group → List Route
link_routes R S g =
    map (λ v. link (leaves g.of) (old_before R S g + v) (S.places + v) (pos g.range.least) (pos g.range.most)) (range_with_len 1 (owner_count R g.of))

-- ---- entries

fits_at : (k n : ℕ) (xs : List ℕ) → All (λ x. x + k ≤ n) xs → k ≤ n → (v : ℕ) → entry xs v + k ≤ n
fits_at k n xs h few v =
    elim (cases_lt (v - 1) (length xs)) [
      | inl within ↦ h (v - 1) 0 within
      | inr out ↦ let none : entry xs v ≡ 0 = get_or-eq_default xs 0 out in omega (arith, none, few)
    ]

pub placed_at : (place : ℕ) (ms before : List ℕ) (v : ℕ) → IsNode (length before) v
    → entry (placed place ms before) v ≡ (if in_list ms v then place else entry before v)
placed_at place ms before v k =
    get_or-map-range_with_len (λ u. if in_list ms u then place else entry before u) 1 (length before) (v - 1) v 0 (omega (arith, k)) (omega (arith, k))

pub placed_long : (place : ℕ) (ms before : List ℕ) → length (placed place ms before) ≡ length before
placed_long place ms before = length-map-range_with_len (λ u. if in_list ms u then place else entry before u) 1 (length before)

if_fits : (b : Bool) (x y k n : ℕ) → x + k ≤ n → y + k ≤ n → (if b then x else y) + k ≤ n
if_fits true x y k n h q = h
if_fits false x y k n h q = q

placed_fit : (k m n : ℕ) (ms before : List ℕ) → All (λ x. x + k ≤ m) before → k ≤ m → m + k ≤ n → All (λ x. x + k ≤ n) (placed m ms before)
placed_fit k m n ms before h few more =
    all_range (λ x. x + k ≤ n) (λ u. if in_list ms u then m else entry before u) (length before)
    (λ v q. if_fits (in_list ms v) m (entry before v) k n more (let old = fits_at k m before h few v in omega (arith, old, more)))

still_fit : (k m n : ℕ) (xs : List ℕ) → m ≤ n → All (λ x. x + k ≤ m) xs → All (λ x. x + k ≤ n) xs
still_fit k m n xs more h = all_of (λ x. x + k ≤ m) (λ x. x + k ≤ n) xs (λ x q. omega (arith, q, more)) h

-- ---- nests

pub start_sound : (R : Roster) → IsSoundNest R (start_of R)
start_sound R =
    record {
      hub = omega arith;
      tails_long = length-replicate {A = ℕ} (length R.needs) 0;
      heads_long = length-replicate {A = ℕ} (length R.takes) (length R.takes);
      tails_fit = λ k d l. let e = get_or-replicate {A = ℕ} (length R.needs) k 0 d (omega (arith, l, length-replicate {A = ℕ} (length R.needs) 0)) in omega (arith, e);
      heads_fit = λ k d l.
          let e = get_or-replicate {A = ℕ} (length R.takes) k (length R.takes) d (omega (arith, l, length-replicate {A = ℕ} (length R.takes) (length R.takes))) in
          omega (arith, e);
    }

module _ (R : Roster) (S : Nest) (sound : IsSoundNest R S) where
  pub with_sound : (of : Members) (ms : List ℕ) → IsSoundNest R (nest_with of S.places (owner_count R of) ms S)
  with_sound Things ms =
      record {
        hub = omega (arith, sound.hub);
        tails_long = placed_long S.places ms S.tails ∙ sound.tails_long;
        heads_long = sound.heads_long;
        tails_fit = placed_fit (length R.takes) S.places (S.places + length R.takes) ms S.tails sound.tails_fit (omega (arith, sound.hub)) (omega arith);
        heads_fit = still_fit (length R.needs) S.places (S.places + length R.takes) S.heads (omega arith) sound.heads_fit;
      }
  with_sound Persons ms =
      record {
        hub = omega (arith, sound.hub);
        tails_long = sound.tails_long;
        heads_long = placed_long S.places ms S.heads ∙ sound.heads_long;
        tails_fit = still_fit (length R.takes) S.places (S.places + length R.needs) S.tails (omega arith) sound.tails_fit;
        heads_fit = placed_fit (length R.needs) S.places (S.places + length R.needs) ms S.heads sound.heads_fit (omega (arith, sound.hub)) (omega arith);
      }

  pub owners_fit : (of : Members) (v : ℕ) → entry (befores of S) v + owner_count R of ≤ S.places
  owners_fit Things v = fits_at (length R.takes) S.places S.tails sound.tails_fit (omega (arith, sound.hub)) v
  owners_fit Persons v = fits_at (length R.needs) S.places S.heads sound.heads_fit (omega (arith, sound.hub)) v

  first_fits : (of : Members) → first_before R of + owner_count R of ≤ S.places
  first_fits Things = omega (arith, sound.hub)
  first_fits Persons = omega (arith, sound.hub)

  before_fits : (of : Members) (ms : List ℕ) → before_first (first_before R of) (befores of S) ms + owner_count R of ≤ S.places
  before_fits of [] = first_fits of
  before_fits of (v ∷ ms) = owners_fit of v

  pub old_fits : (g : Group) → old_before R S g + owner_count R g.of ≤ S.places
  old_fits g = before_fits g.of g.members.items

pub places_with : (of : Members) (place more : ℕ) (ms : List ℕ) (S : Nest) → (nest_with of place more ms S).places ≡ place + more
places_with Things place more ms S = refl
places_with Persons place more ms S = refl

-- ---- the route of a pair, in the next nest

moved_if : (leave : Bool) (n : ℕ) (b : Bool) (o : ℕ) (r : Route) → 1 ≤ o
    → moved leave n (if b then o else 0) r ≡ (if b then with_end leave (n + o) r else r)
moved_if leave n false o r h = refl
moved_if leave n true zero r h = absurd (omega arith)
moved_if leave n true (suc o) r h = refl

next_tail : (b : Bool) (n place t o h c : ℕ) (z : ℤ) → n ≡ place
    → (if b then plain_route (n + o) h one_or_none z else plain_route (t + o) h one_or_none z) ≡ plain_route ((if b then place else t) + o) h one_or_none z
next_tail true n place t o h c z e = ap (λ u. plain_route (u + o) h one_or_none z) e
next_tail false n place t o h c z e = refl

next_head : (b : Bool) (n place t o h c : ℕ) (z : ℤ) → n ≡ place
    → (if b then plain_route h (n + o) one_or_none z else plain_route h (t + o) one_or_none z) ≡ plain_route h ((if b then place else t) + o) one_or_none z
next_head true n place t o h c z e = ap (λ u. plain_route h (u + o) one_or_none z) e
next_head false n place t o h c z e = refl

module _ (R : Roster) (S : Nest) (sound : IsSoundNest R S) (n : ℕ) (n_is : n ≡ S.places) where
  next_route : (of : Members) (ms : List ℕ) (p : Pair) → HasBothEnds (length R.takes) (length R.needs) p
      → moved (leaves of) n (if in_list ms (member_of of p) then owner_of of p else 0) (nested_route S p)
      ≡ nested_route (nest_with of S.places (owner_count R of) ms S) p
  next_route Things ms p h =
      moved_if true n (in_list ms p.what) p.who (nested_route S p) h.person.0
      ∙ next_tail (in_list ms p.what) n S.places (entry S.tails p.what) p.who (entry S.heads p.who + p.what) 0 p.cost n_is
      ∙ ap (λ t. plain_route (t + p.who) (entry S.heads p.who + p.what) one_or_none p.cost)
      (sym (placed_at S.places ms S.tails p.what (h.thing.0, omega (arith, h.thing, sound.tails_long))))
  next_route Persons ms p h =
      moved_if false n (in_list ms p.who) p.what (nested_route S p) h.thing.0
      ∙ next_head (in_list ms p.who) n S.places (entry S.heads p.who) p.what (entry S.tails p.what + p.who) 0 p.cost n_is
      ∙ ap (λ t. plain_route (entry S.tails p.what + p.who) (t + p.what) one_or_none p.cost)
      (sym (placed_at S.places ms S.heads p.who (h.person.0, omega (arith, h.person, sound.heads_long))))

  next_routes : (g : Group) (others : List Route) (ps : List Pair) → All (HasBothEnds (length R.takes) (length R.needs)) ps
      → all_moved (leaves g.of) n (map (move_of g) ps) (map (nested_route S) ps ++ others) ≡ map (nested_route (after R S g)) ps ++ others
  next_routes g others [] h = refl
  next_routes g others (p ∷ ps) h =
      ap (λ r. r ∷ all_moved (leaves g.of) n (map (move_of g) ps) (map (nested_route S) ps ++ others))
      (next_route g.of g.members.items p (All-head (HasBothEnds (length R.takes) (length R.needs)) p ps h))
      ∙ ap (λ rs. nested_route (after R S g) p ∷ rs) (next_routes g others ps (All-tail (HasBothEnds (length R.takes) (length R.needs)) p ps h))

-- ---- the old places

pub olds_long : (R : Roster) (S : Nest) (g : Group) → length (split_of R S g).olds ≡ owner_count R g.of
olds_long R S g = length-map-range_with_len (λ v. old_before R S g + v) 1 (owner_count R g.of)

old_is : (R : Roster) (S : Nest) (g : Group) (v : ℕ) → IsNode (owner_count R g.of) v → old_of (split_of R S g).olds v ≡ old_before R S g + v
old_is R S g v k = get_or-map-range_with_len (λ v. old_before R S g + v) 1 (owner_count R g.of) (v - 1) v 0 (omega (arith, k)) (omega (arith, k))

links_are : (R : Roster) (S : Nest) (g : Group) (n : ℕ) → n ≡ S.places → links_of n (split_of R S g) ≡ link_routes R S g
links_are R S g n e =
    ap (λ k. map (λ j. link (leaves g.of) (old_of (split_of R S g).olds j) (n + j) (pos g.range.least) (pos g.range.most)) (range_with_len 1 k)) (olds_long R S g)
    ∙ mapped_same (λ j. link (leaves g.of) (old_of (split_of R S g).olds j) (n + j) (pos g.range.least) (pos g.range.most))
    (λ v. link (leaves g.of) (old_before R S g + v) (S.places + v) (pos g.range.least) (pos g.range.most)) (owner_count R g.of)
    (λ v k. ap (λ o. link (leaves g.of) o (n + v) (pos g.range.least) (pos g.range.most)) (old_is R S g v k)
    ∙ ap (λ m. link (leaves g.of) (old_before R S g + v) (m + v) (pos g.range.least) (pos g.range.most)) e)

-- ---- one group more

module _ (R : Roster) (S : Nest) (links : List Route) (g : Group) (ends : IsSoundRoster R) (sound : IsSoundNest R S) where
  abbrev n : ℕ
  n = length (replicate S.places (pos 0))

  n_is : n ≡ S.places
  n_is = length-replicate S.places (pos 0)

  pub split_staged : split (staged R S links) (split_of R S g) ≡ staged R (after R S g) (links ++ link_routes R S g)
  split_staged =
      ap (λ (s : List ℤ). record { supplies = s; routes = (split (staged R S links) (split_of R S g)).routes })
      (ap (λ k. replicate S.places (pos 0) ++ replicate k (pos 0)) (olds_long R S g)
      ∙ replicate-append-replicate S.places (owner_count R g.of) (pos 0)
      ∙ ap (λ k. replicate k (pos 0)) (sym (places_with g.of S.places (owner_count R g.of) g.members.items S)))
      ∙ ap (λ (r : List Route). record { supplies = replicate (after R S g).places (pos 0); routes = r })
      (ap (λ ls. all_moved (leaves g.of) n (map (move_of g) R.pairs) (map (nested_route S) R.pairs ++ (side_routes R ++ links)) ++ ls)
      (links_are R S g n n_is)
      ∙ ap (λ rs. rs ++ link_routes R S g) (next_routes R S sound n n_is g (side_routes R ++ links) R.pairs ends.pairs)
      ∙ append_assoc (map (nested_route (after R S g)) R.pairs) (side_routes R ++ links) (link_routes R S g)
      ∙ ap (λ rs. map (nested_route (after R S g)) R.pairs ++ rs) (append_assoc (side_routes R) links (link_routes R S g)))

-- ---- groups without faults

kept_none : {X Y : Type 0} (f : X → Y) (a : Option X) (b : Option Y) → option_or (option_map f a) b ≡ None → (a ≡ None) × (b ≡ None)
kept_none f (Some x) b e = cc e
kept_none f None b e = (refl, e)

-- what a group without faults says
pub record IsFine (R : Roster) (S : Nest) (g : Group) : Type 0 where
  pub members : All (λ v. IsNode (member_count R g.of) v) g.members.items
  pub few : (S.places + owner_count R g.of) ≤ PLACE_LIMIT
  pub together : (u : ℕ) → in_list g.members.items u ≡ true → entry (befores g.of S) u ≡ old_before R S g

one_stands : (place : ℕ) (before ms : List ℕ) (w u : ℕ) (b : Bool) → eqb w u ≡ b → entry before w ≡ place
    → (in_list ms u ≡ true → entry before u ≡ place) → (b || in_list ms u) ≡ true → entry before u ≡ place
one_stands place before ms w u true e here rest is = ap (entry before) (sym (eqb-true w u e)) ∙ here
one_stands place before ms w u false e here rest is = rest is

stand_together : (place : ℕ) (before ms : List ℕ) (u : ℕ) → list_any (λ v. not (eqb (entry before v) place)) ms ≡ false → in_list ms u ≡ true
    → entry before u ≡ place
stand_together place before [] u h is = cc is
stand_together place before (w ∷ ms) u h is =
    let both = or_false (not (eqb (entry before w) place)) (list_any (λ v. not (eqb (entry before v) place)) ms) h in
    one_stands place before ms w u (eqb w u) refl (eqb-true (entry before w) place (not_false (eqb (entry before w) place) both.0))
    (stand_together place before ms u both.1) is

not_above : (x y : ℕ) → nat_lt x y ≡ false → y ≤ x
not_above x y h = grind arith

pub fine_from : (R : Roster) (S : Nest) (g : Group) → fault_of R S g ≡ None → IsFine R S g
fine_from R S g e =
    let none = find_none (has_fault R S g) group_faults e in
    let astray : list_any (λ v. not (is_place (member_count R g.of) v)) g.members.items ≡ false = none 1 Empty (omega arith) in
    let apart : list_any (λ v. not (eqb (entry (befores g.of S) v) (old_before R S g))) g.members.items ≡ false = none 3 Empty (omega arith) in
    record {
      members = all_of (λ v. not (is_place (member_count R g.of) v) ≡ false) (λ v. IsNode (member_count R g.of) v) g.members.items
          (λ v h. is_node (member_count R g.of) v (not_false (is_place (member_count R g.of) v) h))
          (any_none (λ v. not (is_place (member_count R g.of) v)) g.members.items astray);
      few = not_above PLACE_LIMIT (S.places + owner_count R g.of) (none 2 Empty (omega arith));
      together = λ u is. stand_together (old_before R S g) (befores g.of S) g.members.items u apart is;
    }

pub first_fine : (R : Roster) (S : Nest) (number : ℕ) (g : Group) (gs : List Group) → fault_from R S number (g ∷ gs) ≡ None
    → (fault_of R S g ≡ None) × (fault_from R (after R S g) (suc number) gs ≡ None)
first_fine R S number g gs e =
    kept_none (λ (what : GroupFaultKind). let made : GroupFault = record { group = number; what = what } in made) (fault_of R S g)
    (fault_from R (after R S g) (suc number) gs) e

-- ---- what may be split

owner_is : (of : Members) (R : Roster) (p : Pair) → HasBothEnds (length R.takes) (length R.needs) p → IsNode (owner_count R of) (owner_of of p)
owner_is Things R p h = h.person
owner_is Persons R p h = h.thing

end_is : (of : Members) (S : Nest) (p : Pair) → end_of (leaves of) (nested_route S p) ≡ entry (befores of S) (member_of of p) + owner_of of p
end_is Things S p = refl
end_is Persons S p = refl

module _ (R : Roster) (S : Nest) (g : Group) (fine : IsFine R S g) where
  may_move : (p : Pair) → HasBothEnds (length R.takes) (length R.needs) p → MayMove (leaves g.of) (split_of R S g).olds (move_of g p) (nested_route S p)
  may_move p h = go (in_list g.members.items (member_of g.of p)) refl (owner_of g.of p) refl
    where
      go : (b : Bool) → in_list g.members.items (member_of g.of p) ≡ b → (o : ℕ) → owner_of g.of p ≡ o
          → MayMove (leaves g.of) (split_of R S g).olds (if b then o else 0) (nested_route S p)
      go false is o e = tt
      go true is zero e = absurd (let k = owner_is g.of R p h in omega (arith, k, e))
      go true is (suc o) e =
          let is_owner : IsNode (owner_count R g.of) (suc o) = subst (IsNode (owner_count R g.of)) e (owner_is g.of R p h) in (
            (is_owner.0, omega (arith, is_owner, olds_long R S g)),
            end_is g.of S p ∙ ap (λ t. t + owner_of g.of p) (fine.together (member_of g.of p) is) ∙ ap (λ t. old_before R S g + t) e
                ∙ sym (old_is R S g (suc o) is_owner),
          )

  may_all : (others : List Route) (ps : List Pair) → All (HasBothEnds (length R.takes) (length R.needs)) ps
      → MayAllMove (leaves g.of) (split_of R S g).olds (map (move_of g) ps) (map (nested_route S) ps ++ others)
  may_all others [] h = tt
  may_all others (p ∷ ps) h = (
    may_move p (All-head (HasBothEnds (length R.takes) (length R.needs)) p ps h),
    may_all others ps (All-tail (HasBothEnds (length R.takes) (length R.needs)) p ps h),
  )

module _ (R : Roster) (S : Nest) (ends : IsSoundRoster R) (sound : IsSoundNest R S) where
  pub routes_end : (links : List Route) → All (HasEnds S.places) links → All (HasEnds S.places) (staged R S links).routes
  routes_end links h =
      All-append (HasEnds S.places) (map (nested_route S) R.pairs) (side_routes R ++ links)
      (All-map (HasEnds S.places) (nested_route S) R.pairs
      (all_of (HasBothEnds (length R.takes) (length R.needs)) (λ p. HasEnds S.places (nested_route S p)) R.pairs
      (λ p k. let t = owners_fit R S sound Things p.what in let u = owners_fit R S sound Persons p.who in
      record { tail_is_place = (omega (arith, k.person), omega (arith, t, k.person)); head_is_place = (omega (arith, k.thing), omega (arith, u, k.thing)) })
      ends.pairs))
      (All-append (HasEnds S.places) (side_routes R) links
      (All-append (HasEnds S.places) (map (person_route R) (range_with_len 1 (length R.takes))) (map (thing_route R) (range_with_len 1 (length R.needs)))
      (all_range (HasEnds S.places) (person_route R) (length R.takes)
      (λ v k. record { tail_is_place = (omega arith, sound.hub); head_is_place = (k.0, omega (arith, k, sound.hub)) }))
      (all_range (HasEnds S.places) (thing_route R) (length R.needs)
      (λ v k. record { tail_is_place = (omega (arith, k), omega (arith, k, sound.hub)); head_is_place = (omega arith, sound.hub) }))) h)

  pub may_split : (links : List Route) → All (HasEnds S.places) links → (g : Group) → IsFine R S g → MaySplit (staged R S links) (split_of R S g)
  may_split links h g fine =
      let e = length-replicate S.places (pos 0) in
      record {
        ends = subst (λ k. All (HasEnds k) (staged R S links).routes) (sym e) (routes_end links h);
        old_places = subst (λ k. All (IsNode k) (split_of R S g).olds) (sym e)
            (all_range (IsNode S.places) (λ v. old_before R S g + v) (owner_count R g.of)
            (λ v k. let few = old_fits R S sound g in (omega (arith, k), omega (arith, k, few))));
        moves = may_all R S g fine (side_routes R ++ links) R.pairs ends.pairs;
      }

  link_ends : (leave : Bool) (old new n : ℕ) (l u : ℤ) → IsNode n old → IsNode n new → HasEnds n (link leave old new l u)
  link_ends true old new n l u h k = record { tail_is_place = h; head_is_place = k }
  link_ends false old new n l u h k = record { tail_is_place = k; head_is_place = h }

  pub links_end : (links : List Route) → All (HasEnds S.places) links → (g : Group) → All (HasEnds (after R S g).places) (links ++ link_routes R S g)
  links_end links h g =
      let n = (after R S g).places in
      let e : n ≡ S.places + owner_count R g.of = places_with g.of S.places (owner_count R g.of) g.members.items S in
      let few = old_fits R S sound g in
      All-append (HasEnds n) links (link_routes R S g)
      (all_of (HasEnds S.places) (HasEnds n) links
      (λ r k. record {
        tail_is_place = (k.tail_is_place.0, omega (arith, k.tail_is_place, e));
        head_is_place = (k.head_is_place.0, omega (arith, k.head_is_place, e));
      }) h)
      (all_range (HasEnds n) (λ v. link (leaves g.of) (old_before R S g + v) (S.places + v) (pos g.range.least) (pos g.range.most)) (owner_count R g.of)
      (λ v k. link_ends (leaves g.of) (old_before R S g + v) (S.places + v) n (pos g.range.least) (pos g.range.most) (omega (arith, k), omega (arith, k, few, e))
      (omega (arith, k), omega (arith, k, e))))

-- ---- no groups

pub mapped_alike : {X Y : Type 0} (H : X → Type 0) (f g : X → Y) → ((x : X) → H x → f x ≡ g x) → (xs : List X) → All H xs → map f xs ≡ map g xs
mapped_alike H f g e [] h = refl
mapped_alike H f g e (x ∷ xs) h =
    ap (λ y. y ∷ map f xs) (e x (All-head H x xs h)) ∙ ap (λ ys. g x ∷ ys) (mapped_alike H f g e xs (All-tail H x xs h))

pub append_none : {X : Type 0} (xs : List X) → xs ≡ xs ++ []
append_none [] = refl
append_none (x ∷ xs) = ap (λ ys. x ∷ ys) (append_none xs)

pub start_staged : (R : Roster) → IsSoundRoster R → model_of R ≡ staged R (start_of R) []
start_staged R sound =
    ap (λ (r : List Route). record { supplies = replicate (hub_of R) (pos 0); routes = r })
    (ap (λ rs. rs ++ side_routes R)
    (mapped_alike (HasBothEnds (length R.takes) (length R.needs)) (pair_route (length R.takes)) (nested_route (start_of R))
    (λ p h.
    let t = get_or-replicate {A = ℕ} (length R.needs) (p.what - 1) 0 0 (omega (arith, h.thing)) in
    let u = get_or-replicate {A = ℕ} (length R.takes) (p.who - 1) (length R.takes) 0 (omega (arith, h.person)) in
    let who : p.who ≡ entry (start_of R).tails p.what + p.who = omega (arith, t) in
    ap (λ v. plain_route v (length R.takes + p.what) one_or_none p.cost) who
    ∙ ap (λ v. plain_route (entry (start_of R).tails p.what + p.who) (v + p.what) one_or_none p.cost) (sym u)) R.pairs sound.pairs)
    ∙ ap (λ rs. map (nested_route (start_of R)) R.pairs ++ rs) (append_none (side_routes R)))
