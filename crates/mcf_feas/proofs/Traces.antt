-- The path to a visited node, from its end.
use Rattle.std.proofs.Common.{◌≡◌, ◌≢◌, ℕ, ◌<◌, List, ◌∷◌, length, get_or, refl, ap, sym, subst, ◌∙◌, arith, ℤ, pos, ◌+ℤ◌, ◌≤ℤ◌, ◌<ℤ◌, ◌⊎◌, inl, inr}
use Rattle.std.proofs.Common.{Option, Some, None, suc}
use Rattle.std.specs.List.{All, AllPairs, Any}
use Rattle.std.specs.Int.{int_min}
use Rattle.std.proofs.lemmas.Int.{by_lt_z, clamps, ints}
use Rattle.std.proofs.lemmas.List.{get_or_default}
use Rattle.std.proofs.lemmas.List.Elements.{All-cons}
use Rattle.std.proofs.lemmas.List.Kept.{AllPairs-cons}
use Rattle.mcf_network.specs.declared.rid.Rid.{Rid}
use Rattle.mcf_network.specs.Residual.{head}
use Rattle.mcf_network.specs.States.{Pseudoflow, room_of, surplus_at}
use Rattle.mcf_network.specs.Walks.{HasRoomFor, IsWalk}
use Rattle.mcf_feas.specs.declared.path_search.Predecessor.{Predecessor}
use Rattle.mcf_feas.specs.declared.path_search.Visit.{Visit}
use Rattle.mcf_feas.specs.Private.Searching.{IsPredecessor, IsPath, IsReachedBy, IsForest, TakesAll, node_at}

-- what the lesser of two numbers above 0 is
pub record IsLesser (x y least : ℤ) : Type 0 where
  pub positive : pos 0 <ℤ least
  pub first : least ≤ℤ x
  pub second : least ≤ℤ y
  pub either : (least ≡ x) ⊎ (least ≡ y)

lesser : (x y : ℤ) → pos 0 <ℤ x → pos 0 <ℤ y → IsLesser x y (int_min x y)
lesser x y px py =
    record {
      positive = omega (arith, ints, clamps, px, py);
      first = omega (arith, ints, clamps);
      second = omega (arith, ints, clamps);
      either = by_lt_z x y (λ p. inl (omega (arith, ints, clamps, p))) (λ p. inr (omega (arith, ints, clamps, p)));
    }

-- the lesser of two numbers, as the code gives it: y is read as r, and the lesser, m, as least
pub lesser_read : (x r y m least : ℤ) → pos 0 <ℤ x → pos 0 <ℤ y → r ≡ y → m ≡ int_min x r → least ≡ m → IsLesser x y least
lesser_read x r y m least px py er em e =
    subst (λ (z : ℤ). IsLesser x y z) (sym (e ∙ em ∙ ap (int_min x) er)) (lesser x y px py)

-- a residual arc enters a node visited after this place
abbrev EntersLater : Pseudoflow → List Visit → ℕ → Rid → Type 0
EntersLater s visits place r = (p : ℕ) × (place < p) × (p < length visits) × (head s.net r ≡ node_at visits p)

-- x is all that w takes, or all the room of an arc
abbrev IsAllBut : Pseudoflow → List Rid → ℕ → ℤ → Type 0
IsAllBut s walk w x = (x +ℤ surplus_at s w ≡ pos 0) ⊎ Any (λ r. x ≡ room_of s r) walk

-- with an arc more at the front, y is as much as before, or all the room of that arc
all_but_next : (s : Pseudoflow) (walk : List Rid) (r : Rid) (w : ℕ) (x y : ℤ) → (y ≡ x) ⊎ (y ≡ room_of s r) → IsAllBut s walk w x → IsAllBut s (r ∷ walk) w y
all_but_next s walk r w x y (inl e) (inl all) = inl (ap (λ z. z +ℤ surplus_at s w) e ∙ all)
all_but_next s walk r w x y (inl e) (inr (k, q, h, at, is)) = inr (suc k, q, omega arith, at, e ∙ is)
all_but_next s walk r w x y (inr e) all = inr (0, r, omega arith, refl, e)

all_of_it : (s : Pseudoflow) (u : ℕ) (walk : List Rid) (w : ℕ) (x y : ℤ) → (y ≡ x) ⊎ (y ≡ surplus_at s u) → IsAllBut s walk w x → TakesAll s u walk w y
all_of_it s u walk w x y (inr e) all = inl e
all_of_it s u walk w x y (inl e) (inl all) = inr (inl (ap (λ z. z +ℤ surplus_at s w) e ∙ all))
all_of_it s u walk w x y (inl e) (inr (k, q, h, at, is)) = inr (inr (k, q, h, at, e ∙ is))

-- a walk from the node at a place to w, along which x can go
pub record IsTrace (s : Pseudoflow) (visits : List Visit) (place : ℕ) (walk : List Rid) (w : ℕ) (x : ℤ) : Type 0 where
  pub in_range : place < length visits
  pub walks : IsWalk s.net (node_at visits place) walk w
  pub room : All (HasRoomFor s x) walk
  pub later : All (EntersLater s visits place) walk
  pub distinct : AllPairs (λ r q. r ≢ q) walk
  pub positive : pos 0 <ℤ x
  pub taken : (x +ℤ surplus_at s w) ≤ℤ pos 0
  pub most : IsAllBut s walk w x

module _ (s : Pseudoflow) (visits : List Visit) (place : ℕ) (walk : List Rid) (w : ℕ) (x y : ℤ) (ok : IsForest s visits)
    (old : IsTrace s visits place walk w x) (pos_y : pos 0 <ℤ y) (le_x : y ≤ℤ x) where
  -- the path back goes on to the predecessor
  pub trace_step : (l : Predecessor) → IsPredecessor s visits place l → y ≤ℤ room_of s l.along → (y ≡ x) ⊎ (y ≡ room_of s l.along)
      → IsTrace s visits l.place (l.along ∷ walk) w y
  trace_step l predecessor le_room either =
      let earlier = predecessor.earlier in
      let in_range = old.in_range in
      let taken = old.taken in
      let arc = predecessor.room in
      record {
        in_range = omega arith;
        walks = (predecessor.from, subst (λ u. IsWalk s.net u walk w) (sym predecessor.to) old.walks);
        room = All-cons (HasRoomFor s y) l.along walk (record { arc = arc.arc; room = le_room })
            (λ k d h. let there = old.room k d h in let room = there.room in record { arc = there.arc; room = omega (arith, ints, room, le_x) });
        later = All-cons (EntersLater s visits l.place) l.along walk (place, earlier, in_range, predecessor.to)
            (λ k d h. let (p, a, b, e) = old.later k d h in (p, omega arith, b, e));
        distinct = AllPairs-cons (λ r q. r ≢ q) l.along walk (λ k d h same. let (p, a, b, e) = old.later k d h in
            ok.distinct place p a b (sym predecessor.to ∙ ap (head s.net) same ∙ e)) old.distinct;
        positive = pos_y;
        taken = omega (arith, ints, taken, le_x);
        most = all_but_next s walk l.along w x y either old.most;
      }

  -- the path begins at a node with a surplus
  pub trace_end : y ≤ℤ surplus_at s (node_at visits place) → (y ≡ x) ⊎ (y ≡ surplus_at s (node_at visits place)) → IsPath s walk w y
  trace_end le either =
      let taken = old.taken in
      record {
        source = node_at visits place;
        is_node = ok.are_nodes place old.in_range;
        walk = old.walks;
        can = record {
          low = omega (arith, ints, pos_y);
          room = λ k d h. let there = old.room k d h in let room = there.room in record { arc = there.arc; room = omega (arith, ints, room, le_x) };
          distinct = old.distinct;
        };
        positive = pos_y;
        held = le;
        taken = omega (arith, ints, taken, le_x);
        most = all_of_it s (node_at visits place) walk w x y either old.most;
      }

-- how a search came to a node, by cases on its predecessor
reached_at : (s : Pseudoflow) (visits : List Visit) (place : ℕ) (d : Visit) (o : Option Predecessor) → IsForest s visits → place < length visits
    → (get_or visits place d).predecessor ≡ o → IsReachedBy s visits place o
reached_at s visits place d o ok h e =
    subst (λ (q : Option Predecessor). IsReachedBy s visits place q)
    (ap (λ (x : Visit). x.predecessor) (get_or_default visits place (record { node = 0; predecessor = None }) d h)
    ∙ e) (ok.reached place h)

pub reached_none : (s : Pseudoflow) (visits : List Visit) (place : ℕ) (d : Visit) → IsForest s visits → place < length visits
    → (get_or visits place d).predecessor ≡ None → pos 0 <ℤ surplus_at s (node_at visits place)
reached_none s visits place d ok h e = reached_at s visits place d None ok h e

pub reached_some : (s : Pseudoflow) (visits : List Visit) (place : ℕ) (d : Visit) (l : Predecessor) → IsForest s visits → place < length visits
    → (get_or visits place d).predecessor ≡ Some l → IsPredecessor s visits place l
reached_some s visits place d l ok h e = reached_at s visits place d (Some l) ok h e
