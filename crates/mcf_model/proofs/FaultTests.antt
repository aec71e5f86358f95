-- What the tests of a route say that find what is wrong with it, where they fail and where they
-- pass.
use Rattle.std.proofs.Common.{◌≡◌, ℕ, ◌≤◌, ◌==◌, Bool, true, false, cond, not, ◌&&◌, ◌||◌, List, [], ◌∷◌, length, refl, ap, sym, ◌∙◌, arith, ℤ, pos, ◌≤ℤ◌, int_lt}
use Rattle.std.specs.Prelude.{Option, Some, None, find}
use Rattle.std.specs.List.{All, list_any}
use Rattle.std.specs.Option.{is_none}
use Rattle.std.specs.Ordering.{int_eq}
use Rattle.std.proofs.lemmas.Int.{ints}
use Rattle.std.proofs.lemmas.List.Elements.{All-cons, All-head, All-tail}
use Rattle.std.proofs.lemmas.List.Folds.{list_any_none}
use Rattle.mcf_flows.specs.Network.{IsNode}
use Rattle.mcf_model.specs.declared.rows.Step.{Step}
use Rattle.mcf_model.specs.Faults.{earns, falls, first_cost, is_below, is_place, takes_below}
use Rattle.mcf_model.specs.Model.{Adds, AreRooms, CostAtLeast, IsLimited, IsRoom, MayBeBoth, Rises}

-- ---- tests that fail

pub or_false : (a b : Bool) → (a || b) ≡ false → (a ≡ false) × (b ≡ false)
or_false true b e = cc e
or_false false b e = (refl, e)

pub from_or_false : (a b : Bool) → a ≡ false → b ≡ false → (a || b) ≡ false
from_or_false true b e f = cc e
from_or_false false b e f = f

pub not_false : (a : Bool) → not a ≡ false → a ≡ true
not_false true e = refl
not_false false e = cc e

pub from_not_false : (a : Bool) → a ≡ true → not a ≡ false
from_not_false true e = refl
from_not_false false e = cc e

pub and_true : (a b : Bool) → (a && b) ≡ true → (a ≡ true) × (b ≡ true)
and_true true b e = (refl, e)
and_true false b e = cc e

pub from_and_true : (a b : Bool) → a ≡ true → b ≡ true → (a && b) ≡ true
from_and_true true b e f = f
from_and_true false b e f = cc e

pub any_none : {X : Type 0} (p : X → Bool) (xs : List X) → list_any p xs ≡ false → All (λ x. p x ≡ false) xs
any_none p [] e = λ k d z. absurd (omega arith)
any_none p (x ∷ xs) e =
    let both = or_false (p x) (list_any p xs) e in All-cons (λ x. p x ≡ false) x xs both.0 (any_none p xs both.1)

pub all_of : {X : Type 0} (P Q : X → Type 0) (xs : List X) → ((x : X) → P x → Q x) → All P xs → All Q xs
all_of P Q xs f h = λ k d l. f _ (h k d l)

pub find_none : {X : Type 0} (p : X → Bool) (xs : List X) → find p xs ≡ None → All (λ x. p x ≡ false) xs
find_none p [] e = λ k d z. absurd (omega arith)
find_none p (x ∷ xs) e = go (p x) refl e (find_none p xs)
  where
    go : (b : Bool) → p x ≡ b → cond b (Some x) (find p xs) ≡ None → (find p xs ≡ None → All (λ x. p x ≡ false) xs) → All (λ x. p x ≡ false) (x ∷ xs)
    go true is e rest = cc e
    go false is e rest = All-cons (λ x. p x ≡ false) x xs is (rest e)

pub none_found : {X : Type 0} (p : X → Bool) (xs : List X) → All (λ x. p x ≡ false) xs → find p xs ≡ None
none_found p [] h = refl
none_found p (x ∷ xs) h = rw (All-head (λ x. p x ≡ false) x xs h) (none_found p xs (All-tail (λ x. p x ≡ false) x xs h))

-- ---- what each test says

pub is_node : (n v : ℕ) → is_place n v ≡ true → IsNode n v
is_node n v e = (grind arith, grind arith)

pub from_node : (n v : ℕ) → IsNode n v → is_place n v ≡ true
from_node n v h = let a : 1 ≤ v = h.0 in let b : v ≤ n = h.1 in grind arith

pub not_below : (x y : ℤ) → int_lt x y ≡ false → y ≤ℤ x
not_below x y e = grind (arith, ints)

pub from_not_below : (x y : ℤ) → y ≤ℤ x → int_lt x y ≡ false
from_not_below x y h = grind (arith, ints)

-- costs
pub no_earnings : (steps : List Step) (c : ℤ) → earns steps c ≡ false → CostAtLeast (pos 0) steps c
no_earnings [] c e = not_below c (pos 0) e
no_earnings (s ∷ steps) c e =
    let first = or_false (int_lt s.cost (pos 0) || list_any (λ s. int_lt s.cost (pos 0)) steps) (int_lt c (pos 0)) e in
    let both = or_false (int_lt s.cost (pos 0)) (list_any (λ s. int_lt s.cost (pos 0)) steps) first.0 in
    (not_below s.cost (pos 0) both.0, no_earnings steps c (from_or_false (list_any (λ s. int_lt s.cost (pos 0)) steps) (int_lt c (pos 0)) both.1 first.1))

pub from_no_earnings : (steps : List Step) (c : ℤ) → CostAtLeast (pos 0) steps c → earns steps c ≡ false
from_no_earnings [] c h = from_not_below c (pos 0) h
from_no_earnings (s ∷ steps) c h =
    let rest = or_false (list_any (λ s. int_lt s.cost (pos 0)) steps) (int_lt c (pos 0)) (from_no_earnings steps c h.1) in
    from_or_false (int_lt s.cost (pos 0) || list_any (λ s. int_lt s.cost (pos 0)) steps) (int_lt c (pos 0))
    (from_or_false (int_lt s.cost (pos 0)) (list_any (λ s. int_lt s.cost (pos 0)) steps) (from_not_below s.cost (pos 0) h.0) rest.0) rest.1

pub at_least_from : (b : ℤ) (steps : List Step) (c : ℤ) → Rises steps c → b ≤ℤ first_cost steps c → CostAtLeast b steps c
at_least_from b [] c h k = k
at_least_from b (s ∷ steps) c h k = (k, lower b s.cost steps c k h.0)
  where
    lower : (b k : ℤ) (steps : List Step) (c : ℤ) → b ≤ℤ k → CostAtLeast k steps c → CostAtLeast b steps c
    lower b k [] c l h = omega (arith, ints, l, h)
    lower b k (s ∷ steps) c l h = (omega (arith, ints, l, h.0), lower b k steps c l h.1)

pub rises_from : (steps : List Step) (c : ℤ) → falls steps c ≡ false → Rises steps c
rises_from [] c e = tt
rises_from (s ∷ steps) c e =
    let both = or_false (int_lt (first_cost steps c) s.cost) (falls steps c) e in
    let rest = rises_from steps c both.1 in
    (at_least_from s.cost steps c rest (not_below (first_cost steps c) s.cost both.0), rest)

pub first_at_least : (b : ℤ) (steps : List Step) (c : ℤ) → CostAtLeast b steps c → b ≤ℤ first_cost steps c
first_at_least b [] c h = h
first_at_least b (s ∷ steps) c h = h.0

pub from_rises : (steps : List Step) (c : ℤ) → Rises steps c → falls steps c ≡ false
from_rises [] c h = refl
from_rises (s ∷ steps) c h =
    from_or_false (int_lt (first_cost steps c) s.cost) (falls steps c)
    (from_not_below (first_cost steps c) s.cost (first_at_least s.cost steps c h.0)) (from_rises steps c h.1)

-- rooms
pub is_room : (most : Option ℤ) → is_below most ≡ false → IsRoom most
is_room (Some m) e = not_below m (pos 0) e
is_room None e = tt

pub from_room : (most : Option ℤ) → IsRoom most → is_below most ≡ false
from_room (Some m) h = from_not_below m (pos 0) h
from_room None h = refl

pub are_rooms : (steps : List Step) (most : Option ℤ) → All (λ s. pos 0 ≤ℤ s.most) steps → IsRoom most → AreRooms steps most
are_rooms [] most h k = k
are_rooms (s ∷ steps) most h k =
    (All-head (λ s. pos 0 ≤ℤ s.most) s steps h, are_rooms steps most (All-tail (λ s. pos 0 ≤ℤ s.most) s steps h) k)

pub last_room : (steps : List Step) (most : Option ℤ) → AreRooms steps most → IsRoom most
last_room [] most h = h
last_room (s ∷ steps) most h = last_room steps most h.1

pub steps_take : (steps : List Step) (both : Bool) (most : Option ℤ) → takes_below steps both most ≡ false → All (λ s. pos 0 ≤ℤ s.most) steps
steps_take steps both most e =
    all_of (λ s. int_lt s.most (pos 0) ≡ false) (λ s. pos 0 ≤ℤ s.most) steps (λ s h. not_below s.most (pos 0) h)
    (any_none (λ s. int_lt s.most (pos 0)) steps
    (or_false (list_any (λ s. int_lt s.most (pos 0)) steps) ((both || not (length steps == 0)) && is_below most) e).0)

pub last_takes : (steps : List Step) (both : Bool) (most : Option ℤ) → takes_below steps both most ≡ false → (both || not (length steps == 0)) ≡ true → IsRoom most
last_takes steps both most e h =
    is_room most
    (sym (ap (λ b. b && is_below most) h) ∙ (or_false (list_any (λ s. int_lt s.most (pos 0)) steps) ((both || not (length steps == 0)) && is_below most) e).1)

pub some_steps : (s : Step) (steps : List Step) → (length (s ∷ steps) == 0) ≡ false
some_steps s steps = grind arith

pub adds_from : (steps : List Step) (both : Bool) (most : Option ℤ) → takes_below steps both most ≡ false → Adds steps most
adds_from [] both most e = tt
adds_from (s ∷ steps) both most e =
    are_rooms steps most (All-tail (λ s. pos 0 ≤ℤ s.most) s steps (steps_take (s ∷ steps) both most e)) (last_takes (s ∷ steps) both most e
    (ap (λ b. both || not b) (some_steps s steps) ∙ or_true both))
  where
    or_true : (b : Bool) → (b || true) ≡ true
    or_true true = refl
    or_true false = refl

pub both_rooms : (steps : List Step) (most : Option ℤ) → takes_below steps true most ≡ false → AreRooms steps most
both_rooms steps most e = are_rooms steps most (steps_take steps true most e) (last_takes steps true most e refl)

pub from_takes : (steps : List Step) (both : Bool) (most : Option ℤ) → All (λ s. pos 0 ≤ℤ s.most) steps → Adds steps most
    → (both ≡ true → IsRoom most) → takes_below steps both most ≡ false
from_takes steps both most h adds room =
    from_or_false (list_any (λ s. int_lt s.most (pos 0)) steps) ((both || not (length steps == 0)) && is_below most)
    (list_any_none (λ s. int_lt s.most (pos 0)) steps
    (all_of (λ s. pos 0 ≤ℤ s.most) (λ s. int_lt s.most (pos 0) ≡ false) steps (λ s k. from_not_below s.most (pos 0) k) h))
    (last steps both adds room)
  where
    and_false : (b : Bool) → (b && false) ≡ false
    and_false true = refl
    and_false false = refl

    last : (steps : List Step) (both : Bool) → Adds steps most → (both ≡ true → IsRoom most) → ((both || not (length steps == 0)) && is_below most) ≡ false
    last [] true adds room = from_room most (room refl)
    last [] false adds room = refl
    last (s ∷ steps) both adds room =
        ap (λ b. (both || not (length (s ∷ steps) == 0)) && b) (from_room most (last_room steps most adds)) ∙ and_false (both || not (length (s ∷ steps) == 0))

-- both ways
pub may_be_both : (both : Bool) (least : ℤ) (steps : List Step) (most : Option ℤ) (c : ℤ) → takes_below steps both most ≡ false
    → (both && (not (int_eq least (pos 0)) || earns steps c)) ≡ false → MayBeBoth both least steps most c
may_be_both false least steps most c e f = tt
may_be_both true least steps most c e f =
    let two = or_false (not (int_eq least (pos 0))) (earns steps c) f in
    (equal least (not_false (int_eq least (pos 0)) two.0), no_earnings steps c two.1, both_rooms steps most e)
  where
    equal : (x : ℤ) → int_eq x (pos 0) ≡ true → x ≡ pos 0
    equal x h = grind (arith, ints)

pub from_both : (both : Bool) (least : ℤ) (steps : List Step) (most : Option ℤ) (c : ℤ) → MayBeBoth both least steps most c
    → (both && (not (int_eq least (pos 0)) || earns steps c)) ≡ false
from_both false least steps most c h = refl
from_both true least steps most c h =
    from_or_false (not (int_eq least (pos 0))) (earns steps c) (from_not_false (int_eq least (pos 0)) (equal least h.0)) (from_no_earnings steps c h.1)
  where
    equal : (x : ℤ) → x ≡ pos 0 → int_eq x (pos 0) ≡ true
    equal x e = rw e refl

pub room_both : (both : Bool) (least : ℤ) (steps : List Step) (most : Option ℤ) (c : ℤ) → MayBeBoth both least steps most c → both ≡ true → IsRoom most
room_both true least steps most c h e = last_room steps most h.2
room_both false least steps most c h e = cc e

-- limits
pub limited_from : (most : Option ℤ) → is_none most ≡ false → IsLimited most
limited_from (Some m) e = tt
limited_from None e = cc e

pub from_limited : (most : Option ℤ) → IsLimited most → is_none most ≡ false
from_limited (Some m) h = refl
from_limited None h = absurd h
