-- A group that crosses has an earlier one that it crosses.
use Rattle.std.proofs.Common.{◌≡◌, ℕ, suc, ◌+◌, ◌-◌, eqb, Bool, true, false, not, ◌&&◌, ◌||◌, List, [], ◌∷◌, length, take, refl, ap, sym, ◌∙◌, subst, arith}
use Rattle.std.specs.Prelude.{Option, Some, None, if◌then◌else◌, option_map, slice_get}
use Rattle.std.specs.List.{All, list_any}
use Rattle.std.specs.Option.{option_or}
use Rattle.std.proofs.lemmas.Bool.{eq-eqb, eqb-true}
use Rattle.std.proofs.lemmas.List.{get_or-replicate, length-replicate}
use Rattle.std.proofs.lemmas.List.Elements.{All-cons, All-head, All-nil, All-tail}
use Rattle.mcf_flows.specs.Blocking.{in_list}
use Rattle.mcf_flows.specs.Network.{IsNode}
use Rattle.mcf_model.specs.Faults.{is_place}
use Rattle.mcf_model.proofs.FaultTests.{all_of, any_none, from_and_true, from_not_false, is_node, not_false}
use Rattle.mcf_roster.specs.RosterFaults.{first_number}
use Rattle.mcf_roster.specs.Rosters.{Roster}
use Rattle.mcf_groups.specs.declared.faults.GroupFault.{GroupFault}
use Rattle.mcf_groups.specs.declared.faults.GroupFaultKind.{GroupFaultKind}
use Rattle.mcf_groups.specs.declared.faults.GroupFaultKind.TheVariants.{Empty, Astray, Size, Crossing}
use Rattle.mcf_groups.specs.declared.groups.Group.{Group}
use Rattle.mcf_groups.specs.declared.groups.Members.{Members}
use Rattle.mcf_groups.specs.declared.groups.Members.TheVariants.{Things, Persons}
use Rattle.mcf_groups.specs.Crossings.{CrossingsAreCut, cut_by, has_some, is_cut_by, is_same, lacks_some}
use Rattle.mcf_groups.specs.GroupFaults.{fault_from, fault_of, has_fault, some_elsewhere}
use Rattle.mcf_groups.specs.Groups.{member_count, owner_count}
use Rattle.mcf_groups.specs.Nests.{Nest, after, before_first, befores, entry, first_before, nest_of, nest_with, placed, start_of}
use Rattle.mcf_groups.proofs.Stages.{placed_at, placed_long}

-- ---- tests of members

any_here : (a b : Bool) → a ≡ true → (a || b) ≡ true
any_here true b e = refl
any_here false b e = cc e

any_there : (a b : Bool) → b ≡ true → (a || b) ≡ true
any_there true b e = refl
any_there false b e = e

mem_case : (p : ℕ → Bool) (n v : ℕ) (ms : List ℕ) (b : Bool) → eqb n v ≡ b → (b || in_list ms v) ≡ true → p v ≡ true
    → (in_list ms v ≡ true → list_any p ms ≡ true) → (p n || list_any p ms) ≡ true
mem_case p n v ms true e is pv rest = any_here (p n) (list_any p ms) (ap p (eqb-true n v e) ∙ pv)
mem_case p n v ms false e is pv rest = any_there (p n) (list_any p ms) (rest is)

mem_any : (p : ℕ → Bool) (ms : List ℕ) (v : ℕ) → in_list ms v ≡ true → p v ≡ true → list_any p ms ≡ true
mem_any p [] v is pv = cc is
mem_any p (n ∷ ms) v is pv = mem_case p n v ms (eqb n v) refl is pv (λ e. mem_any p ms v e pv)

-- a list has both or none of two of these, where it doesn't have some and lack some
in_alike : (list ms : List ℕ) (u w : ℕ) → in_list ms u ≡ true → in_list ms w ≡ true → (has_some list ms && lacks_some list ms) ≡ false
    → in_list list u ≡ in_list list w
in_alike list ms u w hu hw none = go (in_list list u) refl (in_list list w) refl
  where
    both : (v x : ℕ) → in_list ms v ≡ true → in_list ms x ≡ true → in_list list v ≡ true → in_list list x ≡ false → ⊥
    both v x hv hx e f =
        cc (
          from_and_true (has_some list ms) (lacks_some list ms) (mem_any (in_list list) ms v hv e)
              (mem_any (λ y. not (in_list list y)) ms x hx (ap not f)),
          none,
        )

    go : (a : Bool) → in_list list u ≡ a → (b : Bool) → in_list list w ≡ b → in_list list u ≡ in_list list w
    go true e true f = e ∙ sym f
    go false e false f = e ∙ sym f
    go true e false f = absurd (both u w hu hw e f)
    go false e true f = absurd (both w u hw hu f e)

-- ---- two members of a group that no earlier one cuts stand together

placed_alike : (place : ℕ) (ms before : List ℕ) (u w : ℕ) → IsNode (length before) u → IsNode (length before) w → entry before u ≡ entry before w
    → in_list ms u ≡ in_list ms w → entry (placed place ms before) u ≡ entry (placed place ms before) w
placed_alike place ms before u w hu hw e f =
    placed_at place ms before u hu
    ∙ ap (λ b. if b then place else entry before u) f
    ∙ ap (λ x. if in_list ms w then place else x) e
    ∙ sym (placed_at place ms before w hw)

step_alike : (of other : Members) (place more : ℕ) (ms : List ℕ) (S : Nest) (u w : ℕ) → IsNode (length (befores of S)) u → IsNode (length (befores of S)) w
    → entry (befores of S) u ≡ entry (befores of S) w → (is_same of other ≡ true → in_list ms u ≡ in_list ms w)
    → entry (befores of (nest_with other place more ms S)) u ≡ entry (befores of (nest_with other place more ms S)) w
step_alike Things Things place more ms S u w hu hw e f = placed_alike place ms S.tails u w hu hw e (f refl)
step_alike Things Persons place more ms S u w hu hw e f = e
step_alike Persons Things place more ms S u w hu hw e f = e
step_alike Persons Persons place more ms S u w hu hw e f = placed_alike place ms S.heads u w hu hw e (f refl)

step_long : (of other : Members) (place more : ℕ) (ms : List ℕ) (S : Nest) → length (befores of (nest_with other place more ms S)) ≡ length (befores of S)
step_long Things Things place more ms S = placed_long place ms S.tails
step_long Things Persons place more ms S = refl
step_long Persons Things place more ms S = refl
step_long Persons Persons place more ms S = placed_long place ms S.heads

uncut : (a b : Bool) → (a && b) ≡ false → a ≡ true → b ≡ false
uncut true b e is = e
uncut false b e is = cc is

module _ (R : Roster) (g : Group) (u w : ℕ) (hu : in_list g.members.items u ≡ true) (hw : in_list g.members.items w ≡ true) where
  stay : (gs : List Group) (S : Nest) → IsNode (length (befores g.of S)) u → IsNode (length (befores g.of S)) w
      → entry (befores g.of S) u ≡ entry (befores g.of S) w → All (λ h. is_cut_by g h ≡ false) gs
      → entry (befores g.of (nest_of R S gs)) u ≡ entry (befores g.of (nest_of R S gs)) w
  stay [] S ku kw e none = e
  stay (h ∷ gs) S ku kw e none =
      let long = step_long g.of h.of S.places (owner_count R h.of) h.members.items S in
      let here = All-head (λ x. is_cut_by g x ≡ false) h gs none in
      stay gs (after R S h) (ku.0, omega (arith, ku, long)) (kw.0, omega (arith, kw, long))
      (step_alike g.of h.of S.places (owner_count R h.of) h.members.items S u w ku kw e
      (λ is. in_alike h.members.items g.members.items u w hu hw
      (uncut (is_same g.of h.of) (has_some h.members.items g.members.items && lacks_some h.members.items g.members.items) here is)))
      (All-tail (λ x. is_cut_by g x ≡ false) h gs none)

starts_long : (R : Roster) (of : Members) → length (befores of (start_of R)) ≡ member_count R of
starts_long R Things = length-replicate {A = ℕ} (length R.needs) 0
starts_long R Persons = length-replicate {A = ℕ} (length R.takes) (length R.takes)

starts_at : (R : Roster) (of : Members) (v : ℕ) → IsNode (member_count R of) v → entry (befores of (start_of R)) v ≡ first_before R of
starts_at R Things v k = get_or-replicate {A = ℕ} (length R.needs) (v - 1) 0 0 (omega (arith, k))
starts_at R Persons v k = get_or-replicate {A = ℕ} (length R.takes) (v - 1) (length R.takes) 0 (omega (arith, k))

-- ---- no crossing

refl_in : (m : ℕ) (ms : List ℕ) → in_list (m ∷ ms) m ≡ true
refl_in m ms = any_here (eqb m m) (in_list ms m) (eq-eqb m m refl)

none_fails : (p : ℕ → Bool) (ms : List ℕ) → ((v : ℕ) → in_list ms v ≡ true → p v ≡ false) → list_any p ms ≡ false
none_fails p [] h = refl
none_fails p (m ∷ ms) h = both (p m) (list_any p ms) (h m (refl_in m ms)) (none_fails p ms (λ v e. h v (any_there (eqb m v) (in_list ms v) e)))
  where
    both : (a b : Bool) → a ≡ false → b ≡ false → (a || b) ≡ false
    both true b e f = cc e
    both false b e f = f

stand_all : (none : ℕ) (before ms : List ℕ) → ((u w : ℕ) → in_list ms u ≡ true → in_list ms w ≡ true → entry before u ≡ entry before w)
    → some_elsewhere (before_first none before ms) before ms ≡ false
stand_all none before [] h = refl
stand_all none before (m ∷ ms) h =
    none_fails (λ v. not (eqb (entry before v) (entry before m))) (m ∷ ms)
    (λ v e. from_not_false (eqb (entry before v) (entry before m)) (eq-eqb (entry before v) (entry before m) (h v m e (refl_in m ms))))

member_in : (Q : ℕ → Type 0) (ms : List ℕ) → All Q ms → (v : ℕ) → in_list ms v ≡ true → Q v
member_in Q [] h v is = cc is
member_in Q (m ∷ ms) h v is = go (eqb m v) refl is (member_in Q ms (All-tail Q m ms h) v)
  where
    go : (b : Bool) → eqb m v ≡ b → (b || in_list ms v) ≡ true → (in_list ms v ≡ true → Q v) → Q v
    go true e is rest = subst Q (eqb-true m v e) (All-head Q m ms h)
    go false e is rest = rest is

no_crossing : (R : Roster) (gs : List Group) (g : Group) → All (IsNode (member_count R g.of)) g.members.items → All (λ h. is_cut_by g h ≡ false) gs
    → has_fault R (nest_of R (start_of R) gs) g Crossing ≡ false
no_crossing R gs g there none =
    stand_all (first_before R g.of) (befores g.of (nest_of R (start_of R) gs)) g.members.items
    (λ u w hu hw.
    let ku = member_in (IsNode (member_count R g.of)) g.members.items there u hu in
    let kw = member_in (IsNode (member_count R g.of)) g.members.items there w hw in
    let long = starts_long R g.of in
    stay R g u w hu hw gs (start_of R) (ku.0, omega (arith, ku, long)) (kw.0, omega (arith, kw, long))
    (starts_at R g.of u ku ∙ sym (starts_at R g.of w kw)) none)

-- ---- the group that has the first fault

found_crossing : (R : Roster) (S : Nest) (g : Group) → fault_of R S g ≡ Some Crossing → (has_fault R S g Astray ≡ false) × (has_fault R S g Crossing ≡ true)
found_crossing R S g is = go (has_fault R S g Empty) (has_fault R S g Astray) (has_fault R S g Size) (has_fault R S g Crossing) is
  where
    go : (a b c d : Bool) → (if a then Some Empty else (if b then Some Astray else (if c then Some Size else (if d then Some Crossing else None)))) ≡ Some Crossing
        → (b ≡ false) × (d ≡ true)
    go true b c d e = cc e
    go false true c d e = cc e
    go false false true d e = cc e
    go false false false true e = (refl, refl)
    go false false false false e = cc e

-- the group at a place has this fault, where the groups before it have led to a nest
pub record IsLocated (R : Roster) (S : Nest) (number : ℕ) (gs : List Group) (found : GroupFault) : Type 0 where
  pub place : ℕ
  pub group : Group
  pub number_is : found.group ≡ number + place
  pub group_is : slice_get gs place ≡ Some group
  pub fault_is : fault_of R (nest_of R S (take place gs)) group ≡ Some found.what

located : (R : Roster) (S : Nest) (number : ℕ) (gs : List Group) (found : GroupFault) → fault_from R S number gs ≡ Some found → IsLocated R S number gs found
located R S number [] found e = cc e
located R S number (g ∷ gs) found e = go (fault_of R S g) refl e (located R (after R S g) (suc number) gs found)
  where
    go : (o : Option GroupFaultKind) → fault_of R S g ≡ o
        → option_or (option_map (λ (what : GroupFaultKind). let made : GroupFault = record { group = number; what = what } in made) o)
        (fault_from R (after R S g) (suc number) gs) ≡ Some found
        → (fault_from R (after R S g) (suc number) gs ≡ Some found → IsLocated R (after R S g) (suc number) gs found) → IsLocated R S number (g ∷ gs) found
    go (Some what) is e rest =
        let same : record { group = number; what = what } ≡ found = cc e in
        record { place = 0; group = g; number_is = ap (λ (f : GroupFault). f.group) (sym same) ∙ omega arith; group_is = refl; fault_is = is ∙ ap (λ (f : GroupFault). Some f.what) same }
    go None is e rest =
        let r = rest e in
        record { place = suc r.place; group = r.group; number_is = omega (arith, r.number_is); group_is = r.group_is; fault_is = r.fault_is }

-- ---- the law

none_cut : (g : Group) (number : ℕ) (gs : List Group) → first_number (is_cut_by g) number gs ≡ None → All (λ h. is_cut_by g h ≡ false) gs
none_cut g number [] e = All-nil (λ h. is_cut_by g h ≡ false)
none_cut g number (h ∷ gs) e = go (is_cut_by g h) refl e (none_cut g (suc number) gs)
  where
    go : (b : Bool) → is_cut_by g h ≡ b → (if b then Some number else first_number (is_cut_by g) (suc number) gs) ≡ None
        → (first_number (is_cut_by g) (suc number) gs ≡ None → All (λ h. is_cut_by g h ≡ false) gs) → All (λ h. is_cut_by g h ≡ false) (h ∷ gs)
    go true is e rest = cc e
    go false is e rest = All-cons (λ h. is_cut_by g h ≡ false) h gs is (rest e)

pub crossings_are_cut_lem : CrossingsAreCut
crossings_are_cut_lem R groups number e none =
    let at = located R (start_of R) 1 groups (record { group = number; what = Crossing }) e in
    let place_is : number - 1 ≡ at.place = omega (arith, at.number_is) in
    let tests = found_crossing R (nest_of R (start_of R) (take at.place groups)) at.group at.fault_is in
    let uncut_by : first_number (is_cut_by at.group) 1 (take at.place groups) ≡ None
    = sym (ap (λ o. cut_by o (take at.place groups)) at.group_is) ∙ ap (λ k. cut_by (slice_get groups k) (take k groups)) (sym place_is) ∙ none in
    let there = all_of (λ v. not (is_place (member_count R at.group.of) v) ≡ false) (IsNode (member_count R at.group.of)) at.group.members.items
    (λ v h. is_node (member_count R at.group.of) v (not_false (is_place (member_count R at.group.of) v) h))
    (any_none (λ v. not (is_place (member_count R at.group.of) v)) at.group.members.items tests.0) in
    cc (no_crossing R (take at.place groups) at.group there (none_cut at.group 1 (take at.place groups) uncut_by), tests.1)
