-- Rosters without a first fault have no fault.
use Rattle.std.proofs.Common.{◌≡◌, ℕ, suc, ◌+◌, ◌≤◌, Bool, true, false, ◌&&◌, List, [], ◌∷◌, length, refl, arith}
use Rattle.std.specs.Prelude.{Option, Some, None, option_map, nat_lt, if◌then◌else◌}
use Rattle.std.specs.List.{All}
use Rattle.std.specs.Option.{option_or}
use Rattle.std.proofs.lemmas.List.Elements.{All-cons}
use Rattle.mcf_model.specs.Faults.{is_place}
use Rattle.mcf_model.proofs.FaultTests.{all_of, and_true, is_node, not_false}
use Rattle.mcf_roster.specs.declared.faults.RosterFault.{RosterFault}
use Rattle.mcf_roster.specs.declared.faults.RosterFault.TheVariants.{Size, Takes, Needs, Ends}
use Rattle.mcf_roster.specs.declared.faults.TheConstants.{SIZE_LIMIT}
use Rattle.mcf_roster.specs.declared.pairs.Pair.{Pair}
use Rattle.mcf_roster.specs.declared.pairs.Range.{Range}
use Rattle.mcf_roster.specs.RosterFaults.{HasBothEnds, HasNumbers, IsSoundRoster, fault_if, first_number, is_astray, is_empty, roster_fault, roster_of}

neither : {X : Type 0} (a b : Option X) → option_or a b ≡ None → (a ≡ None) × (b ≡ None)
neither (Some x) b e = cc e
neither None b e = (refl, e)

not_so : (b : Bool) (f : RosterFault) → fault_if b f ≡ None → b ≡ false
not_so true f e = cc e
not_so false f e = refl

unmapped : {X Y : Type 0} (f : X → Y) (o : Option X) → option_map f o ≡ None → o ≡ None
unmapped f (Some x) e = cc e
unmapped f None e = refl

none_numbered : {X : Type 0} (test : X → Bool) (v : ℕ) (xs : List X) → first_number test v xs ≡ None → All (λ x. test x ≡ false) xs
none_numbered test v [] e = λ k d l. absurd (omega arith)
none_numbered test v (x ∷ xs) e = go (test x) refl e (none_numbered test (suc v) xs)
  where
    go : (b : Bool) → test x ≡ b → (if b then Some v else first_number test (suc v) xs) ≡ None
        → (first_number test (suc v) xs ≡ None → All (λ x. test x ≡ false) xs) → All (λ x. test x ≡ false) (x ∷ xs)
    go true is e later = cc e
    go false is e later = All-cons (λ x. test x ≡ false) x xs is (later e)

not_above : (x y : ℕ) → nat_lt x y ≡ false → y ≤ x
not_above x y h = grind arith

pub sound_roster : (takes needs : List Range) (pairs : List Pair) → roster_fault takes needs pairs ≡ None → IsSoundRoster (roster_of takes needs pairs)
sound_roster takes needs pairs e =
    let n = length takes in
    let m = length needs in
    let a = neither (fault_if (nat_lt SIZE_LIMIT (n + m)) Size) _ e in
    let b = neither (option_map Takes (first_number is_empty 1 takes)) _ a.1 in
    let c = neither (option_map Needs (first_number is_empty 1 needs)) _ b.1 in
    record {
      few = not_above SIZE_LIMIT (n + m) (not_so (nat_lt SIZE_LIMIT (n + m)) Size a.0);
      takes = ranges takes (unmapped Takes (first_number is_empty 1 takes) b.0);
      needs = ranges needs (unmapped Needs (first_number is_empty 1 needs) c.0);
      pairs = all_of (λ p. is_astray n m p ≡ false) (HasBothEnds n m) pairs (λ p k. ends n m p k)
          (none_numbered (is_astray n m) 1 pairs (unmapped Ends (first_number (is_astray n m) 1 pairs) c.1));
    }
  where
    ranges : (rs : List Range) → first_number is_empty 1 rs ≡ None → All HasNumbers rs
    ranges rs k =
        all_of (λ r. is_empty r ≡ false) HasNumbers rs (λ r h. not_above r.most r.least h) (none_numbered is_empty 1 rs k)

    ends : (n m : ℕ) (p : Pair) → is_astray n m p ≡ false → HasBothEnds n m p
    ends n m p k =
        let both = and_true (is_place n p.who) (is_place m p.what) (not_false (is_place n p.who && is_place m p.what) k) in
        record { person = is_node n p.who both.0; thing = is_node m p.what both.1 }
