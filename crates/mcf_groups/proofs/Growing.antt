-- Steps of the loop over groups.
use Rattle.std.proofs.Common.{◌≡◌, ℕ, suc, ◌+◌, ◌<◌, List, ◌∷◌, ◌++◌, length, drop, get_or, ap, sym, ◌∙◌, arith, append_assoc, add-one, drop-cons}
use Rattle.std.specs.Prelude.{Some, None, option_map}
use Rattle.std.specs.Option.{option_or}
use Rattle.mcf_model.specs.declared.rows.RouteRow.{RouteRow}
use Rattle.mcf_roster.specs.Rosters.{Roster}
use Rattle.mcf_groups.specs.declared.faults.GroupFault.{GroupFault}
use Rattle.mcf_groups.specs.declared.faults.GroupFaultKind.{GroupFaultKind}
use Rattle.mcf_groups.specs.declared.groups.Group.{Group}
use Rattle.mcf_groups.specs.GroupFaults.{fault_from, fault_of}
use Rattle.mcf_groups.specs.LinkRows.{all_links, group_links}
use Rattle.mcf_groups.specs.Nests.{Nest, after, nest_of}

pub here : (gs : List Group) (i : ℕ) (g : Group) → i < length gs → g ≡ get_or gs i g → drop i gs ≡ g ∷ drop (i + 1) gs
here gs i g h is = rw (add-one, drop-cons gs i g) (ap (λ x. x ∷ drop (suc i) gs) (sym is))

no_fault : (R : Roster) (S : Nest) (number : ℕ) (g : Group) (gs : List Group) → fault_of R S g ≡ None
    → fault_from R S number (g ∷ gs) ≡ fault_from R (after R S g) (number + 1) gs
no_fault R S number g gs e =
    ap (λ o. option_or (option_map (λ (what : GroupFaultKind). let made : GroupFault = record { group = number; what = what } in made) o)
    (fault_from R (after R S g) (suc number) gs)) e
    ∙ (let n : suc number ≡ number + 1 = omega arith in ap (λ k. fault_from R (after R S g) k gs) n)

a_fault : (R : Roster) (S : Nest) (number : ℕ) (g : Group) (gs : List Group) (what : GroupFaultKind) → fault_of R S g ≡ Some what
    → fault_from R S number (g ∷ gs) ≡ Some (record { group = number; what = what })
a_fault R S number g gs what e =
    ap (λ o. option_or (option_map (λ (what : GroupFaultKind). let made : GroupFault = record { group = number; what = what } in made) o)
    (fault_from R (after R S g) (suc number) gs)) e

module _ (R : Roster) (S : Nest) (gs : List Group) (i : ℕ) (g : Group) (h : i < length gs) (is : g ≡ get_or gs i g) where
  pub faults_next : fault_of R S g ≡ None → fault_from R S (i + 1) (drop i gs) ≡ fault_from R (after R S g) (i + 1 + 1) (drop (i + 1) gs)
  faults_next e = ap (fault_from R S (i + 1)) (here gs i g h is) ∙ no_fault R S (i + 1) g (drop (i + 1) gs) e

  pub fault_here : (what : GroupFaultKind) → fault_of R S g ≡ Some what
      → fault_from R S (i + 1) (drop i gs) ≡ Some (record { group = i + 1; what = what })
  fault_here what e = ap (fault_from R S (i + 1)) (here gs i g h is) ∙ a_fault R S (i + 1) g (drop (i + 1) gs) what e

  pub nest_next : nest_of R S (drop i gs) ≡ nest_of R (after R S g) (drop (i + 1) gs)
  nest_next = ap (nest_of R S) (here gs i g h is)

  pub links_next : (rows : List RouteRow)
      → rows ++ all_links R S (drop i gs) ≡ (rows ++ group_links R S g) ++ all_links R (after R S g) (drop (i + 1) gs)
  links_next rows =
      ap (λ xs. rows ++ all_links R S xs) (here gs i g h is)
      ∙ sym (append_assoc rows (group_links R S g) (all_links R (after R S g) (drop (i + 1) gs)))
