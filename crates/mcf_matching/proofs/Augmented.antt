-- Pushes along a path that grows at its beginning.
use Rattle.std.proofs.Common.{◌≡◌, ◌≢◌, ℕ, suc, ◌-◌, Bool, List, [], ◌∷◌, get_or, set, ℤ, pos, ◌+ℤ◌, ◌-ℤ◌, refl, sym, ◌∙◌, ap, arith}
use Rattle.std.specs.Prelude.{if◌then◌else◌}
use Rattle.std.specs.List.{All}
use Rattle.std.proofs.lemmas.List.{get_or-set_other, set_comm}
use Rattle.mcf_network.specs.declared.rid.Rid.{Rid}
use Rattle.mcf_network.specs.States.{Pseudoflow, pushed}
use Rattle.mcf_network.specs.Walks.{pushed_along}

-- an amount after x more went along its arc, back or forth
abbrev moved : Bool → ℤ → ℤ → ℤ
moved back y x = if back then y -ℤ x else y +ℤ x

both_moved : (a : List ℤ) (i j : ℕ) (b c : Bool) (x : ℤ) → j ≢ i
    → set (set a i (moved b (get_or a i (pos 0)) x)) j (moved c (get_or (set a i (moved b (get_or a i (pos 0)) x)) j (pos 0)) x)
    ≡ set (set a j (moved c (get_or a j (pos 0)) x)) i (moved b (get_or (set a j (moved c (get_or a j (pos 0)) x)) i (pos 0)) x)
both_moved a i j b c x apart =
    ap (λ y. set (set a i (moved b (get_or a i (pos 0)) x)) j (moved c y x))
    (get_or-set_other a i j (moved b (get_or a i (pos 0)) x) (pos 0) apart)
    ∙ set_comm a i j (moved b (get_or a i (pos 0)) x) (moved c (get_or a j (pos 0)) x) (λ e. apart (sym e))
    ∙ ap (λ y. set (set a j (moved c (get_or a j (pos 0)) x)) i (moved b y x))
    (sym (get_or-set_other a j i (moved c (get_or a j (pos 0)) x) (pos 0) (λ e. apart (sym e))))

-- pushes along two arcs can change places
pushes_commute : (s : Pseudoflow) (q r : Rid) (x : ℤ) → r.arc - 1 ≢ q.arc - 1 → pushed (pushed s q x) r x ≡ pushed (pushed s r x) q x
pushes_commute s q r x apart =
    ap (λ (l : List ℤ). record { net = s.net; amounts = l }) (both_moved s.amounts (q.arc - 1) (r.arc - 1) q.back r.back x apart)

-- what goes along an arc that isn't on a walk can go first
pub push_first : (s : Pseudoflow) (walk : List Rid) (r : Rid) (x : ℤ) → All (λ (q : Rid). r.arc - 1 ≢ q.arc - 1) walk
    → pushed (pushed_along s walk x) r x ≡ pushed_along (pushed s r x) walk x
push_first s [] r x apart = refl
push_first s (q ∷ rest) r x apart =
    push_first (pushed s q x) rest r x (λ k d h. apart (suc k) d (omega (arith, h)))
    ∙ ap (λ (t : Pseudoflow). pushed_along t rest x) (pushes_commute s q r x (apart 0 q (omega arith)))
