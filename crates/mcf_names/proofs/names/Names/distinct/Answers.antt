use Rattle.std.proofs.Common.{◌≡◌, ◌∙◌, ◌+◌, ◌-◌, ◌++◌, ◌∷◌, [], ℕ, List, map, sym, ap, arith}
use Rattle.std.specs.Borrow.{Bor}
use Rattle.std.proofs.lemmas.List.{map-append}
use Rattle.mcf_names.specs.Names.{name_at}
use Rattle.mcf_names.proofs.DistinctLemmas.{distinct_hit, distinct_miss}
use Rattle.mcf_names.proofs.names.Names.distinct.Goals as goal
use Rattle.mcf_names.proofs.names.Names.distinct.Goals.{then-is_first+in_ok-push, else-is_first}

pub names-preserved : goal.names-preserved
names-preserved c =
    let names = c.args.self.now in
    let place = c.names.place in
    let read : List (Bor (List ℕ)) → List (List ℕ) = λ kept. map (λ name. name.now) kept in
    elim c.if-is_first.branch [
      | then-is_first+in_ok-push w ↦
          (let back : place + 1 - 1 ≡ place = omega arith in
          let name : w.name.result.now ≡ name_at names place = w.name.ensures ∙ ap (name_at names) back in
          rw w.kept-is (ap read w.in_ok-push.ensures.items
          ∙ map-append (λ (n : Bor (List ℕ)). n.now) c.names.kept.items (w.name.result ∷ [])
          ∙ ap (λ (n : List ℕ). read c.names.kept.items ++ n ∷ []) name
          ∙ distinct_hit names (read c.names.kept.items) place (sym c.is_first.ensures ∙ w.if-is_first.true) c.names.invariant))
      | else-is_first w ↦
          rw w.kept-is (distinct_miss names (read c.names.kept.items) place (sym c.is_first.ensures ∙ w.if-is_first.false) c.names.invariant)
    ]
