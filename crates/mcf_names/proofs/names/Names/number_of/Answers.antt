use Rattle.std.proofs.Common.{◌≡◌, ◌∙◌, ◌<◌, List, length, map, get_or, sym, ap, subst, arith}
use Rattle.std.specs.Str.{bytes_eq}
use Rattle.std.proofs.lemmas.Bool.{ltb-false, ltb-true}
use Rattle.std.proofs.lemmas.List.{get_or_default}
use Rattle.mcf_names.specs.Names.{number_of}
use Rattle.mcf_names.specs.declared.sorted.Placed.{Placed}
use Rattle.mcf_names.proofs.IndexLemmas.{Parts, number_found, number_none}
use Rattle.mcf_names.proofs.names.Names.number_of.Goals as goal

pub returns-in_err-found : goal.returns-in_err-found
returns-in_err-found c =
    let name = c.args.name.now in
    let names = map (λ n. n.now) c.self.inside.names.items in
    let sorted = c.self.inside.sorted.items in
    let point = c.below_count-place.result in
    let parts : Parts sorted name point = subst (λ (xs : List Placed). Parts xs name point) c.deref.ensures.value c.below_count-place.ensures in
    let past = ltb-false point (length c.deref-2.result.now) (sym c.in_err-found.ensures.lookup.0) in
    c.from_residual.ensures
    ∙ sym (number_none names sorted name point c.self.invariant parts
    (λ p inside is. absurd (omega (arith, inside, past, ap length c.deref-2.ensures.value))))
    ∙ ap (number_of name) c.self.view_is

pub returns-then-eq : goal.returns-then-eq
returns-then-eq c =
    let name = c.args.name.now in
    let names = map (λ n. n.now) c.self.inside.names.items in
    let sorted = c.self.inside.sorted.items in
    let point = c.below_count-place.result in
    let found = c.in_ok-found.found.now in
    let parts : Parts sorted name point = subst (λ (xs : List Placed). Parts xs name point) c.deref.ensures.value c.below_count-place.ensures in
    let below = ltb-true point (length c.deref-2.result.now) (sym c.in_ok-found.ensures.lookup.0) in
    let inside : point < length sorted = omega (arith, below, ap length c.deref-2.ensures.value) in
    let is : found ≡ get_or sorted point found =
    c.in_ok-found.ensures.lookup.1 ∙ ap (λ (xs : List Placed). get_or xs point found) c.deref-2.ensures.value in
    sym (number_found names sorted name point found c.self.invariant parts inside is (sym c.eq.ensures ∙ c.if-eq.true))
    ∙ ap (number_of name) c.self.view_is

pub returns-else-eq : goal.returns-else-eq
returns-else-eq c =
    let name = c.args.name.now in
    let names = map (λ n. n.now) c.self.inside.names.items in
    let sorted = c.self.inside.sorted.items in
    let point = c.below_count-place.result in
    let found = c.in_ok-found.found.now in
    let parts : Parts sorted name point = subst (λ (xs : List Placed). Parts xs name point) c.deref.ensures.value c.below_count-place.ensures in
    let is : found ≡ get_or sorted point found =
    c.in_ok-found.ensures.lookup.1 ∙ ap (λ (xs : List Placed). get_or xs point found) c.deref-2.ensures.value in
    sym (number_none names sorted name point c.self.invariant parts
    (λ p inside at. ap (λ (q : Placed). bytes_eq q.name.now name) (at ∙ get_or_default sorted point p found inside ∙ sym is)
    ∙ sym c.eq.ensures ∙ c.if-eq.false))
    ∙ ap (number_of name) c.self.view_is
