use Rattle.std.proofs.Common.{◌≡◌, ◌++◌, ◌∷◌, [], ◌∙◌, ap, sym, subst, rules, to_z, of_z, get_or, ℤ, List}
use Rattle.std.specs.Prelude.{pos}
use Rattle.std.specs.Int.{w64, w128}
use Rattle.std.specs.List.{All}
use Rattle.std.proofs.lemmas.Int.{to_z-of_z}
use Rattle.std.proofs.lemmas.List.{take_more}
use Rattle.std.proofs.lemmas.List.Elements.{All-push}
use Rattle.mcf_engine.specs.SmallPrices.{price_limit}
use Rattle.mcf_flows.specs.WellFormed.{IsUpTo}
use Rattle.mcf_c.proofs.cost_ranges.wide_numbers.Goals as goal

abbrev Small : ℤ → Type 0
Small = IsUpTo price_limit

pub loop-place-preserved : goal.loop-place-preserved
loop-place-preserved c =
    let l = c.loop-place in
    let z : ℤ = get_or c.args.numbers.now l.place (pos 0) in
    let t : to_z w64 (of_z w64 z) ≡ z = search (rules, to_z-of_z) in
    let w : to_z w128 (of_z w128 c.widened.result) ≡ c.widened.result = search (rules, to_z-of_z) in
    let is = c.in_ok-push.ensures.items in
    record {
      value = is ∙ ap (λ (y : ℤ). l.wide.items ++ y ∷ []) (w ∙ c.widened.ensures.value ∙ t) ∙ ap (λ (xs : List ℤ). xs ++ z ∷ []) l.invariant.value
          ∙ sym (take_more c.args.numbers.now l.place (pos 0) c.loop-place-test.true);
      small = subst (All Small) (sym is) (All-push Small l.wide.items _ l.invariant.small (subst Small (sym w) c.widened.ensures.small));
    }
