use Rattle.std.proofs.Common.{rules, ◌≡◌, ◌++◌, ◌∷◌, [], ◌∙◌, ap, sym, subst, get_or, ℕ, List}
use Rattle.std.specs.List.{All}
use Rattle.std.proofs.lemmas.List.{take_more}
use Rattle.std.proofs.lemmas.List.Elements.{All-push}
use Rattle.mcf_flows.specs.Network.{IsArcNumber}
use Rattle.mcf_c.proofs.cost_ranges.arcs_of.Goals as goal

pub loop-place-preserved : goal.loop-place-preserved
loop-place-preserved c =
    let l = c.loop-place in
    let n : ℕ = get_or c.args.numbers.now l.place 0 in
    let more = take_more c.args.numbers.now l.place 0 c.loop-place-test.true in
    let arc : IsArcNumber c.args.instance.now n = search rules in
    let e : c.new.result ≡ n = search rules in
    let is = c.in_ok-push.ensures.items in
    record {
      same = is ∙ ap (λ (y : ℕ). l.arcs.items ++ y ∷ []) e ∙ ap (λ (xs : List ℕ). xs ++ n ∷ []) l.invariant.same ∙ sym more;
      are = subst (All (IsArcNumber c.args.instance.now)) (sym more) (All-push (IsArcNumber c.args.instance.now) _ n l.invariant.are arc);
    }
