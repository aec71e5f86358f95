use Rattle.std.proofs.Common.{◌≡◌, suc, ◌+◌, arith, subst, sym, true, inl, inr}
use Rattle.std.proofs.lemmas.Bool.{cases_eq}
use Rattle.mcf_figures.specs.Private.Forests.{AreClasses}
use Rattle.mcf_figures.specs.Told.{HasFigures}
use Rattle.mcf_figures.proofs.groups.join_all.Goals as goal

pub loop-place-preserved : goal.loop-place-preserved
loop-place-preserved c =
    let joined : c.join_route-joined.result ≡ true = c.if-not-joined.false in
    let next : suc c.loop-place.place ≡ c.loop-place.place + 1 = omega arith in
    record {
      classes = subst (λ k. AreClasses c.args.prices.now c.args.model.now c.args.carries.now k c.join_route-joined.new.parents) next
          (c.join_route-joined.ensures.some joined);
      have = λ k h.
          elim (cases_eq k c.loop-place.place) [
            | inl e ↦ subst (HasFigures c.args.model.now c.args.prices.now c.args.carries.now) (sym e) (c.join_route-joined.ensures.has joined)
            | inr n ↦ c.loop-place.invariant.have k (omega (arith, h, n))
          ];
    }
