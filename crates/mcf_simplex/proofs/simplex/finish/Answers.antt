use Rattle.std.proofs.Common.{List, ℤ, drop, length, ap, refl, sym, subst, arith}
use Rattle.std.proofs.lemmas.Int.{ints}
use Rattle.mcf_engine.specs.Outcomes.{AreStatePrices}
use Rattle.mcf_simplex.proofs.Ending.{written}
use Rattle.mcf_simplex.proofs.simplex.finish.Goals as goal

pub returns-then-has_no_artificial-clause-outcome : goal.returns-then-has_no_artificial-clause-outcome
returns-then-has_no_artificial-clause-outcome c =
    let b = c.args.room.basis in
    let room = c.args.room.shown.prices in
    let count = c.show.ensures.count in
    let lent = ap (λ (l : List ℤ). length l) c.as_mut_slice.ensures.value in
    let whole = written room.len c.show.new.prices (drop (length c.show.new.prices) room.items) (omega (arith, room.ok.0, count, lent)) in
    (c.show.ensures.least, subst (λ (l : List ℤ). AreStatePrices b.net c.write_flow.new.state l) (sym whole) c.show.ensures.prices, c.write_flow.ensures.value)

pub show-requires-clause-flow : goal.show-requires-clause-flow
show-requires-clause-flow c = c.if-has_no_artificial.ensures.value.0 refl

pub returns-clause-outcome : goal.returns-clause-outcome
returns-clause-outcome c = record {
  one_per_node = c.mark_cut.ensures.room;
  blocks = c.mark_cut.ensures.blocks;
  chosen = record {
    take = (λ same. cc, λ less. absurd (omega (arith, ints, less, c.requires.balanced)));
    whole = λ uneven. absurd (uneven c.requires.balanced);
  };
}
