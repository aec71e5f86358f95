use Rattle.std.proofs.Common.{◌≡◌, ◌∙◌, ap, nat_abs, of_z, pos, set, sym, to_z, w64}
use Rattle.std.proofs.lemmas.Int.{to_z-of_z}
use Rattle.mcf_network.specs.Private.StoredAmounts.{amounts_in}
use Rattle.mcf_network.proofs.AmountLaws.{pos_size, set_byte}
use Rattle.mcf_network.proofs.amounts.Amounts.set.Goals as goal

pub returns-in-Small-clause-value : goal.returns-in-Small-clause-value
returns-in-Small-clause-value c =
    let byte : pos (nat_abs (to_z w64 (of_z w64 c.args.amount))) ≡ c.args.amount =
    rw (to_z-of_z w64 c.args.amount c.ranges.amount) (pos_size c.args.amount c.requires.low) in
    set_byte c.in-Small.bytes.items c.args.place _ c.args.amount byte ∙ ap (λ a. set (amounts_in a) c.args.place c.args.amount) (sym c.in-Small.is)
