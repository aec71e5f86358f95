use Rattle.std.proofs.Common.{◌∙◌, sym, Ok, Err}
use Rattle.std.specs.Prelude.{OnErr, Result}
use Rattle.mcf_instance.proofs.FittingItems.{offered_fits, offered_nodes}
use Rattle.mcf_instance.proofs.reader.state.ReaderState.offer.Goals as goal

pub link-requires : goal.link-requires
link-requires c =
    offered_fits c.args.self.now c.args.header c.args.numbers c.in-Ok.arc c.requires.header c.requires.carries_one (sym c.tested.ensures.exact ∙ c.in-Ok.is)

on_any : {T E P : Type 0} (r : Result T E) → P → OnErr r P
on_any (Ok x) p = tt
on_any (Err e) p = p

pub returns-in_err-link-in-Ok-clause-wants : goal.returns-in_err-link-in-Ok-clause-wants
returns-in_err-link-in-Ok-clause-wants c =
    on_any c.from_residual.result
    (offered_nodes c.args.header _ _ _ c.args.numbers c.in-Ok.arc c.requires.carries_one (sym c.tested.ensures.exact ∙ c.in-Ok.is))
