use Rattle.std.proofs.Common.{◌∙◌, refl, sym}
use Rattle.std.proofs.lemmas.Result.{err_from_is_err_and}
use Rattle.mcf_instance.proofs.TakenArcs.{arc_fits, begins_with_arc}
use Rattle.mcf_instance.proofs.reader.state.ReaderState.link_plain.Goals as goal

pub link-requires : goal.link-requires
link-requires c =
    let said = rw c.in-Some.is at c.requires.plain in
    arc_fits c.args.self.now _ _ _ (begins_with_arc c.args.self.now _ _ _ _ _ c.requires.header said (sym c.tested.ensures.exact ∙ c.in-Ok.is))

pub returns-in_err-link-clause-wants : goal.returns-in_err-link-clause-wants
returns-in_err-link-clause-wants c =
    let p = err_from_is_err_and c.from_residual.result c.from_residual.ensures.1 in
    let said = rw c.in-Some.is at c.requires.plain in
    rw p.1 (_, _, begins_with_arc _ _ _ _ _ _ c.requires.header said (sym c.tested.ensures.exact ∙ c.in-Ok.is))

pub returns-clause-taken : goal.returns-clause-taken
returns-clause-taken c =
    let said = rw c.in-Some.is at c.requires.plain in
    record {
      arc = c.in-Ok.arc;
      end = c.in-Some.plain.end;
      len_is = refl;
      begins = begins_with_arc _ _ _ _ _ _ c.requires.header said (sym c.tested.ensures.exact ∙ c.in-Ok.is);
      after = c.in_ok-link.ensures.ok;
    }
