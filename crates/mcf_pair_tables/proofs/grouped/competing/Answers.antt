use Rattle.std.proofs.Common.{◌∙◌, ap, refl}
use Rattle.mcf_pair_tables.specs.GroupedAnswers.{named_bounds}
use Rattle.mcf_pair_tables.proofs.grouped.competing.Goals as goal

pub returns : goal.returns
returns c = record {
  marked = c.args.found.now;
  none = c.requires.none;
  told = c.in_ok-told.told;
  is_told = rw (c.deref.ensures.value) at c.in_ok-told.ensures;
  found_is = refl;
  bounds_are = rw (c.deref-2.ensures.value, c.deref-3.ensures.value) at c.in_ok-bounds.ensures;
}
