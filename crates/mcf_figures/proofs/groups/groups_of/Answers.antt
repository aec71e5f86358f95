use Rattle.std.proofs.Common.{rules, ◌≡◌, ◌∙◌, ap, length, subst, sym}
use Rattle.std.specs.List.{range_with_len}
use Rattle.std.proofs.lemmas.List.{with_items_is}
use Rattle.mcf_figures.specs.Private.Forests.{AreClasses}
use Rattle.mcf_figures.proofs.Classes.{are_groups, exact_at, groups_are, no_classes}
use Rattle.mcf_figures.proofs.groups.groups_of.Goals as goal

pub join_all-joined-requires : goal.join_all-joined-requires
join_all-joined-requires c =
    let parents = c.in_ok-parents.parents in
    rw c.deref_mut.ensures.value (no_classes c.args.prices.now c.args.model.now c.args.carries.now parents.items
    (c.in_ok-parents.ensures.value ∙ ap (range_with_len 0) c.place_count.ensures.value))

pub returns-clause-some : goal.returns-clause-some
returns-clause-some c =
    let m = c.args.model.now in
    let after = c.join_all-joined.new.parents in
    let lent : c.deref.result.now ≡ after = c.deref.ensures.value ∙ with_items_is c.in_ok-parents.parents after (search rules) in
    let made = c.in_ok-made.ensures in
    are_groups c.args.prices.now m c.args.carries.now c.deref.result.now c.in_ok-made.made.items
    (subst (AreClasses c.args.prices.now m c.args.carries.now (length m.routes)) (sym lent) (c.join_all-joined.ensures.some c.if-not-joined.false)) made.as_long
    made.alike made.in_order

pub returns-clause-value : goal.returns-clause-value
returns-clause-value c =
    let m = c.args.model.now in
    let after = c.join_all-joined.new.parents in
    let lent : c.deref.result.now ≡ after = c.deref.ensures.value ∙ with_items_is c.in_ok-parents.parents after (search rules) in
    groups_are c.args.prices.now m c.args.carries.now c.deref.result.now c.in_ok-made.made.items
    (subst (AreClasses c.args.prices.now m c.args.carries.now (length m.routes)) (sym lent) (c.join_all-joined.ensures.some c.if-not-joined.false))
    c.in_ok-made.ensures.value

pub returns-clause-exact : goal.returns-clause-exact
returns-clause-exact c number h =
    let m = c.args.model.now in
    let after = c.join_all-joined.new.parents in
    let lent : c.deref.result.now ≡ after = c.deref.ensures.value ∙ with_items_is c.in_ok-parents.parents after (search rules) in
    let made = c.in_ok-made.ensures in
    exact_at m c.args.prices.now c.args.carries.now c.in_ok-made.made.items number (c.place_count.ensures.proper).sound h
    (are_groups c.args.prices.now m c.args.carries.now c.deref.result.now c.in_ok-made.made.items
    (subst (AreClasses c.args.prices.now m c.args.carries.now (length m.routes)) (sym lent) (c.join_all-joined.ensures.some c.if-not-joined.false)) made.as_long
    made.alike made.in_order)
