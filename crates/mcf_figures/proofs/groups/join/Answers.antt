use Rattle.std.proofs.Common.{◌≡◌, ◌<◌, ◌∙◌, ap, sym, subst, arith, length, set, max, min}
use Rattle.mcf_figures.specs.Groups.{entry, merged}
use Rattle.mcf_figures.specs.Private.Forests.{IsForest}
use Rattle.mcf_figures.proofs.Forests.{joined_forest}
use Rattle.mcf_figures.proofs.groups.join.Goals as goal

pub returns-clause-joined : goal.returns-clause-joined
returns-clause-joined c labels f =
    let one = c.root_of-first in
    let other = c.root_of-second in
    let f1 = one.ensures.kept labels f in
    let f2 = other.ensures.kept labels f1 in
    let long1 : length one.new.parents ≡ length c.args.parents.now = one.ensures.as_long in
    let long2 : length other.new.parents ≡ length one.new.parents = other.ensures.as_long in
    let h1 : one.result < length other.new.parents = omega (arith, one.ensures.inside, long1, long2) in
    let h2 : other.result < length other.new.parents = omega (arith, other.ensures.inside, long2) in
    let own1 = f1.own one.result (omega (arith, one.ensures.inside, long1)) one.ensures.root in
    let own2 = f2.own other.result h2 other.ensures.root in
    let top : c.max.result ≡ max one.result other.result = omega (arith, c.max.ensures) in
    let low : c.min.result ≡ min one.result other.result = omega (arith, c.min.ensures) in
    let hung : c.hang.new.parents ≡ set other.new.parents (max one.result other.result) (min one.result other.result) =
    c.hang.ensures ∙ ap (λ x. set other.new.parents x c.min.result) top ∙ ap (set other.new.parents (max one.result other.result)) low in
    subst (λ q. IsForest q (merged labels (entry labels c.args.one) (entry labels c.args.other))) (sym hung)
    (joined_forest other.new.parents labels one.result other.result (entry labels c.args.one) (entry labels c.args.other) h1 h2 f2 own1 own2
    (one.ensures.label labels f) (other.ensures.label labels f1))
