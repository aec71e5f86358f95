use Rattle.std.proofs.Common.{rules, arith, ◌≡◌, ◌<◌, ◌∷◌, [], ◌++◌, length, max, ◌≤◌}
use Rattle.mcf_figures.specs.Private.Forests.{next_number}
use Rattle.mcf_figures.proofs.Forests.{numbered_more, numbers_are}
use Rattle.mcf_figures.proofs.groups.numbered.Goals as goal

pub loop-place-preserved : goal.loop-place-preserved
loop-place-preserved c =
    let parents = c.args.parents.now in
    let made = c.loop-place.made.items in
    let place = c.loop-place.place in
    let count = c.loop-place.count in
    let number = c.next_number-number.result in
    let h : place < length parents = search rules in
    let x : number ≡ next_number parents made place count = search rules in
    let top : c.max-count.result ≡ max count number = omega (arith, c.max-count.ensures) in
    let pushed : c.push.new.self.items ≡ made ++ number ∷ [] = search rules in
    numbered_more parents made _ place count number _ c.requires h c.loop-place.invariant x top pushed

pub returns-clause-value : goal.returns-clause-value
returns-clause-value c labels f =
    let top : length c.args.parents.now ≤ c.loop-place.place = search (rules, arith) in
    let long : length c.loop-place.made.items ≡ length c.args.parents.now = omega (arith, c.loop-place.invariant.as_long, top, c.loop-place.auto) in
    numbers_are c.args.parents.now labels c.loop-place.made.items c.loop-place.place c.loop-place.count c.loop-place.invariant top f long
