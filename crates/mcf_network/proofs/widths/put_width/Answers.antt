use Rattle.std.proofs.Common.{◌≡◌, ◌-◌, ◌∷◌, [], ◌++◌, length, pos, replicate, rules, subst, sym, take, ℤ}
use Rattle.mcf_network.specs.Private.Widths.{GainsWidth}
use Rattle.mcf_network.proofs.StoredLaws.{width_one, width_put}
use Rattle.mcf_network.proofs.widths.put_width.Goals as goal

pub returns-then-width-eq1 : goal.returns-then-width-eq1
returns-then-width-eq1 c =
    let before = c.args.widths.now.items in
    let one : c.args.width ≡ pos 1 = search rules in
    subst (λ (width : ℤ). GainsWidth before c.args.place width before) (sym one) (width_one before c.args.place c.requires.before)

pub returns : goal.returns
returns c =
    let before = c.args.widths.now.items in
    let filled : c.resize.new.self.items ≡ take c.args.place before ++ replicate (c.args.place - length before) (pos 1) = search rules in
    let put : c.push.new.self.items ≡ c.resize.new.self.items ++ c.args.width ∷ [] = search rules in
    width_put before c.resize.new.self.items c.push.new.self.items c.args.place c.args.width c.requires.before filled put
