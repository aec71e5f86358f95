use Rattle.std.proofs.Common.{rules, ◌≡◌, ◌∙◌, ◌<◌, ◌+◌, ◌++◌, None, ap, drop, length, subst, sym, arith}
use Rattle.mcf_groups.specs.GroupFaults.{fault_from, fault_of}
use Rattle.mcf_groups.specs.LinkRows.{all_links}
use Rattle.mcf_groups.specs.Nests.{IsSoundNest, after, nest_in, nest_of}
use Rattle.mcf_groups.proofs.Growing.{faults_next, links_next, nest_next}
use Rattle.mcf_groups.proofs.Stages.{with_sound}
use Rattle.mcf_groups.proofs.nesting.grow.Goals as goal

pub loop-place-preserved : goal.loop-place-preserved
loop-place-preserved c =
    let R = c.args.roster.now in
    let gs = c.args.groups.now in
    let i = c.loop-place.place in
    let g = c.index-groups-place.result in
    let S = nest_in c.loop-place.nest in
    let few : i < length gs = omega arith in
    let none : fault_of R S g ≡ None = search rules in
    let rest = drop (i + 1) gs in
    record {
      sound = subst (IsSoundNest R) (sym c.include.ensures) (with_sound R S c.loop-place.invariant.sound g.of g.members.items);
      faults = ap (λ T. fault_from R T (i + 1 + 1) rest) c.include.ensures ∙ sym (faults_next R S gs i g few c.index-groups-place.is none)
          ∙ c.loop-place.invariant.faults;
      nest = ap (λ T. nest_of R T rest) c.include.ensures ∙ sym (nest_next R S gs i g few c.index-groups-place.is) ∙ c.loop-place.invariant.nest;
      links = ap (λ T. c.push_group.new.rows.items ++ all_links R T rest) c.include.ensures
          ∙ ap (λ rows. rows ++ all_links R (after R S g) rest) c.in_ok-push_group.ensures
          ∙ sym (links_next R S gs i g few c.index-groups-place.is c.loop-place.rows.items) ∙ c.loop-place.invariant.links;
    }
