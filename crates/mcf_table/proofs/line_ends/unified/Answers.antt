use Rattle.std.proofs.Common.{◌≡◌, ◌+◌, drop}
use Rattle.std.proofs.lemmas.List.{take_rest}
use Rattle.mcf_table.specs.Private.Found.{without_feed}
use Rattle.mcf_table.proofs.LineEndLemmas.{unified_joined, unified_last}
use Rattle.mcf_table.proofs.line_ends.unified.Goals as goal

pub ends-preserved : goal.ends-preserved
ends-preserved c =
    let rest = c.ends.rest.now in
    let next : c.without_feed-rest.result.now ≡ without_feed (drop (c.in-Some.place + 1) rest) = simp take_rest at (c.without_feed-rest.ensures.value) in
    unified_joined c.args.text.now rest c.ends.made.items c.extend_from_slice.new.self.items c.push.new.self.items c.without_feed-rest.result.now
    c.in-Some.place c.ends.invariant c.in-Some.ensures c.in_ok-extend_from_slice.ensures.items c.in_ok-push.ensures.items next

pub returns : goal.returns
returns c =
    unified_last c.args.text.now c.ends.rest.now c.ends.made.items c.extend_from_slice-2.new.self.items c.ends.invariant c.in_default.ensures
    c.in_ok-extend_from_slice-2.ensures.items
