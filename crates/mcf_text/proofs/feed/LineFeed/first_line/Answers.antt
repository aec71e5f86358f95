-- The slice that is looked through is what was not popped, past the bytes known to end no line.
use Rattle.std.proofs.Common.{◌≡◌, ◌∙◌, ◌-◌, drop, length, sym, ap, arith, length-drop}
use Rattle.std.proofs.lemmas.Bool.{both_ways}
use Rattle.mcf_text.proofs.FeedLemmas.{seen, ends_at, ends_last, no_line}
use Rattle.mcf_text.proofs.feed.LineFeed.first_line.Goals as goal

pub returns-in-Some : goal.returns-in-Some
returns-in-Some c =
    let view = ap (λ f. f.rest) c.self.view_is in
    ends_at c.args.self.now _ c.self.inside.scanned c.in-Some.place
    (seen c.args.self.now c.self.inside.bytes.items c.deref.result.now c.self.inside.start c.self.inside.scanned c.deref.ensures.value view)
    (rw view at c.self.invariant.4) c.in-Some.ensures

pub returns-in-None : goal.returns-in-None
returns-in-None c =
    let view = ap (λ f. f.rest) c.self.view_is in
    let rest : c.len.result - c.self.inside.start ≡ length (drop c.self.inside.start c.self.inside.bytes.items) =
    omega (arith, length-drop c.self.inside.start c.self.inside.bytes.items, c.len.ensures) in
    ends_last c.args.self.now _ c.self.inside.scanned (c.len.result - c.self.inside.start)
    (seen c.args.self.now c.self.inside.bytes.items c.deref.result.now c.self.inside.start c.self.inside.scanned c.deref.ensures.value view)
    (rw view at c.self.invariant.4) c.in-None.ensures (sym (ap (λ f. f.has_ended) c.self.view_is) ∙ c.if-self.true)
    (rest ∙ ap length view) c.if-len-gt0.true

pub returns-in-None-2-2 : goal.returns-in-None-2-2
returns-in-None-2-2 c =
    let view = ap (λ f. f.rest) c.self.view_is in
    no_line c.args.self.now _ c.self.inside.scanned
    (seen c.args.self.now c.self.inside.bytes.items c.deref.result.now c.self.inside.start c.self.inside.scanned c.deref.ensures.value view)
    (rw view at c.self.invariant.4) c.in-None-2.ensures
    (λ ended. absurd (both_ways c.args.self.now.has_ended (sym (ap (λ f. f.has_ended) c.self.view_is) ∙ c.if-self.false) ended))
