use Rattle.std.proofs.Common.{◌+◌, sym, subst, arith}
use Rattle.std.specs.Option.{IfNone}
use Rattle.std.proofs.lemmas.List.Sorted.{length_permutation}
use Rattle.mcf_engine.specs.Heaps.{IsFirst, NoneWaits}
use Rattle.mcf_engine.specs.Private.Queues.{IsCurrent}
use Rattle.mcf_engine.proofs.Queues.{none_waits, own_item, seen_as, taken_is_first, without_stale, without_taken}
use Rattle.mcf_engine.proofs.heap.Heap.pop.Goals as goal

pub returns-in_err-entry-clause-none : goal.returns-in_err-entry-clause-none
returns-in_err-entry-clause-none c =
    subst (λ r. IfNone r (NoneWaits c.args.self.now)) (sym c.from_residual.ensures)
    (subst (λ h. NoneWaits h) c.entries.invariant.same (none_waits _ _ _ _ _ c.entries.invariant.queue c.in_err-entry.ensures.none))

pub is_current-requires-clause-key : goal.is_current-requires-clause-key
is_current-requires-clause-key c =
    let own = own_item _ _ _ _ _ c.in_ok-entry.field-0 c.in_ok-entry.ensures.taken _ _ c.entries.invariant.queue c.in_ok-entry.ensures.ordered in
    let same = c.entries.invariant.queue.keys in
    rw c.as_slice.ensures.value (omega (arith, own, same))

pub is_current-requires-clause-mark : goal.is_current-requires-clause-mark
is_current-requires-clause-mark c =
    rw c.as_slice-in-entries.ensures.value
    (own_item _ _ _ _ _ c.in_ok-entry.field-0 c.in_ok-entry.ensures.taken _ _ c.entries.invariant.queue c.in_ok-entry.ensures.ordered)

pub invariant_of-self-then-is_current : goal.invariant_of-self-then-is_current
invariant_of-self-then-is_current c =
    let e = c.in_ok-entry.ensures in
    rw (e.room, e.more) (without_taken _ _ _ _ _ c.in_ok-entry.field-0 e.taken _ _ c.entries.invariant.queue e.ordered)

pub returns-then-is_current-clause-first : goal.returns-then-is_current-clause-first
returns-then-is_current-clause-first c =
    let e = c.in_ok-entry.ensures in
    let current = seen_as (λ h. IsCurrent h c.in_ok-entry.field-0.0) _ _ _ _ c.as_slice.ensures.value c.as_slice-in-entries.ensures.value c.if-is_current.ensures in
    subst (λ v. IsFirst c.args.self.now v) (sym c.at.ensures) (subst (λ h. IsFirst h (c.in_ok-entry.field-0.0.item + 1)) c.entries.invariant.same
    (taken_is_first _ _ _ _ _ c.in_ok-entry.field-0 e.taken _ _ c.entries.invariant.queue e.ordered current e.first))

pub entries-smaller : goal.entries-smaller
entries-smaller c = let taken = length_permutation _ _ c.in_ok-entry.ensures.taken in omega (arith, taken)

pub entries-preserved : goal.entries-preserved
entries-preserved c =
    let e = c.in_ok-entry.ensures in
    let stale = seen_as (λ h. ¬ IsCurrent h c.in_ok-entry.field-0.0) _ _ _ _ c.as_slice.ensures.value c.as_slice-in-entries.ensures.value c.if-is_current.ensures in
    record {
      same = c.entries.invariant.same;
      queue = rw (e.room, e.more) (without_stale _ _ _ _ _ c.in_ok-entry.field-0 e.taken _ _ c.entries.invariant.queue e.ordered stale);
    }
