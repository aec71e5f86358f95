use Rattle.std.proofs.Common.{◌∙◌, ap}
use Rattle.mcf_instance.specs.Arrays.{arc_of_numbers}
use Rattle.mcf_instance.specs.ReadOn.{StateData}
use Rattle.mcf_instance.proofs.ArrayFaults.{entry_refused, entry_taken}
use Rattle.mcf_instance.proofs.arrays.take_arcs.Goals as goal

pub loop-place-preserved : goal.loop-place-preserved
loop-place-preserved c =
    let l = c.loop-place in
    let offered = rw c.in-None.is at c.in_ok-fault.ensures.offered in
    record {
      header = ap (λ (s : StateData). s.header) offered.2 ∙ l.invariant.header;
      taken = λ g is held.
          entry_taken arc_of_numbers c.args.arcs.now l.place _ g l.state c.offer.new.self c.args.header c.numbers_of_arc.result c.loop-place-test.true is l.invariant.header
          c.numbers_of_arc.ensures (l.invariant.taken g is held) c.in_ok-fault.ensures.sound offered;
    }

pub returns-in-Some-clause-took : goal.returns-in-Some-clause-took
returns-in-Some-clause-took c =
    let l = c.loop-place in
    let offered = rw c.in-Some.is at c.in_ok-fault.ensures.offered in
    rw c.new.ensures
    (λ g is held.
    entry_refused arc_of_numbers c.args.arcs.now l.place _ g l.state c.offer.new.self c.args.header c.numbers_of_arc.result c.in-Some.code c.loop-place-test.true is
    l.invariant.header c.numbers_of_arc.ensures (l.invariant.taken g is held) c.in_ok-fault.ensures.sound offered)
