use Rattle.std.proofs.Common.{◌≡◌, ◌∙◌, ◌+◌, ◌≤◌, Err, ap, arith, length, take}
use Rattle.mcf_solver.specs.Running.{text_limit}
use Rattle.mcf_solver.specs.declared.fault.RunFault.TheVariants.{Read, Write, TooLong}
use Rattle.mcf_solver.proofs.DeviceLaws.{consumes-all}
use Rattle.mcf_solver.proofs.ReadPieces.{not-over, taken-more, taken-over}
use Rattle.mcf_solver.proofs.running.feed_all.Goals as goal

pub reads-preserved : goal.reads-preserved
reads-preserved g c =
    let taken = c.reads.invariant.taken in
    let within : length taken.text + length (take c.in-Ok.count c.read.new.piece) ≤ text_limit =
    not-over _ _ _ c.in-Ok-feed.is (c.feed.ensures.too_long taken.text taken.stands).1 in
    record {
      taken = taken-more c.reads.reader _ _ _ c.read.new.piece c.in-Ok.count taken c.in-Ok.ensures.bytes.0 c.feed.new.self c.in-Ok-feed.ensures.ok within;
      room = let r = c.read.auto.piece in let room = c.reads.invariant.room in omega arith;
      unfailed = c.in-Ok.ensures.worked ∙ c.reads.invariant.unfailed;
    }

pub returns-then-count-eq0-clause-taken : goal.returns-then-count-eq0-clause-taken
returns-then-count-eq0-clause-taken g c =
    let taken = c.reads.invariant.taken in
    let room : 1 ≤ length c.read.new.piece = (let r = c.read.auto.piece in let room = c.reads.invariant.room in omega arith) in
    record {
      text = taken.text;
      stands = taken.stands;
      in_range = taken.in_range;
      is_given = consumes-all _ _ _ taken.text taken.consumed (rw c.if-count-eq0.true at c.in-Ok.ensures.bytes.0)
          (c.in-Ok.ensures.bytes.1 c.if-count-eq0.true (omega (arith, room)));
    }

pub returns-in-Err-TooLong-clause-failed : goal.returns-in-Err-TooLong-clause-failed
returns-in-Err-TooLong-clause-failed g c =
    let taken = c.reads.invariant.taken in
    record {
      read_failed = λ (e : TooLong ≡ Read). cc;
      unfailed = λ _. c.in-Ok.ensures.worked ∙ c.reads.invariant.unfailed;
      too_long = λ _. taken-over c.reads.reader _ _ _ c.read.new.piece c.in-Ok.count taken c.in-Ok.ensures.bytes.0
          ((c.feed.ensures.too_long taken.text taken.stands).0 (c.in-Err-TooLong.is ∙ ap Err c.in-Err-TooLong.field-0-is));
      no_write = λ (e : TooLong ≡ Write). cc;
    }
