use Rattle.std.proofs.Common.{◌≡◌, None}
use Rattle.mcf_text_tests.proofs.feeding.reads_long_comment.Given as goal

abbrev pub invariant-pieces : goal.invariant-pieces
invariant-pieces l = l.reader.fault ≡ None
