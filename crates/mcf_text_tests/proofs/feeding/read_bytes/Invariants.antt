use Rattle.std.proofs.Common.{◌≡◌, None}
use Rattle.mcf_text_tests.proofs.feeding.read_bytes.Given as goal

abbrev pub invariant-bytes : goal.invariant-bytes
invariant-bytes l = l.reader.fault ≡ None
