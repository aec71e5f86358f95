use Rattle.std.proofs.Common.{◌^◌, ◌≤ℤ◌, arith, pos}
use Rattle.std.proofs.Math.IntN.{◌*ℤ◌}
use Rattle.std.specs.Int.{w64}
use Rattle.std.proofs.lemmas.Int.{to_z-of_z}
use Rattle.mcf_matrix_doubles.proofs.Powers.{far_up, tests_less}
use Rattle.mcf_matrix_doubles.proofs.comparing.reaches_up.Goals as goal

pub returns-else-places-lt-PLACES : goal.returns-else-places-lt-PLACES
returns-else-places-lt-PLACES c =
    rw (to_z-of_z w64 c.args.mantissa c.ranges.mantissa)
    (tests_less (pos 0) c.args.mantissa (c.args.sum ≤ℤ (c.args.mantissa *ℤ pos (2 ^ c.args.places)))
    (far_up c.args.sum c.args.mantissa c.args.places c.if-places-lt-PLACES.false c.requires.sum (c.requires.normal (omega (arith, c.if-places-lt-PLACES.false)))))
