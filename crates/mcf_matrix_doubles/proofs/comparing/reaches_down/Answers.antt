use Rattle.std.proofs.Common.{◌≤◌, ◌<ℤ◌, arith, pos, refl}
use Rattle.std.proofs.lemmas.Int.{ints}
use Rattle.mcf_matrix_doubles.proofs.Powers.{far_down, too_great}
use Rattle.mcf_matrix_doubles.proofs.comparing.reaches_down.Goals as goal

pub returns-then-sum-gt-MANTISSAS : goal.returns-then-sum-gt-MANTISSAS
returns-then-sum-gt-MANTISSAS c =
    ((λ t. absurd (cc)), (λ le. absurd (too_great c.args.sum c.args.mantissa c.args.places (omega (arith, ints, c.if-sum-gt-MANTISSAS.true)) c.requires le)))

pub returns-then-sum-lt0 : goal.returns-then-sum-lt0
returns-then-sum-lt0 c =
    let below : c.args.sum <ℤ pos 0 = omega (arith, ints, c.if-sum-lt0.true) in
    let least : 74 ≤ c.args.places = c.if-places-lt-PLACES.false in
    ((λ t. (far_down c.args.sum c.args.mantissa c.args.places least c.requires (λ e. omega (arith, ints, below, e))).0 below), (λ le. refl))

pub returns-then-sum-gt0 : goal.returns-then-sum-gt0
returns-then-sum-gt0 c =
    let above : pos 0 <ℤ c.args.sum = omega (arith, ints, c.if-sum-gt0.true) in
    let least : 74 ≤ c.args.places = c.if-places-lt-PLACES.false in (
      (λ t. absurd (cc)),
      (λ le.
          let below = (far_down c.args.sum c.args.mantissa c.args.places least c.requires (λ e. omega (arith, ints, above, e))).1 le in
          absurd (omega (arith, ints, above, below))),
    )
