use Rattle.std.proofs.Common.{◌≡◌, ◌+◌, ◌≤◌, ◌∷◌, map, neg_ℤ, pos, vec_capacity, vec_len}
use Rattle.std.specs.Prelude.{if◌then◌else◌}
use Rattle.std.specs.List.{range_with_len}
use Rattle.mcf_basis.specs.Artificial.{is_sender}
use Rattle.mcf_basis.proofs.starting.star_prices.Given as goal

abbrev pub invariant-loop-i : goal.invariant-loop-i
invariant-loop-i g l =
    record {
      prices : l.made.items ≡ pos 0 ∷ map (λ v. if is_sender l.net v then l.fn.cost else neg_ℤ l.fn.cost) (range_with_len 1 l.i);
      size : vec_len l.made ≡ l.i + 1;
      room : l.count + 1 ≤ vec_capacity l.made;
    }
