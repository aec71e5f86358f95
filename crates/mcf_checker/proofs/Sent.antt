-- Bytes taken by one call after another. The same lemmas stand in mcf_solver, for its sinks.
use Rattle.std.proofs.Common.{◌++◌, ◌+◌, ℕ, List, Option, None, Some, length, take, drop, sym, ap, ◌∙◌, append_assoc, ◌-◌}
use Rattle.std.proofs.Math.Seq.{take-add}
use Rattle.std.proofs.lemmas.List.{take-append-drop, take_rest}
use Rattle.std.specs.Io.KnownBytes.{Appends, Keeps}
use Rattle.mcf_checker.specs.Runs.{TakesBeginning}

-- some bytes, and then some more
appends-then : (first next last : Option (List ℕ)) (bytes more : List ℕ) → Appends first next bytes → Appends next last more
    → Appends first last (bytes ++ more)
appends-then None next last bytes more p q = tt
appends-then (Some xs) None last bytes more p q = absurd p
appends-then (Some xs) (Some ys) None bytes more p q = absurd q
appends-then (Some xs) (Some ys) (Some zs) bytes more p q = q ∙ ap (λ t. t ++ more) p ∙ append_assoc xs bytes more

-- some bytes, and then no more
pub appends-kept : (first next last : Option (List ℕ)) (bytes : List ℕ) → Appends first next bytes → Keeps next last → Appends first last bytes
appends-kept None next last bytes p q = tt
appends-kept (Some xs) None last bytes p q = absurd p
appends-kept (Some xs) (Some ys) None bytes p q = absurd q
appends-kept (Some xs) (Some ys) (Some zs) bytes p q = q ∙ p

-- a piece from where the last one ended
pub appends-piece : (first next last : Option (List ℕ)) (text : List ℕ) (taken count : ℕ)
    → Appends first next (take taken text) → Appends next last (take count (take (length text - taken) (drop taken text)))
    → Appends first last (take (taken + count) text)
appends-piece first next last text taken count p q =
    let more = take count (drop taken text) in
    let piece = rw (take_rest text taken) at q in
    rw (take-add taken count text) (appends-then first next last (take taken text) more p piece)

-- a beginning, and then no more
pub begins : (first next last : Option (List ℕ)) (text : List ℕ) (taken : ℕ) → Appends first next (take taken text) → Keeps next last
    → TakesBeginning first last text
begins first next last text taken p q = record {
  part = take taken text;
  rest = drop taken text;
  whole = sym (take-append-drop taken text);
  taken = appends-kept first next last (take taken text) p q;
}
