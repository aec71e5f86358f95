-- The span of a route, from its parts.
use Rattle.std.proofs.Common.{◌≡◌, Bool, List, [], ap, ◌∙◌, ℤ, pos}
use Rattle.std.specs.Prelude.{Option, ◌&&◌}
use Rattle.std.specs.Ordering.{int_eq}
use Rattle.mcf_model.specs.Model.{Route}
use Rattle.mcf_model.specs.Prices.{price_drop}
use Rattle.mcf_unit_ranges.specs.Spans.{directed, span}

abbrev pub flat : Route → ℤ → Option ℤ → Bool → Route
flat q low high both =
    record { tail = q.tail; head = q.head; least = low; steps = []; last_most = high; last_cost = pos 0; both = both }

pub span_is : (prices : List ℤ) (r q : Route) (low : ℤ) (high : Option ℤ) (both : Bool) → q ≡ directed prices r → low ≡ (span prices r).least
    → high ≡ (span prices r).last_most → both ≡ (q.both && int_eq (price_drop prices q) (pos 0)) → flat q low high both ≡ span prices r
span_is prices r q low high both e l h b =
    ap (λ x. flat q x high both) l ∙ ap (λ x. flat q (span prices r).least x both) h ∙ ap (λ x. flat q (span prices r).least (span prices r).last_most x) b
    ∙ ap (λ p. flat p (span prices r).least (span prices r).last_most (p.both && int_eq (price_drop prices p) (pos 0))) e
