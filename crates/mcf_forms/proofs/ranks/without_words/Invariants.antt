use Rattle.std.proofs.Common.{◌≡◌, drop, map}
use Rattle.mcf_forms.specs.Ranks.{without_words}
use Rattle.mcf_forms.proofs.ranks.without_words.Given as goal

abbrev pub invariant-words : goal.invariant-words
invariant-words l =
    without_words (map (λ word. word.now) (drop l.place l.words)) l.left ≡ without_words (map (λ word. word.now) l.words) l.initial.left
