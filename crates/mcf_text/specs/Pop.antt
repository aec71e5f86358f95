-- What `pop` gives and leaves.
-- Source: own
use Rattle.std.specs.Prelude.{◌≡◌, ◌+◌, ◌<◌, ◌≤◌, length, Option, MatchOption}
use Rattle.mcf_text.specs.declared.parts.Line.{Line}
use Rattle.mcf_text.specs.Feed.{Feed, HasNoLine, FinishesLine, after_line, byte_limit}

-- the line was the first of the feed, and the new feed is what follows it
pub record TakesLine (old : Feed) (line : Line) (new : Feed) : Type 0 where
  pub number : line.number ≡ old.popped + 1
  pub few : line.number ≤ byte_limit
  pub finishes : FinishesLine old line.bytes.now new.rest
  pub shorter : length new.rest < length old.rest
  pub after : new ≡ after_line old new.rest

-- the first finished line and the feed after it, or none and the feed as it was
abbrev pub PopsLine : Feed → Option Line → Feed → Type 0
PopsLine old popped new = MatchOption popped (HasNoLine old × (new ≡ old)) (λ line. TakesLine old line new)
