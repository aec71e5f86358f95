-- Instance texts that come in pieces.
-- Source: own
use Rattle.std.specs.Prelude.{◌≡◌, ℕ, false, List, length, Option, None}
use Rattle.mcf_flows.specs.Limits.{Limits}
use Rattle.mcf_instance.specs.ReadOn.{HasReadOn, StateData}
use Rattle.mcf_text.specs.Feed.{Feed}
use Rattle.mcf_text.specs.declared.fault.FeedFault.{FeedFault}

-- what is seen of a `Reader`: the bytes whose line isn't finished, what the finished lines say, how
-- many bytes were taken, and why a piece was refused, if one was
pub record ReaderData : Type 0 where
  pub lines : Feed
  pub state : StateData
  pub fed : ℕ
  pub fault : Option FeedFault

-- The reader has taken this text and refused no piece. Its finished lines were read, up to the
-- first that has a fault; and where one has, that is the first fault of the text, whatever follows.
pub record StandsFor (allowed : Limits) (reader : ReaderData) (text : List ℕ) : Type 0 where
  pub unrefused : reader.fault ≡ None
  pub counted : reader.fed ≡ length text
  pub is_open : reader.lines.has_ended ≡ false
  pub read_on : HasReadOn allowed text reader.lines reader.state
