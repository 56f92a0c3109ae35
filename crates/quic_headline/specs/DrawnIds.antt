-- Of which connection ids an end tells its peer, and by which tokens a stateless reset of them is
-- known: words of its random source (RFC 9000, sections 5.1 and 10.3.2), other ones for each, but
-- for those with which the end was made, of which nothing is said. So none of the others is told
-- twice but where the source repeats itself.
use Rattle.std.specs.Prelude.{ℕ, ◌+◌, ◌<◌, ◌≤◌, ◌≡◌, ◌⊎◌, ◌++◌, List}
use Rattle.std.specs.Int.{w64, to_be_bytes}
use Rattle.quic_wire_core.specs.declared.stream_id.Side.{Side}
use Rattle.quic_wire.specs.Value.{NewConnectionIdValue, new_connection_id}
use Rattle.quic_streams_state.specs.Control.{issued_in}
use Rattle.quic_machine.specs.declared.answers.State.TheVariants as states
use Rattle.quic_machine.specs.End.{End, words_drawn}
use Rattle.quic_machine.specs.Machine.{policy_at, end_at}
use Rattle.quic_headline.specs.Runs.{Run, In, AreServed, state_at}
use Rattle.quic_headline.specs.Observer.{Sent, sents_until}
use Rattle.quic_headline.specs.Duties.{WasGiven}

-- Three words of a random source, one behind another from a place on, are an id and its token: the
-- first is the id, the others are the token, each in eight bytes, the greatest first.
pub record IsDrawnAt (words : ℕ → ℕ) (place : ℕ) (f : NewConnectionIdValue) : Type 0 where
  pub id : f.id ≡ to_be_bytes w64 (words place)
  pub token : f.token ≡ to_be_bytes w64 (words (place + 1)) ++ to_be_bytes w64 (words (place + 2))

-- So is each id of which these datagrams tell, but for those with which their end was made: of
-- words that it draws since, which stand behind those of each lower number.
pub record AreDrawnIds (made : End) (words : ℕ → ℕ) (sents : List Sent) : Type 0 where
  pub place : ℕ → ℕ
  pub each : (f : NewConnectionIdValue) → WasGiven sents (new_connection_id f)
      → In (issued_in f) made.waiting.frames.new_cids ⊎ ((made.ids.own.issued ≤ f.sequence) × (words_drawn made ≤ place f.sequence) × IsDrawnAt words (place f.sequence) f)
  pub apart : (f g : NewConnectionIdValue) → WasGiven sents (new_connection_id f) → WasGiven sents (new_connection_id g) → made.ids.own.issued ≤ f.sequence → f.sequence < g.sequence → place f.sequence + 3 ≤ place g.sequence

-- so it is of those that an end gave by a place where it is open
abbrev pub IdsAreDrawn : Run → Type 0
IdsAreDrawn r = (side : Side) (i : ℕ) → AreServed r i → state_at r side i ≡ states.Open → AreDrawnIds (end_at side r.start) (policy_at side r.keys).words (sents_until r side i)
