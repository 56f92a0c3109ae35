-- What an end may name in a frame that it gives: streams that it knows, and counts to which
-- streams may come (RFC 9000, sections 2.1 and 4.6).
use Rattle.std.specs.Prelude.{◌≡◌, ℕ, ◌≤◌, true}
use Rattle.quic_streams_state.specs.declared.state.StreamsState.{StreamsState}
use Rattle.quic_streams_state.specs.declared.taking.IdRule.{IdRule}
use Rattle.quic_streams_state.specs.declared.taking.IdRule.TheVariants.{Free, ReceivingOf, SendingOf, NotOfOwn, Counting}
use Rattle.quic_streams_state.specs.State.{is_opened, sends_on, receives_on}
use Rattle.quic_streams_state.specs.Limits.{most_streams}

-- the end sends on a stream that is opened
abbrev pub Sends : StreamsState → ℕ → Type 0
Sends s id = (sends_on s.side id ≡ true) × (is_opened s id ≡ true)

-- the end receives on such a stream
abbrev pub Receives : StreamsState → ℕ → Type 0
Receives s id = (receives_on s.side id ≡ true) × (is_opened s id ≡ true)

-- what lets it give a frame that is held to a rule at its peer: where that receives, it sends
abbrev pub MayGiveBy : StreamsState → IdRule → Type 0
MayGiveBy s Free = Unit {0}
MayGiveBy s (ReceivingOf id) = Sends s id
MayGiveBy s (SendingOf id) = Receives s id
MayGiveBy s (NotOfOwn id) = sends_on s.side id ≡ true
MayGiveBy s (Counting count) = count ≤ most_streams
