-- What holds of the streams of an end that writes beside what was written: there are few, and their
-- queue is in order, and the list of those that are blocked; whatever comes.
use Rattle.std.proofs.Common.{ℕ}
use Rattle.quic_streams_parts.specs.SendHalf.{SendHalf}
use Rattle.quic_streams_parts.specs.RecvHalf.{RecvHalf}
use Rattle.quic_streams_state.specs.declared.state.StreamsState.{StreamsState}
use Rattle.quic_streams_state.specs.State.{Receiving, room}
use Rattle.quic_streams_laws.specs.BlockedLaws.{blocked_kept}
use Rattle.quic_streams_laws.specs.Few.{AreFew}
use Rattle.quic_streams_laws.specs.FewLaws.{few_any}
use Rattle.quic_streams_laws.specs.Keeping.{KeepsBy, SendsOn, WritesOn}
use Rattle.quic_streams_laws.specs.Keeping as changes
use Rattle.quic_streams_laws.specs.Queued.{IsOrderly, IsBlockedRight}
use Rattle.quic_streams_laws.specs.QueuedLaws.{queue_kept}
use Rattle.quic_streams_laws.specs.ShapeLaws.{shape_any}
use Rattle.quic_streams_laws.specs.Written.{Wrote, IsSendHalf, HoldsWritten}
use Rattle.quic_streams_laws.specs.WrittenLaws.{holds_kept}

-- whatever changes
abbrev pub AnyRecv : Receiving → ℕ → RecvHalf → RecvHalf → Type 0
AnyRecv r id old new = Unit {0}

-- nothing is written on a half
abbrev pub GoesOn : StreamsState → ℕ → SendHalf → SendHalf → Type 0
GoesOn s id old new = SendsOn old new

-- bytes are written on it
abbrev pub GrowsOn : StreamsState → ℕ → ℕ → SendHalf → SendHalf → Type 0
GrowsOn s id n old new = WritesOn (room s.sending) n old new

-- the queue has no part in what comes
pub orderly_any : KeepsBy AnyRecv GoesOn GrowsOn IsOrderly
orderly_any (changes.changes_receiving r id old new) s (is, on, same) i = record { shape = shape_any (changes.changes_receiving r id old new) s (is, tt, same) i.shape; queue = record { stand = i.queue.stand; pending = i.queue.pending } }
orderly_any c s may i = queue_kept c s may i

-- nor has the list of those that are blocked
pub blocked_any : KeepsBy AnyRecv GoesOn GrowsOn IsBlockedRight
blocked_any (changes.changes_receiving r id old new) s (is, on, same) i = record { shape = shape_any (changes.changes_receiving r id old new) s (is, tt, same) i.shape; blocked = record { once = i.blocked.once; told = i.blocked.told; used = i.blocked.used } }
blocked_any c s may i = blocked_kept c s may i

-- all streams hold what was written on them, are few, and stand in order, as do those that are
-- blocked
pub record Keeping (done : ℕ → Wrote) (s : StreamsState) : Type 0 where
  pub holds : HoldsWritten done s
  pub few : AreFew s
  pub orderly : IsOrderly s
  pub blocked : IsBlockedRight s

-- a half goes on, and holds what it held
abbrev pub HoldsOn : (ℕ → Wrote) → StreamsState → ℕ → SendHalf → SendHalf → Type 0
HoldsOn done s id old new = SendsOn old new × (IsSendHalf (done id) old → IsSendHalf (done id) new)

-- bytes are written, and it holds what it held
abbrev pub HoldsMore : (ℕ → Wrote) → StreamsState → ℕ → ℕ → SendHalf → SendHalf → Type 0
HoldsMore done s id n old new = WritesOn (room s.sending) n old new × (IsSendHalf (done id) old → IsSendHalf (done id) new)

-- each small change that writes nothing keeps all four
pub keeping_kept : (done : ℕ → Wrote) → KeepsBy AnyRecv (HoldsOn done) (HoldsMore done) (Keeping done)
keeping_kept done (changes.changes_sending id old new) s (is, on, same) i = record { holds = holds_kept done (changes.changes_sending id old new) s (is, on.1, same) i.holds; few = few_any (changes.changes_sending id old new) s (is, tt, same) i.few; orderly = orderly_any (changes.changes_sending id old new) s (is, on.0, same) i.orderly; blocked = blocked_any (changes.changes_sending id old new) s (is, on.0, same) i.blocked }
keeping_kept done (changes.queues id old new b) s (is, on, has) i = record { holds = holds_kept done (changes.queues id old new b) s (is, on.1, has) i.holds; few = few_any (changes.queues id old new b) s (is, tt, has) i.few; orderly = orderly_any (changes.queues id old new b) s (is, on.0, has) i.orderly; blocked = blocked_any (changes.queues id old new b) s (is, on.0, has) i.blocked }
keeping_kept done (changes.turns id old new) s (is, on, has) i = record { holds = holds_kept done (changes.turns id old new) s (is, on.1, has) i.holds; few = few_any (changes.turns id old new) s (is, tt, has) i.few; orderly = orderly_any (changes.turns id old new) s (is, on.0, has) i.orderly; blocked = blocked_any (changes.turns id old new) s (is, on.0, has) i.blocked }
keeping_kept done (changes.writes id n old new) s (is, on, has) i = record { holds = holds_kept done (changes.writes id n old new) s (is, on.1, has) i.holds; few = few_any (changes.writes id n old new) s (is, tt, has) i.few; orderly = orderly_any (changes.writes id n old new) s (is, on.0, has) i.orderly; blocked = blocked_any (changes.writes id n old new) s (is, on.0, has) i.blocked }
keeping_kept done c s may i = record { holds = holds_kept done c s may i.holds; few = few_any c s may i.few; orderly = orderly_any c s may i.orderly; blocked = blocked_any c s may i.blocked }
