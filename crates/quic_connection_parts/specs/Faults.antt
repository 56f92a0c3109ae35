-- What was wrong with a packet, where memory may lack.
use Rattle.std.specs.Prelude.{◌≡◌, ◌<◌, ◌≤◌, ◌^◌, ℕ, Bool, List, [], ◌∷◌, Option, Some, None, IfSome, Result, Ok, Err}
use Rattle.quic_wire.specs.Value.{FrameValue, ack, datagram, path_challenge, path_response, max_stream_data, connection_close, application_close, new_connection_id, retire_connection_id, handshake_done, immediate_ack, ack_frequency}
use Rattle.quic_wire.specs.declared.frame.InvalidFrame.{InvalidFrame}
use Rattle.quic_streams_parts.specs.declared.answers.ReceivedError.{ReceivedError}
use Rattle.quic_streams_parts.specs.declared.answers.ReceivedError.TheVariants as errors
use Rattle.quic_streams_handles.specs.declared.end_streams.EndStreams.{EndStreams}
use Rattle.quic_streams_state.specs.State.{streams_of}
use Rattle.quic_congestion.specs.Congestion.{Told, Steps, after_calls}
use Rattle.quic_machine.specs.End.{End, ConnectionValue, with_streams}
use Rattle.quic_wire_core.specs.declared.shared.EcnCodepoint.{EcnCodepoint}
use Rattle.quic_machine.specs.Receive.{Fault, broke, too_many_pieces, closed_by_peer, fault_of_breach, Progress, too_many_ids, take_frame, after_taken}
use Rattle.quic_retransmits.specs.declared.retransmits.RetireError.{RetireError}
use Rattle.quic_retransmits.specs.declared.retransmits.RetireError.TheVariants as retiring
use Rattle.quic_machine.specs.declared.answers.NextIdError.{NextIdError}
use Rattle.quic_machine.specs.declared.answers.NextIdError.TheVariants as next_errors
use Rattle.quic_connection_parts.specs.declared.receiving.AckDemand.{AckDemand}
use Rattle.quic_connection_parts.specs.declared.receiving.Trouble.{Trouble}
use Rattle.quic_connection_parts.specs.declared.receiving.Trouble.TheVariants as troubles

-- the fault of a packet; want of memory is none
abbrev pub fault_view : Trouble → Option Fault
fault_view (troubles.Broke error) = Some (broke error)
fault_view troubles.TooManyPieces = Some too_many_pieces
fault_view (troubles.Closed close) = Some (closed_by_peer close.value.kept)
fault_view troubles.Memory = None

-- frames are taken as the machine takes them, up to the fault that is answered, unless memory
-- lacked
abbrev pub TakesAs : Result (Unit {0}) Trouble → Progress → End → Type 0
TakesAs (Ok x) p e = p ≡ record { end = e; fault = None }
TakesAs (Err trouble) p e = IfSome (fault_view trouble) (λ fault. p ≡ record { end = e; fault = Some fault })

-- the same, where it is answered whether a frame asks for an acknowledgement, and whether one is due
-- at once
abbrev pub TakesAllAs : Result AckDemand Trouble → Progress → Bool → Bool → End → Type 0
TakesAllAs (Ok demand) p asking urged e = (demand.asks ≡ asking) × (demand.urged ≡ urged) × (p ≡ record { end = e; fault = None })
TakesAllAs (Err trouble) p asking urged e = IfSome (fault_view trouble) (λ fault. p ≡ record { end = e; fault = Some fault })

-- the same, where the number is taken behind the frames of its packet
abbrev pub TakesPacketAs : Result (Unit {0}) Trouble → Progress → Bool → Bool → ℕ → Option EcnCodepoint → End → Type 0
TakesPacketAs (Ok x) p asking urged n mark e = (p.fault ≡ None) × (e ≡ after_taken n asking urged mark p.end)
TakesPacketAs (Err trouble) p asking urged n mark e = IfSome (fault_view trouble) (λ fault. p ≡ record { end = e; fault = Some fault })

-- unless memory lacked, a controller was told this
abbrev pub TellsAs : {A H K R C : Type 0} → Result A Trouble → Steps C → ConnectionValue H K R C → List Told → ConnectionValue H K R C → Type 0
TellsAs (Ok x) steps old told new = new.control ≡ after_calls steps old.control told
TellsAs (Err trouble) steps old told new = IfSome (fault_view trouble) (λ fault. new.control ≡ after_calls steps old.control told)

-- ---- frames for streams

-- what an error of streams comes to
abbrev pub Becomes : ReceivedError → Trouble → Type 0
Becomes (errors.Breach b) trouble = fault_view trouble ≡ Some (fault_of_breach b)
Becomes errors.Memory trouble = trouble ≡ troubles.Memory

-- the end whose streams are these
abbrev pub holding : EndStreams → End → End
holding s e = with_streams e (streams_of s.state s.pending)

-- a frame is taken as the machine takes it, whatever else the end is that has these streams, and
-- leaves those
abbrev pub TakesOn : Result (Unit {0}) Trouble → FrameValue → EndStreams → EndStreams → Type 0
TakesOn result f old new = (e : End) → TakesAs result (take_frame f (holding old e)) (holding new e)

-- a frame that is neither ACK nor DATAGRAM, nor a close, nor one of path validation, nor one of ACK
-- frequency, nor HANDSHAKE_DONE, and speaks of no connection id
abbrev pub IsOther : FrameValue → Type 0
IsOther (ack a) = ⊥
IsOther (datagram m) = ⊥
IsOther (connection_close c) = ⊥
IsOther (application_close c) = ⊥
IsOther (new_connection_id f) = ⊥
IsOther (retire_connection_id n) = ⊥
IsOther (path_challenge token) = ⊥
IsOther (path_response token) = ⊥
IsOther handshake_done = ⊥
IsOther immediate_ack = ⊥
IsOther (ack_frequency f) = ⊥
IsOther f = Unit {0}

-- the numbers that a frame tells of a limit on a stream, or of a close, have a form as
-- variable-length integers (RFC 9000, section 16), and so has the number of an id, which asks for
-- none above it to be retired (section 19.15)
abbrev pub HasForm : FrameValue → Type 0
HasForm (max_stream_data f) = f.limit < 2 ^ 62
HasForm (connection_close c) = (c.code < 2 ^ 62) × (c.frame_type < 2 ^ 62)
HasForm (application_close c) = c.code < 2 ^ 62
HasForm (new_connection_id f) = (f.sequence < 2 ^ 62) × (f.retire_prior_to ≤ f.sequence)
HasForm f = Unit {0}

-- so it is of what was read of a payload
abbrev pub ItemHasForm : Result FrameValue InvalidFrame → Type 0
ItemHasForm (Ok f) = HasForm f
ItemHasForm (Err x) = Unit {0}

-- and of all of it
abbrev pub AllHaveForm : List (Result FrameValue InvalidFrame) → Type 0
AllHaveForm [] = Unit {0}
AllHaveForm (i ∷ is) = ItemHasForm i × AllHaveForm is

-- ---- connection ids

-- what it comes to that ids of the peer aren't retired
abbrev pub IsRetiring : RetireError → Trouble → Type 0
IsRetiring retiring.LimitExceeded trouble = fault_view trouble ≡ Some too_many_ids
IsRetiring retiring.Memory trouble = trouble ≡ troubles.Memory

-- why the next id isn't used then
abbrev pub next_refusal : RetireError → NextIdError
next_refusal retiring.LimitExceeded = next_errors.TooManyPending
next_refusal retiring.Memory = next_errors.Memory
