-- A client whose writes on stream 0 a limit blocks, and the control frames that go behind them.
use Rattle.std.specs.Prelude.{ℕ, zero, suc, true, codes, Ok}
use Rattle.quic_wire_core.specs.declared.stream_id.Side.TheVariants.{Client}
use Rattle.quic_wire_core.specs.declared.stream_id.Dir.TheVariants.{Bi}
use Rattle.quic_retransmits.specs.Retransmits.{nothing_waits, merged}
use Rattle.quic_streams_state.specs.declared.state.StreamsState.{StreamsState}
use Rattle.quic_streams_state.specs.State.{Streams, new_streams}
use Rattle.quic_streams_state.specs.Opening.{after_open, after_max_streams}
use Rattle.quic_streams_state.specs.Taking.{after_max_data, after_max_stream_data}
use Rattle.quic_streams_state.specs.Writing.{write_answer, after_write}
use Rattle.quic_streams_state.specs.Control.{Draft, no_frames, with_control_frames}

-- stream 0 is open, and the peer lets so many bytes come on all streams, and so many on it
abbrev pub opened : ℕ → ℕ → StreamsState
opened all own = after_max_stream_data (after_open true Bi (after_max_data (after_max_streams Bi 1 (new_streams Client 1 1 100 8 8)) all)) 0 own

-- seven bytes were taken
abbrev pub seven_taken : StreamsState → StreamsState
seven_taken s = (after_write true (Ok 7) s nothing_waits 0 (codes "seventh")).state

-- no frame went yet
abbrev pub start : StreamsState → Draft
start s = no_frames 0 s nothing_waits nothing_waits

-- the control frames go that wait
abbrev pub told : Draft → Draft
told d = with_control_frames 1000 d

-- a byte is written, as far as it is taken
abbrev pub written : Draft → Draft
written d =
    let t : Streams = after_write true (write_answer true d.state 0 1) d.state d.pending 0 (codes "b") in
    record d { state = t.state; pending = t.pending }

-- so many bytes are written, one behind another, and behind each the frames go
abbrev pub often : ℕ → Draft → Draft
often zero d = d
often (suc n) d = often n (told (written d))

-- the frames that went are lost, and go again where they are due
abbrev pub lost : Draft → Draft
lost d = told (record d { pending = merged d.pending d.sent; sent = nothing_waits })

-- the peer lets so many bytes come on all streams
abbrev pub let_all : ℕ → Draft → Draft
let_all limit d = record d { state = after_max_data d.state limit }

-- and so many on stream 0
abbrev pub let_own : ℕ → Draft → Draft
let_own limit d = record d { state = after_max_stream_data d.state 0 limit }
