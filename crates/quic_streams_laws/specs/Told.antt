-- A limit that grew enough waits to be told (RFC 9000, section 4.1).
use Rattle.std.specs.Prelude.{◌≡◌, ℕ, true}
use Rattle.quic_wire_core.specs.declared.stream_id.Dir.{Dir}
use Rattle.quic_streams_parts.specs.Dirs.{of}
use Rattle.quic_retransmits.specs.Retransmits.{Retransmits, has_id}
use Rattle.quic_streams_state.specs.declared.state.StreamsState.{StreamsState}
use Rattle.quic_streams_state.specs.Limits.{data_grew, count_grew, stream_grew}

-- those of all streams, and how many streams there may be
pub record CountsAreTold (s : StreamsState) (p : Retransmits) : Type 0 where
  pub bytes : data_grew s.receiving ≡ true → p.max_data ≡ true
  pub counts : (dir : Dir) → count_grew dir s.opening ≡ true → of dir p.max_stream_id ≡ true

-- those too of each stream; between calls, but not in a read, which tells at its end
pub record AreTold (s : StreamsState) (p : Retransmits) : Type 0 where
  pub all : CountsAreTold s p
  pub each : (id : ℕ) → stream_grew s id ≡ true → has_id id p.max_stream_data ≡ true
