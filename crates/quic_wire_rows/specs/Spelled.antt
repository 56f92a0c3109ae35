-- Bytes of frames at worked values.
use Rattle.std.specs.Prelude.{◌≡◌, ℕ, ◌-◌, List, [], ◌∷◌, length, take, map, Option, Some, None, Result, Ok, Err}
use Rattle.std.specs.List.{range_with_len}
use Rattle.quic_wire.specs.declared.frame.InvalidFrame.{InvalidFrame}
use Rattle.quic_wire.specs.declared.frame.FrameError.TheVariants.{UnexpectedEnd}
use Rattle.quic_wire.specs.Value.{FrameValue}
use Rattle.quic_wire.specs.FrameTypes.{kind_of}
use Rattle.quic_wire.specs.AckReading.{range_at, ranges_at, ecn_at, some_ecn_at, ack_at}
use Rattle.quic_wire.specs.Reading.{block_at, sized_at, reset_stream_at, stop_sending_at, crypto_at, offset_at, data_at, stream_at, stream_limit_at, byte_at, id_at, connection_id_at, id_and_token_at, issued_at, new_connection_id_at, connection_close_at, application_close_at, ack_frequency_at, body_at}
use Rattle.quic_wire.specs.Items.{frame_at, items_within, items, without_padding}
use Rattle.quic_wire.specs.Writing.{stream_spelling, spelling, frame_size}

-- what a payload is read as
unfoldable pub read : List ℕ → List (Result FrameValue InvalidFrame)
unfolding kind_of range_at ranges_at ecn_at some_ecn_at ack_at block_at sized_at reset_stream_at stop_sending_at crypto_at offset_at data_at stream_at stream_limit_at byte_at id_at connection_id_at id_and_token_at issued_at new_connection_id_at connection_close_at application_close_at ack_frequency_at body_at frame_at items_within items
read bytes = items bytes

-- the same without PADDING
unfoldable pub read_unpadded : List ℕ → List (Result FrameValue InvalidFrame)
unfolding read without_padding
read_unpadded bytes = without_padding (read bytes)

-- how a frame is written
unfoldable pub write : FrameValue → List ℕ
unfolding stream_spelling
write frame = spelling frame

-- a payload is read as this frame alone, which is written as it and has as many bytes
abbrev pub IsSpelled : FrameValue → List ℕ → Type 0
IsSpelled frame bytes = (read bytes ≡ Ok frame ∷ []) × (write frame ≡ bytes) × (frame_size frame ≡ length bytes)

-- why the first of some items is no frame, if it isn't
abbrev pub refused : List (Result FrameValue InvalidFrame) → Option InvalidFrame
refused [] = None
refused (Ok frame ∷ others) = None
refused (Err invalid ∷ others) = Some invalid

-- why no frame stands at the front of some bytes
unfoldable pub refusal : List ℕ → Option InvalidFrame
unfolding read
refusal bytes = refused (read bytes)

-- the same of each part of them from the front, from the first byte alone to all but the last
unfoldable pub cut_refusals : List ℕ → List (Option InvalidFrame)
unfolding refusal
cut_refusals bytes = map (λ n. refusal (take n bytes)) (range_with_len 1 (length bytes - 1))

-- a frame of this type ends too early
abbrev pub ends_early : ℕ → Option InvalidFrame
ends_early type = Some (record { ty = Some type; reason = UnexpectedEnd })

-- some bytes are a frame, of this type, and each part of them from the front ends too early
abbrev pub IsCutAnywhere : ℕ → List ℕ → Type 0
IsCutAnywhere type bytes = (refusal bytes ≡ None) × (cut_refusals bytes ≡ map (λ n. ends_early type) (range_with_len 1 (length bytes - 1)))
