-- What an observer says that a datagram carried, kind by kind, is what the machine keeps of its
-- frames, one behind another.
use Rattle.std.proofs.Common.{◌≡◌, ℕ, zero, suc, Bool, true, false, not, ◌||◌, List, [], ◌∷◌, ◌++◌, replicate, Option, refl, sym, ap, ◌∙◌}
use Rattle.quic_streams_state.specs.Control.{issued_in}
use Rattle.std.specs.List.{list_any, fold}
use Rattle.std.proofs.Math.Bool.{or-true, or-false}
use Rattle.std.proofs.lemmas.List.{append_assoc, append-nil}
use Rattle.quic_wire_core.specs.declared.shared.IssuedCid.{IssuedCid}
use Rattle.quic_wire.specs.Value.{FrameValue, StopSendingValue, ack, stream, handshake_done, reset_stream, stop_sending, max_data, max_stream_data, max_streams, data_blocked, stream_data_blocked, new_connection_id, retire_connection_id, ack_frequency, padding}
use Rattle.quic_send_buffer.specs.declared.stream_meta.StreamMeta.{StreamMeta}
use Rattle.quic_streams_parts.specs.SendHalf.{meta_of}
use Rattle.quic_streams_parts.specs.Dirs.{Flags, with_of}
use Rattle.quic_retransmits.specs.Retransmits.{Retransmits, nothing_waits, with_ids}
use Rattle.quic_machine.specs.Tracking.{acked_in, streams_in, dir_named, and_again, retransmits_in, carried_in}
use Rattle.quic_headline.specs.InFlight.{offsets_in, all_offsets, first_acknowledged, is_handshake_done, is_max_data, is_data_blocked, is_ack_frequency, is_max_streams, resets_in, stops_in, limits_in, blocked_in, new_ids_in, retirements_in, again_in, carried_by}

-- the offsets that stand in frames are what the machine carries of them
offsets_same : (fs : List FrameValue) → all_offsets fs ≡ streams_in fs
offsets_same [] = refl
offsets_same (stream f ∷ fs) = ap (λ (ms : List StreamMeta). offsets_in f ∷ ms) (offsets_same fs)
offsets_same (f ∷ fs) = offsets_same fs

-- so is what they acknowledge
pub acknowledged_same : (fs : List FrameValue) → first_acknowledged fs ≡ acked_in fs
acknowledged_same [] = refl
acknowledged_same (ack a ∷ fs) = refl
acknowledged_same (f ∷ fs) = acknowledged_same fs

-- ---- what has to be sent again

-- the flags of MAX_STREAMS, with those of more frames
abbrev flags_from : Flags → List FrameValue → Flags
flags_from flags fs = record { bi = flags.bi || list_any (is_max_streams false) fs; uni = flags.uni || list_any (is_max_streams true) fs }

-- what has to be sent again, with what more frames say
abbrev again_from : Retransmits → List FrameValue → Retransmits
again_from r fs = record r {
  handshake_done = r.handshake_done || list_any is_handshake_done fs;
  max_data = r.max_data || list_any is_max_data fs;
  data_blocked = r.data_blocked || list_any is_data_blocked fs;
  max_stream_id = flags_from r.max_stream_id fs;
  reset_stream = r.reset_stream ++ resets_in fs;
  stop_sending = r.stop_sending ++ stops_in fs;
  max_stream_data = with_ids (limits_in fs) r.max_stream_data;
  stream_data_blocked = with_ids (blocked_in fs) r.stream_data_blocked;
  new_cids = r.new_cids ++ new_ids_in fs;
  retire_cids = r.retire_cids ++ retirements_in fs;
  ack_frequency = r.ack_frequency || list_any is_ack_frequency fs;
}

-- a flag that is set, whether it was set or not
set_flag : (b c : Bool) → true ≡ b || (true || c)
set_flag b c = sym (or-true b)

-- one more behind a list, or before others
one_between : {X : Type 0} (xs : List X) (x : X) (ys : List X) → (xs ++ x ∷ []) ++ ys ≡ xs ++ x ∷ ys
one_between xs x ys = append_assoc xs (x ∷ []) ys

-- a flag of one kind of streams
flags_more : (one_way : Bool) (flags : Flags) (more : List FrameValue) → flags_from (with_of (dir_named one_way) true flags) more
    ≡ record { bi = flags.bi || (not one_way || list_any (is_max_streams false) more); uni = flags.uni || (one_way || list_any (is_max_streams true) more) }
flags_more true flags more = ap (λ (b : Bool). record { bi = flags.bi || list_any (is_max_streams false) more; uni = b }) (set_flag flags.uni (list_any (is_max_streams true) more))
flags_more false flags more = ap (λ (b : Bool). record { bi = b; uni = flags.uni || list_any (is_max_streams true) more }) (set_flag flags.bi (list_any (is_max_streams false) more))

-- what frames say one behind another is what they say kind by kind
again_same : (r : Retransmits) (fs : List FrameValue) → fold and_again r fs ≡ again_from r fs
again_same r [] = rw (or-false r.handshake_done, append-nil r.reset_stream, append-nil r.stop_sending, or-false r.max_data, or-false r.data_blocked, or-false r.max_stream_id.bi, or-false r.max_stream_id.uni, append-nil r.new_cids, append-nil r.retire_cids, or-false r.ack_frequency) refl
again_same r (handshake_done ∷ fs) = again_same (and_again r handshake_done) fs ∙ ap (λ (b : Bool). record (again_from r fs) { handshake_done = b }) (set_flag r.handshake_done (list_any is_handshake_done fs))
again_same r (reset_stream f ∷ fs) = again_same (and_again r (reset_stream f)) fs ∙ ap (λ (rs : List (ℕ × ℕ)). record (again_from r fs) { reset_stream = rs }) (one_between r.reset_stream (f.id, f.code) (resets_in fs))
again_same r (stop_sending f ∷ fs) = again_same (and_again r (stop_sending f)) fs ∙ ap (λ (ss : List StopSendingValue). record (again_from r fs) { stop_sending = ss }) (one_between r.stop_sending f (stops_in fs))
again_same r (max_data limit ∷ fs) = again_same (and_again r (max_data limit)) fs ∙ ap (λ (b : Bool). record (again_from r fs) { max_data = b }) (set_flag r.max_data (list_any is_max_data fs))
again_same r (max_stream_data f ∷ fs) = again_same (and_again r (max_stream_data f)) fs
again_same r (max_streams f ∷ fs) = again_same (and_again r (max_streams f)) fs ∙ ap (λ (flags : Flags). record (again_from r fs) { max_stream_id = flags }) (flags_more f.one_way r.max_stream_id fs)
again_same r (data_blocked limit ∷ fs) = again_same (and_again r (data_blocked limit)) fs ∙ ap (λ (b : Bool). record (again_from r fs) { data_blocked = b }) (set_flag r.data_blocked (list_any is_data_blocked fs))
again_same r (stream_data_blocked f ∷ fs) = again_same (and_again r (stream_data_blocked f)) fs
again_same r (new_connection_id f ∷ fs) = again_same (and_again r (new_connection_id f)) fs ∙ ap (λ (cs : List IssuedCid). record (again_from r fs) { new_cids = cs }) (one_between r.new_cids (issued_in f) (new_ids_in fs))
again_same r (retire_connection_id n ∷ fs) = again_same (and_again r (retire_connection_id n)) fs ∙ ap (λ (ns : List ℕ). record (again_from r fs) { retire_cids = ns }) (one_between r.retire_cids n (retirements_in fs))
again_same r (ack_frequency f ∷ fs) = again_same (and_again r (ack_frequency f)) fs ∙ ap (λ (b : Bool). record (again_from r fs) { ack_frequency = b }) (set_flag r.ack_frequency (list_any is_ack_frequency fs))
again_same r (f ∷ fs) = again_same r fs

-- ---- all of it

-- what a datagram carried
pub carried_same : (fs : List FrameValue) → carried_by fs ≡ carried_in fs
carried_same fs =
    ap (λ (o : Option ℕ). record { largest_acked = o; stream_frames = all_offsets fs; retransmits = again_in fs }) (acknowledged_same fs)
    ∙ ap (λ (ms : List StreamMeta). record { largest_acked = acked_in fs; stream_frames = ms; retransmits = again_in fs }) (offsets_same fs)
    ∙ ap (λ (r : Retransmits). record { largest_acked = acked_in fs; stream_frames = streams_in fs; retransmits = r }) (sym (again_same nothing_waits fs))

-- what of it has to be sent again
pub again_is : (fs : List FrameValue) → again_in fs ≡ retransmits_in fs
again_is fs = sym (again_same nothing_waits fs)

-- ---- PADDING

-- PADDING names no number
acked_padded : (fs : List FrameValue) (count : ℕ) → acked_in (fs ++ replicate count padding) ≡ acked_in fs
acked_padded [] zero = refl
acked_padded [] (suc count) = acked_padded [] count
acked_padded (ack a ∷ fs) count = refl
acked_padded (f ∷ fs) count = acked_padded fs count

-- nor has it bytes of streams
streams_padded : (fs : List FrameValue) (count : ℕ) → streams_in (fs ++ replicate count padding) ≡ streams_in fs
streams_padded [] zero = refl
streams_padded [] (suc count) = streams_padded [] count
streams_padded (stream f ∷ fs) count = ap (λ (ms : List StreamMeta). meta_of f ∷ ms) (streams_padded fs count)
streams_padded (f ∷ fs) count = streams_padded fs count

-- nor anything that has to be sent again
again_padded : (fs : List FrameValue) (count : ℕ) (r : Retransmits) → fold and_again r (fs ++ replicate count padding) ≡ fold and_again r fs
again_padded [] zero r = refl
again_padded [] (suc count) r = again_padded [] count r
again_padded (f ∷ fs) count r = again_padded fs count (and_again r f)

-- a datagram carries what its frames do before they are padded
pub carried_padded : (fs : List FrameValue) (count : ℕ) → carried_in (fs ++ replicate count padding) ≡ carried_in fs
carried_padded fs count = rw (acked_padded fs count, streams_padded fs count, again_padded fs count nothing_waits) refl
