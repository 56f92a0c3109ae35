-- Limits and final sizes: a frame that says what was written agrees with the final size of its
-- stream, and passes where the limits let it come.
use Rattle.std.proofs.Common.{◌≡◌, ℕ, ◌+◌, ◌-◌, ◌^◌, ◌<◌, ◌≤◌, max, Bool, true, false, length, Option, Some, None, refl, arith}
use Rattle.std.specs.Prelude.{nat_lt, nat_le, ◌==◌}
use Rattle.std.proofs.lemmas.Bool.{le-ltb, lt-leb, eq-eqb, ltb-false}
use Rattle.quic_wire.specs.Value.{FrameValue, stream, reset_stream}
use Rattle.quic_streams_parts.specs.RecvHalf.{RecvHalf, end_of, breaks_final}
use Rattle.quic_streams_state.specs.declared.state.StreamsState.{StreamsState}
use Rattle.quic_streams_state.specs.State.{Receiving, seen}
use Rattle.quic_streams_state.specs.Limits.{raised_data}
use Rattle.quic_streams_state.specs.Opening.{opened_by, receiving_refusal}
use Rattle.quic_streams_state.specs.Taking.{part_for, breach_on, breach_at}
use Rattle.quic_streams_laws.specs.KeepingLaws.{by_option, by_opened}
use Rattle.quic_streams_laws.specs.Content.{HoldsRead}
use Rattle.quic_streams_laws.specs.ContentLaws.{read_kept, read_at}
use Rattle.quic_streams_laws.specs.Reads.{Reads, IsRecvHalf}
use Rattle.quic_streams_laws.specs.ReadsLaws.{stands_within}
use Rattle.quic_streams_laws.specs.Written.{Wrote}
use Rattle.quic_machine.specs.End.{End}
use Rattle.quic_machine.specs.Receive.{take_frame}
use Rattle.quic_headline.proofs.Places.Parties.{Party}
use Rattle.quic_headline.proofs.Halves.Bringing.{frame_read}
use Rattle.quic_headline.proofs.Halves.Ghosts.{wrote, read, SaysOf}
use Rattle.quic_headline.proofs.Halves.ReadGroup.{ReadsHold}
use Rattle.quic_headline.proofs.Channel.Passing.{IdsPass, SizesPass}
use Rattle.quic_headline.proofs.Channel.Seen.{receives_within, frame_seen}
use Rattle.quic_headline.proofs.Channel.AllStreams.{ids, as_many, size_in, SeenOf, AllStreams, says_fits, within_all}

-- ---- final sizes

-- bytes up to an offset of what was written, with the end only where that is all of it, agree with
-- the final size
sizes_agree : (w : Wrote) (r : Reads) (h : RecvHalf) → IsRecvHalf w r h → (end : ℕ) (fin : Bool) → end ≤ length w.bytes → (fin ≡ true → end ≡ length w.bytes) → breaks_final h.final h.seen end fin ≡ false
sizes_agree w r h i end fin fits last = go h.final refl fin refl
  where
    go : (o : Option ℕ) → h.final ≡ o → (b : Bool) → fin ≡ b → breaks_final o h.seen end b ≡ false
    go (Some size) is true on =
        let whole = i.final size is in
        let here = last on in
        let low : nat_lt size end ≡ false = le-ltb size end (omega arith) in
        let same : (end == size) ≡ true = eq-eqb end size (omega arith) in
        rw (low, same) refl
    go (Some size) is false on =
        let whole = i.final size is in
        let low : nat_lt size end ≡ false = le-ltb size end (omega arith) in
        rw low refl
    go None is true on =
        let here = last on in
        let below = i.seen in
        le-ltb end h.seen (omega arith)
    go None is false on = refl

-- ---- all rules of a half

breach_none : (r : Receiving) (h : RecvHalf) (end : ℕ) (fin : Bool) → end < 2 ^ 62 → breaks_final h.final h.seen end fin ≡ false → end ≤ h.announced → nat_lt (raised_data r) (seen r - h.seen + max h.seen end) ≡ false → breach_on r h end fin ≡ None
breach_none r h end fin small agrees announced all =
    let low : nat_le (2 ^ 62) end ≡ false = lt-leb (2 ^ 62) end small in
    let own : nat_lt h.announced end ≡ false = le-ltb h.announced end announced in
    rw (low, agrees, own, all) refl

-- ---- between two ends

-- what fits the streams of y: what they saw was written at x, and so was what was read of them
pub record FitsWritten (x y : Party) (t : StreamsState) : Type 0 where
  pub sees : SeenOf x.told t
  pub reads : HoldsRead (wrote x.told) (read y.told) t

-- they do so
pub written_fits : (x y : Party) → AllStreams x y → ReadsHold x y → FitsWritten x y y.end.streams
written_fits x y all reads = record { sees = all.sees; reads = reads.reads }

-- and a frame that says what was written leaves them so
pub written_stays : (x y : Party) (f : FrameValue) (e : End) → SaysOf (wrote x.told) f → FitsWritten x y e.streams → FitsWritten x y (take_frame f e).end.streams
written_stays x y f e says i = record {
  sees = frame_seen ids as_many (size_in x.told) f e (says_fits x.told f says) i.sees;
  reads = frame_read (wrote x.told) (read y.told) f e says i.reads;
}

-- What limits let come: x was told no more of all its streams than y lets come, and that is small.
pub record LetsCome (x : Party) (t : StreamsState) : Type 0 where
  pub limit : x.end.streams.sending.limit ≤ raised_data t.receiving
  pub small : x.end.streams.sending.limit < 2 ^ 62

module _ (x y : Party) (all : AllStreams x y) (t : StreamsState) (i : FitsWritten x y t) (lets : LetsCome x t) where
  -- bytes that x wrote pass on a half whose limit lets them come
  half_passes : (id : ℕ) (h : RecvHalf) (end : ℕ) (fin : Bool) → receiving_refusal t id ≡ None → part_for t id ≡ Some h → end ≤ size_in x.told id → (fin ≡ true → end ≡ size_in x.told id) → end ≤ h.announced → breach_on t.receiving h end fin ≡ None
  half_passes id h end fin allowed part fits last announced =
      let open_now : HoldsRead (wrote x.told) (read y.told) (opened_by t id) = by_opened (HoldsRead (wrote x.told) (read y.told)) (read_kept (wrote x.told) (read y.told)) t id (receives_within t id allowed) i.reads in
      let half : IsRecvHalf (wrote x.told id) (read y.told id) h = read_at (wrote x.told) (read y.told) (opened_by t id) id h part open_now in
      let sum = within_all x y all t i.sees lets.limit id h end allowed part fits in
      let most = ltb-false (raised_data t.receiving) (seen t.receiving - h.seen + max h.seen end) sum in
      breach_none t.receiving h end fin (omega arith) (sizes_agree (wrote x.told id) (read y.told id) h half end fin fits last) announced sum

  at_passes : (id : ℕ) (end : ℕ) (fin : Bool) → receiving_refusal t id ≡ None → end ≤ size_in x.told id → (fin ≡ true → end ≡ size_in x.told id) → ((h : RecvHalf) → part_for t id ≡ Some h → end ≤ h.announced) → breach_at (part_for t id) t.receiving end fin ≡ None
  at_passes id end fin allowed fits last announced = by_option (part_for t id) (λ o. breach_at o t.receiving end fin ≡ None) (λ e. refl) (λ h e. half_passes id h end fin allowed e fits last (announced h e))

  -- what a frame brings is within the limit of its stream
  abbrev pub WithinLimit : FrameValue → Type 0
  WithinLimit (stream f) = (h : RecvHalf) → part_for t f.id ≡ Some h → end_of f ≤ h.announced
  WithinLimit (reset_stream f) = (h : RecvHalf) → part_for t f.id ≡ Some h → f.final_size ≤ h.announced
  WithinLimit f = Unit {0}

  -- so each frame that says what was written passes where the limit of its stream lets it come
  pub sizes_pass : (f : FrameValue) → SaysOf (wrote x.told) f → IdsPass t f → WithinLimit f → SizesPass t f
  sizes_pass (stream f) says allowed within = at_passes f.id (end_of f) f.fin allowed (stands_within (wrote x.told f.id).bytes f.offset f.bytes says.stands) says.last within
  sizes_pass (reset_stream f) says allowed within = (let whole = says.size in at_passes f.id f.final_size true allowed (omega arith) (λ fin. whole) within)
  sizes_pass f says allowed within = tt
