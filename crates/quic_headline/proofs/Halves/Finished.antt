-- What was acknowledged of streams arrived, and of those that are to be told finished all of it: it
-- stays with each word about streams, and over packets.
use Rattle.std.proofs.Common.{◌≡◌, ℕ, true, List, refl, sym, ◌∙◌, subst, inl, inr}
use Rattle.quic_sets.specs.Runs.{Has}
use Rattle.quic_wire.specs.Value.{FrameValue, AckValue, ack}
use Rattle.quic_send_buffer.specs.declared.stream_meta.StreamMeta.{StreamMeta}
use Rattle.quic_streams_parts.specs.SendHalf.{SendHalf, half_after, half_lost}
use Rattle.quic_streams_halves.specs.Halves.{Status, unknown, fresh, live, done}
use Rattle.quic_streams_state.specs.declared.state.StreamsState.{StreamsState}
use Rattle.quic_streams_state.specs.State.{sending_status}
use Rattle.quic_streams_state.specs.Taking.{stopped_half, limited_half}
use Rattle.quic_streams_laws.specs.Each.{StatusIs}
use Rattle.quic_streams_laws.specs.KeepingLaws.{by_open, by_accept, by_set_priority, by_read_begun, by_next, by_finalize, by_stop, by_received_reset, by_polled, by_stream, by_reset_frame, by_stop_sending, by_max_data, by_max_stream_data, by_max_streams, by_reset_acked, by_stream_lost, by_frame}
use Rattle.quic_streams_laws.specs.QuietLaws.{by_told}
use Rattle.quic_streams_laws.specs.Written.{Wrote, IsSendHalf, nothing_done}
use Rattle.quic_streams_laws.specs.WrittenHalves.{prioritized_holds, stopped_holds, limited_holds, polled_holds, lost_holds}
use Rattle.quic_streams_laws.specs.Acknowledged.{HalfArrived, AllArrived, IsSettled, IsAckedStatus, FinishedHave, MetaArrived}
use Rattle.quic_streams_laws.specs.FinishedLaws.{finished_kept, finished_write, finished_write_chunks, finished_finish, finished_reset, finished_stream_acked}
use Rattle.quic_machine.specs.Tracking.{Carried}
use Rattle.quic_machine.specs.End.{End}
use Rattle.quic_machine.specs.Receive.{Outcome}
use Rattle.quic_machine.specs.FrameCases.{begun, apart_leaves}
use Rattle.quic_machine.specs.Poll.{tracked}
use Rattle.quic_machine.specs.Steps as steps
use Rattle.quic_headline.specs.Runs.{Packet, Intake, In}
use Rattle.quic_headline.specs.Observer.{Sent}
use Rattle.quic_headline.proofs.Packets.Invariant.{AreTracked}
use Rattle.quic_headline.proofs.Packets.Delivered.{Arrivals, arrived as frames_arrived}
use Rattle.quic_headline.proofs.Packets.Named.{NamesTaken, Stands, WasCarried, IsCarriedBy, SettlesOn, frames_settle}
use Rattle.quic_headline.proofs.Halves.Words.{Words, frame_on}
use Rattle.quic_headline.proofs.Halves.Small.{IsSmallLimit}
use Rattle.quic_headline.proofs.Halves.Moved.{streams_stay}

-- ---- words

module _ (arrived : ℕ → ℕ → Type 0) (end_arrived : ℕ → Type 0) where
  -- a half of which as much is acknowledged as of another
  as_acked : (id : ℕ) (old new : SendHalf) → new.buffer.acked ≡ old.buffer.acked → new.end_acked ≡ old.end_acked → HalfArrived (arrived id) (end_arrived id) old → HalfArrived (arrived id) (end_arrived id) new
  as_acked id old new bytes end x = record { bytes = λ o has. x.bytes o (subst (λ rs. Has rs o) bytes has); end = λ e. x.end (sym end ∙ e) }

  abbrev Have : (ℕ → Wrote) → StreamsState → Type 0
  Have wrote s = FinishedHave arrived end_arrived wrote s

  -- each word keeps it
  pub finished_words : Words (FinishedHave arrived end_arrived)
  finished_words = record {
    writes = λ b w s p id bytes i. finished_write arrived end_arrived w s i b p id bytes;
    writes_chunks = λ b w s p id chunks i. finished_write_chunks arrived end_arrived w s i b p id chunks;
    finishes = λ w s id i. finished_finish arrived end_arrived w s i id;
    resets = λ w s p id code i. finished_reset arrived end_arrived w s i p id code;
    opens = λ b dir w s i. by_open (Have w) (finished_kept arrived end_arrived w) b dir s i;
    accepts = λ dir w s i. by_accept (Have w) (finished_kept arrived end_arrived w) dir s (λ may. may) i;
    sets_priority = λ w s id priority i. by_set_priority (Have w) (finished_kept arrived end_arrived w) s id priority (λ h e x. (prioritized_holds (w id) h x.0 priority, as_acked id h (record h { priority = priority }) refl refl x.1)) i;
    begins = λ w s id ordered i. by_read_begun (Have w) (finished_kept arrived end_arrived w) s id ordered (λ h e. tt) i;
    nexts = λ w told s id most i. by_next (Have w) (finished_kept arrived end_arrived w) told s id most (λ h c e is. tt) i;
    finalizes = λ w s p id i. by_finalize (Have w) (finished_kept arrived end_arrived w) s p id i;
    stops = λ w s p id code i. by_stop (Have w) (finished_kept arrived end_arrived w) s p id code (λ h e. tt) i;
    hears_reset = λ w s p id i. by_received_reset (Have w) (finished_kept arrived end_arrived w) s p id i;
    polls = λ w s i. by_polled (Have w) (finished_kept arrived end_arrived w) s i;
    stream = λ w s p f i. by_stream (Have w) (finished_kept arrived end_arrived w) s p f (λ h e u. tt) i;
    reset_frame = λ w s p f i. by_reset_frame (Have w) (finished_kept arrived end_arrived w) s p f (λ h e u. tt) i;
    stop_sending = λ w s f i. by_stop_sending (Have w) (finished_kept arrived end_arrived w) s f (λ h e x. (stopped_holds (w f.id) h x.0 f.code, as_acked f.id h (stopped_half h f.code) refl refl x.1)) i;
    max_data = λ w s limit small i. by_max_data (Have w) (finished_kept arrived end_arrived w) s limit i;
    max_stream_data = λ w s id limit small i. by_max_stream_data (Have w) (finished_kept arrived end_arrived w) s id limit (λ h e above x. (limited_holds (w id) h x.0 limit above small, as_acked id h (limited_half h limit) refl refl x.1)) i;
    max_streams = λ dir count w s i. by_max_streams (Have w) (finished_kept arrived end_arrived w) dir count s i;
    lost = λ w s m last i. by_stream_lost (Have w) (finished_kept arrived end_arrived w) s m (λ h e none x. (lost_holds (w m.id) h x.0 m none last, as_acked m.id h (half_lost h m) refl refl x.1)) i;
    sends = λ fair w s id h room is i. by_frame (Have w) (finished_kept arrived end_arrived w) fair s id room h is (λ x. (polled_holds (w id) h x.0 room, as_acked id h (half_after h room) refl refl x.1)) i;
    tells = λ f w s i. by_told (Have w) (finished_kept arrived end_arrived w) f s i;
  }

  -- ---- where the same was done, or more arrived

  -- where as much was done on each stream
  pub finished_same : (wrote more : ℕ → Wrote) (s : StreamsState) → ((q : ℕ) → more q ≡ wrote q) → FinishedHave arrived end_arrived wrote s → FinishedHave arrived end_arrived more s
  finished_same wrote more s same i = record {
    acked = record { shape = i.acked.shape; first = i.acked.first; each = λ id. subst (λ (w : Wrote). IsAckedStatus (arrived id) (end_arrived id) w (sending_status s id)) (sym (same id)) (i.acked.each id) };
    told = λ id some. subst (λ (w : Wrote). AllArrived (arrived id) (end_arrived id) w) (sym (same id)) (i.told id some);
  }

-- what is said of a half that has come so far, by what follows
status_follows : {A : Type 0} (N : Type 0) (Q Q' : A → Type 0) (D D' : Type 0) → ((a : A) → Q a → Q' a) → (D → D') → (status : Status A) → StatusIs N Q D status → StatusIs N Q' D' status
status_follows N Q Q' D D' q d unknown x = x
status_follows N Q Q' D D' q d fresh x = x
status_follows N Q Q' D D' q d (live a) x = q a x
status_follows N Q Q' D D' q d done x = d x

module _ (old new : ℕ → ℕ → Type 0) (end_old end_new : ℕ → Type 0) (more : (id o : ℕ) → old id o → new id o) (more_ends : (id : ℕ) → end_old id → end_new id) where
  -- all of a stream arrived still
  all_more : (id : ℕ) (w : Wrote) → AllArrived (old id) (end_old id) w → AllArrived (new id) (end_new id) w
  all_more id w a = record { ended = a.ended; bytes = λ o below. more id o (a.bytes o below); end = more_ends id a.end }

  settled_more : (id : ℕ) (w : Wrote) → IsSettled (old id) (end_old id) w → IsSettled (new id) (end_new id) w
  settled_more id w (inl a) = inl (all_more id w a)
  settled_more id w (inr reset) = inr reset

  -- it holds where more arrived
  pub finished_grows : (wrote : ℕ → Wrote) (s : StreamsState) → FinishedHave old end_old wrote s → FinishedHave new end_new wrote s
  finished_grows wrote s i = record {
    acked = record {
      shape = i.acked.shape;
      first = i.acked.first;
      each = λ id. status_follows (wrote id ≡ nothing_done) (λ h. IsSendHalf (wrote id) h × HalfArrived (old id) (end_old id) h) (λ h. IsSendHalf (wrote id) h × HalfArrived (new id) (end_new id) h)
          (IsSettled (old id) (end_old id) (wrote id)) (IsSettled (new id) (end_new id) (wrote id))
          (λ h x. (x.0, record { bytes = λ o has. more id o (x.1.bytes o has); end = λ e. more_ends id (x.1.end e) })) (settled_more id (wrote id)) (sending_status s id) (i.acked.each id);
    };
    told = λ id some. all_more id (wrote id) (i.told id some);
  }

-- ---- over packets that come

-- What frames said arrived, where packets that carried them were taken; and those that were sent
-- had the end only where there is one.
pub record Brought (took : List Packet) (sents : List Sent) (arrived : ℕ → ℕ → Type 0) (end_arrived : ℕ → Type 0) (wrote : ℕ → Wrote) : Type 0 where
  pub came : (c : Carried) (m : StreamMeta) → WasCarried took c → In m c.stream_frames → MetaArrived arrived end_arrived wrote m
  pub ended : (c : Carried) (m : StreamMeta) → IsCarriedBy sents c → In m c.stream_frames → m.fin ≡ true → (wrote m.id).ended ≡ true

module _ (took : List Packet) (sents : List Sent) (stands : Stands took sents) (arrived : ℕ → ℕ → Type 0) (end_arrived : ℕ → Type 0) (wrote : ℕ → Wrote) (b : Brought took sents arrived end_arrived wrote) where
  -- what an end has of its streams
  abbrev Holds : End → Type 0
  Holds e = FinishedHave arrived end_arrived wrote e.streams

  -- an ACK frame keeps it
  settles : SettlesOn took sents Holds
  settles (steps.reset id) e may i = by_reset_acked (FinishedHave arrived end_arrived wrote) (finished_kept arrived end_arrived wrote) e.streams e.waiting.frames id i
  settles (steps.acked m) e (c, was, among) i = finished_stream_acked arrived end_arrived wrote e.streams i e.waiting.frames m (b.came c m was among)
  settles (steps.lost m) e (c, was, among) i = (finished_words arrived end_arrived).lost wrote e.streams m (b.ended c m was among) i
  settles s e may i = i

  -- so do all frames of a packet, taken or refused, whose ACK frames name packets that were taken
  pub finished_arrivals : (e : End) (now n : ℕ) (frames taken : List FrameValue) (came : Intake) → ((a : AckValue) → In (ack a) taken → NamesTaken took a) → ((f : FrameValue) → In f taken → IsSmallLimit f) → AreTracked sents e.tracking.packets → Holds e
      → Arrivals e now n frames taken came (λ (o : Outcome) (i : Intake). Holds o.end)
  finished_arrivals e now n frames taken came names small tracked i = record { ignored = λ reason. i; noted = λ state reason. i; takes = λ words state new none urged mark. after; moves = λ p o same remote x opened j. streams_stay (FinishedHave arrived end_arrived wrote) p o remote x j; drains = λ words state new close is. after; refuses = λ words state new f is. after; exhausts = λ state. i }
    where
      after : Holds (frames_arrived e now n taken).end
      after = frames_settle took sents stands taken Holds (record {
        settles = settles;
        names = λ a x among h. h;
        on_streams = λ f x among on h. frame_on (FinishedHave arrived end_arrived) (finished_words arrived end_arrived) wrote f x on (small f among) h;
        message = λ m x h. h;
        apart = λ f x among apart h. apart_leaves Holds f x apart (λ c. h) (λ c most. h);
      }) (begun e now n) names tracked i
