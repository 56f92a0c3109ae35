-- That a stream is finished is told only where all of it arrived; no word but an acknowledgement
-- tells so.
use Rattle.std.proofs.Common.{◌≡◌, ℕ, ◌+◌, ◌<◌, ◌≤◌, length, List, [], ◌∷◌, ◌++◌, Bool, true, false, Some, refl, sym, ap, subst, arith, ◌⊎◌, inl, inr}
use Rattle.std.specs.Prelude.{◌==◌, ◌&&◌, ◌||◌, not, if◌then◌else◌}
use Rattle.std.proofs.lemmas.Bool.{cases_Bool, eqb-true}
use Rattle.quic_wire_core.specs.StreamId.{dir_of}
use Rattle.quic_send_buffer.specs.Buffered.{written}
use Rattle.quic_send_buffer.specs.declared.stream_meta.StreamMeta.{StreamMeta}
use Rattle.quic_streams_parts.specs.declared.answers.StreamEvent.TheVariants as stream_events
use Rattle.quic_streams_parts.specs.Dirs.{is_own, is_two_way}
use Rattle.quic_streams_parts.specs.Events.{Events}
use Rattle.quic_streams_parts.specs.Table.{at}
use Rattle.quic_streams_parts.specs.SendHalf.{SendHalf}
use Rattle.quic_streams_halves.specs.Halves.{is_done, without_half}
use Rattle.quic_retransmits.specs.Retransmits.{Retransmits}
use Rattle.quic_streams_state.specs.declared.state.StreamsState.{StreamsState}
use Rattle.quic_streams_state.specs.State.{sending_half, with_send, send_done, without_send, recv_done, done_if, receiving_status, sending_status, seen_at}
use Rattle.quic_streams_state.specs.Taking.{joined}
use Rattle.quic_streams_state.specs.Writing.{write_answer, after_write, write_chunks_answer, after_write_chunks, after_finish, finish_answer, after_reset, reset_answer}
use Rattle.quic_streams_state.specs.Acked.{after_stream_acked}
use Rattle.quic_streams_laws.specs.Keeping.{KeepsAll, MayAccept, NoneMoreFinished, finishes_in}
use Rattle.quic_streams_laws.specs.Keeping as changes
use Rattle.quic_streams_laws.specs.KeepingLaws.{finishes_append, live_sends, by_stream_acked, by_write, by_write_chunks, by_finish, by_reset}
use Rattle.quic_streams_laws.specs.Written.{Wrote, Grows, IsSendHalf, wrote_by, wrote_chunks_by, wrote_end_by, wrote_reset_by}
use Rattle.quic_streams_laws.specs.GrowsLaws.{grows_write, grows_write_chunks, grows_finish, grows_reset}
use Rattle.quic_streams_laws.specs.Acknowledged.{HalfArrived, AllArrived, AckedHave, FinishedHave, MetaArrived}
use Rattle.quic_streams_laws.specs.AcknowledgedLaws.{acked_kept, all_arrived, half_arrived, half_acked_arrived, acked_holds_written, acked_write, acked_write_chunks, acked_finish, acked_reset}

-- ---- what is told besides

done_events : (b : Bool) (id : ℕ) (s : StreamsState) → (done_if b id s).events ≡ s.events
done_events true id s = refl
done_events false id s = refl

joined_events : (s : StreamsState) (id : ℕ) (h : SendHalf) → (joined s id h).events ≡ s.events
joined_events s id h = go h.blocked
  where
    go : (b : Bool) → (if b then s else (let t = with_send s id (record h { blocked = true }) in record t { sending = record t.sending { blocked = id ∷ t.sending.blocked } })).events ≡ s.events
    go true = refl
    go false = refl

sent_events : (s : StreamsState) (id : ℕ) → (send_done s id).events ≡ s.events
sent_events s id = done_events (not (is_own s.side id) && is_done (receiving_status s id)) id (without_send s id)

received_events : (s : StreamsState) (id : ℕ) → (recv_done s id).events ≡ s.events
received_events s id = done_events (not (is_own s.side id) && (not (is_two_way (dir_of id)) || is_done (sending_status s id))) id (record s { receiving = record s.receiving { halves = without_half s.receiving.halves id; gone = s.receiving.gone + seen_at (at s.receiving.halves.live id) } })

-- a fact of what waits to be told, where it is kept while no stream more is to be told finished
module _ (F : ℕ → Type 0) (T : Events → Type 0) (less : (old new : Events) → NoneMoreFinished old new → T old → T new) (more : (e : Events) (id : ℕ) → F id → T e → T (record e { queue = e.queue ++ stream_events.Finished id ∷ [] })) where
  same : (old new : Events) → new ≡ old → T old → T new
  same old new is t = subst T (sym is) t

  -- however halves change
  pub told_kept : KeepsAll (λ r id old new. Unit {0}) (λ s id old new. Unit {0}) (λ s id n old new. Unit {0}) (λ s dir. Unit {0}) F (λ s. T s.events)
  told_kept (changes.finishes id) s f t = more s.events id f t
  told_kept (changes.events e) s none t = less s.events e none t
  told_kept (changes.opens_theirs id) s may t = less s.events _ (λ q. omega arith) t
  told_kept (changes.joins id h) s may t = same s.events (joined s id h).events (joined_events s id h) t
  told_kept (changes.ends_sending id h) s may t = same s.events (send_done s id).events (sent_events s id) t
  told_kept (changes.ends_receiving id h) s may t = same s.events (recv_done s id).events (received_events s id) t
  told_kept c s may t = t

-- no stream more is to be told finished than before: so it stays with each word, but where one is
-- acknowledged
pub none_more_kept : (e : Events) → KeepsAll (λ r id old new. Unit {0}) (λ s id old new. Unit {0}) (λ s id n old new. Unit {0}) (λ s dir. Unit {0}) (λ id. ⊥) (λ s. NoneMoreFinished e s.events)
none_more_kept e = told_kept (λ id. ⊥) (λ x. NoneMoreFinished e x) (λ old new none t id. (let a = none id in let b = t id in omega arith)) (λ x id f t. absurd f)

-- ---- streams that are to be told finished

-- what arrived of a stream that was finished is all of it, whatever is done on it
pub all_grows : (arrived : ℕ → Type 0) (end_arrived : Type 0) (w more : Wrote) → Grows w more → AllArrived arrived end_arrived w → AllArrived arrived end_arrived more
all_grows arrived end_arrived w more g all = record {
  ended = g.ended all.ended;
  bytes = λ o below. (let same : length more.bytes ≡ length w.bytes = ap length (g.over (inl all.ended)) in all.bytes o (omega arith));
  end = all.end;
}

module _ (arrived : ℕ → ℕ → Type 0) (end_arrived : ℕ → Type 0) where
  -- all that is to be told so arrived
  abbrev ToldHave : (ℕ → Wrote) → Events → Type 0
  ToldHave wrote e = (id : ℕ) → 0 < finishes_in id e.queue → AllArrived (arrived id) (end_arrived id) (wrote id)

  fewer_told : (wrote : ℕ → Wrote) (old new : Events) → NoneMoreFinished old new → ToldHave wrote old → ToldHave wrote new
  fewer_told wrote old new none t id some = t id (let a = none id in omega arith)

  one_told : (wrote : ℕ → Wrote) (e : Events) (id : ℕ) → AllArrived (arrived id) (end_arrived id) (wrote id) → ToldHave wrote e → ToldHave wrote (record e { queue = e.queue ++ stream_events.Finished id ∷ [] })
  one_told wrote e id all t q some = go (cases_Bool (id == q))
    where
      both : finishes_in q (e.queue ++ stream_events.Finished id ∷ []) ≡ finishes_in q e.queue + finishes_in q (stream_events.Finished id ∷ [])
      both = finishes_append q e.queue (stream_events.Finished id ∷ [])

      go : ((id == q) ≡ true) ⊎ ((id == q) ≡ false) → AllArrived (arrived q) (end_arrived q) (wrote q)
      go (inl is) = subst (λ x. AllArrived (arrived x) (end_arrived x) (wrote x)) (eqb-true id q is) all
      go (inr isnt) =
          let none : finishes_in q (stream_events.Finished id ∷ []) ≡ 0 = rw isnt refl in
          let sum = both in
          t q (omega arith)

  -- however halves change, where all arrived of streams that are finished
  to_tell : (wrote : ℕ → Wrote) → KeepsAll (λ r id old new. Unit {0}) (λ s id old new. Unit {0}) (λ s id n old new. Unit {0}) (λ s dir. Unit {0}) (λ id. AllArrived (arrived id) (end_arrived id) (wrote id)) (λ s. ToldHave wrote s.events)
  to_tell wrote = told_kept (λ id. AllArrived (arrived id) (end_arrived id) (wrote id)) (λ e. ToldHave wrote e) (fewer_told wrote) (one_told wrote)

  -- each word keeps it that changes halves only so that they hold what they held, and what was
  -- acknowledged of them arrived
  pub finished_kept : (wrote : ℕ → Wrote) → KeepsAll (λ r id old new. Unit {0})
      (λ s id old new. IsSendHalf (wrote id) old × HalfArrived (arrived id) (end_arrived id) old → IsSendHalf (wrote id) new × HalfArrived (arrived id) (end_arrived id) new)
      (λ s id n old new. IsSendHalf (wrote id) old × HalfArrived (arrived id) (end_arrived id) old → IsSendHalf (wrote id) new × HalfArrived (arrived id) (end_arrived id) new)
      (λ s dir. MayAccept s dir) (λ id. AllArrived (arrived id) (end_arrived id) (wrote id)) (FinishedHave arrived end_arrived wrote)
  finished_kept wrote (changes.finishes id) s all i = record { acked = acked_kept arrived end_arrived wrote (changes.finishes id) s tt i.acked; told = to_tell wrote (changes.finishes id) s all i.told }
  finished_kept wrote (changes.events e) s none i = record { acked = acked_kept arrived end_arrived wrote (changes.events e) s none i.acked; told = to_tell wrote (changes.events e) s none i.told }
  finished_kept wrote (changes.opens_theirs id) s may i = record { acked = acked_kept arrived end_arrived wrote (changes.opens_theirs id) s may i.acked; told = to_tell wrote (changes.opens_theirs id) s may i.told }
  finished_kept wrote (changes.joins id h) s is i = record { acked = acked_kept arrived end_arrived wrote (changes.joins id h) s is i.acked; told = to_tell wrote (changes.joins id h) s is i.told }
  finished_kept wrote (changes.ends_sending id h) s may i = record { acked = acked_kept arrived end_arrived wrote (changes.ends_sending id h) s may i.acked; told = to_tell wrote (changes.ends_sending id h) s may i.told }
  finished_kept wrote (changes.ends_receiving id h) s is i = record { acked = acked_kept arrived end_arrived wrote (changes.ends_receiving id h) s is i.acked; told = to_tell wrote (changes.ends_receiving id h) s is i.told }
  finished_kept wrote c s may i = record { acked = acked_kept arrived end_arrived wrote c s may i.acked; told = i.told }

  -- more is done, and no stream more is to be told finished
  pub finished_more : (wrote more : ℕ → Wrote) (s t : StreamsState) → ((q : ℕ) → Grows (wrote q) (more q)) → NoneMoreFinished s.events t.events → AckedHave arrived end_arrived more t → FinishedHave arrived end_arrived wrote s → FinishedHave arrived end_arrived more t
  finished_more wrote more s t grows none acked i = record { acked = acked; told = λ id some. all_grows (arrived id) (end_arrived id) (wrote id) (more id) (grows id) (i.told id (let a = none id in omega arith)) }

  module _ (wrote : ℕ → Wrote) (s : StreamsState) (i : FinishedHave arrived end_arrived wrote s) where
    as_many : (id : ℕ) → finishes_in id s.events.queue ≤ finishes_in id s.events.queue
    as_many id = omega arith

    bounded : (id : ℕ) (h : SendHalf) → sending_half s id ≡ Some h → h.buffer.unsent ≤ written h.buffer
    bounded id h e = (half_arrived arrived end_arrived wrote s id h e i.acked).0.lawful.bounded

    -- what is done
    pub finished_write : (is_open : Bool) (p : Retransmits) (id : ℕ) (bytes : List ℕ) → FinishedHave arrived end_arrived (wrote_by (write_answer is_open s id (length bytes)) id bytes wrote) (after_write is_open (write_answer is_open s id (length bytes)) s p id bytes).state
    finished_write is_open p id bytes = finished_more wrote _ s _ (λ q. grows_write wrote s (acked_holds_written arrived end_arrived wrote s i.acked) is_open id bytes q)
        (by_write (λ t. NoneMoreFinished s.events t.events) (none_more_kept s.events) is_open s p id bytes (bounded id) (λ n old new is on. tt) as_many)
        (acked_write arrived end_arrived wrote s i.acked is_open p id bytes) i

    pub finished_write_chunks : (is_open : Bool) (p : Retransmits) (id : ℕ) (cs : List (List ℕ)) → FinishedHave arrived end_arrived (wrote_chunks_by (write_chunks_answer is_open s id cs) id cs wrote) (after_write_chunks is_open (write_chunks_answer is_open s id cs) s p id cs).state
    finished_write_chunks is_open p id cs = finished_more wrote _ s _ (λ q. grows_write_chunks wrote s (acked_holds_written arrived end_arrived wrote s i.acked) is_open id cs q)
        (by_write_chunks (λ t. NoneMoreFinished s.events t.events) (none_more_kept s.events) is_open s p id cs (bounded id) (λ n old new is on. tt) as_many)
        (acked_write_chunks arrived end_arrived wrote s i.acked is_open p id cs) i

    pub finished_finish : (id : ℕ) → FinishedHave arrived end_arrived (wrote_end_by (finish_answer s id) id wrote) (after_finish s id)
    finished_finish id = finished_more wrote _ s _ (λ q. grows_finish wrote s (acked_holds_written arrived end_arrived wrote s i.acked) id q)
        (by_finish (λ t. NoneMoreFinished s.events t.events) (none_more_kept s.events) s id (λ h e ready. tt) as_many) (acked_finish arrived end_arrived wrote s i.acked id) i

    pub finished_reset : (p : Retransmits) (id code : ℕ) → FinishedHave arrived end_arrived (wrote_reset_by (reset_answer s id) id code wrote) (after_reset s p id code).state
    finished_reset p id code = finished_more wrote _ s _ (λ q. grows_reset wrote s (acked_holds_written arrived end_arrived wrote s i.acked) id code q)
        (by_reset (λ t. NoneMoreFinished s.events t.events) (none_more_kept s.events) s p id code (λ h e none. tt) as_many) (acked_reset arrived end_arrived wrote s i.acked p id code) i

    -- a frame that arrived is acknowledged
    pub finished_stream_acked : (p : Retransmits) (m : StreamMeta) → MetaArrived arrived end_arrived wrote m → FinishedHave arrived end_arrived wrote (after_stream_acked s p m).state
    finished_stream_acked p m came = by_stream_acked (FinishedHave arrived end_arrived wrote) (finished_kept wrote) s p m
        (λ h e none x. half_acked_arrived arrived end_arrived wrote s i.acked m came h x)
        (λ h e none all. (
        let x = half_acked_arrived arrived end_arrived wrote s i.acked m came h (half_arrived arrived end_arrived wrote s m.id h (live_sends s m.id h e) i.acked) in
        (all_arrived (arrived m.id) (end_arrived m.id) (wrote m.id) _ x.0 x.1 all).0)) i
