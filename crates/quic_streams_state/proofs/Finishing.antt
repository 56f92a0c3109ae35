-- What an acknowledged frame leaves of all streams.
use Rattle.std.proofs.Common.{◌≡◌, ℕ, Bool, true, false, Option, Some, None, IsSomeAnd, refl, sym, ap, ◌∙◌}
use Rattle.std.specs.Prelude.{◌&&◌, ◌||◌, not, if◌then◌else◌}
use Rattle.std.specs.Option.{is_some}
use Rattle.quic_send_buffer.specs.declared.stream_meta.StreamMeta.{StreamMeta}
use Rattle.quic_streams_parts.specs.declared.answers.StreamEvent.TheVariants as stream_events
use Rattle.quic_streams_parts.specs.Events.{with_event}
use Rattle.quic_streams_parts.specs.Queue.{Queue, Place}
use Rattle.quic_streams_parts.specs.Table.{at}
use Rattle.quic_streams_parts.specs.TableLaws.{at-put}
use Rattle.quic_streams_parts.specs.Dirs.{is_own}
use Rattle.quic_streams_parts.specs.SendHalf.{SendHalf, is_ready, has_pending, is_acked, half_acked, requeued, requeued_at}
use Rattle.quic_streams_halves.specs.Halves.{is_done}
use Rattle.quic_streams_halves.specs.Queued.{is_ended_at}
use Rattle.quic_retransmits.specs.Retransmits.{Retransmits}
use Rattle.quic_streams_state.specs.Parts.{Sending}
use Rattle.quic_streams_state.specs.State.{StreamsState, Streams, streams_of, send_done, without_send, done_if, receiving_status}
use Rattle.quic_streams_state.specs.Limits.{settled}
use Rattle.quic_streams_state.specs.Sends.{acked_in, acked_if_ready_in, replaced_in}
use Rattle.quic_streams_state.specs.Writing.{replaced}
use Rattle.quic_streams_state.specs.Acked.{is_acked_at, finishes, acked_at, acked_on, finished}

-- the queue takes nothing of whether a half is acknowledged
pub queued_acked : (q : Queue) (id : ℕ) (w : SendHalf) → is_acked (requeued q id w).half ≡ is_acked w
queued_acked q id w = go w.place (has_pending w)
  where
    go : (p : Option Place) (b : Bool) → is_acked (requeued_at p b q id w).half ≡ is_acked w
    go None true = refl
    go None false = refl
    go (Some place) true = refl
    go (Some place) false = refl

-- whether all of a stream is acknowledged after a frame of it was
pub acked_stands : (s : Sending) (m : StreamMeta) (h : SendHalf) (n : Sending) → at s.halves.live m.id ≡ Some h → n ≡ acked_in (at s.halves.live m.id) s m → is_acked_at (at n.halves.live m.id) ≡ is_acked (half_acked h m)
acked_stands s m h n found is =
    let now : n ≡ acked_in (Some h) s m = is ∙ ap (λ (o : Option SendHalf). acked_in o s m) found in
    let stands : at (acked_in (Some h) s m).halves.live m.id ≡ Some (requeued s.queue m.id (half_acked h m)).half = at-put s.halves.live m.id h (requeued s.queue m.id (half_acked h m)).half found in
    ap (λ (x : Sending). is_acked_at (at x.halves.live m.id)) now ∙ ap is_acked_at stands ∙ queued_acked s.queue m.id (half_acked h m)

-- whether a half is done by a frame, where it is in use and wasn't reset
pub finishes_is : (o : Option SendHalf) (m : StreamMeta) (h : SendHalf) → o ≡ Some h → h.reset ≡ None → finishes o m ≡ is_acked (half_acked h m)
finishes_is o m h found none = ap (λ (x : Option SendHalf). finishes x m) found ∙ ap (λ (r : Option ℕ). not (is_some r) && is_acked (half_acked h m)) none

-- a half in use has another value
replaced_is : (s : StreamsState) (id : ℕ) (h w : SendHalf) → at s.sending.halves.live id ≡ Some h → replaced s id w ≡ record s { sending = replaced_in s.sending id w }
replaced_is s id h w found = rw found refl

-- an acknowledged frame of a half in use that wasn't reset
acked_live : (s : StreamsState) (p : Retransmits) (m : StreamMeta) (h : SendHalf) → at s.sending.halves.live m.id ≡ Some h → h.reset ≡ None → acked_at (at s.sending.halves.live m.id) s p m ≡ acked_on h s p m
acked_live s p m h found none = ap (λ (o : Option SendHalf). acked_at o s p m) found ∙ ap (λ (r : Option ℕ). if is_some r then streams_of s p else acked_on h s p m) none

-- not all of it is acknowledged
pub acked_part : (s : StreamsState) (p : Retransmits) (m : StreamMeta) (h : SendHalf) → at s.sending.halves.live m.id ≡ Some h → h.reset ≡ None → is_acked (half_acked h m) ≡ false → (acked_at (at s.sending.halves.live m.id) s p m).state ≡ record s { sending = acked_in (at s.sending.halves.live m.id) s.sending m }
acked_part s p m h found none part =
    let t : StreamsState = replaced s m.id (half_acked h m) in
    let on : acked_on h s p m ≡ streams_of t p = ap (λ (b : Bool). if b then settled (finished t m.id) p else streams_of t p) part in
    ap (λ (x : Streams). x.state) (acked_live s p m h found none ∙ on) ∙ replaced_is s m.id h (half_acked h m) found ∙ ap (λ (o : Option SendHalf). record s { sending = acked_in o s.sending m }) (sym found)

-- an event is told, whether the stream is done both ways or not
told_done : (b : Bool) (id : ℕ) (s : StreamsState) → record (done_if b id s) { events = with_event (stream_events.Finished id) (done_if b id s).events } ≡ done_if b id (record s { events = with_event (stream_events.Finished id) s.events })
told_done true id s = refl
told_done false id s = refl

finished_is : (s : StreamsState) (id : ℕ) → finished s id ≡ send_done (record s { events = with_event (stream_events.Finished id) s.events }) id
finished_is s id = told_done (not (is_own s.side id) && is_done (receiving_status s id)) id (without_send s id)

-- all of it is
pub acked_all : (s : StreamsState) (p : Retransmits) (m : StreamMeta) (h : SendHalf) → at s.sending.halves.live m.id ≡ Some h → h.reset ≡ None → is_acked (half_acked h m) ≡ true → (acked_at (at s.sending.halves.live m.id) s p m).state ≡ send_done (record s { sending = acked_in (at s.sending.halves.live m.id) s.sending m; events = with_event (stream_events.Finished m.id) s.events }) m.id
acked_all s p m h found none all =
    let t : StreamsState = replaced s m.id (half_acked h m) in
    let on : acked_on h s p m ≡ settled (finished t m.id) p = ap (λ (b : Bool). if b then settled (finished t m.id) p else streams_of t p) all in
    ap (λ (x : Streams). x.state) (acked_live s p m h found none ∙ on)
    ∙ ap (λ (x : StreamsState). finished x m.id) (replaced_is s m.id h (half_acked h m) found)
    ∙ finished_is (record s { sending = replaced_in s.sending m.id (half_acked h m) }) m.id
    ∙ ap (λ (o : Option SendHalf). send_done (record s { sending = acked_in o s.sending m; events = with_event (stream_events.Finished m.id) s.events }) m.id) (sym found)

-- ---- a half whose end wasn't told, or that was reset

-- a half whose end wasn't told isn't acknowledged whole
unfinished : (h : SendHalf) (m : StreamMeta) → h.finished ≡ false → is_acked (half_acked h m) ≡ false
unfinished h m e = go h.reset h.finished e
  where
    go : (r : Option ℕ) (f : Bool) → f ≡ false → is_acked (record (half_acked h m) { reset = r; finished = f }) ≡ false
    go None true e = cc
    go None false e = refl
    go (Some x) f e = refl

-- which of the three a half is
record Unended (h : SendHalf) : Type 0 where
  finished : h.reset ≡ None → h.finished ≡ false
  ready : is_ready h ≡ not (is_some h.reset)

unended : (h : SendHalf) → is_ended_at (Some h) ≡ false → Unended h
unended h e = go h.finished h.reset refl refl e
  where
    go : (f : Bool) (r : Option ℕ) → h.finished ≡ f → h.reset ≡ r → (not (is_some r) && not (not (f || is_some r))) ≡ false → Unended h
    go true None is res e = cc
    go false None is res e = record { finished = λ x. is; ready = rw (is, res) refl }
    go true (Some x) is res e = record { finished = λ y. absurd (some x (sym res ∙ y)); ready = rw (is, res) refl }
      where
        some : (x : ℕ) → Some x ≡ None → ⊥
        some x e = cc
    go false (Some x) is res e = record { finished = λ y. is; ready = rw (is, res) refl }

-- it isn't done by the frame
pub unended_stays : (o : Option SendHalf) (m : StreamMeta) → is_ended_at o ≡ false → finishes o m ≡ false
unended_stays None m e = refl
unended_stays (Some h) m e = go h.reset refl
  where
    go : (r : Option ℕ) → h.reset ≡ r → finishes (Some h) m ≡ false
    go None is = finishes_is (Some h) m h refl is ∙ unfinished h m ((unended h e).finished is)
    go (Some x) is = ap (λ (r : Option ℕ). not (is_some r) && is_acked (half_acked h m)) is

-- and what the frame leaves
pub unended_acked : (s : StreamsState) (p : Retransmits) (m : StreamMeta) (t : Sending) → is_ended_at (at s.sending.halves.live m.id) ≡ false → t ≡ acked_if_ready_in (at s.sending.halves.live m.id) s.sending m
    → record s { sending = t } ≡ (acked_at (at s.sending.halves.live m.id) s p m).state
unended_acked s p m t e is = ap (λ (x : Sending). let y : StreamsState = record s { sending = x } in y) is ∙ go (at s.sending.halves.live m.id) refl e
  where
    by_reset : (h : SendHalf) (r : Option ℕ) → at s.sending.halves.live m.id ≡ Some h → h.reset ≡ r → Unended h → record s { sending = acked_if_ready_in (Some h) s.sending m } ≡ (acked_at (Some h) s p m).state
    by_reset h None found res u =
        let part : is_acked (half_acked h m) ≡ false = unfinished h m (u.finished res) in
        let whole : (acked_at (at s.sending.halves.live m.id) s p m).state ≡ record s { sending = acked_in (at s.sending.halves.live m.id) s.sending m } = acked_part s p m h found res part in
        let ready : is_ready h ≡ true = u.ready ∙ ap (λ (r : Option ℕ). not (is_some r)) res in
        ap (λ (b : Bool). let y : StreamsState = record s { sending = if b then acked_in (Some h) s.sending m else s.sending } in y) ready
        ∙ sym (ap (λ (o : Option SendHalf). let y : StreamsState = record s { sending = acked_in o s.sending m } in y) found)
        ∙ sym whole
        ∙ ap (λ (o : Option SendHalf). (acked_at o s p m).state) found
    by_reset h (Some x) found res u =
        let ready : is_ready h ≡ false = u.ready ∙ ap (λ (r : Option ℕ). not (is_some r)) res in
        ap (λ (b : Bool). let y : StreamsState = record s { sending = if b then acked_in (Some h) s.sending m else s.sending } in y) ready
        ∙ sym (ap (λ (r : Option ℕ). (if is_some r then streams_of s p else acked_on h s p m).state) res)

    go : (o : Option SendHalf) → at s.sending.halves.live m.id ≡ o → is_ended_at o ≡ false → record s { sending = acked_if_ready_in o s.sending m } ≡ (acked_at o s p m).state
    go None found e = refl
    go (Some h) found e = by_reset h h.reset found refl (unended h e)

-- a half whose end was told, and no reset
pub ended_open : (o : Option SendHalf) → is_ended_at o ≡ true → IsSomeAnd o (λ h. h.reset ≡ None)
ended_open None e = cc
ended_open (Some h) e = go h.reset refl
  where
    go : (r : Option ℕ) → h.reset ≡ r → h.reset ≡ None
    go None is = is
    go (Some x) is = absurd (wrong (sym (ap (λ (r : Option ℕ). not (is_some r) && not (is_ready h)) is) ∙ e))
      where
        wrong : false ≡ true → ⊥
        wrong h = cc

-- it stays
pub ended_same : (s : Sending) (m : StreamMeta) (t : Sending) → is_ended_at (at s.halves.live m.id) ≡ true → t ≡ acked_if_ready_in (at s.halves.live m.id) s m → t ≡ s
ended_same s m t e is = is ∙ go (at s.halves.live m.id) e
  where
    by_ready : (b r : Bool) (h : SendHalf) → (not r && not b) ≡ true → (if b then acked_in (Some h) s m else s) ≡ s
    by_ready true true h e = cc
    by_ready true false h e = cc
    by_ready false r h e = refl

    go : (o : Option SendHalf) → is_ended_at o ≡ true → acked_if_ready_in o s m ≡ s
    go None e = refl
    go (Some h) e = by_ready (is_ready h) (is_some h.reset) h e
