-- What each word about streams keeps of a fact of what was done, any call but a delivery keeps.
use Rattle.std.proofs.Common.{◌≡◌, ℕ, Bool, true, false, List, refl, sym, subst}
use Rattle.quic_streams_state.specs.declared.state.StreamsState.{StreamsState}
use Rattle.quic_streams_laws.specs.Written.{Wrote}
use Rattle.quic_machine.specs.declared.run.Call.{Call}
use Rattle.quic_machine.specs.declared.run.Call.TheVariants as calls
use Rattle.quic_machine.specs.declared.run.Answer.{Answer}
use Rattle.quic_machine.specs.Policy.{Policy}
use Rattle.quic_machine.specs.End.{End, streams_at, with_closing}
use Rattle.quic_machine.specs.Calls.{is_open}
use Rattle.quic_machine.specs.StreamCalls.{is_on_streams}
use Rattle.quic_machine.specs.Poll.{polled}
use Rattle.quic_machine.specs.Machine.{after_call, AnswersOnStreams, end_on_streams, IsAnswer}
use Rattle.quic_machine.specs.CallCases.{is_delivery, by_call, by_done}
use Rattle.quic_machine.specs.LeaveCases.{by_expired, by_event}
use Rattle.quic_send_buffer.specs.declared.stream_meta.StreamMeta.{StreamMeta}
use Rattle.quic_streams_parts.specs.Table.{Table}
use Rattle.quic_streams_state.specs.State.{Streams}
use Rattle.quic_machine.specs.Tracking.{TrackedPacket}
use Rattle.quic_headline.specs.Runs.{In}
use Rattle.quic_machine.specs.Closing.{ticked}
use Rattle.quic_headline.proofs.Packets.Apart.{by_waits, by_next_id}
use Rattle.quic_headline.proofs.Packets.Losses.{Losing, expiry_stays}
use Rattle.quic_headline.proofs.Halves.Wrote.{done_by}
use Rattle.quic_headline.proofs.Halves.Words.{Words, call_on, composed_on}
use Rattle.quic_headline.proofs.Packets.Probes.{poll_state}

-- a call that is none on streams does nothing on them
pub done_none : (call : Call) (a : Answer) (w : ℕ → Wrote) → is_on_streams call ≡ false → done_by call a w ≡ w
done_none (calls.Write id bytes) a w apart = cc
done_none (calls.WriteChunks id chunks) a w apart = cc
done_none (calls.Finish id) a w apart = cc
done_none (calls.Reset id code) a w apart = cc
done_none call a w apart = refl

-- one on streams is answered by them, and leaves them so
pub record IsCallOn (p : Policy) (e : End) (theirs : List (List ℕ)) (call : Call) (a : Answer) : Type 0 where
  pub answer : IsAnswer p e theirs call a → AnswersOnStreams e call a
  pub leaves : (after_call p e theirs call a).streams ≡ (end_on_streams e call a).streams
  pub same : after_call p e theirs call a ≡ end_on_streams e call a

-- a call on streams is
pub call_on_is : (p : Policy) (e : End) (theirs : List (List ℕ)) (call : Call) (a : Answer) → is_on_streams call ≡ true → IsCallOn p e theirs call a
call_on_is p e theirs (calls.Send message makes_room) a on = cc
call_on_is p e theirs calls.Recv a on = cc
call_on_is p e theirs calls.Ping a on = cc
call_on_is p e theirs (calls.Close close) a on = cc
call_on_is p e theirs calls.UseNextId a on = cc
call_on_is p e theirs calls.HandshakeDone a on = cc
call_on_is p e theirs calls.State a on = cc
call_on_is p e theirs (calls.Poll now) a on = cc
call_on_is p e theirs (calls.Timeout now) a on = cc
call_on_is p e theirs (calls.Deliver delivery) a on = cc
call_on_is p e theirs (calls.Inject injection) a on = cc
call_on_is p e theirs calls.Event a on = cc
call_on_is p e theirs (calls.Timer timer) a on = cc
call_on_is p e theirs calls.NextTimeout a on = cc
call_on_is p e theirs call a on = record { answer = λ is. is; leaves = refl; same = refl }

-- packets had the end of a stream only where there is one
abbrev pub HaveEnds : (ℕ → Wrote) → Table TrackedPacket → Type 0
HaveEnds w packets = (n : ℕ) (t : TrackedPacket) → In (n, t) packets → (m : StreamMeta) → In m t.carried.stream_frames → m.fin ≡ true → (w m.id).ended ≡ true

module _ (F : (ℕ → Wrote) → StreamsState → Type 0) (words : Words F) where
  -- packets that are lost
  losing : (w : ℕ → Wrote) (packets : Table TrackedPacket) → HaveEnds w packets → Losing packets (λ (t : Streams). F w t.state)
  losing w packets ends = record { lost = λ n t m e among inside i. words.lost w e.streams m (ends n t among m inside) i; again = λ n t e among i. i }

  -- a poll
  poll_keeps : (p : Policy) (w : ℕ → Wrote) (e : End) (now : ℕ) → F w e.streams → F w (polled p e now).end.streams
  poll_keeps p w e now i = poll_state (F w) p e now (composed_on F words w) i

  -- any call but a delivery
  pub call_keeps : (p : Policy) (w : ℕ → Wrote) (e : End) (theirs : List (List ℕ)) (call : Call) (a : Answer) → is_delivery call ≡ false → IsAnswer p e theirs call a → HaveEnds w e.tracking.packets → F w e.streams → F (done_by call a w) (after_call p e theirs call a).streams
  call_keeps p w e theirs call a apart is ends i = go (is_on_streams call) refl
    where
      go : (b : Bool) → is_on_streams call ≡ b → F (done_by call a w) (after_call p e theirs call a).streams
      go true on =
          let c = call_on_is p e theirs call a on in
          subst (λ (s : StreamsState). F (done_by call a w) s) (sym c.leaves) (call_on F words (is_open e.closing.state) w (streams_at e) i call a (c.answer is))
      go false off = subst (λ (v : ℕ → Wrote). F v (after_call p e theirs call a).streams) (sym (done_none call a w off)) (by_call p e theirs (λ (f : End). F w f.streams) call a (record {
        same = i;
        on_streams = λ on answer. cc;
        on_messages = λ on answer. i;
        pings = i;
        closes = λ reason f now own. i;
        waits = λ now b set. by_waits (λ (f : End). F w f.streams) b (with_closing e (ticked e.closing now)) i i;
        changes_id = λ uses answer. by_next_id (λ (f : End). F w f.streams) e a i (λ c. i) (λ c most. i);
        says_handshake = λ says answer. by_done (λ (f : End). F w f.streams) e a i i;
        times = λ now expiry set. by_expired p.words e now (λ (f : End). F w f.streams) (λ pending tracking timers waits asked runs packets. i) (λ pending timers waits asked runs. expiry_stays (λ (t : Streams). F w t.state) e now (losing w e.tracking.packets ends) i pending timers waits asked) (λ x j. j) expiry;
        polls = λ now set. poll_keeps p w e now i;
        hears = λ arrival d set. cc;
        tells = λ asks. by_event e (λ (f : End). F w f.streams) i i (λ told. words.polls w e.streams i);
      }))
