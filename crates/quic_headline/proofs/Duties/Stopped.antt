-- Of each stream that an end stopped and whose final size it doesn't know, F holds: where that is
-- that STOP_SENDING of it waits, is under way, or came, each call keeps it.
use Rattle.std.proofs.Common.{◌≡◌, ℕ, Bool, true, false, List, Option, Some, None, refl, sym, ap, subst, inl, inr}
use Rattle.std.specs.Prelude.{if◌then◌else◌, ◌&&◌}
use Rattle.std.specs.Option.{is_some}
use Rattle.std.proofs.lemmas.Bool.{both_ways}
use Rattle.quic_wire.specs.Value.{FrameValue, StreamValue}
use Rattle.quic_config.specs.Transport.{Settings, parameters_of}
use Rattle.quic_streams_parts.specs.RecvHalf.{RecvHalf, end_of, after_frame, with_offsets_of, with_frame, after_reset_stream, reset_by}
use Rattle.quic_streams_halves.specs.Halves.{Status, unknown, fresh, live, done, has_place, no_places, idle_status}
use Rattle.quic_retransmits.specs.Retransmits.{Retransmits}
use Rattle.quic_streams_state.specs.declared.state.StreamsState.{StreamsState}
use Rattle.quic_streams_state.specs.State.{streams_of, new_streams, receiving_half, receives_on, is_opened}
use Rattle.quic_streams_state.specs.Reading.{stop_answer, after_stop}
use Rattle.quic_streams_laws.specs.Content.{AllReceiving}
use Rattle.quic_streams_laws.specs.ContentLaws.{by_next_answer}
use Rattle.quic_streams_laws.specs.Keeping.{KeepsBy}
use Rattle.quic_streams_laws.specs.KeepingLaws.{by_accept, by_read_begun, by_next, by_stop, by_received_reset, by_stream, by_reset_frame}
use Rattle.quic_streams_laws.specs.Quiet.{IsSentWithin}
use Rattle.quic_streams_laws.specs.QuietLaws.{is_quiet}
use Rattle.quic_streams_laws.specs.StartLaws.{shape_new, shape_set_params}
use Rattle.quic_streams_laws.specs.StatusLaws.{GoesOn, said_of_each, each_kept}
use Rattle.quic_machine.specs.declared.run.Call.{Call}
use Rattle.quic_machine.specs.declared.run.Call.TheVariants as calls
use Rattle.quic_machine.specs.declared.run.Answer.{Answer}
use Rattle.quic_machine.specs.Policy.{Policy}
use Rattle.quic_machine.specs.End.{End}
use Rattle.quic_machine.specs.Receive.{take_frame}
use Rattle.quic_machine.specs.StreamCalls.{if_ok}
use Rattle.quic_machine.specs.CallCases.{is_delivery}
use Rattle.quic_machine.specs.Machine.{IsAnswer, after_call}
use Rattle.quic_headline.proofs.Places.Parties.{Beginning, begun_as}
use Rattle.quic_headline.proofs.Halves.QuietSteps.{frame_quiet}
use Rattle.quic_headline.proofs.Halves.ReadCalls.{IsKeptElse, if_done, call_kept_else}
use Rattle.quic_headline.proofs.Duties.Listed.{StopOf, listed_in, stop_added_by}

-- ---- what is known

-- of a half in use: one that was reset has a final size, and where it is stopped and has none, F
-- holds of its stream
abbrev pub IsAsked : (ℕ → Type 0) → ℕ → Status RecvHalf → Type 0
IsAsked F id unknown = Unit {0}
IsAsked F id fresh = Unit {0}
IsAsked F id (live h) = (is_some h.reset ≡ true → is_some h.final ≡ true) × (h.stopped ≡ true → h.final ≡ None → F id)
IsAsked F id done = Unit {0}

-- so it is of each stream
abbrev pub AreAsked : (ℕ → Type 0) → StreamsState → Type 0
AreAsked F s = AllReceiving (IsAsked F) s

-- where what holds of a stream says another thing
pub asked_more : (F G : ℕ → Type 0) (s : StreamsState) → ((id : ℕ) → F id → G id) → AreAsked F s → AreAsked G s
asked_more F G s more i = said_of_each (IsAsked F) (IsAsked G) one s i
  where
    one : (id : ℕ) (x : Status RecvHalf) → IsAsked F id x → IsAsked G id x
    one id unknown j = tt
    one id fresh j = tt
    one id (live h) j = (j.0, λ halted open_end. more id (j.1 halted open_end))
    one id done j = tt

-- a final size that is known stays so
final_known : (fin : Bool) (size : ℕ) (o : Option ℕ) → is_some o ≡ true → is_some (if fin then Some size else o) ≡ true
final_known true size o is = refl
final_known false size o is = is

final_unknown : (fin : Bool) (size : ℕ) (o : Option ℕ) → (if fin then Some size else o) ≡ None → o ≡ None
final_unknown true size o is = cc
final_unknown false size o is = is

module _ (F : ℕ → Type 0) where
  abbrev P : StreamsState → Type 0
  P = AreAsked F

  asked_goes : GoesOn (IsAsked F)
  asked_goes = record { opens = λ id i. tt; comes = λ id window i. (λ reset. cc, λ halted open_end. cc); told = λ id h n i. i; ends = λ id h i. tt }

  asked_kept : KeepsBy (λ r id old new. IsAsked F id (live old) → IsAsked F id (live new)) (λ s id old new. Unit {0}) (λ s id n old new. Unit {0}) P
  asked_kept = each_kept (IsAsked F) asked_goes

  -- ---- frames

  frame_asked : (id : ℕ) (h : RecvHalf) (f : StreamValue) → IsAsked F id (live h) → IsAsked F id (live (after_frame h f))
  frame_asked id h f i = go h.stopped (is_some h.reset)
    where
      go : (a b : Bool) → IsAsked F id (live (if a then with_offsets_of h f else (if b then h else with_frame h f)))
      go true b = (λ reset. final_known f.fin (end_of f) h.final (i.0 reset), λ halted open_end. i.1 halted (final_unknown f.fin (end_of f) h.final open_end))
      go false true = i
      go false false = (λ reset. final_known f.fin (end_of f) h.final (i.0 reset), λ halted open_end. i.1 halted (final_unknown f.fin (end_of f) h.final open_end))

  reset_asked : (id : ℕ) (h : RecvHalf) (code size : ℕ) → IsAsked F id (live h) → IsAsked F id (live (after_reset_stream h code size))
  reset_asked id h code size i = go h.stopped (is_some h.reset)
    where
      go : (a b : Bool) → IsAsked F id (live (if a then record h { seen = size; final = Some size } else (if b then h else reset_by h code size)))
      go true b = (λ reset. refl, λ halted open_end. cc)
      go false true = i
      go false false = (λ reset. refl, λ halted open_end. cc)

  pub asked_frame : (f : FrameValue) (e : End) → P e.streams → P (take_frame f e).end.streams
  asked_frame f e i = frame_quiet P (is_quiet P asked_kept) f e
      (λ g is. by_stream P asked_kept e.streams e.waiting.frames g (λ h a u j. frame_asked g.id h g j) i)
      (λ g is. by_reset_frame P asked_kept e.streams e.waiting.frames g (λ h a u j. reset_asked g.id h g.code g.final_size j) i)
      i

  -- ---- calls

  asked_calls : IsKeptElse P
  asked_calls = record {
    quiet = is_quiet P asked_kept;
    begun = λ s id ordered i. by_read_begun P asked_kept s id ordered (λ h e j. j) i;
    next = λ told s id most answer is i. by_next_answer P told s id most answer is (by_next P asked_kept told s id most (λ h c e f j. j) i) i;
    received_reset = λ s p id i. by_received_reset P asked_kept s p id i;
  }

  -- a stop, where F holds once STOP_SENDING of the stream waits
  stop_asked : (s : StreamsState) (p : Retransmits) (id code : ℕ) → (listed_in (StopOf id) (if_ok (stop_answer s id) (after_stop s p id code) (streams_of s p)).pending ≡ true → F id) → P s → P (if_ok (stop_answer s id) (after_stop s p id code) (streams_of s p)).state
  stop_asked s p id code waits i = if_done P (stop_answer s id) (after_stop s p id code) (streams_of s p) (by_stop P asked_kept s p id code (λ h found was. (was.0, λ halted open_end. asks h found was h.stopped h.reset refl refl open_end)) i) i
    where
      asks : (h : RecvHalf) → receiving_half s id ≡ Some h → IsAsked F id (live h) → (b : Bool) (o : Option ℕ) → h.stopped ≡ b → h.reset ≡ o → h.final ≡ None → F id
      asks h found was true o is reset open_end = was.1 is open_end
      asks h found was false None is reset open_end = waits (stop_added_by s p id code h found is reset)
      asks h found was false (Some code) is reset open_end = absurd (both_ways (is_some h.final) (ap is_some open_end) (was.0 (ap is_some reset)))

  -- F holds of a stream once STOP_SENDING of it waits
  abbrev Waiting : End → Type 0
  Waiting e = (id : ℕ) → listed_in (StopOf id) e.waiting.frames ≡ true → F id

  module _ (p : Policy) (e : End) (theirs : List (List ℕ)) (i : P e.streams) where
    stop_call : (id code : ℕ) (a : Answer) → Waiting (after_call p e theirs (calls.Stop id code) a) → IsAnswer p e theirs (calls.Stop id code) a → P (after_call p e theirs (calls.Stop id code) a).streams
    stop_call id code a waits (inl is) = subst (λ (b : Answer). Waiting (after_call p e theirs (calls.Stop id code) b) → P (after_call p e theirs (calls.Stop id code) b).streams) (sym is) (λ w. stop_asked e.streams e.waiting.frames id code (w id) i) waits
    stop_call id code a waits (inr is) = subst (λ (b : Answer). P (after_call p e theirs (calls.Stop id code) b).streams) (sym is) i

  -- any call but a delivery
  pub asked_call : (p : Policy) (e : End) (theirs : List (List ℕ)) → ((id : ℕ) → IsSentWithin e.streams id) → (call : Call) (a : Answer) → IsAnswer p e theirs call a → is_delivery call ≡ false → Waiting (after_call p e theirs call a) → P e.streams
      → P (after_call p e theirs call a).streams
  asked_call p e theirs within call a is apart waits i = call_kept_else P asked_calls p e theirs within i call a is apart (λ dir same. by_accept P asked_kept dir e.streams (λ may. may) i)
      (λ id code same answer. stop_call p e theirs i id code a (subst (λ (k : Call). Waiting (after_call p e theirs k a)) same waits) answer)

-- nothing was stopped
pub asked_first : (F : ℕ → Type 0) (x y : Beginning) → AreAsked F (begun_as x y).end.streams
asked_first F x y =
    let s : Settings = x.making.settings in
    record {
      shape = shape_set_params (new_streams x.side s.max_uni s.max_bidi s.send_window s.receive_window s.stream_receive_window) (parameters_of y.making.settings) (shape_new x.side s.max_uni s.max_bidi s.send_window s.receive_window s.stream_receive_window);
      each = λ id. first id (receives_on x.side id && is_opened (begun_as x y).end.streams id) (has_place x.side no_places id);
    }
  where
    first : (id : ℕ) (opened used : Bool) → IsAsked F id (idle_status opened used)
    first id false used = tt
    first id true false = tt
    first id true true = tt
