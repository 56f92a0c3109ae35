-- What a frame on a receiving part leaves of all streams.
use Rattle.std.proofs.Common.{◌≡◌, ℕ, ◌+◌, Bool, true, false, Option, Some, None, Result, Ok, Err, IsSome, IfSome, OnOk, refl, sym, ap, subst, ◌∙◌}
use Rattle.std.specs.Prelude.{◌&&◌, ◌||◌, not, if◌then◌else◌}
use Rattle.std.specs.Option.{is_some}
use Rattle.std.specs.Result.{is_err}
use Rattle.quic_wire_core.specs.StreamId.{dir_of}
use Rattle.quic_wire.specs.Value.{StreamValue, ResetStreamValue}
use Rattle.quic_retransmits.specs.Retransmits.{Retransmits}
use Rattle.quic_streams_parts.specs.declared.answers.Breach.{Breach}
use Rattle.quic_streams_parts.specs.declared.answers.Breach.TheVariants.{Pieces}
use Rattle.quic_streams_parts.specs.declared.answers.StreamEvent.{StreamEvent}
use Rattle.quic_streams_parts.specs.declared.answers.StreamEvent.TheVariants as stream_events
use Rattle.quic_streams_parts.specs.Events.{with_event}
use Rattle.quic_streams_parts.specs.RecvHalf.{RecvHalf, end_of, after_frame, after_reset_stream, has_too_many, stopped_now}
use Rattle.quic_streams_parts.specs.Table.{at}
use Rattle.quic_streams_parts.specs.Dirs.{is_own, is_two_way}
use Rattle.quic_streams_halves.specs.Halves.{changed, is_done, without_half}
use Rattle.quic_streams_state.specs.State.{StreamsState, Streams, Receiving, done_if, receiving_half, sending_status, seen_at, with_recv}
use Rattle.quic_streams_state.specs.Limits.{decided, settled}
use Rattle.quic_streams_state.specs.Opening.{opens, opened_by, opened_if, receiving_refusal}
use Rattle.quic_streams_state.specs.Taking.{part_for, refusal, breach_on, breach_at, breach_behind, readable_if, ended_if, renewed, after_stream, stream_breach, too_many_at, after_reset_frame}
use Rattle.quic_streams_state.specs.Reading.{with_stop, stopped_if, stop_answer, after_stop}
use Rattle.quic_streams_state.specs.Received.{is_over, noted_on, framed_at, reset_on}
use Rattle.quic_streams_state.proofs.Tables.{at-with_half}

-- ---- the part that a frame is for

-- a part that is in use is the one that a frame is for
pub part_live : (s : StreamsState) (id : ℕ) (h : RecvHalf) → at s.receiving.halves.live id ≡ Some h → part_for s id ≡ Some h
part_live s id h found = go (opens s id)
  where
    go : (b : Bool) → receiving_half (opened_if b id s) id ≡ Some h
    go true = rw found refl
    go false = rw found refl

-- what isn't refused is refused neither by its id nor on its part
pub allowed_id : (s : StreamsState) (id end : ℕ) (fin : Bool) → refusal s id end fin ≡ None → receiving_refusal s id ≡ None
allowed_id s id end fin = go (receiving_refusal s id)
  where
    go : (r : Option Breach) → breach_behind r s id end fin ≡ None → r ≡ None
    go None e = refl
    go (Some b) e = cc

pub allowed_part : (s : StreamsState) (id end : ℕ) (fin : Bool) (h : RecvHalf) → refusal s id end fin ≡ None → part_for s id ≡ Some h → breach_on s.receiving h end fin ≡ None
allowed_part s id end fin h e is =
    sym (ap (λ (o : Option RecvHalf). breach_at o s.receiving end fin) is)
    ∙ sym (ap (λ (r : Option Breach). breach_behind r s id end fin) (allowed_id s id end fin e))
    ∙ e

pub allowed_live : (s : StreamsState) (id end : ℕ) (fin : Bool) → refusal s id end fin ≡ None → IfSome (at s.receiving.halves.live id) (λ h. breach_on s.receiving h end fin ≡ None)
allowed_live s id end fin e = go (at s.receiving.halves.live id) refl
  where
    go : (o : Option RecvHalf) → at s.receiving.halves.live id ≡ o → IfSome o (λ h. breach_on s.receiving h end fin ≡ None)
    go None found = tt
    go (Some h) found = allowed_part s id end fin h e (part_live s id h found)

-- ---- the order of the steps

-- that the application is told changes nothing of what is done
done_told : (d : Bool) (id : ℕ) (event : StreamEvent) (s : StreamsState) → done_if d id (record s { events = with_event event s.events }) ≡ record (done_if d id s) { events = with_event event (done_if d id s).events }
done_told true id event s = refl
done_told false id event s = refl

-- the application is told before its stream opens, or after
told_first : (tells : Bool) (id : ℕ) (s : StreamsState) → opened_by (readable_if tells id s) id ≡ readable_if tells id (opened_by s id)
told_first false id s = refl
told_first true id s = go (opens s id)
  where
    go : (b : Bool) → opened_if b id (readable_if true id s) ≡ readable_if true id (opened_if b id s)
    go true = refl
    go false = refl

-- the same of a part that is over
told_ended : (over tells : Bool) (id : ℕ) (s : StreamsState) → ended_if over id (readable_if tells id s) ≡ readable_if tells id (ended_if over id s)
told_ended over false id s = refl
told_ended false true id s = refl
told_ended true true id s = done_told (not (is_own s.side id) && (not (is_two_way (dir_of id)) || is_done (sending_status s id))) id (stream_events.Readable id)
    (record s { receiving = record s.receiving { halves = without_half s.receiving.halves id; gone = s.receiving.gone + seen_at (at s.receiving.halves.live id) } })

-- nor of how far a stream may come
told_window : (tells : Bool) (id : ℕ) (s : StreamsState) → (readable_if tells id s).receiving.stream_window ≡ s.receiving.stream_window
told_window true id s = refl
told_window false id s = refl

-- a part takes its value before the application is told, or after
told_with : (tells : Bool) (id : ℕ) (h : RecvHalf) (s : StreamsState) → with_recv (readable_if tells id s) id h ≡ readable_if tells id (with_recv s id h)
told_with true id h s = refl
told_with false id h s = refl

-- a part takes its value before its stream opens, or after
opened_with : (id : ℕ) (h : RecvHalf) (s : StreamsState) → opened_by (with_recv s id h) id ≡ with_recv (opened_by s id) id h
opened_with id h s = go (opens s id)
  where
    go : (b : Bool) → opened_if b id (with_recv s id h) ≡ with_recv (opened_if b id s) id h
    go true = refl
    go false = refl

-- a part takes its value, the application is told, the stream opens, and a part that is over ends
pub settles : (s t : StreamsState) (id : ℕ) (old new : RecvHalf) (tells : Bool) → t ≡ noted_on s id old new tells → ended_if (is_over (at t.receiving.halves.live id)) id (opened_by t id) ≡ renewed s id old new tells
settles s t id old new tells is =
    let told : Bool = tells && not (old.stopped || opens s id) in
    let all : t ≡ readable_if told id (with_recv s id new) = is ∙ told_with told id new s in
    let over = ap (λ (x : StreamsState). is_over (at x.receiving.halves.live id)) is ∙ ap is_over (at-with_half (readable_if told id s).side (readable_if told id s).receiving.halves id new) in
    ap (λ (b : Bool). ended_if b id (opened_by t id)) over
    ∙ ap (λ (x : StreamsState). ended_if (is_over (Some new)) id (opened_by x id)) all
    ∙ ap (λ (x : StreamsState). ended_if (is_over (Some new)) id x) (told_first told id (with_recv s id new) ∙ ap (λ (x : StreamsState). readable_if told id x) (opened_with id new s))
    ∙ told_ended (is_over (Some new)) told id (with_recv (opened_by s id) id new)

-- a half in use is changed to its value
pub changes : (tells : Bool) (id : ℕ) (h : RecvHalf) (f : RecvHalf → RecvHalf) (s : StreamsState) → at s.receiving.halves.live id ≡ Some h
    → record (readable_if tells id s) { receiving = record (readable_if tells id s).receiving { halves = changed f (readable_if tells id s).receiving.halves id } } ≡ with_recv (readable_if tells id s) id (f h)
changes true id h f s found = rw found refl
changes false id h f s found = rw found refl

-- ---- what the frames answer and leave

-- that too many pieces wait is what a frame breaks that isn't refused
pub stream_answer : (s : StreamsState) (f : StreamValue) (h : RecvHalf) → refusal s f.id (end_of f) f.fin ≡ None → part_for s f.id ≡ Some h → stream_breach s f ≡ too_many_at s.receiving.stream_window (Some h) f
stream_answer s f h e is = rw (e, is) refl

pub stream_leaves : (s : StreamsState) (p : Retransmits) (f : StreamValue) (h : RecvHalf) → refusal s f.id (end_of f) f.fin ≡ None → part_for s f.id ≡ Some h → after_stream s p f ≡ settled (framed_at h s f) p
stream_leaves s p f h e is = rw (e, is) refl

pub reset_leaves : (s : StreamsState) (p : Retransmits) (f : ResetStreamValue) (h : RecvHalf) → refusal s f.id f.final_size true ≡ None → part_for s f.id ≡ Some h → after_reset_frame s p f ≡ settled (reset_on h s f) p
reset_leaves s p f h e is = rw (e, is) refl

-- what a call that was answered without want of memory ensures
pub went : {T E P : Type 0} (r : Result T E) → is_err r ≡ false → OnOk r P → P
went (Ok x) e p = p
went (Err x) e p = absurd (wrong e)
  where
    wrong : true ≡ false → ⊥
    wrong h = cc

-- a frame is taken: what it breaks, and what it leaves
pub record IsTaken (s : StreamsState) (p : Retransmits) (f : StreamValue) (u : StreamsState) (q : Retransmits) (crowded : Bool) : Type 0 where
  pub answer : stream_breach s f ≡ (if crowded then Some Pieces else None)
  pub new : u ≡ (after_stream s p f).state
  pub pending : q ≡ (after_stream s p f).pending

-- so it is once the part took it and the application was told, and the stream opened
pub is_taken : (s : StreamsState) (p : Retransmits) (f : StreamValue) (t u : StreamsState) (q : Retransmits) (crowded : Bool) (h : RecvHalf) → refusal s f.id (end_of f) f.fin ≡ None → part_for s f.id ≡ Some h
    → t ≡ noted_on s f.id h (after_frame h f) true → IfSome (at t.receiving.halves.live f.id) (λ x. crowded ≡ has_too_many t.receiving.stream_window x) → u ≡ ended_if (is_over (at t.receiving.halves.live f.id)) f.id (opened_by t f.id) → q ≡ decided u p
    → IsTaken s p f u q crowded
is_taken s p f t u q crowded h allowed part kept many new pending =
    let leaves = stream_leaves s p f h allowed part in
    let state : u ≡ framed_at h s f = new ∙ settles s t f.id h (after_frame h f) true kept in
    let here = ap (λ (x : StreamsState). at x.receiving.halves.live f.id) kept ∙ at-with_half (readable_if (true && not (h.stopped || opens s f.id)) f.id s).side (readable_if (true && not (h.stopped || opens s f.id)) f.id s).receiving.halves f.id (after_frame h f) in
    let window = ap (λ (x : StreamsState). x.receiving.stream_window) kept ∙ told_window (true && not (h.stopped || opens s f.id)) f.id s in
    let those : crowded ≡ has_too_many t.receiving.stream_window (after_frame h f) = subst (λ (o : Option RecvHalf). IfSome o (λ x. crowded ≡ has_too_many t.receiving.stream_window x)) here many in
    let more : crowded ≡ has_too_many s.receiving.stream_window (after_frame h f) = those ∙ ap (λ (n : ℕ). has_too_many n (after_frame h f)) window in
    record {
      answer = stream_answer s f h allowed part ∙ ap (λ (b : Bool). if b then Some Pieces else None) (sym more);
      new = state ∙ sym (ap (λ (x : Streams). x.state) leaves);
      pending = pending ∙ ap (λ (x : StreamsState). decided x p) state ∙ sym (ap (λ (x : Streams). x.pending) leaves);
    }

-- the same of a part that is in use
pub is_taken_live : (s : StreamsState) (p : Retransmits) (f : StreamValue) (t u : StreamsState) (q : Retransmits) (crowded : Bool) → refusal s f.id (end_of f) f.fin ≡ None → IsSome (at s.receiving.halves.live f.id)
    → IfSome (at s.receiving.halves.live f.id) (λ h. t ≡ noted_on s f.id h (after_frame h f) true) → IfSome (at t.receiving.halves.live f.id) (λ x. crowded ≡ has_too_many t.receiving.stream_window x) → u ≡ ended_if (is_over (at t.receiving.halves.live f.id)) f.id (opened_by t f.id) → q ≡ decided u p
    → IsTaken s p f u q crowded
is_taken_live s p f t u q crowded allowed used kept many new pending = go (at s.receiving.halves.live f.id) refl used kept
  where
    wrong : IsSome {T = RecvHalf} None → ⊥
    wrong e = cc

    go : (o : Option RecvHalf) → at s.receiving.halves.live f.id ≡ o → IsSome o → IfSome o (λ h. t ≡ noted_on s f.id h (after_frame h f) true) → IsTaken s p f u q crowded
    go None found is k = absurd (wrong is)
    go (Some h) found is k = is_taken s p f t u q crowded h allowed (part_live s f.id h found) k many new pending

-- a reset is taken: what it leaves
pub record IsReset (s : StreamsState) (p : Retransmits) (f : ResetStreamValue) (u : StreamsState) (q : Retransmits) : Type 0 where
  pub new : u ≡ (after_reset_frame s p f).state
  pub pending : q ≡ (after_reset_frame s p f).pending

-- so it is once the part took it and the application was told, and the stream opened
pub is_reset : (s : StreamsState) (p : Retransmits) (f : ResetStreamValue) (t u : StreamsState) (q : Retransmits) (h : RecvHalf) → refusal s f.id f.final_size true ≡ None → part_for s f.id ≡ Some h
    → t ≡ noted_on s f.id h (after_reset_stream h f.code f.final_size) (not (is_some h.reset)) → u ≡ ended_if (is_over (at t.receiving.halves.live f.id)) f.id (opened_by t f.id) → q ≡ decided u p
    → IsReset s p f u q
is_reset s p f t u q h allowed part kept new pending =
    let leaves = reset_leaves s p f h allowed part in
    let state : u ≡ reset_on h s f = new ∙ settles s t f.id h (after_reset_stream h f.code f.final_size) (not (is_some h.reset)) kept in
    record {
      new = state ∙ sym (ap (λ (x : Streams). x.state) leaves);
      pending = pending ∙ ap (λ (x : StreamsState). decided x p) state ∙ sym (ap (λ (x : Streams). x.pending) leaves);
    }

-- the same of a part that is in use
pub is_reset_live : (s : StreamsState) (p : Retransmits) (f : ResetStreamValue) (t u : StreamsState) (q : Retransmits) → refusal s f.id f.final_size true ≡ None → IsSome (at s.receiving.halves.live f.id)
    → IfSome (at s.receiving.halves.live f.id) (λ h. t ≡ noted_on s f.id h (after_reset_stream h f.code f.final_size) (not (is_some h.reset))) → u ≡ ended_if (is_over (at t.receiving.halves.live f.id)) f.id (opened_by t f.id) → q ≡ decided u p
    → IsReset s p f u q
is_reset_live s p f t u q allowed used kept new pending = go (at s.receiving.halves.live f.id) refl used kept
  where
    wrong : IsSome {T = RecvHalf} None → ⊥
    wrong e = cc

    go : (o : Option RecvHalf) → at s.receiving.halves.live f.id ≡ o → IsSome o → IfSome o (λ h. t ≡ noted_on s f.id h (after_reset_stream h f.code f.final_size) (not (is_some h.reset))) → IsReset s p f u q
    go None found is k = absurd (wrong is)
    go (Some h) found is k = is_reset s p f t u q h allowed (part_live s f.id h found) k new pending

-- ---- this end stops a part that is in use

-- what a stop answers and leaves
pub record IsStopped (s : StreamsState) (p : Retransmits) (id code : ℕ) (u : StreamsState) (q : Retransmits) : Type 0 where
  pub answer : Ok tt ≡ stop_answer s id
  pub new : u ≡ (after_stop s p id code).state
  pub pending : q ≡ (after_stop s p id code).pending

pub is_stopped : (s : StreamsState) (p r : Retransmits) (id code : ℕ) (h : RecvHalf) (t : Receiving) (u : StreamsState) (q : Retransmits) → at s.receiving.halves.live id ≡ Some h → h.stopped ≡ false
    → t ≡ record s.receiving { halves = changed stopped_now s.receiving.halves id } → u ≡ ended_if (is_over (at t.halves.live id)) id (record s { receiving = t }) → r ≡ with_stop h.reset id code p → q ≡ decided u r
    → IsStopped s p id code u q
is_stopped s p r id code h t u q found free stop new asked pending =
    let now : record s { receiving = t } ≡ with_recv s id (stopped_now h) = ap (λ (x : Receiving). record s { receiving = x }) stop ∙ changes false id h stopped_now s found in
    let over = ap (λ (x : StreamsState). is_over (at x.receiving.halves.live id)) now ∙ ap is_over (at-with_half s.side s.receiving.halves id (stopped_now h)) in
    let state : u ≡ stopped_if (is_some h.final) s id h = new ∙ ap (λ (b : Bool). ended_if b id (record s { receiving = t })) over ∙ ap (λ (x : StreamsState). ended_if (is_some h.final) id x) now ∙ ended (is_some h.final) in
    let leaves : after_stop s p id code ≡ settled (stopped_if (is_some h.final) s id h) (with_stop h.reset id code p) = rw (found, free) refl in
    record {
      answer = rw (found, free) refl;
      new = state ∙ sym (ap (λ (x : Streams). x.state) leaves);
      pending = pending ∙ ap (λ (x : StreamsState). decided x r) state ∙ ap (λ (x : Retransmits). decided (stopped_if (is_some h.final) s id h) x) asked ∙ sym (ap (λ (x : Streams). x.pending) leaves);
    }
  where
    ended : (b : Bool) → ended_if b id (with_recv s id (stopped_now h)) ≡ stopped_if b s id h
    ended true = refl
    ended false = refl
