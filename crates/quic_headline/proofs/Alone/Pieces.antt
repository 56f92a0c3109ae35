-- Of a stream of an open end no more runs wait than its window lets, whatever comes: nothing but a
-- STREAM frame brings more, and one that brings too many closes the end (RFC 9000, section 21.7).
use Rattle.std.proofs.Common.{◌≡◌, ℕ, ◌+◌, ◌≤◌, Bool, true, false, not, cond, List, [], ◌∷◌, drop, length, Option, Some, None, Result, Ok, Err, refl, sym, ap, ◌∙◌, subst, arith, inl, inr}
use Rattle.std.specs.Prelude.{◌&&◌, ◌||◌, ◌==◌, ltb, slice_get, if◌then◌else◌}
use Rattle.std.specs.Option.{is_some}
use Rattle.std.proofs.lemmas.Bool.{ltb-false}
use Rattle.quic_wire_core.specs.declared.shared.EcnCodepoint.{EcnCodepoint}
use Rattle.quic_wire_core.specs.declared.stream_id.Side.{Side}
use Rattle.quic_wire.specs.Value.{FrameValue, StreamValue}
use Rattle.quic_wire.specs.Items.{items}
use Rattle.quic_wire.specs.declared.frame.InvalidFrame.{InvalidFrame}
use Rattle.quic_packet.specs.Header.{key_phase, reserved_bits}
use Rattle.quic_packet.specs.Datagram.{Opening}
use Rattle.quic_config.specs.Transport.{Settings}
use Rattle.quic_parameters.specs.Parameters.{ParameterValues}
use Rattle.quic_sets.specs.Parts.{Part, start}
use Rattle.quic_assembler.specs.Arrived.{runs_of, runs_behind, shortened, left_by, left_front, after_read_in}
use Rattle.quic_recovery_core.specs.Duplicates.{is_duplicate}
use Rattle.quic_retransmits.specs.Retransmits.{Retransmits}
use Rattle.quic_spaces.specs.Numbers.{number_opened}
use Rattle.quic_streams_parts.specs.declared.answers.Breach.{Breach}
use Rattle.quic_streams_parts.specs.declared.answers.Breach.TheVariants.{Pieces}
use Rattle.quic_streams_parts.specs.Table.{at}
use Rattle.quic_streams_parts.specs.SendHalf.{SendHalf, Queued}
use Rattle.quic_streams_parts.specs.RecvHalf.{RecvHalf, end_of, after_frame, reset_by, after_reset_stream, read_on, most_pieces, has_too_many}
use Rattle.quic_streams_halves.specs.Halves.{Status, unknown, fresh, live, done, idle_status, has_place, no_places}
use Rattle.quic_streams_state.specs.declared.state.StreamsState.{StreamsState}
use Rattle.quic_streams_state.specs.State.{new_streams, receives_on, is_opened, sending_half}
use Rattle.quic_streams_state.specs.Sends.{with_queued}
use Rattle.quic_streams_state.specs.Taking.{part_for, refusal, too_many_at, breach_kept, stream_breach, after_stream}
use Rattle.quic_streams_laws.specs.Keeping.{KeepsBy}
use Rattle.quic_streams_laws.specs.KeepingLaws.{live_receives, by_accept, by_blocked, by_stream, by_reset_frame, by_read_begun, by_next, by_stop, by_received_reset}
use Rattle.quic_streams_laws.specs.QuietLaws.{is_quiet}
use Rattle.quic_streams_laws.specs.Content.{AllReceiving}
use Rattle.quic_streams_laws.specs.ContentLaws.{by_next_answer}
use Rattle.quic_streams_laws.specs.StatusLaws.{GoesOn, each_kept, at_half_of}
use Rattle.quic_streams_laws.specs.StartLaws.{shape_new, shape_set_params}
use Rattle.quic_streams_laws.specs.ShapeLaws.{sends_with}
use Rattle.quic_machine.specs.declared.answers.State.{State}
use Rattle.quic_machine.specs.declared.answers.State.TheVariants as states
use Rattle.quic_machine.specs.declared.answers.DropReason.{DropReason}
use Rattle.quic_machine.specs.declared.answers.DropReason.TheVariants as drops
use Rattle.quic_machine.specs.declared.run.Call.{Call}
use Rattle.quic_machine.specs.declared.run.Call.TheVariants as calls
use Rattle.quic_machine.specs.declared.run.Answer.{Answer}
use Rattle.quic_machine.specs.Arrival.{Arrival, delivered_by}
use Rattle.quic_machine.specs.Policy.{Policy}
use Rattle.quic_machine.specs.Opens.{head}
use Rattle.quic_machine.specs.Calls.{is_open}
use Rattle.quic_machine.specs.End.{End, with_numbers, first_streams}
use Rattle.quic_machine.specs.Receive.{Fault, broke, too_many_pieces, closed_by_peer, fault_of, violation, is_empty, asks_in, is_urged, take_frame, unless_fault, take_items, take_payload, dropped, ends_as, by_state, opened_to, opened_as, opening, unopened_in, headed, received_in, received, is_read, items_taken, drawn_if, with_ids_drawn, has_migrated}
use Rattle.quic_machine.specs.Machine.{IsAnswer, says_last, after_delivered, after_call}
use Rattle.quic_machine.specs.CallCases.{is_delivery}
use Rattle.quic_machine.specs.FrameCases.{begun}
use Rattle.quic_headline.proofs.Packets.Moved.{by_migrated_if}
use Rattle.quic_headline.proofs.Halves.QuietSteps.{frame_quiet}
use Rattle.quic_headline.proofs.Causes.Shown.{call_closes}
use Rattle.quic_headline.proofs.Causes.Window.{HasWindow, frame_window}
use Rattle.quic_headline.proofs.Alone.Streams.{write_leaves, chunks_leave, IsKeptAlone, apart_call}

-- ---- reads

-- without the first part there are no more runs
runs_less : (end : ℕ) (ps : List Part) → runs_of ps ≤ 1 + runs_behind end ps
runs_less end [] = omega arith
runs_less end (p ∷ ps) = omega arith

-- nor are there where it loses bytes in front
shortened_runs : (most : ℕ) (p : Part) (ps : List Part) → runs_of (shortened most p ps) ≤ runs_of (p ∷ ps)
shortened_runs most p ps = go (ltb most (length p.1))
  where
    go : (b : Bool) → runs_of (cond b ((p.0, drop most p.1) ∷ ps) ps) ≤ 1 + runs_behind p.0 ps
    go true = omega arith
    go false = runs_less p.0 ps

left_runs : (ps : List Part) (read most : ℕ) → runs_of (left_by ps read most) ≤ runs_of ps
left_runs [] read most = omega arith
left_runs (p ∷ ps) read most = go (start p == read)
  where
    go : (b : Bool) → runs_of (cond b (shortened most p ps) (p ∷ ps)) ≤ runs_of (p ∷ ps)
    go true = shortened_runs most p ps
    go false = omega arith

front_runs : (ps : List Part) (most : ℕ) → runs_of (left_front ps most) ≤ runs_of ps
front_runs [] most = omega arith
front_runs (p ∷ ps) most = shortened_runs most p ps

-- so a read leaves no more, in order or not: it takes bytes of the first part, from its front on
read_runs : (h : RecvHalf) (most : ℕ) → runs_of (read_on h most).arrived.parts ≤ runs_of h.arrived.parts
read_runs h most = go h.arrived.unordered
  where
    go : (b : Bool) → runs_of (after_read_in b h.arrived most).parts ≤ runs_of h.arrived.parts
    go true = front_runs h.arrived.parts most
    go false = left_runs h.arrived.parts h.arrived.read most

-- ---- all streams

module _ (limit : ℕ) where
  -- of a half in use so many runs wait at most
  abbrev pub IsFew : Status RecvHalf → Type 0
  IsFew unknown = Unit {0}
  IsFew fresh = Unit {0}
  IsFew (live h) = runs_of h.arrived.parts ≤ limit
  IsFew done = Unit {0}

  -- of each stream
  abbrev pub AreFew : StreamsState → Type 0
  AreFew s = AllReceiving (λ id x. IsFew x) s

  goes_on_few : GoesOn (λ id x. IsFew x)
  goes_on_few = record { opens = λ id i. tt; comes = λ id window i. omega arith; told = λ id h n i. i; ends = λ id h i. tt }

  -- every small change keeps it that keeps it at the half that changes
  few_kept : KeepsBy (λ r id old new. IsFew (live old) → IsFew (live new)) (λ s id old new. Unit {0}) (λ s id n old new. Unit {0}) AreFew
  few_kept = each_kept (λ id x. IsFew x) goes_on_few

  -- of a stream in use
  pub few_at : (s : StreamsState) (id : ℕ) (h : RecvHalf) → at s.receiving.halves.live id ≡ Some h → AreFew s → runs_of h.arrived.parts ≤ limit
  few_at s id h is i = at_half_of (λ id x. IsFew x) goes_on_few s id h (live_receives s id h is) i

  -- nothing waits at the start, whatever the peer's first limits are
  pub few_first : (side : Side) (settings : Settings) (theirs : ParameterValues) → AreFew (first_streams side settings theirs)
  few_first side settings theirs = record {
    shape = shape_set_params at_first theirs (shape_new side settings.max_uni settings.max_bidi settings.send_window settings.receive_window settings.stream_receive_window);
    each = λ id. go (receives_on side id && is_opened at_first id) (has_place side no_places id);
  }
    where
      at_first : StreamsState
      at_first = new_streams side settings.max_uni settings.max_bidi settings.send_window settings.receive_window settings.stream_receive_window

      go : (opened used : Bool) → IsFew (idle_status opened used)
      go false used = tt
      go true false = tt
      go true true = tt

  -- nothing waits on one that the peer reset, and before that no more than before
  few_reset : (h : RecvHalf) (code size : ℕ) → IsFew (live h) → IsFew (live (after_reset_stream h code size))
  few_reset h code size i = go h.stopped (is_some h.reset)
    where
      go : (a b : Bool) → IsFew (live (if a then record h { seen = size; final = Some size } else (if b then h else reset_by h code size)))
      go true b = i
      go false true = i
      go false false = omega arith

  -- what is written leaves receiving halves
  few_put : (s : StreamsState) (id : ℕ) (h : SendHalf) (q : Queued) (n : ℕ) → sending_half s id ≡ Some h → AreFew s → AreFew (record s { sending = record (with_queued s.sending s.side id q) { accepted = n } })
  few_put s id h q n is i = let w = sends_with s id h q is i.shape in record { shape = record { sending = w.sending; receiving = w.receiving }; each = i.each }

  -- each word about streams keeps it but a STREAM frame
  few_keeps : IsKeptAlone (λ f. ⊥) AreFew
  few_keeps = record {
    kept = record {
      quiet = is_quiet AreFew few_kept;
      begun = λ s id ordered i. by_read_begun AreFew few_kept s id ordered (λ h e was. was) i;
      next = λ told s id most answer is i. by_next_answer AreFew told s id most answer is (by_next AreFew few_kept told s id most (λ h c e f was. (let less = read_runs h most in omega (arith, was, less))) i) i;
      stop = λ s p id code i. by_stop AreFew few_kept s p id code (λ h e was. omega arith) i;
      received_reset = λ s p id i. by_received_reset AreFew few_kept s p id i;
    };
    accept = λ dir s i. by_accept AreFew few_kept dir s (λ may. may) i;
    write = λ b answer s p id bytes i. write_leaves AreFew few_put b answer s p id bytes (λ full. by_blocked AreFew few_kept s p id (sending_half s id) refl i) i;
    chunks = λ b answer s p id chunks i. chunks_leave AreFew few_put b answer s p id chunks (λ full. by_blocked AreFew few_kept s p id (sending_half s id) refl i) i;
    stream = λ s p f none i. absurd none;
    reset = λ s p f i. by_reset_frame AreFew few_kept s p f (λ h e u was. few_reset h f.code f.final_size was) i;
  }

module _ (window : ℕ) where
  -- of each stream so many wait at most as its window lets
  abbrev pub WithinWindow : StreamsState → Type 0
  WithinWindow s = AreFew (most_pieces window) s

  -- ---- a STREAM frame

  -- one that breaks no rule brings no more than that
  frame_few : (s : StreamsState) (f : StreamValue) (h : RecvHalf) → HasWindow window s → stream_breach s f ≡ None → part_for s f.id ≡ Some h → runs_of (after_frame h f).arrived.parts ≤ most_pieces window
  frame_few s f h same none part = ltb-false (most_pieces window) (runs_of (after_frame h f).arrived.parts) (ap (λ (n : ℕ). has_too_many n (after_frame h f)) (sym same) ∙ few (has_too_many s.receiving.stream_window (after_frame h f)) refl)
    where
      unbroken : (o : Option Breach) → breach_kept o s f ≡ None → too_many_at s.receiving.stream_window (part_for s f.id) f ≡ None
      unbroken None is = is
      unbroken (Some b) is = cc

      at_part : too_many_at s.receiving.stream_window (Some h) f ≡ None
      at_part = sym (ap (λ (o : Option RecvHalf). too_many_at s.receiving.stream_window o f) part) ∙ unbroken (refusal s f.id (end_of f) f.fin) none

      few : (b : Bool) → has_too_many s.receiving.stream_window (after_frame h f) ≡ b → b ≡ false
      few false is = refl
      few true is = let clash = ap (λ (b : Bool). if b then Some Pieces else None) (sym is) ∙ at_part in cc

  few_stream : (s : StreamsState) (p : Retransmits) (f : StreamValue) → HasWindow window s → stream_breach s f ≡ None → WithinWindow s → WithinWindow (after_stream s p f).state
  few_stream s p f same none i = by_stream WithinWindow (few_kept (most_pieces window)) s p f (λ h part u was. frame_few s f h same none part) i

  -- ---- frames of which none is at fault

  -- what a frame that breaks no rule leaves
  taken_few : (f : FrameValue) (e : End) → (take_frame f e).fault ≡ None → HasWindow window e.streams → WithinWindow e.streams → WithinWindow (take_frame f e).end.streams
  taken_few f e none same i = frame_quiet WithinWindow (is_quiet WithinWindow (few_kept (most_pieces window))) f e
      (λ g is. few_stream e.streams e.waiting.frames g same (unbroken (stream_breach e.streams g) (subst (λ (x : FrameValue). (take_frame x e).fault ≡ None) is none)) i)
      (λ g is. (few_keeps (most_pieces window)).reset e.streams e.waiting.frames g i)
      i
    where
      unbroken : (o : Option Breach) → fault_of o ≡ None → o ≡ None
      unbroken None is = refl
      unbroken (Some b) is = cc

  items_few : (is : List (Result FrameValue InvalidFrame)) (e : End) → (take_items is e).fault ≡ None → HasWindow window e.streams → WithinWindow e.streams → WithinWindow (take_items is e).end.streams
  items_few [] e none same i = i
  items_few (Err x ∷ is) e none same i = cc
  items_few (Ok f ∷ is) e none same i = go (take_frame f e).fault refl none (λ rest j. items_few is (take_frame f e).end rest (frame_window window f e same) j)
    where
      go : (o : Option Fault) → (take_frame f e).fault ≡ o → (unless_fault o (take_frame f e) (take_items is)).fault ≡ None
          → ((take_items is (take_frame f e).end).fault ≡ None → WithinWindow (take_frame f e).end.streams → WithinWindow (take_items is (take_frame f e).end).end.streams)
          → WithinWindow (unless_fault o (take_frame f e) (take_items is)).end.streams
      go None there rest later = later rest (taken_few f e there same i)
      go (Some fault) there rest later = cc

  payload_few : (first : ℕ) (is : List (Result FrameValue InvalidFrame)) (e : End) → HasWindow window e.streams → WithinWindow e.streams → (take_payload first is e).fault ≡ None → WithinWindow (take_payload first is e).end.streams
  payload_few first is e same i = go (not (reserved_bits first == 0) || is_empty is)
    where
      go : (b : Bool) → (if b then record { end = e; fault = Some violation } else take_items is e).fault ≡ None → WithinWindow (if b then record { end = e; fault = Some violation } else take_items is e).end.streams
      go true none = cc
      go false none = items_few is e none same i

  -- ---- a datagram

  -- while an end is open, no more wait than its window lets
  abbrev pub WhileOpen : End → Type 0
  WhileOpen e = is_open e.closing.state ≡ true → WithinWindow e.streams

  module _ (e : End) (same : HasWindow window e.streams) (i : WhileOpen e) where
    -- all frames were taken, or one was at fault, and the end isn't open any more
    ends_few : (fault : Option Fault) (asks urged : Bool) (n : ℕ) (mark : Option EcnCodepoint) (x : End) → (fault ≡ None → WithinWindow x.streams) → WhileOpen (ends_as fault asks urged n mark x).end
    ends_few None asks urged n mark x few still = few refl
    ends_few (Some (closed_by_peer close)) asks urged n mark x few still = cc
    ends_few (Some (broke error)) asks urged n mark x few still = cc
    ends_few (Some too_many_pieces) asks urged n mark x few still = cc

    -- a packet whose number is new
    state_few : (state : State) → e.closing.state ≡ state → (o : Opening) (arrival : Arrival) → WhileOpen (by_state state o arrival (with_numbers e (number_opened e.numbers o.number))).end
    state_few states.Open here o arrival =
        let begins = begun e arrival.now o.number in
        let asks = asks_in (items o.payload) in
        let is = items_taken o arrival e in
        let taken = take_payload o.first is begins in
        ends_few taken.fault asks (is_urged arrival.mark asks is begins) o.number arrival.mark taken.end (payload_few o.first is begins same (i (ap is_open here)))
    state_few states.Closing here o arrival = i
    state_few states.Drained here o arrival = i
    state_few states.Failed here o arrival = i

    -- a packet that opened, or didn't
    opened_few : (o : Opening) (arrival : Arrival) → WhileOpen (opened_to o arrival e).end
    opened_few o arrival = go (key_phase o.first) (is_duplicate e.numbers.opened o.number)
      where
        go : (a b : Bool) → WhileOpen (if a then dropped drops.KeyPhase e else (if b then dropped drops.Duplicate e else by_state e.closing.state o arrival (with_numbers e (number_opened e.numbers o.number)))).end
        go true b = i
        go false true = i
        go false false = state_few e.closing.state refl o arrival

    drawn_few : (b : Bool) (p : Policy) (x : End) → WhileOpen x → WhileOpen (drawn_if b p x)
    drawn_few true p x j = j
    drawn_few false p x j = j

    unopened_few : (state : State) (last : Bool) (arrival : Arrival) → WhileOpen (unopened_in state last arrival e).end
    unopened_few states.Open true arrival still = cc
    unopened_few states.Open false arrival still = i still
    unopened_few states.Closing last arrival still = i still
    unopened_few states.Drained last arrival still = i still
    unopened_few states.Failed last arrival still = i still

    packet_few : (o : Option Opening) (p : Policy) (arrival : Arrival) → WhileOpen (opened_as o p arrival e).end
    packet_few None p arrival = unopened_few e.closing.state arrival.last arrival
    packet_few (Some o) p arrival =
        let out = with_ids_drawn p (opened_to o arrival e) in
        let few = drawn_few (is_read (opened_to o arrival e).answer) p (opened_to o arrival e).end (opened_few o arrival) in
        by_migrated_if WhileOpen p o arrival.remote out.end (λ c. few) (λ c most. few) (has_migrated o arrival.remote e out) few

    -- any datagram
    received_few : (p : Policy) (arrival : Arrival) (d : List ℕ) → WhileOpen (received p e arrival d).end
    received_few p arrival d = go e.closing.state
      where
        headed_few : (r : Result (List ℕ) DropReason) → WhileOpen (headed r p e arrival d).end
        headed_few (Err error) = i
        headed_few (Ok id) = packet_few (opening p e d) p arrival

        go : (state : State) → WhileOpen (received_in state p e arrival d).end
        go states.Failed = i
        go states.Drained = i
        go states.Open = headed_few (head e arrival.remote d)
        go states.Closing = headed_few (head e arrival.remote d)

    -- ---- any call

    -- one but a delivery: an end that is open behind it was open before
    apart_few : (p : Policy) (theirs : List (List ℕ)) (call : Call) (a : Answer) → IsAnswer p e theirs call a → is_delivery call ≡ false → WhileOpen (after_call p e theirs call a)
    apart_few p theirs call a is apart still = apart_call (λ f. ⊥) WithinWindow (few_keeps (most_pieces window)) p e theirs (i before) call a is apart
      where
        opened : (state : State) → is_open state ≡ true → state ≡ states.Open
        opened states.Open on = refl
        opened states.Closing on = cc
        opened states.Drained on = cc
        opened states.Failed on = cc

        before : is_open e.closing.state ≡ true
        before = elim (call_closes p e theirs call a apart) [
          | inl k ↦ ap is_open (sym k.state) ∙ still
          | inr shut ↦ absurd (shut.shut (opened (after_call p e theirs call a).closing.state still))
        ]

    pub call_few : (p : Policy) (theirs : List (List ℕ)) (call : Call) (a : Answer) → IsAnswer p e theirs call a → WhileOpen (after_call p e theirs call a)
    call_few p theirs (calls.Deliver delivery) a is = go (slice_get theirs delivery.index)
      where
        go : (o : Option (List ℕ)) → WhileOpen (after_delivered p e (delivered_by (says_last a) delivery) o)
        go None = i
        go (Some d) = received_few p (delivered_by (says_last a) delivery) d
    call_few p theirs call a is = apart_few p theirs call a is refl
