-- A call finds no memory only where it takes some, at each place of an honest run.
use Rattle.std.proofs.Common.{◌≡◌, ℕ, ◌≤◌, max, Bool, true, false, not, List, length, Option, Some, None, Result, Ok, Err, ◌⊎◌, inl, inr, refl, sym, ap, ◌∙◌, subst}
use Rattle.std.specs.Prelude.{if◌then◌else◌, slice_get}
use Rattle.std.specs.Option.{is_some}
use Rattle.std.proofs.lemmas.Bool.{leb-true, both_ways}
use Rattle.quic_wire_core.specs.declared.stream_id.Side.{Side}
use Rattle.quic_wire_core.specs.StreamId.{other_side}
use Rattle.quic_wire_core.specs.declared.shared.EcnCodepoint.{EcnCodepoint}
use Rattle.quic_wire.specs.Items.{items}
use Rattle.quic_packet.specs.Header.{key_phase}
use Rattle.quic_packet.specs.Datagram.{Opening}
use Rattle.quic_messages.specs.declared.errors.SendDatagramError.{SendDatagramError}
use Rattle.quic_messages.specs.declared.errors.SendDatagramError.TheVariants as send_errors
use Rattle.quic_messages.specs.Sending.{send_answer}
use Rattle.quic_send_buffer.specs.Source.{bytes_of}
use Rattle.quic_streams_parts.specs.declared.answers.Written.{Written}
use Rattle.quic_streams_parts.specs.declared.answers.WriteError.{WriteError}
use Rattle.quic_streams_parts.specs.declared.answers.WriteError.TheVariants as write_errors
use Rattle.quic_streams_parts.specs.declared.answers.FinishError.{FinishError}
use Rattle.quic_streams_parts.specs.declared.answers.FinishError.TheVariants as finish_errors
use Rattle.quic_streams_parts.specs.declared.answers.UpdateError.{UpdateError}
use Rattle.quic_streams_parts.specs.declared.answers.UpdateError.TheVariants as update_errors
use Rattle.quic_streams_parts.specs.declared.answers.ReadableError.TheVariants as readable_errors
use Rattle.quic_streams_parts.specs.SendHalf.{SendHalf, is_ready, finish_unless, finish_of}
use Rattle.quic_streams_parts.specs.RecvHalf.{readable}
use Rattle.quic_streams_state.specs.declared.state.StreamsState.{StreamsState}
use Rattle.quic_streams_state.specs.State.{sending_half, receiving_half}
use Rattle.quic_streams_state.specs.Writing.{write_answer, write_chunks_answer, finish_answer, reset_answer, is_reset_at, set_priority_answer, changes_at}
use Rattle.quic_streams_state.specs.Reading.{read_answer, stop_answer, is_closed}
use Rattle.quic_streams_laws.specs.WrittenHalves.{not_reset}
use Rattle.quic_streams_laws.specs.WrittenLaws.{half_holds}
use Rattle.quic_streams_laws.specs.GrowsLaws.{not_over}
use Rattle.quic_time.specs.Timers.{has_come}
use Rattle.quic_time.specs.declared.timer.Timer.TheVariants.{LossDetection}
use Rattle.quic_recovery_core.specs.Duplicates.{is_duplicate}
use Rattle.quic_spaces.specs.Numbers.{expected, number_opened}
use Rattle.quic_machine.specs.Arrival.{Arrival, delivered_by, injected_by}
use Rattle.quic_machine.specs.Closing.{ticked}
use Rattle.quic_machine.specs.declared.answers.Failed.{Failed}
use Rattle.quic_machine.specs.declared.answers.Transmit.{Transmit}
use Rattle.quic_machine.specs.declared.answers.State.{State}
use Rattle.quic_machine.specs.declared.answers.State.TheVariants as states
use Rattle.quic_machine.specs.declared.answers.DropReason.{DropReason}
use Rattle.quic_machine.specs.declared.answers.DropReason.TheVariants as drops
use Rattle.quic_machine.specs.declared.answers.Received.{Received}
use Rattle.quic_machine.specs.declared.answers.Received.TheVariants as receives
use Rattle.quic_machine.specs.declared.run.Delivery.{Delivery}
use Rattle.quic_machine.specs.declared.run.Injection.{Injection}
use Rattle.quic_machine.specs.declared.run.Call.{Call}
use Rattle.quic_machine.specs.declared.run.Call.TheVariants as calls
use Rattle.quic_machine.specs.declared.run.Answer.{Answer}
use Rattle.quic_machine.specs.declared.run.Answer.TheVariants as answers
use Rattle.quic_machine.specs.declared.run.EndView.{EndView}
use Rattle.quic_machine.specs.Calls.{is_open}
use Rattle.quic_machine.specs.Policy.{Policy}
use Rattle.quic_machine.specs.End.{End, with_closing, with_numbers}
use Rattle.quic_machine.specs.MessageCalls.{limits_of}
use Rattle.quic_machine.specs.Opens.{head, in_phase, opens_behind, would_open}
use Rattle.quic_machine.specs.Receive.{Fault, broke, too_many_pieces, closed_by_peer, take_payload, asks_in, is_urged, items_taken, ends_as, dropped, by_state, unopened_in, opened_as, opening, headed, received_in, received}
use Rattle.quic_machine.specs.Poll.{polled, polled_in}
use Rattle.quic_machine.specs.Timeouts.{timed_out}
use Rattle.quic_machine.specs.Lacking.{TakesFrames, GivesOrHasFailed, PollTakes, DeliveryTakes, LacksWhere}
use Rattle.quic_machine.specs.Machine.{World, IsAnswer, IsDelivered, injected_if, says_last, control_at, heard_at, reads_window}
use Rattle.quic_headline.specs.Runs.{Run, Packet, came_open, opens_by_key, expected_behind, until, state_at, AreServed}
use Rattle.quic_headline.specs.Observer.{Watch, watch}
use Rattle.quic_headline.specs.Headline.{IsHonest, IsRun, IsAt}
use Rattle.quic_headline.specs.Views.{place}
use Rattle.quic_headline.specs.Allowed.{IsReadOff, only_sends, only_receives}
use Rattle.quic_headline.specs.Memory.{lacks}
use Rattle.quic_headline.specs.Lacking.{WriteTakes, TakesMemory, LacksWhereTaken}
use Rattle.quic_headline.proofs.Packets.ByKey.{opens_from, came_open_is}
use Rattle.quic_headline.proofs.Packets.Growth.{get_front}
use Rattle.quic_headline.proofs.Packets.Invariant.{Knows, KnowsIn}
use Rattle.quic_headline.proofs.Packets.Window.{is_duplicate-is}
use Rattle.quic_headline.proofs.Places.Moments.{last_seen}
use Rattle.quic_headline.proofs.Places.Parties.{Party, came_to}
use Rattle.quic_headline.proofs.Places.Placed.{Placed, placed, placed_less, party_at, answered, watch_is}
use Rattle.quic_headline.proofs.Places.Lacking.{lacking_at}
use Rattle.quic_headline.proofs.Halves.Wrote.{wrote}
use Rattle.quic_headline.proofs.Halves.Writer.{WritesHold, grows_behind}
use Rattle.quic_headline.proofs.Places.Groups.{Way, Nothing, And, Group, both, beside}
use Rattle.quic_headline.proofs.Halves.Ghosts.{IsWriting}
use Rattle.quic_headline.proofs.Amounts.Accepts.{joined_length}
use Rattle.quic_headline.proofs.Amounts.Clause.{Whole}
use Rattle.quic_headline.proofs.Amounts.PeerLimits.{All, all}
use Rattle.quic_headline.proofs.Packets.Group.{PacketsHold}
use Rattle.quic_headline.proofs.Unread.OpeningRead.{Heard as Reads, heard_group}
use Rattle.quic_headline.proofs.Allowed.Over.{Halted, halted_group, off_closed, sends_closed, ok_shut, closed_unreadable}
use Rattle.quic_headline.proofs.Allowed.Blocked.{opened_state, sends_there, write_takes}
use Rattle.quic_headline.proofs.Causes.Unfailed.{never_fails}
use Rattle.quic_headline.proofs.Messages.Let.{sends_are_let}

-- ---- all that holds

abbrev Known : Way
Known = And All (And Reads Halted)

is_writing : IsWriting (And Nothing All)
is_writing = record {
  packets = λ x y h. h.1.0.0.0.0.0;
  written = λ x y h. h.1.0.0.0.0.1.0.writes.keeps.holds;
  says = λ x y h. h.1.0.0.0.0.1.0.says;
  grows = λ x y call a c. grows_behind (And Nothing All) (λ x y h. h.1.0.0.0.0.0) x y call a c c.gives.1.0.0.0.0.1.0;
}

known : Group Nothing Known
known = both Nothing All (And Reads Halted) all (beside (And Nothing All) Reads Halted (heard_group (And Nothing All) is_writing) (halted_group (And Nothing All) is_writing))

-- ---- halves

-- the half of a stream that may be finished
finish_ready : (o : Option SendHalf) → finish_of o ≡ Ok tt → (h : SendHalf) × (o ≡ Some h) × (is_ready h ≡ true)
finish_ready None is = cc
finish_ready (Some h) is = (h, refl, go h.stopped (is_ready h) refl is)
  where
    by_ready : (b : Bool) → ◌≡◌ {A = Result (Unit {0}) FinishError} (if b then Ok tt else Err finish_errors.ClosedStream) (Ok tt) → b ≡ true
    by_ready true e = refl
    by_ready false e = cc

    go : (o : Option ℕ) (b : Bool) → is_ready h ≡ b → finish_unless o h ≡ Ok tt → b ≡ true
    go (Some code) b same e = cc
    go None b same e = sym same ∙ by_ready (is_ready h) e

-- that of one that may be reset
reset_free : (o : Option SendHalf) → ◌≡◌ {A = Result (Unit {0}) UpdateError} (if is_reset_at o then Err update_errors.ClosedStream else Ok tt) (Ok tt) → (h : SendHalf) × (o ≡ Some h) × (h.reset ≡ None)
reset_free None is = cc
reset_free (Some h) is = (h, refl, go h.reset is)
  where
    go : (o : Option ℕ) → ◌≡◌ {A = Result (Unit {0}) UpdateError} (if is_some o then Err update_errors.ClosedStream else Ok tt) (Ok tt) → o ≡ None
    go None e = refl
    go (Some code) e = cc

-- that of one that may be changed
changed_half : (o : Option SendHalf) → changes_at o ≡ Ok tt → (h : SendHalf) × (o ≡ Some h)
changed_half None is = cc
changed_half (Some h) is = (h, refl)

-- ---- messages

-- none is taken but by an open end
lets_open : (opened : Bool) (said : Result (Unit {0}) SendDatagramError) → ◌≡◌ {A = Result (Unit {0}) SendDatagramError} (if not opened then Err send_errors.Blocked else said) (Ok tt) → opened ≡ true
lets_open true said is = refl
lets_open false said is = cc

-- ---- what comes

-- it opens to a number that is no duplicate
record OpensAt (e : End) (o : Option Opening) : Type 0 where
  opening : Opening
  is : o ≡ Some opening
  new : is_duplicate e.numbers.opened opening.number ≡ false

module _ (p : Policy) (e : End) (arrival : Arrival) (early : arrival.last ≡ false) where
  unopened_takes : (s : State) → TakesFrames (unopened_in s arrival.last arrival e).answer → ⊥
  unopened_takes s takes = go s (subst (λ (b : Bool). TakesFrames (unopened_in s b arrival e).answer) early takes)
    where
      go : (s : State) → TakesFrames (unopened_in s false arrival e).answer → ⊥
      go states.Open takes = takes
      go states.Closing takes = takes
      go states.Drained takes = takes
      go states.Failed takes = takes

  state_takes : (s : State) (o : Opening) (x : End) → TakesFrames (by_state s o arrival x).answer → s ≡ states.Open
  state_takes states.Open o x takes = refl
  state_takes states.Closing o x takes = absurd takes
  state_takes states.Drained o x takes = absurd takes
  state_takes states.Failed o x takes = absurd takes

  tests_take : (o : Opening) (phase again : Bool) → is_duplicate e.numbers.opened o.number ≡ again
      → TakesFrames (if phase then dropped drops.KeyPhase e else (if again then dropped drops.Duplicate e else by_state e.closing.state o arrival (with_numbers e (number_opened e.numbers o.number)))).answer
      → (e.closing.state ≡ states.Open) × OpensAt e (if phase then None else Some o)
  tests_take o true again tells takes = absurd takes
  tests_take o false true tells takes = absurd takes
  tests_take o false false tells takes = (state_takes e.closing.state o (with_numbers e (number_opened e.numbers o.number)) takes, record { opening = o; is = refl; new = tells })

  headed_takes : (r : Result (List ℕ) DropReason) (d : List ℕ) → TakesFrames (headed r p e arrival d).answer → (e.closing.state ≡ states.Open) × OpensAt e (opens_behind r p (expected e.numbers) d)
  headed_takes (Err error) d takes = absurd takes
  headed_takes (Ok id) d takes = go (opening p e d) takes
    where
      go : (o : Option Opening) → TakesFrames (opened_as o p arrival e).answer → (e.closing.state ≡ states.Open) × OpensAt e (in_phase o)
      go None takes = absurd (unopened_takes e.closing.state takes)
      go (Some o) takes = tests_take o (key_phase o.first) (is_duplicate e.numbers.opened o.number) refl takes

  -- what is taken, or refused, opens at an open end, and is new
  received_takes : (s : State) (d : List ℕ) → TakesFrames (received_in s p e arrival d).answer → (e.closing.state ≡ states.Open) × OpensAt e (opens_from p e arrival.remote (expected e.numbers) d)
  received_takes states.Open d takes = headed_takes (head e arrival.remote d) d takes
  received_takes states.Closing d takes = headed_takes (head e arrival.remote d) d takes
  received_takes states.Drained d takes = absurd takes
  received_takes states.Failed d takes = absurd takes

-- whether it is answered that the end failed
abbrev is_failed : Received → Bool
is_failed receives.Failed = true
is_failed answer = false

module _ (p : Policy) (e : End) (arrival : Arrival) where
  ends_say : (fault : Option Fault) (asks urged : Bool) (n : ℕ) (mark : Option EcnCodepoint) (x : End) → is_failed (ends_as fault asks urged n mark x).answer ≡ false
  ends_say None asks urged n mark x = refl
  ends_say (Some (broke error)) asks urged n mark x = refl
  ends_say (Some too_many_pieces) asks urged n mark x = refl
  ends_say (Some (closed_by_peer close)) asks urged n mark x = refl

  state_says : (s : State) (o : Opening) (x : End) → is_failed (by_state s o arrival x).answer ≡ false
  state_says states.Open o x =
      let now = with_closing x (ticked x.closing arrival.now) in
      let progress = take_payload o.first (items_taken o arrival x) now in
      let asking = asks_in (items o.payload) in
      ends_say progress.fault asking (is_urged arrival.mark asking (items_taken o arrival x) now) o.number arrival.mark progress.end
  state_says states.Closing o x = refl
  state_says states.Drained o x = refl
  state_says states.Failed o x = refl

  tests_say : (o : Opening) (phase again : Bool) → is_failed (if phase then dropped drops.KeyPhase e else (if again then dropped drops.Duplicate e else by_state e.closing.state o arrival (with_numbers e (number_opened e.numbers o.number)))).answer ≡ false
  tests_say o true again = refl
  tests_say o false true = refl
  tests_say o false false = state_says e.closing.state o (with_numbers e (number_opened e.numbers o.number))

  unopened_says : (s : State) (last : Bool) → is_failed (unopened_in s last arrival e).answer ≡ false
  unopened_says states.Open true = refl
  unopened_says states.Open false = refl
  unopened_says states.Closing last = refl
  unopened_says states.Drained last = refl
  unopened_says states.Failed last = refl

  headed_says : (r : Result (List ℕ) DropReason) (d : List ℕ) → is_failed (headed r p e arrival d).answer ≡ false
  headed_says (Err error) d = refl
  headed_says (Ok id) d = go (opening p e d)
    where
      go : (o : Option Opening) → is_failed (opened_as o p arrival e).answer ≡ false
      go None = unopened_says e.closing.state arrival.last
      go (Some o) = tests_say o (key_phase o.first) (is_duplicate e.numbers.opened o.number)

  -- what comes is never answered so by itself
  received_says : (s : State) (d : List ℕ) → is_failed (received_in s p e arrival d).answer ≡ false
  received_says states.Open d = headed_says (head e arrival.remote d) d
  received_says states.Closing d = headed_says (head e arrival.remote d) d
  received_says states.Drained d = refl
  received_says states.Failed d = refl

-- nor is an injection
injected_says : (a : Received) → is_failed a ≡ false → lacks (answers.Inject a) ≡ false
injected_says receives.Failed none = cc
injected_says receives.Taken none = refl
injected_says (receives.Closed error) none = refl
injected_says (receives.Dropped reason) none = refl

-- where frames of it are read it came to an own id, from where the end takes something
takes_here : (p : Policy) (x : Received) (packets : List Packet) (d : List ℕ) → TakesFrames x → came_open p packets (answers.Deliver x) d ≡ opens_by_key p (expected_behind packets) d
takes_here p receives.Taken packets d takes = refl
takes_here p (receives.Closed error) packets d takes = refl
takes_here p (receives.Dropped reason) packets d takes = absurd takes
takes_here p receives.Failed packets d takes = absurd takes

-- ---- at a place

come_moment : (o : Option ℕ) (now : ℕ) → has_come o now ≡ true → (moment : ℕ) × (o ≡ Some moment) × (moment ≤ now)
come_moment None now is = cc
come_moment (Some moment) now is = (moment, refl, leb-true moment now is)

module _ (r : Run) (end : World) (honest : IsHonest r) (run : IsRun r end) (side : Side) (i : ℕ) (served : AreServed r i) where
  at_place : Placed Known r end side i
  at_place = placed Known known r end honest run side i served

  abbrev w : World
  w = at_place.world

  abbrev x : Party
  x = party_at r i w side at_place.sents

  abbrev y : Party
  y = party_at r i w (other_side side) at_place.theirs

  abbrev s : StreamsState
  s = x.end.streams

  abbrev met : Call → End
  met call = reads_window (control_at side w) (heard_at side w) call x.end

  -- the call lacks memory, and may
  record Lacks (call : Call) (a : Answer) : Type 0 where
    says : lacks a ≡ true
    may : LacksWhere x.policy (met call) y.given call a
    at : IsAt r i side call a

  -- one of two answers
  by_either : (G : Type 0) (call : Call) (a b c : Answer) → Lacks call a → (a ≡ b) ⊎ (a ≡ c) → (Lacks call b → G) → (Lacks call c → G) → G
  by_either G call a b c l (inl is) first second = first (subst (λ (z : Answer). Lacks call z) is l)
  by_either G call a b c l (inr is) first second = second (subst (λ (z : Answer). Lacks call z) is l)

  -- an answer that never says so
  never : (a b : Answer) → lacks b ≡ false → lacks a ≡ true → a ≡ b → ⊥
  never a b none says is = let clash : ◌≡◌ {A = Bool} true false = sym says ∙ ap lacks is ∙ none in cc

  abbrev at_whole : Placed Whole r end side i
  at_whole = placed_less Known Whole r end side i (λ x y h. h.0.0) at_place

  holds : WritesHold x y
  holds = at_place.gives.0.0.0.0.0.1.0

  packets : PacketsHold x y
  packets = at_place.gives.0.0.0.0.0.0

  -- an end doesn't only receive on a stream that has a sending half
  sends : (id : ℕ) (h : SendHalf) → sending_half s id ≡ Some h → only_receives side id ≡ false
  sends id h there = ap not (sends_there r end side i at_whole id h there)

  still_open : x.end.closing.state ≡ states.Open → state_at r side i ≡ states.Open
  still_open is = sym at_place.state ∙ is

  open_there : is_open x.end.closing.state ≡ true → state_at r side i ≡ states.Open
  open_there is = still_open (opened_state x.end.closing.state is)

  on_write : (id : ℕ) (bytes : List ℕ) (o : Result ℕ WriteError) → Lacks (calls.Write id bytes) (answers.Write o) → TakesMemory r side i (calls.Write id bytes)
  on_write id bytes (Err write_errors.Memory) l = write_takes r end side i at_whole honest id (length bytes) (l.may refl)
  on_write id bytes o l = let clash = l.says in cc

  on_chunks : (id : ℕ) (chunks : _) (o : Result Written WriteError) → Lacks (calls.WriteChunks id chunks) (answers.WriteChunks o) → TakesMemory r side i (calls.WriteChunks id chunks)
  on_chunks id chunks (Err write_errors.Memory) l = subst (WriteTakes r side i id) (sym (joined_length chunks.items)) (write_takes r end side i at_whole honest id (bytes_of chunks.items) (l.may refl))
  on_chunks id chunks o l = let clash = l.says in cc

  on_finish : (id : ℕ) (o : Result (Unit {0}) FinishError) → Lacks (calls.Finish id) (answers.Finish o) → TakesMemory r side i (calls.Finish id)
  on_finish id (Err finish_errors.Memory) l =
      let found = finish_ready (sending_half s id) (l.may refl) in
      (not_over (wrote x.told id) found.0 (half_holds (wrote x.told) s holds.writes.keeps.holds id found.0 found.1) found.2, sends id found.0 found.1)
  on_finish id o l = let clash = l.says in cc

  on_reset : (id code : ℕ) (o : Result (Unit {0}) UpdateError) → Lacks (calls.Reset id code) (answers.Reset o) → TakesMemory r side i (calls.Reset id code)
  on_reset id code (Err update_errors.Memory) l =
      let found = reset_free (sending_half s id) (l.may refl) in
      (not_reset (wrote x.told id) found.0 (half_holds (wrote x.told) s holds.writes.keeps.holds id found.0 found.1) found.2, sends id found.0 found.1)
  on_reset id code o l = let clash = l.says in cc

  on_priority : (id : ℕ) (priority : _) (o : Result (Unit {0}) UpdateError) → Lacks (calls.SetPriority id priority) (answers.SetPriority o) → TakesMemory r side i (calls.SetPriority id priority)
  on_priority id priority (Err update_errors.Memory) l =
      let found = changed_half (sending_half s id) (l.may refl) in
      sends id found.0 found.1
  on_priority id priority o l = let clash = l.says in cc

  -- something is to be read of a stream, and the end doesn't only send on it
  abbrev MayRead : ℕ → Type 0
  MayRead id = (IsReadOff (until r side i) id → ⊥) × (only_sends side id ≡ false)

  unclosed : (id : ℕ) → is_closed s id ≡ false → MayRead id
  unclosed id free = (λ off. both_ways (is_closed s id) free (off_closed x y id at_place.gives.1 off), go (only_sends side id) refl)
    where
      go : (only : Bool) → only_sends side id ≡ only → only ≡ false
      go false same = refl
      go true same = absurd (both_ways (is_closed s id) free (sends_closed s id holds.writes.keeps.holds.shape (ap (λ (d : Side). only_sends d id) at_place.gives.0.0.1.1.side ∙ same)))

  on_stop : (id code : ℕ) (o : Result (Unit {0}) UpdateError) → Lacks (calls.Stop id code) (answers.Stop o) → TakesMemory r side i (calls.Stop id code)
  on_stop id code (Err update_errors.Memory) l = unclosed id (l.may refl)
  on_stop id code o l = let clash = l.says in cc

  -- a read is begun only there
  begun_read : (id : ℕ) (ordered : Bool) → read_answer s id ordered ≡ Ok tt → MayRead id
  begun_read id ordered is = unclosed id (go (is_closed s id) refl)
    where
      go : (closed : Bool) → is_closed s id ≡ closed → closed ≡ false
      go false same = refl
      go true same = absurd (ok_shut (readable (receiving_half s id) ordered) (closed_unreadable (receiving_half s id) ordered same) is)

  on_send : (message : List ℕ) (makes_room : Bool) (o : Result (Unit {0}) SendDatagramError) → Lacks (calls.Send message makes_room) (answers.Send o) → TakesMemory r side i (calls.Send message makes_room)
  on_send message makes_room (Err send_errors.Memory) l = (opened, (sends_are_let r end honest run).refused side i message makes_room send_errors.Memory served opened l.at)
    where
      opened : state_at r side i ≡ states.Open
      opened = open_there (lets_open (is_open x.end.closing.state) _ (l.may refl))
  on_send message makes_room o l = let clash = l.says in cc

  on_poll : (now : ℕ) (o : Result (Option Transmit) Failed) → Lacks (calls.Poll now) (answers.Poll o) → TakesMemory r side i (calls.Poll now)
  on_poll now (Ok given) l drained = let clash = l.says in cc
  on_poll now (Err failed) l drained = go l.may
    where
      drained_there : (met (calls.Poll now)).closing.state ≡ states.Drained
      drained_there = at_place.state ∙ drained

      go : PollTakes x.policy (met (calls.Poll now)) now → ⊥
      go (inl gives) = subst (λ (st : State). GivesOrHasFailed (polled_in st x.policy (met (calls.Poll now)) now).answer) drained_there gives
      go (inr moves) = let clash : states.Drained ≡ states.Open = sym drained_there ∙ moves.0 in cc

  -- the observer of an open end knows its clock
  clock : x.end.closing.state ≡ states.Open → (watch r side i).clock ≡ x.end.closing.clock
  clock opened = ap (λ (u : Watch). u.clock) (watch_is r honest w i side at_place.sents at_place.theirs) ∙ (at_place.gives.0.0.0.0.1.watched.flight opened).tells.clock

  on_timeout : (now : ℕ) (o : Result (Unit {0}) Failed) → Lacks (calls.Timeout now) (answers.Timeout o) → TakesMemory r side i (calls.Timeout now)
  on_timeout now (Ok done) l = let clash = l.says in cc
  on_timeout now (Err failed) l = elim l.may [
    | inl loses ↦ (
      still_open loses.0,
      (let come = come_moment x.end.timers.loss_detection (max x.end.closing.clock now) loses.1 in record {
        moment = come.0;
        set = ap (λ (v : EndView). slice_get v.timers (place LossDetection)) (last_seen side r.keys i r.start w r.events r.answers r.views at_place.leads) ∙ ap Some come.1;
        come = subst (λ (n : ℕ). come.0 ≤ max n now) (sym (clock loses.0)) come.2;
      }),
    )
    | inr has_failed ↦ absurd (never_fails r end honest run side i served (sym at_place.state ∙ has_failed))
  ]

  module _ (delivery : Delivery) where
    -- the datagram stands in all that y gives
    stands : (d : List ℕ) → slice_get y.given delivery.index ≡ Some d → slice_get y.final delivery.index ≡ Some d
    stands d there = let more = at_place.joined.y_more in subst (λ (ds : List (List ℕ)). slice_get ds delivery.index ≡ Some d) more.1 (get_front y.given more.0 delivery.index d there)

    knows : KnowsIn x.end.closing.state x.end.numbers (came_to x y)
    knows = at_place.takes.0.0.0.0.0.0.knows

    taken_new : (o : Option (List ℕ)) → slice_get y.given delivery.index ≡ o → DeliveryTakes x.policy x.end delivery o → TakesMemory r side i (calls.Deliver delivery)
    taken_new None there takes = absurd takes
    taken_new (Some d) there takes =
        let arrival = delivered_by false delivery in
        let opens = received_takes x.policy x.end arrival refl x.end.closing.state d takes in
        let known : Knows x.end.numbers (came_to x y) = subst (λ (st : State). KnowsIn st x.end.numbers (came_to x y)) opens.0 knows in
        let open_takes = subst (λ (st : State). TakesFrames (received_in st x.policy x.end arrival d).answer) opens.0 takes in (
          still_open opens.0,
          record {
            datagram = d;
            there = stands d there;
            opening = opens.1.opening;
            opened =
                sym (takes_here x.policy (headed (head x.end arrival.remote d) x.policy x.end arrival d).answer (came_to x y).took d open_takes)
                ∙ came_open_is x.policy x.end arrival d (came_to x y).took known.expected
                ∙ opens.1.is;
            new = sym (is_duplicate-is (came_to x y).opened x.end.numbers.opened opens.1.opening.number known.seen) ∙ opens.1.new;
          },
        )

    on_received : (a : Received) → Lacks (calls.Deliver delivery) (answers.Deliver a) → TakesMemory r side i (calls.Deliver delivery)
    on_received receives.Failed l = taken_new (slice_get y.given delivery.index) refl l.may
    on_received a l = let clash = l.says in cc

    on_delivered : (o : Option (List ℕ)) (a : Answer) → IsDelivered x.policy x.end delivery o a → Lacks (calls.Deliver delivery) a → TakesMemory r side i (calls.Deliver delivery)
    on_delivered None a is l = absurd (never a answers.NoDatagram refl l.says is)
    on_delivered (Some d) a is l = by_either (TakesMemory r side i (calls.Deliver delivery)) (calls.Deliver delivery) a _ _ l is (λ m. on_received (received x.policy x.end (delivered_by (says_last a) delivery) d).answer m) (λ m. on_received receives.Failed m)

  not_injected : (injection : Injection) (opens : Bool) (a : Answer) → a ≡ injected_if opens (says_last a) x.policy x.end injection → lacks a ≡ true → ⊥
  not_injected injection true a is says = never a answers.Opens refl says is
  not_injected injection false a is says =
      let arrival = injected_by (says_last a) injection in
      never a _ (injected_says _ (received_says x.policy x.end arrival x.end.closing.state injection.bytes)) says is

  by_call : (call : Call) (a : Answer) → IsAnswer x.policy (met call) y.given call a → Lacks call a → TakesMemory r side i call
  by_call (calls.Open dir) a is l = never a _ refl l.says is
  by_call (calls.Accept dir) a is l = never a _ refl l.says is
  by_call (calls.Write id bytes) a is l = by_either _ (calls.Write id bytes) a _ _ l is (λ m. on_write id bytes (write_answer (is_open x.end.closing.state) s id (length bytes)) m) (λ m. on_write id bytes (Err write_errors.Memory) m)
  by_call (calls.WriteChunks id chunks) a is l = by_either _ (calls.WriteChunks id chunks) a _ _ l is (λ m. on_chunks id chunks (write_chunks_answer (is_open x.end.closing.state) s id chunks.items) m) (λ m. on_chunks id chunks (Err write_errors.Memory) m)
  by_call (calls.Finish id) a is l = by_either _ (calls.Finish id) a _ _ l is (λ m. on_finish id (finish_answer s id) m) (λ m. on_finish id (Err finish_errors.Memory) m)
  by_call (calls.Reset id code) a is l = by_either _ (calls.Reset id code) a _ _ l is (λ m. on_reset id code (reset_answer s id) m) (λ m. on_reset id code (Err update_errors.Memory) m)
  by_call (calls.SetPriority id priority) a is l = by_either _ (calls.SetPriority id priority) a _ _ l is (λ m. on_priority id priority (set_priority_answer s id) m) (λ m. on_priority id priority (Err update_errors.Memory) m)
  by_call (calls.Stop id code) a is l = by_either _ (calls.Stop id code) a _ _ l is (λ m. on_stop id code (stop_answer s id) m) (λ m. on_stop id code (Err update_errors.Memory) m)
  by_call (calls.ReceivedReset id) a is l = never a _ refl l.says is
  by_call (calls.Read read) (answers.Read (Ok nexts)) is l = begun_read read.id read.ordered is.0
  by_call (calls.Read read) (answers.Read (Err readable_errors.Memory)) is l = begun_read read.id read.ordered (l.may refl).0
  by_call (calls.Read read) (answers.Read (Err error)) is l = let clash = l.says in cc
  by_call (calls.Read read) a is l = absurd is
  by_call (calls.Send message makes_room) a is l = by_either _ (calls.Send message makes_room) a _ _ l is (λ m. on_send message makes_room (send_answer (limits_of x.end) makes_room message x.end.messages.queues) m) (λ m. on_send message makes_room (Err send_errors.Memory) m)
  by_call calls.Recv a is l = never a _ refl l.says is
  by_call calls.Ping a is l = never a _ refl l.says is
  by_call (calls.Close close) a is l = never a _ refl l.says is
  by_call calls.UseNextId a is l = tt
  by_call calls.HandshakeDone a is l = never a _ refl l.says is
  by_call (calls.Poll now) a is l = by_either _ (calls.Poll now) a _ _ l is (λ m. on_poll now (polled x.policy (met (calls.Poll now)) now).answer m) (λ m. on_poll now (Err (record {})) m)
  by_call (calls.Timeout now) a is l = by_either _ (calls.Timeout now) a _ _ l is (λ m. on_timeout now (timed_out x.policy x.end now).answer m) (λ m. on_timeout now (Err (record {})) m)
  by_call (calls.Deliver delivery) a is l = on_delivered delivery (slice_get y.given delivery.index) a is l
  by_call (calls.Inject injection) a is l = not_injected injection (would_open x.policy x.end injection.remote injection.bytes) a is l.says
  by_call calls.Event a is l = never a _ refl l.says is
  by_call (calls.Timer timer) a is l = never a _ refl l.says is
  by_call calls.NextTimeout a is l = never a _ refl l.says is
  by_call calls.State a is l = never a _ refl l.says is

-- the clause
pub lacks_where_taken : (r : Run) (end : World) → IsHonest r → IsRun r end → LacksWhereTaken r
lacks_where_taken r end honest run side i call a served at says =
    let p = at_place r end honest run side i served in
    by_call r end honest run side i served call a (answered r p.world end i side call a p.goes_on at) (record { says = says; may = lacking_at r p.world end i side call a p.goes_on at; at = at })
