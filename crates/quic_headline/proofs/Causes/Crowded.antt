-- Where a frame comes to too many pieces, more maximal runs of offsets of its stream arrived and
-- weren't read than may wait.
use Rattle.std.proofs.Common.{◌≡◌, ℕ, ◌<◌, ◌≤◌, ◌^◌, Bool, true, false, not, nat_lt, nat_le, List, [], ◌∷◌, ◌++◌, map, Option, Some, None, Ok, refl, sym, ap, ◌∙◌, subst, ◌⊎◌, inl, inr, arith}
use Rattle.std.specs.Prelude.{◌&&◌, ◌||◌, if◌then◌else◌, Result, Err}
use Rattle.std.specs.Option.{is_some}
use Rattle.std.specs.declared.ops.Range.{Range}
use Rattle.std.proofs.lemmas.Bool.{ltb-true, le-ltb, both_ways}
use Rattle.quic_wire_core.specs.declared.stream_id.Side.{Side}
use Rattle.quic_wire_core.specs.declared.stream_id.Side.TheVariants.{Client, Server}
use Rattle.quic_wire_core.specs.StreamId.{dir_of, index_of}
use Rattle.quic_wire_core.specs.TransportError.{ErrorValue}
use Rattle.quic_wire.specs.Value.{FrameValue, AckValue, StreamValue, NewConnectionIdValue, padding, ack, stream, reset_stream, new_token, handshake_done, datagram, connection_close, application_close, path_challenge, path_response, new_connection_id, retire_connection_id, AckFrequencyValue, ack_frequency}
use Rattle.quic_assembler.specs.Arrived.{is_given, waits, runs_of}
use Rattle.quic_assembler.proofs.Arrived.Lawful.{given_waits_not}
use Rattle.quic_streams_parts.specs.declared.answers.Breach.{Breach}
use Rattle.quic_streams_parts.specs.declared.answers.Breach.TheVariants.{FlowControl, StreamLimit, StreamState, FinalSize, FrameEncoding, Pieces}
use Rattle.quic_streams_parts.specs.Dirs.{is_own, is_two_way}
use Rattle.quic_streams_parts.specs.RecvHalf.{RecvHalf, end_of, breaks_final, after_frame, most_pieces, has_too_many}
use Rattle.quic_ids.specs.CidState.{retirement_answer}
use Rattle.quic_ids.specs.CidQueue.{insert_answer}
use Rattle.quic_ids.specs.declared.cid_queue.InsertError.{InsertError}
use Rattle.quic_ids.specs.declared.cid_queue.InsertError.TheVariants as inserts
use Rattle.quic_retransmits.specs.Retransmits.{Retransmits, can_retire}
use Rattle.quic_streams_state.specs.declared.state.StreamsState.{StreamsState}
use Rattle.quic_streams_state.specs.declared.taking.IdRule.{IdRule}
use Rattle.quic_streams_state.specs.declared.taking.IdRule.TheVariants.{Free, ReceivingOf, SendingOf, NotOfOwn, Counting}
use Rattle.quic_streams_state.specs.State.{Receiving, is_opened, receiving_half, with_recv}
use Rattle.quic_streams_state.specs.Limits.{raised_count, most_streams}
use Rattle.quic_streams_state.specs.Opening.{beyond, opens, opened_by, receiving_refusal, sending_refusal}
use Rattle.quic_streams_state.specs.Taking.{part_for, breaks_limit, breach_at, breach_behind, refusal, readable_if, ended_if, renewed, too_many_at, breach_kept, stream_breach, after_stream, reset_breach, id_rule, broken}
use Rattle.quic_streams_laws.specs.KeepingLaws.{Unbroken, stream_cases, by_opened, live_receives, at-half}
use Rattle.quic_streams_laws.specs.QuietLaws.{is_quiet}
use Rattle.quic_streams_laws.specs.StatusLaws.{at_half_of}
use Rattle.quic_streams_laws.specs.Written.{Wrote}
use Rattle.quic_streams_laws.specs.Reads.{IsRecvHalf}
use Rattle.quic_streams_laws.specs.Content.{HoldsRead}
use Rattle.quic_streams_laws.specs.ContentLaws.{read_at, read_stream}
use Rattle.quic_streams_laws.specs.Kept.{IsKeptHalf, IsKeptStatus, HoldsTaken, TakesMore}
use Rattle.quic_streams_laws.specs.TakenLaws.{goes_on_kept, taken_stream}
use Rattle.quic_machine.specs.End.{End, side_of}
use Rattle.quic_machine.specs.Ids.{frame_of, retires_for}
use Rattle.quic_recovery_core.specs.AckFrequency.{is_stale}
use Rattle.quic_machine.specs.Migration.{as_elsewhere}
use Rattle.quic_machine.specs.Receive.{Fault, too_many_pieces, fault_of, fault_at, names_ungiven, Progress, message_judged, done_taken, retired_for, id_judged, retirement_judged, take_frame, unless_fault, take_items, asks_too_soon, frequency_judged}
use Rattle.quic_machine.specs.FrameCases.{passed, ack_taken, frames_leave}
use Rattle.quic_messages.specs.Messages.{received_answer}
use Rattle.quic_messages.specs.declared.errors.ReceivedError.{ReceivedError}
use Rattle.quic_headline.specs.Runs.{Told, Packet, In, reads, offsets_of, WasTaken, HasArrived}
use Rattle.quic_headline.specs.Causes.{HasMoreRuns, IsUnread, most_runs}
use Rattle.quic_headline.proofs.Packets.Delivered.{frames_at}
use Rattle.quic_headline.proofs.Packets.Elsewhere.{taken_as}
use Rattle.quic_headline.proofs.Packets.Strays.{in_at, of_at}
use Rattle.quic_headline.proofs.Places.Told.{in_left, in_append, in_last}
use Rattle.quic_headline.proofs.Places.Order.{given_in, in_given}
use Rattle.quic_headline.proofs.Halves.Ghosts.{read, SaysOf}
use Rattle.quic_headline.proofs.Halves.QuietSteps.{frame_quiet}
use Rattle.quic_headline.proofs.Halves.Bringing.{frames_read, Brought, frames_bring}
use Rattle.quic_headline.proofs.Halves.ReadGroup.{WasIn}
use Rattle.quic_headline.proofs.Causes.Come.{IsIdle, IsComeHalf, HasCome, come_frame, come_kept, come_at, come_wider, come_stream, come_reset_frame}
use Rattle.quic_headline.proofs.Causes.Runs.{more_runs}
use Rattle.quic_headline.proofs.Causes.Window.{HasWindow, frames_window}

-- ---- the rule of pieces is broken by STREAM frames alone

-- no rule of ids is that of pieces
way_apart : (own opened past : Bool) → (if own then (if opened then None else Some StreamState) else (if past then Some StreamLimit else None)) ≡ Some Pieces → ⊥
way_apart true true past is = cc
way_apart true false past is = cc
way_apart false opened true is = cc
way_apart false opened false is = cc

beyond_apart : (s : StreamsState) (id : ℕ) → beyond s id ≡ Some Pieces → ⊥
beyond_apart s id is = way_apart (is_own s.side id) (is_opened s id) (nat_le (raised_count (dir_of id) s.opening) (index_of id)) is

refused_apart : (s : StreamsState) (id : ℕ) (b : Bool) → (if b then Some StreamState else beyond s id) ≡ Some Pieces → ⊥
refused_apart s id true is = cc
refused_apart s id false is = beyond_apart s id is

receiving_apart : (s : StreamsState) (id : ℕ) → receiving_refusal s id ≡ Some Pieces → ⊥
receiving_apart s id is = refused_apart s id (is_own s.side id && not (is_two_way (dir_of id))) is

sending_apart : (s : StreamsState) (id : ℕ) → sending_refusal s id ≡ Some Pieces → ⊥
sending_apart s id is = refused_apart s id (not (is_own s.side id) && not (is_two_way (dir_of id))) is

-- nor is one of sizes and limits
sizes_apart : (far breaks limit : Bool) → (if far then Some FlowControl else (if breaks then Some FinalSize else (if limit then Some FlowControl else None))) ≡ Some Pieces → ⊥
sizes_apart true breaks limit is = cc
sizes_apart false true limit is = cc
sizes_apart false false true is = cc
sizes_apart false false false is = cc

part_apart : (o : Option RecvHalf) (r : Receiving) (end : ℕ) (fin : Bool) → breach_at o r end fin ≡ Some Pieces → ⊥
part_apart None r end fin is = cc
part_apart (Some h) r end fin is = sizes_apart (nat_le (2 ^ 62) end) (breaks_final h.final h.seen end fin) (breaks_limit r h end) is

behind_apart : (o : Option Breach) (s : StreamsState) (id end : ℕ) (fin : Bool) → receiving_refusal s id ≡ o → breach_behind o s id end fin ≡ Some Pieces → ⊥
behind_apart (Some b) s id end fin here is = receiving_apart s id (here ∙ is)
behind_apart None s id end fin here is = part_apart (part_for s id) s.receiving end fin is

refusal_apart : (s : StreamsState) (id end : ℕ) (fin : Bool) → refusal s id end fin ≡ Some Pieces → ⊥
refusal_apart s id end fin is = behind_apart (receiving_refusal s id) s id end fin refl is

counts_apart : (b : Bool) → (if b then Some FrameEncoding else None) ≡ Some Pieces → ⊥
counts_apart true is = cc
counts_apart false is = cc

blocked_apart : (b : Bool) → (if b then Some StreamState else None) ≡ Some Pieces → ⊥
blocked_apart true is = cc
blocked_apart false is = cc

-- no rule of ids and counts is that of pieces
rule_apart : (s : StreamsState) (rule : IdRule) → broken s rule ≡ Some Pieces → ⊥
rule_apart s Free is = cc
rule_apart s (ReceivingOf id) is = receiving_apart s id is
rule_apart s (SendingOf id) is = sending_apart s id is
rule_apart s (NotOfOwn id) is = blocked_apart (is_own s.side id && not (is_two_way (dir_of id))) is
rule_apart s (Counting count) is = counts_apart (nat_lt most_streams count) is

-- the fault of a rule that is that of pieces
pieces_of : (o : Option Breach) → fault_of o ≡ Some too_many_pieces → o ≡ Some Pieces
pieces_of None is = cc
pieces_of (Some FlowControl) is = cc
pieces_of (Some StreamLimit) is = cc
pieces_of (Some StreamState) is = cc
pieces_of (Some FinalSize) is = cc
pieces_of (Some FrameEncoding) is = cc
pieces_of (Some Pieces) is = refl

-- a frame that comes to too many pieces
record Crowds (f : FrameValue) (e : End) : Type 0 where
  frame : StreamValue
  is : f ≡ stream frame
  breach : stream_breach e.streams frame ≡ Some Pieces

server_apart : (side : Side) → fault_at side ≡ Some too_many_pieces → ⊥
server_apart Client is = cc
server_apart Server is = cc

done_apart : (side : Side) (e : End) → (done_taken side e).fault ≡ Some too_many_pieces → ⊥
done_apart Client e is = cc
done_apart Server e is = cc

ack_apart : (b : Bool) (a : AckValue) (e : End) → (ack_taken b a e).fault ≡ Some too_many_pieces → ⊥
ack_apart true a e is = cc
ack_apart false a e is = cc

message_apart : (r : Result Bool ReceivedError) (m : List ℕ) (e : End) → (message_judged r m e).fault ≡ Some too_many_pieces → ⊥
message_apart (Ok first) m e is = cc
message_apart (Err error) m e is = cc

-- nor is one about connection ids
numbers_apart : (b : Bool) (r : Range ℕ) (f : NewConnectionIdValue) (e : End) → (retired_for b r f e).fault ≡ Some too_many_pieces → ⊥
numbers_apart true r f e is = cc
numbers_apart false r f e is = cc

id_apart : (r : Result (Option (Range ℕ)) InsertError) (f : NewConnectionIdValue) (e : End) → (id_judged r f e).fault ≡ Some too_many_pieces → ⊥
id_apart (Ok None) f e is = cc
id_apart (Ok (Some r)) f e is = numbers_apart (can_retire e.waiting.frames r.start r.end) r f e is
id_apart (Err inserts.Retired) f e is = cc
id_apart (Err inserts.ExceedsLimit) f e is = cc

retirement_apart : (r : Result Bool ErrorValue) (n : ℕ) (e : End) → (retirement_judged r n e).fault ≡ Some too_many_pieces → ⊥
retirement_apart (Ok more) n e is = cc
retirement_apart (Err error) n e is = cc

-- nor is one of how often to acknowledge
frequency_apart : (stale soon : Bool) (f : AckFrequencyValue) (e : End) → (frequency_judged stale soon f e).fault ≡ Some too_many_pieces → ⊥
frequency_apart true soon f e is = cc
frequency_apart false true f e is = cc
frequency_apart false false f e is = cc

crowds : (f : FrameValue) (e : End) → (take_frame f e).fault ≡ Some too_many_pieces → Crowds f e
crowds (stream g) e is = record { frame = g; is = refl; breach = pieces_of (stream_breach e.streams g) is }
crowds (reset_stream g) e is = absurd (refusal_apart e.streams g.id g.final_size true (pieces_of (reset_breach e.streams g) is))
crowds (new_token t) e is = absurd (server_apart (side_of e) is)
crowds handshake_done e is = absurd (done_apart (side_of e) e is)
crowds (datagram m) e is = absurd (message_apart (received_answer e.transport.datagram_receive_buffer_size m e.messages.queues) m e is)
crowds (ack a) e is = absurd (ack_apart (names_ungiven a e) a e is)
crowds (connection_close c) e is = cc
crowds (application_close c) e is = cc
crowds (path_challenge token) e is = cc
crowds (path_response token) e is = cc
crowds (new_connection_id f) e is = absurd (id_apart (retires_for (insert_answer e.ids.peer (frame_of f))) f e is)
crowds (ack_frequency f) e is = absurd (frequency_apart (is_stale e.frequency.last f.sequence) (asks_too_soon f) f e is)
crowds (retire_connection_id n) e is = absurd (retirement_apart (retirement_answer e.ids.own n e.ids.limit) n e is)
crowds f e is = absurd (rule_apart e.streams (id_rule f) (pieces_of (broken e.streams (id_rule f)) is))

-- ---- the frames of a packet up to the one that comes to too many pieces

pub record UpTo (frames : List FrameValue) (e : End) : Type 0 where
  pub front : List FrameValue
  pub frame : StreamValue
  pub rest : List FrameValue
  pub split : frames ≡ front ++ stream frame ∷ rest
  pub passes : (passed front e).fault ≡ None
  pub breach : stream_breach (passed front e).end.streams frame ≡ Some Pieces

pub up_to : (frames : List FrameValue) (e : End) → (passed frames e).fault ≡ Some too_many_pieces → UpTo frames e
up_to [] e is = cc
up_to (f ∷ fs) e is = go (take_frame f e).fault refl is (λ j. up_to fs (take_frame f e).end j)
  where
    go : (o : Option Fault) → (take_frame f e).fault ≡ o → (unless_fault o (take_frame f e) (take_items (map Ok fs))).fault ≡ Some too_many_pieces → ((passed fs (take_frame f e).end).fault ≡ Some too_many_pieces → UpTo fs (take_frame f e).end) → UpTo (f ∷ fs) e
    go None none there later =
        let w = later there in
        let one : passed (f ∷ w.front) e ≡ passed w.front (take_frame f e).end = ap (λ (o : Option Fault). unless_fault o (take_frame f e) (take_items (map Ok w.front))) none in
        record {
          front = f ∷ w.front;
          frame = w.frame;
          rest = w.rest;
          split = ap (λ (xs : List FrameValue). f ∷ xs) w.split;
          passes = ap (λ (p : Progress). p.fault) one ∙ w.passes;
          breach = subst (λ (p : Progress). stream_breach p.end.streams w.frame ≡ Some Pieces) (sym one) w.breach;
        }
    go (Some x) some there later =
        let here = crowds f e there in
        record { front = []; frame = here.frame; rest = fs; split = ap (λ (g : FrameValue). g ∷ fs) here.is; passes = refl; breach = here.breach }

-- ---- the half of its stream, once the frame is kept

-- A half that is in use, and on which more pieces wait than may of such a window: neither stopped
-- nor reset.
record IsCrowdedHalf (window id : ℕ) (s : StreamsState) : Type 0 where
  half : RecvHalf
  there : receiving_half s id ≡ Some half
  many : has_too_many window half ≡ true
  goes : half.stopped ≡ false
  free : half.reset ≡ None

-- nothing waits of one on which nothing is taken any more
not_idle : (came : ℕ → Type 0) (window : ℕ) (h : RecvHalf) → IsComeHalf came h → has_too_many window h ≡ true → IsIdle h → ⊥
not_idle came window h c many idle =
    let none : has_too_many window h ≡ false = ap (λ ps. nat_lt (most_pieces window) (runs_of ps)) (c.idle idle) ∙ le-ltb (most_pieces window) 0 (omega arith) in
    both_ways (has_too_many window h) none many

module _ (s : StreamsState) (p : Retransmits) (f : StreamValue) (breach : stream_breach s f ≡ Some Pieces) where
  -- no other rule was broken
  allowed : refusal s f.id (end_of f) f.fin ≡ None
  allowed = go (refusal s f.id (end_of f) f.fin) refl breach
    where
      go : (o : Option Breach) → refusal s f.id (end_of f) f.fin ≡ o → breach_kept o s f ≡ Some Pieces → refusal s f.id (end_of f) f.fin ≡ None
      go (Some b) here is = absurd (refusal_apart s f.id (end_of f) f.fin (here ∙ is))
      go None here is = here

  -- so it is kept, and brings its part to too many
  at_part : too_many_at s.receiving.stream_window (part_for s f.id) f ≡ Some Pieces
  at_part = subst (λ (o : Option Breach). breach_kept o s f ≡ Some Pieces) allowed breach

  crowded_half : (came more : ℕ → ℕ → Type 0) → ((id o : ℕ) → came id o → more id o) → ((o : ℕ) → f.offset ≤ o → o < end_of f → more f.id o) → HasCome came s → IsCrowdedHalf s.receiving.stream_window f.id (after_stream s p f).state
  crowded_half came more wider brings i = stream_cases s p f (IsCrowdedHalf window f.id) refused ended takes
    where
      window : ℕ
      window = s.receiving.stream_window

      refused : (b : Breach) → refusal s f.id (end_of f) f.fin ≡ Some b → IsCrowdedHalf window f.id s
      refused b is = let clash : None ≡ Some b = sym allowed ∙ is in cc

      ended : receiving_refusal s f.id ≡ None → part_for s f.id ≡ None → IsCrowdedHalf window f.id s
      ended within none = let clash : None ≡ Some Pieces = sym (ap (λ (o : Option RecvHalf). too_many_at window o f) none) ∙ at_part in cc

      too_many : (b : Bool) → (if b then Some Pieces else None) ≡ Some Pieces → b ≡ true
      too_many true is = refl
      too_many false is = cc

      off : (b : Bool) → (b ≡ true → ⊥) → b ≡ false
      off true never = absurd (never refl)
      off false never = refl

      unset : (o : Option ℕ) → (is_some o ≡ true → ⊥) → o ≡ None
      unset (Some code) never = absurd (never refl)
      unset None never = refl

      takes : (h : RecvHalf) → beyond s f.id ≡ None → part_for s f.id ≡ Some h → Unbroken s.receiving h (end_of f) f.fin → IsCrowdedHalf window f.id (renewed s f.id h (after_frame h f) true)
      takes h within part u = record { half = new; there = there; many = many; goes = goes; free = unset new.reset (λ set. not_idle (more f.id) window new now many (inr set)) }
        where
          new : RecvHalf
          new = after_frame h f

          many : has_too_many window (after_frame h f) ≡ true
          many = too_many (has_too_many window (after_frame h f)) (sym (ap (λ (o : Option RecvHalf). too_many_at window o f) part) ∙ at_part)

          before : IsComeHalf (came f.id) h
          before = come_at came (opened_by s f.id) f.id h part (by_opened (HasCome came) (come_kept came) s f.id within i)

          now : IsComeHalf (more f.id) (after_frame h f)
          now = come_frame (came f.id) (more f.id) s.receiving h f (wider f.id) brings u before

          goes : (after_frame h f).stopped ≡ false
          goes = off (after_frame h f).stopped (λ on. not_idle (more f.id) window (after_frame h f) now many (inl on))

          here : receiving_half (with_recv (opened_by s f.id) f.id (after_frame h f)) f.id ≡ Some (after_frame h f)
          here = live_receives (with_recv (opened_by s f.id) f.id (after_frame h f)) f.id (after_frame h f) (at-half (opened_by s f.id).side (opened_by s f.id).receiving.halves f.id (after_frame h f))

          by_end : (b c : Bool) → b ≡ false → receiving_half (readable_if c f.id (ended_if b f.id (with_recv (opened_by s f.id) f.id (after_frame h f)))) f.id ≡ Some (after_frame h f)
          by_end true c is = cc
          by_end false true is = here
          by_end false false is = here

          there : receiving_half (renewed s f.id h (after_frame h f) true) f.id ≡ Some (after_frame h f)
          there = by_end ((after_frame h f).stopped && is_some (after_frame h f).final) (true && not (h.stopped || opens s f.id)) (ap (λ (b : Bool). b && is_some (after_frame h f).final) goes)

-- ---- what came, over the frames of a packet

-- over the frames that are left: each stands in the packet
record Among (frames : List FrameValue) (came : ℕ → ℕ → Type 0) (left : List FrameValue) (x : End) : Type 0 where
  among : (f : FrameValue) → In f left → In f frames
  holds : HasCome came x.streams

-- where each STREAM frame among them came
pub frames_come : (came : ℕ → ℕ → Type 0) (frames : List FrameValue) (e : End) → ((f : StreamValue) → In (stream f) frames → (o : ℕ) → f.offset ≤ o → o < end_of f → came f.id o) → HasCome came e.streams → HasCome came (passed frames e).end.streams
frames_come came frames e brings i = (frames_leave (Among frames came) step frames e (record { among = λ f j. j; holds = i })).1.holds
  where
    step : (f : FrameValue) (left : List FrameValue) (x : End) → Among frames came (f ∷ left) x → Among frames came left (take_frame f x).end
    step f left x g = record {
      among = λ h j. g.among h (inr j);
      holds = frame_quiet (HasCome came) (is_quiet (HasCome came) (come_kept came)) f x
          (λ h is. come_stream came came x.streams x.waiting.frames h (λ id o c. c) (brings h (subst (λ (y : FrameValue). In y frames) is (g.among f (inl refl)))) g.holds)
          (λ h is. come_reset_frame came x.streams x.waiting.frames h g.holds)
          g.holds;
    }

-- what came before a packet came still
pub came_before : (p : Packet) (took : List Packet) (id o : ℕ) → HasArrived took id o → HasArrived (p ∷ took) id o
came_before p took id o a = record {
  frame = a.frame;
  taken = record { packet = a.taken.packet; was_taken = inr a.taken.was_taken; carried = a.taken.carried };
  of_stream = a.of_stream;
  from = a.from;
  below = a.below;
}

-- and so did what stands in it
pub came_now : (p : Packet) (took : List Packet) (f : StreamValue) → In (stream f) p.frames → (o : ℕ) → f.offset ≤ o → o < end_of f → HasArrived (p ∷ took) f.id o
came_now p took f i o from below = record { frame = f; taken = record { packet = p; was_taken = inl refl; carried = i }; of_stream = refl; from = from; below = below }

-- ---- a packet that comes to too many pieces

-- with its frames up to that one, more runs of its stream had arrived and not been read than may
-- wait
pub record IsCrowdedBy (window : ℕ) (told : List Told) (took : List Packet) (n : ℕ) (frames : List FrameValue) : Type 0 where
  pub front : List FrameValue
  pub frame : StreamValue
  pub rest : List FrameValue
  pub split : frames ≡ front ++ stream frame ∷ rest
  pub many : HasMoreRuns (IsUnread (record { number = n; frames = front ++ stream frame ∷ [] } ∷ took) told frame.id) (most_runs window)

module _ (window : ℕ) (side : Side) (done : ℕ → Wrote) (told : List Told) (took : List Packet) (n : ℕ) (frames : List FrameValue) (e : End) (says : (f : FrameValue) → In f frames → SaysOf done f)
    (reads_are : HoldsRead done (read told) e.streams) (brought : Brought side (WasIn took) e.streams) (come : HasCome (λ id o. HasArrived took id o) e.streams)
    (sized : HasWindow window e.streams) (w : UpTo frames e) where
  -- the packet up to its frame
  abbrev part : Packet
  part = record { number = n; frames = w.front ++ stream w.frame ∷ [] }

  abbrev packets : List Packet
  packets = part ∷ took

  -- the end that takes the frame
  abbrev x : End
  x = (passed w.front e).end

  among : (g : FrameValue) → In g w.front → In g frames
  among g i = subst (In g) (sym w.split) (in_left g w.front (stream w.frame ∷ w.rest) i)

  its : In (stream w.frame) frames
  its = subst (In (stream w.frame)) (sym w.split) (last w.front)
    where
      last : (xs : List FrameValue) → In (stream w.frame) (xs ++ stream w.frame ∷ w.rest)
      last [] = inl refl
      last (y ∷ xs) = inr (last xs)

  -- what holds before the frame
  come_there : HasCome (λ id o. HasArrived packets id o) x.streams
  come_there = frames_come (λ id o. HasArrived packets id o) w.front e (λ g i. came_now part took g (in_left (stream g) w.front (stream w.frame ∷ []) i)) (come_wider (λ id o. HasArrived took id o) (λ id o. HasArrived packets id o) e.streams (came_before part took) come)

  -- and behind it
  abbrev after : StreamsState
  after = (after_stream x.streams x.waiting.frames w.frame).state

  come_after : HasCome (λ id o. HasArrived packets id o) after
  come_after = come_stream (λ id o. HasArrived packets id o) (λ id o. HasArrived packets id o) x.streams x.waiting.frames w.frame (λ id o a. a) (came_now part took w.frame (in_last (stream w.frame) w.front)) come_there

  read_after : HoldsRead done (read told) after
  read_after = read_stream done (read told) x.streams x.waiting.frames w.frame (says (stream w.frame) its) (frames_read done (read told) w.front e (λ g i. says g (among g i)) reads_are)

  -- what was taken before the frame
  abbrev were : FrameValue → Type 0
  were g = WasIn took g ⊎ In g w.front

  taken_after : HoldsTaken (WasTaken packets) after
  taken_after = taken_stream (λ g. were (stream g)) (WasTaken packets) x.streams x.waiting.frames w.frame one (frames_bring side (WasIn took) were w.front e (λ g m. m) w.passes brought).taken
    where
      in_packet : (g : StreamValue) → In (stream g) (w.front ++ stream w.frame ∷ []) → were (stream g) ⊎ ((g ≡ w.frame) × (refusal x.streams w.frame.id (end_of w.frame) w.frame.fin ≡ None))
      in_packet g i = elim (in_append (stream g) w.front (stream w.frame ∷ []) i) [
        | inl old ↦ inl (inr old)
        | inr new ↦ elim new [ inl is ↦ (let same : g ≡ w.frame = cc in inr (same, allowed x.streams x.waiting.frames w.frame w.breach)) | inr none ↦ absurd none ]
      ]

      one : TakesMore x.streams w.frame (λ g. were (stream g)) (WasTaken packets)
      one g t = elim t.was_taken [
        | inl is ↦ in_packet g (subst (λ (q : Packet). In (stream g) q.frames) is t.carried)
        | inr old ↦ inl (inl (record { packet = t.packet; was_taken = old; carried = t.carried }))
      ]

  -- the half of the frame's stream
  crowd : IsCrowdedHalf window w.frame.id after
  crowd = subst (λ (n : ℕ). IsCrowdedHalf n w.frame.id after) (frames_window window w.front e sized) (crowded_half x.streams x.waiting.frames w.frame w.breach (λ id o. HasArrived packets id o) (λ id o. HasArrived packets id o) (λ id o a. a) (came_now part took w.frame (in_last (stream w.frame) w.front)) come_there)

  pub crowded : IsCrowdedBy window told took n frames
  crowded = record { front = w.front; frame = w.frame; rest = w.rest; split = w.split; many = at_half crowd }
    where
      at_half : IsCrowdedHalf window w.frame.id after → HasMoreRuns (IsUnread packets told w.frame.id) (most_runs window)
      at_half c = more_runs (IsUnread packets told w.frame.id) c.half.arrived.read c.half.arrived.parts (most_runs window) came.lawful.apart in_set waiting (ltb-true (most_runs window) (runs_of c.half.arrived.parts) c.many)
        where
          came : IsComeHalf (λ o. HasArrived packets w.frame.id o) c.half
          came = come_at (λ id o. HasArrived packets id o) after w.frame.id c.half c.there come_after

          was_read : IsRecvHalf (done w.frame.id) (read told w.frame.id) c.half
          was_read = read_at done (read told) after w.frame.id c.half c.there read_after

          kept : IsKeptHalf (WasTaken packets) w.frame.id c.half
          kept = at_half_of (λ id s. IsKeptStatus (WasTaken packets) id s) (goes_on_kept (WasTaken packets)) after w.frame.id c.half c.there taken_after

          -- what waits came, and wasn't read
          in_set : (o : ℕ) → waits c.half.arrived.parts o ≡ true → IsUnread packets told w.frame.id o
          in_set o on = (came.waiting o on, λ i. unread i)
            where
              unread : In o (offsets_of (reads w.frame.id told)) → ⊥
              unread i =
                  let given : is_given c.half.arrived o ≡ true = was_read.given o ∙ in_given (reads w.frame.id told) o i in
                  let none : waits c.half.arrived.parts o ≡ false = ap is_some (given_waits_not c.half.arrived o came.lawful given) in
                  both_ways (waits c.half.arrived.parts o) none on

          -- what came, and wasn't read, waits
          waiting : (o : ℕ) → IsUnread packets told w.frame.id o → waits c.half.arrived.parts o ≡ true
          waiting o u =
              let a = u.0 in
              go (is_given c.half.arrived o) refl ((kept.frames c.goes c.free a.frame a.taken a.of_stream).bytes o a.from a.below)
            where
              go : (b : Bool) → is_given c.half.arrived o ≡ b → (b || waits c.half.arrived.parts o) ≡ true → waits c.half.arrived.parts o ≡ true
              go true is on = absurd (u.1 (given_in (reads w.frame.id told) o (sym (was_read.given o) ∙ is)))
              go false is on = on

-- ---- a packet from elsewhere

-- sets of the same offsets have as many runs
runs_same : (S T : ℕ → Type 0) (count : ℕ) → ((o : ℕ) → S o → T o) → ((o : ℕ) → T o → S o) → HasMoreRuns S count → HasMoreRuns T count
runs_same S T count to back m = record {
  starts = m.starts;
  distinct = m.distinct;
  begins = λ o i. (let b = m.begins o i in record { here = to o b.here; alone = λ before next there. b.alone before next (back before there) });
  more = m.more;
}

-- what arrived in a packet arrives in one that has its STREAM frames
arrived_by : (p q : Packet) (took : List Packet) → ((g : StreamValue) → In (stream g) p.frames → In (stream g) q.frames) → (id o : ℕ) → HasArrived (p ∷ took) id o → HasArrived (q ∷ took) id o
arrived_by p q took each id o a = record { frame = a.frame; taken = taken a.taken; of_stream = a.of_stream; from = a.from; below = a.below }
  where
    taken : WasTaken (p ∷ took) a.frame → WasTaken (q ∷ took) a.frame
    taken t = elim t.was_taken [
      | inl is ↦ record { packet = q; was_taken = inl refl; carried = each a.frame (subst (λ (r : Packet). In (stream a.frame) r.frames) is t.carried) }
      | inr old ↦ record { packet = t.packet; was_taken = inr old; carried = t.carried }
    ]

-- where the frames that are taken split at a STREAM frame, the packet's do
record Splits (frames front : List FrameValue) (f : StreamValue) : Type 0 where
  before : List FrameValue
  behind : List FrameValue
  is : frames ≡ before ++ stream f ∷ behind
  same : map as_elsewhere before ≡ front

splits : (frames front rest : List FrameValue) (f : StreamValue) → map as_elsewhere frames ≡ front ++ stream f ∷ rest → Splits frames front f
splits [] [] rest f is = absurd cc
splits [] (g ∷ front) rest f is = absurd cc
splits (h ∷ frames) [] rest f is =
    let first : as_elsewhere h ≡ stream f = cc in
    record { before = []; behind = frames; is = ap (λ (g : FrameValue). g ∷ frames) (elim (taken_as h) [ inl same ↦ sym same ∙ first | inr pads ↦ (let clash : padding ≡ stream f = sym pads ∙ first in cc) ]); same = refl }
splits (h ∷ frames) (g ∷ front) rest f is =
    let first : as_elsewhere h ≡ g = cc in
    let others : map as_elsewhere frames ≡ front ++ stream f ∷ rest = cc in
    let more = splits frames front rest f others in
    record { before = h ∷ more.before; behind = more.behind; is = ap (λ (gs : List FrameValue). h ∷ gs) more.is; same = ap (λ (k : FrameValue). k ∷ map as_elsewhere more.before) first ∙ ap (λ (gs : List FrameValue). g ∷ gs) more.same }

-- so the packet is crowded where what is taken of it is
pub crowded_at : (here : Bool) (window : ℕ) (told : List Told) (took : List Packet) (n : ℕ) (frames : List FrameValue) → IsCrowdedBy window told took n (frames_at here frames) → IsCrowdedBy window told took n frames
crowded_at true window told took n frames c = c
crowded_at false window told took n frames c = record {
  front = s.before;
  frame = c.frame;
  rest = s.behind;
  split = s.is;
  many = runs_same (IsUnread (taken ∷ took) told c.frame.id) (IsUnread (whole ∷ took) told c.frame.id) (most_runs window)
      (λ o u. (arrived_by taken whole took back c.frame.id o u.0, u.1)) (λ o u. (arrived_by whole taken took there c.frame.id o u.0, u.1)) c.many;
}
  where
    s : Splits frames c.front c.frame
    s = splits frames c.front c.rest c.frame c.split

    taken : Packet
    taken = record { number = n; frames = c.front ++ stream c.frame ∷ [] }

    whole : Packet
    whole = record { number = n; frames = s.before ++ stream c.frame ∷ [] }

    back : (g : StreamValue) → In (stream g) taken.frames → In (stream g) whole.frames
    back g i = elim (in_append (stream g) c.front (stream c.frame ∷ []) i) [
      | inl old ↦ elim (of_at false s.before (stream g) (subst (In (stream g)) (sym s.same) old)) [ inl stands ↦ in_left (stream g) s.before (stream c.frame ∷ []) stands | inr pads ↦ cc ]
      | inr (inl is) ↦ subst (λ (h : FrameValue). In h whole.frames) (sym is) (in_last (stream c.frame) s.before)
      | inr (inr none) ↦ absurd none
    ]

    there : (g : StreamValue) → In (stream g) whole.frames → In (stream g) taken.frames
    there g i = elim (in_append (stream g) s.before (stream c.frame ∷ []) i) [
      | inl old ↦ elim (in_at false s.before (stream g) old) [ inl stands ↦ in_left (stream g) c.front (stream c.frame ∷ []) (subst (In (stream g)) s.same stands) | inr path ↦ absurd path ]
      | inr (inl is) ↦ subst (λ (h : FrameValue). In h taken.frames) (sym is) (in_last (stream c.frame) c.front)
      | inr (inr none) ↦ absurd none
    ]
