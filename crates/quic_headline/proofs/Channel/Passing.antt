-- A frame passes at an end that breaks no rule there: it may come to too many pieces, or close; by
-- rules of ids and counts, by those of limits and sizes, and by those apart from streams.
use Rattle.std.proofs.Common.{◌≡◌, ℕ, Bool, true, false, List, [], ◌∷◌, length, ◌==◌, map, Option, Some, None, Ok, Err, refl, sym, ap, ◌∙◌, subst, inl, inr}
use Rattle.std.specs.Prelude.{if◌then◌else◌}
use Rattle.quic_wire_core.specs.declared.stream_id.Side.{Side}
use Rattle.quic_wire_core.specs.declared.stream_id.Side.TheVariants.{Client}
use Rattle.quic_wire.specs.Value.{FrameValue, StreamValue, ack, stream, reset_stream, new_token, handshake_done, connection_close, application_close, datagram, path_challenge, path_response, new_connection_id, retire_connection_id, immediate_ack, ack_frequency}
use Rattle.quic_wire.specs.Close.{CloseValue}
use Rattle.quic_streams_parts.specs.declared.answers.Breach.{Breach}
use Rattle.quic_streams_parts.specs.declared.answers.Breach.TheVariants.{Pieces}
use Rattle.quic_streams_parts.specs.RecvHalf.{RecvHalf, end_of, after_frame, has_too_many}
use Rattle.quic_streams_state.specs.declared.state.StreamsState.{StreamsState}
use Rattle.quic_streams_state.specs.Opening.{receiving_refusal}
use Rattle.quic_streams_state.specs.Taking.{part_for, breach_at, breach_behind, refusal, too_many_at, breach_kept, reset_breach, id_rule, broken}
use Rattle.quic_messages.specs.declared.errors.ReceivedError.TheVariants as received_errors
use Rattle.quic_messages.specs.Messages.{is_taken}
use Rattle.quic_machine.specs.declared.answers.State.TheVariants as states
use Rattle.quic_machine.specs.End.{End, side_of}
use Rattle.quic_machine.specs.Receive.{Fault, broke, too_many_pieces, closed_by_peer, fault_of, fault_at, names_ungiven, message_judged, done_taken, take_frame, unless_fault, take_items, asks_too_soon, frequency_judged}
use Rattle.quic_machine.specs.FrameCases.{passed, ack_taken}
use Rattle.quic_headline.specs.Runs.{In}
use Rattle.quic_headline.specs.Observer.{Sent}
use Rattle.quic_headline.proofs.Places.Parties.{Party}
use Rattle.quic_headline.proofs.Places.Groups.{Way}
use Rattle.quic_headline.proofs.Packets.Delivered.{arrived, frames_at}
use Rattle.quic_recovery_core.specs.AckFrequency.{is_stale}

-- ---- the rules, in three parts

-- those of ids and counts: STREAM_STATE_ERROR, STREAM_LIMIT_ERROR and FRAME_ENCODING_ERROR
abbrev pub IdsPass : StreamsState → FrameValue → Type 0
IdsPass s f = broken s (id_rule f) ≡ None

-- those of limits and final sizes: FLOW_CONTROL_ERROR and FINAL_SIZE_ERROR
abbrev pub SizesPass : StreamsState → FrameValue → Type 0
SizesPass s (stream f) = breach_at (part_for s f.id) s.receiving (end_of f) f.fin ≡ None
SizesPass s (reset_stream f) = breach_at (part_for s f.id) s.receiving f.final_size true ≡ None
SizesPass s f = Unit {0}

-- those apart from streams: ACK names no number that wasn't given, and not the one that was left
-- out last, no server gets what only servers send, and a message is one that the end takes; an id
-- of the peer is one that may be known, and one that it retires was issued; and no acknowledgement
-- is asked for too soon
abbrev pub PlainPass : End → FrameValue → Type 0
PlainPass e (ack a) = names_ungiven a e ≡ false
PlainPass e (datagram m) = is_taken e.transport.datagram_receive_buffer_size m ≡ true
PlainPass e (new_token t) = fault_at (side_of e) ≡ None
PlainPass e handshake_done = side_of e ≡ Client
PlainPass e (new_connection_id f) = (take_frame (new_connection_id f) e).fault ≡ None
PlainPass e (retire_connection_id n) = (take_frame (retire_connection_id n) e).fault ≡ None
PlainPass e (ack_frequency f) = asks_too_soon f ≡ false
PlainPass e f = Unit {0}

-- ---- one frame

-- no rule is broken: too many pieces wait, or the peer closed
abbrev pub BreaksNone : Fault → Type 0
BreaksNone (broke error) = ⊥
BreaksNone fault = Unit {0}

-- no other fault is left
abbrev NoneBroken : Option Fault → Type 0
NoneBroken o = (fault : Fault) → o ≡ Some fault → BreaksNone fault

nothing_broken : (o : Option Breach) → o ≡ None → NoneBroken (fault_of o)
nothing_broken o none fault is = let clash : None ≡ Some fault = sym (ap fault_of none) ∙ is in cc

no_fault : (o : Option Fault) → o ≡ None → NoneBroken o
no_fault o none fault is = let clash : None ≡ Some fault = sym none ∙ is in cc

closes_only : (close : CloseValue) → NoneBroken (Some (closed_by_peer close))
closes_only close fault is = let same : closed_by_peer close ≡ fault = cc in subst BreaksNone same tt

many_only : (window : ℕ) (o : Option RecvHalf) (f : StreamValue) → NoneBroken (fault_of (too_many_at window o f))
many_only window None f fault is = cc
many_only window (Some h) f fault is = go (has_too_many window (after_frame h f)) is
  where
    go : (b : Bool) → fault_of (if b then Some Pieces else None) ≡ Some fault → BreaksNone fault
    go true is = let same : too_many_pieces ≡ fault = cc in subst BreaksNone same tt
    go false is = cc

-- what is not refused by its id is refused by its sizes alone
allowed : (s : StreamsState) (id end : ℕ) (fin : Bool) → receiving_refusal s id ≡ None → breach_at (part_for s id) s.receiving end fin ≡ None → refusal s id end fin ≡ None
allowed s id end fin ids sizes = ap (λ (o : Option Breach). breach_behind o s id end fin) ids ∙ sizes

-- a frame that passes
pub frame_passes : (f : FrameValue) (e : End) → IdsPass e.streams f → SizesPass e.streams f → PlainPass e f → (fault : Fault) → (take_frame f e).fault ≡ Some fault → BreaksNone fault
frame_passes (stream f) e ids sizes plain fault is =
    many_only e.streams.receiving.stream_window (part_for e.streams f.id) f fault (sym (ap (λ (o : Option Breach). fault_of (breach_kept o e.streams f)) (allowed e.streams f.id (end_of f) f.fin ids sizes)) ∙ is)
frame_passes (reset_stream f) e ids sizes plain fault is = nothing_broken (reset_breach e.streams f) (allowed e.streams f.id f.final_size true ids sizes) fault is
frame_passes (datagram m) e ids sizes plain fault is =
    let clash : None ≡ Some fault = sym (ap (λ (b : Bool). (message_judged (if b then Ok (length e.messages.queues.incoming == 0) else Err received_errors.Breach) m e).fault) plain) ∙ is in cc
frame_passes (new_token t) e ids sizes plain fault is = no_fault (fault_at (side_of e)) plain fault is
frame_passes handshake_done e ids sizes plain fault is = no_fault (done_taken (side_of e) e).fault (ap (λ (side : Side). (done_taken side e).fault) plain) fault is
frame_passes (connection_close c) e ids sizes plain fault is = closes_only _ fault is
frame_passes (application_close c) e ids sizes plain fault is = closes_only _ fault is
frame_passes (path_challenge token) e ids sizes plain fault is = cc
frame_passes (path_response token) e ids sizes plain fault is = cc
frame_passes (new_connection_id f) e ids sizes plain fault is = no_fault (take_frame (new_connection_id f) e).fault plain fault is
frame_passes (retire_connection_id n) e ids sizes plain fault is = no_fault (take_frame (retire_connection_id n) e).fault plain fault is
frame_passes (ack a) e ids sizes plain fault is = let clash : None ≡ Some fault = sym (ap (λ (b : Bool). (ack_taken b a e).fault) plain) ∙ is in cc
frame_passes immediate_ack e ids sizes plain fault is = cc
frame_passes (ack_frequency f) e ids sizes plain fault is = go (is_stale e.frequency.last f.sequence) (sym (ap (λ (b : Bool). (frequency_judged (is_stale e.frequency.last f.sequence) b f e).fault) plain) ∙ is)
  where
    go : (b : Bool) → (frequency_judged b false f e).fault ≡ Some fault → BreaksNone fault
    go true is = cc
    go false is = cc
frame_passes f e ids sizes plain fault is = nothing_broken (broken e.streams (id_rule f)) ids fault is

-- ---- the frames of a packet

-- What holds of an end lets these frames pass, and each of them leaves it so.
pub record LetsPass (among : FrameValue → Type 0) (P : End → Type 0) : Type 0 where
  pub ids : (f : FrameValue) (e : End) → among f → P e → IdsPass e.streams f
  pub sizes : (f : FrameValue) (e : End) → among f → P e → SizesPass e.streams f
  pub plain : (f : FrameValue) (e : End) → among f → P e → PlainPass e f
  pub stays : (f : FrameValue) (e : End) → among f → P e → P (take_frame f e).end

-- so all of them pass
pub frames_pass : (among : FrameValue → Type 0) (P : End → Type 0) → LetsPass among P → (fs : List FrameValue) (e : End) → ((f : FrameValue) → In f fs → among f) → P e → (fault : Fault) → (passed fs e).fault ≡ Some fault → BreaksNone fault
frames_pass among P lets [] e all here fault is = cc
frames_pass among P lets (f ∷ fs) e all here fault is =
    go (take_frame f e).fault refl is (λ j. frames_pass among P lets fs (take_frame f e).end (λ g i. all g (inr i)) (lets.stays f e first here) fault j)
  where
    first : among f
    first = all f (inl refl)

    go : (o : Option Fault) → (take_frame f e).fault ≡ o → (unless_fault o (take_frame f e) (take_items (map Ok fs))).fault ≡ Some fault → ((passed fs (take_frame f e).end).fault ≡ Some fault → BreaksNone fault) → BreaksNone fault
    go None none there later = later there
    go (Some x) some there later = frame_passes f e (lets.ids f e first here) (lets.sizes f e first here) (lets.plain f e first here) fault there

-- ---- the word between two ends

-- Each packet that x gave passes at y, while that is open, whenever it comes, and from wherever.
pub record PassesAt (x y : Party) : Type 0 where
  pub passes : (s : Sent) → In s x.sents → y.end.closing.state ≡ states.Open → (now : ℕ) (here : Bool) (fault : Fault) → (arrived y.end now s.number (frames_at here s.frames)).fault ≡ Some fault → BreaksNone fault

-- The part of ids and counts: each frame that x gave passes these rules at y, and so it stays.
pub record IdsHold (x y : Party) : Type 0 where
  pub ids : (s : Sent) → In s x.sents → (f : FrameValue) → In f s.frames → IdsPass y.end.streams f

-- The part of limits and sizes: what fits the streams of y, while it is open, lets each frame that
-- x gave pass these rules, and stays where one is taken that the rules of ids let pass.
pub record SizesHold (B : Way) (Fits : Party → Party → StreamsState → Type 0) : Type 1 where
  pub holds : (x y : Party) → B x y → y.end.closing.state ≡ states.Open → Fits x y y.end.streams
  pub sizes : (x y : Party) → B x y → (s : Sent) → In s x.sents → (f : FrameValue) → In f s.frames → (t : StreamsState) → Fits x y t → IdsPass t f → SizesPass t f
  pub stays : (x y : Party) → B x y → (s : Sent) → In s x.sents → (f : FrameValue) → In f s.frames → (e : End) → Fits x y e.streams → IdsPass e.streams f → Fits x y (take_frame f e).end.streams
