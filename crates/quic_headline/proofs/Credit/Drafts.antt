-- What holds of the frames that go into a datagram, where something is known of the streams that
-- each of them leaves known, and from which it follows of each limit.
use Rattle.std.proofs.Common.{◌≡◌, ℕ, zero, suc, Bool, List, [], ◌∷◌, ◌++◌, replicate, Some, sym, subst, inl, inr}
use Rattle.quic_wire.specs.Value.{FrameValue, AckValue, StreamValue, padding, ack, ping, stream, datagram, ConnectionCloseValue, ApplicationCloseValue, connection_close, application_close, immediate_ack, AckFrequencyValue, ack_frequency}
use Rattle.quic_streams_parts.specs.Table.{at}
use Rattle.quic_streams_parts.specs.SendHalf.{SendHalf, frame_of}
use Rattle.quic_retransmits.specs.Retransmits.{Retransmits}
use Rattle.quic_streams_state.specs.declared.state.StreamsState.{StreamsState}
use Rattle.quic_streams_state.specs.Frames.{after_frame_sent}
use Rattle.quic_streams_state.specs.Control.{Goes, frame_told}
use Rattle.quic_machine.specs.declared.answers.State.TheVariants as states
use Rattle.quic_machine.specs.declared.run.Answer.TheVariants as answers
use Rattle.quic_machine.specs.Policy.{Policy}
use Rattle.quic_machine.specs.End.{End}
use Rattle.quic_machine.specs.Poll.{Draft, ack_of, zeros_behind, composed, polled, draft_as, Leaving, request_of}
use Rattle.quic_machine.specs.PollCases.{ready_at, draft_at, may_leave_at}
use Rattle.quic_machine.specs.DraftLaws.{Writing, by_writing, by_leave, MayLeave}
use Rattle.quic_paths.specs.Responses.{Response}
use Rattle.quic_machine.specs.Validation.{challenge_frame, response_frame}
use Rattle.quic_machine.specs.Puts as puts
use Rattle.quic_machine.specs.Machine.{gave}
use Rattle.quic_headline.specs.Runs.{In}
use Rattle.quic_headline.specs.Observer.{Sent}
use Rattle.quic_headline.proofs.Packets.Probes.{ready_state, poll_state}
use Rattle.quic_headline.proofs.Packets.Owing.{Owes, sent_fine}
use Rattle.quic_headline.proofs.Places.Parties.{sent_by, sent_if}
use Rattle.quic_headline.proofs.Places.Told.{in_append}

-- What frames leave known, and what follows of each.
pub record AreFine (Known : StreamsState → Type 0) (Fine : FrameValue → Type 0) : Type 0 where
  pub told : (f : FrameValue) (s : StreamsState) → Known s → Known (frame_told f s)
  pub sent : (fair : Bool) (s : StreamsState) (id room : ℕ) (h : SendHalf) → at s.sending.halves.live id ≡ Some h → Known s → Known (after_frame_sent fair s id h room)
  pub limits : (p : Retransmits) (s : StreamsState) (f : FrameValue) → Known s → Goes p s f → Fine f
  pub pads : Fine padding
  pub challenges : (word : ℕ) → Fine (challenge_frame word)
  pub responses : (r : Response) → Fine (response_frame r)
  pub pings : Fine ping
  pub immediate : Fine immediate_ack
  pub requests : (r : AckFrequencyValue) → Fine (ack_frequency r)
  pub connection_closes : (c : ConnectionCloseValue) → Fine (connection_close c)
  pub application_closes : (c : ApplicationCloseValue) → Fine (application_close c)
  pub acks : (a : AckValue) → Fine (ack a)
  pub messages : (m : List ℕ) → Fine (datagram m)
  pub streams : (f : StreamValue) → Fine (stream f)

module _ (Known : StreamsState → Type 0) (Fine : FrameValue → Type 0) (k : AreFine Known Fine) where
  -- so it is of each of these frames
  abbrev AllFine : List FrameValue → Type 0
  AllFine fs = (f : FrameValue) → In f fs → Fine f

  and_fine : (fs : List FrameValue) (g : FrameValue) → AllFine fs → Fine g → AllFine (fs ++ g ∷ [])
  and_fine fs g all one f i = elim (in_append f fs (g ∷ []) i) [
    | inl old ↦ all f old
    | inr new ↦ elim new [ inl is ↦ subst Fine (sym is) one | inr none ↦ absurd none ]
  ]

  padded_fine : (fs : List FrameValue) (count : ℕ) → AllFine fs → AllFine (fs ++ replicate count padding)
  padded_fine fs count all f i = elim (in_append f fs (replicate count padding) i) [ inl here ↦ all f here | inr behind ↦ zeros count behind ]
    where
      zeros : (n : ℕ) → In f (replicate n padding) → Fine f
      zeros zero i = absurd i
      zeros (suc n) (inl is) = subst Fine (sym is) k.pads
      zeros (suc n) (inr i) = zeros n i

  abbrev DraftIs : Draft → Type 0
  DraftIs d = Known d.end.streams × AllFine d.frames

  writing : Writing DraftIs
  writing puts.ack d may j = (j.0, and_fine d.frames (ack (ack_of d.end)) j.1 (k.acks (ack_of d.end)))
  writing (puts.drops kind) d may j = j
  writing (puts.control kind f) d is j = (k.told f d.end.streams j.0, and_fine d.frames f j.1 (k.limits d.end.waiting.frames d.end.streams f j.0 is.says))
  writing (puts.message m ms) d may j = (j.0, and_fine d.frames (datagram m) j.1 (k.messages m))
  writing (puts.stream id h room) d (found, first, some, is, counts) j = (k.sent d.end.transport.send_fairness d.end.streams id room h found j.0, and_fine d.frames (stream (frame_of id h room)) j.1 (k.streams (frame_of id h room)))
  writing (puts.connection_close c) d may j = (j.0, and_fine d.frames (connection_close c) j.1 (k.connection_closes c))
  writing (puts.application_close c) d may j = (j.0, and_fine d.frames (application_close c) j.1 (k.application_closes c))
  writing (puts.challenge word) d may j = (j.0, and_fine d.frames (challenge_frame word) j.1 (k.challenges word))
  writing (puts.response r) d may j = (j.0, and_fine d.frames (response_frame r) j.1 (k.responses r))
  writing puts.immediate d may j = (j.0, and_fine d.frames immediate_ack j.1 k.immediate)
  writing puts.request d may j = (j.0, and_fine d.frames (ack_frequency (request_of d.end)) j.1 (k.requests (request_of d.end)))
  writing p d may j = (j.0, and_fine d.frames _ j.1 k.pings)

  draft_is : (leaving : Leaving) (e : End) → MayLeave leaving e → Known e.streams → DraftIs (draft_as leaving e)
  draft_is leaving e due known = by_leave DraftIs writing leaving e due (known, λ f i. absurd i)

  -- what a poll gives is fine, where so much is known of an end that is open
  pub poll_fine : (p : Policy) (e : End) (now : ℕ) → Owes e → (e.closing.state ≡ states.Open → Known e.streams) → (t : Sent) → In t (sent_if (gave (answers.Poll (polled p e now).answer)) (sent_by p e now)) → (f : FrameValue) → In f t.frames → Fine f
  poll_fine p e now owes known = sent_fine Fine k.connection_closes k.application_closes k.pads p e now owes (λ is. (
      let d : Draft = draft_at e now in
      let ready : Known (ready_at e now).end.streams = subst Known (sym (ready_state e now)) (known is) in
      let all : DraftIs d = draft_is (ready_at e now).leaving (ready_at e now).end (may_leave_at e now) ready in
      padded_fine d.frames (zeros_behind d) all.1))

  composed_known : (e : End) → Known e.streams → Known (composed e).end.streams
  composed_known e known = (by_writing DraftIs writing e (known, λ f i. absurd i)).0

  -- and it leaves as much known
  pub poll_known : (p : Policy) (e : End) (now : ℕ) → Known e.streams → Known (polled p e now).end.streams
  poll_known p e now known = poll_state Known p e now composed_known known
