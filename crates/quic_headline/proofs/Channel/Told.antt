-- How far an end told its peer that it may come, on all streams and on each, the peer may come at
-- it, whatever it does later (RFC 9000, sections 4.1, 19.9 and 19.10).
use Rattle.std.proofs.Common.{◌≡◌, ◌⊎◌, ℕ, zero, suc, ◌≤◌, List, [], ◌∷◌, ◌++◌, replicate, Option, Some, sym, subst, inl, inr, arith}
use Rattle.quic_wire.specs.Value.{FrameValue, padding, stream, max_data, max_stream_data}
use Rattle.quic_streams_parts.specs.Table.{at}
use Rattle.quic_streams_parts.specs.TableLaws.{at-put}
use Rattle.quic_streams_parts.specs.SendHalf.{frame_of}
use Rattle.quic_streams_parts.specs.RecvHalf.{RecvHalf, raised_on}
use Rattle.quic_streams_halves.specs.Halves.{has_place, changed_at}
use Rattle.quic_retransmits.specs.Retransmits.{Retransmits}
use Rattle.quic_streams_state.specs.declared.state.StreamsState.{StreamsState}
use Rattle.quic_streams_state.specs.Control.{limit_told, frame_told, Goes}
use Rattle.quic_streams_laws.specs.Each.{HalfIs}
use Rattle.quic_streams_laws.specs.ContentLaws.{by_next_answer}
use Rattle.quic_streams_laws.specs.KeepingLaws.{by_accept, by_read_begun, by_next, by_stop, by_received_reset, by_stream, by_reset_frame, by_frame}
use Rattle.quic_streams_laws.specs.QuietLaws.{is_quiet, by_told}
use Rattle.quic_machine.specs.declared.run.Call.{Call}
use Rattle.quic_machine.specs.declared.run.Call.TheVariants as calls
use Rattle.quic_machine.specs.declared.run.Answer.{Answer}
use Rattle.quic_machine.specs.declared.run.Answer.TheVariants as answers
use Rattle.quic_machine.specs.Policy.{Policy}
use Rattle.quic_machine.specs.Closing.{ticked}
use Rattle.quic_machine.specs.End.{End, with_closing, closed_by}
use Rattle.quic_machine.specs.Receive.{take_frame}
use Rattle.quic_machine.specs.Poll.{zeros_behind, Draft, polled, draft_as, Leaving}
use Rattle.quic_machine.specs.Poll as poll
use Rattle.quic_machine.specs.DraftLaws.{Writing, by_leave, MayLeave, IsClose}
use Rattle.quic_machine.specs.Puts as puts
use Rattle.quic_machine.specs.PollCases.{ready_at, draft_at, frames_at, may_leave_at}
use Rattle.quic_machine.specs.FrameCases.{begun, passed, frames_keep}
use Rattle.quic_machine.specs.Machine.{IsAnswer, after_call, gave}
use Rattle.quic_headline.specs.Runs.{In, Intake}
use Rattle.quic_headline.specs.Observer.{Sent}
use Rattle.quic_headline.proofs.Packets.Growth.{in_more}
use Rattle.quic_headline.proofs.Packets.Delivered.{frames_at as taken_at}
use Rattle.quic_headline.proofs.Packets.Group.{meets}
use Rattle.quic_headline.proofs.Packets.Sends.{GivesClose, by_sends}
use Rattle.quic_headline.proofs.Packets.Owing.{Owes, error_owes, close_is, close_alone, closes_fine}
use Rattle.quic_headline.proofs.Places.Told.{in_append}
use Rattle.quic_headline.proofs.Places.Steps.{poll_answer}
use Rattle.quic_headline.proofs.Places.Parties.{Party, called, came_to, sent_as, sent_by, sent_if, sents_by}
use Rattle.quic_headline.proofs.Places.Groups.{Way, Calls}
use Rattle.quic_headline.proofs.Places.Coming.{by_coming}
use Rattle.quic_headline.proofs.Halves.Ghosts.{wrote, IsWriting}
use Rattle.quic_headline.proofs.Halves.QuietSteps.{frame_quiet, sent_within}
use Rattle.quic_headline.proofs.Halves.ReadCalls.{IsKept, call_kept}
use Rattle.quic_headline.proofs.Channel.Below.{frame_below, reset_below, read_below, begun_below, stopped_below}
use Rattle.quic_headline.proofs.Channel.Received.{Allows, Stays, stays_self, stays_then, stays_kept}
use Rattle.quic_headline.proofs.Packets.Probes.{ready_state, by_going}
use Rattle.quic_headline.proofs.Halves.Moved.{in_arrivals}

-- ---- calls and frames

-- each word about what an end receives leaves it within what was told before
stays_calls : (before : StreamsState) → IsKept (Stays before)
stays_calls before = record {
  quiet = is_quiet (Stays before) (stays_kept before);
  begun = λ s id ordered i. by_read_begun (Stays before) (stays_kept before) s id ordered (λ h e b ended. begun_below s.receiving h b) i;
  next = λ told s id most answer is i. by_next_answer (Stays before) told s id most answer is (by_next (Stays before) (stays_kept before) told s id most (λ h c e f b ended. read_below s.receiving h most b) i) i;
  stop = λ s p id code i. by_stop (Stays before) (stays_kept before) s p id code (λ h e b ended. stopped_below s.receiving h b) i;
  received_reset = λ s p id i. by_received_reset (Stays before) (stays_kept before) s p id i;
}

-- so does a frame
pub stays_frame : (before : StreamsState) (f : FrameValue) (e : End) → Stays before e.streams → Stays before (take_frame f e).end.streams
stays_frame before f e i = frame_quiet (Stays before) (is_quiet (Stays before) (stays_kept before)) f e
    (λ g is. by_stream (Stays before) (stays_kept before) e.streams e.waiting.frames g (λ h a u b ended. frame_below e.streams.receiving h g u b) i)
    (λ g is. by_reset_frame (Stays before) (stays_kept before) e.streams e.waiting.frames g (λ h a u b ended. reset_below e.streams.receiving h g.code g.final_size ended u b) i)
    i

-- and all frames of a packet
stays_frames : (before : StreamsState) (fs : List FrameValue) (e : End) → Stays before e.streams → Stays before (passed fs e).end.streams
stays_frames before fs e i = frames_keep (λ (x : End). Stays before x.streams) (stays_frame before) fs e i

-- ---- what a frame tells

-- how far the peer may come now is as far as a frame tells, or further
abbrev pub IsTold : StreamsState → FrameValue → Type 0
IsTold s (max_data limit) = limit ≤ s.receiving.announced
IsTold s (max_stream_data f) = Allows s f.id f.limit
IsTold s f = Unit {0}

-- and so it stays
pub told_stays : (before s : StreamsState) (f : FrameValue) → Stays before s → IsTold before f → IsTold s f
told_stays before s (max_data limit) i is = let more = i.receives.more in omega arith
told_stays before s (max_stream_data f) i is = i.receives.allows f.id f.limit is
told_stays before s f i is = tt

-- a half whose limit is told, and the streams with it
abbrev raised_half : ℕ → RecvHalf → RecvHalf
raised_half window h = record h { announced = raised_on window h }

abbrev with_raised : StreamsState → ℕ → Option RecvHalf → StreamsState
with_raised s id o = record s { receiving = record s.receiving { halves = record s.receiving.halves { live = changed_at o (raised_half s.receiving.stream_window) s.receiving.halves.live id } } }

limit_tells : (s : StreamsState) (id : ℕ) (h : RecvHalf) → at s.receiving.halves.live id ≡ Some h → Allows (record s { receiving = limit_told s.receiving id }) id (raised_on s.receiving.stream_window h)
limit_tells s id h is = subst (λ o. Allows (with_raised s id o) id (raised_on s.receiving.stream_window h)) (sym is) there
  where
    there : Allows (with_raised s id (Some h)) id (raised_on s.receiving.stream_window h)
    there =
        let n : ℕ = raised_on s.receiving.stream_window h in
        let enough : n ≤ (raised_half s.receiving.stream_window h).announced = omega arith in
        subst (λ o. HalfIs (n ≤ s.receiving.stream_window) (λ (x : RecvHalf). n ≤ x.announced) (Unit {0}) o (has_place s.side s.receiving.halves.places id)) (sym (at-put s.receiving.halves.live id h (raised_half s.receiving.stream_window h) is)) enough

-- a frame that goes tells no more than what the end holds then
goes_told : (p : Retransmits) (s : StreamsState) (f : FrameValue) → Goes p s f → IsTold (frame_told f s) f
goes_told p s (max_data limit) goes = omega arith
goes_told p s (max_stream_data f) goes = subst (Allows (record s { receiving = limit_told s.receiving f.id }) f.id) (sym goes.3) (limit_tells s f.id goes.0 goes.2)
goes_told p s f goes = tt

-- ---- what an end gives

-- the frames of a draft are told, and its streams stay within what was told before
record Tells (before : StreamsState) (d : Draft) : Type 0 where
  stays : Stays before d.end.streams
  frames : (f : FrameValue) → In f d.frames → IsTold d.end.streams f

-- one frame more, that leaves other streams
more_told : (s t : StreamsState) (fs : List FrameValue) (g : FrameValue) → Stays s t → ((f : FrameValue) → In f fs → IsTold s f) → IsTold t g → (f : FrameValue) → In f (fs ++ g ∷ []) → IsTold t f
more_told s t fs g stays all one f i = elim (in_more f g fs i) [ inl old ↦ told_stays s t f stays (all f old) | inr new ↦ subst (IsTold t) (sym new) one ]

draft_tells : (before : StreamsState) (leaving : Leaving) (e : End) → MayLeave leaving e → Stays before e.streams → Tells before (draft_as leaving e)
draft_tells before leaving e alone i = by_leave (Tells before) keep leaving e alone (record { stays = i; frames = λ f j. absurd j })
  where
    keep : Writing (Tells before)
    keep (puts.drops kind) d may t = record { stays = t.stays; frames = t.frames }
    keep (puts.control kind f) d is t =
        let s : StreamsState = d.end.streams in
        let on : Stays s (frame_told f s) = by_told (Stays s) (stays_kept s) f s (stays_self before s t.stays) in
        record { stays = stays_then before s (frame_told f s) t.stays on; frames = more_told s (frame_told f s) d.frames f on t.frames (goes_told d.end.waiting.frames s f is.says) }
    keep (puts.stream id h room) d (found, first, some, is, counts) t =
        let s : StreamsState = d.end.streams in
        let on = by_frame (Stays s) (stays_kept s) d.end.transport.send_fairness s id room h found tt (stays_self before s t.stays) in
        record { stays = stays_then before s _ t.stays on; frames = more_told s _ d.frames (stream (frame_of id h room)) on t.frames tt }
    keep p d may t = record { stays = t.stays; frames = more_told d.end.streams d.end.streams d.frames _ (stays_self before d.end.streams t.stays) t.frames tt }

-- PADDING tells nothing
padded_told : (s : StreamsState) (fs : List FrameValue) (count : ℕ) → ((f : FrameValue) → In f fs → IsTold s f) → (f : FrameValue) → In f (fs ++ replicate count padding) → IsTold s f
padded_told s fs count all f i = elim (in_append f fs (replicate count padding) i) [ inl here ↦ all f here | inr behind ↦ zeros count behind ]
  where
    zeros : (n : ℕ) → In f (replicate n padding) → IsTold s f
    zeros zero i = absurd i
    zeros (suc n) (inl is) = subst (IsTold s) (sym is) tt
    zeros (suc n) (inr i) = zeros n i

-- each frame of these is told
abbrev pub AllTold : StreamsState → List Sent → Type 0
AllTold s sents = (t : Sent) → In t sents → (f : FrameValue) → In f t.frames → IsTold s f

-- a close tells nothing, nor does PADDING
close_told : (s : StreamsState) (f : FrameValue) → IsClose f ⊎ (f ≡ padding) → IsTold s f
close_told s = closes_fine (IsTold s) (λ c. tt) (λ c. tt) tt

-- what a poll gives is told at the end that it leaves
poll_told : (p : Policy) (e : End) (now : ℕ) → Owes e → Stays e.streams e.streams → AllTold (polled p e now).end.streams (sent_if (gave (answers.Poll (polled p e now).answer)) (sent_by p e now))
poll_told p e now owes i = by_sends p e now (λ q sents. AllTold q.end.streams sents) (record {
  silent = λ t j. absurd j;
  failed = λ t j. absurd j;
  nothing = λ is none t j. absurd j;
  repeats = λ is. closing (with_closing e (ticked e.closing now)) owes;
  closes = λ reason is bound. closing (closed_by reason (ready_at e now).end) (error_owes reason (ready_at e now).end);
  gives = λ is bound some. by_going (λ (x : End). AllTold x.streams (sent_as e now (draft_at e now) ∷ [])) p (draft_at e now) (λ going. one (draft_at e now).end.streams (sent_as e now (draft_at e now)) all);
})
  where
    one : (s : StreamsState) (t : Sent) → ((f : FrameValue) → In f t.frames → IsTold s f) → AllTold s (t ∷ [])
    one s t told u (inl is) f k = told f (subst (λ (v : Sent). In f v.frames) is k)
    one s t told u (inr none) f k = absurd none

    all : (f : FrameValue) → In f (frames_at e now) → IsTold (draft_at e now).end.streams f
    all =
        let d : Draft = draft_at e now in
        padded_told d.end.streams d.frames (zeros_behind d) (draft_tells e.streams (ready_at e now).leaving (ready_at e now).end (may_leave_at e now) (subst (Stays e.streams) (sym (ready_state e now)) i)).frames

    closing : (x : End) → Owes x → GivesClose p e now (λ q sents. AllTold q.end.streams sents) x
    closing x due = ((λ t j. absurd j), (λ f goes. one x.streams (sent_as e now (draft_as (poll.closing f) x)) (λ g among. close_told x.streams g (close_alone x f (close_is p x due f goes) g among))))

-- ---- a call

module _ (B : Way) (w : IsWriting B) (x y : Party) (call : Call) (a : Answer) (c : Calls B x y call a) (here : Stays x.end.streams x.end.streams) where
  -- it leaves the end within what was told before
  pub stays_call : Stays x.end.streams (called x y.given call a).end.streams
  stays_call = by_coming x y a c.joined c.served (meets y x (w.packets y x c.takes)) (λ (e : End) (i : Intake). Stays x.end.streams e.streams) call c.answer (record {
    apart = λ apart. call_kept (Stays x.end.streams) (stays_calls x.end.streams) x.policy x.end y.given (sent_within (wrote x.told) x.end.streams (w.written x y c.gives)) here call a c.answer apart
        (λ dir is. by_accept (Stays x.end.streams) (stays_kept x.end.streams) dir x.end.streams (λ may. may) here);
    none = λ delivery is. here;
    comes = λ delivery is s among from. in_arrivals (Stays x.end.streams) x.end delivery.now s.number s.frames (taken_at from s.frames) (came_to x y) here (stays_frames x.end.streams (taken_at from s.frames) (begun x.end delivery.now s.number) here);
  })

  -- and what it gave is told
  pub told_call : AllTold x.end.streams x.sents → AllTold (called x y.given call a).end.streams (x.sents ++ sents_by x.policy x.end call a)
  told_call before t i = elim (in_append t x.sents (sents_by x.policy x.end call a) i) [
    | inl old ↦ λ f k. told_stays x.end.streams (called x y.given call a).end.streams f stays_call (before t old f k)
    | inr new ↦ go call c.answer t new
  ]
    where
      go : (k : Call) → IsAnswer x.policy x.end y.given k a → AllTold (after_call x.policy x.end y.given k a).streams (sents_by x.policy x.end k a)
      go (calls.Poll now) is = subst (λ (b : Answer). AllTold (polled x.policy x.end now).end.streams (sent_if (gave b) (sent_by x.policy x.end now))) (sym (poll_answer x.policy x.end now a is c.served)) (poll_told x.policy x.end now (w.packets x y c.gives).owes here)
      go k is = λ t j. absurd j
