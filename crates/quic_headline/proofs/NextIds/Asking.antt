-- What an end tells of an own id asks for none to be retired.
use Rattle.std.proofs.Common.{◌≡◌, ℕ, zero, suc, false, List, [], ◌∷◌, ◌++◌, replicate, sym, ap, subst, inl, inr}
use Rattle.quic_wire.specs.Value.{FrameValue, NewConnectionIdValue, new_connection_id, padding}
use Rattle.quic_retransmits.specs.Retransmits.{Retransmits}
use Rattle.quic_streams_state.specs.declared.state.StreamsState.{StreamsState}
use Rattle.quic_streams_state.specs.Control.{Goes}
use Rattle.quic_machine.specs.declared.run.Call.{Call}
use Rattle.quic_machine.specs.declared.run.Call.TheVariants as calls
use Rattle.quic_machine.specs.declared.run.Answer.{Answer}
use Rattle.quic_machine.specs.Policy.{Policy}
use Rattle.quic_machine.specs.End.{End}
use Rattle.quic_machine.specs.Puts as puts
use Rattle.quic_machine.specs.Poll.{Draft, zeros_behind}
use Rattle.quic_machine.specs.DraftLaws.{Writing, by_leave}
use Rattle.quic_machine.specs.PollCases.{ready_at, draft_at, frames_at, may_leave_at}
use Rattle.quic_machine.specs.Machine.{IsAnswer, fails, gave}
use Rattle.quic_headline.specs.Runs.{In}
use Rattle.quic_headline.specs.Observer.{Sent}
use Rattle.quic_headline.proofs.Packets.Growth.{in_more}
use Rattle.quic_headline.proofs.Packets.Owing.{Owes, sent_fine}
use Rattle.quic_headline.proofs.Places.Told.{in_append}
use Rattle.quic_headline.proofs.Places.Steps.{poll_answer}
use Rattle.quic_headline.proofs.Places.Parties.{sent_by, sent_if, sents_by}

-- it asks for no id to be retired
abbrev pub AsksNone : FrameValue → Type 0
AsksNone (new_connection_id f) = f.retire_prior_to ≡ 0
AsksNone f = Unit {0}

-- none of these does
abbrev pub AllAskNone : List FrameValue → Type 0
AllAskNone fs = (f : FrameValue) → In f fs → AsksNone f

-- so it is of what goes of control
goes_asks : (p : Retransmits) (s : StreamsState) (f : FrameValue) → Goes p s f → AsksNone f
goes_asks p s (new_connection_id f) goes = ap (λ (v : NewConnectionIdValue). v.retire_prior_to) goes.2
goes_asks p s f goes = tt

one_more : (fs : List FrameValue) (f : FrameValue) → AllAskNone fs → AsksNone f → AllAskNone (fs ++ f ∷ [])
one_more fs f all one g i = elim (in_more g f fs i) [ inl old ↦ all g old | inr is ↦ subst AsksNone (sym is) one ]

-- and of all frames of a draft
abbrev DraftAsks : Draft → Type 0
DraftAsks d = AllAskNone d.frames

writing_asks : Writing DraftAsks
writing_asks (puts.drops kind) d may k = k
writing_asks (puts.control kind f) d is k = one_more d.frames f k (goes_asks d.end.waiting.frames d.end.streams f is.says)
writing_asks p d may k = one_more d.frames _ k tt

zeros_ask : (count : ℕ) → AllAskNone (replicate count padding)
zeros_ask zero f i = absurd i
zeros_ask (suc count) f (inl is) = subst AsksNone (sym is) tt
zeros_ask (suc count) f (inr i) = zeros_ask count f i

-- what a poll gives
frames_ask : (e : End) (now : ℕ) → AllAskNone (frames_at e now)
frames_ask e now f i =
    let d : Draft = draft_at e now in
    let all : DraftAsks d = by_leave DraftAsks writing_asks (ready_at e now).leaving (ready_at e now).end (may_leave_at e now) (λ g j. absurd j) in
    elim (in_append f d.frames (replicate (zeros_behind d) padding) i) [ inl one ↦ all f one | inr zeros ↦ zeros_ask (zeros_behind d) f zeros ]

-- what a call sends
pub call_asks : (p : Policy) (e : End) (theirs : List (List ℕ)) (call : Call) (a : Answer) → IsAnswer p e theirs call a → fails a ≡ false → Owes e → (s : Sent) → In s (sents_by p e call a) → AllAskNone s.frames
call_asks p e theirs (calls.Poll now) a is served owes s i f j =
    sent_fine AsksNone (λ c. tt) (λ c. tt) tt p e now owes (λ opened. frames_ask e now) s (subst (λ (b : Answer). In s (sent_if (gave b) (sent_by p e now))) (poll_answer p e now a is served) i) f j
call_asks p e theirs call a is served owes s i f j = absurd i
