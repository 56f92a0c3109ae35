-- So each ACK frame counts the packets that its end took before, by their marks, at each place of
-- an honest run.
use Rattle.std.proofs.Common.{◌≡◌, ℕ, zero, suc, false, true, List, [], ◌∷◌, ◌++◌, replicate, Some, Ok, refl, ap, ◌∙◌, subst, inl, inr}
use Rattle.quic_wire_core.specs.declared.stream_id.Side.{Side}
use Rattle.quic_wire.specs.Value.{FrameValue, AckValue, ack, padding}
use Rattle.quic_spaces.specs.Marks.{Counts, told_counts}
use Rattle.quic_machine.specs.declared.run.Call.TheVariants as calls
use Rattle.quic_machine.specs.declared.run.Answer.{Answer}
use Rattle.quic_machine.specs.declared.run.Answer.TheVariants as answers
use Rattle.quic_machine.specs.End.{End}
use Rattle.quic_machine.specs.Poll.{zeros_behind, Draft, Leaving, draft_as, polled}
use Rattle.quic_machine.specs.Poll as poll
use Rattle.quic_machine.specs.DraftLaws.{Writing, by_leave, MayLeave}
use Rattle.quic_machine.specs.Puts as puts
use Rattle.quic_machine.specs.PollCases.{ready_at, ready_leaves, draft_at, may_leave_at}
use Rattle.quic_machine.specs.Machine.{World, policy_at, end_at}
use Rattle.quic_headline.specs.Runs.{Run, In, until}
use Rattle.quic_headline.specs.Observer.{Sent, is_close}
use Rattle.quic_headline.specs.Headline.{IsHonest, IsRun}
use Rattle.quic_headline.specs.Moments.{is_ack}
use Rattle.quic_headline.specs.Polls.{GaveOne}
use Rattle.quic_headline.specs.AckFrames.{counts_told, AcksCountMarks}
use Rattle.quic_headline.specs.Waited.{IsCloseAlone}
use Rattle.quic_headline.proofs.Packets.Entries.{IsControl, control_of}
use Rattle.quic_headline.proofs.Places.Told.{in_append}
use Rattle.quic_headline.proofs.Places.Parties.{with_shown, shown_at}
use Rattle.quic_headline.proofs.Places.Groups.{Way, Nothing, And, Group, both, over}
use Rattle.quic_headline.proofs.Places.Everything as everything
use Rattle.quic_headline.proofs.Places.Theorems.{ready}
use Rattle.quic_headline.proofs.Halves.Ready.{Ready}
use Rattle.quic_headline.proofs.Timers.Watched.{Observed}
use Rattle.quic_headline.proofs.Steps.Made.{MadeAt, made_at, PollHolds, poll_holds}
use Rattle.quic_headline.proofs.Steps.Probing.{IsGiving, closing_alone}
use Rattle.quic_headline.proofs.Steps.Probing as probing
use Rattle.quic_headline.proofs.AckFrames.Marks.{counted, told_alike, CountsMarks, marks_group}

-- ---- frames

-- no ACK frame is PADDING
pub none_padding : (a : AckValue) (count : ℕ) → In (ack a) (replicate count padding) → ⊥
none_padding a zero i = i
none_padding a (suc count) (inl is) = cc
none_padding a (suc count) (inr more) = none_padding a count more

-- nor a close with PADDING
pub none_closing : (a : AckValue) (close : FrameValue) (count : ℕ) → is_close close ≡ true → In (ack a) (close ∷ replicate count padding) → ⊥
none_closing a close count closes (inl is) = let clash : false ≡ true = ap is_close is ∙ closes in cc
none_closing a close count closes (inr more) = none_padding a count more

-- an ACK frame stands before one that is none
pub before_other : (a : AckValue) (fs : List FrameValue) (f : FrameValue) → is_ack f ≡ false → In (ack a) (fs ++ f ∷ []) → In (ack a) fs
before_other a fs f none i = elim (in_append (ack a) fs (f ∷ []) i) [
  | inl before ↦ before
  | inr behind ↦ last behind
]
  where
    last : In (ack a) (f ∷ []) → In (ack a) fs
    last (inl is) = (let clash : true ≡ false = ap is_ack is ∙ none in cc)
    last (inr more) = absurd more

pub control_none : (f : FrameValue) → IsControl f → is_ack f ≡ false
control_none (ack a) is = absurd is
control_none f is = refl

-- Each ACK frame of a draft tells these counts, and its end has them.
record Tells (counts : Counts) (d : Draft) : Type 0 where
  has : d.end.marks.came ≡ counts
  each : (a : AckValue) → In (ack a) d.frames → a.ecn ≡ told_counts counts

-- so it is of what goes
draft_tells : (counts : Counts) (leaving : Leaving) (e : End) → MayLeave leaving e → e.marks.came ≡ counts → Tells counts (draft_as leaving e)
draft_tells counts leaving e may same = by_leave (Tells counts) keep leaving e may (record { has = same; each = λ a i. absurd i })
  where
    newest : (d : Draft) → Tells counts d → (a : AckValue) → In (ack a) (ack (poll.ack_of d.end) ∷ []) → a.ecn ≡ told_counts counts
    newest d t a (inl is) = (let here : a ≡ poll.ack_of d.end = cc in ap (λ (b : AckValue). b.ecn) here ∙ ap told_counts t.has)
    newest d t a (inr more) = absurd more

    keep : Writing (Tells counts)
    keep puts.ack d may t = record { has = t.has; each = λ a i. elim (in_append (ack a) d.frames (ack (poll.ack_of d.end) ∷ []) i) [ inl before ↦ t.each a before | inr behind ↦ newest d t a behind ] }
    keep (puts.drops kind) d may t = record { has = t.has; each = t.each }
    keep (puts.control kind f) d is t = record { has = t.has; each = λ a i. t.each a (before_other a d.frames f (control_none f (control_of f kind is.of_kind)) i) }
    keep puts.ping d may t = record { has = t.has; each = λ a i. t.each a (before_other a d.frames _ refl i) }
    keep p d may t = record { has = t.has; each = λ a i. t.each a (before_other a d.frames _ refl i) }

-- ---- the clause

-- all that is known of the packets and the streams, and which marks are counted
abbrev Known : Way
Known = And (everything.All Ready ready) CountsMarks

known : Group Nothing Known
known = both Nothing (everything.All Ready ready) CountsMarks (everything.all Ready ready) (over Observed (And Nothing (everything.All Ready ready)) CountsMarks (λ x y h. (h.1.0.0, h.1.1)) marks_group)

-- what is known of the streams
abbrev Streams : Way
Streams = everything.Streams Ready ready

module _ (r : Run) (end : World) (honest : IsHonest r) (run : IsRun r end) (side : Side) (i now : ℕ) (gave : GaveOne r side i now) (a : AckValue) (among : In (ack a) gave.sent.frames) where
  abbrev answer : Answer
  answer = answers.Poll (Ok (Some gave.transmit))

  at : MadeAt r i side (calls.Poll now) answer
  at = made_at Known known r end honest run i side (calls.Poll now) answer gave.poll gave.served

  abbrev w : World
  w = at.before

  h : PollHolds Known r i side now answer w
  h = poll_holds Known known r end honest run i side now answer w at.behind at.made

  abbrev e : End
  e = with_shown (end_at side w) (shown_at side w)

  -- an open end composed it
  of_open : IsGiving (policy_at side r.keys) e now gave.transmit (polled (policy_at side r.keys) e now).end gave.sent → a.ecn ≡ counts_told (until r side i)
  of_open gives = elim (in_append (ack a) (draft_at e now).frames (replicate (zeros_behind (draft_at e now)) padding) (subst (λ (s : Sent). In (ack a) s.frames) gives.sent among)) [
    | inl here ↦ (draft_tells (counted (until r side i)) (ready_at e now).leaving (ready_at e now).end (may_leave_at e now) counts).each a here ∙ told_alike (until r side i)
    | inr behind ↦ absurd (none_padding a (zeros_behind (draft_at e now)) behind)
  ]
    where
      counts : (ready_at e now).end.marks.came ≡ counted (until r side i)
      counts = ap (λ (x : End). x.marks.came) (ready_leaves e now) ∙ h.gives.1.counts gives.opened

  -- a close goes alone
  of_close : IsCloseAlone gave.sent → a.ecn ≡ counts_told (until r side i)
  of_close c = absurd (none_closing a c.close c.zeros c.is (subst (λ (fs : List FrameValue). In (ack a) fs) c.alone among))

  pub tells_marks : a.ecn ≡ counts_told (until r side i)
  tells_marks = elim (probing.either Streams (everything.all Ready ready) r end honest run side i now gave w at.behind at.made) [
    | inl gives ↦ of_open gives
    | inr close ↦ of_close (closing_alone (policy_at side r.keys) e now gave.transmit gave.sent close)
  ]

pub acks_count_marks : (r : Run) (end : World) → IsHonest r → IsRun r end → AcksCountMarks r
acks_count_marks r end honest run side i now gave a among = tells_marks r end honest run side i now gave a among
