-- ACK frames name numbers of packets that their giver took, and those alone are to be acknowledged.
use Rattle.std.proofs.Common.{◌≡◌, ℕ, zero, suc, inl, inr, Bool, true, false, nat_le, ◌&&◌, ◌||◌, List, [], ◌∷◌, ◌++◌, replicate, refl, sym, ap, ◌∙◌, subst, arith}
use Rattle.std.specs.List.{list_any}
use Rattle.std.proofs.lemmas.Bool.{leb-true, le-leb, and_parts, and_from, or_left, or_right}
use Rattle.std.proofs.lemmas.List.{append-nil}
use Rattle.quic_sets.specs.Runs.{Run, Has}
use Rattle.quic_wire.specs.Value.{FrameValue, AckValue, ack, padding}
use Rattle.quic_wire.specs.Grammar.{Payload}
use Rattle.quic_wire.specs.AckGrammar.{InRanges, GoDown}
use Rattle.quic_wire.specs.AckSet.{ranges_of_set}
use Rattle.quic_wire.proofs.AckSet.{set_numbers}
use Rattle.quic_recovery_core.specs.PendingAcks.{Pending}
use Rattle.quic_machine.specs.declared.run.Call.{Call}
use Rattle.quic_machine.specs.declared.run.Call.TheVariants as calls
use Rattle.quic_machine.specs.declared.run.Answer.{Answer}
use Rattle.quic_machine.specs.declared.run.Answer.TheVariants as answers
use Rattle.quic_machine.specs.Policy.{Policy}
use Rattle.quic_machine.specs.Closing.{ticked}
use Rattle.quic_machine.specs.End.{End, with_closing, closed_by}
use Rattle.quic_machine.specs.Poll.{zeros_behind, Draft, ack_of, draft_as, with_ack, whole, Leaving, lazied_as, Polled, polled}
use Rattle.quic_machine.specs.Poll as poll
use Rattle.quic_headline.proofs.Packets.Entries.{IsControl, control_of}
use Rattle.quic_headline.specs.Runs.{Packet, Intake, In, names}
use Rattle.quic_headline.specs.Observer.{Sent}
use Rattle.quic_machine.specs.Machine.{IsAnswer, fails, gave}
use Rattle.quic_machine.specs.DraftLaws.{Writing, MayLeave, by_leave}
use Rattle.quic_machine.specs.Puts as puts
use Rattle.quic_headline.proofs.Packets.Invariant.{SentAs, NameTaken, WereSent, AreTaken, Acks}
use Rattle.quic_headline.proofs.Packets.Growth.{in_more}
use Rattle.quic_machine.specs.PollCases.{ready_at, frames_at, draft_at, may_leave_at}
use Rattle.quic_headline.proofs.Packets.Delivered.{Arrivals}
use Rattle.quic_headline.proofs.Packets.Probes.{ready_acks}
use Rattle.quic_headline.proofs.Packets.Sends.{GivesClose, by_sends}
use Rattle.quic_headline.proofs.Packets.Owing.{Owes, error_owes, close_is, close_alone}
use Rattle.quic_headline.proofs.Places.Parties.{sent_as, sent_by, sent_if, sents_by}
use Rattle.quic_headline.proofs.Places.Steps.{poll_answer}
use Rattle.quic_headline.proofs.Places.Told.{in_left, in_append}

-- ---- what a frame names

-- a number that a frame names is in one of its ranges
in_ranges : (ranges : List (ℕ × ℕ)) (k : ℕ) → list_any (λ r. nat_le r.0 k && nat_le k r.1) ranges ≡ true → InRanges ranges k
in_ranges [] k named = cc
in_ranges (r ∷ ranges) k named = go (nat_le r.0 k && nat_le k r.1) refl named (in_ranges ranges k)
  where
    go : (b : Bool) → (nat_le r.0 k && nat_le k r.1) ≡ b → (b || list_any (λ x. nat_le x.0 k && nat_le k x.1) ranges) ≡ true
        → (list_any (λ x. nat_le x.0 k && nat_le k x.1) ranges ≡ true → InRanges ranges k) → InRanges (r ∷ ranges) k
    go true is named behind = let parts = and_parts (nat_le r.0 k) (nat_le k r.1) is in inl (leb-true r.0 k parts.0, leb-true k r.1 parts.1)
    go false is named behind = inr (behind named)

-- and a number in one of them is named
ranges_name : (ranges : List (ℕ × ℕ)) (k : ℕ) → InRanges ranges k → list_any (λ r. nat_le r.0 k && nat_le k r.1) ranges ≡ true
ranges_name [] k i = absurd i
ranges_name (r ∷ ranges) k (inl here) =
    or_left (nat_le r.0 k && nat_le k r.1) (list_any (λ x. nat_le x.0 k && nat_le k x.1) ranges) (and_from (nat_le r.0 k) (nat_le k r.1) (le-leb r.0 k here.0) (le-leb k r.1 here.1))
ranges_name (r ∷ ranges) k (inr i) = or_right (nat_le r.0 k && nat_le k r.1) (list_any (λ x. nat_le x.0 k && nat_le k x.1) ranges) (ranges_name ranges k i)

-- the ranges of each ACK frame of a payload go down from its greatest number
acks_go_down : (fs : List FrameValue) (payload : List ℕ) (a : AckValue) → Payload fs payload → In (ack a) fs → GoDown a.largest a.ranges
acks_go_down [] payload a spells i = absurd i
acks_go_down (f ∷ fs) payload a spells (inl is) = here f is spells
  where
    here : (f : FrameValue) → ack a ≡ f → Payload (f ∷ fs) payload → GoDown a.largest a.ranges
    here (ack b) is spells = let same : a ≡ b = cc in rw same spells.2.0
    here f is spells = cc
acks_go_down (f ∷ fs) payload a spells (inr i) = acks_go_down fs spells.1 a spells.3 i

-- so the greatest is in one of them
pub greatest_in : (a : AckValue) (ranges : List (ℕ × ℕ)) → GoDown a.largest ranges → list_any (λ r. nat_le r.0 a.largest && nat_le a.largest r.1) ranges ≡ true
greatest_in a [] down = absurd down
greatest_in a (r ∷ rs) down =
    let top = down.1 in
    let low : nat_le r.0 a.largest ≡ true = le-leb r.0 a.largest (let order = down.0 in omega arith) in
    let high : nat_le a.largest r.1 ≡ true = le-leb a.largest r.1 (omega arith) in
    rw (low, high) refl

-- and so each ACK frame of a payload names its greatest number
pub greatest_named : (fs : List FrameValue) (payload : List ℕ) (a : AckValue) → Payload fs payload → In (ack a) fs → names a a.largest ≡ true
greatest_named fs payload a spells i = greatest_in a a.ranges (acks_go_down fs payload a spells i)

-- ---- the ACK frames of a draft

-- each ACK frame has the ranges of this set
abbrev AckOf : List Run → List FrameValue → Type 0
AckOf runs frames = (a : AckValue) → In (ack a) frames → a.ranges ≡ ranges_of_set runs

-- a draft whose ACK frames have the ranges of the numbers that are to be acknowledged
record Acknowledges (runs : List Run) (d : Draft) : Type 0 where
  frames : AckOf runs d.frames
  same : d.end.acknowledging.runs ≡ runs

-- one frame more that has them, where it is an ACK frame
ack_more : (runs : List Run) (frames : List FrameValue) (f : FrameValue) → AckOf runs frames → ((a : AckValue) → ack a ≡ f → a.ranges ≡ ranges_of_set runs) → AckOf runs (frames ++ f ∷ [])
ack_more runs frames f before one a i = elim (in_more (ack a) f frames i) [ inl old ↦ before a old | inr is ↦ one a is ]

-- a frame of control is no ACK frame
no_ack : (f : FrameValue) (a : AckValue) → IsControl f → ack a ≡ f → ⊥
no_ack f a is same = subst IsControl (sym same) is

-- so has one that goes
acked_acknowledges : (runs : List Run) (d : Draft) → Acknowledges runs d → Acknowledges runs (with_ack d)
acked_acknowledges runs d k = record {
  frames = ack_more runs d.frames (ack (ack_of d.end)) k.frames (λ a is. (let same : a ≡ ack_of d.end = cc in ap (λ (x : AckValue). x.ranges) same ∙ ap ranges_of_set k.same));
  same = k.same;
}

-- whichever frames go, ACK frames have them
acknowledges : (runs : List Run) → Writing (Acknowledges runs)
acknowledges runs puts.ack d may k = acked_acknowledges runs d k
acknowledges runs (puts.drops kind) d may k = record { frames = k.frames; same = k.same }
acknowledges runs (puts.control kind f) d is k = record { frames = ack_more runs d.frames f k.frames (λ a ack_is. absurd (no_ack f a (control_of f kind is.of_kind) ack_is)); same = k.same }
acknowledges runs p d may k = record { frames = ack_more runs d.frames _ k.frames (λ a is. cc); same = k.same }

draft_acknowledges : (leaving : Leaving) (e : End) → MayLeave leaving e → Acknowledges e.acknowledging.runs (draft_as leaving e)
draft_acknowledges leaving e may = by_leave (Acknowledges e.acknowledging.runs) (acknowledges e.acknowledging.runs) leaving e may (record { frames = λ a i. absurd i; same = same leaving })
  where
    same : (l : Leaving) → (lazied_as l e).acknowledging.runs ≡ e.acknowledging.runs
    same whole = refl
    same other = refl

-- PADDING behind frames has none
ack_zeros : (runs : List Run) (frames : List FrameValue) (count : ℕ) → AckOf runs frames → AckOf runs (frames ++ replicate count padding)
ack_zeros runs [] zero all a i = absurd i
ack_zeros runs [] (suc count) all a (inl is) = cc
ack_zeros runs [] (suc count) all a (inr i) = ack_zeros runs [] count (λ b j. absurd j) a i
ack_zeros runs (f ∷ frames) count all a (inl is) = all a (inl is)
ack_zeros runs (f ∷ frames) count all a (inr i) = ack_zeros runs frames count (λ b j. all b (inr j)) a i

-- an ACK frame that goes has the ranges of the numbers that its giver has to acknowledge
pub ranges_kept : (e : End) (now : ℕ) (a : AckValue) → In (ack a) (frames_at e now) → a.ranges ≡ ranges_of_set e.acknowledging.runs
ranges_kept e now a i =
    let ready = (ready_at e now).end in
    let d = draft_at e now in
    let acknowledges = draft_acknowledges (ready_at e now).leaving ready (may_leave_at e now) in
    let count : ℕ = zeros_behind d in
    let ranges : a.ranges ≡ ranges_of_set ready.acknowledging.runs = ack_zeros ready.acknowledging.runs d.frames count acknowledges.frames a i in
    ranges ∙ ap (λ (p : Pending). ranges_of_set p.runs) (ready_acks e now)

-- a number that it names is one of them
pub names_kept : (e : End) (now : ℕ) (a : AckValue) (k : ℕ) → Acks e.acknowledging e.marks.came → In (ack a) (frames_at e now) → names a k ≡ true → Has e.acknowledging.runs k
names_kept e now a k acks i named =
    (set_numbers e.acknowledging.runs k acks.runs.runs).1 (subst (λ (rs : List (ℕ × ℕ)). InRanges rs k) (ranges_kept e now a i) (in_ranges a.ranges k named))

-- and it names each of them
pub kept_named : (e : End) (now : ℕ) (a : AckValue) (k : ℕ) → Acks e.acknowledging e.marks.came → In (ack a) (frames_at e now) → Has e.acknowledging.runs k → names a k ≡ true
kept_named e now a k acks i has = ranges_name a.ranges k (subst (λ (rs : List (ℕ × ℕ)). InRanges rs k) (sym (ranges_kept e now a i)) ((set_numbers e.acknowledging.runs k acks.runs.runs).0 has))

-- ---- what was sent

-- what was sent so stays so where more is sent
pub were_sent_more : (sents more : List Sent) (packets : List Packet) → WereSent sents packets → WereSent (sents ++ more) packets
were_sent_more sents more packets before packet i =
    let w = before packet i in
    record { sent = w.sent; is = (in_left w.sent sents more w.is.0, w.is.1); frames = w.frames }

-- in each case of a delivery the packets that were taken were sent so
pub sent_arrivals : (e : End) (now n : ℕ) (frames those : List FrameValue) (i : Intake) (sents : List Sent) (s : Sent) → SentAs sents n s → s.frames ≡ frames → WereSent sents i.took
    → Arrivals e now n frames those i (λ o j. WereSent sents j.took)
sent_arrivals e now n frames those i sents s is same before = record {
  ignored = λ reason. before;
  noted = λ state reason. before;
  takes = λ words state new none urged mark. taken;
  moves = λ p o unread remote x opened w. w;
  drains = λ words state new close at. taken;
  refuses = λ words state new f at. before;
  exhausts = λ state. before;
}
  where
    taken : WereSent sents (record { number = n; frames = frames } ∷ i.took)
    taken packet (inl this) = record { sent = s; is = (is.0, is.1 ∙ sym (ap (λ (x : Packet). x.number) this)); frames = same ∙ sym (ap (λ (x : Packet). x.frames) this) }
    taken packet (inr old) = before packet old

-- ---- what ACK frames name

-- what was taken stays so where more is taken
pub name_taken_on : (sents : List Sent) (packets more : List Packet) → ((packet : Packet) → In packet packets → In packet more) → NameTaken sents packets → NameTaken sents more
name_taken_on sents packets more on before s a k is i named =
    let t = before s a k is i named in
    record { packet = t.packet; was_taken = on t.packet t.was_taken; is = t.is }

-- what a poll gives names numbers that its giver has to acknowledge: a close names none
polled_names : (p : Policy) (e : End) (now : ℕ) → Owes e → Acks e.acknowledging e.marks.came → (s : Sent) → In s (sent_if (gave (answers.Poll (polled p e now).answer)) (sent_by p e now)) → (a : AckValue) (k : ℕ) → In (ack a) s.frames → names a k ≡ true → Has e.acknowledging.runs k
polled_names p e now owes acks = by_sends p e now (λ (q : Polled) (more : List Sent). (s : Sent) → In s more → Names s) (record {
  silent = λ s i. absurd i;
  failed = λ s i. absurd i;
  repeats = λ is. closing (with_closing e (ticked e.closing now)) owes;
  nothing = λ is none s i. absurd i;
  closes = λ reason is bound. closing (closed_by reason (ready_at e now).end) (error_owes reason (ready_at e now).end);
  gives = λ is bound some. one (sent_as e now (draft_at e now)) (λ a k i named. names_kept e now a k acks i named);
})
  where
    Names : Sent → Type 0
    Names s = (a : AckValue) (k : ℕ) → In (ack a) s.frames → names a k ≡ true → Has e.acknowledging.runs k

    one : (t : Sent) → Names t → (s : Sent) → In s (t ∷ []) → Names s
    one t names s (inl is) = subst Names (sym is) names
    one t names s (inr none) = absurd none

    closing : (x : End) → Owes x → GivesClose p e now (λ (q : Polled) (more : List Sent). (s : Sent) → In s more → Names s) x
    closing x due = (
      λ s i. absurd i,
      λ f goes. one (sent_as e now (draft_as (poll.closing f) x)) (λ a k i named. elim (close_alone x f (close_is p x due f goes) (ack a) i) [ inl is ↦ absurd is | inr is ↦ cc ]),
    )

-- what a call sends names numbers of packets that were taken
pub name_taken_step : (p : Policy) (e : End) (theirs : List (List ℕ)) (call : Call) (answer : Answer) (sents : List Sent) (packets : List Packet) → IsAnswer p e theirs call answer → fails answer ≡ false → Owes e
    → Acks e.acknowledging e.marks.came → AreTaken e.acknowledging.runs packets → NameTaken sents packets → NameTaken (sents ++ sents_by p e call answer) packets
name_taken_step p e theirs (calls.Poll now) answer sents packets is served owes acks taken before = λ s a k i j named. elim (in_append s sents (sent_if (gave answer) (sent_by p e now)) i) [
  | inl old ↦ before s a k old j named
  | inr new ↦ taken k (polled_names p e now owes acks s (subst (λ (b : Answer). In s (sent_if (gave b) (sent_by p e now))) (poll_answer p e now answer is served) new) a k j named)
]
name_taken_step p e theirs call answer sents packets is served owes acks taken before = subst (λ (x : List Sent). NameTaken x packets) (sym (append-nil sents)) before
