-- What was sent since the last datagram that asks asks for nothing: a packet that is forgotten
-- carried nothing that has to reach the peer.
use Rattle.std.proofs.Common.{◌≡◌, ℕ, ◌<◌, replicate, Bool, true, false, List, [], ◌∷◌, ◌++◌, Option, refl, sym, ap, ◌∙◌, subst, inl, inr, arith}
use Rattle.std.proofs.lemmas.Bool.{le-ltb}
use Rattle.std.specs.List.{list_any}
use Rattle.quic_wire.specs.Value.{FrameValue, asks, padding}
use Rattle.quic_machine.specs.DraftLaws.{IsClose}
use Rattle.quic_machine.specs.declared.run.Call.{Call}
use Rattle.quic_machine.specs.declared.run.Call.TheVariants as calls
use Rattle.quic_machine.specs.declared.run.Answer.{Answer}
use Rattle.quic_machine.specs.declared.run.Answer.TheVariants as answers
use Rattle.quic_machine.specs.Policy.{Policy}
use Rattle.quic_machine.specs.Closing.{ticked}
use Rattle.quic_machine.specs.Tracking.{Tracking, TrackedPacket, is_behind, asking_sent}
use Rattle.quic_machine.specs.End.{End, with_closing, closed_by, number_of}
use Rattle.quic_machine.specs.Poll.{Polled, Draft, asking, polled, goes, tracked, Ready}
use Rattle.quic_machine.specs.PollCases.{ready_at, ready_leaves, draft_at, composes, may_leave_at}
use Rattle.quic_machine.specs.CallCases.{is_poll}
use Rattle.quic_machine.specs.Machine.{IsAnswer, after_call, fails, gave}
use Rattle.quic_headline.specs.Runs.{In}
use Rattle.quic_headline.specs.Observer.{Sent, asks_of}
use Rattle.quic_headline.proofs.Packets.Invariant.{IsCarriedFrom, AreTracked}
use Rattle.quic_headline.proofs.Packets.Probes.{by_ready, by_going}
use Rattle.quic_headline.proofs.Packets.Given.{allocated_near, draft_number}
use Rattle.quic_headline.proofs.Packets.Flying.{asking_padded}
use Rattle.quic_headline.proofs.Places.Told.{in_append}
use Rattle.quic_headline.proofs.Places.Parties.{sent_by, sent_if, sents_by, sent_as}
use Rattle.quic_headline.proofs.Places.Steps.{poll_answer}
use Rattle.quic_headline.proofs.Duties.Carrier.{IsNew, number_new}
use Rattle.quic_headline.proofs.Packets.Sends.{by_sends}
use Rattle.quic_headline.proofs.Packets.Owing.{Owes, close_is, error_owes}
use Rattle.quic_headline.proofs.Packets.Bare.{close_bare, asks_not}
use Rattle.quic_headline.proofs.Packets.EndMoves.{Cause, cause_of, IsPoll, Keeps}
use Rattle.quic_headline.proofs.Packets.EndMoves as moves
use Rattle.quic_headline.proofs.Packets.ByMoves.{no_poll, behind_call}

-- those that ask aren't above the greatest that asks
abbrev pub AskBefore : List Sent → Option ℕ → Type 0
AskBefore sents greatest = (s : Sent) → In s sents → asks_of s ≡ true → is_behind greatest s.number ≡ false

-- so a tracked packet above it carries what frames say that don't ask
pub record Quiet (sents : List Sent) (q : ℕ × TrackedPacket) : Type 0 where
  pub sent : Sent
  pub among : In sent sents
  pub number : sent.number ≡ q.0
  pub carried : IsCarriedFrom q.1.carried sent.frames
  pub quiet : asks_of sent ≡ false

-- one that was sent above the greatest that asks doesn't ask
pub sent_quiet : (sents : List Sent) (greatest : Option ℕ) (s : Sent) → AskBefore sents greatest → In s sents → is_behind greatest s.number ≡ true → asks_of s ≡ false
sent_quiet sents greatest s before among behind = go (asks_of s) refl
  where
    go : (b : Bool) → asks_of s ≡ b → asks_of s ≡ false
    go false is = is
    go true is = let clash : true ≡ false = sym behind ∙ before s among is in cc

pub tail_quiet : (sents : List Sent) (t : Tracking) → AreTracked sents t.packets → AskBefore sents t.greatest_asking → (q : ℕ × TrackedPacket) → In q t.packets → is_behind t.greatest_asking q.0 ≡ true → Quiet sents q
tail_quiet sents t tracked before q i behind =
    let was = tracked q.0 q.1 i in
    record {
      sent = was.0;
      among = was.1.0;
      number = was.1.1;
      carried = was.2;
      quiet = sent_quiet sents t.greatest_asking was.0 before was.1.0 (ap (λ (n : ℕ). is_behind t.greatest_asking n) was.1.1 ∙ behind);
    }

-- ---- what stays

-- the greatest that asks
abbrev Stays : Option ℕ → End → Type 0
Stays greatest e = e.tracking.greatest_asking ≡ greatest

-- only a poll changes it
greatest_kept : (greatest : Option ℕ) (by : Cause) → (IsPoll by → ⊥) → Keeps by (Stays greatest)
greatest_kept greatest by other (moves.tracks n sent) x may i = absurd (other may.0)
greatest_kept greatest by other m x may i = i

-- another call than a poll
other_stays : (p : Policy) (e : End) (theirs : List (List ℕ)) (call : Call) (a : Answer) → is_poll call ≡ false → Stays e.tracking.greatest_asking (after_call p e theirs call a)
other_stays p e theirs call a apart = behind_call (Stays e.tracking.greatest_asking) p e theirs call a (greatest_kept e.tracking.greatest_asking (cause_of call) (no_poll call apart)) refl

-- ---- a datagram goes

-- the number that goes next is none of a tracked packet
pub next_new : (sents : List Sent) (e : End) → ((s : Sent) → In s sents → s.number < e.numbers.next) → AreTracked sents e.tracking.packets → IsNew e.tracking.packets (number_of e)
next_new sents e below tracked = number_new sents e.tracking.packets (number_of e) (λ s i. (
    let less = below s i in
    let near = (allocated_near e.filter e.numbers.next).0 in
    omega arith)) tracked

-- one more is sent
before_sent : (sents : List Sent) (s : Sent) (b : Bool) (n now : ℕ) (t : Tracking) → s.number ≡ n → asks_of s ≡ b → ((u : Sent) → In u sents → u.number < n) → AskBefore sents t.greatest_asking → AskBefore (sents ++ s ∷ []) (asking_sent b n now t).greatest_asking
before_sent sents s true n now t number is below before u i asks = elim (in_append u sents (s ∷ []) i) [
  | inl old ↦ (let less = below u old in le-ltb n u.number (omega arith))
  | inr last ↦ elim last [ inl same ↦ (let here : u.number ≡ n = ap (λ (x : Sent). x.number) same ∙ number in le-ltb n u.number (omega arith)) | inr none ↦ absurd none ]
]
before_sent sents s false n now t number is below before u i asks = elim (in_append u sents (s ∷ []) i) [
  | inl old ↦ before u old asks
  | inr last ↦ elim last [ inl same ↦ (let clash : true ≡ false = sym asks ∙ ap asks_of same ∙ is in cc) | inr none ↦ absurd none ]
]

-- a close doesn't ask, nor does PADDING beside it
before_close : (sents : List Sent) (f : FrameValue) → IsClose f → (count : ℕ) (s : Sent) (greatest : Option ℕ) → s.frames ≡ f ∷ replicate count padding → AskBefore sents greatest → AskBefore (sents ++ s ∷ []) greatest
before_close sents f is count s greatest frames before u i asked = elim (in_append u sents (s ∷ []) i) [
  | inl old ↦ before u old asked
  | inr last ↦ elim last [
    | inl same ↦ (let clash : true ≡ false = sym asked ∙ ap asks_of same ∙ ap (λ (fs : List FrameValue). list_any asks fs) frames ∙ close_bare asks refl asks_not f is count in cc)
    | inr none ↦ absurd none
  ]
]

-- none is
before_none : (sents : List Sent) (greatest : Option ℕ) → AskBefore sents greatest → AskBefore (sents ++ []) greatest
before_none sents greatest before u i = elim (in_append u sents [] i) [ inl old ↦ before u old | inr none ↦ absurd none ]

-- an end that is ready to give leaves the greatest that asks
pub ready_before : (sents : List Sent) (e : End) (now : ℕ) → AskBefore sents e.tracking.greatest_asking → AskBefore sents (ready_at e now).end.tracking.greatest_asking
ready_before sents e now before = by_ready (λ (x : End). AskBefore sents x.tracking.greatest_asking) e now before (λ ping immediate x i. i) (λ waits x i. i) (λ q i. before) (λ moment pacing discovery x i. i)

-- after a poll
before_polled : (p : Policy) (e : End) (now : ℕ) (sents : List Sent) → Owes e → ((s : Sent) → In s sents → s.number < e.numbers.next) → AskBefore sents e.tracking.greatest_asking
    → AskBefore (sents ++ sent_if (gave (answers.Poll (polled p e now).answer)) (sent_by p e now)) (polled p e now).end.tracking.greatest_asking
before_polled p e now sents owes below before =
    by_sends p e now (λ (q : Polled) (ss : List Sent). AskBefore (sents ++ ss) q.end.tracking.greatest_asking) (record {
      silent = before_none sents e.tracking.greatest_asking before;
      failed = before_none sents e.tracking.greatest_asking before;
      nothing = λ is none. before_none sents (ready_at e now).end.tracking.greatest_asking ready;
      repeats = λ is. (
        before_none sents e.tracking.greatest_asking before,
        λ f goes. (let x : End = with_closing e (ticked e.closing now) in before_close sents f (close_is p x owes f goes) _ _ e.tracking.greatest_asking refl before),
      );
      closes = λ reason is bound. (
        before_none sents (ready_at e now).end.tracking.greatest_asking ready,
        λ f goes. (let x : End = (ready_at e now).end in before_close sents f (close_is p (closed_by reason x) (error_owes reason x) f goes) _ _ x.tracking.greatest_asking refl ready),
      );
      gives = λ is may some. by_going (λ (x : End). AskBefore (sents ++ sent_as e now (draft_at e now) ∷ []) x.tracking.greatest_asking) p (draft_at e now) (λ pacing. gives some);
    })
  where
    ready : AskBefore sents (ready_at e now).end.tracking.greatest_asking
    ready = ready_before sents e now before

    gives : goes (ready_at e now) ≡ true → AskBefore (sents ++ sent_as e now (draft_at e now) ∷ []) (tracked (draft_at e now)).tracking.greatest_asking
    gives some =
        let g : Ready = ready_at e now in
        let d : Draft = draft_at e now in
        let number : number_of e ≡ number_of d.end = sym (draft_number g.leaving g.end (may_leave_at e now) ∙ ap (λ (x : End). number_of x) (ready_leaves e now)) in
        let near = (allocated_near e.filter e.numbers.next).0 in
        let here : AskBefore sents d.end.tracking.greatest_asking = subst (λ (t : Tracking). AskBefore sents t.greatest_asking) (sym (composes g.leaving g.end (may_leave_at e now)).tracking) ready in
        before_sent sents (sent_as e now d) (asking d.frames) (number_of d.end) d.end.closing.clock _ number (asking_padded d.frames _) (λ u i. (let less = below u i in omega arith)) here

-- any call that lacks no memory
pub before_call : (p : Policy) (e : End) (theirs : List (List ℕ)) (call : Call) (a : Answer) (sents : List Sent) → Owes e → IsAnswer p e theirs call a → fails a ≡ false → ((s : Sent) → In s sents → s.number < e.numbers.next) → AskBefore sents e.tracking.greatest_asking
    → AskBefore (sents ++ sents_by p e call a) (after_call p e theirs call a).tracking.greatest_asking
before_call p e theirs (calls.Poll now) a sents owes is served below before =
    subst (λ (x : Answer). AskBefore (sents ++ sent_if (gave x) (sent_by p e now)) (polled p e now).end.tracking.greatest_asking) (sym (poll_answer p e now a is served)) (before_polled p e now sents owes below before)
before_call p e theirs call a sents owes is served below before =
    before_none sents (after_call p e theirs call a).tracking.greatest_asking (subst (AskBefore sents) (sym (other_stays p e theirs call a refl)) before)
