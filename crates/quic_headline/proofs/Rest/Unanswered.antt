-- The packets that ask and came since an end gave an ACK frame: it counts them, and what it has to
-- acknowledge reaches each that the peer doesn't know of.
use Rattle.std.proofs.Common.{◌≡◌, ℕ, ◌+◌, ◌-◌, ◌^◌, ◌<◌, Bool, true, false, cond, min, List, [], ◌∷◌, ◌++◌, map, Option, Some, Ok, refl, sym, ap, ◌∙◌, subst, inl, inr, arith}
use Rattle.std.specs.Prelude.{if◌then◌else◌}
use Rattle.std.specs.List.{list_any}
use Rattle.quic_wire_core.specs.declared.shared.EcnCodepoint.{EcnCodepoint}
use Rattle.quic_wire.specs.Value.{FrameValue, AckValue, ack, asks}
use Rattle.quic_sets.specs.Runs.{Run, AreRuns}
use Rattle.quic_recovery_core.specs.Duplicates.{Seen}
use Rattle.quic_recovery_core.specs.PendingAcks.{Pending, with_one, at_most, after_insert, asking_counted, starts_wait, after_packet}
use Rattle.quic_spaces.specs.Acknowledging.{with_due}
use Rattle.quic_machine.specs.declared.answers.State.TheVariants as states
use Rattle.quic_machine.specs.declared.run.Call.{Call}
use Rattle.quic_machine.specs.declared.run.Answer.{Answer}
use Rattle.quic_machine.specs.End.{End}
use Rattle.quic_machine.specs.Receive.{asks_in, after_taken, Outcome}
use Rattle.quic_machine.specs.Machine.{after_call}
use Rattle.quic_machine.specs.CallCases.{is_delivery}
use Rattle.quic_machine.specs.FrameCases.{named, begun}
use Rattle.quic_machine.specs.IdFrames.{drawn}
use Rattle.quic_headline.specs.Runs.{Packet, Intake, In, Told, IsNamed, names, folded}
use Rattle.quic_headline.specs.Observer.{Sent, Watch, first_watch, news, Lens, watch_told}
use Rattle.quic_headline.specs.Moments.{acknowledges}
use Rattle.quic_headline.specs.Rest.{Unanswered, asking_among, unanswered_told, none_unanswered}
use Rattle.quic_headline.proofs.Packets.Invariant.{AreTracked, Acks}
use Rattle.quic_headline.proofs.Packets.Intakes.{folded_more}
use Rattle.quic_headline.proofs.Packets.Delivered.{frames_at, among_at, Arrivals, arrived, with_taken}
use Rattle.quic_headline.proofs.Packets.Moving.{moved_acks}
use Rattle.quic_packet.specs.Datagram.{Opening}
use Rattle.quic_machine.specs.Policy.{Policy}
use Rattle.quic_machine.specs.Migration.{migrated}
use Rattle.quic_headline.proofs.Packets.Watching.{none_new, one_new}
use Rattle.quic_headline.proofs.Packets.Stays.{keeps_frames}
use Rattle.quic_headline.proofs.Packets.Acking.{packet_runs, runs_step}
use Rattle.quic_headline.proofs.Packets.Group.{meets}
use Rattle.quic_headline.proofs.Places.Told.{in_left, in_append}
use Rattle.quic_headline.proofs.Places.Parties.{sents_by, told_of, Party, called, came_to, lens, watch_of}
use Rattle.quic_headline.proofs.Places.Groups.{Calls, Group}
use Rattle.quic_headline.proofs.Places.Coming.{by_coming}
use Rattle.quic_headline.proofs.Timers.Still.{was_open}
use Rattle.quic_headline.proofs.Timers.Watched.{Observed, watch_behind, went_behind, came_before, came_behind}
use Rattle.quic_headline.proofs.Timers.AckMoments.{asks_same}
use Rattle.quic_headline.proofs.Rest.Standing.{frames_acks, call_stands}
use Rattle.quic_headline.proofs.Rest.Reached.{Reaches, one_reached, more_reached, IsReached, known_on, frames_reached}

-- ---- a packet that is taken

-- a packet that asks counts, and one that doesn't leaves the count
wait_counts : (b : Bool) (p : Pending) (now : ℕ) → (cond b (record p { since = Some now }) p).asking ≡ p.asking
wait_counts true p now = refl
wait_counts false p now = refl

pub taken_counts : (asks : Bool) (p : Pending) (now n : ℕ) (s : Seen) → (asks ≡ true → 0 < (after_packet p now n asks s).asking) × (0 < p.asking → 0 < (after_packet p now n asks s).asking)
taken_counts true p now n s =
    let counted = asking_counted p n s in
    let is : (after_packet p now n true s).asking ≡ min (p.asking + 1) (2 ^ 64 - 1) = wait_counts (starts_wait counted) counted now in
    (λ asks. omega (arith, is), λ some. omega (arith, is))
taken_counts false p now n s = (λ asks. cc, λ some. some)

-- ---- what is owed

-- An end counts a packet of this number that asks, and reaches it, or the peer knows of it.
pub record Owes (sents : List Sent) (took : List Packet) (e : End) (number : ℕ) : Type 0 where
  pub counted : 0 < e.acknowledging.asking
  pub reached : IsReached sents took number e.acknowledging.runs

-- so it is of each of these
abbrev OwesAll : List Sent → List Packet → End → List Packet → Type 0
OwesAll sents took e ps = (p : Packet) → In p ps → Owes sents took e p.number

-- behind a delivery, of these and of those that came by it, while the end is open
abbrev OwesMore : List Sent → Intake → List Packet → End → Intake → Type 0
OwesMore sents i ps e j = e.closing.state ≡ states.Open → OwesAll sents j.took e (asking_among (news i j) ++ ps)

-- where nothing came
none_more : (sents : List Sent) (i : Intake) (ps : List Packet) (e : End) → OwesAll sents i.took e ps → OwesMore sents i ps e i
none_more sents i ps e owes opened = subst (λ (qs : List Packet). OwesAll sents i.took e (asking_among qs ++ ps)) (sym (none_new i)) owes

-- a packet that asks is among those that do, and no other is
asking_one : (q p : Packet) → In p (asking_among (q ∷ [])) → (list_any asks q.frames ≡ true) × (p.number ≡ q.number)
asking_one q p i = go (list_any asks q.frames) refl i
  where
    go : (b : Bool) → list_any asks q.frames ≡ b → In p (cond b (q ∷ []) []) → (list_any asks q.frames ≡ true) × (p.number ≡ q.number)
    go true is (inl same) = (is, ap (λ (x : Packet). x.number) same)
    go true is (inr none) = absurd none
    go false is none = absurd none

module _ (e : End) (now n : ℕ) (frames : List FrameValue) (here : Bool) (i : Intake) (sents : List Sent) (ps : List Packet) (tracked : AreTracked sents e.tracking.packets) (acks : Acks e.acknowledging e.marks.came) where
  -- the packet that comes, what was taken with it, and the end behind its frames
  abbrev packet : Packet
  packet = record { number = n; frames = frames }

  abbrev taken : List Packet
  taken = packet ∷ i.took

  -- of these are taken
  abbrev fs : List FrameValue
  fs = frames_at here frames

  abbrev left : End
  left = (arrived e now n fs).end

  -- the end once it is taken, with a mark or with none
  abbrev due : Bool → Pending
  due urged = with_due urged (after_insert left.acknowledging n left.closing.clock)

  abbrev after : (ℕ → ℕ) → Bool → Option EcnCodepoint → End
  after words urged mark = drawn words (after_taken n (asks_in (map Ok frames)) urged mark left)

  runs : AreRuns left.acknowledging.runs
  runs = ((keeps_frames fs (begun e now n)).acks acks).runs.runs

  named_here : (a : AckValue) (k : ℕ) → In (ack a) fs → names a k ≡ true → IsNamed taken k
  named_here a k among named = record { packet = packet; was_taken = inl refl; frame = a; carried = stands a among; named = named }
    where
      stands : (a : AckValue) → In (ack a) fs → In (ack a) frames
      stands a among = among_at (λ (f : FrameValue). ack a ≡ f → In (ack a) frames) (λ is. cc) here frames (λ f there is. subst (λ (g : FrameValue). In g frames) (sym is) there) (ack a) among refl

  -- what was reached is so behind the frames, or known
  passed_on : (number : ℕ) → IsReached sents i.took number e.acknowledging.runs → IsReached sents taken number left.acknowledging.runs
  passed_on number was = frames_reached sents taken number fs named_here (begun e now n) tracked
      (elim was [ inl known ↦ inl (known_on sents sents i.took taken number (λ s j. j) (λ p j. inr j) known) | inr reached ↦ inr reached ])

  after_runs : (words : ℕ → ℕ) (urged : Bool) (mark : Option EcnCodepoint) → (after words urged mark).acknowledging.runs ≡ at_most (with_one left.acknowledging.runs n)
  after_runs words urged mark = packet_runs (due urged) left.closing.clock n (asks_in (map Ok frames)) left.numbers.opened

  counts : (words : ℕ → ℕ) (urged : Bool) (mark : Option EcnCodepoint) → (asks_in (map Ok frames) ≡ true → 0 < (after words urged mark).acknowledging.asking) × (0 < left.acknowledging.asking → 0 < (after words urged mark).acknowledging.asking)
  counts words urged mark = taken_counts (asks_in (map Ok frames)) (due urged) left.closing.clock n left.numbers.opened

  -- the packet itself
  newest : (words : ℕ → ℕ) (urged : Bool) (mark : Option EcnCodepoint) (p : Packet) → (list_any asks frames ≡ true) × (p.number ≡ n) → Owes sents taken (after words urged mark) p.number
  newest words urged mark p is = record {
    counted = (counts words urged mark).0 (asks_same frames ∙ is.0);
    reached = inr (subst (λ (k : ℕ). Reaches (after words urged mark).acknowledging.runs k) (sym is.1) (subst (λ (rs : List Run). Reaches rs n) (sym (after_runs words urged mark)) (one_reached n left.acknowledging.runs runs)));
  }

  -- one that was owed before
  older : (words : ℕ → ℕ) (urged : Bool) (mark : Option EcnCodepoint) (p : Packet) → Owes sents i.took e p.number → Owes sents taken (after words urged mark) p.number
  older words urged mark p owes = record {
    counted = (counts words urged mark).1 (subst (λ (k : ℕ). 0 < k) (sym (frames_acks fs (begun e now n)).asking) owes.counted);
    reached = elim (passed_on p.number owes.reached) [
      | inl known ↦ inl known
      | inr reached ↦ inr (subst (λ (rs : List Run). Reaches rs p.number) (sym (after_runs words urged mark)) (more_reached n p.number left.acknowledging.runs runs reached))
    ];
  }

  taken_owes : (words : ℕ → ℕ) (urged : Bool) (mark : Option EcnCodepoint) → OwesAll sents i.took e ps → OwesAll sents taken (after words urged mark) (asking_among (news i (with_taken i n frames)) ++ ps)
  taken_owes words urged mark owes = subst (λ (qs : List Packet). OwesAll sents taken (after words urged mark) (asking_among qs ++ ps)) (sym (one_new i n frames)) all
    where
      all : OwesAll sents taken (after words urged mark) (asking_among (packet ∷ []) ++ ps)
      all p among = elim (in_append p (asking_among (packet ∷ [])) ps among) [
        | inl new ↦ newest words urged mark p (asking_one packet p new)
        | inr old ↦ older words urged mark p (owes p old)
      ]

  -- a change of the path leaves what is to be acknowledged
  moved_owes : (p : Policy) (o : Opening) (remote : ℕ) (x : End) (number : ℕ) → Owes sents taken x number → Owes sents taken (migrated p o remote x) number
  moved_owes p o remote x number owes = (let same = moved_acks p o remote x in record {
    counted = subst (λ (q : Pending). 0 < q.asking) (sym same) owes.counted;
    reached = subst (λ (q : Pending). IsReached sents taken number q.runs) (sym same) owes.reached;
  })

  -- each case of a delivery
  arrivals_owe : (e.closing.state ≡ states.Open → OwesAll sents i.took e ps) → Arrivals e now n frames fs i (λ (o : Outcome) (j : Intake). OwesMore sents i ps o.end j)
  arrivals_owe owes = record {
    ignored = λ reason opened. none_more sents i ps e (owes opened) opened;
    noted = λ state reason opened. absurd (let clash : states.Closing ≡ states.Open = sym state ∙ opened in cc);
    takes = λ words state new none urged mark opened. taken_owes words urged mark (owes state);
    moves = λ p o spells remote x opened h still q among. moved_owes p o remote x q.number (h opened q among);
    drains = λ words state new close is opened. absurd cc;
    refuses = λ words state new f is opened. absurd cc;
    exhausts = λ state opened. absurd cc;
  }

-- behind any call that gives no ACK frame
call_owes : (x y : Party) (call : Call) (a : Answer) → Calls Observed x y call a → (ps : List Packet) → acknowledges (sents_by x.policy x.end call a) ≡ false → (x.end.closing.state ≡ states.Open → OwesAll x.sents (came_to x y).took x.end ps)
    → OwesMore x.sents (came_to x y) ps (called x y.given call a).end (came_to (called x y.given call a) y)
call_owes x y call a c ps none owes = by_coming x y a c.joined c.served (meets y x c.takes.0) (OwesMore x.sents (came_to x y) ps) call c.answer (record {
  apart = λ apart opened. none_more x.sents (came_to x y) ps (after_call x.policy x.end y.given call a) (apart_owes apart (was_open x.policy x.end y.given call a opened)) opened;
  none = λ delivery is opened. none_more x.sents (came_to x y) ps x.end (owes opened) opened;
  comes = λ delivery is s among here. arrivals_owe x.end delivery.now s.number s.frames here (came_to x y) x.sents ps c.gives.0.tracked c.takes.0.acks owes;
})
  where
    apart_owes : is_delivery call ≡ false → x.end.closing.state ≡ states.Open → OwesAll x.sents (came_to x y).took (after_call x.policy x.end y.given call a) ps
    apart_owes apart opened p i =
        let was = owes opened p i in
        let count = (call_stands x.policy x.end y.given call a apart c.answer c.served none).0 in
        let runs = (runs_step x.policy x.end y.given call a apart).0 in
        record {
          counted = subst (λ (k : ℕ). 0 < k) (sym count) was.counted;
          reached = subst (λ (rs : List Run). IsReached x.sents (came_to x y).took p.number rs) (sym runs) was.reached;
        }

-- ---- the group

-- what the observer of x knows that isn't answered
abbrev pub unanswered_of : Party → Party → Unanswered
unanswered_of x y = folded (unanswered_told (lens x y)) x.told (none_unanswered (first_watch x.final x.began x.made.path.remote x.first_rtt x.initial_delay))

-- the watch within it is the observer's
pub same_watch : (l : Lens) (told : List Told) (u : Unanswered) → (folded (unanswered_told l) told u).watch ≡ folded (watch_told l) told u.watch
same_watch l [] u = refl
same_watch l (t ∷ told) u = same_watch l told (unanswered_told l t u)

module _ (x y : Party) (call : Call) (a : Answer) (c : Calls Observed x y call a) where
  -- what it knew before the call
  abbrev before : Unanswered
  before = unanswered_of x y

  pub watch_within : before.watch ≡ watch_of x y
  watch_within = same_watch (lens x y) x.told (none_unanswered (first_watch x.final x.began x.made.path.remote x.first_rtt x.initial_delay))

  -- what isn't answered behind a call: an ACK frame that goes ends it
  pub packets_told : (unanswered_of (called x y.given call a) y).packets ≡ (if acknowledges (sents_by x.policy x.end call a) then [] else asking_among (news (came_to x y) (came_to (called x y.given call a) y)) ++ before.packets)
  packets_told =
      let after : Watch = watch_behind x y call a c before.watch watch_within in
      ap (λ (v : Unanswered). v.packets) (folded_more (unanswered_told (lens x y)) x.told (told_of call a x.end.closing.state) (none_unanswered (first_watch x.final x.began x.made.path.remote x.first_rtt x.initial_delay)))
      ∙ ap (λ (ss : List Sent). if acknowledges ss then [] else asking_among (news before.watch.intake after.intake) ++ before.packets) (went_behind x y call a c before.watch watch_within)
      ∙ ap (λ (j : Intake). if acknowledges (sents_by x.policy x.end call a) then [] else asking_among (news j after.intake) ++ before.packets) (came_before x y call a c before.watch watch_within)
      ∙ ap (λ (j : Intake). if acknowledges (sents_by x.policy x.end call a) then [] else asking_among (news (came_to x y) j) ++ before.packets) (came_behind x y call a c before.watch watch_within)

-- While x is open, it owes an acknowledgement of each.
pub record Answers (x y : Party) : Type 0 where
  pub owes : x.end.closing.state ≡ states.Open → (p : Packet) → In p (unanswered_of x y).packets → Owes x.sents (came_to x y).took x.end p.number

-- more was sent
owes_sent : (old more : List Sent) (took : List Packet) (e : End) (number : ℕ) → Owes old took e number → Owes (old ++ more) took e number
owes_sent old more took e number o = record {
  counted = o.counted;
  reached = elim o.reached [ inl known ↦ inl (known_on old (old ++ more) took took number (λ s i. in_left s old more i) (λ p i. i) known) | inr reached ↦ inr reached ];
}

-- so it does behind any call
answers_step : (x y : Party) (call : Call) (a : Answer) → Calls Observed x y call a → Answers x y → Answers (called x y.given call a) y
answers_step x y call a c i = record { owes = λ opened p among. by_acks (acknowledges (sents_by x.policy x.end call a)) refl opened p (subst (λ (ps : List Packet). In p ps) (packets_told x y call a c) among) }
  where
    ps : List Packet
    ps = (unanswered_of x y).packets

    took : List Packet
    took = (came_to (called x y.given call a) y).took

    by_acks : (b : Bool) → acknowledges (sents_by x.policy x.end call a) ≡ b → (called x y.given call a).end.closing.state ≡ states.Open → (p : Packet)
        → In p (if b then [] else asking_among (news (came_to x y) (came_to (called x y.given call a) y)) ++ ps) → Owes (called x y.given call a).sents took (called x y.given call a).end p.number
    by_acks true some opened p among = absurd among
    by_acks false none opened p among = owes_sent x.sents (sents_by x.policy x.end call a) took (called x y.given call a).end p.number (call_owes x y call a c ps none i.owes opened p among)

-- over the packets and what observers know of them
pub answers_group : Group Observed Answers
answers_group = record {
  first = λ x y m there here. record { owes = λ opened p among. absurd among };
  writer = λ x y call a c i back. answers_step x y call a c i;
  reader = λ x y call a c i back. record { owes = back.owes };
  shows = λ x y here there b back i j. record { owes = λ opened p among. (let o = i.owes opened p among in record { counted = o.counted; reached = o.reached }) };
}
