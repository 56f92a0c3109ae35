-- What a delivery comes to: nothing that is new, or a packet that the other end sent, taken or
-- refused; and what came stays so by more calls.
use Rattle.std.proofs.Common.{◌≡◌, ℕ, suc, Bool, true, false, cond, List, [], ◌∷◌, ◌++◌, length, map, Option, Some, None, Ok, refl, sym, ap, ◌∙◌, subst, inl, inr, arith}
use Rattle.std.specs.Prelude.{slice_get}
use Rattle.std.proofs.lemmas.List.{append_assoc}
use Rattle.quic_wire_core.specs.declared.shared.EcnCodepoint.{EcnCodepoint}
use Rattle.quic_wire.specs.Value.{FrameValue}
use Rattle.quic_wire.specs.Items.{items}
use Rattle.quic_packet.specs.Datagram.{Opening}
use Rattle.quic_machine.specs.Arrival.{Arrival, delivered_by}
use Rattle.quic_machine.specs.declared.answers.State.{State}
use Rattle.quic_machine.specs.declared.answers.State.TheVariants as states
use Rattle.quic_machine.specs.declared.answers.Received.TheVariants.{Taken, Closed}
use Rattle.quic_machine.specs.declared.run.Call.TheVariants as calls
use Rattle.quic_machine.specs.declared.run.Delivery.{Delivery}
use Rattle.quic_machine.specs.declared.run.Answer.{Answer}
use Rattle.quic_machine.specs.declared.run.Answer.TheVariants as answers
use Rattle.quic_machine.specs.Policy.{Policy}
use Rattle.quic_machine.specs.Closing.{Closing}
use Rattle.quic_wire.specs.Close.{CloseValue}
use Rattle.quic_machine.specs.declared.answers.LostReason.TheVariants as reasons
use Rattle.quic_machine.specs.Receive.{Fault, closed_by_peer, error_of, reason_of, Outcome, asks_in, after_taken, received}
use Rattle.quic_machine.specs.End.{End}
use Rattle.quic_machine.specs.Migration.{is_there, migrated}
use Rattle.quic_machine.specs.Machine.{IsAnswer, IsDelivered, after_delivered, after_call, fails, says_last}
use Rattle.quic_machine.specs.FrameCases.{begun}
use Rattle.quic_machine.specs.IdFrames.{drawn}
use Rattle.quic_headline.specs.Runs.{Told, Intake, In, frames_of, is_again, expected_behind, handed, opens_by_key, is_elsewhere, came_open, and_opened, and_handed}
use Rattle.quic_headline.specs.Observer.{Sent}
use Rattle.quic_headline.specs.Causes.{came_by, PacketCame, IsCrowded, CrowdCame, most_runs}
use Rattle.quic_headline.proofs.Packets.Invariant.{IsSent}
use Rattle.quic_headline.proofs.Packets.Growth.{get_front, step_at}
use Rattle.quic_headline.proofs.Packets.Stays.{keeps_frames}
use Rattle.quic_headline.proofs.Packets.Moved.{by_migrated}
use Rattle.quic_headline.proofs.Packets.Delivered.{frames_at, Arrivals, arrived, with_refused, with_taken, shown, shown_if, expands, by_key_given, frames_of_payload, by_arrival}
use Rattle.quic_headline.proofs.Places.Parties.{told_of, Party, came_to, AreJoined}
use Rattle.quic_headline.proofs.Places.Coming.{Meets}
use Rattle.quic_headline.proofs.Causes.Closing.{Keeps}
use Rattle.quic_headline.proofs.Causes.Crowded.{IsCrowdedBy}

-- ---- what came stays so by more calls

abbrev packet_more : (p : Policy) (given : List (List ℕ)) (told : List Told) (t : Told) → PacketCame p given told → PacketCame p given (told ++ t ∷ [])
packet_more p given told t c = record {
  before = c.before;
  call = c.call;
  behind = c.behind ++ t ∷ [];
  split = ap (λ (ts : List Told). ts ++ t ∷ []) c.split ∙ append_assoc c.before (c.call ∷ c.behind) (t ∷ []);
  was_open = c.was_open;
  datagram = c.datagram;
  handed_in = c.handed_in;
  opening = c.opening;
  opened = c.opened;
  new = c.new;
}

pub crowd_more : (p : Policy) (window : ℕ) (given : List (List ℕ)) (told : List Told) (t : Told) → CrowdCame p window given told → CrowdCame p window given (told ++ t ∷ [])
crowd_more p window given told t m = record {
  packet = packet_more p given told t m.packet;
  crowded = record { front = m.crowded.front; frame = m.crowded.frame; rest = m.crowded.rest; frames = m.crowded.frames; many = m.crowded.many };
}

-- ---- a delivery

module _ (x y : Party) (delivery : Delivery) (a : Answer) where
  -- what is told of it
  abbrev pub now_told : Told
  now_told = told_of (calls.Deliver delivery) a x.end.closing.state

  abbrev pub then : List Told
  then = x.told ++ now_told ∷ []

  -- a packet that came by calls up to this one
  abbrev pub CameThen : Type 0
  CameThen = PacketCame x.policy y.final then

  -- the frames of it that are taken: from elsewhere those of path validation aren't
  abbrev pub taken_of : Sent → List FrameValue
  taken_of s = frames_at (is_there delivery.remote x.end) s.frames

  -- The packet of what y sent so came by this call, and no other.
  pub record IsNew (s : Sent) : Type 0 where
    pub packet : CameThen
    pub before : packet.before ≡ x.told
    pub call : packet.call ≡ now_told
    pub number : packet.opening.number ≡ s.number
    pub frames : frames_of (items packet.opening.payload) ≡ s.frames
    pub alone : (h : CameThen) → h.before ≡ x.told → h.call ≡ now_told → h.opening ≡ packet.opening

  -- what it leaves of x
  pub data Judged (after : End) : Type 0 where
    -- no packet that is new came
    nothing : Keeps x.end after → ((h : CameThen) → h.before ≡ x.told → h.call ≡ now_told → ⊥) → Judged after
    -- one came, and was taken
    taken : (s : Sent) → In s y.sents → IsNew s → x.end.closing.state ≡ states.Open → (arrived x.end delivery.now s.number (taken_of s)).fault ≡ None → a ≡ answers.Deliver Taken → Keeps x.end after → Judged after
    -- none came, but it was the last that may not open
    exhausted : ((h : CameThen) → h.before ≡ x.told → h.call ≡ now_told → ⊥) → after.closing.reason ≡ Some reasons.KeyLimit → after.closing.state ≡ states.Closing → Judged after
    -- one came in which y closed: it was taken so far, and x is drained
    drained : (s : Sent) → In s y.sents → IsNew s → x.end.closing.state ≡ states.Open → (close : CloseValue) → (arrived x.end delivery.now s.number (taken_of s)).fault ≡ Some (closed_by_peer close) → a ≡ answers.Deliver Taken
        → after.closing.reason ≡ Some (reasons.Peer close) → after.closing.state ≡ states.Drained → Judged after
    -- one came, and was refused
    refused : (s : Sent) → In s y.sents → IsNew s → x.end.closing.state ≡ states.Open → (f : Fault) → (arrived x.end delivery.now s.number (taken_of s)).fault ≡ Some f → a ≡ answers.Deliver (Closed (error_of f))
        → after.closing.reason ≡ Some (reason_of f) → after.closing.state ≡ states.Closing → Judged after

  -- where the packet is crowded, it is so by what the lists say
  pub crowd_is : (window : ℕ) (s : Sent) → IsCrowdedBy window x.told (came_to x y).took s.number s.frames → (n : IsNew s) → (h : CameThen) → h.before ≡ x.told → h.call ≡ now_told → IsCrowded x.policy y.final then h (most_runs window)
  crowd_is window s c n h same call = record {
    front = c.front;
    frame = c.frame;
    rest = c.rest;
    frames = ap (λ (o : Opening). frames_of (items o.payload)) (n.alone h same call) ∙ n.frames ∙ c.split;
    many = rw (same, n.alone h same call, n.number) c.many;
  }

  module _ (joined : AreJoined x y) (meets : Meets y x) (s : Sent) (among : In s y.sents) (d : List ℕ) (given : IsSent y.policy s d) (at_final : slice_get y.final delivery.index ≡ Some d) (is : a ≡ answers.Deliver (received x.policy x.end (delivered_by (says_last a) delivery) d).answer) where
    abbrev i : Intake
    i = came_to x y

    abbrev now : ℕ
    now = delivery.now

    abbrev arrival : Arrival
    arrival = delivered_by (says_last a) delivery

    abbrev n : ℕ
    n = s.number

    abbrev frames : List FrameValue
    frames = s.frames

    abbrev within : List FrameValue
    within = taken_of s

    -- what becomes of x, by an outcome and by what came then
    data Met (o : Outcome) (j : Intake) : Type 0 where
      met_nothing : Keeps x.end o.end → (x.end.closing.state ≡ states.Open → j ≡ i) → Met o j
      met_last : x.end.closing.state ≡ states.Open → o.end.closing.reason ≡ Some reasons.KeyLimit → o.end.closing.state ≡ states.Closing → j ≡ i → Met o j
      met_drained : x.end.closing.state ≡ states.Open → is_again n i.opened ≡ false → (close : CloseValue) → (arrived x.end now n within).fault ≡ Some (closed_by_peer close) → o.answer ≡ Taken → o.end.closing.reason ≡ Some (reasons.Peer close) → o.end.closing.state ≡ states.Drained
          → j ≡ with_taken i n frames → Met o j
      met_taken : x.end.closing.state ≡ states.Open → is_again n i.opened ≡ false → (arrived x.end now n within).fault ≡ None → o.answer ≡ Taken → Keeps x.end o.end → j ≡ with_taken i n frames → Met o j
      met_refused : x.end.closing.state ≡ states.Open → is_again n i.opened ≡ false → (f : Fault) → (arrived x.end now n within).fault ≡ Some f → o.answer ≡ Closed (error_of f) → o.end.closing.reason ≡ Some (reason_of f) → o.end.closing.state ≡ states.Closing
          → j ≡ with_refused i n frames → Met o j

    keeps_taken : (words : ℕ → ℕ) (urged : Bool) (codepoint : Option EcnCodepoint) → Keeps x.end (drawn words (after_taken n (asks_in (map Ok frames)) urged codepoint (arrived x.end now n within).end))
    keeps_taken words urged codepoint =
        let k = keeps_frames within (begun x.end now n) in
        record { reason = ap (λ (c : Closing). c.reason) k.closing; state = ap (λ (c : Closing). c.state) k.closing }

    -- another path changes nothing of that
    met_moves : (p : Policy) (o : Opening) (remote : ℕ) (e : End) (j : Intake) → Met (record { answer = Taken; end = e }) j → Met (record { answer = Taken; end = migrated p o remote e }) j
    met_moves p o remote e j met = by_migrated (λ (z : End). z.closing ≡ e.closing → Met (record { answer = Taken; end = z }) j) p o remote e (λ c same. go met _ same) (λ c most same. go met _ same) (by_migrated (λ (z : End). z.closing ≡ e.closing) p o remote e (λ c. refl) (λ c most. refl))
      where
        go : Met (record { answer = Taken; end = e }) j → (z : End) → z.closing ≡ e.closing → Met (record { answer = Taken; end = z }) j
        go (met_nothing keeps none) z same = met_nothing (record { reason = ap (λ (c : Closing). c.reason) same ∙ keeps.reason; state = ap (λ (c : Closing). c.state) same ∙ keeps.state }) none
        go (met_last open_before reason state came) z same = met_last open_before (ap (λ (c : Closing). c.reason) same ∙ reason) (ap (λ (c : Closing). c.state) same ∙ state) came
        go (met_drained open_before new close fault answer reason state came) z same = met_drained open_before new close fault answer (ap (λ (c : Closing). c.reason) same ∙ reason) (ap (λ (c : Closing). c.state) same ∙ state) came
        go (met_taken open_before new none answer keeps came) z same = met_taken open_before new none answer (record { reason = ap (λ (c : Closing). c.reason) same ∙ keeps.reason; state = ap (λ (c : Closing). c.state) same ∙ keeps.state }) came
        go (met_refused open_before new f fault answer reason state came) z same = met_refused open_before new f fault answer (ap (λ (c : Closing). c.reason) same ∙ reason) (ap (λ (c : Closing). c.state) same ∙ state) came

    cases : Arrivals x.end now n frames within i Met
    cases = record {
      ignored = λ reason. met_nothing (record { reason = refl; state = refl }) (λ still. refl);
      noted = λ state reason. met_nothing (record { reason = refl; state = refl }) (λ still. refl);
      takes = λ words still_open new none urged mark. met_taken still_open new none refl (keeps_taken words urged mark) refl;
      moves = λ p o same remote e opened met. met_moves p o remote e (with_taken i n frames) met;
      drains = λ words still_open new close fault. met_drained still_open new close fault refl refl refl refl;
      exhausts = λ still_open. met_last still_open refl refl refl;
      refuses = λ words still_open new f fault. met_refused still_open new f fault refl refl refl refl;
    }

    -- what came then
    abbrev next : Intake
    next = and_handed x.end.closing.state (Some d) x.policy (answers.Deliver (received x.policy x.end arrival d).answer) i

    met : Met (received x.policy x.end arrival d) next
    met = by_arrival y.policy x.policy s.id n s.reference frames d given x.end arrival i Met joined.to_x joined.y_lawful meets.knows cases

    abbrev opening : Opening
    opening = shown n s.reference given.payload

    -- what it opens to, as it is answered
    abbrev brings : Option Opening
    brings = came_open x.policy i.took a d

    -- so much came of an open end
    next_is : (o : Option Opening) → x.end.closing.state ≡ states.Open → brings ≡ o → next ≡ and_opened o (answers.Deliver (received x.policy x.end arrival d).answer) i
    next_is o still_open opens =
        ap (λ (state : State). and_handed state (Some d) x.policy (answers.Deliver (received x.policy x.end arrival d).answer) i) still_open
        ∙ ap (λ (b : Answer). and_opened (came_open x.policy i.took b d) (answers.Deliver (received x.policy x.end arrival d).answer) i) (sym is)
        ∙ ap (λ (z : Option Opening). and_opened z (answers.Deliver (received x.policy x.end arrival d).answer) i) opens

    -- what opened is new where one more opened then
    opened_is : x.end.closing.state ≡ states.Open → length next.opened ≡ suc (length i.opened) → brings ≡ Some opening
    opened_is still_open more = go (is_elsewhere a) (expands n s.reference (expected_behind i.took)) refl refl
      where
        shows : (b : Bool) → expands n s.reference (expected_behind i.took) ≡ b → opens_by_key x.policy (expected_behind i.took) d ≡ shown_if b n s.reference given.payload
        shows b e = by_key_given y.policy x.policy s.id n s.reference frames d given joined.to_x joined.y_lawful (expected_behind i.took) ∙ ap (λ (b : Bool). shown_if b n s.reference given.payload) e

        answered : (b : Bool) → is_elsewhere a ≡ b → brings ≡ cond b None (opens_by_key x.policy (expected_behind i.took) d)
        answered b e = ap (λ (b : Bool). cond {A = Option Opening} b None (opens_by_key x.policy (expected_behind i.took) d)) e

        none_more : brings ≡ None → ⊥
        none_more none =
            let same : length next.opened ≡ length i.opened = ap (λ (j : Intake). length j.opened) (next_is None still_open none) in
            omega arith

        go : (away b : Bool) → is_elsewhere a ≡ away → expands n s.reference (expected_behind i.took) ≡ b → brings ≡ Some opening
        go true b e f = absurd (none_more (answered true e))
        go false false e f = absurd (none_more (answered false e ∙ shows false f))
        go false true e f = answered false e ∙ shows true f

    -- what the call handed in
    handed_now : handed y.final (calls.Deliver delivery) a ≡ Some d
    handed_now = ap (λ (b : Answer). handed y.final (calls.Deliver delivery) b) is ∙ at_final

    datagram_is : (h : CameThen) → h.call ≡ now_told → h.datagram ≡ d
    datagram_is h call = let both : Some h.datagram ≡ Some d = sym h.handed_in ∙ ap (λ (t : Told). handed y.final t.call t.answer) call ∙ handed_now in cc

    opens_now : (h : CameThen) → h.before ≡ x.told → h.call ≡ now_told → brings ≡ Some h.opening
    opens_now h same call =
        ap (λ (ts : List Told). came_open x.policy (came_by x.policy y.final ts).took a d) (sym same)
        ∙ ap (λ (t : Told). came_open x.policy (came_by x.policy y.final h.before).took t.answer d) (sym call)
        ∙ ap (λ (ds : List ℕ). came_open x.policy (came_by x.policy y.final h.before).took h.call.answer ds) (sym (datagram_is h call))
        ∙ h.opened

    -- the packet that came
    is_new : x.end.closing.state ≡ states.Open → is_again n i.opened ≡ false → length next.opened ≡ suc (length i.opened) → IsNew s
    is_new still_open new more = record {
      packet = this;
      before = refl;
      call = refl;
      number = refl;
      frames = frames_of_payload frames given.payload given.spells;
      alone = λ h same call. (let both : Some h.opening ≡ Some opening = sym (opens_now h same call) ∙ opened_is still_open more in cc);
    }
      where
        this : CameThen
        this = record {
          before = x.told;
          call = now_told;
          behind = [];
          split = refl;
          was_open = still_open;
          datagram = d;
          handed_in = handed_now;
          opening = opening;
          opened = opened_is still_open more;
          new = new;
        }

    -- where nothing more came, no packet that is new did
    none_new : (x.end.closing.state ≡ states.Open → next ≡ i) → (h : CameThen) → h.before ≡ x.told → h.call ≡ now_told → ⊥
    none_new none h same call =
        let still_open : x.end.closing.state ≡ states.Open = ap (λ (t : Told). t.state) (sym call) ∙ h.was_open in
        let new : is_again h.opening.number i.opened ≡ false = ap (λ (ts : List Told). is_again h.opening.number (came_by x.policy y.final ts).opened) (sym same) ∙ h.new in
        let count : length i.opened ≡ suc (length i.opened) = ap (λ (j : Intake). length j.opened) (sym (none still_open) ∙ next_is (Some h.opening) still_open (opens_now h same call)) ∙ fresh h.opening (answers.Deliver (received x.policy x.end arrival d).answer) i new in
        omega arith
      where
        fresh : (o : Opening) (b : Answer) (j : Intake) → is_again o.number j.opened ≡ false → length (and_opened (Some o) b j).opened ≡ suc (length j.opened)
        fresh o b j new = rw new refl

    judged_met : Judged (received x.policy x.end arrival d).end
    judged_met = go met
      where
        go : Met (received x.policy x.end arrival d) next → Judged (received x.policy x.end arrival d).end
        go (met_nothing keeps none) = nothing keeps (none_new none)
        go (met_last still_open reason state came) = exhausted (none_new (λ same. came)) reason state
        go (met_drained still_open new close fault answer reason state came) = drained s among (is_new still_open new (ap (λ (j : Intake). length j.opened) came)) still_open close fault (is ∙ ap (λ r. answers.Deliver r) answer) reason state
        go (met_taken still_open new none answer keeps came) = taken s among (is_new still_open new (ap (λ (j : Intake). length j.opened) came)) still_open none (is ∙ ap (λ r. answers.Deliver r) answer) keeps
        go (met_refused still_open new f fault answer reason state came) = refused s among (is_new still_open new (ap (λ (j : Intake). length j.opened) came)) still_open f fault (is ∙ ap (λ r. answers.Deliver r) answer) reason state

  -- a delivery, by whether there is such a datagram
  judged_at : AreJoined x y → Meets y x → fails a ≡ false → (o : Option (List ℕ)) → slice_get y.given delivery.index ≡ o → IsDelivered x.policy x.end delivery o a → Judged (after_delivered x.policy x.end (delivered_by (says_last a) delivery) o)
  judged_at joined meets served None at is = nothing (record { reason = refl; state = refl }) (λ h same call. none h call)
    where
      none : (h : CameThen) → h.call ≡ now_told → ⊥
      none h call = let clash : Some h.datagram ≡ None = sym h.handed_in ∙ ap (λ (t : Told). handed y.final t.call t.answer) call ∙ ap (λ (b : Answer). handed y.final (calls.Deliver delivery) b) is in cc
  judged_at joined meets served (Some d) at (inr is) = cc
  judged_at joined meets served (Some d) at (inl is) =
      let found = step_at (IsSent y.policy) y.sents y.given delivery.index d meets.each at in
      let more = joined.y_more in
      let there : slice_get y.final delivery.index ≡ Some d = subst (λ (ds : List (List ℕ)). slice_get ds delivery.index ≡ Some d) more.1 (get_front y.given more.0 delivery.index d at) in
      judged_met joined meets found.0 found.1 d found.2 there is

  -- any delivery
  pub judged : AreJoined x y → Meets y x → fails a ≡ false → IsAnswer x.policy x.end y.given (calls.Deliver delivery) a → Judged (after_call x.policy x.end y.given (calls.Deliver delivery) a)
  judged joined meets served is = judged_at joined meets served (slice_get y.given delivery.index) refl is
