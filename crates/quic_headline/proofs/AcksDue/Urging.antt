-- Whether a packet is urged by its mark, the observer of an end finds as the end does: both know
-- whether it asks for an acknowledgement, and what its ACK frames newly acknowledge of what asks.
use Rattle.std.proofs.Common.{◌≡◌, ℕ, Bool, true, false, not, ◌&&◌, ◌||◌, max, List, [], ◌∷◌, ◌++◌, length, map, drop, filter, append_assoc, append-nil, Option, Some, None, Ok, refl, sym, ap, ◌∙◌, subst}
use Rattle.std.specs.List.{list_any}
use Rattle.std.proofs.Math.Bool.{or-false, or_assoc}
use Rattle.std.proofs.lemmas.List.Folds.{list_any-append}
use Rattle.quic_wire_core.specs.declared.shared.EcnCodepoint.{EcnCodepoint}
use Rattle.quic_wire_core.specs.declared.shared.EcnCodepoint.TheVariants.{Ect0, Ect1, Ce}
use Rattle.quic_wire.specs.Value.{FrameValue, AckValue, ack, asks}
use Rattle.quic_spaces.specs.Marks.{is_congested}
use Rattle.quic_spaces.specs.Numbers.{number_opened}
use Rattle.quic_machine.specs.declared.answers.State.TheVariants as states
use Rattle.quic_machine.specs.declared.answers.Received.TheVariants as receives
use Rattle.quic_machine.specs.declared.run.Call.{Call}
use Rattle.quic_machine.specs.declared.run.Call.TheVariants as calls
use Rattle.quic_machine.specs.declared.run.Delivery.{Delivery}
use Rattle.quic_machine.specs.declared.run.Answer.{Answer}
use Rattle.quic_machine.specs.declared.run.Answer.TheVariants as answers
use Rattle.quic_machine.specs.Tracking.{asks_any, acked_by}
use Rattle.quic_machine.specs.End.{End}
use Rattle.quic_machine.specs.Receive.{Fault, names_ungiven, unless_fault, take_frame, take_items, asks_in, item_answers, items_answer, is_urged}
use Rattle.quic_machine.specs.FrameCases.{ack_taken, passed, frames_taken, begun}
use Rattle.quic_headline.specs.Runs.{Packet, Intake, names}
use Rattle.quic_headline.specs.Observer.{Sent, Terms, asks_of, Flight, settled_by, after_frames, Watch, first_watch, news}
use Rattle.quic_headline.specs.AcksDue.{is_marked, takes_marked, takes_urged}
use Rattle.quic_headline.proofs.Packets.Delivered.{frames_at, arrived, with_taken}
use Rattle.quic_headline.proofs.Packets.Routed.{flight_at}
use Rattle.quic_headline.proofs.Packets.Waited.{AreWaited, waited_filter, waited_asks}
use Rattle.quic_headline.proofs.Packets.Flying.{Waits, held, first_flight, frames_wait, ticked_waits, numbers_wait}
use Rattle.quic_headline.proofs.Packets.Watching.{watched_intake, none_new, one_new}
use Rattle.quic_headline.proofs.Packets.Sight.{Sight}
use Rattle.quic_headline.proofs.Packets.Acked.{acked_with, acks, acks_behind, acked_here, acked_then}
use Rattle.quic_headline.proofs.Places.Parties.{told_of, Party, called, came_to, lens, watch_of}
use Rattle.quic_headline.proofs.Places.Groups.{Calls}
use Rattle.quic_headline.proofs.Timers.AckMoments.{one_asks, asks_same}
use Rattle.quic_headline.proofs.Timers.Watched.{Observed, drop_all, watch_behind, behind_is}

-- ---- frames

-- An ACK frame is taken so: these more are acknowledged in flight, and one of them asks where the
-- frame newly acknowledges one that does.
record OneAnswers (t : Terms) (now : ℕ) (f : FrameValue) (x : Flight) (e : End) : Type 0 where
  new : List Sent
  more : (after_frames t now (f ∷ []) x).acked ≡ x.acked ++ new
  asks : list_any asks_of new ≡ item_answers (Ok f) e

-- what an ACK frame acknowledges stands behind what was
settled_acked : (t : Terms) (now : ℕ) (a : AckValue) (ss others : List Sent) (x : Flight) → (settled_by t now a ss others x).acked ≡ x.acked ++ ss
settled_acked t now a [] others x = sym (append-nil x.acked)
settled_acked t now a (s ∷ ss) others x = refl

one_answers : (t : Terms) (now : ℕ) (f : FrameValue) (x : Flight) (e : End) → (take_frame f e).fault ≡ None → Waits t now x (held e) → OneAnswers t now f x e
one_answers t now (ack a) x e none w = go (names_ungiven a e) refl none
  where
    acked : List Sent
    acked = filter (λ s. names a s.number) x.flying

    same : AreWaited acked (acked_by a e.tracking.packets)
    same = waited_filter (λ s. names a s.number) (λ p. names a p.0) (λ s p i. ap (λ (n : ℕ). names a n) (sym i.number)) x.flying e.tracking.packets w.tells.waits

    go : (b : Bool) → names_ungiven a e ≡ b → (ack_taken b a e).fault ≡ None → OneAnswers t now (ack a) x e
    go true is ok = cc
    go false is ok = record {
      new = acked;
      more = settled_acked t now a acked (filter (λ s. not (names a s.number)) x.flying) x;
      asks = waited_asks acked (acked_by a e.tracking.packets) same ∙ ap (λ (b : Bool). not b && asks_any (acked_by a e.tracking.packets)) (sym is);
    }
one_answers t now f x e none w = record { new = []; more = sym (append-nil x.acked); asks = refl }

-- one that is taken leaves what the end waits for
one_waits : (t : Terms) (now : ℕ) (f : FrameValue) (x : Flight) (e : End) → (take_frame f e).fault ≡ None → Waits t now x (held e) → Waits t now (after_frames t now (f ∷ []) x) (held (take_frame f e).end)
one_waits t now f x e none w =
    subst (λ (o : Option Fault). (unless_fault o (take_frame f e) (take_items [])).fault ≡ None → Waits t now (after_frames t now (f ∷ []) x) (held (unless_fault o (take_frame f e) (take_items [])).end))
    none (λ ok. frames_wait t now (f ∷ []) x e ok w) refl

module _ (t : Terms) (now : ℕ) (frames : List FrameValue) (x : Flight) (e : End) where
  -- so many are left to take, at this end: what is in flight then, what was acknowledged till then,
  -- and whether one of those or of those to come asks
  record Answering (left : List FrameValue) (g : End) : Type 0 where
    flight : Flight
    new : List Sent
    waits : Waits t now flight (held g)
    rest : after_frames t now left flight ≡ after_frames t now frames x
    more : flight.acked ≡ x.acked ++ new
    asks : (list_any asks_of new || items_answer (map Ok left) g) ≡ items_answer (map Ok frames) e

  next_answers : (f : FrameValue) (left : List FrameValue) (g : End) → (take_frame f g).fault ≡ None → Answering (f ∷ left) g → Answering left (take_frame f g).end
  next_answers f left g none before =
      let one : OneAnswers t now f before.flight g = one_answers t now f before.flight g none before.waits in
      let later : Bool = items_answer (map Ok left) (take_frame f g).end in
      record {
        flight = after_frames t now (f ∷ []) before.flight;
        new = before.new ++ one.new;
        waits = one_waits t now f before.flight g none before.waits;
        rest = sym (first_flight t now f left before.flight) ∙ before.rest;
        more = one.more ∙ ap (λ (ss : List Sent). ss ++ one.new) before.more ∙ append_assoc x.acked before.new one.new;
        asks =
            ap (λ (b : Bool). b || later) (list_any-append asks_of before.new one.new ∙ ap (λ (b : Bool). list_any asks_of before.new || b) one.asks)
            ∙ or_assoc (list_any asks_of before.new) (item_answers (Ok f) g) later
            ∙ before.asks;
      }

  -- where all frames of a packet were taken, one of what they newly acknowledge asks for the
  -- observer where it does for the end
  frames_answer : (passed frames e).fault ≡ None → Waits t now x (held e) → list_any asks_of (drop (length x.acked) (after_frames t now frames x).acked) ≡ items_answer (map Ok frames) e
  frames_answer none w =
      let all : Answering [] (passed frames e).end = frames_taken Answering next_answers frames e none (record { flight = x; new = []; waits = w; rest = refl; more = sym (append-nil x.acked); asks = refl }) in
      ap (λ (y : Flight). list_any asks_of (drop (length x.acked) y.acked)) (sym all.rest)
      ∙ ap (λ (ss : List Sent). list_any asks_of (drop (length x.acked) ss)) all.more
      ∙ ap (λ (ss : List Sent). list_any asks_of ss) (drop_all x.acked all.new)
      ∙ sym (or-false (list_any asks_of all.new))
      ∙ all.asks

-- ---- calls

-- the mark of congestion is CE
marked_same : (mark : Option EcnCodepoint) → is_marked mark ≡ is_congested mark
marked_same None = refl
marked_same (Some Ect0) = refl
marked_same (Some Ect1) = refl
marked_same (Some Ce) = refl

and_none : (b : Bool) → (b && false) ≡ false
and_none true = refl
and_none false = refl

-- nothing lies behind the whole of a list
drop_own : (ss : List Sent) → drop (length ss) ss ≡ []
drop_own ss = ap (λ (xs : List Sent). drop (length ss) xs) (sym (append-nil ss)) ∙ drop_all ss []

module _ (x y : Party) (call : Call) where
  abbrev seen : Watch
  seen = watch_of x y

  seen_intake : seen.intake ≡ came_to x y
  seen_intake = watched_intake (lens x y) x.told (first_watch x.final x.began x.made.path.remote x.first_rtt x.initial_delay)

  -- whether the observer of x finds a packet urged by a call that is so answered, and brings this
  abbrev pub urged_by : Answer → Intake → Bool
  urged_by a i = takes_marked call a && (one_asks (news seen.intake i) || list_any asks_of (drop (length (acks x y)) (acked_with x.terms x.end.closing.state call seen i)))

  -- it does so behind the call
  pub urged_told : (a : Answer) (c : Calls Observed x y call a) (w : Watch) (is : w ≡ seen) → takes_urged (told_of call a x.end.closing.state) w (watch_behind x y call a c w is) ≡ urged_by a (came_to (called x y.given call a) y)
  urged_told a c w is =
      let next : Party = called x y.given call a in
      ap (λ (v : Watch). takes_urged (told_of call a x.end.closing.state) w v) (sym (behind_is x y call a c w is))
      ∙ ap (λ (v : Watch). takes_urged (told_of call a x.end.closing.state) v (watch_of next y)) is
      ∙ ap (λ (j : Intake). takes_marked call a && (one_asks (news seen.intake j) || list_any asks_of (drop (length (acks x y)) (acks next y)))) (watched_intake (lens x y) next.told (first_watch x.final x.began x.made.path.remote x.first_rtt x.initial_delay))
      ∙ ap (λ (ss : List Sent). takes_marked call a && (one_asks (news seen.intake (came_to next y)) || list_any asks_of (drop (length (acks x y)) ss))) (acks_behind x y call a)

  -- none where nothing came
  pub none_urged : (a : Answer) → urged_by a (came_to x y) ≡ false
  none_urged a =
      ap (λ (i : Intake). takes_marked call a && (one_asks (news i (came_to x y)) || list_any asks_of (drop (length (acks x y)) (acked_with x.terms x.end.closing.state call seen (came_to x y))))) seen_intake
      ∙ ap (λ (ps : List Packet). takes_marked call a && (one_asks ps || list_any asks_of (drop (length (acks x y)) (acked_with x.terms x.end.closing.state call seen (came_to x y))))) (none_new (came_to x y))
      ∙ ap (λ (ss : List Sent). takes_marked call a && list_any asks_of (drop (length (acks x y)) ss)) (acked_here x y call)
      ∙ ap (λ (ss : List Sent). takes_marked call a && list_any asks_of ss) (drop_own (acks x y))
      ∙ and_none (takes_marked call a)

  -- and where an open end takes a packet, as the end finds it
  pub urged_taken : Sight x y → (delivery : Delivery) → call ≡ calls.Deliver delivery → x.end.closing.state ≡ states.Open → (n : ℕ) (frames : List FrameValue) (here : Bool) → (arrived x.end delivery.now n (frames_at here frames)).fault ≡ None
      → urged_by (answers.Deliver receives.Taken) (with_taken (came_to x y) n frames) ≡ is_urged delivery.ecn (asks_in (map Ok frames)) (map Ok (frames_at here frames)) (begun x.end delivery.now n)
  urged_taken sight delivery is opened n frames here none =
      ap (λ (i : Intake). marked && (one_asks (news i after) || list_any asks_of (drop (length (acks x y)) (acked_with x.terms x.end.closing.state call seen after)))) seen_intake
      ∙ ap (λ (ps : List Packet). marked && (one_asks ps || list_any asks_of (drop (length (acks x y)) (acked_with x.terms x.end.closing.state call seen after)))) (one_new (came_to x y) n frames)
      ∙ ap (λ (b : Bool). marked && (b || list_any asks_of (drop (length (acks x y)) (acked_with x.terms x.end.closing.state call seen after)))) (or-false (list_any asks frames) ∙ sym (asks_same frames))
      ∙ ap (λ (ss : List Sent). marked && (asks_in (map Ok frames) || list_any asks_of (drop (length (acks x y)) ss))) (acked_then x y call delivery is opened n frames ∙ sym (ap (λ (f : Flight). f.acked) (flight_at x.terms (max seen.clock delivery.now) here frames seen.flight)))
      ∙ ap (λ (b : Bool). marked && (asks_in (map Ok frames) || b)) (frames_answer x.terms (max seen.clock delivery.now) (frames_at here frames) seen.flight (begun x.end delivery.now n) none begins)
      ∙ ap (λ (b : Bool). b && (asks_in (map Ok frames) || items_answer (map Ok (frames_at here frames)) (begun x.end delivery.now n))) (ap (λ (c : Call). takes_marked c (answers.Deliver receives.Taken)) is ∙ marked_same delivery.ecn)
    where
      after : Intake
      after = with_taken (came_to x y) n frames

      marked : Bool
      marked = takes_marked call (answers.Deliver receives.Taken)

      begins : Waits x.terms (max seen.clock delivery.now) seen.flight (held (begun x.end delivery.now n))
      begins = ticked_waits x.terms seen.clock delivery.now seen.flight (record (held x.end) { numbers = number_opened x.end.numbers n }) (numbers_wait x.terms seen.clock seen.flight (held x.end) (number_opened x.end.numbers n) refl (sight.watched.flight opened))
