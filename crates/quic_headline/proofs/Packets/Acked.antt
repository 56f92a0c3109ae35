-- What an observer counts as acknowledged in flight behind a call: what comes by it may acknowledge
-- datagrams, and nothing else does.
use Rattle.std.proofs.Common.{◌≡◌, ℕ, ◌+◌, Bool, true, false, List, [], ◌∷◌, Option, Some, None, refl, sym, ap, ◌∙◌}
use Rattle.std.specs.Prelude.{if◌then◌else◌, max}
use Rattle.quic_wire.specs.Value.{FrameValue}
use Rattle.quic_packet.specs.Datagram.{opened_packet}
use Rattle.quic_machine.specs.declared.answers.State.{State}
use Rattle.quic_machine.specs.declared.answers.State.TheVariants as states
use Rattle.quic_machine.specs.declared.run.Call.{Call}
use Rattle.quic_machine.specs.declared.run.Call.TheVariants as calls
use Rattle.quic_machine.specs.declared.run.Delivery.{Delivery}
use Rattle.quic_machine.specs.declared.run.Answer.{Answer}
use Rattle.quic_machine.specs.Policy.{Policy}
use Rattle.quic_machine.specs.Opens.{own_id_length}
use Rattle.quic_machine.specs.Machine.{gave}
use Rattle.quic_headline.specs.Runs.{Told, Packet, Intake, acknowledged, and_told}
use Rattle.quic_headline.specs.Observer.{Sent, next_number, Terms, Flight, Watch, Lens, first_watch, has_opened, moment_of, clock_behind, after_packets, after_frames, and_sent, and_flying, closes_of, and_all_sent, loss_due, is_past, expired_for, sent_as, watch_sent, watch_given, is_timely, watch_moment, watch_came, watch_told}
use Rattle.quic_headline.proofs.Packets.Intakes.{folded_more}
use Rattle.quic_headline.proofs.Packets.Delivered.{with_taken}
use Rattle.quic_headline.proofs.Packets.Watching.{came_with, timed_with, watched_intake, none_new, packet_delivered}
use Rattle.quic_headline.proofs.Places.Parties.{told_of, Party, called, came_to, lens, watch_of}
use Rattle.quic_headline.proofs.Places.Coming.{came_more}

-- those that were acknowledged in flight, once this came by a call
abbrev pub acked_with : Terms → State → Call → Watch → Intake → List Sent
acked_with t state call w i = (watch_came t i (clock_behind w.clock (moment_of state (has_opened w.intake i) call)) w).flight.acked

abbrev pub acks : Party → Party → List Sent
acks x y = (watch_of x y).flight.acked

sent_acked : (ss : List Sent) (f : Flight) → (and_all_sent ss f).acked ≡ f.acked
sent_acked [] f = refl
sent_acked (s ∷ ss) f = sent_acked ss (and_sent s f) ∙ go (closes_of s)
  where
    go : (b : Bool) → (if b then f else and_flying s f).acked ≡ f.acked
    go true = refl
    go false = refl

datagram_acked : (taker : Policy) (ds : List (List ℕ)) (w : Watch) → (watch_sent taker ds w).flight.acked ≡ w.flight.acked
datagram_acked taker [] w = refl
datagram_acked taker (d ∷ ds) w = sent_acked (sent_as (opened_packet taker.header taker.packet (own_id_length + 1) (next_number w.own) d) (acknowledged w.intake.took) w.clock w.route.generation d) w.flight

given_acked : (b : Bool) (l : Lens) (w : Watch) → (watch_given b l w).flight.acked ≡ w.flight.acked
given_acked false l w = refl
given_acked true l w = datagram_acked l.taker w.left w

-- a moment acknowledges nothing
expired_acked : (o : Option ℕ) (t : Terms) (clock : ℕ) (f : Flight) → (expired_for o t clock f).acked ≡ f.acked
expired_acked None t clock f = refl
expired_acked (Some moment) t clock f = refl

moment_acked : (b : Bool) (t : Terms) (w : Watch) → (watch_moment b t w).flight.acked ≡ w.flight.acked
moment_acked false t w = refl
moment_acked true t w = go (is_past (loss_due w.flight) w.clock)
  where
    go : (b : Bool) → (if b then expired_for w.flight.loss_time t w.clock w.flight else w.flight).acked ≡ w.flight.acked
    go true = expired_acked w.flight.loss_time t w.clock w.flight
    go false = refl

module _ (x y : Party) where
  abbrev seen : Watch
  seen = watch_of x y

  seen_intake : seen.intake ≡ came_to x y
  seen_intake = watched_intake (lens x y) x.told (first_watch x.final x.began x.made.path.remote x.first_rtt x.initial_delay)

  -- behind a call
  pub acks_behind : (call : Call) (a : Answer) → acks (called x y.given call a) y ≡ acked_with x.terms x.end.closing.state call seen (came_to (called x y.given call a) y)
  acks_behind call a =
      let t : Told = told_of call a x.end.closing.state in
      ap (λ (w : Watch). w.flight.acked) (folded_more (watch_told (lens x y)) x.told t (first_watch x.final x.began x.made.path.remote x.first_rtt x.initial_delay))
      ∙ given_acked (gave a) (lens x y) (timed_with (lens x y) t seen)
      ∙ moment_acked (is_timely t.state call) x.terms (came_with (lens x y) t seen)
      ∙ ap (λ (i : Intake). acked_with x.terms x.end.closing.state call seen i) (ap (λ (i : Intake). and_told x.policy y.final t i) seen_intake ∙ sym (came_more x y call a))

  -- where nothing came
  pub acked_here : (call : Call) → acked_with x.terms x.end.closing.state call seen (came_to x y) ≡ acks x y
  acked_here call =
      ap (λ (i : Intake). acked_with x.terms x.end.closing.state call seen i) (sym seen_intake)
      ∙ ap (λ (ps : List Packet). (after_packets x.terms (clock_behind seen.clock (moment_of x.end.closing.state (has_opened seen.intake seen.intake) call)) ps seen.flight).acked) (none_new seen.intake)

  -- where an open end took a packet
  pub acked_then : (call : Call) (delivery : Delivery) → call ≡ calls.Deliver delivery → x.end.closing.state ≡ states.Open → (n : ℕ) (frames : List FrameValue)
      → acked_with x.terms x.end.closing.state call seen (with_taken (came_to x y) n frames) ≡ (after_frames x.terms (max seen.clock delivery.now) frames seen.flight).acked
  acked_then call delivery is opened n frames =
      ap (λ (c : Call). acked_with x.terms x.end.closing.state c seen (with_taken (came_to x y) n frames)) is
      ∙ ap (λ (i : Intake). acked_with x.terms x.end.closing.state (calls.Deliver delivery) seen (with_taken i n frames)) (sym seen_intake)
      ∙ ap (λ (w : Watch). w.flight.acked) (packet_delivered x.terms seen x.end.closing.state delivery n frames opened)
