-- What has to reach the peer is somewhere, as a group: what is in flight of streams stands in
-- tracked packets, and a reset, STOP_SENDING while it matters, and HANDSHAKE_DONE waits, stands in
-- one, or came.
use Rattle.std.proofs.Common.{◌≡◌, ℕ, Bool, true, false, ◌||◌, List, [], ◌∷◌, ◌++◌, Option, Some, None, refl, sym, ap, ◌∙◌, subst, inl, inr}
use Rattle.std.specs.Option.{IsSome, is_some}
use Rattle.std.proofs.lemmas.Bool.{or_cases}
use Rattle.std.proofs.lemmas.List.Folds.{list_any-append}
use Rattle.quic_config.specs.Transport.{Settings, parameters_of}
use Rattle.quic_streams_state.specs.State.{new_streams}
use Rattle.quic_streams_laws.specs.Written.{Wrote, nothing_done}
use Rattle.quic_streams_laws.specs.WroteLaws.{with_same, with_new, with_set_params}
use Rattle.quic_machine.specs.declared.run.Call.{Call}
use Rattle.quic_machine.specs.declared.run.Call.TheVariants as calls
use Rattle.quic_machine.specs.declared.run.Answer.{Answer}
use Rattle.quic_machine.specs.End.{End, streams_at, number_of}
use Rattle.quic_machine.specs.Calls.{is_open}
use Rattle.quic_machine.specs.StreamCalls.{is_on_streams}
use Rattle.quic_machine.specs.Poll.{polled}
use Rattle.quic_machine.specs.PollCases.{ready_at}
use Rattle.quic_machine.specs.CallCases.{is_delivery}
use Rattle.quic_machine.specs.Machine.{IsAnswer, after_call, gave}
use Rattle.quic_streams_laws.specs.Quiet.{IsSentWithin}
use Rattle.quic_machine.specs.Receive.{Outcome}
use Rattle.quic_machine.specs.FrameCases.{begun as started, frames_keep}
use Rattle.quic_headline.specs.Runs.{Told, Packet, Intake, In, first_of, reset_by, reset, says_done, was_said_done, nothing_came}
use Rattle.quic_headline.specs.Observer.{Sent}
use Rattle.quic_headline.specs.Duties.{Duty, Limited, limit_frame, WasGiven}
use Rattle.quic_headline.proofs.Packets.Invariant.{IsSent}
use Rattle.quic_headline.proofs.Packets.Growth.{step_of}
use Rattle.quic_headline.proofs.Packets.Intakes.{took_more}
use Rattle.quic_headline.proofs.Packets.Delivered.{Arrivals, frames_at, among_at}
use Rattle.quic_headline.proofs.Packets.MayGo.{AreReady}
use Rattle.quic_headline.proofs.Packets.Group.{PacketsHold, meets}
use Rattle.quic_headline.proofs.Places.Parties.{sent_by, sent_if, sents_by, told_of, Party, called, came_to, Beginning, begun_as, AreMade}
use Rattle.quic_headline.proofs.Places.Told.{in_append}
use Rattle.quic_headline.proofs.Places.Steps.{poll_answer}
use Rattle.quic_headline.proofs.Places.Groups.{Way, Calls, Group}
use Rattle.quic_headline.proofs.Places.Coming.{by_coming}
use Rattle.quic_headline.proofs.Halves.Ghosts.{IsWriting}
use Rattle.quic_headline.proofs.Halves.Wrote.{wrote, done_by, reset_more}
use Rattle.quic_headline.proofs.Halves.WordsCalls.{call_on_is}
use Rattle.quic_headline.proofs.Halves.Small.{payload_small, IsSmallLimit}
use Rattle.quic_headline.proofs.Halves.Says.{sent_says}
use Rattle.quic_headline.proofs.Halves.Arrived.{small_limits}
use Rattle.quic_headline.proofs.Halves.Writer.{WritesHold, done_behind, grows_behind}
use Rattle.quic_headline.proofs.Halves.QuietSteps.{sent_within}
use Rattle.quic_headline.proofs.Channel.Names.{NamesHold}
use Rattle.quic_headline.proofs.Channel.Received.{Stays}
use Rattle.quic_headline.proofs.Channel.Within.{Within}
use Rattle.quic_headline.proofs.Duties.Flies.{FliesIn, flies_along}
use Rattle.quic_headline.proofs.Duties.Carrier.{IsNew}
use Rattle.quic_headline.proofs.Duties.Tail.{AskBefore, next_new, before_call}
use Rattle.quic_headline.proofs.Duties.UnderWay.{InPackets, Fly, TrackedEnds, arrivals_fly, call_fly}
use Rattle.quic_headline.proofs.Duties.Listed.{Listed, ResetOf, StopOf, DoneOf, listed_in, ListedStands, came_on, arrivals_stand, call_resets, call_says_done, call_stands}
use Rattle.quic_headline.proofs.Duties.OfIds.{IdOwed, NoneAsked, call_asks_none, call_owed, arrivals_owed, first_owed, AsksNone}
use Rattle.quic_headline.proofs.Duties.Halts.{Halts, halts_first, halts_call}
use Rattle.quic_headline.proofs.Duties.Stopped.{AreAsked, asked_more, asked_frame, asked_call, asked_first}
use Rattle.quic_headline.proofs.Duties.Lasting.{Knows, knows_lasts, call_lasts}
use Rattle.quic_headline.proofs.Duties.Limits.{LimitStands, Stated, arrivals_stated, moved_stated}
use Rattle.quic_headline.proofs.Duties.LimitsGo.{stands_more, polled_stands, polled_says, call_stated}
use Rattle.quic_headline.proofs.Duties.Requests.{Requested, requested_on, requested_more, arrivals_requested, polled_requested, polled_asks, call_requested, moved_requested}
use Rattle.quic_headline.proofs.Packets.Strays.{acks_at}
use Rattle.quic_headline.proofs.Packets.Named.{NamesTaken}
use Rattle.quic_headline.proofs.Halves.Moved.{in_arrivals}
use Rattle.quic_wire.specs.Value.{AckFrequencyValue, ack_frequency, AckValue, ack}

-- what is in flight of the streams of x stands in packets that it tracks, and each of its resets is
-- somewhere, STOP_SENDING of each stream that it stopped and whose final size it doesn't know, each
-- limit that it said, each request of how often to acknowledge, and HANDSHAKE_DONE where its
-- application said so
pub record Flying (x y : Party) : Type 0 where
  pub fly : Fly (wrote x.told) x.end
  pub resets : (id : ℕ) → IsSome (reset id x.told) → ListedStands (came_to y x).took (ResetOf id) x.end
  pub done : was_said_done x.told ≡ true → ListedStands (came_to y x).took DoneOf x.end
  pub halts : Halts x y
  pub stops : AreAsked (λ id. ListedStands (came_to y x).took (StopOf id) x.end) x.end.streams
  pub limits : (what : Limited) (value : ℕ) → WasGiven x.sents (limit_frame what value) → Stated (came_to y x).took x.sents what value x.end
  pub requests : (f : AckFrequencyValue) → WasGiven x.sents (ack_frequency f) → Requested (came_to y x).took x.sents f.sequence x.end
  -- what it owes of ids, where none of its frames asks for retirements
  pub ids : (what : Listed) → IdOwed what x.end.ids → ListedStands (came_to y x).took what x.end
  pub none_asked : NoneAsked x.sents
  -- what was sent since the last datagram that asks doesn't ask
  pub asked : AskBefore x.sents x.end.tracking.greatest_asking

-- What that rests on: the packets between both ends, what was written, that what waits may go, and
-- that the limits which an end said don't fall.
pub record IsReadied (B : Way) : Type 1 where
  pub packets : (x y : Party) → B x y → PacketsHold x y
  pub writes : (x y : Party) → B x y → WritesHold x y
  pub ready : (x y : Party) → B x y → (now : ℕ) → AreReady (ready_at x.end now).end.streams.sending.halves.live (ready_at x.end now).end.waiting.frames
  pub names : (x y : Party) → B x y → NamesHold x y
  pub within : (x y : Party) → B x y → Within x y

-- what was written is that too
readied_writing : (B : Way) → IsReadied B → IsWriting B
readied_writing B b = record {
  packets = b.packets;
  written = λ x y h. (b.writes x y h).writes.keeps.holds;
  says = λ x y h. (b.writes x y h).says;
  grows = λ x y call a c. grows_behind B b.packets x y call a c (b.writes x y c.gives);
}

-- a call that is none on streams resets none
none_reset : (id : ℕ) (call : Call) (a : Answer) → is_on_streams call ≡ false → IsSome (reset_by id call a) → ⊥
none_reset id (calls.Reset s code) a off some = cc
none_reset id call a off some = cc

module _ (B : Way) (b : IsReadied B) (x y : Party) (call : Call) (a : Answer) (c : Calls B x y call a) (i : Flying x y) (back : Flying y x) where
  gives : PacketsHold x y
  gives = b.packets x y c.gives

  takes : PacketsHold y x
  takes = b.packets y x c.takes

  abbrev done : ℕ → Wrote
  done = wrote x.told

  abbrev took : List Packet
  took = (came_to y x).took

  -- ACK frames that are taken of what y gave name packets that it took
  named : (s : Sent) → In s y.sents → (here : Bool) (a : AckValue) → In (ack a) (frames_at here s.frames) → NamesTaken took a
  named s among here = acks_at (NamesTaken took) here s.frames (λ a carried k names. takes.named s a k among carried names)

  -- the number that goes next is none of a tracked packet
  new : IsNew x.end.tracking.packets (number_of x.end)
  new = next_new x.sents x.end gives.gives.below gives.tracked

  -- what is tracked says what was done
  ends : TrackedEnds done x.end.tracking.packets
  ends p among =
      let was = gives.tracked p.0 p.1 among in
      (sent_says done x.sents (b.writes x y c.gives).says p.1.carried (record { sent = was.0; among = was.1.0; is = was.2 })).ends

  -- what is in flight stands still where it is to
  fly_call : Fly (wrote (called x y.given call a).told) (called x y.given call a).end
  fly_call = with_same (FliesIn F) (λ id w. Unit {0}) (flies_along F) (done_by call a done) (wrote (called x y.given call a).told) (called x y.given call a).end.streams (done_behind B b.packets x y call a c (b.writes x y c.gives))
      (by_coming x y a c.joined c.served (meets y x takes) (λ (e : End) (j : Intake). Fly (done_by call a done) e) call c.answer (record {
        apart = λ apart. call_fly done x.sents x.policy x.end y.given call a apart c.answer gives.ascends gives.tracked i.asked new ends i.fly;
        none = λ delivery is. subst (λ (k : Call). Fly (done_by k a done) x.end) (sym is) i.fly;
        comes = λ delivery is s among here. (
            let spelled = step_of (IsSent y.policy) y.sents y.given s takes.gives.each among in
            subst (λ (k : Call). Arrivals x.end delivery.now s.number s.frames (frames_at here s.frames) (came_to x y) (λ (o : Outcome) (j : Intake). Fly (done_by k a done) o.end)) (sym is)
            (arrivals_fly done x.end delivery.now s.number s.frames (frames_at here s.frames) (came_to x y) (among_at IsSmallLimit tt here s.frames (payload_small s.frames spelled.1.payload spelled.1.spells)) ends i.fly));
      }))
    where
      F : Duty → Type 0
      F = InPackets (called x y.given call a).end.tracking.packets

  -- what waits in lists, and was somewhere, is so still
  old_listed : (what : Listed) → ListedStands took what x.end → ListedStands took what (called x y.given call a).end
  old_listed what was = by_coming x y a c.joined c.served (meets y x takes) (λ (e : End) (j : Intake). ListedStands took what e) call c.answer (record {
    apart = λ apart. call_stands took x.sents what x.policy x.end y.given call a apart gives.ascends gives.tracked i.asked new (b.ready x y c.gives) was;
    none = λ delivery is. was;
    comes = λ delivery is s among here. arrivals_stand took what x.sents (record { taken = gives.taken; rising = gives.gives.rising }) x.end delivery.now s.number s.frames (frames_at here s.frames) (came_to x y) (named s among here) gives.tracked was;
  })

  -- what is owed of ids
  ids_call : (what : Listed) → IdOwed what (called x y.given call a).end.ids → ListedStands took what (called x y.given call a).end
  ids_call what = by_coming x y a c.joined c.served (meets y x takes) (λ (e : End) (j : Intake). IdOwed what e.ids → ListedStands took what e) call c.answer (record {
    apart = λ apart owed. elim (call_owed took what x.policy x.end y.given call a apart owed) [ inl before ↦ old_listed what (i.ids what before) | inr now ↦ now ];
    none = λ delivery is. i.ids what;
    comes = λ delivery is s among here. arrivals_owed took what x.sents (record { taken = gives.taken; rising = gives.gives.rising }) x.end delivery.now s.number s.frames (frames_at here s.frames) (came_to x y)
        (named s among here) (among_at AsksNone tt here s.frames (back.none_asked s among)) gives.tracked (i.ids what);
  })

  -- a new reset waits
  new_reset : (id : ℕ) → IsSome (reset_by id call a) → ListedStands took (ResetOf id) (called x y.given call a).end
  new_reset id some = go (is_on_streams call) refl
    where
      go : (on : Bool) → is_on_streams call ≡ on → ListedStands took (ResetOf id) (called x y.given call a).end
      go true on =
          let k = call_on_is x.policy x.end y.given call a on in
          inl (ap (λ (e : End). listed_in (ResetOf id) e.waiting.frames) k.same ∙ call_resets id (is_open x.end.closing.state) (streams_at x.end) call a (k.answer c.answer) some)
      go false off = absurd (none_reset id call a off some)

  -- HANDSHAKE_DONE
  done_call : was_said_done (called x y.given call a).told ≡ true → ListedStands took DoneOf (called x y.given call a).end
  done_call said = elim (or_cases (was_said_done x.told) (says_done call a || false) (sym (list_any-append (λ (t : Told). says_done t.call t.answer) x.told (told_of call a x.end.closing.state ∷ [])) ∙ said)) [
    | inl old ↦ old_listed DoneOf (i.done old)
    | inr now ↦ elim (or_cases (says_done call a) false now) [ inl here ↦ inl (call_says_done x.policy x.end y.given call a here) | inr none ↦ cc ]
  ]

  -- STOP_SENDING of a stream is somewhere
  abbrev Asks : ℕ → Type 0
  Asks id = ListedStands took (StopOf id) (called x y.given call a).end

  -- so it is of each that matters
  asks_still : AreAsked Asks x.end.streams
  asks_still = asked_more (λ id. ListedStands took (StopOf id) x.end) Asks x.end.streams (λ id. old_listed (StopOf id)) i.stops

  stops_call : AreAsked Asks (called x y.given call a).end.streams
  stops_call = by_coming x y a c.joined c.served (meets y x takes) (λ (e : End) (j : Intake). AreAsked Asks e.streams) call c.answer (record {
    apart = λ apart. asked_call Asks x.policy x.end y.given (sent_within done x.end.streams (b.writes x y c.gives).writes.keeps.holds) call a c.answer apart (λ id waits. inl waits) asks_still;
    none = λ delivery is. asks_still;
    comes = λ delivery is s among here. in_arrivals (AreAsked Asks) x.end delivery.now s.number s.frames (frames_at here s.frames) (came_to x y) asks_still
        (frames_keep (λ (e : End). AreAsked Asks e.streams) (λ f e j. asked_frame Asks f e j) (frames_at here s.frames) (started x.end delivery.now s.number) asks_still);
  })

  -- ---- limits

  -- what the call sends
  abbrev sends : List Sent
  sends = sents_by x.policy x.end call a

  -- what was said before is somewhere where more was sent
  further : (what : Limited) (value : ℕ) (e : End) → Stated took x.sents what value e → Stated took (x.sents ++ sends) what value e
  further what value e s = record { knows = s.knows; stand = stands_more took x.sents sends what value e s.stand }

  -- the streams of x hold what it told
  told_stays : Stays x.end.streams x.end.streams
  told_stays = (b.within y x c.takes).stays

  -- a limit that was said before, behind a call but a delivery
  apart_on : (what : Limited) (value : ℕ) → WasGiven x.sents (limit_frame what value) → (k : Call) → is_delivery k ≡ false → IsAnswer x.policy x.end y.given k a → Stated took (x.sents ++ sents_by x.policy x.end k a) what value (after_call x.policy x.end y.given k a)
  apart_on what value said (calls.Poll now) apart is = record {
    knows = call_lasts (Knows what) (knows_lasts what) x.policy x.end y.given (calls.Poll now) a within apart is was.knows;
    stand = subst (λ (o : Answer). LimitStands took (x.sents ++ sent_if (gave o) (sent_by x.policy x.end now)) what value (polled x.policy x.end now).end) (sym (poll_answer x.policy x.end now a is c.served))
        (polled_stands took x.sents what value x.policy x.end now gives.ascends i.asked new ((b.within y x c.takes).told said.sent said.among (limit_frame what value) said.carried) ((b.names x y c.gives).given said.sent said.among (limit_frame what value) said.carried) told_stays was.knows was.stand);
  }
    where
      was : Stated took x.sents what value x.end
      was = i.limits what value said

      within : (id : ℕ) → IsSentWithin x.end.streams id
      within = sent_within done x.end.streams (b.writes x y c.gives).writes.keeps.holds
  apart_on what value said k apart is = record {
    knows = call_lasts (Knows what) (knows_lasts what) x.policy x.end y.given k a within apart is was.knows;
    stand = stands_more took x.sents [] what value (after_call x.policy x.end y.given k a) (call_stated took x.sents what value x.policy x.end y.given k a within apart refl is was.stand);
  }
    where
      was : Stated took x.sents what value x.end
      was = i.limits what value said

      within : (id : ℕ) → IsSentWithin x.end.streams id
      within = sent_within done x.end.streams (b.writes x y c.gives).writes.keeps.holds

  -- behind any call
  old_limit : (what : Limited) (value : ℕ) → WasGiven x.sents (limit_frame what value) → Stated took (x.sents ++ sends) what value (called x y.given call a).end
  old_limit what value said = by_coming x y a c.joined c.served (meets y x takes) (λ (e : End) (j : Intake). Stated took (x.sents ++ sends) what value e) call c.answer (record {
    apart = λ apart. apart_on what value said call apart c.answer;
    none = λ delivery is. further what value x.end (i.limits what value said);
    comes = λ delivery is s among here. (
        let all = arrivals_stated took x.sents what value (record { taken = gives.taken; rising = gives.gives.rising }) x.end delivery.now s.number s.frames (frames_at here s.frames) (came_to x y) (named s among here) (i.limits what value said) in
        record {
          ignored = λ reason. further what value _ (all.ignored reason);
          noted = λ state reason. further what value _ (all.noted state reason);
          takes = λ words state new none urged mark. further what value _ (all.takes words state new none urged mark);
          moves = λ p o same remote z opened j. moved_stated took (x.sents ++ sends) what value p o remote z j;
          drains = λ words state new close is. further what value _ (all.drains words state new close is);
          refuses = λ words state new f is. further what value _ (all.refuses words state new f is);
          exhausts = λ state. further what value _ (all.exhausts state);
        });
  })

  -- a new one is under way
  new_limit : (what : Limited) (value : ℕ) (k : Call) → IsAnswer x.policy x.end y.given k a → (t : Sent) → In t (sents_by x.policy x.end k a) → In (limit_frame what value) t.frames → Stated took (x.sents ++ sents_by x.policy x.end k a) what value (after_call x.policy x.end y.given k a)
  new_limit what value (calls.Poll now) is t among carried =
      let same = poll_answer x.policy x.end now a is c.served in
      let says = polled_says took x.sents what value x.policy x.end now gives.ascends i.asked new gives.owes told_stays.shape t (subst (λ (o : Answer). In t (sent_if (gave o) (sent_by x.policy x.end now))) same among) carried in
      record { knows = says.0; stand = subst (λ (o : Answer). LimitStands took (x.sents ++ sent_if (gave o) (sent_by x.policy x.end now)) what value (polled x.policy x.end now).end) (sym same) says.1 }
  new_limit what value k is t among carried = absurd among

  said_limit : (what : Limited) (value : ℕ) → WasGiven (x.sents ++ sends) (limit_frame what value) → Stated took (x.sents ++ sends) what value (called x y.given call a).end
  said_limit what value said = elim (in_append said.sent x.sents sends said.among) [
    | inl old ↦ old_limit what value (record { sent = said.sent; among = old; carried = said.carried })
    | inr now ↦ new_limit what value call c.answer said.sent now said.carried
  ]

  -- ---- requests

  -- behind any call
  old_request : (f : AckFrequencyValue) → WasGiven x.sents (ack_frequency f) → Requested took (x.sents ++ sends) f.sequence (called x y.given call a).end
  old_request f said = by_coming x y a c.joined c.served (meets y x takes) (λ (e : End) (j : Intake). Requested took (x.sents ++ sends) f.sequence e) call c.answer (record {
    apart = λ apart. go call apart c.answer;
    none = λ delivery is. further_on x.end was;
    comes = λ delivery is s among here. (
        let all = arrivals_requested took x.sents f.sequence (record { taken = gives.taken; rising = gives.gives.rising }) x.end delivery.now s.number s.frames (frames_at here s.frames) (came_to x y) (named s among here) was in
        record {
          ignored = λ reason. further_on _ (all.ignored reason);
          noted = λ state reason. further_on _ (all.noted state reason);
          takes = λ words state new none urged mark. further_on _ (all.takes words state new none urged mark);
          moves = λ p o same remote z opened j. moved_requested took (x.sents ++ sends) f.sequence p o remote z j;
          drains = λ words state new close is. further_on _ (all.drains words state new close is);
          refuses = λ words state new g is. further_on _ (all.refuses words state new g is);
          exhausts = λ state. further_on _ (all.exhausts state);
        });
  })
    where
      was : Requested took x.sents f.sequence x.end
      was = i.requests f said

      further_on : (e : End) → Requested took x.sents f.sequence e → Requested took (x.sents ++ sends) f.sequence e
      further_on e s = requested_more took x.sents sends f.sequence e s

      go : (k : Call) → is_delivery k ≡ false → IsAnswer x.policy x.end y.given k a → Requested took (x.sents ++ sents_by x.policy x.end k a) f.sequence (after_call x.policy x.end y.given k a)
      go (calls.Poll now) apart is = subst (λ (o : Answer). Requested took (x.sents ++ sent_if (gave o) (sent_by x.policy x.end now)) f.sequence (polled x.policy x.end now).end) (sym (poll_answer x.policy x.end now a is c.served))
          (polled_requested took x.sents x.policy x.end now gives.ascends i.asked new f.sequence was)
      go k apart is = requested_more took x.sents [] f.sequence (after_call x.policy x.end y.given k a) (call_requested took x.sents f.sequence x.policy x.end y.given k a apart refl was)

  -- a new one is under way
  new_request : (f : AckFrequencyValue) (k : Call) → IsAnswer x.policy x.end y.given k a → (t : Sent) → In t (sents_by x.policy x.end k a) → In (ack_frequency f) t.frames → Requested took (x.sents ++ sents_by x.policy x.end k a) f.sequence (after_call x.policy x.end y.given k a)
  new_request f (calls.Poll now) is t among carried =
      let same = poll_answer x.policy x.end now a is c.served in
      subst (λ (o : Answer). Requested took (x.sents ++ sent_if (gave o) (sent_by x.policy x.end now)) f.sequence (polled x.policy x.end now).end) (sym same)
      (polled_asks took x.sents x.policy x.end now gives.ascends i.asked new gives.owes t (subst (λ (o : Answer). In t (sent_if (gave o) (sent_by x.policy x.end now))) same among) f carried)
  new_request f k is t among carried = absurd among

  said_request : (f : AckFrequencyValue) → WasGiven (x.sents ++ sends) (ack_frequency f) → Requested took (x.sents ++ sends) f.sequence (called x y.given call a).end
  said_request f said = elim (in_append said.sent x.sents sends said.among) [
    | inl old ↦ old_request f (record { sent = said.sent; among = old; carried = said.carried })
    | inr now ↦ new_request f call c.answer said.sent now said.carried
  ]

  flying_call : Flying (called x y.given call a) y
  flying_call = record {
    requests = said_request;
    fly = fly_call;
    limits = said_limit;
    ids = ids_call;
    none_asked = call_asks_none x.policy x.end y.given call a x.sents c.answer c.served gives.owes i.none_asked;
    asked = before_call x.policy x.end y.given call a x.sents gives.owes c.answer c.served gives.gives.below i.asked;
    halts = halts_call B (readied_writing B b) x y call a c i.halts;
    stops = stops_call;
    done = done_call;
    resets = λ id some. go id (reset id x.told) refl (subst (λ (o : Option ℕ). IsSome o) (reset_more id x.told (told_of call a x.end.closing.state)) some);
  }
    where
      go : (id : ℕ) (o : Option ℕ) → reset id x.told ≡ o → IsSome (first_of o (reset_by id call a)) → ListedStands took (ResetOf id) (called x y.given call a).end
      go id (Some code) is some = old_listed (ResetOf id) (i.resets id (ap is_some is))
      go id None is some = new_reset id some

-- what came stays so
limit_came_on : (old later : List Packet) (own : List Sent) (what : Limited) (value : ℕ) (e : End) → ((packet : Packet) → In packet old → In packet later) → LimitStands old own what value e → LimitStands later own what value e
limit_came_on old later own what value e keeps (inl ends) = inl ends
limit_came_on old later own what value e keeps (inr (inl waits)) = inr (inl waits)
limit_came_on old later own what value e keeps (inr (inr (inl flies))) = inr (inr (inl flies))
limit_came_on old later own what value e keeps (inr (inr (inr came))) = inr (inr (inr (record { packet = came.packet; was_taken = keeps came.packet came.was_taken; limit = came.limit; carried = came.carried; enough = came.enough })))

-- nothing was written
flying_first : (x y : Beginning) → AreMade x y → Flying (begun_as x y) (begun_as y x)
flying_first x y m =
    let s : Settings = x.making.settings in
    record {
      fly = with_set_params (FliesIn (InPackets [])) (λ id w. Unit {0}) (λ id. nothing_done) (new_streams x.side s.max_uni s.max_bidi s.send_window s.receive_window s.stream_receive_window) (parameters_of y.making.settings) (small_limits y.making.settings m.y_is.range)
          (with_new (FliesIn (InPackets [])) (λ id w. Unit {0}) x.side s.max_uni s.max_bidi s.send_window s.receive_window s.stream_receive_window);
      resets = λ id some. cc;
      done = λ said. cc;
      halts = halts_first x y;
      stops = asked_first (λ id. ListedStands (came_to (begun_as y x) (begun_as x y)).took (StopOf id) (begun_as x y).end) x y;
      limits = λ what value said. absurd said.among;
      requests = λ f said. absurd said.among;
      ids = first_owed (came_to (begun_as y x) (begun_as x y)).took x y;
      none_asked = λ s among. absurd among;
      asked = λ s among. absurd among;
    }

-- it holds at the start, and stays with each call at either end
pub flying_group : (B : Way) → IsReadied B → Group B Flying
flying_group B b = record {
  first = λ x y m there back. flying_first x y m;
  writer = λ x y call a c i back. flying_call B b x y call a c i back;
  reader = λ x y call a c back i. record {
    fly = i.fly;
    requests = λ f said. requested_on (came_to x y).took (came_to (called x y.given call a) y).took y.sents f.sequence y.end (took_more x.policy y.final x.told (told_of call a x.end.closing.state) nothing_came) (i.requests f said);
    ids = λ what owed. came_on (came_to x y).took (came_to (called x y.given call a) y).took what y.end (took_more x.policy y.final x.told (told_of call a x.end.closing.state) nothing_came) (i.ids what owed);
    none_asked = i.none_asked;
    asked = i.asked;
    halts = record { halted = i.halts.halted };
    stops = asked_more (λ id. ListedStands (came_to x y).took (StopOf id) y.end) (λ id. ListedStands (came_to (called x y.given call a) y).took (StopOf id) y.end) y.end.streams
        (λ id. came_on (came_to x y).took (came_to (called x y.given call a) y).took (StopOf id) y.end (took_more x.policy y.final x.told (told_of call a x.end.closing.state) nothing_came)) i.stops;
    resets = λ id some. came_on (came_to x y).took (came_to (called x y.given call a) y).took (ResetOf id) y.end (took_more x.policy y.final x.told (told_of call a x.end.closing.state) nothing_came) (i.resets id some);
    done = λ said. came_on (came_to x y).took (came_to (called x y.given call a) y).took DoneOf y.end (took_more x.policy y.final x.told (told_of call a x.end.closing.state) nothing_came) (i.done said);
    limits = λ what value said. (let was = i.limits what value said in record {
      knows = was.knows;
      stand = limit_came_on (came_to x y).took (came_to (called x y.given call a) y).took y.sents what value y.end (took_more x.policy y.final x.told (told_of call a x.end.closing.state) nothing_came) was.stand;
    });
  };
  shows = λ x y here there above below i j. record {
    fly = i.fly;
    requests = λ f said. (let was = i.requests f said in record { below = was.below; stand = was.stand });
    ids = i.ids;
    none_asked = i.none_asked;
    resets = i.resets;
    done = i.done;
    halts = record { halted = i.halts.halted };
    stops = i.stops;
    limits = λ what value said. (let was = i.limits what value said in record { knows = was.knows; stand = was.stand });
    asked = i.asked;
  };
}
