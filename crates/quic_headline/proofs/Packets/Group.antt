-- What holds of the packets between two ends, as one group: what the one gave, and what the other
-- took of it.
use Rattle.std.proofs.Common.{◌≡◌, ℕ, ◌<◌, ◌≤◌, ◌^◌, Bool, List, ◌++◌, length, false, inl, inr, refl, sym, ap, ◌∙◌, subst, arith, true}
use Rattle.std.proofs.lemmas.List.{length-append}
use Rattle.quic_machine.specs.declared.run.Call.{Call}
use Rattle.quic_machine.specs.declared.run.Answer.{Answer}
use Rattle.quic_spaces.specs.Numbers.{Numbers, number_given}
use Rattle.quic_recovery_core.specs.PendingAcks.{Pending}
use Rattle.quic_time.specs.Timers.{Timers}
use Rattle.quic_machine.specs.declared.answers.State.{State}
use Rattle.quic_machine.specs.Closing.{Closing, ticked}
use Rattle.quic_config.specs.declared.mtu_discovery.TheConstants.{MAX_UDP_PAYLOAD}
use Rattle.quic_config.specs.Transport.{TransportSettings, transport_of, parameters_of}
use Rattle.quic_machine.specs.DraftLaws.{HasRoom, MayLeave}
use Rattle.quic_machine.specs.Policy.{Policy}
use Rattle.quic_wire_core.specs.declared.stream_id.Side.{Side}
use Rattle.quic_machine.specs.Start.{Making, IsMaking}
use Rattle.quic_machine.specs.End.{End, new_end, with_closing, number_of, closed_by}
use Rattle.quic_machine.specs.Receive.{Outcome}
use Rattle.quic_machine.specs.Poll.{Polled, polled, goes, draft_as, Leaving}
use Rattle.quic_machine.specs.Machine.{after_call, gives}
use Rattle.quic_machine.specs.CallCases.{Plain, is_delivery, by_plain_call}
use Rattle.quic_machine.specs.CallCases as cases
use Rattle.quic_machine.specs.LeaveCases.{at_losses, by_expired}
use Rattle.quic_machine.specs.PollCases.{ready_at, by_poll, composes, at_poll}
use Rattle.quic_headline.specs.Runs.{Intake, In, count_given, nothing_came}
use Rattle.quic_headline.specs.Observer.{Sent}
use Rattle.quic_machine.specs.Validation.{Asked}
use Rattle.quic_headline.proofs.Packets.Closes.{by_closes}
use Rattle.quic_headline.proofs.Packets.Apart.{by_waits, by_next_id}
use Rattle.quic_headline.proofs.Packets.Invariant.{IsSent, Gives, KnowsIn, Acks, WereSent, NameTaken, AreTaken, AreTracked}
use Rattle.quic_headline.proofs.Packets.Growth.{step_of}
use Rattle.quic_headline.proofs.Packets.Intakes.{count_more, took_more}
use Rattle.quic_headline.proofs.Packets.Delivered.{Arrivals, arrived, frames_at, among_at}
use Rattle.quic_congestion.proofs.SizedSearch.{sized_first}
use Rattle.quic_headline.proofs.Packets.Sizes.{HasSize, sized_call}
use Rattle.quic_headline.proofs.Packets.Stays.{settles_losses, placed_call}
use Rattle.quic_headline.proofs.Packets.Knowing.{knows_first, knows_given, expects_in, knows_arrivals}
use Rattle.quic_headline.proofs.Packets.Acking.{acks_first, acks_step, acks_arrivals, taken_step, taken_arrivals}
use Rattle.quic_headline.proofs.Packets.Composed.{IsSpellable}
use Rattle.quic_headline.proofs.Packets.CloseForms.{OwesWell, owed_arrivals, owed_call}
use Rattle.quic_headline.proofs.Packets.Given.{gives_step}
use Rattle.quic_headline.proofs.Packets.TrackedSteps.{tracked_step}
use Rattle.quic_headline.proofs.Packets.Ascending.{Ascends, ascends_call}
use Rattle.quic_headline.proofs.Packets.Naming.{were_sent_more, sent_arrivals, name_taken_on, name_taken_step}
use Rattle.quic_headline.proofs.Packets.Ids.{IsLong, AnyNumber, TellLong, LongIds, call_says, call_long, frames_long, long_arrivals, first_long_ids, SaysIds}
use Rattle.quic_headline.proofs.Packets.Owing.{Owes, IsAlone, owes_call, alone_call, first_owes}
use Rattle.quic_headline.proofs.Places.Told.{in_append}
use Rattle.quic_headline.proofs.Places.Steps.{gives_count}
use Rattle.quic_machine.specs.FrameCases.{begun}
use Rattle.quic_headline.proofs.Places.Parties.{sents_by, told_of, Party, called, came_to, AreJoined}
use Rattle.quic_headline.proofs.Places.Groups.{Way, Before, Early}
use Rattle.quic_headline.proofs.Places.Coming.{Meets, by_coming}
use Rattle.quic_headline.proofs.Packets.Probes.{may_leave}
use Rattle.quic_headline.proofs.Packets.Named.{NamesTaken}
use Rattle.quic_headline.proofs.Packets.Strays.{acks_at}

-- x gives, and y takes.
pub record PacketsHold (x y : Party) : Type 0 where
  -- the datagrams that were given, as they were sent
  pub gives : Gives x.policy x.end.numbers x.end.filter.last x.sents x.given
  -- all ids of which x tells, and those of y that it knows, have the length of own ids
  pub tells : TellLong x.sents
  pub long : LongIds x.end
  -- what x owes is a close, which can go, and each that it sent went alone
  pub owes : Owes x.end
  pub due : OwesWell x.end
  pub alone : (s : Sent) → In s x.sents → IsAlone s.frames
  -- it sends datagrams of 1200 bytes at least, and no more than a UDP payload has
  pub sized : HasSize 1200 MAX_UDP_PAYLOAD x.end
  -- its settings are those with which it was made, and by these the least size is 1200 bytes or more
  pub settings : x.end.transport ≡ x.made.transport
  pub least : 1200 ≤ x.made.transport.min_mtu
  pub count : length x.given ≡ count_given x.told
  -- what x waits for was sent
  pub tracked : AreTracked x.sents x.end.tracking.packets
  pub ascends : Ascends x.end
  -- what the ACK frames of x name, x took
  pub named : NameTaken x.sents (came_to x y).took
  pub knows : KnowsIn y.end.closing.state y.end.numbers (came_to y x)
  pub acks : Acks y.end.acknowledging y.end.marks.came
  -- each packet that y took was sent so
  pub taken : WereSent x.sents (came_to y x).took
  -- what y has to acknowledge, it took
  pub acking : AreTaken y.end.acknowledging.runs (came_to y x).took

-- what a delivery rests on
pub meets : (x y : Party) → PacketsHold x y → Meets x y
meets x y p = record { each = p.gives.each; knows = p.knows }

-- a datagram of x has room for frames, and fewer than 2 ^ 16 bytes
pub has_room : (x y : Party) → PacketsHold x y → HasRoom x.end
has_room x y p =
    let id = p.long.peer.used in
    let least = p.sized.between.size in
    let most = p.sized.size in
    (omega arith, least, omega arith, subst (λ (t : TransportSettings). 1200 ≤ t.min_mtu) (sym p.settings) p.least)

-- the datagrams of an end that is made have 1200 bytes at least, since its peer takes so many, and
-- no more than a UDP payload has
pub made_sized : (side : Side) (m other : Making) → IsMaking m → HasSize 1200 MAX_UDP_PAYLOAD (new_end side m.settings m.windows (parameters_of other.settings) m.id other.id m.remote m.moment m.validated m.words)
made_sized side m other made =
    let initial = made.range.bounds.initial in
    sized_first 1200 MAX_UDP_PAYLOAD (transport_of m.settings) (omega arith) made.range.bounds.least made.sizes made.range.search

-- ---- the end that takes

-- what an end knows of what came, and has to acknowledge, where these were sent
record Takes (sents : List Sent) (e : End) (i : Intake) : Type 0 where
  knows : KnowsIn e.closing.state e.numbers i
  acks : Acks e.acknowledging e.marks.came
  taken : WereSent sents i.took
  acking : AreTaken e.acknowledging.runs i.took

-- a poll changes neither the state nor what is known, but where the end closes
knows_poll : (p : Policy) (e : End) (now : ℕ) (i : Intake) → KnowsIn e.closing.state e.numbers i → KnowsIn (polled p e now).end.closing.state (polled p e now).end.numbers i
knows_poll p e now i k =
    by_poll p e now (λ (q : Polled). KnowsIn q.end.closing.state q.end.numbers i) (record {
      silent = k;
      failed = k;
      nothing = λ c. k;
      repeats = λ is. by_closes p (with_closing e (ticked e.closing now)) (λ (q : Polled). KnowsIn q.end.closing.state q.end.numbers i) k (λ f goes. knows_given e.closing.state e.numbers _ i k);
      closes = λ reason c bound. by_closes p (closed_by reason (at_poll e now c)) (λ (q : Polled). KnowsIn q.end.closing.state q.end.numbers i) (expects_in e.closing.state e.numbers i k) (λ f goes. expects_in e.closing.state e.numbers i k);
      gives = λ leaving c left is may ready some. gives leaving (at_poll e now c) refl refl (may_leave e now leaving (at_poll e now c) ready);
    })
  where
    gives : (leaving : Leaving) (x : End) → x.closing.state ≡ e.closing.state → x.numbers ≡ e.numbers → MayLeave leaving x
        → (let d : End = (draft_as leaving x).end in KnowsIn d.closing.state (number_given d.numbers (number_of d)) i)
    gives leaving x state numbers alone =
        let c = composes leaving x alone in
        let d : End = (draft_as leaving x).end in
        subst (λ (s : State). KnowsIn s (number_given d.numbers (number_of d)) i) (sym (ap (λ (y : Closing). y.state) c.closing ∙ state))
        (subst (λ (y : Numbers). KnowsIn e.closing.state (number_given y (number_of d)) i) (sym (c.numbers ∙ numbers)) (knows_given e.closing.state e.numbers (number_of d) i k))

-- what came is known, after a call that is no delivery
knows_step : (q : Policy) (e : End) (theirs : List (List ℕ)) (call : Call) (a : Answer) (i : Intake) → is_delivery call ≡ false → KnowsIn e.closing.state e.numbers i → KnowsIn (after_call q e theirs call a).closing.state (after_call q e theirs call a).numbers i
knows_step q e theirs call a i other k = by_plain_call q e theirs (λ (f : End). KnowsIn f.closing.state f.numbers i) call a keep
  where
    losses : (now : ℕ) (pending : Pending) (timers : Timers) (waits : Bool) (asked : Asked) → KnowsIn (at_losses e now pending timers waits asked).closing.state (at_losses e now pending timers waits asked).numbers i
    losses now pending timers waits asked =
        let s = settles_losses (with_closing e (ticked e.closing now)) in
        subst (λ (c : Closing). KnowsIn c.state (at_losses e now pending timers waits asked).numbers i) (sym s.closing) (subst (λ (x : Numbers). KnowsIn e.closing.state x i) (sym s.numbers) k)

    keep : Plain q e call (λ (f : End). KnowsIn f.closing.state f.numbers i)
    keep (cases.times now expiry) may = by_expired q.words e now (λ (f : End). KnowsIn f.closing.state f.numbers i) (λ pending tracking timers waits asked runs packets. k) (λ pending timers waits asked runs. losses now pending timers waits asked) (λ x j. expects_in x.closing.state x.numbers i j) expiry
    keep (cases.polls now) may = knows_poll q e now i k
    keep (cases.hears arrival d) set = cc
    keep (cases.closes reason f now) may = expects_in e.closing.state e.numbers i k
    keep (cases.waits now b) may = by_waits (λ (f : End). KnowsIn f.closing.state f.numbers i) b (with_closing e (ticked e.closing now)) (expects_in e.closing.state e.numbers i k) k
    keep (cases.changes_id b) may = by_next_id (λ (f : End). KnowsIn f.closing.state f.numbers i) e b k (λ c. k) (λ c most. k)
    keep c may = k

-- in each case of a delivery
takes_arrivals : (e : End) (now : ℕ) (s : Sent) (here : Bool) (i : Intake) (sents : List Sent) → In s sents → s.number < 2 ^ 62 → Takes sents e i → Arrivals e now s.number s.frames (frames_at here s.frames) i (λ (o : Outcome) (j : Intake). Takes sents o.end j)
takes_arrivals e now s here i sents among small t =
    let those = frames_at here s.frames in
    let knows = knows_arrivals e now s.number s.frames here i t.knows in
    let acks = acks_arrivals e now s.number s.frames those i small t.acks in
    let taken = sent_arrivals e now s.number s.frames those i sents s (among, refl) refl t.taken in
    let acking = taken_arrivals e now s.number s.frames those i t.acks t.acking in
    record {
      ignored = λ reason. t;
      noted = λ state reason. record { knows = knows.noted state reason; acks = acks.noted state reason; taken = taken.noted state reason; acking = acking.noted state reason };
      takes = λ words state new none urged mark. record { knows = knows.takes words state new none urged mark; acks = acks.takes words state new none urged mark; taken = taken.takes words state new none urged mark; acking = acking.takes words state new none urged mark };
      moves = λ p o same remote x opened m. record { knows = knows.moves p o same remote x opened m.knows; acks = acks.moves p o same remote x opened m.acks; taken = taken.moves p o same remote x opened m.taken; acking = acking.moves p o same remote x opened m.acking };
      drains = λ words state new close is. record { knows = knows.drains words state new close is; acks = acks.drains words state new close is; taken = taken.drains words state new close is; acking = acking.drains words state new close is };
      refuses = λ words state new f is. record { knows = knows.refuses words state new f is; acks = acks.refuses words state new f is; taken = taken.refuses words state new f is; acking = acking.refuses words state new f is };
      exhausts = λ state. record { knows = knows.exhausts state; acks = acks.exhausts state; taken = taken.exhausts state; acking = acking.exhausts state };
    }

-- x makes a call: what it took of y
takes_step : (B : Way) (x y : Party) (call : Call) (a : Answer) → Before B x y call a → PacketsHold y x → Takes y.sents (called x y.given call a).end (came_to (called x y.given call a) y)
takes_step B x y call a c p = by_coming x y a c.joined c.served (meets y x p) (Takes y.sents) call c.answer (record {
  apart = λ apart. record {
    knows = knows_step x.policy x.end y.given call a (came_to x y) apart p.knows;
    acks = acks_step x.policy x.end y.given call a apart p.acks;
    taken = p.taken;
    acking = taken_step x.policy x.end y.given call a (came_to x y).took apart p.acking;
  };
  none = λ delivery is. before;
  comes = λ delivery is s among here. takes_arrivals x.end delivery.now s here (came_to x y) y.sents among (step_of (IsSent y.policy) y.sents y.given s p.gives.each among).1.small before;
})
  where
    before : Takes y.sents x.end (came_to x y)
    before = record { knows = p.knows; acks = p.acks; taken = p.taken; acking = p.acking }

-- ---- the group

-- what goes of an end next has a form, whenever it is polled
abbrev pub SpellsNext : End → Type 0
SpellsNext e = (now : ℕ) → goes (ready_at e now) ≡ true → IsSpellable (ready_at e now)

-- x makes a call: of which ids it tells, and which it knows
long_step : (B : Way) (x y : Party) (call : Call) (a : Answer) → Before B x y call a → PacketsHold x y → PacketsHold y x → LongIds (called x y.given call a).end
long_step B x y call a c p back = by_coming x y a c.joined c.served (meets y x back) (λ (e : End) (i : Intake). LongIds e) call c.answer (record {
  apart = λ apart. call_long x.policy x.end y.given call a x.sents apart p.tells p.tracked p.long;
  none = λ delivery is. p.long;
  comes = λ delivery is s among here. long_arrivals x.end delivery.now s.number s.frames (frames_at here s.frames) (came_to x y) (taken delivery.now s among here) p.long;
})
  where
    taken : (now : ℕ) (s : Sent) → In s y.sents → (here : Bool) → LongIds (arrived x.end now s.number (frames_at here s.frames)).end
    taken now s among here = frames_long (came_to y x).took x.sents (record { taken = p.taken; rising = p.gives.rising }) p.tells (frames_at here s.frames) (among_at (SaysIds IsLong AnyNumber) tt here s.frames (λ f i. back.tells s f among i)) (begun x.end now s.number)
        (acks_at (NamesTaken (came_to y x).took) here s.frames (λ a i k named. back.named s a k among i named)) p.tracked (record { waits = p.long.waits; peer = p.long.peer })

-- x makes a call: which close it owes
due_step : (B : Way) (x y : Party) (call : Call) (a : Answer) → Before B x y call a → PacketsHold x y → PacketsHold y x → OwesWell (called x y.given call a).end
due_step B x y call a c p back = by_coming x y a c.joined c.served (meets y x back) (λ (e : End) (i : Intake). OwesWell e) call c.answer (record {
  apart = λ apart. owed_call x.policy x.end y.given call a c.codes apart p.due;
  none = λ delivery is. p.due;
  comes = λ delivery is s among here. owed_arrivals x.end delivery.now s.number s.frames (frames_at here s.frames) (came_to x y) p.due;
})

-- x makes a call: how many datagrams it gave
counted : (B : Way) (x y : Party) (call : Call) (a : Answer) → Before B x y call a → length x.given ≡ count_given x.told → length (called x y.given call a).given ≡ count_given (called x y.given call a).told
counted B x y call a c before =
    let all = length-append x.given (gives x.policy x.end call a) in
    let one = gives_count x.policy x.end y.given call a c.answer in
    let told = count_more x.told (told_of call a x.end.closing.state) in
    omega arith

module _ (B : Way) (spells : (x y : Party) → AreJoined x y → B x y → B y x → PacketsHold x y → PacketsHold y x → SpellsNext x.end) where
  -- x makes a call: what it gave
  gives_on : (x y : Party) (call : Call) (a : Answer) → Before B x y call a → PacketsHold x y → PacketsHold y x → PacketsHold (called x y.given call a) y
  gives_on x y call a c p back =
      let t = told_of call a x.end.closing.state in
      let more = sents_by x.policy x.end call a in
      record {
        gives = gives_step x.policy x.end y.given a x.given x.sents call c.answer c.served p.long.peer.used (has_room x y p) p.due (spells x y c.joined c.gives c.takes p back) p.gives;
        tells = call_says IsLong AnyNumber x.policy x.end y.given call a x.sents c.answer c.served p.owes p.tells p.tracked p.long.waits;
        long = long_step B x y call a c p back;
        owes = owes_call x.policy x.end y.given call a p.owes;
        due = due_step B x y call a c p back;
        alone = λ s i. elim (in_append s x.sents more i) [ inl old ↦ p.alone s old | inr new ↦ alone_call x.policy x.end y.given call a c.answer c.served p.owes s new ];
        sized = sized_call 1200 MAX_UDP_PAYLOAD x.policy x.end y.given call a p.sized;
        settings = (placed_call x.policy x.end y.given call a).transport ∙ p.settings;
        least = p.least;
        count = counted B x y call a c p.count;
        tracked = tracked_step x.policy x.end y.given call a x.sents c.answer c.served p.tracked;
        ascends = ascends_call x.policy x.end y.given call a p.ascends;
        named = name_taken_on (x.sents ++ more) (came_to x y).took (came_to (called x y.given call a) y).took
            (took_more x.policy y.final x.told t nothing_came)
            (name_taken_step x.policy x.end y.given call a x.sents (came_to x y).took c.answer c.served p.owes back.acks back.acking p.named);
        knows = p.knows;
        acks = p.acks;
        taken = were_sent_more x.sents more (came_to y x).took p.taken;
        acking = p.acking;
      }

  -- x makes a call: what it took
  takes_on : (x y : Party) (call : Call) (a : Answer) → Before B x y call a → PacketsHold x y → PacketsHold y x → PacketsHold y (called x y.given call a)
  takes_on x y call a c p back =
      let t = takes_step B x y call a c back in
      record {
        gives = back.gives;
        tells = back.tells;
        long = back.long;
        owes = back.owes;
        due = back.due;
        alone = back.alone;
        sized = back.sized;
        settings = back.settings;
        least = back.least;
        count = back.count;
        tracked = back.tracked;
        ascends = back.ascends;
        named = back.named;
        knows = t.knows;
        acks = t.acks;
        taken = t.taken;
        acking = t.acking;
      }

  -- the packets between two ends, over what their streams spell
  pub packets_group : Early B PacketsHold
  packets_group = record {
    first = λ x y m. record {
      gives = record { rising = tt; below = λ s i. absurd i; next = refl; behind = omega arith; left_out = tt; each = tt };
      tells = λ s f i. absurd i;
      long = first_long_ids x.side x.making.settings x.making.windows (parameters_of y.making.settings) x.making.id y.making.id x.making.remote x.making.moment x.making.validated x.making.words m.joined.y_long;
      owes = first_owes x.side x.making.settings x.making.windows (parameters_of y.making.settings) x.making.id y.making.id x.making.remote x.making.moment x.making.validated x.making.words;
      due = λ f is. cc;
      alone = λ s i. absurd i;
      sized = made_sized x.side x.making y.making m.x_is;
      settings = refl;
      least = m.x_is.range.bounds.least;
      count = refl;
      tracked = λ n t is. absurd is;
      ascends = tt;
      named = λ s a k is i named. absurd is;
      knows = knows_first;
      acks = acks_first;
      taken = λ packet i. absurd i;
      acking = λ k h. absurd h;
    };
    writer = gives_on;
    reader = takes_on;
    shows = λ x y here there p. record {
      gives = p.gives;
      tells = p.tells;
      long = record { waits = p.long.waits; peer = p.long.peer };
      owes = p.owes;
      due = p.due;
      alone = p.alone;
      sized = p.sized;
      settings = p.settings;
      least = p.least;
      count = p.count;
      tracked = p.tracked;
      ascends = p.ascends;
      named = p.named;
      knows = p.knows;
      acks = p.acks;
      taken = p.taken;
      acking = p.acking;
    };
  }
