-- So it is at each place of an honest run: each limit that an end said is within its windows of
-- what was consumed.
use Rattle.std.proofs.Common.{◌≡◌, ℕ, Bool, true, false, List, [], ◌∷◌, ◌++◌, None, refl, sym, ap, ◌∙◌, subst, inl, inr}
use Rattle.quic_wire_core.specs.StreamId.{other_side}
use Rattle.quic_wire.specs.Value.{FrameValue, StreamValue, stream}
use Rattle.quic_streams_parts.specs.RecvHalf.{RecvHalf, credit}
use Rattle.quic_streams_halves.specs.Halves.{has_place, no_places}
use Rattle.quic_streams_state.specs.declared.state.StreamsState.{StreamsState}
use Rattle.quic_streams_laws.specs.Each.{HalfIs}
use Rattle.quic_streams_laws.specs.StartLaws.{nowhere}
use Rattle.quic_streams_laws.specs.Summed.{amount_of, on_stream}
use Rattle.quic_streams_laws.specs.Written.{Wrote}
use Rattle.quic_machine.specs.declared.answers.State.TheVariants as states
use Rattle.quic_machine.specs.declared.run.Call.{Call}
use Rattle.quic_machine.specs.declared.run.Call.TheVariants as calls
use Rattle.quic_machine.specs.declared.run.Answer.{Answer}
use Rattle.quic_machine.specs.Poll.{polled}
use Rattle.quic_machine.specs.CallCases.{is_delivery}
use Rattle.quic_machine.specs.FrameCases.{begun}
use Rattle.quic_machine.specs.End.{End}
use Rattle.quic_machine.specs.Receive.{Outcome}
use Rattle.quic_machine.specs.Machine.{World, IsAnswer, after_call, gave}
use Rattle.quic_headline.specs.Runs.{Run, Told, Packet, Intake, In, until}
use Rattle.quic_headline.specs.Observer.{Sent, Watch, took, sents_until}
use Rattle.quic_headline.specs.Headline.{IsHonest, IsRun}
use Rattle.quic_headline.specs.Unread.{receive_window, stream_window}
use Rattle.quic_headline.specs.Credit.{StaysWithin, CreditIsBounded}
use Rattle.quic_headline.proofs.Packets.Delivered.{Arrivals, frames_at, among_at}
use Rattle.quic_headline.proofs.Packets.Group.{meets}
use Rattle.quic_headline.proofs.Places.Told.{in_append}
use Rattle.quic_headline.proofs.Places.Steps.{poll_answer}
use Rattle.quic_headline.proofs.Places.Parties.{told_of, Party, called, came_to, sent_by, sent_if, sents_by, Beginning, begun_as}
use Rattle.quic_headline.proofs.Places.Groups.{Way, Nothing, And, Calls, Group, both}
use Rattle.quic_headline.proofs.Places.Coming.{by_coming}
use Rattle.quic_headline.proofs.Places.Placed.{party_at, Placed, placed, start_is, watch_is}
use Rattle.quic_headline.proofs.Places.Openings.{took_is}
use Rattle.quic_headline.proofs.Places.Everything as everything
use Rattle.quic_headline.proofs.Places.Theorems.{ready}
use Rattle.quic_headline.proofs.Halves.Ready.{Ready}
use Rattle.quic_headline.proofs.Halves.Arrived.{Arrives}
use Rattle.quic_headline.proofs.Halves.Ghosts.{wrote, IsWriting}
use Rattle.quic_headline.proofs.Halves.ReadGroup.{WasIn, ReadsHold, reads_group}
use Rattle.quic_headline.proofs.Halves.Writer.{grows_behind}
use Rattle.quic_headline.proofs.Causes.Shown.{call_closes}
use Rattle.quic_headline.proofs.Channel.AllStreams.{ids}
use Rattle.quic_headline.proofs.Channel.Received.{Stays}
use Rattle.quic_headline.proofs.Channel.Sums.{sum_none}
use Rattle.quic_headline.proofs.Channel.Within.{Within}
use Rattle.quic_headline.proofs.Unread.Walk.{Of}
use Rattle.quic_headline.proofs.Credit.Lists.{Usage, usage, uses_then, told_uses, packet_uses, frame_said, within_told, within_packet, SaysFrame, padding_said}
use Rattle.quic_headline.proofs.Credit.Counted.{IsCounted, IsSpent, IsAny, Uses, grown, frames_count, call_counts}
use Rattle.quic_headline.proofs.Credit.Said.{IsKnown, poll_within, poll_uses}
use Rattle.quic_headline.proofs.Halves.Moved.{streams_stay}

-- ---- the group

-- y reads what x writes: while y is open, it consumed what the lists say or less; and what it said
-- is within its windows of that
pub record Credits (x y : Party) : Type 0 where
  pub still : y.end.closing.state ≡ states.Open → Of (Uses y.made.streams.receiving.window y.made.streams.receiving.stream_window (usage (came_to y x).took y.told)) y.end.streams
  pub said : (s : Sent) → In s y.sents → (f : FrameValue) → In f s.frames → StaysWithin y.made.streams.receiving.window y.made.streams.receiving.stream_window (came_to y x).took y.told f

module _ (B : Way) (w : IsWriting B) (within : (x y : Party) → B x y → Within x y) (holds : (x y : Party) → B x y → ReadsHold x y) (x y : Party) (call : Call) (a : Answer) (c : Calls B x y call a) (i : Credits y x) where
  abbrev wide : ℕ
  wide = x.made.streams.receiving.window

  abbrev each_wide : ℕ
  each_wide = x.made.streams.receiving.stream_window

  abbrev packets : List Packet
  packets = (came_to x y).took

  abbrev t : Told
  t = told_of call a x.end.closing.state

  abbrev done : ℕ → Wrote
  done = wrote y.told

  abbrev taken : StreamValue → Type 0
  taken g = WasIn (came_to x y).took (stream g)

  here : Stays x.end.streams x.end.streams
  here = (within y x c.takes).stays

  read_there : ReadsHold y x
  read_there = holds y x c.takes

  known : x.end.closing.state ≡ states.Open → IsKnown wide each_wide packets x.told x.end.streams done x.end.streams
  known open_here = record { stays = here; reads_are = read_there.reads; uses = i.still open_here }

  -- ---- what was consumed

  abbrev After : End → Intake → Type 0
  After e j = e.closing.state ≡ states.Open → Of (Uses wide each_wide (usage j.took (x.told ++ t ∷ []))) e.streams

  told_more : (s : StreamsState) → Of (Uses wide each_wide (usage packets x.told)) s → Of (Uses wide each_wide (usage packets (x.told ++ t ∷ []))) s
  told_more s j = grown wide each_wide (usage packets x.told) (usage packets (x.told ++ t ∷ [])) (told_uses packets x.told t) s j

  apart_uses : is_delivery call ≡ false → After (after_call x.policy x.end y.given call a) (came_to x y)
  apart_uses apart still = call_counts wide each_wide packets x.told x.end.closing.state x.end x.end.streams done taken here (i.still open_before) x.policy y.given read_there.reads read_there.brought.taken call a apart c.answer
      (λ now polls. told_more (polled x.policy x.end now).end.streams (poll_uses wide each_wide packets x.told x.end.streams done x.policy x.end now (known open_before)))
    where
      open_before : x.end.closing.state ≡ states.Open
      open_before = elim (call_closes x.policy x.end y.given call a apart) [
        | inl k ↦ sym k.state ∙ still
        | inr shut ↦ absurd (shut.shut still)
      ]

  comes_uses : (now : ℕ) (s : Sent) (from : Bool) → Arrivals x.end now s.number s.frames (frames_at from s.frames) (came_to x y) (λ (o : Outcome) (j : Intake). After o.end j)
  comes_uses now s from = record {
    ignored = λ reason still. told_more x.end.streams (i.still still);
    noted = λ state reason still. (let clash : states.Closing ≡ states.Open = sym state ∙ still in cc);
    takes = λ words state new none urged mark still. frames_count wide each_wide x.end.streams later (frames_at from s.frames) (begun x.end now s.number) (among_at (SaysFrame later) (padding_said later) from s.frames (frame_said p packets (x.told ++ t ∷ []))) here
        (grown wide each_wide (usage packets x.told) later (uses_then (usage packets x.told) (usage packets (x.told ++ t ∷ [])) later (told_uses packets x.told t) (packet_uses p packets (x.told ++ t ∷ []))) x.end.streams (i.still state));
    moves = λ q o same remote z opened j still. streams_stay (Of (Uses wide each_wide later)) q o remote z (j opened);
    drains = λ words state new close is still. cc;
    refuses = λ words state new f is still. cc;
    exhausts = λ state still. cc;
  }
    where
      p : Packet
      p = record { number = s.number; frames = s.frames }

      later : Usage
      later = usage (p ∷ packets) (x.told ++ t ∷ [])

  uses_call : After (called x y.given call a).end (came_to (called x y.given call a) y)
  uses_call = by_coming x y a c.joined c.served (meets y x (w.packets y x c.takes)) After call c.answer (record {
    apart = apart_uses;
    none = λ delivery is still. told_more x.end.streams (i.still still);
    comes = λ delivery is s among from. comes_uses delivery.now s from;
  })

  -- ---- what was said

  abbrev Said : End → Intake → Type 0
  Said e j = (s : Sent) → In s (x.sents ++ sents_by x.policy x.end call a) → (f : FrameValue) → In f s.frames → StaysWithin wide each_wide j.took (x.told ++ t ∷ []) f

  -- what was said before stays within
  said_before : (s : Sent) → In s x.sents → (f : FrameValue) → In f s.frames → StaysWithin wide each_wide packets (x.told ++ t ∷ []) f
  said_before s old f among = within_told wide each_wide packets x.told t f (i.said s old f among)

  -- a call but a poll says nothing
  now_said : (k : Call) → IsAnswer x.policy x.end y.given k a → (s : Sent) → In s (sents_by x.policy x.end k a) → (f : FrameValue) → In f s.frames → StaysWithin wide each_wide packets x.told f
  now_said (calls.Poll now) is s new f among = poll_within wide each_wide packets x.told x.end.streams done x.policy x.end now (w.packets x y c.gives).owes known s (subst (λ (b : Answer). In s (sent_if (gave b) (sent_by x.policy x.end now))) (poll_answer x.policy x.end now a is c.served) new) f among
  now_said k is s new f among = absurd new

  all_said : Said x.end (came_to x y)
  all_said s there f among = elim (in_append s x.sents (sents_by x.policy x.end call a) there) [
    | inl old ↦ said_before s old f among
    | inr new ↦ within_told wide each_wide packets x.told t f (now_said call c.answer s new f among)
  ]

  said_call : Said (called x y.given call a).end (came_to (called x y.given call a) y)
  said_call = by_coming x y a c.joined c.served (meets y x (w.packets y x c.takes)) Said call c.answer (record {
    apart = λ apart. all_said;
    none = λ delivery is. all_said;
    comes = λ delivery is s among from. record {
      ignored = λ reason. all_said;
      noted = λ state reason. all_said;
      takes = λ words state new none urged mark q there f k. within_packet wide each_wide (record { number = s.number; frames = s.frames }) packets (x.told ++ t ∷ []) f (all_said q there f k);
      moves = λ q o same remote z opened j. j;
      drains = λ words state new close fault q there f k. within_packet wide each_wide (record { number = s.number; frames = s.frames }) packets (x.told ++ t ∷ []) f (all_said q there f k);
      refuses = λ words state new f is. all_said;
      exhausts = λ state. all_said;
    };
  })

  reads_call : Credits y (called x y.given call a)
  reads_call = record { still = uses_call; said = said_call }

-- ---- the start

credits_first : (x y : Beginning) → Credits (begun_as x y) (begun_as y x)
credits_first x y = record {
  still = λ open_here. record {
    window = refl;
    stream_window = refl;
    sums = record {
      final = λ id. 0;
      sum = sym (sum_none ids (λ j. on_stream {A = RecvHalf} credit (λ id. 0) y.side (begun_as y x).end.streams.receiving.halves j) (λ j below. nothing j (has_place y.side no_places j)));
      each = λ id. unused id (has_place y.side no_places id) refl;
    };
  };
  said = λ s none. absurd none;
}
  where
    nothing : (id : ℕ) (b : Bool) → amount_of {A = RecvHalf} credit 0 None b ≡ 0
    nothing id true = refl
    nothing id false = refl

    unused : (id : ℕ) (b : Bool) → has_place y.side no_places id ≡ b → HalfIs (IsAny id) (IsCounted (usage [] []) id) (IsSpent (usage [] []) id 0) None b
    unused id true is = absurd (nowhere y.side id is)
    unused id false is = tt

pub credits_group : (B : Way) → IsWriting B → ((x y : Party) → B x y → Within x y) → ((x y : Party) → B x y → ReadsHold x y) → Group B Credits
credits_group B w within holds = record {
  first = λ x y m there back. credits_first x y;
  writer = λ x y call a c i back. record { still = i.still; said = i.said };
  reader = λ x y call a c there i. reads_call B w within holds x y call a c i;
  shows = λ x y here there b back i j. record { still = i.still; said = i.said };
}

-- ---- all that holds

-- the packets, what was written, said and read
abbrev pub Base : Way
Base = And (And (And (everything.All Ready ready) Arrives) (everything.Said Ready ready)) ReadsHold

abbrev N : Way
N = And Nothing (And (And (everything.All Ready ready) Arrives) (everything.Said Ready ready))

abbrev M : Way
M = And Nothing Base

said_writing : IsWriting N
said_writing = record {
  packets = λ x y h. h.1.0.0.0.0;
  written = λ x y h. h.1.0.0.0.1.0.writes.keeps.holds;
  says = λ x y h. h.1.0.0.0.1.0.says;
  grows = λ x y call a c. grows_behind N (λ x y h. h.1.0.0.0.0) x y call a c c.gives.1.0.0.0.1.0;
}

is_writing : IsWriting M
is_writing = record {
  packets = λ x y h. h.1.0.0.0.0.0;
  written = λ x y h. h.1.0.0.0.0.1.0.writes.keeps.holds;
  says = λ x y h. h.1.0.0.0.0.1.0.says;
  grows = λ x y call a c. grows_behind M (λ x y h. h.1.0.0.0.0.0) x y call a c c.gives.1.0.0.0.0.1.0;
}

pub credited : Group Nothing (And Base Credits)
credited = both Nothing Base Credits (both Nothing (And (And (everything.All Ready ready) Arrives) (everything.Said Ready ready)) ReadsHold (everything.all_said Ready ready) (reads_group N said_writing))
    (credits_group M is_writing (λ x y h. h.1.0.1.1) (λ x y h. h.1.1))

-- ---- the clause

module _ (r : Run) (end : World) (honest : IsHonest r) (run : IsRun r end) where
  pub credit_is_bounded : CreditIsBounded r
  credit_is_bounded s side i sent f served among carried =
      subst (λ (ps : List Packet). StaysWithin (receive_window r s side) (stream_window r s side) ps (until r side i) f) (sym packets_are)
      (subst (λ (n : ℕ). StaysWithin n (stream_window r s side) (came_to x y).took (until r side i) f) window_is
      (subst (λ (n : ℕ). StaysWithin x.made.streams.receiving.window n (came_to x y).took (until r side i) f) stream_is
      (p.takes.1.said sent (subst (In sent) sents_are among) f carried)))
    where
      p : Placed (And Base Credits) r end side i
      p = placed (And Base Credits) credited r end honest run side i served

      x : Party
      x = party_at r i p.world side p.sents

      y : Party
      y = party_at r i p.world (other_side side) p.theirs

      packets_are : took r side i ≡ (came_to x y).took
      packets_are = ap (λ (k : Intake). k.took) (took_is r honest p.world i side p.sents p.theirs)

      sents_are : sents_until r side i ≡ x.sents
      sents_are = ap (λ (v : Watch). v.own) (watch_is r honest p.world i side p.sents p.theirs) ∙ p.gives.0.0.0.0.1.own

      window_is : x.made.streams.receiving.window ≡ receive_window r s side
      window_is = ap (λ (e : End). e.streams.receiving.window) (start_is r.start s side)

      stream_is : x.made.streams.receiving.stream_window ≡ stream_window r s side
      stream_is = ap (λ (e : End). e.streams.receiving.stream_window) (start_is r.start s side)
