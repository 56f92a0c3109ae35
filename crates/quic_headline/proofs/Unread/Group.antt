-- What an end consumed of what the other wrote, and what is known of each of its halves that
-- receive, at each place of a run: a group over what is written.
use Rattle.std.proofs.Common.{◌≡◌, ℕ, Bool, true, false, List, [], None, refl, sym, subst, ◌⊎◌, inl, inr}
use Rattle.quic_wire.specs.Value.{FrameValue, padding, path_challenge, path_response}
use Rattle.quic_streams_parts.specs.RecvHalf.{RecvHalf, credit}
use Rattle.quic_streams_halves.specs.Halves.{has_place, no_places}
use Rattle.quic_streams_state.specs.declared.state.StreamsState.{StreamsState}
use Rattle.quic_streams_laws.specs.Each.{HalfIs}
use Rattle.quic_streams_laws.specs.KeepingLaws.{by_frame}
use Rattle.quic_streams_laws.specs.QuietLaws.{by_told, by_tells}
use Rattle.quic_streams_laws.specs.StartLaws.{nowhere}
use Rattle.quic_streams_laws.specs.Summed.{amount_of, on_stream}
use Rattle.quic_streams_laws.specs.Written.{Wrote}
use Rattle.quic_machine.specs.declared.run.Call.{Call}
use Rattle.quic_machine.specs.declared.run.Answer.{Answer}
use Rattle.quic_machine.specs.Policy.{Policy}
use Rattle.quic_machine.specs.End.{End}
use Rattle.quic_machine.specs.Receive.{Outcome}
use Rattle.quic_machine.specs.Poll.{Draft, composed, polled}
use Rattle.quic_machine.specs.DraftLaws.{Writing, by_writing, IsClose}
use Rattle.quic_machine.specs.Puts as puts
use Rattle.quic_machine.specs.FrameCases.{begun, passed}
use Rattle.quic_headline.specs.Runs.{Packet, Intake, In}
use Rattle.quic_headline.proofs.Packets.Delivered.{Arrivals, with_taken, frames_at, among_at}
use Rattle.quic_headline.proofs.Packets.Group.{meets}
use Rattle.quic_headline.proofs.Packets.Owing.{IsAlone, closes_fine}
use Rattle.quic_headline.proofs.Packets.Probes.{poll_state}
use Rattle.quic_headline.proofs.Places.Parties.{Party, called, came_to, Beginning, begun_as}
use Rattle.quic_headline.proofs.Places.Groups.{Way, Calls, Group}
use Rattle.quic_headline.proofs.Places.Coming.{by_coming}
use Rattle.quic_headline.proofs.Halves.Ghosts.{wrote, SaysOf, IsWriting}
use Rattle.quic_headline.proofs.Halves.ReadGroup.{WasIn}
use Rattle.quic_headline.proofs.Channel.AllStreams.{ids}
use Rattle.quic_headline.proofs.Channel.Received.{Stays, stays_kept}
use Rattle.quic_headline.proofs.Channel.Sums.{sum_none}
use Rattle.quic_headline.proofs.Channel.Told.{stays_frame}
use Rattle.quic_headline.proofs.Channel.Within.{Within}
use Rattle.quic_headline.proofs.Unread.Walk.{Of, call_left, frames_left}
use Rattle.quic_headline.proofs.Unread.Half.{Brings, IsTold, IsUntold, IsWhole}
use Rattle.quic_headline.proofs.Unread.Consumed.{Consumes, consumed_steps, limit_consumes, consumes_grow, consumes_fewer, known_calls, known_opened}
use Rattle.quic_headline.proofs.Unread.Taken.{frames_take}
use Rattle.quic_headline.proofs.Packets.Strays.{IsPath, in_at, closed_at}
use Rattle.quic_headline.proofs.Halves.Moved.{streams_stay}

-- x writes, and y reads
pub record Consumed (x y : Party) : Type 0 where
  pub known : Of (Consumes (wrote x.told) (WasIn (came_to y x).took)) y.end.streams

-- ---- a poll

module _ (done : ℕ → Wrote) (before : StreamsState) (taken : FrameValue → Type 0) where
  abbrev Both : StreamsState → Type 0
  Both s = Stays before s × Of (Consumes done taken) s

  composed_consumes : (e : End) → Both e.streams → Both (composed e).end.streams
  composed_consumes e i = by_writing (λ (d : Draft). Both d.end.streams) keep e i
    where
      keep : Writing (λ (d : Draft). Both d.end.streams)
      keep (puts.control kind f) d may j = (
        by_told (Stays before) (stays_kept before) f d.end.streams j.0,
        by_tells (Of (Consumes done taken)) d.end.streams j.1 (record { final = j.1.final; sum = j.1.sum; each = j.1.each }) (λ id. limit_consumes done before taken d.end.streams id j.0 j.1) (λ dir. record { final = j.1.final; sum = j.1.sum; each = j.1.each }) (λ limit. j.1) (λ id limit. j.1) f,
      )
      keep (puts.stream id h room) d (found, first, some, is, counts) j = (by_frame (Stays before) (stays_kept before) d.end.transport.send_fairness d.end.streams id room h found tt j.0, j.1)
      keep p d may j = j

  polled_consumes : (p : Policy) (e : End) (now : ℕ) → Both e.streams → Both (polled p e now).end.streams
  polled_consumes p e now i = poll_state Both p e now composed_consumes i

-- ---- a call

-- a frame of path validation brings nothing
path_brings_not : (f : FrameValue) (id end : ℕ) → IsPath f → Brings f id end → ⊥
path_brings_not (path_challenge token) id end path brings = brings
path_brings_not (path_response token) id end path brings = brings
path_brings_not f id end path brings = path

-- a close brings nothing, nor does what goes beside it
close_brings_not : (f : FrameValue) → IsClose f ⊎ (f ≡ padding) → (id end : ℕ) → Brings f id end → ⊥
close_brings_not = closes_fine (λ f. (id end : ℕ) → Brings f id end → ⊥) (λ c id end none. none) (λ c id end none. none) (λ id end none. none)

module _ (B : Way) (w : IsWriting B) (within : (x y : Party) → B x y → Within x y) (x y : Party) (call : Call) (a : Answer) (c : Calls B x y call a) (i : Consumed y x) where
  abbrev done : ℕ → Wrote
  done = wrote y.told

  abbrev before : StreamsState
  before = x.end.streams

  here : Stays before before
  here = (within y x c.takes).stays

  abbrev After : End → Intake → Type 0
  After e j = Of (Consumes done (WasIn j.took)) e.streams

  -- the cases of a delivery
  arrivals : (now n : ℕ) (frames : List FrameValue) (from : Bool) → ((f : FrameValue) → In f frames → SaysOf done f) → IsAlone frames → Arrivals x.end now n frames (frames_at from frames) (came_to x y) (λ (o : Outcome) (j : Intake). After o.end j)
  arrivals now n frames from says alone = record {
    ignored = λ reason. i.known;
    noted = λ state reason. i.known;
    takes = λ words state new none urged mark. (
        let s : StreamsState = (passed taken (begun x.end now n)).end.streams in
        consumes_fewer done (λ g. WasIn (came_to x y).took g ⊎ In g taken) (WasIn (with_taken (came_to x y) n frames).took) s.side s.receiving s.opening.announced s.opening.configured
        (λ g id end brings v. elim (among_taken g v) [ inl one ↦ one | inr path ↦ absurd (path_brings_not g id end path brings) ])
        (frames_take done before (WasIn (came_to x y).took) (λ g. WasIn (came_to x y).took g ⊎ In g taken) taken (begun x.end now n) (λ g v. v) said none here i.known));
    moves = λ p o same remote z opened j. streams_stay (λ (v : StreamsState). Of (Consumes done (WasIn (with_taken (came_to x y) n frames).took)) v) p o remote z j;
    drains = λ words state new close is. (
        let s : StreamsState = (passed taken (begun x.end now n)).end.streams in
        consumes_fewer done (WasIn (came_to x y).took) (WasIn (with_taken (came_to x y) n frames).took) s.side s.receiving s.opening.announced s.opening.configured
        (λ g id end brings v. elim (among g v) [ inl was ↦ was | inr there ↦ absurd (close_brings_not g (closed_at from frames (begun x.end now n) close alone is g there) id end brings) ]) left);
    refuses = λ words state new f is. left;
    exhausts = λ state. i.known;
  }
    where
      taken : List FrameValue
      taken = frames_at from frames

      said : (f : FrameValue) → In f taken → SaysOf done f
      said = among_at (SaysOf done) tt from frames says

      left : Of (Consumes done (WasIn (came_to x y).took)) (passed taken (begun x.end now n)).end.streams
      left = frames_left (SaysOf done) (Stays before) (known_calls before) (Consumes done (WasIn (came_to x y).took)) (consumed_steps done before (WasIn (came_to x y).took)) (known_opened before) (stays_frame before) taken (begun x.end now n) said here i.known

      among : (g : FrameValue) → WasIn (with_taken (came_to x y) n frames).took g → WasIn (came_to x y).took g ⊎ In g frames
      among g v = go v.was_taken
        where
          go : In v.packet (with_taken (came_to x y) n frames).took → WasIn (came_to x y).took g ⊎ In g frames
          go (inl is) = inr (subst (λ (p : Packet). In g p.frames) is v.carried)
          go (inr there) = inl (record { packet = v.packet; was_taken = there; carried = v.carried })

      among_taken : (g : FrameValue) → WasIn (with_taken (came_to x y) n frames).took g → (WasIn (came_to x y).took g ⊎ In g taken) ⊎ IsPath g
      among_taken g v = elim (among g v) [ inl was ↦ inl (inl was) | inr there ↦ elim (in_at from frames g there) [ inl one ↦ inl (inr one) | inr path ↦ inr path ] ]

  reads_call : Consumed y (called x y.given call a)
  reads_call = record {
    known = by_coming x y a c.joined c.served (meets y x (w.packets y x c.takes)) After call c.answer (record {
      apart = λ apart. call_left (SaysOf done) (Stays before) (known_calls before) (Consumes done (WasIn (came_to x y).took)) (consumed_steps done before (WasIn (came_to x y).took)) x.policy x.end y.given here i.known call a apart c.answer
          (λ now polls. (polled_consumes done before (WasIn (came_to x y).took) x.policy x.end now (here, i.known)).1);
      none = λ delivery is. i.known;
      comes = λ delivery is s among from. arrivals delivery.now s.number s.frames from (w.says y x c.takes s among) ((w.packets y x c.takes).alone s among);
    });
  }

-- ---- the start

consumed_first : (x y : Beginning) → Consumed (begun_as x y) (begun_as y x)
consumed_first x y = record {
  known = record {
    final = λ id. 0;
    sum = sym (sum_none ids (λ j. on_stream {A = RecvHalf} credit (λ id. 0) y.side (begun_as y x).end.streams.receiving.halves j) (λ j below. nothing j (has_place y.side no_places j)));
    each = λ id. untold id (has_place y.side no_places id) refl;
  };
}
  where
    nothing : (id : ℕ) (b : Bool) → amount_of {A = RecvHalf} credit 0 None b ≡ 0
    nothing id true = refl
    nothing id false = refl

    untold : (id : ℕ) (b : Bool) → has_place y.side no_places id ≡ b → HalfIs (IsUntold (WasIn []) id) (IsTold (wrote [] id) (WasIn []) id) (IsWhole (wrote [] id) 0) None b
    untold id true is = absurd (nowhere y.side id is)
    untold id false is = λ f end was brings. absurd was.was_taken

pub consumed_group : (B : Way) → IsWriting B → ((x y : Party) → B x y → Within x y) → Group B Consumed
consumed_group B w within = record {
  first = λ x y m there back. consumed_first x y;
  writer = λ x y call a c i back. record { known = consumes_grow (wrote x.told) (wrote (called x y.given call a).told) (WasIn (came_to y x).took) y.end.streams.side y.end.streams.receiving y.end.streams.opening.announced y.end.streams.opening.configured (λ id. w.grows x y call a c id) i.known };
  reader = λ x y call a c there i. reads_call B w within x y call a c i;
  shows = λ x y here there b back i j. record { known = i.known };
}
