-- An end that closed for too many pieces had come to them: a group over what is read, and the
-- clause.
use Rattle.std.proofs.Common.{◌≡◌, ℕ, suc, ◌+◌, Bool, false, List, [], ◌∷◌, ◌++◌, Some, refl, sym, ap, ◌∙◌, subst, inl, inr, arith, Option}
use Rattle.quic_wire_core.specs.declared.stream_id.Side.{Side}
use Rattle.quic_wire_core.specs.StreamId.{other_side}
use Rattle.quic_wire.specs.Value.{FrameValue, StreamValue, stream}
use Rattle.quic_config.specs.Transport.{Settings, parameters_of}
use Rattle.quic_streams_laws.specs.KeepingLaws.{by_accept}
use Rattle.quic_streams_laws.specs.Written.{HoldsWritten}
use Rattle.quic_machine.specs.declared.answers.State.TheVariants as states
use Rattle.quic_machine.specs.declared.answers.LostReason.{LostReason}
use Rattle.quic_machine.specs.declared.answers.LostReason.TheVariants as reasons
use Rattle.quic_machine.specs.declared.run.Call.{Call}
use Rattle.quic_machine.specs.declared.run.Call.TheVariants as calls
use Rattle.quic_machine.specs.declared.run.Delivery.{Delivery}
use Rattle.quic_machine.specs.declared.run.Answer.{Answer}
use Rattle.quic_machine.specs.End.{End}
use Rattle.quic_machine.specs.Migration.{is_there}
use Rattle.quic_machine.specs.Receive.{Fault, broke, too_many_pieces, reason_of, Outcome, closed_by_peer}
use Rattle.quic_machine.specs.Machine.{World, policy_at, after_call}
use Rattle.quic_machine.specs.CallCases.{is_delivery}
use Rattle.quic_machine.specs.FrameCases.{begun, passed}
use Rattle.quic_machine.specs.Poll.{rests}
use Rattle.quic_headline.specs.Runs.{Run, Packet, Intake, In, given_of, until, AreServed, HasArrived}
use Rattle.quic_headline.specs.Headline.{IsHonest, IsRun}
use Rattle.quic_headline.specs.Causes.{stream_window_at, CrowdCame, TooManyPieces}
use Rattle.quic_headline.proofs.Packets.Delivered.{frames_at, among_at, Arrivals, arrived, with_taken}
use Rattle.quic_headline.proofs.Packets.Moved.{by_migrated}
use Rattle.quic_headline.proofs.Packets.Strays.{of_at}
use Rattle.quic_headline.proofs.Packets.Group.{PacketsHold, meets}
use Rattle.quic_headline.proofs.Places.Parties.{told_of, Party, called, came_to, Beginning, begun_as}
use Rattle.quic_headline.proofs.Places.Groups.{Way, Nothing, And, Calls, Group, both}
use Rattle.quic_headline.proofs.Places.Coming.{by_coming}
use Rattle.quic_headline.proofs.Places.Placed.{party_at, Placed, placed}
use Rattle.quic_headline.proofs.Places.Everything as everything
use Rattle.quic_headline.proofs.Places.Theorems.{ready}
use Rattle.quic_headline.proofs.Halves.Ready.{Ready}
use Rattle.quic_headline.proofs.Halves.Wrote.{wrote}
use Rattle.quic_headline.proofs.Halves.Ghosts.{SaysOf, Saying}
use Rattle.quic_headline.proofs.Halves.QuietSteps.{sent_within}
use Rattle.quic_headline.proofs.Halves.ReadCalls.{any_kept, call_kept}
use Rattle.quic_headline.proofs.Halves.ReadGroup.{ReadsHold}
use Rattle.quic_headline.proofs.Causes.Come.{HasCome, come_kept, come_wider, come_kept_calls, come_first}
use Rattle.quic_headline.proofs.Causes.Crowded.{IsCrowdedBy, crowded, crowded_at, up_to, frames_come, came_before, came_now}
use Rattle.quic_headline.proofs.Causes.Judged.{taken_of, Judged, nothing, exhausted, drained, taken, refused, judged, crowd_more, crowd_is}
use Rattle.quic_headline.proofs.Causes.Window.{HasWindow, window_stays, frames_window}
use Rattle.quic_headline.proofs.Causes.Shown.{reason_shown, call_closes, IsUnread}

-- what these packets brought
abbrev pub came_in : List Packet → ℕ → ℕ → Type 0
came_in packets id o = HasArrived packets id o

-- the receive window of the streams of an end, as it was made
abbrev pub window_of : Party → ℕ
window_of x = x.made.streams.receiving.stream_window

-- y takes from x: why it closed for too many pieces, its streams have the receive window with which
-- it was made, and while it is open, what waits there came
pub record WhyPieces (x y : Party) : Type 0 where
  pub pieces : y.end.closing.reason ≡ Some reasons.Pieces → CrowdCame y.policy (window_of y) x.final y.told
  pub window : HasWindow (window_of y) y.end.streams
  pub come : y.end.closing.state ≡ states.Open → HasCome (came_in (came_to y x).took) y.end.streams

-- What that rests on.
pub record RestsOn (B : Way) : Type 1 where
  pub packets : (x y : Party) → B x y → PacketsHold x y
  pub written : (x y : Party) → B x y → HoldsWritten (wrote x.told) x.end.streams
  pub says : (x y : Party) → B x y → Saying x y
  pub reads : (x y : Party) → B x y → ReadsHold x y

-- ---- a delivery

-- in each case of a delivery
come_arrivals : (e : End) (now n : ℕ) (frames : List FrameValue) (here : Bool) (i : Intake) → (e.closing.state ≡ states.Open → HasCome (came_in i.took) e.streams)
    → Arrivals e now n frames (frames_at here frames) i (λ (o : Outcome) (j : Intake). o.end.closing.state ≡ states.Open → HasCome (came_in j.took) o.end.streams)
come_arrivals e now n frames here i come = record {
  ignored = λ reason. come;
  noted = λ state reason still. (let clash : states.Closing ≡ states.Open = sym state ∙ still in cc);
  takes = λ words still_open new none urged mark still.
      frames_come (came_in (with_taken i n frames).took) (frames_at here frames) (begun e now n) (λ f j. came_now p i.took f (stands f j)) (come_wider (came_in i.took) (came_in (with_taken i n frames).took) e.streams (came_before p i.took) (come still_open));
  moves = λ q o same remote x opened left_so. by_migrated (λ (z : End). z.closing.state ≡ states.Open → HasCome (came_in (with_taken i n frames).took) z.streams) q o remote x (λ c. left_so) (λ c most. left_so);
  drains = λ words still_open new close is still. cc;
  refuses = λ words still_open new f is still. cc;
  exhausts = λ still_open still. cc;
}
  where
    p : Packet
    p = record { number = n; frames = frames }

    -- a STREAM frame that is taken stands in the packet
    stands : (f : StreamValue) → In (stream f) (frames_at here frames) → In (stream f) frames
    stands f j = elim (of_at here frames (stream f) j) [ inl there ↦ there | inr pads ↦ cc ]

-- so the window stays
window_arrivals : (window : ℕ) (e : End) (now n : ℕ) (frames those : List FrameValue) (i : Intake) → HasWindow window e.streams → Arrivals e now n frames those i (λ (o : Outcome) (j : Intake). HasWindow window o.end.streams)
window_arrivals window e now n frames those i was = record {
  ignored = λ reason. was;
  noted = λ state reason. was;
  takes = λ words still_open new none urged mark. after;
  moves = λ p o same remote x opened left_so. by_migrated (λ (z : End). HasWindow window z.streams) p o remote x (λ c. left_so) (λ c most. left_so);
  drains = λ words still_open new close is. after;
  refuses = λ words still_open new f is. after;
  exhausts = λ still_open. was;
}
  where
    after : HasWindow window (passed those (begun e now n)).end.streams
    after = frames_window window those (begun e now n) was

-- a fault whose reason is pieces
fault_is : (f : Fault) → Some (reason_of f) ≡ Some reasons.Pieces → f ≡ too_many_pieces
fault_is (broke error) is = cc
fault_is too_many_pieces is = refl
fault_is (closed_by_peer close) is = cc

-- ---- the group

module _ (B : Way) (rests : RestsOn B) (x y : Party) (call : Call) (a : Answer) (c : Calls B x y call a) (p : WhyPieces y x) where
  -- what waits at x came
  come_behind : (called x y.given call a).end.closing.state ≡ states.Open → HasCome (came_in (came_to (called x y.given call a) y).took) (called x y.given call a).end.streams
  come_behind = by_coming x y a c.joined c.served (meets y x (rests.packets y x c.takes)) (λ (e : End) (i : Intake). e.closing.state ≡ states.Open → HasCome (came_in i.took) e.streams) call c.answer (record {
    apart = λ apart still. call_kept (HasCome (came_in (came_to x y).took)) (come_kept_calls (came_in (came_to x y).took)) x.policy x.end y.given (sent_within (wrote x.told) x.end.streams (rests.written x y c.gives)) (p.come (open_before apart still)) call a c.answer apart
        (λ dir same. by_accept (HasCome (came_in (came_to x y).took)) (come_kept (came_in (came_to x y).took)) dir x.end.streams (λ may. may) (p.come (open_before apart still)));
    none = λ delivery is. p.come;
    comes = λ delivery is s among here. come_arrivals x.end delivery.now s.number s.frames here (came_to x y) p.come;
  })
    where
      open_before : is_delivery call ≡ false → (after_call x.policy x.end y.given call a).closing.state ≡ states.Open → x.end.closing.state ≡ states.Open
      open_before apart still = elim (call_closes x.policy x.end y.given call a apart) [
        | inl k ↦ sym k.state ∙ still
        | inr shut ↦ absurd (shut.shut still)
      ]

  -- the window at x is as it was
  window_behind : HasWindow (window_of x) (called x y.given call a).end.streams
  window_behind = by_coming x y a c.joined c.served (meets y x (rests.packets y x c.takes)) (λ (e : End) (i : Intake). HasWindow (window_of x) e.streams) call c.answer (record {
    apart = λ apart. call_kept (HasWindow (window_of x)) (any_kept (HasWindow (window_of x)) (window_stays (window_of x))) x.policy x.end y.given (sent_within (wrote x.told) x.end.streams (rests.written x y c.gives)) p.window call a c.answer apart
        (λ dir same. by_accept (HasWindow (window_of x)) (window_stays (window_of x)) dir x.end.streams (λ may. tt) p.window);
    none = λ delivery is. p.window;
    comes = λ delivery is s among here. window_arrivals (window_of x) x.end delivery.now s.number s.frames (frames_at here s.frames) (came_to x y) p.window;
  })

  -- a crowd that came before came still
  crowd_before : x.end.closing.reason ≡ Some reasons.Pieces → CrowdCame x.policy (window_of x) y.final (x.told ++ told_of call a x.end.closing.state ∷ [])
  crowd_before is = crowd_more x.policy (window_of x) y.final x.told (told_of call a x.end.closing.state) (p.pieces is)

-- a delivery at which an end closes for too many pieces
crowd_now : (B : Way) (rests : RestsOn B) (x y : Party) (delivery : Delivery) (a : Answer) (c : Calls B x y (calls.Deliver delivery) a) (p : WhyPieces y x) → (called x y.given (calls.Deliver delivery) a).end.closing.reason ≡ Some reasons.Pieces
    → CrowdCame x.policy (window_of x) y.final (x.told ++ told_of (calls.Deliver delivery) a x.end.closing.state ∷ [])
crowd_now B rests x y delivery a c p is = go (judged x y delivery a c.joined (meets y x (rests.packets y x c.takes)) c.served c.answer)
  where
    go : Judged x y delivery a (after_call x.policy x.end y.given (calls.Deliver delivery) a) → CrowdCame x.policy (window_of x) y.final (x.told ++ told_of (calls.Deliver delivery) a x.end.closing.state ∷ [])
    go (nothing k none) = crowd_before B rests x y (calls.Deliver delivery) a c p (sym k.reason ∙ is)
    go (taken s among new still_open none answer k) = crowd_before B rests x y (calls.Deliver delivery) a c p (sym k.reason ∙ is)
    go (exhausted none reason state) = let clash : ◌≡◌ {A = Option LostReason} (Some reasons.KeyLimit) (Some reasons.Pieces) = sym reason ∙ is in cc
    go (drained s among new still_open close fault answer reason state) = let clash : ◌≡◌ {A = Option LostReason} (Some (reasons.Peer close)) (Some reasons.Pieces) = sym reason ∙ is in cc
    go (refused s among new still_open f fault answer reason state) =
        let within : List FrameValue = taken_of x y delivery a s in
        let too_many : (arrived x.end delivery.now s.number within).fault ≡ Some too_many_pieces = fault ∙ ap (λ (g : Fault). Some g) (fault_is f (sym reason ∙ is)) in
        let e : End = begun x.end delivery.now s.number in
        let held = rests.reads y x c.takes in
        let crowd : IsCrowdedBy (window_of x) x.told (came_to x y).took s.number s.frames =
        crowded_at (is_there delivery.remote x.end) (window_of x) x.told (came_to x y).took s.number s.frames
        (crowded (window_of x) x.side (wrote y.told) x.told (came_to x y).took s.number within e (among_at (SaysOf (wrote y.told)) tt (is_there delivery.remote x.end) s.frames (rests.says y x c.takes s among)) held.reads held.brought (p.come still_open) p.window (up_to within e too_many)) in
        record { packet = new.packet; crowded = crowd_is x y delivery a (window_of x) s crowd new new.packet new.before new.call }

-- any call
pieces_behind : (B : Way) (rests : RestsOn B) (x y : Party) (call : Call) (a : Answer) (c : Calls B x y call a) (p : WhyPieces y x) → (called x y.given call a).end.closing.reason ≡ Some reasons.Pieces
    → CrowdCame x.policy (window_of x) y.final (x.told ++ told_of call a x.end.closing.state ∷ [])
pieces_behind B rests x y (calls.Deliver delivery) a c p is = crowd_now B rests x y delivery a c p is
pieces_behind B rests x y call a c p is = elim (call_closes x.policy x.end y.given call a refl) [
  | inl k ↦ crowd_before B rests x y call a c p (sym k.reason ∙ is)
  | inr shut ↦ elim shut.reason [
    | inl same ↦ crowd_before B rests x y call a c p (sym same ∙ is)
    | inr other ↦ (let same : Some other.0 ≡ Some reasons.Pieces = sym other.1 ∙ is in let alike : other.0 ≡ reasons.Pieces = cc in absurd (subst IsUnread alike other.2))
  ]
]

pub pieces_group : (B : Way) → RestsOn B → Group B WhyPieces
pieces_group B rests = record {
  first = λ x y m there here. record { pieces = λ is. cc; window = refl; come = λ still. begins x y };
  writer = λ x y call a c p back. record { pieces = p.pieces; window = p.window; come = p.come };
  reader = λ x y call a c there p. record { pieces = pieces_behind B rests x y call a c p; window = window_behind B rests x y call a c p; come = come_behind B rests x y call a c p };
  shows = λ x y here there b back p q. record { pieces = p.pieces; window = p.window; come = p.come };
}
  where
    begins : (x y : Beginning) → HasCome (came_in []) (begun_as y x).end.streams
    begins x y = let s : Settings = y.making.settings in come_first (came_in []) y.side s.max_uni s.max_bidi s.send_window s.receive_window s.stream_receive_window (parameters_of x.making.settings)

-- ---- the clause

module _ (G : Way) (why : (x y : Party) → G x y → WhyPieces x y) (r : Run) (end : World) (honest : IsHonest r) (all : (side : Side) (i : ℕ) → AreServed r i → Placed G r end side i) where
  pub too_many_at : TooManyPieces r
  too_many_at side place shows =
      subst (λ (n : ℕ). CrowdCame (policy_at side r.keys) (stream_window_at r side) (given_of r (other_side side)) (until r side n)) (sym next)
      ((why y x p.takes).pieces (reason_shown G r end side place (Some reasons.Pieces) shows p))
    where
      next : place + 1 ≡ suc place
      next = omega arith

      p : Placed G r end side (suc place)
      p = all side (suc place) (subst (AreServed r) next shows.served)

      x : Party
      x = party_at r (suc place) p.world side p.sents

      y : Party
      y = party_at r (suc place) p.world (other_side side) p.theirs

-- all that holds between the ends of an honest run, what is read, and this
abbrev pub Held : Way
Held = And (And (everything.All Ready ready) ReadsHold) WhyPieces

pub held : Group Nothing (And (And (everything.All Ready ready) ReadsHold) WhyPieces)
held = both Nothing (And (everything.All Ready ready) ReadsHold) WhyPieces (everything.all_read Ready ready) (pieces_group (And Nothing (And (everything.All Ready ready) ReadsHold)) (record {
  packets = λ x y h. h.1.0.0.0;
  written = λ x y h. h.1.0.0.1.0.writes.keeps.holds;
  says = λ x y h. h.1.0.0.1.0.says;
  reads = λ x y h. h.1.1;
}))

pub too_many_came : (r : Run) (end : World) → IsHonest r → IsRun r end → TooManyPieces r
too_many_came r end honest run = too_many_at Held (λ x y h. h.1) r end honest (placed Held held r end honest run)
