-- What one end reads is what the other wrote, at each place: a group over what the other's writing
-- gives.
use Rattle.std.proofs.Common.{◌≡◌, ℕ, List, [], ◌∷◌, ◌++◌, None, Ok, refl, sym, subst, inl, inr, ◌⊎◌, Bool}
use Rattle.quic_wire_core.specs.declared.stream_id.Side.{Side}
use Rattle.quic_wire.specs.Value.{FrameValue, stream}
use Rattle.quic_config.specs.Transport.{Settings, parameters_of}
use Rattle.quic_streams_state.specs.declared.state.StreamsState.{StreamsState}
use Rattle.quic_streams_state.specs.State.{new_streams}
use Rattle.quic_streams_laws.specs.Quiet.{IsSentWithin}
use Rattle.quic_streams_laws.specs.Written.{Wrote, Grows}
use Rattle.quic_streams_laws.specs.Reads.{Reads}
use Rattle.quic_streams_laws.specs.Content.{HoldsRead}
use Rattle.quic_streams_laws.specs.ContentLaws.{read_new, read_set_params, read_grows}
use Rattle.quic_streams_laws.specs.TakenLaws.{taken_new, taken_set_params}
use Rattle.quic_streams_laws.specs.Accepted.{HoldsAccepted}
use Rattle.quic_streams_laws.specs.AcceptedLaws.{accepted_new, accepted_set_params}
use Rattle.quic_machine.specs.declared.run.Call.{Call}
use Rattle.quic_machine.specs.declared.run.Call.TheVariants as calls
use Rattle.quic_machine.specs.declared.run.Answer.{Answer}
use Rattle.quic_machine.specs.declared.run.Delivery.{Delivery}
use Rattle.quic_machine.specs.declared.answers.State.{State}
use Rattle.quic_machine.specs.End.{End}
use Rattle.quic_machine.specs.Receive.{Outcome}
use Rattle.quic_machine.specs.FrameCases.{begun, passed}
use Rattle.quic_headline.specs.Runs.{Told, Next, Packet, Intake, In, accepts}
use Rattle.quic_headline.proofs.Packets.Delivered.{Arrivals, with_taken, frames_at, among_at}
use Rattle.quic_headline.proofs.Packets.Group.{meets}
use Rattle.quic_headline.proofs.Packets.Owing.{IsAlone}
use Rattle.quic_headline.proofs.Places.Told.{accepts_append, in_left}
use Rattle.quic_headline.proofs.Places.Parties.{told_of, Party, called, came_to, Beginning, begun_as}
use Rattle.quic_headline.proofs.Places.Groups.{Way, Calls, Group}
use Rattle.quic_headline.proofs.Places.Coming.{by_coming}
use Rattle.quic_headline.proofs.Halves.Ghosts.{wrote, read, SaysOf, IsWriting}
use Rattle.quic_headline.proofs.Halves.QuietSteps.{sent_within}
use Rattle.quic_headline.proofs.Halves.Reading.{read_same}
use Rattle.quic_headline.proofs.Halves.Bringing.{frames_read, Brought, frames_leave_brought, frames_bring, closed_brings, frames_accepted, brought_strays}
use Rattle.quic_headline.proofs.Halves.ReadCalls.{brought_call, accepted_call, read_as, reads_call}
use Rattle.quic_headline.proofs.Halves.Ends.{EndsRight, ends_grow, ends_call}
use Rattle.quic_headline.proofs.Packets.Strays.{IsPath, in_at, closed_at}
use Rattle.quic_headline.proofs.Packets.Moved.{by_migrated}

-- A frame stood in one of these packets.
pub record WasIn (packets : List Packet) (f : FrameValue) : Type 0 where
  pub packet : Packet
  pub was_taken : In packet packets
  pub carried : In f packet.frames

-- x writes, and y reads: what y read is what x wrote, and its ends were told where they were; what
-- was accepted, and what packets brought
pub record ReadsHold (x y : Party) : Type 0 where
  pub reads : HoldsRead (wrote x.told) (read y.told) y.end.streams
  pub ends : EndsRight (wrote x.told) y.told
  pub accepted : HoldsAccepted (λ id. In id (accepts y.told)) y.end.streams
  pub brought : Brought y.side (WasIn (came_to y x).took) y.end.streams

-- ---- the end that reads

-- what its streams hold, where that was done at the other end and this was read and accepted at it
record Holds (side : Side) (done : ℕ → Wrote) (r : ℕ → Reads) (accepted : ℕ → Type 0) (e : End) (i : Intake) : Type 0 where
  reads : HoldsRead done r e.streams
  accepted_are : HoldsAccepted accepted e.streams
  brought : Brought side (WasIn i.took) e.streams

-- in each case of a delivery, where the packet's frames say what was done
holds_arrivals : (side : Side) (done : ℕ → Wrote) (r : ℕ → Reads) (accepted : ℕ → Type 0) (e : End) (now n : ℕ) (frames : List FrameValue) (here : Bool) (i : Intake) → ((f : FrameValue) → In f frames → SaysOf done f) → IsAlone frames → Holds side done r accepted e i
    → Arrivals e now n frames (frames_at here frames) i (λ (o : Outcome) (j : Intake). Holds side done r accepted o.end j)
holds_arrivals side done r accepted e now n frames here i says alone h = record {
  ignored = λ reason. h;
  noted = λ state reason. record { reads = h.reads; accepted_are = h.accepted_are; brought = h.brought };
  takes = λ words state new none urged mark. record {
    reads = frames_read done r taken (begun e now n) (among_at (SaysOf done) tt here frames says) h.reads;
    accepted_are = frames_accepted accepted taken (begun e now n) h.accepted_are;
    brought = brought_strays side (λ g. WasIn i.took g ⊎ In g taken) (WasIn (with_taken i n frames).took) (passed taken (begun e now n)).end.streams among_taken
        (frames_bring side (WasIn i.took) (λ g. WasIn i.took g ⊎ In g taken) taken (begun e now n) (λ g m. m) none h.brought);
  };
  moves = λ p o same remote x opened k. by_migrated (λ (z : End). Holds side done r accepted z (with_taken i n frames)) p o remote x (λ c. record { reads = k.reads; accepted_are = k.accepted_are; brought = k.brought }) (λ c most. record { reads = k.reads; accepted_are = k.accepted_are; brought = k.brought });
  drains = λ words state new close is. record {
    reads = frames_read done r taken (begun e now n) (among_at (SaysOf done) tt here frames says) h.reads;
    accepted_are = frames_accepted accepted taken (begun e now n) h.accepted_are;
    brought = closed_brings side (WasIn i.took) (WasIn (with_taken i n frames).took) frames (passed taken (begun e now n)).end.streams (closed_at here frames (begun e now n) close alone is) among
        (frames_leave_brought side (WasIn i.took) taken (begun e now n) h.brought);
  };
  refuses = λ words state new f is. record {
    reads = frames_read done r taken (begun e now n) (among_at (SaysOf done) tt here frames says) h.reads;
    accepted_are = frames_accepted accepted taken (begun e now n) h.accepted_are;
    brought = frames_leave_brought side (WasIn i.took) taken (begun e now n) h.brought;
  };
  exhausts = λ state. record { reads = h.reads; accepted_are = h.accepted_are; brought = h.brought };
}
  where
    taken : List FrameValue
    taken = frames_at here frames

    among : (g : FrameValue) → WasIn (with_taken i n frames).took g → WasIn i.took g ⊎ In g frames
    among g w = go w.was_taken
      where
        go : In w.packet (with_taken i n frames).took → WasIn i.took g ⊎ In g frames
        go (inl is) = inr (subst (λ (p : Packet). In g p.frames) is w.carried)
        go (inr there) = inl (record { packet = w.packet; was_taken = there; carried = w.carried })

    among_taken : (g : FrameValue) → WasIn (with_taken i n frames).took g → (WasIn i.took g ⊎ In g taken) ⊎ IsPath g
    among_taken g w = elim (among g w) [ inl was ↦ inl (inl was) | inr there ↦ elim (in_at here frames g there) [ inl one ↦ inl (inr one) | inr path ↦ inr path ] ]

-- a delivery reads and accepts nothing
delivery_holds : (side : Side) (done : ℕ → Wrote) (told : List Told) (call : Call) (a : Answer) (state : State) (delivery : Delivery) (e : End) (i : Intake) → call ≡ calls.Deliver delivery
    → Holds side done (read told) (λ id. In id (accepts told)) e i → Holds side done (read (told ++ told_of call a state ∷ [])) (λ id. In id (accepts (told ++ told_of call a state ∷ []))) e i
delivery_holds side done told call a state delivery e i is h =
    subst (λ (c : Call). Holds side done (read (told ++ told_of c a state ∷ [])) (λ id. In id (accepts (told ++ told_of c a state ∷ []))) e i) (sym is) (record {
      reads = read_as done (read told) (read (told ++ t ∷ [])) e.streams (λ id. sym (read_same told t id refl refl)) h.reads;
      accepted_are = record { each = λ dir index lt. was _ (h.accepted_are.each dir index lt) };
      brought = h.brought;
    })
  where
    t : Told
    t = told_of (calls.Deliver delivery) a state

    was : (id : ℕ) → In id (accepts told) → In id (accepts (told ++ t ∷ []))
    was id j = subst (In id) (sym (accepts_append told (t ∷ []))) (in_left id (accepts told) (accepts (t ∷ [])) j)

module _ (B : Way) (w : IsWriting B) where
  -- x makes a call, and y reads what it wrote
  writer_on : (x y : Party) (call : Call) (a : Answer) → Calls B x y call a → ReadsHold x y → ReadsHold y x → ReadsHold (called x y.given call a) y
  writer_on x y call a c p back =
      let after : Party = called x y.given call a in
      let grows : (id : ℕ) → Grows (wrote x.told id) (wrote after.told id) = w.grows x y call a c in
      record {
        reads = read_grows (wrote x.told) (wrote after.told) (read y.told) y.end.streams grows p.reads;
        ends = ends_grow (wrote x.told) (wrote after.told) y.told grows p.ends;
        accepted = p.accepted;
        brought = p.brought;
      }

  -- x makes a call, and reads what y wrote
  reader_on : (x y : Party) (call : Call) (a : Answer) → Calls B x y call a → ReadsHold x y → ReadsHold y x → ReadsHold y (called x y.given call a)
  reader_on x y call a c there p = record { reads = all.reads; ends = ends; accepted = all.accepted_are; brought = all.brought }
    where
      state : State
      state = x.end.closing.state

      later : List Told
      later = x.told ++ told_of call a state ∷ []

      within : (id : ℕ) → IsSentWithin x.end.streams id
      within = sent_within (wrote x.told) x.end.streams (w.written x y c.gives)

      before : Holds x.side (wrote y.told) (read x.told) (λ id. In id (accepts x.told)) x.end (came_to x y)
      before = record { reads = p.reads; accepted_are = p.accepted; brought = p.brought }

      at_once : (delivery : Delivery) (e : End) (i : Intake) → call ≡ calls.Deliver delivery → Holds x.side (wrote y.told) (read x.told) (λ id. In id (accepts x.told)) e i → Holds x.side (wrote y.told) (read later) (λ id. In id (accepts later)) e i
      at_once delivery e i is h = delivery_holds x.side (wrote y.told) x.told call a state delivery e i is h

      all : Holds x.side (wrote y.told) (read later) (λ id. In id (accepts later)) (called x y.given call a).end (came_to (called x y.given call a) y)
      all = by_coming x y a c.joined c.served (meets y x (w.packets y x c.takes)) (Holds x.side (wrote y.told) (read later) (λ id. In id (accepts later))) call c.answer (record {
        apart = λ apart. record {
          reads = reads_call (wrote y.told) (λ g. WasIn (came_to x y).took (stream g)) x.told state x.policy x.end y.given call a within c.answer apart p.reads p.brought.taken;
          accepted_are = accepted_call x.told state x.policy x.end y.given call a within c.answer apart p.accepted;
          brought = brought_call x.side (WasIn (came_to x y).took) x.policy x.end y.given call a within c.answer apart p.brought;
        };
        none = λ delivery is. at_once delivery x.end (came_to x y) is before;
        comes = λ delivery is s among here. (let cases = holds_arrivals x.side (wrote y.told) (read x.told) (λ id. In id (accepts x.told)) x.end delivery.now s.number s.frames here (came_to x y) (w.says y x c.takes s among) ((w.packets y x c.takes).alone s among) before in record {
          ignored = λ reason. at_once delivery _ _ is (cases.ignored reason);
          noted = λ closing reason. at_once delivery _ _ is (cases.noted closing reason);
          takes = λ words open_there new none urged mark. at_once delivery _ _ is (cases.takes words open_there new none urged mark);
          moves = λ p o same remote z opened k. by_migrated (λ (e : End). Holds x.side (wrote y.told) (read later) (λ id. In id (accepts later)) e (with_taken (came_to x y) s.number s.frames)) p o remote z (λ c. record { reads = k.reads; accepted_are = k.accepted_are; brought = k.brought }) (λ c most. record { reads = k.reads; accepted_are = k.accepted_are; brought = k.brought });
          drains = λ words open_there new close fault. at_once delivery _ _ is (cases.drains words open_there new close fault);
          refuses = λ words open_there new f fault. at_once delivery _ _ is (cases.refuses words open_there new f fault);
          exhausts = λ open_there. at_once delivery _ _ is (cases.exhausts open_there);
        });
      })

      ends : EndsRight (wrote y.told) later
      ends = ends_call (wrote y.told) (λ g. WasIn (came_to x y).took (stream g)) x.told state x.end p.reads p.brought.taken x.policy y.given call a c.answer p.ends

  -- what is read, over what the other end's writing gives
  pub reads_group : Group B ReadsHold
  reads_group = record {
    first = λ x y m there here. begins x y;
    writer = writer_on;
    reader = reader_on;
    shows = λ x y here there b back p q. record { reads = p.reads; ends = p.ends; accepted = p.accepted; brought = p.brought };
  }
    where
      begins : (x y : Beginning) → ReadsHold (begun_as x y) (begun_as y x)
      begins x y =
          let s : Settings = y.making.settings in
          let fresh : StreamsState = new_streams y.side s.max_uni s.max_bidi s.send_window s.receive_window s.stream_receive_window in
          record {
            reads = read_set_params (wrote []) (read []) fresh (parameters_of x.making.settings) (read_new (wrote []) y.side s.max_uni s.max_bidi s.send_window s.receive_window s.stream_receive_window);
            ends = λ id front behind is. absurd (nothing front behind is);
            accepted = accepted_set_params (λ id. In id (accepts [])) fresh (parameters_of x.making.settings) (accepted_new (λ id. In id (accepts [])) y.side s.max_uni s.max_bidi s.send_window s.receive_window s.stream_receive_window);
            brought = record {
              taken = taken_set_params (λ g. WasIn [] (stream g)) fresh (parameters_of x.making.settings) (taken_new (λ g. WasIn [] (stream g)) y.side s.max_uni s.max_bidi s.send_window s.receive_window s.stream_receive_window (λ f v. v.was_taken));
              of_side = refl;
              opened = λ f id v opens theirs. absurd v.was_taken;
            };
          }
        where
          nothing : (front behind : List Next) → [] ≡ front ++ Ok None ∷ behind → ⊥
          nothing [] behind is = cc
          nothing (y ∷ front) behind is = cc
