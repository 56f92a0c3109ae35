-- A half that receives knows its final size, or is done, only where a frame was taken that tells
-- the size, while its end is open (RFC 9000, section 4.5): a group over what is written.
use Rattle.std.proofs.Common.{◌≡◌, ℕ, Bool, true, false, not, ◌&&◌, List, [], ◌∷◌, ◌+◌, ◌||◌, Option, Some, None, refl, sym, ap, ◌∙◌, subst, ◌⊎◌, inl, inr}
use Rattle.std.specs.Prelude.{if◌then◌else◌}
use Rattle.std.specs.Option.{is_some}
use Rattle.quic_wire_core.specs.declared.stream_id.Side.{Side}
use Rattle.quic_wire_core.specs.StreamId.{dir_of}
use Rattle.quic_wire.specs.Value.{FrameValue, StreamValue, stream, reset_stream}
use Rattle.quic_config.specs.Transport.{Settings, parameters_of}
use Rattle.quic_streams_parts.specs.Dirs.{Counts, is_own, is_two_way}
use Rattle.quic_streams_parts.specs.Table.{at}
use Rattle.quic_streams_parts.specs.RecvHalf.{RecvHalf, new_recv_half, end_of, after_frame, with_offsets_of, with_frame, raised_on}
use Rattle.quic_streams_halves.specs.Halves.{has_place, no_places, placed, changed_at, without_half, is_done}
use Rattle.quic_streams_state.specs.declared.state.StreamsState.{StreamsState}
use Rattle.quic_streams_state.specs.State.{Receiving, new_streams, first_window, receiving_half, sending_status, with_recv, recv_done, done_if, seen_at}
use Rattle.quic_streams_state.specs.Control.{limit_told}
use Rattle.quic_streams_laws.specs.Each.{HalfIs}
use Rattle.quic_streams_laws.specs.EachLaws.{each_with, each_without, half_follows}
use Rattle.quic_streams_laws.specs.Keeping as changes
use Rattle.quic_streams_laws.specs.KeepingLaws.{live_receives, by_opened, by_frame}
use Rattle.quic_streams_laws.specs.LimitedLaws.{WasReceiving, in_use, unused, was_receiving}
use Rattle.quic_streams_laws.specs.QuietLaws.{by_told, by_tells}
use Rattle.quic_streams_laws.specs.Shape.{IsShaped}
use Rattle.quic_streams_laws.specs.ShapeLaws.{shape_any}
use Rattle.quic_streams_laws.specs.StartLaws.{shape_new, shape_set_params, nowhere}
use Rattle.quic_machine.specs.declared.answers.State.TheVariants as states
use Rattle.quic_machine.specs.declared.run.Call.{Call}
use Rattle.quic_machine.specs.declared.run.Answer.{Answer}
use Rattle.quic_machine.specs.Policy.{Policy}
use Rattle.quic_machine.specs.End.{End}
use Rattle.quic_machine.specs.Receive.{Outcome}
use Rattle.quic_machine.specs.Poll.{polled}
use Rattle.quic_machine.specs.FrameCases.{begun, passed}
use Rattle.quic_headline.specs.Runs as runs
use Rattle.quic_headline.specs.Runs.{Packet, Intake}
use Rattle.quic_headline.specs.Undone.{SizeHasCome}
use Rattle.quic_headline.proofs.Packets.Delivered.{Arrivals, frames_at, among_at}
use Rattle.quic_headline.proofs.Packets.Group.{meets}
use Rattle.quic_headline.proofs.Places.Parties.{Party, called, came_to, Beginning, begun_as}
use Rattle.quic_headline.proofs.Places.Groups.{Way, Calls, Group}
use Rattle.quic_headline.proofs.Places.Coming.{by_coming}
use Rattle.quic_headline.proofs.Halves.Ghosts.{IsWriting}
use Rattle.quic_headline.proofs.Halves.ReadCalls.{IsKept, any_kept}
use Rattle.quic_headline.proofs.Halves.Moved.{streams_stay}
use Rattle.quic_headline.proofs.Timers.Still.{was_open}
use Rattle.quic_headline.proofs.Credit.Drafts.{AreFine, poll_known}
use Rattle.quic_headline.proofs.Unread.Walk.{Of, Change, begins, reads, stops, takes, resets, IsLast, Steps, call_left, frames_left}
use Rattle.quic_headline.proofs.Unread.OpeningLasts.{Lasts, lasts_any, lasts_call}

-- ---- what frames tell

-- the size of a stream, where that is so
abbrev TellsOf : (ℕ → Type 0) → FrameValue → Type 0
TellsOf T (stream f) = f.fin ≡ true → T f.id
TellsOf T (reset_stream f) = T f.id
TellsOf T f = Unit {0}

-- of each half: where nothing more comes of it, its size was told
pub record Sizes (T : ℕ → Type 0) (side : Side) (r : Receiving) (announced configured : Counts) : Type 0 where
  pub each : (id : ℕ) → HalfIs (Unit {0}) (λ (h : RecvHalf). IsLast h → T id) (T id) (at r.halves.live id) (has_place side r.halves.places id)

-- where more were told
sizes_more : (T U : ℕ → Type 0) → ((id : ℕ) → T id → U id) → (s : StreamsState) → Of (Sizes T) s → Of (Sizes U) s
sizes_more T U more s i = record {
  each = λ id. half_follows {A = RecvHalf} {N = Unit {0}} {N' = Unit {0}} {Q = λ (h : RecvHalf). IsLast h → T id} {Q' = λ (h : RecvHalf). IsLast h → U id} {D = T id} {D' = U id} (λ n. n) (λ h q last. more id (q last)) (more id)
      (at s.receiving.halves.live id) (has_place s.side s.receiving.halves.places id) (i.each id);
}

-- ---- one half

-- a new one isn't the last
new_goes_on : (h : RecvHalf) (window : ℕ) → h ≡ new_recv_half window → IsLast h → ⊥
new_goes_on h window same (inl some) = (let none : is_some h.final ≡ false = ap (λ (g : RecvHalf). is_some g.final) same in cc)
new_goes_on h window same (inr some) = (let none : is_some h.reset ≡ false = ap (λ (g : RecvHalf). is_some g.reset) same in cc)

-- by a STREAM frame only its FIN ends it
last_parts : (fin : Bool) (size : ℕ) (o r : Option ℕ) → (is_some (if fin then Some size else o) ≡ true) ⊎ (is_some r ≡ true) → ((is_some o ≡ true) ⊎ (is_some r ≡ true)) ⊎ (fin ≡ true)
last_parts true size o r last = inr refl
last_parts false size o r last = inl last

frame_last : (h : RecvHalf) (f : StreamValue) → IsLast (after_frame h f) → IsLast h ⊎ (f.fin ≡ true)
frame_last h f = go h.stopped (is_some h.reset)
  where
    go : (a b : Bool) → IsLast (if a then with_offsets_of h f else (if b then h else with_frame h f)) → IsLast h ⊎ (f.fin ≡ true)
    go true b last = last_parts f.fin (end_of f) h.final h.reset last
    go false true last = inl last
    go false false last = last_parts f.fin (end_of f) h.final h.reset last

module _ (T : ℕ → Type 0) where
  abbrev K : Side → Receiving → Counts → Counts → Type 0
  K = Sizes T

  half_sized : (s : StreamsState) (id : ℕ) (h : RecvHalf) → receiving_half s id ≡ Some h → Of K s → IsLast h → T id
  half_sized s id h is i = go (was_receiving s id h is)
    where
      F : Option RecvHalf → Type 0
      F o = HalfIs (Unit {0}) (λ (g : RecvHalf). IsLast g → T id) (T id) o (has_place s.side s.receiving.halves.places id)

      go : WasReceiving s id h → IsLast h → T id
      go (in_use found) = subst F found (i.each id)
      go (unused found free same) = λ last. absurd (new_goes_on h (first_window s.receiving) same last)

  -- it has another value
  with_sized : (s : StreamsState) (id : ℕ) (new : RecvHalf) → IsShaped s → (IsLast new → T id) → Of K s → Of K (with_recv s id new)
  with_sized s id new shape now i = record {
    each = each_with s.side s.receiving.halves id new (λ j. Unit {0}) (λ j. Unit {0}) (λ j h. IsLast h → T j) (λ j h. IsLast h → T j) T T shape.receiving.runs now (λ j o used ne x. x) i.each;
  }

  -- it is done
  done_sized : (s : StreamsState) (id : ℕ) (h : RecvHalf) → at s.receiving.halves.live id ≡ Some h → IsShaped s → T id → Of K s → Of K (recv_done s id)
  done_sized s id h is shape now i = done_on (not (is_own s.side id) && (not (is_two_way (dir_of id)) || is_done (sending_status s id))) (record {
    each = each_without s.side s.receiving.halves id (λ j. Unit {0}) (λ j g. IsLast g → T j) T shape.receiving.sorted (shape.receiving.placed id h is) now i.each;
  })
    where
      gone : StreamsState
      gone = record s { receiving = record s.receiving { halves = without_half s.receiving.halves id; gone = s.receiving.gone + seen_at (at s.receiving.halves.live id) } }

      done_on : (b : Bool) → Of K gone → Of K (done_if b id gone)
      done_on true j = j
      done_on false j = j

  -- each change
  change_sized : (r : Receiving) (id : ℕ) (old new : RecvHalf) → Change (TellsOf T) r id old new → (IsLast old → T id) → IsLast new → T id
  change_sized r id old new (begins is) was last = was (subst (λ (h : RecvHalf). IsLast h) is last)
  change_sized r id old new (reads most c e is) was last = was (subst (λ (h : RecvHalf). IsLast h) is last)
  change_sized r id old new (stops free is) was last = was (subst (λ (h : RecvHalf). IsLast h) is last)
  change_sized r id old new (takes f says of_id u is) was last = elim (frame_last old f (subst (λ (h : RecvHalf). IsLast h) is last)) [ inl before ↦ was before | inr fin ↦ subst T of_id (says fin) ]
  change_sized r id old new (resets f says of_id u is) was last = subst T of_id says

  sized_steps : Steps (TellsOf T) IsShaped K
  sized_steps = record {
    known = λ s id old new is change shape. shape_any (changes.changes_receiving s.receiving id old new) s (is, tt, refl) shape;
    changes = λ s id old new is change shape i. with_sized s id new shape (change_sized s.receiving id old new change (half_sized s id old is i)) i;
    ends = λ s id h is last shape i. done_sized s id h is shape (half_sized s id h (live_receives s id h is) i last) i;
  }

  -- ---- a poll

  -- with the halves in order
  abbrev Sized : StreamsState → Type 0
  Sized s = IsShaped s × Of K s

  limit_sized : (s : StreamsState) (id : ℕ) → Sized s → Of K (record s { receiving = limit_told s.receiving id })
  limit_sized s id i = go (at s.receiving.halves.live id) refl
    where
      raised : RecvHalf → RecvHalf
      raised h = record h { announced = raised_on s.receiving.stream_window h }

      after : Option RecvHalf → StreamsState
      after o = record s { receiving = record s.receiving { halves = record s.receiving.halves { live = changed_at o raised s.receiving.halves.live id } } }

      go : (o : Option RecvHalf) → at s.receiving.halves.live id ≡ o → Of K (after o)
      go None is = i.1
      go (Some h) is =
          let now : Of K (with_recv s id (raised h)) = with_sized s id (raised h) i.0 (half_sized s id h (live_receives s id h is) i.1) i.1 in
          subst (λ (o : Option RecvHalf). Of K (record s { receiving = record s.receiving { halves = placed o s.side s.receiving.halves id (raised h) } })) is now

  fine : AreFine Sized (λ f. Unit {0})
  fine = record {
    told = λ f s i. (by_told IsShaped shape_any f s i.0, by_tells (Of K) s i.1 (record { each = i.1.each }) (λ id. limit_sized s id i) (λ dir. record { each = i.1.each }) (λ limit. i.1) (λ id limit. i.1) f);
    sent = λ fair s id room h found i. (by_frame IsShaped shape_any fair s id room h found tt i.0, record { each = i.1.each });
    limits = λ p s f i goes. tt;
    pads = tt;
    challenges = λ word. tt;
    responses = λ r. tt;
    pings = tt;
    immediate = tt;
    requests = λ r. tt;
    connection_closes = λ c. tt;
    application_closes = λ c. tt;
    acks = λ a. tt;
    messages = λ m. tt;
    streams = λ f. tt;
  }

  poll_sized : (p : Policy) (e : End) (now : ℕ) → Sized e.streams → Sized (polled p e now).end.streams
  poll_sized p e now i = poll_known Sized (λ f. Unit {0}) fine p e now i

-- ---- the group

shape_known : IsKept IsShaped
shape_known = any_kept IsShaped shape_any

shape_lasts : Lasts IsShaped
shape_lasts = lasts_any IsShaped (λ s dir may. may) shape_any

-- of each half of x that receives, where nothing more comes of it, x took the size of its stream
-- from y, while x is open
pub record SizesCame (x y : Party) : Type 0 where
  pub shape : IsShaped x.end.streams
  pub sized : x.end.closing.state ≡ states.Open → Of (Sizes (SizeHasCome (came_to x y).took)) x.end.streams

-- a packet more was taken
size_on : (took : List Packet) (p : Packet) (id : ℕ) → SizeHasCome took id → SizeHasCome (p ∷ took) id
size_on took p id (inl end) = inl (
  end.0,
  record {
    frame = end.1.frame;
    taken = record { packet = end.1.taken.packet; was_taken = inr end.1.taken.was_taken; carried = end.1.taken.carried };
    of_stream = end.1.of_stream;
    fin = end.1.fin;
    behind = end.1.behind;
  },
)
size_on took p id (inr reset) = inr (record { packet = reset.packet; was_taken = inr reset.was_taken; frame = reset.frame; carried = reset.carried; of_stream = reset.of_stream })

-- its frames tell sizes that came
size_told : (took : List Packet) (p : Packet) (f : FrameValue) → runs.In f p.frames → TellsOf (SizeHasCome (p ∷ took)) f
size_told took p (stream f) i = λ fin. inl (end_of f, record { frame = f; taken = record { packet = p; was_taken = inl refl; carried = i }; of_stream = refl; fin = fin; behind = refl })
size_told took p (reset_stream f) i = inr (record { packet = p; was_taken = inl refl; frame = f; carried = i; of_stream = refl })
size_told took p f i = tt

module _ (B : Way) (w : IsWriting B) (x y : Party) (call : Call) (a : Answer) (c : Calls B x y call a) (i : SizesCame x y) where
  abbrev After : End → Intake → Type 0
  After e j = e.closing.state ≡ states.Open → Of (Sizes (SizeHasCome j.took)) e.streams

  -- the cases of a delivery
  arrivals : (now n : ℕ) (frames : List FrameValue) (here : Bool) → Arrivals x.end now n frames (frames_at here frames) (came_to x y) (λ (o : Outcome) (j : Intake). After o.end j)
  arrivals now n frames here = record {
    ignored = λ reason. i.sized;
    noted = λ state reason opened. absurd (let clash : states.Closing ≡ states.Open = sym state ∙ opened in cc);
    takes = λ words state new none urged mark opened. left (i.sized state);
    moves = λ p o same remote z opened j still. streams_stay (λ (v : StreamsState). Of (Sizes T) v) p o remote z (j opened);
    drains = λ words state new close is opened. absurd cc;
    refuses = λ words state new f is opened. absurd cc;
    exhausts = λ state opened. absurd cc;
  }
    where
      packet : Packet
      packet = record { number = n; frames = frames }

      T : ℕ → Type 0
      T = SizeHasCome (packet ∷ (came_to x y).took)

      taken : List FrameValue
      taken = frames_at here frames

      left : Of (Sizes (SizeHasCome (came_to x y).took)) x.end.streams → Of (Sizes T) (passed taken (begun x.end now n)).end.streams
      left was = frames_left (TellsOf T) IsShaped shape_known (Sizes T) (sized_steps T) (λ s id within known. by_opened IsShaped shape_any s id within known) shape_lasts.frame taken (begun x.end now n)
          (among_at (TellsOf T) tt here frames (size_told (came_to x y).took packet)) i.shape (sizes_more (SizeHasCome (came_to x y).took) T (size_on (came_to x y).took packet) x.end.streams was)

  sizes_call : SizesCame (called x y.given call a) y
  sizes_call = record {
    shape = lasts_call B w x y call a c IsShaped shape_lasts i.shape;
    sized = by_coming x y a c.joined c.served (meets y x (w.packets y x c.takes)) After call c.answer (record {
      apart = λ apart opened. (
          let was : Of (Sizes (SizeHasCome (came_to x y).took)) x.end.streams = i.sized (was_open x.policy x.end y.given call a opened) in
          call_left (TellsOf (SizeHasCome (came_to x y).took)) IsShaped shape_known (Sizes (SizeHasCome (came_to x y).took)) (sized_steps (SizeHasCome (came_to x y).took)) x.policy x.end y.given i.shape was call a apart c.answer
          (λ now polls. (poll_sized (SizeHasCome (came_to x y).took) x.policy x.end now (i.shape, was)).1));
      none = λ delivery is. i.sized;
      comes = λ delivery is s among here. arrivals delivery.now s.number s.frames here;
    });
  }

-- nothing was received
sizes_first : (x y : Beginning) → SizesCame (begun_as x y) (begun_as y x)
sizes_first x y = record { shape = shaped; sized = λ opened. record { each = λ id. unused id (has_place x.side no_places id) refl } }
  where
    m : Settings
    m = x.making.settings

    shaped : IsShaped (begun_as x y).end.streams
    shaped = shape_set_params (new_streams x.side m.max_uni m.max_bidi m.send_window m.receive_window m.stream_receive_window) (parameters_of y.making.settings) (shape_new x.side m.max_uni m.max_bidi m.send_window m.receive_window m.stream_receive_window)

    unused : (id : ℕ) (b : Bool) → has_place x.side no_places id ≡ b → HalfIs (Unit {0}) (λ (h : RecvHalf). IsLast h → SizeHasCome [] id) (SizeHasCome [] id) None b
    unused id true is = absurd (nowhere x.side id is)
    unused id false is = tt

pub sizes_came_group : (B : Way) → IsWriting B → Group B SizesCame
sizes_came_group B w = record {
  first = λ x y m there back. sizes_first x y;
  writer = λ x y call a c i back. sizes_call B w x y call a c i;
  reader = λ x y call a c there i. record { shape = i.shape; sized = i.sized };
  shows = λ x y here there b back i j. record { shape = i.shape; sized = i.sized };
}
