-- Facts of an end's streams that every word about them keeps: such a fact holds at each place of a
-- run, and one of each frame that was taken.
use Rattle.std.proofs.Common.{◌≡◌, ℕ, List, [], ◌∷◌, None, sym, subst, ◌⊎◌, inl, inr, Bool}
use Rattle.quic_wire_core.specs.declared.stream_id.Dir.{Dir}
use Rattle.quic_wire.specs.Value.{FrameValue, padding}
use Rattle.quic_streams_state.specs.declared.state.StreamsState.{StreamsState}
use Rattle.quic_streams_state.specs.Opening.{after_accept}
use Rattle.quic_streams_laws.specs.Keeping.{KeepsAll, MayAccept}
use Rattle.quic_streams_laws.specs.KeepingLaws.{by_accept, by_stream, by_reset_frame}
use Rattle.quic_streams_laws.specs.QuietLaws.{is_quiet}
use Rattle.quic_machine.specs.declared.run.Call.{Call}
use Rattle.quic_machine.specs.declared.run.Answer.{Answer}
use Rattle.quic_machine.specs.End.{End}
use Rattle.quic_machine.specs.Receive.{Outcome, take_frame}
use Rattle.quic_machine.specs.FrameCases.{begun, passed, frames_keep, frames_taken}
use Rattle.quic_headline.specs.Runs.{Packet, Intake, In}
use Rattle.quic_headline.proofs.Packets.Delivered.{Arrivals, with_taken, frames_at}
use Rattle.quic_machine.specs.DraftLaws.{IsClose}
use Rattle.quic_headline.proofs.Packets.Group.{meets}
use Rattle.quic_headline.proofs.Packets.Owing.{IsAlone, AreCloses}
use Rattle.quic_headline.proofs.Places.Parties.{Party, called, came_to, Beginning, begun_as}
use Rattle.quic_headline.proofs.Places.Groups.{Way, Calls, Group}
use Rattle.quic_headline.proofs.Places.Coming.{by_coming}
use Rattle.quic_headline.proofs.Halves.Ghosts.{wrote, IsWriting}
use Rattle.quic_headline.proofs.Halves.QuietSteps.{frame_quiet, sent_within}
use Rattle.quic_headline.proofs.Halves.ReadCalls.{IsKept, any_kept, call_kept}
use Rattle.quic_headline.proofs.Halves.ReadGroup.{WasIn}
use Rattle.quic_headline.proofs.Packets.Strays.{IsPath, in_at, closed_at}
use Rattle.quic_headline.proofs.Packets.Moved.{by_migrated}
use Rattle.quic_headline.proofs.Halves.Moved.{in_arrivals}

-- ---- a fact that stays

-- a fact that every call keeps, and every frame that comes
pub record Lasts (P : StreamsState → Type 0) : Type 0 where
  pub calls : IsKept P
  pub accepts : (dir : Dir) (s : StreamsState) → P s → P (after_accept dir s)
  pub frame : (f : FrameValue) (e : End) → P e.streams → P (take_frame f e).end.streams

-- one that each small change keeps, whatever changes
pub lasts_any : {A : StreamsState → Dir → Type 0} (P : StreamsState → Type 0) → ((s : StreamsState) (dir : Dir) → MayAccept s dir → A s dir) → KeepsAll (λ r id old new. Unit {0}) (λ s id old new. Unit {0}) (λ s id n old new. Unit {0}) A (λ id. Unit {0}) P → Lasts P
lasts_any P on k = record {
  calls = any_kept P k;
  accepts = λ dir s i. by_accept P k dir s (on s dir) i;
  frame = λ f e i. frame_quiet P (is_quiet P k) f e (λ g is. by_stream P k e.streams e.waiting.frames g (λ h a u. tt) i) (λ g is. by_reset_frame P k e.streams e.waiting.frames g (λ h a u. tt) i) i;
}

module _ (B : Way) (w : IsWriting B) (x y : Party) (call : Call) (a : Answer) (c : Calls B x y call a) (P : StreamsState → Type 0) (l : Lasts P) where
  -- it stays behind a call
  pub lasts_call : P x.end.streams → P (called x y.given call a).end.streams
  lasts_call here = by_coming x y a c.joined c.served (meets y x (w.packets y x c.takes)) (λ (e : End) (j : Intake). P e.streams) call c.answer (record {
    apart = λ apart. call_kept P l.calls x.policy x.end y.given (sent_within (wrote x.told) x.end.streams (w.written x y c.gives)) here call a c.answer apart (λ dir same. l.accepts dir x.end.streams here);
    none = λ delivery is. here;
    comes = λ delivery is s among from. in_arrivals P x.end delivery.now s.number s.frames (frames_at from s.frames) (came_to x y) here (frames_keep (λ (e : End). P e.streams) l.frame (frames_at from s.frames) (begun x.end delivery.now s.number) here);
  })

-- ---- it holds always

-- it holds of x's streams, by those with which it was made
pub record Always (P : StreamsState → StreamsState → Type 0) (x y : Party) : Type 0 where
  pub holds : P x.made.streams x.end.streams

-- a fact that holds at the start holds at each place
pub always_group : (P : StreamsState → StreamsState → Type 0) → ((made : StreamsState) → Lasts (P made)) → ((x y : Beginning) → P (begun_as x y).made.streams (begun_as x y).end.streams) → (B : Way) → IsWriting B → Group B (Always P)
always_group P l first B w = record {
  first = λ x y m there back. record { holds = first x y };
  writer = λ x y call a c i back. record { holds = lasts_call B w x y call a c (P x.made.streams) (l x.made.streams) i.holds };
  reader = λ x y call a c there i. record { holds = i.holds };
  shows = λ x y here there b back i j. record { holds = i.holds };
}

-- ---- a fact of each frame that was taken

module _ (I : StreamsState → Type 0) (E : FrameValue → StreamsState → Type 0) where
  -- where I holds, a frame that is taken leaves its fact, which stays
  pub record Leaves : Type 0 where
    pub known : Lasts I
    pub stays : (f : FrameValue) → Lasts (E f)
    pub takes : (f : FrameValue) (e : End) → I e.streams → (take_frame f e).fault ≡ None → E f (take_frame f e).end.streams
    -- a close has none, nor has what goes beside it
    pub closes : (f : FrameValue) (s : StreamsState) → IsClose f ⊎ (f ≡ padding) → E f s
    -- nor has a frame of path validation
    pub strays : (f : FrameValue) (s : StreamsState) → IsPath f → E f s

  -- the facts of the frames that x took
  pub record AreLeft (x y : Party) : Type 0 where
    pub known : I x.end.streams
    pub each : (f : FrameValue) → WasIn (came_to x y).took f → E f x.end.streams

  module _ (l : Leaves) where
    -- over the frames of a packet, of which these are left
    record Left (frames left : List FrameValue) (e : End) : Type 0 where
      known : I e.streams
      each : (f : FrameValue) → In f frames → In f left ⊎ E f e.streams

    step : (frames : List FrameValue) (f : FrameValue) (left : List FrameValue) (e : End) → (take_frame f e).fault ≡ None → Left frames (f ∷ left) e → Left frames left (take_frame f e).end
    step frames f left e right g = record { known = l.known.frame f e g.known; each = λ h i. go h (g.each h i) }
      where
        go : (h : FrameValue) → In h (f ∷ left) ⊎ E h e.streams → In h left ⊎ E h (take_frame f e).end.streams
        go h (inl (inl same)) = inr (subst (λ (x : FrameValue). E x (take_frame f e).end.streams) (sym same) (l.takes f e g.known right))
        go h (inl (inr later)) = inl later
        go h (inr was) = inr ((l.stays h).frame f e was)

    -- all of a packet that is taken
    all_left : (frames : List FrameValue) (e : End) → (passed frames e).fault ≡ None → I e.streams → (f : FrameValue) → In f frames → E f (passed frames e).end.streams
    all_left frames e none known f i = go ((frames_taken (Left frames) (step frames) frames e none (record { known = known; each = λ g j. inl j })).each f i)
      where
        go : In f [] ⊎ E f (passed frames e).end.streams → E f (passed frames e).end.streams
        go (inl never) = absurd never
        go (inr is) = is

    module _ (B : Way) (w : IsWriting B) (x y : Party) (call : Call) (a : Answer) (c : Calls B x y call a) (i : AreLeft x y) where
      abbrev After : End → Intake → Type 0
      After e j = (f : FrameValue) → WasIn j.took f → E f e.streams

      -- each case of a delivery
      arrivals : (now n : ℕ) (frames : List FrameValue) (here : Bool) → IsAlone frames → Arrivals x.end now n frames (frames_at here frames) (came_to x y) (λ (o : Outcome) (j : Intake). After o.end j)
      arrivals now n frames here alone = record {
        ignored = λ reason. i.each;
        noted = λ state reason. i.each;
        takes = λ words state new none urged mark f was. go none f was.packet was.was_taken was.carried;
        moves = λ p o same remote z opened j. by_migrated (λ (e : End). After e (with_taken (came_to x y) n frames)) p o remote z (λ c. j) (λ c most. j);
        drains = λ words state new close fault f was. shut (closed_at here frames (begun x.end now n) close alone fault) f was.packet was.was_taken was.carried;
        refuses = λ words state new g fault f was. still f (i.each f was);
        exhausts = λ state. i.each;
      }
        where
          taken : List FrameValue
          taken = frames_at here frames

          left : End
          left = (passed taken (begun x.end now n)).end

          still : (f : FrameValue) → E f x.end.streams → E f left.streams
          still f is = frames_keep (λ (e : End). E f e.streams) (λ g e j. (l.stays f).frame g e j) taken (begun x.end now n) is

          -- of the packet each frame is taken, or is one of path validation
          one : (passed taken (begun x.end now n)).fault ≡ None → (f : FrameValue) → In f frames → E f left.streams
          one none f there = elim (in_at here frames f there) [ inl among ↦ all_left taken (begun x.end now n) none i.known f among | inr path ↦ l.strays f left.streams path ]

          go : (passed taken (begun x.end now n)).fault ≡ None → (f : FrameValue) → (p : Packet) → In p (with_taken (came_to x y) n frames).took → In f p.frames → E f left.streams
          go none f p (inl is) carried = one none f (subst (λ (q : Packet). In f q.frames) is carried)
          go none f p (inr there) carried = still f (i.each f (record { packet = p; was_taken = there; carried = carried }))

          shut : AreCloses frames → (f : FrameValue) → (p : Packet) → In p (with_taken (came_to x y) n frames).took → In f p.frames → E f left.streams
          shut all f p (inl is) carried = l.closes f left.streams (all f (subst (λ (q : Packet). In f q.frames) is carried))
          shut all f p (inr there) carried = still f (i.each f (record { packet = p; was_taken = there; carried = carried }))

      left_call : AreLeft (called x y.given call a) y
      left_call = record {
        known = lasts_call B w x y call a c I l.known i.known;
        each = by_coming x y a c.joined c.served (meets y x (w.packets y x c.takes)) After call c.answer (record {
          apart = λ apart f was. call_kept (E f) (l.stays f).calls x.policy x.end y.given (sent_within (wrote x.told) x.end.streams (w.written x y c.gives)) (i.each f was) call a c.answer apart (λ dir same. (l.stays f).accepts dir x.end.streams (i.each f was));
          none = λ delivery is. i.each;
          comes = λ delivery is s among here. arrivals delivery.now s.number s.frames here ((w.packets y x c.takes).alone s among);
        });
      }

    pub left_group : ((x y : Beginning) → I (begun_as x y).end.streams) → (B : Way) → IsWriting B → Group B AreLeft
    left_group first B w = record {
      first = λ x y m there back. record { known = first x y; each = λ f was. absurd was.was_taken };
      writer = λ x y call a c i back. left_call B w x y call a c i;
      reader = λ x y call a c there i. record { known = i.known; each = i.each };
      shows = λ x y here there b back i j. record { known = i.known; each = i.each };
    }
