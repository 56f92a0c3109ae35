-- All that an end saw of the other's streams is within the limit of all of them that the other was
-- told: a group over what was written and said.
use Rattle.std.proofs.Common.{◌≡◌, ℕ, ◌+◌, ◌-◌, ◌^◌, ◌≤◌, max, false, List, [], ◌∷◌, ◌++◌, length, Some, None, refl, ap, inl, inr, arith}
use Rattle.std.specs.Prelude.{nat_lt}
use Rattle.std.proofs.lemmas.Bool.{le-ltb}
use Rattle.std.proofs.lemmas.List.{length-append}
use Rattle.quic_parameters.specs.Parameters.{ParameterValues}
use Rattle.quic_config.specs.Transport.{Settings, parameters_of}
use Rattle.quic_wire.specs.Value.{FrameValue, stream, reset_stream}
use Rattle.quic_streams_parts.specs.RecvHalf.{RecvHalf}
use Rattle.quic_streams_state.specs.declared.state.StreamsState.{StreamsState}
use Rattle.quic_streams_state.specs.State.{seen}
use Rattle.quic_streams_state.specs.Limits.{raised_data}
use Rattle.quic_streams_state.specs.Opening.{receiving_refusal}
use Rattle.quic_streams_state.specs.Taking.{part_for}
use Rattle.quic_streams_laws.specs.KeepingLaws.{by_accept}
use Rattle.quic_streams_laws.specs.Quiet.{IsSentWithin}
use Rattle.quic_streams_laws.specs.ReadsLaws.{stands_within}
use Rattle.quic_streams_laws.specs.Summed.{sum_below}
use Rattle.quic_streams_laws.specs.Written.{Grows}
use Rattle.quic_machine.specs.declared.run.Call.{Call}
use Rattle.quic_machine.specs.declared.run.Call.TheVariants as calls
use Rattle.quic_machine.specs.declared.run.Delivery.{Delivery}
use Rattle.quic_machine.specs.declared.run.Answer.{Answer}
use Rattle.quic_machine.specs.End.{End}
use Rattle.quic_machine.specs.Receive.{take_frame}
use Rattle.quic_machine.specs.FrameCases.{begun, passed, frames_leave}
use Rattle.quic_headline.specs.Runs.{Told, Intake, In, written}
use Rattle.quic_headline.proofs.Packets.Delivered.{frames_at, among_at}
use Rattle.quic_headline.proofs.Packets.Group.{meets}
use Rattle.quic_headline.proofs.Places.Parties.{told_of, Party, called, came_to, Beginning, begun_as, AreMade}
use Rattle.quic_headline.proofs.Places.Groups.{Way, Calls, Group}
use Rattle.quic_headline.proofs.Places.Coming.{by_coming}
use Rattle.quic_headline.proofs.Halves.Counts.{counts_in_range}
use Rattle.quic_headline.proofs.Halves.Ghosts.{wrote, SaysOf, IsWriting}
use Rattle.quic_headline.proofs.Halves.QuietSteps.{sent_within}
use Rattle.quic_headline.proofs.Halves.ReadCalls.{call_kept}
use Rattle.quic_headline.specs.Amounts.{all_written, amount_by}
use Rattle.quic_headline.proofs.Channel.Sums.{all_more, each_written}
use Rattle.quic_headline.proofs.Channel.Seen.{SeenBelow, Fits, below_kept, below_calls, frame_seen, all_fit, seen_wider, seen_first}
use Rattle.quic_headline.proofs.Channel.Accepted.{Accepts, frame_accepts, call_accepts, call_counts}
use Rattle.quic_headline.proofs.Halves.Moved.{in_arrivals}

-- ---- between two ends

-- how many ids of streams there are
abbrev pub ids : ℕ
ids = 2 ^ 62

pub as_many : 2 ^ 62 ≤ ids
as_many = omega arith

-- how much was written on a stream
abbrev pub size_in : List Told → ℕ → ℕ
size_in told id = length (written id told)

-- what these streams saw is within what was written by these calls
abbrev pub SeenOf : List Told → StreamsState → Type 0
SeenOf told s = SeenBelow ids as_many (size_in told) s

-- x writes, and y sees
pub record AllStreams (x y : Party) : Type 0 where
  pub sees : SeenOf x.told y.end.streams
  pub accepts : Accepts (all_written x.told) x.end.streams

-- ---- frames

-- a frame that says what was written brings no more
pub says_fits : (told : List Told) (f : FrameValue) → SaysOf (wrote told) f → Fits ids as_many (size_in told) f
says_fits told (stream f) says = stands_within (written f.id told) f.offset f.bytes says.stands
says_fits told (reset_stream f) says = (let whole = says.size in omega arith)
says_fits told f says = tt

-- what each of some frames keeps, all of them do
frames_stay : (P : End → Type 0) (Q : FrameValue → Type 0) → ((f : FrameValue) (e : End) → Q f → P e → P (take_frame f e).end) → (fs : List FrameValue) (e : End) → ((f : FrameValue) → In f fs → Q f) → P e → P (passed fs e).end
frames_stay P Q step fs e all i = (frames_leave (λ (left : List FrameValue) (x : End). ((f : FrameValue) → In f left → Q f) × P x) (λ f left x both. ((λ g among. both.0 g (inr among)), step f x (both.0 f (inl refl)) both.1)) fs e (all, i)).1.1

-- ---- a call

module _ (B : Way) (w : IsWriting B) (x y : Party) (call : Call) (a : Answer) (c : Calls B x y call a) where
  within : (id : ℕ) → IsSentWithin x.end.streams id
  within = sent_within (wrote x.told) x.end.streams (w.written x y c.gives)

  -- what y saw is within what was written, which only grows
  sees_on : AllStreams x y → SeenOf (x.told ++ told_of call a x.end.closing.state ∷ []) y.end.streams
  sees_on i = seen_wider ids as_many (size_in x.told) (size_in (x.told ++ told_of call a x.end.closing.state ∷ [])) y.end.streams more i.sees
    where
      more : (id : ℕ) → size_in x.told id ≤ size_in (x.told ++ told_of call a x.end.closing.state ∷ []) id
      more id =
          let g : Grows (wrote x.told id) (wrote (called x y.given call a).told id) = w.grows x y call a c id in
          let whole = ap length g.bytes in
          let parts = length-append (written id x.told) g.rest in
          omega arith

  -- what was written was accepted
  accepts_on : AllStreams x y → Accepts (all_written (x.told ++ told_of call a x.end.closing.state ∷ [])) (called x y.given call a).end.streams
  accepts_on i = by_coming x y a c.joined c.served (meets y x (w.packets y x c.takes)) (λ (e : End) (j : Intake). Accepts (all_written (x.told ++ told_of call a x.end.closing.state ∷ [])) e.streams) call c.answer (record {
    apart = λ apart.
        (let more = all_more x.told (told_of call a x.end.closing.state) in
        let low = i.accepts.0 in
        let counts = call_counts x.policy x.end y.given within i.accepts.1 call a c.answer apart in
        let fits = (call_accepts (all_written x.told) x.policy x.end y.given within i.accepts call a c.answer apart).1 in
        ((omega arith), fits));
    none = λ delivery is. same delivery is x.end.streams i.accepts;
    comes = λ delivery is s among here. in_arrivals (Accepts (all_written (x.told ++ told_of call a x.end.closing.state ∷ []))) x.end delivery.now s.number s.frames (frames_at here s.frames) (came_to x y) (same delivery is x.end.streams i.accepts)
        (same delivery is (passed (frames_at here s.frames) (begun x.end delivery.now s.number)).end.streams (frames_stay (λ (e : End). Accepts (all_written x.told) e.streams) (λ f. Unit {0}) (λ f e q j. frame_accepts (all_written x.told) f e j) (frames_at here s.frames) (begun x.end delivery.now s.number) (λ f j. tt) i.accepts));
  })
    where
      -- a delivery writes nothing
      same : (delivery : Delivery) → call ≡ calls.Deliver delivery → (s : StreamsState) → Accepts (all_written x.told) s → Accepts (all_written (x.told ++ told_of call a x.end.closing.state ∷ [])) s
      same delivery is s j =
          let none : amount_by call a ≡ 0 = ap (λ (k : Call). amount_by k a) is in
          let more = all_more x.told (told_of call a x.end.closing.state) in
          let low = j.0 in
          ((omega arith), j.1)

  -- what x sees is within what y wrote
  sees_more : AllStreams y x → SeenOf y.told (called x y.given call a).end.streams
  sees_more i = by_coming x y a c.joined c.served (meets y x (w.packets y x c.takes)) (λ (e : End) (j : Intake). SeenOf y.told e.streams) call c.answer (record {
    apart = λ apart. call_kept (SeenOf y.told) (below_calls ids as_many (size_in y.told)) x.policy x.end y.given within i.sees call a c.answer apart
        (λ dir same. by_accept (SeenOf y.told) (below_kept ids as_many (size_in y.told)) dir x.end.streams (λ may. may) i.sees);
    none = λ delivery is. i.sees;
    comes = λ delivery is s among here. in_arrivals (SeenOf y.told) x.end delivery.now s.number s.frames (frames_at here s.frames) (came_to x y) i.sees
        (frames_stay (λ (e : End). SeenOf y.told e.streams) (Fits ids as_many (size_in y.told)) (λ f e fits j. frame_seen ids as_many (size_in y.told) f e fits j) (frames_at here s.frames) (begun x.end delivery.now s.number) (among_at (Fits ids as_many (size_in y.told)) tt here s.frames (λ f j. says_fits y.told f (w.says y x c.takes s among f j))) i.sees);
  })

-- ---- the group

pub all_streams_group : (B : Way) → IsWriting B → Group B AllStreams
all_streams_group B w = record {
  first = λ x y m there back. first x y m;
  writer = λ x y call a c i back. record { sees = sees_on B w x y call a c i; accepts = accepts_on B w x y call a c i };
  reader = λ x y call a c there i. record { sees = sees_more B w x y call a c i; accepts = i.accepts };
  shows = λ x y here there b back i j. record { sees = i.sees; accepts = i.accepts };
}
  where
    first : (x y : Beginning) → AreMade x y → AllStreams (begun_as x y) (begun_as y x)
    first x y m =
        let s : Settings = y.making.settings in
        let theirs : ParameterValues = parameters_of x.making.settings in
        let counts = counts_in_range x.making.parameters theirs m.x_is.says in
        record {
          sees = seen_first ids as_many (size_in []) y.side s.max_uni s.max_bidi s.send_window s.receive_window s.stream_receive_window theirs counts.0 counts.1;
          accepts = ((omega arith), (omega arith));
        }

-- ---- what follows

-- where y lets come what x was told, bytes that x wrote stay within that, whatever y sees so far
pub within_all : (x y : Party) → AllStreams x y → (t : StreamsState) → SeenOf x.told t → x.end.streams.sending.limit ≤ raised_data t.receiving → (id : ℕ) (h : RecvHalf) (end : ℕ) → receiving_refusal t id ≡ None → part_for t id ≡ Some h → end ≤ size_in x.told id
    → nat_lt (raised_data t.receiving) (seen t.receiving - h.seen + max h.seen end) ≡ false
within_all x y i t sees limit id h end allowed part fits =
    let all = all_fit ids as_many (size_in x.told) t id h end allowed part fits sees in
    let wrote_all : sum_below ids (size_in x.told) ≤ all_written x.told = each_written ids x.told in
    let low = i.accepts.0 in
    let high = i.accepts.1 in
    le-ltb (raised_data t.receiving) (seen t.receiving - h.seen + max h.seen end) (omega (arith, all, wrote_all, low, high, limit))
