-- What waits to be sent beside the bytes of streams may go, at each place of a run: over what was
-- written.
use Rattle.std.proofs.Common.{ℕ, Bool, List, refl, arith}
use Rattle.quic_wire_core.specs.declared.stream_id.Side.{Side}
use Rattle.quic_parameters.specs.Parameters.{ParameterValues}
use Rattle.quic_config.specs.Transport.{Settings, parameters_of}
use Rattle.quic_machine.specs.declared.run.Call.{Call}
use Rattle.quic_machine.specs.declared.run.Answer.{Answer}
use Rattle.quic_machine.specs.Ids.{words_behind}
use Rattle.quic_machine.specs.Parts.{Windows}
use Rattle.quic_machine.specs.End.{End, silent_end, new_end}
use Rattle.quic_machine.specs.PollCases.{ready_at}
use Rattle.quic_headline.specs.Runs.{Intake}
use Rattle.quic_headline.proofs.Packets.Invariant.{IsSent}
use Rattle.quic_headline.proofs.Packets.Growth.{step_of}
use Rattle.quic_headline.proofs.Packets.MayGo.{AreReady}
use Rattle.quic_headline.proofs.Packets.Group.{PacketsHold, meets}
use Rattle.quic_headline.proofs.Places.Told.{in_left}
use Rattle.quic_headline.proofs.Places.Parties.{Party, Beginning, new_as, called, came_to, with_shown}
use Rattle.quic_headline.proofs.Places.Groups.{And, Calls, Group}
use Rattle.quic_headline.proofs.Places.Coming.{by_coming}
use Rattle.quic_headline.proofs.Halves.Wrote.{wrote}
use Rattle.quic_headline.proofs.Halves.Writer.{WritesHold}
use Rattle.quic_headline.proofs.Halves.Small.{payload_numbers, IsSmallNumber}
use Rattle.quic_headline.proofs.Halves.KnownIds.{AreWritten, call_written}
use Rattle.quic_headline.proofs.Halves.ToldIds.{first_told}
use Rattle.quic_headline.proofs.Halves.Pile.{resets_of, stops_of}
use Rattle.quic_headline.proofs.Halves.PileSteps.{HoldsAll, again_all, arrivals_hold}
use Rattle.quic_headline.proofs.Halves.PileCalls.{step_holds}
use Rattle.quic_headline.proofs.Halves.PilePolls.{ready_holds}
use Rattle.quic_headline.proofs.Packets.Delivered.{frames_at, among_at}

-- RESET_STREAM and STOP_SENDING that wait at x, or that its tracked packets carried, are a pile;
-- and the numbers of the ids of y that it knows can be written
pub record Ready (x y : Party) : Type 0 where
  pub all : HoldsAll x.end
  pub peer : AreWritten x.end.ids.peer

-- so what waits may go
pub waits_of : (e : End) → HoldsAll e → AreReady e.streams.sending.halves.live e.waiting.frames
waits_of e all =
    let h = all.holds in
    record {
      resets = λ r i. h.pile.reset r (in_left r e.waiting.frames.reset_stream (resets_of e.tracking.packets) i);
      stops = λ s i. h.pile.small s (in_left s e.waiting.frames.stop_sending (stops_of e.tracking.packets) i);
      ids = h.others.ids;
      retired = h.others.retired;
    }

-- where something waits for each probe too
pub ready_probes : (x y : Party) → PacketsHold x y → Ready x y → (now : ℕ) → AreReady (ready_at x.end now).end.streams.sending.halves.live (ready_at x.end now).end.waiting.frames
ready_probes x y packets ready now = waits_of (ready_at x.end now).end (ready_holds x.end now packets.ascends ready.all)

-- it is so at the start, whatever the peer told
pub first_holds : (side : Side) (settings : Settings) (windows : Windows) (theirs : ParameterValues) (own_id peer_id : List ℕ) (remote now : ℕ) (validated : Bool) (words : ℕ → ℕ)
    → (let x : End = new_end side settings windows theirs own_id peer_id remote now validated words in HoldsAll x × AreWritten x.ids.peer)
first_holds side settings windows theirs own_id peer_id remote now validated words = (
  again_all (silent_end side settings windows theirs own_id peer_id remote now validated words) (new_end side settings windows theirs own_id peer_id remote now validated words) refl refl refl (record {
    holds = record {
      pile = record { once = λ id. omega arith; reset = λ r i. absurd i; small = λ s i. absurd i };
      others = record { ids = first_told (words_behind 1 words) theirs.active_connection_id_limit; retired = λ n i. absurd i };
    };
    carried = λ n t i. absurd i;
  }),
  record { active = omega arith; later = λ c i. absurd i },
)

first_ready : (x y : Beginning) → HoldsAll (new_as x y) × AreWritten (new_as x y).ids.peer
first_ready x y = first_holds x.side x.making.settings x.making.windows (parameters_of y.making.settings) x.making.id y.making.id x.making.remote x.making.moment x.making.validated x.making.words

-- each call keeps it
calls_ready : (x y : Party) (call : Call) (a : Answer) → Calls (And PacketsHold WritesHold) x y call a → Ready x y → HoldsAll (called x y.given call a).end × AreWritten (called x y.given call a).end.ids.peer
calls_ready x y call a c ready = by_coming x y a c.joined c.served (meets y x c.takes.0) (λ (e : End) (i : Intake). HoldsAll e × AreWritten e.ids.peer) call c.answer (record {
  apart = λ apart. (
      let w = c.gives.1.writes.keeps in
      (step_holds x.policy x.end y.given call a (wrote x.told) w.holds w.few c.codes c.answer apart ready.peer c.gives.0.ascends ready.all, call_written x.policy x.end y.given call a apart ready.peer));
  none = λ delivery is. (ready.all, ready.peer);
  comes = λ delivery is s among here. (
      let given = (step_of (IsSent y.policy) y.sents y.given s c.takes.0.gives.each among).1 in
      arrivals_hold x.end delivery.now s.number s.frames (frames_at here s.frames) (came_to x y) (among_at IsSmallNumber tt here s.frames (payload_numbers s.frames given.payload given.spells)) ready.peer ready.all);
})

pub ready_group : Group (And PacketsHold WritesHold) Ready
ready_group = record {
  first = λ x y m there back. (let first = first_ready x y in record { all = first.0; peer = first.1 });
  writer = λ x y call a c gives takes. (let left = calls_ready x y call a c gives in record { all = left.0; peer = left.1 });
  reader = λ x y call a c gives takes. record { all = takes.all; peer = takes.peer };
  shows = λ x y here there b back ready others. record { all = again_all x.end (with_shown x.end here) refl refl refl ready.all; peer = ready.peer };
}
