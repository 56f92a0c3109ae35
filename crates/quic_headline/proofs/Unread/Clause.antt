-- So it is at each place of an honest run where both ends rest: a write is blocked only for bytes
-- that the reader left unread.
use Rattle.std.proofs.Common.{◌≡◌, ℕ, Bool, true, false, List, length, Result, Ok, Err, refl, sym, ap, ◌∙◌, subst, ◌⊎◌, inl, inr, arith}
use Rattle.std.specs.Prelude.{if◌then◌else◌}
use Rattle.quic_wire_core.specs.declared.stream_id.Side.{Side}
use Rattle.quic_wire_core.specs.declared.stream_id.Side.TheVariants.{Client, Server}
use Rattle.quic_wire_core.specs.declared.stream_id.Dir.{Dir}
use Rattle.quic_wire_core.specs.declared.stream_id.Dir.TheVariants.{Bi, Uni}
use Rattle.quic_wire_core.specs.StreamId.{other_side, dir_of}
use Rattle.quic_parameters.specs.Parameters.{ParameterValues}
use Rattle.quic_config.specs.Transport.{IsInRange, parameters_of}
use Rattle.quic_send_buffer.specs.Source.{bytes_of}
use Rattle.quic_streams_parts.specs.declared.answers.WriteError.{WriteError}
use Rattle.quic_streams_parts.specs.declared.answers.WriteError.TheVariants as write_errors
use Rattle.quic_streams_parts.specs.Dirs.{of, is_own}
use Rattle.quic_streams_state.specs.Parts.{room}
use Rattle.quic_streams_state.specs.State.{first_limit}
use Rattle.quic_streams_state.specs.Writing.{write_answer, chunks_of}
use Rattle.quic_machine.specs.declared.answers.State.{State}
use Rattle.quic_machine.specs.declared.run.Call.{Call}
use Rattle.quic_machine.specs.declared.run.Call.TheVariants as calls
use Rattle.quic_machine.specs.declared.run.Answer.{Answer}
use Rattle.quic_machine.specs.declared.run.Answer.TheVariants as answers
use Rattle.quic_machine.specs.Calls.{is_open}
use Rattle.quic_machine.specs.End.{End}
use Rattle.quic_machine.specs.Start.{AreStarted}
use Rattle.quic_machine.specs.Machine.{World, IsAnswer, reads_window, end_at, control_at, heard_at}
use Rattle.quic_headline.specs.Runs.{Run, Packet, Intake, until}
use Rattle.quic_headline.specs.Observer.{took, watch}
use Rattle.quic_headline.specs.Headline.{IsHonest, IsRun, IsAt}
use Rattle.quic_headline.specs.Amounts.{making_at, WritesOn, told_so}
use Rattle.quic_headline.specs.Rest.{HasNothingLeft}
use Rattle.quic_headline.specs.Unread.{HasUnread, HasUnreadOn, least_left, receive_window, stream_window, BlockedOnlyForUnread}
use Rattle.quic_headline.proofs.Packets.Group.{PacketsHold}
use Rattle.quic_headline.proofs.Places.Parties.{Party, came_to}
use Rattle.quic_headline.proofs.Places.Groups.{Way, Nothing, And, Group, both, beside}
use Rattle.quic_headline.proofs.Places.Placed.{party_at, Placed, placed, answered, start_is}
use Rattle.quic_headline.proofs.Places.Openings.{took_there}
use Rattle.quic_headline.proofs.Places.Everything as everything
use Rattle.quic_headline.proofs.Places.Theorems.{ready, tracks_in_flight}
use Rattle.quic_headline.proofs.Halves.Ready.{Ready}
use Rattle.quic_headline.proofs.Halves.Arrived.{Arrives}
use Rattle.quic_headline.proofs.Halves.Ghosts.{IsWriting}
use Rattle.quic_headline.proofs.Halves.ReadGroup.{ReadsHold, reads_group}
use Rattle.quic_headline.proofs.Halves.Writer.{WritesHold, grows_behind}
use Rattle.quic_headline.proofs.Duties.Group.{Flying}
use Rattle.quic_headline.proofs.Grown.Clause.{GrownWait, grown_group}
use Rattle.quic_headline.proofs.Amounts.Group.{Tallied, tallied_group}
use Rattle.quic_headline.proofs.Channel.Within.{Within}
use Rattle.quic_headline.proofs.Rest.Quiet.{rest_is_quiet}
use Rattle.quic_headline.proofs.Unread.Newest.{NewestSaid, newest_group}
use Rattle.quic_headline.proofs.Unread.Written.{Sums, sums_group}
use Rattle.quic_headline.proofs.Unread.Group.{Consumed, consumed_group}
use Rattle.quic_headline.proofs.Unread.Resting.{AtRest}
use Rattle.quic_headline.proofs.Unread.Blocked.{BothRest, blocked_unread, within_all_written}

-- ---- all that holds

-- the packets, what was written, said and is under way
abbrev pub Base : Way
Base = And (And (And (everything.All Ready ready) Arrives) (everything.Said Ready ready)) Flying

-- what is read and grew, and what limits, amounts and halves come to
abbrev pub Wide : Way
Wide = And ReadsHold (And GrownWait (And Tallied (And NewestSaid (And Sums Consumed))))

packets_of : (x y : Party) → Base x y → PacketsHold x y
packets_of x y h = h.0.0.0.0.0

writes_of : (x y : Party) → Base x y → WritesHold x y
writes_of x y h = h.0.0.0.0.1.0

within_of : (x y : Party) → Base x y → Within x y
within_of x y h = h.0.1.1

is_writing : IsWriting (And Nothing Base)
is_writing = record {
  packets = λ x y h. packets_of x y h.1;
  written = λ x y h. (writes_of x y h.1).writes.keeps.holds;
  says = λ x y h. (writes_of x y h.1).says;
  grows = λ x y call a c. grows_behind (And Nothing Base) (λ x y h. packets_of x y h.1) x y call a c (writes_of x y c.gives.1);
}

abbrev N : Way
N = And Nothing Base

pub wide : Group Nothing (And Base Wide)
wide = both Nothing Base Wide (everything.all_flying Ready ready)
    (beside N ReadsHold (And GrownWait (And Tallied (And NewestSaid (And Sums Consumed)))) (reads_group N is_writing)
    (beside N GrownWait (And Tallied (And NewestSaid (And Sums Consumed))) (grown_group N is_writing)
    (beside N Tallied (And NewestSaid (And Sums Consumed)) (tallied_group N (λ x y h. packets_of x y h.1))
    (beside N NewestSaid (And Sums Consumed) (newest_group N is_writing)
    (beside N Sums Consumed (sums_group N (λ x y h. within_of x y h.1)) (consumed_group N is_writing (λ x y h. within_of x y h.1)))))))

-- ---- how ends were made

first_all_is : (side : Side) (w : World) (s : AreStarted w) → (end_at side w).streams.sending.limit ≡ (end_at (other_side side) w).streams.receiving.window
first_all_is side w s = ap (λ (e : End). e.streams.sending.limit) (start_is w s side) ∙ sym (ap (λ (e : End). e.streams.receiving.window) (start_is w s (other_side side)))

first_each_is : (side : Side) (w : World) (s : AreStarted w) (id : ℕ) → first_limit (end_at side w).streams id ≡ (end_at (other_side side) w).streams.receiving.stream_window
first_each_is side w s id = ap (λ (e : End). first_limit e.streams id) (start_is w s side) ∙ go (is_own side id) (dir_of id) ∙ sym (ap (λ (e : End). e.streams.receiving.stream_window) (start_is w s (other_side side)))
  where
    p : ParameterValues
    p = parameters_of (making_at (other_side side) w s).settings

    go : (own : Bool) (dir : Dir) → (if own then of dir (record { bi = p.initial_max_stream_data_bidi_remote; uni = p.initial_max_stream_data_uni }) else p.initial_max_stream_data_bidi_local) ≡ (making_at (other_side side) w s).settings.stream_receive_window
    go true Bi = refl
    go true Uni = refl
    go false dir = refl

range_of : (side : Side) (w : World) (s : AreStarted w) → IsInRange (making_at side w s).settings
range_of Client w s = s.client_is.range
range_of Server w s = s.server_is.range

-- ---- the clause

-- so much is left unread at the reader's end
abbrev Left : (r : Run) → AreStarted r.start → Side → ℕ → ℕ → Type 0
Left r s reader i id = HasUnread (took r reader i) (until r reader i) (least_left (receive_window r s reader)) ⊎ HasUnreadOn (took r reader i) (until r reader i) id (least_left (stream_window r s reader))

module _ (r : Run) (end : World) (honest : IsHonest r) (run : IsRun r end) where
  pub blocked_only_for_unread : BlockedOnlyForUnread r
  blocked_only_for_unread s side i id count call a served room modest rests reader_rests event on told = by_call call a event on told (answered r p.world end i side call a p.goes_on event)
    where
      other : Side
      other = other_side side

      p : Placed (And Base Wide) r end side i
      p = placed (And Base Wide) wide r end honest run side i served

      x : Party
      x = party_at r i p.world side p.sents

      y : Party
      y = party_at r i p.world other p.theirs

      left : HasNothingLeft x.end
      left = rest_is_quiet r end honest run side i p.world served room rests p.leads

      reader_left : HasNothingLeft y.end
      reader_left = rest_is_quiet r end honest run other i p.world served room reader_rests p.leads

      at_rest : AtRest x.end (watch r side i).flight.flying
      at_rest = record { nothing_waits = left.nothing_waits; nothing_asks = left.nothing_asks; waited = tracks_in_flight r end honest run i p.world served p.leads side left.is_open }

      reader_at_rest : AtRest y.end (watch r other i).flight.flying
      reader_at_rest = record { nothing_waits = reader_left.nothing_waits; nothing_asks = reader_left.nothing_asks; waited = tracks_in_flight r end honest run i p.world served p.leads other reader_left.is_open }

      theirs_are : took r other i ≡ (came_to y x).took
      theirs_are = ap (λ (k : Intake). k.took) (took_there r honest p.world i side p.sents p.theirs)

      both_rest : BothRest x y
      both_rest = record {
        flying = (watch r side i).flight.flying;
        theirs = (watch r other i).flight.flying;
        rests = at_rest;
        reader_rests = reader_at_rest;
        packets = packets_of x y p.gives.0;
        packets_back = packets_of y x p.takes.0;
        writes = writes_of x y p.gives.0;
        writes_back = writes_of y x p.takes.0;
        arrives = p.gives.0.0.0.1;
        arrives_back = p.takes.0.0.0.1;
        flies = p.gives.0.1;
        flies_back = p.takes.0.1;
        reads = p.gives.1.0;
        grown = p.takes.1.1.0;
        tallied = p.gives.1.1.1.0.still left.is_open;
        newest = p.takes.1.1.1.1.0;
        sums = p.gives.1.1.1.1.1.0;
        consumed = p.gives.1.1.1.1.1.1;
        first_all = first_all_is side r.start s;
        first_each = first_each_is side r.start s;
      }

      -- the windows are as they were configured
      window_is : y.made.streams.receiving.window ≡ receive_window r s other
      window_is = ap (λ (e : End). e.streams.receiving.window) (start_is r.start s other)

      stream_is : y.made.streams.receiving.stream_window ≡ stream_window r s other
      stream_is = ap (λ (e : End). e.streams.receiving.stream_window) (start_is r.start s other)

      send_is : x.end.streams.sending.window ≡ (making_at side r.start s).settings.send_window
      send_is = both_rest.tallied.sums.window ∙ ap (λ (e : End). e.streams.sending.window) (start_is r.start s side)

      -- a write of so many bytes that is blocked
      blocked : (len : ℕ) → write_answer (is_open x.end.closing.state) x.end.streams id len ≡ Err write_errors.Blocked → Left r s other i id
      blocked len is =
          let open_answer : write_answer true x.end.streams id len ≡ Err write_errors.Blocked = ap (λ (st : State). write_answer (is_open st) x.end.streams id len) (sym left.is_open) ∙ is in
          let sends = (modest side).sends in
          let receives = (modest other).receives in
          let streams = (modest other).streams in
          let few = (modest side).written in
          let range = range_of other r.start s in
          let small = range.receive_window in
          let small_each = range.stream_receive_window in
          let one = within_all_written x y both_rest id in
          let found = blocked_unread x y both_rest id len open_answer (omega (arith, sends, send_is)) (omega (arith, receives, window_is)) (omega (arith, small, window_is)) (omega (arith, streams, stream_is)) (omega (arith, small_each, stream_is)) few (omega (arith, one, few)) in
          subst (λ (ps : List Packet). HasUnread ps (until r other i) (least_left (receive_window r s other)) ⊎ HasUnreadOn ps (until r other i) id (least_left (stream_window r s other))) (sym theirs_are)
          (subst (λ (n : ℕ). HasUnread (came_to y x).took (until r other i) (least_left n) ⊎ HasUnreadOn (came_to y x).took (until r other i) id (least_left (stream_window r s other))) window_is
          (subst (λ (n : ℕ). HasUnread (came_to y x).took (until r other i) (least_left y.made.streams.receiving.window) ⊎ HasUnreadOn (came_to y x).took (until r other i) id (least_left n)) stream_is found))

      chunks_blocked : (w : Result ℕ WriteError) (cs : List (List ℕ)) → told_so (answers.WriteChunks (chunks_of w cs)) (Err write_errors.Blocked) → w ≡ Err write_errors.Blocked
      chunks_blocked (Ok n) cs told = cc
      chunks_blocked (Err e) cs told = cc

      by_call : (call : Call) (a : Answer) → IsAt r i side call a → WritesOn call id count → told_so a (Err write_errors.Blocked) → IsAnswer x.policy (reads_window (control_at side p.world) (heard_at side p.world) call x.end) y.given call a → Left r s other i id
      by_call (calls.Write q bytes) a event on told (inl is) = blocked (length bytes) (ap (λ (j : ℕ). write_answer (is_open x.end.closing.state) x.end.streams j (length bytes)) (sym on.0) ∙ subst (λ (b : Answer). told_so b (Err write_errors.Blocked)) is told)
      by_call (calls.Write q bytes) a event on told (inr is) = (let clash : ◌≡◌ {A = Result ℕ WriteError} (Err write_errors.Memory) (Err write_errors.Blocked) = subst (λ (b : Answer). told_so b (Err write_errors.Blocked)) is told in cc)
      by_call (calls.WriteChunks q chunks) a event on told (inl is) = blocked (bytes_of chunks.items) (ap (λ (j : ℕ). write_answer (is_open x.end.closing.state) x.end.streams j (bytes_of chunks.items)) (sym on.0)
          ∙ chunks_blocked (write_answer (is_open x.end.closing.state) x.end.streams q (bytes_of chunks.items)) chunks.items (subst (λ (b : Answer). told_so b (Err write_errors.Blocked)) is told))
      by_call (calls.WriteChunks q chunks) a event on told (inr is) = (let clash : ◌≡◌ {A = Result ℕ WriteError} (Err write_errors.Memory) (Err write_errors.Blocked) = subst (λ (b : Answer). told_so b (Err write_errors.Blocked)) is told in cc)
      by_call call a event on told is = absurd on
