use Rattle.std.proofs.Common.{◌≡◌, ◌≤◌, length, vec_len, vec_capacity, false}
use Rattle.quic_machine.specs.Machine.{Policies, Follows}
use Rattle.quic_connection_parts.specs.Telling.{windows_of}
use Rattle.quic_connection.specs.Ends.{world_of, first_world, policies_of, GoOn}
use Rattle.quic_connection.proofs.running.run_events.Given as goal

abbrev pub invariant-loop-event : goal.invariant-loop-event
invariant-loop-event g l =
    let policies : Policies = policies_of g.H.HeaderKey.protection g.K.PacketKey.aead g.K.PacketKey.seal_limit g.K.PacketKey.refusal_limit g.R.Rng.stream l.fn.ends in
    record {
      follows : Follows policies (first_world (windows_of g.C.Controller.steps g.C.Controller.window_of) l.fn.ends) l.events l.answers.items l.views.items (world_of (windows_of g.C.Controller.steps g.C.Controller.window_of) l.ends l.given);
      count : length l.answers.items ≡ l.event-index;
      answers_len : vec_len l.answers ≡ l.event-index;
      views_len : vec_len l.views ≡ l.event-index;
      answer_room : length l.events ≤ vec_capacity l.answers;
      view_room : length l.events ≤ vec_capacity l.views;
      is_whole : l.cut_short ≡ false;
      goes_on : GoOn g.R.Rng.stream l.fn.ends l.ends;
    }
