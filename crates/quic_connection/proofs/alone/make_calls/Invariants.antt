use Rattle.std.proofs.Common.{◌≡◌, ◌≤◌, length, take, vec_len, vec_capacity}
use Rattle.quic_machine.specs.Policy.{Policy}
use Rattle.quic_machine.specs.End.{policy_of}
use Rattle.quic_headline.specs.Alone.{Lone}
use Rattle.quic_connection_parts.specs.Telling.{windows_of}
use Rattle.quic_connection_parts.specs.Drawn.{words_of}
use Rattle.quic_connection.specs.Ends.{GoesOn}
use Rattle.quic_connection.specs.Lone.{lone_of, AddsAlone}
use Rattle.quic_connection.proofs.alone.make_calls.Given as goal

abbrev pub invariant-loop-call : goal.invariant-loop-call
invariant-loop-call g l =
    let p : Policy = policy_of g.H.HeaderKey.protection g.K.PacketKey.aead g.K.PacketKey.seal_limit g.K.PacketKey.refusal_limit (words_of g.R.Rng.stream) l.fn.end in
    let from : Lone = lone_of (windows_of g.C.Controller.steps g.C.Controller.window_of) l.fn.end in
    record {
      adds : AddsAlone p l.theirs from (take (length l.answers.items) l.calls) l.answers.items (lone_of (windows_of g.C.Controller.steps g.C.Controller.window_of) l.end) l.fn.given.items l.given.items;
      count : length l.answers.items ≡ l.call-index;
      len : vec_len l.answers ≡ l.call-index;
      room : length l.calls ≤ vec_capacity l.answers;
      goes_on : GoesOn g.R.Rng.stream l.fn.end l.end;
    }
