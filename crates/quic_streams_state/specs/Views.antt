-- What clauses see of the parts of the state.
use Rattle.quic_streams_state.specs.Parts as parts
use Rattle.quic_streams_state.specs.declared.opening.Opening.TheInside as inside_opening

-- the counts
abbrev pub opening_of : inside_opening.Inside → parts.Opening
opening_of o = record {
  own = o.next;
  own_limit = o.max;
  remote = o.next_remote;
  accepted = o.next_reported_remote;
  done = o.done_remote;
  configured = o.max_concurrent_remote;
  announced = o.sent_max_remote;
  sending = o.send_streams;
}
