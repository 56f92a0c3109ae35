-- What clauses see of what is tracked.
use Rattle.quic_spaces.specs.Tracking as words
use Rattle.quic_spaces.specs.declared.tracking.Tracking.TheInside as inside

-- without the count of the tail
abbrev pub tracking_of : inside.Inside → words.Tracking
tracking_of t = record {
  packets = t.packets;
  greatest_asking = t.largest_ack_eliciting_sent;
  last_asking = t.last_asking;
  loss_time = t.loss_time;
  timeouts = t.timeouts;
  probes = t.probes;
}
