use Rattle.quic_worked.proofs.LackingRuns.{never_resets, never_stops, never_sends, never_expires}
use Rattle.quic_worked.proofs.lacking.no_other_call_lacks.Goals as goal

pub returns : goal.returns
returns c = record { reset = never_resets; stop = never_stops; send = never_sends; timeout = never_expires }
