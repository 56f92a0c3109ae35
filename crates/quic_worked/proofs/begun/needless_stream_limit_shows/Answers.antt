use Rattle.quic_worked.proofs.BegunRuns.{stream_limit_shows, never_stream_limit}
use Rattle.quic_worked.proofs.begun.needless_stream_limit_shows.Goals as goal

pub returns : goal.returns
returns c = record { limit = stream_limit_shows; machine = never_stream_limit }
