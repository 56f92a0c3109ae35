use Rattle.quic_streams_laws.specs.WrittenFrames.{stream_frames_say}
use Rattle.quic_streams_laws.proofs.laws.sends.frames_say_what_was_written.Goals as goal

pub returns : goal.returns
returns c = stream_frames_say
