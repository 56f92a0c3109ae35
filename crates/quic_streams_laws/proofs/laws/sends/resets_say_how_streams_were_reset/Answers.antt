use Rattle.quic_streams_laws.specs.WrittenResets.{control_frames_say, resets_reset, resets_merged, resets_grow}
use Rattle.quic_streams_laws.proofs.laws.sends.resets_say_how_streams_were_reset.Goals as goal

pub returns-clause-frames : goal.returns-clause-frames
returns-clause-frames c = control_frames_say

pub returns-clause-reset : goal.returns-clause-reset
returns-clause-reset c = resets_reset

pub returns-clause-lost : goal.returns-clause-lost
returns-clause-lost c = resets_merged

pub returns-clause-grown : goal.returns-clause-grown
returns-clause-grown c = resets_grow
