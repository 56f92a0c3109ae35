use Rattle.quic_connection_core.proofs.connection.Connection.take_frames.Goals as goal

pub returns-clause-takes : goal.returns-clause-takes
returns-clause-takes g c = rw c.is_at-here.ensures at c.take_frames_at.ensures.takes

pub returns-clause-told : goal.returns-clause-told
returns-clause-told g c = rw c.is_at-here.ensures at c.take_frames_at.ensures.told
