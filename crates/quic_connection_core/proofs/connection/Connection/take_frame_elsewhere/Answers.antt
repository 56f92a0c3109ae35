use Rattle.std.proofs.Common.{refl}
use Rattle.quic_connection_core.proofs.connection.Connection.take_frame_elsewhere.Goals as goal

pub returns-then-is_of_path-clause-takes : goal.returns-then-is_of_path-clause-takes
returns-then-is_of_path-clause-takes g c = rw (c.is_of_path.ensures.path c.if-is_of_path.true, c.count_frame.ensures) refl

pub returns-then-is_of_path-clause-told : goal.returns-then-is_of_path-clause-told
returns-then-is_of_path-clause-told g c = rw (c.is_of_path.ensures.path c.if-is_of_path.true, c.count_frame.ensures) refl

pub returns-clause-takes : goal.returns-clause-takes
returns-clause-takes g c = rw (c.is_of_path.ensures.other c.if-is_of_path.false) (rw c.count_frame.ensures at c.take_frame.ensures.takes)

pub returns-clause-told : goal.returns-clause-told
returns-clause-told g c = rw (c.is_of_path.ensures.other c.if-is_of_path.false) (rw c.count_frame.ensures at c.take_frame.ensures.told)
