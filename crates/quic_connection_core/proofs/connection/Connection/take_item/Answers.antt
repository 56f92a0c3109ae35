use Rattle.quic_connection_core.proofs.connection.Connection.take_item.Goals as goal

pub returns-then-here-clause-takes : goal.returns-then-here-clause-takes
returns-then-here-clause-takes g c = rw c.if-here.true c.take_item_here.ensures.takes

pub returns-then-here-clause-told : goal.returns-then-here-clause-told
returns-then-here-clause-told g c = rw c.if-here.true c.take_item_here.ensures.told

pub returns-clause-takes : goal.returns-clause-takes
returns-clause-takes g c = rw c.if-here.false c.take_item_elsewhere.ensures.takes

pub returns-clause-told : goal.returns-clause-told
returns-clause-told g c = rw c.if-here.false c.take_item_elsewhere.ensures.told
