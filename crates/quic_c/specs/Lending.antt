-- What a handle is once the endpoint that it holds is no longer lent.
use Rattle.std.specs.Borrow.{Lends, MutBor, Fml}
use Rattle.quic_c_core.specs.declared.endpoint.Endpoint.{Endpoint}
use Rattle.quic_c_core.specs.contracts.endpoint.Endpoint.{the_row as endpoint_row}
use Rattle.quic_c.specs.declared.held.Held.{Held}
use Rattle.quic_c.specs.contracts.held.Held.{the_row as held_row}

-- a handle with this endpoint
abbrev pub with_endpoint : Held → Endpoint → Held
with_endpoint h e = record h { value = e }

-- a handle ends with what its endpoint was left at
abbrev pub LendsHeld : MutBor Held → MutBor Endpoint → Fml
LendsHeld h r = Lends held_row endpoint_row h r (with_endpoint h.now)
