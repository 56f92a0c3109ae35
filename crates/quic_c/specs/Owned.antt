-- What is owned where a new endpoint is put.
use Rattle.std.specs.Prelude.{Option, Some, None}
use Rattle.std.specs.Borrow.{Fml}
use Rattle.std.specs.Ptr.{Ptr}
use base.Fml.{ftrue}
use Rattle.std.specs.Global.{Global}
use Rattle.std.specs.contracts.impls.GlobalAllocator.TheImpl.{ghosts}
use Rattle.std_alloc.specs.Box.Ownership.{box_owns}
use Rattle.quic_c_core.specs.declared.endpoint.Endpoint.{Endpoint}
use Rattle.quic_c_core.specs.contracts.endpoint.Endpoint.{the_row}

-- the handle to the heap, which has nothing in it
abbrev pub heap : Global
heap = record { memory = record { seal = tt } }

-- this endpoint, on the heap at this pointer; or nothing, where there is none
abbrev pub owned : Ptr → Option Endpoint → Fml
owned at None = ftrue
owned at (Some e) = box_owns (ghosts.dealloc_token heap) the_row at e
