use Rattle.quic_wire.proofs.FrameKinds.{type_of_kind, kind_of_type}
use Rattle.quic_wire.proofs.frame_laws.types_name_kinds.Goals as goal

pub returns-clause-number : goal.returns-clause-number
returns-clause-number c = type_of_kind

pub returns-clause-kind : goal.returns-clause-kind
returns-clause-kind c = kind_of_type
