use Rattle.quic_wire_core.specs.Law.{fixed_found_8, fixed_found_16, fixed_found_32, fixed_found_64}
use Rattle.quic_wire_core.proofs.laws.fixed_is_spelled.Goals as goal

pub returns-clause-byte : goal.returns-clause-byte
returns-clause-byte c = fixed_found_8

pub returns-clause-two_bytes : goal.returns-clause-two_bytes
returns-clause-two_bytes c = fixed_found_16

pub returns-clause-four_bytes : goal.returns-clause-four_bytes
returns-clause-four_bytes c = fixed_found_32

pub returns-clause-eight_bytes : goal.returns-clause-eight_bytes
returns-clause-eight_bytes c = fixed_found_64
