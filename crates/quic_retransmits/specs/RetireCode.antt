-- The codes with which a connection closes where ids can't be retired.
use Rattle.std.specs.Prelude.{ℕ}
use Rattle.quic_retransmits.specs.declared.retransmits.RetireError.{RetireError}
use Rattle.quic_retransmits.specs.declared.retransmits.RetireError.TheVariants.{LimitExceeded, Memory}

-- CONNECTION_ID_LIMIT_ERROR, or INTERNAL_ERROR for want of memory (RFC 9000, section 20.1)
abbrev pub retire_code : RetireError → ℕ
retire_code LimitExceeded = 9
retire_code Memory = 1
