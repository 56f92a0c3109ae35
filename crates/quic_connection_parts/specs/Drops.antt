-- What is counted of datagrams that are dropped (RFC 9000, section 5.2).
use Rattle.quic_machine.specs.declared.answers.DropReason.{DropReason}
use Rattle.quic_machine.specs.declared.answers.DropReason.TheVariants as drops
use Rattle.quic_stats.specs.declared.drops.DropStats.{DropStats}
use Rattle.quic_stats.specs.Stats.{counted}

-- one more that was dropped for this reason
abbrev pub after_drop : DropReason → DropStats → DropStats
after_drop drops.TooShort s = record s { too_short = counted s.too_short }
after_drop drops.NotShort s = record s { not_short = counted s.not_short }
after_drop drops.FixedBit s = record s { fixed_bit = counted s.fixed_bit }
after_drop drops.UnknownId s = record s { unknown_id = counted s.unknown_id }
after_drop drops.NotOpened s = record s { not_opened = counted s.not_opened }
after_drop drops.KeyPhase s = record s { key_phase = counted s.key_phase }
after_drop drops.Duplicate s = record s { duplicate = counted s.duplicate }
after_drop drops.Closing s = record s { closing = counted s.closing }
after_drop drops.Drained s = record s { drained = counted s.drained }
after_drop drops.Failed s = record s { failed = counted s.failed }
after_drop drops.Address s = s
