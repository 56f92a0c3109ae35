use Rattle.std.proofs.Common.{inl, length}
use Rattle.quic_sets.proofs.Outcomes.{of_error}
use Rattle.quic_assembler.proofs.Parts.Last.{last_free}
use Rattle.quic_assembler.proofs.assembler.parts.Parts.insert.Goals as goal

pub returns-in-Some-clause-lacking : goal.returns-in-Some-clause-lacking
returns-in-Some-clause-lacking c =
    let a = c.args in
    let h = c.in-Some.ensures in
    of_error c.append.result (inl (last_free a.at (length a.bytes.now) a.given.now.entries a.self.now h.given h.some h.dry))
