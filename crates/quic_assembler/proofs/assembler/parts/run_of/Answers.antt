use Rattle.std.proofs.Common.{◌≡◌}
use Rattle.quic_assembler.proofs.Parts.Joining.{run_done}
use Rattle.quic_assembler.proofs.assembler.parts.run_of.Goals as goal

pub returns-in_ok-clone-in-None-clause-run : goal.returns-in_ok-clone-in-None-clause-run
returns-in_ok-clone-in-None-clause-run c =
    let e : c.in_ok-clone-in-None.field-0 ≡ c.args.bytes.now = cc (c.in_ok-clone-in-None.ensures.cases) in
    rw e (run_done c.args.end c.args.bytes.now c.args.parts.now c.requires.apart c.requires.small c.in-None.ensures)
