use Rattle.std.proofs.Common.{[]}
use Rattle.quic_wire.proofs.WorkedForms.{sized_form, unsized_form, three_frames}
use Rattle.quic_wire.proofs.worked.frames_are_spelled.Goals as goal

pub returns-clause-form : goal.returns-clause-form
returns-clause-form c = sized_form []

pub returns-clause-to_end_form : goal.returns-clause-to_end_form
returns-clause-to_end_form c = unsized_form

pub returns-clause-payload : goal.returns-clause-payload
returns-clause-payload c = three_frames
