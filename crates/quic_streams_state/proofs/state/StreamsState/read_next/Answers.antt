use Rattle.std.proofs.Common.{◌≡◌, Option, Some, None, Result, Ok, sym, ap, ◌∙◌, rules}
use Rattle.quic_assembler.specs.declared.assembler.Chunk.{Chunk}
use Rattle.quic_streams_parts.specs.declared.answers.ReadError.{ReadError}
use Rattle.quic_streams_parts.specs.Table.{at}
use Rattle.quic_streams_state.proofs.ReadOn.{left_by, read_chunk, read_end, read_error}
use Rattle.quic_streams_state.proofs.state.StreamsState.read_next.Goals as goal

pub returns-in-Ok-Some-clause-new : goal.returns-in-Ok-Some-clause-new
returns-in-Ok-Some-clause-new c =
    let found : at c.args.self.now.receiving.halves.live c.args.id ≡ Some c.in-Some.half.now = search rules in
    let is = c.next.ensures.new ∙ ap (λ (a : Result (Option Chunk) ReadError). left_by a c.args.self.now.receiving c.args.id c.args.max) (c.in-Ok-Some.is ∙ ap (λ (o : Option Chunk). Ok o) c.in-Ok-Some.field-0-is) in
    read_chunk c.args.self.now c.args.id c.args.max c.in-Some.half.now found c.in-Ok-Some.chunk c.next.new.self is

pub returns-in-Ok-None-clause-new : goal.returns-in-Ok-None-clause-new
returns-in-Ok-None-clause-new c =
    let found : at c.args.self.now.receiving.halves.live c.args.id ≡ Some c.in-Some.half.now = search rules in
    let is = c.next.ensures.new ∙ ap (λ (a : Result (Option Chunk) ReadError). left_by a c.args.self.now.receiving c.args.id c.args.max) (c.in-Ok-None.is ∙ ap (λ (o : Option Chunk). Ok o) c.in-Ok-None.field-0-is) in
    c.recv_done-in-Ok-None.ensures ∙ read_end c.args.self.now c.args.id c.args.max c.in-Some.half.now found c.next.new.self is

pub returns-in-Err-clause-new : goal.returns-in-Err-clause-new
returns-in-Err-clause-new c =
    let found : at c.args.self.now.receiving.halves.live c.args.id ≡ Some c.in-Some.half.now = search rules in
    let none : c.in-Some.half.now.reset ≡ None = sym c.reset_code.ensures ∙ c.in_default-reset_code.is in
    let is = c.next.ensures.new ∙ ap (λ (a : Result (Option Chunk) ReadError). left_by a c.args.self.now.receiving c.args.id c.args.max) c.in-Err.is in
    read_error c.args.self.now c.args.id c.args.max c.in-Some.half.now found c.in-Err.error c.next.new.self none c.in-Err.ensures.answer is
