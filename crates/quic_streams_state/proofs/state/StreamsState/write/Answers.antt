use Rattle.std.proofs.Common.{◌≡◌, ℕ, Bool, true, Result, Err, sym, ap, subst, rules}
use Rattle.quic_streams_parts.specs.declared.answers.WriteError.{WriteError}
use Rattle.quic_streams_state.specs.Parts.{Sending}
use Rattle.quic_streams_state.specs.State.{StreamsState}
use Rattle.quic_streams_state.specs.Writing.{after_write, written_by}
use Rattle.quic_streams_state.proofs.Buffers.{live_lacks}
use Rattle.quic_streams_state.proofs.state.StreamsState.write.Goals as goal

pub returns-in-Err-Memory-clause-lacking : goal.returns-in-Err-Memory-clause-lacking
returns-in-Err-Memory-clause-lacking c = λ e. live_lacks c.args.self.now c.args.id _ (c.in-Err-Memory.ensures.lacking (ap (λ (x : WriteError). let r : Result ℕ WriteError = Err x in r) c.in-Err-Memory.field-0-is))

pub returns-in-Err-clause-new : goal.returns-in-Err-clause-new
returns-in-Err-clause-new c =
    let s : StreamsState = c.args.self.now in
    let is_open : c.args.is_open ≡ true = search rules in
    let told = subst (λ (t : Sending). c.refuse.new.self ≡ (written_by (Err c.refuse.result) (record s { sending = t }) c.args.pending.now c.args.id c.args.bytes.now).state) c.in-Err.ensures.err (c.refuse.ensures.new c.args.bytes.now) in
    subst (λ (b : Bool). c.refuse.new.self ≡ (after_write b (Err c.refuse.result) s c.args.pending.now c.args.id c.args.bytes.now).state) (sym is_open) told

pub returns-in-Err-clause-pending : goal.returns-in-Err-clause-pending
returns-in-Err-clause-pending c =
    let s : StreamsState = c.args.self.now in
    let is_open : c.args.is_open ≡ true = search rules in
    let told = subst (λ (t : Sending). c.refuse.new.pending ≡ (written_by (Err c.refuse.result) (record s { sending = t }) c.args.pending.now c.args.id c.args.bytes.now).pending) c.in-Err.ensures.err (c.refuse.ensures.pending c.args.bytes.now) in
    subst (λ (b : Bool). c.refuse.new.pending ≡ (after_write b (Err c.refuse.result) s c.args.pending.now c.args.id c.args.bytes.now).pending) (sym is_open) told
