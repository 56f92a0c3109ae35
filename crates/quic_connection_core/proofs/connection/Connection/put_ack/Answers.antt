use Rattle.std.proofs.Common.{◌+◌, ◌≤◌, ◌++◌, length, ap, sym, ◌∙◌, subst}
use Rattle.std.specs.Prelude.{vec_len, vec_capacity}
use Rattle.quic_recovery_core.specs.declared.spaces.pending_acks.TheConstants.{MAX_ACK_RUNS}
use Rattle.quic_wire.specs.Value.{AckValue, ack}
use Rattle.quic_wire.specs.Writing.{spelling, frame_size}
use Rattle.quic_wire.specs.AckView.{counts_view}
use Rattle.quic_spaces.specs.Acknowledging.{ack_at, most_ack_bytes}
use Rattle.quic_spaces.specs.Marks.{told_counts}
use Rattle.quic_machine.specs.Poll.{ack_of}
use Rattle.quic_connection_core.proofs.Marks.{shown_told}
use Rattle.quic_connection_core.proofs.connection.Connection.put_ack.Goals as goal

pub put-requires-clause-room : goal.put-requires-clause-room
put-requires-clause-room g c few =
    let s = c.self.inside.space in
    let told = told_counts (counts_view s.ecn_counters) in
    let shown = shown_told c.as_ref.result c.told_counts-counts.result told c.as_ref.ensures.value c.told_counts-counts.ensures in
    let same = ap (λ counts. ack_at s.acknowledging c.clock-now.result counts) shown ∙ ap (λ now. ack_at s.acknowledging now told) c.clock-now.ensures ∙ ap (λ w. ack_of w.end) c.self.view_is in
    subst (λ (a : AckValue). vec_len c.args.out.now + frame_size (ack a) ≤ vec_capacity c.args.out.now) (sym same)
    (c.requires.room (subst (λ w. length w.end.acknowledging.runs ≤ MAX_ACK_RUNS) c.self.view_is few))

pub returns-clause-items : goal.returns-clause-items
returns-clause-items g c =
    let s = c.self.inside.space in
    let told = told_counts (counts_view s.ecn_counters) in
    let shown = shown_told c.as_ref.result c.told_counts-counts.result told c.as_ref.ensures.value c.told_counts-counts.ensures in
    let same = ap (λ counts. ack_at s.acknowledging c.clock-now.result counts) shown ∙ ap (λ now. ack_at s.acknowledging now told) c.clock-now.ensures ∙ ap (λ w. ack_of w.end) c.self.view_is in
    c.put.ensures.items ∙ ap (λ (a : AckValue). c.args.out.now.items ++ spelling (ack a)) same

pub returns-clause-len : goal.returns-clause-len
returns-clause-len g c =
    let s = c.self.inside.space in
    let told = told_counts (counts_view s.ecn_counters) in
    let shown = shown_told c.as_ref.result c.told_counts-counts.result told c.as_ref.ensures.value c.told_counts-counts.ensures in
    let same = ap (λ counts. ack_at s.acknowledging c.clock-now.result counts) shown ∙ ap (λ now. ack_at s.acknowledging now told) c.clock-now.ensures ∙ ap (λ w. ack_of w.end) c.self.view_is in
    c.put.ensures.len ∙ ap (λ (a : AckValue). vec_len c.args.out.now + frame_size (ack a)) same

pub returns-clause-few : goal.returns-clause-few
returns-clause-few g c =
    let s = c.self.inside.space in
    let told = told_counts (counts_view s.ecn_counters) in
    let shown = shown_told c.as_ref.result c.told_counts-counts.result told c.as_ref.ensures.value c.told_counts-counts.ensures in
    let same = ap (λ counts. ack_at s.acknowledging c.clock-now.result counts) shown ∙ ap (λ now. ack_at s.acknowledging now told) c.clock-now.ensures ∙ ap (λ w. ack_of w.end) c.self.view_is in
    subst (λ (a : AckValue). frame_size (ack a) ≤ most_ack_bytes) same c.put.ensures.most
