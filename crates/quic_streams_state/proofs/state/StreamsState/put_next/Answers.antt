use Rattle.std.proofs.Common.{◌≡◌, ◌∙◌, ◌+◌, ◌-◌, ◌++◌, ℕ, true, Some, IsSome, IfSome, sym, ap, subst, rules}
use Rattle.std.specs.Option.{is_some}
use Rattle.quic_wire.specs.Writing.{stream_spelling, width_of}
use Rattle.quic_send_buffer.specs.Buffered.{writes_length}
use Rattle.quic_streams_parts.specs.Table.{at}
use Rattle.quic_streams_parts.specs.SendHalf.{frame_of}
use Rattle.quic_streams_halves.specs.Queued.{counting_at}
use Rattle.quic_streams_state.specs.Sends.{sent_if_counts_in}
use Rattle.quic_streams_state.specs.Frames.{first_in, noted_in}
use Rattle.quic_streams_state.proofs.Going.{on_err}
use Rattle.quic_streams_state.proofs.Putting.{went, sent_then, noted_then, goes_if, some_goes}
use Rattle.quic_streams_state.proofs.state.StreamsState.put_next.Goals as goal

pub returns-in_err-put_if_counts-clause-items : goal.returns-in_err-put_if_counts-clause-items
returns-in_err-put_if_counts-clause-items c =
    let s = c.args.self.now in
    let n = c.in-Some.id in
    let is : first_in s c.args.left ≡ Some n = sym c.next_stream.ensures.next ∙ c.in-Some.is in
    let same : c.size.result ≡ width_of n = c.size.ensures.spelled ∙ ap width_of c.from.ensures in
    let room : c.args.left - (1 + c.size.result) ≡ c.args.left - (1 + width_of n) = ap (λ (k : ℕ). c.args.left - (1 + k)) same in
    λ id g. went s c.args.left n is (λ k r h. c.put_if_counts.new.out.items ≡ c.args.out.now.items ++ stream_spelling (writes_length h.buffer r) (frame_of k h r))
    (subst (λ (r : ℕ). IfSome (counting_at (at s.sending.halves.live n) r) (λ h. c.put_if_counts.new.out.items ≡ c.args.out.now.items ++ stream_spelling (writes_length h.buffer r) (frame_of n h r))) room c.put_if_counts.ensures.items) id g

pub returns-in_err-put_if_counts-clause-lacking : goal.returns-in_err-put_if_counts-clause-lacking
returns-in_err-put_if_counts-clause-lacking c =
    let s = c.args.self.now in
    let n = c.in-Some.id in
    let is : first_in s c.args.left ≡ Some n = sym c.next_stream.ensures.next ∙ c.in-Some.is in
    let same : c.size.result ≡ width_of n = c.size.ensures.spelled ∙ ap width_of c.from.ensures in
    let room : c.args.left - (1 + c.size.result) ≡ c.args.left - (1 + width_of n) = ap (λ (k : ℕ). c.args.left - (1 + k)) same in
    on_err c.from_residual.result (some_goes s c.args.left n is (subst (λ (r : ℕ). IsSome (counting_at (at s.sending.halves.live n) r)) room c.in_err-put_if_counts.ensures.lacking))

pub returns-then-branch-clause-answer : goal.returns-then-branch-clause-answer
returns-then-branch-clause-answer c =
    let s = c.args.self.now in
    let n = c.in-Some.id in
    let is : first_in s c.args.left ≡ Some n = sym c.next_stream.ensures.next ∙ c.in-Some.is in
    let same : c.size.result ≡ width_of n = c.size.ensures.spelled ∙ ap width_of c.from.ensures in
    let room : c.args.left - (1 + c.size.result) ≡ c.args.left - (1 + width_of n) = ap (λ (k : ℕ). c.args.left - (1 + k)) same in
    let some : is_some (counting_at (at s.sending.halves.live n) (c.args.left - (1 + c.size.result))) ≡ true = search rules in
    goes_if s c.args.left n is (subst (λ (r : ℕ). is_some (counting_at (at s.sending.halves.live n) r) ≡ true) room some)

pub returns-then-branch-clause-items : goal.returns-then-branch-clause-items
returns-then-branch-clause-items c =
    let s = c.args.self.now in
    let n = c.in-Some.id in
    let is : first_in s c.args.left ≡ Some n = sym c.next_stream.ensures.next ∙ c.in-Some.is in
    let same : c.size.result ≡ width_of n = c.size.ensures.spelled ∙ ap width_of c.from.ensures in
    let room : c.args.left - (1 + c.size.result) ≡ c.args.left - (1 + width_of n) = ap (λ (k : ℕ). c.args.left - (1 + k)) same in
    λ id g. went s c.args.left n is (λ k r h. c.put_if_counts.new.out.items ≡ c.args.out.now.items ++ stream_spelling (writes_length h.buffer r) (frame_of k h r))
    (subst (λ (r : ℕ). IfSome (counting_at (at s.sending.halves.live n) r) (λ h. c.put_if_counts.new.out.items ≡ c.args.out.now.items ++ stream_spelling (writes_length h.buffer r) (frame_of n h r))) room c.put_if_counts.ensures.items) id g

pub returns-then-branch-clause-state : goal.returns-then-branch-clause-state
returns-then-branch-clause-state c =
    let s = c.args.self.now in
    let n = c.in-Some.id in
    let is : first_in s c.args.left ≡ Some n = sym c.next_stream.ensures.next ∙ c.in-Some.is in
    let same : c.size.result ≡ width_of n = c.size.ensures.spelled ∙ ap width_of c.from.ensures in
    let room : c.args.left - (1 + c.size.result) ≡ c.args.left - (1 + width_of n) = ap (λ (k : ℕ). c.args.left - (1 + k)) same in
    λ id g. sent_then c.args.fair s c.put_if_counts.new.self c.args.left n is
    (subst (λ (r : ℕ). c.put_if_counts.new.self ≡ record s { sending = sent_if_counts_in c.args.fair (at s.sending.halves.live n) s.sending n r }) room c.in_ok-put_if_counts.ensures.state) id g

pub returns-then-branch-clause-sent : goal.returns-then-branch-clause-sent
returns-then-branch-clause-sent c =
    let s = c.args.self.now in
    let n = c.in-Some.id in
    let is : first_in s c.args.left ≡ Some n = sym c.next_stream.ensures.next ∙ c.in-Some.is in
    let same : c.size.result ≡ width_of n = c.size.ensures.spelled ∙ ap width_of c.from.ensures in
    let room : c.args.left - (1 + c.size.result) ≡ c.args.left - (1 + width_of n) = ap (λ (k : ℕ). c.args.left - (1 + k)) same in
    λ id g. noted_then s c.args.left n c.args.sent.now.items c.put_if_counts.new.sent.items is
    (subst (λ (r : ℕ). c.put_if_counts.new.sent.items ≡ noted_in (counting_at (at s.sending.halves.live n) r) n r c.args.sent.now.items) room c.in_ok-put_if_counts.ensures.sent) id g

pub returns-clause-items : goal.returns-clause-items
returns-clause-items c =
    let s = c.args.self.now in
    let n = c.in-Some.id in
    let is : first_in s c.args.left ≡ Some n = sym c.next_stream.ensures.next ∙ c.in-Some.is in
    let same : c.size.result ≡ width_of n = c.size.ensures.spelled ∙ ap width_of c.from.ensures in
    let room : c.args.left - (1 + c.size.result) ≡ c.args.left - (1 + width_of n) = ap (λ (k : ℕ). c.args.left - (1 + k)) same in
    λ id g. went s c.args.left n is (λ k r h. c.put_if_counts.new.out.items ≡ c.args.out.now.items ++ stream_spelling (writes_length h.buffer r) (frame_of k h r))
    (subst (λ (r : ℕ). IfSome (counting_at (at s.sending.halves.live n) r) (λ h. c.put_if_counts.new.out.items ≡ c.args.out.now.items ++ stream_spelling (writes_length h.buffer r) (frame_of n h r))) room c.put_if_counts.ensures.items) id g

pub returns-clause-state : goal.returns-clause-state
returns-clause-state c =
    let s = c.args.self.now in
    let n = c.in-Some.id in
    let is : first_in s c.args.left ≡ Some n = sym c.next_stream.ensures.next ∙ c.in-Some.is in
    let same : c.size.result ≡ width_of n = c.size.ensures.spelled ∙ ap width_of c.from.ensures in
    let room : c.args.left - (1 + c.size.result) ≡ c.args.left - (1 + width_of n) = ap (λ (k : ℕ). c.args.left - (1 + k)) same in
    λ id g. sent_then c.args.fair s c.put_if_counts.new.self c.args.left n is
    (subst (λ (r : ℕ). c.put_if_counts.new.self ≡ record s { sending = sent_if_counts_in c.args.fair (at s.sending.halves.live n) s.sending n r }) room c.in_ok-put_if_counts.ensures.state) id g

pub returns-clause-sent : goal.returns-clause-sent
returns-clause-sent c =
    let s = c.args.self.now in
    let n = c.in-Some.id in
    let is : first_in s c.args.left ≡ Some n = sym c.next_stream.ensures.next ∙ c.in-Some.is in
    let same : c.size.result ≡ width_of n = c.size.ensures.spelled ∙ ap width_of c.from.ensures in
    let room : c.args.left - (1 + c.size.result) ≡ c.args.left - (1 + width_of n) = ap (λ (k : ℕ). c.args.left - (1 + k)) same in
    λ id g. noted_then s c.args.left n c.args.sent.now.items c.put_if_counts.new.sent.items is
    (subst (λ (r : ℕ). c.put_if_counts.new.sent.items ≡ noted_in (counting_at (at s.sending.halves.live n) r) n r c.args.sent.now.items) room c.in_ok-put_if_counts.ensures.sent) id g
