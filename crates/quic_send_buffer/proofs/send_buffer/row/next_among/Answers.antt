use Rattle.std.proofs.Common.{◌≤◌, refl, ap, ◌∙◌, inl, inr, arith, rules, of_calls, leb, length}
use Rattle.std.specs.Option.{option_copied}
use Rattle.std.proofs.lemmas.Bool.{cases_lt, false≢true}
use Rattle.std.proofs.lemmas.Fn.{always_returns_same}
use Rattle.quic_send_buffer.specs.KeptBytes.{end_of}
use Rattle.quic_send_buffer.proofs.Kept.Order.{IsPoint, at_point, past_point}
use Rattle.quic_send_buffer.proofs.send_buffer.row.next_among.Goals as goal

pub returns : goal.returns
returns c =
    let ss = c.args.stretches.now.items in
    let i = c.partition_point-index.result in
    let point : IsPoint c.args.at i ss = c.partition_point-index.ensures.partitioned (λ s. leb (end_of s) c.args.at) (always_returns_same _ _ _ (λ a r f k. search (rules, of_calls))) c.requires in
    let found = c.in_ok-get.ensures.variant.0 refl in
    at_point c.args.at i ss c.in_ok-get.field-0.now point (omega (arith, found)) c.in_ok-get.ensures.lookup

pub returns-in_err-get : goal.returns-in_err-get
returns-in_err-get c =
    let ss = c.args.stretches.now.items in
    let i = c.partition_point-index.result in
    let point : IsPoint c.args.at i ss = c.partition_point-index.ensures.partitioned (λ s. leb (end_of s) c.args.at) (always_returns_same _ _ _ (λ a r f k. search (rules, of_calls))) c.requires in
    let past : length ss ≤ i = elim (cases_lt i (length ss)) [
      | inl lt ↦ absurd (false≢true (c.in_err-get.ensures.variant.1 (omega (arith, lt))))
      | inr le ↦ le
    ] in
    ap option_copied c.from_residual.ensures ∙ past_point c.args.at i ss point past
