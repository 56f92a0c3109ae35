use Rattle.std.proofs.Common.{◌≡◌, ℕ, ◌+◌, ◌-◌, Bool, true, false, refl, ap, ◌∙◌, arith}
use Rattle.quic_machine.specs.Parts.{current_mtu}
use Rattle.quic_machine.specs.End.{End, with_number_given, words_drawn}
use Rattle.quic_machine.specs.Idle.{packet_given, packet_given_leaves}
use Rattle.quic_machine.specs.Poll.{Draft, draft_left, datagram_size, paid_if}
use Rattle.quic_connection_parts.specs.Drawn.{words_of, after_words}
use Rattle.quic_connection_parts.specs.Frames.{tracked_as}
use Rattle.quic_connection_parts.specs.Leaving.{leaving_of}
use Rattle.quic_connection_core.proofs.Plain.{same_words}
use Rattle.quic_connection_core.proofs.Polls.{few_bytes}
use Rattle.quic_connection_core.proofs.Probing.{where_ok}
use Rattle.quic_connection_parts.proofs.Told.{told_of_draft}
use Rattle.quic_connection_core.proofs.connection.Connection.put_tracked.Goals as goal

pub overflow_cast-size : goal.overflow_cast-size
overflow_cast-size g c =
    let few = c.current_mtu-most.type_inv in
    let value = c.current_mtu-most.ensures ∙ ap (λ w. current_mtu w.end.path) c.self.view_is in
    let most = few_bytes c.args.leaving c.args.self.now.end (omega (arith, few, value)) c.requires.looked in
    let within = c.in_ok-sent.ensures.within in
    let first = c.len-start.ensures in
    let last = c.len.ensures in
    omega (arith, most, within, first, last)

pub returns-clause-control : goal.returns-clause-control
returns-clause-control g c =
    let w = c.args.self.now in
    let d : Draft = draft_left (leaving_of c.args.leaving) w.end in
    let bytes : ℕ = c.len.result - c.len-start.result + 16 in
    let first = c.len-start.ensures in
    let last = c.len.ensures in
    let sized = c.in_ok-sent.ensures.size in
    let size : bytes ≡ datagram_size d = omega (arith, first, last, sized) in
    where_ok c.track.result _ _ (λ is. told_of_draft g.C.Controller.steps w c.put_plain.new.self d c.in_ok-sent.sent.asks bytes c.track.new.self.control c.in_ok-sent.ensures.end c.in_ok-sent.ensures.asks size is) c.track.ensures.control

-- an end that gives a packet keeps its ids
given_ids : (asks : Bool) (e : End) (size : ℕ) → (packet_given asks (paid_if asks e size)).ids ≡ e.ids
given_ids asks e size = ap (λ (x : End). x.ids) (packet_given_leaves asks (paid_if asks e size)) ∙ paid_ids asks
  where
    paid_ids : (b : Bool) → (paid_if b e size).ids ≡ e.ids
    paid_ids true = refl
    paid_ids false = refl

pub returns-clause-ids : goal.returns-clause-ids
returns-clause-ids g c =
    let z = c.put_plain.new.self in
    let sent = c.in_ok-sent.sent in
    let bytes : ℕ = c.len.result - c.len-start.result + 16 in
    where_ok c.track.result _ _ (λ is. ap (λ (x : End). x.ids) is ∙ given_ids sent.asks (with_number_given (words_of g.R.Rng.stream z.random 0) (tracked_as sent.asks bytes sent.carried z.end)) bytes ∙ c.in_ok-sent.ensures.ids) c.track.ensures.end

pub returns-clause-random : goal.returns-clause-random
returns-clause-random g c =
    let w = c.args.self.now in
    let z = c.put_plain.new.self in
    let stream = g.R.Rng.stream in
    let drawn : words_drawn z.end ≡ words_drawn w.end = ap (λ x. words_drawn x.end) c.in_ok-sent.ensures.end ∙ same_words (leaving_of c.args.leaving) w.end c.requires.due in
    where_ok c.track.result _ _
    (λ is. is ∙ ap (λ (k : ℕ). after_words (words_drawn c.track.new.self.end - k) (stream z.random)) drawn ∙ ap (λ x. after_words (words_drawn c.track.new.self.end - words_drawn w.end) (stream x.random)) c.in_ok-sent.ensures.end)
    c.track.ensures.random
