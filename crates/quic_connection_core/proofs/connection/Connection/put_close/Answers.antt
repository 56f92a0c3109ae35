use Rattle.std.proofs.Common.{◌≡◌, ◌+◌, ◌-◌, ◌*◌, ◌++◌, ℕ, List, length, take, drop, ap, sym, ◌∙◌, arith}
use Rattle.std.proofs.lemmas.List.{append_assoc}
use Rattle.quic_wire.specs.Writing.{spelling}
use Rattle.quic_packet.specs.Datagram.{protected}
use Rattle.quic_packet.specs.Number.{truncated}
use Rattle.quic_packet.specs.Header.{header_bytes}
use Rattle.quic_spaces.specs.Numbers.{cut_against}
use Rattle.quic_machine.specs.Parts.{current_mtu}
use Rattle.quic_machine.specs.Ids.{words_of_id}
use Rattle.quic_machine.specs.End.{number_of, policy_of, words_drawn}
use Rattle.quic_machine.specs.Closing.{close_owed}
use Rattle.quic_machine.specs.Poll.{closing, draft_as, datagram_of, close_room, fitted}
use Rattle.quic_connection_parts.specs.Drawn.{words_of, after_words}
use Rattle.quic_connection_core.proofs.Plain.{may_near, sealed_of}
use Rattle.quic_connection_parts.proofs.Words.{words_left, less_same}
use Rattle.quic_connection_parts.proofs.Flights.{later_flies}
use Rattle.quic_connection_parts.proofs.Closed.{width_some, close_datagram, close_gives_number, close_is, close_owes, if_both, where_some}
use Rattle.quic_connection_core.proofs.connection.Connection.put_close.Goals as goal

pub put_header-requires-clause-number : goal.put_header-requires-clause-number
put_header-requires-clause-number g c =
    let w = c.args.self.now in
    close_gives_number (policy_of g.H.HeaderKey.protection g.K.PacketKey.aead g.K.PacketKey.seal_limit g.K.PacketKey.refusal_limit (words_of g.R.Rng.stream) w) w.end c.requires.goes

pub put_header-requires-clause-room : goal.put_header-requires-clause-room
put_header-requires-clause-room g c =
    let sized = c.self.invariant.2.sized.between.size in
    let same = ap (λ w. current_mtu w.end.path) c.self.view_is in
    let room = c.requires.room in
    omega arith

pub put_close_frame-requires-clause-number : goal.put_close_frame-requires-clause-number
put_close_frame-requires-clause-number g c =
    let w = c.args.self.now in
    close_gives_number (policy_of g.H.HeaderKey.protection g.K.PacketKey.aead g.K.PacketKey.seal_limit g.K.PacketKey.refusal_limit (words_of g.R.Rng.stream) w) w.end c.requires.goes

pub put_close_frame-requires-clause-room : goal.put_close_frame-requires-clause-room
put_close_frame-requires-clause-room g c =
    let width = c.put_header.ensures.width in
    let len = c.put_header.ensures.len in
    let short = c.put_header.ensures.short in
    let capacity = c.put_header.ensures.capacity in
    let sized = c.self.invariant.2.sized.between.size in
    let same = ap (λ w. current_mtu w.end.path) c.self.view_is in
    let room = c.requires.room in
    omega arith

pub seal-requires-clause-start : goal.seal-requires-clause-start
seal-requires-clause-start g c =
    let w = c.args.self.now in
    let owed = close_owes (policy_of g.H.HeaderKey.protection g.K.PacketKey.aead g.K.PacketKey.seal_limit g.K.PacketKey.refusal_limit (words_of g.R.Rng.stream) w) w.end c.requires.goes in
    let form = where_some (close_owed w.end.closing) owed (λ f h. h.1) c.put_close_frame.ensures.form in
    let some = width_some (number_of w.end - cut_against w.end.numbers) in
    let width = c.put_header.ensures.width in
    let len = c.put_header.ensures.len in
    let start = c.len-start.ensures in
    omega (arith, form, some, width, len, start)

pub seal-requires-clause-room : goal.seal-requires-clause-room
seal-requires-clause-room g c =
    let width = c.put_header.ensures.width in
    let len = c.put_header.ensures.len in
    let short = c.put_header.ensures.short in
    let capacity = c.put_header.ensures.capacity in
    let more = c.put_close_frame.ensures.capacity in
    let within = c.put_close_frame.ensures.within in
    let sized = c.self.invariant.2.sized.between.size in
    let same = ap (λ w. current_mtu w.end.path) c.self.view_is in
    let room = c.requires.room in
    omega arith

pub seal-requires-clause-number : goal.seal-requires-clause-number
seal-requires-clause-number g c =
    let w = c.args.self.now in
    let may = close_gives_number (policy_of g.H.HeaderKey.protection g.K.PacketKey.aead g.K.PacketKey.seal_limit g.K.PacketKey.refusal_limit (words_of g.R.Rng.stream) w) w.end c.requires.goes in
    let near = (may_near w.end.numbers (number_of w.end) may).0 in
    let value = c.number-number.ensures.value in
    omega (arith, near, value)

pub allocate-number-requires : goal.allocate-number-requires
allocate-number-requires g c =
    let w = c.args.self.now in
    let may = close_gives_number (policy_of g.H.HeaderKey.protection g.K.PacketKey.aead g.K.PacketKey.seal_limit g.K.PacketKey.refusal_limit (words_of g.R.Rng.stream) w) w.end c.requires.goes in
    let near = (may_near w.end.numbers (number_of w.end) may).0 in
    let same = ap (λ x. number_of x.end) c.self.view_is in
    omega (arith, near, same)

pub invariant_of-self : goal.invariant_of-self
invariant_of-self g c =
    let i = c.self.inside in
    let inv = c.self.invariant in
    rw c.allocate-number.ensures.numbers (inv.0, inv.1, inv.2, later_flies i.path.generation i.space.numbers.next i.filter i.space.tracking.packets i.path.in_flight inv.3, inv.4, inv.5, inv.6)

pub returns-clause-items : goal.returns-clause-items
returns-clause-items g c =
    let w = c.args.self.now in
    let e = w.end in
    let prot = g.H.HeaderKey.protection in
    let aead = g.K.PacketKey.aead in
    let p = policy_of prot aead g.K.PacketKey.seal_limit g.K.PacketKey.refusal_limit (words_of g.R.Rng.stream) w in
    let front : List ℕ = c.args.out.now.items in
    let plain : List ℕ = c.put_close_frame.new.out.items in
    let header : List ℕ = header_bytes e.ids.peer.id (truncated (number_of e) (cut_against e.numbers)) in
    let may = close_gives_number p e c.requires.goes in
    let start : c.len-start.result ≡ length front = c.len-start.ensures ∙ c.args.out.now.ok.0 in
    let seals : c.seal.new.out.items ≡ take (length front) plain ++ protected (prot w.keys.header.local) (aead w.keys.packet.local) (length e.ids.peer.id + 1) (number_of e) (drop (length front) plain)
    = c.seal.ensures.items
    ∙ ap (λ (n : ℕ). take c.len-start.result plain ++ protected (prot w.keys.header.local) (aead w.keys.packet.local) (length e.ids.peer.id + 1) n (drop c.len-start.result plain)) c.number-number.ensures.value
    ∙ ap (λ (n : ℕ). take n plain ++ protected (prot w.keys.header.local) (aead w.keys.packet.local) (length e.ids.peer.id + 1) (number_of e) (drop n plain)) start in
    close_is p e (λ f. c.seal.new.out.items ≡ front ++ datagram_of p (draft_as (closing f) e))
    (if_both (close_owed e.closing) c.put_close_frame.ensures.items c.put_close_frame.ensures.form (λ f put form.
    sealed_of (prot w.keys.header.local) (aead w.keys.packet.local) (λ s bytes. g.met.H.HeaderKey.keeps_length _ s bytes) (number_of e) (cut_against e.numbers) front e.ids.peer.id plain c.seal.new.out.items (spelling (fitted (close_room e) f))
    (may_near e.numbers (number_of e) may).1
    (put ∙ ap (λ (z : List ℕ). z ++ spelling (fitted (close_room e) f)) c.put_header.ensures.items ∙ append_assoc front header (spelling (fitted (close_room e) f)))
    seals
    ∙ ap (λ (z : List ℕ). front ++ z) (close_datagram p e (fitted (close_room e) f) form.0 form.2)))

pub returns-clause-most : goal.returns-clause-most
returns-clause-most g c =
    let width = c.put_header.ensures.width in
    let len = c.put_header.ensures.len in
    let short = c.put_header.ensures.short in
    let within = c.put_close_frame.ensures.within in
    let sealed = c.seal.ensures.len in
    let first = c.len-start.ensures in
    let last = c.len.ensures in
    let sized = c.self.invariant.2.sized.between.size in
    let same = ap (λ w. current_mtu w.end.path) c.self.view_is in
    omega arith

pub returns-clause-random : goal.returns-clause-random
returns-clause-random g c =
    let a = c.allocate-number.ensures in
    let i = c.self.inside in
    let stream = g.R.Rng.stream in
    rw (← c.self.view_is) (ap (λ x. stream x.random) c.count_close.ensures
    ∙ words_left i.filter c.allocate-number.new.self i.space.numbers.next _ (stream i.random) (stream c.allocate-number.new.rng) a.filter a.drawn a.kept
    ∙ ap (λ (k : ℕ). after_words k (stream i.random)) (sym (less_same c.allocate-number.new.self.drawn i.filter.drawn (words_of_id * (i.ids.own.issued - 1 - length i.ids.undrawn)) i.challenges))
    ∙ ap (λ x. after_words (words_drawn x.end - (i.filter.drawn + words_of_id * (i.ids.own.issued - 1 - length i.ids.undrawn) + i.challenges)) (stream i.random)) (sym c.count_close.ensures))
