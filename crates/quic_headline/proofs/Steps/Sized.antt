-- A datagram that a poll gives has as many bytes as the answer says: at most the current size, or
-- it is a probe of a size; and at most the least size, where it asks while a probe of losses waits.
use Rattle.std.proofs.Common.{◌≡◌, ℕ, suc, ◌+◌, ◌-◌, ◌<◌, ◌≤◌, ◌^◌, min, max, length, replicate, Bool, true, false, Some, Ok, refl, sym, ap, ◌∙◌, subst, ◌⊎◌, inl, inr, arith}
use Rattle.std.specs.Prelude.{◌&&◌, if◌then◌else◌}
use Rattle.std.proofs.lemmas.Bool.{leb-true, lt-ltb, both_ways}
use Rattle.std.proofs.lemmas.List.{length-append, length-replicate}
use Rattle.quic_wire_core.specs.declared.stream_id.Side.{Side}
use Rattle.quic_wire_core.specs.declared.stream_id.Side.TheVariants.{Client, Server}
use Rattle.quic_wire.specs.Writing.{frame_size}
use Rattle.quic_wire.proofs.FrameWritten.{spelling_length}
use Rattle.quic_packet.proofs.Opening.{sent_length}
use Rattle.quic_spaces.specs.Numbers.{cut_against}
use Rattle.quic_machine.specs.declared.run.Call.TheVariants as calls
use Rattle.quic_machine.specs.declared.run.Answer.TheVariants as answers
use Rattle.quic_machine.specs.declared.run.EndView.{EndView}
use Rattle.quic_config.specs.Transport.{TransportSettings}
use Rattle.quic_machine.specs.Parts.{Path, current_mtu}
use Rattle.quic_machine.specs.Tracking.{Tracking}
use Rattle.quic_machine.specs.Validation.{path_waits}
use Rattle.quic_machine.specs.Ids.{Ids}
use Rattle.quic_machine.specs.End.{End, number_of}
use Rattle.quic_machine.specs.Policy.{Policy}
use Rattle.quic_machine.specs.Start.{IsLawful, AreKeys}
use Rattle.quic_machine.specs.Poll.{Draft, beside_frames, most_ordinary, close_room, asking, number_width, overhead, zeros_behind, payload_of, datagram_of, datagram_size, Leaving, whole, alone, probe, nothing, goes_as, goes, least_by, most_of, draft_as, polled, closing}
use Rattle.quic_machine.specs.Machine.{World, Policies, policy_at, end_at}
use Rattle.quic_machine.specs.DraftLaws.{HasRoom, ordinary_within, ordinary_most, width_few}
use Rattle.quic_machine.specs.PollCases.{ready_at, draft_at, ready_leaves, ready_closes_not, may_leave_at, Composes, composes}
use Rattle.quic_headline.specs.Runs.{Run, LeadsTo}
use Rattle.quic_headline.specs.Observer.{Sent, asks_of, watch}
use Rattle.quic_headline.specs.Headline.{IsHonest, IsRun}
use Rattle.quic_headline.specs.Polls.{seen_at, IsMade, GaveOne, IsSizeProbe}
use Rattle.quic_headline.specs.Sizes.{DatagramsAreSized}
use Rattle.quic_headline.proofs.Places.Parties.{with_shown, shown_at}
use Rattle.quic_headline.proofs.Packets.CloseForms.{close_well}
use Rattle.quic_headline.proofs.Packets.Composed.{IsSpellable}
use Rattle.quic_headline.proofs.Packets.Searches.{most_stays, ready_most}
use Rattle.quic_headline.proofs.Packets.Going.{spellable_next}
use Rattle.quic_headline.proofs.Packets.Given.{draft_number, number_small}
use Rattle.quic_headline.proofs.Packets.Group.{PacketsHold}
use Rattle.quic_headline.proofs.Packets.Sight.{Sight}
use Rattle.quic_headline.proofs.Places.Groups.{Way, Nothing, And, Group}
use Rattle.quic_headline.proofs.Places.Together.{Spells}
use Rattle.quic_headline.proofs.Steps.Made.{made_at}
use Rattle.quic_headline.proofs.Steps.Probing.{IsGiving, IsClosing, closing_silent, probe_unprobed, probe_goes}
use Rattle.quic_headline.proofs.Steps.Probing as probing

-- the keys of both ends are lawful
lawful_at : (side : Side) (k : Policies) → AreKeys k → IsLawful (policy_at side k)
lawful_at Client k keys = keys.client
lawful_at Server k keys = keys.server

-- frames that leave room for what stands beside them in so many bytes make a datagram of at most so
-- many, where it need have no more
fits_size : (d : Draft) (most : ℕ) → length d.end.ids.peer.id ≤ 20 → 1200 ≤ most → d.least ≤ most → most_ordinary d.end ≤ most → length d.bytes ≤ most - beside_frames d.end → datagram_size d ≤ most
fits_size d most id wide least ordinary within =
    let long = length-append d.bytes (replicate (zeros_behind d) 0) in
    let zeros : length (replicate {A = ℕ} (zeros_behind d) 0) ≡ zeros_behind d = length-replicate (zeros_behind d) 0 in
    let few = filled (d.end.transport.pad_to_mtu && asking d.frames) in
    omega arith
  where
    filled : (pads : Bool) → max (4 - (number_width d + length d.bytes)) ((if pads then max d.least (most_ordinary d.end) else d.least) - (overhead d + length d.bytes)) + (overhead d + length d.bytes) ≤ most
    filled true = let width = width_few (number_of d.end - cut_against d.end.numbers) in omega arith
    filled false = let width = width_few (number_of d.end - cut_against d.end.numbers) in omega arith

-- what goes is no probe of a size, and no close
abbrev pub IsOrdinary : Leaving → Type 0
IsOrdinary whole = Unit {0}
IsOrdinary alone = Unit {0}
IsOrdinary leaving = ⊥

-- its datagram need have no more than 1200 bytes, those of frames of path validation
ordinary_least : (leaving : Leaving) → IsOrdinary leaving → (pads : Bool) → least_by leaving pads ≤ 1200
ordinary_least whole is true = omega arith
ordinary_least whole is false = omega arith
ordinary_least alone is pads = omega arith
ordinary_least leaving is pads = absurd is

ordinary_most_of : (leaving : Leaving) → IsOrdinary leaving → (e : End) → most_of leaving e ≡ most_ordinary e
ordinary_most_of whole is e = refl
ordinary_most_of alone is e = refl
ordinary_most_of leaving is e = absurd is

-- so it has no more than an ordinary one has at most
pub leaving_size : (e : End) (now : ℕ) → HasRoom e → IsSpellable (ready_at e now) → IsOrdinary (ready_at e now).leaving → datagram_size (draft_at e now) ≤ most_ordinary e
leaving_size e now room form ordinary =
    let few = ordinary_least leaving ordinary (path_waits (ready_at e now).end) in
    let wide = ordinary_most e room.1 room.3 in
    let same = most in
    let within : length d.bytes ≤ most_ordinary d.end - beside_frames d.end = subst (λ (n : ℕ). length d.bytes ≤ n - beside_frames d.end) (ordinary_most_of leaving ordinary d.end) form.within in
    let least = form.least in
    let small = fits_size d (most_ordinary d.end) (subst (λ (x : Ids). length x.peer.id ≤ 20) (sym ids) room.0) (omega arith) (omega arith) (omega arith) within in
    omega arith
  where
    leaving : Leaving
    leaving = (ready_at e now).leaving

    d : Draft
    d = draft_at e now

    c : Composes (ready_at e now).end d.end
    c = composes leaving (ready_at e now).end (may_leave_at e now)

    -- what says how many is that of the end
    most : most_ordinary d.end ≡ most_ordinary e
    most = most_stays (ready_at e now).end d.end (ap (λ (t : Tracking). t.probes) c.tracking) (ap (λ (x : Path). current_mtu x) c.path) c.transport ∙ ready_most e now

    ids : d.end.ids ≡ e.ids
    ids = c.ids ∙ ap (λ (x : End). x.ids) (ready_leaves e now)

-- which is no more than the least size, where a probe of losses waits
few_probed : (e : End) → 0 < e.tracking.probes → most_ordinary e ≤ e.transport.min_mtu
few_probed e waits =
    let is : most_ordinary e ≡ min e.transport.min_mtu (current_mtu e.path) = ap (λ (b : Bool). if b then min e.transport.min_mtu (current_mtu e.path) else current_mtu e.path) (lt-ltb 0 e.tracking.probes waits) in
    omega arith

-- ---- the clause

module _ (H : Way) (s : Spells H) (g : Group Nothing (And (And PacketsHold H) Sight)) (r : Run) (end : World) (honest : IsHonest r) (run : IsRun r end) where
  module _ (side : Side) (i now : ℕ) (gave : GaveOne r side i now) (w next : World) (m : IsMade r i side (calls.Poll now) (answers.Poll (Ok (Some gave.transmit))) w next) (leads : LeadsTo r (suc i) next) where
    abbrev e : End
    e = with_shown (end_at side w) (shown_at side w)

    abbrev p : Policy
    p = policy_at side r.keys

    abbrev d : Draft
    d = draft_at e now

    room : HasRoom e
    room = probing.room H g r end honest run side i now gave w next m

    seen_mtu : (seen_at r side i).current_mtu ≡ current_mtu e.path
    seen_mtu = ap (λ (u : EndView). u.current_mtu) (probing.seen H g r end honest run side i now gave w next m)

    -- a datagram has as many bytes as is said of it
    long : (x : Draft) → number_of x.end - cut_against x.end.numbers < 2 ^ 31 → length (datagram_of p x) ≡ datagram_size x
    long x near =
        let lawful = lawful_at side r.keys honest.keys in
        let sent = sent_length p.header p.packet lawful.width lawful.tag (number_of x.end) (cut_against x.end.numbers) x.end.ids.peer.id (payload_of x) near in
        omega arith

    -- ---- a close

    -- the answer says how many bytes there are, and there are no more than the current size
    closes : IsClosing p e now gave.transmit gave.sent → (gave.transmit.size ≡ gave.sent.size) × (gave.sent.size ≤ (seen_at r side i).current_mtu)
    closes c =
        let x : Draft = draft_as (closing c.close) c.closed in
        let so = close_well p c.closed c.owes c.room c.close c.may in
        let within : frame_size c.close ≤ close_room x.end = leb-true (frame_size c.close) (close_room c.closed) so.well.fits in
        let bytes : length x.bytes ≡ frame_size c.close = spelling_length c.close so.well.form in
        let none : x.least ≡ 0 = refl in
        let wide = c.room.1 in
        let small : datagram_size x ≤ current_mtu c.closed.path = fits_size x (current_mtu c.closed.path) c.room.0 wide (omega arith) (ordinary_within c.closed) (omega arith) in
        let same : gave.sent.size ≡ datagram_size x = ap (λ (s : Sent). s.size) c.sent in
        let mtu = c.mtu in
        let seen = seen_mtu in (
          c.size ∙ long x so.small.1 ∙ sym same,
          omega arith,
        )

    -- ---- what an open end composes

    module _ (gives : IsGiving p e now gave.transmit (polled p e now).end gave.sent) where
      c : Composes (ready_at e now).end d.end
      c = composes (ready_at e now).leaving (ready_at e now).end (may_leave_at e now)

      form : IsSpellable (ready_at e now)
      form =
          let h = probing.h H g r end honest run side i now gave w next m in
          spellable_next s.known s.spelling s.bringing e h.takes.0.0.acks room (s.holds (probing.x H g r end honest run side i now gave w next m) (probing.y H g r end honest run side i now gave w next m) h.gives.0.0 h.gives.0.1) now gives.some

      -- the numbers are those of the end
      numbers : d.end.numbers ≡ e.numbers
      numbers = c.numbers ∙ ap (λ (x : End). x.numbers) (ready_leaves e now)

      number : number_of d.end ≡ number_of e
      number = draft_number (ready_at e now).leaving (ready_at e now).end (may_leave_at e now) ∙ ap (λ (x : End). number_of x) (ready_leaves e now)

      -- the answer says how many bytes there are
      size : gave.transmit.size ≡ gave.sent.size
      size =
          let near : number_of d.end - cut_against d.end.numbers < 2 ^ 31 = rw (number, numbers) (number_small e.filter e.numbers gives.may).1 in
          gives.size ∙ long d near ∙ sym (ap (λ (x : Sent). x.size) gives.sent)

      -- an ordinary one has no more than such a one has at most
      ordinary : (leaving : Leaving) → (ready_at e now).leaving ≡ leaving → IsOrdinary leaving → gave.sent.size ≤ most_ordinary e
      ordinary leaving is kind =
          let small = leaving_size e now room form (subst IsOrdinary (sym is) kind) in
          let same : gave.sent.size ≡ datagram_size d = ap (λ (s : Sent). s.size) gives.sent in
          omega arith

      within : gave.sent.size ≤ most_ordinary e → gave.sent.size ≤ (seen_at r side i).current_mtu
      within small = let most = ordinary_within e in let seen = seen_mtu in omega arith

      -- nothing else goes of it but a probe of a size
      fits : (leaving : Leaving) → (ready_at e now).leaving ≡ leaving → (gave.sent.size ≤ (seen_at r side i).current_mtu) ⊎ IsSizeProbe r side i gave.sent
      fits whole is = inl (within (ordinary whole is tt))
      fits alone is = inl (within (ordinary alone is tt))
      fits (closing f) is = absurd (ready_closes_not e now f is)
      fits (probe n) is = inr (probing.is_probe H g r end honest run side i now gave w next m gives (probe_goes e now n is) leads)
      fits (nothing held) is = absurd (both_ways (goes (ready_at e now)) (ap goes_as is) gives.some)

      -- which doesn't where a probe of losses waits
      least : 0 < (watch r side i).flight.probes → gave.sent.size ≤ (end_at side r.start).transport.min_mtu
      least waits = by_leaving (ready_at e now).leaving refl
        where
          probes : 0 < e.tracking.probes
          probes = subst (λ (n : ℕ). 0 < n) (probing.probes H g r end honest run side i now gave w next m gives) waits

          small : gave.sent.size ≤ most_ordinary e → gave.sent.size ≤ (end_at side r.start).transport.min_mtu
          small ordinary =
              let few = few_probed e probes in
              let settings : e.transport.min_mtu ≡ (end_at side r.start).transport.min_mtu = ap (λ (t : TransportSettings). t.min_mtu) (probing.h H g r end honest run side i now gave w next m).gives.0.0.settings in
              omega arith

          by_leaving : (leaving : Leaving) → (ready_at e now).leaving ≡ leaving → gave.sent.size ≤ (end_at side r.start).transport.min_mtu
          by_leaving whole is = small (ordinary whole is tt)
          by_leaving alone is = small (ordinary alone is tt)
          by_leaving (closing f) is = absurd (ready_closes_not e now f is)
          by_leaving (probe n) is = (let none = probe_unprobed e now n is in absurd (omega (arith, none, probes)))
          by_leaving (nothing held) is = absurd (both_ways (goes (ready_at e now)) (ap goes_as is) gives.some)

  pub datagrams_are_sized : DatagramsAreSized r
  datagrams_are_sized side i now gave =
      let at = made_at (And (And PacketsHold H) Sight) g r end honest run i side (calls.Poll now) (answers.Poll (Ok (Some gave.transmit))) gave.poll gave.served in
      elim (probing.either H g r end honest run side i now gave at.before at.behind at.made) [
        | inl gives ↦ (size side i now gave at.before at.behind at.made at.leads gives, fits side i now gave at.before at.behind at.made at.leads gives (ready_at (e side i now gave at.before at.behind at.made at.leads) now).leaving refl, λ asks waits. least side i now gave at.before at.behind at.made at.leads gives waits)
        | inr close ↦ (
            let both = closes side i now gave at.before at.behind at.made at.leads close in (
              both.0,
              inl both.1,
              λ asks waits. absurd (both_ways (asks_of gave.sent) (closing_silent (policy_at side r.keys) (e side i now gave at.before at.behind at.made at.leads) now gave.transmit gave.sent close) asks),
            ))
      ]
