-- When an ACK frame is due (RFC 9000, sections 13.2.1 and 13.2.2; QUIC Acknowledgement Frequency,
-- sections 4 to 6), as an observer of a run's lists reckons it, and that the next poll gives it.
-- The constants are the observer's own: it reads nothing of an end but what came to it and what it
-- gave.
use Rattle.std.specs.Prelude.{ℕ, suc, ◌+◌, ◌-◌, ◌≡◌, ◌==◌, max, not, nat_lt, nat_le, ◌&&◌, ◌||◌, Bool, true, false, if◌then◌else◌, find, List, [], ◌∷◌, length, drop, slice_get, Option, Some, None, ◌⊎◌}
use Rattle.std.specs.List.{list_any, range_with_len}
use Rattle.quic_wire_core.specs.declared.shared.EcnCodepoint.{EcnCodepoint}
use Rattle.quic_wire_core.specs.declared.shared.EcnCodepoint.TheVariants.{Ce}
use Rattle.quic_wire_core.specs.declared.stream_id.Side.{Side}
use Rattle.quic_wire.specs.Value.{FrameValue, immediate_ack, asks}
use Rattle.quic_machine.specs.declared.answers.Received.TheVariants.{Taken}
use Rattle.quic_machine.specs.declared.answers.State.TheVariants as states
use Rattle.quic_machine.specs.declared.run.Call.{Call}
use Rattle.quic_machine.specs.declared.run.Call.TheVariants as calls
use Rattle.quic_machine.specs.declared.run.Answer.{Answer}
use Rattle.quic_machine.specs.declared.run.Answer.TheVariants as answers
use Rattle.quic_machine.specs.declared.run.View.{View}
use Rattle.quic_machine.specs.Machine.{end_at}
use Rattle.quic_headline.specs.Runs.{Run, Told, Packet, Intake, is_again, state_in, AreServed, folded, until, given_of}
use Rattle.quic_headline.specs.Requested.{Requested, requested}
use Rattle.quic_headline.specs.Observer.{Sent, asks_of, Watch, watch_from, watch, news, is_past, is_timely, Lens, lens_of}
use Rattle.quic_headline.specs.Headline.{IsAt}
use Rattle.quic_headline.specs.Polls.{IsLimited}
use Rattle.quic_headline.specs.Moments.{acknowledges, went, Debt, debt_told, first_debt, first_deadline}
use Rattle.quic_headline.specs.Rest.{Unanswered, unanswered_told, none_unanswered, IsUnacknowledged}

-- ---- what makes one due

-- the greatest number of the packets that ask for an acknowledgement, or 0
abbrev pub greatest_asking : List Packet → ℕ
greatest_asking [] = 0
greatest_asking (p ∷ ps) = if list_any asks p.frames then max p.number (greatest_asking ps) else greatest_asking ps

-- that number, if one of them asks
abbrev pub latest_asking : List Packet → Option ℕ
latest_asking [] = None
latest_asking (p ∷ ps) = if list_any asks p.frames then Some (greatest_asking (p ∷ ps)) else latest_asking ps

-- whether a number between two others is missing, where these came: it isn't one of them, nor would
-- it count as a duplicate for its age
abbrev pub misses : ℕ → ℕ → List ℕ → Bool
misses low high came = list_any (λ n. not (is_again n came)) (range_with_len (low + 1) (high - (low + 1)))

-- the least that is, if one is
abbrev pub least_missing : ℕ → ℕ → List ℕ → Option ℕ
least_missing low high came = find (λ n. not (is_again n came)) (range_with_len (low + 1) (high - (low + 1)))

-- whether a packet that asks comes out of order: its number lies below that of one that asks and
-- was taken before, or above all of them, with numbers missing between (RFC 9000, section 13.2.1)
abbrev pub is_out_of_order : List Packet → List ℕ → Packet → Bool
is_out_of_order taken came p = nat_lt p.number (greatest_asking taken) || misses (greatest_asking taken) p.number came

-- whether a number, if there is one, lies so far below the greatest that its sender takes it for
-- lost, by its reordering threshold
abbrev pub lies_below : Option ℕ → ℕ → ℕ → Bool
lies_below None greatest reordering = false
lies_below (Some n) greatest reordering = nat_le reordering (greatest - n)

-- whether an ACK frame would show so that a missing number is lost: the least that is missing above
-- one less than the threshold below the greatest number that asked as the last one went. That one
-- itself is passed over, though no ACK frame showed it as lost yet (QUIC Acknowledgement Frequency,
-- section 6.2)
abbrev pub shows_lost : Option ℕ → ℕ → ℕ → List ℕ → Bool
shows_lost None reordering greatest came = false
shows_lost (Some acked) reordering greatest came = nat_le reordering acked && lies_below (least_missing (acked - reordering + 1) greatest came) greatest reordering

-- whether it comes farther out of order than the peer lets it: as far as it likes where that is 0
abbrev pub is_too_late : ℕ → Option ℕ → List Packet → List ℕ → Packet → Bool
is_too_late reordering acked taken came p =
    if reordering == 0 then false
    else (if reordering == 1 then is_out_of_order taken came p else shows_lost acked reordering (max p.number (greatest_asking taken)) came)

-- whether a frame is IMMEDIATE_ACK
abbrev pub is_immediate_ack : FrameValue → Bool
is_immediate_ack immediate_ack = true
is_immediate_ack other = false

-- whether a packet makes one due that is taken behind these, by what the peer asked for by then, in
-- the packet itself at the latest: it asks, and brings IMMEDIATE_ACK, or with it more wait than
-- may, or it comes out of order
abbrev pub hastens : Requested → Option ℕ → List Packet → List ℕ → List Packet → Packet → Bool
hastens r acked taken came waiting p = list_any asks p.frames && (list_any is_immediate_ack p.frames || (nat_lt r.threshold (length waiting) || is_too_late r.reordering acked taken came p))

-- whether one does of those that came between two intakes, where the greatest number of those that
-- ask was this at the last ACK frame, and these wait
abbrev pub one_hastens : Option ℕ → Intake → Intake → List Packet → Bool
one_hastens acked before after waiting = list_any (hastens (requested after.took) acked before.took after.opened waiting) (news before after)

-- whether a datagram bears the mark of congestion, CE (RFC 3168, section 5)
abbrev pub is_marked : Option EcnCodepoint → Bool
is_marked (Some Ce) = true
is_marked mark = false

-- whether a packet is taken that bears it
abbrev pub takes_marked : Call → Answer → Bool
takes_marked (calls.Deliver delivery) (answers.Deliver Taken) = is_marked delivery.ecn
takes_marked call a = false

-- the datagrams that are acknowledged in flight between two moments
abbrev pub acked_between : Watch → Watch → List Sent
acked_between before after = drop (length before.flight.acked) after.flight.acked

-- whether a packet is taken that bears the mark, and asks for an acknowledgement, or newly
-- acknowledges a datagram that does: what only acknowledges what needn't be acknowledged is answered
-- by nothing, whatever mark it bears (RFC 9000, section 13.2.1)
abbrev pub takes_urged : Told → Watch → Watch → Bool
takes_urged t before after = takes_marked t.call t.answer && (list_any (λ p. list_any asks p.frames) (news before.intake after.intake) || list_any asks_of (acked_between before after))

-- whether there are some
abbrev pub are_some : List Packet → Bool
are_some [] = false
are_some (p ∷ ps) = true

-- whether a timeout tells an open end, whose clock is this then, that the first of these deadlines
-- has come: no acknowledgement waits longer
abbrev pub waits_out : Told → List ℕ → ℕ → Bool
waits_out t deadlines clock = is_timely t.state t.call && is_past (first_deadline deadlines) clock

-- ---- the observer

-- what isn't answered by an ACK frame, until when it is to be, and whether one is due for it; and
-- the greatest number of the packets that ask, as the last ACK frame went, if there was one
pub record Haste : Type 0 where
  pub known : Unanswered
  pub debt : Debt
  pub due : Bool
  pub acked : Option ℕ

-- whether one is due behind a call: an ACK frame that goes ends it. It becomes due where a packet
-- hastens it, or is urged by its mark, while one that asks waits, or where one has waited as long as
-- it may (RFC 9000, section 13.2.1)
abbrev pub due_behind : Haste → Told → Unanswered → Debt → Bool
due_behind h t after debt =
    if acknowledges (went h.known.watch after.watch) then false
    else h.due || (one_hastens h.acked h.known.watch.intake after.watch.intake after.packets || ((takes_urged t h.known.watch after.watch && are_some after.packets) || waits_out t debt.deadlines after.watch.clock))

-- the greatest number of those that ask, as the last ACK frame went, behind a call
abbrev pub acked_behind : Haste → Unanswered → Option ℕ
acked_behind h after = if acknowledges (went h.known.watch after.watch) then latest_asking after.watch.intake.took else h.acked

-- one call more at the end
abbrev pub haste_told : Lens → Told → Haste → Haste
haste_told l t h =
    let after = unanswered_told l t h.known in
    let debt = debt_told l t h.debt in
    record { known = after; debt = debt; due = due_behind h t after debt; acked = acked_behind h after }

-- nothing came before the first call
abbrev pub no_haste : Watch → Haste
no_haste w = record { known = none_unanswered w; debt = first_debt w; due = false; acked = None }

-- whether an ACK frame is due at an end behind the first so many answers
abbrev pub is_due : Run → Side → ℕ → Bool
is_due r side i = (folded (haste_told (lens_of r side)) (until r side i) (no_haste (watch_from (end_at side r.start) (given_of r side)))).due

-- ---- over a run

-- where one is due, and an acknowledgement is owed, a poll that leaves its end open gives a
-- datagram with an ACK frame, unless nothing more may go to an address that isn't validated; it is
-- one before which, and at which, no delivery, no poll and no timeout met want of memory
abbrev pub AcksAreDue : Run → Type 0
AcksAreDue r = (side : Side) (i now : ℕ) (a : Answer) (v : View) (p : Packet) → AreServed r (suc i) → IsAt r i side (calls.Poll now) a → slice_get r.views i ≡ Some v → state_in v side ≡ states.Open
    → is_due r side i ≡ true → IsUnacknowledged r side i p → (acknowledges (went (watch r side i) (watch r side (suc i))) ≡ true) ⊎ IsLimited r side (suc i) v
