-- Connection ids at an end (RFC 9000, section 5.1): what frames about them leave, what is drawn
-- behind a packet, and the change to another id of the peer.
use Rattle.std.specs.Prelude.{◌≡◌, ◌⊎◌, ℕ, Bool, true, false, nat_lt, ◌&&◌, if◌then◌else◌, [], ◌∷◌, ◌++◌, length, Option, Some, None, Result, Ok, Err}
use Rattle.std.specs.declared.ops.Range.{Range}
use Rattle.quic_wire.specs.Value.{NewConnectionIdValue}
use Rattle.quic_retransmits.specs.Retransmits.{after_retire, can_retire, most_retirements}
use Rattle.quic_machine.specs.declared.answers.EndpointEvent.{EndpointEvent}
use Rattle.quic_machine.specs.declared.answers.EndpointEvent.TheVariants as endpoint_events
use Rattle.quic_machine.specs.declared.answers.NextIdError.{NextIdError}
use Rattle.quic_machine.specs.declared.answers.NextIdError.TheVariants as next_errors
use Rattle.quic_machine.specs.declared.run.Answer.{Answer}
use Rattle.quic_machine.specs.declared.run.Answer.TheVariants as answers
use Rattle.quic_machine.specs.Ids.{Drawing, destination, words_behind, undrawn_id, retired, may_issue, issued_one, drawn_places, ids_drawn, routes_told, frame_of, taken_up, retires_for_next, next_used}
use Rattle.quic_machine.specs.End.{End, with_ids, with_frames, words_drawn}
use Rattle.quic_machine.specs.Sizes.{shortened}

-- ---- the id in use changes

-- messages that wait and are too long now don't go any more, where the id in use has more bytes
-- than it had at the end before
abbrev pub fitted : End → End → End
fitted before e = shortened (nat_lt (length (destination before.ids)) (length (destination e.ids))) e

-- RETIRE_CONNECTION_ID of these numbers waits (section 5.1.2)
abbrev pub retiring : Range ℕ → End → End
retiring r e = with_frames e (after_retire e.waiting.frames r.start r.end)

-- the id that a frame brings is taken up
abbrev pub with_taken_up : NewConnectionIdValue → End → End
with_taken_up f e = with_ids e (taken_up (frame_of f) e.ids)

-- ---- the peer retires an own id

-- the next one is issued, and waits to be told (section 5.1.1)
abbrev pub issued : End → End
issued e = with_frames (with_ids e (issued_one (length e.waiting.frames.new_cids) e.closing.clock e.ids))
    (record e.waiting.frames { new_cids = e.waiting.frames.new_cids ++ undrawn_id e.ids.own.issued ∷ [] })

-- the same, where it is to be issued; else nothing changes
abbrev pub issued_if : Bool → End → End
issued_if true e = issued e
issued_if false e = e

-- where so many ids wait to be told, no other is issued: so the peer can't have them pile up by
-- retirements (section 5.1.1 lets an end limit what it issues; the number is our choice)
abbrev pub most_untold : ℕ
most_untold = most_retirements

-- whether the next one is issued for one that is retired: it may be, and fewer wait
abbrev pub issues_for : ℕ → End → Bool
issues_for n e = may_issue e.ids n && nat_lt (length e.waiting.frames.new_cids) most_untold

-- it lives no more, and the next one may be issued for it
abbrev pub after_retired : ℕ → End → End
after_retired n e = issued_if (issues_for n e) (with_ids e (retired n e.ids))

-- ---- behind a packet

-- own ids and those that wait to be told, once those that are still to be drawn were, by words of a
-- source from its first on
abbrev pub drawing : (ℕ → ℕ) → End → Drawing
drawing words e = drawn_places e.ids.undrawn (words_behind (words_drawn e) words) (record { living = e.ids.living; waiting = e.waiting.frames.new_cids })

-- the end then
abbrev pub drawn : (ℕ → ℕ) → End → End
drawn words e = with_frames (with_ids e (ids_drawn (drawing words e) e.ids)) (record e.waiting.frames { new_cids = (drawing words e).waiting })

-- ---- to which end datagrams go (section 5.2)

-- what whoever routes datagrams to ends is told next: that own ids were issued or retired, since it
-- was told so
abbrev pub end_routes : End → Option EndpointEvent
end_routes e = if e.ids.changed then Some endpoint_events.OwnIdsChanged else None

-- the end once it was told
abbrev pub end_after_routed : End → End
end_after_routed e = with_ids e (routes_told e.ids)

-- ---- the next id is used (section 5.1.2)

-- whether it may be: one has to be known, and those before it have to be retired
abbrev pub next_id_allowed : Option (Range ℕ) → End → Result (Unit {0}) NextIdError
next_id_allowed None e = Err next_errors.NoId
next_id_allowed (Some r) e = if can_retire e.waiting.frames r.start r.end then Ok tt else Err next_errors.TooManyPending

-- what is answered, want of memory aside
abbrev pub next_id_answer : End → Result (Unit {0}) NextIdError
next_id_answer e = next_id_allowed (retires_for_next e.ids) e

-- the end that sends to it
abbrev pub next_id_taken : Option (Range ℕ) → End → End
next_id_taken None e = e
next_id_taken (Some r) e = fitted e (retiring r (with_ids e (next_used e.ids)))

-- the end that the call leaves where it may be made: it sends to the next id, if one is known
abbrev pub after_next_id : End → End
after_next_id e = next_id_taken (retires_for_next e.ids) e

-- what the call may be answered: so, or that memory lacks
abbrev pub IsNextIdAnswer : End → Answer → Type 0
IsNextIdAnswer e a = (a ≡ answers.UseNextId (next_id_answer e)) ⊎ (a ≡ answers.UseNextId (Err next_errors.Memory))

-- what it leaves, by its answer: an error changes nothing
abbrev pub end_on_next_id : End → Answer → End
end_on_next_id e (answers.UseNextId (Ok done)) = after_next_id e
end_on_next_id e a = e

-- that memory lacks is said only where retirements would wait
abbrev pub NextIdLacks : End → Answer → Type 0
NextIdLacks e a = a ≡ answers.UseNextId (Err next_errors.Memory) → next_id_answer e ≡ Ok tt
