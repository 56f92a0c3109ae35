-- Connection ids (RFC 9000, section 5.1): the own ones that live, and those of the peer that are
-- known.
use Rattle.std.specs.Prelude.{ℕ, ◌+◌, ◌-◌, ◌^◌, Bool, true, false, ◌&&◌, ◌||◌, ◌==◌, not, nat_lt, min, if◌then◌else◌, List, [], ◌∷◌, ◌++◌, map, filter, replicate, set, slice_get, Option, Some, None, option_map, Result, Ok, Err}
use Rattle.std.specs.Int.{w64, to_be_bytes}
use Rattle.std.specs.List.{range_with_len, list_any}
use Rattle.std.specs.declared.ops.Range.{Range}
use Rattle.quic_wire_core.specs.declared.shared.IssuedCid.{IssuedCid}
use Rattle.quic_wire_core.specs.TransportError.{ErrorValue}
use Rattle.quic_wire.specs.Value.{NewConnectionIdValue}
use Rattle.quic_wire.specs.declared.frame.NewConnectionId.{NewConnectionId}
use Rattle.quic_ids.specs.CidState.{OwnIds, initial_ids, after_new, after_retirement, retirement_answer}
use Rattle.quic_ids.specs.CidQueue.{PeerIds, kept_ids, next_after, after_next, after_insert}
use Rattle.quic_ids.specs.declared.cid_queue.InsertError.{InsertError}

-- an id, the number under which it was issued, and the token by which a stateless reset of it is
-- known (section 10.3): the first id has none here, as its token would be a transport parameter
pub record NumberedId : Type 0 where
  pub number : ℕ
  pub id : List ℕ
  pub token : Option (List ℕ)

-- the connection ids of an end: its own ones, and those of its peer (RFC 9000, section 5.1)
pub record Ids : Type 0 where
  -- own ids (section 5.1.1): how many numbers were issued, which of them live, and the ids of
  -- these; whether one was issued or retired since whoever routes datagrams was told so; behind how
  -- many others those wait to be told that were issued for the packet that is read, and are drawn
  -- behind it; and how many may live at once
  pub own : OwnIds
  pub living : List NumberedId
  pub changed : Bool
  pub undrawn : List ℕ
  pub limit : ℕ
  -- the peer's (section 5.1.2): the one in use, and those known behind it
  pub peer : PeerIds

-- how many bytes an own id has
abbrev pub own_id_length : ℕ
own_id_length = 8

-- an id that a datagram may be sent to: one whose bytes a living number has
abbrev pub known : Ids → List (List ℕ)
known ids = map (λ i. i.id) ids.living

-- the id that datagrams are sent to
abbrev pub destination : Ids → List ℕ
destination ids = ids.peer.id

-- the first of numbered ids
abbrev pub own_id : List NumberedId → List ℕ
own_id [] = []
own_id (i ∷ is) = i.id

-- ---- ids are drawn

-- a source of words behind so many of them
abbrev pub words_behind : ℕ → (ℕ → ℕ) → ℕ → ℕ
words_behind drawn words n = words (drawn + n)

-- Three words are an id and the token by which a stateless reset is known (section 10.3): the first
-- is the id, the next two the token, each with its greatest byte first. That they are drawn so is
-- our choice.
abbrev pub drawn_id : (ℕ → ℕ) → ℕ → IssuedCid
drawn_id words n = record { sequence = n; id = to_be_bytes w64 (words 0); reset_token = to_be_bytes w64 (words 1) ++ to_be_bytes w64 (words 2) }

-- how many words each draws
abbrev pub words_of_id : ℕ
words_of_id = 3

-- the ids of several numbers
abbrev pub drawn_ids : (ℕ → ℕ) → List ℕ → List IssuedCid
drawn_ids words [] = []
drawn_ids words (n ∷ ns) = drawn_id words n ∷ drawn_ids (words_behind words_of_id words) ns

-- one that is still to be drawn
abbrev pub undrawn_id : ℕ → IssuedCid
undrawn_id n = record { sequence = n; id = replicate own_id_length 0; reset_token = replicate 16 0 }

-- ---- the ids with which an end begins

-- how many own ids live at once: as many as the peer takes, by its active_connection_id_limit
-- (section 18.2), and no more than an end keeps of its peer's
abbrev pub most_ids : ℕ → ℕ
most_ids limit = min limit kept_ids

-- the numbers of those that are issued at once, behind the first id
abbrev pub later_numbers : ℕ → List ℕ
later_numbers limit = range_with_len 1 (limit - 1)

-- an id with its number and its token
abbrev pub with_number : IssuedCid → NumberedId
with_number cid = record { number = cid.sequence; id = cid.id; token = Some cid.reset_token }

-- both first ids have number 0, and were exchanged before; the later own ones are drawn of these
-- words
abbrev pub first_ids : List ℕ → List ℕ → ℕ → ℕ → (ℕ → ℕ) → Ids
first_ids own theirs limit now words = record {
  own = initial_ids own_id_length None now limit;
  living = record { number = 0; id = own; token = None } ∷ map with_number (drawn_ids words (later_numbers limit));
  changed = true;
  undrawn = [];
  limit = limit;
  peer = record { active = 0; id = theirs; later = [] };
}

-- ---- the peer retires an own id (section 19.16)

-- it lives no more; a number that was never issued changes nothing
abbrev pub retired : ℕ → Ids → Ids
retired n ids = record ids {
  own = after_retirement ids.own n;
  living = filter (λ i. not (i.number == n)) ids.living;
  changed = ids.changed || list_any (λ i. i.number == n) ids.living;
}

-- whether fewer live than may
abbrev pub is_more : Result Bool ErrorValue → Bool
is_more (Ok more) = more
is_more (Err error) = false

-- whether the next one is issued for it: fewer live than may, and a number is left that can be
-- written (section 16)
abbrev pub may_issue : Ids → ℕ → Bool
may_issue ids n = is_more (retirement_answer ids.own n ids.limit) && nat_lt ids.own.issued (2 ^ 62)

-- the answer to a retirement, where this says whether the next one is issued
abbrev pub retired_as : Result Bool ErrorValue → Bool → Result Bool ErrorValue
retired_as (Ok more) issues = Ok issues
retired_as (Err error) issues = Err error

-- the next one is issued, and is still to be drawn; it waits behind so many others to be told
abbrev pub issued_one : ℕ → ℕ → Ids → Ids
issued_one place now ids = record ids {
  own = after_new ids.own (undrawn_id ids.own.issued ∷ []) now;
  living = ids.living ++ with_number (undrawn_id ids.own.issued) ∷ [];
  changed = true;
  undrawn = ids.undrawn ++ place ∷ [];
}

-- ---- ids that were issued for a packet are drawn behind it

-- the own ids that live, and those that wait to be told
pub record Drawing : Type 0 where
  pub living : List NumberedId
  pub waiting : List IssuedCid

-- a number that lives has this id
abbrev pub with_id : IssuedCid → List NumberedId → List NumberedId
with_id cid living = map (λ i. if i.number == cid.sequence then with_number cid else i) living

-- the one that waits behind so many others is drawn
abbrev pub drawn_one : Option IssuedCid → ℕ → (ℕ → ℕ) → Drawing → Drawing
drawn_one None place words d = d
drawn_one (Some cid) place words d = record { living = with_id (drawn_id words cid.sequence) d.living; waiting = set d.waiting place (drawn_id words cid.sequence) }

-- so are all that are still to be, in the order in which they were issued
abbrev pub drawn_places : List ℕ → (ℕ → ℕ) → Drawing → Drawing
drawn_places [] words d = d
drawn_places (place ∷ places) words d = drawn_places places (words_behind words_of_id words) (drawn_one (slice_get d.waiting place) place words d)

-- the own ids that live then
abbrev pub ids_drawn : Drawing → Ids → Ids
ids_drawn d ids = record ids { living = d.living; undrawn = [] }

-- ---- whoever routes datagrams

-- it was told that own ids were issued or retired
abbrev pub routes_told : Ids → Ids
routes_told ids = record ids { changed = false }

-- ---- ids of the peer (section 19.15)

-- what a NEW_CONNECTION_ID frame says
abbrev pub frame_of : NewConnectionIdValue → NewConnectionId
frame_of f = record { sequence = f.sequence; retire_prior_to = f.retire_prior_to; id = f.id; reset_token = f.token }

-- one is taken up
abbrev pub taken_up : NewConnectionId → Ids → Ids
taken_up frame ids = record ids { peer = after_insert ids.peer frame }

-- which numbers are to be retired for one that is taken up, if any are
abbrev pub retires_for : Result (Option (Range ℕ × List ℕ)) InsertError → Result (Option (Range ℕ)) InsertError
retires_for (Ok None) = Ok None
retires_for (Ok (Some r)) = Ok (Some r.0)
retires_for (Err error) = Err error

-- which numbers are to be retired where the next known one is to be used: from that in use on, and
-- below it; none where no other is known
abbrev pub retires_for_next : Ids → Option (Range ℕ)
retires_for_next ids = option_map (λ next. record { start = ids.peer.active; end = next }) (next_after ids.peer)

-- the next known one is used
abbrev pub next_used : Ids → Ids
next_used ids = record ids { peer = after_next ids.peer }
