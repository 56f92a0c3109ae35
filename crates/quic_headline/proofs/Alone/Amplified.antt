-- While the address of its peer isn't validated, an end gives no more than three times the bytes
-- that were handed to it from there, whatever they are: it asks before each datagram, which has no
-- more than the current size.
use Rattle.std.proofs.Common.{◌≡◌, ◌⊎◌, ℕ, ◌+◌, ◌-◌, ◌*◌, ◌<◌, ◌≤◌, ◌^◌, Bool, true, false, not, ◌&&◌, ◌==◌, List, [], ◌∷◌, ◌++◌, length, Option, Some, None, Result, Ok, Err, refl, sym, ap, ◌∙◌, subst, inl, inr, arith}
use Rattle.std.specs.Prelude.{nat_lt, sum_by, option_map, if◌then◌else◌}
use Rattle.std.specs.List.{list_any}
use Rattle.std.proofs.lemmas.Bool.{eq-eqb, ltb-false, both_ways, or_parts, and_parts}
use Rattle.std.proofs.lemmas.List.{append-nil}
use Rattle.std.proofs.lemmas.List.Sums.{sum_by-cons}
use Rattle.quic_wire_core.specs.declared.stream_id.Side.{Side}
use Rattle.quic_wire_core.specs.declared.stream_id.Side.TheVariants.{Client, Server}
use Rattle.quic_wire.specs.Value.{FrameValue}
use Rattle.quic_packet.specs.Keys.{KeepsLength, AddsTag}
use Rattle.quic_packet.proofs.Opening.{sent_length}
use Rattle.quic_time.specs.Clocks.{saturated}
use Rattle.quic_parameters.specs.Parameters.{ParameterValues}
use Rattle.quic_parameters.specs.declared.transport_parameters.id.TransportParameterId.TheVariants.{MaxUdpPayloadSize}
use Rattle.quic_parameters.specs.ParametersRead.{parameters_at}
use Rattle.quic_parameters.specs.declared.transport_parameters.error.TransportParametersError.{TransportParametersError}
use Rattle.quic_config.specs.Transport.{Settings, IsInRange, TransportSettings, transport_of}
use Rattle.quic_congestion.specs.Pacer.{Pacing}
use Rattle.quic_spaces.specs.Numbers.{cut_against}
use Rattle.quic_machine.specs.declared.answers.Transmit.{Transmit}
use Rattle.quic_machine.specs.declared.run.Call.{Call}
use Rattle.quic_machine.specs.declared.run.Call.TheVariants as calls
use Rattle.quic_machine.specs.declared.run.Answer.{Answer}
use Rattle.quic_machine.specs.declared.run.Answer.TheVariants as answers
use Rattle.quic_machine.specs.Policy.{Policy}
use Rattle.quic_machine.specs.Closing.{ticked, close_owed}
use Rattle.quic_machine.specs.Control.{Control, with_pacing}
use Rattle.quic_machine.specs.Heard.{Heard}
use Rattle.quic_machine.specs.Parts.{Windows, current_mtu}
use Rattle.quic_machine.specs.Ids.{Ids}
use Rattle.quic_machine.specs.End.{End, side_of, with_closing, with_window, closed_by, number_of, new_end, IsMade}
use Rattle.quic_machine.specs.Validation.{is_blocked, with_blocked}
use Rattle.quic_machine.specs.Poll.{Polled, Draft, Leaving, whole, alone, probe, nothing, close_room, fitted, can_close, close_to_go, bounds, goes, goes_as, payload_of, datagram_of, datagram_size, draft_as, polled}
use Rattle.quic_machine.specs.Poll as poll
use Rattle.quic_machine.specs.PollCases.{ready_at, draft_at, ready_leaves, ready_closes_not, may_leave_at, bounds_none, by_poll_to, given_as, gives_as, composes}
use Rattle.quic_machine.specs.DraftLaws.{MayLeave, width_few}
use Rattle.quic_machine.specs.CallCases.{is_delivery}
use Rattle.quic_machine.specs.Migration.{is_client, has_moved}
use Rattle.quic_machine.specs.Machine.{IsAnswer, IsLeft, IsHeard, heard_by, tells, gives, gave, fails, after_call, reads_window, pacing_left, end_left}
use Rattle.quic_headline.specs.Runs.{Packet, bytes_in_call}
use Rattle.quic_headline.specs.Observer.{Route, route_behind, serves}
use Rattle.quic_headline.specs.Allowance.{is_from, first_size}
use Rattle.quic_headline.specs.Alone.{Lone, IsLoneStep, IsNew, GivesAlone}
use Rattle.quic_headline.specs.LoneAcks.{and_call}
use Rattle.quic_headline.specs.Amplification.{LoneAllowance, news_of, left_behind, lone_told, lone_allowance, no_lone_allowance, StaysThreefold}
use Rattle.quic_headline.proofs.Packets.Acking.{acks_first}
use Rattle.quic_headline.proofs.Packets.CloseForms.{close_small}
use Rattle.quic_headline.proofs.Packets.Closes.{by_closes}
use Rattle.quic_headline.proofs.Packets.Given.{draft_number, number_small}
use Rattle.quic_headline.proofs.Packets.Searches.{ready_size}
use Rattle.quic_headline.proofs.Packets.Watching.{IsRoute}
use Rattle.quic_headline.proofs.Places.Steps.{poll_answer}
use Rattle.quic_headline.proofs.Halves.Counts.{read_in_range}
use Rattle.quic_headline.proofs.Isolated.Validated.{IsValidated, call_validated}
use Rattle.quic_headline.proofs.Steps.Probing.{probe_goes}
use Rattle.quic_headline.proofs.Steps.Probes.{begun}
use Rattle.quic_headline.proofs.Held.Bytes.{came_behind, went_behind, gives_this, first_given, from_there, from_same, Counts, call_counts}
use Rattle.quic_headline.proofs.Held.Silent.{may_not_go}
use Rattle.quic_headline.proofs.Alone.Kept.{KeptAt, call_kept, kept_first}
use Rattle.quic_headline.proofs.Alone.ShortIds.{AreShort, call_short}
use Rattle.quic_headline.proofs.Alone.Between.{IsBetween, call_between, first_between}
use Rattle.quic_headline.proofs.Alone.ShortCloses.{OwesShort, error_owes, close_fits, call_owes}
use Rattle.quic_headline.proofs.Alone.Lengths.{IsRoomy, whole_size, alone_size, close_size}
use Rattle.quic_headline.proofs.Alone.Sides.{side_call}
use Rattle.quic_headline.proofs.Alone.Taken.{Knows, call_knows}
use Rattle.quic_headline.proofs.Alone.Acked.{gives_count}
use Rattle.quic_headline.proofs.Alone.Routed.{route_quiet, call_leads}

off : (b : Bool) → (b ≡ true → ⊥) → b ≡ false
off true never = absurd (never refl)
off false never = refl

-- ---- what an end keeps

module _ (t : TransportSettings) where
  -- by which its datagrams have room
  pub record Keeps (e : End) : Type 0 where
    pub kept : KeptAt t e
    pub ids : AreShort e.ids.peer
    pub size : IsBetween 1200 e
    pub owes : OwesShort e

  call_keeps : (p : Policy) (e : End) (theirs : List (List ℕ)) (call : Call) (a : Answer) → Keeps e → Keeps (after_call p e theirs call a)
  call_keeps p e theirs call a k = record {
    kept = call_kept t p e theirs call a k.kept;
    ids = call_short p e theirs call a k.ids;
    size = call_between 1200 p e theirs call a k.size;
    owes = call_owes p e theirs call a k.owes;
  }

  -- whatever a call reads
  reads_keeps : (control : Control) (heard : Heard) (call : Call) (e : End) → Keeps e → Keeps (reads_window control heard call e)
  reads_keeps control heard (calls.Poll now) e k = record { kept = k.kept; ids = k.ids; size = k.size; owes = k.owes }
  reads_keeps control heard call e k = k

  roomy : (e : End) → 1200 ≤ t.min_mtu → Keeps e → IsRoomy e
  roomy e least k = record { id = k.ids.used; size = k.size.size; least = subst (λ (s : TransportSettings). 1200 ≤ s.min_mtu) (sym k.kept.same) least; few = k.kept.numbers.few }

-- at the start, where the peer takes 1200 bytes
keeps_first : (s : Settings) (range : IsInRange s) (side : Side) (windows : Windows) (theirs : ParameterValues) (own_id peer_id : List ℕ) (remote now : ℕ) (validated : Bool) (words : ℕ → ℕ) → length peer_id ≤ 20 → 1200 ≤ theirs.max_udp_payload_size
    → Keeps (transport_of s) (new_end side s windows theirs own_id peer_id remote now validated words)
keeps_first s range side windows theirs own_id peer_id remote now validated words short takes = record {
  kept = kept_first s side windows theirs own_id peer_id remote now validated words;
  ids = record { used = short; later = λ c i. absurd i };
  size = (
      let initial = range.bounds.initial in
      first_between 1200 (transport_of s) theirs.max_udp_payload_size (omega arith) range.bounds.least takes range.search);
  owes = owes validated;
}
  where
    owes : (b : Bool) → OwesShort (new_end side s windows theirs own_id peer_id remote now b words)
    owes true f is = cc
    owes false f is = cc

-- the parameters of the peer say that it does (RFC 9000, section 18.2)
made_keeps : (e : End) (new : IsNew e) → IsInRange new.settings → length new.peer_id ≤ 20 → Keeps (transport_of new.settings) e
made_keeps e new range short = go (parameters_at new.parameters) refl new.made
  where
    go : (r : Result ParameterValues TransportParametersError) → parameters_at new.parameters ≡ r → IsMade new.side new.settings new.windows r new.own_id new.peer_id new.remote new.moment new.validated new.words e → Keeps (transport_of new.settings) e
    go (Ok theirs) is made = subst (Keeps (transport_of new.settings)) (sym made) (keeps_first new.settings range new.side new.windows theirs new.own_id new.peer_id new.remote new.moment new.validated new.words short (read_in_range new.parameters theirs is MaxUdpPayloadSize).0)
    go (Err error) is made = absurd made

-- ---- a poll

-- a poll gives nothing, or more may go, and it has no more bytes than the current size
abbrev GivesLittle : End → List (List ℕ) → Type 0
GivesLittle e ds = (sum_by length ds ≡ 0) ⊎ ((e.path.blocked ≡ false) × (sum_by length ds ≤ current_mtu e.path))

module _ (p : Policy) (hides : KeepsLength p.header.hide) (tags : AddsTag p.packet.seal) where
  -- a datagram has as many bytes as is said of it
  long : (d : Draft) → number_of d.end - cut_against d.end.numbers < 2 ^ 31 → length (datagram_of p d) ≡ datagram_size d
  long d near =
      let sent = sent_length p.header p.packet hides tags (number_of d.end) (cut_against d.end.numbers) d.end.ids.peer.id (payload_of d) near in
      omega arith

  one_given : (d : Draft) (most : ℕ) → number_of d.end - cut_against d.end.numbers < 2 ^ 31 → datagram_size d ≤ most → sum_by length (datagram_of p d ∷ []) ≤ most
  one_given d most near small =
      let all = sum_by-cons length (datagram_of p d) [] in
      let same = long d near in
      omega (arith, all, same, small)

  -- the close of an end that closes, or is closing
  close_little : (e x : End) → x.path.blocked ≡ e.path.blocked → current_mtu x.path ≡ current_mtu e.path → IsRoomy x → OwesShort x → GivesLittle e (given_as (poll.closes p x).answer (poll.closes p x).datagram)
  close_little e x blocked size roomy owes = by_closes p x (λ (q : Polled). GivesLittle e (given_as q.answer q.datagram)) (inl refl) (λ f goes. inr (
    sym blocked ∙ free f goes,
    subst (λ (n : ℕ). sum_by length (datagram_of p (draft_as (poll.closing f) x) ∷ []) ≤ n) size
        (one_given (draft_as (poll.closing f) x) (current_mtu x.path) (close_small p x f goes).1 (close_size x roomy f (close_fits p x f enough owes goes))),
  ))
    where
      enough : 34 ≤ close_room x
      enough =
          let width = width_few (number_of x - cut_against x.numbers) in
          let short = roomy.id in
          let size = roomy.size in
          omega (arith, width, short, size)

      -- where nothing more may go, no close does
      free : (f : FrameValue) → close_to_go p x ≡ Some f → x.path.blocked ≡ false
      free f goes = off x.path.blocked (λ is.
          let none : close_to_go p x ≡ None = ap (λ (b : Bool). if not b && can_close p x then option_map (fitted (close_room x)) (close_owed x.closing) else None) is in
          let clash : ◌≡◌ {A = Option FrameValue} None (Some f) = sym none ∙ goes in
          cc)

  module _ (e : End) (now : ℕ) (roomy : IsRoomy e) (unvalidated : e.path.validated ≡ false) where
    abbrev readied : End
    readied = (ready_at e now).end

    ready_roomy : IsRoomy readied
    ready_roomy =
        let left = ready_leaves e now in
        record {
          id = subst (λ (ids : Ids). length ids.peer.id ≤ 20) (sym (ap (λ (y : End). y.ids) left)) roomy.id;
          size = subst (λ (n : ℕ). 1200 ≤ n) (sym (ready_size e now)) roomy.size;
          least = subst (λ (s : TransportSettings). 1200 ≤ s.min_mtu) (sym (ap (λ (y : End). y.transport) left)) roomy.least;
          few = subst (λ (n : ℕ). n ≤ 64) (sym (ap (λ (y : End). length y.acknowledging.runs) left)) roomy.few;
        }

    -- what goes of an open end has no more than the current size: to an address that isn't validated
    -- goes no probe of a size
    draft_small : goes (ready_at e now) ≡ true → datagram_size (draft_at e now) ≤ current_mtu readied.path
    draft_small some = go (ready_at e now).leaving refl (may_leave_at e now)
      where
        go : (leaving : Leaving) → (ready_at e now).leaving ≡ leaving → MayLeave leaving readied → datagram_size (draft_as leaving readied) ≤ current_mtu readied.path
        go whole is may = whole_size readied ready_roomy may
        go alone is may = alone_size readied ready_roomy may
        go (poll.closing f) is may = absurd (ready_closes_not e now f is)
        go (probe n) is may = absurd (both_ways e.path.validated unvalidated (and_parts (begun e now).path.validated _ (probe_goes e now n is).may).0)
        go (nothing held) is may = absurd (both_ways (goes (ready_at e now)) (ap goes_as is) some)

    draft_near : bounds p e ≡ None → number_of (draft_at e now).end - cut_against (draft_at e now).end.numbers < 2 ^ 31
    draft_near bound =
        let may = may_leave_at e now in
        let numbers : (draft_at e now).end.numbers ≡ e.numbers = (composes (ready_at e now).leaving readied may).numbers ∙ ap (λ (y : End). y.numbers) (ready_leaves e now) in
        let number : number_of (draft_at e now).end ≡ number_of e = draft_number (ready_at e now).leaving readied may ∙ ap (λ (y : End). number_of y) (ready_leaves e now) in
        rw (number, numbers) (number_small e.filter e.numbers (bounds_none p e bound).0).1

    poll_little : OwesShort e → GivesLittle e (given_as (polled p e now).answer (polled p e now).datagram)
    poll_little owes = by_poll_to p e now (λ (q : Polled). GivesLittle e (given_as q.answer q.datagram)) (record {
      silent = inl refl;
      failed = inl refl;
      nothing = λ is none. inl refl;
      repeats = λ is. close_little e (with_closing e (ticked e.closing now)) refl refl (record { id = roomy.id; size = roomy.size; least = roomy.least; few = roomy.few }) owes;
      closes = λ reason bound. close_little e (closed_by reason readied) (ap (λ (y : End). y.path.blocked) (ready_leaves e now)) (ready_size e now)
          (record { id = ready_roomy.id; size = ready_roomy.size; least = ready_roomy.least; few = ready_roomy.few }) (error_owes reason readied);
      gives = λ is bound some. inr (
        off e.path.blocked (λ blocked. both_ways (goes (ready_at e now)) (ap goes (may_not_go e now blocked)) some),
        subst (λ (n : ℕ). sum_by length (datagram_of p (draft_at e now) ∷ []) ≤ n) (ready_size e now) (one_given (draft_at e now) (current_mtu readied.path) (draft_near bound) (draft_small some)),
      );
    })

-- ---- what may go

-- where more may go, one more datagram of the current size comes to no more than three times what
-- was counted
may_go : (e : End) (h : Heard) → e.path.validated ≡ false → is_blocked e h ≡ false → h.sent + current_mtu e.path ≤ saturated (3 * h.received)
may_go e h unvalidated free =
    ltb-false (saturated (3 * h.received)) (h.sent + current_mtu e.path) (ap (λ (b : Bool). not b && nat_lt (saturated (3 * h.received)) (h.sent + current_mtu e.path)) (sym unvalidated) ∙ free)

-- so it is of what came and went, which 64 bits hold then
goes_within : (came counted_came given counted_given size mtu : ℕ) → counted_came ≡ saturated came → counted_given ≡ saturated given → 0 < mtu → size ≤ mtu → counted_given + mtu ≤ saturated (3 * counted_came) → given + size ≤ 3 * came
goes_within came counted_came given counted_given size mtu received sent some few within = omega (arith, received, sent, some, few, within)

-- ---- one call behind another

-- no more than three times, where nothing goes, or what goes is within the allowance
few_counted : (changed from given : Bool) (size n came went : ℕ) → (changed ≡ false → given ≡ true → went + n ≤ 3 * came) → (changed ≡ false → went ≤ 3 * came) → went_behind changed given n went ≤ 3 * came_behind changed from size came
few_counted true from given size n came went one none = omega arith
few_counted false true true size n came went one none = let most = one refl refl in omega (arith, most)
few_counted false false true size n came went one none = let most = one refl refl in omega (arith, most)
few_counted false true false size n came went one none = let most = none refl in omega (arith, most)
few_counted false false false size n came went one none = let most = none refl in omega (arith, most)

-- of what is given where one datagram goes at most, the first goes
left_is : (b : Bool) (ds more : List (List ℕ)) → length ds ≡ (if b then 1 else 0) → left_behind b (ds ++ more) ≡ more
left_is true [] more one = absurd (omega (arith, one))
left_is true (d ∷ []) more one = refl
left_is true (c ∷ d ∷ ds) more one = absurd (omega (arith, one))
left_is false [] more none = refl
left_is false (d ∷ ds) more none = absurd (omega (arith, none))

first_most : (b : Bool) (ds more : List (List ℕ)) → b ≡ true → length ds ≡ (if b then 1 else 0) → first_size (ds ++ more) ≤ sum_by length ds
first_most true [] more is one = absurd (omega (arith, one))
first_most true (d ∷ ds) more is one = let sum = sum_by-cons length d ds in omega (arith, sum)
first_most false ds more is one = cc

-- what counts for a path behind a call, where it changes or doesn't
abbrev counted_by : Bool → Bool → Policy → List (List ℕ) → Call → Answer → LoneAllowance → LoneAllowance
counted_by changed server p theirs call a l =
    let packets = and_call p theirs call a l.packets in
    record {
      packets = packets;
      route = route_behind server l.packets (news_of l.packets packets) call l.route;
      left = left_behind (gave a) l.left;
      came = came_behind changed (is_from l.route call) (bytes_in_call theirs call a) l.came;
      went = went_behind changed (gave a) (first_size l.left) l.went;
    }

told_parts : (server : Bool) (p : Policy) (theirs : List (List ℕ)) (call : Call) (a : Answer) (l : LoneAllowance)
    → lone_told server p theirs call a l ≡ counted_by (not ((route_behind server l.packets (news_of l.packets (and_call p theirs call a l.packets)) call l.route).generation == l.route.generation)) server p theirs call a l
told_parts server p theirs call a l = go (not (route.generation == l.route.generation))
  where
    packets : List Packet
    packets = and_call p theirs call a l.packets

    route : Route
    route = route_behind server l.packets (news_of l.packets packets) call l.route

    size : ℕ
    size = bytes_in_call theirs call a

    go : (b : Bool) → (if b then record { packets = packets; route = route; left = left_behind (gave a) l.left; came = size; went = 0 }
        else record { packets = packets; route = route; left = left_behind (gave a) l.left; came = l.came + (if is_from l.route call then size else 0); went = l.went + (if gave a then first_size l.left else 0) })
        ≡ counted_by b server p theirs call a l
    go true = refl
    go false = refl

module _ (p : Policy) (hides : KeepsLength p.header.hide) (tags : AddsTag p.packet.seal) (server : Bool) (theirs : List (List ℕ)) (t : TransportSettings) (least : 1200 ≤ t.min_mtu) where
  -- what holds of an end where so much counts for its path, and which gives these datagrams yet
  record Holds (x : Lone) (l : LoneAllowance) (ds : List (List ℕ)) : Type 0 where
    keeps : Keeps t x.end
    knows : Knows ⊥ l.packets x.end
    side : not (is_client (side_of x.end)) ≡ server
    route : IsRoute l.route x.end.path
    left : l.left ≡ ds
    received : x.heard.received ≡ saturated l.came
    sent : x.heard.sent ≡ saturated l.went
    within : x.end.path.validated ≡ false → l.went ≤ 3 * l.came

  -- a poll gives no more than may go
  polled_within : (x : Lone) (now : ℕ) (a : Answer) (l : LoneAllowance) (ds : List (List ℕ)) → IsAnswer p (reads_window x.control x.heard (calls.Poll now) x.end) theirs (calls.Poll now) a → fails a ≡ false → x.end.path.validated ≡ false → Holds x l ds
      → l.went + sum_by length (gives p (reads_window x.control x.heard (calls.Poll now) x.end) (calls.Poll now) a) ≤ 3 * l.came
  polled_within x now a l ds is served not_yet h = few (subst (GivesLittle e) (sym given) (poll_little p hides tags e now (roomy t e least keeps) not_yet keeps.owes))
    where
      e : End
      e = reads_window x.control x.heard (calls.Poll now) x.end

      keeps : Keeps t e
      keeps = reads_keeps t x.control x.heard (calls.Poll now) x.end h.keeps

      gone : List (List ℕ)
      gone = gives p e (calls.Poll now) a

      given : gone ≡ given_as (polled p e now).answer (polled p e now).datagram
      given = ap (λ (b : Answer). gives p e (calls.Poll now) b) (poll_answer p e now a is served) ∙ gives_as p e now (polled p e now).answer

      few : GivesLittle e gone → l.went + sum_by length gone ≤ 3 * l.came
      few (inl none) = let most = h.within not_yet in omega (arith, none, most)
      few (inr (free, small)) =
          let size = keeps.size.size in
          let some : 0 < current_mtu x.end.path = omega (arith, size) in
          goes_within l.came x.heard.received l.went x.heard.sent (sum_by length gone) (current_mtu x.end.path) h.received h.sent some small (may_go x.end x.heard not_yet free)

  -- and no other call gives anything
  call_within : (x : Lone) (call : Call) (a : Answer) (l : LoneAllowance) (ds : List (List ℕ)) → IsAnswer p (reads_window x.control x.heard call x.end) theirs call a → fails a ≡ false → x.end.path.validated ≡ false → Holds x l ds
      → l.went + sum_by length (gives p (reads_window x.control x.heard call x.end) call a) ≤ 3 * l.came
  call_within x (calls.Poll now) a l ds is served not_yet h = polled_within x now a l ds is served not_yet h
  call_within x call a l ds is served not_yet h = let most = h.within not_yet in omega (arith, most)

  module _ (x next : Lone) (call : Call) (a : Answer) (l : LoneAllowance) (more : List (List ℕ)) (s : IsLoneStep p theirs x call a next) (served : fails a ≡ false) (h : Holds x l (gives p (reads_window x.control x.heard call x.end) call a ++ more)) where
    abbrev e : End
    e = reads_window x.control x.heard call x.end

    abbrev after : End
    after = after_call p e theirs call a

    -- what it gives, and how many bytes the first has that goes
    abbrev gone : List (List ℕ)
    gone = gives p e call a

    abbrev size : ℕ
    size = first_size l.left

    one_gone : length gone ≡ (if gave a then 1 else 0)
    one_gone = gives_count p theirs e call a s.answer

    left_end : next.end ≡ end_left p x.control x.heard x.end theirs call a
    left_end = subst (λ (b : Bool). IsLeft b p x.control x.heard x.end theirs call a next.end) served s.end

    heard : next.heard ≡ heard_by x.end next.end theirs call a x.heard
    heard = subst (λ (b : Bool). IsHeard b x.end next.end theirs call a x.heard next.heard) served s.heard

    -- whatever a call reads
    reads : (P : End → Type 0) → P x.end → ((window : ℕ) (blocked : Bool) → P (with_blocked (with_window x.end window) blocked)) → P e
    reads P same shown = go call
      where
        go : (c : Call) → P (reads_window x.control x.heard c x.end)
        go (calls.Poll now) = shown (x.control []) (is_blocked x.end x.heard)
        go c = same

    knows : Knows ⊥ l.packets e
    knows = (let k = h.knows in reads (Knows ⊥ l.packets) k (λ window blocked. record { acks = k.acks; taken = k.taken; expected = k.expected; owes = k.owes }))

    side : not (is_client (side_of e)) ≡ server
    side = reads (λ (y : End). not (is_client (side_of y)) ≡ server) h.side (λ window blocked. h.side)

    on : IsRoute l.route e.path
    on = reads (λ (y : End). IsRoute l.route y.path) h.route (λ window blocked. h.route)

    -- where its peer is behind the call
    abbrev route : Route
    route = route_behind server l.packets (news_of l.packets (and_call p theirs call a l.packets)) call l.route

    route_next : IsRoute route next.end.path
    route_next = subst (λ (y : End). IsRoute route y.path) (sym left_end) (call_leads ⊥ l.packets p theirs e knows server side l.route on call a s.answer served)

    abbrev changed : Bool
    changed = not (route.generation == l.route.generation)

    changes : has_moved x.end next.end ≡ changed
    changes = ap (λ (n : ℕ). not (n == x.end.path.generation)) route_next.1 ∙ ap (λ (n : ℕ). not (route.generation == n)) h.route.1

    -- the path changes by the delivery of a datagram at most
    still : (is_delivery call ≡ false) ⊎ (a ≡ answers.NoDatagram) → has_moved x.end next.end ≡ false
    still quiet = changes ∙ ap (λ (r : Route). not (r.generation == l.route.generation)) (route_quiet server l.packets p theirs call a l.route quiet) ∙ ap not (eq-eqb l.route.generation l.route.generation refl)

    -- a poll gives as many bytes as it says
    said : (now : ℕ) (u : Transmit) → call ≡ calls.Poll now → a ≡ answers.Poll (Ok (Some u)) → size ≡ u.size
    said now u polls answers_so =
        let answer : answers.Poll (Ok (Some u)) ≡ answers.Poll (polled p met now).answer = sym answers_so ∙ poll_answer p met now a (subst (λ (c : Call). IsAnswer p (reads_window x.control x.heard c x.end) theirs c a) polls s.answer) served in
        let this = gives_this p met now u (let same : (polled p met now).answer ≡ Ok (Some u) = cc in same) in
        ap first_size (h.left
        ∙ ap (λ (c : Call). gives p (reads_window x.control x.heard c x.end) c a ++ more) polls
        ∙ ap (λ (b : Answer). gives p met (calls.Poll now) b ++ more) answers_so)
        ∙ first_given (polled p met now).datagram this.given more this.is
        ∙ this.size
      where
        met : End
        met = reads_window x.control x.heard (calls.Poll now) x.end

    counts : Counts p e x.end next.end theirs [] theirs (append-nil theirs) x.heard l.came l.went size h.received h.sent call a
    counts = call_counts p e x.end next.end theirs [] theirs (append-nil theirs) x.heard l.came l.went size h.received h.sent call a s.answer still said

    -- an address that isn't validated behind a call wasn't before, on the same path
    unvalidated : has_moved x.end next.end ≡ false → next.end.path.validated ≡ false → x.end.path.validated ≡ false
    unvalidated same not_yet = off x.end.path.validated (λ is. both_ways next.end.path.validated not_yet (ap (λ (y : End). y.path.validated) left_end ∙ call_validated p e theirs call a (reads IsValidated is (λ window blocked. is)) stays))
      where
        stays : has_moved e after ≡ false
        stays = ap (λ (n : ℕ). not (after.path.generation == n)) (reads (λ (y : End). y.path.generation ≡ x.end.path.generation) refl (λ window blocked. refl)) ∙ ap (λ (y : End). has_moved x.end y) (sym left_end) ∙ same

    -- what goes is within the allowance
    goes_few : gave a ≡ true → x.end.path.validated ≡ false → l.went + size ≤ 3 * l.came
    goes_few given not_yet =
        let most = call_within x call a l (gone ++ more) s.answer served not_yet h in
        let first : size ≤ sum_by length gone = subst (λ (ds : List (List ℕ)). first_size ds ≤ sum_by length gone) (sym h.left) (first_most (gave a) gone more given one_gone) in
        omega (arith, most, first)

    -- another pacer changes nothing of it
    keeps_paced : (pacing : Pacing) (y : End) → Keeps t y → Keeps t (with_pacing y pacing)
    keeps_paced pacing y k = record { kept = k.kept; ids = k.ids; size = k.size; owes = k.owes }

    knows_paced : (packets : List Packet) (pacing : Pacing) (y : End) → Knows ⊥ packets y → Knows ⊥ packets (with_pacing y pacing)
    knows_paced packets pacing y k = record { acks = k.acks; taken = k.taken; expected = k.expected; owes = k.owes }

    abbrev pacing : Pacing
    pacing = pacing_left (x.control (tells p e theirs call)) call e after

    holds_next : Holds next (lone_told server p theirs call a l) more
    holds_next = subst (λ (m : LoneAllowance). Holds next m more) (sym (told_parts server p theirs call a l)) (record {
      keeps = subst (Keeps t) (sym left_end) (keeps_paced pacing after (call_keeps t p e theirs call a (reads_keeps t x.control x.heard call x.end h.keeps)));
      knows = subst (Knows ⊥ (and_call p theirs call a l.packets)) (sym left_end) (knows_paced (and_call p theirs call a l.packets) pacing after (call_knows ⊥ l.packets p theirs e call a s.answer served (λ never. absurd never) knows));
      side = ap (λ (y : End). not (is_client (side_of y))) left_end ∙ ap (λ (z : Side). not (is_client z)) (side_call p e theirs call a s.answer) ∙ side;
      route = route_next;
      left = ap (left_behind (gave a)) h.left ∙ left_is (gave a) gone more one_gone;
      received = ap (λ (y : Heard). y.received) heard ∙ counts.0
          ∙ ap (λ (b : Bool). saturated (came_behind b (from_there x.end call) (bytes_in_call theirs call a) l.came)) changes
          ∙ ap (λ (b : Bool). saturated (came_behind changed b (bytes_in_call theirs call a) l.came)) (sym (from_same l.route x.end call (sym h.route.0)));
      sent = ap (λ (y : Heard). y.sent) heard ∙ counts.1 ∙ ap (λ (b : Bool). saturated (went_behind b (gave a) size l.went)) changes;
      within = λ not_yet. few_counted changed (is_from l.route call) (gave a) (bytes_in_call theirs call a) size l.came l.went
          (λ same given. goes_few given (unvalidated (changes ∙ same) not_yet))
          (λ same. h.within (unvalidated (changes ∙ same) not_yet));
    })

  -- all of them
  within_left : (x left : Lone) (cs : List Call) (told : List Answer) (ds : List (List ℕ)) (l : LoneAllowance) → GivesAlone p theirs x cs told ds left → list_any fails told ≡ false → Holds x l ds
      → left.end.path.validated ≡ false → (lone_allowance server p theirs cs told l).went ≤ 3 * (lone_allowance server p theirs cs told l).came
  within_left x left [] [] ds l g served h not_yet = h.within (ap (λ (y : Lone). y.end.path.validated) (sym g.1) ∙ not_yet)
  within_left x left [] (b ∷ told) ds l g served h not_yet = absurd g
  within_left x left (c ∷ cs) [] ds l g served h not_yet = absurd g
  within_left x left (c ∷ cs) (b ∷ told) ds l g served h not_yet =
      let both = or_parts (fails b) (list_any fails told) served in
      within_left g.0 left cs told g.1 (lone_told server p theirs c b l) g.4 both.1 (holds_next x g.0 c b l g.1 g.2 both.0 (subst (Holds x l) g.3 h)) not_yet

-- an end as it was made
module _ (e : End) (new : IsNew e) where
  -- it serves or doesn't, took nothing, and has its peer where it was told that it is
  record Begins : Type 0 where
    knows : Knows ⊥ [] e
    side : not (is_client (side_of e)) ≡ serves new.side
    route : IsRoute (record { address = new.remote; generation = 0 }) e.path

  begins : Begins
  begins = go (parameters_at new.parameters) new.made
    where
      served : (side : Side) → not (is_client side) ≡ serves side
      served Client = refl
      served Server = refl

      go : (r : Result ParameterValues TransportParametersError) → IsMade new.side new.settings new.windows r new.own_id new.peer_id new.remote new.moment new.validated new.words e → Begins
      go (Ok theirs) made = record {
        knows = subst (Knows ⊥ []) (sym made) (record { acks = acks_first; taken = λ k has. absurd has; expected = refl; owes = λ never. absurd never });
        side = ap (λ (x : End). not (is_client (side_of x))) made ∙ served new.side;
        route = subst (λ (x : End). IsRoute (record { address = new.remote; generation = 0 }) x.path) (sym made) (refl, refl);
      }
      go (Err error) made = absurd made

pub stays_threefold : (p : Policy) (theirs : List (List ℕ)) (x left : Lone) (calls : List Call) (told : List Answer) (given : List (List ℕ)) → StaysThreefold p theirs x calls told given left
stays_threefold p theirs first left cs told given b hides tags g served not_yet =
    let new = begins first.end b.new in
    within_left p hides tags (serves b.new.side) theirs (transport_of b.new.settings) b.range.bounds.least first left cs told given (no_lone_allowance b.new.remote given) g served (record {
      keeps = made_keeps first.end b.new b.range b.id;
      knows = new.knows;
      side = new.side;
      route = new.route;
      left = refl;
      received = ap (λ (h : Heard). h.received) b.heard;
      sent = ap (λ (h : Heard). h.sent) b.heard;
      within = λ unvalidated. omega arith;
    }) not_yet
