-- A call opens a stream exactly while the greatest count lets it that the peer told: at each place of
-- an honest run.
use Rattle.std.proofs.Common.{◌≡◌, ℕ, ◌+◌, Bool, true, false, length, Option, Some, None, refl, sym, ap, ◌∙◌, arith}
use Rattle.std.specs.Prelude.{nat_lt, if◌then◌else◌}
use Rattle.std.proofs.lemmas.Bool.{ltb-true, ltb-false}
use Rattle.quic_wire_core.specs.declared.stream_id.Side.{Side}
use Rattle.quic_wire_core.specs.declared.stream_id.Dir.{Dir}
use Rattle.quic_wire_core.specs.StreamId.{other_side, stream_id}
use Rattle.quic_streams_parts.specs.Dirs.{of, more}
use Rattle.quic_streams_state.specs.State.{Opening}
use Rattle.quic_streams_state.specs.Opening.{open_answer, opened_next}
use Rattle.quic_machine.specs.declared.run.Call.TheVariants as calls
use Rattle.quic_machine.specs.declared.run.Answer.TheVariants as answers
use Rattle.quic_machine.specs.Calls.{is_open}
use Rattle.quic_machine.specs.Machine.{World, end_at}
use Rattle.quic_headline.specs.Runs.{Run, Intake, until}
use Rattle.quic_headline.specs.Observer.{took}
use Rattle.quic_headline.specs.Headline.{IsHonest, IsRun}
use Rattle.quic_headline.specs.Amounts.{peer_parameters, greatest}
use Rattle.quic_headline.specs.Undone.{opens}
use Rattle.quic_headline.specs.PeerLimits.{first_count, count_in, count_limit, OpensWithin, OpeningIsExact}
use Rattle.quic_headline.proofs.Places.Parties.{Party, came_to}
use Rattle.quic_headline.proofs.Places.Groups.{Way, Nothing, And, Group, both}
use Rattle.quic_headline.proofs.Places.Openings.{took_is}
use Rattle.quic_headline.proofs.Places.Placed.{party_at, Placed, placed, answered}
use Rattle.quic_headline.proofs.Places.Everything as everything
use Rattle.quic_headline.proofs.Places.Theorems.{ready}
use Rattle.quic_headline.proofs.Halves.Ghosts.{IsWriting}
use Rattle.quic_headline.proofs.Halves.Ready.{Ready}
use Rattle.quic_headline.proofs.Halves.Writer.{grows_behind}
use Rattle.quic_headline.proofs.Unread.OpeningIds.{OpensAre, opens_are_group}
use Rattle.quic_headline.proofs.Amounts.PeerLimits.{CountsKnown, counts_group, count_is}

-- the packets and the streams, how many of these an end may open, and which it opened
abbrev Base : Way
Base = And (everything.All Ready ready) CountsKnown

base : Group Nothing Base
base = both Nothing (everything.All Ready ready) CountsKnown (everything.all Ready ready) (counts_group (And Nothing (everything.All Ready ready)) (λ x y h. h.1.0.0))

is_writing : IsWriting (And Nothing Base)
is_writing = record {
  packets = λ x y h. h.1.0.0.0;
  written = λ x y h. h.1.0.0.1.0.writes.keeps.holds;
  says = λ x y h. h.1.0.0.1.0.says;
  grows = λ x y call a c. grows_behind (And Nothing Base) (λ x y h. h.1.0.0.0) x y call a c c.gives.1.0.0.1.0;
}

abbrev pub Known : Way
Known = And Base OpensAre

pub known : Group Nothing Known
known = both Nothing Base OpensAre base (opens_are_group (And Nothing Base) is_writing)

-- what a call is answered where so many are opened
opens_within : (side : Side) (dir : Dir) (o : Opening) (answer : Option ℕ) → answer ≡ (opened_next side dir o).0 → OpensWithin (of dir o.own) (of dir o.own_limit) answer
opens_within side dir o answer so = go (nat_lt (of dir o.own) (of dir o.own_limit)) refl so
  where
    go : (b : Bool) → nat_lt (of dir o.own) (of dir o.own_limit) ≡ b → answer ≡ (if◌then◌else◌ {A = Option ℕ × Opening} b (Some (stream_id side dir (of dir o.own)), record o { own = more dir o.own; sending = o.sending + 1 }) (None, o)).0 → OpensWithin (of dir o.own) (of dir o.own_limit) answer
    go true is some = record { none = λ none. (let clash : ◌≡◌ {A = Option ℕ} (Some (stream_id side dir (of dir o.own))) None = sym some ∙ none in cc); some = λ id at. ltb-true (of dir o.own) (of dir o.own_limit) is }
    go false is none = record { none = λ at. ltb-false (of dir o.own) (of dir o.own_limit) is; some = λ id some. (let clash : ◌≡◌ {A = Option ℕ} None (Some id) = sym none ∙ some in cc) }

pub opening_is_exact : (r : Run) (end : World) → IsHonest r → IsRun r end → OpeningIsExact r
opening_is_exact r end honest run s side i dir answer served opened at = within
  where
    so : IsHonest r
    so = record { start = s; keys = honest.keys; ids = honest.ids }

    p : Placed Known r end side i
    p = placed Known known r end so run side i served

    x : Party
    x = party_at r i p.world side p.sents

    y : Party
    y = party_at r i p.world (other_side side) p.theirs

    same : answer ≡ open_answer (is_open x.end.closing.state) dir x.end.streams
    same = let is : answers.Open answer ≡ answers.Open (open_answer (is_open x.end.closing.state) dir x.end.streams) = answered r p.world end i side (calls.Open dir) (answers.Open answer) p.goes_on at in cc

    here : OpensWithin (of dir x.end.streams.opening.own) (of dir x.end.streams.opening.own_limit) answer
    here = opens_within x.end.streams.side dir x.end.streams.opening answer (same ∙ ap (λ (b : Bool). open_answer b dir x.end.streams) (ap is_open (p.state ∙ opened)))

    came : took r side i ≡ (came_to x y).took
    came = ap (λ (j : Intake). j.took) (took_is r so p.world i side p.sents p.theirs)

    count : of dir x.end.streams.opening.own_limit ≡ count_limit (peer_parameters side r.start s) dir (took r side i)
    count =
        let first : of dir (end_at side r.start).streams.opening.own_limit ≡ first_count (peer_parameters side r.start s) dir = count_is side r.start s dir in
        let counted = p.gives.0.1.counts (p.state ∙ opened) dir in
        let seen : greatest (count_in dir) (took r side i) ≡ greatest (count_in dir) (came_to x y).took = ap (greatest (count_in dir)) came in
        omega arith

    many : length (opens dir (until r side i)) ≡ of dir x.end.streams.opening.own
    many = p.gives.1.are.count dir

    within : OpensWithin (length (opens dir (until r side i))) (count_limit (peer_parameters side r.start s) dir (took r side i)) answer
    within = record { none = λ is. (let le = here.none is in omega (arith, le, many, count)); some = λ id is. (let lt = here.some id is in omega (arith, lt, many, count)) }
