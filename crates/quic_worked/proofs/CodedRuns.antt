-- Clients that stop or reset a stream, event by event, and machines that say another code, or how
-- many bytes weren't written, or give bytes behind a reset.
use Rattle.std.proofs.Common.{◌≡◌, ℕ, zero, suc, List, [], ◌∷◌, Option, Some, None, refl, inl, inr, sym, ap, ◌∙◌, subst, lit<, arith}
use Rattle.std.specs.Prelude.{slice_get, slice_index}
use Rattle.quic_wire.specs.Reading.{reset_stream_at, stop_sending_at}
use Rattle.quic_wire_core.specs.declared.shared.EcnCodepoint.TheVariants.{Ect0}
use Rattle.quic_wire_core.specs.declared.stream_id.Side.TheVariants.{Client}
use Rattle.quic_machine.specs.declared.run.Call.{Call}
use Rattle.quic_machine.specs.declared.run.Call.TheVariants as calls
use Rattle.quic_machine.specs.declared.run.View.{View}
use Rattle.quic_machine.specs.Machine.{World, IsStep, Follows, view_of}
use Rattle.quic_machine.specs.RunLaws.{one_run}
use Rattle.quic_headline.specs.Runs.{Told, In, until, reset}
use Rattle.quic_headline.specs.Observer.{Sent, sents_until}
use Rattle.quic_headline.specs.Headline.{IsHonest, IsRun}
use Rattle.quic_headline.specs.Codes.{WasStopped, StopsSay, ResetsSay, NothingBehindResets}
use Rattle.quic_headline.specs.Polls.{GaveOne}
use Rattle.quic_headline.proofs.Channel.Codes.{stops_say, resets_say}
use Rattle.quic_headline.proofs.Channel.Unreset.{nothing_behind_resets}
use Rattle.quic_worked.specs.Worked.{worked_policies, once_opened, opens_stream, asks_datagram, gives_bytes, open_view, sent_view, server_open}
use Rattle.quic_worked.specs.Acknowledged.{client_acked}
use Rattle.quic_worked.specs.Reordered.{first_sent}
use Rattle.quic_worked.specs.Allowed.{stops_stream}
use Rattle.quic_worked.specs.Reset.{once_reset, reset_sent}
use Rattle.quic_worked.specs.Machines.{NeverGives}
use Rattle.quic_worked.specs.Coded.{once_halting, halts_with, halting_run, halt_sent, halts_for_none, resets_as, reset_given, resets_for_none, resets_short, streams_behind, two_bytes, behind_sent}
use Rattle.quic_worked.proofs.Codes.{AllSmall, small_codes}
use Rattle.quic_worked.proofs.Steps.{steps_so, StepsSo}
use Rattle.quic_worked.proofs.OwnIds.{honest}
use Rattle.quic_worked.proofs.WorkedRun.{opens}
use Rattle.quic_worked.proofs.AllowedRun.{once_halted, halts}
use Rattle.quic_worked.proofs.ReorderedRun.{opened, first_written, opens as opens_first, writes_abc, gives_abc, sees_first}
use Rattle.quic_worked.proofs.ResetRun.{resets, gives_reset, once_seen, sent_seen}

-- ---- a stream is stopped

gives_halt : IsStep worked_policies once_halted asks_datagram (gives_bytes 225) (once_halting 3)
unfolding once_halting once_halted
gives_halt =
    let s : StepsSo worked_policies once_halted asks_datagram (gives_bytes 225) (once_halting 3) = steps_so worked_policies once_halted asks_datagram (gives_bytes 225) refl in
    record { answer = inl refl; end = s.end; control = s.control; heard = s.heard; openings = tt; others = s.others; lacking = tt }

abbrev plain_view : View
plain_view = record { client = open_view; server = server_open }

abbrev given_view : View
given_view = record { client = sent_view; server = server_open }

opened_seen : plain_view ≡ view_of once_opened
opened_seen = refl

halted_seen : plain_view ≡ view_of once_halted
unfolding once_halted
halted_seen = refl

halt_seen : given_view ≡ view_of (once_halting 3)
unfolding once_halting
halt_seen = refl

halting_follows : Follows halting_run.keys halting_run.start halting_run.events halting_run.answers halting_run.views (once_halting 3)
halting_follows = (once_opened, opens, opened_seen, (once_halted, halts, halted_seen, (once_halting 3, gives_halt, halt_seen, refl)))

gave_halt : halting_run.from_client ≡ (once_halting 3).from_client
unfolding once_halting
gave_halt = refl

gave_none : halting_run.from_server ≡ (once_halting 3).from_server
unfolding once_halting
gave_none = refl

halting_codes : AllSmall halting_run.events
halting_codes = (tt, (lit< tt, (tt, tt)))

pub halting_is_run : IsRun halting_run (once_halting 3)
halting_is_run = record { codes = small_codes halting_run.events halting_codes; follows = halting_follows; from_client = gave_halt; from_server = gave_none }

halts_honest : (code : ℕ) → IsHonest (halts_with code)
halts_honest code = honest (halts_with code) (record { start = refl; keys = refl; client = (tt, (inl refl, (tt, tt))); server = (tt, (tt, (tt, tt))) })

pub halting_is_honest : IsHonest halting_run
halting_is_honest = halts_honest 7

pub halts_is_honest : IsHonest halts_for_none
halts_is_honest = halts_honest 0

pub halt_went : sents_until halting_run Client 3 ≡ halt_sent 7 ∷ []
unfolding client_acked stop_sending_at
halt_went = refl

none_went : sents_until halts_for_none Client 3 ≡ halt_sent 0 ∷ []
unfolding client_acked stop_sending_at
none_went = refl

pub stops_so : StopsSay halting_run
stops_so = stops_say halting_run (once_halting 3) halting_is_honest halting_is_run

-- the one call that stops has code 7
stopped_seven : (call : Call) (code : ℕ) → call ≡ stops_stream.call → call ≡ calls.Stop 0 code → code ≡ 7
stopped_seven call code is called = let same : calls.Stop 0 7 ≡ calls.Stop 0 code = sym is ∙ called in cc

no_stop : (call : Call) (code : ℕ) → call ≡ opens_stream.call → call ≡ calls.Stop 0 code → ⊥
no_stop call code is called = let same : opens_stream.call ≡ calls.Stop 0 code = sym is ∙ called in cc

no_poll : (call : Call) (code : ℕ) → call ≡ asks_datagram.call → call ≡ calls.Stop 0 code → ⊥
no_poll call code is called = let same : asks_datagram.call ≡ calls.Stop 0 code = sym is ∙ called in cc

was_seven : (code : ℕ) → WasStopped (until halts_for_none Client 3) 0 code → code ≡ 7
was_seven code w = go w.among
  where
    go : In w.call (until halts_for_none Client 3) → code ≡ 7
    go (inl is) = absurd (no_stop w.call.call code (ap (λ (t : Told). t.call) is) w.called)
    go (inr (inl is)) = stopped_seven w.call.call code (ap (λ (t : Told). t.call) is) w.called
    go (inr (inr (inl is))) = absurd (no_poll w.call.call code (ap (λ (t : Told). t.call) is) w.called)
    go (inr (inr (inr none))) = absurd none

pub stops_not : StopsSay halts_for_none → ⊥
stops_not h =
    let clash : ◌≡◌ {A = ℕ} 0 7 = was_seven 0 (h Client 3 (halt_sent 0) (record { id = 0; code = 0 }) refl (subst (λ (ss : List Sent). In (halt_sent 0) ss) (sym none_went) (inl refl)) (inl refl)) in
    omega (arith, clash)

-- a byte of one of these datagrams
abbrev byte_of : ℕ → Option (List ℕ) → ℕ
byte_of i None = 0
byte_of i (Some d) = slice_index d i

right_stop : byte_of 12 (slice_get (once_halting 3).from_client 0) ≡ 7
unfolding once_halting
right_stop = refl

pub never_stops : NeverGives halts_for_none
never_stops views end is =
    let same = one_run halting_run.keys halting_run.answers halting_run.start halting_run.events views halting_run.views end (once_halting 3) refl is.follows halting_follows in
    let clash : ◌≡◌ {A = ℕ} 0 7 = ap (λ (ds : List (List ℕ)). byte_of 12 (slice_get ds 0)) (is.from_client ∙ ap (λ (w : World). w.from_client) same.1) ∙ right_stop in
    omega (arith, clash)

-- ---- a stream is reset

resets_follow : Follows (resets_as 7 3).keys (resets_as 7 3).start (resets_as 7 3).events (resets_as 7 3).answers (resets_as 7 3).views reset_sent
resets_follow = (opened, opens_first, refl, (first_written, writes_abc, refl, (first_sent, gives_abc, sees_first, (once_reset, resets, once_seen, (reset_sent, gives_reset, sent_seen, refl)))))

gave_reset : (resets_as 7 3).from_client ≡ reset_sent.from_client
unfolding reset_sent
gave_reset = refl

gave_nothing : (resets_as 7 3).from_server ≡ reset_sent.from_server
unfolding reset_sent
gave_nothing = refl

resets_codes : AllSmall (resets_as 7 3).events
resets_codes = (tt, (tt, (tt, (lit< tt, (tt, tt)))))

resets_is_run : IsRun (resets_as 7 3) reset_sent
resets_is_run = record { codes = small_codes (resets_as 7 3).events resets_codes; follows = resets_follow; from_client = gave_reset; from_server = gave_nothing }

resets_honest : (code size : ℕ) → IsHonest (resets_as code size)
resets_honest code size = honest (resets_as code size) (record { start = refl; keys = refl; client = (tt, (inl refl, (tt, (inl refl, (tt, tt))))); server = (tt, (tt, (tt, (tt, (tt, tt))))) })

pub code_is_honest : IsHonest resets_for_none
code_is_honest = resets_honest 0 3

pub size_is_honest : IsHonest resets_short
size_is_honest = resets_honest 7 2

pub resets_so : ResetsSay (resets_as 7 3)
resets_so = resets_say (resets_as 7 3) reset_sent (resets_honest 7 3) resets_is_run

code_went : slice_get (sents_until resets_for_none Client 5) 1 ≡ Some (reset_given 0 3)
unfolding client_acked reset_stream_at
code_went = refl

size_went : slice_get (sents_until resets_short Client 5) 1 ≡ Some (reset_given 7 2)
unfolding client_acked reset_stream_at
size_went = refl

-- what stands at a place is among the others
stands : (sents : List Sent) (i : ℕ) (s : Sent) → slice_get sents i ≡ Some s → In s sents
stands [] i s is = cc
stands (t ∷ ts) zero s is = let same : s ≡ t = cc in inl same
stands (t ∷ ts) (suc i) s is = inr (stands ts i s is)

pub code_not : ResetsSay resets_for_none → ⊥
code_not h =
    let said : ◌≡◌ {A = Option ℕ} (Some 7) (Some 0) = (h Client 5 (reset_given 0 3) (record { id = 0; code = 0; final_size = 3 }) refl (stands (sents_until resets_for_none Client 5) 1 (reset_given 0 3) code_went) (inl refl)).0 in
    let clash : ◌≡◌ {A = ℕ} 7 0 = cc in
    omega (arith, clash)

pub size_not : ResetsSay resets_short → ⊥
size_not h =
    let clash : ◌≡◌ {A = ℕ} 2 3 = (h Client 5 (reset_given 7 2) (record { id = 0; code = 7; final_size = 2 }) refl (stands (sents_until resets_short Client 5) 1 (reset_given 7 2) size_went) (inl refl)).1 in
    omega (arith, clash)

right_code : byte_of 12 (slice_get reset_sent.from_client 1) ≡ 7
unfolding reset_sent
right_code = refl

right_size : byte_of 13 (slice_get reset_sent.from_client 1) ≡ 3
unfolding reset_sent
right_size = refl

-- the machine gives the same datagrams, whatever is seen
gives_one : (code size i : ℕ) (views : List View) (end : World) → IsRun (record (resets_as code size) { views = views }) end → byte_of i (slice_get (resets_as code size).from_client 1) ≡ byte_of i (slice_get reset_sent.from_client 1)
gives_one code size i views end is =
    let same = one_run (resets_as 7 3).keys (resets_as 7 3).answers (resets_as 7 3).start (resets_as 7 3).events views (resets_as 7 3).views end reset_sent refl is.follows resets_follow in
    ap (λ (ds : List (List ℕ)). byte_of i (slice_get ds 1)) (is.from_client ∙ ap (λ (w : World). w.from_client) same.1)

pub never_code : NeverGives resets_for_none
never_code views end is = let clash : ◌≡◌ {A = ℕ} 0 7 = gives_one 0 3 12 views end is ∙ right_code in omega (arith, clash)

pub never_size : NeverGives resets_short
never_size views end is = let clash : ◌≡◌ {A = ℕ} 2 3 = gives_one 7 2 13 views end is ∙ right_size in omega (arith, clash)

-- ---- nothing goes behind a reset

pub behind_so : NothingBehindResets (resets_as 7 3)
behind_so = nothing_behind_resets (resets_as 7 3) reset_sent (resets_honest 7 3) resets_is_run

pub behind_is_honest : IsHonest streams_behind
behind_is_honest = honest streams_behind (record { start = refl; keys = refl; client = (tt, (inl refl, (tt, (inl refl, (tt, tt))))); server = (tt, (tt, (tt, (tt, (tt, tt))))) })

gave_behind : GaveOne streams_behind Client 4 0
unfolding client_acked reset_stream_at
gave_behind = record { transmit = record { size = 30; ecn = Some Ect0; remote = 0 }; poll = record { event = refl; answer = refl }; served = refl; sent = behind_sent; went = refl }

was_reset : reset 0 (until streams_behind Client 4) ≡ Some 7
was_reset = refl

pub behind_not : NothingBehindResets streams_behind → ⊥
unfolding gave_behind
behind_not h =
    let clash : ◌≡◌ {A = Option ℕ} (Some 7) None = sym was_reset ∙ h Client 4 0 gave_behind two_bytes (inl refl) in
    cc

right_kind : byte_of 10 (slice_get reset_sent.from_client 1) ≡ 4
unfolding reset_sent
right_kind = refl

pub never_behind : NeverGives streams_behind
never_behind views end is =
    let same = one_run (resets_as 7 3).keys (resets_as 7 3).answers (resets_as 7 3).start (resets_as 7 3).events views (resets_as 7 3).views end reset_sent refl is.follows resets_follow in
    let clash : ◌≡◌ {A = ℕ} 8 4 = ap (λ (ds : List (List ℕ)). byte_of 10 (slice_get ds 1)) (is.from_client ∙ ap (λ (w : World). w.from_client) same.1) ∙ right_kind in
    omega (arith, clash)
