-- The worked run meets the premises of the headline.
use Rattle.std.proofs.Common.{◌≡◌, ℕ, zero, suc, slice_get, List, Some, true, refl, inl, sym, ap, subst, ◌∙◌, lit<, lit≤}
use Rattle.quic_wire_core.specs.declared.stream_id.Side.{Side}
use Rattle.quic_machine.specs.declared.run.ReadCall.{ReadCall}
use Rattle.quic_machine.specs.declared.run.RunEvent.{RunEvent}
use Rattle.quic_machine.specs.declared.run.Call.{Call}
use Rattle.quic_config.specs.Transport.{IsInRange}
use Rattle.quic_worked.specs.Settings.{plain_settings}
use Rattle.quic_headline.specs.Runs.{In, until, ids_of}
use Rattle.quic_machine.specs.Start.{Making, AreStarted}
use Rattle.quic_headline.specs.Headline.{UsesOwnIds, used, IsHonest, IsRun}
use Rattle.quic_worked.specs.Worked.{steady, ReadsBy, two_chunks, worked_parameters, client_id, server_id, started, once_read, opens_stream, writes_hello, finishes_stream, asks_datagram, delivers, accepts_stream, reads_stream, worked_run, shut, both_steady}
use Rattle.quic_worked.proofs.WorkedRun.{parameters_say, client_is_made, server_is_made, follows, gave_hello, gave_none, steady_is_made}
use Rattle.quic_worked.proofs.WorkedKeys.{are_keys}
use Rattle.quic_worked.proofs.Codes.{no_codes}

-- an end with default settings and this id, at moment 0 on a validated path
abbrev pub making : List ℕ → Making
making id = record { settings = plain_settings; windows = steady; parameters = worked_parameters; id = id; remote = 0; moment = 0; validated = true; words = λ n. 63 }

pub in_range : IsInRange plain_settings
in_range = record { receive_window = lit< tt; stream_receive_window = lit< tt; bounds = record { bidi = lit≤ tt; uni = lit≤ tt; divides = lit< tt; initial = lit≤ tt; least = lit≤ tt }; search = tt }

-- the window of the server is shut
unfoldable pub are_started : AreStarted started
are_started = record {
  client_making = making client_id;
  server_making = record (making server_id) { windows = shut };
  client_is = record { range = in_range; sizes = lit≤ tt; says = parameters_say; id = refl };
  server_is = record { range = in_range; sizes = lit≤ tt; says = parameters_say; id = refl };
  client = client_is_made;
  server = server_is_made;
  client_gave = refl;
  server_gave = refl;
  client_heard = refl;
  server_heard = refl;
}

-- and where it has room
unfoldable pub steady_started : AreStarted both_steady
steady_started = record {
  client_making = making client_id;
  server_making = making server_id;
  client_is = record { range = in_range; sizes = lit≤ tt; says = parameters_say; id = refl };
  server_is = record { range = in_range; sizes = lit≤ tt; says = parameters_say; id = refl };
  client = client_is_made;
  server = steady_is_made;
  client_gave = refl;
  server_gave = refl;
  client_heard = refl;
  server_heard = refl;
}

-- what a place that uses an id must show
abbrev IsOwn : ReadCall → Side → ℕ → ℕ → Type 0
IsOwn read side i id = In id (ids_of (until (worked_run read) side i))

-- an event that stands at a place is its side and its call
pub side_of : (e f : RunEvent) → Some e ≡ Some f → e.side ≡ f.side
side_of e f q = let same : e ≡ f = cc in ap (λ (x : RunEvent). x.side) same

pub call_of : (e f : RunEvent) → Some e ≡ Some f → e.call ≡ f.call
call_of e f q = let same : e ≡ f = cc in ap (λ (x : RunEvent). x.call) same

-- what the call of an event uses
pub uses : (e f : RunEvent) (id : ℕ) → Some e ≡ Some f → used f.call ≡ Some id → used e.call ≡ Some id
uses e f id q u = ap (λ (c : Call). used c) (call_of e f q) ∙ u

-- the id that a place uses is 0
first_id : (a id : ℕ) → Some a ≡ Some id → id ≡ a
first_id a id e = let same : a ≡ id = cc in sym same

own_at : (read : ReadCall) → read.id ≡ 0 → (side : Side) (i id : ℕ) (call : Call) → slice_get (worked_run read).events i ≡ Some (record { side = side; call = call }) → used call ≡ Some id → In id (ids_of (until (worked_run read) side i))
own_at read z side zero id call q u = let never = uses opens_stream (record { side = side; call = call }) id q u in cc
own_at read z side (suc zero) id call q u =
    let e : RunEvent = writes_hello in
    let f : RunEvent = record { side = side; call = call } in
    subst (λ (s : Side). IsOwn read s 1 id) (side_of e f q) (inl (first_id 0 id (uses e f id q u)))
own_at read z side (suc (suc zero)) id call q u =
    let e : RunEvent = finishes_stream in
    let f : RunEvent = record { side = side; call = call } in
    subst (λ (s : Side). IsOwn read s 2 id) (side_of e f q) (inl (first_id 0 id (uses e f id q u)))
own_at read z side (suc (suc (suc zero))) id call q u = let never = uses asks_datagram (record { side = side; call = call }) id q u in cc
own_at read z side (suc (suc (suc (suc zero)))) id call q u = let never = uses delivers (record { side = side; call = call }) id q u in cc
own_at read z side (suc (suc (suc (suc (suc zero))))) id call q u = let never = uses delivers (record { side = side; call = call }) id q u in cc
own_at read z side (suc (suc (suc (suc (suc (suc zero)))))) id call q u = let never = uses accepts_stream (record { side = side; call = call }) id q u in cc
own_at read z side (suc (suc (suc (suc (suc (suc (suc zero))))))) id call q u =
    let e : RunEvent = reads_stream read in
    let f : RunEvent = record { side = side; call = call } in
    subst (λ (s : Side). IsOwn read s 7 id) (side_of e f q) (inl (first_id read.id id (uses e f id q u) ∙ z))
own_at read z side (suc (suc (suc (suc (suc (suc (suc (suc i)))))))) id call q u = cc

own_ids : (read : ReadCall) → read.id ≡ 0 → UsesOwnIds (worked_run read)
own_ids read z side i id call a at u = own_at read z side i id call at.event u

pub is_honest : (read : ReadCall) → read.id ≡ 0 → IsHonest (worked_run read)
is_honest read z = record { start = are_started; keys = are_keys; ids = own_ids read z }

pub is_run : (read : ReadCall) → ReadsBy two_chunks read → IsRun (worked_run read) once_read
is_run read by = record { codes = no_codes (worked_run read).events refl; follows = follows read by; from_client = gave_hello; from_server = gave_none }
