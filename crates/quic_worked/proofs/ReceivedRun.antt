-- The run in which four messages come to a server that keeps three, event by event; and machines
-- that give its application others, or none.
use Rattle.std.proofs.Common.{◌≡◌, ◌<◌, ℕ, zero, suc, true, false, List, [], ◌∷◌, ◌++◌, take, Some, None, Option, Ok, refl, inl, sym, ap, ◌∙◌, subst, arith, lit<, lit≤}
use Rattle.std.specs.Prelude.{slice_index, slice_get}
use Rattle.quic_wire_core.specs.declared.stream_id.Side.{Side}
use Rattle.quic_wire_core.specs.declared.stream_id.Side.TheVariants.{Client, Server}
use Rattle.quic_config.specs.Transport.{IsInRange, parameters_of}
use Rattle.quic_parameters.specs.ParametersRead.{parameters_at, judged, values_met, met_in, met_within, met_after, whole_at, entry_at}
use Rattle.quic_messages.specs.Messages.{oldest}
use Rattle.quic_machine.specs.declared.answers.Received.TheVariants as receives
use Rattle.quic_machine.specs.declared.run.RunEvent.{RunEvent}
use Rattle.quic_machine.specs.declared.run.Call.TheVariants as calls
use Rattle.quic_machine.specs.declared.run.Answer.{Answer}
use Rattle.quic_machine.specs.declared.run.Answer.TheVariants as answers
use Rattle.quic_machine.specs.End.{IsMade}
use Rattle.quic_machine.specs.Start.{AreStarted}
use Rattle.quic_machine.specs.Machine.{IsStep, Follows, view_of}
use Rattle.quic_headline.specs.Headline.{IsHonest, IsRun}
use Rattle.quic_headline.specs.Inbox.{inbox, ReceivesOldest}
use Rattle.quic_worked.specs.Settings.{plain_settings}
use Rattle.quic_worked.specs.Worked.{worked_policies, steady, client_id, server_id, worked_parameters, once_taken, asks_datagram, delivers, gives_bytes}
use Rattle.quic_worked.specs.Broken.{IsNoRun}
use Rattle.quic_worked.specs.Messages.{sends_message, server_reads, is_sent, both_seen}
use Rattle.quic_worked.specs.Received.{one_received, two_received, three_received, crowded_end, crowded_settings, crowded_start, four_of, once_crowded, crowded_with, crowded_run, none_given, latest_given, dropped_given}
use Rattle.quic_worked.proofs.Codes.{no_codes}
use Rattle.quic_worked.proofs.OwnIds.{honest_from}
use Rattle.quic_worked.proofs.BrokenRuns.{IsRefused, stops, behind}
use Rattle.quic_worked.proofs.Steps.{counts_so}
use Rattle.quic_worked.proofs.WorkedHonest.{making, in_range, side_of, call_of}
use Rattle.quic_worked.proofs.WorkedRun.{parameters_say}

-- ---- how it begins

-- what the server tells: DATAGRAM frames of 14 bytes (RFC 9221, section 3)
crowded_parameters : List ℕ
crowded_parameters = take 39 worked_parameters ++ 0x20 ∷ 0x01 ∷ 0x0e ∷ []

crowded_say : parameters_at crowded_parameters ≡ Ok (parameters_of crowded_settings)
unfolding crowded_parameters parameters_at judged values_met met_in met_within met_after whole_at entry_at
crowded_say = refl

crowded_range : IsInRange crowded_settings
crowded_range = record { receive_window = lit< tt; stream_receive_window = lit< tt; bounds = record { bidi = lit≤ tt; uni = lit≤ tt; divides = lit< tt; initial = lit≤ tt; least = lit≤ tt }; search = tt }

crowded_started : AreStarted crowded_start
crowded_started = record {
  client_making = making client_id;
  server_making = record (making server_id) { settings = crowded_settings; parameters = crowded_parameters };
  client_is = record { range = in_range; sizes = lit≤ tt; says = parameters_say; id = refl };
  server_is = record { range = crowded_range; sizes = lit≤ tt; says = crowded_say; id = refl };
  client = subst (λ read. IsMade Client plain_settings steady read client_id server_id 0 0 true (λ n. 63) crowded_start.client) (sym crowded_say) refl;
  server = subst (λ read. IsMade Server crowded_settings steady read server_id client_id 0 0 true (λ n. 63) crowded_start.server) (sym parameters_say) refl;
  client_gave = refl;
  server_gave = refl;
  client_heard = refl;
  server_heard = refl;
}

-- ---- the events

step_0 : IsStep worked_policies crowded_start (sends_message (four_of 0x61)) is_sent (once_crowded 1)
unfolding once_crowded
step_0 = record { answer = inl refl; end = refl; control = refl; heard = counts_so worked_policies crowded_start (sends_message (four_of 0x61)) is_sent; openings = tt; others = refl; lacking = λ lacks. cc }

step_1 : IsStep worked_policies (once_crowded 1) (sends_message (four_of 0x62)) is_sent (once_crowded 2)
unfolding once_crowded
step_1 = record { answer = inl refl; end = refl; control = refl; heard = counts_so worked_policies (once_crowded 1) (sends_message (four_of 0x62)) is_sent; openings = tt; others = refl; lacking = λ lacks. cc }

step_2 : IsStep worked_policies (once_crowded 2) (sends_message (four_of 0x63)) is_sent (once_crowded 3)
unfolding once_crowded
step_2 = record { answer = inl refl; end = refl; control = refl; heard = counts_so worked_policies (once_crowded 2) (sends_message (four_of 0x63)) is_sent; openings = tt; others = refl; lacking = λ lacks. cc }

step_3 : IsStep worked_policies (once_crowded 3) (sends_message (four_of 0x64)) is_sent (once_crowded 4)
unfolding once_crowded
step_3 = record { answer = inl refl; end = refl; control = refl; heard = counts_so worked_policies (once_crowded 3) (sends_message (four_of 0x64)) is_sent; openings = tt; others = refl; lacking = λ lacks. cc }

step_4 : IsStep worked_policies (once_crowded 4) asks_datagram (gives_bytes 246) (once_crowded 5)
unfolding once_crowded
step_4 = record { answer = inl refl; end = refl; control = refl; heard = counts_so worked_policies (once_crowded 4) asks_datagram (gives_bytes 246); openings = tt; others = refl; lacking = tt }

step_5 : IsStep worked_policies (once_crowded 5) delivers (answers.Deliver receives.Taken) (once_crowded 6)
unfolding once_crowded
step_5 = record { answer = inl refl; end = refl; control = refl; heard = counts_so worked_policies (once_crowded 5) delivers (answers.Deliver receives.Taken); openings = tt; others = refl; lacking = tt }

gives_6 : answers.Recv (Some (four_of 0x62)) ≡ answers.Recv (oldest (once_crowded 6).server.messages.queues.incoming)
unfolding once_crowded
gives_6 = refl

step_6 : IsStep worked_policies (once_crowded 6) server_reads (answers.Recv (Some (four_of 0x62))) one_received
step_6 = record { answer = gives_6; end = refl; control = refl; heard = counts_so worked_policies (once_crowded 6) server_reads (answers.Recv (Some (four_of 0x62))); openings = tt; others = refl; lacking = tt }

gives_7 : answers.Recv (Some (four_of 0x63)) ≡ answers.Recv (oldest one_received.server.messages.queues.incoming)
unfolding once_crowded
gives_7 = refl

step_7 : IsStep worked_policies one_received server_reads (answers.Recv (Some (four_of 0x63))) two_received
step_7 = record { answer = gives_7; end = refl; control = refl; heard = counts_so worked_policies one_received server_reads (answers.Recv (Some (four_of 0x63))); openings = tt; others = refl; lacking = tt }

gives_8 : answers.Recv (Some (four_of 0x64)) ≡ answers.Recv (oldest two_received.server.messages.queues.incoming)
unfolding once_crowded
gives_8 = refl

step_8 : IsStep worked_policies two_received server_reads (answers.Recv (Some (four_of 0x64))) three_received
step_8 = record { answer = gives_8; end = refl; control = refl; heard = counts_so worked_policies two_received server_reads (answers.Recv (Some (four_of 0x64))); openings = tt; others = refl; lacking = tt }

gives_9 : answers.Recv None ≡ answers.Recv (oldest three_received.server.messages.queues.incoming)
unfolding once_crowded
gives_9 = refl

step_9 : IsStep worked_policies three_received server_reads (answers.Recv None) crowded_end
step_9 = record { answer = gives_9; end = refl; control = refl; heard = counts_so worked_policies three_received server_reads (answers.Recv None); openings = tt; others = refl; lacking = tt }

-- ---- what is seen

seen_0 : both_seen None None None None ≡ view_of (once_crowded 1)
unfolding once_crowded
seen_0 = refl

seen_1 : both_seen None None None None ≡ view_of (once_crowded 2)
unfolding once_crowded
seen_1 = refl

seen_2 : both_seen None None None None ≡ view_of (once_crowded 3)
unfolding once_crowded
seen_2 = refl

seen_3 : both_seen None None None None ≡ view_of (once_crowded 4)
unfolding once_crowded
seen_3 = refl

seen_4 : both_seen (Some 1024000000) None None None ≡ view_of (once_crowded 5)
unfolding once_crowded
seen_4 = refl

seen_5 : both_seen (Some 1024000000) None None (Some 25000000) ≡ view_of (once_crowded 6)
unfolding once_crowded
seen_5 = refl

seen_6 : both_seen (Some 1024000000) None None (Some 25000000) ≡ view_of one_received
unfolding once_crowded
seen_6 = refl

seen_7 : both_seen (Some 1024000000) None None (Some 25000000) ≡ view_of two_received
unfolding once_crowded
seen_7 = refl

seen_8 : both_seen (Some 1024000000) None None (Some 25000000) ≡ view_of three_received
unfolding once_crowded
seen_8 = refl

seen_9 : both_seen (Some 1024000000) None None (Some 25000000) ≡ view_of crowded_end
unfolding once_crowded
seen_9 = refl

follows : Follows crowded_run.keys crowded_run.start crowded_run.events crowded_run.answers crowded_run.views crowded_end
follows = (once_crowded 1, step_0, seen_0, (once_crowded 2, step_1, seen_1, (once_crowded 3, step_2, seen_2, (once_crowded 4, step_3, seen_3, (once_crowded 5, step_4, seen_4, (once_crowded 6, step_5, seen_5, (one_received, step_6, seen_6, (two_received, step_7, seen_7, (three_received, step_8, seen_8, (crowded_end, step_9, seen_9, refl))))))))))

gave_four : crowded_run.from_client ≡ crowded_end.from_client
unfolding once_crowded
gave_four = refl

gave_none : crowded_run.from_server ≡ crowded_end.from_server
unfolding once_crowded
gave_none = refl

pub crowded_is_run : IsRun crowded_run crowded_end
crowded_is_run = record { codes = no_codes crowded_run.events refl; follows = follows; from_client = gave_four; from_server = gave_none }

-- whichever are read
module _ (first second third fourth : Option (List ℕ)) where
  pub crowded_is_honest : IsHonest (crowded_with first second third fourth)
  crowded_is_honest = honest_from crowded_start crowded_started (crowded_with first second third fourth) (record { start = refl; keys = refl; client = (tt, (tt, (tt, (tt, (tt, (tt, (tt, (tt, (tt, (tt, tt)))))))))); server = (tt, (tt, (tt, (tt, (tt, (tt, (tt, (tt, (tt, (tt, tt)))))))))) })

  -- the latest three wait once the datagram came
  three_wait : (frames : ℕ) → inbox (crowded_with first second third fourth) Server frames 6 ≡ four_of 0x62 ∷ four_of 0x63 ∷ four_of 0x64 ∷ []
  unfolding once_taken
  three_wait frames = refl

-- ---- what waits

pub waits_at_first : inbox crowded_run Server 0 6 ≡ four_of 0x62 ∷ four_of 0x63 ∷ four_of 0x64 ∷ []
waits_at_first = three_wait (Some (four_of 0x62)) (Some (four_of 0x63)) (Some (four_of 0x64)) None 0

pub waits_then : inbox crowded_run Server 0 7 ≡ four_of 0x63 ∷ four_of 0x64 ∷ []
unfolding once_taken
waits_then = refl

waits_last : inbox crowded_run Server 0 8 ≡ four_of 0x64 ∷ []
unfolding once_taken
waits_last = refl

pub none_waits : inbox crowded_run Server 0 9 ≡ []
unfolding once_taken
none_waits = refl

-- an event that receives is a call that does
is_read : (e : RunEvent) (side : Side) → Some e ≡ Some (record { side = side; call = calls.Recv }) → e.call ≡ calls.Recv
is_read e side at = call_of e (record { side = side; call = calls.Recv }) at

-- and none of the client's is the server's
client_reads_none : {X : Type 0} → Some server_reads ≡ Some (record { side = Client; call = calls.Recv }) → X
client_reads_none at = (let never : Server ≡ Client = side_of server_reads (record { side = Client; call = calls.Recv }) at in cc)

-- what a call that receives is answered, by its place
receives_so : (side : Side) (j : ℕ) (message : Option (List ℕ)) → slice_get crowded_run.events j ≡ Some (record { side = side; call = calls.Recv }) → slice_get crowded_run.answers j ≡ Some (answers.Recv message) → message ≡ oldest (inbox crowded_run side 0 j)
receives_so side zero message at said = (let never : calls.Send (four_of 0x61) false ≡ calls.Recv = is_read (sends_message (four_of 0x61)) side at in cc)
receives_so side (suc zero) message at said = (let never : calls.Send (four_of 0x62) false ≡ calls.Recv = is_read (sends_message (four_of 0x62)) side at in cc)
receives_so side (suc (suc zero)) message at said = (let never : calls.Send (four_of 0x63) false ≡ calls.Recv = is_read (sends_message (four_of 0x63)) side at in cc)
receives_so side (suc (suc (suc zero))) message at said = (let never : calls.Send (four_of 0x64) false ≡ calls.Recv = is_read (sends_message (four_of 0x64)) side at in cc)
receives_so side (suc (suc (suc (suc zero)))) message at said = (let never : asks_datagram.call ≡ calls.Recv = is_read asks_datagram side at in cc)
receives_so side (suc (suc (suc (suc (suc zero))))) message at said = (let never : delivers.call ≡ calls.Recv = is_read delivers side at in cc)
receives_so Client (suc (suc (suc (suc (suc (suc zero)))))) message at said = client_reads_none at
receives_so Client (suc (suc (suc (suc (suc (suc (suc zero))))))) message at said = client_reads_none at
receives_so Client (suc (suc (suc (suc (suc (suc (suc (suc zero)))))))) message at said = client_reads_none at
receives_so Client (suc (suc (suc (suc (suc (suc (suc (suc (suc zero))))))))) message at said = client_reads_none at
receives_so Server (suc (suc (suc (suc (suc (suc zero)))))) message at said =
    let here : Some (answers.Recv (Some (four_of 0x62))) ≡ Some (answers.Recv message) = said in
    let same : message ≡ Some (four_of 0x62) = cc in
    same ∙ sym (ap oldest waits_at_first)
receives_so Server (suc (suc (suc (suc (suc (suc (suc zero))))))) message at said =
    let here : Some (answers.Recv (Some (four_of 0x63))) ≡ Some (answers.Recv message) = said in
    let same : message ≡ Some (four_of 0x63) = cc in
    same ∙ sym (ap oldest waits_then)
receives_so Server (suc (suc (suc (suc (suc (suc (suc (suc zero)))))))) message at said =
    let here : Some (answers.Recv (Some (four_of 0x64))) ≡ Some (answers.Recv message) = said in
    let same : message ≡ Some (four_of 0x64) = cc in
    same ∙ sym (ap oldest waits_last)
receives_so Server (suc (suc (suc (suc (suc (suc (suc (suc (suc zero))))))))) message at said =
    let here : Some (answers.Recv None) ≡ Some (answers.Recv message) = said in
    let same : message ≡ None = cc in
    same ∙ sym (ap oldest none_waits)
receives_so side (suc (suc (suc (suc (suc (suc (suc (suc (suc (suc j)))))))))) message at said = cc

pub crowded_oldest : ReceivesOldest crowded_run
crowded_oldest side i served = (0, λ j message below at. receives_so side j message at.event at.answer)

-- ---- others are received

-- the first byte of what a call received, if it did
abbrev first_byte : Option (List ℕ) → ℕ
first_byte None = 0
first_byte (Some m) = slice_index m 0

abbrev byte_in : Answer → ℕ
byte_in (answers.Recv message) = first_byte message
byte_in a = 0

module _ (first second third fourth : Option (List ℕ)) where
  -- what the clause says is read first
  reads_oldest : ReceivesOldest (crowded_with first second third fourth) → first_byte first ≡ 0x62
  reads_oldest h =
      let here = h Server 7 refl in
      ap first_byte (here.1 6 first (lit< tt) (record { event = refl; answer = refl }) ∙ ap oldest (three_wait first second third fourth here.0))

  -- and what the machine answers
  answers_oldest : (first_byte first ≡ 0x62 → ⊥) → IsRefused (once_crowded 6) server_reads (answers.Recv first)
  answers_oldest differs e = differs (ap byte_in (e ∙ sym gives_6))

  pub no_other : (first_byte first ≡ 0x62 → ⊥) → IsNoRun (crowded_with first second third fourth)
  no_other differs = behind refl step_0 (behind refl step_1 (behind refl step_2 (behind refl step_3 (behind refl step_4 (behind refl step_5 (stops _ _ _ _ _ (answers_oldest differs)))))))

pub none_shows : ReceivesOldest none_given → ⊥
none_shows h = let clash : ◌≡◌ {A = ℕ} 0 0x62 = reads_oldest None None None None h in omega (arith, clash)

pub no_none : IsNoRun none_given
no_none = no_other None None None None (λ e. (let clash : ◌≡◌ {A = ℕ} 0 0x62 = e in omega (arith, clash)))

pub latest_shows : ReceivesOldest latest_given → ⊥
latest_shows h = let clash : ◌≡◌ {A = ℕ} 0x64 0x62 = reads_oldest (Some (four_of 0x64)) (Some (four_of 0x63)) (Some (four_of 0x62)) None h in omega (arith, clash)

pub no_latest : IsNoRun latest_given
no_latest = no_other (Some (four_of 0x64)) (Some (four_of 0x63)) (Some (four_of 0x62)) None (λ e. (let clash : ◌≡◌ {A = ℕ} 0x64 0x62 = e in omega (arith, clash)))

pub dropped_shows : ReceivesOldest dropped_given → ⊥
dropped_shows h = let clash : ◌≡◌ {A = ℕ} 0x61 0x62 = reads_oldest (Some (four_of 0x61)) (Some (four_of 0x62)) (Some (four_of 0x63)) (Some (four_of 0x64)) h in omega (arith, clash)

pub no_dropped : IsNoRun dropped_given
no_dropped = no_other (Some (four_of 0x61)) (Some (four_of 0x62)) (Some (four_of 0x63)) (Some (four_of 0x64)) (λ e. (let clash : ◌≡◌ {A = ℕ} 0x61 0x62 = e in omega (arith, clash)))
