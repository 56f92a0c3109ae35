-- The size of a client's datagrams, reckoned of the run in which a larger one is found, and of
-- machines that reckon otherwise.
use Rattle.std.proofs.Common.{◌≡◌, ◌≤◌, ℕ, [], ◌∷◌, ◌++◌, true, Option, Some, None, refl, sym, ap, ◌∙◌, subst, lit<, lit≤, arith}
use Rattle.quic_wire_core.specs.declared.stream_id.Side.{Side}
use Rattle.quic_wire_core.specs.declared.stream_id.Side.TheVariants.{Client, Server}
use Rattle.quic_wire_core.specs.declared.shared.EcnCodepoint.TheVariants.{Ect0}
use Rattle.quic_config.specs.Configs.{SearchSettings, default_search}
use Rattle.quic_config.specs.Transport.{IsInRange}
use Rattle.quic_machine.specs.End.{IsMade}
use Rattle.quic_machine.specs.Start.{AreStarted}
use Rattle.quic_machine.specs.Machine.{World}
use Rattle.quic_headline.specs.Observer.{sents_until}
use Rattle.quic_headline.specs.Headline.{IsHonest, IsRun}
use Rattle.quic_headline.specs.Polls.{GaveOne}
use Rattle.quic_headline.specs.PathSizes.{Sizing, is_probe, sought, with_lost, sizing, SizesFollow, GoesInTurn, IsInTurn, SearchesRest}
use Rattle.quic_headline.proofs.Sizes.Follows.{sizes_follow, searches_rest}
use Rattle.quic_worked.specs.Worked.{steady, client_id, server_id, shut}
use Rattle.quic_worked.specs.Acknowledged.{client_acked}
use Rattle.quic_worked.specs.Searched.{size_sent, once_searched, searched_run}
use Rattle.quic_worked.specs.Bursting.{long_ones, searching, long_path, sized_view, lost_run, one_step, ending_settings, ending_start, restless_sent, restless_run}
use Rattle.quic_worked.proofs.OwnIds.{AreOwn, own_ids}
use Rattle.quic_worked.proofs.WorkedKeys.{are_keys}
use Rattle.quic_worked.proofs.WorkedHonest.{in_range, making}
use Rattle.quic_worked.proofs.WorkedRun.{parameters_say, server_is_made}
use Rattle.quic_worked.proofs.SearchedRun.{searched_started, searched_is_honest, searched_is_run}

-- ---- the run in which a larger size is found

pub found_follows : SizesFollow searched_run
found_follows = sizes_follow searched_run (once_searched 6) searched_is_honest searched_is_run

pub found_rests : SearchesRest searched_run
found_rests = searches_rest searched_run (once_searched 6) searched_is_honest searched_is_run

pub size_before : (sizing searched_run Client 1).size ≡ 1200
unfolding client_acked
size_before = refl

pub it_is_probe : is_probe (sizing searched_run Client 1).size size_sent ≡ true
unfolding client_acked
it_is_probe = refl

pub size_behind : (sizing searched_run Client 6).size ≡ 1326
unfolding client_acked
size_behind = refl

pub next_sought : sought default_search 1326 (sizing searched_run Client 6).seeks ≡ Some 1389
unfolding client_acked
next_sought = refl

-- ---- bursts

pub four_fall : (with_lost searching 7 (long_ones (0 ∷ 2 ∷ 4 ∷ 6 ∷ [])) long_path).size ≡ 1200
four_fall = refl

pub three_stay : (with_lost searching 7 (long_ones (0 ∷ 1 ∷ 3 ∷ 5 ∷ [])) long_path).size ≡ 1326
three_stay = refl

-- ---- one loss

pub lost_size : (sizing (lost_run 1200) Client 7).size ≡ 1326
unfolding client_acked
lost_size = refl

lost_own : (side : Side) → AreOwn side [] (lost_run 1200).events (lost_run 1200).answers (lost_run 1200).views
lost_own Client = (tt, (tt, (tt, (tt, (tt, (tt, (tt, tt)))))))
lost_own Server = (tt, (tt, (tt, (tt, (tt, (tt, (tt, tt)))))))

pub lost_is_honest : IsHonest (lost_run 1200)
lost_is_honest = record { start = searched_started; keys = are_keys; ids = own_ids (lost_run 1200) lost_own }

pub falls_not : SizesFollow (lost_run 1200) → ⊥
falls_not h =
    let shown : ◌≡◌ {A = ℕ} 1200 1326 = h Client 6 (sized_view 1200) refl (lit≤ tt) refl refl ∙ lost_size in
    omega (arith, shown)

pub lost_is_none : (end : World) → IsRun (lost_run 1200) end → ⊥
lost_is_none end run = falls_not (sizes_follow (lost_run 1200) end lost_is_honest run)

-- ---- no rest

ending_range : IsInRange ending_settings
ending_range = record { receive_window = lit< tt; stream_receive_window = lit< tt; bounds = record { bidi = lit≤ tt; uni = lit≤ tt; divides = lit< tt; initial = lit≤ tt; least = lit≤ tt }; search = lit≤ tt }

ending_started : AreStarted ending_start
ending_started = record {
  client_making = record (making client_id) { settings = ending_settings };
  server_making = record (making server_id) { windows = shut };
  client_is = record { range = ending_range; sizes = lit≤ tt; says = parameters_say; id = refl };
  server_is = record { range = in_range; sizes = lit≤ tt; says = parameters_say; id = refl };
  client = subst (λ read. IsMade Client ending_settings steady read client_id server_id 0 0 true (λ n. 63) ending_start.client) (sym parameters_say) refl;
  server = server_is_made;
  client_gave = refl;
  server_gave = refl;
  client_heard = refl;
  server_heard = refl;
}

restless_own : (side : Side) → AreOwn side [] restless_run.events restless_run.answers restless_run.views
restless_own Client = (tt, (tt, (tt, (tt, (tt, (tt, (tt, tt)))))))
restless_own Server = (tt, (tt, (tt, (tt, (tt, (tt, (tt, tt)))))))

pub restless_is_honest : IsHonest restless_run
restless_is_honest = record { start = ending_started; keys = are_keys; ids = own_ids restless_run restless_own }

restless_went : sents_until restless_run Client 7 ≡ sents_until restless_run Client 6 ++ restless_sent ∷ []
unfolding client_acked
restless_went = refl

abbrev gave_restless : GaveOne restless_run Client 6 41000000
gave_restless = record {
  transmit = record { size = 1400; ecn = Some Ect0; remote = 0 };
  poll = record { event = refl; answer = refl };
  served = refl;
  sent = restless_sent;
  went = restless_went;
}

restless_probe : is_probe (sizing restless_run Client 6).size restless_sent ≡ true
unfolding client_acked
restless_probe = refl

size_then : (sizing restless_run Client 6).size ≡ 1326
unfolding client_acked
size_then = refl

pub over_then : sought one_step 1326 (sizing restless_run Client 6).seeks ≡ None
unfolding client_acked
over_then = refl

pub rests_then : (sizing restless_run Client 6).seeks.rests ≡ 600040000000
unfolding client_acked
rests_then = refl

same_settings : (s : SearchSettings) → ◌≡◌ {A = Option SearchSettings} (Some one_step) (Some s) → one_step ≡ s
same_settings s is = cc

-- it is too early for that probe where nothing more is looked for
too_early : (z : Sizing) → z.size ≡ 1326 → sought one_step 1326 z.seeks ≡ None → z.seeks.rests ≡ 600040000000 → IsInTurn (Some one_step) z restless_sent → ⊥
too_early z size over rests turn =
    let same : one_step ≡ turn.settings = same_settings turn.settings turn.configured in
    let none : sought turn.settings z.size z.seeks ≡ None = ap (λ (s : SearchSettings). sought s z.size z.seeks) (sym same) ∙ ap (λ (n : ℕ). sought one_step n z.seeks) size ∙ over in
    let early : 600040000000 ≤ 41000000 = subst (λ (n : ℕ). n ≤ 41000000) rests (subst (λ (o : Option ℕ). GoesInTurn turn.settings z.size z.seeks o restless_sent) none turn.turn).0 in
    omega (arith, early)

pub goes_not : SearchesRest restless_run → ⊥
goes_not h = too_early (sizing restless_run Client 6) size_then over_then rests_then (h Client 6 41000000 gave_restless (lit≤ tt) refl restless_probe)

pub restless_is_none : (end : World) → IsRun restless_run end → ⊥
restless_is_none end run = goes_not (searches_rest restless_run end restless_is_honest run)
