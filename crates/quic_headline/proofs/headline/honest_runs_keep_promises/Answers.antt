-- All that a run of two honest ends keeps.
use Rattle.quic_headline.proofs.AckFrames.Clause.{acks_name_all}
use Rattle.quic_headline.proofs.AckFrames.Delays.{acks_say_delay}
use Rattle.quic_headline.proofs.AckFrames.Marked.{acks_count_marks}
use Rattle.quic_headline.proofs.AcksDue.Clause.{acks_are_due}
use Rattle.quic_headline.proofs.Allowed.Lacking.{lacks_where_taken}
use Rattle.quic_headline.proofs.Allowed.Over.{reads_are_over}
use Rattle.quic_headline.proofs.Allowed.Reads.{reads_are_allowed}
use Rattle.quic_headline.proofs.Allowed.Writes.{resets_are_allowed, writes_are_allowed}
use Rattle.quic_headline.proofs.Amounts.Blocked.{blocked_say}
use Rattle.quic_headline.proofs.Amounts.Clause.{writes_take_what_limits_allow}
use Rattle.quic_headline.proofs.Amounts.InOrder.{opens_in_order}
use Rattle.quic_headline.proofs.Amounts.Opening.{opening_is_exact}
use Rattle.quic_headline.proofs.Amounts.Buffers.{buffers_are_counted}
use Rattle.quic_headline.proofs.Amounts.Closed.{closed_take_nothing}
use Rattle.quic_headline.proofs.Amounts.Stopped.{stopped_only_where_asked, stopped_take_nothing}
use Rattle.quic_headline.proofs.Amounts.PeerLimits.{limits_are_the_peers}
use Rattle.quic_headline.proofs.AppLimited.Clause.{controllers_are_told}
use Rattle.quic_headline.proofs.Begins.Clause.{waiting_begins}
use Rattle.quic_headline.proofs.Causes.Applied.{application_closed}
use Rattle.quic_headline.proofs.Causes.Followed.{peer_closed}
use Rattle.quic_headline.proofs.Causes.Idled.{idle_expired}
use Rattle.quic_headline.proofs.Causes.Limited.{key_limited}
use Rattle.quic_headline.proofs.Causes.OnlyCloses.{closes_go_alone}
use Rattle.quic_headline.proofs.Causes.Owed.{closes_are_owed, drained_are_silent, owed_closes_go}
use Rattle.quic_headline.proofs.Causes.Pieces.{too_many_came}
use Rattle.quic_headline.proofs.Causes.Reasons.{closed_has_a_reason}
use Rattle.quic_headline.proofs.Causes.Refusals.{refusals_close}
use Rattle.quic_headline.proofs.Causes.Said.{closes_say_why, peer_closes_come}
use Rattle.quic_headline.proofs.Causes.Shut.{closes_for_application, closes_for_peer, idles_out}
use Rattle.quic_headline.proofs.Causes.Taken.{taken_exactly}
use Rattle.quic_headline.proofs.Causes.Unfailed.{never_fails}
use Rattle.quic_headline.proofs.Channel.Clauses.{no_blame, taken_or_too_many}
use Rattle.quic_headline.proofs.Channel.Codes.{resets_say, stops_say}
use Rattle.quic_headline.proofs.Channel.Unreset.{nothing_behind_resets}
use Rattle.quic_headline.proofs.Confirmed.Clause.{confirmation_is_told, done_is_exact}
use Rattle.quic_headline.proofs.Credit.Clause.{credit_is_bounded}
use Rattle.quic_headline.proofs.Credit.Counts.{counts_are_bounded}
use Rattle.quic_headline.proofs.Destined.Drawn.{ids_are_drawn}
use Rattle.quic_headline.proofs.Destined.InUse.{ids_are_in_use}
use Rattle.quic_headline.proofs.Duties.Clause.{duties_stand}
use Rattle.quic_headline.proofs.Events.Available.{available_is_told}
use Rattle.quic_headline.proofs.Events.Lost.{loss_is_told}
use Rattle.quic_headline.proofs.Events.Mail.{messages_are_told}
use Rattle.quic_headline.proofs.Events.Openings.{openings_are_told}
use Rattle.quic_headline.proofs.Events.Readables.{readables_are_told}
use Rattle.quic_headline.proofs.Events.Writables.{writables_are_told}
use Rattle.quic_headline.proofs.Halves.Nexts.{reads_answer}
use Rattle.quic_headline.proofs.Halves.Spelled.{streams_say}
use Rattle.quic_headline.proofs.Held.Clause.{polls_send_messages, polls_send_what_waits}
use Rattle.quic_headline.proofs.Held.Control.{control_goes, retirements_go}
use Rattle.quic_headline.proofs.Held.Limits.{limits_go}
use Rattle.quic_headline.proofs.Held.Threefold.{threefold}
use Rattle.quic_headline.proofs.Marking.Clause.{marks_go}
use Rattle.quic_headline.proofs.Messages.Let.{sends_are_let}
use Rattle.quic_headline.proofs.Messages.Lists.{messages_go}
use Rattle.quic_headline.proofs.Messages.Order.{messages_go_in_order}
use Rattle.quic_headline.proofs.Messages.Inbox.{receives_oldest}
use Rattle.quic_headline.proofs.Moves.Changes.{path_changes_exactly}
use Rattle.quic_headline.proofs.Moves.Clause.{drops_other_addresses, goes_to_path}
use Rattle.quic_headline.proofs.NextIds.Clause.{no_id_is_exact, too_many_is_exact}
use Rattle.quic_headline.proofs.NextIds.Stays.{stays_for_a_reason}
use Rattle.quic_headline.proofs.Packets.Quiet.{heard_nothing}
use Rattle.quic_headline.proofs.Places.Drawn.{numbers_are_drawn}
use Rattle.quic_headline.proofs.Places.Theorems.{accepted_were_opened, accepts_all, ack_moments, acknowledged_were_taken, asking_goes_where_let, blocked_only_without_bytes, datagrams_are_sized, end_after_all, finished_means_arrived, grown_limits_wait, ids_are_issued, ids_are_new, keys_last, loss_moments, loss_timer_quiet, messages_at_most_once, names_were_taken, newest_opens, newest_opens_at_end, number_limit, numbers_rise, once, opens_exactly, ordered_prefix, pacer_sets_its_timer, resets_are_told, size_is_of_history, sizes_move, slices, told_ids_are_known, tracks_in_flight, unknown_only_where_retired, window_is_of_history}
use Rattle.quic_headline.proofs.Requests.Clause.{requests_say}
use Rattle.quic_headline.proofs.Responses.Clause.{challenges_answered, path_frames_fill, responses_answer}
use Rattle.quic_headline.proofs.Rest.Delivered.{delivered_at_rest, done_at_rest}
use Rattle.quic_headline.proofs.Rest.Control.{resets_at_rest, stops_at_rest, retirements_at_rest, limits_at_rest, stream_limits_at_rest}
use Rattle.quic_headline.proofs.Rest.Owed.{nothing_owed_at_rest}
use Rattle.quic_headline.proofs.Settled.Clause.{finished_is_told}
use Rattle.quic_headline.proofs.Sizes.Follows.{searches_rest, sizes_follow}
use Rattle.quic_headline.proofs.Spread.Clause.{pacer_is_of_history}
use Rattle.quic_headline.proofs.Spread.Hastens.{probes_hasten}
use Rattle.quic_headline.proofs.Spread.PingsGo.{pings_go}
use Rattle.quic_headline.proofs.Spread.RequestsGo.{requests_go}
use Rattle.quic_headline.proofs.Tellings.Reno.{reno_windows}
use Rattle.quic_headline.proofs.Steps.Passing.{probes_pass}
use Rattle.quic_headline.proofs.Timers.AliveMoments.{alive_moments}
use Rattle.quic_headline.proofs.Timers.CloseMoments.{close_moments, drains_in_time}
use Rattle.quic_headline.proofs.Timers.Closed.{close_moments_stay, closed_timers}
use Rattle.quic_headline.proofs.Timers.IdleMoments.{idle_moments}
use Rattle.quic_headline.proofs.Timers.PathMoments.{path_moments}
use Rattle.quic_headline.proofs.Timers.Shown.{views_tell}
use Rattle.quic_headline.proofs.Unread.Clause.{blocked_only_for_unread}
use Rattle.quic_headline.proofs.Unread.Heeded.{resets_are_heeded}
use Rattle.quic_headline.proofs.Unread.OpeningClause.{none_opened_only_for_undone}
use Rattle.quic_headline.proofs.Validated.Clause.{answers_validate, validated_by_answer}
use Rattle.quic_headline.proofs.Validated.Goes.{challenges_go}
use Rattle.quic_headline.proofs.Validated.Own.{challenges_are_own}
use Rattle.quic_headline.proofs.Waited.Clause.{each_waited}
use Rattle.quic_headline.proofs.Waited.Timers.{ack_timers_are_set}
use Rattle.quic_headline.proofs.headline.honest_runs_keep_promises.Goals as goal

pub returns : goal.returns
returns c = λ r end honest is. (let heard = heard_nothing r honest in record {
  delivers = record {
    ordered_prefix = ordered_prefix r end honest is;
    slices = slices r end honest is;
    once = once r end honest is;
    reads_answer = reads_answer r end honest is;
    end_after_all = end_after_all r end honest is;
    blocked_only_without_bytes = blocked_only_without_bytes r end honest is;
    resets_are_told = resets_are_told r end honest is;
    resets_are_heeded = resets_are_heeded r end honest is;
    finished_means_arrived = finished_means_arrived r end honest is;
    finished_is_told = finished_is_told r end honest is;
  };
  streams = record {
    accepts_all = accepts_all r end honest is;
    ids_are_new = ids_are_new r end honest is;
    opens_in_order = opens_in_order r end honest is;
    accepted_were_opened = accepted_were_opened r end honest is;
    reads_are_allowed = reads_are_allowed r end honest is;
    reads_are_over = reads_are_over r end honest is;
    writes_are_allowed = writes_are_allowed r end honest is;
    stopped_take_nothing = stopped_take_nothing r end honest is;
    stopped_only_where_asked = stopped_only_where_asked r end honest is;
    closed_take_nothing = closed_take_nothing r end honest is;
    resets_are_allowed = resets_are_allowed r end honest is;
  };
  limits = record {
    limits_are_the_peers = limits_are_the_peers r end honest is;
    opening_is_exact = opening_is_exact r end honest is;
    writes_take_what_limits_allow = writes_take_what_limits_allow r end honest is;
    buffers_are_counted = buffers_are_counted r end honest is;
    blocked_say = blocked_say r end honest is;
    grown_limits_wait = grown_limits_wait r end honest is;
    credit_is_bounded = credit_is_bounded r end honest is;
    counts_are_bounded = counts_are_bounded r end honest is;
  };
  waits = record {
    duties_stand = duties_stand r end honest is;
    polls_send_what_waits = polls_send_what_waits r end honest is heard;
    each_waited = each_waited r end honest is;
    pings_go = pings_go r end honest is;
    control_goes = control_goes r end honest is;
    retirements_go = retirements_go r end honest is;
    limits_go = limits_go r end honest is;
    waiting_begins = waiting_begins r end honest is;
    streams_say = streams_say r end honest is;
    stops_say = stops_say r end honest is;
    resets_say = resets_say r end honest is;
    nothing_behind_resets = nothing_behind_resets r end honest is;
  };
  messages = record {
    messages_at_most_once = messages_at_most_once r end honest is;
    sends_are_let = sends_are_let r end honest is;
    receives_oldest = receives_oldest r end honest is;
    polls_send_messages = polls_send_messages r end honest is heard;
    messages_go = messages_go r end honest is heard;
    messages_go_in_order = messages_go_in_order r end honest is;
  };
  tells = record {
    messages_are_told = messages_are_told r end honest is;
    openings_are_told = openings_are_told r end honest is;
    readables_are_told = readables_are_told r end honest is;
    writables_are_told = writables_are_told r end honest is;
    available_is_told = available_is_told r end honest is;
    loss_is_told = loss_is_told r end honest is;
    done_is_exact = done_is_exact r end honest is;
    confirmation_is_told = confirmation_is_told r end honest is;
    views_tell = views_tell r end honest is;
  };
  acknowledges = record {
    acknowledged_were_taken = acknowledged_were_taken r end honest is;
    names_were_taken = names_were_taken r end honest is;
    acks_name_all = acks_name_all r end honest is;
    acks_count_marks = acks_count_marks r end honest is;
    acks_say_delay = acks_say_delay r end honest is;
    acks_are_due = acks_are_due r end honest is heard;
    ack_moments = ack_moments r end honest is;
    ack_timers_are_set = ack_timers_are_set r end honest is;
    requests_say = requests_say r end honest is;
    requests_go = requests_go r end honest is;
  };
  loses = record {
    tracks_in_flight = tracks_in_flight r end honest is;
    loss_moments = loss_moments r end honest is;
    loss_timer_quiet = loss_timer_quiet r end honest is;
    probes_pass = probes_pass r end honest is heard;
    probes_hasten = probes_hasten r end honest is;
    marks_go = marks_go r end honest is;
    controllers_are_told = controllers_are_told r end honest is heard;
    reno_windows = reno_windows r (controllers_are_told r end honest is heard);
    window_is_of_history = window_is_of_history r end honest is;
  };
  paces = record {
    pacer_sets_its_timer = pacer_sets_its_timer r end honest is;
    asking_goes_where_let = asking_goes_where_let r end honest is;
    pacer_is_of_history = pacer_is_of_history r end honest is heard;
  };
  sizes = record {
    datagrams_are_sized = datagrams_are_sized r end honest is;
    size_is_of_history = size_is_of_history r end honest is;
    sizes_move = sizes_move r end honest is;
    sizes_follow = sizes_follow r end honest is;
    searches_rest = searches_rest r end honest is;
  };
  numbers = record {
    numbers_rise = numbers_rise r end honest is;
    numbers_are_drawn = numbers_are_drawn r end honest is;
    opens_exactly = opens_exactly r end honest is;
    newest_opens = newest_opens r end honest is;
    newest_opens_at_end = newest_opens_at_end r end honest is;
  };
  identifies = record {
    ids_are_issued = ids_are_issued r end honest is;
    ids_are_in_use = ids_are_in_use r end honest is;
    unknown_only_where_retired = unknown_only_where_retired r end honest is;
    told_ids_are_known = told_ids_are_known r end honest is;
    no_id_is_exact = no_id_is_exact r end honest is;
    too_many_is_exact = too_many_is_exact r end honest is;
    stays_for_a_reason = stays_for_a_reason r end honest is;
    ids_are_drawn = ids_are_drawn r end honest is;
  };
  validates = record {
    threefold = threefold r end honest is;
    challenges_are_own = challenges_are_own r end honest is;
    challenges_go = challenges_go r end honest is;
    validated_by_answer = validated_by_answer r end honest is;
    answers_validate = answers_validate r end honest is;
    responses_answer = responses_answer r end honest is;
    challenges_answered = challenges_answered r end honest is;
    path_frames_fill = path_frames_fill r end honest is;
    goes_to_path = goes_to_path r end honest is;
    path_changes_exactly = path_changes_exactly r end honest is;
    drops_other_addresses = drops_other_addresses r end honest is;
  };
  causes = record {
    no_blame = no_blame r end honest is;
    taken_or_too_many = taken_or_too_many r end honest is;
    taken_exactly = taken_exactly r end honest is;
    too_many_pieces = too_many_came r end honest is;
    closed_has_a_reason = closed_has_a_reason r end honest is;
    never_fails = never_fails r end honest is;
    lacks_where_taken = lacks_where_taken r end honest is;
    application_closed = application_closed r end honest is;
    peer_closed = peer_closed r end honest is;
    idle_expired = idle_expired r end honest is;
    number_limit = number_limit r end honest is;
    key_limited = key_limited r end honest is;
    keys_last = keys_last r end honest is;
    idles_out = idles_out r end honest is;
    closes_for_peer = closes_for_peer r end honest is;
    closes_for_application = closes_for_application r end honest is;
    refusals_close = refusals_close r end honest is;
  };
  closes = record {
    closes_say_why = closes_say_why r end honest is;
    closes_go_alone = closes_go_alone r end honest is;
    peer_closes_come = peer_closes_come r end honest is;
    closes_are_owed = closes_are_owed r end honest is;
    owed_closes_go = owed_closes_go r end honest is;
    drained_are_silent = drained_are_silent r end honest is;
  };
  times = record {
    idle_moments = idle_moments r end honest is;
    alive_moments = alive_moments r end honest is;
    path_moments = path_moments r end honest is;
    closed_timers = closed_timers r end honest is;
    close_moments = close_moments r end honest is;
    close_moments_stay = close_moments_stay r end honest is;
    drains_in_time = drains_in_time r end honest is;
  };
  rests = record {
    delivered_at_rest = delivered_at_rest r end honest is;
    done_at_rest = done_at_rest r end honest is;
    resets_at_rest = resets_at_rest r end honest is;
    stops_at_rest = stops_at_rest r end honest is;
    retirements_at_rest = retirements_at_rest r end honest is;
    limits_at_rest = limits_at_rest r end honest is;
    stream_limits_at_rest = stream_limits_at_rest r end honest is;
    nothing_owed_at_rest = nothing_owed_at_rest r end honest is;
    blocked_only_for_unread = blocked_only_for_unread r end honest is;
    none_opened_only_for_undone = none_opened_only_for_undone r end honest is;
  };
})
