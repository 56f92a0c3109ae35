use Rattle.std.proofs.Common.{rules, ◌≡◌, ◌≢◌, ◌+◌, ◌∷◌, [], ◌++◌, take, get_or, Err, arith}
use Rattle.std.proofs.lemmas.List.{take_more}
use Rattle.quic_streams_parts.specs.declared.answers.ReadError.TheVariants as read_errors
use Rattle.quic_streams_state.specs.Reading.{next_answer}
use Rattle.quic_streams_handles.specs.Told.{told_of}
use Rattle.quic_machine.specs.Calls.{after_nexts}
use Rattle.quic_machine.specs.Lacking.{NextLacks}
use Rattle.quic_connection.proofs.ReadAnswers.{told_after, told_one_more, after_one_more, nexts_one_more, lacks_one_more, or_memory}
use Rattle.quic_connection.proofs.on_streams.read_each.Goals as goal

pub loop-max_length-preserved : goal.loop-max_length-preserved
loop-max_length-preserved c =
    let inv = c.loop-max_length.invariant in
    let id = c.args.chunks.now.id in
    let nexts = c.args.nexts.now in
    let index = c.loop-max_length.max_length-index in
    let first = c.args.chunks.now.streams.now.state in
    let told = told_of c.args.chunks.now.told in
    let items = c.loop-max_length.items.items in
    let most = get_or nexts index 0 in
    let answer = c.next.result in
    let more : take (index + 1) nexts ≡ take index nexts ++ most ∷ [] = take_more nexts index 0 (omega arith) in
    let next : answer ≢ Err read_errors.Memory → answer ≡ next_answer (told_after told items) (after_nexts told first id (take index nexts) items) id most = rw (inv.told, inv.state, inv.same_stream) at c.next.ensures.answer in
    let lacks : answer ≡ Err read_errors.Memory → NextLacks (told_after told items) (after_nexts told first id (take index nexts) items) id most = rw (inv.told, inv.state, inv.same_stream) at c.next.ensures.lacking in
    record {
      same_reference = search rules;
      same_stream = search rules;
      same_new = search rules;
      room = search rules;
      count = search rules;
      answers = rw (more, c.push_reserved.ensures.items) (nexts_one_more told first id (take index nexts) items most answer inv.answers (or_memory _ answer next));
      lacking = rw (more, c.push_reserved.ensures.items) (lacks_one_more told first id (take index nexts) items most answer inv.answers inv.lacking lacks);
      told = rw (c.push_reserved.ensures.items, told_one_more told items answer) (rw inv.told at c.next.ensures.told);
      state = rw (more, c.push_reserved.ensures.items, after_one_more told first id (take index nexts) items most answer inv.answers) (rw (inv.told, inv.state, inv.same_stream) at c.next.ensures.state);
      pending = search rules;
    }
