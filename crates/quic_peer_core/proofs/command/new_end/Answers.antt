use Rattle.std.proofs.lemmas.Result.{err_from_is_err_and}
use Rattle.quic_lines.specs.Language.{words_left}
use Rattle.quic_peer_core.proofs.Saying.{read_is, new-read, third-bad, fourth-bad, last-bad}
use Rattle.quic_peer_core.proofs.command.new_end.Goals as goal

pub returns-in_err-id-2 : goal.returns-in_err-id-2
returns-in_err-id-2 c =
    let p = err_from_is_err_and c.from_residual-in_err-id-2.result c.from_residual-in_err-id-2.ensures.1 in
    rw (p.1, p.2) (third-bad (words_left c.args.words.now.rest) _ _ (rw (c.id.ensures.rest, c.end.ensures.rest) at c.in_err-id-2.ensures.answer))

pub returns-in_err-moment : goal.returns-in_err-moment
returns-in_err-moment c =
    let p = err_from_is_err_and c.from_residual-in_err-moment.result c.from_residual-in_err-moment.ensures.1 in
    rw (p.1, p.2) (fourth-bad (words_left c.args.words.now.rest) _ _ (rw (c.id-2.ensures.rest, c.id.ensures.rest, c.end.ensures.rest) at c.in_err-moment.ensures.answer))

pub returns-in_err-bytes : goal.returns-in_err-bytes
returns-in_err-bytes c =
    let p = err_from_is_err_and c.from_residual-in_err-bytes.result c.from_residual-in_err-bytes.ensures.1 in
    rw (p.1, p.2) (last-bad (words_left c.args.words.now.rest) _ _ (rw (c.moment.ensures.rest, c.id-2.ensures.rest, c.id.ensures.rest, c.end.ensures.rest) at c.in_err-bytes.ensures.answer))

pub returns : goal.returns
returns c =
    let side = read_is _ _ c.in_ok-end.ensures.answer in
    let id = rw c.end.ensures.rest at c.in_ok-id.ensures.answer in
    let peer_id = rw (c.id.ensures.rest, c.end.ensures.rest) at c.in_ok-id-2.ensures.answer in
    let moment = rw (c.id-2.ensures.rest, c.id.ensures.rest, c.end.ensures.rest) at (read_is _ _ c.in_ok-moment.ensures.answer) in
    let bytes = rw (c.moment.ensures.rest, c.id-2.ensures.rest, c.id.ensures.rest, c.end.ensures.rest) at c.in_ok-bytes.ensures.answer in
    rw (c.bytes.ensures.rest, c.moment.ensures.rest, c.id-2.ensures.rest, c.id.ensures.rest, c.end.ensures.rest) (new-read (words_left c.args.words.now.rest) _ _ _ _ _ side id peer_id moment bytes)
