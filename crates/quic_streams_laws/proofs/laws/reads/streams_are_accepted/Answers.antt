use Rattle.std.proofs.Common.{[], ◌++◌, sym, subst}
use Rattle.std.specs.Prelude.{Contains}
use Rattle.std.specs.Option.{option_to_list}
use Rattle.std.proofs.lemmas.List.Elements.{Contains-append_left, Contains-push}
use Rattle.quic_streams_state.specs.Opening.{accept_answer}
use Rattle.quic_streams_laws.specs.AcceptedLaws.{accepted_new, accepted_set_params, accepted_accept, accepted_kept, all_accepted, taken_opened}
use Rattle.quic_streams_laws.specs.ContentLaws.{by_next_answer}
use Rattle.quic_streams_laws.specs.KeepingLaws.{by_stream, by_reset_frame, by_read_begun, by_next, by_stop, by_received_reset}
use Rattle.quic_streams_laws.specs.Accepted.{HoldsAccepted}
use Rattle.quic_streams_laws.proofs.laws.reads.streams_are_accepted.Goals as goal

pub returns-clause-new : goal.returns-clause-new
returns-clause-new c = λ side uni bi send_window window stream_window. accepted_new (λ id. Contains [] id) side uni bi send_window window stream_window

pub returns-clause-accept : goal.returns-clause-accept
returns-clause-accept c = λ accepted dir s i. accepted_accept (λ id. Contains accepted id) (λ id. Contains (accepted ++ option_to_list (accept_answer dir s)) id) dir s (λ id t. Contains-append_left accepted (option_to_list (accept_answer dir s)) id t) (λ id e. subst (λ o. Contains (accepted ++ option_to_list o) id) (sym e) (Contains-push accepted id)) i

pub returns-clause-all : goal.returns-clause-all
returns-clause-all c = λ accepted dir s id none kind not_own opened i. all_accepted (λ id. Contains accepted id) dir s id none kind not_own opened i

pub returns-clause-opened : goal.returns-clause-opened
returns-clause-opened c = λ taken s f t k. taken_opened (λ f. Contains taken f) s f t k

pub returns-clause-stream : goal.returns-clause-stream
returns-clause-stream c = λ accepted s p f i. by_stream (HoldsAccepted (λ id. Contains accepted id)) (accepted_kept (λ id. Contains accepted id)) s p f (λ h e u. tt) i

pub returns-clause-reset_stream : goal.returns-clause-reset_stream
returns-clause-reset_stream c = λ accepted s p f i. by_reset_frame (HoldsAccepted (λ id. Contains accepted id)) (accepted_kept (λ id. Contains accepted id)) s p f (λ h e u. tt) i

pub returns-clause-begun : goal.returns-clause-begun
returns-clause-begun c = λ accepted s id ordered i. by_read_begun (HoldsAccepted (λ id. Contains accepted id)) (accepted_kept (λ id. Contains accepted id)) s id ordered (λ h e. tt) i

pub returns-clause-next : goal.returns-clause-next
returns-clause-next c = λ accepted told s id most answer is i. by_next_answer (HoldsAccepted (λ id. Contains accepted id)) told s id most answer is (by_next (HoldsAccepted (λ id. Contains accepted id)) (accepted_kept (λ id. Contains accepted id)) told s id most (λ h c e f. tt) i) i

pub returns-clause-stop : goal.returns-clause-stop
returns-clause-stop c = λ accepted s p id code i. by_stop (HoldsAccepted (λ id. Contains accepted id)) (accepted_kept (λ id. Contains accepted id)) s p id code (λ h e. tt) i

pub returns-clause-received_reset : goal.returns-clause-received_reset
returns-clause-received_reset c = λ accepted s p id i. by_received_reset (HoldsAccepted (λ id. Contains accepted id)) (accepted_kept (λ id. Contains accepted id)) s p id i

pub returns-clause-limits : goal.returns-clause-limits
returns-clause-limits c = λ accepted s p i. accepted_set_params (λ id. Contains accepted id) s p i
