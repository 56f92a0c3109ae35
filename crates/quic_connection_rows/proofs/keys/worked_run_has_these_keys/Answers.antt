use Rattle.std.proofs.Common.{◌-◌, ap, sym}
use Rattle.std.specs.Prelude.{replicate}
use Rattle.rand_core.specs.Stream.{u64_call}
use Rattle.quic_machine.specs.End.{words_drawn}
use Rattle.quic_machine.specs.Policy.{keys_policy}
use Rattle.quic_keys.specs.Plain.{plain_protection, plain_aead}
use Rattle.quic_connection_rows.proofs.keys.worked_run_has_these_keys.Goals as goal

pub returns-clause-client : goal.returns-clause-client
returns-clause-client c = λ w keys gives. record {
  keys = ap (λ ks. keys_policy (λ _. plain_protection) (λ k. plain_aead k.mark) (λ k. k.confidentiality_limit) (λ k. k.integrity_limit) ks (λ n. 63)) (sym keys);
  words = λ o n h. sym (gives (replicate (n - words_drawn w.end) u64_call));
}

pub returns-clause-server : goal.returns-clause-server
returns-clause-server c = λ w keys gives. record {
  keys = ap (λ ks. keys_policy (λ _. plain_protection) (λ k. plain_aead k.mark) (λ k. k.confidentiality_limit) (λ k. k.integrity_limit) ks (λ n. 63)) (sym keys);
  words = λ o n h. sym (gives (replicate (n - words_drawn w.end) u64_call));
}
