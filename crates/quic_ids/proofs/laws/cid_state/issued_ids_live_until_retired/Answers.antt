use Rattle.quic_ids.proofs.OwnIdLaws.{first_live, issued_live, retired_live, expired_live}
use Rattle.quic_ids.proofs.laws.cid_state.issued_ids_live_until_retired.Goals as goal

pub returns-clause-first : goal.returns-clause-first
returns-clause-first c = λ id_len lifetime now issued. first_live id_len lifetime now issued

pub returns-clause-issued : goal.returns-clause-issued
returns-clause-issued c = λ s retired ids now h numbers fits. issued_live s retired ids now h numbers fits

pub returns-clause-retired : goal.returns-clause-retired
returns-clause-retired c = λ s retired n h right. retired_live s retired n h right

pub returns-clause-expired : goal.returns-clause-expired
returns-clause-expired c = λ s retired h. expired_live s retired h
